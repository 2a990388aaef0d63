-- A variable is used: what became of it, and the list of refused uses.
use mathlib.Core.Path.{◌≡◌, refl, sym, ap, subst, ◌∙◌}
use mathlib.Core.List.{List, [], ◌∷◌, ◌++◌}
use mathlib.Core.Option.{Option, none, some}
use Prim.Native.Nat.{ℕ, ◌+◌, ◌≤◌, ◌<◌}
use native.Mathlib.Omega.{arith}
use lib.ListN.{get_or}
use borrow.Rule.Slice.PartMut.{put_mid}
use Rattle.std.specs.Prelude as Rust
use Rattle.std.specs.Prelude.{Ok, Err, Some, None}
use Rattle.penne.specs.Tree.{Spot, Ident, poison, Maybe, ok, err}
use Rattle.penne.specs.Find.{first_named, resolved}
use Rattle.penne.specs.Read.{poison_fields}
use Rattle.penne.specs.Write.{poison_b}
use Rattle.penne.specs.State.{ret}
use Rattle.penne.specs.Pruning.{Pruning, pruned, poisoned, standing, fate, poison_variable, list_skip, offsets}
use Rattle.penne.specs.Pruning as R
use Rattle.penne.specs.Scopes.{Analyzer, with_prunings, variables, undefined, use_containee, use_as, may_be_skipped, use_variable_by, use_variable_at, use_variable}
use Rattle.penne.specs.Scoper.{words}
use Rattle.fields.specs.declared.field.Identifier.{Identifier}
use Rattle.fields.specs.Answers.{ident_of, poison_names, poison_places}
use Rattle.answer.specs.declared.wrote.Wrote.{Wrote}
use Rattle.answer.specs.Out.{Put, Said}
use Rattle.answer.proofs.Said.{said_put}
use Rattle.answer.proofs.Fields.{poison_bytes}
use Rattle.scopes.specs.declared.scope.Local.{Local}
use Rattle.scopes.specs.declared.pruning.Fate.{Fate}
use Rattle.scopes.specs.declared.pruning.Fate.TheVariants as K
use Rattle.scopes.specs.Jumps as J
use Rattle.scopes.specs.Table.{Nth, Label, Tells}
use Rattle.scopes.proofs.Lists.{nth_low}
use Rattle.scopes.proofs.Analyzing.{mirrors_poison, mirrors_skip, named_constant, named_local, found_none, found_at, told_standing, told_poisoned, told_pruned}
use Rattle.containers.specs.Table.{at, id_at}
use Rattle.containers.specs.Calls.{found_in}
use Rattle.penne.specs.Containers.{id_of}
use Rattle.walk.specs.declared.state.Walk.{Walk}
use Rattle.walk.specs.declared.fault.Fault.{Fault}
use Rattle.walk.specs.declared.fault.Fault.TheVariants as F
use Rattle.walk.specs.Walking.{with_listed, here, scopes_in, Tables, Good, Stands, silently, fault_b, Made, made_as, made_not, Uses, UsesListed, Used}
use Rattle.walk.specs.Calls.{FindsIn, FindsLocal, LocalOf, Became, UsesRow, use_row, UsesLocal, ListsSkip, skipped_fault, MayBeSkipped, PoisonsLocal}
use Rattle.walk.proofs.Early.{early_skip, early_poison}
use Rattle.walk.proofs.Tables.{part_word, scopes_changed, state_changed, marks_kept, lower_scopes}
use Rattle.walk.proofs.Scoping.{scopes_room}
use Rattle.walk.proofs.Faults.{undefined_bytes, poisoned_bytes, one_name, their_places}
use Rattle.walk.proofs.Using.{Keeps, as_ids, uses_by, uses_ret, found_constant, no_constant}
use Rattle.walk.proofs.Edging.{whose_none}

-- a use that is not listed, among those that are
pub unlisted : {s : Walk} {i : Identifier} {from : ℕ} {l w w' : List ℕ} {u : Used} → Uses use_variable s i w u w' → UsesListed use_variable s i from l w s u l w'
unlisted {from = from} {l} k = record { does = λ h o a z. let b = k.does from o l a z in record { cur = refl; is = b.is; made = b.made } }

-- A USE TAKES NO ID

by_ids : (i j : Ident Spot) (f : R.Fate Spot) (a : Analyzer Spot) → (use_variable_by i j f a).1.resolution_id ≡ a.resolution_id
unfolding use_variable_by with_prunings
by_ids i j (pruned c) a = refl
by_ids i j poisoned a = refl
by_ids i j standing a = as_ids i j a

at_ids : (i : Ident Spot) (o : Option (Ident Spot)) (a : Analyzer Spot) → (use_variable_at i o a).1.resolution_id ≡ a.resolution_id
unfolding use_variable_at ret
at_ids i none a = refl
at_ids i (some j) a = by_ids i j _ a

variable_keeps : Keeps use_variable
unfolding use_variable
variable_keeps = record { ids = λ x a. at_ids x _ a }

-- by what the search found, and what became of it
variable_none : (x : Ident Spot) (a : Analyzer Spot) → first_named x.name (variables a) ≡ none → use_variable x a ≡ (undefined 9 x, a)
unfolding use_variable use_variable_at ret
variable_none x a e = ap (λ (o : Option (Ident Spot)). use_variable_at x o a) e

variable_by : (x j : Ident Spot) (a : Analyzer Spot) {f : R.Fate Spot} → first_named x.name (variables a) ≡ some j → fate j.id a.prunings ≡ f → use_variable x a ≡ use_variable_by x j f a
unfolding use_variable use_variable_at
variable_by x j a e q = ap (λ (o : Option (Ident Spot)). use_variable_at x o a) e ∙ ap (λ (f : R.Fate Spot). use_variable_by x j f a) q

-- A CONSTANT: nothing ever becomes of it

pub use_the_variable : {s : Walk} {i : Identifier} {w : List ℕ} {r : Rust.Option ℕ} {row : ℕ} {u : Used} {w' : List ℕ} → FindsIn s.script 0 i.name w r → r ≡ Some row → UsesRow s i row w u w' → Uses use_variable s i w u w'
unfolding found_in use_row use_variable_by id_at id_of
use_the_variable {s} {i} {row = row} f e k = uses_by use_variable variable_keeps (use_row row) (λ from a t.
    let j = (at a.containment.containers row).identifier in
    variable_by (ident_of from i) j a (named_constant a i.name j (sym (found_constant s i.name f a t) ∙ ap (found_in a.containment.containers) e))
    (t.early.untouched j.id (t.early.containers row (f.below row e)))) (k.does (f.below row e))

-- no constant
pub variable_local : {s : Walk} {i : Identifier} {from : ℕ} {l w l' w' : List ℕ} {r : Rust.Option ℕ} {r' : Walk} {u : Used} → FindsIn s.script 0 i.name w r → r ≡ None → UsesLocal s i from l w r' u l' w' → UsesListed use_variable s i from l w r' u l' w'
variable_local {s} {i} {w = w} f e k = k.does (subst (λ (x : Rust.Option ℕ). FindsIn s.script 0 i.name w x) e f)

-- THE LIST: one record more is two words more

words_more : (rs : List (Spot × Spot)) (p q : Spot) → words (offsets rs) ++ (p.from ∷ q.from ∷ []) ≡ words (offsets (rs ++ ((p, q) ∷ [])))
unfolding words offsets
words_more [] p q = refl
words_more (r ∷ rs) p q = ap (λ (l : List ℕ). r.0.from ∷ r.1.from ∷ l) (words_more rs p q)

-- kind 13
skipped_bytes : (i : Identifier) (from : ℕ) (j : Ident Spot) (c : Pruning Spot)
    → fault_b (F.VariableDeclarationMayBeSkipped i.name c.label.name i.place j.place.number c.location_of_goto.number c.label.place.number) ≡ poison_b (may_be_skipped (ident_of from i) j c)
unfolding may_be_skipped poison_names poison_places poison_fields
skipped_bytes i from j c = poison_bytes 13 (i.name ∷ c.label.name ∷ []) ((ident_of from i).place ∷ j.place ∷ c.location_of_goto ∷ c.label.place ∷ []) [] [] refl refl

-- LOCALS

-- the local k of that name, its words, and its fate
record Its (n k : ℕ) (w : List ℕ) (d : Local) (b : Fate) (a : Analyzer Spot) : Type 0 where
  local : Ident Spot
  row : Nth k local a.variable_stack.locals
  named : first_named n (variables a) ≡ some local
  place : d.place ≡ local.place.number
  from : d.from ≡ local.place.from
  id : d.id ≡ local.id
  fated : Tells (scopes_in w) b (fate local.id a.prunings)

module _ (s : Walk) (i : Identifier) {w : List ℕ} {r : Rust.Option ℕ} (g : FindsLocal s i.name w r) where
  -- no variable of the name
  pub use_no_variable : {from : ℕ} {l : List ℕ} → r ≡ None → UsesLocal s i from l w s (Err (F.UndefinedVariable i.name i.place)) l w
  unfolding undefined
  use_no_variable e = record {
    does = λ f. unlisted (uses_ret use_variable variable_keeps λ from a t. (
      undefined 9 (ident_of from i),
      variable_none (ident_of from i) a (named_local a i.name (sym (no_constant s i.name f refl a t)) ∙ found_none ((g.searches t.long).finds t.scopes.holds) e),
      made_not (undefined_bytes 9 i from one_name.0 their_places.0),
    ));
  }

  module _ {k : ℕ} (e : r ≡ Some k) {d : Local} (q : LocalOf k w d) {b : Fate} (h : Became k w b) where
    its : FindsIn s.script 0 i.name w None → (a : Analyzer Spot) → Tables s.tables s.script s.counts w a → Its i.name k w d b a
    its f a t =
        let (j, n, z) = found_at ((g.searches t.long).finds t.scopes.holds) e in
        let st = (q.tells t.long).stands t.scopes.holds n in
        record { local = j; row = n; named = named_local a i.name (sym (no_constant s i.name f refl a t)) ∙ z; place = st.place; from = st.from; id = st.id; fated = (h.tells t.long).tells t.scopes.holds n }

    -- it stands: as there is a local, it is in no constant's value
    pub use_standing : {from : ℕ} {l : List ℕ} → b ≡ K.Standing → UsesLocal s i from l w s (Ok (record { name = i.name; place = i.place; id = d.id; authority = 0 })) l w
    unfolding use_variable_by use_as use_containee ret resolved
    use_standing z = record {
      does = λ f. unlisted (uses_ret use_variable variable_keeps λ from a t.
          let x = ident_of from i in
          let j = its f a t in
          let low = nth_low j.row in
          let no : s.tables.constant ≡ None = outside s.tables.constant t.bare low in (
            ok (resolved x j.local.id 0),
            variable_by x j.local a j.named (told_standing j.fated z) ∙ ap (λ (o : Option (Ident Spot)). use_containee (resolved x j.local.id 0) o a) (whose_none t.whose no),
            subst (λ (n : ℕ). Made from (Ok (record { name = i.name; place = i.place; id = d.id; authority = 0 })) (ok (resolved x n 0))) j.id made_as,
          ));
    }
      where
        outside : (c : Rust.Option ℕ) {n m : ℕ} → ((r : ℕ) → c ≡ Some r → n ≡ 0) → m < n → c ≡ None
        outside None b h = refl
        outside (Some r) b h = absurd (let y = b r refl in omega arith)

    -- it was poisoned
    pub use_poisoned : {from : ℕ} {l : List ℕ} {r' : Walk} {l' : List ℕ} → b ≡ K.Poisoned → ListsSkip s from d l r' l' → UsesLocal s i from l w r' (Err F.Poisoned) l' w
    unfolding use_variable_by with_prunings list_skip
    use_poisoned {from} {l} {r'} {l'} z k = record {
      does = λ f. record {
        does = λ far o a y.
            let x = ident_of from i in
            let good : Good (silently use_variable x a) → Good a = λ v. let m = variable_keeps.ids x a.st in record { few = omega (arith, v.few); fit = v.fit } in
            let does : (t : Tables s.tables s.script s.counts w a.st) → use_variable x a.st ≡ (err (poison 0 [] []), with_prunings a.st (list_skip x (its f a.st t).local a.st.prunings)) = λ t. let j = its f a.st t in variable_by x j.local a.st j.named (told_poisoned j.fated z) in
            record {
              cur = ap here (k.is far);
              is = record {
                when = λ v.
                    let c = y.when (good v) in
                    let t = c.tables in
                    let j = its f a.st t in
                    subst (λ (m : Maybe Spot (Ident Spot) × Analyzer Spot). Stands r' o l' w (record { out = a.out; st = m.1; rest = a.rest })) (sym (does t))
                    (subst (λ (m : Walk). Stands m o l' w (record { out = a.out; st = with_prunings a.st (list_skip x j.local a.st.prunings); rest = a.rest })) (sym (k.is far)) (record {
                      script = c.script;
                      put = c.put;
                      skip = more far x j.local a.st j.from c.skip;
                      tables = state_changed t (with_prunings a.st (list_skip x j.local a.st.prunings)) (mirrors_skip t.scopes x j.local) refl refl refl t.next (omega arith) refl t.entries (early_skip t.early x j.local) (λ _ _ n. n);
                      marks = c.marks;
                    }));
              };
              made = λ v. subst (λ (m : Maybe Spot (Ident Spot) × Analyzer Spot). Made from (Err F.Poisoned) m.0) (sym (does (y.when (good v)).tables)) (made_not poisoned_bytes);
            };
      };
    }
      where
        more : (far : from ≤ 65535) (x j : Ident Spot) (a : Analyzer Spot) {slots : ℕ} → d.from ≡ j.place.from → Said s.listed l (words (offsets a.prunings.skips)) slots → Said k.to l' (words (offsets (list_skip (ident_of from i) j a.prunings).skips)) slots
        more far x j a {slots} e u = subst (λ (xs : List ℕ). Said k.to l' xs slots) (ap (λ (n : ℕ). words (offsets a.prunings.skips) ++ (from ∷ n ∷ [])) e ∙ words_more a.prunings.skips (ident_of from i).place j.place) (said_put u (k.put far))

    -- it was pruned: it is poisoned from now on
    pub use_pruned : {from : ℕ} {l : List ℕ} {r' : Walk} {l' w' : List ℕ} {label goto : ℕ} {v : Fault} → b ≡ K.Pruned label goto → MayBeSkipped w i d label goto v → PoisonsLocal k w w' → ListsSkip s from d l r' l' → UsesLocal s i from l w r' (Err v) l' w'
    unfolding use_variable_by with_prunings list_skip poison_variable
    use_pruned {from} {l} {r'} {l'} {w'} {label} {goto} {v} z m p k = record {
      does = λ f. record {
        does = λ far o a y.
            let x = ident_of from i in
            let good : Good (silently use_variable x a) → Good a = λ g. let n = variable_keeps.ids x a.st in record { few = omega (arith, g.few); fit = g.fit } in
            let next : Ident Spot → Analyzer Spot = λ j. with_prunings a.st (list_skip x j (poison_variable j.id a.st.prunings)) in
            let does : (t : Tables s.tables s.script s.counts w a.st) → (c : Pruning Spot) × (use_variable x a.st ≡ (err (may_be_skipped x (its f a.st t).local c), next (its f a.st t).local)) × Label (scopes_in w) label c.label × (goto ≡ c.location_of_goto.number) = λ t.
            let j = its f a.st t in
            let (c, fc, lc, gc) = told_pruned j.fated z in
            (c, variable_by x j.local a.st j.named fc, lc, gc) in
            record {
              cur = ap here (k.is far);
              is = record {
                when = λ g.
                    let c = y.when (good g) in
                    let t = c.tables in
                    let j = its f a.st t in
                    let ps = p.poisons t.long in
                    subst (λ (n : Maybe Spot (Ident Spot) × Analyzer Spot). Stands r' o l' w' (record { out = a.out; st = n.1; rest = a.rest })) (sym (does t).1)
                    (subst (λ (n : Walk). Stands n o l' w' (record { out = a.out; st = next j.local; rest = a.rest })) (sym (k.is far))
                    (subst (λ (n : List ℕ). Stands (with_listed s k.to) o l' n (record { out = a.out; st = next j.local; rest = a.rest })) (sym (p.is t.long)) (record {
                      script = c.script;
                      put = c.put;
                      skip = more far j.local a.st j.from c.skip;
                      tables = scopes_changed t (next j.local) (ps.kept.long ∙ scopes_room w t.long) (mirrors_poison t.scopes x ps j.row) refl refl refl t.next (omega arith) refl t.entries (early_poison t.early x j.row) (λ _ _ n. n);
                      marks = marks_kept (lower_scopes w p.part t.long ps.kept) c.marks;
                    })));
              };
              made = λ g.
                  let t = (y.when (good g)).tables in
                  let j = its f a.st t in
                  let c = does t in
                  subst (λ (n : Maybe Spot (Ident Spot) × Analyzer Spot). Made from (Err v) n.0) (sym c.1) (made_not (the_bytes c.0 j.local c.2 c.3 j.place));
            };
      };
    }
      where
        more : (far : from ≤ 65535) (j : Ident Spot) (a : Analyzer Spot) {slots : ℕ} → d.from ≡ j.place.from → Said s.listed l (words (offsets a.prunings.skips)) slots
            → Said k.to l' (words (offsets (list_skip (ident_of from i) j (poison_variable j.id a.prunings)).skips)) slots
        more far j a {slots} e u = subst (λ (xs : List ℕ). Said k.to l' xs slots) (ap (λ (n : ℕ). words (offsets a.prunings.skips) ++ (from ∷ n ∷ [])) e ∙ words_more a.prunings.skips (ident_of from i).place j.place) (said_put u (k.put far))

        the_fault : (c : Pruning Spot) (j : Ident Spot) → Label (scopes_in w) label c.label → goto ≡ c.location_of_goto.number → d.place ≡ j.place.number
            → skipped_fault w i d label goto ≡ F.VariableDeclarationMayBeSkipped i.name c.label.name i.place j.place.number c.location_of_goto.number c.label.place.number
        the_fault c j lb gc pc =
            let low = lb.low in
            let n : get_or w (2048 + label) 0 ≡ c.label.name = ap (λ (x : ℕ). get_or w x 0) (let q : 2048 + label ≡ 2048 + (0 + label) = omega arith in q) ∙ sym (part_word 2048 11264 w (0 + label) (omega arith)) ∙ lb.name in
            let u : get_or w (3072 + label) 0 ≡ c.label.place.number = ap (λ (x : ℕ). get_or w x 0) (let q : 3072 + label ≡ 2048 + (1024 + label) = omega arith in q) ∙ sym (part_word 2048 11264 w (1024 + label) (omega arith)) ∙ lb.place in
            λ t. F.VariableDeclarationMayBeSkipped i.name (n t) i.place (pc t) (gc t) (u t)

        the_bytes : (c : Pruning Spot) (j : Ident Spot) → Label (scopes_in w) label c.label → goto ≡ c.location_of_goto.number → d.place ≡ j.place.number → fault_b v ≡ poison_b (may_be_skipped (ident_of from i) j c)
        the_bytes c j lb gc pc = ap fault_b (m.is lb.low ∙ the_fault c j lb gc pc) ∙ skipped_bytes i from j c

-- THE STEPS

pub listed_is : {s : Walk} {from : ℕ} {d : Local} {l : List ℕ} {v : Wrote} {l' : List ℕ} → Put s.listed (from ∷ d.from ∷ []) l v l' → ListsSkip s from d l (with_listed s v) l'
listed_is {v = v} p = record { to = v; is = λ h. refl; put = λ h. p }

pub poisoned_is : {k : ℕ} {w ys : List ℕ} → J.Poisons k (scopes_in w) ys → PoisonsLocal k w (put_mid 2048 11264 w ys)
poisoned_is {ys = ys} p = record { part = ys; is = λ h. refl; poisons = λ h. p }

pub skipped_is : {w : List ℕ} {i : Identifier} {d : Local} {label goto x y : ℕ} (m n : ℕ) → x ≡ get_or w m 0 → m ≡ 2048 + label → y ≡ get_or w n 0 → n ≡ 3072 + label
    → MayBeSkipped w i d label goto (F.VariableDeclarationMayBeSkipped i.name x i.place d.place goto y)
skipped_is {w} {i} {d} {label} {goto} m n e p f q = record {
  is = λ h. let u = e ∙ ap (λ (j : ℕ). get_or w j 0) p in let v = f ∙ ap (λ (j : ℕ). get_or w j 0) q in λ t. F.VariableDeclarationMayBeSkipped i.name (u t) i.place d.place goto (v t);
}

-- A RESULT UNDER ANOTHER NAME

module _ {s : Walk} {i : Identifier} {from : ℕ} {l w : List ℕ} {r : Walk} {l' w' : List ℕ} where
  pub local_made : {j k : Identifier} → j ≡ k → UsesLocal s i from l w r (Ok k) l' w' → UsesLocal s i from l w r (Ok j) l' w'
  local_made e k = subst (λ (x : Identifier). UsesLocal s i from l w r (Ok x) l' w') (sym e) k

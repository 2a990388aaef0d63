-- A declaration, the declarations, and the whole pass.
use mathlib.Core.Path.{◌≡◌, refl, sym, ap, subst, ◌∙◌}
use mathlib.Core.List.{List, [], ◌∷◌, ◌++◌}
use mathlib.Core.Option.{Option, none, some}
use Prim.Native.Nat.{ℕ, ◌+◌, ◌-◌, ◌≤◌, ◌<◌}
use native.Mathlib.Omega.{arith}
use native.Mathlib.Decide.{dec_lt}
use lib.ListN.{length, get_or, take, drop, replicate, length-append, length-replicate, get_or-replicate, get_or-append}
use lib.Seq.{length-take-le, get_or-take, get_or-drop, get_or-append-add}
use borrow.Rule.Slice.PartMut.{mid_of, post_of, put_mid, mid_len}
use Rattle.std.specs.Prelude.{Result, Ok, Err}
use Rattle.std.specs.Prelude as Rust
use Rattle.penne.specs.Tree.{Spot, Ident, ok, err, stmt, stmts, Stm, Decl, constant, function, function_head, structure, import, bad_decl}
use Rattle.penne.specs.Reader.{Cur, Got, got, ret, many, listed, nothing}
use Rattle.penne.specs.Read.{to_stms, read_stmt, read_decl}
use Rattle.penne.specs.Labels.{Labels, labels, labels_body, labels_decl, pop_scope}
use Rattle.fields.specs.declared.counts.Counts as C
use Rattle.fields.specs.declared.refusal.Refusal.{Refusal}
use Rattle.tree.specs.declared.script.Layout.{Layout}
use Rattle.label_references.specs.declared.shape.Shaped.{Shaped}
use Rattle.fields.specs.Answers.{cursor, counts_of, Passes}
use Rattle.tree.specs.Script.{LaidOut}
use Rattle.labels.specs.declared.Labels as L
use Rattle.labels.specs.Outcomes.{labels_in, statements_in, body_of, body_outcomes, body_labels, outcomes_decls, labels_in_decls}
use Rattle.labels.specs.Table.{list, Rows, turned, Told, Off}
use Rattle.scopes.specs.Labels.{Along, stop, Named}
use Rattle.labels.specs.Visit.{Held, Touches, VisitsList}
use Rattle.label_references.specs.Lay.{Only, shaped, ListLaid, LaysList}
use Rattle.label_references.specs.Pass.{StartOf, no_start, start_at, Starts, BodyLaid, no_body, body, LaysBody, fresh, Beyond, Decided, Decides, AllDecided, DecidesAll, Pass, uncounted}
use Rattle.labels.proofs.Along.{along_append, along_length, along_le, along_map}
use Rattle.labels.proofs.Rowing.{rows_high}
use Rattle.labels.proofs.Visiting.{did_turned, labels_length}
use Rattle.label_references.proofs.Leading.{Leads, leads_bind, leads_ret, passes_here, leads_unpassed}
use Rattle.label_references.proofs.Laying.{ok_same, never_ok, many_step}
use Rattle.label_references.proofs.Growing.{Grown, grown_decl}

-- THE BODY

none_some : {A X : Type 0} {a : A} → ◌≡◌ {A = Option A} none (some a) → X
none_some {A} e = let z : ◌≡◌ {A = ℕ} 0 1 = ap number e in absurd (omega arith)
  where
    number : Option A → ℕ
    number none = 0
    number (some a) = 1

without_go : {s : List ℕ} {names k : ℕ} {x : Decl Spot} {d : Cur} {r : Result (Rust.Option (ℕ × C.Counts)) Refusal} {w : List ℕ} → StartOf s names k x d r → r ≡ Ok Rust.None → BodyLaid k x d w Rust.None w
without_go (no_start o z) e = no_body o z
without_go (start_at ts e₁ o z q u) e = cc

refused_go : {s : List ℕ} {names k : ℕ} {x : Decl Spot} {d : Cur} {r : Result (Rust.Option (ℕ × C.Counts)) Refusal} {e : Refusal} {X : Type 0} → StartOf s names k x d r → r ≡ Err e → X
refused_go (no_start o z) e = cc
refused_go (start_at ts e₁ o z q u) e = cc

laid_go : {s : List ℕ} {names k n : ℕ} {x : Decl Spot} {d : Cur} {r : Result (Rust.Option (ℕ × C.Counts)) Refusal} {w w' : List ℕ} {a : Result Shaped Refusal} {c : C.Counts} → StartOf s names k x d r → r ≡ Ok (Rust.Some (n, c)) → LaysList (listed (read_stmt 63) s (cursor n names (counts_of c))) names 63 c.statements w a w' → 13312 ≤ length w
    → {X : Type 0} → ((ts : List (Stm Spot stmt)) (e : Cur) → body_of x ≡ some (to_stms ts) → c.statements ≡ k → d.counts.statements ≡ e.counts.statements → ListLaid names 63 c.statements c.statements [] ts e w a w' → X) → X
laid_go (no_start o z) e l long f = cc
laid_go {s} {names} {k} {n} {c = c} (start_at {n = n₁} {c = c₁} ts e₁ o z q u) e l long f =
    let p : ◌≡◌ {A = ℕ × C.Counts} (n₁, c₁) (n, c) = cc in
    let q₁ : listed (read_stmt 63) s (cursor n names (counts_of c)) ≡ got ts e₁ = subst (λ (i : ℕ × C.Counts). listed (read_stmt 63) s (cursor i.0 names (counts_of i.1)) ≡ got ts e₁) p q in
    f ts e₁ o (ap (λ (i : ℕ × C.Counts). i.1.statements) (sym p) ∙ z) u (l.does long q₁)

module _ {q : Got (Decl Spot)} {s : List ℕ} {names k : ℕ} {w : List ℕ} where
  pub body_refused : {e : Refusal} {r : Rust.Option ℕ} {w' : List ℕ} → Starts q s names k (Err e) → LaysBody q k w r w'
  body_refused g = record { does = λ long h. refused_go (g.does h) refl }

  pub body_without : Starts q s names k (Ok Rust.None) → LaysBody q k w Rust.None w
  body_without g = record { does = λ long h. without_go (g.does h) refl }

  module _ {n : ℕ} {c : C.Counts} (g : Starts q s names k (Ok (Rust.Some (n, c)))) {w' : List ℕ} where
    pub body_unlaid : {e : Refusal} {r : Rust.Option ℕ} {w'' : List ℕ} → LaysList (listed (read_stmt 63) s (cursor n names (counts_of c))) names 63 c.statements w (Err e) w' → LaysBody q k w r w''
    body_unlaid l = record { does = λ long h. laid_go (g.does h) refl l long λ ts e₁ o y u laid. never_ok laid.told }

    pub body_laid : {a : Shaped} → LaysList (listed (read_stmt 63) s (cursor n names (counts_of c))) names 63 c.statements w (Ok a) w' → LaysBody q k w (Rust.Some a.last) w'
    body_laid {a} l = record {
      does = λ long {x} {d} h. laid_go (g.does h) refl l long λ ts e₁ o y u laid.
          let t : shaped laid.end laid.counts laid.last ≡ a = sym (ok_same laid.told) in
          let top : laid.counts.statements ≡ d.counts.statements = sym (u ∙ ap (λ (i : Cur). i.counts.statements) laid.cur) in
          body ts o
          (subst (λ (i : Shaped). Rows w' 63 k (list (turned ts []) i.last) d.counts.statements) t (subst (λ (i : ℕ). Rows w' 63 k (list (turned ts []) laid.last) i) top (subst (λ (i : ℕ). Rows w' 63 i (list (turned ts []) laid.last) laid.counts.statements) y laid.rows)))
          (subst (λ (i : ℕ). Only k i w w') top (subst (λ (i : ℕ). Only i laid.counts.statements w w') y laid.only));
    }

-- A DECLARATION

labels_none : (x : Decl Spot) (l : Labels Spot) → body_of x ≡ none → (labels_decl x l).1 ≡ l
unfolding body_of statements_in labels_decl labels_body
labels_none (constant f p q i x t) l e = refl
labels_none (function f p q i ps (ok b) t) l e = none_some (sym e)
labels_none (function f p q i ps (err z) t) l e = refl
labels_none (function_head f p q i ps t) l e = refl
labels_none (structure f p i ms t) l e = refl
labels_none (import b p) l e = refl
labels_none (bad_decl z) l e = refl

labels_some : (x : Decl Spot) (l : Labels Spot) {ts : Stm Spot stmts} → body_of x ≡ some ts → (labels_decl x l).1 ≡ pop_scope l (labels ts l).1
unfolding body_of statements_in labels_decl labels_body
labels_some (constant f p q i x t) l e = none_some e
labels_some (function f p q i ps (ok b) t) l {ts} e = let z : b.statements ≡ ts = cc in ap (λ (i : Stm Spot stmts). pop_scope l (labels i l).1) z
labels_some (function f p q i ps (err z) t) l e = none_some e
labels_some (function_head f p q i ps t) l e = none_some e
labels_some (structure f p i ms t) l e = none_some e
labels_some (import b p) l e = none_some e
labels_some (bad_decl z) l e = none_some e

decided_none : {k next : ℕ} {x : Decl Spot} {d : Cur} {w w' : List ℕ} → BodyLaid k x d w Rust.None w' → Decided k d.counts.statements next x w next w'
unfolding body_outcomes body_labels
decided_none {k} {next} {x} {d} {w} (no_body o z) = record {
  told = subst (λ (i : ℕ). Along (Told w) k (body_outcomes (body_of x) (fresh next)) i) (sym z) (subst (λ (b : Option (Stm Spot stmts)). Along (Told w) k (body_outcomes b (fresh next)) k) (sym o) stop);
  named = subst (λ (b : Option (Stm Spot stmts)). Along (Named w) next (body_labels b) next) (sym o) stop;
  next_is = labels_none x (fresh next) o;
  beyond = record { long = refl; same = λ i o₁ o₂ o₃ o₄. refl };
}

pub decides_none : {q : Got (Decl Spot)} {k next : ℕ} {w w' : List ℕ} → LaysBody q k w Rust.None w' → Decides q k next w next w'
decides_none g = record { does = λ long top z h room. decided_none (g.does long h) }

held_none : {next : ℕ} {w : List ℕ} → 0 < next → 13312 ≤ length w → Held w (record { count = 0; next = next }) (fresh next)
unfolding fresh
held_none z long = record { stack = stop; next = refl; few = z; words = long }

pop_fresh : (next : ℕ) {b : ℕ} (l : Labels Spot) → b ≡ l.resolution_id → pop_scope (fresh next) l ≡ fresh b
unfolding pop_scope fresh
pop_fresh next l e = λ i. record { label_stack = []; resolution_id = sym e i }

-- what the laying out and then the visit change
beyond_go : {k k' next : ℕ} {w w₁ w₂ : List ℕ} → k' ≤ 2048 → Only k k' w w₁ → Touches k k' (record { count = 0; next = next }) w₁ w₂ → Beyond k k' next w w₂
beyond_go top o t = record {
  long = t.long ∙ o.long;
  same = λ i o₁ o₂ o₃ o₄. t.same i o₁ o₂ o₃ (λ x y. o₄ (omega arith) (omega arith)) ∙ o.same i o₁ (λ x y. o₄ (omega arith) (omega arith)) (λ x y. o₄ (omega arith) (omega arith)) (λ x y. o₄ (omega arith) (omega arith));
}

decided_some : {k next last : ℕ} {x : Decl Spot} {d : Cur} {w w₁ w₂ : List ℕ} {b : L.Labels} → k ≤ 2048 → 0 < next → 13312 ≤ length w → next + length (body_labels (body_of x)) ≤ 1025 → BodyLaid k x d w (Rust.Some last) w₁ → VisitsList 63 last (record { count = 0; next = next }) w₁ b w₂ → Decided k d.counts.statements next x w b.next w₂
unfolding body_outcomes body_labels
decided_some {k} {next} {x = x} {d} {w₁ = w₁} {w₂} {b} top z long room (body ts o rows only) v =
    let held : Held w₁ (record { count = 0; next = next }) (fresh next) = held_none z (omega (arith, only.long)) in
    let count : length (body_labels (body_of x)) ≡ length (labels_in (to_stms ts)) = ap (λ (i : Option (Stm Spot stmts)). length (body_labels i)) o in
    let did = did_turned ts (fresh next) (v.does rows held (omega (arith, labels_length ts))) in
    record {
      told = subst (λ (i : Option (Stm Spot stmts)). Along (Told w₂) k (body_outcomes i (fresh next)) d.counts.statements) (sym o) did.told;
      named = subst (λ (i : Option (Stm Spot stmts)). Along (Named w₂) next (body_labels i) b.next) (sym o) did.named;
      next_is = labels_some x (fresh next) o ∙ pop_fresh next _ did.held.next;
      beyond = beyond_go (rows_high rows top) only did.touches;
    }

pub decides_some : {q : Got (Decl Spot)} {k next last : ℕ} {w w₁ w₂ : List ℕ} {b : L.Labels} → LaysBody q k w (Rust.Some last) w₁ → VisitsList 63 last (record { count = 0; next = next }) w₁ b w₂ → Decides q k next w b.next w₂
decides_some g v = record { does = λ long top z h room. decided_some top z long room (g.does long h) v }

-- THE DECLARATIONS

-- the words of an earlier declaration stay
later_told : {k k' m m' next : ℕ} {os : List ℕ} {w w' : List ℕ} → Beyond m m' next w w' → k' ≤ m → k' ≤ 2048 → 0 < next → Along (Told w) k os k' → Along (Told w') k os k'
later_told b h j z a = along_map (λ i o y₁ y₂ t. record { is = b.same i (λ x y. omega arith) (λ x y. omega arith) (λ x y. omega arith) (λ x y. omega arith) ∙ t.is }) a

later_named : {k m m' next : ℕ} {is : List (Ident Spot)} {w w' : List ℕ} → Beyond m m' next w w' → m' ≤ 2048 → next ≤ 1025 → 0 < k → Along (Named w) k is next → Along (Named w') k is next
later_named b h j z a = along_map (λ i o y₁ y₂ t. record {
  name = b.same (2047 + i) (λ x y. omega arith) (λ x y. omega arith) (λ x y. omega arith) (λ x y. omega arith) ∙ t.name;
  place = b.same (3071 + i) (λ x y. omega arith) (λ x y. omega arith) (λ x y. omega arith) (λ x y. omega arith) ∙ t.place;
}) a

beyond_then : {k m k' next next₁ : ℕ} {w w₁ w₂ : List ℕ} → Beyond k m next w w₁ → Beyond m k' next₁ w₁ w₂ → k ≤ m → m ≤ k' → next ≤ next₁ → Beyond k k' next w w₂
beyond_then a b h₁ h₂ h₃ = record {
  long = b.long ∙ a.long;
  same = λ i o₁ o₂ o₃ o₄. b.same i (λ x y. o₁ (omega arith) y) (λ x y. o₂ (omega arith) y) (λ x y. o₃ (omega arith) y) o₄ ∙ a.same i (λ x y. o₁ x (omega arith)) o₂ o₃ o₄;
}

all_more : {k m k' next next₁ : ℕ} {x : Decl Spot} {xs : List (Decl Spot)} {w w₁ w₂ : List ℕ} → 0 < next → next₁ ≤ 1025 → m ≤ 2048 → Decided k m next x w next₁ w₁ → AllDecided m k' next₁ xs w₁ w₂ → AllDecided k k' next (x ∷ xs) w w₂
unfolding outcomes_decls labels_in_decls
all_more {k} {m} {k'} {next} {next₁} {x} {xs} {w₂ = w₂} z room top d r =
    let n : next₁ ≡ next + length (body_labels (body_of x)) = along_length d.named in
    let e : next₁ + length (labels_in_decls xs) ≡ next + length (body_labels (body_of x) ++ labels_in_decls xs) = omega (arith, length-append (body_labels (body_of x)) (labels_in_decls xs)) in
    record {
      told = along_append (later_told r.beyond (omega arith) top (omega arith) d.told) (subst (λ (i : Labels Spot). Along (Told w₂) m (outcomes_decls xs i) k') (sym d.next_is) r.told);
      named = subst (λ (i : ℕ). Along (Named w₂) next (body_labels (body_of x) ++ labels_in_decls xs) i) e (along_append (later_named r.beyond r.top room z d.named) r.named);
      top = r.top;
      few = omega (arith, r.few, e);
      beyond = beyond_then d.beyond r.beyond (along_le d.told) (along_le r.told) (omega arith);
    }

-- whatever decides the rest from here decides all
pub record Deciding (s : List ℕ) (names n at₀ : ℕ) (k₀ : C.Counts) (next₀ : ℕ) (w₀ : List ℕ) (rest at : ℕ) (k : C.Counts) (next : ℕ) (w : List ℕ) : Type 0 where
  pub long : length w ≡ length w₀
  pub on : (w₂ : List ℕ) → DecidesAll (many read_decl rest s (cursor at names (counts_of k))) k next w w₂ → DecidesAll (many read_decl n s (cursor at₀ names (counts_of k₀))) k₀ next₀ w₀ w₂

pub deciding_start : {s : List ℕ} {names n at : ℕ} {k : C.Counts} {next : ℕ} {w : List ℕ} → Deciding s names n at k next w n at k next w
deciding_start = record { long = refl; on = λ w₂ h. h }

none_decided : (s : List ℕ) (c : Cur) (k : C.Counts) {next : ℕ} {w : List ℕ} → c.counts.statements ≡ k.statements → DecidesAll (many read_decl 0 s c) k next w w
unfolding many ret outcomes_decls labels_in_decls
none_decided s c k {next} {w} e = record {
  does = λ long z le h₁ h₂ {xs} {d} q.
      let u : [] ≡ xs = cc in
      let v : c ≡ d = cc in
      let o : k.statements ≡ d.counts.statements = sym e ∙ ap (λ (i : Cur). i.counts.statements) v in
      let i : next ≡ next + length (labels_in_decls {P = Spot} []) = omega arith in
      subst (λ (ys : List (Decl Spot)). AllDecided k.statements d.counts.statements next ys w w) u (subst (λ (j : ℕ). AllDecided k.statements j next [] w w) o
      (record { told = stop; named = subst (λ (j : ℕ). Along (Named w) next [] j) i stop; top = h₂; few = omega arith; beyond = record { long = refl; same = λ i o₁ o₂ o₃ o₄. refl } }));
}

module _ {s : List ℕ} {names n at₀ : ℕ} {k₀ : C.Counts} {next₀ : ℕ} {w₀ : List ℕ} {rest at : ℕ} {k : C.Counts} {next : ℕ} {w : List ℕ} (g : Deciding s names n at₀ k₀ next₀ w₀ rest at k next w) where
  pub deciding_done : rest ≡ 0 → DecidesAll (many read_decl n s (cursor at₀ names (counts_of k₀))) k₀ next₀ w₀ w
  deciding_done z = g.on w (subst (λ (i : ℕ). DecidesAll (many read_decl i s (cursor at names (counts_of k))) k next w w) (sym z) (none_decided s (cursor at names (counts_of k)) k refl))

  module _ (z : rest ≡ 0 → ⊥) where
    pub deciding_stop : {w' : List ℕ} {e : Refusal} → Passes read_decl s names k at (Err e) → DecidesAll (many read_decl n s (cursor at₀ names (counts_of k₀))) k₀ next₀ w₀ w'
    deciding_stop {w'} p = g.on w' (record { does = λ long y le h₁ h₂ q. never.to q })
      where
        never : Leads (many read_decl rest s (cursor at names (counts_of k))) (λ xs d. AllDecided k.statements d.counts.statements next xs w w')
        never = many_step read_decl s _ rest z (leads_unpassed _ p)

    pub deciding_more : {next₁ b : ℕ} {more : C.Counts} {w₁ : List ℕ} → Decides (read_decl s (cursor at names (counts_of k))) k.statements next w next₁ w₁ → Passes read_decl s names k at (Ok (b, more)) → length w₁ ≡ length w → Deciding s names n at₀ k₀ next₀ w₀ (rest - 1) b more next₁ w₁
    deciding_more {next₁} {b} {more} {w₁} one p l = record { long = l ∙ g.long; on = λ w₂ h. g.on w₂ (record { does = λ long y le h₁ h₂ q. (all w₂ h long y le h₁ h₂).to q }) }
      where
        all : (w₂ : List ℕ) → DecidesAll (many read_decl (rest - 1) s (cursor b names (counts_of more))) more next₁ w₁ w₂ → 13312 ≤ length w → 0 < next → next ≤ k.entries + 1 → k.entries ≤ 1024 → k.statements ≤ 2048
            → Leads (many read_decl rest s (cursor at names (counts_of k))) (λ xs d. AllDecided k.statements d.counts.statements next xs w w₂)
        all w₂ h long y le h₁ h₂ = many_step read_decl s _ rest z (leads_bind _ _ _ _ λ x d q. leads_bind _ _ _ _ λ xs d₂ q₂. leads_ret _ _ _
            (let c : cursor b names (counts_of more) ≡ d = passes_here p q in
            let grown : Grown (length (body_labels (body_of x))) (cursor at names (counts_of k)) d = grown_decl s _ q in
            let m : more.entries ≡ d.counts.entries = ap (λ (i : Cur). i.counts.entries) c in
            let t : more.statements ≡ d.counts.statements = ap (λ (i : Cur). i.counts.statements) c in
            let few : d.counts.entries ≤ 1024 = grown.entries h₁ in
            let top : d.counts.statements ≤ 2048 = grown.statements h₂ in
            let this = one.does long h₂ y q (omega (arith, grown.more)) in
            let n : next₁ ≡ next + length (body_labels (body_of x)) = along_length this.named in
            let others = h.does (omega arith) (omega arith) (omega (arith, grown.more)) (omega arith) (omega arith) (subst (λ (i : Cur). many read_decl (rest - 1) s i ≡ got xs d₂) (sym c) q₂) in
            all_more y (omega (arith, grown.more)) top this (subst (λ (i : ℕ). AllDecided i d₂.counts.statements next₁ xs w₁ w₂) t others)))

-- THE WHOLE PASS

-- the words with ys in the place of those from 6144 to 13312
module _ (w ys : List ℕ) (long : 13312 ≤ length w) (e : ys ≡ replicate {A = ℕ} (length (mid_of 6144 7168 w)) 0) where
  abbrev after_clear : List ℕ
  after_clear = put_mid 6144 7168 w ys

  front_long : length (take 6144 w) ≡ 6144
  front_long = length-take-le 6144 w (omega arith)

  part_long : length ys ≡ 7168
  part_long = ap (λ (v : List ℕ). length v) e ∙ length-replicate _ 0 ∙ mid_len 6144 13312 w long

  clear_below : (i : ℕ) → i < 6144 → get_or after_clear i 0 ≡ get_or w i 0
  clear_below i h = get_or-append (take 6144 w) (ys ++ post_of 6144 7168 w) 0 i (omega (arith, front_long)) ∙ get_or-take 6144 w i 0 h

  clear_from : (j : ℕ) → get_or after_clear (6144 + j) 0 ≡ get_or (ys ++ post_of 6144 7168 w) j 0
  clear_from j = ap (λ (n : ℕ). get_or after_clear (n + j) 0) (sym front_long) ∙ get_or-append-add (take 6144 w) (ys ++ post_of 6144 7168 w) j 0

  clear_inside : (i : ℕ) → 6144 ≤ i → i < 13312 → get_or after_clear i 0 ≡ 0
  clear_inside i h₁ h₂ =
      let z : 6144 + (i - 6144) ≡ i = omega arith in
      ap (λ (n : ℕ). get_or after_clear n 0) (sym z) ∙ clear_from (i - 6144) ∙ get_or-append ys (post_of 6144 7168 w) 0 (i - 6144) (omega (arith, part_long)) ∙
      ap (λ (v : List ℕ). get_or v (i - 6144) 0) e ∙ get_or-replicate (length (mid_of 6144 7168 w)) (i - 6144) 0 0 (omega (arith, mid_len 6144 13312 w long))

  clear_above : (i : ℕ) → 13312 ≤ i → get_or after_clear i 0 ≡ get_or w i 0
  clear_above i h =
      let z : 6144 + (7168 + (i - 13312)) ≡ i = omega arith in
      ap (λ (n : ℕ). get_or after_clear n 0) (sym z) ∙ clear_from (7168 + (i - 13312)) ∙ ap (λ (n : ℕ). get_or (ys ++ post_of 6144 7168 w) (n + (i - 13312)) 0) (sym part_long) ∙ get_or-append-add ys (post_of 6144 7168 w) (i - 13312) 0 ∙
      get_or-drop 7168 (drop 6144 w) (i - 13312) 0 ∙ get_or-drop 6144 w (7168 + (i - 13312)) 0 ∙ ap (λ (n : ℕ). get_or w n 0) z

  clear_other : (i : ℕ) → Off 6144 13312 i → get_or after_clear i 0 ≡ get_or w i 0
  clear_other i o = side (dec_lt i 6144)
    where
      side : Dec (i < 6144) → get_or after_clear i 0 ≡ get_or w i 0
      side (yes h) = clear_below i h
      side (no h) = clear_above i (side₂ (dec_lt i 13312))
        where
          side₂ : Dec (i < 13312) → 13312 ≤ i
          side₂ (yes h₂) = absurd (o (omega arith) h₂)
          side₂ (no h₂) = omega arith

pub pass_short : {s : List ℕ} {l : Layout} {w : List ℕ} → length w < 16384 → Pass s l w w
pass_short h = record { long = refl; told = λ long t. absurd (omega arith); named = λ long t. absurd (omega arith); cleared = λ long i h₁ h₂. absurd (omega arith); kept = λ t i o₁ o₂ o₃. refl }

all_decided : {s : List ℕ} {l : Layout} {w w₁ : List ℕ} → 16384 ≤ length w → DecidesAll (many read_decl l.count s (cursor l.first l.names (counts_of uncounted))) uncounted 1 w w₁ → (t : LaidOut s l) → AllDecided 0 t.counts.statements 1 t.decls w w₁
unfolding nothing
all_decided long g t = g.does (omega arith) (omega arith) (omega arith) (omega arith) (omega arith) t.read

pub pass_done : {s : List ℕ} {l : Layout} {w w₁ ys : List ℕ} → 16384 ≤ length w → DecidesAll (many read_decl l.count s (cursor l.first l.names (counts_of uncounted))) uncounted 1 w w₁ → length w₁ ≡ length w → ys ≡ replicate {A = ℕ} (length (mid_of 6144 7168 w₁)) 0
    → length (put_mid 6144 7168 w₁ ys) ≡ length w₁ → Pass s l w (put_mid 6144 7168 w₁ ys)
pass_done {s} {l} {w} {w₁} {ys} long g same e back = record {
  long = back ∙ same;
  told = λ h t. let d = all_decided long g t in along_map (λ i o y₁ y₂ x. record { is = clear_below w₁ ys (omega arith) e i (omega (arith, d.top)) ∙ x.is }) d.told;
  named = λ h t. let d = all_decided long g t in along_map (λ i o y₁ y₂ x. let z : i ≤ 1024 = omega (arith, d.few) in record { name = clear_below w₁ ys (omega arith) e (2047 + i) (omega arith) ∙ x.name; place = clear_below w₁ ys (omega arith) e (3071 + i) (omega arith) ∙ x.place }) d.named;
  cleared = λ h i h₁ h₂. clear_inside w₁ ys (omega arith) e i h₁ h₂;
  kept = λ t i o₁ o₂ o₃. clear_other w₁ ys (omega arith) e i o₃ ∙ (all_decided long g t).beyond.same i o₁ (λ x y. o₂ x (omega arith)) (λ x y. o₂ (omega arith) y) o₃;
}

pub ruleset function_labels_laws = (decides_none, decides_some)

pub ruleset function_body_laws = (body_refused, body_without, body_unlaid, body_laid)

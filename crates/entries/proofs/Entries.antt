-- Parameters and members along the decoder: the place, the name, the type; one after another.
use mathlib.Core.Path.{◌≡◌, refl, sym, ap, subst, ◌∙◌}
use mathlib.Core.Bool.{true}
use mathlib.Core.List.{List, ◌++◌, append_assoc}
use Prim.Native.Nat.{ℕ, ◌+◌, ◌≤◌, ◌<◌}
use native.Mathlib.Omega.{arith}
use lib.ListN.{length, get_or}
use Rattle.fields.specs.declared.refusal.Refusal.{Refusal}
use Rattle.std.specs.Prelude.{Result, Ok, Err, Option, Some, None}
use Rattle.penne.specs.Reader.{Counts, Cur, got, Reader, ◌>>=◌, ret, num, below, plus, fits, an_entry, counting, counted}
use Rattle.penne.specs.Tree.{Spot, Ident, Poison, Maybe, ok, err}
use Rattle.penne.specs.Read.{place, ident, maybe, read_poison}
use Rattle.penne.specs.Write.{num_b, place_b, poison_b, ident_b, maybe_b}
use Rattle.penne.specs.State as S
use Rattle.penne.specs.Scopes.{declare_variable}
use Rattle.penne.specs.Variables.{declare_maybe}
use Rattle.fields.specs.declared.field.Identifier.{Identifier}
use Rattle.fields.specs.declared.counts.Counts as K
use Rattle.fields.specs.Answers.{cursor, counts_of, ident_of, Gives, Reads, Identifies, Counting, poison_names, poison_places}
use Rattle.fields.proofs.Chain.{reads}
use Rattle.fields.proofs.Chain.{goes}
use Rattle.fields.proofs.Counting.{fitted, counting_fits}
use Rattle.tree.proofs.Statements.{entry_unread, entry_many}
use Rattle.answer.specs.declared.wrote.Wrote.{Wrote}
use Rattle.answer.specs.Out.{Put}
use Rattle.answer.proofs.Fields.{identifier_bytes}
use Rattle.label_references.proofs.Laying.{fits_statements}
use Rattle.walk.specs.declared.state.Walk.{Walk}
use Rattle.walk.specs.declared.fault.Fault.{Fault}
use Rattle.walk.specs.Walking.{moved_to, with_wrote, with_counts, here, Rest, Marks, Ground, Good, Is, onward, silently, say, say_poison, Leads, Input, Walks, fault_b, made_b, Naming}
use Rattle.walk.specs.Calls.{DeclaresBy}
use Rattle.walk.proofs.Leading.{leads_unpassed, bind_is, leads_bind, leads_got, leads_call, leads_counting, is_same, leads_at}
use Rattle.walk.proofs.Writing.{moved_on, wrote, wrote_on}
use Rattle.walk.proofs.Writing as Writing
use Rattle.walk.proofs.Choosing.{leads_unmaybe, leads_ok, leads_err}
use Rattle.walk.proofs.Identifying.{identified_low}
use Rattle.types.proofs.Trying.{leads_name, leads_unnamed}
use Rattle.walk.proofs.Using.{made_used, made_refused}
use Rattle.entries.specs.Entering.{Outside, Names, named, nameless, Unread, Refuses, place_and_tag, Entered, DeclaresEntry, place_and_name, placed_b, NamesEntry}

-- THE NAME

name_fine : (k : ℕ) (i : Ident Spot) (a : Ground) {from : ℕ} {j : Identifier} → (declare_variable k i a.st).0 ≡ ok (ident_of from j) → say (num_b 0 ++ made_b j) (silently (declare_variable k) i a) ≡ onward (declare_maybe k) (maybe_b ident_b) (ok i) a
unfolding declare_maybe maybe_b
name_fine k i a {from} {j} e = ap (λ (xs : List ℕ). record { out = a.out ++ xs; st = (declare_variable k i a.st).1; rest = a.rest }) (ap (λ (xs : List ℕ). num_b 0 ++ xs) (identifier_bytes (ident_of from j)) ∙ ap (maybe_b ident_b) (sym e))

name_bad : (k : ℕ) (i : Ident Spot) (a : Ground) (f : Fault) {z : Poison Spot} → (declare_variable k i a.st).0 ≡ err z → fault_b f ≡ poison_b z → say (num_b 1 ++ fault_b f) (silently (declare_variable k) i a) ≡ onward (declare_maybe k) (maybe_b ident_b) (ok i) a
unfolding declare_maybe maybe_b
name_bad k i a f e q = ap (λ (xs : List ℕ). record { out = a.out ++ xs; st = (declare_variable k i a.st).1; rest = a.rest }) (ap (λ (xs : List ℕ). num_b 1 ++ xs) q ∙ ap (maybe_b ident_b) (sym e))

module _ {kind : ℕ} {t : List ℕ} {s : Walk} {r₁ : Result (Identifier × ℕ) Refusal} (g : Identifies t s.script.names s.at r₁) {o w : List ℕ} where
  pub declared_unread : {x : Refusal} {r : Walk} {answered : Result (Option ℕ) Refusal} {o' w' : List ℕ} → r₁ ≡ Err x → DeclaresEntry kind t s o w r answered o' w'
  declared_unread e = record { does = λ q₁ q₂ h l a out few room i. leads_unnamed g e }

  module _ {j : Identifier} {n : ℕ} (e : r₁ ≡ Ok (j, n)) {s₁ : Walk} {w' : List ℕ} where
    naming : {v : Result Identifier Fault} → DeclaresBy kind s j s.at w s₁ v w' → 1 ≡ get_or poison_names kind 0 → 2 ≡ get_or poison_places kind 0 → Input t → (l : List ℕ) (a : Ground) → (Good a → Outside a) → s.counts.entries ≤ 1024 → (Good a → length a.st.variable_stack.locals < s.counts.entries) → Is s o l w a
        → Naming (declare_variable kind) s s.at (ident_of s.at j) a o s₁ v l w'
    naming k q₁ q₂ h l a out few room i = let low = identified_low g e in (k.does q₁ q₂).does (omega (arith, h.short, low.0)) low.1 few o l a room (λ z. (out z).is) i

    pub declared_as : {made : Identifier} {x : Wrote} {o' : List ℕ} → DeclaresBy kind s j s.at w s₁ (Ok made) w' → Put s₁.wrote (num_b 0 ++ made_b made) o x o' → DeclaresEntry kind t s o w (moved_to (with_wrote s₁ x) n) (Ok (Some made.place)) o' w'
    unfolding declare_maybe
    declared_as {made} k put = record {
      does = λ q₁ q₂ h l a out few room i.
          let y = ident_of s.at j in
          let m = naming k q₁ q₂ h l a out few room i in
          let fine = λ (z : _). made_used (m.made z) refl in
          leads_name g e (record {
            did = record { cur = sym (ap (λ (c : Cur). cursor n c.names c.counts) m.cur); is = is_same (λ z. name_fine kind y a (fine (record { few = z.few; fit = z.fit }))) (wrote_on m.is put) };
            name = Some made.place;
            read = refl;
            told = λ z. subst (λ (d : Maybe Spot (Ident Spot)). Names (Some made.place) d) (sym (fine (record { few = z.few; fit = z.fit }))) (named refl);
          });
    }

    pub declared_not : {f : Fault} {x : Wrote} {o' : List ℕ} → DeclaresBy kind s j s.at w s₁ (Err f) w' → Put s₁.wrote (num_b 1 ++ fault_b f) o x o' → DeclaresEntry kind t s o w (moved_to (with_wrote s₁ x) n) (Ok None) o' w'
    unfolding declare_maybe
    declared_not {f} k put = record {
      does = λ q₁ q₂ h l a out few room i.
          let y = ident_of s.at j in
          let m = naming k q₁ q₂ h l a out few room i in
          leads_name g e (record {
            did = record { cur = sym (ap (λ (c : Cur). cursor n c.names c.counts) m.cur); is = is_same (λ z. let b = made_refused (m.made (record { few = z.few; fit = z.fit })) refl in name_bad kind y a f b.1 b.2) (wrote_on m.is put) };
            name = None;
            read = refl;
            told = λ z. let b = made_refused (m.made (record { few = z.few; fit = z.fit })) refl in subst (λ (d : Maybe Spot (Ident Spot)). Names None d) (sym b.1) nameless;
          });
    }

-- IT IS COUNTED

-- what the counts are with one entry more
record More (k c : K.Counts) : Type 0 where
  counts : counts_of c ≡ plus (counts_of k) an_entry
  fit : fits (plus (counts_of k) an_entry) ≡ true
  containers : c.containers ≡ k.containers
  functions : c.functions ≡ k.functions
  entries : c.entries ≡ k.entries + 1
  statements : c.statements ≡ k.statements
  few : c.entries ≤ 1024

more : {k b c : K.Counts} {y : Option K.Counts} → Counting k b y → counts_of b ≡ an_entry → y ≡ Some c → More k c
unfolding plus an_entry
more {k} {b} {c} g u e =
    let f = fitted (subst (λ (z : Option K.Counts). Counting k b z) e g) in
    let q : counts_of c ≡ plus (counts_of k) an_entry = f.1 ∙ ap (plus (counts_of k)) u in
    let fit : fits (plus (counts_of k) an_entry) ≡ true = subst (λ (z : Counts). fits (plus (counts_of k) z) ≡ true) u f.0 in
    let l = fits_statements (plus (counts_of k) an_entry) fit in
    record {
      counts = q;
      fit = fit;
      containers = omega (arith, ap (λ (z : Counts). z.containers) q);
      functions = omega (arith, ap (λ (z : Counts). z.functions) q);
      entries = ap (λ (z : Counts). z.entries) q;
      statements = omega (arith, ap (λ (z : Counts). z.statements) q);
      few = omega (arith, l.1, ap (λ (z : Counts). z.entries) q);
    }

marks_on : {k c : K.Counts} {w : List ℕ} {m : Rest} → More k c → Marks k w m → Marks c w m
marks_on {w = w} {m} d h = record {
  told = subst (λ (x : ℕ). (j : ℕ) → x + j < 2048 → get_or w (x + j) 0 ≡ get_or m.words j 0) (sym d.statements) h.told;
  named = h.named;
  labels = h.labels;
  containers = d.containers ∙ h.containers;
  functions = d.functions ∙ h.functions;
  main = h.main;
}

place_value : {t : List ℕ} {at : ℕ} {m₁ : Result (ℕ × ℕ) Refusal} (names : ℕ) (k : Counts) → Gives num t at m₁ → {v n : ℕ} → m₁ ≡ Ok (v, n) → place t (cursor at names k) ≡ got (record { number = v; from = at }) (cursor n names k)
unfolding place ret
place_value {t} {at} names k g e = goes _ (subst (λ (q : Result (ℕ × ℕ) Refusal). Reads num t names at q) e (reads g)) k

-- what is read, under another name
leads_by : {A B : Type 0} (f : A → B) {t : List ℕ} {m : Reader A} {P : B → Cur → Type 0} {c : Cur} → Leads m t c (λ x d. P (f x) d) → Leads (m >>= λ x. ret (f x)) t c P
leads_by f {m = m} k = leads_bind m _ λ y e h. leads_got (f y) (k.to y e h)

-- PLACE AND NAME

entered_at : {kind : ℕ} (p : Spot) {x : Maybe Spot (Ident Spot)} {d : Cur} (a : Ground) {r : Walk} {answered : Result (Option ℕ) Refusal} {o l w : List ℕ} → Entered kind (maybe_b ident_b) x d (say (place_b p) a) r answered o l w → Entered kind (placed_b p) x d a r answered o l w
entered_at {kind} p {x} a k = record {
  did = record { cur = k.did.cur; is = is_same (λ _. ap (λ (xs : List ℕ). record { out = xs; st = (declare_maybe kind x a.st).1; rest = a.rest }) (append_assoc a.out (place_b p) _)) k.did.is };
  name = k.name;
  read = k.read;
  told = λ z. k.told (record { few = z.few; fit = z.fit });
}

-- WHERE IT STOPS

pub refuses : {t : List ℕ} {s : Walk} {o w : List ℕ} {answered : Result (Option ℕ) Refusal} {x : Refusal} → answered ≡ Err x → Refuses t s o w s answered o w
refuses {x = x} e = record { stops = record { still = λ u. (refl, refl, refl) }; refused = λ u. (x, e) }

begun : {t : List ℕ} (s : Walk) {v n tg n₂ : ℕ} {b k : K.Counts} {y : Option K.Counts} → Gives num t s.at (Ok (v, n)) → Counting s.counts b y → counts_of b ≡ an_entry → y ≡ Some k → Gives (below 2) t n (Ok (tg, n₂)) → Unread t s → ⊥
unfolding place_and_tag counted
begun {t} s {tg = tg} g c u f tag z =
    let all = plus (counts_of s.counts) an_entry in
    z.to tg _ (bind_is (counting (λ _. an_entry) place) (λ p. below 2) t (here s) (counting_fits (λ _. an_entry) place t (here s) (place_value s.script.names (counts_of s.counts) g refl) (more c u f).fit) ∙ tag.is s.script.names all)

-- both were read
pub goes_on : {t : List ℕ} {s : Walk} {v n tg n₂ : ℕ} {b k : K.Counts} {y : Option K.Counts} → Gives num t s.at (Ok (v, n)) → Counting s.counts b y → counts_of b ≡ an_entry → y ≡ Some k → Gives (below 2) t n (Ok (tg, n₂))
    → {o w : List ℕ} {r : Walk} {answered : Result (Option ℕ) Refusal} {o' w' : List ℕ} → Refuses t s o w r answered o' w'
goes_on {s = s} g c u f tag = record { stops = record { still = λ z. absurd (begun s g c u f tag z) }; refused = λ z. absurd (begun s g c u f tag z) }

module _ {t : List ℕ} (s : Walk) {m₁ : Result (ℕ × ℕ) Refusal} (g : Gives num t s.at m₁) where
  pub entry_unplaced : {kind : ℕ} {x : Refusal} {o w : List ℕ} {r : Walk} {answered : Result (Option ℕ) Refusal} {o' w' : List ℕ} → m₁ ≡ Err x → NamesEntry kind t s o w r answered o' w'
  unfolding place_and_name
  entry_unplaced e = record { does = λ q₁ q₂ h l a out is. leads_unpassed (entry_unread _ (subst (λ (q : Result (ℕ × ℕ) Refusal). Gives num t s.at q) e g)) }

  module _ {v n : ℕ} (e : m₁ ≡ Ok (v, n)) {b : K.Counts} {y : Option K.Counts} (c : Counting s.counts b y) (u : counts_of b ≡ an_entry) where
    pub entry_full : {kind : ℕ} {o w : List ℕ} {r : Walk} {answered : Result (Option ℕ) Refusal} {o' w' : List ℕ} → y ≡ None → NamesEntry kind t s o w r answered o' w'
    unfolding place_and_name
    entry_full q = record { does = λ q₁ q₂ h l a out is. leads_unpassed (entry_many _ (subst (λ (z : Result (ℕ × ℕ) Refusal). Gives num t s.at z) e g) (subst (λ (z : Option K.Counts). Counting s.counts b z) q c) u) }

    module _ {k : K.Counts} (f : y ≡ Some k) where
      -- behind the place
      leads_entry : {P : Spot × Maybe Spot (Ident Spot) → Cur → Type 0} → Leads (maybe ident) t (cursor n s.script.names (counts_of k)) (λ i d. P (record { number = v; from = s.at }, i) d) → Leads place_and_name t (here s) P
      unfolding place_and_name counted
      leads_entry {P} next = let d = more c u f in leads_counting (λ _. an_entry) place _ (place_value s.script.names (counts_of s.counts) g e) λ _. leads_at (ap (cursor n s.script.names) d.counts) (leads_by (λ i. (record { number = v; from = s.at }, i)) {P = P} next)

      pub entry_untagged : {kind : ℕ} {m₂ : Result (ℕ × ℕ) Refusal} → Gives (below 2) t n m₂ → {x : Refusal} {o w : List ℕ} {r : Walk} {answered : Result (Option ℕ) Refusal} {o' w' : List ℕ} → m₂ ≡ Err x → NamesEntry kind t s o w r answered o' w'
      entry_untagged tag z = record { does = λ q₁ q₂ h l a out is. leads_entry (leads_unmaybe tag ident z) }

      -- it is counted, its place is written, its tag is read
      abbrev behind : Wrote → ℕ → Walk
      behind x n₂ = moved_to (with_counts (with_wrote s x) k) n₂

      module _ {x : Wrote} {o o₁ : List ℕ} {n₂ : ℕ} (put : Put s.wrote (num_b v) o x o₁) where
        is_entry : {l w : List ℕ} {a : Ground} → Is s o l w a → Is (behind x n₂) o₁ l w (say (place_b (record { number = v; from = s.at })) a)
        unfolding place_b
        is_entry {w = w} {a} i =
            let d = more c u f in
            moved_on (Writing.counted (wrote i put) a.rest (omega (arith, d.entries)) refl refl refl (λ y. y) (λ y m. marks_on d m))

        module _ {m₂ : Result (ℕ × ℕ) Refusal} (tag : Gives (below 2) t n m₂) {tg : ℕ} (z : m₂ ≡ Ok (tg, n₂)) where
          pub entry_nameless : {kind : ℕ} {r : Walk} {o' w : List ℕ} → (tg ≡ 0 → ⊥) → ((l w : List ℕ) → Walks t read_poison (say_poison 1) (behind x n₂) o₁ l w r o' l w) → NamesEntry kind t s o w r (Ok None) o' w
          unfolding declare_maybe maybe_b S.ret
          entry_nameless {w = w} ne k₁ = record {
            does = λ q₁ q₂ h l a out i. leads_entry (leads_err tag ident z ne (leads_call _ (k₁ l w) h (is_entry i) λ y _ i₁.
                leads_got (err y) (entered_at _ a (record { did = record { cur = refl; is = i₁ }; name = None; read = refl; told = λ _. nameless }))));
          }

          pub entry_declared : {kind : ℕ} {w : List ℕ} {r : Walk} {answered : Result (Option ℕ) Refusal} {o' w' : List ℕ} → tg ≡ 0 → DeclaresEntry kind t (behind x n₂) o₁ w r answered o' w' → NamesEntry kind t s o w r answered o' w'
          entry_declared eq k₁ = record {
            does = λ q₁ q₂ h l a out i.
                let d = more c u f in
                leads_entry (leads_ok tag ident z eq (leads_bind ident _ λ y b j.
                leads_got (ok y) (entered_at _ a ((k₁.does q₁ q₂ h l _ (λ y. record { is = (out (record { few = y.few; fit = y.fit })).is }) d.few (λ y. omega (arith, d.entries, (i.when (record { few = y.few; fit = y.fit })).tables.entries)) (is_entry i)).to y b j))));
          }

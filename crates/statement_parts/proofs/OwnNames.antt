-- A declared name, of which as a duplicate nothing is written but its poison; and a body's own name.
use mathlib.Core.Path.{◌≡◌, refl, sym, ap, subst, ◌∙◌}
use mathlib.Core.Bool.{Bool, true, false}
use mathlib.Core.List.{List, ◌++◌, append_assoc}
use mathlib.Core.Option.{Option, none, some}
use Prim.Native.Nat.{ℕ, ◌≤◌, ◌<◌}
use native.Mathlib.Omega.{arith}
use lib.ListN.{length}
use Rattle.std.specs.Prelude.{Result}
use Rattle.fields.specs.declared.refusal.Refusal.{Refusal}
use Rattle.std.specs.Prelude.{Ok, Err}
use Rattle.penne.specs.Reader.{Cur}
use Rattle.penne.specs.Tree.{Spot, Ident, Poison, Maybe, ok, err}
use Rattle.penne.specs.Read.{poison_fields, ident}
use Rattle.penne.specs.Write.{num_b, poison_b, ident_b}
use Rattle.penne.specs.Scopes.{Analyzer, declare_variable, next_id}
use Rattle.penne.proofs.IdsPass.{grown_declare}
use Rattle.fields.specs.declared.field.Identifier.{Identifier}
use Rattle.fields.specs.Answers.{cursor, counts_of, ident_of, identified_of, Identifies, poison_names, poison_places}
use Rattle.answer.specs.declared.wrote.Wrote.{Wrote}
use Rattle.answer.specs.Out.{Put}
use Rattle.answer.specs.Parts.{identifier_b, resolved_to}
use Rattle.answer.proofs.Fields.{identifier_bytes}
use Rattle.containers.proofs.Lists.{and_true}
use Rattle.walk.specs.declared.state.Walk.{Walk}
use Rattle.walk.specs.declared.fault.Fault.{Fault}
use Rattle.walk.specs.Walking.{moved_to, with_wrote, Ground, Good, Is, onward, silently, say, Input, Walks, fault_b, made_b, Used, Naming, Numbers, numbering}
use Rattle.walk.specs.Calls.{DeclaresBy}
use Rattle.walk.proofs.Leading.{leads_refused, is_same, walks}
use Rattle.walk.proofs.Writing.{instead, moved_on, wrote_on}
use Rattle.walk.proofs.Identifying.{identified_low}
use Rattle.types.proofs.Trying.{leads_just}
use Rattle.walk.proofs.Using.{made_used, made_refused}
use Rattle.expression_parts.proofs.Onward.{out_same}
use Rattle.penne.specs.Find.{resolved}
use Rattle.statement_parts.specs.Stating.{is_free, leaving, declared_b, Declares, name_body}
use Rattle.statement_parts.proofs.Fit.{fitting}

-- A DECLARED NAME

-- it stands in no constant's value
pub free_none : (a : Analyzer Spot) → is_free a ≡ true → a.containment.in_constexpr_of_constant ≡ none
unfolding is_free
free_none a e = go a.containment.in_constexpr_of_constant e
  where
    go : (o : Option (Ident Spot)) → ◌≡◌ {A = Bool} (elim o [ none ↦ true | some c ↦ false ]) true → o ≡ none
    go none e = refl
    go (some c) e = absurd (let z : ◌≡◌ {A = ℕ} 0 1 = cc in omega arith)

-- the ground before the name, and after it
abbrev pub before_name : Ground → List ℕ → Analyzer Spot → Ground
before_name a xs b = record { out = a.out ++ xs; st = b; rest = leaving a.rest.words (is_free b) a.rest }

abbrev pub after_name : Ground → List ℕ → Analyzer Spot → Ident Spot → Ground
after_name a xs b i = record { out = a.out ++ declared_b xs (declare_variable 4 i b).0; st = (declare_variable 4 i b).1; rest = leaving a.rest.words (is_free b) a.rest }

name_fine : (a : Ground) (xs : List ℕ) (b : Analyzer Spot) (i : Ident Spot) {from : ℕ} {j : Identifier} → (declare_variable 4 i b).0 ≡ ok (ident_of from j) → say (made_b j) (silently (declare_variable 4) i (before_name a xs b)) ≡ after_name a xs b i
unfolding declared_b
name_fine a xs b i {from} {j} e = out_same (append_assoc a.out xs _ ∙ ap (λ (ys : List ℕ). a.out ++ (xs ++ ys)) (identifier_bytes (ident_of from j)) ∙ ap (λ (y : Maybe Spot (Ident Spot)). a.out ++ declared_b xs y) (sym e))

name_bad : (a : Ground) (xs : List ℕ) (b : Analyzer Spot) (i : Ident Spot) (f : Fault) {z : Poison Spot} → (declare_variable 4 i b).0 ≡ err z → fault_b f ≡ poison_b z
    → record { out = a.out ++ (num_b 8 ++ fault_b f); st = (declare_variable 4 i b).1; rest = leaving a.rest.words (is_free b) a.rest } ≡ after_name a xs b i
unfolding declared_b
name_bad a xs b i f e q = out_same (ap (λ (ys : List ℕ). a.out ++ (num_b 8 ++ ys)) q ∙ ap (λ (y : Maybe Spot (Ident Spot)). a.out ++ declared_b xs y) (sym e))

module _ {t : List ℕ} {s : Walk} {r₁ : Result (Identifier × ℕ) Refusal} (g : Identifies t s.script.names s.at r₁) {o w : List ℕ} where
  pub declared_not : {before : Wrote} {x : Refusal} {r : Walk} {o' w' : List ℕ} → r₁ ≡ Err x → Declares t before s o w r o' w'
  declared_not e = record { does = λ h l a i₀ q xs b gr few room i. leads_refused (g.is _ ∙ ap (identified_of s.script.names s.at (counts_of s.counts)) e) }

  module _ {j : Identifier} {n : ℕ} (e : r₁ ≡ Ok (j, n)) {s₁ : Walk} {v : Used} {w' : List ℕ} (k : DeclaresBy 4 s j s.at w s₁ v w') where
    naming : Input t → (l : List ℕ) (a : Ground) (xs : List ℕ) (b : Analyzer Spot) → a.st.resolution_id ≤ b.resolution_id → s.counts.entries ≤ 1024 → (Good a → length b.variable_stack.locals < s.counts.entries)
        → Is s o l w (record { out = a.out ++ xs; st = b; rest = a.rest }) → Naming (declare_variable 4) s s.at (ident_of s.at j) (before_name a xs b) o s₁ v l w'
    unfolding leaving poison_names poison_places poison_fields
    naming h l a xs b gr few room i =
        let low = identified_low g e in
        (k.does refl refl).does (omega (arith, h.short, low.0)) low.1 few o l (before_name a xs b) (λ z. room (record { few = omega (arith, z.few); fit = (and_true a.rest.fit (is_free b) z.fit).0 })) (λ z. free_none b (and_true a.rest.fit (is_free b) z.fit).1) (fitting (is_free b) i)

    pub declared_as : {before : Wrote} {made : Identifier} {x : Wrote} {o' : List ℕ} → v ≡ Ok made → Put s₁.wrote (made_b made) o x o' → Declares t before s o w (moved_to (with_wrote s₁ x) n) o' w'
    declared_as fine put = record {
      does = λ h l a i₀ q xs b gr few room i.
          let m = naming h l a xs b gr few room i in
          leads_just (g.is _ ∙ ap (identified_of s.script.names s.at (counts_of s.counts)) e) (record {
            cur = ap (λ (y : Cur). cursor n y.names y.counts) (sym m.cur);
            is = is_same (λ z. name_fine a xs b (ident_of s.at j) (made_used (m.made (record { few = z.few; fit = z.fit })) fine)) (wrote_on m.is put);
          });
    }

    pub declared_twice : {before : Wrote} {f : Fault} {x : Wrote} {o' : List ℕ} → v ≡ Err f → Put before (num_b 8 ++ fault_b f) o x o' → Declares t before s o w (moved_to (with_wrote s₁ x) n) o' w'
    declared_twice {f = f} {x} {o' = o'} not put = record {
      does = λ h l {s₀} a i₀ q xs b gr few room i.
          let m = naming h l a xs b gr few room i in
          let up = (grown_declare 4 (ident_of s.at j) b).takes.lower in
          let i₂ = instead (fitting (is_free b) i₀) xs (omega arith) m.is (subst (λ (y : Wrote). Put y (num_b 8 ++ fault_b f) o x o') q put) in
          leads_just (g.is _ ∙ ap (identified_of s.script.names s.at (counts_of s.counts)) e) (record {
            cur = ap (λ (y : Cur). cursor n y.names y.counts) (sym m.cur);
            is = is_same (λ z. let y = made_refused (m.made (record { few = z.few; fit = z.fit })) not in name_bad a xs b (ident_of s.at j) f y.1 y.2) (moved_on i₂);
          });
    }

-- THE BODY'S NAME

name_is : (j : Identifier) (from id : ℕ) (a : Ground) → id ≡ a.st.resolution_id → numbering (say (identifier_b j.name j.place id 0) a) ≡ onward name_body ident_b (ident_of from j) a
unfolding name_body resolved
name_is j from id a e = out_same (ap (λ (n : ℕ). a.out ++ identifier_b j.name j.place n 0) e ∙ ap (λ (ys : List ℕ). a.out ++ ys) (identifier_bytes (resolved (ident_of from j) a.st.resolution_id 0)))

module _ {t : List ℕ} {s : Walk} {r₁ : Result (Identifier × ℕ) Refusal} (g : Identifies t s.script.names s.at r₁) {o l w : List ℕ} where
  pub name_not : {x : Refusal} {r : Walk} {o' l' w' : List ℕ} → r₁ ≡ Err x → Walks t ident (onward name_body ident_b) s o l w r o' l' w'
  name_not e = walks λ h a i. leads_refused (g.is _ ∙ ap (identified_of s.script.names s.at (counts_of s.counts)) e)

  pub body_named : {j : Identifier} {n : ℕ} {own : Identifier} {x : Wrote} {r : Walk} {o' : List ℕ} → r₁ ≡ Ok (j, n) → own ≡ resolved_to j s.tables.next_id 0 → Put s.wrote (made_b own) o x o' → Numbers (moved_to (with_wrote s x) n) r → Walks t ident (onward name_body ident_b) s o l w r o' l w
  unfolding name_body next_id
  body_named {j} {n} {x = x} {o' = o'} e y put nb = walks λ h a i. leads_just (g.is _ ∙ ap (identified_of s.script.names s.at (counts_of s.counts)) e) (record {
    cur = sym nb.cur;
    is = is_same (λ z. name_is j s.at s.tables.next_id a (i.when (record { few = omega (arith, z.few); fit = z.fit })).tables.next) (nb.is (wrote_on i (subst (λ (u : Identifier). Put s.wrote (made_b u) o x o') y put)));
  })

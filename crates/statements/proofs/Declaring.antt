-- Declaration: its value and type are analysed, then its name is declared; of a duplicate nothing is written but its poison.
use mathlib.Core.Path.{◌≡◌, refl, ap, ◌∙◌}
use mathlib.Core.Bool.{Bool, true, false}
use mathlib.Core.List.{List, ◌++◌, append_assoc}
use mathlib.Core.Option.{Option}
use Prim.Native.Nat.{ℕ, ◌≤◌, ◌<◌}
use native.Mathlib.Omega.{arith}
use lib.ListN.{length}
use Rattle.std.specs.Prelude.{Result, Ok}
use Rattle.fields.specs.declared.refusal.Refusal.{Refusal}
use Rattle.penne.specs.Reader.{Counts, num}
use Rattle.penne.specs.Tree.{Spot, Ident, Maybe, ok, err, Carried, expr, Expr, declaration}
use Rattle.penne.specs.Read.{ident, maybe, option, read_ty, read, read_declaration}
use Rattle.penne.specs.Write.{num_b, place_b, option_b, carried_b, node_b, stm_b}
use Rattle.penne.specs.State as S
use Rattle.penne.specs.Scopes.{Analyzer, declare_variable}
use Rattle.penne.specs.Variables.{analyze_node, analyze_option, analyze_maybe_type, declaration_of, analyze_stm}
use Rattle.penne.proofs.IdsPass.{still_option, still_carried}
use Rattle.fields.specs.Answers.{counts_of, Gives}
use Rattle.answer.specs.declared.wrote.Wrote.{Wrote}
use Rattle.answer.specs.Out.{Put}
use Rattle.answer.specs.Parts.{renumbered}
use Rattle.label_references.specs.Marked.{marked, rest}
use Rattle.label_references.proofs.Keeping.{keeps_read, keeps_ty, keeps_maybe, keeps_option}
use Rattle.walk.specs.declared.state.Walk.{Walk}
use Rattle.walk.specs.Walking.{moved_to, with_wrote, here, Rest, Ground, Is, onward, say, Walks}
use Rattle.walk.proofs.Leading.{leads_bind, leads_place, leads_call, leads_got, is_same}
use Rattle.walk.proofs.Writing.{out_is, wrote_on}
use Rattle.statement_parts.specs.Stating.{is_free, fits, leaving, stm_walk, behind, Follows, Entered, declared_b, Declares}
use Rattle.statement_parts.proofs.Free.{free_same, within_option, within_carried}
use Rattle.statement_parts.proofs.Fit.{ground_same, leaving_twice}
use Rattle.statements.proofs.Arms.{place_put}
use Rattle.statement_parts.proofs.OwnNames.{after_name}

-- THE WHOLE

declared_bytes : (p : Spot) (v : Option (Expr Spot)) (c : Carried Spot) (r : Maybe Spot (Ident Spot)) → declared_b ((num_b 0 ++ place_b p) ++ (option_b node_b v ++ carried_b c)) r ≡ stm_b (declaration_of p v c r)
unfolding declared_b declaration_of stm_b
declared_bytes p v c (ok i) = simp append_assoc
declared_bytes p v c (err z) = refl

-- value and type, as analysed
abbrev valued : Option (Expr Spot) → Analyzer Spot → Option (Expr Spot) × Analyzer Spot
valued v u = analyze_option analyze_node v u

abbrev typed : Carried Spot → Analyzer Spot → Carried Spot × Analyzer Spot
typed c u = analyze_option analyze_maybe_type c u

leaving_on : (m : Rest) (f : Bool) → leaving (leaving (rest m.words) true m).words f (leaving (rest m.words) true m) ≡ leaving (rest m.words) f m
unfolding leaving
leaving_on m f = leaving_twice (rest m.words) (rest m.words) true f m

declaration_is : (p : Spot) (v : Option (Expr Spot)) (c : Carried Spot) (i : Ident Spot) (a : Ground)
    → after_name (behind a) ((num_b 0 ++ place_b p) ++ (option_b node_b (valued v a.st).0 ++ carried_b (typed c (valued v a.st).1).0)) (typed c (valued v a.st).1).1 i ≡ stm_walk stm_b (declaration p v c i) a
unfolding behind stm_walk marked fits analyze_stm S.◌>>=◌ S.ret
declaration_is p v c i a =
    let u = (valued v a.st).1 in
    let b = (typed c u).1 in
    ground_same (ap (λ (ys : List ℕ). a.out ++ ys) (declared_bytes p (valued v a.st).0 (typed c u).0 (declare_variable 4 i b).0))
    (leaving_on a.rest (is_free b) ∙ ap (λ (f : Bool). leaving (rest a.rest.words) f a.rest) (free_same (within_carried c u) ∙ free_same (within_option v a.st)))

later : (v : Option (Expr Spot)) (c : Carried Spot) (a : Ground) → (behind a).st.resolution_id ≤ (typed c (valued v (behind a).st).1).1.resolution_id
later v c a = omega (arith, (still_option v (behind a).st).takes.lower, (still_carried c (valued v (behind a).st).1).takes.lower)

room : (v : Option (Expr Spot)) (c : Carried Spot) (a : Ground) (m n : ℕ) → n ≡ m → length a.st.variable_stack.locals < m → length (typed c (valued v (behind a).st).1).1.variable_stack.locals < n
unfolding behind
room v c a m n e f = rw ((still_carried c (valued v a.st).1).stack, (still_option v a.st).stack) (omega arith)

-- what was written so far, and the state
abbrev so_far : Spot → Option (Expr Spot) → Carried Spot → Analyzer Spot → List ℕ
so_far p v c u = (num_b 0 ++ place_b p) ++ (option_b node_b (valued v u).0 ++ carried_b (typed c (valued v u).1).0)

regroup : (p : Spot) (v : Option (Expr Spot)) (c : Carried Spot) (b : Ground) {s : Walk} {o l w : List ℕ} → Is s o l w (onward (analyze_option analyze_maybe_type) carried_b c (onward (analyze_option analyze_node) (option_b node_b) v (say (num_b 0 ++ place_b p) b)))
    → Is s o l w (record { out = b.out ++ so_far p v c b.st; st = (typed c (valued v b.st).1).1; rest = b.rest })
regroup p v c b i = out_is i (append_assoc (b.out ++ (num_b 0 ++ place_b p)) (option_b node_b (valued v b.st).0) (carried_b (typed c (valued v b.st).1).0) ∙ append_assoc b.out (num_b 0 ++ place_b p) _)

declared_is : (p : Spot) (v : Option (Expr Spot)) (c : Carried Spot) (i : Ident Spot) (a : Ground) → after_name (behind a) (so_far p v c (behind a).st) (typed c (valued v (behind a).st).1).1 i ≡ stm_walk stm_b (declaration p v c i) a
unfolding behind
declared_is p v c i a = declaration_is p v c i a

module _ {t : List ℕ} {s : Walk} {m₁ : Result (ℕ × ℕ) Refusal} (g : Gives num t s.at m₁) (left : ℕ) {o l w : List ℕ} {r : Walk} {o' l' w' : List ℕ} where
  pub declaration_goes : {v n : ℕ} {x : Wrote} {s₁ s₂ : Walk} {o₁ o₂ w₂ o₃ w₃ : List ℕ} → m₁ ≡ Ok (v, n) → Put s.wrote (num_b 0 ++ renumbered t s.at n) o x o₁
      → Walks t (option (read left expr)) (onward (analyze_option analyze_node) (option_b node_b)) (moved_to (with_wrote s x) n) o₁ l w s₁ o₂ l' w₂ → Walks t (option (maybe (read_ty left false))) (onward (analyze_option analyze_maybe_type) carried_b) s₁ o₂ l' w₂ s₂ o₃ l' w₃ → Declares t s.wrote s₂ o₃ w₃ r o' w'
      → Follows (Entered s) t (read_declaration left) s o l w r o' l' w'
  unfolding read_declaration
  declaration_goes {v} {n} {x} {s₁} {s₂} e put k₁ k₂ k₃ = record {
    does = λ h a p i. leads_place _ g e (leads_call _ k₁ h (wrote_on i (place_put 0 g e put)) λ y₁ j₁ i₁. leads_call _ k₂ h i₁ λ y₂ j₂ i₂. leads_bind ident _ λ y d q.
        let c : counts_of s₂.counts ≡ counts_of s.counts = ((keeps_option (keeps_maybe (keeps_ty left false))).at t (here s₁)).to j₂ ∙ ((keeps_option (keeps_read left expr)).at t (here (moved_to (with_wrote s x) n))).to j₁ in
        let entries : s₂.counts.entries ≡ s.counts.entries = ap (λ (z : Counts). z.entries) c in
        let z = (k₃.does h l' (behind a) i refl (so_far (record { number = v; from = s.at }) y₁ y₂ (behind a).st) (typed y₂ (valued y₁ (behind a).st).1).1 (later y₁ y₂ a) (omega (arith, p.few)) (λ f. room y₁ y₂ a s.counts.entries s₂.counts.entries entries (p.room f)) (regroup (record { number = v; from = s.at }) y₁ y₂ (behind a) i₂)).to y d q in
        leads_got (declaration _ y₁ y₂ y) (record { cur = z.cur; is = is_same (λ _. declared_is _ y₁ y₂ y a) z.is }));
  }

-- Function bodies: statements and value in a scope of their own, then the body's own name.
use mathlib.Core.Path.{◌≡◌, refl, sym, subst}
use mathlib.Core.List.{List, append_assoc}
use mathlib.Core.Option.{Option}
use Prim.Native.Nat.{ℕ}
use native.Mathlib.Omega.{arith}
use Rattle.std.specs.Prelude.{Result, Ok, Err}
use Rattle.fields.specs.declared.refusal.Refusal.{Refusal}
use Rattle.penne.specs.Reader.{below, listed}
use Rattle.penne.specs.Tree.{Spot, Ident, Poison, ok, err, expr, Expr, stmt, Stm, Body}
use Rattle.penne.specs.Read.{ident, maybe, option, read_poison, read, to_stms, read_stmt, read_body}
use Rattle.penne.specs.Write.{num_b, ident_b, maybe_b, option_b, node_b, body_b}
use Rattle.penne.specs.State as S
use Rattle.penne.specs.Scopes.{in_new_scope, with_stack, create_anonymous_resolution_id}
use Rattle.penne.specs.Scopes as Q
use Rattle.penne.specs.Variables.{analyze_node, analyze_option, analyze_in_body, analyze_body}
use Rattle.penne.proofs.IdsPass.{still_option}
use Rattle.fields.specs.Answers.{Gives}
use Rattle.answer.specs.declared.wrote.Wrote.{Wrote}
use Rattle.answer.specs.Out.{Put}
use Rattle.label_references.specs.Marked.{marked_body}
use Rattle.walk.specs.declared.state.Walk.{Walk}
use Rattle.walk.specs.Walking.{moved_to, with_wrote, Ground, Good, onward, say, say_poison, Walks, Opens, Closes, Grows, opening, closing, ok_b}
use Rattle.walk.proofs.Leading.{walks, leads_call, leads_last, leads_at}
use Rattle.walk.proofs.Writing.{moved_on, wrote_on}
use Rattle.walk.proofs.Choosing.{leads_unmaybe, leads_ok, leads_err}
use Rattle.expression_parts.proofs.Onward.{out_same}
use Rattle.statement_parts.specs.Stating.{is_free, fits_body, stm_walk, stms_walk, stms_b, body_walk, body_ok_walk, name_body}
use Rattle.statement_parts.proofs.Fit.{ground_same, leaving_same}
use Rattle.statements.proofs.Nesting.{grows_stms, good_stms}

-- THE BODY

body_is : (ts : List (Stm Spot stmt)) (v : Option (Expr Spot)) (x : Ident Spot) (a : Ground)
    → onward name_body ident_b x (closing a (onward (analyze_option analyze_node) (option_b node_b) v (stms_walk ts (opening a)))) ≡ body_ok_walk (record { statements = to_stms ts; value = v; result = x }) a
unfolding body_ok_walk marked_body fits_body ok_b body_b analyze_body analyze_in_body in_new_scope create_anonymous_resolution_id with_stack stm_walk stms_b name_body is_free S.◌>>=◌ S.ret
body_is ts v x a = out_same (simp append_assoc)

grows_body : (ts : List (Stm Spot stmt)) (v : Option (Expr Spot)) (a : Ground) → Grows a.st.variable_stack (onward (analyze_option analyze_node) (option_b node_b) v (stms_walk ts (opening a))).st.variable_stack
grows_body ts v a = subst (λ (u : Q.Scope Spot). Grows a.st.variable_stack u) (sym (still_option v (stms_walk ts (opening a)).st).stack) (grows_stms ts a)

good_body : (ts : List (Stm Spot stmt)) (v : Option (Expr Spot)) (a : Ground) → Good (onward (analyze_option analyze_node) (option_b node_b) v (stms_walk ts (opening a))) → Good a
good_body ts v a z = good_stms ts a (record { few = omega (arith, z.few, (still_option v (stms_walk ts (opening a)).st).takes.lower); fit = z.fit })

pub bodied : {t : List ℕ} {s s₁ s₂ s₃ s₄ : Walk} {o l w o₁ l₁ w₁ o₂ l₂ w₂ w₃ : List ℕ} {r : Walk} {o' : List ℕ} → Opens s s₁ → Walks t (listed (read_stmt 63)) stms_walk s₁ o l w s₂ o₁ l₁ w₁
    → Walks t (option (read 63 expr)) (onward (analyze_option analyze_node) (option_b node_b)) s₂ o₁ l₁ w₁ s₃ o₂ l₂ w₂ → Closes s₃ s.tables.scope w₂ s₄ w₃ → Walks t ident (onward name_body ident_b) s₄ o₂ l₂ w₃ r o' l₂ w₃ → Walks t (read_body 63) body_ok_walk s o l w r o' l₂ w₃
unfolding read_body
bodied op k₁ k₂ cl k₃ = walks λ h a i. leads_at op.cur (leads_call _ k₁ h (op.is i) λ ts _ i₁. leads_call _ k₂ h i₁ λ v _ i₂. leads_at cl.cur (leads_last (λ x. record { statements = to_stms ts; value = v; result = x }) k₃ h (cl.is refl i i₂ (grows_body ts v a) (good_body ts v a)) λ x _. body_is ts v x a))

-- A BODY THAT MAY BE POISON

poison_body : (z : Poison Spot) (a : Ground) → say_poison 1 z a ≡ body_walk (err z) a
unfolding body_walk marked_body fits_body analyze_body maybe_b S.ret
poison_body z a = ground_same refl (leaving_same a.rest)

ok_body : (b : Body Spot) (a : Ground) → body_ok_walk b (say (num_b 0) a) ≡ body_walk (ok b) a
unfolding body_walk body_ok_walk marked_body analyze_body analyze_in_body in_new_scope create_anonymous_resolution_id ok_b maybe_b S.◌>>=◌ S.ret
ok_body b a = out_same (append_assoc a.out _ _)

module _ {t : List ℕ} {s : Walk} {m₁ : Result (ℕ × ℕ) Refusal} (g : Gives (below 2) t s.at m₁) {o l w : List ℕ} {r : Walk} {o' l' w' : List ℕ} where
  pub maybe_not : {x : Refusal} → m₁ ≡ Err x → Walks t (maybe (read_body 63)) body_walk s o l w r o' l' w'
  maybe_not e = walks λ h a i. leads_unmaybe g _ e

  module _ {v n : ℕ} (e : m₁ ≡ Ok (v, n)) where
    pub maybe_poison : (v ≡ 0 → ⊥) → Walks t read_poison (say_poison 1) (moved_to s n) o l w r o' l' w' → Walks t (maybe (read_body 63)) body_walk s o l w r o' l' w'
    maybe_poison z k = walks λ h a i. leads_err g _ e z (leads_last err k h (moved_on i) λ y _. poison_body y a)

    pub maybe_ok : {x : Wrote} {o₁ : List ℕ} → v ≡ 0 → Put s.wrote (num_b 0) o x o₁ → Walks t (read_body 63) body_ok_walk (moved_to (with_wrote s x) n) o₁ l w r o' l' w' → Walks t (maybe (read_body 63)) body_walk s o l w r o' l' w'
    maybe_ok z put k = walks λ h a i. leads_ok g _ e z (leads_last ok k h (wrote_on i put) λ y _. ok_body y a)

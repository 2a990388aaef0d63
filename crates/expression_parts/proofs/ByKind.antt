-- An expression by its kind, a step by its kind; bytes that are no numbers.
use mathlib.Core.Path.{◌≡◌, refl, sym, ap, subst, ◌∙◌}
use mathlib.Core.Bool.{Bool, true, false}
use mathlib.Core.List.{List, ◌++◌}
use Prim.Native.Nat.{ℕ, zero, suc, ◌+◌, ◌-◌, ◌≤◌}
use native.Mathlib.Omega.{arith}
use lib.Dec.{leb}
use lib.ListN.{get_or, length, take, drop, length-drop}
use lib.Seq.{length-take-le}
use borrow.Author.Tests.{leb-true}
use Rattle.penne.specs.Reader.{Cur, Got, got, refused, Reader, raw, bytes, num, moved}
use Rattle.penne.specs.Tree.{Spot, Ty, Node, one, step, bad_expr}
use Rattle.penne.specs.Read.{Readers, expr_of, step_of, ExprKind, expr_kinds, k_bad_expr, read_poison}
use Rattle.penne.specs.Write.{num_b, bytes_b, node_b}
use Rattle.penne.specs.State as S
use Rattle.penne.specs.Variables.{analyze_node}
use Rattle.nodes.proofs.Nodes.{bad_kind}
use Rattle.answer.specs.Parts.{renumbered, span}
use Rattle.walk.specs.declared.state.Walk.{Walk}
use Rattle.walk.specs.Walking.{Ground, onward, say_poison, Walks}
use Rattle.walk.proofs.Leading.{never, same_value, same_cur, bind_got, walks, leads_call, leads_end}
use Rattle.walk.proofs.Copying.{spells_num, spells_is}

-- EXPRESSIONS

bad_arm : (R : Readers) (T : Reader (Ty Spot)) {t : List ℕ} {s : Walk} {o l w : List ℕ} {r : Walk} {o' l' w' : List ℕ} → Walks t read_poison (say_poison 15) s o l w r o' l' w' → Walks t (expr_of R T k_bad_expr) (λ x a. onward analyze_node node_b x a) s o l w r o' l' w'
unfolding expr_of analyze_node node_b S.ret
bad_arm R T k = walks λ h a i. leads_call _ k h i λ z _ i₁. leads_end (bad_expr z) refl i₁ λ _. refl

module _ (R : Readers) (T : Reader (Ty Spot)) (k : ℕ) {t : List ℕ} {s : Walk} {o l w : List ℕ} {r : Walk} {o' l' w' : List ℕ} where
  pub walk_arm : {j : ℕ} → k ≡ j → Walks t (expr_of R T (get_or expr_kinds j k_bad_expr)) (λ x a. onward analyze_node node_b x a) s o l w r o' l' w' → Walks t (expr_of R T (get_or expr_kinds k k_bad_expr)) (λ x a. onward analyze_node node_b x a) s o l w r o' l' w'
  walk_arm e h = subst (λ (i : ℕ). Walks t (expr_of R T (get_or expr_kinds i k_bad_expr)) (λ x a. onward analyze_node node_b x a) s o l w r o' l' w') (sym e) h

  pub walk_poison : 15 ≤ k → Walks t read_poison (say_poison 15) s o l w r o' l' w' → Walks t (expr_of R T (get_or expr_kinds k k_bad_expr)) (λ x a. onward analyze_node node_b x a) s o l w r o' l' w'
  walk_poison h g = subst (λ (x : ExprKind). Walks t (expr_of R T x) (λ x a. onward analyze_node node_b x a) s o l w r o' l' w') (sym (bad_kind k h)) (bad_arm R T g)

-- STEPS

module _ (R : Readers) {t : List ℕ} {f : Node Spot (one step) → Ground → Ground} {s : Walk} {o l w : List ℕ} {r : Walk} {o' l' w' : List ℕ} where
  pub walk_element : (k : ℕ) → k ≡ 0 → Walks t (step_of R 0) f s o l w r o' l' w' → Walks t (step_of R k) f s o l w r o' l' w'
  walk_element k e h = subst (λ (i : ℕ). Walks t (step_of R i) f s o l w r o' l' w') (sym e) h

  pub walk_member : (R' : Readers) (k : ℕ) → (k ≡ 0 → ⊥) → Walks t (step_of R' 1) f s o l w r o' l' w' → Walks t (step_of R k) f s o l w r o' l' w'
  unfolding step_of
  walk_member R' zero z h = absurd (z refl)
  walk_member R' (suc k) z h = h

-- BYTES

-- what n bytes are
record Text (n from to : ℕ) (s b : List ℕ) : Type 0 where
  pub is : b ≡ span s from to
  pub long : length b ≡ n

raw_go : (n : ℕ) (s : List ℕ) (c : Cur) (x : Bool) → leb (c.at + n) (length s) ≡ x → {b : List ℕ} {d : Cur} → ◌≡◌ {A = Got (List ℕ)} (elim x [ true ↦ got (take n (drop c.at s)) (moved c (c.at + n)) | false ↦ refused 3 c.at ]) (got b d) → Text n c.at d.at s b
unfolding span moved
raw_go n s c true e {b} {d} g =
    let h = leb-true (c.at + n) (length s) e in
    let q : c.at + n ≡ d.at = ap (λ (x : Cur). x.at) (same_cur g) in
    let z : d.at - c.at ≡ n = omega arith in
    record { is = sym (same_value g) ∙ ap (λ (i : ℕ). take i (drop c.at s)) (sym z); long = ap length (sym (same_value g)) ∙ length-take-le n (drop c.at s) (omega (arith, length-drop c.at s)) }
raw_go n s c false e g = never g

raw_got : (n : ℕ) (s : List ℕ) (c : Cur) {b : List ℕ} {d : Cur} → raw n s c ≡ got b d → Text n c.at d.at s b
unfolding raw
raw_got n s c g = raw_go n s c (leb (c.at + n) (length s)) refl g

pub raw_is : (n : ℕ) (s : List ℕ) (c : Cur) {b : List ℕ} {d : Cur} → raw n s c ≡ got b d → b ≡ span s c.at d.at
raw_is n s c g = (raw_got n s c g).is

-- a length and so many bytes, where the length ends at `to`
pub bytes_is : (s : List ℕ) (c : Cur) {b : List ℕ} {d : Cur} {v : ℕ} {e : Cur} → num s c ≡ got v e → bytes s c ≡ got b d → renumbered s c.at e.at ++ span s e.at d.at ≡ bytes_b b
unfolding bytes bytes_b
bytes_is s c {b} {d} {v} {e} h g =
    let z = bind_got num raw s c g in
    let k = sym h ∙ z.2 in
    let x = raw_got z.0 s z.1 z.3 in
    let q : z.1.at ≡ e.at = ap (λ (y : Cur). y.at) (sym (same_cur k)) in
    let n : v ≡ length b = same_value k ∙ sym x.long in
    ap (λ (l : List ℕ). l ++ span s e.at d.at) (spells_is (spells_num s c h)) ∙ ap (λ (i : ℕ). num_b i ++ span s e.at d.at) n ∙ ap (λ (l : List ℕ). num_b (length b) ++ l) (ap (λ (i : ℕ). span s i d.at) (sym q) ∙ sym x.is)

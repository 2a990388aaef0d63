-- Where a walk is that misses a declaration, `flow` says so.
use Prim.Native.Nat.{ℕ, ◌+◌}
use mathlib.Core.Bool.{Bool, true, false, not}
use mathlib.Core.List.{List, ◌∷◌}
use mathlib.Core.Path.{◌≡◌, refl, sym, ◌∙◌, ap}
use mathlib.Core.Option.{some}
use native.Mathlib.Omega.{arith}
use lib.ListN.{get_elem?}
use lib.Dec.{eqb}
use borrow.Author.Tests.{eq-eqb}
use Rattle.penne.specs.Find.{is_in}
use Rattle.penne.specs.Walks.{Act, use_of, run, jump, target, fork, past, Walk, start, examine, declare, pass_goto, follow_goto, pass_label, then_branch, else_branch, pass_else}
use Rattle.penne.proofs.Skeleton.{Sk, skip, seq, reads, runs, jumps, marks, either, scoped, flat, len, Miss, miss, flow, At, at_read, at_run, at_jump, at_mark, at_fork, at_past, in_first, in_second, in_then, in_else, in_scope}
use Rattle.penne.proofs.Booleans.{true_false, or_left, or_right, false_or_left, false_or_right, one_zero}
use Rattle.penne.proofs.WalkSteps.{bounds, empty, entry, passes, Next, on, fork_to, past_to, find, leave, stay}
use Rattle.penne.proofs.SkeletonLabels.{jumps_to, has_mark, hides, w_scoped, Well, w_either, w_seq}

-- LABELS

-- what waits goes on waiting
grow : (n l : ℕ) (s : Miss) (a : Sk) → s.at l ≡ true → (flow n a s).at l ≡ true
unfolding flow miss
grow n l s skip h = h
grow n l s (seq a c) h = grow n l _ c (grow n l s a h)
grow n l s (reads u t) h = h
grow n l s (runs m) h = h
grow n l s (jumps m) h = or_left _ _ h
grow n l s (marks m) h = h
grow n l s (either a c) h = grow n l (miss s.here (flow n a s).at) c (grow n l s a h)
grow n l s (scoped a) h = grow n l s a h

-- an act's label
unfoldable label_of : Act → ℕ
label_of (use_of u t) = 0
label_of (run m) = 0
label_of (jump l) = l
label_of (target l) = l
label_of (fork k) = 0
label_of (past k) = 0

-- a goto
unfoldable is_jump : Act → Bool
is_jump (use_of u t) = false
is_jump (run m) = false
is_jump (jump l) = true
is_jump (target l) = false
is_jump (fork k) = false
is_jump (past k) = false

-- a label
unfoldable is_target : Act → Bool
is_target (use_of u t) = false
is_target (run m) = false
is_target (jump l) = false
is_target (target l) = true
is_target (fork k) = false
is_target (past k) = false

-- no other act is one
not_jump : {B : Type 0} {x y : Act} {l : ℕ} → is_jump y ≡ false → x ≡ y → x ≡ jump l → B
unfolding is_jump
not_jump f e g = true_false (sym (ap is_jump g) ∙ ap is_jump e ∙ f)

not_target : {B : Type 0} {x y : Act} {l : ℕ} → is_target y ≡ false → x ≡ y → x ≡ target l → B
unfolding is_target
not_target f e g = true_false (sym (ap is_target g) ∙ ap is_target e ∙ f)

-- a goto that may be missing n makes its label wait
leap : {n p k l : ℕ} {x : Act} {b : Bool} {s : Miss} (a : Sk) → At n p x b a k s → x ≡ jump l → b ≡ true → (jumps_to l a ≡ true) × ((flow n a s).at l ≡ true)
unfolding flow miss is_jump jumps_to label_of
leap skip i e t = elim i [ ]
leap {n} {l = l} (seq a c) (in_first i) e t = let (f, g) = leap a i e t in (or_left _ _ f, grow n l _ c g)
leap {k = k} {l = l} (seq a c) (in_second i) e t = let (f, g) = leap {k = k + len a} c i e t in (or_right (jumps_to l a) _ f, g)
leap (reads u t) (at_read q x y) e t' = not_jump refl x e
leap (runs m) (at_run q x y) e t = not_jump refl x e
leap {l = l} {s = s} (jumps m) (at_jump q x y) e t = let z : eqb l m ≡ true = eq-eqb l m (ap label_of (sym e ∙ x)) in (z, or_right (s.at l) _ (rw (sym y ∙ t, z)))
leap (marks m) (at_mark q x y) e t = not_jump refl x e
leap (either a c) (at_fork q x y) e t = not_jump refl x e
leap (either a c) (at_past q x y) e t = not_jump refl x e
leap {n = n} {k = k} {l = l} {s = s} (either a c) (in_then i) e t = let (f, g) = leap {k = k + 1} a i e t in (or_left _ _ f, grow n l (miss s.here (flow n a s).at) c g)
leap {k = k} {l = l} (either a c) (in_else i) e t = let (f, g) = leap {k = k + 1 + len a + 1} c i e t in (or_right (jumps_to l a) _ f, g)
leap (scoped a) (in_scope i) e t = leap a i e t

-- a label's act is a label of the skeleton
pub marked : {n p k l : ℕ} {x : Act} {b : Bool} {s : Miss} (a : Sk) → At n p x b a k s → x ≡ target l → has_mark l a ≡ true
unfolding is_target has_mark label_of
marked skip i e = elim i [ ]
marked (seq a c) (in_first i) e = or_left _ _ (marked a i e)
marked {k = k} {l = l} (seq a c) (in_second i) e = or_right (has_mark l a) _ (marked {k = k + len a} c i e)
marked (reads u t) (at_read q x y) e = not_target refl x e
marked (runs m) (at_run q x y) e = not_target refl x e
marked (jumps m) (at_jump q x y) e = not_target refl x e
marked {l = l} (marks m) (at_mark q x y) e = eq-eqb l m (ap label_of (sym e ∙ x))
marked (either a c) (at_fork q x y) e = not_target refl x e
marked (either a c) (at_past q x y) e = not_target refl x e
marked {k = k} (either a c) (in_then i) e = or_left _ _ (marked {k = k + 1} a i e)
marked {k = k} {l = l} (either a c) (in_else i) e = or_right (has_mark l a) _ (marked {k = k + 1 + len a + 1} c i e)
marked (scoped a) (in_scope i) e = marked a i e

-- what waits for a label that is not hidden is missed there
land : {n p k l : ℕ} {x : Act} {b : Bool} {s : Miss} (a : Sk) → At n p x b a k s → x ≡ target l → hides l a ≡ false → s.at l ≡ true → b ≡ true
unfolding is_target hides label_of
land skip i e h w = elim i [ ]
land (seq a c) (in_first i) e h w = land a i e (false_or_left _ _ h) w
land {n = n} {k = k} {l = l} {s = s} (seq a c) (in_second i) e h w = land {k = k + len a} c i e (false_or_right (hides l a) _ h) (grow n l s a w)
land (reads u t) (at_read q x y) e h w = not_target refl x e
land (runs m) (at_run q x y) e h w = not_target refl x e
land (jumps m) (at_jump q x y) e h w = not_target refl x e
land {l = l} {s = s} (marks m) (at_mark q x y) e h w = let z : l ≡ m = ap label_of (sym e ∙ x) in y ∙ or_right s.here _ (ap s.at (sym z) ∙ w)
land (either a c) (at_fork q x y) e h w = not_target refl x e
land (either a c) (at_past q x y) e h w = not_target refl x e
land (either a c) (in_then i) e h w = true_false (sym (marked a i e) ∙ false_or_left _ _ h)
land {l = l} (either a c) (in_else i) e h w = true_false (sym (marked c i e) ∙ false_or_right (has_mark l a) _ h)
land (scoped a) (in_scope i) e h w = true_false (sym (marked a i e) ∙ h)

-- a goto that is followed
follow : {n p q k l : ℕ} {x y : Act} {b d : Bool} {s : Miss} (a : Sk) → Well a → At n p x b a k s → x ≡ jump l → b ≡ true → At n q y d a k s → y ≡ target l → d ≡ true
unfolding is_target is_jump
follow skip w i e t j e' = elim i [ ]
follow (seq a c) (w_seq v w f g) (in_first i) e t (in_first j) e' = follow a v i e t j e'
follow (seq a c) (w_seq v w f g) (in_first i) e t (in_second j) e' = let (z, z') = leap a i e t in land c j e' (g _ z) z'
follow (seq a c) (w_seq v w f g) (in_second i) e t (in_first j) e' = let (z, z') = leap c i e t in true_false (sym (marked a j e') ∙ f _ z)
follow {k = k} (seq a c) (w_seq v w f g) (in_second i) e t (in_second j) e' = follow {k = k + len a} c w i e t j e'
follow (reads u t) w (at_read q x y) e t' j e' = not_jump refl x e
follow (runs m) w (at_run q x y) e t j e' = not_jump refl x e
follow (jumps m) w (at_jump q x y) e t (at_jump q₁ x₁ y₁) e' = not_target refl x₁ e'
follow (marks m) w (at_mark q x y) e t j e' = not_jump refl x e
follow (either a c) w (at_fork q x y) e t j e' = not_jump refl x e
follow (either a c) w (at_past q x y) e t j e' = not_jump refl x e
follow (either a c) w (in_then i) e t (at_fork q₁ x₁ y₁) e' = not_target refl x₁ e'
follow (either a c) w (in_then i) e t (at_past q₁ x₁ y₁) e' = not_target refl x₁ e'
follow {k = k} (either a c) (w_either v w f g) (in_then i) e t (in_then j) e' = follow {k = k + 1} a v i e t j e'
follow (either a c) (w_either v w f g) (in_then i) e t (in_else j) e' = let (z, z') = leap a i e t in true_false (sym (marked c j e') ∙ f _ z)
follow (either a c) w (in_else i) e t (at_fork q₁ x₁ y₁) e' = not_target refl x₁ e'
follow (either a c) w (in_else i) e t (at_past q₁ x₁ y₁) e' = not_target refl x₁ e'
follow (either a c) (w_either v w f g) (in_else i) e t (in_then j) e' = let (z, z') = leap c i e t in true_false (sym (marked a j e') ∙ g _ z)
follow {k = k} (either a c) (w_either v w f g) (in_else i) e t (in_else j) e' = follow {k = k + 1 + len a + 1} c w i e t j e'
follow (scoped a) (w_scoped v) (in_scope i) e t (in_scope j) e' = follow a v i e t j e'

-- one place has one act
same_act : {n p k : ℕ} {x y : Act} {b d : Bool} {s : Miss} (a : Sk) → At n p x b a k s → At n p y d a k s → y ≡ x
same_act skip i j = elim i [ ]
same_act (seq a c) (in_first i) (in_first j) = same_act a i j
same_act (seq a c) (in_first i) (in_second j) = let (f, g) = bounds a i in let (f', g') = bounds c j in one_zero (omega arith)
same_act (seq a c) (in_second i) (in_first j) = let (f, g) = bounds c i in let (f', g') = bounds a j in one_zero (omega arith)
same_act {k = k} (seq a c) (in_second i) (in_second j) = same_act {k = k + len a} c i j
same_act (reads u t) (at_read q x y) (at_read q₁ x₁ y₁) = x₁ ∙ sym x
same_act (runs m) (at_run q x y) (at_run q₁ x₁ y₁) = x₁ ∙ sym x
same_act (jumps l) (at_jump q x y) (at_jump q₁ x₁ y₁) = x₁ ∙ sym x
same_act (marks l) (at_mark q x y) (at_mark q₁ x₁ y₁) = x₁ ∙ sym x
same_act (either a c) (at_fork q x y) (at_fork q₁ x₁ y₁) = x₁ ∙ sym x
same_act (either a c) (at_fork q x y) (at_past q₁ x₁ y₁) = one_zero (omega arith)
same_act (either a c) (at_fork q x y) (in_then j) = let (f, g) = bounds a j in one_zero (omega arith)
same_act (either a c) (at_fork q x y) (in_else j) = let (f, g) = bounds c j in one_zero (omega arith)
same_act (either a c) (at_past q x y) (at_fork q₁ x₁ y₁) = one_zero (omega arith)
same_act (either a c) (at_past q x y) (at_past q₁ x₁ y₁) = x₁ ∙ sym x
same_act (either a c) (at_past q x y) (in_then j) = let (f, g) = bounds a j in one_zero (omega arith)
same_act (either a c) (at_past q x y) (in_else j) = let (f, g) = bounds c j in one_zero (omega arith)
same_act (either a c) (in_then i) (at_fork q₁ x₁ y₁) = let (f, g) = bounds a i in one_zero (omega arith)
same_act (either a c) (in_then i) (at_past q₁ x₁ y₁) = let (f, g) = bounds a i in one_zero (omega arith)
same_act {k = k} (either a c) (in_then i) (in_then j) = same_act {k = k + 1} a i j
same_act (either a c) (in_then i) (in_else j) = let (f, g) = bounds a i in let (f', g') = bounds c j in one_zero (omega arith)
same_act (either a c) (in_else i) (at_fork q₁ x₁ y₁) = let (f, g) = bounds c i in one_zero (omega arith)
same_act (either a c) (in_else i) (at_past q₁ x₁ y₁) = let (f, g) = bounds c i in one_zero (omega arith)
same_act (either a c) (in_else i) (in_then j) = let (f, g) = bounds c i in let (f', g') = bounds a j in one_zero (omega arith)
same_act {k = k} (either a c) (in_else i) (in_else j) = same_act {k = k + 1 + len a + 1} c i j
same_act (scoped a) (in_scope i) (in_scope j) = same_act a i j

-- WALKS

-- before the first act nothing ran, and no goto was met
unfoldable pub fresh : Miss
fresh = miss true (λ l. false)

-- what the skeleton says of place p is that a walk may stand there that misses n
pub record Said (n : ℕ) (a : Sk) (p : ℕ) : Type 0 where
  pub inside : (x : Act) (b : Bool) → At n p x b a 0 fresh → b ≡ true
  pub behind : p ≡ len a → (flow n a fresh).here ≡ true

-- a step, or a goto that is followed, goes on to where the skeleton says so
said_next : {n p q : ℕ} {x : Act} (a : Sk) → get_elem? (flat a) p ≡ some x → Next n p x q → Said n a p → Said n a q
said_next {n} {p} {q} {x} a e h w =
    let (b, i) = find n a 0 fresh p x p (omega arith) e in
    record {
      inside = λ y d j. stay a i (w.inside x b i) h j;
      behind = λ f. leave a i (w.inside x b i) h (omega arith);
    }

said_follow : {n p q l : ℕ} (a : Sk) → Well a → get_elem? (flat a) p ≡ some (jump l) → get_elem? (flat a) q ≡ some (target l) → Said n a p → Said n a q
said_follow {n} {p} {q} {l} a v e f w =
    let (b, i) = find n a 0 fresh p (jump l) p (omega arith) e in
    let (b', i') = find n a 0 fresh q (target l) q (omega arith) f in
    record {
      inside = λ y d j. follow a v i refl (w.inside _ b i) j (same_act a i' j);
      behind = λ g. let (z, z') = bounds a i' in one_zero (omega arith);
    }

-- what a walk that runs m does not miss
is_in_head : (n m : ℕ) (ms : List ℕ) → is_in n (m ∷ ms) ≡ false → eqb n m ≡ false
unfolding is_in
is_in_head n m ms h = go (eqb n m) refl
  where
    go : (b : Bool) → eqb n m ≡ b → eqb n m ≡ false
    go true e = let z : true ≡ false = rw (e, is_in) at h in true_false z
    go false e = e

is_in_tail : (n m : ℕ) (ms : List ℕ) → is_in n (m ∷ ms) ≡ false → is_in n ms ≡ false
unfolding is_in
is_in_tail n m ms h = rw (is_in_head n m ms h, is_in) at h

-- a walk that misses n is where the skeleton says so
pub sound : {n : ℕ} (a : Sk) {p : ℕ} {ran : List ℕ} → Well a → Walk (flat a) p ran → is_in n ran ≡ false → Said n a p
unfolding passes fresh miss
sound {n} a v start h = record { inside = λ x b i. entry a i refl refl; behind = λ e. empty n _ a (sym e) refl }
sound a v (examine w e) h = said_next a e (on refl refl) (sound a v w h)
sound {n} a v (declare w e) h = said_next a e (on refl (ap not (is_in_head _ _ _ h))) (sound a v w (is_in_tail _ _ _ h))
sound a v (pass_goto w e) h = said_next a e (on refl refl) (sound a v w h)
sound a v (follow_goto w e f) h = said_follow a v e f (sound a v w h)
sound a v (pass_label w e) h = said_next a e (on refl refl) (sound a v w h)
sound a v (then_branch w e) h = said_next a e (on refl refl) (sound a v w h)
sound a v (else_branch w e) h = said_next a e (fork_to _ refl refl) (sound a v w h)
sound a v (pass_else w e) h = said_next a e (past_to _ refl refl) (sound a v w h)

-- A step of a walk that follows no goto stays within what `flow` says.
use Prim.Native.Nat.{ℕ, zero, suc, ◌+◌, ◌<◌, ◌≤◌}
use mathlib.Core.Bool.{Bool, true, false, ◌||◌, not}
use mathlib.Core.List.{List, [], ◌∷◌, ◌++◌}
use mathlib.Core.Path.{◌≡◌, refl, sym, ◌∙◌, ap}
use mathlib.Core.Option.{some}
use native.Mathlib.Omega.{arith}
use lib.ListN.{length, get_elem?, length-append}
use lib.Dec.{eqb}
use mathlib.Core.Logic.{◌⊎◌, inl, inr}
use Rattle.penne.specs.Walks.{Act, use_of, run, jump, target, fork, past}
use Rattle.penne.proofs.Skeleton.{Sk, skip, seq, reads, runs, jumps, marks, either, scoped, flat, len, Miss, miss, flow, At, at_read, at_run, at_jump, at_mark, at_fork, at_past, in_first, in_second, in_then, in_else, in_scope}
use Rattle.penne.proofs.FlowIsWalked.{either-len}
use Rattle.penne.proofs.Booleans.{true_false, or_left, or_right, none_some, one_zero}

-- an act of two texts is one of the first or one of the second
get_split : (xs ys : List Act) (j : ℕ) (x : Act) → get_elem? (xs ++ ys) j ≡ some x → (get_elem? xs j ≡ some x) ⊎ ((i : ℕ) × (j ≡ length xs + i) × (get_elem? ys i ≡ some x))
get_split [] ys j x h = inr (j, omega arith, h)
get_split (y ∷ xs) ys zero x h = inl h
get_split (y ∷ xs) ys (suc j) x h = go (get_split xs ys j x h)
  where
    go : (get_elem? xs j ≡ some x) ⊎ ((i : ℕ) × (j ≡ length xs + i) × (get_elem? ys i ≡ some x)) → (get_elem? xs j ≡ some x) ⊎ ((i : ℕ) × (suc j ≡ suc (length xs) + i) × (get_elem? ys i ≡ some x))
    go (inl e) = inl e
    go (inr (i, e, f)) = inr (i, omega arith, f)

-- an act of a text of one
get_one : (y x : Act) (j : ℕ) → get_elem? (y ∷ []) j ≡ some x → (j ≡ 0) × (x ≡ y)
get_one y x zero h = (refl, cc)
get_one y x (suc j) h = none_some x h

-- every act of the text is somewhere in the skeleton
pub find : (n : ℕ) (a : Sk) (k : ℕ) (s : Miss) (j : ℕ) (x : Act) (p : ℕ) → p ≡ k + j → get_elem? (flat a) j ≡ some x → (b : Bool) × At n p x b a k s
unfolding flat
find n skip k s j x p q h = none_some x h
find n (seq a c) k s j x p q h = go (find n a k s j x p q) (λ i. find n c (k + len a) (flow n a s) i x p) (get_split (flat a) (flat c) j x h)
  where
    go : (get_elem? (flat a) j ≡ some x → (b : Bool) × At n p x b a k s) → ((i : ℕ) → p ≡ k + len a + i → get_elem? (flat c) i ≡ some x → (b : Bool) × At n p x b c (k + len a) (flow n a s)) → (get_elem? (flat a) j ≡ some x) ⊎ ((i : ℕ) × (j ≡ length (flat a) + i) × (get_elem? (flat c) i ≡ some x)) → (b : Bool) × At n p x b (seq a c) k s
    go r₁ r₂ (inl e) = let (b, i) = r₁ e in (b, in_first i)
    go r₁ r₂ (inr (i, f, e)) = let (b, i) = r₂ i (omega arith) e in (b, in_second i)
find n (reads u t) k s j x p q h = let (e, f) = get_one _ x j h in let g : p ≡ k = omega arith in (s.here, at_read g f refl)
find n (runs m) k s j x p q h = let (e, f) = get_one _ x j h in let g : p ≡ k = omega arith in (s.here, at_run g f refl)
find n (jumps l) k s j x p q h = let (e, f) = get_one _ x j h in let g : p ≡ k = omega arith in (s.here, at_jump g f refl)
find n (marks l) k s j x p q h = let (e, f) = get_one _ x j h in let g : p ≡ k = omega arith in (s.here || s.at l, at_mark g f refl)
find n (either a c) k s zero x p q h = let g : p ≡ k = omega arith in let f : x ≡ fork (len a + 1) = cc in (s.here, at_fork g f refl)
find n (either a c) k s (suc j) x p q h = go (find n a (k + 1) s j x p (omega arith)) (λ i. find n c (k + 1 + len a + 1) (miss s.here (flow n a s).at) i x p) (get_split (flat a) _ j x h)
  where
    go₂ : ((i : ℕ) → p ≡ k + 1 + len a + 1 + i → get_elem? (flat c) i ≡ some x → (b : Bool) × At n p x b c (k + 1 + len a + 1) (miss s.here (flow n a s).at)) → (i : ℕ) → j ≡ length (flat a) + i → get_elem? (past (len c) ∷ flat c) i ≡ some x → (b : Bool) × At n p x b (either a c) k s
    go₂ r zero f e = let g : p ≡ k + 1 + len a = omega arith in let f' : x ≡ past (len c) = cc in ((flow n a s).here, at_past g f' refl)
    go₂ r (suc i) f e = let (b, i) = r i (omega arith) e in (b, in_else i)

    go : (get_elem? (flat a) j ≡ some x → (b : Bool) × At n p x b a (k + 1) s) → ((i : ℕ) → p ≡ k + 1 + len a + 1 + i → get_elem? (flat c) i ≡ some x → (b : Bool) × At n p x b c (k + 1 + len a + 1) (miss s.here (flow n a s).at)) → (get_elem? (flat a) j ≡ some x) ⊎ ((i : ℕ) × (j ≡ length (flat a) + i) × (get_elem? (past (len c) ∷ flat c) i ≡ some x)) → (b : Bool) × At n p x b (either a c) k s
    go r₁ r₂ (inl e) = let (b, i) = r₁ e in (b, in_then i)
    go r₁ r₂ (inr (i, f, e)) = go₂ r₂ i f e
find n (scoped a) k s j x p q h = let (b, i) = find n a k s j x p q h in (b, in_scope i)

-- it stands between the skeleton's ends
pub bounds : {n p k : ℕ} {x : Act} {b : Bool} {s : Miss} (a : Sk) → At n p x b a k s → (k ≤ p) × (p < k + len a)
unfolding flat
bounds skip i = elim i [ ]
bounds (seq a c) (in_first i) = let (e, f) = bounds a i in (e, omega (arith, length-append (flat a) (flat c)))
bounds {k = k} (seq a c) (in_second i) = let (e, f) = bounds {k = k + len a} c i in (omega arith, omega (arith, length-append (flat a) (flat c)))
bounds (reads u t) (at_read q x y) = (omega arith, omega arith)
bounds (runs m) (at_run q x y) = (omega arith, omega arith)
bounds (jumps l) (at_jump q x y) = (omega arith, omega arith)
bounds (marks l) (at_mark q x y) = (omega arith, omega arith)
bounds (either a c) (at_fork q x y) = (omega arith, omega (arith, either-len a c))
bounds (either a c) (at_past q x y) = (omega arith, omega (arith, either-len a c))
bounds {k = k} (either a c) (in_then i) = let (e, f) = bounds {k = k + 1} a i in (omega arith, omega (arith, either-len a c))
bounds {k = k} (either a c) (in_else i) = let (e, f) = bounds {k = k + 1 + len a + 1} c i in (omega arith, omega (arith, either-len a c))
bounds (scoped a) (in_scope i) = bounds a i

-- a skeleton without acts changes nothing
pub empty : (n : ℕ) (s : Miss) (a : Sk) → len a ≡ 0 → s.here ≡ true → (flow n a s).here ≡ true
unfolding flat flow miss
empty n s skip e h = h
empty n s (seq a c) e h = empty n (flow n a s) c (omega (arith, length-append (flat a) (flat c))) (empty n s a (omega (arith, length-append (flat a) (flat c))) h)
empty n s (reads u t) e h = h
empty n s (runs m) e h = let z : ◌≡◌ {A = ℕ} 1 0 = e in cc
empty n s (jumps l) e h = h
empty n s (marks l) e h = rw h
empty n s (either a c) e h = let z : ◌≡◌ {A = ℕ} 1 0 = omega arith in cc
empty n s (scoped a) e h = empty n s a e h

-- what stands at the entrance is missed at the first act
pub entry : {n p k : ℕ} {x : Act} {b : Bool} {s : Miss} (a : Sk) → At n p x b a k s → p ≡ k → s.here ≡ true → b ≡ true
unfolding flat
entry skip i e h = elim i [ ]
entry (seq a c) (in_first i) e h = entry a i e h
entry {k = k} (seq a c) (in_second i) e h = let (f, g) = bounds c i in entry {k = k + len a} c i (omega arith) (empty _ _ a (omega arith) h)
entry (reads u t) (at_read q x y) e h = y ∙ h
entry (runs m) (at_run q x y) e h = y ∙ h
entry (jumps l) (at_jump q x y) e h = y ∙ h
entry (marks l) (at_mark q x y) e h = y ∙ or_left _ _ h
entry (either a c) (at_fork q x y) e h = y ∙ h
entry (either a c) (at_past q x y) e h = let z : ◌≡◌ {A = ℕ} 1 0 = omega arith in cc
entry (either a c) (in_then i) e h = let (f, g) = bounds a i in let z : ◌≡◌ {A = ℕ} 1 0 = omega arith in cc
entry (either a c) (in_else i) e h = let (f, g) = bounds c i in let z : ◌≡◌ {A = ℕ} 1 0 = omega arith in cc
entry (scoped a) (in_scope i) e h = entry a i e h

-- THE STEPS OF A WALK THAT MISSES n, without those that follow a goto

-- an act that a walk passes by going to the next place, without running n
unfoldable pub passes : ℕ → Act → Bool
passes n (use_of u t) = true
passes n (run m) = not (eqb n m)
passes n (jump l) = true
passes n (target l) = true
passes n (fork k) = true
passes n (past k) = false

-- from act x at p to q: to the next place, to an else branch, or past one
pub data Next (n p : ℕ) (x : Act) (q : ℕ) : Type 0 where
  on : q ≡ suc p → passes n x ≡ true → Next n p x q
  fork_to : (k : ℕ) → x ≡ fork k → q ≡ suc p + k → Next n p x q
  past_to : (k : ℕ) → x ≡ past k → q ≡ suc p + k → Next n p x q

-- a step goes forward
next_later : {n p q : ℕ} {x : Act} → Next n p x q → p < q
next_later (on e f) = omega arith
next_later (fork_to k f e) = omega arith
next_later (past_to k f e) = omega arith

-- the number that an act holds
unfoldable pub skipping : Act → ℕ
skipping (use_of u t) = 0
skipping (run m) = 0
skipping (jump l) = 0
skipping (target l) = 0
skipping (fork k) = k
skipping (past k) = k

-- which of the three an act allows
unfoldable pub shape : Act → ℕ
shape (use_of u t) = 0
shape (run m) = 0
shape (jump l) = 0
shape (target l) = 0
shape (fork k) = 1
shape (past k) = 2

-- what the act says of where the step goes
next_simple : {n p q : ℕ} {x : Act} → shape x ≡ 0 → Next n p x q → (q ≡ suc p) × (passes n x ≡ true)
unfolding shape
next_simple e (on f g) = (f, g)
next_simple e (fork_to k f g) = let z : ◌≡◌ {A = ℕ} 1 0 = sym (ap shape f) ∙ e in true_false (let w : true ≡ false = cc in w)
next_simple e (past_to k f g) = let z : ◌≡◌ {A = ℕ} 2 0 = sym (ap shape f) ∙ e in true_false (let w : true ≡ false = cc in w)

next_fork : {n p q j : ℕ} {x : Act} → x ≡ fork j → Next n p x q → (q ≡ suc p) ⊎ (q ≡ suc p + j)
unfolding shape skipping
next_fork e (on f g) = inl f
next_fork e (fork_to k f g) = let z : k ≡ _ = sym (ap skipping f) ∙ ap skipping e in inr (omega arith)
next_fork e (past_to k f g) = let z : ◌≡◌ {A = ℕ} 2 1 = sym (ap shape f) ∙ ap shape e in true_false (let w : true ≡ false = cc in w)

next_past : {n p q j : ℕ} {x : Act} → x ≡ past j → Next n p x q → q ≡ suc p + j
unfolding shape skipping passes
next_past {n} {p} {q} {j} {x} e (on f g) = let z : false ≡ true = ap (passes n) (sym e) ∙ g in true_false (sym z)
next_past e (fork_to k f g) = let z : ◌≡◌ {A = ℕ} 1 2 = sym (ap shape f) ∙ ap shape e in true_false (let w : true ≡ false = cc in w)
next_past e (past_to k f g) = let z : k ≡ _ = sym (ap skipping f) ∙ ap skipping e in omega arith

-- an act alone is left by its end
step_len : {n p q k : ℕ} {x y : Act} → p ≡ k → x ≡ y → shape y ≡ 0 → Next n p x q → q ≡ k + 1
step_len {n} {p} {q} {k} e f g h = let (a, b) = next_simple (ap shape f ∙ g) h in omega arith

-- a step does not leave the skeleton but by its end
pub within : {n p q k : ℕ} {x : Act} {b : Bool} {s : Miss} (a : Sk) → At n p x b a k s → Next n p x q → q ≤ k + len a
unfolding flat shape
within skip i h = elim i [ ]
within (seq a c) (in_first i) h = let z = within a i h in omega (arith, length-append (flat a) (flat c))
within {k = k} (seq a c) (in_second i) h = let z = within {k = k + len a} c i h in omega (arith, length-append (flat a) (flat c))
within (reads u t) (at_read q x y) h = let z = step_len q x refl h in omega arith
within (runs m) (at_run q x y) h = let z = step_len q x refl h in omega arith
within (jumps l) (at_jump q x y) h = let z = step_len q x refl h in omega arith
within (marks l) (at_mark q x y) h = let z = step_len q x refl h in omega arith
within {n} {p} {q = q'} {k = k} (either a c) (at_fork q x y) h = go (next_fork x h)
  where
    go : (q' ≡ suc p) ⊎ (q' ≡ suc p + (len a + 1)) → q' ≤ k + len (either a c)
    go (inl e) = omega (arith, either-len a c)
    go (inr e) = omega (arith, either-len a c)
within (either a c) (at_past q x y) h = let z = next_past x h in omega (arith, either-len a c)
within {k = k} (either a c) (in_then i) h = let z = within {k = k + 1} a i h in omega (arith, either-len a c)
within {k = k} (either a c) (in_else i) h = let z = within {k = k + 1 + len a + 1} c i h in omega (arith, either-len a c)
within (scoped a) (in_scope i) h = within a i h

-- a step to the end carries what is missed there
pub leave : {n p q k : ℕ} {x : Act} {b : Bool} {s : Miss} (a : Sk) → At n p x b a k s → b ≡ true → Next n p x q → q ≡ k + len a → (flow n a s).here ≡ true
unfolding flat shape flow miss passes
leave skip i t h e = elim i [ ]
leave {n} {s = s} (seq a c) (in_first i) t h e = let z = within a i h in empty n _ c (omega (arith, length-append (flat a) (flat c))) (leave a i t h (omega (arith, length-append (flat a) (flat c))))
leave {k = k} (seq a c) (in_second i) t h e = leave {k = k + len a} c i t h (omega (arith, length-append (flat a) (flat c)))
leave (reads u t) (at_read q x y) t' h e = sym y ∙ t'
leave {n} {s = s} (runs m) (at_run q x y) t h e = let (f, g) = next_simple (ap shape x) h in let g' : not (eqb n m) ≡ true = ap (passes n) (sym x) ∙ g in rw (sym y ∙ t, g')
leave (jumps l) (at_jump q x y) t h e = sym y ∙ t
leave (marks l) (at_mark q x y) t h e = sym y ∙ t
leave {n} {p} {q = q'} {k = k} {s = s} (either a c) (at_fork q x y) t h e = go (next_fork x h)
  where
    go : (q' ≡ suc p) ⊎ (q' ≡ suc p + (len a + 1)) → ((flow n a s).here || (flow n c (miss s.here (flow n a s).at)).here) ≡ true
    go (inl f) = one_zero (omega (arith, either-len a c))
    go (inr f) = or_right (flow n a s).here _ (empty n (miss s.here (flow n a s).at) c (omega (arith, either-len a c)) (sym y ∙ t))
leave (either a c) (at_past q x y) t h e = or_left _ _ (sym y ∙ t)
leave (either a c) (in_then i) t h e = let z = within a i h in one_zero (omega (arith, either-len a c))
leave {n = n} {k = k} {s = s} (either a c) (in_else i) t h e = or_right (flow n a s).here _ (leave {k = k + 1 + len a + 1} c i t h (omega (arith, either-len a c)))
leave (scoped a) (in_scope i) t h e = leave a i t h e

-- a step inside carries what is missed there
pub stay : {n p q k : ℕ} {x y : Act} {b d : Bool} {s : Miss} (a : Sk) → At n p x b a k s → b ≡ true → Next n p x q → At n q y d a k s → d ≡ true
unfolding flat shape flow miss
stay skip i t h j = elim i [ ]
stay (seq a c) (in_first i) t h (in_first j) = stay a i t h j
stay (seq a c) (in_first i) t h (in_second j) = let z = within a i h in let (f, g) = bounds c j in entry c j (omega arith) (leave a i t h (omega arith))
stay (seq a c) (in_second i) t h (in_first j) = let z = next_later h in let (f, g) = bounds c i in let (f', g') = bounds a j in one_zero (omega arith)
stay {k = k} (seq a c) (in_second i) t h (in_second j) = stay {k = k + len a} c i t h j
stay (reads u t) (at_read q x y) t' h (at_read q₁ x₁ y₁) = let z = next_later h in one_zero (omega arith)
stay (runs m) (at_run q x y) t h (at_run q₁ x₁ y₁) = let z = next_later h in one_zero (omega arith)
stay (jumps l) (at_jump q x y) t h (at_jump q₁ x₁ y₁) = let z = next_later h in one_zero (omega arith)
stay (marks l) (at_mark q x y) t h (at_mark q₁ x₁ y₁) = let z = next_later h in one_zero (omega arith)
stay (either a c) (at_fork q x y) t h (at_fork q₁ x₁ y₁) = let z = next_later h in one_zero (omega arith)
stay {n} {p} {q = q'} {k = k} {d = d} {s = s} (either a c) (at_fork q x y) t h (at_past q₁ x₁ y₁) = go (next_fork x h)
  where
    go : (q' ≡ suc p) ⊎ (q' ≡ suc p + (len a + 1)) → d ≡ true
    go (inl f) = y₁ ∙ empty n s a (omega arith) (sym y ∙ t)
    go (inr f) = one_zero (omega arith)
stay {n} {p} {q = q'} {k = k} {d = d} {s = s} (either a c) (at_fork q x y) t h (in_then j) = go (next_fork x h)
  where
    go : (q' ≡ suc p) ⊎ (q' ≡ suc p + (len a + 1)) → d ≡ true
    go (inl f) = entry a j (omega arith) (sym y ∙ t)
    go (inr f) = let (f', g) = bounds a j in one_zero (omega arith)
stay {n} {p} {q = q'} {k = k} {d = d} {s = s} (either a c) (at_fork q x y) t h (in_else j) = go (next_fork x h)
  where
    go : (q' ≡ suc p) ⊎ (q' ≡ suc p + (len a + 1)) → d ≡ true
    go (inl f) = let (f', g) = bounds c j in one_zero (omega arith)
    go (inr f) = entry c j (omega arith) (sym y ∙ t)
stay (either a c) (at_past q x y) t h (at_fork q₁ x₁ y₁) = let z = next_later h in one_zero (omega arith)
stay (either a c) (at_past q x y) t h (at_past q₁ x₁ y₁) = let z = next_later h in one_zero (omega arith)
stay (either a c) (at_past q x y) t h (in_then j) = let z = next_later h in let (f, g) = bounds a j in one_zero (omega arith)
stay (either a c) (at_past q x y) t h (in_else j) = let z = next_past x h in let (f, g) = bounds c j in one_zero (omega arith)
stay (either a c) (in_then i) t h (at_fork q₁ x₁ y₁) = let z = next_later h in let (f, g) = bounds a i in one_zero (omega arith)
stay (either a c) (in_then i) t h (at_past q₁ x₁ y₁) = y₁ ∙ leave a i t h (omega arith)
stay {k = k} (either a c) (in_then i) t h (in_then j) = stay {k = k + 1} a i t h j
stay (either a c) (in_then i) t h (in_else j) = let z = within a i h in let (f, g) = bounds c j in one_zero (omega arith)
stay (either a c) (in_else i) t h (at_fork q₁ x₁ y₁) = let z = next_later h in let (f, g) = bounds c i in one_zero (omega arith)
stay (either a c) (in_else i) t h (at_past q₁ x₁ y₁) = let z = next_later h in let (f, g) = bounds c i in one_zero (omega arith)
stay (either a c) (in_else i) t h (in_then j) = let z = next_later h in let (f, g) = bounds c i in let (f', g') = bounds a j in one_zero (omega arith)
stay {k = k} (either a c) (in_else i) t h (in_else j) = stay {k = k + 1 + len a + 1} c i t h j
stay (scoped a) (in_scope i) t h (in_scope j) = stay a i t h j

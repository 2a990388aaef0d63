-- The uses of a skeleton that may miss their declaration are those that walks skip; and the list that names them.
use Prim.Native.Nat.{ℕ, zero, suc, ◌+◌, ◌-◌, ◌<◌}
use mathlib.Core.Bool.{Bool, true, false}
use mathlib.Core.List.{List, [], ◌∷◌, ◌++◌, append_assoc}
use mathlib.Core.Path.{◌≡◌, refl, sym, ◌∙◌, ap}
use mathlib.Core.Option.{some}
use native.Mathlib.Omega.{arith}
use lib.ListN.{length, get_elem?, get_or, length-append}
use mathlib.Core.Logic.{◌↔◌}
use Rattle.penne.specs.Find.{is_in}
use Rattle.penne.specs.Walks.{Act, use_of, run, jump, target, fork, past, Target, local, no_local, start, Skipped, picked, record_if, NamesSkipped}
use Rattle.penne.proofs.Skeleton.{Sk, skip, seq, reads, runs, jumps, marks, either, scoped, flat, len, Miss, miss, flow, At, at_read, at_run, at_jump, at_mark, at_fork, at_past, in_first, in_second, in_then, in_else, in_scope}
use Rattle.penne.proofs.FlowIsWalked.{Holds, complete_at, either-len}
use Rattle.penne.proofs.Booleans.{true_false, one_zero}
use Rattle.penne.proofs.WalkSteps.{bounds, find}
use Rattle.penne.proofs.SkeletonLabels.{Well}
use Rattle.penne.proofs.WalkIsFlow.{fresh, sound}

-- before the else branch
unfoldable pub at_else : ℕ → Sk → Miss → Miss
at_else n a s = miss s.here (flow n a s).at

-- whether a walk may miss what a use resolves to
unfoldable pub missed_at : (ℕ → Miss) → Target → Bool
missed_at f (local n d) = (f n).here
missed_at f no_local = false

-- for each act whether it is a use that may miss its declaration; f says what may be missing, for every declaration
unfoldable pub missed : Sk → (ℕ → Miss) → List Bool
missed skip f = []
missed (seq a c) f = missed a f ++ missed c (λ n. flow n a (f n))
missed (reads u t) f = missed_at f t ∷ []
missed (runs m) f = false ∷ []
missed (jumps l) f = false ∷ []
missed (marks l) f = false ∷ []
missed (either a c) f = false ∷ (missed a f ++ (false ∷ missed c (λ n. at_else n a (f n))))
missed (scoped a) f = missed a f

-- a bit for each act
missed-length : (a : Sk) (f : ℕ → Miss) → length (missed a f) ≡ len a
unfolding missed flat
missed-length skip f = refl
missed-length (seq a c) f = length-append (missed a f) _ ∙ (omega (arith, missed-length a f, missed-length c (λ n. flow n a (f n)), length-append (flat a) (flat c)))
missed-length (reads u t) f = refl
missed-length (runs m) f = refl
missed-length (jumps l) f = refl
missed-length (marks l) f = refl
missed-length (either a c) f = omega (arith, missed-length a f, missed-length c (λ n. at_else n a (f n)), length-append (missed a f) (false ∷ missed c (λ n. at_else n a (f n))), either-len a c)
missed-length (scoped a) f = missed-length a f

-- the bits of two texts
get_or_left : (xs ys : List Bool) (j : ℕ) → j < length xs → get_or (xs ++ ys) j false ≡ get_or xs j false
get_or_left [] ys j h = one_zero (omega arith)
get_or_left (x ∷ xs) ys zero h = refl
get_or_left (x ∷ xs) ys (suc j) h = get_or_left xs ys j (omega arith)

get_or_right : (xs ys : List Bool) (j k i : ℕ) → length xs ≡ k → i ≡ k + j → get_or (xs ++ ys) i false ≡ get_or ys j false
get_or_right [] ys j k i e f = ap (λ (m : ℕ). get_or ys m false) (omega arith)
get_or_right (x ∷ xs) ys j k zero e f = one_zero (omega arith)
get_or_right (x ∷ xs) ys j k (suc i) e f = get_or_right xs ys j (length xs) i refl (omega arith)

-- what a use resolves to
unfoldable use_target : Act → Target
use_target (use_of u t) = t
use_target (run m) = no_local
use_target (jump l) = no_local
use_target (target l) = no_local
use_target (fork k) = no_local
use_target (past k) = no_local

-- a use
unfoldable is_use : Act → Bool
is_use (use_of u t) = true
is_use (run m) = false
is_use (jump l) = false
is_use (target l) = false
is_use (fork k) = false
is_use (past k) = false

-- a use is told by its parts
pub use_target_lem : {u v : ℕ} {t t' : Target} → use_of u t ≡ use_of v t' → t ≡ t'
unfolding use_target
use_target_lem e = ap use_target e

not_use : {B : Type 0} {x y : Act} {u : ℕ} {t : Target} → is_use y ≡ false → x ≡ y → x ≡ use_of u t → B
unfolding is_use
not_use f e g = true_false (sym (ap is_use g) ∙ ap is_use e ∙ f)

cong₂ : {xs xs' ys ys' : List (ℕ × ℕ)} → xs ≡ xs' → ys ≡ ys' → xs ++ ys ≡ xs' ++ ys'
cong₂ e f = cc

-- at a use of n the list has what is said there
read_bit : {n p k u d : ℕ} {x : Act} {b : Bool} (a : Sk) (f : ℕ → Miss) (j : ℕ) → At n p x b a k (f n) → x ≡ use_of u (local n d) → p ≡ k + j → get_or (missed a f) j false ≡ b
unfolding missed missed_at at_else flat miss is_use
read_bit skip f j i e q = elim i [ ]
read_bit (seq a c) f j (in_first i) e q = let (g, h) = bounds a i in get_or_left (missed a f) _ j (omega (arith, missed-length a f)) ∙ read_bit a f j i e q
read_bit {k = k} (seq a c) f j (in_second i) e q = let (g, h) = bounds c i in get_or_right (missed a f) _ (j - len a) _ j (missed-length a f) (omega arith) ∙ read_bit {k = k + len a} c (λ m. flow m a (f m)) (j - len a) i e (omega arith)
read_bit {d = d} (reads u t) f zero (at_read q x y) e r = ap (missed_at f) (use_target_lem (sym x ∙ e)) ∙ sym y
read_bit (reads u t) f (suc j) (at_read q x y) e r = one_zero (omega arith)
read_bit (runs m) f j (at_run q x y) e r = not_use refl x e
read_bit (jumps l) f j (at_jump q x y) e r = not_use refl x e
read_bit (marks l) f j (at_mark q x y) e r = not_use refl x e
read_bit (either a c) f j (at_fork q x y) e r = not_use refl x e
read_bit (either a c) f j (at_past q x y) e r = not_use refl x e
read_bit (either a c) f zero (in_then i) e q = let (g, h) = bounds a i in one_zero (omega arith)
read_bit {k = k} (either a c) f (suc j) (in_then i) e q = let (g, h) = bounds a i in get_or_left (missed a f) _ j (omega (arith, missed-length a f)) ∙ read_bit {k = k + 1} a f j i e (omega arith)
read_bit (either a c) f zero (in_else i) e q = let (g, h) = bounds c i in one_zero (omega arith)
read_bit {k = k} (either a c) f (suc j) (in_else i) e q = let (g, h) = bounds c i in get_or_right (missed a f) _ (suc (j - len a - 1)) _ j (missed-length a f) (omega arith) ∙ read_bit {k = k + 1 + len a + 1} c (λ m. miss (f m).here (flow m a (f m)).at) (j - len a - 1) i e (omega arith)
read_bit (scoped a) f j (in_scope i) e q = read_bit a f j i e q

-- what is said to be missed is a use of a local
pub record UseAt (xs : List Act) (j : ℕ) : Type 0 where
  pub offset : ℕ
  pub n : ℕ
  pub declared_at : ℕ
  pub is_use : get_elem? xs j ≡ some (use_of offset (local n declared_at))

-- bits that are true at uses of locals alone, act by act
pub data Fits : List Bool → List Act → Type 0 where
  f_nil : Fits [] []
  f_no : {x : Act} {bs : List Bool} {xs : List Act} → Fits bs xs → Fits (false ∷ bs) (x ∷ xs)
  f_use : {b : Bool} {u n d : ℕ} {bs : List Bool} {xs : List Act} → Fits bs xs → Fits (b ∷ bs) (use_of u (local n d) ∷ xs)

-- of two texts
pub fits_append : {bs cs : List Bool} {xs ys : List Act} → Fits bs xs → Fits cs ys → Fits (bs ++ cs) (xs ++ ys)
fits_append f_nil g = g
fits_append (f_no f) g = f_no (fits_append f g)
fits_append (f_use f) g = f_use (fits_append f g)

-- the bits of a skeleton are true at uses of locals alone
fits_target : (f : ℕ → Miss) (u : ℕ) (t : Target) → Fits (missed_at f t ∷ []) (use_of u t ∷ [])
unfolding missed_at
fits_target f u (local n d) = f_use f_nil
fits_target f u no_local = f_no f_nil

missed_fits : (a : Sk) (f : ℕ → Miss) → Fits (missed a f) (flat a)
unfolding missed flat
missed_fits skip f = f_nil
missed_fits (seq a c) f = fits_append (missed_fits a f) (missed_fits c _)
missed_fits (reads u t) f = fits_target f u t
missed_fits (runs m) f = f_no f_nil
missed_fits (jumps l) f = f_no f_nil
missed_fits (marks l) f = f_no f_nil
missed_fits (either a c) f = f_no (fits_append (missed_fits a f) (f_no (missed_fits c _)))
missed_fits (scoped a) f = missed_fits a f

-- where the bit is true there is a use
use_at : {bs : List Bool} {xs : List Act} (j : ℕ) → Fits bs xs → get_or bs j false ≡ true → UseAt xs j
use_at j f_nil h = true_false (sym h)
use_at zero (f_no f) h = true_false (sym h)
use_at (suc j) (f_no f) h = let w = use_at j f h in record { offset = w.offset; n = w.n; declared_at = w.declared_at; is_use = w.is_use }
use_at zero (f_use f) h = record { offset = _; n = _; declared_at = _; is_use = refl }
use_at (suc j) (f_use f) h = let w = use_at j f h in record { offset = w.offset; n = w.n; declared_at = w.declared_at; is_use = w.is_use }

-- the records of the uses that bits pick
unfoldable pub picked_by : List Bool → List Act → List (ℕ × ℕ)
picked_by [] xs = []
picked_by (b ∷ bs) [] = []
picked_by (b ∷ bs) (x ∷ xs) = record_if b x ++ picked_by bs xs

-- to pick by bits is to pick by a test
picked_by_lem : (bs : List Bool) (xs : List Act) (g : ℕ → Bool) (at : ℕ) → Fits bs xs → ((j : ℕ) → g (at + j) ≡ get_or bs j false) → picked_by bs xs ≡ picked g at xs
unfolding picked_by picked
picked_by_lem [] [] g at f_nil h = refl
picked_by_lem [] (x ∷ xs) g at f h = elim f [ ]
picked_by_lem (b ∷ bs) [] g at f h = elim f [ ]
picked_by_lem (b ∷ bs) (x ∷ xs) g at (f_no f) h = cong₂ (ap (λ (c : Bool). record_if c x) (sym (h 0) ∙ ap g (omega arith))) (picked_by_lem bs xs g (at + 1) f (λ j. ap g (omega arith) ∙ h (suc j)))
picked_by_lem (b ∷ bs) (x ∷ xs) g at (f_use f) h = cong₂ (ap (λ (c : Bool). record_if c x) (sym (h 0) ∙ ap g (omega arith))) (picked_by_lem bs xs g (at + 1) f (λ j. ap g (omega arith) ∙ h (suc j)))

-- before the first act a walk stands that ran nothing
begins : (a : Sk) (n : ℕ) → Holds (flat a) n 0 fresh
unfolding fresh miss is_in
begins a n = record {
  stands = λ e. record { ran = []; walk = start; without = refl };
  waits = λ l e. true_false (sym e);
}

-- THE THEOREM ON WALKS: of a skeleton whose labels are as the first pass leaves them, what it says of its acts is which of them walks skip
pub missed_skipped : (a : Sk) → Well a → (p : ℕ) → (get_or (missed a (λ n. fresh)) p false ≡ true) ↔ Skipped (flat a) p
missed_skipped a v p = (to, from)
  where
    to : get_or (missed a (λ n. fresh)) p false ≡ true → Skipped (flat a) p
    to h =
        let w = use_at p (missed_fits a (λ n. fresh)) h in
        let (b, i) = find w.n a 0 fresh p _ p (omega arith) w.is_use in
        let m = complete_at a (record { act = λ j x e. ap (get_elem? (flat a)) (omega arith) ∙ e }) (begins a w.n) i (sym (read_bit a (λ n. fresh) p i refl (omega arith)) ∙ h) in
        record { offset = w.offset; n = w.n; declared_at = w.declared_at; ran = m.ran; is_use = w.is_use; walk = m.walk; not_run = m.without }

    from : Skipped (flat a) p → get_or (missed a (λ n. fresh)) p false ≡ true
    from w =
        let (b, i) = find w.n a 0 fresh p _ p (omega arith) w.is_use in
        read_bit a (λ n. fresh) p i refl (omega arith) ∙ (sound a v w.walk w.not_run).inside _ b i

-- bits that say which acts walks skip pick the list that walks ask for
pub names_picked : (bs : List Bool) (xs : List Act) → Fits bs xs → ((p : ℕ) → (get_or bs p false ≡ true) ↔ Skipped xs p) → NamesSkipped xs (picked_by bs xs)
names_picked bs xs f h = record {
  test = λ p. get_or bs p false;
  tests = h;
  all = picked_by_lem bs xs _ 0 f (λ j. ap (λ (m : ℕ). get_or bs m false) (omega arith));
}

-- the list of two texts is the list of the first, then of the second
pub picked_append : {bs : List Bool} {xs : List Act} (cs : List Bool) (ys : List Act) → Fits bs xs → picked_by (bs ++ cs) (xs ++ ys) ≡ picked_by bs xs ++ picked_by cs ys
unfolding picked_by
picked_append cs ys f_nil = refl
picked_append cs ys (f_no {x} {bs} {xs} f) = ap (λ (l : List (ℕ × ℕ)). record_if false x ++ l) (picked_append cs ys f) ∙ sym (append_assoc (record_if false x) (picked_by bs xs) (picked_by cs ys))
picked_append cs ys (f_use {b} {u} {n} {d} {bs} {xs} f) = ap (λ (l : List (ℕ × ℕ)). record_if b (use_of u (local n d)) ++ l) (picked_append cs ys f) ∙ sym (append_assoc (record_if b (use_of u (local n d))) (picked_by bs xs) (picked_by cs ys))

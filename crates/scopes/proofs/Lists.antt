-- Laws of the k-th of a list.
use mathlib.Core.Path.{◌≡◌, refl, ap}
use mathlib.Core.List.{List, [], ◌∷◌, ◌++◌}
use Prim.Native.Nat.{ℕ, zero, suc, ◌<◌}
use native.Mathlib.Nat.{not-suc-le-zero, le_of_suc-le-suc}
use native.Mathlib.Omega.{arith}
use lib.ListN.{length, take, drop}
use Rattle.scopes.specs.Table.{Nth, here, there}

module _ {A : Type 0} where
  pub nth_low : {k : ℕ} {x : A} {xs : List A} → Nth k x xs → k < length xs
  nth_low here = omega arith
  nth_low (there n) = let h = nth_low n in omega arith

  pub nth_left : {k : ℕ} {x : A} {xs : List A} (ys : List A) → Nth k x xs → Nth k x (xs ++ ys)
  nth_left ys here = here
  nth_left ys (there n) = there (nth_left ys n)

  pub nth_last : (xs : List A) (y : A) → Nth (length xs) y (xs ++ (y ∷ []))
  nth_last [] y = here
  nth_last (x ∷ xs) y = there (nth_last xs y)

  -- the k-th of a list with one more: one of the list, or the last
  pub data Snoc (k : ℕ) (x : A) (xs : List A) (y : A) : Type 0 where
    front : Nth k x xs → Snoc k x xs y
    last : k ≡ length xs → x ≡ y → Snoc k x xs y

  snoc_more : {k : ℕ} {x : A} (z : A) {xs : List A} {y : A} → Snoc k x xs y → Snoc (suc k) x (z ∷ xs) y
  snoc_more z (front n) = front (there n)
  snoc_more z (last e q) = last (ap suc e) q

  pub nth_snoc : {k : ℕ} {x : A} (xs : List A) {y : A} → Nth k x (xs ++ (y ∷ [])) → Snoc k x xs y
  nth_snoc [] {y = y} (there {k = k} n) = elim n [ ]
  nth_snoc [] here = last refl refl
  nth_snoc (z ∷ xs) here = front here
  nth_snoc (z ∷ xs) (there n) = snoc_more z (nth_snoc xs n)

  pub nth_take : {k : ℕ} {x : A} (n : ℕ) (xs : List A) → Nth k x (take n xs) → Nth k x xs
  nth_take {k = k} zero xs x'' = elim x'' [ ]
  nth_take {k = k} (suc n) [] x4 = elim x4 [ ]
  nth_take (suc n) (x ∷ xs) here = here
  nth_take (suc n) (x ∷ xs) (there h) = there (nth_take n xs h)

  pub nth_is : (xs : List A) (k : ℕ) → k < length xs → (x : A) × Nth k x xs
  nth_is [] k h = absurd (not-suc-le-zero h)
  nth_is (x ∷ xs) zero h = (x, here)
  nth_is (x ∷ xs) (suc k) h = let (y, n) = nth_is xs k (le_of_suc-le-suc h) in (y, there n)

  pub nth_same : {k : ℕ} {x y : A} {xs : List A} → Nth k x xs → Nth k y xs → x ≡ y
  nth_same here here = refl
  nth_same (there n) (there m) = nth_same n m

  pub take_more : {k : ℕ} {x : A} {xs : List A} → Nth k x xs → take (suc k) xs ≡ take k xs ++ (x ∷ [])
  take_more here = refl
  take_more {xs = x ∷ xs} (there n) = ap (λ (l : List A). x ∷ l) (take_more n)

  pub drop_more : {k : ℕ} {x : A} {xs : List A} → Nth k x xs → drop k xs ≡ x ∷ drop (suc k) xs
  drop_more here = refl
  drop_more (there n) = drop_more n

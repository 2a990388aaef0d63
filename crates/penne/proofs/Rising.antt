-- Rising numbers: one list behind another, and what is left of a list.
use Prim.Native.Nat.{ℕ, ◌+◌, ◌≤◌}
use mathlib.Core.List.{List, [], ◌∷◌, ◌++◌}
use native.Mathlib.Omega.{arith}
use Rattle.penne.specs.Order.{Rising, end, next}

-- from further down, and up to further on
pub rising_from : {from from' to : ℕ} {ns : List ℕ} → from ≤ from' → Rising from' to ns → Rising from to ns
rising_from {from} {to = to} h (end g) = end {from = from} {to = to} (omega (arith, h, g))
rising_from {from} {to = to} h (next {n = n} g r) = next {from = from} {to = to} {n = n} (omega (arith, h, g)) r

pub rising_to : {from to to' : ℕ} {ns : List ℕ} → to ≤ to' → Rising from to ns → Rising from to' ns
rising_to {from} {to' = to'} h (end g) = end {from = from} {to = to'} (omega (arith, h, g))
rising_to h (next g r) = next g (rising_to h r)

-- one number
pub rising_one : (n : ℕ) {from to : ℕ} → from ≤ n → n + 1 ≤ to → Rising from to (n ∷ [])
rising_one n g h = next g (end h)

-- one behind the other
pub rising_append : {from mid to : ℕ} {ns ms : List ℕ} → Rising from mid ns → Rising mid to ms → Rising from to (ns ++ ms)
rising_append (end g) q = rising_from g q
rising_append (next g r) q = next g (rising_append r q)

-- the first list is what is left of the second where some are taken out
pub data LeftOf {A : Type 0} : List A → List A → Type 0 where
  neither : LeftOf [] []
  stays : {x : A} {xs ys : List A} → LeftOf xs ys → LeftOf (x ∷ xs) (x ∷ ys)
  goes : {y : A} {xs ys : List A} → LeftOf xs ys → LeftOf xs (y ∷ ys)

pub left_none : {A : Type 0} (ys : List A) → LeftOf [] ys
left_none [] = neither
left_none (y ∷ ys) = goes (left_none ys)

pub left_all : {A : Type 0} (ys : List A) → LeftOf ys ys
left_all [] = neither
left_all (y ∷ ys) = stays (left_all ys)

pub left_append : {A : Type 0} {xs ys xs' ys' : List A} → LeftOf xs ys → LeftOf xs' ys' → LeftOf (xs ++ xs') (ys ++ ys')
left_append neither q = q
left_append (stays p) q = stays (left_append p q)
left_append (goes p) q = goes (left_append p q)

-- what is left of rising numbers rises
pub left_rising : {from to : ℕ} {ns ms : List ℕ} → LeftOf ns ms → Rising from to ms → Rising from to ns
left_rising neither q = q
left_rising (stays {x} p) (next g r) = next g (left_rising {from = x + 1} p r)
left_rising (goes {y} p) (next g r) = rising_from (omega (arith, g)) (left_rising {from = y + 1} p r)

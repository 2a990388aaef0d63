-- The searches of the definitions, by their clauses.
use Prim.Native.Nat.{ℕ}
use mathlib.Core.Bool.{Bool, true, false}
use mathlib.Core.Path.{◌≡◌}
use mathlib.Core.List.{List, ◌∷◌}
use mathlib.Core.Option.{some}
use lib.Dec.{eqb}
use Rattle.penne.specs.Find.{first, keep, is_in}

module _ {A : Type 0} (f : A → Bool) (x : A) (xs : List A) where
  pub first_hit : f x ≡ true → first f (x ∷ xs) ≡ some x
  unfolding first
  first_hit e = rw (e, first)

  pub first_miss : f x ≡ false → first f (x ∷ xs) ≡ first f xs
  unfolding first
  first_miss e = rw (e, first)

  pub keep_hit : f x ≡ true → keep f (x ∷ xs) ≡ x ∷ keep f xs
  unfolding keep
  keep_hit e = rw (e, keep)

  pub keep_miss : f x ≡ false → keep f (x ∷ xs) ≡ keep f xs
  unfolding keep
  keep_miss e = rw (e, keep)

module _ (x y : ℕ) (ys : List ℕ) where
  pub is_in_here : eqb x y ≡ true → is_in x (y ∷ ys) ≡ true
  unfolding is_in
  is_in_here e = rw (e, is_in)

  pub is_in_past : eqb x y ≡ false → is_in x (y ∷ ys) ≡ is_in x ys
  unfolding is_in
  is_in_past e = rw (e, is_in)

-- Two searches side by side: the names in scope as walks have them, and the second pass's variables.
use Prim.Native.Nat.{ℕ}
use mathlib.Core.Bool.{true, false}
use mathlib.Core.Path.{◌≡◌, refl}
use mathlib.Core.List.{List, [], ◌∷◌, ◌++◌}
use mathlib.Core.Option.{Option, none, some}
use lib.Dec.{eqb}
use Rattle.penne.specs.Find.{first, first_named}
use Rattle.penne.specs.Tree.{Spot, Ident}
use Rattle.penne.specs.Walks.{Target, no_local, resolve}

-- entry by entry: the same name, and E of what the name stands for and of the variable
pub data Beside (E : Target → Ident Spot → Type 0) : List (ℕ × Target) → List (Ident Spot) → Type 0 where
  b_nil : Beside E [] []
  b_cons : {m : ℕ} {t : Target} {i : Ident Spot} {es : List (ℕ × Target)} {is : List (Ident Spot)} → i.name ≡ m → E t i → Beside E es is → Beside E ((m, t) ∷ es) (i ∷ is)

-- what both searches find
pub data Found (E : Target → Ident Spot → Type 0) : Target → Option (Ident Spot) → Type 0 where
  found : {t : Target} {i : Ident Spot} → E t i → Found E t (some i)
  unfound : Found E no_local none

-- they find what stands side by side
pub beside_find : {E : Target → Ident Spot → Type 0} {es : List (ℕ × Target)} {is : List (Ident Spot)} (x : ℕ) → Beside E es is → Found E (resolve x es) (first_named x is)
unfolding resolve first_named first
beside_find x b_nil = unfound
beside_find {E} x (b_cons {m} {t} {i} {es} {is} e q r) = (elim (eqb m x) as (λ b. eqb m x ≡ b → Found E (resolve x ((m, t) ∷ es)) (first_named x (i ∷ is))) [
  | true ↦ λ z. rw (e, z, resolve, first, first_named) (found q)
  | false ↦ λ z. rw (e, z, resolve, first, first_named) (beside_find x r)
]) refl

-- another E
pub beside_map : {E F : Target → Ident Spot → Type 0} {es : List (ℕ × Target)} {is : List (Ident Spot)} → ((t : Target) (i : Ident Spot) → E t i → F t i) → Beside E es is → Beside F es is
beside_map h b_nil = b_nil
beside_map h (b_cons e q r) = b_cons e (h _ _ q) (beside_map h r)

-- one more name, the innermost
pub beside_last : {E : Target → Ident Spot → Type 0} {es : List (ℕ × Target)} {is : List (Ident Spot)} (m : ℕ) (t : Target) (i : Ident Spot) → i.name ≡ m → E t i → Beside E es is → Beside E (es ++ ((m, t) ∷ [])) (is ++ (i ∷ []))
beside_last m t i e q b_nil = b_cons e q b_nil
beside_last m t i e q (b_cons e' q' r) = b_cons e' q' (beside_last m t i e q r)

-- what E says of the names of a scope before, and F behind it, where there are more
pub beside_back : {E F G : Target → Ident Spot → Type 0} {es : List (ℕ × Target)} {is : List (Ident Spot)} (more : List (ℕ × Target)) (more' : List (Ident Spot)) → ((t : Target) (i : Ident Spot) → E t i → F t i → G t i) → Beside E es is → Beside F (es ++ more) (is ++ more') → Beside G es is
beside_back more more' h b_nil r = b_nil
beside_back more more' h (b_cons e q r) (b_cons e' q' r') = b_cons e (h _ _ q q') (beside_back more more' h r r')

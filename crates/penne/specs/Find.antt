-- Lists in the place of the Rust's iterators, vectors and hash sets, and what both passes do with an identifier.
use Rattle.std.specs.Prelude.{ℕ, Bool, true, false, not, List, [], ◌∷◌, ◌++◌, eqb}
use Rattle.std.proofs.Math.Option.{Option, none, some}
use Rattle.penne.specs.Tree.{Ident}

-- find: the first that passes
unfoldable pub first : {A : Type 0} → (A → Bool) → List A → Option A
first f [] = none
first f (x ∷ xs) = elim (f x) [ true ↦ some x | false ↦ first f xs ]

-- filter and retain: all that pass, in their order
unfoldable pub keep : {A : Type 0} → (A → Bool) → List A → List A
keep f [] = []
keep f (x ∷ xs) = elim (f x) [ true ↦ x ∷ keep f xs | false ↦ keep f xs ]

-- contains
unfoldable pub is_in : ℕ → List ℕ → Bool
is_in n [] = false
is_in n (m ∷ ms) = elim (eqb n m) [ true ↦ true | false ↦ is_in n ms ]

-- the union of two sets
unfoldable pub union : List ℕ → List ℕ → List ℕ
union xs ys = xs ++ keep (λ n. not (is_in n xs)) ys

-- the difference of two sets
unfoldable pub minus : List ℕ → List ℕ → List ℕ
minus xs ys = keep (λ n. not (is_in n ys)) xs

-- the search that every declaration and every use makes: the first of this name
unfoldable pub first_named : {P : Type 0} → ℕ → List (Ident P) → Option (Ident P)
first_named n is = first (λ i. eqb i.name n) is

-- the identifier made anew: resolution_id and is_authoritative are overwritten, name and location stay
unfoldable pub resolved : {P : Type 0} → Ident P → (id auth : ℕ) → Ident P
resolved i id auth = record { name = i.name; place = i.place; id = id; auth = auth }

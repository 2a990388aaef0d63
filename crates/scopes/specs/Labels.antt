-- The labels of the first pass in the work words, by id: names from word 2048 on, places from word 3072 on. The table of the scopes begins with these two columns.
use Rattle.std.specs.Prelude.{ℕ, ◌+◌, ◌≡◌, List, [], ◌∷◌, get_or}
use Rattle.penne.specs.Tree.{Spot, Ident}

-- something of each of a list, numbered from k to k'
pub data Along {A : Type 0} (P : ℕ → A → Type 0) : ℕ → List A → ℕ → Type 0 where
  stop : {k : ℕ} → Along P k [] k
  step : {k k' : ℕ} {x : A} {xs : List A} → P k x → Along P (k + 1) xs k' → Along P k (x ∷ xs) k'

-- the label i has this id
pub record Named (w : List ℕ) (id : ℕ) (i : Ident Spot) : Type 0 where
  pub name : get_or w (2047 + id) 0 ≡ i.name
  pub place : get_or w (3071 + id) 0 ≡ i.place.number

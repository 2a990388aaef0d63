-- What the calls of the C interface leave behind.
use Rattle.std.specs.Prelude.{ℕ, ◌≡◌, Bool, true, false, List, [], ◌∷◌, ◌++◌, length, take, replicate, get_or}
use Rattle.penne.specs.Scoper.{Asked, told, untold, Outcome, scoped}
use Rattle.hurdlebraid.specs.declared.Told.{Told as Told-code}

-- a refusal's number (0: none) and place, then two values
pub record Told : Type 0 where
  pub number : ℕ
  pub place : ℕ
  pub first : ℕ
  pub second : ℕ

abbrev pub the_words : Told → List ℕ
the_words t = t.number ∷ t.place ∷ t.first ∷ t.second ∷ []

-- one of them, 0 behind the last
unfoldable pub word_of : Told → (i : ℕ) → ℕ
word_of t i = get_or (the_words t) i 0

-- as many of these words as were lent room for, and zeros behind them
unfoldable pub told_words : (room : ℕ) → Told → List ℕ
told_words room t = take room (the_words t ++ replicate room 0)

-- what the code tells
abbrev pub told_by : Told-code → Told
told_by t = record { number = t.number; place = t.place; first = t.first; second = t.second }

-- of the scoping call: the answer's length in bytes, the list's in records
unfoldable pub scoped_told : Outcome → Told
scoped_told q = record { number = q.refusal; place = q.place; first = q.tree_length; second = q.records }

-- hurdlebraid_analyze: all that is lent holds what the definition says
pub record Analyzes (t o l w u : List ℕ) (o' l' w' u' : List ℕ) : Type 0 where
  pub tree : o' ≡ (scoped t (length o) (length l) (length w)).tree
  pub list : l' ≡ (scoped t (length o) (length l) (length w)).list
  pub work : w' ≡ (scoped t (length o) (length l) (length w)).work
  pub tells : u' ≡ told_words (length u) (scoped_told (scoped t (length o) (length l) (length w)))

-- of get_container_depth and is_container: the depth or the given maximum, then 1 for a container and 0 for none
unfoldable pub depth_and_kind : Asked ℕ → Asked Bool → Told
depth_and_kind (told d) (told b) = record { number = 0; place = 0; first = d; second = elim b [ true ↦ 1 | false ↦ 0 ] }
depth_and_kind (told d) (untold n p) = record { number = n; place = p; first = 0; second = 0 }
depth_and_kind (untold n p) b = record { number = n; place = p; first = 0; second = 0 }

-- of get_structure_name: where the name begins, and its length
unfoldable pub name_told : Asked (ℕ × ℕ) → Told
name_told (told x) = record { number = 0; place = 0; first = x.0; second = x.1 }
name_told (untold n p) = record { number = n; place = p; first = 0; second = 0 }

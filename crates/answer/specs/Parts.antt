-- The bytes of what is written, over numbers alone.
use Rattle.std.specs.Prelude.{ℕ, zero, suc, ◌-◌, true, false, get_or, take, drop, ltb}
use mathlib.Core.List.{List, [], ◌++◌, flat_map}
use Rattle.penne.specs.Reader.{got, refused, num, nothing}
use Rattle.penne.specs.Write.{num_b}
use Rattle.fields.specs.Answers.{cursor, poison_names, poison_places}
use Rattle.fields.specs.declared.field.Identifier.{Identifier}

-- an identifier's bytes
unfoldable pub identifier_b : (name place id authority : ℕ) → List ℕ
identifier_b name place id authority = num_b name ++ (num_b place ++ (num_b id ++ num_b authority))

-- a poison's bytes: of the names and places as many as a poison of that kind has
unfoldable pub poisoned_b : (kind : ℕ) → (names places : List ℕ) → List ℕ
poisoned_b kind names places = num_b kind ++ (flat_map num_b (take (get_or poison_names kind 0) names) ++ flat_map num_b (take (get_or poison_places kind 0) places))

-- the bytes of s from `from` to `to`, as far as it has them
unfoldable pub span : (s : List ℕ) → (from to : ℕ) → List ℕ
span s from to = take (to - from) (drop from s)

-- at most n numbers of s from `at` to `to`, each in its shortest form, as far as they can be read
unfoldable pub renumbered_by : (n : ℕ) → (s : List ℕ) → (at to : ℕ) → List ℕ
renumbered_by zero s at to = []
renumbered_by (suc n) s at to = elim (ltb at to) [
  | false ↦ []
  | true ↦ elim (num s (cursor at 0 nothing)) [ got v next ↦ num_b v ++ renumbered_by n s next.at to | refused _ _ ↦ [] ]
]

-- the numbers of s from `from` to `to`, as far as they can be read; a number has a byte at least
unfoldable pub renumbered : (s : List ℕ) → (from to : ℕ) → List ℕ
renumbered s from to = renumbered_by (to - from) s from to

-- its id and authority are overwritten
abbrev pub resolved_to : Identifier → (id authority : ℕ) → Identifier
resolved_to i id authority = record { name = i.name; place = i.place; id = id; authority = authority }

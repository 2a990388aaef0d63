-- get_structure_name, in the words of the definitions.
use Rattle.std.specs.Prelude.{ℕ, ◌+◌, ◌≤◌, ◌<◌, ◌≡◌, length, get_or, take, Option, Some, None, Result, Ok, IfSome}
use mathlib.Core.List.{List, [], flat_map}
use Rattle.std.proofs.Math.Option.{some}
use Rattle.std.proofs.Math.ListN.{get_elem?}
use Rattle.penne.specs.Reader.{Counts, Cur, got, many, nothing}
use Rattle.penne.specs.Tree.{Spot, Ident, Maybe, Ty, Param, Decl, structure, Tree}
use Rattle.penne.specs.Read.{read_decl, read_names, decode, answered}
use Rattle.penne.specs.Write.{bytes_b}
use Rattle.penne.specs.Scoper.{Asked, told, untold, name_from, structure_name, get_structure_name}
use Rattle.fields.specs.Answers.{cursor}
use Rattle.name_table.specs.Names.{part}
use Rattle.fields.specs.declared.refusal.Refusal.{Refusal}
use Rattle.readers.specs.declared.Part.{Part}
use Rattle.readers.specs.Asking.{asked}

abbrev pub name_asked : Result Part Refusal → Asked (ℕ × ℕ)
name_asked = asked (λ p. (p.start, p.length))

-- "the name as a part of the tree that was lent, empty for a refusal or another kind", by the offset and length that are told
unfoldable pub part_told : List ℕ → Asked (ℕ × ℕ) → List ℕ
part_told s (told p) = part s p.0 p.1
part_told s (untold n p) = []

-- "the name as a part of the tree that was lent": of a structure, the bytes told are its name
abbrev pub TellsTheName : Type 0
TellsTheName = (s : List ℕ) (k : ℕ) (t : Tree Spot) (c : Cur) (f : ℕ) (p : Spot) (i : Ident Spot) (ms : List (Param Spot)) (y : Maybe Spot (Ty Spot)) → length s ≤ 65535 → decode answered s ≡ got t c → get_elem? t.decls k ≡ some (structure f p i ms y) → part_told s (get_structure_name s k) ≡ get_or t.names i.name []

-- declaration d stands at `at` in a tree with so many names
pub record Stands (s : List ℕ) (names at : ℕ) (d : Decl Spot) : Type 0 where
  pub counts : Counts
  pub next : Cur
  pub read : read_decl s (cursor at names counts) ≡ got d next

-- whatever declarations are read at `at`, where so much is counted: the one behind n others stands at r
pub record NthDeclaration (s : List ℕ) (names : ℕ) (k : Counts) (at n r : ℕ) : Type 0 where
  pub is : (count : ℕ) (ds : List (Decl Spot)) (c : Cur) (d : Decl Spot) → many read_decl count s (cursor at names k) ≡ got ds c → get_elem? ds n ≡ some d → Stands s names r d

-- where the name of a structure stands, and its length, by its name number
abbrev pub titled_by : Tree Spot → Option ℕ → ℕ × ℕ
titled_by t (Some n) = (name_from t.names n, length (get_or t.names n []))
titled_by t None = (0, 0)

-- whatever declaration stands at `at`, r is its name number, where it is a structure
pub record Titles (s : List ℕ) (names at : ℕ) (r : Option ℕ) : Type 0 where
  pub is : (d : Decl Spot) → Stands s names at d → (t : Tree Spot) → structure_name t d ≡ titled_by t r
  pub known : (d : Decl Spot) → Stands s names at d → IfSome r (λ n. n < names)

-- whatever table of names is read at `at`, r says where the bytes of its name n stand
pub record NameAt (s : List ℕ) (at n : ℕ) (r : Part) : Type 0 where
  pub is : (count : ℕ) (names : List (List ℕ)) (c : Cur) → read_names count [] s (cursor at 0 nothing) ≡ got names c → n < count → name_asked (Ok r) ≡ told (at + length (flat_map bytes_b (take n names)) + 1, length (get_or names n []))

-- When a table of words holds function_list, and what the calls do to it.
use Rattle.std.specs.Prelude.{ℕ, ◌+◌, ◌≤◌, ◌<◌, ◌≡◌, Bool, ◌&&◌, List, [], ◌∷◌, ◌++◌, eqb, ltb, length, get_or, take}
use Rattle.std.proofs.Math.Option.{Option, none, some}
use Rattle.penne.specs.Tree.{Spot, Ident}
use Rattle.penne.specs.Find.{first_named}
use Rattle.containers.specs.Table.{no_ident}
use Rattle.containers.specs.Calls.{Says, before}
use Rattle.containers.specs.declared.containers.Declared.{Declared}
use Rattle.std.specs.Prelude.{Some, None}
use Rattle.std.specs.Prelude as Rust

-- the words of row r, a column for each field, are those of the function i
pub record IsFunction (w : List ℕ) (r : ℕ) (i : Ident Spot) : Type 0 where
  pub name : get_or w (0 + r) 0 ≡ i.name
  pub place : get_or w (256 + r) 0 ≡ i.place.number
  pub id : get_or w (512 + r) 0 ≡ i.id

-- the function of row r
unfoldable pub function_at : List (Ident Spot) → (r : ℕ) → Ident Spot
function_at fs r = get_or fs r no_ident

-- the first `count` rows of the table w are the functions fs
pub record HoldsFunctions (count : ℕ) (w : List ℕ) (fs : List (Ident Spot)) : Type 0 where
  pub counted : length fs ≡ count
  pub few : count ≤ 256
  pub long : length w ≡ 768
  pub rows : (r : ℕ) → r < count → IsFunction w r (function_at fs r)

-- push_function: one row more is one function more
pub record PushesFunction (row : ℕ) (d : Declared) (w w' : List ℕ) : Type 0 where
  pub long : length w' ≡ length w
  pub pushes : (fs : List (Ident Spot)) → HoldsFunctions row w fs → row < 256 → (i : Ident Spot) → Says d i → HoldsFunctions (row + 1) w' (fs ++ (i ∷ []))

-- function: the numbers of a row
pub record TellsFunction (row : ℕ) (w : List ℕ) (d : Declared) : Type 0 where
  pub tells : (fs : List (Ident Spot)) (count : ℕ) → HoldsFunctions count w fs → row < count → Says d (function_at fs row)

-- the function of the row that was found
unfoldable pub function_in : List (Ident Spot) → Rust.Option ℕ → Option (Ident Spot)
function_in fs (Some i) = some (function_at fs i)
function_in fs None = none

-- row r has this name
unfoldable pub function_is : (w : List ℕ) (name r : ℕ) → Bool
function_is w name r = ltb r 256 && eqb (get_or w (0 + r) 0) name

-- find_function: what the search through function_list finds
pub record FindsFunction (count name : ℕ) (w : List ℕ) (r : Rust.Option ℕ) : Type 0 where
  pub below : (i : ℕ) → r ≡ Some i → i < count
  pub finds : (fs : List (Ident Spot)) → HoldsFunctions count w fs → function_in fs r ≡ first_named name fs
  pub earlier : (fs : List (Ident Spot)) → HoldsFunctions count w fs → (n : ℕ) → n ≤ count → function_in fs (before n r) ≡ first_named name (take n fs)

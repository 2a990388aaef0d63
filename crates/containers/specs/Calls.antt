-- What the calls do, by the definitions. Each promise is about a table that holds the containers of some state.
use Rattle.std.specs.Prelude.{ℕ, ◌+◌, ◌≤◌, ◌<◌, ◌≡◌, Bool, true, false, ◌&&◌, List, [], eqb, ltb, leb, length, get_or, set, take}
use Rattle.std.proofs.Math.Option.{Option, none, some}
use Rattle.memory.specs.Rows.{member}
use Rattle.penne.specs.Tree.{Spot, Ident, Maybe, ok, err, poison}
use Rattle.penne.specs.Find.{first_named}
use Rattle.penne.specs.Containers.{Container, Containment, push_container, structures, constants, contained_ids_of, constant_in_cycle, cyclical, found_container_1}
use Rattle.containers.specs.Table.{at, id_at, kind_of, contained_in, Holds}
use Rattle.containers.specs.declared.containers.Declared.{Declared}
use Rattle.containers.specs.declared.containers.Contained.{Contained}
use Rattle.containers.specs.declared.containers.Contained.TheVariants.{Fine, Poisoned, Cyclical}
use Rattle.std.specs.Prelude.{Some, None}
use Rattle.std.specs.Prelude as Rust

-- d has the numbers of the identifier i
pub record Says (d : Declared) (i : Ident Spot) : Type 0 where
  pub name : d.name ≡ i.name
  pub place : d.place ≡ i.place.number
  pub id : d.id ≡ i.id

-- what three words of a table say, and the table where they say it of d
abbrev pub read_at : (name place id : ℕ) → List ℕ → Declared
read_at name place id w = record { name = get_or w name 0; place = get_or w place 0; id = get_or w id 0 }

abbrev pub written_at : (name place id : ℕ) → Declared → List ℕ → List ℕ
written_at name place id d w = set (set (set w name d.name) place d.place) id d.id

-- i is no container's id yet
pub record New (i : ℕ) (count : ℕ) (cs : List (Container Spot)) : Type 0 where
  pub not : (r : ℕ) → r < count → id_at cs r ≡ i → ⊥

-- push_container: one row more is one container more
pub record Pushes (row kind : ℕ) (d : Declared) (w w' : List ℕ) : Type 0 where
  pub long : length w' ≡ length w
  pub pushes : (s : Containment Spot) → Holds row w s → row < 128 → (i : Ident Spot) → Says d i → New i.id row s.containers → (structure : Bool) → kind ≡ kind_of structure → Holds (row + 1) w' (push_container structure i s)

-- container: the numbers of a row
pub record Tells (row : ℕ) (w : List ℕ) (d : Declared) : Type 0 where
  pub tells : (s : Containment Spot) (count : ℕ) → Holds count w s → row < count → Says d (at s.containers row).identifier

-- the first row below count that passes a test
pub data First (test : ℕ → Bool) (count : ℕ) : Rust.Option ℕ → Type 0 where
  here : (i : ℕ) → i < count → test i ≡ true → ((k : ℕ) → k < i → test k ≡ false) → First test count (Some i)
  nowhere : ((k : ℕ) → k < count → test k ≡ false) → First test count None

-- what was found, where it stands in one of the first n rows
unfoldable pub before : (n : ℕ) → Rust.Option ℕ → Rust.Option ℕ
before n (Some i) = elim (ltb i n) [ true ↦ Some i | false ↦ None ]
before n None = None

-- the identifier of the row that was found
unfoldable pub found_in : List (Container Spot) → Rust.Option ℕ → Option (Ident Spot)
found_in cs (Some i) = some (at cs i).identifier
found_in cs None = none

-- the identifiers of the structures, or of the constants
unfoldable pub of_kind : (structure : Bool) → List (Container Spot) → List (Ident Spot)
of_kind true cs = structures cs
of_kind false cs = constants cs

-- row r has this kind and this name
unfoldable pub row_is : (w : List ℕ) (kind name r : ℕ) → Bool
row_is w kind name r = ltb r 128 && (eqb (get_or w (384 + r) 0) kind && eqb (get_or w (0 + r) 0) name)

-- find_container: what the search through the structures, or the constants, finds
pub record Finds (count kind name : ℕ) (w : List ℕ) (r : Rust.Option ℕ) : Type 0 where
  pub below : (i : ℕ) → r ≡ Some i → i < count
  pub finds : (s : Containment Spot) → Holds count w s → (structure : Bool) → kind ≡ kind_of structure → found_in s.containers r ≡ first_named name (of_kind structure s.containers)
  pub earlier : (s : Containment Spot) → Holds count w s → (structure : Bool) → kind ≡ kind_of structure → (n : ℕ) → n ≤ count → found_in s.containers (before n r) ≡ first_named name (of_kind structure (take n s.containers))

-- what becomes of the edge from the container c, by its member m, to x; cs are the containers afterwards
unfoldable pub answer_of : Contained → (c : Ident Spot) (m : Option (Ident Spot)) (x : Ident Spot) (cs : List (Container Spot)) → Maybe Spot (Ident Spot)
answer_of Fine c m x cs = ok x
answer_of Poisoned c m x cs = err (poison 0 [] [])
answer_of Cyclical c m x cs = err (cyclical c m cs)

-- the answer and the table are those of found_container_1
pub record Follows (count : ℕ) (c : Ident Spot) (m : Option (Ident Spot)) (x : Ident Spot) (s : Containment Spot) (r : Contained) (w' : List ℕ) : Type 0 where
  pub answer : answer_of r c m x (found_container_1 c m x s).1.containers ≡ (found_container_1 c m x s).0
  pub holds : Holds count w' (found_container_1 c m x s).1

-- found_container_1 of the containers in rows c and x
pub record FollowsRows (count c x : ℕ) (w : List ℕ) (r : Contained) (w' : List ℕ) : Type 0 where
  pub long : length w' ≡ length w
  pub follows : (s : Containment Spot) → Holds count w s → c < count → x < count → (ci xi : Ident Spot) → ci.id ≡ id_at s.containers c → xi.id ≡ id_at s.containers x → (m : Option (Ident Spot)) → Follows count ci m xi s r w'

-- row r is a constant, and row c contains it
unfoldable pub constant_in : (w : List ℕ) (c r : ℕ) → Bool
constant_in w c r = leb 1668 (length w) && (ltb r 128 && (eqb (get_or w (384 + r) 0) 0 && member (contained_in w) c r))

-- constant_in_cycle: the first constant in the set of the container in row c
pub record FindsConstant (count c : ℕ) (w : List ℕ) (r : Rust.Option ℕ) : Type 0 where
  pub below : (i : ℕ) → r ≡ Some i → i < count
  pub finds : (s : Containment Spot) → Holds count w s → c < count → (ci : Ident Spot) → ci.id ≡ id_at s.containers c → found_in s.containers r ≡ constant_in_cycle (contained_ids_of ci.id s.containers) s.containers

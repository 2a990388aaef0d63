-- When a table of words holds the containers of a state of the definitions.
use Rattle.std.specs.Prelude.{ℕ, ◌+◌, ◌≤◌, ◌<◌, ◌≡◌, Bool, true, false, ◌&&◌, ◌||◌, List, [], ◌∷◌, eqb, length, get_or, take, drop}
use Rattle.memory.specs.Rows.{member}
use Rattle.penne.specs.Tree.{Spot, Ident}
use Rattle.penne.specs.Find.{is_in}
use Rattle.penne.specs.Containers.{Container, Containment, id_of}

-- what stands past the end of a list of identifiers, of containers
abbrev pub no_ident : Ident Spot
no_ident = record { name = 0; place = record { number = 0; from = 0 }; id = 0; auth = 0 }

abbrev pub no_container : Container Spot
no_container = record { identifier = no_ident; contained_ids = []; depth = 0; is_structure = false }

-- the container of row r, its id, the ids that it contains
unfoldable pub at : List (Container Spot) → (r : ℕ) → Container Spot
at cs r = get_or cs r no_container

unfoldable pub id_at : List (Container Spot) → (r : ℕ) → ℕ
id_at cs r = id_of (at cs r)

unfoldable pub ids_at : List (Container Spot) → (r : ℕ) → List ℕ
ids_at cs r = (at cs r).contained_ids

-- the number of a kind: structures 3, constants 0
unfoldable pub kind_of : (structure : Bool) → ℕ
kind_of true = 3
kind_of false = 0

-- the words of row r, a column for each field, are those of the container c
pub record IsRow (w : List ℕ) (r : ℕ) (c : Container Spot) : Type 0 where
  pub name : get_or w (0 + r) 0 ≡ c.identifier.name
  pub place : get_or w (128 + r) 0 ≡ c.identifier.place.number
  pub id : get_or w (256 + r) 0 ≡ c.identifier.id
  pub kind : get_or w (384 + r) 0 ≡ kind_of c.is_structure
  pub depth : get_or w (512 + r) 0 ≡ c.depth

-- i is the id of one of the containers
pub record Known (count : ℕ) (cs : List (Container Spot)) (i : ℕ) : Type 0 where
  pub row : ℕ
  pub below : row < count
  pub is : id_at cs row ≡ i

-- row r has bit j where container r contains the id of container j, and it contains no other ids; other rows are empty, but for the last, which is to work with
pub record Sets (count : ℕ) (rows : List ℕ) (cs : List (Container Spot)) : Type 0 where
  pub long : length rows ≡ 516
  pub bits : (r j : ℕ) → r < count → j < count → member rows r j ≡ is_in (id_at cs j) (ids_at cs r)
  pub past : (r j : ℕ) → r < count → count ≤ j → member rows r j ≡ false
  pub free : (r j : ℕ) → count ≤ r → r < 128 → member rows r j ≡ false
  pub closed : (r i : ℕ) → r < count → is_in i (ids_at cs r) ≡ true → Known count cs i

-- the edge from a to b is one of es
unfoldable pub is_edge : (a b : ℕ) → List (ℕ × ℕ) → Bool
is_edge a b [] = false
is_edge a b ((x, y) ∷ es) = (eqb x a && eqb y b) || is_edge a b es

-- row r has bit j where there was an edge from container r to container j, and there was no other
pub record Edges (count : ℕ) (rows : List ℕ) (cs : List (Container Spot)) (es : List (ℕ × ℕ)) : Type 0 where
  pub long : length rows ≡ 512
  pub bits : (r j : ℕ) → r < count → j < count → member rows r j ≡ is_edge (id_at cs r) (id_at cs j) es
  pub free : (r j : ℕ) → (r < count → j < count → ⊥) → member rows r j ≡ false
  pub closed : (a b : ℕ) → is_edge a b es ≡ true → Known count cs a × Known count cs b

-- the parts of a table behind its columns
unfoldable pub contained_in : List ℕ → List ℕ
contained_in w = take 516 (drop 640 w)

unfoldable pub edges_in : List ℕ → List ℕ
edges_in w = take 512 (drop 1156 w)

-- the first `count` rows of the table w are the containers of s
pub record Holds (count : ℕ) (w : List ℕ) (s : Containment Spot) : Type 0 where
  pub counted : length s.containers ≡ count
  pub few : count ≤ 128
  pub long : length w ≡ 1668
  pub distinct : (i j : ℕ) → i < count → j < count → id_at s.containers i ≡ id_at s.containers j → i ≡ j
  pub rows : (r : ℕ) → r < count → IsRow w r (at s.containers r)
  pub sets : Sets count (contained_in w) s.containers
  pub edges : Edges count (edges_in w) s.containers s.edges

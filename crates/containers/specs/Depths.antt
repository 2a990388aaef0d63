-- What the calls of determine_container_depths do to a table's words: to the depths, and to the rows of bits. Row 128 has what a round resolves.
use Rattle.std.specs.Prelude.{ℕ, zero, suc, ◌+◌, ◌≤◌, ◌<◌, ◌≡◌, Bool, true, false, ◌&&◌, ◌||◌, not, List, [], ◌∷◌, map, eqb, ltb, length, get_or}
use Rattle.memory.specs.Rows.{member, vacant}
use Rattle.penne.specs.Tree.{Spot, Ident}
use Rattle.penne.specs.Find.{keep}
use Rattle.penne.specs.Containers.{Containment, id_of, with_containers, resolves, settled, rounds, determine_container_depths, obtain_container_depth}
use Rattle.containers.specs.Table.{id_at, contained_in, edges_in, Holds}

-- ROWS OF BITS

-- no word but those of the rows of bits is changed
pub record OnlyRows (w w' : List ℕ) : Type 0 where
  pub words : (p : ℕ) → p < 640 → get_or w' p 0 ≡ get_or w p 0
  pub edges : edges_in w' ≡ edges_in w

-- clear_marks: row 128 is empty
pub record Clears (w w' : List ℕ) : Type 0 where
  pub long : length w' ≡ length w
  pub only : length w ≡ 1668 → OnlyRows w w'
  pub same : length w ≡ 1668 → (i j : ℕ) → i < 128 → member (contained_in w') i j ≡ member (contained_in w) i j
  pub none : length w ≡ 1668 → (j : ℕ) → member (contained_in w') 128 j ≡ false

-- row r is one that the round resolves: no depth yet, and empty
unfoldable pub row_resolves : List ℕ → (r : ℕ) → Bool
row_resolves w r = eqb (get_or w (512 + r) 0) 0 && vacant (contained_in w) r

pub record Resolves (w : List ℕ) (r : ℕ) (b : Bool) : Type 0 where
  pub is : length w ≡ 1668 → r < 128 → b ≡ row_resolves w r

-- mark, mark_all: row 128 gets the row, the first `count` rows, if the round resolves them
pub record Marks (row : ℕ) (w w' : List ℕ) : Type 0 where
  pub long : length w' ≡ length w
  pub only : length w ≡ 1668 → row < 128 → OnlyRows w w'
  pub same : length w ≡ 1668 → row < 128 → (i j : ℕ) → i < 128 → member (contained_in w') i j ≡ member (contained_in w) i j
  pub marks : length w ≡ 1668 → row < 128 → (j : ℕ) → member (contained_in w') 128 j ≡ member (contained_in w) 128 j || (eqb j row && row_resolves w row)

pub record MarksAll (count : ℕ) (w w' : List ℕ) : Type 0 where
  pub long : length w' ≡ length w
  pub only : length w ≡ 1668 → count ≤ 128 → OnlyRows w w'
  pub same : length w ≡ 1668 → count ≤ 128 → (i j : ℕ) → i < 128 → member (contained_in w') i j ≡ member (contained_in w) i j
  pub marks : length w ≡ 1668 → count ≤ 128 → (j : ℕ) → member (contained_in w') 128 j ≡ member (contained_in w) 128 j || (ltb j count && row_resolves w j)

pub record NoneMarked (w : List ℕ) (b : Bool) : Type 0 where
  pub is : length w ≡ 1668 → b ≡ vacant (contained_in w) 128

pub record IsMarked (w : List ℕ) (r : ℕ) (b : Bool) : Type 0 where
  pub is : length w ≡ 1668 → b ≡ member (contained_in w) 128 r

-- release_rows: row 128 is taken out of the first `count` rows
pub record ReleasesRows (count : ℕ) (w w' : List ℕ) : Type 0 where
  pub long : length w' ≡ length w
  pub same : (i j : ℕ) → count ≤ i → member w' i j ≡ member w i j
  pub here : count ≤ 128 → (i j : ℕ) → i < count → member w' i j ≡ member w i j && not (member w 128 j)

pub record Releases (count : ℕ) (w w' : List ℕ) : Type 0 where
  pub long : length w' ≡ length w
  pub only : length w ≡ 1668 → OnlyRows w w'
  pub rows : length w ≡ 1668 → ReleasesRows count (contained_in w) (contained_in w')

-- DEPTHS

-- the depths of the first `count` rows become f of what they were, and nothing else is changed
pub record Deepens (count : ℕ) (f : ℕ → ℕ → ℕ) (w w' : List ℕ) : Type 0 where
  pub depth : (r : ℕ) → r < count → get_or w' (512 + r) 0 ≡ f r (get_or w (512 + r) 0)
  pub words : (p : ℕ) → ((r : ℕ) → r < count → p ≡ 512 + r → ⊥) → get_or w' p 0 ≡ get_or w p 0
  pub contained : contained_in w' ≡ contained_in w
  pub edges : edges_in w' ≡ edges_in w

-- the depth of one row
pub record DeepensRow (row : ℕ) (f : ℕ → ℕ → ℕ) (w w' : List ℕ) : Type 0 where
  pub depth : get_or w' (512 + row) 0 ≡ f row (get_or w (512 + row) 0)
  pub words : (p : ℕ) → (p ≡ 512 + row → ⊥) → get_or w' p 0 ≡ get_or w p 0
  pub contained : contained_in w' ≡ contained_in w
  pub edges : edges_in w' ≡ edges_in w

-- what is marked has depth d
unfoldable pub marked : (d : ℕ) (rows : List ℕ) → (r v : ℕ) → ℕ
marked d rows r v = elim (member rows 128 r) [ true ↦ 2 + d | false ↦ v ]

-- what has no depth is poisoned
unfoldable pub or_one : (r v : ℕ) → ℕ
or_one r zero = 1
or_one r (suc v) = suc v

pub record DeepensMarked (count d : ℕ) (w w' : List ℕ) : Type 0 where
  pub long : length w' ≡ length w
  pub all : length w ≡ 1668 → count ≤ 128 → d < 128 → Deepens count (marked d (contained_in w)) w w'

pub record DeepensIfMarked (row d : ℕ) (w w' : List ℕ) : Type 0 where
  pub long : length w' ≡ length w
  pub one : length w ≡ 1668 → row < 128 → d < 128 → DeepensRow row (marked d (contained_in w)) w w'

pub record PoisonsRest (count : ℕ) (w w' : List ℕ) : Type 0 where
  pub long : length w' ≡ length w
  pub all : length w ≡ 1668 → count ≤ 128 → Deepens count or_one w w'

pub record PoisonsRow (row : ℕ) (w w' : List ℕ) : Type 0 where
  pub long : length w' ≡ length w
  pub one : length w ≡ 1668 → row < 128 → DeepensRow row or_one w w'

-- BY THE DEFINITIONS

-- a round resolves nothing, or goes on to the next
pub data Rounded (count d : ℕ) (s : Containment Spot) : Bool → List ℕ → Type 0 where
  over : {w' : List ℕ} → map id_of (keep resolves s.containers) ≡ [] → Holds count w' s → Rounded count d s false w'
  goes : {w' : List ℕ} (id : ℕ) (ids : List ℕ) → map id_of (keep resolves s.containers) ≡ id ∷ ids → Holds count w' (with_containers s (map (settled d (id ∷ ids)) s.containers)) → Rounded count d s true w'

pub record Round (count d : ℕ) (w : List ℕ) (b : Bool) (w' : List ℕ) : Type 0 where
  pub long : length w' ≡ length w
  pub rounds : (s : Containment Spot) → Holds count w s → d < count → Rounded count d s b w'

pub record Rounds (count : ℕ) (w w' : List ℕ) : Type 0 where
  pub long : length w' ≡ length w
  pub rounds : (s : Containment Spot) → Holds count w s → Holds count w' (with_containers s (rounds (length s.containers) 0 s.containers))

-- determine_container_depths
pub record Determines (count : ℕ) (w w' : List ℕ) : Type 0 where
  pub long : length w' ≡ length w
  pub determines : (s : Containment Spot) → Holds count w s → Holds count w' (with_containers s (determine_container_depths s.containers))

-- container_depth: what obtain_container_depth finds
pub record TellsDepth (row : ℕ) (w : List ℕ) (r : ℕ) : Type 0 where
  pub tells : (s : Containment Spot) (count : ℕ) → Holds count w s → row < count → (i : Ident Spot) → i.id ≡ id_at s.containers row → r ≡ obtain_container_depth i s.containers

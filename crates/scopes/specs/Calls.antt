-- What the calls promise: whatever the scope and the table stood for before, they stand afterwards for what the definitions make of it.
use Rattle.std.specs.Prelude.{ℕ, ◌+◌, ◌%◌, ◌≤◌, ◌<◌, ◌≡◌, List, [], ◌∷◌, ◌++◌, length, get_or, take, Option, Some, None}
use Rattle.std.proofs.Math.Option.{none, some}
use Rattle.penne.specs.Tree.{Spot, Ident}
use Rattle.penne.specs.Find.{first_named}
use Rattle.penne.specs.Pruning.{Prunings, no_prunings}
use Rattle.scopes.specs.declared.scope.Scope.{Scope}
use Rattle.scopes.specs.declared.scope.Local.{Local}
use Rattle.scopes.specs.Table.{words, rows, local_name, local_fate, heads, cell, Nth, Stands, entry, Holds, Blank, Keeps}

-- nothing is in scope; the first id is any but 0
pub record Begins (r : Scope) : Type 0 where
  pub holds : {w : List ℕ} (next : ℕ) → Blank w → 0 < next → Holds r w [] 0 no_prunings next

-- a new layer
pub record Opens (s r : Scope) : Type 0 where
  pub holds : {w : List ℕ} {ls : List (Ident Spot)} {layer : ℕ} {p : Prunings Spot} {next : ℕ} → Holds s w ls layer p next → Holds r w ls (length ls) p next

-- the locals of the outer scope are left
pub record Closes (s outer : Scope) (w : List ℕ) (r : Scope) (w' : List ℕ) : Type 0 where
  pub told : r ≡ outer
  pub kept : Keeps w w'
  pub holds : {ls : List (Ident Spot)} {layer : ℕ} {p : Prunings Spot} {next : ℕ} → Holds s w ls layer p next → outer.count ≤ length ls
      → Holds r w' (take outer.count ls) outer.layer p next

-- one local more, with the next id
pub record Declares (s : Scope) (l : Local) (w : List ℕ) (r : Scope) (w' : List ℕ) : Type 0 where
  pub kept : Keeps w w'
  pub holds : {ls : List (Ident Spot)} {layer : ℕ} {p : Prunings Spot} {next : ℕ} {i : Ident Spot} → Holds s w ls layer p next → length ls < rows
      → Stands l i → i.name < rows → i.id ≡ next → Holds r w' (ls ++ (i ∷ [])) layer p (next + 1)

-- what the search for a name found
pub data Finds (n : ℕ) (ls : List (Ident Spot)) : Option ℕ → Type 0 where
  nothing : first_named n ls ≡ none → Finds n ls None
  found : {k : ℕ} {i : Ident Spot} → Nth k i ls → first_named n ls ≡ some i → Finds n ls (Some k)

-- the search for a name
pub record Searches (s : Scope) (w : List ℕ) (n : ℕ) (r : Option ℕ) : Type 0 where
  pub finds : {ls : List (Ident Spot)} {layer : ℕ} {p : Prunings Spot} {next : ℕ} → Holds s w ls layer p next → Finds n ls r

-- entry k
pub record LocalAt (w : List ℕ) (k : ℕ) (r : Local) : Type 0 where
  pub stands : {s : Scope} {ls : List (Ident Spot)} {layer : ℕ} {p : Prunings Spot} {next : ℕ} {i : Ident Spot} → Holds s w ls layer p next → Nth k i ls → Stands r i

-- INSIDE: the steps of declaring and closing

-- the entry k is l, and it is standing; no other row is changed, and no column but five
pub record Enters (k : ℕ) (l : Local) (w w' : List ℕ) : Type 0 where
  pub long : length w' ≡ length w
  pub there : k < rows → length w ≡ words → entry w' k ≡ l
  pub fate : k < rows → length w ≡ words → cell w' local_fate k ≡ 0
  pub others : (j : ℕ) → (j % rows ≡ k → ⊥) → get_or w' j 0 ≡ get_or w j 0
  pub below : (j : ℕ) → j < local_name → get_or w' j 0 ≡ get_or w j 0
  pub above : (j : ℕ) → local_fate + rows ≤ j → get_or w' j 0 ≡ get_or w j 0

-- entry k heads the name n, unless another does
pub record Leads (k n : ℕ) (w w' : List ℕ) : Type 0 where
  pub long : length w' ≡ length w
  pub first : k < rows → n < rows → length w ≡ words → cell w heads n ≡ 0 → cell w' heads n ≡ k + 1
  pub later : (cell w heads n ≡ 0 → ⊥) → cell w' heads n ≡ cell w heads n
  pub others : (j : ℕ) → (j ≡ heads + n → ⊥) → get_or w' j 0 ≡ get_or w j 0

-- the last local goes
pub record Vacates (k : ℕ) (w w' : List ℕ) : Type 0 where
  pub kept : Keeps w w'
  pub holds : {s : Scope} (ls : List (Ident Spot)) (i : Ident Spot) {layer : ℕ} {p : Prunings Spot} {next : ℕ} → Holds s w (ls ++ (i ∷ [])) layer p next → length ls ≡ k
      → Holds (record { count = k; layer = s.layer }) w' ls layer p next

-- What the calls of goto pruning promise.
use Rattle.std.specs.Prelude.{ℕ, ◌+◌, ◌<◌, ◌≡◌, Bool, true, false, List, ltb, drop}
use Rattle.penne.specs.Tree.{Spot, Ident}
use Rattle.penne.specs.Find.{is_in}
use Rattle.penne.specs.Pruning.{Pruning, Prunings, prepare_to_prune_at_goto, prune, prune_at_label, fate, poison_variable}
use Rattle.scopes.specs.declared.scope.Scope.{Scope}
use Rattle.scopes.specs.declared.pruning.Fate.{Fate}
use Rattle.scopes.specs.Table.{rows, Nth, Label, Tells, Holds, Keeps}

-- the ids in scope at a goto: those of all locals, and none that is still to come
pub record InScope (ls : List (Ident Spot)) (next : ℕ) (ids : List ℕ) : Type 0 where
  pub locals : {k : ℕ} {i : Ident Spot} → Nth k i ls → is_in i.id ids ≡ true
  pub lower : (x : ℕ) → is_in x ids ≡ true → x < next

-- a goto to the label l, whose id is row + 1
pub record Prepares (row place id : ℕ) (w w' : List ℕ) : Type 0 where
  pub kept : Keeps w w'
  pub holds : {s : Scope} {ls : List (Ident Spot)} {layer : ℕ} {p : Prunings Spot} {next : ℕ} (l : Ident Spot) (goto : Spot) {ids : List ℕ} → Holds s w ls layer p next
      → row < rows → l.id ≡ row + 1 → place ≡ goto.number → id ≡ next → InScope ls next ids → Holds s w' ls layer (prepare_to_prune_at_goto l goto ids p) next

-- the label l of that row, in the last layer
pub record Prunes (s : Scope) (row : ℕ) (w w' : List ℕ) : Type 0 where
  pub kept : Keeps w w'
  pub holds : {ls : List (Ident Spot)} {layer : ℕ} {p : Prunings Spot} {next : ℕ} {l : Ident Spot} → Holds s w ls layer p next → Label w row l
      → Holds s w' ls layer (prune_at_label l (drop layer ls) p) next

-- what became of local k
pub record Becomes (w : List ℕ) (k : ℕ) (r : Fate) : Type 0 where
  pub tells : {s : Scope} {ls : List (Ident Spot)} {layer : ℕ} {p : Prunings Spot} {next : ℕ} {i : Ident Spot} → Holds s w ls layer p next → Nth k i ls → Tells w r (fate i.id p)

-- local k is poisoned
pub record Poisons (k : ℕ) (w w' : List ℕ) : Type 0 where
  pub kept : Keeps w w'
  pub holds : {s : Scope} {ls : List (Ident Spot)} {layer : ℕ} {p : Prunings Spot} {next : ℕ} {i : Ident Spot} → Holds s w ls layer p next → Nth k i ls
      → Holds s w' ls layer (poison_variable i.id p) next

-- INSIDE: one local at a label

-- other pruned_variables
unfoldable pub with_pruned : Prunings Spot → List (Pruning Spot) → Prunings Spot
with_pruned p cs = record { unresolved_labels = p.unresolved_labels; pruned_variables = cs; poisoned_variables = p.poisoned_variables; skips = p.skips }

-- pruned, unless it was in scope at every goto
unfoldable pub prune_unless : Bool → Pruning Spot → List (Pruning Spot) → List (Pruning Spot)
prune_unless true c cs = cs
prune_unless false c cs = prune c cs

-- local k at the label l of that row, the first goto to which had that note and that place
pub record PrunesOne (k note row place : ℕ) (w w' : List ℕ) : Type 0 where
  pub kept : Keeps w w'
  pub holds : {s : Scope} {ls : List (Ident Spot)} {layer : ℕ} {p : Prunings Spot} {next : ℕ} {i l : Ident Spot} (goto : Spot) → Holds s w ls layer p next → Nth k i ls → Label w row l → place ≡ goto.number
      → Holds s w' ls layer (with_pruned p (prune_unless (ltb i.id note) (record { variable = i.id; label = l; location_of_goto = goto }) p.pruned_variables)) next

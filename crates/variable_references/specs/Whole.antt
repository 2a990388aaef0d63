-- What the second pass promises of the whole tree.
use Rattle.std.specs.Prelude.{ℕ, ◌+◌, ◌≤◌, ◌≡◌, List, [], length, get_or, None}
use Rattle.penne.specs.Tree.{Spot, Tree}
use Rattle.penne.specs.Write.{encode}
use Rattle.penne.specs.Scoper.{answered_tree, skip_list, words}
use Rattle.tree.specs.declared.script.Layout.{Layout}
use Rattle.tree.specs.Script.{LaidOut}
use Rattle.answer.specs.Out.{Said}
use Rattle.labels.specs.Outcomes.{outcomes_decls, labels_in_decls}
use Rattle.label_references.specs.Pass.{fresh, uncounted}
use Rattle.labels.specs.Table.{Told, Off}
use Rattle.scopes.specs.Labels.{Along, Named}
use Rattle.walk.specs.Walking.{Input}
use Rattle.answer.specs.declared.wrote.Wrote.{Wrote}
use Rattle.answer.specs.declared.wrote.Wrote.TheVariants.{Bytes}
use Rattle.scopes.specs.Calls.{Begins}
use Rattle.walk.specs.declared.state.Walk.{Walk}
use Rattle.stages.specs.declared.predeclare.Predeclared.{Predeclared}
use Rattle.stages.specs.Stages.{MainName}
use Rattle.variable_references.specs.declared.script.Answered.{Answered}

-- the work words as the label pass leaves them, where they were zero before: outcomes and labels, and all else zero
pub record Prepared {s : List ℕ} {l : Layout} (t : LaidOut s l) (w : List ℕ) : Type 0 where
  pub long : 16384 ≤ length w
  pub told : Along (Told w) 0 (outcomes_decls t.decls (fresh 1)) t.counts.statements
  pub named : Along (Named w) 1 (labels_in_decls t.decls) (1 + length (labels_in_decls t.decls))
  pub zero : (i : ℕ) → Off 0 t.counts.statements i → Off 2048 4096 i → get_or w i 0 ≡ 0

-- started: the state that the walk begins with
pub record Started (t : List ℕ) (l : Layout) (b : Predeclared) (v : Wrote) (r : Walk) : Type 0 where
  pub at : r.at ≡ l.first
  pub wrote : r.wrote ≡ v
  pub listed : r.listed ≡ Bytes 0
  pub counts : r.counts ≡ uncounted
  pub scope : Begins r.tables.scope
  pub next : r.tables.next_id ≡ b.next_id
  pub constant : r.tables.constant ≡ None
  pub names : r.script.names ≡ l.names
  pub containers : r.script.containers ≡ b.counts.containers
  pub functions : r.script.functions ≡ b.counts.functions
  pub main : MainName t r.script.main

-- the tree that was read: the passes do not look at its depths
abbrev pub tree_of : {s : List ℕ} {l : Layout} → LaidOut s l → Tree Spot
tree_of t = record { names = t.table; decls = t.decls; depths = [] }

-- variable_references: answer and list are what the definitions give, as far as they fit
pub record References (s : List ℕ) (l : Layout) (o k w : List ℕ) (r : Answered) (o' k' : List ℕ) : Type 0 where
  pub does : Input s → (t : LaidOut s l) → Prepared t w → Said r.wrote o' (encode (answered_tree (tree_of t))) (length o) × Said r.listed k' (words (skip_list (tree_of t))) (length k)

use mathlib.Core.Path.{◌≡◌}
use lib.ListN.{length}
use Rattle.tree.specs.Ends.{Known}
use Rattle.label_references.proofs.Deciding.{Deciding}
use Rattle.label_references.proofs.declarations.Given as goal

abbrev pub invariant-loop-row : goal.invariant-loop-row
invariant-loop-row l = (length l.work ≡ length l.initial.work) × (Known l.tree l.names l.ends → Deciding l.tree l.names l.fn.layout.count l.fn.layout.first l.initial.counts 1 l.initial.work l.row l.at l.counts l.next_id l.work)

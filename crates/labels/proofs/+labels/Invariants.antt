use Prim.Native.Nat.{◌+◌, ◌*◌}
use Rattle.labels.proofs.Visiting.{Visiting}
use Rattle.labels.proofs.+labels.Given as goal

abbrev pub decreases-visit : goal.decreases-visit
decreases-visit l = l.left * 4

abbrev pub decreases-visit_block : goal.decreases-visit_block
decreases-visit_block l = l.left * 4 + 2

abbrev pub decreases-visit_branches : goal.decreases-visit_branches
decreases-visit_branches l = l.left * 4 + 1

abbrev pub decreases-visit_list : goal.decreases-visit_list
decreases-visit_list l = l.left * 4 + 1

abbrev pub invariant-visit_list-loop-k : goal.invariant-visit_list-loop-k
invariant-visit_list-loop-k l = Visiting l.left l.fn.last l.fn.labels l.initial.work l.last l.labels l.work

abbrev pub decreases-visit_list-loop-k : goal.decreases-visit_list-loop-k
decreases-visit_list-loop-k l = l.last

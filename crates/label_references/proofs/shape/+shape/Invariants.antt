use Rattle.penne.specs.Read.{read_stmt}
use Rattle.label_references.proofs.Laying.{Laying}
use Prim.Native.Nat.{◌+◌, ◌-◌, ◌*◌}
use Rattle.label_references.proofs.shape.+shape.Given as goal

abbrev pub decreases-lay : goal.decreases-lay
decreases-lay l = l.left * 4

abbrev pub decreases-lay_block : goal.decreases-lay_block
decreases-lay_block l = l.left * 4 + 2

abbrev pub decreases-lay_branches : goal.decreases-lay_branches
decreases-lay_branches l = l.left * 4 + 2

abbrev pub decreases-lay_else : goal.decreases-lay_else
decreases-lay_else l = l.left * 4 + 1

abbrev pub decreases-lay_list : goal.decreases-lay_list
decreases-lay_list l = l.left * 4 + 1

abbrev pub invariant-lay_list-loop : goal.invariant-lay_list-loop
invariant-lay_list-loop l = Laying (read_stmt l.left) l.tree l.names l.left l.count l.first l.fn.counts l.initial.work (l.count - l.counter) l.so_far l.work

use Prim.Native.Nat.{◌+◌, ◌*◌, ◌-◌}
use Rattle.penne.specs.Reader.{listed}
use Rattle.penne.specs.Read.{read_stmt}
use Rattle.fields.proofs.Lists.{Listing}
use Rattle.tree.proofs.statement.+statement.Given as goal

abbrev pub decreases-block : goal.decreases-block
decreases-block l = l.left * 4 + 2

abbrev pub decreases-branches : goal.decreases-branches
decreases-branches l = l.left * 4 + 2

abbrev pub decreases-else_branch : goal.decreases-else_branch
decreases-else_branch l = l.left * 4 + 1

abbrev pub decreases-statement_of : goal.decreases-statement_of
decreases-statement_of l = l.left * 4 + 3

abbrev pub decreases-statements : goal.decreases-statements
decreases-statements l = l.left * 4 + 1

abbrev pub decreases-stmt : goal.decreases-stmt
decreases-stmt l = l.left * 4 + 0

abbrev pub invariant-statements-loop : goal.invariant-statements-loop
invariant-statements-loop l = Listing (listed (read_stmt l.left)) (read_stmt l.left) l.tree l.names l.fn.counts l.fn.at (l.count - l.counter) l.counts l.at

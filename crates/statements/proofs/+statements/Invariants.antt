use Rattle.penne.specs.Read.{read_stmt, to_stms}
use Rattle.penne.specs.Write.{stm_b}
use Rattle.walk.proofs.Leading.{Going}
use Rattle.statement_parts.specs.Stating.{stm_walk}
use Prim.Native.Nat.{◌+◌, ◌-◌, ◌*◌}
use Rattle.statements.proofs.+statements.Given as goal

abbrev pub decreases-block : goal.decreases-block
decreases-block l = l.left * 8 + 2

abbrev pub decreases-branches : goal.decreases-branches
decreases-branches l = l.left * 8 + 2

abbrev pub decreases-else_branch : goal.decreases-else_branch
decreases-else_branch l = l.left * 8 + 1

abbrev pub decreases-statement_of : goal.decreases-statement_of
decreases-statement_of l = l.left * 8 + 3

abbrev pub decreases-statements : goal.decreases-statements
decreases-statements l = l.left * 8 + 1

abbrev pub decreases-stmt : goal.decreases-stmt
decreases-stmt l = l.left * 8 + 0

abbrev pub invariant-statements-loop : goal.invariant-statements-loop
invariant-statements-loop l = Going l.tree (read_stmt l.left) (λ xs b. stm_walk stm_b (to_stms xs) b) l.n l.initial.st l.initial.answer l.initial.list l.initial.work (l.n - l.counter) l.st l.answer l.list l.work

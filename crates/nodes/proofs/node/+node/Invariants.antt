use Rattle.penne.specs.Read.{read, item_of}
use Rattle.penne.specs.Tree.{expr, step}
use Rattle.penne.specs.Reader.{listed}
use Rattle.fields.proofs.Lists.{Rest}
use Prim.Native.Nat.{◌+◌, ◌*◌, ◌-◌}
use Rattle.nodes.proofs.node.+node.Given as goal

abbrev pub decreases-array_literal : goal.decreases-array_literal
decreases-array_literal l = l.left * 5 + 2

abbrev pub decreases-bit_cast : goal.decreases-bit_cast
decreases-bit_cast l = l.left * 5 + 1

abbrev pub decreases-deref : goal.decreases-deref
decreases-deref l = l.left * 5 + 1

abbrev pub decreases-element : goal.decreases-element
decreases-element l = l.left * 5 + 1

abbrev pub decreases-expression : goal.decreases-expression
decreases-expression l = l.left * 5 + 0

abbrev pub decreases-expression_of : goal.decreases-expression_of
decreases-expression_of l = l.left * 5 + 4

abbrev pub decreases-expressions : goal.decreases-expressions
decreases-expressions l = l.left * 5 + 1

abbrev pub decreases-function_call : goal.decreases-function_call
decreases-function_call l = l.left * 5 + 2

abbrev pub decreases-item : goal.decreases-item
decreases-item l = l.left * 5 + 1

abbrev pub decreases-items : goal.decreases-items
decreases-items l = l.left * 5 + 2

abbrev pub decreases-length_of_array : goal.decreases-length_of_array
decreases-length_of_array l = l.left * 5 + 1

abbrev pub decreases-operation : goal.decreases-operation
decreases-operation l = l.left * 5 + 1

abbrev pub decreases-parenthesized : goal.decreases-parenthesized
decreases-parenthesized l = l.left * 5 + 1

abbrev pub decreases-reference : goal.decreases-reference
decreases-reference l = l.left * 5 + 0

abbrev pub decreases-step : goal.decreases-step
decreases-step l = l.left * 5 + 0

abbrev pub decreases-steps : goal.decreases-steps
decreases-steps l = l.left * 5 + 1

abbrev pub decreases-structural : goal.decreases-structural
decreases-structural l = l.left * 5 + 3

abbrev pub decreases-type_cast : goal.decreases-type_cast
decreases-type_cast l = l.left * 5 + 1

abbrev pub decreases-unary : goal.decreases-unary
decreases-unary l = l.left * 5 + 1

abbrev pub invariant-expressions-loop : goal.invariant-expressions-loop
invariant-expressions-loop l = Rest (listed (read l.left expr)) (read l.left expr) l.tree l.names l.fn.at (l.count - l.counter) l.at

abbrev pub invariant-items-loop : goal.invariant-items-loop
invariant-items-loop l = Rest (listed (item_of (read l.left))) (item_of (read l.left)) l.tree l.names l.fn.at (l.count - l.counter) l.at

abbrev pub invariant-steps-loop : goal.invariant-steps-loop
invariant-steps-loop l = Rest (listed (read l.left step)) (read l.left step) l.tree l.names l.fn.at (l.count - l.counter) l.at

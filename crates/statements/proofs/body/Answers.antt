use Rattle.statements.proofs.Bodies.{bodied}
use Rattle.statements.proofs.body.Goals as goal

pub returns : goal.returns
returns c = bodied c.push_scope.ensures c.statements.ensures c.option_expression.ensures c.pop_scope.ensures (c.body_id.ensures _ _)

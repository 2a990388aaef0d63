use Rattle.walk.proofs.Using.{called_builtin, called_function}
use Rattle.walk.proofs.state.Walk.use_called.Goals as goal

pub returns-then-builtin-ne0 : goal.returns-then-builtin-ne0
returns-then-builtin-ne0 c = called_builtin _ c.if-builtin-ne0.true

pub returns : goal.returns
returns c = called_function _ c.if-builtin-ne0.false c.use_function.ensures

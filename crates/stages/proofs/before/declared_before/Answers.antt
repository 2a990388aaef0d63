use native.Mathlib.Omega.{arith}
use Rattle.stages.proofs.Earlier.{before_constant, before_structure, before_function}
use Rattle.stages.proofs.before.declared_before.Goals as goal

pub returns-in-0 : goal.returns-in-0
returns-in-0 c = before_constant c.in-0.is c.container_before.ensures

pub returns-in-3 : goal.returns-in-3
returns-in-3 c = before_structure c.in-3.is c.container_before-in-3.ensures

pub returns-in_default : goal.returns-in_default
returns-in_default c = before_function (omega arith) (omega arith) c.function_before.ensures

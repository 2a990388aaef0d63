use Rattle.walk.proofs.Skipping.{unlisted, use_the_variable, variable_local}
use Rattle.walk.proofs.state.Walk.use_variable.Goals as goal

pub returns-in-Some : goal.returns-in-Some
returns-in-Some c = unlisted (use_the_variable c.find_in.ensures c.in-Some.is c.use_containee.ensures)

pub returns-in-None : goal.returns-in-None
returns-in-None c = variable_local c.find_in.ensures c.in-None.is c.use_local.ensures

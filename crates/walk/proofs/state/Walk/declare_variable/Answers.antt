use Rattle.walk.proofs.Declaring.{declared_new, declared_again}
use Rattle.walk.proofs.state.Walk.declare_variable.Goals as goal

pub returns-in-Some : goal.returns-in-Some
returns-in-Some c = declared_again _ _ c.place_of_variable-before.ensures c.resolved-made.ensures c.push_variable.ensures c.in-Some.is c.duplicate.ensures

pub returns-in-None : goal.returns-in-None
returns-in-None c = declared_new _ _ c.place_of_variable-before.ensures c.resolved-made.ensures c.push_variable.ensures c.in-None.is

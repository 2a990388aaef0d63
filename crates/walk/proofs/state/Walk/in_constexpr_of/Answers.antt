use Rattle.walk.proofs.Looking.{constexpr_is}
use Rattle.walk.proofs.state.Walk.in_constexpr_of.Goals as goal

pub returns : goal.returns
returns c = constexpr_is

use Rattle.walk.proofs.Scoping.{numbered_is}
use Rattle.walk.proofs.state.Walk.create_anonymous_resolution_id.Goals as goal

pub returns : goal.returns
returns c = numbered_is c.next-self.ensures

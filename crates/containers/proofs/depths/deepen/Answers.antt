use Rattle.containers.proofs.Deepening.{deepen_is}
use Rattle.containers.proofs.depths.deepen.Goals as goal

pub returns : goal.returns
returns c = deepen_is c.is_marked.ensures c.if-not-is_marked.false c.set_word.ensures

use Rattle.answer.proofs.Chain.{◌▸◌}
use Rattle.stages.proofs.names.then_name.Goals as goal

pub returns : goal.returns
returns c = c.then_number.ensures ▸ c.then_copy.ensures

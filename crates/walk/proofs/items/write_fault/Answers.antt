use Rattle.answer.proofs.Chain.{◌▸◌}
use Rattle.walk.proofs.items.write_fault.Goals as goal

pub returns : goal.returns
returns c = c.then_number-tagged.ensures ▸ c.then_fault.ensures

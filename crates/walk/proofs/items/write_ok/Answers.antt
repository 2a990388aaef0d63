use Rattle.answer.proofs.Chain.{◌▸◌}
use Rattle.walk.proofs.items.write_ok.Goals as goal

pub returns : goal.returns
returns c = c.then_number.ensures ▸ c.then_identifier.ensures

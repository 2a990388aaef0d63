use Rattle.answer.proofs.Chain.{◌▸◌}
use Rattle.answer.proofs.wrote.Wrote.then_record.Goals as goal

pub returns : goal.returns
returns c = c.then_word.ensures ▸ c.then_word-2.ensures

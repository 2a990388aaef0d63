use Rattle.name_table.proofs.Marks.{known_met, known_new}
use Rattle.name_table.proofs.known.Goals as goal

pub among-requires : goal.among-requires
among-requires c = c.requires.0

pub returns-then-met : goal.returns-then-met
returns-then-met c = known_met _ c.requires.1 c.hash-h.ensures c.met.ensures c.if-met.true c.among.ensures

pub returns : goal.returns
returns c = known_new _ c.requires.1 c.hash-h.ensures c.met.ensures c.if-met.false c.mark.ensures

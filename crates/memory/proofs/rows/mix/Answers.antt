use borrow.Author.Rules.{rules}
use Rattle.memory.proofs.Bits.{mixing_start, mixing_more, mixing_done}
use Rattle.memory.proofs.rows.mix.Goals as goal

pub loop-q-init : goal.loop-q-init
loop-q-init g c = mixing_start

pub loop-q-preserved : goal.loop-q-preserved
loop-q-preserved g c = mixing_more c.loop-q.invariant (search rules) c.word-y.ensures c.word-x.ensures c.f.ensures c.set_word.ensures

pub returns : goal.returns
returns g c = mixing_done c.loop-q.invariant (search rules) (search rules)

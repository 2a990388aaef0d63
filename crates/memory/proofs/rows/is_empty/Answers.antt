use borrow.Author.Rules.{rules}
use Rattle.memory.proofs.Bits.{vacating_start, vacant_past, vacating_more, vacating_done, vacating_found}
use Rattle.memory.proofs.rows.is_empty.Goals as goal

pub returns-then-w-row : goal.returns-then-w-row
returns-then-w-row c = vacant_past _ _ (search rules)

pub loop-q-init : goal.loop-q-init
loop-q-init c = vacating_start

pub returns-then-word-gt0 : goal.returns-then-word-gt0
returns-then-word-gt0 c = vacating_found c.loop-q.invariant (search rules) c.word.ensures (search rules) (search rules)

pub loop-q-preserved : goal.loop-q-preserved
loop-q-preserved c = vacating_more c.loop-q.invariant c.word.ensures (search rules)

pub returns : goal.returns
returns c = vacating_done c.loop-q.invariant (search rules)

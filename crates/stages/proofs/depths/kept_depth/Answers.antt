use Rattle.stages.proofs.Deepening.{kept_short, kept_nowhere, kept_other, kept_here}
use Rattle.stages.proofs.depths.kept_depth.Goals as goal

pub returns-then-work-lt-WORDS : goal.returns-then-work-lt-WORDS
returns-then-work-lt-WORDS c = kept_short c.if-work-lt-WORDS.true

pub returns-in_default : goal.returns-in_default
returns-in_default c = kept_nowhere c.find_in-found.ensures c.in_default.is

pub returns-then-first-row : goal.returns-then-first-row
returns-then-first-row c = kept_other c.find_in-found.ensures c.in-Some.is c.if-first-row.true

pub returns : goal.returns
returns c = kept_here c.find_in-found.ensures c.in-Some.is c.if-first-row.false c.container_depth.ensures

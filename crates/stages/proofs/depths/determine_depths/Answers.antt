use Rattle.stages.proofs.Deepening.{determines_not, determines_in}
use Rattle.stages.proofs.depths.determine_depths.Goals as goal

pub returns-then-work-lt-WORDS : goal.returns-then-work-lt-WORDS
returns-then-work-lt-WORDS c = determines_not c.if-work-lt-WORDS.true

pub returns : goal.returns
returns c = determines_in c.determine_container_depths.ensures

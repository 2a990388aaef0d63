use Rattle.types.proofs.Arms.{word_fine, word_bad}
use Rattle.types.proofs.word.Goals as goal

pub returns-in-Err : goal.returns-in-Err
returns-in-Err c = λ t u l. word_bad t u (c.in-Err.ensures l) (c.past_length.ensures _ l _)

pub returns : goal.returns
returns c = λ t u l. word_fine t u (c.in_default.ensures l) (c.copy_length.ensures l _)

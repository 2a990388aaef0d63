use Rattle.scopes.proofs.Jumping.{goto_past, goto_again, goto_new}
use Rattle.scopes.proofs.pruning.prepare_to_prune_at_goto.Goals as goal

pub returns-then-label-ge1024 : goal.returns-then-label-ge1024
returns-then-label-ge1024 c = goto_past c.if-label-ge1024.true

pub returns-then-word-ne0 : goal.returns-then-word-ne0
returns-then-word-ne0 c = goto_again c.word.ensures c.if-word-ne0.true

pub returns : goal.returns
returns c = goto_new c.word.ensures c.if-word-ne0.false c.if-label-ge1024.false c.set_word.ensures c.set_word-2.ensures

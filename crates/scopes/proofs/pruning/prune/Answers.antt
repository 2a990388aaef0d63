use Rattle.scopes.proofs.Becoming.{prune_out, prune_early, prune_twice, prune_now}
use Rattle.scopes.proofs.pruning.prune.Goals as goal

pub returns-then-k-ge1024 : goal.returns-then-k-ge1024
returns-then-k-ge1024 c = prune_out c.then-k-ge1024.either

pub returns-then-word-gt1 : goal.returns-then-word-gt1
returns-then-word-gt1 c = prune_twice c.word.ensures c.if-word-gt1.true

pub returns-then-word-note : goal.returns-then-word-note
returns-then-word-note c = prune_early c.word-2.ensures c.if-word-note.true

pub returns : goal.returns
returns c = prune_now c.if-k-ge1024.false c.if-label-ge1024.false c.word-2.ensures c.if-word-note.false c.word.ensures c.if-word-gt1.false c.set_word.ensures c.set_word-2.ensures

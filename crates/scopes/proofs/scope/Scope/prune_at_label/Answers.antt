use Rattle.scopes.proofs.Jumping.{sweeping_start, sweeping_more, label_past, label_unnoted, label_done}
use Rattle.scopes.proofs.scope.Scope.prune_at_label.Goals as goal

pub returns-then-label-ge1024 : goal.returns-then-label-ge1024
returns-then-label-ge1024 c = label_past c.if-label-ge1024.true

pub returns-then-note-eq0 : goal.returns-then-note-eq0
returns-then-note-eq0 c = label_unnoted c.word-note.ensures c.if-note-eq0.true

pub loop-k-init : goal.loop-k-init
loop-k-init c = sweeping_start

pub loop-k-preserved : goal.loop-k-preserved
loop-k-preserved c = sweeping_more c.loop-k.invariant c.loop-k-test.true c.prune.ensures

pub returns : goal.returns
returns c = label_done c.word-note.ensures c.if-note-eq0.false c.word-place.ensures c.loop-k.invariant c.loop-k-test.false c.set_word.ensures

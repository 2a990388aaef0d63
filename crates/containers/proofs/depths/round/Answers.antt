use Rattle.containers.proofs.Rounding.{round_none, round_some}
use Rattle.containers.proofs.depths.round.Goals as goal

pub returns-then-none_marked : goal.returns-then-none_marked
returns-then-none_marked c = round_none c.clear_marks.ensures c.mark_all.ensures c.none_marked.ensures c.if-none_marked.true

pub returns : goal.returns
returns c = round_some c.clear_marks.ensures c.mark_all.ensures c.none_marked.ensures c.if-none_marked.false c.deepen_all.ensures c.release.ensures

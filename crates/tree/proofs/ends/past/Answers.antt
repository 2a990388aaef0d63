use Rattle.tree.proofs.Noting.{past_told}
use Rattle.tree.proofs.ends.past.Goals as goal

pub returns-then-tells : goal.returns-then-tells
returns-then-tells c = past_told c.args.row c.tells.ensures c.if-tells.true c.word-next.ensures c.counts_in.ensures

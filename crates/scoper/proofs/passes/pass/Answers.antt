use Rattle.scoper.proofs.Scoping.{passes_is}
use Rattle.scoper.proofs.passes.pass.Goals as goal

pub returns : goal.returns
returns c = λ m. passes_is _ (c.fill.ensures.after (λ y e. e)) (c.label_references.ensures m) (c.variable_references-answered.ensures m) c.if_room.ensures

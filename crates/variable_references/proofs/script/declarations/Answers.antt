use Rattle.declaration_parts.proofs.Starting.{decls_listed}
use Rattle.walk.proofs.Leading.{counted_start, counted_more, counted_done}
use Rattle.variable_references.proofs.script.declarations.Goals as goal

pub loop-init : goal.loop-init
loop-init c = counted_start

pub loop-preserved : goal.loop-preserved
loop-preserved c = counted_more decls_listed c.loop.invariant c.loop-test.true c.declaration.ensures c.declaration.auto.answer c.declaration.auto.list c.declaration.auto.work

pub returns : goal.returns
returns c = counted_done decls_listed c.loop.invariant c.loop-test.false

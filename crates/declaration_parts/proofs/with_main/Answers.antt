use Rattle.declaration_parts.proofs.Flags.{main_other, main_here}
use Rattle.declaration_parts.proofs.with_main.Goals as goal

pub returns-then-name-main : goal.returns-then-name-main
returns-then-name-main c = main_here c.if-name-main.true

pub returns : goal.returns
returns c = main_other c.if-name-main.false

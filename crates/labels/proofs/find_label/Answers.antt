use native.Mathlib.Omega.{arith}
use Rattle.labels.proofs.Finding.{finds_out, finding_start, finding_hit, finding_more, finding_none}
use Rattle.labels.proofs.find_label.Goals as goal

pub returns-then-work-lt-LABEL_STACK_END : goal.returns-then-work-lt-LABEL_STACK_END
returns-then-work-lt-LABEL_STACK_END c = finds_out (λ x y. omega arith)

pub loop-i-init : goal.loop-i-init
loop-i-init c = finding_start

pub returns-then-named : goal.returns-then-named
returns-then-named c = finding_hit c.loop-i.invariant c.loop-i-test.true c.named.ensures c.if-named.true

pub loop-i-preserved : goal.loop-i-preserved
loop-i-preserved c = finding_more c.loop-i.invariant c.loop-i-test.true c.named.ensures c.if-named.false

pub returns : goal.returns
returns c = finding_none c.loop-i.invariant c.loop-i-test.false

use Rattle.std.proofs.Common.{arith, ◌∙◌, ◌≡◌, ◌-◌}
use Rattle.penne.specs.Read.{place}
use Rattle.fields.proofs.Lists.{many_past, many_end}
use Rattle.fields.proofs.poison.places.Goals as goal

pub loop-preserved : goal.loop-preserved
loop-preserved c = λ names k. c.loop.invariant names k ∙ many_past place _ _ _ _ _ (omega arith) (c.in_ok-at.ensures.is names k)

pub returns : goal.returns
returns c = let none : c.args.count - c.loop.counter ≡ 0 = omega arith in record { is = λ names k. rw none at (c.loop.invariant names k) ∙ many_end place _ _ }

use native.Mathlib.Omega.{arith}
use Rattle.answer.proofs.Chain.{◌▸◌, put_none, put_within}
use Rattle.answer.proofs.Runs.{gives_later, renumbering_start, renumbering_more, renumbering_done, renumbering_out}
use Rattle.answer.proofs.wrote.Wrote.then_numbers.Goals as goal

pub loop-at-init : goal.loop-at-init
loop-at-init c = renumbering_start (put_none (put_within c.settled-c.ensures))

pub returns-in_default : goal.returns-in_default
returns-in_default c = c.settled-c.ensures ▸ renumbering_out c.loop-at.invariant c.loop-at-test.true c.number.ensures c.in_default.is

pub loop-at-smaller : goal.loop-at-smaller
loop-at-smaller c = omega (arith, gives_later c.number.ensures c.in-Ok.is)

pub loop-at-preserved : goal.loop-at-preserved
loop-at-preserved c = renumbering_more c.loop-at.invariant c.loop-at-test.true c.number.ensures c.in-Ok.is c.then_number-c.ensures

pub returns : goal.returns
returns c = c.settled-c.ensures ▸ renumbering_done c.loop-at.invariant c.loop-at-test.false

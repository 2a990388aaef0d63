use Rattle.std.proofs.Common.{refl, arith}
use Rattle.std.proofs.lemmas.Result.{err_from_is_err_and}
use Rattle.name_table.specs.Names.{names_from}
use Rattle.name_table.proofs.Names.{tabling_start, tabling_halt, tabling_more, tabling_done}
use Rattle.name_table.proofs.Marks.{marked_none, noted_on}
use Rattle.name_table.proofs.name_table.Goals as goal

pub loop-done-init : goal.loop-done-init
unfolding names_from
loop-done-init c = (tabling_start _, marked_none _ refl)

pub next_name-requires : goal.next_name-requires
next_name-requires c = (c.loop-done.invariant.0.ends, c.loop-done.invariant.1)

pub returns-in_err-next : goal.returns-in_err-next
returns-in_err-next c =
    let p = err_from_is_err_and c.from_residual.result c.from_residual.ensures.1 in
    rw (p.1, p.2) (tabling_halt c.loop-done.invariant.0 c.loop-done-test.true c.in_err-next.ensures.0)

pub loop-done-preserved : goal.loop-done-preserved
loop-done-preserved c = (tabling_more c.loop-done.invariant.0 c.loop-done-test.true c.in_ok-next.ensures.0, noted_on c.in_ok-next.ensures.1)

pub returns : goal.returns
returns c = tabling_done c.loop-done.invariant.0 (omega arith)

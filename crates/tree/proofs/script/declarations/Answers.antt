use Rattle.std.proofs.Common.{arith, ◌∙◌}
use Rattle.std.proofs.lemmas.Result.{err_from_is_err_and}
use Rattle.fields.proofs.Lists.{listing_more, listing_refused, listing_done}
use Rattle.tree.proofs.script.declarations.Goals as goal

pub returns-in_err-next : goal.returns-in_err-next
returns-in_err-next c =
    let p = err_from_is_err_and c.from_residual.result c.from_residual.ensures.1 in
    rw (p.1, p.2) (listing_refused c.loop-done.invariant.0 (omega arith) c.in_err-next.ensures, c.loop-done.invariant.2)

pub loop-done-preserved : goal.loop-done-preserved
loop-done-preserved c = (listing_more c.loop-done.invariant.0 (omega arith) c.in_ok-next.ensures, c.note.auto.ends ∙ c.loop-done.invariant.1, λ g. c.note.ensures.keeps c.in_ok-next.ensures (c.loop-done.invariant.2 g))

pub returns : goal.returns
returns c = (listing_done c.loop-done.invariant.0 (omega arith), c.loop-done.invariant.2)

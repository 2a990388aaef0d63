use Rattle.std.proofs.lemmas.Result.{err_from_is_err_and}
use Rattle.stages.proofs.Parting.{one_place, no_place, two_places_lem}
use Rattle.stages.proofs.heads.head_places.Goals as goal

pub returns-in_err-next : goal.returns-in_err-next
returns-in_err-next c =
    let p = err_from_is_err_and c.from_residual.result c.from_residual.ensures.1 in
    rw (p.1, p.2) (no_place c.if-kind-eq3.true c.number.ensures c.in_err-next.was)

pub returns-then-kind-eq3 : goal.returns-then-kind-eq3
returns-then-kind-eq3 c = one_place c.if-kind-eq3.true c.number.ensures c.in_ok-next.was

pub returns : goal.returns
returns c = two_places_lem c.if-kind-eq3.false c.two_places.ensures

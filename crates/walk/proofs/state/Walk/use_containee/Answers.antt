use Rattle.std.proofs.lemmas.Result.{err_from_is_err_and}
use Rattle.walk.proofs.Using.{row_as}
use Rattle.walk.proofs.Edging.{use_row_lem, use_row_fine, use_row_bad}
use Rattle.walk.proofs.state.Walk.use_containee.Goals as goal

pub returns-in_err-edge_to : goal.returns-in_err-edge_to
returns-in_err-edge_to c =
    let p = err_from_is_err_and c.from_residual.result c.from_residual.ensures.1 in
    rw (p.1, p.2) (use_row_bad _ _ c.container_at.ensures c.in-Some.is c.edge_to.ensures c.in_err-edge_to.was)

pub returns-in_ok-edge_to : goal.returns-in_ok-edge_to
returns-in_ok-edge_to c = row_as c.resolved-made.ensures (use_row_fine _ _ c.container_at.ensures c.in-Some.is c.edge_to.ensures c.in_ok-edge_to.was)

pub returns-in_default : goal.returns-in_default
returns-in_default c = row_as c.resolved-made.ensures (use_row_lem _ _ c.container_at.ensures c.in_default.is)

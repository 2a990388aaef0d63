use mathlib.Core.Path.{sym}
use Rattle.std.proofs.lemmas.Result.{err_from_is_err_and}
use Rattle.walk.proofs.Looking.{sought_none, sought_some}
use Rattle.walk.proofs.Using.{use_no_struct, use_the_struct}
use Rattle.walk.proofs.state.Walk.use_struct.Goals as goal

pub returns-in_err-row : goal.returns-in_err-row
returns-in_err-row c =
    let p = err_from_is_err_and c.from_residual.result c.from_residual.ensures.1 in
    let q = sought_none c.ok_or.ensures.value c.in_err-row.was in
    rw (p.1, p.2, sym q.1) (use_no_struct _ _ c.find_in.ensures q.0)

pub returns : goal.returns
returns c = use_the_struct _ _ c.find_in.ensures (sought_some _ c.ok_or.ensures.value c.in_ok-row.was) c.use_containee.ensures

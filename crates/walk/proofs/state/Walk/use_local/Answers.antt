use mathlib.Core.Path.{sym}
use Rattle.std.proofs.lemmas.Result.{err_from_is_err_and}
use Rattle.walk.proofs.Looking.{sought_none, sought_some}
use Rattle.walk.proofs.Skipping.{use_no_variable, use_standing, use_poisoned, use_pruned, local_made}
use Rattle.walk.proofs.state.Walk.use_local.Goals as goal

pub returns-in_err-k : goal.returns-in_err-k
returns-in_err-k c =
    let p = err_from_is_err_and c.from_residual.result c.from_residual.ensures.1 in
    let q = sought_none c.ok_or.ensures.value c.in_err-k.was in
    rw (p.1, p.2, sym q.1) (use_no_variable _ _ c.find_local.ensures q.0)

pub returns-in-Standing : goal.returns-in-Standing
returns-in-Standing c = local_made c.resolved.ensures (use_standing _ _ c.find_local.ensures (sought_some _ c.ok_or.ensures.value c.in_ok-k.was) c.local_of-declared.ensures c.what_became.ensures c.in-Standing.is)

pub returns-in-Poisoned : goal.returns-in-Poisoned
returns-in-Poisoned c = use_poisoned _ _ c.find_local.ensures (sought_some _ c.ok_or.ensures.value c.in_ok-k.was) c.local_of-declared.ensures c.what_became.ensures c.in-Poisoned.is c.list_skip.ensures

pub returns-in-Pruned : goal.returns-in-Pruned
returns-in-Pruned c = use_pruned _ _ c.find_local.ensures (sought_some _ c.ok_or.ensures.value c.in_ok-k.was) c.local_of-declared.ensures c.what_became.ensures c.in-Pruned.is c.may_be_skipped-fault.ensures c.poison_local.ensures c.list_skip-in-Pruned.ensures

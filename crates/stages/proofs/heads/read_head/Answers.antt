use Rattle.std.proofs.lemmas.Result.{err_from_is_err_and}
use Rattle.stages.specs.Heads.{an_import, a_poison}
use Rattle.stages.proofs.Parting.{head_unflagged, head_unplaced, head_unnamed, head_named}
use Rattle.stages.proofs.heads.read_head.Goals as goal

pub returns-then-kind-eq4 : goal.returns-then-kind-eq4
returns-then-kind-eq4 c = an_import c.if-kind-eq4.true

pub returns-then-kind-eq5 : goal.returns-then-kind-eq5
returns-then-kind-eq5 c = a_poison c.if-kind-eq5.true

pub returns-in_err-flags : goal.returns-in_err-flags
returns-in_err-flags c =
    let p = err_from_is_err_and c.from_residual.result c.from_residual.ensures.1 in
    rw (p.1, p.2) (head_unflagged c.if-kind-eq4.false c.if-kind-eq5.false c.below.ensures c.in_err-flags.was)

pub returns-in_err-from : goal.returns-in_err-from
returns-in_err-from c =
    let p = err_from_is_err_and c.from_residual-in_err-from.result c.from_residual-in_err-from.ensures.1 in
    rw (p.1, p.2) (head_unplaced c.if-kind-eq4.false c.if-kind-eq5.false c.below.ensures c.in_ok-flags.was c.head_places.ensures c.in_err-from.was)

pub returns-in_err-identifier : goal.returns-in_err-identifier
returns-in_err-identifier c =
    let p = err_from_is_err_and c.from_residual-in_err-identifier.result c.from_residual-in_err-identifier.ensures.1 in
    rw (p.1, p.2) (head_unnamed c.if-kind-eq4.false c.if-kind-eq5.false c.below.ensures c.in_ok-flags.was c.head_places.ensures c.in_ok-from.was c.read_identifier.ensures c.in_err-identifier.was)

pub returns : goal.returns
returns c = head_named c.if-kind-eq4.false c.if-kind-eq5.false c.below.ensures c.in_ok-flags.was c.head_places.ensures c.in_ok-from.was c.read_identifier.ensures c.in_ok-identifier.was

use Rattle.std.proofs.Common.{refl}
use Rattle.std.proofs.lemmas.Result.{err_from_is_err_and}
use Rattle.penne.specs.Reader.{nothing}
use Rattle.tree.proofs.Scripts.{declared_not, declared_all}
use Rattle.tree.proofs.script.lay_out.Goals as goal

pub returns-in_err-depths : goal.returns-in_err-depths
unfolding nothing
returns-in_err-depths c =
    let p = err_from_is_err_and c.from_residual-in_err-depths.result c.from_residual-in_err-depths.ensures.1 in
    rw (p.1, p.2) (declared_not c.in_ok-names.ensures c.if-names-gt1024.false c.in_ok-at.ensures c.in_ok-count.ensures refl c.in_err-depths.ensures.0, record { keeps = tt })

pub returns : goal.returns
unfolding nothing
returns c = (declared_all c.in_ok-names.ensures c.if-names-gt1024.false c.in_ok-at.ensures c.in_ok-count.ensures refl c.in_ok-depths.ensures.0, record { keeps = c.in_ok-depths.ensures.1 })

use Rattle.std.proofs.Common.{arith, refl, ◌≡◌, ◌-◌}
use Rattle.std.proofs.lemmas.Result.{err_from_is_err_and}
use Rattle.penne.specs.Reader.{nothing}
use Rattle.tree.proofs.Depths.{again_start, again_never, again_not, again_halt}
use Rattle.tree.proofs.script.answered_depths.Goals as goal

pub loop-init : goal.loop-init
unfolding nothing
loop-init c = let none : c.args.layout.count - 0 ≡ c.args.layout.count = omega arith in rw none (again_start refl)

pub returns-in_err-kind : goal.returns-in_err-kind
returns-in_err-kind c =
    let p = err_from_is_err_and c.from_residual.result c.from_residual.ensures.1 in
    rw (p.1, p.2) (again_never c.loop.invariant (omega arith) c.in_err-kind.ensures)

pub returns-in_err-declared : goal.returns-in_err-declared
returns-in_err-declared c =
    let p = err_from_is_err_and c.from_residual-in_err-declared.result c.from_residual-in_err-declared.ensures.1 in
    rw (p.1, p.2) (again_not c.loop.invariant (omega arith) c.in_err-declared.ensures)

pub returns-in_err-at : goal.returns-in_err-at
returns-in_err-at c =
    let p = err_from_is_err_and c.from_residual-in_err-at.result c.from_residual-in_err-at.ensures.1 in
    rw (p.1, p.2) (again_halt c.loop.invariant (omega arith) c.in_ok-kind.ensures c.in_err-at.ensures)

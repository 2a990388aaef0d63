use native.Mathlib.Omega.{arith}
use mathlib.Core.Path.{refl}
use Rattle.std.proofs.lemmas.Result.{err_from_is_err_and}
use Rattle.scoper.proofs.Scoping.{scope_long, scope_poor, scope_refused, scope_passed}
use Rattle.tree.proofs.Noting.{known_none}
use Rattle.scoper.proofs.passes.scope.Goals as goal

pub returns-then-tree-gt65535 : goal.returns-then-tree-gt65535
returns-then-tree-gt65535 c = rw c.at.ensures (scope_long _ _ _ _ c.if-tree-gt65535.true)

pub returns-then-work-lt-WORDS : goal.returns-then-work-lt-WORDS
returns-then-work-lt-WORDS c = rw c.at-then-work-lt-WORDS.ensures (scope_poor _ _ _ _ c.if-tree-gt65535.false c.if-work-lt-WORDS.true)

pub returns-in_err-layout : goal.returns-in_err-layout
returns-in_err-layout c =
    let p = err_from_is_err_and c.from_residual.result c.from_residual.ensures.1 in
    rw (p.1, p.2) (scope_refused _ _ _ _ c.if-tree-gt65535.false c.if-work-lt-WORDS.false c.in_err-layout.ensures.0)

pub returns : goal.returns
returns c = scope_passed _ _ _ _ c.if-tree-gt65535.false c.if-work-lt-WORDS.false c.in_ok-layout.ensures.0 refl refl refl (λ i. omega (arith, c.type_inv.tree i)) (c.pass.ensures (c.in_ok-layout.ensures.1.keeps (known_none 3840)))

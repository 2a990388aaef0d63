use native.Mathlib.Omega.{arith}
use mathlib.Core.Path.{refl}
use Rattle.declaration_parts.proofs.Constants.{constant_arm}
use Rattle.declaration_parts.proofs.constant.Goals as goal

pub returns-then-row-ge128 : goal.returns-then-row-ge128
returns-then-row-ge128 c = λ p q low e. absurd (omega (arith, c.if-row-ge128.true, low))

pub returns : goal.returns
returns c = λ p q low e. constant_arm p q e c.container_at-declared.ensures refl c.started.ensures c.in_constexpr_of.ensures c.expression.ensures c.in_constexpr_of-2.ensures (c.contained_type.ensures _)

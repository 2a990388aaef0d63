use mathlib.Core.Bool.{false}
use mathlib.Core.Path.{refl}
use Rattle.declaration_parts.proofs.Functions.{head_arm}
use Rattle.declaration_parts.proofs.function_head.Goals as goal

pub returns : goal.returns
returns c = λ p q l e. head_arm p q e c.function_at-declared.ensures refl c.started.ensures c.push_scope.ensures (c.parameters.ensures l) c.pop_scope.ensures (c.maybe_type.ensures false l)

use mathlib.Core.Path.{refl}
use mathlib.Core.Bool.{false}
use Rattle.declaration_parts.proofs.Functions.{function_arm}
use Rattle.variable_references.proofs.declaration.function.Goals as goal

pub returns : goal.returns
returns c = λ p q low less e. function_arm p q low less e c.function_at-declared.ensures c.with_main-flags.ensures refl c.started.ensures c.push_scope.ensures (c.parameters.ensures _) c.maybe_body.ensures c.pop_scope.ensures (c.maybe_type.ensures false _)

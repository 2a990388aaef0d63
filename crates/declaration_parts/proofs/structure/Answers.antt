use mathlib.Core.Bool.{false}
use mathlib.Core.Path.{refl}
use Rattle.declaration_parts.proofs.Structures.{structure_arm}
use Rattle.declaration_parts.proofs.structure.Goals as goal

pub returns : goal.returns
returns c = λ p l e. structure_arm p e c.container_at-declared.ensures refl c.started.ensures c.push_scope.ensures c.members.ensures c.pop_scope.ensures (c.maybe_type.ensures false l)

use mathlib.Core.Path.{refl}
use Rattle.name_table.proofs.Marks.{marks_free, marks_several}
use Rattle.name_table.proofs.mark.Goals as goal

pub returns-then-cells-i-eq0 : goal.returns-then-cells-i-eq0
returns-then-cells-i-eq0 c = marks_free _ _ c.if-cells-i-eq0.true refl

pub returns-else-cells-i-eq0 : goal.returns-else-cells-i-eq0
returns-else-cells-i-eq0 c = marks_several _ _

use mathlib.Core.Path.{refl}
use Rattle.penne.specs.Tree.{import}
use Rattle.penne.specs.Read.{read_import}
use Rattle.penne.specs.Write.{decl_b}
use Rattle.walk.proofs.Leading.{walks, leads_same, leads_last}
use Rattle.expression_parts.proofs.Texts.{text_same}
use Rattle.declaration_parts.proofs.import.Goals as goal

pub returns : goal.returns
unfolding read_import decl_b
returns c = λ l w. walks λ h a i. leads_same (text_same import) (leads_last (λ x. import x.0 x.1) (c.copy_text.ensures l w) h i λ x _. refl)

use Rattle.penne.specs.Read.{read_string}
use Rattle.penne.specs.Tree.{string}
use Rattle.walk.proofs.Leading.{walks, leads_same, leads_last}
use Rattle.expression_parts.proofs.Texts.{text_same, string_is}
use Rattle.expression_parts.proofs.string.Goals as goal

pub returns : goal.returns
unfolding read_string
returns c = λ l w. walks λ h a i. leads_same (text_same string) (leads_last (λ x. string x.0 x.1) (c.copy_text.ensures l w) h i λ x _. string_is a x.0 x.1)

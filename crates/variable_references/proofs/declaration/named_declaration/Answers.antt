use Rattle.declaration_parts.proofs.Dropping.{dropped}
use Rattle.variable_references.proofs.Titling.{first_kept}
use Rattle.variable_references.proofs.declaration.named_declaration.Goals as goal

pub returns-in-Some : goal.returns-in-Some
returns-in-Some c = λ hd. dropped hd c.declared_before-twice.ensures c.in-Some.is (c.drop_declaration.ensures _ _)

pub returns-in-None : goal.returns-in-None
returns-in-None c = first_kept c.declared_before-twice.ensures c.in-None.is c.keep_declaration.ensures

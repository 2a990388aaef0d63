use Rattle.penne.specs.Read.{read_declaration}
use Rattle.statement_parts.proofs.Fit.{unplaced}
use Rattle.statements.proofs.Declaring.{declaration_goes}
use Rattle.statements.proofs.declaration.Goals as goal

pub returns-in_default : goal.returns-in_default
unfolding read_declaration
returns-in_default c = unplaced _ c.number.ensures c.in_default.is

pub returns : goal.returns
returns c = declaration_goes c.number.ensures _ c.in-Ok.is c.then_head-st.ensures c.option_expression.ensures (c.option_type.ensures _) c.declared.ensures

use Rattle.declaration_parts.proofs.Arms.{drop_unread, drop_passed}
use Rattle.declaration_parts.proofs.drop_declaration.Goals as goal

pub returns-in_default : goal.returns-in_default
returns-in_default c = λ l w. drop_unread c.args.fault c.declaration.ensures c.in_default.is

pub returns : goal.returns
returns c = λ l w. drop_passed c.args.fault c.declaration.ensures c.in-Ok.is c.write_fault-st.ensures

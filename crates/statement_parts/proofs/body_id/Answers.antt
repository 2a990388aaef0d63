use Rattle.statement_parts.proofs.OwnNames.{name_not, body_named}
use Rattle.statement_parts.proofs.body_id.Goals as goal

pub returns-in_default : goal.returns-in_default
returns-in_default c = λ l w. name_not c.read_identifier.ensures c.in_default.is

pub returns : goal.returns
returns c = λ l w. body_named c.read_identifier.ensures c.in-Ok.is c.resolved-own.ensures c.then_identifier-st.ensures c.create_anonymous_resolution_id.ensures

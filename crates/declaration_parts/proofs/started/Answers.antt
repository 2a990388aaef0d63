use Rattle.declaration_parts.proofs.Arms.{started_is}
use Rattle.declaration_parts.proofs.started.Goals as goal

pub returns : goal.returns
returns c = started_is c.then_number.ensures c.then_number-2.ensures c.then_numbers.ensures c.then_identifier-st.ensures

use mathlib.Core.Path.{refl}
use Rattle.answer.proofs.Chain.{◌▸◌}
use Rattle.expression_parts.proofs.call_head.Goals as goal

pub returns : goal.returns
returns c = record { wrote = c.then_numbers-st.result; put = c.then_number.ensures ▸ (c.then_identifier.ensures ▸ c.then_numbers-st.ensures); is = refl }

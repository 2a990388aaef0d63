use Rattle.entries.proofs.Params.{under_more, under_done, list_unread, list_walked, outside_same, params_listed}
use Rattle.entries.proofs.parameters.Goals as goal

pub returns-in_default : goal.returns-in_default
returns-in_default c = λ l. list_unread _ _ c.number.ensures c.in_default.is

pub loop-preserved : goal.loop-preserved
loop-preserved c = under_more params_listed c.loop.invariant c.loop-test.true (λ n l. c.parameter.ensures.walked l) c.parameter.auto.answer c.parameter.auto.work

pub returns : goal.returns
returns c = λ l. list_walked _ _ c.number.ensures outside_same c.in-Ok.is c.then_number-st.ensures (under_done params_listed c.loop.invariant c.loop-test.false 0 l)

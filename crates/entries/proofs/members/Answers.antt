use Rattle.entries.proofs.Params.{under_more, under_done, list_unread, list_walked, inside_same, members_listed}
use Rattle.entries.proofs.members.Goals as goal

pub returns-in_default : goal.returns-in_default
returns-in_default c = λ m l. list_unread _ _ c.number.ensures c.in_default.is

pub loop-preserved : goal.loop-preserved
loop-preserved c = under_more members_listed c.loop.invariant c.loop-test.true c.member.ensures.walked c.member.auto.answer c.member.auto.work

pub returns : goal.returns
returns c = λ m l. list_walked _ _ c.number.ensures inside_same c.in-Ok.is c.then_number-st.ensures (under_done members_listed c.loop.invariant c.loop-test.false m l)

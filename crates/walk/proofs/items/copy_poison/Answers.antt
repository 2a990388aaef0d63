use Rattle.walk.proofs.Copying.{spelled_poison, copied, uncopied}
use Rattle.walk.proofs.items.copy_poison.Goals as goal

pub returns-in_default : goal.returns-in_default
returns-in_default c = λ l w. uncopied c.poison.ensures c.in_default.is

pub returns : goal.returns
returns c = λ l w. copied spelled_poison _ c.poison.ensures c.in-Ok.is c.then_head-st.ensures

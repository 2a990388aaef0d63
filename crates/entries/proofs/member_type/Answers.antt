use mathlib.Core.Bool.{true}
use Rattle.entries.proofs.Params.{type_held, type_alone}
use Rattle.entries.proofs.member_type.Goals as goal

pub returns-in-Some : goal.returns-in-Some
returns-in-Some c = λ l. type_held c.in-Some.is (c.contained_type.ensures l)

pub returns-in-None : goal.returns-in-None
returns-in-None c = λ l. type_alone c.in-None.is (c.maybe_type.ensures true l)

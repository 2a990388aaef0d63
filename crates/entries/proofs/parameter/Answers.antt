use mathlib.Core.Bool.{false}
use Rattle.entries.proofs.Params.{read_on, parameter_unread, parameter_typed}
use Rattle.entries.proofs.parameter.Goals as goal

pub returns-in_default : goal.returns-in_default
returns-in_default c = record { walked = λ l. parameter_unread c.entry_name.ensures.named c.in_default.is; stopped = c.entry_name.ensures.stopped.stops }

pub returns : goal.returns
returns c = record { walked = λ l. parameter_typed c.entry_name.ensures.named (c.maybe_type.ensures false l); stopped = read_on c.entry_name.ensures.stopped c.in-Ok.is }

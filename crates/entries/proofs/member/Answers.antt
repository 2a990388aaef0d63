use Rattle.entries.proofs.Params.{read_on, member_unread, member_typed}
use Rattle.entries.proofs.member.Goals as goal

pub returns-in_default : goal.returns-in_default
returns-in_default c = record { walked = λ n l. member_unread c.entry_name.ensures.named c.in_default.is; stopped = c.entry_name.ensures.stopped.stops }

pub returns : goal.returns
returns c = record { walked = λ n l. member_typed c.entry_name.ensures.named c.in-Ok.is c.member_holder-holder.ensures (c.member_type.ensures l); stopped = read_on c.entry_name.ensures.stopped c.in-Ok.is }

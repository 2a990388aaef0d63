use Rattle.stages.proofs.Predeclaring.{predeclares_named, predeclares_not, predeclares_unread, predeclares_never}
use Rattle.stages.proofs.predeclare.predeclare.Goals as goal

pub returns-in_default : goal.returns-in_default
returns-in_default c = predeclares_never c.below.ensures c.in_default.is

pub returns-in_default-read_head : goal.returns-in_default-read_head
returns-in_default-read_head c = predeclares_unread c.below.ensures c.in-Ok.is c.read_head.ensures c.in_default-read_head.is

pub returns-in-Named : goal.returns-in-Named
returns-in-Named c = predeclares_named c.below.ensures c.in-Ok.is c.in-Ok-read_head.ensures c.in-Named.is c.push.ensures c.next.ensures

pub returns-in-Import : goal.returns-in-Import
returns-in-Import c = predeclares_not c.below.ensures c.in-Ok.is c.in-Ok-read_head.ensures c.in-Import.is

use Rattle.stages.proofs.Deepening.{depth_named, depth_not, depth_unread, depth_never}
use Rattle.stages.proofs.depths.depth_of.Goals as goal

pub returns-in_default : goal.returns-in_default
returns-in_default c = depth_never c.below.ensures c.in_default.is

pub returns-in_default-read_head : goal.returns-in_default-read_head
returns-in_default-read_head c = depth_unread c.below.ensures c.in-Ok.is c.read_head.ensures c.in_default-read_head.is

pub returns-in-Named : goal.returns-in-Named
returns-in-Named c = depth_named c.below.ensures c.in-Ok.is c.in-Ok-read_head.ensures c.in-Named.is c.named_depth.ensures

pub returns-in-Import : goal.returns-in-Import
returns-in-Import c = depth_not c.below.ensures c.in-Ok.is c.in-Ok-read_head.ensures c.in-Import.is

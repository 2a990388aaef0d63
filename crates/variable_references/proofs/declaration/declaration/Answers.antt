use Rattle.variable_references.proofs.Titling.{titled_unread, titled_named, titled_not, titled_import, titled_poison}
use Rattle.variable_references.proofs.declaration.declaration.Goals as goal

pub returns-in_default : goal.returns-in_default
returns-in_default c = titled_unread _ c.below.ensures c.in_default.is

pub returns-in_default-read_head : goal.returns-in_default-read_head
returns-in_default-read_head c = titled_not _ c.below.ensures c.in-Ok.is c.read_head.ensures c.in_default-read_head.is

pub returns-in-Named : goal.returns-in-Named
returns-in-Named c = c.named_declaration.ensures (titled_named _ c.below.ensures c.in-Ok.is c.in-Ok-read_head.ensures c.in-Named.is)

pub returns-in-Import : goal.returns-in-Import
returns-in-Import c = titled_import _ c.below.ensures c.in-Ok.is c.in-Ok-read_head.ensures c.in-Import.is (c.import.ensures _ _)

pub returns-in-Poison : goal.returns-in-Poison
returns-in-Poison c = titled_poison _ c.below.ensures c.in-Ok.is c.in-Ok-read_head.ensures c.in-Poison.is (c.copy_poison.ensures _ _)

use Rattle.std.proofs.Common.{◌∙◌}
use Rattle.readers.proofs.Naming.{part_is}
use Rattle.readers.proofs.get_structure_name.Goals as goal

pub returns : goal.returns
returns c = c.bytes_at.ensures ∙ part_is _ _ _ c.structure_name_at.ensures c.unwrap_or-start.ensures

use Rattle.std.proofs.Common.{arith}
use Rattle.name_table.proofs.Names.{more_noted, more_is, names_within}
use Rattle.name_table.proofs.next_name.Goals as goal

pub known-requires : goal.known-requires
known-requires c = (names_within _ _ c.requires.0 c.in_ok-length.ensures (omega arith) c.in_ok-next.ensures, c.requires.1)

pub returns : goal.returns
returns c = (more_is _ _ c.requires.0 c.in_ok-length.ensures (omega arith) c.in_ok-next.ensures c.bytes_at-name.ensures c.known.ensures (omega arith) c.if-known.false, more_noted _ _ c.requires.0 c.in_ok-length.ensures (omega arith) c.in_ok-next.ensures c.bytes_at-name.ensures c.known.ensures)

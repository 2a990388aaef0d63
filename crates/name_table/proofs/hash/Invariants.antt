use Rattle.name_table.proofs.Marks.{Hashing}
use Rattle.name_table.proofs.hash.Given as goal

abbrev pub invariant-loop-byte : goal.invariant-loop-byte
invariant-loop-byte l = Hashing l.name l.h l.byte-index

use mathlib.Core.Path.{◌≡◌}
use lib.ListN.{length}
use Prim.Native.Nat.{◌-◌}
use Rattle.penne.specs.Reader.{many}
use Rattle.penne.specs.Read.{read_decl}
use Rattle.tree.specs.Ends.{Known}
use Rattle.fields.proofs.Lists.{Listing}
use Rattle.tree.proofs.script.declarations.Given as goal

abbrev pub invariant-loop-done : goal.invariant-loop-done
invariant-loop-done l = Listing (many read_decl l.count) read_decl l.tree l.names l.fn.counts l.fn.at (l.count - l.done) l.counts l.at × (length l.ends ≡ length l.initial.ends) × (Known l.tree l.names l.initial.ends → Known l.tree l.names l.ends)

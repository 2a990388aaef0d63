use Prim.Native.Nat.{◌-◌}
use Rattle.penne.specs.Reader.{listed}
use Rattle.penne.specs.Read.{read_param}
use Rattle.fields.proofs.Lists.{Listing}
use Rattle.tree.proofs.declaration.parameters.Given as goal

abbrev pub invariant-loop : goal.invariant-loop
invariant-loop l = Listing (listed (read_param 63 l.own)) (read_param 63 l.own) l.tree l.names l.fn.counts l.fn.at (l.count - l.counter) l.counts l.at

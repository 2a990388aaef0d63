use Rattle.memory.proofs.Bits.{Mixing}
use Rattle.memory.proofs.rows.mix.Given as goal

abbrev pub invariant-loop-q : goal.invariant-loop-q
invariant-loop-q g l = Mixing (goal.F-post g l.f) l.from l.to l.initial.w l.w l.q

use Rattle.std.proofs.Common.{◌≡◌, ◌-◌, ℕ}
use Rattle.penne.specs.Reader.{Counts, many}
use Rattle.penne.specs.Read.{place}
use Rattle.fields.specs.Answers.{forget, cursor}
use Rattle.fields.proofs.poison.places.Given as goal

abbrev pub invariant-loop : goal.invariant-loop
invariant-loop l = (names : ℕ) (k : Counts) → forget (many place l.count l.tree (cursor l.fn.at names k)) ≡ forget (many place (l.count - l.counter) l.tree (cursor l.at names k))

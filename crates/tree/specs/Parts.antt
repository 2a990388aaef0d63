-- Runs of fields that several parts have in common.
use Rattle.std.specs.Prelude.{ℕ}
use Rattle.penne.specs.Reader.{Reader, ◌>>=◌, ret, below}
use Rattle.penne.specs.Tree.{Spot, Ident}
use Rattle.penne.specs.Read.{ident}
use Rattle.fields.specs.Answers.{two_places}

-- what begins a constant, a function and a head: "flags, 2p, identifier"
unfoldable pub headed : Reader (ℕ × ((Spot × Spot) × Ident Spot))
headed = below 32 >>= λ f. two_places >>= λ p. ident >>= λ i. ret (f, (p, i))

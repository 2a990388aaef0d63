-- Runs of parts that several nodes have in common.
use Rattle.std.specs.Prelude.{ℕ}
use Rattle.penne.specs.Reader.{Reader, ◌>>=◌, ret}
use Rattle.penne.specs.Tree.{Spot, Expr, expr}
use Rattle.penne.specs.Read.{Readers}
use Rattle.fields.specs.Answers.{operator}

-- what follows the kind of a Binary, and the condition of an If: "op, 2p, left, right"
unfoldable pub operation : Readers → Reader ((ℕ × (Spot × Spot)) × (Expr Spot × Expr Spot))
operation r = operator >>= λ o. r expr >>= λ x. r expr >>= λ y. ret (o, (x, y))

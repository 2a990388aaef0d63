-- Demand 3, "each once, in tree order": the records of the list by the offsets of their uses.
use Rattle.std.specs.Prelude.{ℕ, ◌+◌, ◌≤◌, ◌≡◌, List, [], ◌∷◌, map, length}
use Rattle.penne.specs.Reader.{Cur, got}
use Rattle.penne.specs.Read.{decode, incoming}
use Rattle.penne.specs.Scoper.{skip_list}
use Rattle.penne.specs.Tree.{Spot, Tree}

-- numbers from `from` on and below `to`, each greater than the one before it
pub data Rising : (from to : ℕ) → List ℕ → Type 0 where
  end : {from to : ℕ} → from ≤ to → Rising from to []
  next : {from to n : ℕ} {ns : List ℕ} → from ≤ n → Rising (n + 1) to ns → Rising from to (n ∷ ns)

-- the theorem to prove: each use of the list stands in the input, and further on than the one before it
abbrev pub InTreeOrder : Type 0
InTreeOrder = (s : List ℕ) (t : Tree Spot) (c : Cur) → decode incoming s ≡ got t c → Rising 0 (length s) (map (λ r. r.0) (skip_list t))

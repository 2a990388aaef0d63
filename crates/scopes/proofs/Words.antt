-- A word stored in a table.
use mathlib.Core.Path.{◌≡◌}
use mathlib.Core.List.{List}
use Prim.Native.Nat.{ℕ, ◌<◌}
use lib.ListN.{length, get_or, set, length-set}
use lib.Seq.{get_or-set_same, get_or-set_other}

-- the word at `at` is v, and the others are what they were
pub record Puts (at v : ℕ) (w w' : List ℕ) : Type 0 where
  pub long : length w' ≡ length w
  pub there : at < length w → get_or w' at 0 ≡ v
  pub others : (j : ℕ) → (j ≡ at → ⊥) → get_or w' j 0 ≡ get_or w j 0

pub puts : {at v : ℕ} {w w' : List ℕ} → w' ≡ set w at v → Puts at v w w'
puts {at} {v} {w} e = rw e (record { long = length-set w at v; there = get_or-set_same w at v 0; others = λ j d. get_or-set_other w at j v 0 d })

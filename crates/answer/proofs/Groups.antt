-- The two ways in which a number's form goes on.
use mathlib.Core.Path.{◌≡◌, sym, ap, ◌∙◌}
use mathlib.Core.List.{List, [], ◌∷◌}
use Prim.Native.Nat.{ℕ, zero, suc, ◌+◌, ◌/◌, ◌%◌, ◌*◌, ◌^◌, ◌≤◌, ◌<◌}
use native.Mathlib.Omega.{arith}
use native.Mathlib.Decide.{dec_lt}
use borrow.Author.Tests.{lt-ltb, le-ltb}
use Rattle.penne.specs.Write.{num_b, groups_b}

pub groups_small : (k v : ℕ) → v < 128 → groups_b (suc k) v ≡ v ∷ []
unfolding groups_b
groups_small k v h = rw (lt-ltb v 128 h, groups_b)

pub groups_more : (k v : ℕ) → 128 ≤ v → groups_b (suc k) v ≡ (128 + v % 128) ∷ groups_b k (v / 128)
unfolding groups_b
groups_more k v h = rw (le-ltb v 128 h, groups_b)

-- what fits in k + 1 groups
abbrev cap : ℕ → ℕ
cap zero = 128
cap (suc k) = 128 * cap k

-- below its cap a number does not look at the last group
fuel : (k v : ℕ) → v < cap k → groups_b (suc (suc k)) v ≡ groups_b (suc k) v
fuel zero v h = groups_small 1 v h ∙ sym (groups_small 0 v h)
fuel (suc k) v h = go (dec_lt v 128) (fuel k (v / 128))
  where
    go : Dec (v < 128) → (v / 128 < cap k → groups_b (suc (suc k)) (v / 128) ≡ groups_b (suc k) (v / 128)) → groups_b (suc (suc (suc k))) v ≡ groups_b (suc (suc k)) v
    go (yes l) rest = groups_small (suc (suc k)) v l ∙ sym (groups_small (suc k) v l)
    go (no l) rest =
        let m : 128 ≤ v = omega arith in
        groups_more (suc (suc k)) v m ∙ ap (λ (r : List ℕ). (128 + v % 128) ∷ r) (rest (omega arith)) ∙ sym (groups_more (suc k) v m)

pub number_small : (v : ℕ) → v < 128 → num_b v ≡ v ∷ []
unfolding num_b
number_small v h = groups_small 4 v h

pub number_more : (v : ℕ) → 128 ≤ v → v < 2 ^ 32 → num_b v ≡ (128 + v % 128) ∷ num_b (v / 128)
unfolding num_b
number_more v h b = groups_more 4 v h ∙ ap (λ (l : List ℕ). (128 + v % 128) ∷ l) (sym (fuel 3 (v / 128) (omega arith)))

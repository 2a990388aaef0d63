-- Numbered lists: put together, and carried to other words.
use mathlib.Core.Path.{◌≡◌}
use mathlib.Core.List.{List, ◌++◌}
use Prim.Native.Nat.{ℕ, ◌+◌, ◌<◌, ◌≤◌}
use native.Mathlib.Omega.{arith}
use lib.ListN.{length}
use Rattle.scopes.specs.Labels.{Along, stop, step}

module _ {A : Type 0} {P : ℕ → A → Type 0} where
  pub along_append : {k m k' : ℕ} {xs ys : List A} → Along P k xs m → Along P m ys k' → Along P k (xs ++ ys) k'
  along_append stop h = h
  along_append (step p r) h = step p (along_append r h)

  pub along_length : {k k' : ℕ} {xs : List A} → Along P k xs k' → k' ≡ k + length xs
  along_length {k} stop = omega arith
  along_length {k} {k'} (step {xs = xs} p r) = let e : k' ≡ k + 1 + length xs = along_length r in omega arith

  pub along_le : {k k' : ℕ} {xs : List A} → Along P k xs k' → k ≤ k'
  along_le r = omega (arith, along_length r)

  pub along_map : {Q : ℕ → A → Type 0} {k k' : ℕ} {xs : List A} → ((i : ℕ) (x : A) → k ≤ i → i < k' → P i x → Q i x) → Along P k xs k' → Along Q k xs k'
  along_map f stop = stop
  along_map {Q} {k} {k'} f (step {x = x} p r) = step (f k x (omega arith) (omega (arith, along_le r)) p) (along_map (λ i y h₁ h₂ q. f i y (omega arith) h₂ q) r)

-- What became of a variable, after each step of the definitions.
use mathlib.Core.Path.{◌≡◌, refl, ap}
use mathlib.Core.Bool.{Bool, true, false}
use mathlib.Core.List.{List}
use mathlib.Core.Option.{Option, none, some}
use Prim.Native.Nat.{ℕ, zero, suc, ◌≤◌, ◌<◌}
use native.Mathlib.Omega.{arith}
use borrow.Author.Tests.{eq-eqb, ne_eqb}
use Rattle.penne.specs.Tree.{Spot}
use Rattle.penne.specs.Find.{is_in}
use Rattle.penne.specs.Pruning.{Pruning, Prunings, pruned, poisoned, fate, fate_by, prune, poison_variable}
use Rattle.penne.specs.Pruning as R
use Rattle.penne.proofs.Searching.{is_in_here, is_in_past}
use Rattle.scopes.specs.Table.{Tells, stands, poisons, prunes}
use Rattle.scopes.specs.Table as T
use Rattle.scopes.specs.Jumps.{with_pruned}
use Rattle.scopes.proofs.Finding.{first_of, first_without, first_with, prune_first, prune_already, prune_other}

-- what pruned_variables has of a variable
abbrev pub caught : {P : Type 0} → ℕ → Prunings P → Option (Pruning P)
caught x p = first_of (λ c. c.variable) x p.pruned_variables

by_caught : {P : Type 0} (o : Option (Pruning P)) (b : Bool) (c : Pruning P) → fate_by o b ≡ pruned c → o ≡ some c
unfolding fate_by
by_caught (some d) b c e = let q : d ≡ c = cc in ap some q
by_caught none true c e = absurd (let z : ◌≡◌ {A = ℕ} 0 1 = cc in omega arith)
by_caught none false c e = absurd (let z : ◌≡◌ {A = ℕ} 0 1 = cc in omega arith)

by_uncaught : {P : Type 0} (o : Option (Pruning P)) (b : Bool) → ((c : Pruning P) → fate_by o b ≡ pruned c → ⊥) → o ≡ none
unfolding fate_by
by_uncaught (some d) b f = absurd (f d refl)
by_uncaught none b f = refl

pub is_caught : {P : Type 0} (x : ℕ) (p : Prunings P) (c : Pruning P) → fate x p ≡ pruned c → caught x p ≡ some c
unfolding fate
is_caught x p c e = by_caught (caught x p) (is_in x p.poisoned_variables) c e

pub is_uncaught : {P : Type 0} (x : ℕ) (p : Prunings P) → ((c : Pruning P) → fate x p ≡ pruned c → ⊥) → caught x p ≡ none
unfolding fate
is_uncaught x p f = by_uncaught (caught x p) (is_in x p.poisoned_variables) f

-- POISONED

pub poisoned_own : (x : ℕ) (p : Prunings Spot) → fate x (poison_variable x p) ≡ poisoned
unfolding fate poison_variable fate_by
poisoned_own x p = rw (first_without {A = Pruning Spot} (λ c. c.variable) x p.pruned_variables, is_in_here x x p.poisoned_variables (eq-eqb x x refl))

pub poisoned_other : (y x : ℕ) (p : Prunings Spot) → (x ≡ y → ⊥) → fate x (poison_variable y p) ≡ fate x p
unfolding fate poison_variable
poisoned_other y x p d = rw (first_with {A = Pruning Spot} (λ c. c.variable) y x d p.pruned_variables, is_in_past x y p.poisoned_variables (ne_eqb x y d))

-- PRUNED

module _ (c : Pruning Spot) (p : Prunings Spot) where
  -- one more is pruned
  abbrev with_one : Prunings Spot
  with_one = with_pruned p (prune c p.pruned_variables)

  pub pruned_other : (x : ℕ) → (x ≡ c.variable → ⊥) → fate x with_one ≡ fate x p
  unfolding fate with_pruned
  pruned_other x d = rw (prune_other c x d p.pruned_variables)

  pub pruned_first : caught c.variable p ≡ none → fate c.variable with_one ≡ pruned c
  unfolding fate with_pruned fate_by
  pruned_first e = rw (prune_first c p.pruned_variables e)

  pub pruned_already : (d : Pruning Spot) → caught c.variable p ≡ some d → with_one ≡ p
  unfolding with_pruned
  pruned_already d e = rw (prune_already c p.pruned_variables d e)

-- THE NUMBER OF A FATE

-- above 1: it is pruned
pub tells_pruned : {w : List ℕ} {f : R.Fate Spot} (n g : ℕ) → 1 < n → Tells w (T.fate_by n g) f → (c : Pruning Spot) × (f ≡ pruned c)
unfolding T.fate_by
tells_pruned zero g h t = absurd (omega arith)
tells_pruned (suc zero) g h t = absurd (omega arith)
tells_pruned (suc (suc row)) g h (prunes {c = c} l) = (c, refl)

-- not above 1: it is not
pub tells_not : {w : List ℕ} {f : R.Fate Spot} (n g : ℕ) → n ≤ 1 → Tells w (T.fate_by n g) f → (c : Pruning Spot) → f ≡ pruned c → ⊥
unfolding T.fate_by
tells_not zero g h stands c e = let z : ◌≡◌ {A = ℕ} 0 1 = cc in omega arith
tells_not (suc zero) g h poisons c e = let z : ◌≡◌ {A = ℕ} 0 1 = cc in omega arith
tells_not (suc (suc row)) g h t c e = absurd (omega arith)

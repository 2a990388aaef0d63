-- The ways through what became of a local: asked, poisoned, pruned at a label.
use mathlib.Core.Path.{◌≡◌, refl, sym, subst, ◌∙◌}
use mathlib.Core.Bool.{Bool, true, false}
use mathlib.Core.List.{List}
use mathlib.Core.Logic.{◌⊎◌, inl, inr}
use mathlib.Core.Option.{none}
use Prim.Native.Nat.{ℕ, suc, ◌+◌, ◌-◌, ◌≤◌, ◌<◌}
use native.Mathlib.Numerals.{add-two}
use native.Mathlib.Decide.{ℕ_discrete}
use native.Mathlib.Omega.{arith}
use lib.Dec.{ltb}
use lib.ListN.{length, get_or, set}
use borrow.Author.Tests.{lt-ltb, le-ltb}
use Rattle.penne.specs.Tree.{Spot, Ident}
use Rattle.penne.specs.Pruning.{Pruning, Prunings, pruned, fate, prune, poison_variable}
use Rattle.scopes.specs.declared.scope.Scope.{Scope}
use Rattle.scopes.specs.declared.pruning.Fate.{Fate}
use Rattle.scopes.specs.declared.pruning.Fate.TheVariants.{Standing, Poisoned, Pruned}
use Rattle.scopes.specs.Table.{rows, words, label_goto, local_id, local_fate, local_goto, cell, Nth, Label, fate_by, fate_at, Tells, poisons, prunes, unresolved, Notes, Holds}
use Rattle.scopes.specs.Jumps.{Becomes, Poisons, with_pruned, prune_unless, PrunesOne}
use Rattle.scopes.proofs.Lists.{nth_low, nth_same}
use Rattle.scopes.proofs.Words.{Puts, puts}
use Rattle.scopes.proofs.Holding.{entry_kept, fate_kept, entries_kept, heads_kept, label_kept, tells_kept, notes_kept}
use Rattle.scopes.proofs.Scoping.{kept_all}
use Rattle.scopes.proofs.Fating.{caught, is_caught, is_uncaught, poisoned_own, poisoned_other, pruned_other, pruned_first, pruned_already, tells_pruned, tells_not}

-- a local has a row
low : {s : Scope} {w : List ℕ} {ls : List (Ident Spot)} {layer : ℕ} {p : Prunings Spot} {next k : ℕ} {i : Ident Spot} → Holds s w ls layer p next → Nth k i ls → k < rows
low h n = omega (arith, h.few, nth_low n)

-- THE FATE OF ONE LOCAL

module _ (p' : Prunings Spot) {s : Scope} {w w' : List ℕ} {ls : List (Ident Spot)} {layer : ℕ} {p : Prunings Spot} {next k : ℕ} {i : Ident Spot} (h : Holds s w ls layer p next) (at : Nth k i ls)
    (long : length w' ≡ length w) (others : (j : ℕ) → (j ≡ local_fate + k → ⊥) → (j ≡ local_goto + k → ⊥) → get_or w' j 0 ≡ get_or w j 0)
    (rest : (x : ℕ) → (x ≡ i.id → ⊥) → fate x p' ≡ fate x p) (own : Tells w' (fate_at w' k) (fate i.id p')) (unsolved : (id : ℕ) → unresolved id p' ≡ unresolved id p) where
  labels_kept : (j : ℕ) → j < label_goto → get_or w' j 0 ≡ get_or w j 0
  labels_kept j z = others j (omega arith) (omega arith)

  fate_of : (m : ℕ) (x : Ident Spot) → Nth m x ls → Dec (m ≡ k) → Tells w' (fate_at w' m) (fate x.id p')
  fate_of m x n (yes q) = let e : x ≡ i = nth_same (rw q at n) at in rw (q, e) own
  fate_of m x n (no q) =
      let lm = low h n in
      let lk = low h at in
      let e : fate x.id p' ≡ fate x.id p = rest x.id (λ z. q (h.known.apart n at z)) in
      let kept : Tells w' (fate_at w m) (fate x.id p) = tells_kept labels_kept (h.fates.at n) in
      rw e (rw (fate_kept w w' m (others _ (omega arith) (omega arith)) (others _ (omega arith) (omega arith))) at kept)

  refated : Holds s w' ls layer p' next
  refated =
      let lk = low h at in
      let few = h.few in
      let notes : Notes w' ls p next = notes_kept (λ r y. others _ (omega arith) (omega arith)) (λ r y. others _ (omega arith) (omega arith)) h.notes in
      record {
        counted = h.counted;
        few = h.few;
        begins = h.begins;
        long = long ∙ h.long;
        some_id = h.some_id;
        entries = entries_kept (λ m z. entry_kept w w' m (others _ (omega arith) (omega arith)) (others _ (omega arith) (omega arith)) (others _ (omega arith) (omega arith)) (others _ (omega arith) (omega arith))) h.entries;
        head = heads_kept (λ n z. others _ (omega arith) (omega arith)) h.head;
        known = h.known;
        fates = record { at = λ {k = m} {i = x} n. fate_of m x n (ℕ_discrete m k) };
        fresh = record { at = λ x z. rest x (omega (arith, h.known.ids at)) ∙ h.fresh.at x z };
        notes = record { at = λ row z. rw (unsolved (row + 1)) (notes.at row z) };
      }

module _ {k : ℕ} {w : List ℕ} where
  pub poison_past : rows ≤ k → Poisons k w w
  poison_past z = record { kept = kept_all; holds = λ h n. absurd (omega (arith, low h n)) }

  pub poison_at : {w' : List ℕ} → k < rows → w' ≡ set w (local_fate + k) 1 → Poisons k w w'
  unfolding fate_by unresolved poison_variable
  poison_at {w'} z e = record {
    kept = record { long = put.long; labels = λ j y. put.others j (omega arith) };
    holds = λ {p = p} {i = i} h n. refated _ h n put.long (λ j a b. put.others j a) (λ x d. poisoned_other i.id x p d) (rw (put.there (omega (arith, h.long)), poisoned_own i.id p) poisons) (λ id. refl);
  }
    where
      put : Puts (local_fate + k) 1 w w'
      put = puts e

  pub become_past : {r : Fate} → rows ≤ k → Becomes w k r
  become_past z = record { tells = λ h n. absurd (omega (arith, low h n)) }

  pub become_standing : {f : ℕ} → f ≡ cell w local_fate k → f ≡ 0 → Becomes w k Standing
  unfolding fate_by
  become_standing e z = record { tells = λ h n. let q : cell w local_fate k ≡ 0 = sym e ∙ z in rw q at (h.fates.at n) }

  pub become_poisoned : {f : ℕ} → f ≡ cell w local_fate k → f ≡ 1 → Becomes w k Poisoned
  unfolding fate_by
  become_poisoned e z = record { tells = λ h n. let q : cell w local_fate k ≡ 1 = sym e ∙ z in rw q at (h.fates.at n) }

  pub become_pruned : {f g : ℕ} → f ≡ cell w local_fate k → (f ≡ 0 → ⊥) → (f ≡ 1 → ⊥) → g ≡ cell w local_goto k → Becomes w k (Pruned (f - 2) g)
  unfolding fate_by
  become_pruned {f} {g} e a b q = record { tells = λ h n. let z : cell w local_fate k ≡ suc (suc (f - 2)) = omega arith in rw q (rw z at (h.fates.at n)) }

-- A LABEL, ONE LOCAL

open_same : (cs : List (Pruning Spot)) (p : Prunings Spot) (x : ℕ) → unresolved x (with_pruned p cs) ≡ unresolved x p
unfolding unresolved with_pruned
open_same cs p x = refl

told : {w : List ℕ} {row : ℕ} {c : Pruning Spot} → Label w row c.label → Tells w (fate_by (suc (suc row)) c.location_of_goto.number) (pruned c)
unfolding fate_by
told l = prunes l

module _ {k note row place : ℕ} {w : List ℕ} where
  pub prune_out : rows ≤ k ⊎ (k < rows × rows ≤ row) → PrunesOne k note row place w w
  prune_out (inl z) = record { kept = kept_all; holds = λ goto h n. absurd (omega (arith, low h n)) }
  prune_out (inr (y, z)) = record { kept = kept_all; holds = λ goto h n l. absurd (omega (arith, l.low)) }

  pub prune_early : {id : ℕ} → id ≡ cell w local_id k → id < note → PrunesOne k note row place w w
  unfolding with_pruned prune_unless
  prune_early e z = record { kept = kept_all; holds = λ {i = i} goto h n l q. rw (lt-ltb i.id note (omega (arith, (h.entries.at n).id))) h }

  pub prune_twice : {f : ℕ} → f ≡ cell w local_fate k → 1 < f → PrunesOne k note row place w w
  unfolding with_pruned prune_unless
  prune_twice {f} q o = record {
    kept = kept_all;
    holds = λ {s = s} {ls = ls} {layer = layer} {p = p} {next = next} {i = i} {l = l} goto h n a b.
        let (d, is) = tells_pruned (cell w local_fate k) (cell w local_goto k) (omega arith) (h.fates.at n) in
        let c : Pruning Spot = record { variable = i.id; label = l; location_of_goto = goto } in
        let same : with_pruned p (prune c p.pruned_variables) ≡ p = pruned_already c p d (is_caught i.id p d is) in
        subst (λ (p' : Prunings Spot). Holds s w ls layer p' next) (sym (either c p same (ltb i.id note))) h;
  }
    where
      either : (c : Pruning Spot) (p : Prunings Spot) → with_pruned p (prune c p.pruned_variables) ≡ p → (t : Bool) → with_pruned p (prune_unless t c p.pruned_variables) ≡ p
      either c p e true = refl
      either c p e false = e

  pub prune_now : {id f : ℕ} {w₁ w' : List ℕ} → k < rows → row < rows → id ≡ cell w local_id k → note ≤ id → f ≡ cell w local_fate k → f ≤ 1 → w₁ ≡ set w (local_fate + k) (row + 2) → w' ≡ set w₁ (local_goto + k) place
      → PrunesOne k note row place w w'
  unfolding prune_unless
  prune_now {id} {f} {w₁} {w'} lk lr e z q o e₁ e₂ = record {
    kept = record { long = long; labels = λ j y. others j (omega arith) (omega arith) };
    holds = λ {p = p} {i = i} {l = l} goto h n a b.
        let c : Pruning Spot = record { variable = i.id; label = l; location_of_goto = goto } in
        rw (le-ltb i.id note (omega (arith, (h.entries.at n).id)))
        (refated _ h n long others (λ x d. pruned_other c p x d) (own c p h.long b a (is_uncaught i.id p (tells_not (cell w local_fate k) (cell w local_goto k) (omega arith) (h.fates.at n)))) (open_same _ p));
  }
    where
      first_put : Puts (local_fate + k) (row + 2) w w₁
      first_put = puts e₁

      second_put : Puts (local_goto + k) place w₁ w'
      second_put = puts e₂

      long : length w' ≡ length w
      long = second_put.long ∙ first_put.long

      others : (j : ℕ) → (j ≡ local_fate + k → ⊥) → (j ≡ local_goto + k → ⊥) → get_or w' j 0 ≡ get_or w j 0
      others j a b = second_put.others j b ∙ first_put.others j a

      own : (c : Pruning Spot) (p : Prunings Spot) → length w ≡ words → place ≡ c.location_of_goto.number → Label w row c.label → caught c.variable p ≡ none → Tells w' (fate_at w' k) (fate c.variable (with_pruned p (prune c p.pruned_variables)))
      own c p l b a none_yet =
          let number : cell w' local_fate k ≡ suc (suc row) = second_put.others _ (omega arith) ∙ first_put.there (omega arith) ∙ add-two row in
          let goto : cell w' local_goto k ≡ c.location_of_goto.number = second_put.there (omega (arith, first_put.long)) ∙ b in
          rw (number, goto, pruned_first c p none_yet) (told (label_kept (λ j y. others j (omega arith) (omega arith)) a))

pub ruleset fate_of_laws = (become_past, become_standing, become_poisoned, become_pruned)

-- What the second pass finds in the words: the outcome of the k-th statement, the name and the place of the label with an id.
use mathlib.Core.Path.{◌≡◌, sym, ap, subst, ◌∙◌}
use mathlib.Core.List.{List, ◌∷◌}
use Prim.Native.Nat.{ℕ, suc, ◌+◌, ◌-◌, ◌≤◌, ◌<◌}
use native.Mathlib.Omega.{arith}
use native.Mathlib.Decide.{ℕ_discrete}
use lib.ListN.{length, get_or}
use Rattle.penne.specs.Tree.{Spot, Ident}
use Rattle.tree.specs.declared.script.Layout.{Layout}
use Rattle.tree.specs.Script.{LaidOut}
use Rattle.labels.specs.Outcomes.{outcomes_decls}
use Rattle.labels.specs.Table.{Told}
use Rattle.scopes.specs.Labels.{Along, stop, step, Named}
use Rattle.labels.specs.Visit.{Shows}
use Rattle.label_references.specs.Pass.{fresh, Pass}
use Rattle.labels.proofs.Along.{along_length}
use Rattle.label_references.proofs.Growing.{statements_few}

told_nth : {w os : List ℕ} {k n : ℕ} (i : ℕ) → Along (Told w) k os n → k ≤ i → i < n → get_or w i 0 ≡ get_or os (i - k) 0
told_nth i stop h₁ h₂ = absurd (omega arith)
told_nth {w} {k = k} i (step {x = o} {xs = os} p a) h₁ h₂ = side (ℕ_discrete i k) (λ h. told_nth i a h h₂)
  where
    side : Dec (i ≡ k) → (k + 1 ≤ i → get_or w i 0 ≡ get_or os (i - (k + 1)) 0) → get_or w i 0 ≡ get_or (o ∷ os) (i - k) 0
    side (yes e) f = let z : 0 ≡ i - k = omega arith in ap (λ (j : ℕ). get_or w j 0) e ∙ p.is ∙ ap (λ (j : ℕ). get_or (o ∷ os) j 0) z
    side (no e) f = let z : suc (i - (k + 1)) ≡ i - k = omega arith in f (omega arith) ∙ ap (λ (j : ℕ). get_or (o ∷ os) j 0) z

-- the label with this id is i
pub named_nth : {w : List ℕ} {is : List (Ident Spot)} {k n : ℕ} (id : ℕ) (i : Ident Spot) → Along (Named w) k is n → k ≤ id → id < n → Named w id (get_or is (id - k) i)
named_nth id i stop h₁ h₂ = absurd (omega arith)
named_nth {w} {k = k} id i (step {x = x} {xs = xs} p a) h₁ h₂ = side (ℕ_discrete id k) (λ h. named_nth id i a h h₂)
  where
    side : Dec (id ≡ k) → (k + 1 ≤ id → Named w id (get_or xs (id - (k + 1)) i)) → Named w id (get_or (x ∷ xs) (id - k) i)
    side (yes e) f = let z : 0 ≡ id - k = omega arith in subst (λ (j : ℕ). Named w j (get_or (x ∷ xs) (id - k) i)) (sym e) (subst (λ (j : ℕ). Named w k (get_or (x ∷ xs) j i)) z p)
    side (no e) f = let z : suc (id - (k + 1)) ≡ id - k = omega arith in subst (λ (j : ℕ). Named w id (get_or (x ∷ xs) j i)) z (f (omega arith))

module _ {s : List ℕ} {l : Layout} {w w' : List ℕ} (p : Pass s l w w') (long : 16384 ≤ length w) (t : LaidOut s l) where
  -- what `outcome_of` answers
  pub outcome_is : {k r : ℕ} → Shows w' 0 k r → k < t.counts.statements → r ≡ get_or (outcomes_decls t.decls (fresh 1)) k 0
  outcome_is {k} {r} h i =
      let z : 0 + k ≡ k = omega arith in
      let y : k - 0 ≡ k = omega arith in
      h.is (omega (arith, statements_few t)) (omega arith) ∙ ap (λ (j : ℕ). get_or w' j 0) z ∙ told_nth k (p.told long t) (omega arith) i ∙ ap (λ (j : ℕ). get_or (outcomes_decls t.decls (fresh 1)) j 0) y

  -- there are as many words as statements
  pub outcomes_long : length (outcomes_decls t.decls (fresh 1)) ≡ t.counts.statements
  outcomes_long = omega (arith, along_length (p.told long t))

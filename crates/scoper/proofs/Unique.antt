-- Uniqueness: any two results that meet the promise of the scoping call coincide.
use Prim.Native.Nat.{ℕ}
use mathlib.Core.Path.{◌≡◌, refl, sym, ap, ◌∙◌}
use mathlib.Core.List.{List}
use lib.ListN.{length}
use Rattle.std.specs.Prelude.{Result, Ok, Err}
use Rattle.penne.specs.Scoper.{Outcome, scoped_answer, scoped}
use Rattle.scoper.specs.declared.Scoped.{Scoped}
use Rattle.fields.specs.declared.refusal.Refusal.{Refusal}
use Rattle.scoper.specs.Scoping.{outcome_of, scoped_by, Scopes}

-- what was left, read off
module _ (r : Result Scoped Refusal) (o l w : List ℕ) where
  pub tree_is : (outcome_of r o l w).tree ≡ o
  unfolding outcome_of
  tree_is = elim r as (λ x. (outcome_of x o l w).tree ≡ o) [ Ok s ↦ refl | Err e ↦ refl ]

  pub list_is : (outcome_of r o l w).list ≡ l
  unfolding outcome_of
  list_is = elim r as (λ x. (outcome_of x o l w).list ≡ l) [ Ok s ↦ refl | Err e ↦ refl ]

  pub work_is : (outcome_of r o l w).work ≡ w
  unfolding outcome_of
  work_is = elim r as (λ x. (outcome_of x o l w).work ≡ w) [ Ok s ↦ refl | Err e ↦ refl ]

-- the same tree, as much lent: the same is told and left, whatever was in what was lent
pub record Same (r r₁ : Result Scoped Refusal) (o o₁ l l₁ w w₁ : List ℕ) : Type 0 where
  pub told : r ≡ r₁
  pub tree : o ≡ o₁
  pub list : l ≡ l₁
  pub work : w ≡ w₁

pub scopes_unique : {t o l w o₁ l₁ w₁ : List ℕ} {r r₁ : Result Scoped Refusal} {o' l' w' o₂ l₂ w₂ : List ℕ} → Scopes t o l w r o' l' w' → Scopes t o₁ l₁ w₁ r₁ o₂ l₂ w₂ → length o ≡ length o₁ → length l ≡ length l₁ → length w ≡ length w₁ → Same r r₁ o' o₂ l' l₂ w' w₂
scopes_unique {t} {o} {l} {w} {o₁} {l₁} {w₁} {r} {r₁} {o'} {l'} {w'} {o₂} {l₂} {w₂} k h a b c =
    let lent : scoped t (length o) (length l) (length w) ≡ scoped t (length o₁) (length l₁) (length w₁) = ap (λ (x : ℕ). scoped t x (length l) (length w)) a ∙ ap (λ (x : ℕ). scoped t (length o₁) x (length w)) b ∙ ap (λ (x : ℕ). scoped t (length o₁) (length l₁) x) c in
    let same : outcome_of r o' l' w' ≡ outcome_of r₁ o₂ l₂ w₂ = k.outcome ∙ lent ∙ sym h.outcome in
    record {
      told = k.told ∙ ap (λ (x : ℕ). scoped_by (scoped_answer t x (length l) (length w))) a ∙ ap (λ (x : ℕ). scoped_by (scoped_answer t (length o₁) x (length w))) b ∙ ap (λ (x : ℕ). scoped_by (scoped_answer t (length o₁) (length l₁) x)) c ∙ sym h.told;
      tree = sym (tree_is r o' l' w') ∙ ap (λ (q : Outcome). q.tree) same ∙ tree_is r₁ o₂ l₂ w₂;
      list = sym (list_is r o' l' w') ∙ ap (λ (q : Outcome). q.list) same ∙ list_is r₁ o₂ l₂ w₂;
      work = sym (work_is r o' l' w') ∙ ap (λ (q : Outcome). q.work) same ∙ work_is r₁ o₂ l₂ w₂;
    }

-- Uniqueness: any two results that meet the promise of a call of the C interface coincide.
use Prim.Native.Nat.{ℕ}
use mathlib.Core.Path.{◌≡◌, refl, sym, ap, ◌∙◌}
use mathlib.Core.List.{List}
use lib.ListN.{length}
use Rattle.penne.specs.Scoper.{Outcome, scoped, get_container_depth, is_container, get_structure_name}
use Rattle.hurdlebraid.specs.Telling.{Told, told_words, scoped_told, Analyzes, depth_and_kind, name_told}

-- hurdlebraid_analyze: the same tree, as much lent, and the same is left, whatever was in what was lent
pub record Same (o o₁ l l₁ w w₁ u u₁ : List ℕ) : Type 0 where
  pub tree : o ≡ o₁
  pub list : l ≡ l₁
  pub work : w ≡ w₁
  pub tells : u ≡ u₁

pub analyzes_unique : {t o l w u o₁ l₁ w₁ u₁ : List ℕ} {o' l' w' u' o₂ l₂ w₂ u₂ : List ℕ} → Analyzes t o l w u o' l' w' u' → Analyzes t o₁ l₁ w₁ u₁ o₂ l₂ w₂ u₂ → length o ≡ length o₁ → length l ≡ length l₁ → length w ≡ length w₁ → length u ≡ length u₁ → Same o' o₂ l' l₂ w' w₂ u' u₂
analyzes_unique {t} {o} {l} {w} {u} {o₁} {l₁} {w₁} {u₁} k h a b c d =
    let lent : scoped t (length o) (length l) (length w) ≡ scoped t (length o₁) (length l₁) (length w₁) = rw (a, b, c) refl in
    record {
      tree = k.tree ∙ ap (λ (q : Outcome). q.tree) lent ∙ sym h.tree;
      list = k.list ∙ ap (λ (q : Outcome). q.list) lent ∙ sym h.list;
      work = k.work ∙ ap (λ (q : Outcome). q.work) lent ∙ sym h.work;
      tells = k.tells ∙ ap (λ (q : Outcome). told_words (length u) (scoped_told q)) lent ∙ ap (λ (n : ℕ). told_words n (scoped_told (scoped t (length o₁) (length l₁) (length w₁)))) d ∙ sym h.tells;
    }

-- as much lent, and the same words are told: of hurdlebraid_container_depth, and of hurdlebraid_structure_name
told_unique : (t : Told) (u u₁ : List ℕ) {u' u₂ : List ℕ} → u' ≡ told_words (length u) t → u₂ ≡ told_words (length u₁) t → length u ≡ length u₁ → u' ≡ u₂
told_unique t u u₁ e f h = e ∙ ap (λ (n : ℕ). told_words n t) h ∙ sym f

pub depth_unique : (t : List ℕ) (k max : ℕ) (u u₁ : List ℕ) {u' u₂ : List ℕ} → u' ≡ told_words (length u) (depth_and_kind (get_container_depth t k max) (is_container t k)) → u₂ ≡ told_words (length u₁) (depth_and_kind (get_container_depth t k max) (is_container t k)) → length u ≡ length u₁ → u' ≡ u₂
depth_unique t k max u u₁ e f h = told_unique _ u u₁ e f h

pub name_unique : (t : List ℕ) (k : ℕ) (u u₁ : List ℕ) {u' u₂ : List ℕ} → u' ≡ told_words (length u) (name_told (get_structure_name t k)) → u₂ ≡ told_words (length u₁) (name_told (get_structure_name t k)) → length u ≡ length u₁ → u' ≡ u₂
name_unique t k u u₁ e f h = told_unique _ u u₁ e f h

-- What a loop of the walk keeps: how long what was lent is.
use mathlib.Core.Path.{◌≡◌, refl, ◌∙◌}
use mathlib.Core.List.{List}
use Prim.Native.Nat.{ℕ}
use lib.ListN.{length}

-- lengths of answer, list and work words at the loop's beginning, and now
pub record Kept (o₀ l₀ w₀ o l w : List ℕ) : Type 0 where
  pub long_answer : length o ≡ length o₀
  pub long_list : length l ≡ length l₀
  pub long_work : length w ≡ length w₀

pub kept_start : {o l w : List ℕ} → Kept o l w o l w
kept_start = record { long_answer = refl; long_list = refl; long_work = refl }

pub kept_more : {o₀ l₀ w₀ o l w o' l' w' : List ℕ} → Kept o₀ l₀ w₀ o l w → length o' ≡ length o → length l' ≡ length l → length w' ≡ length w → Kept o₀ l₀ w₀ o' l' w'
kept_more k p q r = record { long_answer = p ∙ k.long_answer; long_list = q ∙ k.long_list; long_work = r ∙ k.long_work }

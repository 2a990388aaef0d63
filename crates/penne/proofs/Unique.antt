-- Two lists that name what walks skip are one.
use Prim.Native.Nat.{ℕ, ◌+◌}
use mathlib.Core.Bool.{Bool}
use mathlib.Core.Path.{◌≡◌, refl, sym, ◌∙◌}
use mathlib.Core.List.{List, [], ◌∷◌}
use Rattle.penne.specs.Walks.{Act, picked, NamesSkipped}
use Rattle.penne.proofs.Booleans.{same_bool}

same_picked : (f g : ℕ → Bool) → ((n : ℕ) → f n ≡ g n) → (at : ℕ) (text : List Act) → picked f at text ≡ picked g at text
unfolding picked
same_picked f g e at [] = refl
same_picked f g e at (a ∷ text) = rw (e at, same_picked f g e (at + 1) text)

-- two lists that name what walks skip are one
pub skipped_unique : (text : List Act) (rs ss : List (ℕ × ℕ)) → NamesSkipped text rs → NamesSkipped text ss → rs ≡ ss
skipped_unique text rs ss p q =
    p.all ∙ same_picked _ _ (λ n. same_bool _ _ (λ e. (q.tests n).1 ((p.tests n).0 e)) (λ e. (p.tests n).1 ((q.tests n).0 e))) 0 text ∙ sym q.all

-- Strings that differ in a place number: an import at place 5 or 9, whole, and cut off before its depth, where row 3 refuses both. So the place rule speaks of something.
use Prim.Native.Nat.{ℕ}
use mathlib.Core.Path.{◌≡◌, refl, sym, subst}
use mathlib.Core.List.{List, [], ◌∷◌}
use Rattle.penne.specs.Reader.{Counts, got, num, groups, last_group, moved}
use Rattle.penne.specs.Read.{decl_kinds}
use Rattle.penne.proofs.Run.{run}
use Rattle.penne.specs.PlaceRule.{Number, same, on, passed, opened, skipped, split, DifferInPlaces, move, in_decl, in_times}

-- a number, by computation
number : (s : List ℕ) {at n next : ℕ} → ((names : ℕ) (k : Counts) → num s (record { at = at; names = names; counts = k }) ≡ got n (record { at = next; names = names; counts = k })) → Number s at n next
unfolding moved
number s {n = n} {next} h = record { reads = λ c e. subst (λ (a : ℕ). num s (record { at = a; names = c.names; counts = c.counts }) ≡ got n (moved c next)) (sym e) (h c.names c.counts) }

-- no names, one declaration: an import of no bytes, with its place; its depth
an_import : List ℕ → ℕ → List ℕ
an_import rest p = 0 ∷ 1 ∷ 4 ∷ 0 ∷ p ∷ rest

-- read
differ_read : DifferInPlaces (an_import (0 ∷ []) 5) (an_import (0 ∷ []) 9)
unfolding an_import num groups last_group moved move in_decl in_times decl_kinds
differ_read = record {
  long = refl;
  alike =
      on (opened (number _ λ _ _. refl) (number _ λ _ _. refl)
      (on (split
      (on (opened (number _ λ _ _. refl) (number _ λ _ _. refl)
      (on (split
      (on (opened {n = 4} (number _ λ _ _. refl) (number _ λ _ _. refl)
      (on (opened {n = 0} (number _ λ _ _. refl) (number _ λ _ _. refl)
      (on (skipped refl
      (on (passed (number _ λ _ _. refl) (number _ λ _ _. refl)
      (same refl))))))))))))))));
}

-- refused
differ_refused : DifferInPlaces (an_import [] 5) (an_import [] 9)
unfolding an_import num groups last_group moved move in_decl in_times decl_kinds
differ_refused = record {
  long = refl;
  alike =
      on (opened (number _ λ _ _. refl) (number _ λ _ _. refl)
      (on (split
      (on (opened (number _ λ _ _. refl) (number _ λ _ _. refl)
      (on (split
      (on (opened {n = 4} (number _ λ _ _. refl) (number _ λ _ _. refl)
      (on (opened {n = 0} (number _ λ _ _. refl) (number _ λ _ _. refl)
      (on (skipped refl
      (on (passed (number _ λ _ _. refl) (number _ λ _ _. refl)
      (same refl))))))))))))))));
}

-- both at byte 5, by row 3
both_refused : ((run (an_import [] 5) 9 9 16384).refusal ≡ 3) × ((run (an_import [] 9) 9 9 16384).place ≡ 5)
unfolding run an_import
both_refused = (refl, refl)

-- A copy, byte by byte: the ways through `put_bytes`.
use mathlib.Core.Path.{◌≡◌, refl, sym, ap, ◌∙◌}
use mathlib.Core.List.{List, [], ◌∷◌}
use Prim.Native.Nat.{ℕ, zero, suc, ◌+◌, ◌≤◌, ◌<◌, zero-le}
use native.Mathlib.Nat.{not-suc-le-zero, le_of_suc-le-suc}
use native.Mathlib.Numerals.{add-one}
use native.Mathlib.Omega.{arith}
use lib.ListN.{length, take, drop, set, get_or, length-set, take-append-drop}
use lib.Seq.{take_all, length-take-le}
use Rattle.answer.specs.declared.wrote.Wrote.TheVariants.{Bytes, NoRoom}
use Rattle.answer.specs.Out.{laid, Front}
use Rattle.answer.proofs.Laid.{laid_full, told_bytes, told_none}

bytes_suc : (n : ℕ) (xs o : List ℕ) → n < length xs → n < length o → set (laid (take n xs) o) n (get_or xs n 0) ≡ laid (take (suc n) xs) o
unfolding laid
bytes_suc n [] o h k = absurd (not-suc-le-zero h)
bytes_suc n (x ∷ xs) [] h k = absurd (not-suc-le-zero k)
bytes_suc zero (x ∷ xs) (y ∷ o) h k = refl
bytes_suc (suc n) (x ∷ xs) (y ∷ o) h k = ap (λ (l : List ℕ). x ∷ l) (bytes_suc n xs o (le_of_suc-le-suc h) (le_of_suc-le-suc k))

-- the loop of a copy: the first n bytes of xs are in s, which was o
pub record Copied (xs o s : List ℕ) (n : ℕ) : Type 0 where
  pub inside : n ≤ length xs
  pub room : n ≤ length o
  pub long : length s ≡ length o
  pub is : s ≡ laid (take n xs) o

pub copied_none : (xs o : List ℕ) → Copied xs o o 0
unfolding laid
copied_none xs o = record { inside = zero-le; room = zero-le; long = refl; is = refl }

pub copied_more : {xs o s : List ℕ} {n : ℕ} → Copied xs o s n → n < length xs → n < length s → Copied xs o (set s n (get_or xs n 0)) (n + 1)
copied_more {xs} {o} {s} {n} c h k =
    let k' : n < length o = omega arith in record {
      inside = omega arith;
      room = omega arith;
      long = length-set s n (get_or xs n 0) ∙ c.long;
      is = ap (λ (l : List ℕ). set l n (get_or xs n 0)) c.is ∙ bytes_suc n xs o h k' ∙ ap (λ (i : ℕ). laid (take i xs) o) (sym (add-one n));
    }

pub copied_done : {xs o s : List ℕ} {n : ℕ} → Copied xs o s n → length xs ≤ n → Front xs o (Bytes (length xs)) s
copied_done {xs} {o} {s} {n} c h = record { told = told_bytes (length xs) _ _ refl (omega arith); left = c.is ∙ ap (λ (l : List ℕ). laid l o) (take_all n xs h) }

pub copied_full : {xs o s : List ℕ} {n : ℕ} → Copied xs o s n → n < length xs → length s ≤ n → Front xs o NoRoom s
copied_full {xs} {o} {s} {n} c h k = record {
  told = told_none _ _ (omega arith);
  left = c.is ∙ sym (laid_full (take n xs) (drop n xs) o (omega (arith, length-take-le n xs (omega arith)))) ∙ ap (λ (l : List ℕ). laid l o) (take-append-drop n xs);
}

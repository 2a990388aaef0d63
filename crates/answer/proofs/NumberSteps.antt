-- The ways through `put_number`, as laws of lists.
use mathlib.Core.Path.{◌≡◌, refl, ap, ◌∙◌}
use mathlib.Core.List.{List, [], ◌∷◌}
use Prim.Native.Nat.{ℕ, suc, ◌-◌, ◌+◌, ◌/◌, ◌%◌, ◌^◌, ◌≤◌, ◌<◌}
use native.Mathlib.Nat.{not-suc-le-zero, le_of_suc-le-suc}
use native.Mathlib.Omega.{arith}
use native.Mathlib.Decide.{dec_lt}
use lib.ListN.{length, set}
use borrow.Rule.Slice.PartMut.{mid_of, put_mid}
use Rattle.answer.specs.declared.wrote.Wrote.{Wrote}
use Rattle.answer.specs.declared.wrote.Wrote.TheVariants.{Bytes, NoRoom}
use Rattle.penne.specs.Write.{num_b, groups_b}
use Rattle.answer.specs.Out.{laid, Front}
use Rattle.answer.proofs.Lists.{tail_part, tail_back}
use Rattle.answer.proofs.Laid.{told_bytes, told_none, wrote_bytes, wrote_none}
use Rattle.answer.proofs.Groups.{groups_small, groups_more, number_small, number_more}

-- a form has a byte at least
some_byte : (k v : ℕ) → Dec (v < 128) → Front (groups_b (suc k) v) [] NoRoom []
unfolding laid
some_byte k v (yes h) = rw (groups_small k v h) (record { told = told_none _ _ (omega arith); left = refl })
some_byte k v (no h) = let m : 128 ≤ v = omega arith in rw (groups_more k v m) (record { told = told_none _ _ (omega arith); left = refl })

pub number_none : (v : ℕ) (o : List ℕ) → length o < 1 → Front (num_b v) o NoRoom o
unfolding num_b
number_none v [] h = some_byte 4 v (dec_lt v 128)
number_none v (y ∷ o) h = absurd (not-suc-le-zero (le_of_suc-le-suc h))

pub number_one : (v : ℕ) (o : List ℕ) → v < 128 → 1 ≤ length o → Front (num_b v) o (Bytes 1) (set o 0 v)
unfolding laid
number_one v [] h l = absurd (not-suc-le-zero l)
number_one v (y ∷ o) h l = rw (number_small v h) (record { told = told_bytes 1 _ _ refl (omega arith); left = refl })

-- a group x is stored, and the rest xs is written behind it
abbrev stored : List ℕ → ℕ → List ℕ
stored o x = set o 0 x

abbrev behind : List ℕ → ℕ → List ℕ
behind o x = mid_of 1 (length (set o 0 x) - 1) (set o 0 x)

abbrev back : List ℕ → ℕ → List ℕ → List ℕ
back o x ys = put_mid 1 (length (set o 0 x) - 1) (set o 0 x) ys

cons_left : (x y : ℕ) (xs o ys : List ℕ) → ys ≡ laid xs (behind (y ∷ o) x) → back (y ∷ o) x ys ≡ laid (x ∷ xs) (y ∷ o)
unfolding laid
cons_left x y xs o ys e = tail_back 1 (x ∷ o) ys ∙ ap (λ (l : List ℕ). x ∷ l) (e ∙ ap (laid xs) (tail_part 1 (x ∷ o)))

cons_room : (x y : ℕ) (o : List ℕ) → length (behind (y ∷ o) x) ≡ length o
cons_room x y o = ap length (tail_part 1 (x ∷ o))

cons_bytes : (x n : ℕ) (r : Wrote) (xs o ys : List ℕ) → 1 ≤ length o → r ≡ Bytes n → Front xs (behind o x) r ys → Front (x ∷ xs) o (Bytes (n + 1)) (back o x ys)
cons_bytes x n r xs [] ys l e f = absurd (not-suc-le-zero l)
cons_bytes x n r xs (y ∷ o) ys l e f =
    let w = wrote_bytes n _ _ e f.told in
    record { told = told_bytes (n + 1) _ _ (omega arith) (omega (arith, cons_room x y o)); left = cons_left x y xs o ys f.left }

cons_none : (x : ℕ) (r : Wrote) (xs o ys : List ℕ) → 1 ≤ length o → r ≡ NoRoom → Front xs (behind o x) r ys → Front (x ∷ xs) o NoRoom (back o x ys)
cons_none x r xs [] ys l e f = absurd (not-suc-le-zero l)
cons_none x r xs (y ∷ o) ys l e f =
    let w = wrote_none _ _ e f.told in
    record { told = told_none _ _ (omega (arith, cons_room x y o)); left = cons_left x y xs o ys f.left }

pub number_bytes : (v n : ℕ) (r : Wrote) (o ys : List ℕ) → 128 ≤ v → v < 2 ^ 32 → 1 ≤ length o → r ≡ Bytes n
    → Front (num_b (v / 128)) (behind o (128 + v % 128)) r ys → Front (num_b v) o (Bytes (n + 1)) (back o (128 + v % 128) ys)
number_bytes v n r o ys h b l e f = rw (number_more v h b) (cons_bytes _ n r _ o ys l e f)

pub number_full : (v : ℕ) (r : Wrote) (o ys : List ℕ) → 128 ≤ v → v < 2 ^ 32 → 1 ≤ length o → r ≡ NoRoom
    → Front (num_b (v / 128)) (behind o (128 + v % 128)) r ys → Front (num_b v) o NoRoom (back o (128 + v % 128) ys)
number_full v r o ys h b l e f = rw (number_more v h b) (cons_none _ r _ o ys l e f)

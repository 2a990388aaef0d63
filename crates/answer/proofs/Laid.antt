-- Laws of `laid`, and how writes follow one another.
use mathlib.Core.Path.{◌≡◌, refl, sym, ap, ◌∙◌}
use mathlib.Core.List.{List, [], ◌∷◌, ◌++◌}
use Prim.Native.Nat.{ℕ, suc, ◌≤◌, ◌<◌}
use native.Mathlib.Nat.{le_of_suc-le-suc, not-suc-le-zero}
use native.Mathlib.Omega.{arith}
use lib.ListN.{length, take, drop}
use mathlib.Core.Bool.{Bool, true, false}
use lib.Dec.{leb}
use borrow.Author.Tests.{leb-true, leb-false, le-leb, lt-leb}
use Rattle.answer.specs.declared.wrote.Wrote.{Wrote}
use Rattle.answer.specs.declared.wrote.Wrote.TheVariants.{Bytes, NoRoom}
use Rattle.answer.specs.Out.{laid, wrote_of, Front, pick_wrote}

-- a write never changes the length
pub length-laid : (xs o : List ℕ) → length (laid xs o) ≡ length o
unfolding laid
length-laid [] o = refl
length-laid (x ∷ xs) [] = refl
length-laid (x ∷ xs) (b ∷ o) = ap suc (length-laid xs o)

-- no room
pub laid_nil : (xs : List ℕ) → laid xs [] ≡ []
unfolding laid
laid_nil [] = refl
laid_nil (x ∷ xs) = refl

-- room for all of xs
pub laid_fits : (xs o : List ℕ) → length xs ≤ length o → laid xs o ≡ xs ++ drop (length xs) o
unfolding laid
laid_fits [] o h = refl
laid_fits (x ∷ xs) [] h = absurd (not-suc-le-zero h)
laid_fits (x ∷ xs) (b ∷ o) h = ap (λ (l : List ℕ). x ∷ l) (laid_fits xs o (le_of_suc-le-suc h))

-- a fills it: what follows is not written
pub laid_full : (a b o : List ℕ) → length o ≤ length a → laid (a ++ b) o ≡ laid a o
unfolding laid
laid_full [] b [] h = laid_nil b
laid_full [] b (y ∷ o) h = absurd (not-suc-le-zero h)
laid_full (x ∷ a) b [] h = refl
laid_full (x ∷ a) b (y ∷ o) h = ap (λ (l : List ℕ). x ∷ l) (laid_full a b o (le_of_suc-le-suc h))

-- a, and then b from where a ends
pub laid_on : (a b o : List ℕ) → length a ≤ length o → take (length a) (laid a o) ++ laid b (drop (length a) (laid a o)) ≡ laid (a ++ b) o
unfolding laid
laid_on [] b o h = refl
laid_on (x ∷ a) b [] h = absurd (not-suc-le-zero h)
laid_on (x ∷ a) b (y ∷ o) h = ap (λ (l : List ℕ). x ∷ l) (laid_on a b o (le_of_suc-le-suc h))

-- WHAT AN ANSWER TELLS

wrote_bytes_go : (n m room : ℕ) (b : Bool) → leb m room ≡ b → Bytes n ≡ pick_wrote b (Bytes m) NoRoom → (n ≡ m) × (m ≤ room)
wrote_bytes_go n m room true e q = (cc, leb-true m room e)
wrote_bytes_go n m room false e q = let z : ◌≡◌ {A = ℕ} 0 1 = cc in omega arith

pub wrote_bytes : {r : Wrote} (n m room : ℕ) → r ≡ Bytes n → r ≡ wrote_of m room → (n ≡ m) × (m ≤ room)
unfolding wrote_of
wrote_bytes n m room e q = wrote_bytes_go n m room (leb m room) refl (sym e ∙ q)

wrote_none_go : (m room : ℕ) (b : Bool) → leb m room ≡ b → NoRoom ≡ pick_wrote b (Bytes m) NoRoom → room < m
wrote_none_go m room true e q = let z : ◌≡◌ {A = ℕ} 0 1 = cc in omega arith
wrote_none_go m room false e q = leb-false m room e

pub wrote_none : {r : Wrote} (m room : ℕ) → r ≡ NoRoom → r ≡ wrote_of m room → room < m
unfolding wrote_of
wrote_none m room e q = wrote_none_go m room (leb m room) refl (sym e ∙ q)

pub told_bytes : (n m room : ℕ) → n ≡ m → m ≤ room → Bytes n ≡ wrote_of m room
unfolding wrote_of
told_bytes n m room e h = simp (le-leb m room h) (ap Bytes e)

pub told_none : (m room : ℕ) → room < m → NoRoom ≡ wrote_of m room
unfolding wrote_of
told_none m room h = simp (lt-leb m room h)

pub front_length : {xs o : List ℕ} {r : Wrote} {o' : List ℕ} → Front xs o r o' → length o' ≡ length o
front_length f = ap length f.left ∙ length-laid _ _

pub front_count : {xs o : List ℕ} {n : ℕ} {o' : List ℕ} → Front xs o (Bytes n) o' → n ≤ length o
front_count {xs} {o} {n} f = let w = wrote_bytes n (length xs) (length o) refl f.told in omega arith

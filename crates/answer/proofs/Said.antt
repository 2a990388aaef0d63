-- What a buffer says so far: more is written, or what was written last is dropped.
use mathlib.Core.Path.{◌≡◌, refl, sym, ap, subst, ◌∙◌}
use mathlib.Core.List.{List, [], ◌∷◌, ◌++◌}
use Prim.Native.Nat.{ℕ}
use Prim.Native.Nat.{zero-le}
use lib.ListN.{length}
use Rattle.answer.specs.declared.wrote.Wrote.{Wrote}
use Rattle.answer.specs.declared.wrote.Wrote.TheVariants.{Bytes}
use Rattle.answer.specs.Out.{laid, wrote_of, Front, Put, Said}
use Rattle.answer.proofs.Laid.{told_bytes}
use Rattle.answer.proofs.Chain.{◌▸◌, start, front, put_length}

laid_twice : (xs o : List ℕ) → laid xs (laid xs o) ≡ laid xs o
unfolding laid
laid_twice [] o = refl
laid_twice (x ∷ xs) [] = refl
laid_twice (x ∷ xs) (b ∷ o) = ap (λ (l : List ℕ). x ∷ l) (laid_twice xs o)

tail_same : (x y : ℕ) (xs ys : List ℕ) → x ∷ xs ≡ y ∷ ys → xs ≡ ys
tail_same x y xs ys e = cc

head_same : (x y : ℕ) (xs ys : List ℕ) → x ∷ xs ≡ y ∷ ys → x ≡ y
head_same x y xs ys e = cc

laid_back : (ys xs o : List ℕ) → laid (ys ++ xs) o ≡ o → laid ys o ≡ o
unfolding laid
laid_back [] xs o h = refl
laid_back (y ∷ ys) xs [] h = refl
laid_back (y ∷ ys) xs (b ∷ o) h = λ i. head_same y b (laid (ys ++ xs) o) o h i ∷ laid_back ys xs o (tail_same y b _ _ h) i

said_front : {w : Wrote} {o xs : List ℕ} {room : ℕ} → Said w o xs room → Front xs o w o
said_front {w} {o} {xs} p = record { told = p.told ∙ ap (wrote_of (length xs)) (sym p.long); left = sym p.left }

-- nothing is written yet
pub said_none : (o : List ℕ) → Said (Bytes 0) o [] (length o)
unfolding laid
said_none o = record { told = told_bytes 0 0 (length o) refl (zero-le); left = refl; long = refl }

-- more is written
pub said_put : {w : Wrote} {o ys : List ℕ} {room : ℕ} {xs : List ℕ} {r : Wrote} {o' : List ℕ} → Said w o ys room → Put w xs o r o' → Said r o' (ys ++ xs) room
said_put {w} {o} {ys} {room} {xs} {r} {o'} p q =
    let f : Front (ys ++ xs) o r o' = front (start (said_front p) ▸ q) in
    record {
      told = f.told ∙ ap (wrote_of (length (ys ++ xs))) p.long;
      left = ap (laid (ys ++ xs)) f.left ∙ laid_twice (ys ++ xs) o ∙ sym f.left;
      long = put_length q ∙ p.long;
    }

-- xs was written and is dropped: the cursor goes back
pub said_back : (xs : List ℕ) {w : Wrote} {o ys : List ℕ} {room : ℕ} {r : Wrote} {o' : List ℕ} → Said w o ys room → Said r o' (ys ++ xs) room → Said w o' ys room
said_back xs {w} {o} {ys} {room} p q = record { told = p.told; left = laid_back ys xs _ q.left; long = q.long }

-- xs was written and is dropped, and zs is written instead
pub said_instead : (xs : List ℕ) {w : Wrote} {o ys : List ℕ} {room : ℕ} {r : Wrote} {o' zs : List ℕ} {q : Wrote} {o'' : List ℕ}
    → Said w o ys room → Said r o' (ys ++ xs) room → Put w zs o' q o'' → Said q o'' (ys ++ zs) room
said_instead xs p q z = said_put (said_back xs p q) z

pub said_same : {w : Wrote} {o xs ys : List ℕ} {room : ℕ} → xs ≡ ys → Said w o xs room → Said w o ys room
said_same {w} {o} {xs} {ys} {room} e p = subst (λ (l : List ℕ). Said w o l room) e p

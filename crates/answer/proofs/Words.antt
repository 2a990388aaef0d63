-- One word at a cursor: the ways through `then_word`.
use mathlib.Core.Path.{◌≡◌, refl, sym, ap, ◌∙◌}
use mathlib.Core.List.{List, [], ◌∷◌, ◌++◌, append-nil}
use Prim.Native.Nat.{ℕ, zero, suc, ◌+◌, ◌≤◌, ◌<◌}
use native.Mathlib.Nat.{not-suc-le-zero, le_of_suc-le-suc}
use native.Mathlib.Omega.{arith}
use lib.ListN.{length, take, drop, set, drop_of_length-le}
use lib.Seq.{take_all}
use Rattle.answer.specs.declared.wrote.Wrote.{Wrote}
use Rattle.answer.specs.declared.wrote.Wrote.TheVariants.{Bytes, NoRoom}
use Rattle.answer.specs.Out.{laid, wrote_after, laid_after, Put}
use Rattle.answer.proofs.Laid.{told_bytes, told_none, laid_nil}

set_laid : (o : List ℕ) (n v : ℕ) → n < length o → set o n v ≡ take n o ++ laid (v ∷ []) (drop n o)
unfolding laid
set_laid [] n v h = absurd (not-suc-le-zero h)
set_laid (b ∷ o) zero v h = refl
set_laid (b ∷ o) (suc n) v h = ap (λ (l : List ℕ). b ∷ l) (set_laid o n v (le_of_suc-le-suc h))

pub word_put : {w : Wrote} {o : List ℕ} {k : ℕ} (v : ℕ) → w ≡ Bytes k → k < length o → Put w (v ∷ []) o (Bytes (k + 1)) (set o k v)
unfolding wrote_after laid_after
word_put {w} {o} {k} v e h = rw e (record { told = told_bytes _ _ _ (omega arith) (omega arith); left = set_laid o k v h })

pub word_full : {w : Wrote} {o : List ℕ} {k v : ℕ} → w ≡ Bytes k → length o ≤ k → Put w (v ∷ []) o NoRoom o
unfolding wrote_after laid_after
word_full {w} {o} {k} {v} e h = rw e (record {
  told = told_none _ _ (omega arith);
  left = sym (ap (λ (l : List ℕ). take k o ++ laid (v ∷ []) l) (drop_of_length-le o h) ∙ ap (λ (l : List ℕ). take k o ++ l) (laid_nil (v ∷ [])) ∙ append-nil _ ∙ take_all k o h);
})

-- The words that are told: word by word, then as a whole.
use Prim.Native.Nat.{ℕ, zero, suc, ◌+◌, ◌≤◌, ◌<◌}
use native.Mathlib.Omega.{arith}
use mathlib.Core.Path.{◌≡◌, refl, sym, ap, ◌∙◌}
use mathlib.Core.Bool.{Bool, true, false}
use mathlib.Core.List.{List, ◌++◌}
use lib.Dec.{ltb}
use lib.ListN.{length, get_or, set, length-set, replicate, length-append, length-replicate}
use lib.Seq.{get_or-take, length-take-le, get_or-set_same, get_or-set_other, ext_get_or}
use borrow.Author.Tests.{ltb-true, ltb-false}
use Rattle.hurdlebraid.specs.Telling.{Told, the_words, word_of, told_words}

-- WORD BY WORD

behind : (room i : ℕ) → ◌≡◌ {A = ℕ} (get_or (replicate room 0) i 0) 0
behind zero i = refl
behind (suc room) zero = refl
behind (suc room) (suc i) = behind room i

words_then : (t : Told) (room i : ℕ) → get_or (the_words t ++ replicate room 0) i 0 ≡ word_of t i
unfolding word_of
words_then t room zero = refl
words_then t room (suc zero) = refl
words_then t room (suc (suc zero)) = refl
words_then t room (suc (suc (suc zero))) = refl
words_then t room (suc (suc (suc (suc i)))) = behind room i

told_word : (room : ℕ) (t : Told) (i : ℕ) → i < room → get_or (told_words room t) i 0 ≡ word_of t i
unfolding told_words
told_word room t i h = get_or-take room (the_words t ++ replicate room 0) i 0 h ∙ words_then t room i

told_long : (room : ℕ) (t : Told) → length (told_words room t) ≡ room
unfolding told_words
told_long room t = length-take-le room (the_words t ++ replicate room 0) (omega (arith, length-append (the_words t) (replicate room 0), length-replicate {A = ℕ} room 0))

-- behind the fourth
pub word_past : (t : Told) {i : ℕ} → (i ≡ 0 → ⊥) → (i ≡ 1 → ⊥) → (i ≡ 2 → ⊥) → (i ≡ 3 → ⊥) → 0 ≡ word_of t i
unfolding word_of
word_past t {i = zero} a b c d = absurd (a refl)
word_past t {i = suc zero} a b c d = absurd (b refl)
word_past t {i = suc (suc zero)} a b c d = absurd (c refl)
word_past t {i = suc (suc (suc zero))} a b c d = absurd (d refl)
word_past t {i = suc (suc (suc (suc i)))} a b c d = refl

-- the first four
pub word_is : (t : Told) {i : ℕ} (k : ℕ) → i ≡ k → word_of t k ≡ word_of t i
word_is t k e = ap (word_of t) (sym e)

-- THE LOOP

pub record Telling (t : Told) (i : ℕ) (u₀ u : List ℕ) : Type 0 where
  pub long : length u ≡ length u₀
  pub said : (k : ℕ) → k < i → get_or u k 0 ≡ word_of t k

pub telling_start : {t : Told} {u : List ℕ} → Telling t 0 u u
telling_start = record { long = refl; said = λ k h. absurd (omega arith) }

pub telling_more : {t : Told} {i : ℕ} {u₀ u : List ℕ} {v : ℕ} → Telling t i u₀ u → i < length u₀ → v ≡ word_of t i → Telling t (i + 1) u₀ (set u i v)
telling_more {t} {i} {u₀} {u} {v} g h e = record { long = length-set u i v ∙ g.long; said = λ k l. go k l (ltb k i) refl }
  where
    go : (k : ℕ) → k < i + 1 → (b : Bool) → ltb k i ≡ b → get_or (set u i v) k 0 ≡ word_of t k
    go k l true q = let y = ltb-true k i q in get_or-set_other u i k v 0 (λ z. absurd (omega arith)) ∙ g.said k y
    go k l false q =
        let y = ltb-false k i q in
        let z : k ≡ i = omega arith in
        ap (λ (x : ℕ). get_or (set u i v) x 0) z ∙ get_or-set_same u i v 0 (omega (arith, h, g.long)) ∙ e ∙ ap (word_of t) (sym z)

pub telling_done : {t : Told} {i : ℕ} {u₀ u : List ℕ} → Telling t i u₀ u → length u₀ ≤ i → u ≡ told_words (length u₀) t
telling_done {t} {i} {u₀} {u} g h = ext_get_or 0 u (told_words (length u₀) t) (g.long ∙ sym (told_long (length u₀) t)) (λ k l. g.said k (omega (arith, h, l, g.long)) ∙ sym (told_word (length u₀) t k (omega (arith, g.long))))

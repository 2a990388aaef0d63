-- Sets of numbers below 128 in rows of four words. What lies past the end of the words is in no set.
use Rattle.std.specs.Prelude.{ℕ, zero, suc, ◌+◌, ◌*◌, ◌/◌, ◌%◌, ◌^◌, ◌≡◌, ◌<◌, ◌≤◌, List, Bool, true, ◌&&◌, ◌||◌, not, ltb, eqb, length, get_or}

-- bit k of x
abbrev pub bit : (x k : ℕ) → ℕ
bit x k = x / 2 ^ k % 2

-- the word that has row i's bit j
abbrev pub word_of : (i j : ℕ) → ℕ
word_of i j = i * 4 + j / 32

-- j is in the set of row i
unfoldable pub member : List ℕ → (i j : ℕ) → Bool
member w i j = ltb j 128 && eqb (bit (get_or w (word_of i j) 0) (j % 32)) 1

-- the words have a bit for j in row i
unfoldable pub inside : List ℕ → (i j : ℕ) → Bool
inside w i j = ltb j 128 && ltb (word_of i j) (length w)

-- f is false of all numbers below n
unfoldable pub none_below : (n : ℕ) → (ℕ → Bool) → Bool
none_below zero f = true
none_below (suc n) f = not (f n) && none_below n f

-- the set of row i is empty
unfoldable pub vacant : List ℕ → (i : ℕ) → Bool
vacant w i = none_below 128 (member w i)

-- j was added to row i, where there is a bit for it, and nothing else is changed
pub record Adds (i j : ℕ) (w w' : List ℕ) : Type 0 where
  pub there : member w' i j ≡ inside w i j
  pub others : (a b : ℕ) → ((a ≡ i) × (b ≡ j) → ⊥) → member w' a b ≡ member w a b
  pub long : length w' ≡ length w

-- row a was added to row b, where there are bits for it, and nothing else is changed
pub record Joins (a b : ℕ) (w w' : List ℕ) : Type 0 where
  pub row : (j : ℕ) → member w' b j ≡ member w b j || (member w a j && inside w b j)
  pub others : (i j : ℕ) → (i ≡ b → ⊥) → member w' i j ≡ member w i j
  pub long : length w' ≡ length w

-- row a was taken out of row b, and nothing else is changed
pub record Removes (a b : ℕ) (w w' : List ℕ) : Type 0 where
  pub row : (j : ℕ) → member w' b j ≡ member w b j && not (member w a j)
  pub others : (i j : ℕ) → (i ≡ b → ⊥) → member w' i j ≡ member w i j
  pub long : length w' ≡ length w

-- where row a has words, each word of row b became what R gives of it and of row a's word, and nothing else is changed
pub record Mixes (R : ℕ → ℕ → ℕ → Type 0) (a b : ℕ) (w w' : List ℕ) : Type 0 where
  pub long : length w' ≡ length w
  pub done : (q : ℕ) → q < 4 → a < length w → b * 4 + q < length w → R (get_or w (b * 4 + q) 0) (get_or w (a * 4 + q) 0) (get_or w' (b * 4 + q) 0)
  pub rest : (p : ℕ) → (a < length w → b * 4 ≤ p → p < b * 4 + 4 → ⊥) → get_or w' p 0 ≡ get_or w p 0

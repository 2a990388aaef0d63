-- Bits of words, and the ways through the rows.
use mathlib.Core.Path.{◌≡◌, refl, sym, ap, subst, ◌∙◌}
use mathlib.Core.List.{List}
use mathlib.Core.Bool.{Bool, true, false, ◌&&◌, ◌||◌, not}
use Prim.Native.Nat.{ℕ, zero, suc, ◌+◌, ◌-◌, ◌*◌, ◌/◌, ◌%◌, ◌^◌, ◌≤◌, ◌<◌, max}
use native.Mathlib.Nat.{div-eq_of_lt, div-one, mul_assoc, one-mul, not-suc-le-zero, le_of_suc-le-suc, pow-suc, mod-lt}
use native.Mathlib.Decide.{dec_lt, ℕ_discrete}
use native.Mathlib.Omega.{arith}
use lib.Dec.{eqb, ltb, lit<, lit≤}
use lib.Arith.{lt-one}
use lib.Pow.{pow-add, pow_pos, pow-lt, shl_exact, shl-shr, shr-shr}
use lib.Bits.{bit_or, bit_xor, differ, or_shr, or_step, xor_shr, xor_step}
use lib.ListN.{length, get_or, set, length-set, get_or-eq_default}
use lib.Seq.{get_or-set_same, get_or-set_other, set_out, ext_get_or}
use borrow.Author.Tests.{lt-ltb, le-ltb, eqb-true, eqb-false, eq-eqb, ne_eqb}
use Rattle.memory.specs.Rows.{bit, word_of, member, inside, none_below, vacant, Adds, Joins, Removes, Mixes}

-- A BIT OF A WORD

or_odd : (x y : ℕ) → bit_or x y % 2 ≡ max (x % 2) (y % 2)
or_odd x y = omega (arith, or_step x y)

bit_or_lem : (a b k : ℕ) → bit (bit_or a b) k ≡ max (bit a k) (bit b k)
bit_or_lem a b k = ap (λ (n : ℕ). n % 2) (or_shr a b k) ∙ or_odd (a / 2 ^ k) (b / 2 ^ k)

differ_small : (x y : ℕ) → x < 2 → y < 2 → differ x y < 2
differ_small zero y h k = k
differ_small (suc zero) zero h k = h
differ_small (suc zero) (suc zero) h k = lit< tt
differ_small (suc zero) (suc (suc y)) h k = absurd (not-suc-le-zero (le_of_suc-le-suc (le_of_suc-le-suc k)))
differ_small (suc (suc x)) y h k = absurd (not-suc-le-zero (le_of_suc-le-suc (le_of_suc-le-suc h)))

xor_odd : (x y : ℕ) → bit_xor x y % 2 ≡ differ (x % 2) (y % 2)
xor_odd x y = omega (arith, xor_step x y, differ_small (x % 2) (y % 2) (mod-lt x {m = 2} (lit≤ tt)) (mod-lt y {m = 2} (lit≤ tt)))

bit_xor_lem : (a b k : ℕ) → bit (bit_xor a b) k ≡ differ (bit a k) (bit b k)
bit_xor_lem a b k = ap (λ (n : ℕ). n % 2) (xor_shr a b k) ∙ xor_odd (a / 2 ^ k) (b / 2 ^ k)

bit_small : (x k : ℕ) → bit x k < 2
bit_small x k = mod-lt (x / 2 ^ k) {m = 2} (lit≤ tt)

-- a test on one bit, by its two values
small : (P : ℕ → Type 0) → P 0 → P 1 → (x : ℕ) → x < 2 → P x
small P p q zero h = p
small P p q (suc zero) h = q
small P p q (suc (suc x)) h = absurd (not-suc-le-zero (le_of_suc-le-suc (le_of_suc-le-suc h)))

or_test : (x y : ℕ) → x < 2 → y < 2 → eqb (max x y) 1 ≡ eqb x 1 || eqb y 1
or_test x y h k = small (λ x. eqb (max x y) 1 ≡ eqb x 1 || eqb y 1) (small (λ y. eqb (max 0 y) 1 ≡ eqb y 1) refl refl y k) (small (λ y. eqb (max 1 y) 1 ≡ true) refl refl y k) x h

-- what y has is first added, then toggled
less_test : (x y : ℕ) → x < 2 → y < 2 → eqb (differ (max x y) y) 1 ≡ eqb x 1 && not (eqb y 1)
less_test x y h k = small (λ x. eqb (differ (max x y) y) 1 ≡ eqb x 1 && not (eqb y 1)) (small (λ y. eqb (differ (max 0 y) y) 1 ≡ false) refl refl y k) (small (λ y. eqb (differ (max 1 y) y) 1 ≡ not (eqb y 1)) refl refl y k) x h

abbrev pub less : (x y : ℕ) → ℕ
less x y = bit_xor (bit_or x y) y

has_or : (x y k : ℕ) → eqb (bit (bit_or x y) k) 1 ≡ eqb (bit x k) 1 || eqb (bit y k) 1
has_or x y k = ap (λ (n : ℕ). eqb n 1) (bit_or_lem x y k) ∙ or_test (bit x k) (bit y k) (bit_small x k) (bit_small y k)

has_less : (x y k : ℕ) → eqb (bit (less x y) k) 1 ≡ eqb (bit x k) 1 && not (eqb (bit y k) 1)
has_less x y k = ap (λ (n : ℕ). eqb n 1) (bit_xor_lem (bit_or x y) y k ∙ ap (λ (n : ℕ). differ n (bit y k)) (bit_or_lem x y k)) ∙ less_test (bit x k) (bit y k) (bit_small x k) (bit_small y k)

-- the mask 1 << k
abbrev one : ℕ → ℕ
one k = (1 * 2 ^ k) % 2 ^ 32

one_is : (k : ℕ) → k < 32 → one k ≡ 1 * 2 ^ k
one_is k h = shl_exact 1 k 32 (lit< tt) (omega arith)

bit_same : (k : ℕ) → k < 32 → bit (one k) k ≡ 1
bit_same k h = ap (λ (n : ℕ). bit n k) (one_is k h) ∙ ap (λ (n : ℕ). n % 2) (shl-shr 1 k)

bit_below : (j d : ℕ) → bit (1 * 2 ^ (d + (1 + j))) j ≡ 0
bit_below j d =
    let e : 1 * 2 ^ (d + (1 + j)) ≡ (2 ^ d * 2) * 2 ^ j = one-mul _ ∙ pow-add 2 d (1 + j) ∙ ap (λ (n : ℕ). 2 ^ d * n) (pow-add 2 1 j) ∙ sym (mul_assoc (2 ^ d) 2 (2 ^ j)) in
    let z : (2 ^ d * 2) % 2 ≡ 0 = omega arith in
    ap (λ (n : ℕ). bit n j) e ∙ ap (λ (n : ℕ). n % 2) (shl-shr (2 ^ d * 2) j) ∙ z

bit_other : (k j : ℕ) → k < 32 → (j ≡ k → ⊥) → bit (one k) j ≡ 0
bit_other k j h d = ap (λ (n : ℕ). bit n j) (one_is k h) ∙ go (dec_lt j k)
  where
    go : Dec (j < k) → bit (1 * 2 ^ k) j ≡ 0
    go (yes l) = let e : k ≡ (k - (1 + j)) + (1 + j) = omega arith in ap (λ (n : ℕ). bit (1 * 2 ^ n) j) e ∙ bit_below j (k - (1 + j))
    go (no l) =
        let l' : k < j = omega arith in
        let s : 1 * 2 ^ k < 2 ^ j = subst (λ (n : ℕ). n < 2 ^ j) (sym (one-mul (2 ^ k))) (pow-lt l') in
        ap (λ (n : ℕ). n % 2) (div-eq_of_lt s)

bit-zero : (k : ℕ) → bit 0 k ≡ 0
bit-zero k = ap (λ (n : ℕ). n % 2) (div-eq_of_lt (pow_pos k))

-- a word that is not 0 has a bit
some_bit : (k x : ℕ) → x < 2 ^ k → 0 < x → (j : ℕ) × ((j < k) × (bit x j ≡ 1))
some_bit zero x h p = absurd (omega (arith, lt-one h))
some_bit (suc k) x h p = go (ℕ_discrete (x % 2) 1) (some_bit k (x / 2))
  where
    go : Dec (x % 2 ≡ 1) → (x / 2 < 2 ^ k → 0 < x / 2 → (j : ℕ) × ((j < k) × (bit (x / 2) j ≡ 1))) → (j : ℕ) × ((j < suc k) × (bit x j ≡ 1))
    go (yes e) rest = (0, (omega arith, ap (λ (n : ℕ). n % 2) (div-one x) ∙ e))
    go (no e) rest =
        let b = rest (omega (arith, pow-suc 2 k)) (omega arith) in
        (1 + b.0, (omega (arith, b.1.0), ap (λ (n : ℕ). n % 2) (sym (shr-shr x 1 b.0)) ∙ b.1.1))

-- A MEMBER OF A ROW

-- the test on j's bit, where j is below 128
abbrev bit_in : List ℕ → (i j : ℕ) → Bool
bit_in w i j = eqb (bit (get_or w (word_of i j) 0) (j % 32)) 1

pub member_is : (w : List ℕ) (i j : ℕ) → j < 128 → member w i j ≡ bit_in w i j
unfolding member
member_is w i j h = ap (λ (b : Bool). b && bit_in w i j) (lt-ltb j 128 h)

pub member_high : (w : List ℕ) (i j : ℕ) → 128 ≤ j → member w i j ≡ false
unfolding member
member_high w i j h = ap (λ (b : Bool). b && bit_in w i j) (le-ltb j 128 h)

-- a word that is 0 has no member
member_zero : (w : List ℕ) (i j : ℕ) → get_or w (word_of i j) 0 ≡ 0 → member w i j ≡ false
member_zero w i j e = go (dec_lt j 128)
  where
    go : Dec (j < 128) → member w i j ≡ false
    go (yes h) = member_is w i j h ∙ ap (λ (n : ℕ). eqb (bit n (j % 32)) 1) e ∙ ap (λ (n : ℕ). eqb n 1) (bit-zero (j % 32))
    go (no h) = member_high w i j (omega arith)

-- past the end is no member
pub member_past : (w : List ℕ) (i j : ℕ) → length w ≤ word_of i j → member w i j ≡ false
member_past w i j h = member_zero w i j (get_or-eq_default w 0 h)

pub inside_is : (w : List ℕ) (i j : ℕ) → j < 128 → word_of i j < length w → inside w i j ≡ true
unfolding inside
inside_is w i j h l = rw (lt-ltb j 128 h, lt-ltb (word_of i j) (length w) l)

pub inside_high : (w : List ℕ) (i j : ℕ) → 128 ≤ j → inside w i j ≡ false
unfolding inside
inside_high w i j h = rw (le-ltb j 128 h)

pub inside_past : (w : List ℕ) (i j : ℕ) → length w ≤ word_of i j → inside w i j ≡ false
unfolding inside
inside_past w i j l = go (dec_lt j 128)
  where
    go : Dec (j < 128) → inside w i j ≡ false
    go (yes h) = rw (lt-ltb j 128 h, le-ltb (word_of i j) (length w) l)
    go (no h) = inside_high w i j (omega arith)

-- words that agree have the same members
member_same : (w w' : List ℕ) (i j : ℕ) → get_or w' (word_of i j) 0 ≡ get_or w (word_of i j) 0 → member w' i j ≡ member w i j
unfolding member
member_same w w' i j e = ap (λ (n : ℕ). ltb j 128 && eqb (bit n (j % 32)) 1) e

-- `has`

pub has_past : (w : List ℕ) (i j : ℕ) → length w ≤ i → false ≡ member w i j
has_past w i j h = sym (member_past w i j (omega arith))

pub has_high : (w : List ℕ) (i j : ℕ) → 128 ≤ j → false ≡ member w i j
has_high w i j h = sym (member_high w i j h)

pub has_is : (w : List ℕ) (i j : ℕ) {x : ℕ} → j < 128 → x ≡ get_or w (word_of i j) 0 → eqb (bit x (j % 32)) 1 ≡ member w i j
has_is w i j h e = ap (λ (n : ℕ). eqb (bit n (j % 32)) 1) e ∙ sym (member_is w i j h)

-- `is_empty`

and-true : (x : Bool) → x && true ≡ x
and-true true = refl
and-true false = refl

and-false : (x : Bool) → x && false ≡ false
and-false true = refl
and-false false = refl

pub none_all : (f : ℕ → Bool) (n : ℕ) → ((j : ℕ) → j < n → f j ≡ false) → none_below n f ≡ true
unfolding none_below
none_all f zero h = refl
none_all f (suc n) h = rw (h n (omega arith)) (none_all f n (λ j l. h j (omega arith)))

pub none_some : (f : ℕ → Bool) (n j : ℕ) → j < n → f j ≡ true → none_below n f ≡ false
unfolding none_below
none_some f zero j h e = absurd (not-suc-le-zero h)
none_some f (suc n) j h e = go (ℕ_discrete j n) (λ l. none_some f n j l e)
  where
    go : Dec (j ≡ n) → (j < n → none_below n f ≡ false) → none_below (suc n) f ≡ false
    go (yes q) rest = let z : f n ≡ true = sym (ap f q) ∙ e in rw z
    go (no q) rest = rw (rest (omega arith)) (and-false (not (f n)))

-- the loop: the first q words of row i are 0
pub record Vacating (w : List ℕ) (i q : ℕ) : Type 0 where
  pub zeros : (p : ℕ) → p < q → get_or w (i * 4 + p) 0 ≡ 0

pub vacating_start : {w : List ℕ} {i : ℕ} → Vacating w i 0
vacating_start = record { zeros = λ p h. absurd (not-suc-le-zero h) }

pub vacant_past : (w : List ℕ) (i : ℕ) → length w ≤ i → true ≡ vacant w i
unfolding vacant
vacant_past w i h = sym (none_all (member w i) 128 (λ j l. member_past w i j (omega arith)))

module _ {w : List ℕ} {i q : ℕ} (v : Vacating w i q) where
  pub vacating_more : {x : ℕ} → x ≡ get_or w (i * 4 + q) 0 → x ≤ 0 → Vacating w i (q + 1)
  vacating_more {x} e h = record { zeros = λ p l. go p l (ℕ_discrete p q) }
    where
      go : (p : ℕ) → p < q + 1 → Dec (p ≡ q) → get_or w (i * 4 + p) 0 ≡ 0
      go p l (yes z) = let n : x ≡ 0 = omega arith in ap (λ (k : ℕ). get_or w (i * 4 + k) 0) z ∙ sym e ∙ n
      go p l (no z) = v.zeros p (omega arith)

  pub vacating_done : 4 ≤ q → true ≡ vacant w i
  unfolding vacant
  vacating_done h = sym (none_all (member w i) 128 (λ j l. member_zero w i j (v.zeros (j / 32) (omega arith))))

  pub vacating_found : {x : ℕ} → q < 4 → x ≡ get_or w (i * 4 + q) 0 → x < 2 ^ 32 → 0 < x → false ≡ vacant w i
  unfolding vacant
  vacating_found {x} h e s p =
      let b = some_bit 32 x s p in
      let k : ℕ = b.0 in
      let j : ℕ = q * 32 + k in
      let l : k < 32 = b.1.0 in
      let jq : j / 32 ≡ q = omega arith in
      let jk : j % 32 ≡ k = omega arith in
      let m : bit_in w i j ≡ true = ap (λ (n : ℕ). eqb (bit (get_or w (i * 4 + n) 0) (j % 32)) 1) jq ∙ ap (λ (n : ℕ). eqb (bit n (j % 32)) 1) (sym e) ∙ ap (λ (n : ℕ). eqb (bit x n) 1) jk ∙ ap (λ (n : ℕ). eqb n 1) b.1.1 in
      sym (none_some (member w i) 128 j (omega arith) (member_is w i j (omega arith) ∙ m))

-- `add`

pub adds_high : {w : List ℕ} {i j : ℕ} → 128 ≤ j → Adds i j w w
adds_high {w} {i} {j} h = record { there = member_high w i j h ∙ sym (inside_high w i j h); others = λ a b d. refl; long = refl }

pub adds_past : {w : List ℕ} {i j : ℕ} → length w ≤ word_of i j → Adds i j w w
adds_past {w} {i} {j} h = record { there = member_past w i j h ∙ sym (inside_past w i j h); others = λ a b d. refl; long = refl }

set_there : (x k : ℕ) → k < 32 → eqb (bit (bit_or x (one k)) k) 1 ≡ true
set_there x k h =
    let e = bit_same k h in
    let s = bit_small x k in
    let m : max (bit x k) (bit (one k) k) ≡ 1 = omega arith in
    ap (λ (n : ℕ). eqb n 1) (bit_or_lem x (one k) k ∙ m)

set_others : (x k b : ℕ) → k < 32 → (b ≡ k → ⊥) → bit (bit_or x (one k)) b ≡ bit x b
set_others x k b h d =
    let e = bit_other k b h d in
    let m : max (bit x b) (bit (one k) b) ≡ bit x b = omega arith in
    bit_or_lem x (one k) b ∙ m

module _ (w : List ℕ) (i j : ℕ) (h : j < 128) (l : word_of i j < length w) where
  abbrev put : List ℕ
  put = set w (word_of i j) (bit_or (get_or w (word_of i j) 0) (one (j % 32)))

  put_is : get_or put (word_of i j) 0 ≡ bit_or (get_or w (word_of i j) 0) (one (j % 32))
  put_is = get_or-set_same w (word_of i j) _ 0 l

  put_other : (a b : ℕ) → ((a ≡ i) × (b ≡ j) → ⊥) → Dec (b < 128) → Dec (word_of a b ≡ word_of i j) → member put a b ≡ member w a b
  put_other a b d (no k) q = member_high put a b (omega arith) ∙ sym (member_high w a b (omega arith))
  put_other a b d (yes k) (no e) = member_same w put a b (get_or-set_other w (word_of i j) (word_of a b) _ 0 e)
  put_other a b d (yes k) (yes e) =
      let f : b % 32 ≡ j % 32 → ⊥ = λ q. d (omega arith, omega arith) in
      member_is put a b k
      ∙ ap (λ (n : ℕ). eqb n 1) (ap (λ (n : ℕ). bit (get_or put n 0) (b % 32)) e ∙ ap (λ (n : ℕ). bit n (b % 32)) put_is ∙ set_others (get_or w (word_of i j) 0) (j % 32) (b % 32) (omega arith) f)
      ∙ ap (λ (n : ℕ). eqb (bit (get_or w n 0) (b % 32)) 1) (sym e) ∙ sym (member_is w a b k)

  adds_put : Adds i j w put
  adds_put = record {
    there = member_is put i j h ∙ ap (λ (n : ℕ). eqb (bit n (j % 32)) 1) put_is ∙ set_there (get_or w (word_of i j) 0) (j % 32) (omega arith) ∙ sym (inside_is w i j h l);
    others = λ a b d. put_other a b d (dec_lt b 128) (ℕ_discrete (word_of a b) (word_of i j));
    long = length-set w (word_of i j) _;
  }

pub adds_is : {w w' : List ℕ} {i j x : ℕ} → j < 128 → x ≡ get_or w (word_of i j) 0 → w' ≡ set w (word_of i j) (bit_or x (one (j % 32))) → Adds i j w w'
adds_is {w} {w'} {i} {j} {x} h e q = go (dec_lt (word_of i j) (length w))
  where
    go : Dec (word_of i j < length w) → Adds i j w w'
    go (yes l) = rw (q, e) (adds_put w i j h l)
    go (no l) = rw (q ∙ set_out w (word_of i j) _ (omega arith)) (adds_past (omega arith))

-- TWO ROWS, WORD BY WORD

-- the loop: the first t words of row b are what R gives of both
pub record Mixing (R : ℕ → ℕ → ℕ → Type 0) (a b : ℕ) (w₀ w : List ℕ) (t : ℕ) : Type 0 where
  pub long : length w ≡ length w₀
  pub high : t ≤ 4
  pub done : (q : ℕ) → q < t → b * 4 + q < length w₀ → R (get_or w₀ (b * 4 + q) 0) (get_or w₀ (a * 4 + q) 0) (get_or w (b * 4 + q) 0)
  pub rest : (p : ℕ) → (b * 4 ≤ p → p < b * 4 + t → ⊥) → get_or w p 0 ≡ get_or w₀ p 0

pub mixing_start : {R : ℕ → ℕ → ℕ → Type 0} {a b : ℕ} {w : List ℕ} → Mixing R a b w w 0
mixing_start = record { long = refl; high = omega arith; done = λ q h. absurd (omega arith); rest = λ p h. refl }

pub mixing_more : {R : ℕ → ℕ → ℕ → Type 0} {a b : ℕ} {w₀ w w' : List ℕ} {t x y r : ℕ} → Mixing R a b w₀ w t → t < 4
    → y ≡ get_or w (a * 4 + t) 0 → x ≡ get_or w (b * 4 + t) 0 → R x y r → w' ≡ set w (b * 4 + t) r → Mixing R a b w₀ w' (t + 1)
mixing_more {R} {a} {b} {w₀} {w} {w'} {t} {x} {y} {r} o h ey ex g e = rw e (record {
  long = length-set w (b * 4 + t) r ∙ o.long;
  high = omega arith;
  done = λ q l k. one_more q l k (dec_lt q t);
  rest = λ p d. get_or-set_other w (b * 4 + t) p r 0 (λ z. d (omega arith) (omega arith)) ∙ o.rest p (λ z z'. d z (omega arith));
})
  where
    R_at : {i i' j j' k k' : ℕ} → i ≡ i' → j ≡ j' → k ≡ k' → R i j k → R i' j' k'
    R_at {i} {i'} {j} {j'} {k} {k'} p q s z = subst (λ (n : ℕ). R n j' k') p (subst (λ (n : ℕ). R i n k') q (subst (R i j) s z))

    one_more : (q : ℕ) → q < t + 1 → b * 4 + q < length w₀ → Dec (q < t)
        → R (get_or w₀ (b * 4 + q) 0) (get_or w₀ (a * 4 + q) 0) (get_or (set w (b * 4 + t) r) (b * 4 + q) 0)
    one_more q l k (yes z) = subst (λ (n : ℕ). R (get_or w₀ (b * 4 + q) 0) (get_or w₀ (a * 4 + q) 0) n) (sym (get_or-set_other w (b * 4 + t) (b * 4 + q) r 0 (omega arith))) (o.done q z k)
    one_more q l k (no z) =
        let e : t ≡ q = omega arith in
        let long = o.long in
        subst (λ (m : ℕ). R (get_or w₀ (b * 4 + m) 0) (get_or w₀ (a * 4 + m) 0) (get_or (set w (b * 4 + t) r) (b * 4 + m) 0)) e
        (R_at (ex ∙ o.rest (b * 4 + t) (λ z z'. omega arith)) (ey ∙ o.rest (a * 4 + t) (λ z z'. omega arith)) (sym (get_or-set_same w (b * 4 + t) r 0 (omega arith))) g)

pub mixing_done : {R : ℕ → ℕ → ℕ → Type 0} {a b : ℕ} {w₀ w : List ℕ} {t : ℕ} → Mixing R a b w₀ w t → 4 ≤ t → a < length w₀ → Mixes R a b w₀ w
mixing_done o h l = let high = o.high in record { long = o.long; done = λ q k _. o.done q (omega arith); rest = λ p d. o.rest p (λ z z'. d l z (omega arith)) }

pub mixes_none : {R : ℕ → ℕ → ℕ → Type 0} {a b : ℕ} {w : List ℕ} → (a < length w → length w ≤ b) → Mixes R a b w w
mixes_none h = record { long = refl; done = λ q k l d. absurd (let z = h l in omega arith); rest = λ p d. refl }

module _ {R : ℕ → ℕ → ℕ → Type 0} {f : ℕ → ℕ → ℕ} {a b : ℕ} {w₀ w : List ℕ} (is : (x y r : ℕ) → R x y r → r ≡ f x y) (o : Mixes R a b w₀ w) where
  mixed_others : (i j : ℕ) → (i ≡ b → ⊥) → member w i j ≡ member w₀ i j
  mixed_others i j d = go (dec_lt j 128)
    where
      go : Dec (j < 128) → member w i j ≡ member w₀ i j
      go (yes k) = member_same w₀ w i j (o.rest (word_of i j) (λ l z z'. d (omega arith)))
      go (no k) = member_high w i j (omega arith) ∙ sym (member_high w₀ i j (omega arith))

  -- a row past the end changes nothing
  mixed_none : length w₀ ≤ a → (j : ℕ) → member w b j ≡ member w₀ b j
  mixed_none h j = member_same w₀ w b j (o.rest (word_of b j) (λ l z z'. omega arith))

  -- each bit is g of both bits, where there is one
  mixed_row : (g : Bool → Bool → Bool) → ((x y k : ℕ) → eqb (bit (f x y) k) 1 ≡ g (eqb (bit x k) 1) (eqb (bit y k) 1))
      → (j : ℕ) → a < length w₀ → j < 128 → word_of b j < length w₀ → member w b j ≡ g (member w₀ b j) (member w₀ a j)
  mixed_row g law j h k l =
      member_is w b j k ∙ ap (λ (n : ℕ). eqb (bit n (j % 32)) 1) (is _ _ _ (o.done (j / 32) (omega arith) h l)) ∙ law (get_or w₀ (word_of b j) 0) (get_or w₀ (word_of a j) 0) (j % 32)
      ∙ ap (λ (x : Bool). g x (bit_in w₀ a j)) (sym (member_is w₀ b j k)) ∙ ap (g (member w₀ b j)) (sym (member_is w₀ a j k))

-- the row and the bits that are there, and the others
data Where (w : List ℕ) (i j : ℕ) : Type 0 where
  there : j < 128 → word_of i j < length w → Where w i j
  high : 128 ≤ j → Where w i j
  past : length w ≤ word_of i j → Where w i j

where_is : (w : List ℕ) (i j : ℕ) → Where w i j
where_is w i j = go (dec_lt j 128) (dec_lt (word_of i j) (length w))
  where
    go : Dec (j < 128) → Dec (word_of i j < length w) → Where w i j
    go (yes h) (yes l) = there h l
    go (yes h) (no l) = past (omega arith)
    go (no h) l = high (omega arith)

abbrev sub : Bool → Bool → Bool
sub x y = x && not y

-- no bit for j: nothing joins it, and nothing leaves it
joins_none : (x y z m : Bool) → m ≡ false → x ≡ false → z ≡ false → m ≡ x || (y && z)
joins_none x y z m p q r = rw (p, q, r) (sym (and-false y))

removes_none : (x y m : Bool) → m ≡ false → x ≡ false → m ≡ x && not y
removes_none x y m p q = rw (p, q)

or_false : (x z : Bool) → x ≡ x || (false && z)
or_false true z = refl
or_false false z = refl

module _ {R : ℕ → ℕ → ℕ → Type 0} {a b : ℕ} {w₀ w : List ℕ} where
  pub joins_is : ((x y r : ℕ) → R x y r → r ≡ bit_or x y) → Mixes R a b w₀ w → Joins a b w₀ w
  joins_is is o = record { row = λ j. go j (dec_lt a (length w₀)) (where_is w₀ b j); others = mixed_others is o; long = o.long }
    where
      long : length w ≡ length w₀
      long = o.long

      go : (j : ℕ) → Dec (a < length w₀) → Where w₀ b j → member w b j ≡ member w₀ b j || (member w₀ a j && inside w₀ b j)
      go j (no h) p = mixed_none is o (omega arith) j ∙ rw (member_past w₀ a j (omega arith)) (or_false (member w₀ b j) (inside w₀ b j))
      go j (yes h) (there k l) = mixed_row is o ◌||◌ has_or j h k l ∙ ap (λ (x : Bool). member w₀ b j || x) (sym (ap (λ (x : Bool). member w₀ a j && x) (inside_is w₀ b j k l) ∙ and-true (member w₀ a j)))
      go j (yes h) (high k) = joins_none (member w₀ b j) (member w₀ a j) (inside w₀ b j) (member w b j) (member_high w b j k) (member_high w₀ b j k) (inside_high w₀ b j k)
      go j (yes h) (past l) = joins_none (member w₀ b j) (member w₀ a j) (inside w₀ b j) (member w b j) (member_past w b j (omega arith)) (member_past w₀ b j l) (inside_past w₀ b j l)

  pub removes_is : ((x y r : ℕ) → R x y r → r ≡ less x y) → Mixes R a b w₀ w → Removes a b w₀ w
  removes_is is o = record { row = λ j. go j (dec_lt a (length w₀)) (where_is w₀ b j); others = mixed_others is o; long = o.long }
    where
      long : length w ≡ length w₀
      long = o.long

      go : (j : ℕ) → Dec (a < length w₀) → Where w₀ b j → member w b j ≡ member w₀ b j && not (member w₀ a j)
      go j (no h) p = mixed_none is o (omega arith) j ∙ rw (member_past w₀ a j (omega arith)) (sym (and-true (member w₀ b j)))
      go j (yes h) (there k l) = mixed_row is o sub has_less j h k l
      go j (yes h) (high k) = removes_none (member w₀ b j) (member w₀ a j) (member w b j) (member_high w b j k) (member_high w₀ b j k)
      go j (yes h) (past l) = removes_none (member w₀ b j) (member w₀ a j) (member w b j) (member_past w b j (omega arith)) (member_past w₀ b j l)

-- THE MEMBERS SAY ALL

bits_same : (k x y : ℕ) → x < 2 ^ k → y < 2 ^ k → ((j : ℕ) → j < k → bit x j ≡ bit y j) → x ≡ y
bits_same zero x y h l e = lt-one h ∙ sym (lt-one l)
bits_same (suc k) x y h l e =
    let low : x % 2 ≡ y % 2 = ap (λ (n : ℕ). n % 2) (sym (div-one x)) ∙ e 0 (omega arith) ∙ ap (λ (n : ℕ). n % 2) (div-one y) in
    let high = bits_same k (x / 2) (y / 2) (omega (arith, pow-suc 2 k)) (omega (arith, pow-suc 2 k)) (λ j i. ap (λ (n : ℕ). n % 2) (shr-shr x 1 j) ∙ e (1 + j) (omega arith) ∙ sym (ap (λ (n : ℕ). n % 2) (shr-shr y 1 j))) in
    omega arith

tests_same : (x y : ℕ) → x < 2 → y < 2 → eqb x 1 ≡ eqb y 1 → x ≡ y
tests_same x y h l e = go (ℕ_discrete y 1)
  where
    go : Dec (y ≡ 1) → x ≡ y
    go (yes z) = eqb-true x 1 (e ∙ eq-eqb y 1 z) ∙ sym z
    go (no z) = let f = eqb-false x 1 (e ∙ ne_eqb y 1 z) in omega arith

-- words with the same members are the same words
pub words_same : (w v : List ℕ) → length w ≡ length v → ((p : ℕ) → get_or w p 0 < 2 ^ 32) → ((p : ℕ) → get_or v p 0 < 2 ^ 32) → ((i j : ℕ) → member w i j ≡ member v i j) → w ≡ v
words_same w v l sw sv e = ext_get_or 0 w v l (λ p h. bits_same 32 (get_or w p 0) (get_or v p 0) (sw p) (sv p) (one_bit p))
  where
    one_bit : (p k : ℕ) → k < 32 → bit (get_or w p 0) k ≡ bit (get_or v p 0) k
    one_bit p k h =
        let i : ℕ = p / 4 in
        let j : ℕ = p % 4 * 32 + k in
        let at : word_of i j ≡ p = omega arith in
        let is : j % 32 ≡ k = omega arith in
        let same : bit_in w i j ≡ bit_in v i j = sym (member_is w i j (omega arith)) ∙ e i j ∙ member_is v i j (omega arith) in
        tests_same _ _ (bit_small (get_or w p 0) k) (bit_small (get_or v p 0) k)
        (ap (λ (n : ℕ). eqb (bit (get_or w p 0) n) 1) (sym is) ∙ ap (λ (n : ℕ). eqb (bit (get_or w n 0) (j % 32)) 1) (sym at) ∙ same
        ∙ ap (λ (n : ℕ). eqb (bit (get_or v n 0) (j % 32)) 1) at ∙ ap (λ (n : ℕ). eqb (bit (get_or v p 0) n) 1) is)

pub ruleset has_laws = (has_high, has_past, has_is)

-- The rows of bits: take_in and hand_on.
use mathlib.Core.Path.{◌≡◌, refl, sym, ap, subst, ◌∙◌}
use mathlib.Core.Bool.{Bool, true, false, ◌&&◌, ◌||◌, or-false, or-true}
use mathlib.Core.List.{List}
use Prim.Native.Nat.{ℕ, ◌+◌, ◌≤◌, ◌<◌}
use native.Mathlib.Decide.{dec_lt, ℕ_discrete}
use native.Mathlib.Omega.{arith}
use lib.Dec.{eqb}
use lib.ListN.{length}
use borrow.Author.Tests.{eq-eqb, ne_eqb}
use Rattle.penne.proofs.Booleans.{and-true}
use Rattle.memory.specs.Rows.{member, inside, Adds, Joins, Removes}
use Rattle.memory.proofs.Bits.{member_high, inside_is}
use Rattle.containers.specs.declared.containers.Contained.TheVariants.{Fine, Poisoned, Cyclical}
use Rattle.containers.specs.Bits.{HandsTo, HandsOn, Joined, had, has, not as has_not, TakesIn}
use Rattle.containers.proofs.Lists.{and-not}

-- 129 ROWS HAVE ALL BITS

-- a member of one row has its bit in every row
in_room : (w : List ℕ) (a b j : ℕ) → length w ≡ 516 → b ≤ 128 → member w a j && inside w b j ≡ member w a j
in_room w a b j long h = go (dec_lt j 128)
  where
    go : Dec (j < 128) → member w a j && inside w b j ≡ member w a j
    go (yes l) = ap (λ (t : Bool). member w a j && t) (inside_is w b j l (omega arith)) ∙ and-true (member w a j)
    go (no l) = ap (λ (t : Bool). t && inside w b j) (member_high w a j (omega arith)) ∙ sym (member_high w a j (omega arith))

pub joins_row : {a b : ℕ} {w w' : List ℕ} → Joins a b w w' → length w ≡ 516 → b ≤ 128 → (j : ℕ) → member w' b j ≡ member w b j || member w a j
joins_row {a} {b} {w} o long h j = o.row j ∙ ap (λ (t : Bool). member w b j || t) (in_room w a b j long h)

pub adds_row : {i k : ℕ} {w w' : List ℕ} → Adds i k w w' → length w ≡ 516 → i ≤ 128 → k < 128 → (j : ℕ) → member w' i j ≡ member w i j || eqb j k
adds_row {i} {k} {w} {w'} o long h l j = go (ℕ_discrete j k)
  where
    go : Dec (j ≡ k) → member w' i j ≡ member w i j || eqb j k
    go (yes q) = ap (member w' i) q ∙ o.there ∙ inside_is w i k l (omega arith) ∙ sym (ap (λ (t : Bool). member w i j || t) (eq-eqb j k q) ∙ or-true (member w i j))
    go (no q) = o.others i j (λ z. q z.1) ∙ sym (ap (λ (t : Bool). member w i j || t) (ne_eqb j k q) ∙ or-false (member w i j))

-- hand_to

pub hands_to_none : {row c : ℕ} {w : List ℕ} {b : Bool} → b ≡ member w row c → b ≡ false → HandsTo row c w w
hands_to_none {row} {c} {w} e f = record {
  long = refl;
  same = λ i j d. refl;
  here = λ long h j. let z : member w row c ≡ false = sym e ∙ f in sym (ap (λ (t : Bool). member w row j || (t && member w 128 j)) z ∙ or-false (member w row j));
}

pub hands_to_all : {row c : ℕ} {w w' : List ℕ} {b : Bool} → b ≡ member w row c → b ≡ true → Joins 128 row w w' → HandsTo row c w w'
hands_to_all {row} {c} {w} {w'} e f o = record {
  long = o.long;
  same = o.others;
  here = λ long h j. let z : member w row c ≡ true = sym e ∙ f in joins_row o long (omega arith) j ∙ sym (ap (λ (t : Bool). member w row j || (t && member w 128 j)) z);
}

-- hand_on: the loop

pub record Handing (count c : ℕ) (w₀ w : List ℕ) (t : ℕ) : Type 0 where
  pub high : t ≤ count
  pub done : HandsOn t c w₀ w

pub handing_start : {count c : ℕ} {w : List ℕ} → Handing count c w w 0
handing_start = record { high = omega arith; done = record { long = refl; same = λ i j h. refl; here = λ long few i j h. absurd (omega arith) } }

pub handing_more : {count c : ℕ} {w₀ w w' : List ℕ} {t : ℕ} → Handing count c w₀ w t → t < count → HandsTo t c w w' → Handing count c w₀ w' (t + 1)
handing_more {count} {c} {w₀} {w} {w'} {t} o h n = record {
  high = omega arith;
  done = record {
    long = n.long ∙ o.done.long;
    same = λ i j l. n.same i j (omega arith) ∙ o.done.same i j (omega arith);
    here = λ long few i j l. go long few i j l (ℕ_discrete i t);
  };
}
  where
    was : (i j : ℕ) → t ≤ i → member w i j ≡ member w₀ i j
    was = o.done.same

    go : length w₀ ≡ 516 → t + 1 ≤ 128 → (i j : ℕ) → i < t + 1 → Dec (i ≡ t) → member w' i j ≡ member w₀ i j || (member w₀ i c && member w₀ 128 j)
    go long few i j l (no d) = n.same i j d ∙ o.done.here long (omega arith) i j (omega arith)
    go long few i j l (yes e) =
        subst (λ (k : ℕ). member w' k j ≡ member w₀ k j || (member w₀ k c && member w₀ 128 j)) (sym e)
        (n.here (o.done.long ∙ long) (omega arith) j
        ∙ ap (λ (b : Bool). b || (member w t c && member w 128 j)) (was t j (omega arith))
        ∙ ap (λ (b : Bool). member w₀ t j || (b && member w 128 j)) (was t c (omega arith))
        ∙ ap (λ (b : Bool). member w₀ t j || (member w₀ t c && b)) (was 128 j (omega arith)))

pub handing_done : {count c : ℕ} {w₀ w : List ℕ} {t : ℕ} → Handing count c w₀ w t → count ≤ t → HandsOn count c w₀ w
handing_done {count} {c} {w₀} {w} {t} o h = let high = o.high in let e : t ≡ count = omega arith in subst (λ (k : ℕ). HandsOn k c w₀ w) e o.done

-- take_in

pub takes_had : {count c x : ℕ} {w : List ℕ} {b : Bool} → b ≡ member w c c → b ≡ true → TakesIn count c x w Poisoned w
takes_had e f = record { long = refl; takes = λ long few h l. had (sym e ∙ f) }

module _ {c x : ℕ} {w w₁ w₂ w₃ w₄ : List ℕ} (o₁ : Removes 128 128 w w₁) (o₂ : Joins x 128 w₁ w₂) (o₃ : Adds 128 x w₂ w₃) (o₄ : Joins 128 c w₃ w₄) where
  joined_long : length w₄ ≡ length w
  joined_long = o₄.long ∙ o₃.long ∙ o₂.long ∙ o₁.long

  before : (i j : ℕ) → i < 128 → member w₃ i j ≡ member w i j
  before i j h = o₃.others i j (λ z. let e : i ≡ 128 = z.0 in omega arith) ∙ o₂.others i j (λ z. omega arith) ∙ o₁.others i j (λ z. omega arith)

  joined : length w ≡ 516 → c < 128 → x < 128 → Joined c x w w₄
  joined long h l =
      let long₁ : length w₁ ≡ 516 = o₁.long ∙ long in
      let long₂ : length w₂ ≡ 516 = o₂.long ∙ long₁ in
      let long₃ : length w₃ ≡ 516 = o₃.long ∙ long₂ in
      let spare : (j : ℕ) → member w₃ 128 j ≡ member w x j || eqb j x = λ j.
      adds_row o₃ long₂ (omega arith) l j
      ∙ ap (λ (b : Bool). b || eqb j x) (joins_row o₂ long₁ (omega arith) j ∙ ap (λ (b : Bool). b || member w₁ x j) (o₁.row j ∙ and-not (member w 128 j)) ∙ o₁.others x j (λ z. omega arith)) in
      record {
        long = joined_long;
        same = λ i j d k. o₄.others i j d ∙ before i j k;
        spare = λ j. o₄.others 128 j (λ z. omega arith) ∙ spare j;
        here = λ j. joins_row o₄ long₃ (omega arith) j ∙ ap (λ (b : Bool). b || member w₃ 128 j) (before c j h) ∙ ap (λ (b : Bool). member w c j || b) (spare j);
      }

  pub takes_has : {count : ℕ} {b d : Bool} → b ≡ member w c c → b ≡ false → d ≡ member w₄ c c → d ≡ true → TakesIn count c x w Cyclical w₄
  takes_has e f g k = record { long = joined_long; takes = λ long few h l. has (sym e ∙ f) (joined long (omega arith) (omega arith)) (sym g ∙ k) }

  pub takes_not : {count : ℕ} {b d : Bool} {w₅ : List ℕ} → b ≡ member w c c → b ≡ false → d ≡ member w₄ c c → d ≡ false → HandsOn count c w₄ w₅ → TakesIn count c x w Fine w₅
  takes_not e f g k o = record { long = o.long ∙ joined_long; takes = λ long few h l. has_not (sym e ∙ f) (joined long (omega arith) (omega arith)) (sym g ∙ k) o }

pub ruleset take_in_laws = (takes_had, takes_has, takes_not)

pub ruleset hand_on_laws = (handing_start, handing_more, handing_done)

-- Booleans: what cases on them give.
use Prim.Native.Nat.{ℕ}
use mathlib.Core.Bool.{Bool, true, false, ◌&&◌, ◌||◌, not, or-true, or-false}
use mathlib.Core.Path.{◌≡◌, refl, sym, ◌∙◌, ap, subst}
use mathlib.Core.Option.{none, some}
use lib.Dec.{eqb, T}
use mathlib.Core.Logic.{◌⊎◌, inl, inr}
use borrow.Author.Tests.{eqb-true, eqb-false, eq-eqb, ne_eqb}

-- true is not false
pub true_false : {B : Type 0} → true ≡ false → B
true_false h = absurd (subst T h tt)

pub some_same : {A : Type 0} {x y : A} → some x ≡ some y → x ≡ y
some_same e = cc

pub none_some : {A B : Type 0} (x : A) → none ≡ some x → B
none_some x h = let z : true ≡ false = cc in true_false z

pub or_left : (a b : Bool) → a ≡ true → (a || b) ≡ true
or_left a b h = rw h

pub or_right : (a b : Bool) → b ≡ true → (a || b) ≡ true
or_right a b h = rw h (or-true a)

pub or_case : (a b : Bool) → (a || b) ≡ true → (a ≡ true) ⊎ (b ≡ true)
or_case true b h = inl refl
or_case false b h = inr h

pub and_left : (a b : Bool) → (a && b) ≡ true → a ≡ true
and_left true b h = refl
and_left false b h = h

pub and_right : (a b : Bool) → (a && b) ≡ true → b ≡ true
and_right true b h = h
and_right false b h = cc

pub not_true : (a : Bool) → not a ≡ true → a ≡ false
not_true true h = sym h
not_true false h = refl

pub not_false : (a : Bool) → not a ≡ false → a ≡ true
not_false true h = refl
not_false false h = sym h

-- 1 is not 0: what `omega` finds where its facts cannot all hold
pub one_zero : {B : Type 0} → ◌≡◌ {A = ℕ} 1 0 → B
one_zero z = true_false (let w : true ≡ false = cc in w)

pub false_or_left : (a b : Bool) → (a || b) ≡ false → a ≡ false
false_or_left true b h = h
false_or_left false b h = refl

pub false_or_right : (a b : Bool) → (a || b) ≡ false → b ≡ false
false_or_right true b h = true_false h
false_or_right false b h = h

-- not true: false
pub is_false : (b : Bool) → (b ≡ true → ◌≡◌ {A = ℕ} 1 0) → b ≡ false
is_false true f = one_zero (f refl)
is_false false f = refl

pub never_true : (b : Bool) → (b ≡ true → true ≡ false) → b ≡ false
never_true true f = f refl
never_true false f = refl

pub both_true : (a b : Bool) → a ≡ true → b ≡ true → (a && b) ≡ true
both_true a b e f = rw (e, f)

pub both_false : (a b : Bool) → a ≡ false → b ≡ false → (a || b) ≡ false
both_false a b e f = rw (e, f)

-- two tests that are true together are the same
pub same_bool : (a b : Bool) → (a ≡ true → b ≡ true) → (b ≡ true → a ≡ true) → a ≡ b
same_bool true b f g = sym (f refl)
same_bool false true f g = g refl
same_bool false false f g = refl

pub bool_case : (b : Bool) → (b ≡ true) ⊎ (b ≡ false)
bool_case true = inl refl
bool_case false = inr refl

pub not_both : {B : Type 0} {b : Bool} → b ≡ true → b ≡ false → B
not_both e f = true_false (sym e ∙ f)

pub and-true : (b : Bool) → (b && true) ≡ b
and-true true = refl
and-true false = refl

pub and-false : (b : Bool) → (b && false) ≡ false
and-false true = refl
and-false false = refl

pub or-or : (a b c : Bool) → (a || b || c) ≡ (a || (b || c))
or-or true b c = refl
or-or false b c = refl

pub eqb_sym : (m n : ℕ) → eqb m n ≡ eqb n m
eqb_sym m n = (elim (eqb m n) as (λ b. eqb m n ≡ b → eqb m n ≡ eqb n m) [
  | true ↦ λ e. e ∙ sym (eq-eqb n m (sym (eqb-true m n e)))
  | false ↦ λ e. e ∙ sym (ne_eqb n m (λ z. eqb-false m n e (sym z)))
]) refl

pub or_with : (a b : Bool) → b ≡ false → (a || b) ≡ a
or_with a b e = ap (λ (c : Bool). a || c) e ∙ or-false a

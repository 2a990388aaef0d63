-- Uniqueness: any two results that meet the promise of a reader of answered trees coincide.
use Prim.Native.Nat.{ℕ}
use native.Mathlib.Omega.{arith}
use mathlib.Core.Path.{◌≡◌, sym, ap, ◌∙◌}
use mathlib.Core.List.{List}
use Rattle.penne.specs.Scoper.{Asked, told, untold, get_container_depth, is_container, get_structure_name}
use Rattle.std.specs.Prelude.{Bool, Result, Ok, Err}
use Rattle.fields.specs.declared.refusal.Refusal.{Refusal}
use Rattle.fields.proofs.Refusals.{row_unique}
use Rattle.readers.specs.declared.Part.{Part}
use Rattle.readers.specs.Asking.{asked, depth_asked, container_asked}
use Rattle.readers.specs.Naming.{name_asked, part_told}

-- answers and refusals are told apart
module _ {A : Type 0} where
  value : {x y : A} → told x ≡ told y → x ≡ y
  value e = cc

  number : {n m p q : ℕ} → ◌≡◌ {A = Asked A} (untold n p) (untold m q) → n ≡ m
  number e = cc

  place : {n m p q : ℕ} → ◌≡◌ {A = Asked A} (untold n p) (untold m q) → p ≡ q
  place e = cc

  apart : {B : Type 0} {x : A} {n p : ℕ} → told x ≡ untold n p → B
  apart e = absurd (let z : ◌≡◌ {A = ℕ} 0 1 = cc in omega arith)

-- two answers that are told alike are the same, where their values are
same_asked : {T A : Type 0} (of : T → A) → ((x y : T) → of x ≡ of y → x ≡ y) → (r r₁ : Result T Refusal) → asked of r ≡ asked of r₁ → r ≡ r₁
same_asked of f (Ok x) (Ok y) h = ap Ok (f x y (value h))
same_asked of f (Ok x) (Err e) h = apart h
same_asked of f (Err e) (Ok y) h = apart (sym h)
same_asked of f (Err e) (Err e₁) h = let q = row_unique e.reason e₁.reason (number h) in ap Err (λ i. record { reason = q i; place = place h i })

same_part : (x y : Part) → ◌≡◌ {A = ℕ × ℕ} (x.start, x.length) (y.start, y.length) → x ≡ y
same_part x y h = λ i. record { start = (h i).0; length = (h i).1 }

pub depth_unique : (t : List ℕ) (k max : ℕ) {r r₁ : Result ℕ Refusal} → depth_asked r ≡ get_container_depth t k max → depth_asked r₁ ≡ get_container_depth t k max → r ≡ r₁
depth_unique t k max e f = same_asked _ (λ x y h. h) _ _ (e ∙ sym f)

pub container_unique : (t : List ℕ) (k : ℕ) {r r₁ : Result Bool Refusal} → container_asked r ≡ is_container t k → container_asked r₁ ≡ is_container t k → r ≡ r₁
container_unique t k e f = same_asked _ (λ x y h. h) _ _ (e ∙ sym f)

-- structure_name_at, and get_structure_name
pub named_unique : (t : List ℕ) (k : ℕ) {r r₁ : Result Part Refusal} → name_asked r ≡ get_structure_name t k → name_asked r₁ ≡ get_structure_name t k → r ≡ r₁
named_unique t k e f = same_asked _ same_part _ _ (e ∙ sym f)

pub name_unique : (t : List ℕ) (k : ℕ) {r r₁ : List ℕ} → r ≡ part_told t (get_structure_name t k) → r₁ ≡ part_told t (get_structure_name t k) → r ≡ r₁
name_unique t k e f = e ∙ sym f

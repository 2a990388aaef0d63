-- A function named `main` gains flag 4.
use mathlib.Core.Path.{◌≡◌, refl, sym, ap, ◌∙◌}
use mathlib.Core.Bool.{Bool, true, false}
use Prim.Native.Nat.{ℕ, ◌+◌, ◌/◌, ◌%◌}
use native.Mathlib.Omega.{arith}
use lib.Dec.{eqb}
use borrow.Author.Tests.{eq-eqb, ne_eqb, eqb-true, eqb-false}
use Rattle.std.specs.Int.Bits.{bit_or, or_add_and}
use Rattle.std.proofs.lemmas.Nat.Bits.{and_pow}
use Rattle.penne.specs.Variables.{with_main}
use Rattle.declaration_parts.specs.Heading.{MainFlag}

-- to gain a flag is to set its bit
gains : (flags : ℕ) → bit_or flags 4 ≡ with_main true flags
unfolding with_main
gains flags = go (eqb (flags / 4 % 2) 0) refl
  where
    go : (b : Bool) → eqb (flags / 4 % 2) 0 ≡ b → bit_or flags 4 ≡ elim b [ true ↦ flags + 4 | false ↦ flags ]
    go true e = omega (arith, eqb-true (flags / 4 % 2) 0 e, or_add_and flags 4, and_pow flags 2)
    go false e = omega (arith, eqb-false (flags / 4 % 2) 0 e, or_add_and flags 4, and_pow flags 2)

module _ {flags name main : ℕ} where
  pub main_other : (name ≡ main → ⊥) → MainFlag flags name main flags
  unfolding with_main
  main_other z = record { is = λ _. sym (ap (λ (b : Bool). with_main b flags) (ne_eqb name main z)) }

  pub main_here : name ≡ main → MainFlag flags name main (bit_or flags 4)
  main_here e = record { is = λ _. gains flags ∙ sym (ap (λ (b : Bool). with_main b flags) (eq-eqb name main e)) }

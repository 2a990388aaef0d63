-- The head of a name, and the search for it.
use mathlib.Core.Path.{◌≡◌, refl, sym, ap, ◌∙◌}
use mathlib.Core.Bool.{Bool, true, false}
use mathlib.Core.List.{List, [], ◌∷◌, ◌++◌}
use mathlib.Core.Option.{none, some}
use Prim.Native.Nat.{ℕ, zero, suc, ◌+◌, ◌≤◌}
use native.Mathlib.Numerals.{add-one}
use native.Mathlib.Omega.{arith}
use lib.Dec.{eqb}
use lib.ListN.{length}
use borrow.Author.Tests.{eqb-true, eq-eqb, ne_eqb}
use Rattle.penne.specs.Tree.{Ident}
use Rattle.penne.specs.Find.{first, first_named}
use Rattle.penne.proofs.Searching.{first_hit, first_miss}
use Rattle.scopes.specs.Table.{Nth, here, there, further, head_of}

module _ {P : Type 0} (n : ℕ) (i : Ident P) (is : List (Ident P)) where
  head_yes : eqb i.name n ≡ true → head_of n (i ∷ is) ≡ 1
  unfolding head_of
  head_yes e = rw (e, head_of)

  head_no : eqb i.name n ≡ false → head_of n (i ∷ is) ≡ further (head_of n is)
  unfolding head_of
  head_no e = rw (e, head_of)

  named_yes : eqb i.name n ≡ true → first_named n (i ∷ is) ≡ some i
  unfolding first_named
  named_yes e = first_hit (λ j. eqb j.name n) i is e

  named_no : eqb i.name n ≡ false → first_named n (i ∷ is) ≡ first_named n is
  unfolding first_named
  named_no e = first_miss (λ j. eqb j.name n) i is e

further_zero : (h : ℕ) → further h ≡ 0 → h ≡ 0
unfolding further
further_zero zero e = refl
further_zero (suc h) e = absurd (omega arith)

-- THE HEAD SAYS WHAT THE SEARCH FINDS

pub head_none : {P : Type 0} (n : ℕ) (ls : List (Ident P)) → head_of n ls ≡ 0 → first_named n ls ≡ none
unfolding first_named first
head_none n [] e = refl
head_none {P} n (i ∷ is) e = go (eqb i.name n) refl (λ z. head_none n is z)
  where
    go : (b : Bool) → eqb i.name n ≡ b → (head_of n is ≡ 0 → first_named n is ≡ none) → first_named n (i ∷ is) ≡ none
    go true z f = absurd (omega (arith, sym (head_yes n i is z) ∙ e))
    go false z f = named_no n i is z ∙ f (further_zero (head_of n is) (sym (head_no n i is z) ∙ e))

-- the head of a list with one more: m stands for the list's length
pub behind : (h : ℕ) → Bool → (m : ℕ) → ℕ
behind zero true m = suc m
behind zero false m = zero
behind (suc h) b m = suc h

further_some : (h k : ℕ) → further h ≡ suc k → (m : ℕ) × (h ≡ suc m) × (k ≡ suc m)
unfolding further
further_some zero k e = absurd (omega arith)
further_some (suc h) k e = (h, refl, omega arith)

-- what a search found at index k
abbrev Here : {P : Type 0} → ℕ → List (Ident P) → ℕ → Type 0
Here {P} n ls k = (i : Ident P) × Nth k i ls × (first_named n ls ≡ some i)

pub head_some : {P : Type 0} (n : ℕ) (ls : List (Ident P)) (k : ℕ) → head_of n ls ≡ suc k → Here n ls k
unfolding head_of
head_some n [] k e = absurd (omega arith)
head_some {P} n (i ∷ is) k e = go (eqb i.name n) refl (λ m z. head_some n is m z)
  where
    next : (m : ℕ) → k ≡ suc m → eqb i.name n ≡ false → Here n is m → Here n (i ∷ is) k
    next m q z (j, at, is_it) = (j, rw q (there at), named_no n i is z ∙ is_it)

    go : (b : Bool) → eqb i.name n ≡ b → ((m : ℕ) → head_of n is ≡ suc m → Here n is m) → Here n (i ∷ is) k
    go true z f = let q : k ≡ 0 = omega (arith, sym (head_yes n i is z) ∙ e) in (i, rw q here, named_yes n i is z)
    go false z f = let (m, h, q) = further_some (head_of n is) k (sym (head_no n i is z) ∙ e) in next m q z (f m h)

behind-further : (h : ℕ) (b : Bool) (m : ℕ) → behind (further h) b (suc m) ≡ further (behind h b m)
unfolding further behind
behind-further zero true m = refl
behind-further zero false m = refl
behind-further (suc h) b m = refl

pub head_snoc : {P : Type 0} (n : ℕ) (ls : List (Ident P)) (j : Ident P) → head_of n (ls ++ (j ∷ [])) ≡ behind (head_of n ls) (eqb j.name n) (length ls)
unfolding head_of behind further
head_snoc n [] j = go (eqb j.name n) refl
  where
    go : (b : Bool) → eqb j.name n ≡ b → head_of n (j ∷ []) ≡ behind 0 (eqb j.name n) 0
    go true z = rw (z, head_of)
    go false z = rw (z, head_of, further)
head_snoc {P} n (i ∷ is) j = go (eqb i.name n) refl (head_snoc n is j)
  where
    go : (b : Bool) → eqb i.name n ≡ b → head_of n (is ++ (j ∷ [])) ≡ behind (head_of n is) (eqb j.name n) (length is)
        → head_of n (i ∷ (is ++ (j ∷ []))) ≡ behind (head_of n (i ∷ is)) (eqb j.name n) (suc (length is))
    go true z f = head_yes n i (is ++ (j ∷ [])) z ∙ sym (ap (λ (h : ℕ). behind h (eqb j.name n) (suc (length is))) (head_yes n i is z))
    go false z f =
        head_no n i (is ++ (j ∷ [])) z ∙ ap further f ∙ sym (behind-further (head_of n is) (eqb j.name n) (length is))
        ∙ sym (ap (λ (h : ℕ). behind h (eqb j.name n) (suc (length is))) (head_no n i is z))

further_low : (h m : ℕ) → h ≤ m → further h ≤ suc m
unfolding further
further_low zero m l = omega arith
further_low (suc h) m l = omega arith

pub head_low : {P : Type 0} (n : ℕ) (ls : List (Ident P)) → head_of n ls ≤ length ls
unfolding head_of
head_low n [] = omega arith
head_low n (i ∷ is) = go (eqb i.name n) refl (head_low n is)
  where
    go : (b : Bool) → eqb i.name n ≡ b → head_of n is ≤ length is → head_of n (i ∷ is) ≤ suc (length is)
    go true z f = omega (arith, head_yes n i is z)
    go false z f = omega (arith, head_no n i is z, further_low (head_of n is) (length is) f)

-- a name that none has
pub none_named : {P : Type 0} (n : ℕ) (ls : List (Ident P)) → ((k : ℕ) (i : Ident P) → Nth k i ls → i.name ≡ n → ⊥) → first_named n ls ≡ none
unfolding first_named first
none_named n [] f = refl
none_named {P} n (i ∷ is) f = go (eqb i.name n) refl (none_named n is (λ k j at. f (suc k) j (there at)))
  where
    go : (b : Bool) → eqb i.name n ≡ b → first_named n is ≡ none → first_named n (i ∷ is) ≡ none
    go true z h = absurd (f 0 i here (eqb-true i.name n z))
    go false z h = named_no n i is z ∙ h

-- a head by what it was
pub behind_yes : {P : Type 0} (n : ℕ) (ls : List (Ident P)) (j : Ident P) → head_of n ls ≡ 0 → j.name ≡ n → head_of n (ls ++ (j ∷ [])) ≡ length ls + 1
unfolding behind
behind_yes n ls j e q = head_snoc n ls j ∙ rw (e, eq-eqb j.name n q, add-one (length ls))

pub behind_no : {P : Type 0} (n : ℕ) (ls : List (Ident P)) (j : Ident P) → (j.name ≡ n → ⊥) → head_of n (ls ++ (j ∷ [])) ≡ head_of n ls
unfolding behind
behind_no n ls j q = head_snoc n ls j ∙ ap (λ (b : Bool). behind (head_of n ls) b (length ls)) (ne_eqb j.name n q) ∙ go (head_of n ls)
  where
    go : (h : ℕ) → behind h false (length ls) ≡ h
    go zero = refl
    go (suc h) = refl

pub behind_there : {P : Type 0} (n : ℕ) (ls : List (Ident P)) (j : Ident P) → (head_of n ls ≡ 0 → ⊥) → head_of n (ls ++ (j ∷ [])) ≡ head_of n ls
unfolding behind
behind_there n ls j q = head_snoc n ls j ∙ go (head_of n ls) q
  where
    go : (h : ℕ) → (h ≡ 0 → ⊥) → behind h (eqb j.name n) (length ls) ≡ h
    go zero q = absurd (q refl)
    go (suc h) q = refl

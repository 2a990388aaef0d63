-- What row 8 counts.
use Rattle.std.proofs.Common.{ℕ, zero, suc, ◌≡◌, refl, sym, ap, ◌∙◌, Bool, true, false, List, get_or, if◌then◌else◌, Option, Some, None}
use Rattle.penne.specs.Reader.{Counts, Cur, Got, got, refused, Reader, plus, fits, counted, counting, such, a_statement, nothing}
use Rattle.penne.specs.Read.{stmt_counts, stmt_kinds, k_bad_stmt, decl_counts, decl_kinds, k_bad_decl}
use Rattle.fields.specs.declared.counts.Counts as C
use Rattle.fields.specs.Answers.{counts_of, together, Counting}
use Rattle.fields.proofs.Chain.{after, then_is}

-- the first number of something that counts: what is made of what was read
abbrev pub counts_in : {A : Type 0} → (A → Counts) → (at : ℕ) → Got A → Got A
counts_in f at (got a d) = if fits (plus d.counts (f a)) then got a (counted d (f a)) else refused 8 at
counts_in f at (refused i p) = refused i p

counts_go : {A : Type 0} (f : A → Counts) (s : List ℕ) (at : ℕ) (q : Got A) → after (λ a s c. got a (counted c (f a))) s (elim q as (λ _. Got A) [ got a d ↦ elim (fits (plus d.counts (f a))) as (λ _. Got A) [ true ↦ got a d | false ↦ refused 8 at ] | refused i p ↦ refused i p ]) ≡ counts_in f at q
counts_go {A = A} f s at (got a d) = (elim (fits (plus d.counts (f a))) as (λ b. after (λ a s c. got a (counted c (f a))) s (elim b as (λ _. Got A) [ true ↦ got a d | false ↦ refused 8 at ]) ≡ (if b then got a (counted d (f a)) else refused 8 at)) [ true ↦ refl | false ↦ refl ])
counts_go f s at (refused i p) = refl

pub counting_is : {A : Type 0} (f : A → Counts) (m : Reader A) (s : List ℕ) (c : Cur) → counting f m s c ≡ counts_in f c.at (m s c)
unfolding counting such
counting_is f m s c = then_is _ _ s c ∙ counts_go f s c.at (m s c)

module _ {A : Type 0} (f : A → Counts) (m : Reader A) (s : List ℕ) (c : Cur) where
  pub counting_no : {i p : ℕ} → m s c ≡ refused i p → counting f m s c ≡ refused i p
  counting_no e = counting_is f m s c ∙ ap (counts_in f c.at) e

  pub counting_fits : {a : A} {next : Cur} → m s c ≡ got a next → fits (plus next.counts (f a)) ≡ true → counting f m s c ≡ got a (counted next (f a))
  counting_fits e h = counting_is f m s c ∙ ap (counts_in f c.at) e ∙ rw h refl

  pub counting_full : {a : A} {next : Cur} → m s c ≡ got a next → fits (plus next.counts (f a)) ≡ false → counting f m s c ≡ refused 8 c.at
  counting_full e h = counting_is f m s c ∙ ap (counts_in f c.at) e ∙ rw h refl

-- TOGETHER

module _ (a b : Counts) where
  together_go : (t : Bool) → fits (plus a b) ≡ t → together a b ≡ elim t as (λ _. Option Counts) [ true ↦ Some (plus a b) | false ↦ None ]
  unfolding together
  together_go t e = rw (e, together)

-- what the two answers say
pub fitted : {a b c : C.Counts} → Counting a b (Some c) → (fits (plus (counts_of a) (counts_of b)) ≡ true) × (counts_of c ≡ plus (counts_of a) (counts_of b))
fitted {a} {b} {c} g = go (fits (plus (counts_of a) (counts_of b))) refl
  where
    go : (t : Bool) → fits (plus (counts_of a) (counts_of b)) ≡ t → (t ≡ true) × (counts_of c ≡ plus (counts_of a) (counts_of b))
    go true e = let z = sym g.is ∙ together_go _ _ true e in (refl, cc)
    go false e = let z = sym g.is ∙ together_go _ _ false e in cc

pub unfitted : {a b : C.Counts} → Counting a b None → fits (plus (counts_of a) (counts_of b)) ≡ false
unfitted {a} {b} g = go (fits (plus (counts_of a) (counts_of b))) refl
  where
    go : (t : Bool) → fits (plus (counts_of a) (counts_of b)) ≡ t → t ≡ false
    go true e = let z = sym g.is ∙ together_go _ _ true e in cc
    go false e = refl

-- WHAT COUNTS AS WHAT

-- every statement but declarations and labels counts once
pub stmt_counts_rest : (k : ℕ) → (k ≡ 0 → ⊥) → (k ≡ 5 → ⊥) → stmt_counts (get_or stmt_kinds k k_bad_stmt) ≡ a_statement
unfolding stmt_counts stmt_kinds
stmt_counts_rest zero h₀ h₅ = absurd (h₀ refl)
stmt_counts_rest (suc zero) h₀ h₅ = refl
stmt_counts_rest (suc (suc zero)) h₀ h₅ = refl
stmt_counts_rest (suc (suc (suc zero))) h₀ h₅ = refl
stmt_counts_rest (suc (suc (suc (suc zero)))) h₀ h₅ = refl
stmt_counts_rest (suc (suc (suc (suc (suc zero))))) h₀ h₅ = absurd (h₅ refl)
stmt_counts_rest (suc (suc (suc (suc (suc (suc zero)))))) h₀ h₅ = refl
stmt_counts_rest (suc (suc (suc (suc (suc (suc (suc zero))))))) h₀ h₅ = refl
stmt_counts_rest (suc (suc (suc (suc (suc (suc (suc (suc zero)))))))) h₀ h₅ = refl
stmt_counts_rest (suc (suc (suc (suc (suc (suc (suc (suc (suc k))))))))) h₀ h₅ = refl

-- imports and poisons do not count
pub decl_counts_rest : (k : ℕ) → (k ≡ 0 → ⊥) → (k ≡ 1 → ⊥) → (k ≡ 2 → ⊥) → (k ≡ 3 → ⊥) → decl_counts (get_or decl_kinds k k_bad_decl) ≡ nothing
unfolding decl_counts decl_kinds
decl_counts_rest zero h₀ h₁ h₂ h₃ = absurd (h₀ refl)
decl_counts_rest (suc zero) h₀ h₁ h₂ h₃ = absurd (h₁ refl)
decl_counts_rest (suc (suc zero)) h₀ h₁ h₂ h₃ = absurd (h₂ refl)
decl_counts_rest (suc (suc (suc zero))) h₀ h₁ h₂ h₃ = absurd (h₃ refl)
decl_counts_rest (suc (suc (suc (suc zero)))) h₀ h₁ h₂ h₃ = refl
decl_counts_rest (suc (suc (suc (suc (suc zero))))) h₀ h₁ h₂ h₃ = refl
decl_counts_rest (suc (suc (suc (suc (suc (suc k)))))) h₀ h₁ h₂ h₃ = refl

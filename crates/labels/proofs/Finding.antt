-- The search for a label, and the leaves of the visit.
use mathlib.Core.Path.{◌≡◌, refl, sym, ap, ◌∙◌}
use mathlib.Core.Bool.{Bool, true, false}
use mathlib.Core.List.{List}
use Prim.Native.Nat.{ℕ, suc, ◌+◌, ◌-◌, ◌<◌, ◌≤◌}
use native.Mathlib.Omega.{arith}
use lib.Dec.{eqb}
use lib.ListN.{length, get_or, set}
use borrow.Author.Tests.{eq-eqb, ne_eqb, eqb-true, eqb-false}
use Rattle.std.specs.Prelude as Rust
use Rattle.penne.specs.Tree.{Spot, Ident}
use Rattle.penne.specs.Find.{first, first_named}
use Rattle.penne.proofs.Searching.{first_hit, first_miss}
use Rattle.labels.specs.declared.Labels as L
use Rattle.labels.specs.Table.{Stacked}
use Rattle.scopes.specs.Labels.{Along, stop, step}
use Rattle.labels.specs.Visit.{found_id, Finds, InScope, NameOf, Bears, Sets, Declares}
use Rattle.labels.proofs.Along.{along_le}

none_go : {w : List ℕ} {next i count : ℕ} {js : List (Ident Spot)} (name : ℕ) → Along (Stacked w next) i js count → count ≤ i → Rust.None ≡ found_id (first_named name js)
unfolding first_named first found_id
none_go name stop h = refl
none_go name (step p r) h = absurd (omega (arith, along_le r))

-- the label in hand is the one searched for, or not
head_go : {w : List ℕ} {next i id n : ℕ} {j : Ident Spot} → Stacked w next i j → next ≤ 1025 → i < 1024 → InScope w i id → NameOf w id n → (id ≡ j.id) × (n ≡ j.name)
head_go {w} {id = id} {j = j} p x y s m =
    let same : id ≡ j.id = s.is y ∙ p.id in
    (same, m.is (omega (arith, p.low)) (omega (arith, p.high)) ∙ ap (λ (z : ℕ). get_or w (2047 + z) 0) same ∙ p.name)

hit_go : {w : List ℕ} {next i count id n name : ℕ} {js : List (Ident Spot)} → Along (Stacked w next) i js count → i < count → next ≤ 1025 → count ≤ 1024 → InScope w i id → NameOf w id n → n ≡ name → Rust.Some id ≡ found_id (first_named name js)
unfolding first_named found_id
hit_go stop h x y s m e = absurd (omega arith)
hit_go {name = name} (step {x = j} {xs = js} p r) h x y s m e =
    let (same, named) = head_go p x (omega arith) s m in
    ap (λ (z : ℕ). Rust.Some z) same ∙ sym (ap found_id (first_hit (λ (i : Ident Spot). eqb i.name name) j js (eq-eqb j.name name (sym named ∙ e))))

miss_go : {w : List ℕ} {next i count id n name : ℕ} {r : Rust.Option ℕ} {js : List (Ident Spot)} → 13312 ≤ length w → Along (Stacked w next) i js count → i < count → next ≤ 1025 → count ≤ 1024 → InScope w i id → NameOf w id n → (n ≡ name → ⊥) → Finds w (i + 1) count name r → r ≡ found_id (first_named name js)
unfolding first_named
miss_go v stop h x y s m e f = absurd (omega arith)
miss_go {name = name} v (step {x = j} {xs = js} p r) h x y s m e f =
    let (same, named) = head_go p x (omega arith) s m in
    f.is v r x y ∙ sym (ap found_id (first_miss (λ (i : Ident Spot). eqb i.name name) j js (ne_eqb j.name name (λ z. e (named ∙ z)))))

module _ {w : List ℕ} {i count name : ℕ} where
  pub finds_out : {r : Rust.Option ℕ} → (13312 ≤ length w → count ≤ 1024 → ⊥) → Finds w i count name r
  finds_out h = record { is = λ v a x y. absurd (h v y) }

  pub finds_none : count ≤ i → Finds w i count name Rust.None
  finds_none h = record { is = λ v a x y. none_go name a h }

  module _ {id n : ℕ} (h : i < count) (s : InScope w i id) (m : NameOf w id n) where
    pub finds_hit : n ≡ name → Finds w i count name (Rust.Some id)
    finds_hit e = record { is = λ v a x y. hit_go a h x y s m e }

    pub finds_miss : {r : Rust.Option ℕ} → (n ≡ name → ⊥) → Finds w (i + 1) count name r → Finds w i count name r
    finds_miss e f = record { is = λ v a x y. miss_go v a h x y s m e f }

-- whatever is found from here on is what is found
pub record Finding (w : List ℕ) (i count name : ℕ) : Type 0 where
  pub on : (r : Rust.Option ℕ) → Finds w i count name r → Finds w 0 count name r

pub finding_start : {w : List ℕ} {count name : ℕ} → Finding w 0 count name
finding_start = record { on = λ r f. f }

module _ {w : List ℕ} {i count name : ℕ} (g : Finding w i count name) where
  pub finding_hit : {t : Bool} → i < count → Bears w (get_or w (12288 + i) 0) name t → t ≡ true → Finds w 0 count name (Rust.Some (get_or w (12288 + i) 0))
  finding_hit h m e = g.on _ (finds_hit h (record { is = λ _. refl }) m.named (eqb-true m.own name (sym m.is ∙ e)))

  pub finding_more : {t : Bool} → i < count → Bears w (get_or w (12288 + i) 0) name t → t ≡ false → Finding w (i + 1) count name
  finding_more h m e = record { on = λ r f. g.on r (finds_miss {id = get_or w (12288 + i) 0} h (record { is = λ _. refl }) m.named (eqb-false m.own name (sym m.is ∙ e)) f) }

  pub finding_none : count ≤ i → Finds w 0 count name Rust.None
  finding_none h = g.on Rust.None (finds_none h)

-- THE LEAVES

pub bears_none : {w : List ℕ} {id : ℕ} (name : ℕ) → 1024 < id → Bears w id name false
bears_none name h = record { own = suc name; named = record { is = λ h₁ h₂. absurd (omega arith) }; is = sym (ne_eqb (suc name) name (λ z. omega arith)) }

pub bears_own : {w : List ℕ} {id name : ℕ} → Bears w id name (eqb (get_or w (2047 + id) 0) name)
bears_own {w} {id} = record { own = get_or w (2047 + id) 0; named = record { is = λ h₁ h₂. refl }; is = refl }

pub sets_past : {k o : ℕ} {w : List ℕ} → 2048 ≤ k → Sets k o w w
sets_past h = record { is = λ j. absurd (omega arith) }

pub sets_in : {k o : ℕ} {w w' : List ℕ} → w' ≡ set w (0 + k) o → Sets k o w w'
sets_in {k} {o} {w} e = record { is = λ j. e ∙ ap (λ (i : ℕ). set w i o) (omega arith) }

module _ {name place : ℕ} {a : L.Labels} {w : List ℕ} where
  pub declares_not : (a.count < 1024 → 0 < a.next → a.next ≤ 1024 → ⊥) → Declares name place a w a w
  declares_not h = record { count = λ x y z. absurd (h x y z); words = λ x y z. absurd (h x y z) }

  pub declares_in : {w₁ w₂ w₃ : List ℕ} → w₁ ≡ set w (2048 + (a.next - 1)) name → w₂ ≡ set w₁ (3072 + (a.next - 1)) place → w₃ ≡ set w₂ (12288 + a.count) a.next
      → Declares name place a w (record { count = a.count + 1; next = a.next + 1 }) w₃
  declares_in {w₁} {w₂} {w₃} e₁ e₂ e₃ = record { count = λ x y z. refl; words = λ x y z. go (omega arith) (omega arith) }
    where
      go : 2048 + (a.next - 1) ≡ 2047 + a.next → 3072 + (a.next - 1) ≡ 3071 + a.next → w₃ ≡ set (set (set w (2047 + a.next) name) (3071 + a.next) place) (12288 + a.count) a.next
      go p q = e₃ ∙ ap (λ (v : List ℕ). set v (12288 + a.count) a.next) (e₂ ∙ ap (λ (v : List ℕ). set v (3072 + (a.next - 1)) place) e₁ ∙ ap (λ (i : ℕ). set (set w (2048 + (a.next - 1)) name) i place) q ∙ ap (λ (i : ℕ). set (set w i name) (3071 + a.next) place) p)

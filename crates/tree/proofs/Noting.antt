-- Rows that tell where declarations end: what is written to one changes no other.
use mathlib.Core.Path.{◌≡◌, refl, sym, ap, subst, ◌∙◌}
use mathlib.Core.Bool.{Bool, true, false}
use mathlib.Core.List.{List}
use Prim.Native.Nat.{ℕ, ◌+◌, ◌*◌, ◌%◌, ◌≤◌, ◌<◌}
use native.Mathlib.Omega.{arith}
use native.Mathlib.Decide.{ℕ_discrete}
use lib.Dec.{ltb}
use lib.ListN.{length, get_or, set, replicate, length-set, length-replicate, get_or-replicate}
use lib.Seq.{get_or-set_same, get_or-set_other}
use borrow.Author.Tests.{ltb-true, ltb-false}
use Rattle.penne.specs.Read.{read_decl}
use Rattle.fields.specs.declared.counts.Counts as C
use Rattle.std.specs.Prelude.{Ok}
use Rattle.fields.specs.Answers.{Passes}
use Rattle.tree.specs.Ends.{counts_in, Row, row_at, Sound, Known, Tells, Writes, Notes}
use Rattle.std.proofs.lemmas.List.{get_or_past}

-- ONE WORD

record Stored (m : List ℕ) (i v : ℕ) (m' : List ℕ) : Type 0 where
  long : length m' ≡ length m
  same : (j : ℕ) → (j ≡ i → ⊥) → get_or m' j 0 ≡ get_or m j 0
  is : i < length m → get_or m' i 0 ≡ v

stored : (m : List ℕ) (i v : ℕ) {m' : List ℕ} → m' ≡ set m i v → Stored m i v m'
stored m i v {m'} e = record {
  long = ap length e ∙ length-set m i v;
  same = λ j z. ap (λ (w : List ℕ). get_or w j 0) e ∙ get_or-set_other m i j v 0 z;
  is = λ l. ap (λ (w : List ℕ). get_or w i 0) e ∙ get_or-set_same m i v 0 l;
}

-- COUNTS

pub counts_path : {a b : C.Counts} → a.containers ≡ b.containers → a.functions ≡ b.functions → a.entries ≡ b.entries → a.statements ≡ b.statements → a ≡ b
counts_path e₁ e₂ e₃ e₄ = λ t. record { containers = e₁ t; functions = e₂ t; entries = e₃ t; statements = e₄ t }

module _ (m : List ℕ) {m₁ m₂ m₃ m₄ : List ℕ} (i : ℕ) (k : C.Counts) (e₁ : m₁ ≡ set m i k.containers) (e₂ : m₂ ≡ set m₁ (i + 1) k.functions) (e₃ : m₃ ≡ set m₂ (i + 2) k.entries) (e₄ : m₄ ≡ set m₃ (i + 3) k.statements) where
  pub counts_written : Writes m i k m₄
  counts_written =
      let a : Stored m i k.containers m₁ = stored m i _ e₁ in
      let b : Stored m₁ (i + 1) k.functions m₂ = stored m₁ (i + 1) _ e₂ in
      let c : Stored m₂ (i + 2) k.entries m₃ = stored m₂ (i + 2) _ e₃ in
      let d : Stored m₃ (i + 3) k.statements m₄ = stored m₃ (i + 3) _ e₄ in
      record {
        long = d.long ∙ c.long ∙ b.long ∙ a.long;
        low = λ j l. d.same j (λ z. omega arith) ∙ c.same j (λ z. omega arith) ∙ b.same j (λ z. omega arith) ∙ a.same j (λ z. omega arith);
        high = λ j l. d.same j (λ z. omega arith) ∙ c.same j (λ z. omega arith) ∙ b.same j (λ z. omega arith) ∙ a.same j (λ z. omega arith);
        is = λ l. counts_path
            (d.same i (λ z. omega arith) ∙ c.same i (λ z. omega arith) ∙ b.same i (λ z. omega arith) ∙ a.is (omega arith))
            (d.same (i + 1) (λ z. omega arith) ∙ c.same (i + 1) (λ z. omega arith) ∙ b.is (omega (arith, a.long)))
            (d.same (i + 2) (λ z. omega arith) ∙ c.is (omega (arith, a.long, b.long)))
            (d.is (omega (arith, a.long, b.long, c.long)));
      }

-- ROWS

rows_same : (m m' : List ℕ) (i : ℕ) → ((j : ℕ) → i ≤ j → j < i + 10 → get_or m' j 0 ≡ get_or m j 0) → row_at m' i ≡ row_at m i
rows_same m m' i h =
    let w : (j : ℕ) → i ≤ j → j + 3 < i + 10 → counts_in m' j ≡ counts_in m j = λ j l₁ l₂. counts_path (h j l₁ (omega arith)) (h (j + 1) (omega arith) (omega arith)) (h (j + 2) (omega arith) (omega arith)) (h (j + 3) (omega arith) (omega arith)) in
    λ t. record { at = h i (omega arith) (omega arith) t; before = w (i + 1) (omega arith) (omega arith) t; behind = w (i + 5) (omega arith) (omega arith) t; next = h (i + 9) (omega arith) (omega arith) t }

-- a row that tells nothing is sound
sound_none : {s : List ℕ} {names : ℕ} {r : Row} → r.next ≡ 0 → Sound s names r
sound_none e = record { is = λ z. absurd (z e) }

module _ {s : List ℕ} {names : ℕ} where
  pub known_none : (n : ℕ) → Known s names (replicate n 0)
  known_none n = record { row = λ k. sound_none (all_zero (k * 10 + 9)) }
    where
      all_zero : (j : ℕ) → get_or {A = ℕ} (replicate n 0) j 0 ≡ 0
      all_zero j = (elim (ltb j n) as (λ b. ltb j n ≡ b → get_or {A = ℕ} (replicate n 0) j 0 ≡ 0) [
        | true ↦ λ e. get_or-replicate {A = ℕ} n j 0 0 (ltb-true j n e)
        | false ↦ λ e. get_or_past (replicate n 0) j 0 (omega (arith, ltb-false j n e, length-replicate {A = ℕ} n 0))
      ]) refl

module _ (m : List ℕ) {m₁ m₂ m₃ m₄ : List ℕ} (row at next : ℕ) (k more : C.Counts) (e₁ : m₁ ≡ set m (row % 384 * 10) at) (w₁ : Writes m₁ (row % 384 * 10 + 1) k m₂) (w₂ : Writes m₂ (row % 384 * 10 + 5) more m₃) (e₂ : m₄ ≡ set m₃ (row % 384 * 10 + 9) next) where
  abbrev first : ℕ
  first = row % 384 * 10

  a : Stored m first at m₁
  a = stored m first at e₁

  d : Stored m₃ (first + 9) next m₄
  d = stored m₃ (first + 9) next e₂

  long : length m₄ ≡ length m
  long = d.long ∙ w₂.long ∙ w₁.long ∙ a.long

  low : (j : ℕ) → j < first → get_or m₄ j 0 ≡ get_or m j 0
  low j l = d.same j (λ z. omega arith) ∙ w₂.low j (omega arith) ∙ w₁.low j (omega arith) ∙ a.same j (λ z. omega arith)

  high : (j : ℕ) → first + 10 ≤ j → get_or m₄ j 0 ≡ get_or m j 0
  high j l = d.same j (λ z. omega arith) ∙ w₂.high j (omega arith) ∙ w₁.high j (omega arith) ∙ a.same j (λ z. omega arith)

  -- the row itself, where it is within what was lent
  own : first + 9 < length m → row_at m₄ first ≡ record { at = at; before = k; behind = more; next = next }
  own l =
      let up : counts_in m₄ (first + 1) ≡ counts_in m₂ (first + 1) = counts_path (upper (first + 1) (omega arith)) (upper (first + 1 + 1) (omega arith)) (upper (first + 1 + 2) (omega arith)) (upper (first + 1 + 3) (omega arith)) in
      let on : counts_in m₄ (first + 5) ≡ counts_in m₃ (first + 5) = counts_path (over (first + 5) (omega arith)) (over (first + 5 + 1) (omega arith)) (over (first + 5 + 2) (omega arith)) (over (first + 5 + 3) (omega arith)) in
      let e : get_or m₄ first 0 ≡ at = upper first (omega arith) ∙ w₁.low first (omega arith) ∙ a.is (omega arith) in
      let b : counts_in m₄ (first + 1) ≡ k = up ∙ w₁.is (omega (arith, a.long)) in
      let f : counts_in m₄ (first + 5) ≡ more = on ∙ w₂.is (omega (arith, a.long, w₁.long)) in
      let g : get_or m₄ (first + 9) 0 ≡ next = d.is (omega (arith, a.long, w₁.long, w₂.long)) in
      λ t. record { at = e t; before = b t; behind = f t; next = g t }
    where
      over : (j : ℕ) → j < first + 9 → get_or m₄ j 0 ≡ get_or m₃ j 0
      over j h = d.same j (λ z. omega arith)

      upper : (j : ℕ) → j < first + 5 → get_or m₄ j 0 ≡ get_or m₂ j 0
      upper j h = over j (omega arith) ∙ w₂.low j h

  module _ {s : List ℕ} {names : ℕ} (p : Passes read_decl s names k at (Ok (next, more))) (g : Known s names m) where
    own_sound : Sound s names (row_at m₄ first)
    own_sound = (elim (ltb (first + 9) (length m)) as (λ b. ltb (first + 9) (length m) ≡ b → Sound s names (row_at m₄ first)) [
      | true ↦ λ e. subst (λ (r : Row). Sound s names r) (sym (own (ltb-true _ _ e))) (record { is = λ _. p })
      | false ↦ λ e. sound_none (get_or_past m₄ (first + 9) 0 (omega (arith, long, ltb-false (first + 9) (length m) e)))
    ]) refl

    other_sound : (j : ℕ) → (j ≡ row % 384 → ⊥) → Sound s names (row_at m₄ (j * 10))
    other_sound j z = subst (λ (r : Row). Sound s names r) (sym (rows_same m m₄ (j * 10) still)) (g.row j)
      where
        still : (i : ℕ) → j * 10 ≤ i → i < j * 10 + 10 → get_or m₄ i 0 ≡ get_or m i 0
        still i l₁ l₂ = (elim (ltb j (row % 384)) as (λ b. ltb j (row % 384) ≡ b → get_or m₄ i 0 ≡ get_or m i 0) [
          | true ↦ λ e. low i (omega (arith, ltb-true j (row % 384) e))
          | false ↦ λ e. high i (omega (arith, z, ltb-false j (row % 384) e))
        ]) refl

    still_known : Known s names m₄
    still_known = record { row = λ j. go j (ℕ_discrete j (row % 384)) }
      where
        go : (j : ℕ) → Dec (j ≡ row % 384) → Sound s names (row_at m₄ (j * 10))
        go j (yes e) = subst (λ (i : ℕ). Sound s names (row_at m₄ (i * 10))) (sym e) own_sound
        go j (no z) = other_sound j z

  pub notes_written : Notes k at next more m m₄
  notes_written = record { keeps = still_known }

pub notes_not : {k : C.Counts} {at next : ℕ} {more : C.Counts} {m : List ℕ} → Notes k at next more m m
notes_not = record { keeps = λ p g. g }

-- BELIEVED

pub past_told : {s m : List ℕ} {names at next : ℕ} {k c : C.Counts} {t : Bool} (row : ℕ) → Tells m (row % 384 * 10) k at t → t ≡ true → next ≡ get_or m (row % 384 * 10 + 9) 0 → c ≡ counts_in m (row % 384 * 10 + 5) → Known s names m → Passes read_decl s names k at (Ok (next, c))
past_told {s} {m} {names} {at} {next} {k} {c} row h e q y g =
    let p = (g.row (row % 384)).is (h.some e) in
    subst (λ (r : Row). Passes read_decl s names r.before r.at (Ok (r.next, r.behind))) (rows h e q y) p
  where
    rows : {t : Bool} → Tells m (row % 384 * 10) k at t → t ≡ true → next ≡ get_or m (row % 384 * 10 + 9) 0 → c ≡ counts_in m (row % 384 * 10 + 5) → row_at m (row % 384 * 10) ≡ record { at = at; before = k; behind = c; next = next }
    rows h e q y = λ t. record { at = h.begins e t; before = h.counts e t; behind = sym y t; next = sym q t }

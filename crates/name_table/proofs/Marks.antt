-- Names that were met before: a name that can not have been met is not among them.
use mathlib.Core.Path.{◌≡◌, refl, sym, ap, subst, ◌∙◌}
use mathlib.Core.Bool.{Bool, true, false, ◌||◌}
use mathlib.Core.List.{List, [], ◌∷◌, ◌++◌}
use Prim.Native.Nat.{ℕ, zero, suc, ◌+◌, ◌*◌, ◌%◌, ◌≤◌, ◌<◌}
use native.Mathlib.Omega.{arith}
use native.Mathlib.Decide.{ℕ_discrete}
use lib.Dec.{eqb}
use lib.ListN.{length, get_or, drop, set, length-set}
use lib.Seq.{drop-cons, get_or-set_same, get_or-set_other}
use borrow.Author.Tests.{eq-eqb, ne_eqb}
use Rattle.penne.specs.Read.{same_bytes, among_names}
use Rattle.penne.proofs.Booleans.{true_false, or_right, or_left}
use Rattle.std.specs.Prelude.{Ok}
use Rattle.name_table.specs.Names.{names_from, hash_from, hash_of, mark_of, met_by, Marks, Marked, Knows, Noted}
use Rattle.name_table.proofs.Names.{same_eq}

-- A NAME'S NUMBER

pub record Hashing (name : List ℕ) (h i : ℕ) : Type 0 where
  pub is : hash_of name ≡ hash_from h (drop i name)
  pub small : h < 8388608

pub hashing_start : {name : List ℕ} → Hashing name 0 0
hashing_start = record { is = refl; small = omega arith }

module _ {name : List ℕ} {h i : ℕ} (g : Hashing name h i) where
  pub hashing_more : {b : ℕ} → i < length name → b ≡ get_or name i 0 → Hashing name ((h * 367 + b) % 8388608) (i + 1)
  unfolding hash_from
  hashing_more {b} l e =
      let q : suc i ≡ i + 1 = omega arith in
      record { is = g.is ∙ ap (hash_from h) (drop-cons name i 0 l) ∙ ap (λ (x : ℕ). hash_from ((h * 367 + x) % 8388608) (drop (suc i) name)) (sym e) ∙ ap (λ (j : ℕ). hash_from ((h * 367 + b) % 8388608) (drop j name)) q; small = omega arith }

  pub hashing_done : length name ≤ i → h ≡ hash_of name
  unfolding hash_from
  hashing_done l = sym (g.is ∙ ap (hash_from h) (none_left name i l))
    where
      none_left : (xs : List ℕ) (j : ℕ) → length xs ≤ j → drop j xs ≡ []
      none_left [] zero l = refl
      none_left [] (suc j) l = refl
      none_left (x ∷ xs) zero l = absurd (omega arith)
      none_left (x ∷ xs) (suc j) l = none_left xs j (omega arith)

-- CELLS

module _ (cells : List ℕ) (h : ℕ) where
  abbrev cell : ℕ
  cell = get_or cells (h % 8192) 0

  pub met_several : cell ≡ 65535 → true ≡ met_by cells h
  unfolding met_by
  met_several e = sym (or_left (eqb cell 65535) (eqb cell (mark_of h)) (eq-eqb cell 65535 e))

  met_else : (cell ≡ 65535 → ⊥) → eqb cell (mark_of h) ≡ met_by cells h
  unfolding met_by
  met_else e = sym (ap (λ (t : Bool). t || eqb cell (mark_of h)) (ne_eqb cell 65535 e))

  pub met_held : {v : ℕ} → v ≡ cell → (v ≡ 65535 → ⊥) → eqb v (mark_of h) ≡ met_by cells h
  met_held e z = ap (λ (x : ℕ). eqb x (mark_of h)) e ∙ met_else (λ q. z (e ∙ q))

  met_mark : cell ≡ mark_of h → met_by cells h ≡ true
  unfolding met_by
  met_mark e = or_right (eqb cell 65535) (eqb cell (mark_of h)) (eq-eqb cell (mark_of h) e)

  met_free : cell ≡ 0 → met_by cells h ≡ false
  unfolding met_by
  met_free e = ap (λ (t : Bool). t || eqb cell (mark_of h)) (ne_eqb cell 65535 (λ z. omega arith)) ∙ ne_eqb cell (mark_of h) (λ z. omega arith)

-- another cell stays as it was
met_same : (cells after : List ℕ) (j : ℕ) → get_or after (j % 8192) 0 ≡ get_or cells (j % 8192) 0 → met_by cells j ≡ true → met_by after j ≡ true
unfolding met_by
met_same cells after j e h = ap (λ (x : ℕ). eqb x 65535 || eqb x (mark_of j)) e ∙ h

module _ (cells : List ℕ) (h : ℕ) where
  abbrev put : ℕ → List ℕ
  put v = set cells (h % 8192) v

  module _ (l : length cells ≡ 8192) where
    there : (v : ℕ) → get_or (put v) (h % 8192) 0 ≡ v
    there v = get_or-set_same cells (h % 8192) v 0 (omega (arith, l))

  -- where its own cell stays so, all others do
  keeps_all : (v : ℕ) → ((j : ℕ) → j % 8192 ≡ h % 8192 → met_by cells j ≡ true → met_by (put v) j ≡ true) → (j : ℕ) → met_by cells j ≡ true → met_by (put v) j ≡ true
  keeps_all v here j m = go (ℕ_discrete (j % 8192) (h % 8192))
    where
      go : Dec (j % 8192 ≡ h % 8192) → met_by (put v) j ≡ true
      go (yes e) = here j e m
      go (no e) = met_same cells (put v) j (get_or-set_other cells (h % 8192) (j % 8192) v 0 e) m

  pub marks_free : {v : ℕ} → get_or cells (h % 8192) 0 ≡ 0 → v ≡ mark_of h → Marks cells h (put v)
  marks_free {v} e z = record {
    long = length-set cells (h % 8192) v;
    has = λ l. met_mark (put v) h (there l v ∙ z);
    keeps = λ l. keeps_all v λ j q m. true_false (sym m ∙ met_free cells j (ap (λ (k : ℕ). get_or cells k 0) q ∙ e));
  }

  pub marks_several : Marks cells h (put 65535)
  marks_several = record {
    long = length-set cells (h % 8192) 65535;
    has = λ l. sym (met_several (put 65535) h (there l 65535));
    keeps = λ l. keeps_all 65535 λ j q m. sym (met_several (put 65535) j (ap (λ (k : ℕ). get_or (put 65535) k 0) q ∙ there l 65535));
  }

-- NAMES

among_case : {X : Type 0} (y x : List ℕ) (names : List (List ℕ)) → among_names y (names ++ (x ∷ [])) ≡ true → (among_names y names ≡ true → X) → (y ≡ x → X) → X
unfolding among_names
among_case {X} y x [] e f g = (elim (same_bytes y x) as (λ t. same_bytes y x ≡ t → (t || false) ≡ true → X) [
  | true ↦ λ z h. g (same_eq y x z)
  | false ↦ λ z h. true_false (sym h)
]) refl e
among_case {X} y x (n ∷ ns) e f g = (elim (same_bytes y n) as (λ t. same_bytes y n ≡ t → (t || among_names y (ns ++ (x ∷ []))) ≡ true → X) [
  | true ↦ λ z h. f (or_left (same_bytes y n) (among_names y ns) z)
  | false ↦ λ z h. among_case y x ns h (λ m. f (or_right (same_bytes y n) (among_names y ns) m)) g
]) refl e

pub marked_none : (cells : List ℕ) → length cells ≡ 8192 → Marked cells []
unfolding among_names
marked_none cells l = record { long = l; is = λ y e. true_false (sym e) }

module _ {cells : List ℕ} (name : List ℕ) {names : List (List ℕ)} (m : Marked cells names) where
  marked_beside : met_by cells (hash_of name) ≡ true → Marked cells (names ++ (name ∷ []))
  marked_beside h = record { long = m.long; is = λ y e. among_case y name names e (m.is y) (λ z. subst (λ (l : List ℕ). met_by cells (hash_of l) ≡ true) (sym z) h) }

  module _ {h : ℕ} (e : h ≡ hash_of name) {t : Bool} (z : t ≡ met_by cells h) where
    met_name : met_by cells (hash_of name) ≡ t
    met_name = sym (z ∙ ap (met_by cells) e)

    pub known_met : {r : Bool} → t ≡ true → r ≡ among_names name names → Knows names name r cells
    known_met q y = record { is = y; marked = marked_beside (met_name ∙ q) }

    pub known_new : {after : List ℕ} → t ≡ false → Marks cells h after → Knows names name false after
    known_new {after} q k = record {
      is = (elim (among_names name names) as (λ b. among_names name names ≡ b → false ≡ b) [ true ↦ λ w. true_false (sym (m.is name w) ∙ met_name ∙ q) | false ↦ λ w. refl ]) refl;
      marked = marked_after (record { long = k.long ∙ m.long; is = λ y w. k.keeps m.long (hash_of y) (m.is y w) });
    }
      where
        marked_after : Marked after names → Marked after (names ++ (name ∷ []))
        marked_after n = record { long = n.long; is = λ y w. among_case y name names w (n.is y) (λ x. subst (λ (l : List ℕ). met_by after (hash_of l) ≡ true) (sym x) (ap (met_by after) (sym e) ∙ k.has m.long)) }

pub noted_on : {count : ℕ} {s : List ℕ} {from : ℕ} {cells : List ℕ} {next : ℕ} → Noted count s from (Ok next) cells → Marked cells (names_from (count + 1) s from)
noted_on {count} g = let q : count + 1 ≡ suc count = omega arith in rw q g.marked

-- The visit: what each of its steps does, and how they go together.
use mathlib.Core.Path.{◌≡◌, refl, sym, ap, subst, ◌∙◌}
use mathlib.Core.Bool.{true, false}
use mathlib.Core.List.{List, [], ◌∷◌, ◌++◌, append_assoc, append-nil}
use lib.Dec.{eqb}
use mathlib.Core.Option.{Option, none, some}
use Prim.Native.Nat.{ℕ, suc, ◌+◌, ◌-◌, ◌<◌, ◌≤◌}
use native.Mathlib.Omega.{arith}
use lib.ListN.{length, get_or, set, length-set, length-append}
use lib.Seq.{get_or-set_same, get_or-set_other}
use Rattle.std.specs.Prelude as Rust
use Rattle.std.specs.Option.{unwrap_or}
use Rattle.penne.specs.Tree.{Spot, Ident, stmt, Stm}
use Rattle.penne.specs.Find.{first, first_named, resolved}
use Rattle.penne.specs.Read.{to_stms}
use Rattle.penne.specs.Labels.{Labels, labels, pop_scope, declared}
use Rattle.penne.proofs.Searching.{first_hit, first_miss}
use Rattle.labels.specs.declared.Labels as L
use Rattle.labels.specs.Outcomes.{goto_word, label_word, outcomes, labels_in}
use Rattle.labels.specs.Table.{Leaf, declares, assigns, calls, loops, bad, single, list, Rows, leaf_row, goto_row, label_row, if_row, else_row, block_row, no_rows, more_rows, turned, Stacked, Off}
use Rattle.scopes.specs.Labels.{Along, stop, step, Named}
use Rattle.labels.specs.Visit.{Held, Touches, Did, Visits, VisitsKind, VisitsList, outcomes_back, labels_back, after_back, Shows, found_id, Finds, Sets, LabelWord, Declares}
use Rattle.labels.proofs.Along.{along_append, along_length, along_le, along_map}
use Rattle.labels.proofs.Rowing.{rows_le, rows_high, rows_below, rows_last, SameRow, rows_same}

-- WHAT IS TOUCHED

pub touch_none : {k k' : ℕ} {a : L.Labels} {w : List ℕ} → Touches k k' a w w
touch_none = record { long = refl; same = λ i o₁ o₂ o₃ o₄. refl }

-- one part after another, both within the rows from k to k'
pub touch_then : {k k' k₁ k₁' k₂ k₂' : ℕ} {a b : L.Labels} {w w₁ w₂ : List ℕ} → Touches k₁ k₁' a w w₁ → Touches k₂ k₂' b w₁ w₂ → a.count ≤ b.count → a.next ≤ b.next
    → k ≤ k₁ → k₁' ≤ k' → k ≤ k₂ → k₂' ≤ k' → Touches k k' a w w₂
touch_then s t c n h₁ h₂ h₃ h₄ = record {
  long = t.long ∙ s.long;
  same = λ i o₁ o₂ o₃ o₄.
      t.same i (λ x y. o₁ (omega arith) (omega arith)) (λ x y. o₂ (omega arith) y) (λ x y. o₃ (omega arith) y) (λ x y. o₄ (omega arith) y) ∙
      s.same i (λ x y. o₁ (omega arith) (omega arith)) o₂ o₃ o₄;
}

module _ {k k' : ℕ} {a : L.Labels} {w w' : List ℕ} (t : Touches k k' a w w') (few : a.count < a.next) (high : k' ≤ 2048) where
  -- the rows of other statements
  pub touch_row : (i : ℕ) → Off k k' i → i < 2048 → SameRow w w' i
  touch_row i o h = record {
    kinds = t.same (6144 + i) (λ x y. omega arith) (λ x y. omega arith) (λ x y. omega arith) (λ x y. omega arith);
    before = t.same (8192 + i) (λ x y. omega arith) (λ x y. omega arith) (λ x y. omega arith) (λ x y. omega arith);
    insides = t.same (10240 + i) (λ x y. omega arith) (λ x y. omega arith) (λ x y. omega arith) (λ x y. omega arith);
    words = t.same i o (λ x y. omega arith) (λ x y. omega arith) (λ x y. omega arith);
  }

  -- the one before, of any statement
  pub touch_before : (i : ℕ) → i < 2048 → get_or w' (8192 + i) 0 ≡ get_or w (8192 + i) 0
  touch_before i h = t.same (8192 + i) (λ x y. omega arith) (λ x y. omega arith) (λ x y. omega arith) (λ x y. omega arith)

  -- a label that has its id already
  pub touch_named : (id : ℕ) (i : Ident Spot) → 0 < id → id < a.next → a.next ≤ 1025 → Named w id i → Named w' id i
  touch_named id i h₁ h₂ h₃ n = record {
    name = t.same (2047 + id) (λ x y. omega arith) (λ x y. omega arith) (λ x y. omega arith) (λ x y. omega arith) ∙ n.name;
    place = t.same (3071 + id) (λ x y. omega arith) (λ x y. omega arith) (λ x y. omega arith) (λ x y. omega arith) ∙ n.place;
  }

  -- a label in scope
  pub touch_stacked : {next next' n : ℕ} {i : Ident Spot} → n < a.count → next ≤ a.next → next ≤ next' → a.next ≤ 1025 → Stacked w next n i → Stacked w' next' n i
  touch_stacked {n = n} {i} h₁ h₂ h₃ h₄ s = record {
    id = t.same (12288 + n) (λ x y. omega arith) (λ x y. omega arith) (λ x y. omega arith) (λ x y. omega arith) ∙ s.id;
    name = t.same (2047 + i.id) (λ x y. omega (arith, s.low)) (λ x y. omega (arith, s.high)) (λ x y. omega (arith, s.high)) (λ x y. omega (arith, s.high)) ∙ s.name;
    low = s.low;
    high = omega (arith, s.high);
  }

-- ONE PART AFTER ANOTHER

-- the labels a, then b, then c; the first part's rows from m to k', the second's from k to m
module _ {k m k' : ℕ} {os₁ os₂ : List ℕ} {is₁ is₂ : List (Ident Spot)} {l₁ l₂ : Labels Spot} {a b c : L.Labels} {w w₁ w₂ : List ℕ} where
  pub did_lower : 0 < a.next → b.next ≤ 1025 → k' ≤ 2048 → Did m k' os₁ is₁ l₁ a w b w₁ → Did k m os₂ is₂ l₂ b w₁ c w₂ → Did k k' (os₂ ++ os₁) (is₁ ++ is₂) l₂ a w c w₂
  did_lower z h j d e =
      let p : m ≤ k' = along_le d.told in
      let q : k ≤ m = along_le e.told in
      let n : a.next ≤ b.next = along_le d.named in
      record {
        told = along_append e.told (along_map (λ x o y₁ y₂ u. record { is = (touch_row e.touches d.held.few (omega arith) x (λ v₁ v₂. omega arith) (omega arith)).words ∙ u.is }) d.told);
        named = along_append (along_map (λ id i x y. touch_named e.touches d.held.few (omega arith) id i (omega arith) y h) d.named) e.named;
        held = e.held;
        more = omega (arith, d.more, e.more);
        touches = touch_then d.touches e.touches d.more n q (omega arith) (omega arith) p;
      }

-- the first part's rows from k to m, the second's from m to k'
module _ {k m k' : ℕ} {os₁ os₂ : List ℕ} {is₁ is₂ : List (Ident Spot)} {l₁ l₂ : Labels Spot} {a b c : L.Labels} {w w₁ w₂ : List ℕ} where
  pub did_upper : 0 < a.next → b.next ≤ 1025 → k' ≤ 2048 → Did k m os₁ is₁ l₁ a w b w₁ → Did m k' os₂ is₂ l₂ b w₁ c w₂ → Did k k' (os₁ ++ os₂) (is₁ ++ is₂) l₂ a w c w₂
  did_upper z h j d e =
      let p : k ≤ m = along_le d.told in
      let q : m ≤ k' = along_le e.told in
      let n : a.next ≤ b.next = along_le d.named in
      record {
        told = along_append (along_map (λ x o y₁ y₂ u. record { is = (touch_row e.touches d.held.few j x (λ v₁ v₂. omega arith) (omega arith)).words ∙ u.is }) d.told) e.told;
        named = along_append (along_map (λ id i x y. touch_named e.touches d.held.few j id i (omega arith) y h) d.named) e.named;
        held = e.held;
        more = omega (arith, d.more, e.more);
        touches = touch_then d.touches e.touches d.more n (omega arith) q p (omega arith);
      }

-- a statement that has the word 0, and what is inside it
pub did_head : {k k' : ℕ} {os : List ℕ} {is : List (Ident Spot)} {l₀ l : Labels Spot} {a b : L.Labels} {w w' : List ℕ} → Held w a l₀ → get_or w k 0 ≡ 0 → k < 2048 → k' ≤ 2048 → Did (k + 1) k' os is l a w b w' → Did k k' (0 ∷ os) is l a w b w'
did_head {k} g e h j d = record {
  told = step (record { is = (touch_row d.touches g.few j k (λ x y. omega arith) h).words ∙ e }) d.told;
  named = d.named;
  held = d.held;
  more = d.more;
  touches = record { long = d.touches.long; same = λ i o₁ o₂ o₃ o₄. d.touches.same i (λ x y. o₁ (omega arith) y) o₂ o₃ o₄ };
}

-- the labels in scope before stay, where nothing of theirs is touched
held_touch : {k k' : ℕ} {l : Labels Spot} {a : L.Labels} {w w' : List ℕ} (next id : ℕ) → Held w a l → Touches k k' a w w' → k' ≤ 2048 → a.next ≤ next → next ≤ 1025 → next ≡ id → Held w' (record { count = a.count; next = next }) (record { label_stack = l.label_stack; resolution_id = id })
held_touch {a = a} next id g t j n h e = record {
  stack = along_map (λ x i y₁ y₂ s. touch_stacked t g.few j y₂ (omega arith) n (omega arith) s) g.stack;
  next = e;
  few = omega (arith, g.few);
  words = omega (arith, g.words, t.long);
}

-- the labels of a block go with it
pub did_block : {k k' : ℕ} {os : List ℕ} {is : List (Ident Spot)} {l l₁ : Labels Spot} {a b : L.Labels} {w w' : List ℕ} → Held w a l → b.next ≤ 1025 → k' ≤ 2048 → Did k k' os is l₁ a w b w'
    → Did k k' os is (pop_scope l l₁) a w (record { count = a.count; next = b.next }) w'
unfolding pop_scope
did_block g h j d = record {
  told = d.told;
  named = d.named;
  more = omega arith;
  touches = d.touches;
  held = held_touch _ _ g d.touches j (along_le d.named) h d.held.next;
}

pub did_none : {k : ℕ} {l : Labels Spot} {a : L.Labels} {w : List ℕ} → Held w a l → Did k k [] [] l a w a w
did_none g = record { told = stop; named = stop; held = g; more = omega arith; touches = touch_none }

pub did_same : {k k' : ℕ} {os os' : List ℕ} {is is' : List (Ident Spot)} {l l' : Labels Spot} {a b : L.Labels} {w w' : List ℕ} → os ≡ os' → is ≡ is' → l ≡ l' → Did k k' os is l a w b w' → Did k k' os' is' l' a w b w'
did_same {k} {k'} {os} {os'} {is} {is'} {l} {l'} {a} {b} {w} {w'} e₁ e₂ e₃ d =
    subst (λ (x : List ℕ). Did k k' x is' l' a w b w') e₁ (subst (λ (x : List (Ident Spot)). Did k k' os x l' a w b w') e₂ (subst (λ (x : Labels Spot). Did k k' os is x a w b w') e₃ d))

-- LEAVES

rows_left : {w : List ℕ} {l k k' : ℕ} {t : Stm Spot stmt} → Rows w l k (single t) k' → 0 < l
rows_left (leaf_row x r) = omega arith
rows_left (goto_row r) = omega arith
rows_left (label_row r) = omega arith
rows_left (if_row r a) = omega arith
rows_left (else_row r a b) = omega arith
rows_left (block_row ts r a) = omega arith

pub visits_zero : {left k : ℕ} {a : L.Labels} {w : List ℕ} → left ≡ 0 → Visits left k a w a w
visits_zero z = record { does = λ rows g h. absurd (omega (arith, rows_left rows)) }

did_leaf : {t : Stm Spot stmt} {k : ℕ} {l : Labels Spot} {a : L.Labels} {w : List ℕ} → Leaf t → get_or w k 0 ≡ 0 → Held w a l → Did k (k + 1) (outcomes t l) (labels_in t) (labels t l).1 a w a w
unfolding outcomes labels_in labels
did_leaf declares e g = record { told = step (record { is = e }) stop; named = stop; held = g; more = omega arith; touches = touch_none }
did_leaf assigns e g = record { told = step (record { is = e }) stop; named = stop; held = g; more = omega arith; touches = touch_none }
did_leaf calls e g = record { told = step (record { is = e }) stop; named = stop; held = g; more = omega arith; touches = touch_none }
did_leaf loops e g = record { told = step (record { is = e }) stop; named = stop; held = g; more = omega arith; touches = touch_none }
did_leaf bad e g = record { told = step (record { is = e }) stop; named = stop; held = g; more = omega arith; touches = touch_none }

module _ {kind : ℕ} (z₄ : kind ≡ 4 → ⊥) (z₅ : kind ≡ 5 → ⊥) (z₆ : kind ≡ 6 → ⊥) (z₇ : kind ≡ 7 → ⊥) where
  leaf_go : {left k k' : ℕ} {t : Stm Spot stmt} {l : Labels Spot} {a : L.Labels} {w : List ℕ} → Rows w left k (single t) k' → kind ≡ get_or w (6144 + k) 0 → Held w a l → Did k k' (outcomes t l) (labels_in t) (labels t l).1 a w a w
  leaf_go (leaf_row x r) e g = did_leaf x r.words g
  leaf_go (goto_row r) e g = absurd (z₄ (e ∙ r.kinds))
  leaf_go (label_row r) e g = absurd (z₅ (e ∙ r.kinds))
  leaf_go (if_row r a) e g = absurd (z₆ (e ∙ r.kinds))
  leaf_go (else_row r a b) e g = absurd (z₆ (e ∙ r.kinds))
  leaf_go (block_row ts r a) e g = absurd (z₇ (e ∙ r.kinds))

  pub visits_leaf : {left k : ℕ} {a : L.Labels} {w : List ℕ} → Shows w 6144 k kind → Visits left k a w a w
  visits_leaf s = record { does = λ rows g h. leaf_go rows (s.is (rows_below rows) (omega arith)) g }

-- an arm's visit is the statement's
pub visits_arm : {left k kind : ℕ} {a b : L.Labels} {w w' : List ℕ} → (left ≡ 0 → ⊥) → {v : ℕ} → Shows w 6144 k v → v ≡ kind → VisitsKind kind (left - 1) k a w b w' → Visits left k a w b w'
visits_arm {left} {k} {a = a} {b} {w} {w'} z s e v = record { does = λ rows g h. let q : suc (left - 1) ≡ left = omega arith in (subst (λ (n : ℕ). Visits n k a w b w') q (v.visits (sym (s.is (rows_below rows) (omega arith)) ∙ e))).does rows g h }

-- GOTOS

touch_set : (k o : ℕ) (w : List ℕ) {a : L.Labels} → Touches k (k + 1) a w (set w k o)
touch_set k o w = record { long = length-set w k o; same = λ i o₁ o₂ o₃ o₄. get_or-set_other w k i o 0 (λ e. o₁ (omega arith) (omega arith)) }

did_goto : (k o : ℕ) {l : Labels Spot} {a : L.Labels} {w : List ℕ} → Held w a l → a.next ≤ 1025 → k < 2048 → Did k (k + 1) (o ∷ []) [] l a w a (set w k o)
did_goto k o {w = w} g h j = record {
  told = step (record { is = get_or-set_same w k o 0 (omega (arith, g.words)) }) stop;
  named = stop;
  more = omega arith;
  touches = touch_set k o w;
  held = held_touch _ _ g (touch_set k o w) (omega arith) (omega arith) h g.next;
}

id_word : (q : Option (Ident Spot)) → unwrap_or (found_id q) 0 ≡ goto_word q
unfolding found_id goto_word
id_word none = refl
id_word (some j) = refl

goto_go : {left k k' name found : ℕ} {r : Rust.Option ℕ} {t : Stm Spot stmt} {l : Labels Spot} {a : L.Labels} {w w' : List ℕ} → Rows w (suc left) k (single t) k' → get_or w (6144 + k) 0 ≡ 4 → Held w a l → a.next + length (labels_in t) ≤ 1025
    → Shows w 10240 k name → Finds w 0 a.count name r → (found ≡ unwrap_or r 0) → Sets k found w w' → Did k k' (outcomes t l) (labels_in t) (labels t l).1 a w a w'
unfolding outcomes labels_in labels
goto_go (leaf_row x r) e g h s f u p = absurd (omega (arith, r.kinds))
goto_go {k = k} {name = name} {found} {l = l} {a = a} {w = w} {w'} (goto_row {i = i} r) e g h s f u p =
    let n : name ≡ i.name = s.is r.low (omega arith) ∙ r.insides in
    let o : found ≡ goto_word (first_named i.name l.label_stack) = u ∙ ap (λ (q : Rust.Option ℕ). unwrap_or q 0) (f.is g.words g.stack (omega arith) (omega (arith, g.few))) ∙ id_word (first_named name l.label_stack) ∙ ap (λ (x : ℕ). goto_word (first_named x l.label_stack)) n in
    subst (λ (x : ℕ). Did k (k + 1) (x ∷ []) [] l a w a w') o (subst (λ (x : List ℕ). Did k (k + 1) (found ∷ []) [] l a w a x) (sym (p.is r.low)) (did_goto k found g (omega arith) r.low))
goto_go (label_row r) e g h s f u p = absurd (omega (arith, r.kinds))
goto_go (if_row r a) e g h s f u p = absurd (omega (arith, r.kinds))
goto_go (else_row r a b) e g h s f u p = absurd (omega (arith, r.kinds))
goto_go (block_row ts r a) e g h s f u p = absurd (omega (arith, r.kinds))

pub visits_goto : {k name found : ℕ} {r : Rust.Option ℕ} {a : L.Labels} {w w' : List ℕ} (left : ℕ) → Shows w 10240 k name → Finds w 0 a.count name r → (found ≡ unwrap_or r 0) → Sets k found w w' → VisitsKind 4 left k a w a w'
visits_goto left s f u p = record { visits = λ e. record { does = λ rows g h. goto_go rows e g h s f u p } }

-- LABELS

-- what the search finds has an id up to 1,024
pub data Lows : Option (Ident Spot) → Type 0 where
  no : Lows none
  yes : {j : Ident Spot} → j.id ≤ 1024 → Lows (some j)

found_low : {w : List ℕ} {next i count : ℕ} {js : List (Ident Spot)} (name : ℕ) → Along (Stacked w next) i js count → next ≤ 1025 → Lows (first_named name js)
unfolding first_named first
found_low name stop h = no
found_low name (step {x = j} {xs = js} p r) h = (elim (eqb j.name name) as (λ b. eqb j.name name ≡ b → Lows (first (λ (i : Ident Spot). eqb i.name name) (j ∷ js))) [
  | true ↦ λ e. subst Lows (sym (first_hit (λ (i : Ident Spot). eqb i.name name) j js e)) (yes (omega (arith, p.high)))
  | false ↦ λ e. subst Lows (sym (first_miss (λ (i : Ident Spot). eqb i.name name) j js e)) (found_low name r h)
]) refl

word_go : {earlier : Rust.Option ℕ} {id id' o : ℕ} (q : Option (Ident Spot)) → LabelWord earlier id o → earlier ≡ found_id q → id ≡ id' → Lows q → o ≡ label_word id' q
unfolding found_id label_word
word_go none u e z no = u.none e ∙ z
word_go (some j) u e z (yes h) = u.some j.id e h

-- four words are stored: the outcome, the name, the place, and the label in scope
abbrev stored : (k o n p : ℕ) (a : L.Labels) → List ℕ → List ℕ
stored k o n p a w = set (set (set (set w k o) (2047 + a.next) n) (3071 + a.next) p) (12288 + a.count) a.next

module _ (k o n p : ℕ) (a : L.Labels) (w : List ℕ) (few : a.count < a.next) (room : a.next ≤ 1024) (j : k < 2048) where
  abbrev w₁ : List ℕ
  w₁ = set w k o

  abbrev w₂ : List ℕ
  w₂ = set w₁ (2047 + a.next) n

  abbrev w₃ : List ℕ
  w₃ = set w₂ (3071 + a.next) p

  abbrev w₄ : List ℕ
  w₄ = stored k o n p a w

  long₄ : length w₄ ≡ length w
  long₄ = length-set w₃ _ _ ∙ length-set w₂ _ _ ∙ length-set w₁ _ _ ∙ length-set w k o

  touch_label : Touches k (k + 1) a w w₄
  touch_label = record {
    long = long₄;
    same = λ i o₁ o₂ o₃ o₄.
        get_or-set_other w₃ (12288 + a.count) i _ 0 (λ e. o₄ (omega arith) (omega arith)) ∙ get_or-set_other w₂ (3071 + a.next) i p 0 (λ e. o₃ (omega arith) (omega arith)) ∙
        get_or-set_other w₁ (2047 + a.next) i n 0 (λ e. o₂ (omega arith) (omega arith)) ∙ get_or-set_other w k i o 0 (λ e. o₁ (omega arith) (omega arith));
  }

  module _ (long : 13312 ≤ length w) where
    len₁ : 13312 ≤ length w₁
    len₁ = omega (arith, length-set w k o)

    len₂ : 13312 ≤ length w₂
    len₂ = omega (arith, length-set w₁ (2047 + a.next) n, len₁)

    len₃ : 13312 ≤ length w₃
    len₃ = omega (arith, length-set w₂ (3071 + a.next) p, len₂)

    word_at : get_or w₄ k 0 ≡ o
    word_at =
        get_or-set_other w₃ (12288 + a.count) k _ 0 (λ e. omega arith) ∙ get_or-set_other w₂ (3071 + a.next) k p 0 (λ e. omega arith) ∙
        get_or-set_other w₁ (2047 + a.next) k n 0 (λ e. omega arith) ∙ get_or-set_same w k o 0 (omega arith)

    name_at : get_or w₄ (2047 + a.next) 0 ≡ n
    name_at =
        get_or-set_other w₃ (12288 + a.count) _ _ 0 (λ e. omega arith) ∙ get_or-set_other w₂ (3071 + a.next) _ p 0 (λ e. omega arith) ∙
        get_or-set_same w₁ (2047 + a.next) n 0 (omega (arith, len₁))

    place_at : get_or w₄ (3071 + a.next) 0 ≡ p
    place_at = get_or-set_other w₃ (12288 + a.count) _ _ 0 (λ e. omega arith) ∙ get_or-set_same w₂ (3071 + a.next) p 0 (omega (arith, len₂))

    id_at : get_or w₄ (12288 + a.count) 0 ≡ a.next
    id_at = get_or-set_same w₃ (12288 + a.count) a.next 0 (omega (arith, len₃))

did_label : (k o : ℕ) {i : Ident Spot} {l : Labels Spot} (a : L.Labels) (w : List ℕ) → Held w a l → a.next ≤ 1024 → k < 2048
    → Did k (k + 1) (o ∷ []) (i ∷ []) (declared (resolved i l.resolution_id 1) l) a w (record { count = a.count + 1; next = a.next + 1 }) (stored k o i.name i.place.number a w)
unfolding declared resolved
did_label k o {i} {l} a w g h j =
    let t = touch_label k o i.name i.place.number a w g.few h j in
    let name = name_at k o i.name i.place.number a w g.few h j g.words in
    record {
      told = step (record { is = word_at k o i.name i.place.number a w g.few h j g.words }) stop;
      named = step (record { name = name; place = place_at k o i.name i.place.number a w g.few h j g.words }) stop;
      more = omega arith;
      touches = t;
      held = record {
        stack = along_append (along_map (λ x y y₁ y₂ s. touch_stacked t g.few (omega arith) y₂ (omega arith) (omega arith) (omega arith) s) g.stack)
            (step (record { id = id_at k o i.name i.place.number a w g.few h j g.words ∙ g.next; name = ap (λ (x : ℕ). get_or (stored k o i.name i.place.number a w) (2047 + x) 0) (sym g.next) ∙ name; low = omega (arith, g.few, g.next); high = omega (arith, g.next) }) stop);
        next = ap (λ (x : ℕ). x + 1) g.next;
        few = omega (arith, g.few);
        words = omega (arith, g.words, t.long);
      };
    }

label_go : {left k k' name place o : ℕ} {earlier : Rust.Option ℕ} {t : Stm Spot stmt} {l : Labels Spot} {a b : L.Labels} {w w₁ w' : List ℕ} → Rows w (suc left) k (single t) k' → get_or w (6144 + k) 0 ≡ 5 → Held w a l → a.next + length (labels_in t) ≤ 1025
    → Shows w 10240 k name → Shows w 0 k place → Finds w 0 a.count name earlier → LabelWord earlier a.next o → Sets k o w w₁ → Declares name place a w₁ b w' → Did k k' (outcomes t l) (labels_in t) (labels t l).1 a w b w'
unfolding outcomes labels_in labels
label_go (leaf_row x r) e g h s q f u p d = absurd (omega (arith, r.kinds))
label_go (goto_row r) e g h s q f u p d = absurd (omega (arith, r.kinds))
label_go {k = k} {name = name} {place} {o} {earlier} {l = l} {a} {b} {w} {w₁} {w'} (label_row {i = i} r) e g h s q f u p d =
    let room : a.next ≤ 1024 = omega arith in
    let n : name ≡ i.name = s.is r.low (omega arith) ∙ r.insides in
    let z : 0 + k ≡ k = omega arith in
    let m : place ≡ i.place.number = q.is r.low (omega arith) ∙ ap (λ (x : ℕ). get_or w x 0) z ∙ r.words in
    let c : a.count < 1024 = omega (arith, g.few) in
    let y : 0 < a.next = omega (arith, g.few) in
    let found : earlier ≡ found_id (first_named i.name l.label_stack) = f.is g.words g.stack (omega arith) (omega arith) ∙ ap (λ (x : ℕ). found_id (first_named x l.label_stack)) n in
    let said : o ≡ label_word l.resolution_id (first_named i.name l.label_stack) = word_go (first_named i.name l.label_stack) u found g.next (found_low i.name g.stack (omega arith)) in
    let kept : w' ≡ stored k o i.name i.place.number a w =
    d.words c y room ∙ ap (λ (v : List ℕ). set (set (set v (2047 + a.next) name) (3071 + a.next) place) (12288 + a.count) a.next) (p.is r.low) ∙
    ap (λ (v : ℕ). stored k o v place a w) n ∙ ap (λ (v : ℕ). stored k o i.name v a w) m in
    subst (λ (v : ℕ). Did k (k + 1) (v ∷ []) (i ∷ []) (declared (resolved i l.resolution_id 1) l) a w b w') said
    (subst (λ (v : L.Labels). Did k (k + 1) (o ∷ []) (i ∷ []) (declared (resolved i l.resolution_id 1) l) a w v w') (sym (d.count c y room))
    (subst (λ (v : List ℕ). Did k (k + 1) (o ∷ []) (i ∷ []) (declared (resolved i l.resolution_id 1) l) a w (record { count = a.count + 1; next = a.next + 1 }) v) (sym kept) (did_label k o a w g room r.low)))
label_go (if_row r a) e g h s q f u p d = absurd (omega (arith, r.kinds))
label_go (else_row r a b) e g h s q f u p d = absurd (omega (arith, r.kinds))
label_go (block_row ts r a) e g h s q f u p d = absurd (omega (arith, r.kinds))

pub label_past : {k : ℕ} {a : L.Labels} {w : List ℕ} (left : ℕ) → 2047 < k → VisitsKind 5 left k a w a w
label_past left h = record { visits = λ e. record { does = λ rows g z. absurd (omega (arith, rows_below rows)) } }

pub visits_label : {k name place o : ℕ} {earlier : Rust.Option ℕ} {a b : L.Labels} {w w₁ w' : List ℕ} (left : ℕ) → Shows w 10240 k name → Shows w 0 k place → Finds w 0 a.count name earlier → LabelWord earlier a.next o → Sets k o w w₁ → Declares name place a w₁ b w' → VisitsKind 5 left k a w b w'
visits_label left s q f u p d = record { visits = λ e. record { does = λ rows g h. label_go rows e g h s q f u p d } }

-- BRANCHES

length_back : {A : Type 0} (xs ys : List A) → length xs ≤ length (xs ++ ys)
length_back xs ys = omega (arith, length-append xs ys)

length_rest : {A : Type 0} (n : ℕ) (xs ys : List A) {m : ℕ} → n + length (xs ++ ys) ≤ 1025 → m ≡ n + length xs → m + length ys ≤ 1025
length_rest n xs ys h e = omega (arith, length-append xs ys)

module _ {left k : ℕ} {a b : L.Labels} {w w₁ : List ℕ} where
  pub branches_past : 2048 ≤ k → VisitsKind 6 left k a w b w₁
  branches_past h = record { visits = λ e. record { does = λ rows g z. absurd (omega (arith, rows_below rows)) } }

-- the number of the else branch still stands where it stood
other_go : {k k' other inside : ℕ} {os : List ℕ} {is : List (Ident Spot)} {l l₁ : Labels Spot} {a b : L.Labels} {w w₁ : List ℕ} → Held w a l → k < 2048 → k' ≤ 2048 → Did (k + 1) k' os is l₁ a w b w₁ → Shows w₁ 10240 k other → get_or w (10240 + k) 0 ≡ inside → other ≡ inside
other_go {k} g h j d s e = s.is h (omega arith) ∙ (touch_row d.touches g.few j k (λ x y. omega arith) h).insides ∙ e

then_go : {left k k' other : ℕ} {t : Stm Spot stmt} {l : Labels Spot} {a b : L.Labels} {w w₁ : List ℕ} → Rows w (suc left) k (single t) k' → get_or w (6144 + k) 0 ≡ 6 → Held w a l → a.next + length (labels_in t) ≤ 1025
    → Visits left (k + 1) a w b w₁ → Shows w₁ 10240 k other → other ≡ 0 → Did k k' (outcomes t l) (labels_in t) (labels t l).1 a w b w₁
unfolding outcomes labels_in labels
then_go (leaf_row x r) e g h v s z = absurd (omega (arith, r.kinds))
then_go (goto_row r) e g h v s z = absurd (omega (arith, r.kinds))
then_go (label_row r) e g h v s z = absurd (omega (arith, r.kinds))
then_go {k = k} {k'} {l = l} {a} (if_row {t = t} r rows) e g h v s z =
    let d = v.does rows g (omega (arith, length_back (labels_in t) [])) in
    let j : k' ≤ 2048 = rows_high rows (omega (arith, r.low)) in
    did_head g r.words r.low j (did_upper (omega (arith, g.few)) (omega (arith, along_length d.named, length_back (labels_in t) [])) j d (did_none d.held))
then_go {k = k} {k'} (else_row {m = m} {t = t} {e = u} r rows rest) e g h v s z =
    let d = v.does rows g (omega (arith, length_back (labels_in t) (labels_in u))) in
    absurd (omega (arith, other_go g r.low (rows_high rows (omega (arith, r.low))) d s r.insides))
then_go (block_row ts r rows) e g h v s z = absurd (omega (arith, r.kinds))

both_go : {left k k' other : ℕ} {t : Stm Spot stmt} {l : Labels Spot} {a b c : L.Labels} {w w₁ w₂ : List ℕ} → Rows w (suc left) k (single t) k' → get_or w (6144 + k) 0 ≡ 6 → Held w a l → a.next + length (labels_in t) ≤ 1025
    → Visits left (k + 1) a w b w₁ → Shows w₁ 10240 k other → (other ≡ 0 → ⊥) → Visits left (other - 1) b w₁ c w₂ → Did k k' (outcomes t l) (labels_in t) (labels t l).1 a w c w₂
unfolding outcomes labels_in labels
both_go (leaf_row x r) e g h v s z o = absurd (omega (arith, r.kinds))
both_go (goto_row r) e g h v s z o = absurd (omega (arith, r.kinds))
both_go (label_row r) e g h v s z o = absurd (omega (arith, r.kinds))
both_go (if_row {t = t} r rows) e g h v s z o =
    let d = v.does rows g (omega (arith, length_back (labels_in t) [])) in
    absurd (z (other_go g r.low (rows_high rows (omega (arith, r.low))) d s r.insides))
both_go {left} {k} {k'} {other} {l = l} {a} {b} {c} {w} {w₁} {w₂} (else_row {m = m} {t = t} {e = u} r rows rest) e g h v s z o =
    let d = v.does rows g (omega (arith, length_back (labels_in t) (labels_in u))) in
    let x : m ≤ 2048 = rows_high rows (omega (arith, r.low)) in
    let j : k' ≤ 2048 = rows_high rest x in
    let y : other ≡ m + 1 = other_go g r.low x d s r.insides in
    let q : other - 1 ≡ m = omega arith in
    let n : b.next ≡ a.next + length (labels_in t) = along_length d.named in
    let high : k + 1 ≤ m = rows_le rows in
    let rest₁ = rows_same (λ i i₁ i₂. touch_row d.touches g.few x i (λ x₁ x₂. omega arith) (omega arith)) rest in
    let d₂ = (subst (λ (i : ℕ). Visits left i b w₁ c w₂) q o).does rest₁ d.held (length_rest a.next (labels_in t) (labels_in u) h n) in
    did_head g r.words r.low j (did_upper (omega (arith, g.few)) (omega (arith, length_back (labels_in t) (labels_in u))) j d d₂)
both_go (block_row ts r rows) e g h v s z o = absurd (omega (arith, r.kinds))

module _ {left k other : ℕ} {a b : L.Labels} {w w₁ : List ℕ} (v : Visits left (k + 1) a w b w₁) (s : Shows w₁ 10240 k other) where
  pub branches_then : (1 ≤ other → ⊥) → VisitsKind 6 left k a w b w₁
  branches_then z = record { visits = λ e. record { does = λ rows g h. then_go rows e g h v s (omega arith) } }

  pub branches_both : {m : ℕ} {c : L.Labels} {w₂ : List ℕ} → (1 ≤ other) × (m ≡ other - 1) → Visits left m b w₁ c w₂ → VisitsKind 6 left k a w c w₂
  branches_both (z, q) o = record { visits = λ e. record { does = λ rows g h. both_go rows e g h v s (omega arith) (rw q at o) } }

-- LISTS

outcomes_turned : (ts rs : List (Stm Spot stmt)) (l : Labels Spot) → outcomes_back (turned ts rs) l ≡ outcomes_back rs (labels (to_stms ts) l).1 ++ outcomes (to_stms ts) l
unfolding outcomes_back turned to_stms outcomes labels
outcomes_turned [] rs l = sym (append-nil (outcomes_back rs l))
outcomes_turned (t ∷ ts) rs l = outcomes_turned ts (t ∷ rs) l ∙ append_assoc (outcomes_back rs (labels t (labels (to_stms ts) l).1).1) (outcomes t (labels (to_stms ts) l).1) (outcomes (to_stms ts) l)

labels_turned : (ts rs : List (Stm Spot stmt)) → labels_back (turned ts rs) ≡ labels_in (to_stms ts) ++ labels_back rs
unfolding labels_back turned to_stms labels_in
labels_turned [] rs = refl
labels_turned (t ∷ ts) rs = labels_turned ts (t ∷ rs) ∙ sym (append_assoc (labels_in (to_stms ts)) (labels_in t) (labels_back rs))

after_turned : (ts rs : List (Stm Spot stmt)) (l : Labels Spot) → after_back (turned ts rs) l ≡ after_back rs (labels (to_stms ts) l).1
unfolding after_back turned to_stms labels
after_turned [] rs l = refl
after_turned (t ∷ ts) rs l = after_turned ts (t ∷ rs) l

-- a list's rows visited: its statements in their order
pub did_turned : (ts : List (Stm Spot stmt)) (l : Labels Spot) {k k' : ℕ} {a b : L.Labels} {w w' : List ℕ} → Did k k' (outcomes_back (turned ts []) l) (labels_back (turned ts [])) (after_back (turned ts []) l) a w b w'
    → Did k k' (outcomes (to_stms ts) l) (labels_in (to_stms ts)) (labels (to_stms ts) l).1 a w b w'
unfolding outcomes_back labels_back after_back
did_turned ts l d = did_same (outcomes_turned ts [] l) (labels_turned ts [] ∙ append-nil (labels_in (to_stms ts))) (after_turned ts [] l) d

pub labels_length : (ts : List (Stm Spot stmt)) → length (labels_back (turned ts [])) ≡ length (labels_in (to_stms ts))
unfolding labels_back
labels_length ts = ap (λ (x : List (Ident Spot)). length x) (labels_turned ts [] ∙ append-nil (labels_in (to_stms ts)))

block_go : {left k k' last : ℕ} {t : Stm Spot stmt} {l : Labels Spot} {a b : L.Labels} {w w' : List ℕ} → Rows w (suc left) k (single t) k' → get_or w (6144 + k) 0 ≡ 7 → Held w a l → a.next + length (labels_in t) ≤ 1025
    → Shows w 10240 k last → VisitsList left last a w b w' → Did k k' (outcomes t l) (labels_in t) (labels t l).1 a w (record { count = a.count; next = b.next }) w'
unfolding outcomes labels_in labels
block_go (leaf_row x r) e g h s v = absurd (omega (arith, r.kinds))
block_go (goto_row r) e g h s v = absurd (omega (arith, r.kinds))
block_go (label_row r) e g h s v = absurd (omega (arith, r.kinds))
block_go (if_row r a) e g h s v = absurd (omega (arith, r.kinds))
block_go (else_row r a b) e g h s v = absurd (omega (arith, r.kinds))
block_go {left} {k} {k'} {last} {l = l} {a} {b} {w} {w'} (block_row {last = inner} ts r rows) e g h s v =
    let q : last ≡ inner = s.is r.low (omega arith) ∙ r.insides in
    let d = did_turned ts l ((subst (λ (x : ℕ). VisitsList left x a w b w') q v).does rows g (omega (arith, labels_length ts))) in
    let j : k' ≤ 2048 = rows_high rows (omega (arith, r.low)) in
    let n : b.next ≡ a.next + length (labels_in (to_stms ts)) = along_length d.named in
    did_head g r.words r.low j (did_block g (omega arith) j d)

pub visits_block : {left k last : ℕ} {a b : L.Labels} {w w' : List ℕ} → Shows w 10240 k last → VisitsList left last a w b w' → VisitsKind 7 left k a w (record { count = a.count; next = b.next }) w'
visits_block s v = record { visits = λ e. record { does = λ rows g h. block_go rows e g h s v } }

-- THE LOOP

list_none : {left last k k' : ℕ} {rs : List (Stm Spot stmt)} {l : Labels Spot} {a : L.Labels} {w : List ℕ} → Rows w left k (list rs last) k' → last ≡ 0 → Held w a l → Did k k' (outcomes_back rs l) (labels_back rs) (after_back rs l) a w a w
unfolding outcomes_back labels_back after_back
list_none no_rows e g = did_none g
list_none (more_rows a x b) e g = absurd (omega arith)

list_stuck : {left last k k' previous : ℕ} {rs : List (Stm Spot stmt)} {l : Labels Spot} {a b : L.Labels} {w w₁ : List ℕ} {X : Type 0} → Rows w left k (list rs last) k' → (last ≡ 0 → ⊥) → Held w a l → a.next + length (labels_back rs) ≤ 1025
    → Visits left (last - 1) a w b w₁ → Shows w₁ 8192 (last - 1) previous → last ≤ previous → X
unfolding labels_back
list_stuck no_rows z g h v s i = absurd (z refl)
list_stuck {left} {last} {k} {k'} {previous} {a = a} {b} {w} {w₁} (more_rows {m = m} {last = inner} {us = us} {t = t} rows e this) z g h v s i =
    let q : last - 1 ≡ m = omega arith in
    let d = (subst (λ (i : ℕ). Visits left i a w b w₁) q v).does this g (omega (arith, length_back (labels_in t) (labels_back us))) in
    let f : previous ≡ inner = (subst (λ (i : ℕ). Shows w₁ 8192 i previous) q s).is (rows_below this) (omega arith) ∙ touch_before d.touches g.few (rows_high this (omega (arith, rows_below this))) m (rows_below this) ∙ e in
    absurd (omega (arith, rows_last rows))

list_more : {left last k k' previous : ℕ} {rs : List (Stm Spot stmt)} {l : Labels Spot} {a b c : L.Labels} {w w₁ w₂ : List ℕ} → Rows w left k (list rs last) k' → (last ≡ 0 → ⊥) → Held w a l → a.next + length (labels_back rs) ≤ 1025
    → Visits left (last - 1) a w b w₁ → Shows w₁ 8192 (last - 1) previous → VisitsList left previous b w₁ c w₂ → Did k k' (outcomes_back rs l) (labels_back rs) (after_back rs l) a w c w₂
unfolding labels_back outcomes_back after_back
list_more no_rows z g h v s u = absurd (z refl)
list_more {left} {last} {k} {k'} {previous} {a = a} {b} {c} {w} {w₁} {w₂} (more_rows {m = m} {last = inner} {us = us} {t = t} rows e this) z g h v s u =
    let q : last - 1 ≡ m = omega arith in
    let j : k' ≤ 2048 = rows_high this (omega (arith, rows_below this)) in
    let d = (subst (λ (i : ℕ). Visits left i a w b w₁) q v).does this g (omega (arith, length_back (labels_in t) (labels_back us))) in
    let f : previous ≡ inner = (subst (λ (i : ℕ). Shows w₁ 8192 i previous) q s).is (rows_below this) (omega arith) ∙ touch_before d.touches g.few j m (rows_below this) ∙ e in
    let n : b.next ≡ a.next + length (labels_in t) = along_length d.named in
    let low : m < 2048 = rows_below this in
    let rows₁ = rows_same (λ i i₁ i₂. touch_row d.touches g.few j i (λ x₁ x₂. omega arith) (omega arith)) rows in
    let d₂ = (subst (λ (i : ℕ). VisitsList left i b w₁ c w₂) f u).does rows₁ d.held (length_rest a.next (labels_in t) (labels_back us) h n) in
    did_lower (omega (arith, g.few)) (omega (arith, length_back (labels_in t) (labels_back us))) j d d₂

-- whatever visits the rest from here visits the whole
pub record Visiting (left last : ℕ) (a : L.Labels) (w : List ℕ) (last₁ : ℕ) (b : L.Labels) (w₁ : List ℕ) : Type 0 where
  pub long : length w₁ ≡ length w
  pub on : (c : L.Labels) (w₂ : List ℕ) → VisitsList left last₁ b w₁ c w₂ → VisitsList left last a w c w₂

pub visiting_start : {left last : ℕ} {a : L.Labels} {w : List ℕ} → Visiting left last a w last a w
visiting_start = record { long = refl; on = λ c w₂ v. v }

module _ {left last last₁ : ℕ} {a b : L.Labels} {w w₁ : List ℕ} (g : Visiting left last a w last₁ b w₁) where
  pub visiting_done : (1 ≤ last₁ → ⊥) → VisitsList left last a w b w₁
  visiting_done z = g.on b w₁ (record { does = λ rows held h. list_none rows (omega arith) held })

  module _ {k previous : ℕ} {c : L.Labels} {w₂ : List ℕ} (z : (1 ≤ last₁) × (k ≡ last₁ - 1)) (v : Visits left k b w₁ c w₂) (s : Shows w₂ 8192 k previous) where
    some_left : last₁ ≡ 0 → ⊥
    some_left e = omega (arith, z.0)

    pub visiting_stuck : last₁ ≤ previous → VisitsList left last a w c w₂
    visiting_stuck i = g.on c w₂ (record { does = λ rows held h. list_stuck rows some_left held h (rw z.1 at v) (rw z.1 at s) i })

    pub visiting_more : length w₂ ≡ length w₁ → Visiting left last a w previous c w₂
    visiting_more e = record { long = e ∙ g.long; on = λ d w₃ u. g.on d w₃ (record { does = λ rows held h. list_more rows some_left held h (rw z.1 at v) (rw z.1 at s) u }) }

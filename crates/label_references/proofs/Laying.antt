-- The laying out: a law for each way through it.
use mathlib.Core.Path.{◌≡◌, refl, sym, ap, subst, ◌∙◌}
use mathlib.Core.Bool.{Bool, true, false, ◌&&◌}
use mathlib.Core.List.{List, [], ◌∷◌}
use Prim.Native.Nat.{ℕ, zero, suc, ◌+◌, ◌-◌, ◌≤◌, ◌<◌, min}
use native.Mathlib.Omega.{arith}
use lib.Dec.{leb}
use lib.ListN.{length, get_or, set, length-set}
use lib.Seq.{get_or-set_same, get_or-set_other}
use borrow.Author.Tests.{leb-true, ne_eqb}
use Rattle.std.specs.Prelude.{Result, Ok, Err, Some, None}
use Rattle.penne.specs.Tree.{Spot, Ident, Expr, expr, stmt, else_branch, Stm, goto, label, if_else, block}
use Rattle.penne.specs.Reader.{Counts, Cur, Got, got, Reader, ◌>>=◌, ret, num, below, many, listed, plus, fits, counted, a_statement, an_entry}
use Rattle.penne.specs.Read.{read, either, else_of, read_if, to_stms, read_stmt, stmt_head, stmt_of, StmtKind, k_declaration, k_assignment, k_method_call, k_loop, k_goto, k_label, k_if, k_block, k_bad_stmt, stmt_kinds, stmt_counts, read_jump, read_block}
use Rattle.fields.specs.declared.field.Identifier.{Identifier}
use Rattle.fields.specs.declared.counts.Counts as C
use Rattle.fields.specs.declared.refusal.Refusal.{Refusal}
use Rattle.fields.specs.Answers.{cursor, forget, Gives, Ends, Skips, operator, Identifies, ident_of, counts_of, Counting, Passes}
use Rattle.fields.proofs.Chain.{reads, ends_place, after}
use Rattle.fields.proofs.Counting.{fitted, counting_fits}
use Rattle.tree.proofs.Statements.{kind_value, stmt_end, stmt_is}
use Rattle.label_references.specs.declared.shape.Shaped.{Shaped}
use Rattle.labels.specs.Table.{Leaf, Row, Part, single, list, Rows, leaf_row, goto_row, label_row, if_row, else_row, block_row, no_rows, more_rows, turned, Off}
use Rattle.label_references.specs.Lay.{Only, shaped, SetsRow, Laid, Lays, LaysKind, LaysLeaf, LaysElse, ListLaid, LaysList, EndsAt}
use Rattle.labels.proofs.Rowing.{rows_le, rows_lt, rows_high, rows_below, SameRow, rows_same}
use Rattle.label_references.proofs.Keeping.{leaf_kind}
use Rattle.label_references.proofs.Leading.{Leads, leads_refused, leads_same, leads_ret, leads_bind, leads_part, leads_unpart, leads_read, leads_unread, leads_ident, leads_unident, passes_here, leads_never, operator_leads, operator_unled}

-- ROWS

pub only_none : {k k' : ℕ} {w : List ℕ} → Only k k' w w
only_none = record { long = refl; same = λ i o₁ o₂ o₃ o₄. refl }

pub only_then : {k k' k₁ k₁' k₂ k₂' : ℕ} {w w₁ w₂ : List ℕ} → Only k₁ k₁' w w₁ → Only k₂ k₂' w₁ w₂ → k ≤ k₁ → k₁' ≤ k' → k ≤ k₂ → k₂' ≤ k' → Only k k' w w₂
only_then s t h₁ h₂ h₃ h₄ = record {
  long = t.long ∙ s.long;
  same = λ i o₁ o₂ o₃ o₄.
      t.same i (λ x y. o₁ (omega arith) (omega arith)) (λ x y. o₂ (omega arith) (omega arith)) (λ x y. o₃ (omega arith) (omega arith)) (λ x y. o₄ (omega arith) (omega arith)) ∙
      s.same i (λ x y. o₁ (omega arith) (omega arith)) (λ x y. o₂ (omega arith) (omega arith)) (λ x y. o₃ (omega arith) (omega arith)) (λ x y. o₄ (omega arith) (omega arith));
}

-- the other rows stay
pub only_row : {k k' : ℕ} {w w' : List ℕ} → Only k k' w w' → k' ≤ 2048 → (i : ℕ) → Off k k' i → i < 2048 → SameRow w w' i
only_row t h i o j = record {
  kinds = t.same (6144 + i) (λ x y. omega arith) (λ x y. o (omega arith) (omega arith)) (λ x y. omega arith) (λ x y. omega arith);
  before = t.same (8192 + i) (λ x y. omega arith) (λ x y. omega arith) (λ x y. o (omega arith) (omega arith)) (λ x y. omega arith);
  insides = t.same (10240 + i) (λ x y. omega arith) (λ x y. omega arith) (λ x y. omega arith) (λ x y. o (omega arith) (omega arith));
  words = t.same i o (λ x y. omega arith) (λ x y. omega arith) (λ x y. omega arith);
}

pub row_past : {k kind previous inside word : ℕ} {w : List ℕ} → 2048 ≤ k → SetsRow k kind previous inside word w w
row_past h = record { row = λ j l. absurd (omega arith); before = λ j l. absurd (omega arith); only = record { long = refl; same = λ i o₁ o₂ o₃ o₄. refl } }

pub row_in : {k kind previous inside word : ℕ} {w w₁ w₂ w₃ w₄ : List ℕ} → k < 2048 → w₁ ≡ set w (0 + k) word → w₂ ≡ set w₁ (6144 + k) kind → w₃ ≡ set w₂ (8192 + k) previous → w₄ ≡ set w₃ (10240 + k) inside → SetsRow k kind previous inside word w w₄
row_in {k} {kind} {previous} {inside} {word} {w} {w₁} {w₂} {w₃} {w₄} low e₁ e₂ e₃ e₄ = record {
  row = λ j l. record { low = j; kinds = kinds_is l; insides = insides_is l; words = words_is l };
  before = λ j l. before_is l;
  only = record {
    long = long₄;
    same = λ i o₁ o₂ o₃ o₄.
        ap (λ (v : List ℕ). get_or v i 0) e₄ ∙ get_or-set_other w₃ (10240 + k) i inside 0 (λ e. o₄ (omega arith) (omega arith)) ∙
        ap (λ (v : List ℕ). get_or v i 0) e₃ ∙ get_or-set_other w₂ (8192 + k) i previous 0 (λ e. o₃ (omega arith) (omega arith)) ∙
        ap (λ (v : List ℕ). get_or v i 0) e₂ ∙ get_or-set_other w₁ (6144 + k) i kind 0 (λ e. o₂ (omega arith) (omega arith)) ∙
        ap (λ (v : List ℕ). get_or v i 0) e₁ ∙ get_or-set_other w (0 + k) i word 0 (λ e. o₁ (omega arith) (omega arith));
  };
}
  where
    long₁ : length w₁ ≡ length w
    long₁ = ap (λ (v : List ℕ). length v) e₁ ∙ length-set w (0 + k) word

    long₂ : length w₂ ≡ length w
    long₂ = ap (λ (v : List ℕ). length v) e₂ ∙ length-set w₁ (6144 + k) kind ∙ long₁

    long₃ : length w₃ ≡ length w
    long₃ = ap (λ (v : List ℕ). length v) e₃ ∙ length-set w₂ (8192 + k) previous ∙ long₂

    long₄ : length w₄ ≡ length w
    long₄ = ap (λ (v : List ℕ). length v) e₄ ∙ length-set w₃ (10240 + k) inside ∙ long₃

    insides_is : 13312 ≤ length w → get_or w₄ (10240 + k) 0 ≡ inside
    insides_is l = ap (λ (v : List ℕ). get_or v (10240 + k) 0) e₄ ∙ get_or-set_same w₃ (10240 + k) inside 0 (omega (arith, long₃))

    up₄ : (i : ℕ) → i < 10240 → get_or w₄ i 0 ≡ get_or w₃ i 0
    up₄ i h = ap (λ (v : List ℕ). get_or v i 0) e₄ ∙ get_or-set_other w₃ (10240 + k) i inside 0 (λ e. omega arith)

    before_is : 13312 ≤ length w → get_or w₄ (8192 + k) 0 ≡ previous
    before_is l = up₄ (8192 + k) (omega arith) ∙ ap (λ (v : List ℕ). get_or v (8192 + k) 0) e₃ ∙ get_or-set_same w₂ (8192 + k) previous 0 (omega (arith, long₂))

    up₃ : (i : ℕ) → i < 8192 → get_or w₄ i 0 ≡ get_or w₂ i 0
    up₃ i h = up₄ i (omega arith) ∙ ap (λ (v : List ℕ). get_or v i 0) e₃ ∙ get_or-set_other w₂ (8192 + k) i previous 0 (λ e. omega arith)

    kinds_is : 13312 ≤ length w → get_or w₄ (6144 + k) 0 ≡ kind
    kinds_is l = up₃ (6144 + k) (omega arith) ∙ ap (λ (v : List ℕ). get_or v (6144 + k) 0) e₂ ∙ get_or-set_same w₁ (6144 + k) kind 0 (omega (arith, long₁))

    words_is : 13312 ≤ length w → get_or w₄ k 0 ≡ word
    words_is l = up₃ k (omega arith) ∙ ap (λ (v : List ℕ). get_or v k 0) e₂ ∙ get_or-set_other w₁ (6144 + k) k kind 0 (λ e. omega arith) ∙ ap (λ (v : List ℕ). get_or v k 0) e₁ ∙
        (let z : 0 + k ≡ k = omega arith in subst (λ (i : ℕ). get_or (set w i word) k 0 ≡ word) (sym z) (get_or-set_same w k word 0 (omega arith)))

pub ends_in : {at k n : ℕ} {counts : C.Counts} → n ≡ min (k + 1) 4294967295 → EndsAt at counts k (shaped at counts n)
ends_in {at} {k} {counts = counts} e = record { is = λ h. let z : _ ≡ k + 1 = omega arith in ap (shaped at counts) z }

-- WHAT WAS LAID OUT

pub ok_same : {A E : Type 0} {a b : A} → ◌≡◌ {A = Result A E} (Ok a) (Ok b) → a ≡ b
ok_same e = cc

pub never_ok : {A E X : Type 0} {e : E} {a : A} → ◌≡◌ {A = Result A E} (Err e) (Ok a) → X
never_ok q = cc

-- a statement laid out in front of what follows
module _ {B : Type 0} {Q : B → Cur → Type 0} (f : Stm Spot stmt → Reader B) (m : Reader (Stm Spot stmt)) (s : List ℕ) (at : ℕ) (counts : C.Counts) {names left k previous : ℕ} {w w' : List ℕ} (long : 13312 ≤ length w) where
  pub leads_laid : {a : Shaped} → Lays (m s (cursor at names (counts_of counts))) names left k previous w (Ok a) w'
      → ((t : Stm Spot stmt) → a.last ≡ k + 1 → Rows w' left k (single t) a.counts.statements → get_or w' (8192 + k) 0 ≡ previous → Only k a.counts.statements w w' → Leads (f t s (cursor a.at names (counts_of a.counts))) Q)
      → Leads ((m >>= f) s (cursor at names (counts_of counts))) Q
  leads_laid {a} g h = leads_bind f _ _ _ λ t d q. go t d (g.does long q)
    where
      go : (t : Stm Spot stmt) (d : Cur) → Laid names left k previous t d w (Ok a) w' → Leads (f t s d) Q
      go t d l =
          let z : shaped l.end l.counts (k + 1) ≡ a = sym (ok_same l.told) in
          let c : d ≡ cursor a.at names (counts_of a.counts) = l.cur ∙ ap (λ (x : Shaped). cursor x.at names (counts_of x.counts)) z in
          subst (λ (x : Cur). Leads (f t s x) Q) (sym c) (h t (ap (λ (x : Shaped). x.last) (sym z)) (subst (λ (x : Shaped). Rows w' left k (single t) x.counts.statements) z l.rows) l.before (subst (λ (x : Shaped). Only k x.counts.statements w w') z l.only))

  pub leads_unlaid : {e : Refusal} → Lays (m s (cursor at names (counts_of counts))) names left k previous w (Err e) w' → Leads ((m >>= f) s (cursor at names (counts_of counts))) Q
  leads_unlaid g = leads_bind f _ _ _ λ t d q. never_ok (g.does long q).told

-- HEADS

true_false : {X : Type 0} → false ≡ true → X
true_false e = let z : ◌≡◌ {A = ℕ} 0 1 = ap number e in absurd (omega arith)
  where
    number : Bool → ℕ
    number true = 1
    number false = 0

four_true : (a b c d : Bool) → (a && b && c && d) ≡ true → (c ≡ true) × (d ≡ true)
four_true true true true true h = (refl, refl)
four_true true true true false h = true_false h
four_true true true false d h = true_false h
four_true true false c d h = true_false h
four_true false b c d h = true_false h

pub fits_statements : (a : Counts) → fits a ≡ true → (a.statements ≤ 2048) × (a.entries ≤ 1024)
unfolding fits
fits_statements a h =
    let x = four_true (leb a.containers 128) (leb a.functions 256) (leb a.entries 1024) (leb a.statements 2048) h in
    (leb-true a.statements 2048 x.1, leb-true a.entries 1024 x.0)

pub one_statement : (x : StmtKind) → (stmt_counts x).statements ≡ 1
unfolding stmt_counts plus a_statement an_entry
one_statement k_declaration = refl
one_statement k_assignment = refl
one_statement k_method_call = refl
one_statement k_loop = refl
one_statement k_goto = refl
one_statement k_label = refl
one_statement k_if = refl
one_statement k_block = refl
one_statement k_bad_stmt = refl

pub lays_leads : {q : Got (Stm Spot stmt)} {names left k previous : ℕ} {w : List ℕ} {r : Result Shaped Refusal} {w' : List ℕ} → (13312 ≤ length w → Leads q (λ t c. Laid names left k previous t c w r w')) → Lays q names left k previous w r w'
lays_leads h = record { does = λ l e. (h l).to e }

laid_left : {names left left' k previous : ℕ} {t : Stm Spot stmt} {c : Cur} {w : List ℕ} {r : Result Shaped Refusal} {w' : List ℕ} → left ≡ left' → Laid names left k previous t c w r w' → Laid names left' k previous t c w r w'
laid_left {names} {k = k} {previous} {t} {c} {w} {r} {w'} e l = subst (λ (x : ℕ). Laid names x k previous t c w r w') e l

-- what is counted with a statement
number_go : {k b c : C.Counts} (v : ℕ) → Counting k b (Some c) → counts_of b ≡ stmt_counts (get_or stmt_kinds v k_bad_stmt) → (c.statements ≡ k.statements + 1) × (k.statements < 2048)
unfolding plus
number_go {k} {b} {c} v g u =
    let f = fitted g in
    let o : b.statements ≡ 1 = ap (λ (x : Counts). x.statements) u ∙ one_statement (get_or stmt_kinds v k_bad_stmt) in
    let c₁ : c.statements ≡ k.statements + b.statements = ap (λ (x : Counts). x.statements) f.1 in
    let l = fits_statements (plus (counts_of k) (counts_of b)) f.0 in
    (omega arith, omega (arith, l.0))

-- the statement's end, by what its kind was read as
ended_at : (left : ℕ) (s : List ℕ) (c : Cur) {q : Got ℕ} → below 9 s c ≡ q → forget (read_stmt left s c) ≡ stmt_end left s c.at q
ended_at left s c e = stmt_is left s c ∙ ap (stmt_end left s c.at) e

module _ (names : ℕ) (k : C.Counts) {s : List ℕ} {at : ℕ} where
  module _ {left previous : ℕ} {w : List ℕ} {r : Result Shaped Refusal} {w' : List ℕ} where
    pub lay_unread : {e : Refusal} → Gives (below 9) s at (Err e) → Lays (read_stmt left s (cursor at names (counts_of k))) names left k.statements previous w r w'
    lay_unread h = lays_leads λ l. leads_refused _ (ended_at left s _ (h.is names (counts_of k)))

    pub lay_deep : {v n : ℕ} → Gives (below 9) s at (Ok (v, n)) → left ≡ 0 → Lays (read_stmt left s (cursor at names (counts_of k))) names left k.statements previous w r w'
    lay_deep {v} {n} h z = lays_leads λ l. leads_refused _ {i = 7} {p = at} (ended_at left s _ (h.is names (counts_of k)) ∙ ap (λ (x : ℕ). stmt_end x s at (got v (cursor n names (counts_of k)))) z)

    pub lay_many : {v n : ℕ} {b : C.Counts} → Gives (below 9) s at (Ok (v, n)) → (left ≡ 0 → ⊥) → Counting k b None → counts_of b ≡ stmt_counts (get_or stmt_kinds v k_bad_stmt) → Lays (read_stmt left s (cursor at names (counts_of k))) names left k.statements previous w r w'
    lay_many {v} {n} h z g u = lays_leads λ l. leads_refused _ {i = 8} {p = at} (ended_at left s _ (h.is names (counts_of k)) ∙ rw (ne_eqb left 0 z, ← u, g.is) refl)

  module _ {v n : ℕ} (h : Gives (below 9) s at (Ok (v, n))) {b c : C.Counts} (g : Counting k b (Some c)) (u : counts_of b ≡ stmt_counts (get_or stmt_kinds v k_bad_stmt)) where
    stmt_leads : {Q : Stm Spot stmt → Cur → Type 0} (left : ℕ) → (left ≡ 0 → ⊥) → Leads (stmt_of (left - 1) (read_stmt (left - 1)) (get_or stmt_kinds v k_bad_stmt) s (cursor n names (counts_of c))) Q → Leads (read_stmt left s (cursor at names (counts_of k))) Q
    unfolding read_stmt stmt_head ◌>>=◌ counted
    stmt_leads zero z l = absurd (z refl)
    stmt_leads {Q} (suc d) z l =
        let q : suc d - 1 ≡ d = omega arith in
        let F : StmtKind → Reader (Stm Spot stmt) = stmt_of d (read_stmt d) in
        let x : StmtKind = get_or stmt_kinds v k_bad_stmt in
        let a : fits (plus (counts_of k) (stmt_counts x)) ≡ true = subst (λ (i : Counts). fits (plus (counts_of k) i) ≡ true) u (fitted g).0 in
        let o : counts_of c ≡ plus (counts_of k) (stmt_counts x) = (fitted g).1 ∙ ap (plus (counts_of k)) u in
        let l₁ : Leads (stmt_of d (read_stmt d) x s (cursor n names (counts_of c))) Q = subst (λ (j : ℕ). Leads (stmt_of j (read_stmt j) x s (cursor n names (counts_of c))) Q) q l in
        leads_same (ap (after F s) (counting_fits stmt_counts stmt_head s _ (kind_value (λ i. get_or stmt_kinds i k_bad_stmt) 9 h (counts_of k)) a)) (subst (λ (i : Counts). Leads (stmt_of d (read_stmt d) x s (cursor n names i)) Q) o l₁)

    pub lay_arm : {left j previous : ℕ} {w : List ℕ} {r : Result Shaped Refusal} {w' : List ℕ} → (left ≡ 0 → ⊥) → v ≡ j
        → LaysKind (stmt_of (left - 1) (read_stmt (left - 1)) (get_or stmt_kinds j k_bad_stmt) s (cursor n names (counts_of c))) names (left - 1) c k.statements previous w r w' → Lays (read_stmt left s (cursor at names (counts_of k))) names left k.statements previous w r w'
    lay_arm {left} {previous = previous} {w} {r} {w'} z j a =
        let q : suc (left - 1) ≡ left = omega arith in
        let i = number_go v g u in
        let lays = (subst (λ (x : ℕ). LaysKind (stmt_of (left - 1) (read_stmt (left - 1)) (get_or stmt_kinds x k_bad_stmt) s (cursor n names (counts_of c))) names (left - 1) c k.statements previous w r w') (sym j) a).lays i.0 i.1 in
        lays_leads λ l. stmt_leads left z (record { to = λ e₁. laid_left q (lays.does l e₁) })

    pub leaf_arm : {left previous : ℕ} {w : List ℕ} {r : Result Shaped Refusal} {w' : List ℕ} → (left ≡ 0 → ⊥) → (v ≡ 4 → ⊥) → (v ≡ 5 → ⊥) → (v ≡ 6 → ⊥) → (v ≡ 7 → ⊥)
        → LaysLeaf (read_stmt left s (cursor at names (counts_of k))) names left k.statements previous w r w' → Lays (read_stmt left s (cursor at names (counts_of k))) names left k.statements previous w r w'
    leaf_arm {left} z z₄ z₅ z₆ z₇ a = a.lays (λ x d q. found.to q) i.1 z
      where
        i : (c.statements ≡ k.statements + 1) × (k.statements < 2048)
        i = number_go v g u

        found : Leads (read_stmt left s (cursor at names (counts_of k))) (λ x d. Leaf x × (d.counts.statements ≡ k.statements + 1))
        found = stmt_leads left z (record { to = λ e₁. let (l, o) = ((leaf_kind (left - 1) (read_stmt (left - 1)) v z₄ z₅ z₆ z₇).at s (cursor n names (counts_of c))).to e₁ in (l, ap (λ (b : Counts). b.statements) o ∙ i.0) })

-- GOTOS AND LABELS

module _ {s : List ℕ} {names at left k previous : ℕ} {c : C.Counts} {w w' : List ℕ} where
  module _ (F : Ident Spot → Spot → Stm Spot stmt) {r : Result Shaped Refusal} where
    pub jump_unread : {e : Refusal} → Identifies s names at (Err e) → LaysKind (read_jump F s (cursor at names (counts_of c))) names left c k previous w r w'
    unfolding read_jump
    jump_unread g = record { lays = λ n low. lays_leads λ l. leads_unident _ _ g }

    pub jump_placeless : {i : Identifier} {a : ℕ} {e : Refusal} → Identifies s names at (Ok (i, a)) → Gives num s a (Err e) → LaysKind (read_jump F s (cursor at names (counts_of c))) names left c k previous w r w'
    unfolding read_jump
    jump_placeless g g₂ = record { lays = λ n low. lays_leads λ l. leads_ident _ _ g (leads_unpart _ _ (ends_place _ g₂)) }

  module _ {i : Identifier} {a v b : ℕ} (g : Identifies s names at (Ok (i, a))) (g₂ : Gives num s a (Ok (v, b))) {r : Shaped} (end : EndsAt b c k r) where
    pub goto_laid : SetsRow k 4 previous i.name 0 w w' → LaysKind (read_jump goto s (cursor at names (counts_of c))) names left c k previous w (Ok r) w'
    unfolding read_jump
    goto_laid u = record {
      lays = λ n low. lays_leads λ l. leads_ident _ _ g (leads_part _ _ (ends_place _ g₂) λ p. leads_ret _ _ _ (record {
        end = b;
        counts = c;
        told = ap (λ (x : Shaped). Ok x) (end.is low);
        cur = refl;
        before = u.before low l;
        rows = subst (λ (z : ℕ). Rows w' (suc left) k (single (goto (ident_of at i) p)) z) (sym n) (goto_row (u.row low l));
        only = subst (λ (z : ℕ). Only k z w w') (sym n) u.only;
      }));
    }

    pub label_laid : SetsRow k 5 previous i.name i.place w w' → LaysKind (read_jump label s (cursor at names (counts_of c))) names left c k previous w (Ok r) w'
    unfolding read_jump
    label_laid u = record {
      lays = λ n low. lays_leads λ l. leads_ident _ _ g (leads_part _ _ (ends_place _ g₂) λ p. leads_ret _ _ _ (record {
        end = b;
        counts = c;
        told = ap (λ (x : Shaped). Ok x) (end.is low);
        cur = refl;
        before = u.before low l;
        rows = subst (λ (z : ℕ). Rows w' (suc left) k (single (label (ident_of at i) p)) z) (sym n) (label_row (u.row low l));
        only = subst (λ (z : ℕ). Only k z w w') (sym n) u.only;
      }));
    }

-- LEAVES

module _ (m : Reader (Stm Spot stmt)) {s : List ℕ} {names at : ℕ} {k : C.Counts} {left previous : ℕ} {w w' : List ℕ} where
  pub leaf_unread : {e : Refusal} {r : Result Shaped Refusal} → Passes m s names k at (Err e) → LaysLeaf (m s (cursor at names (counts_of k))) names left k.statements previous w r w'
  leaf_unread g = record { lays = λ f low deep. lays_leads λ l. leads_never g }

  pub leaf_in : {n : ℕ} {c : C.Counts} {r : Shaped} → Passes m s names k at (Ok (n, c)) → SetsRow k.statements 0 previous 0 0 w w' → EndsAt n c k.statements r → LaysLeaf (m s (cursor at names (counts_of k))) names left k.statements previous w (Ok r) w'
  leaf_in {n} {c} {r} g u end = record { lays = λ f low deep. record { does = λ l {t} {c = d} h. go f low deep l t d h } }
    where
      go : ((t : Stm Spot stmt) (d : Cur) → m s (cursor at names (counts_of k)) ≡ got t d → Leaf t × (d.counts.statements ≡ k.statements + 1)) → k.statements < 2048 → (left ≡ 0 → ⊥) → 13312 ≤ length w → (t : Stm Spot stmt) (d : Cur) → m s (cursor at names (counts_of k)) ≡ got t d
          → Laid names left k.statements previous t d w (Ok r) w'
      go f low deep l t d h =
          let y : cursor n names (counts_of c) ≡ d = passes_here g h in
          let o : c.statements ≡ k.statements + 1 = ap (λ (v : Cur). v.counts.statements) y ∙ (f t d h).1 in
          let j : suc (left - 1) ≡ left = omega arith in
          record {
            end = n;
            counts = c;
            told = ap (λ (x : Shaped). Ok x) (end.is low);
            cur = sym y;
            before = u.before low l;
            rows = subst (λ (v : ℕ). Rows w' left k.statements (single t) v) (sym o) (subst (λ (v : ℕ). Rows w' v k.statements (single t) (k.statements + 1)) j (leaf_row (f t d h).0 (u.row low l)));
            only = subst (λ (v : ℕ). Only k.statements v w w') (sym o) u.only;
          }

-- BRANCHES

abbrev LeadsOf : {A : Type 0} (Q : A → Cur → Type 0) (s : List ℕ) (c : Cur) → Reader A → Type 0
LeadsOf Q s c m = Leads (m s c) Q

module _ {A : Type 0} {Q : A → Cur → Type 0} (a b : Reader A) (names : ℕ) {s : List ℕ} {at : ℕ} (k : Counts) where
  pub either_unled : {e : Refusal} → Gives (below 2) s at (Err e) → Leads (either a b s (cursor at names k)) Q
  unfolding either
  either_unled g = leads_unread _ k (reads {names = names} g)

  module _ {v n : ℕ} (g : Gives (below 2) s at (Ok (v, n))) where
    pub either_leads : v ≡ 0 → Leads (a s (cursor n names k)) Q → Leads (either a b s (cursor at names k)) Q
    unfolding either
    either_leads z h = leads_read _ k (reads {names = names} g) (rw z h)

    second_go : (u : ℕ) → (u ≡ 0 → ⊥) → Leads (b s (cursor n names k)) Q → LeadsOf Q s (cursor n names k) (elim u [ zero ↦ a | suc _ ↦ b ])
    second_go zero z h = absurd (z refl)
    second_go (suc u) z h = h

    pub either_second : (v ≡ 0 → ⊥) → Leads (b s (cursor n names k)) Q → Leads (either a b s (cursor at names k)) Q
    unfolding either
    either_second z h = leads_read _ k (reads {names = names} g) (second_go v z h)

-- the If of number k, whose inner statements stand in the rows from k + 1 on, gets its own row
module _ {names left k previous : ℕ} {w w₁ w₂ : List ℕ} {r : Shaped} {n : ℕ} {c : C.Counts} where
  if_laid : {base inside op : ℕ} {p q₁ q₂ : Spot} {x y : Expr Spot} {t : Stm Spot stmt} {e : Stm Spot else_branch} → (Row w₂ k 6 inside 0 → Rows w₂ (suc left) k (single (if_else p op q₁ q₂ x y t e)) c.statements)
      → k < 2048 → 13312 ≤ length w₁ → k + 1 ≤ base → base ≤ c.statements → Only base c.statements w w₁ → SetsRow k 6 previous inside 0 w₁ w₂ → EndsAt n c k r
      → (l : Laid names (suc left) k previous (if_else p op q₁ q₂ x y t e) (cursor n names (counts_of c)) w (Ok r) w₂) × (base ≤ l.counts.statements)
  if_laid f low long h₁ h o u end = (
    record {
      end = n;
      counts = c;
      told = ap (λ (x : Shaped). Ok x) (end.is low);
      cur = refl;
      before = u.before low long;
      rows = f (u.row low long);
      only = only_then o u.only (omega arith) (omega arith) (omega arith) (omega arith);
    },
    h,
  )

elses : {q : Got (Stm Spot else_branch)} {names left : ℕ} {counts : C.Counts} {k previous : ℕ} {w : List ℕ} {r : Result Shaped Refusal} {w' : List ℕ}
    → (13312 ≤ length w → k < 2048 → (t : Stm Spot stmt) (p r₁ r₂ : Spot) (op : ℕ) (x y : Expr Spot) → Rows w left (k + 1) (single t) counts.statements → Leads q (λ e c. (l : Laid names (suc left) k previous (if_else p op r₁ r₂ x y t e) c w r w') × (counts.statements ≤ l.counts.statements)))
    → LaysElse q names left counts k previous w r w'
elses f = record { does = λ long low rows h. (f long low _ _ _ _ _ _ _ rows).to h }

-- the rows below stay
kept_go : {l k k' m m' : ℕ} {w w' : List ℕ} {p : Part} → Only m m' w w' → m' ≤ 2048 → k' ≤ 2048 → ((i : ℕ) → k ≤ i → i < k' → Off m m' i) → Rows w l k p k' → Rows w' l k p k'
kept_go o h j f rows = rows_same (λ i h₁ h₂. only_row o h i (f i h₁ h₂) (omega arith)) rows

module _ (m : Reader (Stm Spot stmt)) {s : List ℕ} {names at left k previous : ℕ} (counts : C.Counts) {w w' : List ℕ} where
  pub else_unread : {e : Refusal} {r : Result Shaped Refusal} → Gives (below 2) s at (Err e) → LaysElse (else_of m s (cursor at names (counts_of counts))) names left counts k previous w r w'
  unfolding else_of
  else_unread g = elses λ long low t p r₁ r₂ op x y rows. either_unled _ _ names _ g

  module _ {v n : ℕ} (g : Gives (below 2) s at (Ok (v, n))) where
    pub else_none : {r : Shaped} → v ≡ 0 → SetsRow k 6 previous 0 0 w w' → EndsAt n counts k r → LaysElse (else_of m s (cursor at names (counts_of counts))) names left counts k previous w (Ok r) w'
    unfolding else_of
    else_none z u end = elses λ long low t p r₁ r₂ op x y rows. either_leads _ _ names _ g z
        (leads_ret _ _ _ (if_laid (λ row. if_row row (kept_go u.only (omega arith) (rows_high rows (omega arith)) (λ i h₁ h₂ x₁ x₂. omega arith) rows)) low long (rows_le rows) (omega arith) only_none u end))

    pub else_placeless : {e : Refusal} {r : Result Shaped Refusal} → (v ≡ 0 → ⊥) → Gives num s n (Err e) → LaysElse (else_of m s (cursor at names (counts_of counts))) names left counts k previous w r w'
    unfolding else_of
    else_placeless z g₂ = elses λ long low t p r₁ r₂ op x y rows. either_second _ _ names _ g z (leads_unpart _ _ (ends_place _ g₂))

    module _ (z : v ≡ 0 → ⊥) {v₂ a : ℕ} (g₂ : Gives num s n (Ok (v₂, a))) {w₁ : List ℕ} where
      pub else_unlaid : {e : Refusal} {r : Result Shaped Refusal} → Lays (m s (cursor a names (counts_of counts))) names left counts.statements 0 w (Err e) w₁ → LaysElse (else_of m s (cursor at names (counts_of counts))) names left counts k previous w r w'
      unfolding else_of
      else_unlaid one = elses λ long low t p r₁ r₂ op x y rows. either_second _ _ names _ g z (leads_part _ _ (ends_place _ g₂) λ p₂. leads_unlaid _ m s a counts long one)

      pub else_in : {c r : Shaped} → Lays (m s (cursor a names (counts_of counts))) names left counts.statements 0 w (Ok c) w₁ → SetsRow k 6 previous c.last 0 w₁ w' → EndsAt c.at c.counts k r → LaysElse (else_of m s (cursor at names (counts_of counts))) names left counts k previous w (Ok r) w'
      unfolding else_of
      else_in {c} one u end = elses λ long low t p r₁ r₂ op x y rows. either_second _ _ names _ g z (leads_part _ _ (ends_place _ g₂) λ p₂.
          leads_laid _ m s a counts long one λ t₂ this rows₂ before only.
          let top : c.counts.statements ≤ 2048 = rows_high rows₂ (omega (arith, rows_below rows₂)) in
          let up : counts.statements < c.counts.statements = rows_lt rows₂ in
          let le : k + 1 ≤ counts.statements = rows_le rows in
          let one₁ = kept_go only top (omega arith) (λ i h₁ h₂ x₁ x₂. omega arith) rows in
          leads_ret _ _ _ (if_laid
          (λ row. else_row (subst (λ (i : ℕ). Row w' k 6 i 0) this row) (kept_go u.only (omega arith) (omega arith) (λ i h₁ h₂ x₁ x₂. omega arith) one₁) (kept_go u.only (omega arith) top (λ i h₁ h₂ x₁ x₂. omega arith) rows₂))
          low (omega (arith, only.long)) le (omega arith) only u end))

-- the If
module _ {names left : ℕ} (counts : C.Counts) (s : List ℕ) (at : ℕ) {w w₁ : List ℕ} (long : 13312 ≤ length w) where
  pub branches_unlaid : {Q : Stm Spot stmt → Cur → Type 0} {e : Refusal} (f : Stm Spot stmt → Reader (Stm Spot stmt)) → Lays (read_stmt left s (cursor at names (counts_of counts))) names left counts.statements 0 w (Err e) w₁ → Leads ((read_stmt left >>= f) s (cursor at names (counts_of counts))) Q
  branches_unlaid f one = leads_unlaid f _ _ _ _ long one

  pub branches_laid : {k previous : ℕ} {a : Shaped} {r : Result Shaped Refusal} {w₂ : List ℕ} (p q₁ q₂ : Spot) (op : ℕ) (x y : Expr Spot) → counts.statements ≡ k + 1 → k < 2048 → Lays (read_stmt left s (cursor at names (counts_of counts))) names left counts.statements 0 w (Ok a) w₁
      → LaysElse (else_of (read_stmt left) s (cursor a.at names (counts_of a.counts))) names left a.counts k previous w₁ r w₂
      → Leads ((read_stmt left >>= λ a. else_of (read_stmt left) >>= λ b. ret (if_else p op q₁ q₂ x y a b)) s (cursor at names (counts_of counts))) (λ t c. Laid names (suc left) k previous t c w r w₂)
  branches_laid {k} {a = a} {r} {w₂} p q₁ q₂ op x y n low one other = leads_laid _ _ _ _ _ long one λ t this rows before only.
      leads_bind _ _ _ _ λ b d q.
      let rows₁ : Rows w₁ left (k + 1) (single t) a.counts.statements = subst (λ (i : ℕ). Rows w₁ left i (single t) a.counts.statements) n rows in
      let (l, up) = other.does (omega (arith, only.long)) low rows₁ q in
      leads_ret _ _ _ (record { end = l.end; counts = l.counts; told = l.told; cur = l.cur; rows = l.rows; before = l.before; only = only_then only l.only (omega arith) up (omega arith) (omega arith) })

-- an If's parts, one after another, up to its else branch
module _ {s : List ℕ} {names left at : ℕ} {counts : C.Counts} {k previous : ℕ} {w : List ℕ} {r : Result Shaped Refusal} {w' : List ℕ} where
  pub if_placeless : {e : Refusal} → Gives num s at (Err e) → LaysKind (read_if left (read_stmt left) s (cursor at names (counts_of counts))) names left counts k previous w r w'
  unfolding read_if
  if_placeless g = record { lays = λ n low. lays_leads λ long. leads_unpart _ _ (ends_place _ g) }

  module _ {v a : ℕ} (g : Gives num s at (Ok (v, a))) where
    pub if_operatorless : {e : Refusal} → Skips operator s a (Err e) → LaysKind (read_if left (read_stmt left) s (cursor at names (counts_of counts))) names left counts k previous w r w'
    unfolding read_if
    if_operatorless g₁ = record { lays = λ n low. lays_leads λ long. leads_part _ _ (ends_place _ g) λ p. operator_unled _ _ _ g₁ }

    module _ {b : ℕ} (g₁ : Skips operator s a (Ok b)) where
      pub if_unread : {e : Refusal} → Ends (read left expr) s names b (Err e) → LaysKind (read_if left (read_stmt left) s (cursor at names (counts_of counts))) names left counts k previous w r w'
      unfolding read_if
      if_unread g₂ = record { lays = λ n low. lays_leads λ long. leads_part _ _ (ends_place _ g) λ p. operator_leads _ _ _ g₁ λ op q₁ q₂. leads_unpart _ _ g₂ }

      module _ {c : ℕ} (g₂ : Ends (read left expr) s names b (Ok c)) where
        pub if_half_read : {e : Refusal} → Ends (read left expr) s names c (Err e) → LaysKind (read_if left (read_stmt left) s (cursor at names (counts_of counts))) names left counts k previous w r w'
        unfolding read_if
        if_half_read g₃ = record { lays = λ n low. lays_leads λ long. leads_part _ _ (ends_place _ g) λ p. operator_leads _ _ _ g₁ λ op q₁ q₂. leads_part _ _ g₂ λ x. leads_unpart _ _ g₃ }

        module _ {d : ℕ} (g₃ : Ends (read left expr) s names c (Ok d)) {w₁ : List ℕ} where
          pub if_unlaid : {e : Refusal} → Lays (read_stmt left s (cursor d names (counts_of counts))) names left counts.statements 0 w (Err e) w₁ → LaysKind (read_if left (read_stmt left) s (cursor at names (counts_of counts))) names left counts k previous w r w'
          unfolding read_if
          if_unlaid g₄ = record { lays = λ n low. lays_leads λ long. leads_part _ _ (ends_place _ g) λ p. operator_leads _ _ _ g₁ λ op q₁ q₂. leads_part _ _ g₂ λ x. leads_part _ _ g₃ λ y. branches_unlaid counts s d long _ g₄ }

          pub if_laid_out : {a₁ : Shaped} → Lays (read_stmt left s (cursor d names (counts_of counts))) names left counts.statements 0 w (Ok a₁) w₁ → LaysElse (else_of (read_stmt left) s (cursor a₁.at names (counts_of a₁.counts))) names left a₁.counts k previous w₁ r w'
              → LaysKind (read_if left (read_stmt left) s (cursor at names (counts_of counts))) names left counts k previous w r w'
          unfolding read_if
          if_laid_out g₄ g₅ = record { lays = λ n low. lays_leads λ long. leads_part _ _ (ends_place _ g) λ p. operator_leads _ _ _ g₁ λ op q₁ q₂. leads_part _ _ g₂ λ x. leads_part _ _ g₃ λ y. branches_laid counts s d long p q₁ q₂ op x y n low g₄ g₅ }

-- BLOCKS

module _ (m : Reader (Stm Spot stmt)) (counts : C.Counts) {s : List ℕ} {names at left k previous : ℕ} {w w' : List ℕ} where
  pub block_placeless : {e : Refusal} {r : Result Shaped Refusal} → Gives num s at (Err e) → LaysKind (read_block m s (cursor at names (counts_of counts))) names left counts k previous w r w'
  unfolding read_block
  block_placeless g = record { lays = λ n low. lays_leads λ long. leads_unpart _ _ (ends_place _ g) }

  module _ {v a : ℕ} (g : Gives num s at (Ok (v, a))) {w₁ : List ℕ} where
    pub block_unlaid : {e : Refusal} {r : Result Shaped Refusal} → LaysList (listed m s (cursor a names (counts_of counts))) names left counts.statements w (Err e) w₁ → LaysKind (read_block m s (cursor at names (counts_of counts))) names left counts k previous w r w'
    unfolding read_block
    block_unlaid inner = record { lays = λ n low. lays_leads λ long. leads_part _ _ (ends_place _ g) λ p. leads_bind _ _ _ _ λ ts d q. never_ok (inner.does long q).told }

    pub block_in : {c r : Shaped} → LaysList (listed m s (cursor a names (counts_of counts))) names left counts.statements w (Ok c) w₁ → SetsRow k 7 previous c.last 0 w₁ w' → EndsAt c.at c.counts k r → LaysKind (read_block m s (cursor at names (counts_of counts))) names left counts k previous w (Ok r) w'
    unfolding read_block
    block_in {c} {r} inner u end = record { lays = λ n low. lays_leads λ long. leads_part _ _ (ends_place _ g) λ p. leads_bind _ _ _ _ λ ts d q. leads_ret _ _ _ (go n low long ts d p (inner.does long q)) }
      where
        go : counts.statements ≡ k + 1 → k < 2048 → 13312 ≤ length w → (ts : List (Stm Spot stmt)) (d : Cur) (p : Spot) → ListLaid names left counts.statements counts.statements [] ts d w (Ok c) w₁ → Laid names (suc left) k previous (block p (to_stms ts)) d w (Ok r) w'
        go n low long ts d p l =
            let z : shaped l.end l.counts l.last ≡ c = sym (ok_same l.told) in
            let y : l.counts.statements ≡ c.counts.statements = ap (λ (x : Shaped). x.counts.statements) z in
            let top : l.counts.statements ≤ 2048 = rows_high l.rows (omega arith) in
            let row = u.row low (omega (arith, l.only.long)) in
            let rows₁ : Rows w₁ left (k + 1) (list (turned ts []) c.last) c.counts.statements = subst (λ (i : ℕ). Rows w₁ left i (list (turned ts []) c.last) c.counts.statements) n
            (subst (λ (x : Shaped). Rows w₁ left counts.statements (list (turned ts []) x.last) x.counts.statements) z l.rows) in
            let up : k + 1 ≤ c.counts.statements = rows_le rows₁ in
            record {
              end = c.at;
              counts = c.counts;
              told = ap (λ (x : Shaped). Ok x) (end.is low);
              before = u.before low (omega (arith, l.only.long));
              cur = l.cur ∙ ap (λ (x : Shaped). cursor x.at names (counts_of x.counts)) z;
              rows = block_row ts row (kept_go u.only (omega arith) (omega arith) (λ i h₁ h₂ x₁ x₂. omega arith) rows₁);
              only = only_then l.only u.only (omega arith) (omega arith) (omega arith) (omega arith);
            }

-- LISTS

-- whatever q reads behind the statements before, it is laid out
pub record LaysMore (q : Got (List (Stm Spot stmt))) (names left k m last : ℕ) (w : List ℕ) (r : Result Shaped Refusal) (w' : List ℕ) : Type 0 where
  pub does : 13312 ≤ length w → {rs ts : List (Stm Spot stmt)} {c : Cur} → Rows w left k (list rs last) m → q ≡ got ts c → ListLaid names left k m rs ts c w r w'

none_laid : (M : Reader (Stm Spot stmt)) (s : List ℕ) {names left k cur last : ℕ} {more : C.Counts} {w : List ℕ} {rs ts : List (Stm Spot stmt)} {c : Cur} → many M 0 s (cursor cur names (counts_of more)) ≡ got ts c → Rows w left k (list rs last) more.statements → ListLaid names left k more.statements rs ts c w (Ok (shaped cur more last)) w
unfolding many ret turned
none_laid M s {names} {left} {k} {cur} {last} {more} {w} {rs} {ts} {c} e rows =
    let u : [] ≡ ts = cc in
    let v : cursor cur names (counts_of more) ≡ c = cc in
    record { end = cur; counts = more; last = last; told = refl; cur = sym v; grown = omega arith; only = only_none; rows = subst (λ (x : List (Stm Spot stmt)). Rows w left k (list (turned x rs) last) more.statements) u rows }

cons_laid : {names left k m m' : ℕ} {rs xs : List (Stm Spot stmt)} (t : Stm Spot stmt) {d : Cur} {w₁ w₂ w₃ : List ℕ} {r : Result Shaped Refusal} → m < m' → Only m m' w₁ w₂ → ListLaid names left k m' (t ∷ rs) xs d w₂ r w₃ → ListLaid names left k m rs (t ∷ xs) d w₁ r w₃
unfolding turned
cons_laid t up o l = record { end = l.end; counts = l.counts; last = l.last; told = l.told; cur = l.cur; rows = l.rows; grown = omega (arith, l.grown); only = only_then o l.only (omega arith) l.grown (omega arith) (omega arith) }

pub many_step : {A : Type 0} {Q : List A → Cur → Type 0} (M : Reader A) (s : List ℕ) (c : Cur) (j : ℕ) → (j ≡ 0 → ⊥) → Leads ((M >>= λ a. many M (j - 1) >>= λ xs. ret (a ∷ xs)) s c) Q → Leads (many M j s c) Q
unfolding many
many_step M s c zero y h = absurd (y refl)
many_step {Q} M s c (suc j) y h = let q : suc j - 1 ≡ j = omega arith in subst (λ (i : ℕ). Leads ((M >>= λ a. many M i >>= λ xs. ret (a ∷ xs)) s c) Q) q h

module _ (M : Reader (Stm Spot stmt)) (s : List ℕ) (a : Shaped) {names left k : ℕ} {w₁ w₂ : List ℕ} (rest : ℕ) (z : rest ≡ 0 → ⊥) where
  halt_laid : {e : Refusal} {r : Result Shaped Refusal} {w' : List ℕ} → Lays (M s (cursor a.at names (counts_of a.counts))) names left a.counts.statements a.last w₁ (Err e) w₂ → LaysMore (many M rest s (cursor a.at names (counts_of a.counts))) names left k a.counts.statements a.last w₁ r w'
  halt_laid {r = r} {w'} one = record { does = λ long {rs} rows e. (go long rs).to e }
    where
      go : 13312 ≤ length w₁ → (rs : List (Stm Spot stmt)) → Leads (many M rest s (cursor a.at names (counts_of a.counts))) (λ ts d. ListLaid names left k a.counts.statements rs ts d w₁ r w')
      go long rs = many_step M s _ rest z (leads_unlaid _ M s a.at a.counts long one)

  more_laid : {b : Shaped} {r : Result Shaped Refusal} {w₃ : List ℕ} → Lays (M s (cursor a.at names (counts_of a.counts))) names left a.counts.statements a.last w₁ (Ok b) w₂ → LaysMore (many M (rest - 1) s (cursor b.at names (counts_of b.counts))) names left k b.counts.statements b.last w₂ r w₃
      → LaysMore (many M rest s (cursor a.at names (counts_of a.counts))) names left k a.counts.statements a.last w₁ r w₃
  more_laid {b} {r} {w₃} one l = record { does = λ long {rs} rows e. (go long rs rows).to e }
    where
      go : 13312 ≤ length w₁ → (rs : List (Stm Spot stmt)) → Rows w₁ left k (list rs a.last) a.counts.statements → Leads (many M rest s (cursor a.at names (counts_of a.counts))) (λ ts d. ListLaid names left k a.counts.statements rs ts d w₁ r w₃)
      go long rs rows = many_step M s _ rest z (leads_laid _ M s a.at a.counts long one λ t e₁ rows₂ before only.
          let top : b.counts.statements ≤ 2048 = rows_high rows₂ (omega (arith, rows_below rows₂)) in
          let up : a.counts.statements < b.counts.statements = rows_lt rows₂ in
          let rows₁ = kept_go only top (omega arith) (λ i h₁ h₂ x₁ x₂. omega arith) rows in
          let all : Rows w₂ left k (list (t ∷ rs) b.last) b.counts.statements = subst (λ (i : ℕ). Rows w₂ left k (list (t ∷ rs) i) b.counts.statements) (sym e₁) (more_rows rows₁ before rows₂) in
          leads_bind _ _ _ _ λ xs d q. leads_ret _ _ _ (cons_laid t up only (l.does (omega (arith, only.long)) all q)))

-- whatever lays out the rest from here lays out the whole
pub record Laying (M : Reader (Stm Spot stmt)) (s : List ℕ) (names left n at : ℕ) (counts : C.Counts) (w : List ℕ) (rest : ℕ) (a : Shaped) (w₁ : List ℕ) : Type 0 where
  pub long : length w₁ ≡ length w
  pub on : (r : Result Shaped Refusal) (w₂ : List ℕ) → LaysMore (many M rest s (cursor a.at names (counts_of a.counts))) names left counts.statements a.counts.statements a.last w₁ r w₂ → LaysList (many M n s (cursor at names (counts_of counts))) names left counts.statements w r w₂

pub laying_start : {M : Reader (Stm Spot stmt)} {s : List ℕ} {names left n rest at : ℕ} {counts : C.Counts} {w : List ℕ} → rest ≡ n → Laying M s names left n at counts w rest (shaped at counts 0) w
laying_start z = record { long = refl; on = λ r w₂ h. record { does = λ long e. h.does long no_rows (rw z e) } }

module _ {M : Reader (Stm Spot stmt)} {s : List ℕ} {names left n at : ℕ} {counts : C.Counts} {w : List ℕ} {rest : ℕ} {a : Shaped} {w₁ : List ℕ} (g : Laying M s names left n at counts w rest a w₁) where
  pub laying_done : rest ≡ 0 → LaysList (many M n s (cursor at names (counts_of counts))) names left counts.statements w (Ok a) w₁
  laying_done z = g.on _ _ (record { does = λ long {rs} {ts} {c} rows e. none_laid M s (subst (λ (i : ℕ). many M i s (cursor a.at names (counts_of a.counts)) ≡ got ts c) z e) rows })

  module _ (z : rest ≡ 0 → ⊥) {w₂ : List ℕ} where
    pub laying_halt : {e : Refusal} {r : Result Shaped Refusal} {w' : List ℕ} → Lays (M s (cursor a.at names (counts_of a.counts))) names left a.counts.statements a.last w₁ (Err e) w₂ → LaysList (many M n s (cursor at names (counts_of counts))) names left counts.statements w r w'
    laying_halt one = g.on _ _ (halt_laid M s a rest z one)

    pub laying_more : {rest' : ℕ} {b : Shaped} → rest' ≡ rest - 1 → Lays (M s (cursor a.at names (counts_of a.counts))) names left a.counts.statements a.last w₁ (Ok b) w₂ → length w₂ ≡ length w₁ → Laying M s names left n at counts w rest' b w₂
    laying_more e one l = rw e (record { long = l ∙ g.long; on = λ r w₃ k. g.on r w₃ (more_laid M s a rest z one k) })

-- a list's count and its statements
module _ (M : Reader (Stm Spot stmt)) (counts : C.Counts) {s : List ℕ} {names at left : ℕ} {w : List ℕ} {r : Result Shaped Refusal} {w' : List ℕ} where
  pub list_unread : {e : Refusal} → Gives num s at (Err e) → LaysList (listed M s (cursor at names (counts_of counts))) names left counts.statements w r w'
  unfolding listed
  list_unread g = record { does = λ long h. go.to h }
    where
      go : Leads ((num >>= many M) s (cursor at names (counts_of counts))) (λ ts c. ListLaid names left counts.statements counts.statements [] ts c w r w')
      go = leads_unread _ _ (reads g)

  pub list_read : {n a : ℕ} → Gives num s at (Ok (n, a)) → LaysList (many M n s (cursor a names (counts_of counts))) names left counts.statements w r w' → LaysList (listed M s (cursor at names (counts_of counts))) names left counts.statements w r w'
  unfolding listed
  list_read g l = record { does = λ long h. (go long).to h }
    where
      go : 13312 ≤ length w → Leads ((num >>= many M) s (cursor at names (counts_of counts))) (λ ts c. ListLaid names left counts.statements counts.statements [] ts c w r w')
      go long = leads_read _ _ (reads g) (record { to = λ h. l.does long h })

pub ruleset lay_laws = (lay_unread, lay_deep, lay_many)

pub ruleset lay_goto_laws = (jump_unread, jump_placeless, goto_laid)

pub ruleset lay_label_laws = (jump_unread, jump_placeless, label_laid)

pub ruleset lay_branches_laws = (if_placeless, if_operatorless, if_unread, if_half_read, if_unlaid, if_laid_out)

pub ruleset lay_else_laws = (else_unread, else_none, else_placeless, else_unlaid, else_in)

pub ruleset lay_block_laws = (block_placeless, block_unlaid, block_in)

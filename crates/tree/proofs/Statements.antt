-- Statements: their heads, and what follows their kinds.
use Rattle.std.proofs.Common.{ℕ, zero, suc, ◌+◌, ◌-◌, ◌≤◌, ◌≡◌, ◌≢◌, refl, sym, ap, ◌∙◌, true, false, List, get_or, length, if◌then◌else◌, nat_eq, arith, Option, Some, None, Ok, Err}
use lib.Dec.{eqb, lit≤}
use borrow.Author.Tests.{ne_eqb, eqb-true, eqb-false}
use Rattle.penne.specs.Reader.{Counts, Cur, Got, got, refused, Reader, ◌>>=◌, ret, num, below, fits, plus, counted, counting, too_deep, an_entry}
use Rattle.nodes.specs.Parts.{operation}
use Rattle.penne.specs.Tree.{Spot, Expr, stmt, Stm, goto, label, loop, if_else, no_else, or_else, bad_stmt, expr}
use Rattle.penne.specs.Read.{place, read, read_poison, read_stmt, stmt_head, stmt_of, StmtKind, stmt_kinds, stmt_counts, k_declaration, k_assignment, k_method_call, k_loop, k_goto, k_label, k_if, k_block, k_bad_stmt, read_declaration, read_assignment, read_method_call, read_jump, read_if, read_block, else_of}
use Rattle.fields.specs.declared.counts.Counts as C
use Rattle.fields.specs.declared.refusal.Reason.TheVariants.{TooDeep, TooMany}
use Rattle.fields.specs.declared.refusal.Refusal.{Refusal}
use Rattle.fields.specs.Answers.{cursor, forget, Gives, Passes, Counting, counts_of, together, identifier_and_number, operator}
use Rattle.fields.proofs.Chain.{after, then_is, assoc, operator_same}
use Rattle.fields.proofs.Parts.{tail_is, identifier_and_place_is, by_tag, either_is, place_got, place_refused}
use Rattle.fields.proofs.Counting.{counts_in, counting_is}
use Rattle.std.proofs.lemmas.List.{get_or_past}

-- A FIRST NUMBER THAT COUNTS

-- what follows, where so much is counted by then; row 8 stands at the first number
abbrev pub counted_end : {A : Type 0} → Reader A → List ℕ → (at : ℕ) → Cur → Option Counts → Got (Unit {0})
counted_end m s at d (Some k) = forget (m s (cursor d.at d.names k))
counted_end m s at d None = refused 8 at

-- the end of what begins so, by what was read first
abbrev pub first_end : {A B : Type 0} → (A → Counts) → (A → Reader B) → List ℕ → (at : ℕ) → Got A → Got (Unit {0})
first_end f g s at (got a d) = counted_end (g a) s at d (together d.counts (f a))
first_end f g s at (refused i p) = refused i p

first_go : {A B : Type 0} (f : A → Counts) (g : A → Reader B) (s : List ℕ) (at : ℕ) (q : Got A) → forget (after g s (counts_in f at q)) ≡ first_end f g s at q
unfolding forget together counted
first_go {A} f g s at (got a d) = (elim (fits (plus d.counts (f a))) as (λ t. forget (after g s (if t then got a (counted d (f a)) else refused 8 at)) ≡ counted_end (g a) s at d (elim t as (λ _. Option Counts) [ true ↦ Some (plus d.counts (f a)) | false ↦ None ])) [ true ↦ refl | false ↦ refl ])
first_go f g s at (refused i p) = refl

pub first_is : {A B : Type 0} (f : A → Counts) (m : Reader A) (g : A → Reader B) (s : List ℕ) (c : Cur) → forget ((counting f m >>= g) s c) ≡ first_end f g s c.at (m s c)
first_is f m g s c = ap forget (then_is _ g s c ∙ ap (after g s) (counting_is f m s c)) ∙ first_go f g s c.at (m s c)

-- a kind, looked up in its table
abbrev pub looked_up : {K : Type 0} → (ℕ → K) → Got ℕ → Got K
looked_up g (got v d) = got (g v) d
looked_up g (refused i p) = refused i p

module _ {K : Type 0} (g : ℕ → K) (limit : ℕ) where
  look_go : (s : List ℕ) (q : Got ℕ) → after (λ n. ret (g n)) s q ≡ looked_up g q
  unfolding ret
  look_go s (got v d) = refl
  look_go s (refused i p) = refl

  pub look_is : (s : List ℕ) (c : Cur) → (below limit >>= λ n. ret (g n)) s c ≡ looked_up g (below limit s c)
  look_is s c = then_is _ _ s c ∙ look_go s (below limit s c)

  pub kind_value : {s : List ℕ} {names at v n : ℕ} → Gives (below limit) s at (Ok (v, n)) → (k : Counts) → (below limit >>= λ n. ret (g n)) s (cursor at names k) ≡ got (g v) (cursor n names k)
  kind_value h k = look_is _ _ ∙ ap (looked_up g) (h.is _ k)

-- STATEMENTS

abbrev pub kind_of : ℕ → StmtKind
kind_of k = get_or stmt_kinds k k_bad_stmt

-- a statement's end, by what its kind's number was read as
abbrev pub stmt_end : (left : ℕ) → List ℕ → (at : ℕ) → Got ℕ → Got (Unit {0})
stmt_end left s at (got v d) = if nat_eq left 0 then refused 7 at else counted_end (stmt_of (left - 1) (read_stmt (left - 1)) (kind_of v)) s at d (together d.counts (stmt_counts (kind_of v)))
stmt_end left s at (refused i p) = refused i p

deep_go : (s : List ℕ) (at : ℕ) (q : Got ℕ) → forget {A = Stm Spot stmt} (elim (looked_up kind_of q) as (λ _. Got (Stm Spot stmt)) [ got v d ↦ refused 7 at | refused i p ↦ refused i p ]) ≡ stmt_end 0 s at q
unfolding forget
deep_go s at (got v d) = refl
deep_go s at (refused i p) = refl

in_go : (l : ℕ) (s : List ℕ) (at : ℕ) (q : Got ℕ) → first_end stmt_counts (stmt_of l (read_stmt l)) s at (looked_up kind_of q) ≡ stmt_end (suc l) s at q
in_go l s at (got v d) =
    let e : suc l - 1 ≡ l = omega arith in
    let z : eqb (suc l) 0 ≡ false = ne_eqb (suc l) 0 (λ x. absurd (omega (arith, x))) in
    rw (z, e) refl
in_go l s at (refused i p) = refl

pub stmt_is : (left : ℕ) (s : List ℕ) (c : Cur) → forget (read_stmt left s c) ≡ stmt_end left s c.at (below 9 s c)
unfolding read_stmt stmt_head too_deep
stmt_is zero s c = ap (λ (q : Got StmtKind). forget {A = Stm Spot stmt} (elim q as (λ _. Got (Stm Spot stmt)) [ got v d ↦ refused 7 c.at | refused i p ↦ refused i p ])) (look_is kind_of 9 s c) ∙ deep_go s c.at (below 9 s c)
stmt_is (suc l) s c = first_is stmt_counts stmt_head _ s c ∙ ap (first_end stmt_counts (stmt_of l (read_stmt l)) s c.at) (look_is kind_of 9 s c) ∙ in_go l s c.at (below 9 s c)

-- a statement that is refused at its first number
module _ {s : List ℕ} {names : ℕ} {k : C.Counts} {at : ℕ} where
  pub stmt_unread : (left : ℕ) {e : Refusal} → Gives (below 9) s at (Err e) → Passes (read_stmt left) s names k at (Err e)
  stmt_unread left g = record { is = stmt_is left s _ ∙ ap (stmt_end left s at) (g.is names (counts_of k)) }

  module _ (left : ℕ) {v n : ℕ} (g : Gives (below 9) s at (Ok (v, n))) where
    pub stmt_deep : left ≡ 0 → Passes (read_stmt left) s names k at (Err (record { reason = TooDeep; place = at }))
    stmt_deep z = record { is = stmt_is left s _ ∙ ap (stmt_end left s at) (g.is names (counts_of k)) ∙ rw z }

    pub stmt_many : left ≢ 0 → {b : C.Counts} → Counting k b None → counts_of b ≡ stmt_counts (kind_of v) → Passes (read_stmt left) s names k at (Err (record { reason = TooMany; place = at }))
    stmt_many z h u = record { is = stmt_is left s _ ∙ ap (stmt_end left s at) (g.is names (counts_of k)) ∙ rw (ne_eqb left 0 z, ← u, h.is) }

-- the same of a parameter or a member
module _ {B : Type 0} (F : Spot → Reader B) {s : List ℕ} {names : ℕ} {k : C.Counts} {at : ℕ} where
  pub entry_unread : {e : Refusal} → Gives num s at (Err e) → Passes (counting (λ _. an_entry) place >>= F) s names k at (Err e)
  entry_unread g = record { is = first_is _ _ F s _ ∙ ap (first_end (λ _. an_entry) F s at) (place_refused s _ (g.is names (counts_of k))) }

  pub entry_many : {v n : ℕ} → Gives num s at (Ok (v, n)) → {b : C.Counts} → Counting k b None → counts_of b ≡ an_entry → Passes (counting (λ _. an_entry) place >>= F) s names k at (Err (record { reason = TooMany; place = at }))
  entry_many g h u = record { is = first_is _ _ F s _ ∙ ap (first_end (λ _. an_entry) F s at) (place_got s _ (g.is names (counts_of k))) ∙ rw (← u, h.is) }

-- a table's entry from the last one on, where the default is the last one too
pub from_last : {A : Type 0} (l : List A) (n : ℕ) (d : A) → get_or l n d ≡ d → length l ≤ n + 1 → (k : ℕ) → n ≤ k → get_or l k d ≡ d
from_last l n d e h k i = (elim (eqb k n) as (λ b. eqb k n ≡ b → get_or l k d ≡ d) [
  | true ↦ λ z. rw (eqb-true k n z, e)
  | false ↦ λ z. let w : k ≢ n = eqb-false k n z in get_or_past l k d (omega arith)
]) refl

bad_kind : (k : ℕ) → 8 ≤ k → kind_of k ≡ k_bad_stmt
unfolding stmt_kinds
bad_kind k h = from_last stmt_kinds 8 k_bad_stmt refl (lit≤ tt) k h

module _ (d : ℕ) (m : Reader (Stm Spot stmt)) (k : ℕ) (s : List ℕ) (c : Cur) where
  as_kind : (x : StmtKind) → kind_of k ≡ x → forget (stmt_of d m (kind_of k) s c) ≡ forget (stmt_of d m x s c)
  as_kind x e = ap (λ (y : StmtKind). forget (stmt_of d m y s c)) e

  pub declaration_kind : k ≡ 0 → forget (stmt_of d m (kind_of k) s c) ≡ forget (read_declaration d s c)
  unfolding stmt_of stmt_kinds
  declaration_kind e = as_kind k_declaration (rw e)

  pub assignment_kind : k ≡ 1 → forget (stmt_of d m (kind_of k) s c) ≡ forget (read_assignment d s c)
  unfolding stmt_of stmt_kinds
  assignment_kind e = as_kind k_assignment (rw e)

  pub method_call_kind : k ≡ 2 → forget (stmt_of d m (kind_of k) s c) ≡ forget (read_method_call d s c)
  unfolding stmt_of stmt_kinds
  method_call_kind e = as_kind k_method_call (rw e)

  pub loop_kind : k ≡ 3 → forget (stmt_of d m (kind_of k) s c) ≡ forget (place s c)
  unfolding stmt_of stmt_kinds
  loop_kind e = as_kind k_loop (rw e) ∙ tail_is loop place s c

  pub goto_kind : k ≡ 4 → forget (stmt_of d m (kind_of k) s c) ≡ forget (identifier_and_number s c)
  unfolding stmt_of stmt_kinds read_jump
  goto_kind e = as_kind k_goto (rw e) ∙ identifier_and_place_is goto s c

  pub label_kind : k ≡ 5 → forget (stmt_of d m (kind_of k) s c) ≡ forget (identifier_and_number s c)
  unfolding stmt_of stmt_kinds read_jump
  label_kind e = as_kind k_label (rw e) ∙ identifier_and_place_is label s c

  pub if_kind : k ≡ 6 → forget (stmt_of d m (kind_of k) s c) ≡ forget (read_if d m s c)
  unfolding stmt_of stmt_kinds
  if_kind e = as_kind k_if (rw e)

  pub block_kind : k ≡ 7 → forget (stmt_of d m (kind_of k) s c) ≡ forget (read_block m s c)
  unfolding stmt_of stmt_kinds
  block_kind e = as_kind k_block (rw e)

  pub poison_kind : 8 ≤ k → forget (stmt_of d m (kind_of k) s c) ≡ forget (read_poison s c)
  unfolding stmt_of
  poison_kind h = as_kind k_bad_stmt (bad_kind k h) ∙ tail_is bad_stmt read_poison s c

pub ruleset kinds = (declaration_kind, assignment_kind, method_call_kind, loop_kind, goto_kind, label_kind, if_kind, block_kind, poison_kind, then_is)

-- the condition of an If, read at once
condition_same : {B : Type 0} (d : ℕ) (K : ℕ → Spot × Spot → Expr Spot → Expr Spot → Reader B) → (num >>= λ op. place >>= λ p. place >>= λ q. read d expr >>= λ x. read d expr >>= λ y. K op (p, q) x y) ≡ (operation (read d) >>= λ t. K t.0.0 t.0.1 t.1.0 t.1.1)
unfolding operation ◌>>=◌ ret
condition_same d K =
    operator_same (λ op p. read d expr >>= λ x. read d expr >>= λ y. K op p x y) ∙
    sym (assoc {B = (ℕ × (Spot × Spot)) × (Expr Spot × Expr Spot)} operator (λ o. read d expr >>= λ x. read d expr >>= λ y. ret (o, (x, y))) (λ t. K t.0.0 t.0.1 t.1.0 t.1.1) ∙
    ap (λ (g : ℕ × (Spot × Spot) → Reader _). operator >>= g) (λ j o. (assoc {B = (ℕ × (Spot × Spot)) × (Expr Spot × Expr Spot)} (read d expr) (λ x. read d expr >>= λ y. ret (o, (x, y))) (λ t. K t.0.0 t.0.1 t.1.0 t.1.1) ∙ ap (λ (g : Expr Spot → Reader _). read d expr >>= g) (λ l x. assoc {B = (ℕ × (Spot × Spot)) × (Expr Spot × Expr Spot)} (read d expr) (λ y. ret (o, (x, y))) (λ t. K t.0.0 t.0.1 t.1.0 t.1.1) l)) j))

module _ (m : Reader (Stm Spot stmt)) (s : List ℕ) (c : Cur) where
  pub if_is : (d : ℕ) → forget (read_if d m s c) ≡ forget ((place >>= λ p. operation (read d) >>= λ t. m >>= λ a. else_of m >>= λ b. ret (if_else p t.0.0 t.0.1.0 t.0.1.1 t.1.0 t.1.1 a b)) s c)
  unfolding read_if
  if_is d = ap (λ (g : Spot → Reader (Stm Spot stmt)). forget ((place >>= g) s c)) (λ i p. condition_same d (λ op q x y. m >>= λ a. else_of m >>= λ b. ret (if_else p op q.0 q.1 x y a b)) i)

  pub else_is : forget (else_of m s c) ≡ by_tag (λ d. got tt d) (λ d. forget ((place >>= λ p. m >>= λ t. ret (or_else p t)) s d)) (below 2 s c)
  unfolding else_of ret forget
  else_is = either_is (ret no_else) (place >>= λ p. m >>= λ t. ret (or_else p t)) s c

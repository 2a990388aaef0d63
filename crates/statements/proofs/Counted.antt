-- A statement's kind is read, and the statement is counted.
use mathlib.Core.Path.{◌≡◌, refl, sym, ap, subst, ◌∙◌}
use mathlib.Core.Bool.{true}
use mathlib.Core.List.{List, [], ◌∷◌}
use Prim.Native.Nat.{ℕ, zero, suc, ◌+◌, ◌-◌, ◌≤◌, ◌<◌}
use native.Mathlib.Omega.{arith}
use lib.ListN.{get_or}
use Rattle.std.specs.Prelude.{Result, Ok, Err, Option, Some, None}
use Rattle.fields.specs.declared.refusal.Refusal.{Refusal}
use Rattle.penne.specs.Tree.{Spot, stmt, Stm}
use Rattle.penne.specs.Reader.{Counts, Cur, below, plus, fits, a_statement, an_entry, counted}
use Rattle.penne.specs.Read.{read_stmt, stmt_of, stmt_head, StmtKind, stmt_kinds, stmt_counts, k_declaration, k_assignment, k_method_call, k_loop, k_goto, k_label, k_if, k_block, k_bad_stmt}
use Rattle.penne.specs.Write.{stm_b}
use Rattle.fields.specs.declared.counts.Counts as K
use Rattle.fields.specs.Answers.{cursor, counts_of, Gives, Counting}
use Rattle.fields.proofs.Counting.{fitted}
use Rattle.tree.proofs.Statements as T
use Rattle.label_references.specs.Marked.{rest}
use Rattle.label_references.proofs.Laying.{fits_statements, one_statement}
use Rattle.containers.proofs.Lists.{and_true}
use Rattle.walk.specs.declared.state.Walk.{Walk}
use Rattle.walk.specs.Walking.{moved_to, with_counts, here, Rest, Ground, Marks, Is, Leads, Walks}
use Rattle.walk.proofs.Leading.{walks, leads_unpassed, leads_counting}
use Rattle.walk.proofs.Writing.{moved_on}
use Rattle.walk.proofs.Writing as W
use Rattle.statement_parts.specs.Stating.{leaving, stm_walk, behind, Follows, Numbered}
use Rattle.statement_parts.proofs.Fit.{good_unbehind}

-- A STATEMENT THAT CAN NOT BE READ

read : {t : List ℕ} {at : ℕ} {m x : Result (ℕ × ℕ) Refusal} → Gives (below 9) t at m → m ≡ x → Gives (below 9) t at x
read {t} {at} h e = subst (λ (q : Result (ℕ × ℕ) Refusal). Gives (below 9) t at q) e h

module _ {t : List ℕ} {s : Walk} {m₁ : Result (ℕ × ℕ) Refusal} (h : Gives (below 9) t s.at m₁) (left : ℕ) {o l w : List ℕ} {r : Walk} {o' l' w' : List ℕ} where
  pub stmt_unread : {x : Refusal} → m₁ ≡ Err x → Walks t (read_stmt left) (stm_walk stm_b) s o l w r o' l' w'
  stmt_unread e = walks λ j a z. leads_unpassed (T.stmt_unread left (read h e))

  module _ {v n : ℕ} (e : m₁ ≡ Ok (v, n)) where
    pub stmt_deep : left ≡ 0 → Walks t (read_stmt left) (stm_walk stm_b) s o l w r o' l' w'
    stmt_deep z = walks λ j a y. leads_unpassed (T.stmt_deep left (read h e) z)

    pub stmt_many : {b : K.Counts} {y : Option K.Counts} → Counting s.counts b y → counts_of b ≡ stmt_counts (get_or stmt_kinds v k_bad_stmt) → (left ≡ 0 → ⊥) → y ≡ None → Walks t (read_stmt left) (stm_walk stm_b) s o l w r o' l' w'
    stmt_many {b} g u z q = walks λ j a y. leads_unpassed (T.stmt_many left (read h e) z (subst (λ (x : Option K.Counts). Counting s.counts b x) q g) u)

-- WHAT IS COUNTED

get_or_rest : (os : List ℕ) (k : ℕ) → get_or os (suc k) 0 ≡ get_or (rest os) k 0
unfolding rest
get_or_rest [] zero = refl
get_or_rest [] (suc k) = refl
get_or_rest (o ∷ os) k = refl

no_others : (x : StmtKind) → ((stmt_counts x).containers ≡ 0) × ((stmt_counts x).functions ≡ 0)
unfolding stmt_counts plus a_statement an_entry
no_others k_declaration = (refl, refl)
no_others k_assignment = (refl, refl)
no_others k_method_call = (refl, refl)
no_others k_loop = (refl, refl)
no_others k_goto = (refl, refl)
no_others k_label = (refl, refl)
no_others k_if = (refl, refl)
no_others k_block = (refl, refl)
no_others k_bad_stmt = (refl, refl)

an_entry_lem : (stmt_counts k_declaration).entries ≡ 1
unfolding stmt_counts plus a_statement an_entry
an_entry_lem = refl

-- what the counts are with a statement of the kind x
record More (x : StmtKind) (k c : K.Counts) : Type 0 where
  containers : c.containers ≡ k.containers
  functions : c.functions ≡ k.functions
  entries : c.entries ≡ k.entries + (stmt_counts x).entries
  statements : c.statements ≡ k.statements + 1
  low : k.statements < 2048
  few : c.entries ≤ 1024

more : {x : StmtKind} {k b c : K.Counts} {y : Option K.Counts} → Counting k b y → counts_of b ≡ stmt_counts x → y ≡ Some c → More x k c
unfolding plus
more {x} {k} {b} {c} g u e =
    let f = fitted (subst (λ (z : Option K.Counts). Counting k b z) e g) in
    let q : counts_of c ≡ plus (counts_of k) (stmt_counts x) = f.1 ∙ ap (plus (counts_of k)) u in
    let l = fits_statements (plus (counts_of k) (stmt_counts x)) (subst (λ (z : Counts). fits (plus (counts_of k) z) ≡ true) u f.0) in
    record {
      containers = omega (arith, ap (λ (z : Counts). z.containers) q, (no_others x).0);
      functions = omega (arith, ap (λ (z : Counts). z.functions) q, (no_others x).1);
      entries = ap (λ (z : Counts). z.entries) q;
      statements = omega (arith, ap (λ (z : Counts). z.statements) q, one_statement x);
      low = omega (arith, l.0, one_statement x);
      few = omega (arith, l.1, ap (λ (z : Counts). z.entries) q);
    }

marks_on : {x : StmtKind} {k c : K.Counts} {w : List ℕ} {m : Rest} → More x k c → Marks k w m → Marks c w (leaving (rest m.words) true m)
unfolding leaving
marks_on {k = k} {c} {w} {m} d h =
    let q = d.statements in
    record {
      told = λ j l. let e : c.statements + j ≡ k.statements + suc j = omega arith in ap (λ (n : ℕ). get_or w n 0) e ∙ h.told (suc j) (omega arith) ∙ get_or_rest m.words j;
      named = h.named;
      labels = h.labels;
      containers = d.containers ∙ h.containers;
      functions = d.functions ∙ h.functions;
      main = h.main;
    }

counted_is : {x : StmtKind} {s : Walk} {o l w : List ℕ} {a : Ground} {c : K.Counts} → More x s.counts c → Is s o l w a → Is (with_counts s c) o l w (behind a)
unfolding behind leaving
counted_is {a = a} {c} d i = let q = d.entries in W.counted i (leaving (rest a.rest.words) true a.rest) (omega arith) refl refl refl (λ f. (and_true _ _ f).0) (λ f h. marks_on d h)

-- THE STATEMENT GOES ON

module _ {t : List ℕ} (s : Walk) {m₁ : Result (ℕ × ℕ) Refusal} (h : Gives (below 9) t s.at m₁) where
  stmt_in : {Q : Stm Spot stmt → Cur → Type 0} (left : ℕ) {v n : ℕ} {b c : K.Counts} {y : Option K.Counts} → m₁ ≡ Ok (v, n) → (left ≡ 0 → ⊥) → Counting s.counts b y → counts_of b ≡ stmt_counts (get_or stmt_kinds v k_bad_stmt) → y ≡ Some c
      → Leads (stmt_of (left - 1) (read_stmt (left - 1)) (get_or stmt_kinds v k_bad_stmt)) t (cursor n s.script.names (counts_of c)) Q → Leads (read_stmt left) t (here s) Q
  unfolding read_stmt stmt_head counted
  stmt_in zero e z g u q k = absurd (z refl)
  stmt_in {Q} (suc j) {v} {n} {b} {c} e z g u q k =
      let less : suc j - 1 ≡ j = omega arith in
      let kind = get_or stmt_kinds v k_bad_stmt in
      let same : counts_of c ≡ plus (counts_of s.counts) (stmt_counts kind) = (fitted (subst (λ (z : Option K.Counts). Counting s.counts b z) q g)).1 ∙ ap (plus (counts_of s.counts)) u in
      leads_counting stmt_counts stmt_head _ (T.kind_value _ 9 (read h e) (counts_of s.counts)) λ f.
      subst (λ (d : Counts). Leads (stmt_of j (read_stmt j) kind) t (cursor n s.script.names d) Q) same (subst (λ (d : ℕ). Leads (stmt_of d (read_stmt d) kind) t (cursor n s.script.names (counts_of c)) Q) less k)

module _ {t : List ℕ} {s : Walk} {m₁ : Result (ℕ × ℕ) Refusal} (h : Gives (below 9) t s.at m₁) where
  pub stmt_goes : {left v n : ℕ} {b c : K.Counts} {y : Option K.Counts} {o l w : List ℕ} {r : Walk} {o' l' w' : List ℕ} → m₁ ≡ Ok (v, n) → (left ≡ 0 → ⊥) → Counting s.counts b y → counts_of b ≡ stmt_counts (get_or stmt_kinds v k_bad_stmt) → y ≡ Some c
      → Follows (Numbered v s.counts.statements (moved_to (with_counts s c) n) w) t (stmt_of (left - 1) (read_stmt (left - 1)) (get_or stmt_kinds v k_bad_stmt)) (moved_to (with_counts s c) n) o l w r o' l' w' → Walks t (read_stmt left) (stm_walk stm_b) s o l w r o' l' w'
  unfolding stmt_kinds
  stmt_goes {left} {v} {n} {c = c} {w = w} e z g u q k =
      let d = more g u q in
      walks λ h₁ a i. stmt_in s h left e z g u q (k.does h₁ a (record {
        entered = λ is_0.
            let entries : c.entries ≡ s.counts.entries + 1 = d.entries ∙ ap (λ (j : ℕ). s.counts.entries + (stmt_counts (get_or stmt_kinds j k_bad_stmt)).entries) is_0 ∙ ap (λ (j : ℕ). s.counts.entries + j) an_entry_lem in
            record { few = d.few; room = λ y. omega (arith, (i.when (good_unbehind a y)).tables.entries, entries) };
        worded = record { low = d.low; is = λ y. let e₀ : s.counts.statements + 0 ≡ s.counts.statements = omega arith in ap (λ (j : ℕ). get_or w j 0) (sym e₀) ∙ (i.when (good_unbehind a y)).marks.told 0 (omega (arith, d.low)) };
      }) (moved_on (counted_is d i)))

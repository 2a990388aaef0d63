-- What the functions over statements promise. The tree is walked as it came; what the label pass decided stands in words, one for each statement.
use Rattle.std.specs.Prelude.{ℕ, ◌+◌, ◌-◌, ◌≤◌, ◌<◌, ◌≡◌, Bool, true, false, ◌&&◌, List, ◌++◌, leb, eqb, length, get_or}
use Rattle.std.proofs.Math.Option.{none, some}
use Rattle.penne.specs.Reader.{Reader, ◌>>=◌, ret}
use Rattle.penne.specs.Read.{place, ident, to_stms, read_jump}
use Rattle.penne.specs.Find.{resolved}
use Rattle.penne.specs.Tree.{Spot, Ident, StmSort, stmt, stmts, Stm, nil', cons', declaration, assignment, method_call, loop, goto, label, if_else, block, bad_stmt, no_else, or_else, Maybe, ok, err, Body}
use Rattle.penne.specs.Write.{num_b, ident_b, poison_b, maybe_b, count', body_b, stm_b}
use Rattle.penne.specs.Scopes.{Pass, Analyzer, next_id, declare_variable, prepare_to_prune_at_goto, prune_at_label}
use Rattle.penne.specs.Variables.{analyze_stm, analyze_body}
use Rattle.scopes.specs.Labels.{Named}
use Rattle.label_references.specs.Marked.{marked, marked_body, front, rest}
use Rattle.answer.specs.declared.wrote.Wrote.{Wrote}
use Rattle.walk.specs.declared.state.Walk.{Walk}
use Rattle.walk.specs.Walking.{here, Rest, Ground, Good, Is, silently, Did, Leads, Input, ok_b}

-- THE WORDS FIT THE STATEMENTS

-- the same name and place
unfoldable pub same_label : Ident Spot → Ident Spot → Bool
same_label i j = eqb i.name j.name && eqb i.place.number j.place.number

-- a goto's word is 0 or a label's id
unfoldable pub fit_goto : List (Ident Spot) → (word : ℕ) → Bool
fit_goto all o = leb o (length all)

-- a label's word is its own id, or 1,024 + the id of an earlier label
unfoldable pub fit_label : List (Ident Spot) → Ident Spot → (word : ℕ) → Bool
fit_label all i o = elim (leb o 1024) [
  | true ↦ leb 1 o && (leb o (length all) && same_label i (get_or all (o - 1) i))
  | false ↦ leb (o - 1024) (length all)
]

-- in no constant's value: there nothing is declared
unfoldable pub is_free : Analyzer Spot → Bool
is_free a = elim a.containment.in_constexpr_of_constant [ none ↦ true | some c ↦ false ]

-- of every goto and label; a declaration stands in no constant's value
unfoldable pub fits : {s : StmSort} → List (Ident Spot) → (free : Bool) → Stm Spot s → List ℕ → Bool
fits all free nil' os = true
fits all free (cons' t ts) os = fits all free t os && fits all free ts (marked all t os).1
fits all free (declaration p v t i) os = free
fits all free (assignment p v r) os = true
fits all free (method_call i b es) os = true
fits all free (loop p) os = true
fits all free (goto i p) os = fit_goto all (front os)
fits all free (label i p) os = fit_label all i (front os)
fits all free (if_else p op q r x y t e) os = fits all free t (rest os) && fits all free e (marked all t (rest os)).1
fits all free (block p ts) os = fits all free ts (rest os)
fits all free (bad_stmt z) os = true
fits all free no_else os = true
fits all free (or_else p t) os = fits all free t os

unfoldable pub fits_body : List (Ident Spot) → (free : Bool) → Maybe Spot (Body Spot) → List ℕ → Bool
fits_body all free (ok b) os = fits all free b.statements os
fits_body all free (err z) os = true

-- WHAT IS DONE TO THE GROUND

-- other words are left, and what was walked fits them
unfoldable pub leaving : List ℕ → Bool → Rest → Rest
leaving os b m = record { words = os; labels = m.labels; fit = m.fit && b; containers = m.containers; functions = m.functions; names = m.names; room = m.room; slots = m.slots; script = m.script }

-- a statement, a list of them or an else branch: its gotos and labels by their words, then analysed and written by e
unfoldable pub stm_walk : {s : StmSort} → (Stm Spot s → List ℕ) → Stm Spot s → Ground → Ground
stm_walk e t a =
    let (t', os) = marked a.rest.labels t a.rest.words in
    record { out = a.out ++ e (analyze_stm t' a.st).0; st = (analyze_stm t' a.st).1; rest = leaving os (fits a.rest.labels (is_free a.st) t a.rest.words) a.rest }

-- a body that may be poison
unfoldable pub body_walk : Maybe Spot (Body Spot) → Ground → Ground
body_walk b a =
    let (b', os) = marked_body a.rest.labels b a.rest.words in
    record { out = a.out ++ maybe_b body_b (analyze_body b' a.st).0; st = (analyze_body b' a.st).1; rest = leaving os (fits_body a.rest.labels (is_free a.st) b a.rest.words) a.rest }

-- a list of statements, its count first
unfoldable pub stms_b : Stm Spot stmts → List ℕ
stms_b ts = num_b (count' ts) ++ stm_b ts

abbrev pub stms_walk : List (Stm Spot stmt) → Ground → Ground
stms_walk ts a = stm_walk stms_b (to_stms ts) a

-- a body that is no poison, its tag written
unfoldable pub body_ok_walk : Body Spot → Ground → Ground
body_ok_walk b a =
    let (b', os) = marked_body a.rest.labels (ok b) a.rest.words in
    record { out = a.out ++ ok_b body_b (analyze_body b' a.st).0; st = (analyze_body b' a.st).1; rest = leaving os (fits_body a.rest.labels (is_free a.st) (ok b) a.rest.words) a.rest }

-- a body's own name takes the next id
unfoldable pub name_body : Ident Spot → Pass Spot (Ident Spot)
name_body i = λ a. (resolved i a.resolution_id 0, next_id a)

-- BEHIND A STATEMENT'S KIND

-- a statement is counted, and the words are those of the statements to come
unfoldable pub behind : Ground → Ground
behind a = record { out = a.out; st = a.st; rest = leaving (rest a.rest.words) true a.rest }

-- A FUNCTION BEHIND A STATEMENT'S KIND: m reads the statement; P is what has to be known before
pub record Follows (P : Ground → Type 0) (t : List ℕ) (m : Reader (Stm Spot stmt)) (s : Walk) (o l w : List ℕ) (r : Walk) (o' l' w' : List ℕ) : Type 0 where
  pub does : Input t → (a : Ground) → P a → Is s o l w (behind a) → Leads m t (here s) (λ x d. Did d (stm_walk stm_b x a) r o' l' w')

-- what is read behind the kinds of loop, goto and label
abbrev pub read_loop : Reader (Stm Spot stmt)
read_loop = place >>= λ p. ret (loop p)

abbrev pub read_goto : Reader (Stm Spot stmt)
read_goto = read_jump goto

abbrev pub read_label : Reader (Stm Spot stmt)
read_label = read_jump label

-- nothing
abbrev pub Anything : Ground → Type 0
Anything a = Unit {0}

-- the entry of a declaration is counted
pub record Entered (s : Walk) (a : Ground) : Type 0 where
  pub few : s.counts.entries ≤ 1024
  pub room : Good (behind a) → length a.st.variable_stack.locals < s.counts.entries

-- the statement has the number n, and the word that was decided
pub record Worded (n : ℕ) (w : List ℕ) (a : Ground) : Type 0 where
  pub low : n < 2048
  pub is : Good (behind a) → get_or w n 0 ≡ front a.rest.words

-- a statement of that kind and number is counted
pub record Numbered (kind n : ℕ) (s : Walk) (w : List ℕ) (a : Ground) : Type 0 where
  pub entered : kind ≡ 0 → Entered s a
  pub worded : Worded n w a

-- THE PARTS OF DECLARATIONS, GOTOS AND LABELS

-- a declaration whose bytes so far are xs, by its name as declared
unfoldable pub declared_b : List ℕ → Maybe Spot (Ident Spot) → List ℕ
declared_b xs (ok i) = xs ++ ident_b i
declared_b xs (err z) = num_b 8 ++ poison_b z

-- declared: the name behind the value and the type, which wrote xs since `before`
pub record Declares (t : List ℕ) (before : Wrote) (s : Walk) (o w : List ℕ) (r : Walk) (o' w' : List ℕ) : Type 0 where
  pub does : Input t → (l : List ℕ) {s₀ : Walk} {o₀ l₀ w₀ : List ℕ} (a : Ground) → Is s₀ o₀ l₀ w₀ a → before ≡ s₀.wrote
      → (xs : List ℕ) (b : Analyzer Spot) → a.st.resolution_id ≤ b.resolution_id → s.counts.entries ≤ 1024 → (Good a → length b.variable_stack.locals < s.counts.entries)
      → Is s o l w (record { out = a.out ++ xs; st = b; rest = a.rest })
      → Leads ident t (here s) (λ i d. Did d (record { out = a.out ++ declared_b xs (declare_variable 4 i b).0; st = (declare_variable 4 i b).1; rest = leaving a.rest.words (is_free b) a.rest }) r o' l w')

-- prepare: a goto at p to the label i
pub record Prepares (s : Walk) (id place : ℕ) (w w' : List ℕ) : Type 0 where
  pub is : {o l : List ℕ} {a : Ground} (i : Ident Spot) (p : Spot) → i.id ≡ id → place ≡ p.number → 0 < id → (Good a → id ≤ 1024) → Is s o l w a → Is s o l w' (silently (prepare_to_prune_at_goto i) p a)

-- prune: the label i, which stands in the table
pub record Prunes (s : Walk) (id : ℕ) (w w' : List ℕ) : Type 0 where
  pub is : {o l : List ℕ} {a : Ground} (i : Ident Spot) → i.id ≡ id → (Good a → (0 < id) × ((id ≤ 1024) × Named w id i)) → Is s o l w a → Is s o l w' (silently prune_at_label i a)

-- label_place
pub record LabelPlace (id : ℕ) (w : List ℕ) (r : ℕ) : Type 0 where
  pub is : 0 < id → id ≤ 1024 → r ≡ get_or w (3071 + id) 0

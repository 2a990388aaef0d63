-- What the label pass decides, beside the definition of the pass itself: a word for each statement, in reading order.
use Rattle.std.specs.Prelude.{ℕ, ◌+◌, List, [], ◌∷◌, ◌++◌}
use Rattle.std.proofs.Math.Option.{Option, none, some}
use Rattle.penne.specs.Find.{first_named}
use Rattle.penne.specs.Tree.{Ident, Maybe, ok, err, StmSort, stmts, Stm, nil', cons', declaration, assignment, method_call, loop, goto, label, if_else, block, bad_stmt, no_else, or_else, Body, Decl, constant, function, function_head, structure, import, bad_decl}
use Rattle.penne.specs.Labels.{Labels, labels, labels_decl}

-- a goto's word, by what the search found: the label's id, 0 where there is none
unfoldable pub goto_word : {P : Type 0} → Option (Ident P) → ℕ
goto_word none = 0
goto_word (some j) = j.id

-- a label's word, by what the search found: its id, or 1,024 + the id of the earlier label of its name
unfoldable pub label_word : {P : Type 0} → (id : ℕ) → Option (Ident P) → ℕ
label_word id none = id
label_word id (some j) = 1024 + j.id

-- the words of a statement, of a list of them, of an else branch; all but gotos and labels have the word 0
unfoldable pub outcomes : {P : Type 0} {s : StmSort} → Stm P s → Labels P → List ℕ
outcomes nil' l = []
outcomes (cons' t ts) l = outcomes t (labels ts l).1 ++ outcomes ts l  -- "visited last to first"
outcomes (declaration p v t i) l = 0 ∷ []
outcomes (assignment p v r) l = 0 ∷ []
outcomes (method_call i b es) l = 0 ∷ []
outcomes (loop p) l = 0 ∷ []
outcomes (goto i p) l = goto_word (first_named i.name l.label_stack) ∷ []
outcomes (label i p) l = label_word l.resolution_id (first_named i.name l.label_stack) ∷ []
outcomes (if_else p op q r x y t e) l = 0 ∷ (outcomes t l ++ outcomes e (labels t l).1)  -- "but an If's then branch before its else"
outcomes (block p ts) l = 0 ∷ outcomes ts l
outcomes (bad_stmt z) l = 0 ∷ []
outcomes no_else l = []
outcomes (or_else p t) l = outcomes t l

-- the labels in the order visited: the order of their ids
unfoldable pub labels_in : {P : Type 0} {s : StmSort} → Stm P s → List (Ident P)
labels_in nil' = []
labels_in (cons' t ts) = labels_in ts ++ labels_in t
labels_in (declaration p v t i) = []
labels_in (assignment p v r) = []
labels_in (method_call i b es) = []
labels_in (loop p) = []
labels_in (goto i p) = []
labels_in (label i p) = i ∷ []
labels_in (if_else p op q r x y t e) = labels_in t ++ labels_in e
labels_in (block p ts) = labels_in ts
labels_in (bad_stmt z) = []
labels_in no_else = []
labels_in (or_else p t) = labels_in t

-- the statements of a declaration; only a function whose body is no poison has any
unfoldable pub statements_in : {P : Type 0} → Maybe P (Body P) → Option (Stm P stmts)
statements_in (ok b) = some b.statements
statements_in (err z) = none

unfoldable pub body_of : {P : Type 0} → Decl P → Option (Stm P stmts)
body_of (constant f p q i x t) = none
body_of (function f p q i ps b t) = statements_in b
body_of (function_head f p q i ps t) = none
body_of (structure f p i ms t) = none
body_of (import b p) = none
body_of (bad_decl z) = none

unfoldable pub body_outcomes : {P : Type 0} → Option (Stm P stmts) → Labels P → List ℕ
body_outcomes none l = []
body_outcomes (some ts) l = outcomes ts l

unfoldable pub body_labels : {P : Type 0} → Option (Stm P stmts) → List (Ident P)
body_labels none = []
body_labels (some ts) = labels_in ts

-- the words and the labels of the declarations in their order
unfoldable pub outcomes_decls : {P : Type 0} → List (Decl P) → Labels P → List ℕ
outcomes_decls [] l = []
outcomes_decls (d ∷ ds) l = body_outcomes (body_of d) l ++ outcomes_decls ds (labels_decl d l).1

unfoldable pub labels_in_decls : {P : Type 0} → List (Decl P) → List (Ident P)
labels_in_decls [] = []
labels_in_decls (d ∷ ds) = body_labels (body_of d) ++ labels_in_decls ds

-- label_references.rs: the first pass.
use Rattle.std.specs.Prelude.{ℕ, ◌+◌, List, [], ◌∷◌, ◌++◌}
use Rattle.std.proofs.Math.Option.{Option, none, some}
use Rattle.penne.specs.Find.{first_named, resolved}
use Rattle.penne.specs.Tree.{Ident, poison, Maybe, ok, err, StmSort, stmt, Stm, nil', cons', declaration, assignment, method_call, loop, goto, label, if_else, block, bad_stmt, no_else, or_else, Body, Decl, constant, function, function_head, structure, import, bad_decl}

-- struct Analyzer; label_stack laid end to end: the labels of all open scopes, the outermost scope first, each in the order declared
pub record Labels (P : Type 0) : Type 0 where
  pub label_stack : List (Ident P)
  pub resolution_id : ℕ

-- pop_scope: the stack is again what it was before push_scope, the ids go on
unfoldable pub pop_scope : {P : Type 0} → (before after : Labels P) → Labels P
pop_scope before after = record { label_stack = before.label_stack; resolution_id = after.resolution_id }

-- use_label with the arm of Goto, by what the search found: UndefinedLabel is kind 2
unfoldable pub use_label : {P : Type 0} → Ident P → P → Option (Ident P) → Stm P stmt
use_label i p (some j) = goto (resolved i j.id 0) p
use_label i p none = bad_stmt (poison 2 (i.name ∷ []) (i.place ∷ []))

-- what declare_label answers, with the arm of Label, by what the search found: DuplicateDeclarationLabel is kind 1, the place of the label visited before it first; i has its id already
unfoldable pub declare_label : {P : Type 0} → Ident P → P → Option (Ident P) → Stm P stmt
declare_label i p (some j) = bad_stmt (poison 1 (i.name ∷ []) (j.place ∷ i.place ∷ []))
declare_label i p none = label i p

-- what declare_label leaves behind: "A duplicate is poisoned where visited second, yet takes an id and stays declared."
unfoldable pub declared : {P : Type 0} → Ident P → Labels P → Labels P
declared i l = record { label_stack = l.label_stack ++ (i ∷ []); resolution_id = l.resolution_id + 1 }

-- analyze of Statement and Block, and an If's else branch
unfoldable pub labels : {P : Type 0} {s : StmSort} → Stm P s → Labels P → Stm P s × Labels P
labels nil' l = (nil', l)
labels (cons' t ts) l =  -- "visited last to first"
    let (ts', l₁) = labels ts l in
    let (t', l₂) = labels t l₁ in
    (cons' t' ts', l₂)
labels (declaration p v t i) l = (declaration p v t i, l)
labels (assignment p v r) l = (assignment p v r, l)
labels (method_call i b es) l = (method_call i b es, l)
labels (loop p) l = (loop p, l)
labels (goto i p) l = (use_label i p (first_named i.name l.label_stack), l)
labels (label i p) l =
    let i' = resolved i l.resolution_id 1 in
    (declare_label i' p (first_named i.name l.label_stack), declared i' l)
labels (if_else p op q r x y t e) l =  -- "but an If's then branch before its else"
    let (t', l₁) = labels t l in
    let (e', l₂) = labels e l₁ in
    (if_else p op q r x y t' e', l₂)
labels (block p ts) l =
    let (ts', l₁) = labels ts l in
    (block p ts', pop_scope l l₁)
labels (bad_stmt z) l = (bad_stmt z, l)
labels no_else l = (no_else, l)
labels (or_else p t) l =
    let (t', l₁) = labels t l in
    (or_else p t', l₁)

-- analyze of FunctionBody; a poisoned body stays
unfoldable pub labels_body : {P : Type 0} → Maybe P (Body P) → Labels P → Maybe P (Body P) × Labels P
labels_body (ok b) l =
    let (ts, l₁) = labels b.statements l in
    (ok (record { statements = ts; value = b.value; result = b.result }), pop_scope l l₁)
labels_body (err z) l = (err z, l)

-- analyze of Declaration
unfoldable pub labels_decl : {P : Type 0} → Decl P → Labels P → Decl P × Labels P
labels_decl (constant f p q i x t) l = (constant f p q i x t, l)
labels_decl (function f p q i ps b t) l =
    let (b', l₁) = labels_body b l in
    (function f p q i ps b' t, l₁)
labels_decl (function_head f p q i ps t) l = (function_head f p q i ps t, l)
labels_decl (structure f p i ms t) l = (structure f p i ms t, l)
labels_decl (import b p) l = (import b p, l)
labels_decl (bad_decl z) l = (bad_decl z, l)

-- the declarations in their order
unfoldable pub labels_decls : {P : Type 0} → List (Decl P) → Labels P → List (Decl P) × Labels P
labels_decls [] l = ([], l)
labels_decls (d ∷ ds) l =
    let (d', l₁) = labels_decl d l in
    let (ds', l₂) = labels_decls ds l₁ in
    (d' ∷ ds', l₂)

-- analyze of the program: label ids count from 1, over all functions
unfoldable pub label_references : {P : Type 0} → List (Decl P) → List (Decl P)
label_references ds = (labels_decls ds (record { label_stack = []; resolution_id = 1 })).0

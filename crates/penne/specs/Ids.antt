-- Ids: how many each pass can take for a part of the tree, and which ids of an answered tree the passes gave out.
-- "Label ids and variable ids count separately from 1. No id given out exceeds the input's length in bytes."
use Rattle.std.specs.Prelude.{ℕ, zero, suc, ◌+◌, ◌≤◌, ◌<◌}
use mathlib.Core.List.{List, [], ◌∷◌, ◌++◌, flat_map}
use Rattle.std.proofs.Math.Option.{Option, none, some}
use Rattle.penne.specs.Tree.{Ident, Maybe, ok, err, Ty, plain, array, array_with_named_length, arraylike, struct, word, unresolved, nameless, pointer, view, Sort, Node, nil, cons, binary, unary, boolean, signed, bits, string, array_literal, structural, parenthesized, deref, bit_cast, type_cast, length_of_array, size_of, function_call, bad_expr, reference, element, member, member_expression, StmSort, Stm, nil', cons', declaration, assignment, method_call, loop, goto, label, if_else, block, bad_stmt, no_else, or_else, Param, Body, Decl, constant, function, function_head, structure, import, bad_decl}

-- THE SECOND PASS: AT MOST SO MANY

-- one for each array literal (where a cast's type is refused its operand takes none)
unfoldable pub ids_node : {P : Type 0} {s : Sort} → Node P s → ℕ
ids_node nil = 0
ids_node (cons x xs) = ids_node x + ids_node xs
ids_node (binary op p q x y) = ids_node x + ids_node y
ids_node (unary op p q x) = ids_node x
ids_node (boolean b p) = 0
ids_node (signed b p c) = 0
ids_node (bits b p c) = 0
ids_node (string b p) = 0
ids_node (array_literal p c es i) = ids_node es + 1
ids_node (structural p ms c) = ids_node ms
ids_node (parenthesized p x) = ids_node x
ids_node (deref c r) = ids_node r
ids_node (bit_cast p q c x) = ids_node x
ids_node (type_cast p q t x) = ids_node x
ids_node (length_of_array p r) = ids_node r
ids_node (size_of p t) = 0
ids_node (function_call i b c es) = ids_node es
ids_node (bad_expr z) = 0
ids_node (reference d p q b ts) = ids_node ts
ids_node (element n x) = ids_node x
ids_node (member i o) = 0
ids_node (member_expression i o x) = ids_node x

-- what may be absent
unfoldable pub ids_option : {P : Type 0} {s : Sort} → Option (Node P s) → ℕ
ids_option none = 0
ids_option (some x) = ids_node x

-- one for each declaration, and those of the expressions
unfoldable pub ids_stm : {P : Type 0} {s : StmSort} → Stm P s → ℕ
ids_stm nil' = 0
ids_stm (cons' t ts) = ids_stm t + ids_stm ts
ids_stm (declaration p v t i) = ids_option v + 1
ids_stm (assignment p v r) = ids_node v + ids_node r
ids_stm (method_call i b es) = ids_node es
ids_stm (loop p) = 0
ids_stm (goto i p) = 0
ids_stm (label i p) = 0
ids_stm (if_else p op q r x y t e) = ids_node x + (ids_node y + (ids_stm t + ids_stm e))
ids_stm (block p ts) = ids_stm ts
ids_stm (bad_stmt z) = 0
ids_stm no_else = 0
ids_stm (or_else p t) = ids_stm t

-- one for the body itself
unfoldable pub ids_body : {P : Type 0} → Maybe P (Body P) → ℕ
ids_body (ok b) = ids_stm b.statements + ids_option b.value + 1
ids_body (err z) = 0

-- one for each name that a poison does not stand for
unfoldable pub ids_name : {P : Type 0} → Maybe P (Ident P) → ℕ
ids_name (ok i) = 1
ids_name (err z) = 0

-- parameters or members
unfoldable pub ids_params : {P : Type 0} → List (Param P) → ℕ
ids_params [] = 0
ids_params (x ∷ xs) = ids_name x.ident + ids_params xs

-- a declaration, but for its own name
unfoldable pub ids_decl : {P : Type 0} → Decl P → ℕ
ids_decl (constant f p q i x t) = ids_node x
ids_decl (function f p q i ps b t) = ids_params ps + ids_body b
ids_decl (function_head f p q i ps t) = ids_params ps
ids_decl (structure f p i ms t) = ids_params ms
ids_decl (import b p) = 0
ids_decl (bad_decl z) = 0

-- its own name, which predeclaration gives an id
unfoldable pub ids_own : {P : Type 0} → Decl P → ℕ
ids_own (constant f p q i x t) = 1
ids_own (function f p q i ps b t) = 1
ids_own (function_head f p q i ps t) = 1
ids_own (structure f p i ms t) = 1
ids_own (import b p) = 0
ids_own (bad_decl z) = 0

-- declarations, each with its name
unfoldable pub ids_decls : {P : Type 0} → List (Decl P) → ℕ
ids_decls [] = 0
ids_decls (d ∷ ds) = ids_own d + ids_decl d + ids_decls ds

-- THE FIRST PASS: EXACTLY SO MANY

-- one for each label, duplicates too
unfoldable pub ids_labels : {P : Type 0} {s : StmSort} → Stm P s → ℕ
ids_labels nil' = 0
ids_labels (cons' t ts) = ids_labels t + ids_labels ts
ids_labels (declaration p v t i) = 0
ids_labels (assignment p v r) = 0
ids_labels (method_call i b es) = 0
ids_labels (loop p) = 0
ids_labels (goto i p) = 0
ids_labels (label i p) = 1
ids_labels (if_else p op q r x y t e) = ids_labels t + ids_labels e
ids_labels (block p ts) = ids_labels ts
ids_labels (bad_stmt z) = 0
ids_labels no_else = 0
ids_labels (or_else p t) = ids_labels t

-- the labels of a body
unfoldable pub ids_labels_body : {P : Type 0} → Maybe P (Body P) → ℕ
ids_labels_body (ok b) = ids_labels b.statements
ids_labels_body (err z) = 0

-- the labels of a declaration
unfoldable pub ids_labels_decl : {P : Type 0} → Decl P → ℕ
ids_labels_decl (constant f p q i x t) = 0
ids_labels_decl (function f p q i ps b t) = ids_labels_body b
ids_labels_decl (function_head f p q i ps t) = 0
ids_labels_decl (structure f p i ms t) = 0
ids_labels_decl (import b p) = 0
ids_labels_decl (bad_decl z) = 0

-- the labels of all declarations
unfoldable pub ids_labels_decls : {P : Type 0} → List (Decl P) → ℕ
ids_labels_decls [] = 0
ids_labels_decls (d ∷ ds) = ids_labels_decl d + ids_labels_decls ds

-- THE IDS GIVEN OUT: of an answered tree those that the passes made. All others stay as they came: the names of builtin calls, of member steps and in structural literals, and carried types but a declaration's.

-- of what may be poison, which holds no id
unfoldable pub given_maybe : {P A : Type 0} → (A → List ℕ) → Maybe P A → List ℕ
given_maybe f (ok x) = f x
given_maybe f (err z) = []

-- of what may be absent
unfoldable pub given_option : {A : Type 0} → (A → List ℕ) → Option A → List ℕ
given_option f none = []
given_option f (some x) = f x

-- the id of an identifier
unfoldable pub given_ident : {P : Type 0} → Ident P → List ℕ
given_ident i = i.id ∷ []

-- of an analysed type: lengths and structures
unfoldable pub given_ty : {P : Type 0} → Ty P → List ℕ
given_ty (plain k) = []
given_ty (array t n) = given_ty t
given_ty (array_with_named_length t i) = given_ty t ++ given_ident i
given_ty (arraylike k t) = given_ty t
given_ty (struct i) = given_ident i
given_ty (word i n) = given_ident i
given_ty (unresolved i) = given_ident i
given_ty nameless = []
given_ty (pointer t) = given_ty t
given_ty (view t) = given_ty t

-- the name of a call, but of a builtin
unfoldable pub given_called : {P : Type 0} → Ident P → (builtin : ℕ) → List ℕ
given_called i zero = given_ident i
given_called i (suc b) = []

-- of expressions, references, steps: variables, constants, functions, types, array literals
unfoldable pub given_node : {P : Type 0} {s : Sort} → Node P s → List ℕ
given_node nil = []
given_node (cons x xs) = given_node x ++ given_node xs
given_node (binary op p q x y) = given_node x ++ given_node y
given_node (unary op p q x) = given_node x
given_node (boolean b p) = []
given_node (signed b p c) = []
given_node (bits b p c) = []
given_node (string b p) = []
given_node (array_literal p c es i) = given_node es ++ (i ∷ [])
given_node (structural p ms c) = given_node ms ++ given_maybe given_ty c
given_node (parenthesized p x) = given_node x
given_node (deref c r) = given_node r
given_node (bit_cast p q c x) = given_node x
given_node (type_cast p q t x) = given_ty t ++ given_node x
given_node (length_of_array p r) = given_node r
given_node (size_of p t) = given_ty t
given_node (function_call i b c es) = given_called i b ++ given_node es
given_node (bad_expr z) = []
given_node (reference d p q b ts) = given_maybe given_ident b ++ given_node ts
given_node (element n x) = given_node x
given_node (member i o) = []
given_node (member_expression i o x) = given_node x

-- of statements, but for their labels
unfoldable pub given_stm : {P : Type 0} {s : StmSort} → Stm P s → List ℕ
given_stm nil' = []
given_stm (cons' t ts) = given_stm t ++ given_stm ts
given_stm (declaration p v t i) = given_option given_node v ++ (given_option (given_maybe given_ty) t ++ given_ident i)
given_stm (assignment p v r) = given_node v ++ given_node r
given_stm (method_call i b es) = given_called i b ++ given_node es
given_stm (loop p) = []
given_stm (goto i p) = []
given_stm (label i p) = []
given_stm (if_else p op q r x y t e) = given_node x ++ (given_node y ++ (given_stm t ++ given_stm e))
given_stm (block p ts) = given_stm ts
given_stm (bad_stmt z) = []
given_stm no_else = []
given_stm (or_else p t) = given_stm t

-- of a body, whose identifier has an id of its own
unfoldable pub given_body : {P : Type 0} → Body P → List ℕ
given_body b = given_stm b.statements ++ (given_option given_node b.value ++ given_ident b.result)

-- of a parameter or member
unfoldable pub given_param : {P : Type 0} → Param P → List ℕ
given_param x = given_maybe given_ident x.ident ++ given_maybe given_ty x.type

-- of a declaration
unfoldable pub given_decl : {P : Type 0} → Decl P → List ℕ
given_decl (constant f p q i x t) = given_ident i ++ (given_node x ++ given_maybe given_ty t)
given_decl (function f p q i ps b t) = given_ident i ++ (flat_map given_param ps ++ (given_maybe given_body b ++ given_maybe given_ty t))
given_decl (function_head f p q i ps t) = given_ident i ++ (flat_map given_param ps ++ given_maybe given_ty t)
given_decl (structure f p i ms t) = given_ident i ++ (flat_map given_param ms ++ given_maybe given_ty t)
given_decl (import b p) = []
given_decl (bad_decl z) = []

-- of labels and gotos
unfoldable pub given_labels : {P : Type 0} {s : StmSort} → Stm P s → List ℕ
given_labels nil' = []
given_labels (cons' t ts) = given_labels t ++ given_labels ts
given_labels (declaration p v t i) = []
given_labels (assignment p v r) = []
given_labels (method_call i b es) = []
given_labels (loop p) = []
given_labels (goto i p) = given_ident i
given_labels (label i p) = given_ident i
given_labels (if_else p op q r x y t e) = given_labels t ++ given_labels e
given_labels (block p ts) = given_labels ts
given_labels (bad_stmt z) = []
given_labels no_else = []
given_labels (or_else p t) = given_labels t

-- of the labels and gotos of a body
unfoldable pub given_labels_body : {P : Type 0} → Body P → List ℕ
given_labels_body b = given_labels b.statements

-- of the labels and gotos of a declaration
unfoldable pub given_labels_decl : {P : Type 0} → Decl P → List ℕ
given_labels_decl (constant f p q i x t) = []
given_labels_decl (function f p q i ps b t) = given_maybe given_labels_body b
given_labels_decl (function_head f p q i ps t) = []
given_labels_decl (structure f p i ms t) = []
given_labels_decl (import b p) = []
given_labels_decl (bad_decl z) = []

-- ids that count from 1, all of them below n
pub data Below (n : ℕ) : List ℕ → Type 0 where
  nothing : Below n []
  also : {x : ℕ} {xs : List ℕ} → 1 ≤ x → x < n → Below n xs → Below n (x ∷ xs)

-- "Label ids and variable ids count separately from 1": of the answer's declarations
pub record Given {P : Type 0} (variables labels : ℕ) (ds : List (Decl P)) : Type 0 where
  pub of_variables : Below variables (flat_map given_decl ds)
  pub of_labels : Below labels (flat_map given_labels_decl ds)

-- variable_references.rs: predeclaration, the tree walk, the depths in the answer.
use Rattle.std.specs.Prelude.{ℕ, zero, suc, ◌+◌, ◌/◌, ◌%◌, Bool, true, false, List, [], ◌∷◌, map, get_or, eqb}
use Rattle.std.proofs.Math.Option.{Option, none, some}
use Rattle.penne.specs.Find.{resolved}
use Rattle.penne.specs.State.{◌>>=◌, ret, ◌>>?◌}
use Rattle.penne.specs.Read.{same_bytes}
use Rattle.penne.specs.Containers.{Container, found_container, determine_container_depths, obtain_container_depth}
use Rattle.penne.specs.Scopes.{Analyzer, Pass, in_new_scope, on_containment, with_containment, create_anonymous_resolution_id, declare_constant, declare_variable, declare_function, declare_struct, use_variable, use_constant, use_function, use_struct, prepare_to_prune_at_goto, prune_at_label}
use Rattle.penne.specs.Tree.{Ident, Maybe, ok, err, Ty, plain, array, array_with_named_length, arraylike, struct, word, unresolved, nameless, pointer, view, Carried, expr, list_of, Sort, Node, nil, cons, binary, unary, boolean, signed, bits, string, array_literal, structural, parenthesized, deref, bit_cast, type_cast, length_of_array, size_of, function_call, bad_expr, reference, element, member, member_expression, Expr, stmt, StmSort, Stm, nil', cons', declaration, assignment, method_call, loop, goto, label, if_else, block, bad_stmt, no_else, or_else, Param, Body, Decl, constant, function, function_head, structure, import, bad_decl, Tree}

-- TYPES

-- analyze_type: an element before its named length
unfoldable pub analyze_type : {P : Type 0} → Ty P → Pass P (Maybe P (Ty P))
analyze_type (plain k) = ret (ok (plain k))
analyze_type (array t n) = analyze_type t >>? λ t'. ret (ok (array t' n))
analyze_type (array_with_named_length t i) = analyze_type t >>? λ t'. use_constant i >>? λ i'. ret (ok (array_with_named_length t' i'))
analyze_type (arraylike k t) = analyze_type t >>? λ t'. ret (ok (arraylike k t'))
analyze_type (struct i) = use_struct i >>? λ i'. ret (ok (struct i'))
analyze_type (word i n) = use_struct i >>? λ i'. ret (ok (word i' n))
analyze_type (unresolved i) = use_struct i >>? λ i'. ret (ok (unresolved i'))
analyze_type nameless = ret (ok nameless)
analyze_type (pointer t) = analyze_type t >>? λ t'. ret (ok (pointer t'))
analyze_type (view t) = analyze_type t >>? λ t'. ret (ok (view t'))

-- analyze of a type that may be poison
unfoldable pub analyze_maybe_type : {P : Type 0} → Maybe P (Ty P) → Pass P (Maybe P (Ty P))
analyze_maybe_type (ok t) = analyze_type t
analyze_maybe_type (err z) = ret (err z)

-- EXPRESSIONS

-- the base of a reference
unfoldable pub analyze_base : {P : Type 0} → Maybe P (Ident P) → Pass P (Maybe P (Ident P))
analyze_base (ok i) = use_variable i
analyze_base (err z) = ret (err z)

-- the arm of TypeCast, by its type as analysed: "A cast whose type is refused never looks at its operand."
unfoldable pub cast_to : {P : Type 0} → P → P → Pass P (Expr P) → Maybe P (Ty P) → Pass P (Expr P)
cast_to p q m (ok t) = m >>= λ x. ret (type_cast p q t x)
cast_to p q m (err z) = ret (bad_expr z)

-- the arm of SizeOf, by its type as analysed
unfoldable pub size_of_type : {P : Type 0} → P → Maybe P (Ty P) → Expr P
size_of_type p (ok t) = size_of p t
size_of_type p (err z) = bad_expr z

-- the name of a call: a builtin's stays as it came
unfoldable pub use_called : {P : Type 0} → Ident P → (builtin : ℕ) → Pass P (Maybe P (Ident P))
use_called i zero = use_function i
use_called i (suc b) = ret (ok i)

-- the arm of FunctionCall, by its name as looked up: "Arguments of a call to an undefined function are analysed, then dropped with the call."
unfoldable pub call_to : {P : Type 0} → ℕ → Carried P → Node P (list_of expr) → Maybe P (Ident P) → Expr P
call_to b c es (ok i) = function_call i b c es
call_to b c es (err z) = bad_expr z

-- analyze of Expression, Array, Reference, ReferenceStep, and of lists of them
unfoldable pub analyze_node : {P : Type 0} {s : Sort} → Node P s → Pass P (Node P s)
analyze_node nil = ret nil
analyze_node (cons x xs) = analyze_node x >>= λ x'. analyze_node xs >>= λ xs'. ret (cons x' xs')
analyze_node (binary op p q x y) = analyze_node x >>= λ x'. analyze_node y >>= λ y'. ret (binary op p q x' y')
analyze_node (unary op p q x) = analyze_node x >>= λ x'. ret (unary op p q x')
analyze_node (boolean b p) = ret (boolean b p)
analyze_node (signed b p c) = ret (signed b p c)
analyze_node (bits b p c) = ret (bits b p c)
analyze_node (string b p) = ret (string b p)
analyze_node (array_literal p c es i) = in_new_scope (analyze_node es) >>= λ es'. create_anonymous_resolution_id >>= λ i'. ret (array_literal p c es' i')
analyze_node (structural p ms c) = analyze_node ms >>= λ ms'. analyze_maybe_type c >>= λ c'. ret (structural p ms' c')
analyze_node (parenthesized p x) = analyze_node x >>= λ x'. ret (parenthesized p x')
analyze_node (deref c r) = analyze_node r >>= λ r'. ret (deref c r')
analyze_node (bit_cast p q c x) = analyze_node x >>= λ x'. ret (bit_cast p q c x')
analyze_node (type_cast p q t x) = analyze_type t >>= cast_to p q (analyze_node x)
analyze_node (length_of_array p r) = analyze_node r >>= λ r'. ret (length_of_array p r')
analyze_node (size_of p t) = analyze_type t >>= λ t'. ret (size_of_type p t')
analyze_node (function_call i b c es) = analyze_node es >>= λ es'. use_called i b >>= λ i'. ret (call_to b c es' i')
analyze_node (bad_expr z) = ret (bad_expr z)
analyze_node (reference d p q b ts) = analyze_base b >>= λ b'. analyze_node ts >>= λ ts'. ret (reference d p q b' ts')
analyze_node (element n x) = analyze_node x >>= λ x'. ret (element n x')
analyze_node (member i o) = ret (member i o)
analyze_node (member_expression i o x) = analyze_node x >>= λ x'. ret (member_expression i o x')

-- analyze of what may be absent
unfoldable pub analyze_option : {P A : Type 0} → (A → Pass P A) → Option A → Pass P (Option A)
analyze_option f none = ret none
analyze_option f (some x) = f x >>= λ x'. ret (some x')

-- STATEMENTS

-- the arm of Declaration, by its name as declared: a duplicate's value and type are analysed, then dropped
unfoldable pub declaration_of : {P : Type 0} → P → Option (Expr P) → Carried P → Maybe P (Ident P) → Stm P stmt
declaration_of p v t (ok i) = declaration p v t i
declaration_of p v t (err z) = bad_stmt z

-- the arm of MethodCall, by its name as looked up
unfoldable pub method_to : {P : Type 0} → ℕ → Node P (list_of expr) → Maybe P (Ident P) → Stm P stmt
method_to b es (ok i) = method_call i b es
method_to b es (err z) = bad_stmt z

-- analyze of Statement, Comparison and Block, and of lists of statements
unfoldable pub analyze_stm : {P : Type 0} {s : StmSort} → Stm P s → Pass P (Stm P s)
analyze_stm nil' = ret nil'
analyze_stm (cons' t ts) = analyze_stm t >>= λ t'. analyze_stm ts >>= λ ts'. ret (cons' t' ts')
analyze_stm (declaration p v t i) = analyze_option analyze_node v >>= λ v'. analyze_option analyze_maybe_type t >>= λ t'. declare_variable 4 i >>= λ i'. ret (declaration_of p v' t' i')
analyze_stm (assignment p v r) = analyze_node v >>= λ v'. analyze_node r >>= λ r'. ret (assignment p v' r')
analyze_stm (method_call i b es) = analyze_node es >>= λ es'. use_called i b >>= λ i'. ret (method_to b es' i')
analyze_stm (loop p) = ret (loop p)
analyze_stm (goto i p) = prepare_to_prune_at_goto i p >>= λ i'. ret (goto i' p)
analyze_stm (label i p) = prune_at_label i >>= λ i'. ret (label i' p)
analyze_stm (if_else p op q r x y t e) = analyze_node x >>= λ x'. analyze_node y >>= λ y'. analyze_stm t >>= λ t'. analyze_stm e >>= λ e'. ret (if_else p op q r x' y' t' e')
analyze_stm (block p ts) = in_new_scope (analyze_stm ts) >>= λ ts'. ret (block p ts')
analyze_stm (bad_stmt z) = ret (bad_stmt z)
analyze_stm no_else = ret no_else
analyze_stm (or_else p t) = analyze_stm t >>= λ t'. ret (or_else p t')

-- a body's statements and return value, in the body's scope
unfoldable pub analyze_in_body : {P : Type 0} → Body P → Pass P (Body P)
analyze_in_body b = do
  ts ← analyze_stm b.statements
  v ← analyze_option analyze_node b.value
  ret (record { statements = ts; value = v; result = b.result })

-- analyze of FunctionBody: its identifier takes the next id, after all inside; a poisoned body stays
unfoldable pub analyze_body : {P : Type 0} → Maybe P (Body P) → Pass P (Maybe P (Body P))
analyze_body (ok b) = do
  b' ← in_new_scope (analyze_in_body b)
  i ← create_anonymous_resolution_id
  ret (ok (record { statements = b'.statements; value = b'.value; result = resolved b.result i 0 }))
analyze_body (err z) = ret (err z)

-- DECLARATIONS

-- analyze of each in turn
unfoldable pub in_turn : {P A : Type 0} → (A → Pass P A) → List A → Pass P (List A)
in_turn f [] = ret []
in_turn f (x ∷ xs) = do
  x' ← f x
  xs' ← in_turn f xs
  ret (x' ∷ xs')

-- the name of a parameter or member, declared where it has one
unfoldable pub declare_maybe : {P : Type 0} → (kind : ℕ) → Maybe P (Ident P) → Pass P (Maybe P (Ident P))
declare_maybe k (ok i) = declare_variable k i
declare_maybe k (err z) = ret (err z)

-- analyze of Parameter (kind 5) and Member (kind 6): the name before the type
unfoldable pub analyze_param : {P : Type 0} → (kind : ℕ) → Param P → Pass P (Param P)
analyze_param k x = do
  i ← declare_maybe k x.ident
  t ← analyze_maybe_type x.type
  ret (record { place = x.place; ident = i; type = t })

-- found_container of a type that may be poison
unfoldable pub found_maybe : {P : Type 0} → Ident P → Option (Ident P) → Maybe P (Ty P) → Pass P (Maybe P (Ty P))
found_maybe c m (ok t) = on_containment (found_container c m t)
found_maybe c m (err z) = ret (err z)

-- analyze_wellfoundedness, by the member's name as declared: one "whose name was refused" adds no edge
unfoldable pub analyze_wellfoundedness : {P : Type 0} → Ident P → Maybe P (Ident P) → Maybe P (Ty P) → Pass P (Maybe P (Ty P))
analyze_wellfoundedness c (ok i) t = found_maybe c (some i) t
analyze_wellfoundedness c (err z) t = ret t

-- analyze, then analyze_wellfoundedness of Member, in the structure c
unfoldable pub analyze_member : {P : Type 0} → Ident P → Param P → Pass P (Param P)
analyze_member c x = do
  m ← analyze_param 6 x
  t ← analyze_wellfoundedness c m.ident m.type
  ret (record { place = m.place; ident = m.ident; type = t })

-- another in_constexpr_of_constant
unfoldable pub in_constexpr_of : {P : Type 0} → Option (Ident P) → Analyzer P → Analyzer P
in_constexpr_of o a = with_containment a (record { containers = a.containment.containers; in_constexpr_of_constant = o; edges = a.containment.edges })

-- the value of the constant i, with i in in_constexpr_of_constant
unfoldable pub analyze_constexpr : {P : Type 0} → Ident P → Expr P → Pass P (Expr P)
analyze_constexpr i x = λ a.
    let (x', a') = analyze_node x (in_constexpr_of (some i) a) in
    (x', in_constexpr_of none a')

-- "named by the four bytes of `main`"
unfoldable pub is_main : List (List ℕ) → ℕ → Bool
is_main names n = same_bytes (get_or names n []) (109 ∷ 97 ∷ 105 ∷ 110 ∷ [])

-- "gains flag 4", where it is not there already
unfoldable pub with_main : Bool → (flags : ℕ) → ℕ
with_main true f = elim (eqb (f / 4 % 2) 0) [ true ↦ f + 4 | false ↦ f ]
with_main false f = f

-- the end of the arm of Function, by its own name as looked up: the return type is analysed outside the scope
unfoldable pub function_of : {P : Type 0} → List (List ℕ) → ℕ → P → P → List (Param P) → Maybe P (Body P) → Maybe P (Ty P) → Maybe P (Ident P) → Pass P (Decl P)
function_of names f p q ps b t (ok i) = analyze_maybe_type t >>= λ t'. ret (function (with_main (is_main names i.name) f) p q i ps b t')
function_of names f p q ps b t (err z) = ret (bad_decl z)

-- the end of the arm of FunctionHead: the same, but "a head does not" gain a flag
unfoldable pub function_head_of : {P : Type 0} → ℕ → P → P → List (Param P) → Maybe P (Ty P) → Maybe P (Ident P) → Pass P (Decl P)
function_head_of f p q ps t (ok i) = analyze_maybe_type t >>= λ t'. ret (function_head f p q i ps t')
function_head_of f p q ps t (err z) = ret (bad_decl z)

-- a function's parameters and body, in the parameters' scope
unfoldable pub analyze_params_and_body : {P : Type 0} → List (Param P) → Maybe P (Body P) → Pass P (List (Param P) × Maybe P (Body P))
analyze_params_and_body ps b = do
  ps' ← in_turn (analyze_param 5) ps
  b' ← analyze_body b
  ret (ps', b')

-- analyze of Declaration: "A function's own name comes out with authority 0", being looked up again
unfoldable pub analyze_decl : {P : Type 0} → List (List ℕ) → Decl P → Pass P (Decl P)
analyze_decl names (constant f p q i x t) = do
  x' ← analyze_constexpr i x
  t' ← analyze_maybe_type t
  t'' ← found_maybe i none t'
  ret (constant f p q i x' t'')
analyze_decl names (function f p q i ps b t) = do
  i' ← use_function i
  r ← in_new_scope (analyze_params_and_body ps b)
  function_of names f p q r.0 r.1 t i'
analyze_decl names (function_head f p q i ps t) = do
  i' ← use_function i
  ps' ← in_new_scope (in_turn (analyze_param 5) ps)
  function_head_of f p q ps' t i'
analyze_decl names (structure f p i ms t) = do
  ms' ← in_new_scope (in_turn (analyze_member i) ms)
  t' ← analyze_maybe_type t
  ret (structure f p i ms' t')
analyze_decl names (import b p) = ret (import b p)
analyze_decl names (bad_decl z) = ret (bad_decl z)

-- an arm of predeclare, by the name as declared: a duplicate is answered by its poison alone
unfoldable pub declared_as : {P : Type 0} → (Ident P → Decl P) → Maybe P (Ident P) → Decl P
declared_as f (ok i) = f i
declared_as f (err z) = bad_decl z

-- predeclare
unfoldable pub predeclare : {P : Type 0} → Decl P → Pass P (Decl P)
predeclare (constant f p q i x t) = declare_constant i >>= λ r. ret (declared_as (λ i'. constant f p q i' x t) r)
predeclare (function f p q i ps b t) = declare_function i >>= λ r. ret (declared_as (λ i'. function f p q i' ps b t) r)
predeclare (function_head f p q i ps t) = declare_function i >>= λ r. ret (declared_as (λ i'. function_head f p q i' ps t) r)
predeclare (structure f p i ms t) = declare_struct i >>= λ r. ret (declared_as (λ i'. structure f p i' ms t) r)
predeclare (import b p) = ret (import b p)
predeclare (bad_decl z) = ret (bad_decl z)

-- postanalyze: the depth of a declaration
unfoldable pub depth_of : {P : Type 0} → List (Container P) → Decl P → ℕ
depth_of cs (constant f p q i x t) = obtain_container_depth i cs
depth_of cs (function f p q i ps b t) = 0
depth_of cs (function_head f p q i ps t) = 0
depth_of cs (structure f p i ms t) = obtain_container_depth i cs
depth_of cs (import b p) = 0
depth_of cs (bad_decl z) = 0

-- analyze of the program, but for the depths: "Predeclaration runs over all declarations first."
unfoldable pub analyze_all : {P : Type 0} → List (List ℕ) → List (Decl P) → Pass P (List (Decl P))
analyze_all names ds = do
  ds' ← in_turn predeclare ds
  in_turn (analyze_decl names) ds'

-- the answered tree, with the depths as they are after both passes
unfoldable pub postanalyzed : {P : Type 0} → List (List ℕ) → List (Decl P) → Analyzer P → Tree P
postanalyzed names ds a = record {
  names = names;
  decls = ds;
  depths = map (depth_of (determine_container_depths a.containment.containers)) ds;
}

-- The maps over places: a tree with other places in it, and nothing else changed.
use Rattle.std.specs.Prelude.{◌≡◌, map}
use Rattle.std.proofs.Math.Option.{Option, none, some}
use Rattle.penne.specs.Scoper.{answered_tree}
use Rattle.penne.specs.Tree.{Ident, Poison, poison, earlier, Maybe, ok, err, Ty, plain, array, array_with_named_length, arraylike, struct, word, unresolved, nameless, pointer, view, Carried, Sort, Node, nil, cons, binary, unary, boolean, signed, bits, string, array_literal, structural, parenthesized, deref, bit_cast, type_cast, length_of_array, size_of, function_call, bad_expr, reference, element, member, member_expression, StmSort, Stm, nil', cons', declaration, assignment, method_call, loop, goto, label, if_else, block, bad_stmt, no_else, or_else, Param, Body, Decl, constant, function, function_head, structure, import, bad_decl, Tree}

-- THE MAPS: f at every place, nothing else changed

unfoldable pub map_ident : {P Q : Type 0} → (P → Q) → Ident P → Ident Q
map_ident f i = record { name = i.name; place = f i.place; id = i.id; auth = i.auth }

unfoldable pub map_poison : {P Q : Type 0} → (P → Q) → Poison P → Poison Q
map_poison f (poison k ns ps) = poison k ns (map f ps)
map_poison f (earlier n) = earlier n

unfoldable pub map_maybe : {P Q A B : Type 0} → (P → Q) → (A → B) → Maybe P A → Maybe Q B
map_maybe f g (ok a) = ok (g a)
map_maybe f g (err z) = err (map_poison f z)

unfoldable pub map_option : {A B : Type 0} → (A → B) → Option A → Option B
map_option g none = none
map_option g (some a) = some (g a)

unfoldable pub map_ty : {P Q : Type 0} → (P → Q) → Ty P → Ty Q
map_ty f (plain k) = plain k
map_ty f (array t n) = array (map_ty f t) n
map_ty f (array_with_named_length t i) = array_with_named_length (map_ty f t) (map_ident f i)
map_ty f (arraylike k t) = arraylike k (map_ty f t)
map_ty f (struct i) = struct (map_ident f i)
map_ty f (word i n) = word (map_ident f i) n
map_ty f (unresolved i) = unresolved (map_ident f i)
map_ty f nameless = nameless
map_ty f (pointer t) = pointer (map_ty f t)
map_ty f (view t) = view (map_ty f t)

unfoldable pub map_maybe_ty : {P Q : Type 0} → (P → Q) → Maybe P (Ty P) → Maybe Q (Ty Q)
map_maybe_ty f t = map_maybe f (map_ty f) t

unfoldable pub map_carried : {P Q : Type 0} → (P → Q) → Carried P → Carried Q
map_carried f c = map_option (map_maybe_ty f) c

unfoldable pub map_node : {P Q : Type 0} {s : Sort} → (P → Q) → Node P s → Node Q s
map_node f nil = nil
map_node f (cons x xs) = cons (map_node f x) (map_node f xs)
map_node f (binary op p q x y) = binary op (f p) (f q) (map_node f x) (map_node f y)
map_node f (unary op p q x) = unary op (f p) (f q) (map_node f x)
map_node f (boolean b p) = boolean b (f p)
map_node f (signed b p c) = signed b (f p) (map_carried f c)
map_node f (bits b p c) = bits b (f p) (map_carried f c)
map_node f (string b p) = string b (f p)
map_node f (array_literal p c es i) = array_literal (f p) (map_carried f c) (map_node f es) i
map_node f (structural p ms c) = structural (f p) (map_node f ms) (map_maybe_ty f c)
map_node f (parenthesized p x) = parenthesized (f p) (map_node f x)
map_node f (deref c r) = deref (map_carried f c) (map_node f r)
map_node f (bit_cast p q c x) = bit_cast (f p) (f q) (map_carried f c) (map_node f x)
map_node f (type_cast p q t x) = type_cast (f p) (f q) (map_ty f t) (map_node f x)
map_node f (length_of_array p r) = length_of_array (f p) (map_node f r)
map_node f (size_of p t) = size_of (f p) (map_ty f t)
map_node f (function_call i b c es) = function_call (map_ident f i) b (map_carried f c) (map_node f es)
map_node f (bad_expr z) = bad_expr (map_poison f z)
map_node f (reference d p q b ts) = reference d (f p) (f q) (map_maybe f (map_ident f) b) (map_node f ts)
map_node f (element n x) = element n (map_node f x)
map_node f (member i o) = member (map_ident f i) o
map_node f (member_expression i o x) = member_expression (map_maybe f (map_ident f) i) o (map_node f x)

unfoldable pub map_stm : {P Q : Type 0} {s : StmSort} → (P → Q) → Stm P s → Stm Q s
map_stm f nil' = nil'
map_stm f (cons' t ts) = cons' (map_stm f t) (map_stm f ts)
map_stm f (declaration p v t i) = declaration (f p) (map_option (map_node f) v) (map_carried f t) (map_ident f i)
map_stm f (assignment p v r) = assignment (f p) (map_node f v) (map_node f r)
map_stm f (method_call i b es) = method_call (map_ident f i) b (map_node f es)
map_stm f (loop p) = loop (f p)
map_stm f (goto i p) = goto (map_ident f i) (f p)
map_stm f (label i p) = label (map_ident f i) (f p)
map_stm f (if_else p op q r x y t e) = if_else (f p) op (f q) (f r) (map_node f x) (map_node f y) (map_stm f t) (map_stm f e)
map_stm f (block p ts) = block (f p) (map_stm f ts)
map_stm f (bad_stmt z) = bad_stmt (map_poison f z)
map_stm f no_else = no_else
map_stm f (or_else p t) = or_else (f p) (map_stm f t)

unfoldable pub map_param : {P Q : Type 0} → (P → Q) → Param P → Param Q
map_param f x = record { place = f x.place; ident = map_maybe f (map_ident f) x.ident; type = map_maybe_ty f x.type }

unfoldable pub map_body : {P Q : Type 0} → (P → Q) → Body P → Body Q
map_body f b = record { statements = map_stm f b.statements; value = map_option (map_node f) b.value; result = map_ident f b.result }

unfoldable pub map_decl : {P Q : Type 0} → (P → Q) → Decl P → Decl Q
map_decl g (constant f p q i x t) = constant f (g p) (g q) (map_ident g i) (map_node g x) (map_maybe_ty g t)
map_decl g (function f p q i ps b t) = function f (g p) (g q) (map_ident g i) (map (map_param g) ps) (map_maybe g (map_body g) b) (map_maybe_ty g t)
map_decl g (function_head f p q i ps t) = function_head f (g p) (g q) (map_ident g i) (map (map_param g) ps) (map_maybe_ty g t)
map_decl g (structure f p i ms t) = structure f (g p) (map_ident g i) (map (map_param g) ms) (map_maybe_ty g t)
map_decl g (import b p) = import b (g p)
map_decl g (bad_decl z) = bad_decl (map_poison g z)

unfoldable pub map_tree : {P Q : Type 0} → (P → Q) → Tree P → Tree Q
map_tree f t = record { names = t.names; decls = map (map_decl f) t.decls; depths = t.depths }

-- NATURALITY

-- neither pass looks at a place: what the place rule rests on (specs/PlaceRule)
abbrev pub Natural : Type 1
Natural = (P Q : Type 0) (f : P → Q) (t : Tree P) → answered_tree (map_tree f t) ≡ map_tree f (answered_tree t)

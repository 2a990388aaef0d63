-- The encoder: the script tree of docs/FORM.md. `x_b` are the bytes of an x; of a place its number is written.
use Rattle.std.specs.Prelude.{ℕ, zero, suc, ◌+◌, ◌/◌, ◌%◌, true, false, length, ltb}
use mathlib.Core.List.{List, [], ◌∷◌, ◌++◌, flat_map}
use Rattle.std.proofs.Math.Option.{Option, none, some}
use Rattle.penne.specs.Tree.{Spot, Ident, Poison, poison, earlier, Maybe, ok, err, Ty, plain, array, array_with_named_length, arraylike, struct, word, unresolved, nameless, pointer, view, Carried, Kind, Sort, list_of, Node, nil, cons, binary, unary, boolean, signed, bits, string, array_literal, structural, parenthesized, deref, bit_cast, type_cast, length_of_array, size_of, function_call, bad_expr, reference, element, member, member_expression, StmSort, stmts, Stm, nil', cons', declaration, assignment, method_call, loop, goto, label, if_else, block, bad_stmt, no_else, or_else, Param, Body, Decl, constant, function, function_head, structure, import, bad_decl, Tree}

-- n in at most k groups of seven bits, low group first
unfoldable pub groups_b : (k n : ℕ) → List ℕ
groups_b zero n = []
groups_b (suc k) n = elim (ltb n 128) [ true ↦ n ∷ [] | false ↦ (128 + n % 128) ∷ groups_b k (n / 128) ]

-- "A number is groups of seven bits": the shortest form
unfoldable pub num_b : ℕ → List ℕ
num_b n = groups_b 5 n

-- a place's number
unfoldable pub place_b : Spot → List ℕ
place_b p = num_b p.number

-- a count, then the items
unfoldable pub list_b : {A : Type 0} → (A → List ℕ) → List A → List ℕ
list_b f xs = num_b (length xs) ++ flat_map f xs

-- a length, then the bytes
unfoldable pub bytes_b : List ℕ → List ℕ
bytes_b b = num_b (length b) ++ b

-- "Identifier: name number, place, id, authority (0/1)."
unfoldable pub ident_b : Ident Spot → List ℕ
ident_b i = num_b i.name ++ (place_b i.place ++ (num_b i.id ++ num_b i.auth))

-- a kind, then names, then places
unfoldable pub poison_b : Poison Spot → List ℕ
poison_b (poison k ns ps) = num_b k ++ (flat_map num_b ns ++ flat_map place_b ps)
poison_b (earlier n) = num_b 17 ++ num_b n

-- "'Maybe X' is 0 then X, or 1 then a poison."
unfoldable pub maybe_b : {A : Type 0} → (A → List ℕ) → Maybe Spot A → List ℕ
maybe_b f (ok a) = num_b 0 ++ f a
maybe_b f (err z) = num_b 1 ++ poison_b z

-- "'Option X' is 0, or 1 then X."
unfoldable pub option_b : {A : Type 0} → (A → List ℕ) → Option A → List ℕ
option_b f none = num_b 0
option_b f (some a) = num_b 1 ++ f a

-- "Type", by its kinds
unfoldable pub ty_b : Ty Spot → List ℕ
ty_b (plain k) = num_b k
ty_b (array t n) = num_b 14 ++ (ty_b t ++ num_b n)
ty_b (array_with_named_length t i) = num_b 15 ++ (ty_b t ++ ident_b i)
ty_b (arraylike k t) = num_b k ++ ty_b t
ty_b (struct i) = num_b 20 ++ ident_b i
ty_b (word i n) = num_b 21 ++ (ident_b i ++ num_b n)
ty_b (unresolved i) = num_b 22 ++ ident_b i
ty_b nameless = num_b 23
ty_b (pointer t) = num_b 24 ++ ty_b t
ty_b (view t) = num_b 25 ++ ty_b t

-- "'Carried' is option maybe type"
unfoldable pub carried_b : Carried Spot → List ℕ
carried_b c = option_b (maybe_b ty_b) c

-- a list's count
unfoldable pub count : {k : Kind} → Node Spot (list_of k) → ℕ
count nil = 0
count (cons x xs) = suc (count xs)

-- expressions, references, steps and their lists (a list without its count)
unfoldable pub node_b : {s : Sort} → Node Spot s → List ℕ
node_b nil = []
node_b (cons x xs) = node_b x ++ node_b xs
node_b (binary op p q x y) = num_b 0 ++ (num_b op ++ (place_b p ++ (place_b q ++ (node_b x ++ node_b y))))
node_b (unary op p q x) = num_b 1 ++ (num_b op ++ (place_b p ++ (place_b q ++ node_b x)))
node_b (boolean b p) = num_b 2 ++ (num_b b ++ place_b p)
node_b (signed b p c) = num_b 3 ++ (b ++ (place_b p ++ carried_b c))
node_b (bits b p c) = num_b 4 ++ (b ++ (place_b p ++ carried_b c))
node_b (string b p) = num_b 5 ++ (bytes_b b ++ place_b p)
node_b (array_literal p c es i) = num_b 6 ++ (place_b p ++ (carried_b c ++ ((num_b (count es) ++ node_b es) ++ num_b i)))
node_b (structural p ms c) = num_b 7 ++ (place_b p ++ ((num_b (count ms) ++ node_b ms) ++ maybe_b ty_b c))
node_b (parenthesized p x) = num_b 8 ++ (place_b p ++ node_b x)
node_b (deref c r) = num_b 9 ++ (carried_b c ++ node_b r)
node_b (bit_cast p q c x) = num_b 10 ++ (place_b p ++ (place_b q ++ (carried_b c ++ node_b x)))
node_b (type_cast p q t x) = num_b 11 ++ (place_b p ++ (place_b q ++ (ty_b t ++ node_b x)))
node_b (length_of_array p r) = num_b 12 ++ (place_b p ++ node_b r)
node_b (size_of p t) = num_b 13 ++ (place_b p ++ ty_b t)
node_b (function_call i b c es) = num_b 14 ++ (ident_b i ++ (num_b b ++ (carried_b c ++ (num_b (count es) ++ node_b es))))
node_b (bad_expr z) = num_b 15 ++ poison_b z
node_b (reference d p q b ts) = num_b d ++ (place_b p ++ (place_b q ++ (maybe_b ident_b b ++ (num_b (count ts) ++ node_b ts))))
node_b (element n x) = num_b 0 ++ (num_b n ++ node_b x)
node_b (member i o) = num_b 1 ++ (ident_b i ++ num_b o)
node_b (member_expression i o x) = maybe_b ident_b i ++ (num_b o ++ node_b x)

-- a list of statements' count
unfoldable pub count' : Stm Spot stmts → ℕ
count' nil' = 0
count' (cons' t ts) = suc (count' ts)

-- statements, their lists (without the count), and what may follow a then branch
unfoldable pub stm_b : {s : StmSort} → Stm Spot s → List ℕ
stm_b nil' = []
stm_b (cons' t ts) = stm_b t ++ stm_b ts
stm_b (declaration p v t i) = num_b 0 ++ (place_b p ++ (option_b node_b v ++ (carried_b t ++ ident_b i)))
stm_b (assignment p v r) = num_b 1 ++ (place_b p ++ (node_b v ++ node_b r))
stm_b (method_call i b es) = num_b 2 ++ (ident_b i ++ (num_b b ++ (num_b (count es) ++ node_b es)))
stm_b (loop p) = num_b 3 ++ place_b p
stm_b (goto i p) = num_b 4 ++ (ident_b i ++ place_b p)
stm_b (label i p) = num_b 5 ++ (ident_b i ++ place_b p)
stm_b (if_else p op q r x y t e) = num_b 6 ++ (place_b p ++ (num_b op ++ (place_b q ++ (place_b r ++ (node_b x ++ (node_b y ++ (stm_b t ++ stm_b e)))))))
stm_b (block p ts) = num_b 7 ++ (place_b p ++ (num_b (count' ts) ++ stm_b ts))
stm_b (bad_stmt z) = num_b 8 ++ poison_b z
stm_b no_else = num_b 0
stm_b (or_else p t) = num_b 1 ++ (place_b p ++ stm_b t)

-- "Body: list of statements, option expression, identifier."
unfoldable pub body_b : Body Spot → List ℕ
body_b b = (num_b (count' b.statements) ++ stm_b b.statements) ++ (option_b node_b b.value ++ ident_b b.result)

-- "Parameter, member: p, maybe identifier, maybe type."
unfoldable pub param_b : Param Spot → List ℕ
param_b x = place_b x.place ++ (maybe_b ident_b x.ident ++ maybe_b ty_b x.type)

-- "Declaration", by its kinds
unfoldable pub decl_b : Decl Spot → List ℕ
decl_b (constant f p q i x t) = num_b 0 ++ (num_b f ++ (place_b p ++ (place_b q ++ (ident_b i ++ (node_b x ++ maybe_b ty_b t)))))
decl_b (function f p q i ps b t) = num_b 1 ++ (num_b f ++ (place_b p ++ (place_b q ++ (ident_b i ++ (list_b param_b ps ++ (maybe_b body_b b ++ maybe_b ty_b t))))))
decl_b (function_head f p q i ps t) = num_b 2 ++ (num_b f ++ (place_b p ++ (place_b q ++ (ident_b i ++ (list_b param_b ps ++ maybe_b ty_b t)))))
decl_b (structure f p i ms t) = num_b 3 ++ (num_b f ++ (place_b p ++ (ident_b i ++ (list_b param_b ms ++ maybe_b ty_b t))))
decl_b (import b p) = num_b 4 ++ (bytes_b b ++ place_b p)
decl_b (bad_decl z) = num_b 5 ++ poison_b z

-- names, declarations, depths
unfoldable pub encode : Tree Spot → List ℕ
encode t = list_b bytes_b t.names ++ (list_b decl_b t.decls ++ flat_map num_b t.depths)

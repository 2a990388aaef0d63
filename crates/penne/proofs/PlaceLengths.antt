-- An answer is as long with blank places: of a place only the number of bytes counts.
use Prim.Native.Nat.{ℕ, suc, ◌+◌}
use mathlib.Core.Path.{◌≡◌, refl, sym, ◌∙◌, ap}
use mathlib.Core.List.{List, [], ◌∷◌, ◌++◌, map, flat_map}
use mathlib.Core.Option.{Option, none, some}
use lib.ListN.{length, length-map, length-append}
use Rattle.penne.specs.Tree.{Spot, Ident, Poison, poison, earlier, Maybe, ok, err, Ty, plain, array, array_with_named_length, arraylike, struct, word, unresolved, nameless, pointer, view, Carried, Kind, Sort, list_of, Node, nil, cons, binary, unary, boolean, signed, bits, string, array_literal, structural, parenthesized, deref, bit_cast, type_cast, length_of_array, size_of, function_call, bad_expr, reference, element, member, member_expression, StmSort, stmts, Stm, nil', cons', declaration, assignment, method_call, loop, goto, label, if_else, block, bad_stmt, no_else, or_else, Param, Body, Decl, constant, function, function_head, structure, import, bad_decl, Tree}
use Rattle.penne.specs.Write.{num_b, place_b, list_b, bytes_b, ident_b, poison_b, maybe_b, option_b, ty_b, carried_b, count, node_b, count', stm_b, body_b, param_b, decl_b, encode}
use Rattle.penne.specs.Places.{map_ident, map_poison, map_maybe, map_option, map_ty, map_maybe_ty, map_carried, map_node, map_stm, map_param, map_body, map_decl, map_tree}
use Rattle.penne.specs.PlaceRule.{blank}
use Rattle.penne.proofs.PlaceWidths.{long_least}

-- as long as one another
record Long (xs ys : List ℕ) : Type 0 where
  is : length xs ≡ length ys

infixr 20 ◌⊕◌
◌⊕◌ : {xs ys us vs : List ℕ} → Long xs ys → Long us vs → Long (xs ++ us) (ys ++ vs)
◌⊕◌ {xs} {ys} {us} {vs} p q = record { is = length-append xs us ∙ (λ k. p.is k + q.is k) ∙ sym (length-append ys vs) }

the : (xs : List ℕ) → Long xs xs
the xs = record { is = refl }

long_number : {m n : ℕ} → m ≡ n → Long (num_b m) (num_b n)
long_number e = record { is = ap (λ (k : ℕ). length (num_b k)) e }

long_place : (p : Spot) → Long (place_b (blank p)) (place_b p)
unfolding place_b blank
long_place p = record { is = long_least p.number }

long_ident : (i : Ident Spot) → Long (ident_b (map_ident blank i)) (ident_b i)
unfolding ident_b map_ident
long_ident i = the (num_b i.name) ⊕ long_place i.place ⊕ the (num_b i.id) ⊕ the (num_b i.auth)

-- items that are as long one by one
long_each : {A : Type 0} (f : A → List ℕ) (g : A → A) → ((x : A) → Long (f (g x)) (f x)) → (xs : List A) → Long (flat_map f (map g xs)) (flat_map f xs)
unfolding flat_map
long_each f g h [] = the []
long_each f g h (x ∷ xs) = h x ⊕ long_each f g h xs

long_list : {A : Type 0} (f : A → List ℕ) (g : A → A) → ((x : A) → Long (f (g x)) (f x)) → (xs : List A) → Long (list_b f (map g xs)) (list_b f xs)
unfolding list_b
long_list f g h xs = long_number (length-map xs g) ⊕ long_each f g h xs

long_poison : (z : Poison Spot) → Long (poison_b (map_poison blank z)) (poison_b z)
unfolding poison_b map_poison
long_poison (poison k ns ps) = the (num_b k) ⊕ the (flat_map num_b ns) ⊕ long_each place_b blank long_place ps
long_poison (earlier n) = the (num_b 17 ++ num_b n)

long_maybe : {A : Type 0} (f : A → List ℕ) (g : A → A) → ((x : A) → Long (f (g x)) (f x)) → (r : Maybe Spot A) → Long (maybe_b f (map_maybe blank g r)) (maybe_b f r)
unfolding maybe_b map_maybe
long_maybe f g h (ok x) = the (num_b 0) ⊕ h x
long_maybe f g h (err z) = the (num_b 1) ⊕ long_poison z

long_option : {A : Type 0} (f : A → List ℕ) (g : A → A) → ((x : A) → Long (f (g x)) (f x)) → (o : Option A) → Long (option_b f (map_option g o)) (option_b f o)
unfolding option_b map_option
long_option f g h none = the (num_b 0)
long_option f g h (some x) = the (num_b 1) ⊕ h x

long_ty : (t : Ty Spot) → Long (ty_b (map_ty blank t)) (ty_b t)
unfolding ty_b map_ty
long_ty (plain k) = the (num_b k)
long_ty (array t n) = the (num_b 14) ⊕ long_ty t ⊕ the (num_b n)
long_ty (array_with_named_length t i) = the (num_b 15) ⊕ long_ty t ⊕ long_ident i
long_ty (arraylike k t) = the (num_b k) ⊕ long_ty t
long_ty (struct i) = the (num_b 20) ⊕ long_ident i
long_ty (word i n) = the (num_b 21) ⊕ long_ident i ⊕ the (num_b n)
long_ty (unresolved i) = the (num_b 22) ⊕ long_ident i
long_ty nameless = the (num_b 23)
long_ty (pointer t) = the (num_b 24) ⊕ long_ty t
long_ty (view t) = the (num_b 25) ⊕ long_ty t

long_maybe_ty : (t : Maybe Spot (Ty Spot)) → Long (maybe_b ty_b (map_maybe_ty blank t)) (maybe_b ty_b t)
unfolding map_maybe_ty
long_maybe_ty t = long_maybe ty_b (map_ty blank) long_ty t

long_carried : (c : Carried Spot) → Long (carried_b (map_carried blank c)) (carried_b c)
unfolding carried_b map_carried
long_carried c = long_option (maybe_b ty_b) (map_maybe_ty blank) long_maybe_ty c

same_count : {k : Kind} (xs : Node Spot (list_of k)) → count (map_node blank xs) ≡ count xs
unfolding count map_node
same_count nil = refl
same_count (cons x xs) = ap suc (same_count xs)

long_node : {s : Sort} (x : Node Spot s) → Long (node_b (map_node blank x)) (node_b x)
unfolding node_b map_node
long_node nil = the []
long_node (cons x xs) = long_node x ⊕ long_node xs
long_node (binary op p q x y) = the (num_b 0) ⊕ the (num_b op) ⊕ long_place p ⊕ long_place q ⊕ long_node x ⊕ long_node y
long_node (unary op p q x) = the (num_b 1) ⊕ the (num_b op) ⊕ long_place p ⊕ long_place q ⊕ long_node x
long_node (boolean b p) = the (num_b 2) ⊕ the (num_b b) ⊕ long_place p
long_node (signed b p c) = the (num_b 3) ⊕ the b ⊕ long_place p ⊕ long_carried c
long_node (bits b p c) = the (num_b 4) ⊕ the b ⊕ long_place p ⊕ long_carried c
long_node (string b p) = the (num_b 5) ⊕ the (bytes_b b) ⊕ long_place p
long_node (array_literal p c es i) = the (num_b 6) ⊕ long_place p ⊕ long_carried c ⊕ (long_number (same_count es) ⊕ long_node es) ⊕ the (num_b i)
long_node (structural p ms c) = the (num_b 7) ⊕ long_place p ⊕ (long_number (same_count ms) ⊕ long_node ms) ⊕ long_maybe_ty c
long_node (parenthesized p x) = the (num_b 8) ⊕ long_place p ⊕ long_node x
long_node (deref c r) = the (num_b 9) ⊕ long_carried c ⊕ long_node r
long_node (bit_cast p q c x) = the (num_b 10) ⊕ long_place p ⊕ long_place q ⊕ long_carried c ⊕ long_node x
long_node (type_cast p q t x) = the (num_b 11) ⊕ long_place p ⊕ long_place q ⊕ long_ty t ⊕ long_node x
long_node (length_of_array p r) = the (num_b 12) ⊕ long_place p ⊕ long_node r
long_node (size_of p t) = the (num_b 13) ⊕ long_place p ⊕ long_ty t
long_node (function_call i b c es) = the (num_b 14) ⊕ long_ident i ⊕ the (num_b b) ⊕ long_carried c ⊕ long_number (same_count es) ⊕ long_node es
long_node (bad_expr z) = the (num_b 15) ⊕ long_poison z
long_node (reference d p q b ts) = the (num_b d) ⊕ long_place p ⊕ long_place q ⊕ long_maybe ident_b (map_ident blank) long_ident b ⊕ long_number (same_count ts) ⊕ long_node ts
long_node (element n x) = the (num_b 0) ⊕ the (num_b n) ⊕ long_node x
long_node (member i o) = the (num_b 1) ⊕ long_ident i ⊕ the (num_b o)
long_node (member_expression i o x) = long_maybe ident_b (map_ident blank) long_ident i ⊕ the (num_b o) ⊕ long_node x

same_count' : (ts : Stm Spot stmts) → count' (map_stm blank ts) ≡ count' ts
unfolding count' map_stm
same_count' nil' = refl
same_count' (cons' t ts) = ap suc (same_count' ts)

long_stm : {s : StmSort} (t : Stm Spot s) → Long (stm_b (map_stm blank t)) (stm_b t)
unfolding stm_b map_stm
long_stm nil' = the []
long_stm (cons' t ts) = long_stm t ⊕ long_stm ts
long_stm (declaration p v t i) = the (num_b 0) ⊕ long_place p ⊕ long_option node_b (map_node blank) long_node v ⊕ long_carried t ⊕ long_ident i
long_stm (assignment p v r) = the (num_b 1) ⊕ long_place p ⊕ long_node v ⊕ long_node r
long_stm (method_call i b es) = the (num_b 2) ⊕ long_ident i ⊕ the (num_b b) ⊕ long_number (same_count es) ⊕ long_node es
long_stm (loop p) = the (num_b 3) ⊕ long_place p
long_stm (goto i p) = the (num_b 4) ⊕ long_ident i ⊕ long_place p
long_stm (label i p) = the (num_b 5) ⊕ long_ident i ⊕ long_place p
long_stm (if_else p op q r x y t e) = the (num_b 6) ⊕ long_place p ⊕ the (num_b op) ⊕ long_place q ⊕ long_place r ⊕ long_node x ⊕ long_node y ⊕ long_stm t ⊕ long_stm e
long_stm (block p ts) = the (num_b 7) ⊕ long_place p ⊕ long_number (same_count' ts) ⊕ long_stm ts
long_stm (bad_stmt z) = the (num_b 8) ⊕ long_poison z
long_stm no_else = the (num_b 0)
long_stm (or_else p t) = the (num_b 1) ⊕ long_place p ⊕ long_stm t

long_body : (b : Body Spot) → Long (body_b (map_body blank b)) (body_b b)
unfolding body_b map_body
long_body b = (long_number (same_count' b.statements) ⊕ long_stm b.statements) ⊕ long_option node_b (map_node blank) long_node b.value ⊕ long_ident b.result

long_param : (x : Param Spot) → Long (param_b (map_param blank x)) (param_b x)
unfolding param_b map_param
long_param x = long_place x.place ⊕ long_maybe ident_b (map_ident blank) long_ident x.ident ⊕ long_maybe_ty x.type

long_decl : (d : Decl Spot) → Long (decl_b (map_decl blank d)) (decl_b d)
unfolding decl_b map_decl
long_decl (constant f p q i x t) = the (num_b 0) ⊕ the (num_b f) ⊕ long_place p ⊕ long_place q ⊕ long_ident i ⊕ long_node x ⊕ long_maybe_ty t
long_decl (function f p q i ps b t) = the (num_b 1) ⊕ the (num_b f) ⊕ long_place p ⊕ long_place q ⊕ long_ident i ⊕ long_list param_b (map_param blank) long_param ps ⊕ long_maybe body_b (map_body blank) long_body b ⊕ long_maybe_ty t
long_decl (function_head f p q i ps t) = the (num_b 2) ⊕ the (num_b f) ⊕ long_place p ⊕ long_place q ⊕ long_ident i ⊕ long_list param_b (map_param blank) long_param ps ⊕ long_maybe_ty t
long_decl (structure f p i ms t) = the (num_b 3) ⊕ the (num_b f) ⊕ long_place p ⊕ long_ident i ⊕ long_list param_b (map_param blank) long_param ms ⊕ long_maybe_ty t
long_decl (import b p) = the (num_b 4) ⊕ the (bytes_b b) ⊕ long_place p
long_decl (bad_decl z) = the (num_b 5) ⊕ long_poison z

long_tree : (t : Tree Spot) → Long (encode (map_tree blank t)) (encode t)
unfolding encode map_tree
long_tree t = the (list_b bytes_b t.names) ⊕ long_list decl_b (map_decl blank) long_decl t.decls ⊕ the (flat_map num_b t.depths)

-- trees that are the same with blank places have encodings of one length
pub same_length : (t t' : Tree Spot) → map_tree blank t ≡ map_tree blank t' → length (encode t) ≡ length (encode t')
same_length t t' e = sym (long_tree t).is ∙ ap (λ (x : Tree Spot). length (encode x)) e ∙ (long_tree t').is

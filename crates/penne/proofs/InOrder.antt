-- The list is in tree order: what the passes list is what is left of the uses in the order in which they were read.
use Prim.Native.Nat.{ℕ, zero, suc}
use mathlib.Core.Path.{◌≡◌, refl, sym, ◌∙◌, ap, subst}
use mathlib.Core.List.{List, [], ◌∷◌, ◌++◌, map, flat_map, append_assoc, append-nil, map-append}
use mathlib.Core.Option.{Option, none, some}
use lib.ListN.{length}
use Rattle.penne.specs.Tree.{Spot, Ident, Maybe, ok, err, Ty, Sort, Node, nil, cons, binary, unary, boolean, signed, bits, string, array_literal, structural, parenthesized, deref, bit_cast, type_cast, length_of_array, size_of, function_call, bad_expr, reference, element, member, member_expression, Expr, StmSort, Stm, nil', cons', declaration, assignment, method_call, loop, goto, label, if_else, block, bad_stmt, no_else, or_else, Param, Body, Decl, constant, function, function_head, structure, import, bad_decl}
use Rattle.penne.specs.Labels.{Labels, use_label, declare_label, labels, labels_body, labels_decl, labels_decls, label_references}
use Rattle.penne.specs.Pruning.{Prunings, no_prunings, Fate, pruned, poisoned, standing, poison_variable, list_skip, offsets}
use Rattle.penne.specs.Pruning as R
use Rattle.penne.specs.Scopes.{Analyzer}
use Rattle.penne.specs.Scoper.{analyze, skip_list}
use Rattle.penne.specs.Order.{Rising, InTreeOrder}
use Rattle.penne.specs.Standing.{base, outline, outline_option, outline_stm, outline_body, any_type}
use Rattle.penne.specs.State as S
use Rattle.penne.specs.Scopes as Q
use Rattle.penne.specs.Variables as V'
use Rattle.penne.proofs.Rising.{LeftOf, neither, stays, left_none, left_all, left_append, left_rising}
use Rattle.penne.proofs.OffsetsRead.{offsets_at, offsets_of, in_node, in_stm, in_body, in_decl, decoded_rises}
use Rattle.penne.proofs.Leaves.{Leaves, l_ret, l_bind, l_as, l_type, l_maybe, l_turn, l_param, l_found, l_function, l_function_of, l_head, l_structure, l_predeclare}
use Rattle.penne.proofs.Keeps.{label_skips}

-- THE FIRST PASS: it changes gotos and labels alone

used_label : (i : Ident Spot) (p : Spot) (o : Option (Ident Spot)) → in_stm (use_label i p o) ≡ []
unfolding use_label outline_stm offsets_of offsets_at
used_label i p none = refl
used_label i p (some j) = refl

declared_label : (i : Ident Spot) (p : Spot) (o : Option (Ident Spot)) → in_stm (declare_label i p o) ≡ []
unfolding declare_label outline_stm offsets_of offsets_at
declared_label i p none = refl
declared_label i p (some j) = refl

same_stm : {s : StmSort} (t : Stm Spot s) (l : Labels Spot) → in_stm (labels t l).0 ≡ in_stm t
unfolding labels outline_stm offsets_of offsets_at
same_stm nil' l = refl
same_stm (cons' t ts) l = λ k. same_stm t (labels ts l).1 k ++ same_stm ts l k
same_stm (declaration p v t i) l = refl
same_stm (assignment p v r) l = refl
same_stm (method_call i b es) l = refl
same_stm (loop p) l = refl
same_stm (goto i p) l = used_label i p _
same_stm (label i p) l = declared_label _ p _
same_stm (if_else p op q r x y t e) l = λ k. in_node x ++ (in_node y ++ (same_stm t l k ++ same_stm e (labels t l).1 k))
same_stm (block p ts) l = same_stm ts l
same_stm (bad_stmt z) l = refl
same_stm no_else l = refl
same_stm (or_else p t) l = same_stm t l

same_decl : (d : Decl Spot) (l : Labels Spot) → in_decl (labels_decl d l).0 ≡ in_decl d
unfolding labels_decl labels_body in_decl in_body outline_body offsets_of
same_decl (constant f p q i x t) l = refl
same_decl (function f p q i ps (ok b) t) l = ap (λ (ns : List ℕ). ns ++ offsets_of (outline_option any_type b.value)) (same_stm b.statements l)
same_decl (function f p q i ps (err z) t) l = refl
same_decl (function_head f p q i ps t) l = refl
same_decl (structure f p i ms t) l = refl
same_decl (import b p) l = refl
same_decl (bad_decl z) l = refl

same_decls : (ds : List (Decl Spot)) (l : Labels Spot) → flat_map in_decl (labels_decls ds l).0 ≡ flat_map in_decl ds
unfolding labels_decls flat_map
same_decls [] l = refl
same_decls (d ∷ ds) l = λ k. same_decl d l k ++ same_decls ds (labels_decl d l).1 k

-- PREDECLARATION: a duplicate goes with all that it holds

left_declared : (f : Ident Spot → Decl Spot) (r : Maybe Spot (Ident Spot)) (ns : List ℕ) → ((i : Ident Spot) → in_decl (f i) ≡ ns) → LeftOf (in_decl (V'.declared_as f r)) ns
unfolding V'.declared_as in_decl
left_declared f (ok i) ns h = subst (λ (ms : List ℕ). LeftOf ms ns) (sym (h i)) (left_all ns)
left_declared f (err z) ns h = left_none ns

left_predeclared : (d : Decl Spot) (a : Analyzer Spot) → LeftOf (in_decl (V'.predeclare d a).0) (in_decl d)
unfolding V'.predeclare S.◌>>=◌ S.ret in_decl
left_predeclared (constant f p q i x t) a = left_declared _ _ _ (λ j. refl)
left_predeclared (function f p q i ps b t) a = left_declared _ _ _ (λ j. refl)
left_predeclared (function_head f p q i ps t) a = left_declared _ _ _ (λ j. refl)
left_predeclared (structure f p i ms t) a = left_declared _ _ _ (λ j. refl)
left_predeclared (import b p) a = neither
left_predeclared (bad_decl z) a = neither

left_all_predeclared : (ds : List (Decl Spot)) (a : Analyzer Spot) → LeftOf (flat_map in_decl (V'.in_turn V'.predeclare ds a).0) (flat_map in_decl ds)
unfolding V'.in_turn S.◌>>=◌ S.ret flat_map
left_all_predeclared [] a = neither
left_all_predeclared (d ∷ ds) a = left_append (left_predeclared d a) (left_all_predeclared ds (V'.predeclare d a).1)

-- THE SECOND PASS

-- the uses of records, by their offsets
abbrev uses_of : List (Spot × Spot) → List ℕ
uses_of rs = map (λ r. r.0.from) rs

-- from a to a' the list grew by records whose uses are left of these
record Grown (a a' : Analyzer Spot) (ns : List ℕ) : Type 0 where
  added : List (Spot × Spot)
  grows : a'.prunings.skips ≡ a.prunings.skips ++ added
  left : LeftOf (uses_of added) ns

-- so it is with a step from every state
record Lists {A : Type 0} (m : Q.Pass Spot A) (ns : List ℕ) : Type 0 where
  go : (a : Analyzer Spot) → Grown a (m a).1 ns

-- a step that leaves the list alone
silent : {A : Type 0} {m : Q.Pass Spot A} → ((a : Analyzer Spot) → (m a).1.prunings.skips ≡ a.prunings.skips) → (ns : List ℕ) → Lists m ns
silent h ns = record { go = λ a. record { added = []; grows = h a ∙ sym (append-nil _); left = left_none ns } }

listless : {A : Type 0} {m : Q.Pass Spot A} → Leaves m → (ns : List ℕ) → Lists m ns
listless p ns = silent (λ a. ap (λ (s : Prunings Spot). s.skips) (p.same a)) ns

-- one step after another
s_bind : {A B : Type 0} {m : Q.Pass Spot A} {f : A → Q.Pass Spot B} {ns ms : List ℕ} → Lists m ns → ((x : A) → Lists (f x) ms) → Lists (S.◌>>=◌ m f) (ns ++ ms)
unfolding S.◌>>=◌
s_bind {m = m} {f} {ns} {ms} p q = record {
  go = λ a.
      let u = p.go a in
      let v = (q (m a).0).go (m a).1 in
      record {
        added = u.added ++ v.added;
        grows = v.grows ∙ ap (λ (l : List (Spot × Spot)). l ++ v.added) u.grows ∙ append_assoc a.prunings.skips u.added v.added;
        left = subst (λ (l : List ℕ). LeftOf l (ns ++ ms)) (sym (map-append (λ r. r.0.from) u.added v.added)) (left_append u.left v.left);
      };
}

s_then : {A B : Type 0} {m : Q.Pass Spot A} {f : A → Q.Pass Spot B} {ns : List ℕ} → Lists m ns → ((x : A) → Leaves (f x)) → Lists (S.◌>>=◌ m f) ns
unfolding S.◌>>=◌
s_then {m = m} p q = record { go = λ a. let u = p.go a in record { added = u.added; grows = ap (λ (s : Prunings Spot). s.skips) ((q (m a).0).same (m a).1) ∙ u.grows; left = u.left } }

s_after : {A B : Type 0} {m : Q.Pass Spot A} {f : A → Q.Pass Spot B} {ns : List ℕ} → Leaves m → ((x : A) → Lists (f x) ns) → Lists (S.◌>>=◌ m f) ns
unfolding S.◌>>=◌
s_after {m = m} p q = record { go = λ a. let u = (q (m a).0).go (m a).1 in record { added = u.added; grows = u.grows ∙ ap (λ (s : Prunings Spot). s.skips ++ u.added) (p.same a); left = u.left } }

s_scope : {A : Type 0} {m : Q.Pass Spot A} {ns : List ℕ} → Lists m ns → Lists (Q.in_new_scope m) ns
unfolding Q.in_new_scope Q.with_stack
s_scope p = record { go = λ a. let u = p.go (Q.new_scope a) in record { added = u.added; grows = u.grows; left = u.left } }

-- a use
s_by : (i j : Ident Spot) (x : Fate Spot) → Lists (Q.use_variable_by i j x) (i.place.from ∷ [])
unfolding Q.use_variable_by Q.with_prunings list_skip poison_variable
s_by i j (pruned c) = record { go = λ a. record { added = (i.place, j.place) ∷ []; grows = refl; left = stays neither } }
s_by i j poisoned = record { go = λ a. record { added = (i.place, j.place) ∷ []; grows = refl; left = stays neither } }
s_by i j standing = listless (l_as i j) _

s_at : (i : Ident Spot) (o : Option (Ident Spot)) → Lists (Q.use_variable_at i o) (i.place.from ∷ [])
unfolding Q.use_variable_at
s_at i none = listless (l_ret _) _
s_at i (some j) = record { go = λ a. (s_by i j _).go a }

s_base : (b : Maybe Spot (Ident Spot)) → Lists (V'.analyze_base b) (offsets_at (base b))
unfolding V'.analyze_base Q.use_variable offsets_at
s_base (ok i) = record { go = λ a. (s_at i _).go a }
s_base (err z) = listless (l_ret _) _

-- steps that leave the list alone
l_called : (i : Ident Spot) (b : ℕ) → Leaves (V'.use_called i b)
unfolding V'.use_called
l_called i zero = l_function i
l_called i (suc b) = l_ret _

l_id : Leaves {P = Spot} Q.create_anonymous_resolution_id
unfolding Q.create_anonymous_resolution_id Q.next_id
l_id = record { same = λ a. refl }

l_option : {A : Type 0} {f : A → Q.Pass Spot A} (o : Option A) → ((x : A) → Leaves (f x)) → Leaves (V'.analyze_option f o)
unfolding V'.analyze_option
l_option none h = l_ret _
l_option (some x) h = l_bind (h x) (λ y. l_ret _)

-- expressions
s_cast : (p q : Spot) {m : Q.Pass Spot (Expr Spot)} {ns : List ℕ} → Lists m ns → (r : Maybe Spot (Ty Spot)) → Lists (V'.cast_to p q m r) ns
unfolding V'.cast_to
s_cast p q h (ok t) = s_then h (λ x. l_ret _)
s_cast p q h (err z) = listless (l_ret _) _

s_node : {s : Sort} (x : Node Spot s) → Lists (V'.analyze_node x) (in_node x)
unfolding V'.analyze_node outline offsets_of any_type
s_node nil = listless (l_ret _) _
s_node (cons x xs) = s_bind (s_node x) (λ y. s_then (s_node xs) (λ ys. l_ret _))
s_node (binary op p q x y) = s_bind (s_node x) (λ x'. s_then (s_node y) (λ y'. l_ret _))
s_node (unary op p q x) = s_then (s_node x) (λ x'. l_ret _)
s_node (boolean b p) = listless (l_ret _) _
s_node (signed b p c) = listless (l_ret _) _
s_node (bits b p c) = listless (l_ret _) _
s_node (string b p) = listless (l_ret _) _
s_node (array_literal p c es i) = s_then (s_scope (s_node es)) (λ es'. l_bind l_id (λ i'. l_ret _))
s_node (structural p ms c) = s_then (s_node ms) (λ ms'. l_bind (l_maybe c) (λ c'. l_ret _))
s_node (parenthesized p x) = s_then (s_node x) (λ x'. l_ret _)
s_node (deref c r) = s_then (s_node r) (λ r'. l_ret _)
s_node (bit_cast p q c x) = s_then (s_node x) (λ x'. l_ret _)
s_node (type_cast p q t x) = s_after (l_type t) (s_cast p q (s_node x))
s_node (length_of_array p r) = s_then (s_node r) (λ r'. l_ret _)
s_node (size_of p t) = listless (l_bind (l_type t) (λ t'. l_ret _)) _
s_node (function_call i b c es) = s_then (s_node es) (λ es'. l_bind (l_called i b) (λ i'. l_ret _))
s_node (bad_expr z) = listless (l_ret _) _
s_node (reference d p q b ts) = s_bind (s_base b) (λ b'. s_then (s_node ts) (λ ts'. l_ret _))
s_node (element n x) = s_then (s_node x) (λ x'. l_ret _)
s_node (member i o) = listless (l_ret _) _
s_node (member_expression i o x) = s_then (s_node x) (λ x'. l_ret _)

s_value : (v : Option (Expr Spot)) → Lists (V'.analyze_option V'.analyze_node v) (offsets_of (outline_option any_type v))
unfolding V'.analyze_option outline_option offsets_of
s_value none = listless (l_ret _) _
s_value (some x) = s_then (s_node x) (λ x'. l_ret _)

-- statements
s_goto : (i : Ident Spot) (p : Spot) → Lists (Q.prepare_to_prune_at_goto i p) []
unfolding Q.prepare_to_prune_at_goto Q.with_prunings R.prepare_to_prune_at_goto
s_goto i p = silent (λ a. refl) _

s_label : (i : Ident Spot) → Lists (Q.prune_at_label i) []
unfolding Q.prune_at_label Q.with_prunings
s_label i = silent (λ a. label_skips i _ a.prunings) _

l_variable : (i : Ident Spot) → Leaves (Q.declare_variable 4 i)
unfolding Q.declare_variable Q.next_id Q.with_stack
l_variable i = record { same = λ a. refl }

s_stm : {s : StmSort} (t : Stm Spot s) → Lists (V'.analyze_stm t) (in_stm t)
unfolding V'.analyze_stm outline_stm offsets_of offsets_at
s_stm nil' = listless (l_ret _) _
s_stm (cons' t ts) = s_bind (s_stm t) (λ x. s_then (s_stm ts) (λ y. l_ret _))
s_stm (declaration p v t i) = s_bind (s_value v) (λ x. listless (l_bind (l_option t l_maybe) (λ y. l_bind (l_variable i) (λ z. l_ret _))) _)
s_stm (assignment p v r) = s_bind (s_node v) (λ x. s_then (s_node r) (λ y. l_ret _))
s_stm (method_call i b es) = s_then (s_node es) (λ x. l_bind (l_called i b) (λ y. l_ret _))
s_stm (loop p) = listless (l_ret _) _
s_stm (goto i p) = s_then (s_goto i p) (λ x. l_ret _)
s_stm (label i p) = s_then (s_label i) (λ x. l_ret _)
s_stm (if_else p op q r x y t e) = s_bind (s_node x) (λ x. s_bind (s_node y) (λ y. s_bind (s_stm t) (λ t. s_then (s_stm e) (λ e. l_ret _))))
s_stm (block p ts) = s_then (s_scope (s_stm ts)) (λ x. l_ret _)
s_stm (bad_stmt z) = listless (l_ret _) _
s_stm no_else = listless (l_ret _) _
s_stm (or_else p t) = s_then (s_stm t) (λ x. l_ret _)

-- declarations
s_inside : (b : Body Spot) → Lists (V'.analyze_in_body b) (offsets_of (outline_body any_type b))
unfolding V'.analyze_in_body outline_body offsets_of
s_inside b = s_bind (s_stm b.statements) (λ x. s_then (s_value b.value) (λ y. l_ret _))

s_body : (b : Maybe Spot (Body Spot)) → Lists (V'.analyze_body b) (in_body b)
unfolding V'.analyze_body in_body
s_body (ok b) = s_then (s_scope (s_inside b)) (λ x. l_bind l_id (λ y. l_ret _))
s_body (err z) = listless (l_ret _) _

s_constexpr : (i : Ident Spot) (x : Expr Spot) → Lists (V'.analyze_constexpr i x) (in_node x)
unfolding V'.analyze_constexpr V'.in_constexpr_of Q.with_containment
s_constexpr i x = record { go = λ a. let u = (s_node x).go (V'.in_constexpr_of (some i) a) in record { added = u.added; grows = u.grows; left = u.left } }

s_inner : (ps : List (Param Spot)) (b : Maybe Spot (Body Spot)) → Lists (V'.analyze_params_and_body ps b) (in_body b)
unfolding V'.analyze_params_and_body
s_inner ps b = s_after (l_turn _ ps (l_param 5)) (λ x. s_then (s_body b) (λ y. l_ret _))

s_decl : (names : List (List ℕ)) (d : Decl Spot) → Lists (V'.analyze_decl names d) (in_decl d)
unfolding V'.analyze_decl in_decl
s_decl names (constant f p q i x t) = s_then (s_constexpr i x) (λ y. l_bind (l_maybe t) (λ z. l_bind (l_found i none z) (λ w. l_ret _)))
s_decl names (function f p q i ps b t) = s_after (l_function i) (λ j. s_then (s_scope (s_inner ps b)) (λ r. l_function_of names f p q r.0 r.1 t j))
s_decl names (function_head f p q i ps t) = listless (l_head names f p q i ps t) _
s_decl names (structure f p i ms t) = listless (l_structure names f p i ms t) _
s_decl names (import b p) = listless (l_ret _) _
s_decl names (bad_decl z) = listless (l_ret _) _

s_decls : (names : List (List ℕ)) (ds : List (Decl Spot)) → Lists (V'.in_turn (V'.analyze_decl names) ds) (flat_map in_decl ds)
unfolding V'.in_turn flat_map
s_decls names [] = listless (l_ret _) _
s_decls names (d ∷ ds) = s_bind (s_decl names d) (λ x. s_then (s_decls names ds) (λ y. l_ret _))

-- BOTH PASSES

uses_offsets : (rs : List (Spot × Spot)) → map (λ r. r.0) (offsets rs) ≡ uses_of rs
unfolding offsets
uses_offsets [] = refl
uses_offsets (r ∷ rs) = ap (λ (l : List ℕ). r.0.from ∷ l) (uses_offsets rs)

-- before the second pass looks at a declaration the list is empty
begun : (ds : List (Decl Spot)) → (V'.in_turn V'.predeclare ds Q.begin).1.prunings.skips ≡ []
unfolding Q.begin no_prunings
begun ds = ap (λ (s : Prunings Spot). s.skips) ((l_turn _ ds l_predeclare).same Q.begin)

left_uses : (names : List (List ℕ)) (ds : List (Decl Spot)) (ns : List ℕ) → LeftOf (flat_map in_decl (V'.in_turn V'.predeclare ds Q.begin).0) ns → {from to : ℕ} → Rising from to ns → Rising from to (map (λ r. r.0) (offsets (V'.analyze_all names ds Q.begin).1.prunings.skips))
unfolding V'.analyze_all S.◌>>=◌
left_uses names ds ns p {from} {to} r =
    let u = (s_decls names (V'.in_turn V'.predeclare ds Q.begin).0).go (V'.in_turn V'.predeclare ds Q.begin).1 in
    let e = u.grows ∙ ap (λ (l : List (Spot × Spot)). l ++ u.added) (begun ds) in
    subst (λ (l : List ℕ). Rising from to l) (sym (ap (λ (l : List (Spot × Spot)). map (λ r. r.0) (offsets l)) e ∙ uses_offsets u.added)) (left_rising u.left (left_rising p r))

pub in_tree_order : InTreeOrder
unfolding skip_list analyze label_references
in_tree_order s t c e =
    left_uses t.names (label_references t.decls) _ (left_all_predeclared _ _) (subst (λ (ns : List ℕ). Rising 0 (length s) ns) (sym (same_decls t.decls _)) (decoded_rises s e))

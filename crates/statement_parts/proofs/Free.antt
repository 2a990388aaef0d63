-- Whatever is analysed but a constant's value, `in_constexpr_of_constant` stays: for expressions, statements and bodies.
use Prim.Native.Nat.{ℕ, zero, suc}
use mathlib.Core.Path.{◌≡◌, refl}
use mathlib.Core.Option.{Option, none, some}
use Rattle.penne.specs.Tree.{Spot, Kind, Ident, Maybe, ok, err, Ty, Sort, Node, nil, cons, binary, unary, boolean, signed, bits, string, array_literal, structural, parenthesized, deref, bit_cast, type_cast, length_of_array, size_of, function_call, bad_expr, reference, element, member, member_expression, StmSort, Stm, nil', cons', declaration, assignment, method_call, loop, goto, label, if_else, block, bad_stmt, no_else, or_else, Body, Carried}
use Rattle.penne.specs.State as S
use Rattle.penne.specs.Pruning.{Fate, pruned, poisoned, standing}
use Rattle.penne.specs.Scopes.{Analyzer, Pass}
use Rattle.penne.specs.Scopes as Q
use Rattle.penne.specs.Variables as V'
use Rattle.types.proofs.Within.{Within, within_none, within_then, within_containee, within_type, within_maybe}
use Rattle.statement_parts.specs.Stating.{is_free}

pub free_same : {a b : Analyzer Spot} → Within a b → is_free b ≡ is_free a
unfolding is_free
free_same {a} {b} w = rw w.is

-- NAMES

within_by : (i j : Ident Spot) (x : Fate Spot) (a : Analyzer Spot) → Within a (Q.use_variable_by i j x a).1
unfolding Q.use_variable_by Q.use_as Q.with_prunings
within_by i j (pruned c) a = record { is = refl }
within_by i j poisoned a = record { is = refl }
within_by i j standing a = within_containee _ _ a

within_at : (i : Ident Spot) (o : Option (Ident Spot)) (a : Analyzer Spot) → Within a (Q.use_variable_at i o a).1
unfolding Q.use_variable_at S.ret
within_at i none a = within_none
within_at i (some j) a = within_by i j _ a

within_base : (b : Maybe Spot (Ident Spot)) (a : Analyzer Spot) → Within a (V'.analyze_base b a).1
unfolding V'.analyze_base S.ret Q.use_variable
within_base (ok i) a = within_at i _ a
within_base (err z) a = within_none

within_called : (i : Ident Spot) (b : ℕ) (a : Analyzer Spot) → Within a (V'.use_called i b a).1
unfolding V'.use_called S.ret Q.use_function
within_called i zero a = within_none
within_called i (suc b) a = within_none

-- EXPRESSIONS

within_cast : (p q : Spot) (m : Pass Spot (Node Spot (Sort.one Kind.expr))) → ((a : Analyzer Spot) → Within a (m a).1) → (r : Maybe Spot (Ty Spot)) (a : Analyzer Spot) → Within a (V'.cast_to p q m r a).1
unfolding V'.cast_to S.◌>>=◌ S.ret
within_cast p q m h (ok t) a = h a
within_cast p q m h (err z) a = within_none

-- a scope is opened and closed
within_scope : {a b : Analyzer Spot} (s : Q.Scope Spot) → Within (Q.with_stack a s) b → (u : Q.Scope Spot) → Within a (Q.with_stack b u)
unfolding Q.with_stack
within_scope s w u = record { is = w.is }

pub within_node : {s : Sort} (x : Node Spot s) (a : Analyzer Spot) → Within a (V'.analyze_node x a).1
unfolding V'.analyze_node S.◌>>=◌ S.ret Q.in_new_scope Q.create_anonymous_resolution_id Q.next_id
within_node nil a = within_none
within_node (cons x xs) a = within_then (within_node x a) (within_node xs (V'.analyze_node x a).1)
within_node (binary op p q x y) a = within_then (within_node x a) (within_node y (V'.analyze_node x a).1)
within_node (unary op p q x) a = within_node x a
within_node (boolean b p) a = within_none
within_node (signed b p c) a = within_none
within_node (bits b p c) a = within_none
within_node (string b p) a = within_none
within_node (array_literal p c es i) a = record { is = (within_scope _ (within_node es (Q.with_stack a _)) a.variable_stack).is }
within_node (structural p ms c) a = within_then (within_node ms a) (within_maybe c (V'.analyze_node ms a).1)
within_node (parenthesized p x) a = within_node x a
within_node (deref c r) a = within_node r a
within_node (bit_cast p q c x) a = within_node x a
within_node (type_cast p q t x) a = within_then (within_type t a) (within_cast p q (V'.analyze_node x) (within_node x) (V'.analyze_type t a).0 (V'.analyze_type t a).1)
within_node (length_of_array p r) a = within_node r a
within_node (size_of p t) a = within_type t a
within_node (function_call i b c es) a = within_then (within_node es a) (within_called i b (V'.analyze_node es a).1)
within_node (bad_expr z) a = within_none
within_node (reference d p q b ts) a = within_then (within_base b a) (within_node ts (V'.analyze_base b a).1)
within_node (element n x) a = within_node x a
within_node (member i o) a = within_none
within_node (member_expression i o x) a = within_node x a

pub within_option : (v : Option (Node Spot (Sort.one Kind.expr))) (a : Analyzer Spot) → Within a (V'.analyze_option V'.analyze_node v a).1
unfolding V'.analyze_option S.◌>>=◌ S.ret
within_option none a = within_none
within_option (some x) a = within_node x a

pub within_carried : (t : Carried Spot) (a : Analyzer Spot) → Within a (V'.analyze_option V'.analyze_maybe_type t a).1
unfolding V'.analyze_option S.◌>>=◌ S.ret
within_carried none a = within_none
within_carried (some t) a = within_maybe t a

-- STATEMENTS

pub within_declare : (k : ℕ) (i : Ident Spot) (a : Analyzer Spot) → Within a (Q.declare_variable k i a).1
unfolding Q.declare_variable Q.next_id Q.with_stack
within_declare k i a = record { is = refl }

pub within_stm : {s : StmSort} (t : Stm Spot s) (a : Analyzer Spot) → Within a (V'.analyze_stm t a).1
unfolding V'.analyze_stm S.◌>>=◌ S.ret Q.in_new_scope Q.prepare_to_prune_at_goto Q.prune_at_label Q.with_prunings
within_stm nil' a = within_none
within_stm (cons' t ts) a = within_then (within_stm t a) (within_stm ts (V'.analyze_stm t a).1)
within_stm (declaration p v t i) a =
    let b = (V'.analyze_option V'.analyze_node v a).1 in
    let c = (V'.analyze_option V'.analyze_maybe_type t b).1 in
    within_then (within_option v a) (within_then (within_carried t b) (within_declare 4 i c))
within_stm (assignment p v r) a = within_then (within_node v a) (within_node r (V'.analyze_node v a).1)
within_stm (method_call i b es) a = within_then (within_node es a) (within_called i b (V'.analyze_node es a).1)
within_stm (loop p) a = within_none
within_stm (goto i p) a = record { is = refl }
within_stm (label i p) a = record { is = refl }
within_stm (if_else p op q r x y t e) a =
    let b = (V'.analyze_node x a).1 in
    let c = (V'.analyze_node y b).1 in
    within_then (within_node x a) (within_then (within_node y b) (within_then (within_stm t c) (within_stm e (V'.analyze_stm t c).1)))
within_stm (block p ts) a = within_scope _ (within_stm ts (Q.with_stack a _)) a.variable_stack
within_stm (bad_stmt z) a = within_none
within_stm no_else a = within_none
within_stm (or_else p t) a = within_stm t a

pub within_body : (b : Maybe Spot (Body Spot)) (a : Analyzer Spot) → Within a (V'.analyze_body b a).1
unfolding V'.analyze_body V'.analyze_in_body S.◌>>=◌ S.ret Q.in_new_scope Q.create_anonymous_resolution_id Q.next_id
within_body (ok b) a =
    let opened = Q.with_stack a _ in
    record { is = (within_scope _ (within_then (within_stm b.statements opened) (within_option b.value (V'.analyze_stm b.statements opened).1)) a.variable_stack).is }
within_body (err z) a = within_none

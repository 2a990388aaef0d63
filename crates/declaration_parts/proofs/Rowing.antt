-- Whatever is analysed, the rows of the containers keep their identifiers.
use Prim.Native.Nat.{ℕ, zero, suc}
use native.Mathlib.Omega.{arith}
use mathlib.Core.Path.{refl, ◌∙◌}
use mathlib.Core.Option.{Option, none, some}
use Rattle.penne.specs.Tree.{Spot, Kind, Ident, Maybe, ok, err, Ty, plain, array, array_with_named_length, arraylike, struct, word, unresolved, nameless, pointer, view, Sort, Node, nil, cons, binary, unary, boolean, signed, bits, string, array_literal, structural, parenthesized, deref, bit_cast, type_cast, length_of_array, size_of, function_call, bad_expr, reference, element, member, member_expression}
use Rattle.penne.specs.State as S
use Rattle.penne.specs.Pruning.{Fate, pruned, poisoned, standing}
use Rattle.penne.specs.Scopes.{Analyzer, Pass}
use Rattle.penne.specs.Scopes as Q
use Rattle.penne.specs.Variables as V'
use Rattle.containers.proofs.Starting.{Kept, found_kept}

-- b has the rows of a
pub record Rowed (a b : Analyzer Spot) : Type 0 where
  pub is : Kept a.containment.containers b.containment.containers

rowed_none : {a : Analyzer Spot} → Rowed a a
rowed_none = record { is = record { long = refl; same = λ r h. refl } }

rowed_then : {a b c : Analyzer Spot} → Rowed a b → Rowed b c → Rowed a c
rowed_then f g = record { is = record { long = g.is.long ∙ f.is.long; same = λ r h. g.is.same r (omega (arith, f.is.long)) ∙ f.is.same r h } }

-- NAMES

rowed_containee : (i : Ident Spot) (o : Option (Ident Spot)) (a : Analyzer Spot) → Rowed a (Q.use_containee i o a).1
unfolding Q.use_containee Q.on_containment Q.with_containment S.ret
rowed_containee i (some c) a = record { is = found_kept c none i a.containment }
rowed_containee i none a = rowed_none

rowed_by : (i j : Ident Spot) (x : Fate Spot) (a : Analyzer Spot) → Rowed a (Q.use_variable_by i j x a).1
unfolding Q.use_variable_by Q.use_as Q.with_prunings
rowed_by i j (pruned c) a = record { is = record { long = refl; same = λ r h. refl } }
rowed_by i j poisoned a = record { is = record { long = refl; same = λ r h. refl } }
rowed_by i j standing a = rowed_containee _ _ a

rowed_at : (i : Ident Spot) (o : Option (Ident Spot)) (a : Analyzer Spot) → Rowed a (Q.use_variable_at i o a).1
unfolding Q.use_variable_at S.ret
rowed_at i none a = rowed_none
rowed_at i (some j) a = rowed_by i j _ a

rowed_base : (b : Maybe Spot (Ident Spot)) (a : Analyzer Spot) → Rowed a (V'.analyze_base b a).1
unfolding V'.analyze_base S.ret Q.use_variable
rowed_base (ok i) a = rowed_at i _ a
rowed_base (err z) a = rowed_none

rowed_constant_at : (i : Ident Spot) (o o' : Option (Ident Spot)) (a : Analyzer Spot) → Rowed a (Q.use_constant_at i o o' a).1
unfolding Q.use_constant_at S.ret Q.use_as
rowed_constant_at i (some j) o' a = rowed_containee _ _ a
rowed_constant_at i none (some j) a = rowed_none
rowed_constant_at i none none a = rowed_none

rowed_constant : (i : Ident Spot) (a : Analyzer Spot) → Rowed a (Q.use_constant i a).1
unfolding Q.use_constant
rowed_constant i a = rowed_constant_at i _ _ a

rowed_struct_at : (i : Ident Spot) (o : Option (Ident Spot)) (a : Analyzer Spot) → Rowed a (Q.use_struct_at i o a).1
unfolding Q.use_struct_at S.ret Q.use_as
rowed_struct_at i (some j) a = rowed_containee _ _ a
rowed_struct_at i none a = rowed_none

rowed_struct : (i : Ident Spot) (a : Analyzer Spot) → Rowed a (Q.use_struct i a).1
unfolding Q.use_struct
rowed_struct i a = rowed_struct_at i _ a

rowed_called : (i : Ident Spot) (b : ℕ) (a : Analyzer Spot) → Rowed a (V'.use_called i b a).1
unfolding V'.use_called S.ret Q.use_function
rowed_called i zero a = rowed_none
rowed_called i (suc b) a = rowed_none

-- TYPES

rowed_try : {A B : Type 0} (m : Pass Spot (Maybe Spot A)) (f : A → Pass Spot (Maybe Spot B)) (a : Analyzer Spot) → Rowed a (m a).1 → ((x : A) (b : Analyzer Spot) → Rowed b (f x b).1) → Rowed a ((S.◌>>?◌ m f) a).1
unfolding S.◌>>?◌ S.◌>>=◌ S.ret S.or_poison
rowed_try {A} m f a e h = go (m a).0 (m a).1 e
  where
    go : (r : Maybe Spot A) (b : Analyzer Spot) → Rowed a b → Rowed a (S.or_poison f r b).1
    go (ok x) b e = rowed_then e (h x b)
    go (err z) b e = e

pub rowed_type : (t : Ty Spot) (a : Analyzer Spot) → Rowed a (V'.analyze_type t a).1
unfolding V'.analyze_type S.ret
rowed_type (plain k) a = rowed_none
rowed_type (array t n) a = rowed_try _ _ a (rowed_type t a) (λ _ _. rowed_none)
rowed_type (array_with_named_length t i) a = rowed_try _ _ a (rowed_type t a) (λ _ b. rowed_try _ _ b (rowed_constant i b) (λ _ _. rowed_none))
rowed_type (arraylike k t) a = rowed_try _ _ a (rowed_type t a) (λ _ _. rowed_none)
rowed_type (struct i) a = rowed_try _ _ a (rowed_struct i a) (λ _ _. rowed_none)
rowed_type (word i n) a = rowed_try _ _ a (rowed_struct i a) (λ _ _. rowed_none)
rowed_type (unresolved i) a = rowed_try _ _ a (rowed_struct i a) (λ _ _. rowed_none)
rowed_type nameless a = rowed_none
rowed_type (pointer t) a = rowed_try _ _ a (rowed_type t a) (λ _ _. rowed_none)
rowed_type (view t) a = rowed_try _ _ a (rowed_type t a) (λ _ _. rowed_none)

pub rowed_maybe : (t : Maybe Spot (Ty Spot)) (a : Analyzer Spot) → Rowed a (V'.analyze_maybe_type t a).1
unfolding V'.analyze_maybe_type S.ret
rowed_maybe (ok t) a = rowed_type t a
rowed_maybe (err z) a = rowed_none

-- EXPRESSIONS

rowed_cast : (p q : Spot) (m : Pass Spot (Node Spot (Sort.one Kind.expr))) → ((a : Analyzer Spot) → Rowed a (m a).1) → (r : Maybe Spot (Ty Spot)) (a : Analyzer Spot) → Rowed a (V'.cast_to p q m r a).1
unfolding V'.cast_to S.◌>>=◌ S.ret
rowed_cast p q m h (ok t) a = h a
rowed_cast p q m h (err z) a = rowed_none

-- a scope is opened and closed
rowed_scope : {a b : Analyzer Spot} (s : Q.Scope Spot) → Rowed (Q.with_stack a s) b → (u : Q.Scope Spot) → Rowed a (Q.with_stack b u)
unfolding Q.with_stack
rowed_scope s w u = record { is = w.is }

pub rowed_node : {s : Sort} (x : Node Spot s) (a : Analyzer Spot) → Rowed a (V'.analyze_node x a).1
unfolding V'.analyze_node S.◌>>=◌ S.ret Q.in_new_scope Q.create_anonymous_resolution_id Q.next_id
rowed_node nil a = rowed_none
rowed_node (cons x xs) a = rowed_then (rowed_node x a) (rowed_node xs (V'.analyze_node x a).1)
rowed_node (binary op p q x y) a = rowed_then (rowed_node x a) (rowed_node y (V'.analyze_node x a).1)
rowed_node (unary op p q x) a = rowed_node x a
rowed_node (boolean b p) a = rowed_none
rowed_node (signed b p c) a = rowed_none
rowed_node (bits b p c) a = rowed_none
rowed_node (string b p) a = rowed_none
rowed_node (array_literal p c es i) a = record { is = (rowed_scope _ (rowed_node es (Q.with_stack a _)) a.variable_stack).is }
rowed_node (structural p ms c) a = rowed_then (rowed_node ms a) (rowed_maybe c (V'.analyze_node ms a).1)
rowed_node (parenthesized p x) a = rowed_node x a
rowed_node (deref c r) a = rowed_node r a
rowed_node (bit_cast p q c x) a = rowed_node x a
rowed_node (type_cast p q t x) a = rowed_then (rowed_type t a) (rowed_cast p q (V'.analyze_node x) (rowed_node x) (V'.analyze_type t a).0 (V'.analyze_type t a).1)
rowed_node (length_of_array p r) a = rowed_node r a
rowed_node (size_of p t) a = rowed_type t a
rowed_node (function_call i b c es) a = rowed_then (rowed_node es a) (rowed_called i b (V'.analyze_node es a).1)
rowed_node (bad_expr z) a = rowed_none
rowed_node (reference d p q b ts) a = rowed_then (rowed_base b a) (rowed_node ts (V'.analyze_base b a).1)
rowed_node (element n x) a = rowed_node x a
rowed_node (member i o) a = rowed_none
rowed_node (member_expression i o x) a = rowed_node x a

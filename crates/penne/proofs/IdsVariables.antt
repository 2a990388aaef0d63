-- The ids that the second pass leaves in its answer: all of them count from 1 and are below its next one.
use Prim.Native.Nat.{ℕ, zero, suc, ◌≤◌}
use mathlib.Core.Bool.{Bool, true, false}
use mathlib.Core.Path.{sym, subst}
use mathlib.Core.List.{List, [], ◌∷◌, ◌++◌, map, flat_map}
use mathlib.Core.Option.{Option, none, some}
use native.Mathlib.Omega.{arith}
use Rattle.penne.specs.Tree.{Kind, Ident, Maybe, ok, err, Ty, plain, array, array_with_named_length, arraylike, struct, word, unresolved, nameless, pointer, view, Sort, Expr, Node, nil, cons, binary, unary, boolean, signed, bits, string, array_literal, structural, parenthesized, deref, bit_cast, type_cast, length_of_array, size_of, function_call, bad_expr, reference, element, member, member_expression, StmSort, Stm, nil', cons', declaration, assignment, method_call, loop, goto, label, if_else, block, bad_stmt, no_else, or_else, Param, Body, Decl, constant, function, function_head, structure, import, bad_decl, Carried}
use Rattle.penne.specs.Find.{keep, resolved}
use Rattle.penne.specs.State as S
use Rattle.penne.specs.Pruning.{Fate, pruned, poisoned, standing}
use Rattle.penne.specs.Containers.{Container, Containment}
use Rattle.penne.specs.Containers as C
use Rattle.penne.specs.Scopes.{Analyzer, Scope, Pass, new_scope}
use Rattle.penne.specs.Scopes as Q
use Rattle.penne.specs.Variables as V'
use Rattle.penne.specs.Ids.{given_maybe, given_option, given_ident, given_ty, given_called, given_node, given_stm, given_body, given_param, given_decl, Below, nothing, also}
use Rattle.penne.proofs.IdsPass.{Still, still_constant, still_struct, still_variable, still_function, still_found}
use Rattle.penne.proofs.IdsBelow.{raise, both, left, right, ids_of, Known, known, known_named, each_append, fresh, fresh_last}

-- all that is declared has an id that was given out
record Low {P : Type 0} (a : Analyzer P) : Type 0 where
  constants : Below a.resolution_id (ids_of a.variable_stack.constants)
  locals : Below a.resolution_id (ids_of a.variable_stack.locals)
  functions : Below a.resolution_id (ids_of a.function_list)
  structures : Below a.resolution_id (ids_of (C.structures a.containment.containers))
  begun : 1 ≤ a.resolution_id

-- a step from a answers ids that are given out then, and gives out more ids only
record Fine {P A : Type 0} (h : A → List ℕ) (a : Analyzer P) (r : A × Analyzer P) : Type 0 where
  low : Low r.1
  up : a.resolution_id ≤ r.1.resolution_id
  given : Below r.1.resolution_id (h r.0)

-- the same of a step wherever n ids were given out
record After {P A : Type 0} (n : ℕ) (h : A → List ℕ) (m : Pass P A) : Type 0 where
  at : (a : Analyzer P) → n ≤ a.resolution_id → Low a → Fine h a (m a)

module _ {P : Type 0} where
  after_ret : {A : Type 0} {n : ℕ} (h : A → List ℕ) {x : A} → Below n (h x) → After {P = P} n h (S.ret x)
  unfolding S.ret
  after_ret h p = record { at = λ a i l. record { low = l; up = omega arith; given = raise i p } }

  after_bind : {A B : Type 0} {n : ℕ} {g : A → List ℕ} {h : B → List ℕ} {m : Pass P A} {f : A → Pass P B} → After n g m → ((x : A) (k : ℕ) → n ≤ k → Below k (g x) → After k h (f x)) → After n h (S.◌>>=◌ m f)
  unfolding S.◌>>=◌
  after_bind {m = m} p q = record {
    at = λ a i l.
        let u = p.at a i l in
        let v = (q (m a).0 (m a).1.resolution_id (omega (arith, u.up)) u.given).at (m a).1 (omega arith) u.low in
        record { low = v.low; up = omega (arith, u.up, v.up); given = v.given };
  }

  after_try : {A B : Type 0} {n : ℕ} (g : A → List ℕ) (h : B → List ℕ) {m : Pass P (Maybe P A)} {f : A → Pass P (Maybe P B)} → After n (given_maybe g) m → ((x : A) (k : ℕ) → n ≤ k → Below k (g x) → After k (given_maybe h) (f x)) → After n (given_maybe h) (S.◌>>?◌ m f)
  unfolding S.◌>>?◌ S.or_poison given_maybe
  after_try {A} {B} {n} g h {m} {f} p q = after_bind p go
    where
      go : (r : Maybe P A) (k : ℕ) → n ≤ k → Below k (given_maybe g r) → After k (given_maybe h) (S.or_poison f r)
      go (ok x) k i b = q x k i b
      go (err z) k i b = after_ret (given_maybe h) nothing

  -- USES

  low_still : {n : ℕ} {a b : Analyzer P} → Still n a b → Low a → Low b
  low_still {a = a} {b} p l = record {
    constants = subst (λ (s : Scope P). Below b.resolution_id (ids_of s.constants)) (sym p.stack) (raise p.takes.lower l.constants);
    locals = subst (λ (s : Scope P). Below b.resolution_id (ids_of s.locals)) (sym p.stack) (raise p.takes.lower l.locals);
    functions = subst (λ (is : List (Ident P)). Below b.resolution_id (ids_of is)) (sym p.takes.functions) (raise p.takes.lower l.functions);
    structures = subst (λ (is : List (Ident P)). Below b.resolution_id (ids_of is)) (sym p.takes.names.structures) (raise p.takes.lower l.structures);
    begun = omega (arith, p.takes.lower, l.begun);
  }

  abbrev mi : Maybe P (Ident P) → List ℕ
  mi r = given_maybe given_ident r

  -- found_container_1 answers its containee, or a poison
  given_added : {n : ℕ} (c : Ident P) (m : Option (Ident P)) (x : Ident P) (ids : List ℕ) (b : Bool) (cs : List (Container P)) → Below n (given_ident x) → Below n (mi (C.added_ids c m x ids b cs).0)
  unfolding C.added_ids given_maybe
  given_added c m x ids true cs p = nothing
  given_added c m x ids false cs p = p

  given_add : {n : ℕ} (c : Ident P) (m : Option (Ident P)) (x : Ident P) (ids : List ℕ) (b : Bool) (cs : List (Container P)) → Below n (given_ident x) → Below n (mi (C.add_ids c m x ids b cs).0)
  unfolding C.add_ids given_maybe
  given_add c m x ids true cs p = nothing
  given_add c m x ids false cs p = given_added c m x ids _ _ p

  given_found1 : {n : ℕ} (c : Ident P) (m : Option (Ident P)) (x : Ident P) (s : Containment P) → Below n (given_ident x) → Below n (mi (C.found_container_1 c m x s).0)
  unfolding C.found_container_1
  given_found1 c m x s p = given_add c m x _ _ _ p

  given_containee : {n : ℕ} (i : Ident P) (o : Option (Ident P)) (a : Analyzer P) → Below n (given_ident i) → Below n (mi (Q.use_containee i o a).0)
  unfolding Q.use_containee Q.on_containment S.ret given_maybe
  given_containee i (some c) a p = given_found1 c none i a.containment p
  given_containee i none a p = p

  given_as : {n : ℕ} (i j : Ident P) (a : Analyzer P) → Below n (given_ident j) → Below n (mi (Q.use_as i j a).0)
  unfolding Q.use_as given_ident resolved
  given_as i j a p = given_containee (resolved i j.id 0) _ a p

  given_by : {n : ℕ} (i j : Ident P) (x : Fate P) (a : Analyzer P) → Below n (given_ident j) → Below n (mi (Q.use_variable_by i j x a).0)
  unfolding Q.use_variable_by given_maybe
  given_by i j (pruned c) a p = nothing
  given_by i j poisoned a p = nothing
  given_by i j standing a p = given_as i j a p

  given_at : {n : ℕ} (i : Ident P) (o : Option (Ident P)) (a : Analyzer P) → Known n o → Below n (mi (Q.use_variable_at i o a).0)
  unfolding Q.use_variable_at Q.undefined S.ret given_maybe
  given_at i none a k = nothing
  given_at i (some j) a (known p) = given_by i j _ a p

  -- a use: what it finds is known, and the state stays
  after_still : {A : Type 0} {n : ℕ} (h : A → List ℕ) {m : Pass P A} → ((a : Analyzer P) → Still 0 a (m a).1) → ((a : Analyzer P) → Low a → Below a.resolution_id (h (m a).0)) → After n h m
  after_still h {m} s g = record { at = λ a i l. record { low = low_still (s a) l; up = (s a).takes.lower; given = raise (s a).takes.lower (g a l) } }

  given_variable : (i : Ident P) (a : Analyzer P) → Low a → Below a.resolution_id (mi (Q.use_variable i a).0)
  unfolding Q.use_variable Q.variables
  given_variable i a l = given_at i _ a (known_named i.name (a.variable_stack.constants ++ a.variable_stack.locals) (each_append a.variable_stack.constants a.variable_stack.locals l.constants l.locals))

  given_constant_at : {n : ℕ} (i : Ident P) (o o' : Option (Ident P)) (a : Analyzer P) → Known n o → Below n (mi (Q.use_constant_at i o o' a).0)
  unfolding Q.use_constant_at Q.undefined S.ret given_maybe
  given_constant_at i (some j) o' a (known p) = given_as i j a p
  given_constant_at i none (some j) a k = nothing
  given_constant_at i none none a k = nothing

  given_constant : (i : Ident P) (a : Analyzer P) → Low a → Below a.resolution_id (mi (Q.use_constant i a).0)
  unfolding Q.use_constant
  given_constant i a l = given_constant_at i _ _ a (known_named i.name _ l.constants)

  given_struct_at : {n : ℕ} (i : Ident P) (o : Option (Ident P)) (a : Analyzer P) → Known n o → Below n (mi (Q.use_struct_at i o a).0)
  unfolding Q.use_struct_at Q.undefined S.ret given_maybe
  given_struct_at i (some j) a (known p) = given_as i j a p
  given_struct_at i none a k = nothing

  given_struct : (i : Ident P) (a : Analyzer P) → Low a → Below a.resolution_id (mi (Q.use_struct i a).0)
  unfolding Q.use_struct
  given_struct i a l = given_struct_at i _ a (known_named i.name _ l.structures)

  given_function_at : {n : ℕ} (i : Ident P) (o : Option (Ident P)) → Known n o → Below n (mi (Q.use_function_at i o))
  unfolding Q.use_function_at Q.undefined given_maybe given_ident resolved
  given_function_at i (some j) (known p) = p
  given_function_at i none k = nothing

  given_function : (i : Ident P) (a : Analyzer P) → Low a → Below a.resolution_id (mi (Q.use_function i a).0)
  unfolding Q.use_function
  given_function i a l = given_function_at i _ (known_named i.name _ l.functions)

  after_constant : {n : ℕ} (i : Ident P) → After n mi (Q.use_constant i)
  after_constant i = after_still mi (still_constant i) (given_constant i)

  after_struct : {n : ℕ} (i : Ident P) → After n mi (Q.use_struct i)
  after_struct i = after_still mi (still_struct i) (given_struct i)

  after_function : {n : ℕ} (i : Ident P) → After n mi (Q.use_function i)
  after_function i = after_still mi (still_function i) (given_function i)

  after_base : {n : ℕ} (b : Maybe P (Ident P)) → After n mi (V'.analyze_base b)
  unfolding V'.analyze_base given_maybe
  after_base (ok i) = after_still mi (still_variable i) (given_variable i)
  after_base (err z) = after_ret mi nothing

  -- of the name of a call
  given_call : ℕ → Maybe P (Ident P) → List ℕ
  given_call b r = given_maybe (λ i. given_called i b) r

  after_called : {n : ℕ} (i : Ident P) (b : ℕ) → After n (given_call b) (V'.use_called i b)
  unfolding V'.use_called given_call given_called given_maybe
  after_called i zero = after_still _ (still_function i) (given_function i)
  after_called i (suc b) = after_ret (given_call (suc b)) nothing

  -- TYPES

  mt : Maybe P (Ty P) → List ℕ
  mt r = given_maybe given_ty r

  after_type : {n : ℕ} (t : Ty P) → After n mt (V'.analyze_type t)
  unfolding V'.analyze_type mt given_ty given_maybe
  after_type (plain k) = after_ret mt nothing
  after_type (array t n) = after_try given_ty given_ty (after_type t) λ x k i p. after_ret mt p
  after_type (array_with_named_length t i) = after_try given_ty given_ty (after_type t) λ x k u p. after_try given_ident given_ty (after_constant i) λ y l v q. after_ret mt (both (raise v p) q)
  after_type (arraylike k t) = after_try given_ty given_ty (after_type t) λ x k i p. after_ret mt p
  after_type (struct i) = after_try given_ident given_ty (after_struct i) λ x k u p. after_ret mt p
  after_type (word i n) = after_try given_ident given_ty (after_struct i) λ x k u p. after_ret mt p
  after_type (unresolved i) = after_try given_ident given_ty (after_struct i) λ x k u p. after_ret mt p
  after_type nameless = after_ret mt nothing
  after_type (pointer t) = after_try given_ty given_ty (after_type t) λ x k i p. after_ret mt p
  after_type (view t) = after_try given_ty given_ty (after_type t) λ x k i p. after_ret mt p

  after_maybe : {n : ℕ} (t : Maybe P (Ty P)) → After n mt (V'.analyze_maybe_type t)
  unfolding V'.analyze_maybe_type mt given_maybe
  after_maybe (ok t) = after_type t
  after_maybe (err z) = after_ret mt nothing

  -- EXPRESSIONS

  after_scope : {A : Type 0} {n : ℕ} {h : A → List ℕ} {m : Pass P A} → After n h m → After n h (Q.in_new_scope m)
  unfolding Q.in_new_scope Q.with_stack
  after_scope {m = m} p = record {
    at = λ a i l.
        let u = p.at (new_scope a) i (record { constants = l.constants; locals = l.locals; functions = l.functions; structures = l.structures; begun = l.begun }) in
        record {
          low = record { constants = raise u.up l.constants; locals = raise u.up l.locals; functions = u.low.functions; structures = u.low.structures; begun = u.low.begun };
          up = u.up;
          given = u.given;
        };
  }

  after_next : {n : ℕ} → After {P = P} n (λ i. i ∷ []) Q.create_anonymous_resolution_id
  unfolding Q.create_anonymous_resolution_id Q.next_id
  after_next = record {
    at = λ a i l. record {
      low = record { constants = raise (omega arith) l.constants; locals = raise (omega arith) l.locals; functions = raise (omega arith) l.functions; structures = raise (omega arith) l.structures; begun = omega arith };
      up = omega arith;
      given = also l.begun (omega arith) nothing;
    };
  }

  after_cast : {n : ℕ} (p q : P) {m : Pass P (Expr P)} → ((k : ℕ) → After k given_node m) → (r : Maybe P (Ty P)) → Below n (mt r) → After n given_node (V'.cast_to p q m r)
  unfolding V'.cast_to mt given_maybe given_node
  after_cast p q g (ok t) b = after_bind (g _) λ x k i u. after_ret given_node (both (raise i b) u)
  after_cast p q g (err z) b = after_ret given_node nothing

  given_size : {n : ℕ} (p : P) (r : Maybe P (Ty P)) → Below n (mt r) → Below n (given_node (V'.size_of_type p r))
  unfolding V'.size_of_type mt given_maybe given_node
  given_size p (ok t) b = b
  given_size p (err z) b = nothing

  given_call_lem : {n : ℕ} (b : ℕ) (c : Carried P) (es : Node P (Sort.list_of Kind.expr)) (r : Maybe P (Ident P)) → Below n (given_call b r) → Below n (given_node es) → Below n (given_node (V'.call_to b c es r))
  unfolding V'.call_to given_call given_maybe given_node
  given_call_lem b c es (ok i) u v = both u v
  given_call_lem b c es (err z) u v = nothing

  after_node : {s : Sort} (x : Node P s) (n : ℕ) → After n given_node (V'.analyze_node x)
  unfolding V'.analyze_node given_node mt
  after_node nil n = after_ret given_node nothing
  after_node (cons x xs) n = after_bind (after_node x n) λ x' k i u. after_bind (after_node xs k) λ y l j v. after_ret given_node (both (raise j u) v)
  after_node (binary op p q x y) n = after_bind (after_node x n) λ x' k i u. after_bind (after_node y k) λ y l j v. after_ret given_node (both (raise j u) v)
  after_node (unary op p q x) n = after_bind (after_node x n) λ x' k i u. after_ret given_node u
  after_node (boolean b p) n = after_ret given_node nothing
  after_node (signed b p c) n = after_ret given_node nothing
  after_node (bits b p c) n = after_ret given_node nothing
  after_node (string b p) n = after_ret given_node nothing
  after_node (array_literal p c es i) n = after_bind (after_scope (after_node es n)) λ x' k i u. after_bind after_next λ y l j v. after_ret given_node (both (raise j u) v)
  after_node (structural p ms c) n = after_bind (after_node ms n) λ x' k i u. after_bind (after_maybe c) λ y l j v. after_ret given_node (both (raise j u) v)
  after_node (parenthesized p x) n = after_bind (after_node x n) λ x' k i u. after_ret given_node u
  after_node (deref c r) n = after_bind (after_node r n) λ x' k i u. after_ret given_node u
  after_node (bit_cast p q c x) n = after_bind (after_node x n) λ x' k i u. after_ret given_node u
  after_node (type_cast p q t x) n = after_bind (after_type t) λ r k i u. after_cast p q (after_node x) r u
  after_node (length_of_array p r) n = after_bind (after_node r n) λ x' k i u. after_ret given_node u
  after_node (size_of p t) n = after_bind (after_type t) λ r k i u. after_ret given_node (given_size p r u)
  after_node (function_call i b c es) n = after_bind (after_node es n) λ x' k i' u. after_bind (after_called i b) λ r l j v. after_ret given_node (given_call_lem b c x' r v (raise j u))
  after_node (bad_expr z) n = after_ret given_node nothing
  after_node (reference d p q b ts) n = after_bind (after_base b) λ x' k i u. after_bind (after_node ts k) λ y l j v. after_ret given_node (both (raise j u) v)
  after_node (element n x) m = after_bind (after_node x m) λ x' k i u. after_ret given_node u
  after_node (member i o) n = after_ret given_node nothing
  after_node (member_expression i o x) n = after_bind (after_node x n) λ x' k i u. after_ret given_node u

  after_option : {A : Type 0} {n : ℕ} (h : A → List ℕ) {f : A → Pass P A} → ((x : A) → After n h (f x)) → (v : Option A) → After n (given_option h) (V'.analyze_option f v)
  unfolding V'.analyze_option given_option
  after_option h g none = after_ret (given_option h) nothing
  after_option h g (some x) = after_bind (g x) λ y k i u. after_ret (given_option h) u

  -- STATEMENTS

  given_duplicate : {n : ℕ} (k : ℕ) (i : Ident P) (o : Option (Ident P)) → Below n (given_ident i) → Below n (mi (Q.unless_duplicate k i o))
  unfolding Q.unless_duplicate given_maybe
  given_duplicate k i (some j) p = nothing
  given_duplicate k i none p = p

  after_declare : {n : ℕ} (k : ℕ) (i : Ident P) → After n mi (Q.declare_variable k i)
  unfolding Q.declare_variable Q.next_id Q.with_stack Q.push_variable Q.authoritative
  after_declare k i = record {
    at = λ a u l. record {
      low = record {
        constants = raise (omega arith) l.constants;
        locals = fresh_last a.variable_stack.locals i l.begun l.locals;
        functions = raise (omega arith) l.functions;
        structures = raise (omega arith) l.structures;
        begun = omega arith;
      };
      up = omega arith;
      given = given_duplicate k (resolved i a.resolution_id 1) _ (fresh i l.begun);
    };
  }

  mc : Carried P → List ℕ
  mc c = given_option (given_maybe given_ty) c

  after_carried : {n : ℕ} (c : Carried P) → After n mc (V'.analyze_option V'.analyze_maybe_type c)
  unfolding mc mt
  after_carried c = after_option (given_maybe given_ty) (λ t. after_maybe t) c

  given_declaration : {n : ℕ} (p : P) (v : Option (Expr P)) (t : Carried P) (r : Maybe P (Ident P)) → Below n (given_option given_node v) → Below n (mc t) → Below n (mi r) → Below n (given_stm (V'.declaration_of p v t r))
  unfolding V'.declaration_of given_stm given_maybe mc
  given_declaration p v t (ok i) x y z = both x (both y z)
  given_declaration p v t (err w) x y z = nothing

  given_method : {n : ℕ} (b : ℕ) (es : Node P (Sort.list_of Kind.expr)) (r : Maybe P (Ident P)) → Below n (given_call b r) → Below n (given_node es) → Below n (given_stm (V'.method_to b es r))
  unfolding V'.method_to given_call given_maybe given_stm
  given_method b es (ok i) u v = both u v
  given_method b es (err z) u v = nothing

  -- gotos and labels change the prunings alone
  after_goto : {n : ℕ} (i : Ident P) (p : P) → After n (λ _. []) (Q.prepare_to_prune_at_goto i p)
  unfolding Q.prepare_to_prune_at_goto Q.with_prunings
  after_goto i p = record { at = λ a u l. record { low = record { constants = l.constants; locals = l.locals; functions = l.functions; structures = l.structures; begun = l.begun }; up = omega arith; given = nothing } }

  after_label : {n : ℕ} (i : Ident P) → After n (λ _. []) (Q.prune_at_label i)
  unfolding Q.prune_at_label Q.with_prunings
  after_label i = record { at = λ a u l. record { low = record { constants = l.constants; locals = l.locals; functions = l.functions; structures = l.structures; begun = l.begun }; up = omega arith; given = nothing } }

  after_stm : {s : StmSort} (t : Stm P s) (n : ℕ) → After n given_stm (V'.analyze_stm t)
  unfolding V'.analyze_stm given_stm
  after_stm nil' n = after_ret given_stm nothing
  after_stm (cons' t ts) n = after_bind (after_stm t n) λ x k i u. after_bind (after_stm ts k) λ y l j v. after_ret given_stm (both (raise j u) v)
  after_stm (declaration p v t i) n = after_bind (after_option given_node (λ x. after_node x n) v) λ x k i' u. after_bind (after_carried t) λ y l j v'. after_bind (after_declare 4 i) λ r m h w. after_ret given_stm (given_declaration p x y r (raise (omega arith) u) (raise h v') w)
  after_stm (assignment p v r) n = after_bind (after_node v n) λ x k i u. after_bind (after_node r k) λ y l j v'. after_ret given_stm (both (raise j u) v')
  after_stm (method_call i b es) n = after_bind (after_node es n) λ x k i' u. after_bind (after_called i b) λ r l j v. after_ret given_stm (given_method b x r v (raise j u))
  after_stm (loop p) n = after_ret given_stm nothing
  after_stm (goto i p) n = after_bind (after_goto i p) λ x k i' u. after_ret given_stm nothing
  after_stm (label i p) n = after_bind (after_label i) λ x k i' u. after_ret given_stm nothing
  after_stm (if_else p op q r x y t e) n = after_bind (after_node x n) λ x' k i u. after_bind (after_node y k) λ y' l j v. after_bind (after_stm t l) λ t' m h w. after_bind (after_stm e m) λ e' o g z. after_ret given_stm (both (raise (omega arith) u) (both (raise (omega arith) v) (both (raise g w) z)))
  after_stm (block p ts) n = after_bind (after_scope (after_stm ts n)) λ x k i u. after_ret given_stm u
  after_stm (bad_stmt z) n = after_ret given_stm nothing
  after_stm no_else n = after_ret given_stm nothing
  after_stm (or_else p t) n = after_bind (after_stm t n) λ x k i u. after_ret given_stm u

  -- of a body without its identifier
  given_inside : Body P → List ℕ
  given_inside b = given_stm b.statements ++ given_option given_node b.value

  after_inside : {n : ℕ} (b : Body P) → After n given_inside (V'.analyze_in_body b)
  unfolding V'.analyze_in_body given_inside
  after_inside b = after_bind (after_stm b.statements _) λ ts k i u. after_bind (after_option given_node (λ x. after_node x k) b.value) λ v l j w. after_ret given_inside (both (raise j u) w)

  mb : Maybe P (Body P) → List ℕ
  mb r = given_maybe given_body r

  after_body : {n : ℕ} (b : Maybe P (Body P)) → After n mb (V'.analyze_body b)
  unfolding V'.analyze_body mb given_maybe given_body given_inside given_ident resolved
  after_body (ok b) = after_bind (after_scope (after_inside b)) λ b' k i u. after_bind after_next λ y l j v. after_ret mb (both (left (given_stm b'.statements) _ (raise j u)) (both (right (given_stm b'.statements) _ (raise j u)) v))
  after_body (err z) = after_ret mb nothing

  -- PARAMETERS AND MEMBERS

  after_name : {n : ℕ} (k : ℕ) (i : Maybe P (Ident P)) → After n mi (V'.declare_maybe k i)
  unfolding V'.declare_maybe given_maybe
  after_name k (ok i) = after_declare k i
  after_name k (err z) = after_ret mi nothing

  after_param : {n : ℕ} (k : ℕ) (x : Param P) → After n given_param (V'.analyze_param k x)
  unfolding V'.analyze_param given_param mt
  after_param k x = after_bind (after_name k x.ident) λ i m h u. after_bind (after_maybe x.type) λ t l j v. after_ret given_param (both (raise j u) v)

  given_try : {A B : Type 0} {n : ℕ} (g : A → List ℕ) (h : B → List ℕ) (m : S.State (Containment P) (Maybe P A)) (f : A → S.State (Containment P) (Maybe P B)) (s : Containment P) → Below n (given_maybe g (m s).0) → ((x : A) (u : Containment P) → Below n (g x) → Below n (given_maybe h (f x u).0)) → Below n (given_maybe h ((S.◌>>?◌ m f) s).0)
  unfolding S.◌>>?◌ S.◌>>=◌ S.ret S.or_poison given_maybe
  given_try {A} {n = n} g h m f s p q = go (m s).0 (m s).1 p
    where
      go : (r : Maybe P A) (u : Containment P) → Below n (given_maybe g r) → Below n (given_maybe h (S.or_poison f r u).0)
      go (ok x) u p = q x u p
      go (err z) u p = nothing

  -- found_container answers the type as it is, or a poison
  given_found : {n : ℕ} (c : Ident P) (m : Option (Ident P)) (t : Ty P) (s : Containment P) → Below n (given_ty t) → Below n (mt (C.found_container c m t s).0)
  unfolding C.found_container S.ret mt given_ty given_maybe
  given_found c m (plain k) s p = p
  given_found c m (array t n) s p = given_try given_ty given_ty _ _ s (given_found c m t s p) (λ x u q. q)
  given_found c m (array_with_named_length t i) s p = given_try given_ty given_ty _ _ s (given_found c m t s (left (given_ty t) _ p)) (λ x u q. given_try given_ident given_ty _ _ u (given_found1 c m i u (right (given_ty t) _ p)) (λ y v r. both q r))
  given_found c m (arraylike k t) s p = given_try given_ty given_ty _ _ s (given_found c m t s p) (λ x u q. q)
  given_found c m (struct i) s p = given_try given_ident given_ty _ _ s (given_found1 c m i s p) (λ x u q. q)
  given_found c m (word i n) s p = given_try given_ident given_ty _ _ s (given_found1 c m i s p) (λ x u q. q)
  given_found c m (unresolved i) s p = given_try given_ident given_ty _ _ s (given_found1 c m i s p) (λ x u q. q)
  given_found c m nameless s p = p
  given_found c m (pointer t) s p = p
  given_found c m (view t) s p = p

  given_found_maybe : {n : ℕ} (c : Ident P) (m : Option (Ident P)) (t : Maybe P (Ty P)) (a : Analyzer P) → Below n (mt t) → Below n (mt (V'.found_maybe c m t a).0)
  unfolding V'.found_maybe Q.on_containment S.ret mt given_maybe
  given_found_maybe c m (ok t) a p = given_found c m t a.containment p
  given_found_maybe c m (err z) a p = p

  after_found : {n : ℕ} (c : Ident P) (m : Option (Ident P)) (t : Maybe P (Ty P)) → Below n (mt t) → After n mt (V'.found_maybe c m t)
  after_found c m t p = record { at = λ a i l. record { low = low_still (still_found c m t a) l; up = (still_found c m t a).takes.lower; given = raise (omega (arith, (still_found c m t a).takes.lower)) (given_found_maybe c m t a p) } }

  after_wellfounded : {n : ℕ} (c : Ident P) (i : Maybe P (Ident P)) (t : Maybe P (Ty P)) → Below n (mt t) → After n mt (V'.analyze_wellfoundedness c i t)
  unfolding V'.analyze_wellfoundedness
  after_wellfounded c (ok i) t p = after_found c (some i) t p
  after_wellfounded c (err z) t p = after_ret mt p

  after_member : {n : ℕ} (c : Ident P) (x : Param P) → After n given_param (V'.analyze_member c x)
  unfolding V'.analyze_member given_param mt
  after_member c x = after_bind (after_param 6 x) λ y k i u. after_bind (after_wellfounded c y.ident y.type (right (given_maybe given_ident y.ident) _ u)) λ t l j v. after_ret given_param (both (left (given_maybe given_ident y.ident) _ (raise j u)) v)

  after_turn : {A : Type 0} {n : ℕ} (h : A → List ℕ) {f : A → Pass P A} → ((x : A) (k : ℕ) → n ≤ k → After k h (f x)) → (xs : List A) (k : ℕ) → n ≤ k → After k (flat_map h) (V'.in_turn f xs)
  unfolding V'.in_turn flat_map
  after_turn h g [] k i = after_ret (flat_map h) nothing
  after_turn h g (x ∷ xs) k i = after_bind (g x k i) λ y l j u. after_bind (after_turn h g xs l (omega arith)) λ ys m o v. after_ret (flat_map h) (both (raise o u) v)

  -- DECLARATIONS

  -- the id that predeclaration gave a constant or structure, which stays
  given_own : Decl P → List ℕ
  given_own (constant f p q i x t) = given_ident i
  given_own (function f p q i ps b t) = []
  given_own (function_head f p q i ps t) = []
  given_own (structure f p i ms t) = given_ident i
  given_own (import b p) = []
  given_own (bad_decl z) = []

  after_constexpr : {n : ℕ} (i : Ident P) (x : Expr P) → After n given_node (V'.analyze_constexpr i x)
  unfolding V'.analyze_constexpr V'.in_constexpr_of Q.with_containment
  after_constexpr i x = record {
    at = λ a u l.
        let v = (after_node x _).at (V'.in_constexpr_of (some i) a) u (record { constants = l.constants; locals = l.locals; functions = l.functions; structures = l.structures; begun = l.begun }) in
        record { low = record { constants = v.low.constants; locals = v.low.locals; functions = v.low.functions; structures = v.low.structures; begun = v.low.begun }; up = v.up; given = v.given };
  }

  -- of a function's parameters and body
  given_pair : List (Param P) × Maybe P (Body P) → List ℕ
  given_pair r = flat_map given_param r.0 ++ mb r.1

  after_function_body : {n : ℕ} (ps : List (Param P)) (b : Maybe P (Body P)) → After n given_pair (V'.analyze_params_and_body ps b)
  unfolding V'.analyze_params_and_body given_pair
  after_function_body {n} ps b = after_bind (after_turn {n = n} given_param (λ x k i. after_param 5 x) ps n (omega arith)) λ ps' k i u. after_bind (after_body b) λ b' l j v. after_ret given_pair (both (raise j u) v)

  after_function_of : {n : ℕ} (names : List (List ℕ)) (f : ℕ) (p q : P) (ps : List (Param P)) (b : Maybe P (Body P)) (t : Maybe P (Ty P)) (i : Maybe P (Ident P)) → Below n (given_pair (ps, b)) → Below n (mi i) → After n given_decl (V'.function_of names f p q ps b t i)
  unfolding V'.function_of given_decl given_pair mb mt given_maybe
  after_function_of names f p q ps b t (ok i) u v = after_bind (after_maybe t) λ t' k h w. after_ret given_decl (both (raise h v) (both (left (flat_map given_param ps) _ (raise h u)) (both (right (flat_map given_param ps) _ (raise h u)) w)))
  after_function_of names f p q ps b t (err z) u v = after_ret given_decl nothing

  after_head_of : {n : ℕ} (f : ℕ) (p q : P) (ps : List (Param P)) (t : Maybe P (Ty P)) (i : Maybe P (Ident P)) → Below n (flat_map given_param ps) → Below n (mi i) → After n given_decl (V'.function_head_of f p q ps t i)
  unfolding V'.function_head_of given_decl mt given_maybe
  after_head_of f p q ps t (ok i) u v = after_bind (after_maybe t) λ t' k h w. after_ret given_decl (both (raise h v) (both (raise h u) w))
  after_head_of f p q ps t (err z) u v = after_ret given_decl nothing

  after_decl : {n : ℕ} (names : List (List ℕ)) (d : Decl P) → Below n (given_own d) → After n given_decl (V'.analyze_decl names d)
  unfolding V'.analyze_decl given_own given_decl mt
  after_decl names (constant f p q i x t) o = after_bind (after_constexpr i x) λ x' k h u. after_bind (after_maybe t) λ t' l j v. after_bind (after_found i none t' v) λ t'' m g w. after_ret given_decl (both (raise (omega arith) o) (both (raise (omega arith) u) w))
  after_decl names (function f p q i ps b t) o = after_bind (after_function i) λ i' k h u. after_bind (after_scope (after_function_body ps b)) λ r l j v. after_function_of names f p q r.0 r.1 t i' v (raise j u)
  after_decl names (function_head f p q i ps t) o = after_bind (after_function i) λ i' k h u. after_bind (after_scope (after_turn {n = k} given_param (λ x k i. after_param 5 x) ps k (omega arith))) λ ps' l j v. after_head_of f p q ps' t i' v (raise j u)
  after_decl {n} names (structure f p i ms t) o = after_bind (after_scope (after_turn {n = n} given_param (λ x k j. after_member i x) ms n (omega arith))) λ ms' k h u. after_bind (after_maybe t) λ t' l j v. after_ret given_decl (both (raise (omega arith) o) (both (raise j u) v))
  after_decl names (import b p) o = after_ret given_decl nothing
  after_decl names (bad_decl z) o = after_ret given_decl nothing

  -- PREDECLARATION

  abbrev ids_within : List (Container P) → List ℕ
  ids_within cs = ids_of {P = P} (map C.identifier_of cs)

  -- one container more, a structure or not
  below_push : {n : ℕ} (c : Container P) (cs : List (Container P)) → Below n (ids_of (C.structures cs)) → Below n (given_ident c.identifier) → Below n (ids_of (C.structures (cs ++ (c ∷ []))))
  unfolding C.structures keep C.identifier_of flat_map given_ident
  below_push {n} c [] p q = go c.is_structure
    where
      go : (b : Bool) → Below n (ids_within (elim b as (λ _. List (Container P)) [ true ↦ c ∷ [] | false ↦ [] ]))
      go true = q
      go false = nothing
  below_push {n} c (d ∷ ds) p q = go d.is_structure (keep (λ c. c.is_structure) ds) (keep (λ c. c.is_structure) (ds ++ (c ∷ []))) p (λ r. below_push c ds r q)
    where
      go : (b : Bool) (xs ys : List (Container P)) → Below n (ids_within (elim b as (λ _. List (Container P)) [ true ↦ d ∷ xs | false ↦ xs ])) → (Below n (ids_within xs) → Below n (ids_within ys)) → Below n (ids_within (elim b as (λ _. List (Container P)) [ true ↦ d ∷ ys | false ↦ ys ]))
      go true xs ys (also a b p) h = also a b (h p)
      go false xs ys p h = h p

  module _ (i : Ident P) {n : ℕ} where
    after_declare_constant : After n mi (Q.declare_constant i)
    unfolding Q.declare_constant Q.next_id Q.with_stack Q.with_containment Q.push_constant Q.authoritative C.push_container C.with_containers
    after_declare_constant = record {
      at = λ a u l. record {
        low = record {
          constants = fresh_last a.variable_stack.constants i l.begun l.constants;
          locals = raise (omega arith) l.locals;
          functions = raise (omega arith) l.functions;
          structures = below_push _ a.containment.containers (raise (omega arith) l.structures) (fresh i l.begun);
          begun = omega arith;
        };
        up = omega arith;
        given = given_duplicate 3 (resolved i a.resolution_id 1) _ (fresh i l.begun);
      };
    }

    after_declare_struct : After n mi (Q.declare_struct i)
    unfolding Q.declare_struct Q.next_id Q.with_containment Q.authoritative C.push_container C.with_containers
    after_declare_struct = record {
      at = λ a u l. record {
        low = record {
          constants = raise (omega arith) l.constants;
          locals = raise (omega arith) l.locals;
          functions = raise (omega arith) l.functions;
          structures = below_push _ a.containment.containers (raise (omega arith) l.structures) (fresh i l.begun);
          begun = omega arith;
        };
        up = omega arith;
        given = given_duplicate 8 (resolved i a.resolution_id 1) _ (fresh i l.begun);
      };
    }

    after_declare_function : After n mi (Q.declare_function i)
    unfolding Q.declare_function Q.next_id Q.with_functions Q.authoritative
    after_declare_function = record {
      at = λ a u l. record {
        low = record {
          constants = raise (omega arith) l.constants;
          locals = raise (omega arith) l.locals;
          functions = fresh_last a.function_list i l.begun l.functions;
          structures = raise (omega arith) l.structures;
          begun = omega arith;
        };
        up = omega arith;
        given = given_duplicate 7 (resolved i a.resolution_id 1) _ (fresh i l.begun);
      };
    }

  given_as_decl : {n : ℕ} (f : Ident P → Decl P) → ((i : Ident P) → Below n (given_ident i) → Below n (given_own (f i))) → (r : Maybe P (Ident P)) → Below n (mi r) → Below n (given_own (V'.declared_as f r))
  unfolding V'.declared_as given_own given_maybe
  given_as_decl f h (ok i) p = h i p
  given_as_decl f h (err z) p = nothing

  after_own : {n : ℕ} (d : Decl P) → After n given_own (V'.predeclare d)
  unfolding V'.predeclare given_own
  after_own (constant f p q i x t) = after_bind (after_declare_constant i) λ r k h u. after_ret given_own (given_as_decl _ (λ i p. p) r u)
  after_own (function f p q i ps b t) = after_bind (after_declare_function i) λ r k h u. after_ret given_own (given_as_decl _ (λ i p. nothing) r u)
  after_own (function_head f p q i ps t) = after_bind (after_declare_function i) λ r k h u. after_ret given_own (given_as_decl _ (λ i p. nothing) r u)
  after_own (structure f p i ms t) = after_bind (after_declare_struct i) λ r k h u. after_ret given_own (given_as_decl _ (λ i p. p) r u)
  after_own (import b p) = after_ret given_own nothing
  after_own (bad_decl z) = after_ret given_own nothing

  after_decls : (names : List (List ℕ)) (ds : List (Decl P)) (n : ℕ) → Below n (flat_map given_own ds) → After n (flat_map given_decl) (V'.in_turn (V'.analyze_decl names) ds)
  unfolding V'.in_turn flat_map
  after_decls names [] n o = after_ret (flat_map given_decl) nothing
  after_decls names (d ∷ ds) n o = after_bind (after_decl names d (left (given_own d) _ o)) λ y k h u. after_bind (after_decls names ds k (raise h (right (given_own d) _ o))) λ ys l j v. after_ret (flat_map given_decl) (both (raise j u) v)

  after_all : (names : List (List ℕ)) (ds : List (Decl P)) → After 1 (flat_map given_decl) (V'.analyze_all names ds)
  unfolding V'.analyze_all
  after_all names ds = after_bind (after_turn {n = 1} given_own (λ d k i. after_own d) ds 1 (omega arith)) λ ds' k h u. after_decls names ds' k u

  low_begin : Low {P = P} Q.begin
  unfolding Q.begin C.structures keep flat_map
  low_begin = record { constants = nothing; locals = nothing; functions = nothing; structures = nothing; begun = omega arith }

  -- THE SECOND PASS: the ids in its answer are below its next one
  pub given_variables : (names : List (List ℕ)) (ds : List (Decl P)) → Below (V'.analyze_all names ds Q.begin).1.resolution_id (flat_map given_decl (V'.analyze_all names ds Q.begin).0)
  given_variables names ds = ((after_all names ds).at Q.begin low_begin.begun low_begin).given

-- What the second pass leaves as it was, and how many ids it takes: of every sort of part, a law.
-- A part that opens no scope of its own for long (types, expressions, bodies, declarations) leaves variable_stack as it was (`Still`); statements, parameters and members add locals to its last layer (`Grown`).
use Prim.Native.Nat.{ℕ, zero, suc, ◌+◌, ◌≤◌}
use mathlib.Core.Bool.{Bool, true, false, not}
use mathlib.Core.Path.{◌≡◌, refl, sym, ◌∙◌, ap}
use mathlib.Core.List.{List, [], ◌∷◌, ◌++◌, map, append_assoc, append-nil}
use mathlib.Core.Option.{Option, none, some}
use native.Mathlib.Omega.{arith}
use Rattle.penne.specs.Tree.{Kind, Ident, Maybe, ok, err, Ty, plain, array, array_with_named_length, arraylike, struct, word, unresolved, nameless, pointer, view, Sort, Node, nil, cons, binary, unary, boolean, signed, bits, string, array_literal, structural, parenthesized, deref, bit_cast, type_cast, length_of_array, size_of, function_call, bad_expr, reference, element, member, member_expression, StmSort, Stm, nil', cons', declaration, assignment, method_call, loop, goto, label, if_else, block, bad_stmt, no_else, or_else, Param, Body, Decl, constant, function, function_head, structure, import, bad_decl, Carried}
use Rattle.penne.specs.Find.{keep}
use Rattle.penne.specs.State as S
use Rattle.penne.specs.Pruning.{Fate, pruned, poisoned, standing, Prunings}
use Rattle.penne.specs.Containers.{Container, Containment}
use Rattle.penne.specs.Containers as C
use Rattle.penne.specs.Scopes.{Analyzer, Scope, Pass, new_scope}
use Rattle.penne.specs.Scopes as Q
use Rattle.penne.specs.Variables as V'
use Rattle.penne.specs.Ids.{ids_node, ids_option, ids_stm, ids_body, ids_name, ids_params, ids_decl}

-- THE RELATIONS

-- of a container what its declaration gave it
unfoldable pub face : {P : Type 0} → Container P → Ident P × Bool
face c = (c.identifier, c.is_structure)

-- from cs to ds the same constants and structures are declared, in their order
pub record SameNames {P : Type 0} (cs ds : List (Container P)) : Type 0 where
  pub constants : C.constants ds ≡ C.constants cs
  pub structures : C.structures ds ≡ C.structures cs
  pub faces : map face ds ≡ map face cs

-- from a to b nothing was predeclared, and at most n ids were taken
pub record Takes {P : Type 0} (n : ℕ) (a b : Analyzer P) : Type 0 where
  pub lower : a.resolution_id ≤ b.resolution_id
  pub upper : b.resolution_id ≤ a.resolution_id + n
  pub functions : b.function_list ≡ a.function_list
  pub names : SameNames a.containment.containers b.containment.containers

-- and variable_stack is what it was
pub record Still {P : Type 0} (n : ℕ) (a b : Analyzer P) : Type 0 where
  pub takes : Takes n a b
  pub stack : b.variable_stack ≡ a.variable_stack

-- to variable_stack s locals were added in the last layer, no more
pub record Added {P : Type 0} (s u : Scope P) : Type 0 where
  pub constants : u.constants ≡ s.constants
  pub layer : u.layer ≡ s.layer
  pub more : List (Ident P)
  pub locals : u.locals ≡ s.locals ++ more

-- and variable_stack has only grown
pub record Grown {P : Type 0} (n : ℕ) (a b : Analyzer P) : Type 0 where
  pub takes : Takes n a b
  pub stack : Added a.variable_stack b.variable_stack

module _ {P : Type 0} where
  same_names : {cs : List (Container P)} → SameNames cs cs
  same_names = record { constants = refl; structures = refl; faces = refl }

  takes_none : {n : ℕ} {a b : Analyzer P} → b.resolution_id ≡ a.resolution_id → b.function_list ≡ a.function_list → b.containment ≡ a.containment → Takes n a b
  takes_none e f g = record {
    lower = omega arith;
    upper = omega arith;
    functions = f;
    names = record { constants = ap (λ (c : Containment P). C.constants c.containers) g; structures = ap (λ (c : Containment P). C.structures c.containers) g; faces = ap (λ (c : Containment P). map face c.containers) g };
  }

  takes_then : {m n : ℕ} {a b c : Analyzer P} → Takes m a b → Takes n b c → Takes (m + n) a c
  takes_then p q = record {
    lower = omega (arith, p.lower, q.lower);
    upper = omega (arith, p.upper, q.upper);
    functions = q.functions ∙ p.functions;
    names = record { constants = q.names.constants ∙ p.names.constants; structures = q.names.structures ∙ p.names.structures; faces = q.names.faces ∙ p.names.faces };
  }

  takes_more : {m n : ℕ} {a b : Analyzer P} → m ≤ n → Takes m a b → Takes n a b
  takes_more h p = record { lower = p.lower; upper = omega (arith, p.upper); functions = p.functions; names = p.names }

  pub still_none : {n : ℕ} {a : Analyzer P} → Still n a a
  still_none = record { takes = takes_none refl refl refl; stack = refl }

  pub still_then : {m n : ℕ} {a b c : Analyzer P} → Still m a b → Still n b c → Still (m + n) a c
  still_then p q = record { takes = takes_then p.takes q.takes; stack = q.stack ∙ p.stack }

  pub still_more : {m n : ℕ} {a b : Analyzer P} → m ≤ n → Still m a b → Still n a b
  still_more h p = record { takes = takes_more h p.takes; stack = p.stack }

  added_none : {s u : Scope P} → u ≡ s → Added s u
  added_none e = record { constants = ap (λ (x : Scope P). x.constants) e; layer = ap (λ (x : Scope P). x.layer) e; more = []; locals = ap (λ (x : Scope P). x.locals) e ∙ sym (append-nil _) }

  added_then : {s u v : Scope P} → Added s u → Added u v → Added s v
  added_then {s} p q = record {
    constants = q.constants ∙ p.constants;
    layer = q.layer ∙ p.layer;
    more = p.more ++ q.more;
    locals = q.locals ∙ ap (λ (l : List (Ident P)). l ++ q.more) p.locals ∙ append_assoc s.locals p.more q.more;
  }

  pub grown_still : {n : ℕ} {a b : Analyzer P} → Still n a b → Grown n a b
  grown_still p = record { takes = p.takes; stack = added_none p.stack }

  pub grown_then : {m n : ℕ} {a b c : Analyzer P} → Grown m a b → Grown n b c → Grown (m + n) a c
  grown_then p q = record { takes = takes_then p.takes q.takes; stack = added_then p.stack q.stack }

  pub grown_more : {m n : ℕ} {a b : Analyzer P} → m ≤ n → Grown m a b → Grown n a b
  grown_more h p = record { takes = takes_more h p.takes; stack = p.stack }

  -- a scope is closed
  pub still_scope : {n : ℕ} {a b : Analyzer P} → Grown n (new_scope a) b → Still n a (Q.with_stack b a.variable_stack)
  unfolding Q.with_stack
  still_scope p = record { takes = record { lower = p.takes.lower; upper = p.takes.upper; functions = p.takes.functions; names = p.takes.names }; stack = refl }

  -- create_anonymous_resolution_id
  pub still_next : {a : Analyzer P} → Still 1 a (Q.next_id a)
  unfolding Q.next_id
  still_next = record { takes = record { lower = omega arith; upper = omega arith; functions = refl; names = same_names }; stack = refl }

-- CONTAINERS: what they contain may grow, but not they themselves

module _ {P : Type 0} where
  face-joined : (b : Bool) (ids : List ℕ) (c : Container P) → face (C.joined b ids c) ≡ face c
  unfolding C.joined face
  face-joined true ids c = refl
  face-joined false ids c = refl

  faces_join : (t : Container P → Bool) (ids : List ℕ) (cs : List (Container P)) → map face (C.join_where t ids cs) ≡ map face cs
  unfolding C.join_where
  faces_join t ids [] = refl
  faces_join t ids (c ∷ cs) = λ k. face-joined (t c) ids c k ∷ faces_join t ids cs k

  fst : Ident P × Bool → Ident P
  fst r = r.0

  from_faces : (test : Bool → Bool) (cs : List (Container P)) → map C.identifier_of (keep (λ c. test c.is_structure) cs) ≡ map fst (keep (λ r. test r.1) (map face cs))
  unfolding keep C.identifier_of face fst
  from_faces test [] = refl
  from_faces test (c ∷ cs) = go (test c.is_structure) (keep (λ c. test c.is_structure) cs) (keep (λ r. test r.1) (map face cs)) (from_faces test cs)
    where
      go : (b : Bool) (l : List (Container P)) (m : List (Ident P × Bool)) → map C.identifier_of l ≡ map fst m → map C.identifier_of (elim b as (λ _. List (Container P)) [ true ↦ c ∷ l | false ↦ l ]) ≡ map fst (elim b as (λ _. List (Ident P × Bool)) [ true ↦ face c ∷ m | false ↦ m ])
      go true l m h = ap (λ (l : List (Ident P)). c.identifier ∷ l) h
      go false l m h = h

  pub same_faces : {cs ds : List (Container P)} → map face ds ≡ map face cs → SameNames cs ds
  unfolding C.constants C.structures
  same_faces {cs} {ds} e = record {
    constants = from_faces not ds ∙ ap (λ (l : List (Ident P × Bool)). map fst (keep (λ r. not r.1) l)) e ∙ sym (from_faces not cs);
    structures = from_faces (λ b. b) ds ∙ ap (λ (l : List (Ident P × Bool)). map fst (keep (λ r. r.1) l)) e ∙ sym (from_faces (λ b. b) cs);
    faces = e;
  }

  faces_added : (c : Ident P) (m : Option (Ident P)) (x : Ident P) (ids : List ℕ) (b : Bool) (cs : List (Container P)) → map face (C.added_ids c m x ids b cs).1 ≡ map face cs
  unfolding C.added_ids
  faces_added c m x ids true cs = refl
  faces_added c m x ids false cs = faces_join _ ids cs

  faces_add : (c : Ident P) (m : Option (Ident P)) (x : Ident P) (ids : List ℕ) (b : Bool) (cs : List (Container P)) → map face (C.add_ids c m x ids b cs).1 ≡ map face cs
  unfolding C.add_ids
  faces_add c m x ids true cs = refl
  faces_add c m x ids false cs = faces_added c m x ids _ _ ∙ faces_join _ ids cs

  -- found_container_1
  names_found1 : (c : Ident P) (m : Option (Ident P)) (x : Ident P) (s : Containment P) → SameNames s.containers (C.found_container_1 c m x s).1.containers
  unfolding C.found_container_1
  names_found1 c m x s = same_faces (faces_add c m x _ _ s.containers)

  names_then : {cs ds es : List (Container P)} → SameNames cs ds → SameNames ds es → SameNames cs es
  names_then p q = record { constants = q.constants ∙ p.constants; structures = q.structures ∙ p.structures; faces = q.faces ∙ p.faces }

  names_try : {A B : Type 0} (m : S.State (Containment P) (Maybe P A)) (f : A → S.State (Containment P) (Maybe P B)) (s : Containment P) → SameNames s.containers (m s).1.containers → ((x : A) (u : Containment P) → SameNames u.containers (f x u).1.containers) → SameNames s.containers ((S.◌>>?◌ m f) s).1.containers
  unfolding S.◌>>?◌ S.◌>>=◌ S.ret S.or_poison
  names_try {A} m f s e h = go (m s).0 (m s).1 e
    where
      go : (r : Maybe P A) (u : Containment P) → SameNames s.containers u.containers → SameNames s.containers (S.or_poison f r u).1.containers
      go (ok x) u e = names_then e (h x u)
      go (err z) u e = e

  -- found_container
  names_found : (c : Ident P) (m : Option (Ident P)) (t : Ty P) (s : Containment P) → SameNames s.containers (C.found_container c m t s).1.containers
  unfolding C.found_container S.ret
  names_found c m (plain k) s = same_names
  names_found c m (array t n) s = names_try _ _ s (names_found c m t s) (λ _ _. same_names)
  names_found c m (array_with_named_length t i) s = names_try _ _ s (names_found c m t s) (λ _ u. names_try _ _ u (names_found1 c m i u) (λ _ _. same_names))
  names_found c m (arraylike k t) s = names_try _ _ s (names_found c m t s) (λ _ _. same_names)
  names_found c m (struct i) s = names_try _ _ s (names_found1 c m i s) (λ _ _. same_names)
  names_found c m (word i n) s = names_try _ _ s (names_found1 c m i s) (λ _ _. same_names)
  names_found c m (unresolved i) s = names_try _ _ s (names_found1 c m i s) (λ _ _. same_names)
  names_found c m nameless s = same_names
  names_found c m (pointer t) s = same_names
  names_found c m (view t) s = same_names

  -- other containers, the same names
  still_names : {n : ℕ} {a : Analyzer P} (c : Containment P) → SameNames a.containment.containers c.containers → Still n a (Q.with_containment a c)
  unfolding Q.with_containment
  still_names c h = record { takes = record { lower = omega arith; upper = omega arith; functions = refl; names = h }; stack = refl }

-- USES

module _ {P : Type 0} where
  still_containee : (i : Ident P) (o : Option (Ident P)) (a : Analyzer P) → Still 0 a (Q.use_containee i o a).1
  unfolding Q.use_containee Q.on_containment S.ret
  still_containee i (some c) a = still_names _ (names_found1 c none i a.containment)
  still_containee i none a = still_none

  still_prunings : {a : Analyzer P} (s : Prunings P) → Still 0 a (Q.with_prunings a s)
  unfolding Q.with_prunings
  still_prunings s = record { takes = takes_none refl refl refl; stack = refl }

  still_by : (i j : Ident P) (x : Fate P) (a : Analyzer P) → Still 0 a (Q.use_variable_by i j x a).1
  unfolding Q.use_variable_by Q.use_as
  still_by i j (pruned c) a = still_prunings _
  still_by i j poisoned a = still_prunings _
  still_by i j standing a = still_containee _ _ a

  still_at : (i : Ident P) (o : Option (Ident P)) (a : Analyzer P) → Still 0 a (Q.use_variable_at i o a).1
  unfolding Q.use_variable_at S.ret
  still_at i none a = still_none
  still_at i (some j) a = still_by i j _ a

  -- use_variable
  pub still_variable : (i : Ident P) (a : Analyzer P) → Still 0 a (Q.use_variable i a).1
  unfolding Q.use_variable
  still_variable i a = still_at i _ a

  pub still_base : (b : Maybe P (Ident P)) (a : Analyzer P) → Still 0 a (V'.analyze_base b a).1
  unfolding V'.analyze_base S.ret
  still_base (ok i) a = still_variable i a
  still_base (err z) a = still_none

  still_constant_at : (i : Ident P) (o o' : Option (Ident P)) (a : Analyzer P) → Still 0 a (Q.use_constant_at i o o' a).1
  unfolding Q.use_constant_at S.ret Q.use_as
  still_constant_at i (some j) o' a = still_containee _ _ a
  still_constant_at i none (some j) a = still_none
  still_constant_at i none none a = still_none

  -- use_constant
  pub still_constant : (i : Ident P) (a : Analyzer P) → Still 0 a (Q.use_constant i a).1
  unfolding Q.use_constant
  still_constant i a = still_constant_at i _ _ a

  still_struct_at : (i : Ident P) (o : Option (Ident P)) (a : Analyzer P) → Still 0 a (Q.use_struct_at i o a).1
  unfolding Q.use_struct_at S.ret Q.use_as
  still_struct_at i (some j) a = still_containee _ _ a
  still_struct_at i none a = still_none

  -- use_struct
  pub still_struct : (i : Ident P) (a : Analyzer P) → Still 0 a (Q.use_struct i a).1
  unfolding Q.use_struct
  still_struct i a = still_struct_at i _ a

  -- use_function
  pub still_function : (i : Ident P) (a : Analyzer P) → Still 0 a (Q.use_function i a).1
  unfolding Q.use_function
  still_function i a = still_none

  pub still_called : (i : Ident P) (b : ℕ) (a : Analyzer P) → Still 0 a (V'.use_called i b a).1
  unfolding V'.use_called S.ret
  still_called i zero a = still_function i a
  still_called i (suc b) a = still_none

  -- TYPES

  still_try : {A B : Type 0} (m : Pass P (Maybe P A)) (f : A → Pass P (Maybe P B)) (a : Analyzer P) → Still 0 a (m a).1 → ((x : A) (b : Analyzer P) → Still 0 b (f x b).1) → Still 0 a ((S.◌>>?◌ m f) a).1
  unfolding S.◌>>?◌ S.◌>>=◌ S.ret S.or_poison
  still_try {A} m f a e h = go (m a).0 (m a).1 e
    where
      go : (r : Maybe P A) (b : Analyzer P) → Still 0 a b → Still 0 a (S.or_poison f r b).1
      go (ok x) b e = still_then e (h x b)
      go (err z) b e = e

  pub still_type : (t : Ty P) (a : Analyzer P) → Still 0 a (V'.analyze_type t a).1
  unfolding V'.analyze_type S.ret
  still_type (plain k) a = still_none
  still_type (array t n) a = still_try _ _ a (still_type t a) (λ _ _. still_none)
  still_type (array_with_named_length t i) a = still_try _ _ a (still_type t a) (λ _ b. still_try _ _ b (still_constant i b) (λ _ _. still_none))
  still_type (arraylike k t) a = still_try _ _ a (still_type t a) (λ _ _. still_none)
  still_type (struct i) a = still_try _ _ a (still_struct i a) (λ _ _. still_none)
  still_type (word i n) a = still_try _ _ a (still_struct i a) (λ _ _. still_none)
  still_type (unresolved i) a = still_try _ _ a (still_struct i a) (λ _ _. still_none)
  still_type nameless a = still_none
  still_type (pointer t) a = still_try _ _ a (still_type t a) (λ _ _. still_none)
  still_type (view t) a = still_try _ _ a (still_type t a) (λ _ _. still_none)

  pub still_maybe : (t : Maybe P (Ty P)) (a : Analyzer P) → Still 0 a (V'.analyze_maybe_type t a).1
  unfolding V'.analyze_maybe_type S.ret
  still_maybe (ok t) a = still_type t a
  still_maybe (err z) a = still_none

  -- EXPRESSIONS, REFERENCES, STEPS

  pub still_cast : {n : ℕ} (p q : P) (m : Pass P (Node P (Sort.one Kind.expr))) → ((a : Analyzer P) → Still n a (m a).1) → (r : Maybe P (Ty P)) (a : Analyzer P) → Still n a (V'.cast_to p q m r a).1
  unfolding V'.cast_to S.◌>>=◌ S.ret
  still_cast p q m h (ok t) a = h a
  still_cast p q m h (err z) a = still_none

  pub still_node : {s : Sort} (x : Node P s) (a : Analyzer P) → Still (ids_node x) a (V'.analyze_node x a).1
  unfolding V'.analyze_node S.◌>>=◌ S.ret Q.in_new_scope Q.create_anonymous_resolution_id ids_node
  still_node nil a = still_none
  still_node (cons x xs) a = still_then (still_node x a) (still_node xs (V'.analyze_node x a).1)
  still_node (binary op p q x y) a = still_then (still_node x a) (still_node y (V'.analyze_node x a).1)
  still_node (unary op p q x) a = still_node x a
  still_node (boolean b p) a = still_none
  still_node (signed b p c) a = still_none
  still_node (bits b p c) a = still_none
  still_node (string b p) a = still_none
  still_node (array_literal p c es i) a = still_then (still_scope (grown_still (still_node es (new_scope a)))) still_next
  still_node (structural p ms c) a = still_more (omega arith) (still_then (still_node ms a) (still_maybe c (V'.analyze_node ms a).1))
  still_node (parenthesized p x) a = still_node x a
  still_node (deref c r) a = still_node r a
  still_node (bit_cast p q c x) a = still_node x a
  still_node (type_cast p q t x) a = still_more (omega arith) (still_then (still_type t a) (still_cast p q (V'.analyze_node x) (still_node x) (V'.analyze_type t a).0 (V'.analyze_type t a).1))
  still_node (length_of_array p r) a = still_node r a
  still_node (size_of p t) a = still_type t a
  still_node (function_call i b c es) a = still_more (omega arith) (still_then (still_node es a) (still_called i b (V'.analyze_node es a).1))
  still_node (bad_expr z) a = still_none
  still_node (reference d p q b ts) a = still_more (omega arith) (still_then (still_base b a) (still_node ts (V'.analyze_base b a).1))
  still_node (element n x) a = still_node x a
  still_node (member i o) a = still_none
  still_node (member_expression i o x) a = still_node x a

  -- a value that may be absent
  pub still_option : (v : Option (Node P (Sort.one Kind.expr))) (a : Analyzer P) → Still (ids_option v) a (V'.analyze_option V'.analyze_node v a).1
  unfolding V'.analyze_option S.◌>>=◌ S.ret ids_option
  still_option none a = still_none
  still_option (some x) a = still_node x a

  -- a carried type of a declaration
  pub still_carried : (t : Carried P) (a : Analyzer P) → Still 0 a (V'.analyze_option V'.analyze_maybe_type t a).1
  unfolding V'.analyze_option S.◌>>=◌ S.ret
  still_carried none a = still_none
  still_carried (some t) a = still_maybe t a

  -- STATEMENTS

  -- declare_variable, declare_parameter, declare_member
  pub grown_declare : (k : ℕ) (i : Ident P) (a : Analyzer P) → Grown 1 a (Q.declare_variable k i a).1
  unfolding Q.declare_variable Q.next_id Q.with_stack Q.push_variable
  grown_declare k i a = record {
    takes = record { lower = omega arith; upper = omega arith; functions = refl; names = same_names };
    stack = record { constants = refl; layer = refl; more = Q.authoritative a i ∷ []; locals = refl };
  }

  pub grown_stm : {s : StmSort} (t : Stm P s) (a : Analyzer P) → Grown (ids_stm t) a (V'.analyze_stm t a).1
  unfolding V'.analyze_stm S.◌>>=◌ S.ret Q.in_new_scope Q.prepare_to_prune_at_goto Q.prune_at_label ids_stm
  grown_stm nil' a = grown_still still_none
  grown_stm (cons' t ts) a = grown_then (grown_stm t a) (grown_stm ts (V'.analyze_stm t a).1)
  grown_stm (declaration p v t i) a =
      let b = (V'.analyze_option V'.analyze_node v a).1 in
      let c = (V'.analyze_option V'.analyze_maybe_type t b).1 in
      grown_then (grown_still (still_option v a)) (grown_then (grown_still (still_carried t b)) (grown_declare 4 i c))
  grown_stm (assignment p v r) a = grown_still (still_then (still_node v a) (still_node r (V'.analyze_node v a).1))
  grown_stm (method_call i b es) a = grown_still (still_more (omega arith) (still_then (still_node es a) (still_called i b (V'.analyze_node es a).1)))
  grown_stm (loop p) a = grown_still still_none
  grown_stm (goto i p) a = grown_still (still_prunings _)
  grown_stm (label i p) a = grown_still (still_prunings _)
  grown_stm (if_else p op q r x y t e) a =
      let b = (V'.analyze_node x a).1 in
      let c = (V'.analyze_node y b).1 in
      grown_then (grown_still (still_node x a)) (grown_then (grown_still (still_node y b)) (grown_then (grown_stm t c) (grown_stm e (V'.analyze_stm t c).1)))
  grown_stm (block p ts) a = grown_still (still_scope (grown_stm ts (new_scope a)))
  grown_stm (bad_stmt z) a = grown_still still_none
  grown_stm no_else a = grown_still still_none
  grown_stm (or_else p t) a = grown_stm t a

  -- a body's statements and value, in the body's scope
  pub grown_inside : (b : Body P) (a : Analyzer P) → Grown (ids_stm b.statements + ids_option b.value) a (V'.analyze_in_body b a).1
  unfolding V'.analyze_in_body S.◌>>=◌ S.ret
  grown_inside b a = grown_then (grown_stm b.statements a) (grown_still (still_option b.value (V'.analyze_stm b.statements a).1))

  pub still_body : (b : Maybe P (Body P)) (a : Analyzer P) → Still (ids_body b) a (V'.analyze_body b a).1
  unfolding V'.analyze_body S.◌>>=◌ S.ret Q.in_new_scope Q.create_anonymous_resolution_id ids_body
  still_body (ok b) a = still_then (still_scope (grown_inside b (new_scope a))) still_next
  still_body (err z) a = still_none

  -- PARAMETERS AND MEMBERS

  grown_name : (k : ℕ) (i : Maybe P (Ident P)) (a : Analyzer P) → Grown (ids_name i) a (V'.declare_maybe k i a).1
  unfolding V'.declare_maybe S.ret ids_name
  grown_name k (ok i) a = grown_declare k i a
  grown_name k (err z) a = grown_still still_none

  pub grown_param : (k : ℕ) (x : Param P) (a : Analyzer P) → Grown (ids_name x.ident) a (V'.analyze_param k x a).1
  unfolding V'.analyze_param S.◌>>=◌ S.ret
  grown_param k x a = grown_more (omega arith) (grown_then (grown_name k x.ident a) (grown_still (still_maybe x.type (V'.declare_maybe k x.ident a).1)))

  pub still_found : (c : Ident P) (m : Option (Ident P)) (t : Maybe P (Ty P)) (a : Analyzer P) → Still 0 a (V'.found_maybe c m t a).1
  unfolding V'.found_maybe Q.on_containment S.ret
  still_found c m (ok t) a = still_names _ (names_found c m t a.containment)
  still_found c m (err z) a = still_none

  still_wellfounded : (c : Ident P) (i : Maybe P (Ident P)) (t : Maybe P (Ty P)) (a : Analyzer P) → Still 0 a (V'.analyze_wellfoundedness c i t a).1
  unfolding V'.analyze_wellfoundedness S.ret
  still_wellfounded c (ok i) t a = still_found c (some i) t a
  still_wellfounded c (err z) t a = still_none

  pub grown_member : (c : Ident P) (x : Param P) (a : Analyzer P) → Grown (ids_name x.ident) a (V'.analyze_member c x a).1
  unfolding V'.analyze_member S.◌>>=◌ S.ret
  grown_member c x a = grown_more (omega arith) (grown_then (grown_param 6 x a) (grown_still (still_wellfounded c _ _ (V'.analyze_param 6 x a).1)))

  -- any number of them, each by f
  pub grown_params : (f : Param P → Pass P (Param P)) → ((x : Param P) (a : Analyzer P) → Grown (ids_name x.ident) a (f x a).1) → (xs : List (Param P)) (a : Analyzer P) → Grown (ids_params xs) a (V'.in_turn f xs a).1
  unfolding V'.in_turn S.◌>>=◌ S.ret ids_params
  grown_params f h [] a = grown_still still_none
  grown_params f h (x ∷ xs) a = grown_then (h x a) (grown_params f h xs (f x a).1)

  -- a function's parameters and body, in the parameters' scope
  pub grown_function : (ps : List (Param P)) (b : Maybe P (Body P)) (a : Analyzer P) → Grown (ids_params ps + ids_body b) a (V'.analyze_params_and_body ps b a).1
  unfolding V'.analyze_params_and_body S.◌>>=◌ S.ret
  grown_function ps b a = grown_then (grown_params (V'.analyze_param 5) (grown_param 5) ps a) (grown_still (still_body b (V'.in_turn (V'.analyze_param 5) ps a).1))

  -- DECLARATIONS

  still_inside : {n : ℕ} {a b : Analyzer P} (o o' : Option (Ident P)) → Still n (V'.in_constexpr_of o a) b → Still n a (V'.in_constexpr_of o' b)
  unfolding V'.in_constexpr_of Q.with_containment
  still_inside o o' p = record { takes = record { lower = p.takes.lower; upper = p.takes.upper; functions = p.takes.functions; names = p.takes.names }; stack = p.stack }

  -- the value of a constant
  pub still_constexpr : (i : Ident P) (x : Node P (Sort.one Kind.expr)) (a : Analyzer P) → Still (ids_node x) a (V'.analyze_constexpr i x a).1
  unfolding V'.analyze_constexpr
  still_constexpr i x a = still_inside (some i) none (still_node x (V'.in_constexpr_of (some i) a))

  still_function_of : (names : List (List ℕ)) (f : ℕ) (p q : P) (ps : List (Param P)) (b : Maybe P (Body P)) (t : Maybe P (Ty P)) (i : Maybe P (Ident P)) (a : Analyzer P) → Still 0 a (V'.function_of names f p q ps b t i a).1
  unfolding V'.function_of S.◌>>=◌ S.ret
  still_function_of names f p q ps b t (ok i) a = still_maybe t a
  still_function_of names f p q ps b t (err z) a = still_none

  still_head_of : (f : ℕ) (p q : P) (ps : List (Param P)) (t : Maybe P (Ty P)) (i : Maybe P (Ident P)) (a : Analyzer P) → Still 0 a (V'.function_head_of f p q ps t i a).1
  unfolding V'.function_head_of S.◌>>=◌ S.ret
  still_head_of f p q ps t (ok i) a = still_maybe t a
  still_head_of f p q ps t (err z) a = still_none

  pub still_decl : (names : List (List ℕ)) (d : Decl P) (a : Analyzer P) → Still (ids_decl d) a (V'.analyze_decl names d a).1
  unfolding V'.analyze_decl S.◌>>=◌ S.ret Q.in_new_scope Q.use_function ids_decl
  still_decl names (constant f p q i x t) a =
      let b = (V'.analyze_constexpr i x a).1 in
      let c = (V'.analyze_maybe_type t b).1 in
      still_more (omega arith) (still_then (still_constexpr i x a) (still_then (still_maybe t b) (still_found i none (V'.analyze_maybe_type t b).0 c)))
  still_decl names (function f p q i ps b t) a =
      still_more (omega arith) (still_then (still_scope (grown_function ps b (new_scope a))) (still_function_of names f p q _ _ t _ _))
  still_decl names (function_head f p q i ps t) a =
      still_more (omega arith) (still_then (still_scope (grown_params (V'.analyze_param 5) (grown_param 5) ps (new_scope a))) (still_head_of f p q _ t _ _))
  still_decl names (structure f p i ms t) a =
      still_more (omega arith) (still_then (still_scope (grown_params (V'.analyze_member i) (grown_member i) ms (new_scope a))) (still_maybe t _))
  still_decl names (import b p) a = still_none
  still_decl names (bad_decl z) a = still_none

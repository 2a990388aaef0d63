-- Steps of the second pass that leave gotos, labels and the list alone: types, parameters, members, names.
use Prim.Native.Nat.{ℕ}
use mathlib.Core.Path.{◌≡◌, refl, ◌∙◌}
use mathlib.Core.List.{List, [], ◌∷◌}
use mathlib.Core.Option.{Option, none, some}
use Rattle.penne.specs.Tree.{Ident, Maybe, ok, err, Ty, plain, array, array_with_named_length, arraylike, struct, word, unresolved, nameless, pointer, view, Param, Body, Decl, constant, function, function_head, structure, import, bad_decl}
use Rattle.penne.specs.Scopes.{Analyzer}
use Rattle.penne.specs.State as S
use Rattle.penne.specs.Scopes as Q
use Rattle.penne.specs.Variables as V'

-- unresolved_labels, pruned_variables, poisoned_variables and the list are what they were
pub record Leaves {P A : Type 0} (m : Q.Pass P A) : Type 0 where
  pub same : (a : Analyzer P) → (m a).1.prunings ≡ a.prunings

-- steps that are made of such steps
pub l_ret : {P A : Type 0} (x : A) → Leaves {P = P} (S.ret x)
unfolding S.ret
l_ret x = record { same = λ a. refl }

pub l_bind : {P A B : Type 0} {m : Q.Pass P A} {f : A → Q.Pass P B} → Leaves m → ((x : A) → Leaves (f x)) → Leaves (S.◌>>=◌ m f)
unfolding S.◌>>=◌
l_bind {m = m} p q = record { same = λ a. (q (m a).0).same (m a).1 ∙ p.same a }

pub l_scope : {P A : Type 0} {m : Q.Pass P A} → Leaves m → Leaves (Q.in_new_scope m)
unfolding Q.in_new_scope Q.with_stack
l_scope p = record { same = λ a. p.same _ }

l_try : {P A B : Type 0} {m : Q.Pass P (Maybe P A)} {f : A → Q.Pass P (Maybe P B)} → Leaves m → ((x : A) → Leaves (f x)) → Leaves (S.◌>>?◌ m f)
unfolding S.◌>>?◌ S.or_poison
l_try {P} {A} {B} {m} {f} p q = l_bind p go
  where
    go : (x : Maybe P A) → Leaves (S.or_poison f x)
    go (ok x) = q x
    go (err z) = l_ret (err z)

-- names in types
l_containee : {P : Type 0} (i : Ident P) (o : Option (Ident P)) → Leaves (Q.use_containee i o)
unfolding Q.use_containee Q.on_containment Q.with_containment
l_containee i (some c) = record { same = λ a. refl }
l_containee i none = l_ret (ok i)

pub l_as : {P : Type 0} (i j : Ident P) → Leaves (Q.use_as i j)
unfolding Q.use_as
l_as i j = record { same = λ a. (l_containee _ _).same a }

l_constant_at : {P : Type 0} (i : Ident P) (o o' : Option (Ident P)) → Leaves (Q.use_constant_at i o o')
unfolding Q.use_constant_at
l_constant_at i (some j) o' = l_as i j
l_constant_at i none (some j) = l_ret _
l_constant_at i none none = l_ret _

l_constant : {P : Type 0} (i : Ident P) → Leaves (Q.use_constant i)
unfolding Q.use_constant
l_constant i = record { same = λ a. (l_constant_at i _ _).same a }

l_struct_at : {P : Type 0} (i : Ident P) (o : Option (Ident P)) → Leaves (Q.use_struct_at i o)
unfolding Q.use_struct_at
l_struct_at i (some j) = l_as i j
l_struct_at i none = l_ret _

l_struct : {P : Type 0} (i : Ident P) → Leaves (Q.use_struct i)
unfolding Q.use_struct
l_struct i = record { same = λ a. (l_struct_at i _).same a }

-- types
pub l_type : {P : Type 0} (t : Ty P) → Leaves (V'.analyze_type t)
unfolding V'.analyze_type
l_type (plain k) = l_ret _
l_type (array t n) = l_try (l_type t) (λ x. l_ret _)
l_type (array_with_named_length t i) = l_try (l_type t) (λ x. l_try (l_constant i) (λ y. l_ret _))
l_type (arraylike k t) = l_try (l_type t) (λ x. l_ret _)
l_type (struct i) = l_try (l_struct i) (λ x. l_ret _)
l_type (word i n) = l_try (l_struct i) (λ x. l_ret _)
l_type (unresolved i) = l_try (l_struct i) (λ x. l_ret _)
l_type nameless = l_ret _
l_type (pointer t) = l_try (l_type t) (λ x. l_ret _)
l_type (view t) = l_try (l_type t) (λ x. l_ret _)

pub l_maybe : {P : Type 0} (t : Maybe P (Ty P)) → Leaves (V'.analyze_maybe_type t)
unfolding V'.analyze_maybe_type
l_maybe (ok t) = l_type t
l_maybe (err z) = l_ret _

-- one after the other
pub l_turn : {P A : Type 0} (f : A → Q.Pass P A) (xs : List A) → ((x : A) → Leaves (f x)) → Leaves (V'.in_turn f xs)
unfolding V'.in_turn
l_turn f [] h = l_ret []
l_turn f (x ∷ xs) h = l_bind (h x) (λ y. l_bind (l_turn f xs h) (λ ys. l_ret (y ∷ ys)))

-- parameters
l_declare : {P : Type 0} (k : ℕ) (i : Maybe P (Ident P)) → Leaves (V'.declare_maybe k i)
unfolding V'.declare_maybe Q.declare_variable Q.next_id Q.with_stack
l_declare k (ok i) = record { same = λ a. refl }
l_declare k (err z) = l_ret _

pub l_param : {P : Type 0} (k : ℕ) (x : Param P) → Leaves (V'.analyze_param k x)
unfolding V'.analyze_param
l_param k x = l_bind (l_declare k x.ident) (λ i. l_bind (l_maybe x.type) (λ t. l_ret _))

-- members
pub l_found : {P : Type 0} (c : Ident P) (m : Option (Ident P)) (t : Maybe P (Ty P)) → Leaves (V'.found_maybe c m t)
unfolding V'.found_maybe Q.on_containment Q.with_containment
l_found c m (ok t) = record { same = λ a. refl }
l_found c m (err z) = l_ret _

l_edges : {P : Type 0} (c : Ident P) (i : Maybe P (Ident P)) (t : Maybe P (Ty P)) → Leaves (V'.analyze_wellfoundedness c i t)
unfolding V'.analyze_wellfoundedness
l_edges c (ok i) t = l_found c (some i) t
l_edges c (err z) t = l_ret _

l_member : {P : Type 0} (c : Ident P) (x : Param P) → Leaves (V'.analyze_member c x)
unfolding V'.analyze_member
l_member c x = l_bind (l_param 6 x) (λ m. l_bind (l_edges c m.ident m.type) (λ t. l_ret _))

-- functions
pub l_function : {P : Type 0} (i : Ident P) → Leaves (Q.use_function i)
unfolding Q.use_function
l_function i = record { same = λ a. refl }

pub l_function_of : {P : Type 0} (names : List (List ℕ)) (f : ℕ) (p q : P) (ps : List (Param P)) (b : Maybe P (Body P)) (t : Maybe P (Ty P)) (i : Maybe P (Ident P)) → Leaves (V'.function_of names f p q ps b t i)
unfolding V'.function_of
l_function_of names f p q ps b t (ok i) = l_bind (l_maybe t) (λ x. l_ret _)
l_function_of names f p q ps b t (err z) = l_ret _

l_head_of : {P : Type 0} (f : ℕ) (p q : P) (ps : List (Param P)) (t : Maybe P (Ty P)) (i : Maybe P (Ident P)) → Leaves (V'.function_head_of f p q ps t i)
unfolding V'.function_head_of
l_head_of f p q ps t (ok i) = l_bind (l_maybe t) (λ x. l_ret _)
l_head_of f p q ps t (err z) = l_ret _

-- a function whose body is poison
pub l_bodyless : {P : Type 0} (names : List (List ℕ)) (f : ℕ) (p q : P) (i : Ident P) (ps : List (Param P)) (z : _) (t : Maybe P (Ty P)) → Leaves (V'.analyze_decl names (function f p q i ps (err z) t))
unfolding V'.analyze_decl V'.analyze_params_and_body V'.analyze_body
l_bodyless names f p q i ps z t = l_bind (l_function i) (λ j. l_bind (l_scope (l_bind (l_turn _ ps (l_param 5)) (λ x. l_bind (l_ret _) (λ y. l_ret _)))) (λ r. l_function_of names f p q r.0 r.1 t j))

-- heads and structures
pub l_head : {P : Type 0} (names : List (List ℕ)) (f : ℕ) (p q : P) (i : Ident P) (ps : List (Param P)) (t : Maybe P (Ty P)) → Leaves (V'.analyze_decl names (function_head f p q i ps t))
unfolding V'.analyze_decl
l_head names f p q i ps t = l_bind (l_function i) (λ j. l_bind (l_scope (l_turn _ ps (l_param 5))) (λ r. l_head_of f p q r t j))

pub l_structure : {P : Type 0} (names : List (List ℕ)) (f : ℕ) (p : P) (i : Ident P) (ms : List (Param P)) (t : Maybe P (Ty P)) → Leaves (V'.analyze_decl names (structure f p i ms t))
unfolding V'.analyze_decl
l_structure names f p i ms t = l_bind (l_scope (l_turn _ ms (l_member i))) (λ x. l_bind (l_maybe t) (λ y. l_ret _))

-- predeclaration
pub l_predeclare : {P : Type 0} (d : Decl P) → Leaves (V'.predeclare d)
unfolding V'.predeclare S.◌>>=◌ S.ret Q.declare_constant Q.declare_function Q.declare_struct Q.next_id Q.with_stack Q.with_containment Q.with_functions
l_predeclare (constant f p q i x t) = record { same = λ a. refl }
l_predeclare (function f p q i ps b t) = record { same = λ a. refl }
l_predeclare (function_head f p q i ps t) = record { same = λ a. refl }
l_predeclare (structure f p i ms t) = record { same = λ a. refl }
l_predeclare (import b p) = record { same = λ a. refl }
l_predeclare (bad_decl z) = record { same = λ a. refl }

-- Neither pass looks at a place: both passes commute with every map of places (`natural`).
use Prim.Native.Nat.{ℕ, zero, suc, ◌+◌}
use mathlib.Core.Bool.{Bool, true, false, not}
use mathlib.Core.Path.{◌≡◌, refl, sym, ◌∙◌, ap}
use mathlib.Core.List.{List, [], ◌∷◌, ◌++◌, map, map-append}
use mathlib.Core.Option.{Option, none, some}
use lib.ListN.{length, drop, length-map}
use Rattle.penne.specs.Tree.{Ident, Maybe, ok, err, Ty, plain, array, array_with_named_length, arraylike, struct, word, unresolved, nameless, pointer, view, Carried, Kind, Sort, list_of, Expr, Node, nil, cons, binary, unary, boolean, signed, bits, string, array_literal, structural, parenthesized, deref, bit_cast, type_cast, length_of_array, size_of, function_call, bad_expr, reference, element, member, member_expression, StmSort, Stm, nil', cons', declaration, assignment, method_call, loop, goto, label, if_else, block, bad_stmt, no_else, or_else, Param, Body, Decl, constant, function, function_head, structure, import, bad_decl, Tree}
use Rattle.penne.specs.Variables as V'
use lib.Dec.{eqb}
use Rattle.penne.specs.Tree as Tree'
use Rattle.penne.specs.Find.{first, is_in, union, keep, first_named, resolved}
use Rattle.penne.specs.State as S
use Rattle.penne.specs.Pruning.{Pruning, UnresolvedPruning, Prunings, Fate, pruned, poisoned, standing, fate, fate_by, poison_variable, list_skip}
use Rattle.penne.specs.Containers.{Container, Containment}
use Rattle.penne.specs.Containers as C
use Rattle.penne.specs.Pruning as R
use Rattle.penne.specs.Labels as L
use Rattle.penne.specs.Scopes.{Analyzer, Scope, Pass}
use Rattle.penne.specs.Scopes as Q
use Rattle.penne.specs.Places.{map_ident, map_maybe, map_option, map_poison, map_ty, map_maybe_ty, map_carried, map_node, map_stm, map_body, map_param, map_decl, map_tree, Natural}
use Rattle.penne.specs.Scoper.{analyze, answered_tree}

module _ {P P' : Type 0} (f : P → P') where
  unfoldable pub map_pruning : Pruning P → Pruning P'
  map_pruning c = record { variable = c.variable; label = map_ident f c.label; location_of_goto = f c.location_of_goto }

  unfoldable pub map_unresolved : UnresolvedPruning P → UnresolvedPruning P'
  map_unresolved u = record { label = u.label; intersection_of_variables = u.intersection_of_variables; location_of_goto = f u.location_of_goto }

  unfoldable pub map_prunings : Prunings P → Prunings P'
  map_prunings s = record { unresolved_labels = map map_unresolved s.unresolved_labels; pruned_variables = map map_pruning s.pruned_variables; poisoned_variables = s.poisoned_variables; skips = map (λ r. (f r.0, f r.1)) s.skips }

  unfoldable pub map_container : Container P → Container P'
  map_container c = record { identifier = map_ident f c.identifier; contained_ids = c.contained_ids; depth = c.depth; is_structure = c.is_structure }

  unfoldable pub map_containment : Containment P → Containment P'
  map_containment c = record { containers = map map_container c.containers; in_constexpr_of_constant = map_option (map_ident f) c.in_constexpr_of_constant; edges = c.edges }

  unfoldable pub map_scope : Scope P → Scope P'
  map_scope s = record { constants = map (map_ident f) s.constants; locals = map (map_ident f) s.locals; layer = s.layer }

  unfoldable pub map_analyzer : Analyzer P → Analyzer P'
  map_analyzer a = record { variable_stack = map_scope a.variable_stack; function_list = map (map_ident f) a.function_list; containment = map_containment a.containment; prunings = map_prunings a.prunings; resolution_id = a.resolution_id }

  unfoldable pub map_fate : Fate P → Fate P'
  map_fate (pruned c) = pruned (map_pruning c)
  map_fate poisoned = poisoned
  map_fate standing = standing

  -- the step m' does with the mapped state what m does
  pub record Nat {A A' : Type 0} (g : A → A') (m : Pass P A) (m' : Pass P' A') : Type 0 where
    pub at : (a : Analyzer P) → m' (map_analyzer a) ≡ (g (m a).0, map_analyzer (m a).1)

  nat_ret : {A A' : Type 0} (g : A → A') (x : A) → Nat g (S.ret x) (S.ret (g x))
  unfolding S.ret
  nat_ret g x = record { at = λ a. refl }

  nat_bind : {A A' B B' : Type 0} {g : A → A'} {h : B → B'} {m : Pass P A} {m' : Pass P' A'} (k : A → Pass P B) (k' : A' → Pass P' B') → Nat g m m' → ((x : A) → Nat h (k x) (k' (g x))) → Nat h (S.◌>>=◌ m k) (S.◌>>=◌ m' k')
  unfolding S.◌>>=◌
  nat_bind {m} k k' p q = record { at = λ a. ap (λ r. k' r.0 r.1) (p.at a) ∙ (q (m a).0).at (m a).1 }

  first-map : {A B : Type 0} (g : A → B) (t : A → Bool) (t' : B → Bool) → ((x : A) → t' (g x) ≡ t x) → (xs : List A) → first t' (map g xs) ≡ map_option g (first t xs)
  unfolding first map_option
  first-map g t t' e [] = refl
  first-map g t t' e (x ∷ xs) = ap (λ (b : Bool). elim b [ true ↦ some (g x) | false ↦ first t' (map g xs) ]) (e x) ∙ go (t x) (first-map g t t' e xs)
    where
      go : (b : Bool) → first t' (map g xs) ≡ map_option g (first t xs) → (elim b [ true ↦ some (g x) | false ↦ first t' (map g xs) ]) ≡ map_option g (elim b [ true ↦ some x | false ↦ first t xs ])
      go true h = refl
      go false h = h

  named_map : (n : ℕ) (is : List (Ident P)) → first_named n (map (map_ident f) is) ≡ map_option (map_ident f) (first_named n is)
  unfolding first_named map_ident
  named_map n is = first-map _ _ _ (λ x. refl) is

  fate_by_map : (o : Option (Pruning P)) (b : Bool) → fate_by (map_option map_pruning o) b ≡ map_fate (fate_by o b)
  unfolding map_fate fate_by map_option
  fate_by_map (some c) b = refl
  fate_by_map none true = refl
  fate_by_map none false = refl

  fate_map : (id : ℕ) (s : Prunings P) → fate id (map_prunings s) ≡ map_fate (fate id s)
  unfolding fate map_prunings map_pruning
  fate_map id s = ap (λ o. fate_by o (is_in id s.poisoned_variables)) (first-map map_pruning _ _ (λ x. refl) s.pruned_variables) ∙ fate_by_map (first (λ c. eqb c.variable id) s.pruned_variables) (is_in id s.poisoned_variables)

  -- USES

  function_map : (i : Ident P) (o : Option (Ident P)) → Q.use_function_at (map_ident f i) (map_option (map_ident f) o) ≡ map_maybe f (map_ident f) (Q.use_function_at i o)
  unfolding Q.use_function_at Q.undefined map_maybe map_option map_ident map_poison resolved
  function_map i (some j) = refl
  function_map i none = refl

  nat_function : (i : Ident P) → Nat (map_maybe f (map_ident f)) (Q.use_function i) (Q.use_function (map_ident f i))
  unfolding Q.use_function map_analyzer map_ident
  nat_function i = record { at = λ a. ap (λ r. (r, map_analyzer a)) (ap (λ o. Q.use_function_at (map_ident f i) o) (named_map i.name a.function_list) ∙ function_map i (first_named i.name a.function_list)) }

  -- CONTAINERS

  keep-map : {A B : Type 0} (g : A → B) (t : A → Bool) (t' : B → Bool) → ((x : A) → t' (g x) ≡ t x) → (xs : List A) → keep t' (map g xs) ≡ map g (keep t xs)
  unfolding keep
  keep-map g t t' e [] = refl
  keep-map g t t' e (x ∷ xs) = ap (λ (b : Bool). elim b [ true ↦ g x ∷ keep t' (map g xs) | false ↦ keep t' (map g xs) ]) (e x) ∙ go (t x) (keep-map g t t' e xs)
    where
      go : (b : Bool) → keep t' (map g xs) ≡ map g (keep t xs) → (elim b [ true ↦ g x ∷ keep t' (map g xs) | false ↦ keep t' (map g xs) ]) ≡ map g (elim b [ true ↦ x ∷ keep t xs | false ↦ keep t xs ])
      go true h = ap (λ l. g x ∷ l) h
      go false h = h

  identifiers_map : (cs : List (Container P)) → map C.identifier_of (map map_container cs) ≡ map (map_ident f) (map C.identifier_of cs)
  unfolding C.identifier_of map_container
  identifiers_map [] = refl
  identifiers_map (c ∷ cs) = ap (λ l. map_ident f c.identifier ∷ l) (identifiers_map cs)

  constants-map : (cs : List (Container P)) → C.constants (map map_container cs) ≡ map (map_ident f) (C.constants cs)
  unfolding C.constants map_container
  constants-map cs = ap (map C.identifier_of) (keep-map map_container _ _ (λ x. refl) cs) ∙ identifiers_map (keep (λ c. not c.is_structure) cs)

  structures-map : (cs : List (Container P)) → C.structures (map map_container cs) ≡ map (map_ident f) (C.structures cs)
  unfolding C.structures map_container
  structures-map cs = ap (map C.identifier_of) (keep-map map_container _ _ (λ x. refl) cs) ∙ identifiers_map (keep (λ c. c.is_structure) cs)

  contents_map : (id : ℕ) (cs : List (Container P)) → C.contained_ids_of id (map map_container cs) ≡ C.contained_ids_of id cs
  unfolding C.contained_ids_of C.id_of map_container map_ident
  contents_map id [] = refl
  contents_map id (c ∷ cs) = ap (λ r. elim (eqb c.identifier.id id) [ true ↦ c.contained_ids | false ↦ r ]) (contents_map id cs)

  joined_map : (b : Bool) (ids : List ℕ) (c : Container P) → C.joined b ids (map_container c) ≡ map_container (C.joined b ids c)
  unfolding C.joined map_container
  joined_map true ids c = refl
  joined_map false ids c = refl

  join_map : (t : Container P → Bool) (t' : Container P' → Bool) → ((c : Container P) → t' (map_container c) ≡ t c) → (ids : List ℕ) (cs : List (Container P)) → C.join_where t' ids (map map_container cs) ≡ map map_container (C.join_where t ids cs)
  unfolding C.join_where
  join_map t t' e ids [] = refl
  join_map t t' e ids (c ∷ cs) = λ i. (ap (λ (b : Bool). C.joined b ids (map_container c)) (e c) ∙ joined_map (t c) ids c) i ∷ join_map t t' e ids cs i

  structure_map : (c m : Ident P) (o : Option (Ident P)) → C.cyclical_structure (map_ident f c) (map_ident f m) (map_option (map_ident f) o) ≡ map_poison f (C.cyclical_structure c m o)
  unfolding C.cyclical_structure map_ident map_option map_poison
  structure_map c m (some k) = refl
  structure_map c m none = refl

  cycle_map : (ids : List ℕ) (cs : List (Container P)) → C.constant_in_cycle ids (map map_container cs) ≡ map_option (map_ident f) (C.constant_in_cycle ids cs)
  unfolding C.constant_in_cycle map_ident
  cycle_map ids cs = ap (first (λ i. is_in i.id ids)) (constants-map cs) ∙ first-map (map_ident f) _ _ (λ x. refl) (C.constants cs)

  cyclical-map : (c : Ident P) (m : Option (Ident P)) (cs : List (Container P)) → C.cyclical (map_ident f c) (map_option (map_ident f) m) (map map_container cs) ≡ map_poison f (C.cyclical c m cs)
  unfolding C.cyclical map_option map_poison map_ident
  cyclical-map c (some m) cs = ap (λ l. C.cyclical_structure (map_ident f c) (map_ident f m) (C.constant_in_cycle l (map map_container cs))) (contents_map c.id cs) ∙ ap (C.cyclical_structure (map_ident f c) (map_ident f m)) (cycle_map (C.contained_ids_of c.id cs) cs) ∙ structure_map c m _
  cyclical-map c none cs = refl

  -- an answer with the containers after it
  map_found : Maybe P (Ident P) × List (Container P) → Maybe P' (Ident P') × List (Container P')
  map_found r = (map_maybe f (map_ident f) r.0, map map_container r.1)

  added_map : (c : Ident P) (m : Option (Ident P)) (x : Ident P) (ids : List ℕ) (b : Bool) (cs : List (Container P)) → C.added_ids (map_ident f c) (map_option (map_ident f) m) (map_ident f x) ids b (map map_container cs) ≡ map_found (C.added_ids c m x ids b cs)
  unfolding C.added_ids map_found map_maybe map_ident map_container
  added_map c m x ids true cs = ap (λ z. (err z, map map_container cs)) (cyclical-map c m cs)
  added_map c m x ids false cs = ap (λ l. (ok (map_ident f x), l)) (join_map _ _ (λ o. refl) ids cs)

  add_map : (c : Ident P) (m : Option (Ident P)) (x : Ident P) (ids : List ℕ) (b : Bool) (cs : List (Container P)) → C.add_ids (map_ident f c) (map_option (map_ident f) m) (map_ident f x) ids b (map map_container cs) ≡ map_found (C.add_ids c m x ids b cs)
  unfolding C.add_ids map_found map_maybe map_poison map_ident map_container C.id_of
  add_map c m x ids true cs = refl
  add_map c m x ids false cs =
      let j = C.join_where (λ o. eqb (C.id_of o) c.id) ids cs in
      let e : C.join_where (λ o. eqb (C.id_of o) c.id) ids (map map_container cs) ≡ map map_container j = join_map _ _ (λ o. refl) ids cs in
      ap (λ l. C.added_ids (map_ident f c) (map_option (map_ident f) m) (map_ident f x) ids (is_in c.id (C.contained_ids_of c.id l)) l) e
      ∙ ap (λ l. C.added_ids (map_ident f c) (map_option (map_ident f) m) (map_ident f x) ids (is_in c.id l) (map map_container j)) (contents_map c.id j)
      ∙ added_map c m x ids (is_in c.id (C.contained_ids_of c.id j)) j

  found1_map : (c : Ident P) (m : Option (Ident P)) (x : Ident P) (s : Containment P) → C.found_container_1 (map_ident f c) (map_option (map_ident f) m) (map_ident f x) (map_containment s) ≡ (map_maybe f (map_ident f) (C.found_container_1 c m x s).0, map_containment (C.found_container_1 c m x s).1)
  unfolding C.found_container_1 map_containment map_ident map_found
  found1_map c m x s =
      let cs = s.containers in
      let ids = union (C.contained_ids_of x.id cs) (x.id ∷ []) in
      let e : C.add_ids (map_ident f c) (map_option (map_ident f) m) (map_ident f x) (union (C.contained_ids_of x.id (map map_container cs)) (x.id ∷ [])) (is_in c.id (C.contained_ids_of c.id (map map_container cs))) (map map_container cs) ≡ map_found (C.add_ids c m x ids (is_in c.id (C.contained_ids_of c.id cs)) cs)
      = ap (λ l. C.add_ids (map_ident f c) (map_option (map_ident f) m) (map_ident f x) (union l (x.id ∷ [])) (is_in c.id (C.contained_ids_of c.id (map map_container cs))) (map map_container cs)) (contents_map x.id cs)
      ∙ ap (λ l. C.add_ids (map_ident f c) (map_option (map_ident f) m) (map_ident f x) ids (is_in c.id l) (map map_container cs)) (contents_map c.id cs)
      ∙ add_map c m x ids (is_in c.id (C.contained_ids_of c.id cs)) cs in
      ap (λ r. (r.0, record { containers = r.1; in_constexpr_of_constant = map_option (map_ident f) s.in_constexpr_of_constant; edges = s.edges ++ ((c.id, x.id) ∷ []) })) e

  -- USES, WITH CONTAINERS

  mi : Maybe P (Ident P) → Maybe P' (Ident P')
  mi = map_maybe f (map_ident f)

  containee_map : (i : Ident P) (o : Option (Ident P)) → Nat mi (Q.use_containee i o) (Q.use_containee (map_ident f i) (map_option (map_ident f) o))
  unfolding Q.use_containee Q.on_containment Q.with_containment S.ret map_analyzer map_option mi map_maybe
  containee_map i (some c) = record { at = λ a. ap (λ r. (r.0, Q.with_containment (map_analyzer a) r.1)) (found1_map c none i a.containment) }
  containee_map i none = record { at = λ a. refl }

  as_map : (i j : Ident P) → Nat mi (Q.use_as i j) (Q.use_as (map_ident f i) (map_ident f j))
  unfolding Q.use_as map_analyzer map_containment map_ident resolved
  as_map i j = record { at = λ a. (containee_map (resolved i j.id 0) a.containment.in_constexpr_of_constant).at a }

  by_map : (i j : Ident P) (x : Fate P) → Nat mi (Q.use_variable_by i j x) (Q.use_variable_by (map_ident f i) (map_ident f j) (map_fate x))
  unfolding Q.use_variable_by Q.with_prunings Q.may_be_skipped map_analyzer map_fate map_prunings map_pruning map_ident map_maybe map_poison mi list_skip poison_variable
  by_map i j (pruned c) = record {
    at = λ a. λ t. (
      mi (err (Q.may_be_skipped i j c)),
      Q.with_prunings (map_analyzer a) (record {
        unresolved_labels = map map_unresolved a.prunings.unresolved_labels;
        pruned_variables = keep-map map_pruning (λ c. not (eqb c.variable j.id)) (λ c. not (eqb c.variable j.id)) (λ x. refl) a.prunings.pruned_variables t;
        poisoned_variables = j.id ∷ a.prunings.poisoned_variables;
        skips = sym (map-append (λ r. (f r.0, f r.1)) a.prunings.skips ((i.place, j.place) ∷ [])) t;
      }),
    );
  }
  by_map i j poisoned = record {
    at = λ a. λ t. (
      err (Tree'.poison 0 [] []),
      Q.with_prunings (map_analyzer a) (record {
        unresolved_labels = map map_unresolved a.prunings.unresolved_labels;
        pruned_variables = map map_pruning a.prunings.pruned_variables;
        poisoned_variables = a.prunings.poisoned_variables;
        skips = sym (map-append (λ r. (f r.0, f r.1)) a.prunings.skips ((i.place, j.place) ∷ [])) t;
      }),
    );
  }
  by_map i j standing = as_map i j

  at_map : (i : Ident P) (o : Option (Ident P)) → Nat mi (Q.use_variable_at i o) (Q.use_variable_at (map_ident f i) (map_option (map_ident f) o))
  unfolding Q.use_variable_at Q.undefined S.ret map_option map_ident map_maybe map_poison mi map_analyzer
  at_map i none = record { at = λ a. refl }
  at_map i (some j) = record { at = λ a. ap (λ x. Q.use_variable_by (map_ident f i) (map_ident f j) x (map_analyzer a)) (fate_map j.id a.prunings) ∙ (by_map i j (fate j.id a.prunings)).at a }

  variable_map : (i : Ident P) → Nat mi (Q.use_variable i) (Q.use_variable (map_ident f i))
  unfolding Q.use_variable Q.variables map_analyzer map_scope map_ident
  variable_map i = record {
    at = λ a.
        let vs = a.variable_stack.constants ++ a.variable_stack.locals in
        ap (λ l. Q.use_variable_at (map_ident f i) (first_named i.name l) (map_analyzer a)) (sym (map-append (map_ident f) a.variable_stack.constants a.variable_stack.locals))
        ∙ ap (λ o. Q.use_variable_at (map_ident f i) o (map_analyzer a)) (named_map i.name vs)
        ∙ (at_map i (first_named i.name vs)).at a;
  }

  constant_at_map : (i : Ident P) (o o' : Option (Ident P)) → Nat mi (Q.use_constant_at i o o') (Q.use_constant_at (map_ident f i) (map_option (map_ident f) o) (map_option (map_ident f) o'))
  unfolding Q.use_constant_at Q.undefined S.ret map_option map_ident map_maybe map_poison mi
  constant_at_map i (some j) o' = as_map i j
  constant_at_map i none (some j) = record { at = λ a. refl }
  constant_at_map i none none = record { at = λ a. refl }

  constant_map : (i : Ident P) → Nat mi (Q.use_constant i) (Q.use_constant (map_ident f i))
  unfolding Q.use_constant map_analyzer map_scope map_ident
  constant_map i = record {
    at = λ a.
        ap (λ o. Q.use_constant_at (map_ident f i) o (first_named i.name (map (map_ident f) a.variable_stack.locals)) (map_analyzer a)) (named_map i.name a.variable_stack.constants)
        ∙ ap (λ o. Q.use_constant_at (map_ident f i) (map_option (map_ident f) (first_named i.name a.variable_stack.constants)) o (map_analyzer a)) (named_map i.name a.variable_stack.locals)
        ∙ (constant_at_map i _ _).at a;
  }

  struct_at_map : (i : Ident P) (o : Option (Ident P)) → Nat mi (Q.use_struct_at i o) (Q.use_struct_at (map_ident f i) (map_option (map_ident f) o))
  unfolding Q.use_struct_at Q.undefined S.ret map_option map_ident map_maybe map_poison mi
  struct_at_map i (some j) = as_map i j
  struct_at_map i none = record { at = λ a. refl }

  struct_map : (i : Ident P) → Nat mi (Q.use_struct i) (Q.use_struct (map_ident f i))
  unfolding Q.use_struct map_analyzer map_containment map_ident
  struct_map i = record {
    at = λ a.
        ap (λ l. Q.use_struct_at (map_ident f i) (first_named i.name l) (map_analyzer a)) (structures-map a.containment.containers)
        ∙ ap (λ o. Q.use_struct_at (map_ident f i) o (map_analyzer a)) (named_map i.name (C.structures a.containment.containers))
        ∙ (struct_at_map i _).at a;
  }

  -- TYPES

  or_map : {A A' B B' : Type 0} (g : A → A') (h : B → B') (k : A → Pass P (Maybe P B)) (k' : A' → Pass P' (Maybe P' B')) → ((x : A) → Nat (map_maybe f h) (k x) (k' (g x))) → (r : Maybe P A) → Nat (map_maybe f h) (S.or_poison k r) (S.or_poison k' (map_maybe f g r))
  unfolding S.or_poison S.ret map_maybe
  or_map g h k k' q (ok x) = q x
  or_map g h k k' q (err z) = record { at = λ a. refl }

  nat_try : {A A' B B' : Type 0} (g : A → A') (h : B → B') {m : Pass P (Maybe P A)} {m' : Pass P' (Maybe P' A')} (k : A → Pass P (Maybe P B)) (k' : A' → Pass P' (Maybe P' B')) → Nat (map_maybe f g) m m' → ((x : A) → Nat (map_maybe f h) (k x) (k' (g x))) → Nat (map_maybe f h) (S.◌>>?◌ m k) (S.◌>>?◌ m' k')
  unfolding S.◌>>?◌
  nat_try g h k k' p q = nat_bind _ _ p (or_map g h k k' q)

  nat_ok : {A A' : Type 0} (g : A → A') (x : A) → Nat (map_maybe f g) (S.ret (ok x)) (S.ret (ok (g x)))
  unfolding S.ret map_maybe
  nat_ok g x = record { at = λ a. refl }

  type_map : (t : Ty P) → Nat (map_maybe f (map_ty f)) (V'.analyze_type t) (V'.analyze_type (map_ty f t))
  unfolding V'.analyze_type map_ty mi
  type_map (plain k) = nat_ok (map_ty f) _
  type_map (array t n) = nat_try (map_ty f) (map_ty f) _ _ (type_map t) (λ x. nat_ok (map_ty f) _)
  type_map (array_with_named_length t i) = nat_try (map_ty f) (map_ty f) _ _ (type_map t) (λ x. nat_try (map_ident f) (map_ty f) _ _ (constant_map i) (λ y. nat_ok (map_ty f) _))
  type_map (arraylike k t) = nat_try (map_ty f) (map_ty f) _ _ (type_map t) (λ x. nat_ok (map_ty f) _)
  type_map (struct i) = nat_try (map_ident f) (map_ty f) _ _ (struct_map i) (λ x. nat_ok (map_ty f) _)
  type_map (word i n) = nat_try (map_ident f) (map_ty f) _ _ (struct_map i) (λ x. nat_ok (map_ty f) _)
  type_map (unresolved i) = nat_try (map_ident f) (map_ty f) _ _ (struct_map i) (λ x. nat_ok (map_ty f) _)
  type_map nameless = nat_ok (map_ty f) _
  type_map (pointer t) = nat_try (map_ty f) (map_ty f) _ _ (type_map t) (λ x. nat_ok (map_ty f) _)
  type_map (view t) = nat_try (map_ty f) (map_ty f) _ _ (type_map t) (λ x. nat_ok (map_ty f) _)

  maybe_type_map : (t : Maybe P (Ty P)) → Nat (map_maybe_ty f) (V'.analyze_maybe_type t) (V'.analyze_maybe_type (map_maybe_ty f t))
  unfolding V'.analyze_maybe_type map_maybe_ty map_maybe S.ret
  maybe_type_map (ok t) = type_map t
  maybe_type_map (err z) = record { at = λ a. refl }

  -- EXPRESSIONS

  nat_scope : {A A' : Type 0} {g : A → A'} {m : Pass P A} {m' : Pass P' A'} → Nat g m m' → Nat g (Q.in_new_scope m) (Q.in_new_scope m')
  unfolding Q.in_new_scope Q.with_stack map_analyzer map_scope
  nat_scope {g} {m} {m'} p = record {
    at = λ a.
        let s = a.variable_stack in
        ap (λ (n : ℕ). let r = m' (Q.with_stack (map_analyzer a) (record { constants = map (map_ident f) s.constants; locals = map (map_ident f) s.locals; layer = n })) in (r.0, Q.with_stack r.1 (map_scope s))) (length-map s.locals (map_ident f))
        ∙ ap (λ r. (r.0, Q.with_stack r.1 (map_scope s))) (p.at (Q.new_scope a));
  }

  nat_fresh : Nat (λ (n : ℕ). n) Q.create_anonymous_resolution_id Q.create_anonymous_resolution_id
  unfolding Q.create_anonymous_resolution_id Q.next_id map_analyzer
  nat_fresh = record { at = λ a. refl }

  called_map : (i : Ident P) (b : ℕ) → Nat mi (V'.use_called i b) (V'.use_called (map_ident f i) b)
  unfolding V'.use_called mi
  called_map i zero = nat_function i
  called_map i (suc b) = nat_ok (map_ident f) i

  base_map : (b : Maybe P (Ident P)) → Nat mi (V'.analyze_base b) (V'.analyze_base (mi b))
  unfolding V'.analyze_base mi map_maybe S.ret
  base_map (ok i) = variable_map i
  base_map (err z) = record { at = λ a. refl }

  cast_map : (p q : P) (m : Pass P (Expr P)) (m' : Pass P' (Expr P')) → Nat (map_node f) m m' → (r : Maybe P (Ty P)) → Nat (map_node f) (V'.cast_to p q m r) (V'.cast_to (f p) (f q) m' (map_maybe f (map_ty f) r))
  unfolding V'.cast_to map_maybe map_node
  cast_map p q m m' n (ok t) = nat_bind _ _ n (λ x. nat_ret (map_node f) _)
  cast_map p q m m' n (err z) = nat_ret (map_node f) _

  size_map : (p : P) (r : Maybe P (Ty P)) → V'.size_of_type (f p) (map_maybe f (map_ty f) r) ≡ map_node f (V'.size_of_type p r)
  unfolding V'.size_of_type map_maybe map_node
  size_map p (ok t) = refl
  size_map p (err z) = refl

  call_map : (b : ℕ) (c : Carried P) (es : Node P (list_of Kind.expr)) (r : Maybe P (Ident P)) → V'.call_to b (map_carried f c) (map_node f es) (mi r) ≡ map_node f (V'.call_to b c es r)
  unfolding V'.call_to map_maybe map_node mi
  call_map b c es (ok i) = refl
  call_map b c es (err z) = refl

  nat_eq : {A A' : Type 0} (g : A → A') {x : A} {y : A'} → y ≡ g x → Nat g (S.ret x) (S.ret y)
  unfolding S.ret
  nat_eq g e = record { at = λ a. ap (λ z. (z, map_analyzer a)) e }

  node_map : {s : Sort} (x : Node P s) → Nat (map_node f) (V'.analyze_node x) (V'.analyze_node (map_node f x))
  unfolding V'.analyze_node map_node mi
  node_map nil = nat_ret (map_node f) _
  node_map (cons x xs) = nat_bind _ _ (node_map x) (λ x. nat_bind _ _ (node_map xs) (λ y. nat_ret (map_node f) _))
  node_map (binary op p q x y) = nat_bind _ _ (node_map x) (λ x. nat_bind _ _ (node_map y) (λ y. nat_ret (map_node f) _))
  node_map (unary op p q x) = nat_bind _ _ (node_map x) (λ x. nat_ret (map_node f) _)
  node_map (boolean b p) = nat_ret (map_node f) _
  node_map (signed b p c) = nat_ret (map_node f) _
  node_map (bits b p c) = nat_ret (map_node f) _
  node_map (string b p) = nat_ret (map_node f) _
  node_map (array_literal p c es i) = nat_bind _ _ (nat_scope (node_map es)) (λ x. nat_bind _ _ nat_fresh (λ n. nat_ret (map_node f) _))
  node_map (structural p ms c) = nat_bind _ _ (node_map ms) (λ x. nat_bind _ _ (maybe_type_map c) (λ y. nat_ret (map_node f) _))
  node_map (parenthesized p x) = nat_bind _ _ (node_map x) (λ x. nat_ret (map_node f) _)
  node_map (deref c r) = nat_bind _ _ (node_map r) (λ x. nat_ret (map_node f) _)
  node_map (bit_cast p q c x) = nat_bind _ _ (node_map x) (λ x. nat_ret (map_node f) _)
  node_map (type_cast p q t x) = nat_bind _ _ (type_map t) (cast_map p q _ _ (node_map x))
  node_map (length_of_array p r) = nat_bind _ _ (node_map r) (λ x. nat_ret (map_node f) _)
  node_map (size_of p t) = nat_bind _ _ (type_map t) (λ r. nat_eq (map_node f) (size_map p r))
  node_map (function_call i b c es) = nat_bind _ _ (node_map es) (λ x. nat_bind _ _ (called_map i b) (λ r. nat_eq (map_node f) (call_map b c x r)))
  node_map (bad_expr z) = nat_ret (map_node f) _
  node_map (reference d p q b ts) = nat_bind _ _ (base_map b) (λ x. nat_bind _ _ (node_map ts) (λ y. nat_ret (map_node f) _))
  node_map (element n x) = nat_bind _ _ (node_map x) (λ x. nat_ret (map_node f) _)
  node_map (member i o) = nat_ret (map_node f) _
  node_map (member_expression i o x) = nat_bind _ _ (node_map x) (λ x. nat_ret (map_node f) _)

  -- DECLARING

  duplicate_map : (k : ℕ) (i : Ident P) (o : Option (Ident P)) → Q.unless_duplicate k (map_ident f i) (map_option (map_ident f) o) ≡ mi (Q.unless_duplicate k i o)
  unfolding Q.unless_duplicate map_ident map_option map_maybe map_poison mi
  duplicate_map k i (some j) = refl
  duplicate_map k i none = refl

  declare_map : (k : ℕ) (i : Ident P) → Nat mi (Q.declare_variable k i) (Q.declare_variable k (map_ident f i))
  unfolding Q.declare_variable Q.authoritative Q.variables Q.next_id Q.with_stack Q.push_variable map_analyzer map_scope map_ident resolved
  declare_map k i = record {
    at = λ a.
        let vs = a.variable_stack.constants ++ a.variable_stack.locals in
        let i' = resolved i a.resolution_id 1 in
        let e : Q.unless_duplicate k (map_ident f i') (first_named i.name (map (map_ident f) a.variable_stack.constants ++ map (map_ident f) a.variable_stack.locals)) ≡ mi (Q.unless_duplicate k i' (first_named i.name vs))
        = ap (λ l. Q.unless_duplicate k (map_ident f i') (first_named i.name l)) (sym (map-append (map_ident f) a.variable_stack.constants a.variable_stack.locals))
        ∙ ap (Q.unless_duplicate k (map_ident f i')) (named_map i.name vs)
        ∙ duplicate_map k i' (first_named i.name vs) in
        λ t. (
          e t,
          Q.next_id (Q.with_stack (map_analyzer a) (record {
            constants = map (map_ident f) a.variable_stack.constants;
            locals = sym (map-append (map_ident f) a.variable_stack.locals (i' ∷ [])) t;
            layer = a.variable_stack.layer;
          })),
        );
  }

  -- PRUNING

  ids_map : (is : List (Ident P)) → map (λ (x : Ident P'). x.id) (map (map_ident f) is) ≡ map (λ (x : Ident P). x.id) is
  unfolding map_ident
  ids_map [] = refl
  ids_map (i ∷ is) = ap (λ l. i.id ∷ l) (ids_map is)

  drop-map : (n : ℕ) (is : List (Ident P)) → drop n (map (map_ident f) is) ≡ map (map_ident f) (drop n is)
  drop-map zero is = refl
  drop-map (suc n) [] = refl
  drop-map (suc n) (i ∷ is) = drop-map n is

  meet_map : (l : ℕ) (here : List ℕ) (p : P) (us : List (UnresolvedPruning P)) → R.meet_at l here (f p) (map map_unresolved us) ≡ map map_unresolved (R.meet_at l here p us)
  unfolding R.meet_at map_unresolved
  meet_map l here p [] = refl
  meet_map l here p (u ∷ us) = go (eqb u.label l) (meet_map l here p us)
    where
      go : (b : Bool) → R.meet_at l here (f p) (map map_unresolved us) ≡ map map_unresolved (R.meet_at l here p us)
          → (elim b [ true ↦ record { label = l; intersection_of_variables = keep (λ x. is_in x here) u.intersection_of_variables; location_of_goto = f u.location_of_goto } ∷ map map_unresolved us | false ↦ map_unresolved u ∷ R.meet_at l here (f p) (map map_unresolved us) ])
          ≡ map map_unresolved (elim b [ true ↦ record { label = l; intersection_of_variables = keep (λ x. is_in x here) u.intersection_of_variables; location_of_goto = u.location_of_goto } ∷ us | false ↦ u ∷ R.meet_at l here p us ])
      go true h = refl
      go false h = ap (λ r. map_unresolved u ∷ r) h

  goto_map : (i : Ident P) (p : P) → Nat (map_ident f) (Q.prepare_to_prune_at_goto i p) (Q.prepare_to_prune_at_goto (map_ident f i) (f p))
  unfolding Q.prepare_to_prune_at_goto R.prepare_to_prune_at_goto Q.with_prunings Q.variables map_analyzer map_scope map_prunings map_ident
  goto_map i p = record {
    at = λ a.
        let vs = a.variable_stack.constants ++ a.variable_stack.locals in
        let e : R.meet_at i.id (map (λ (x : Ident P'). x.id) (map (map_ident f) a.variable_stack.constants ++ map (map_ident f) a.variable_stack.locals)) (f p) (map map_unresolved a.prunings.unresolved_labels) ≡ map map_unresolved (R.meet_at i.id (map (λ (x : Ident P). x.id) vs) p a.prunings.unresolved_labels)
        = ap (λ l. R.meet_at i.id (map (λ (x : Ident P'). x.id) l) (f p) (map map_unresolved a.prunings.unresolved_labels)) (sym (map-append (map_ident f) a.variable_stack.constants a.variable_stack.locals))
        ∙ ap (λ l. R.meet_at i.id l (f p) (map map_unresolved a.prunings.unresolved_labels)) (ids_map vs)
        ∙ meet_map i.id (map (λ (x : Ident P). x.id) vs) p a.prunings.unresolved_labels in
        λ t. (map_ident f i, Q.with_prunings (map_analyzer a) (record { unresolved_labels = e t; pruned_variables = map map_pruning a.prunings.pruned_variables; poisoned_variables = a.prunings.poisoned_variables; skips = map (λ r. (f r.0, f r.1)) a.prunings.skips }));
  }

  prune-map : (c : Pruning P) (cs : List (Pruning P)) → R.prune (map_pruning c) (map map_pruning cs) ≡ map map_pruning (R.prune c cs)
  unfolding R.prune map_pruning
  prune-map c [] = refl
  prune-map c (d ∷ ds) = go (eqb d.variable c.variable) (prune-map c ds)
    where
      go : (b : Bool) → R.prune (map_pruning c) (map map_pruning ds) ≡ map map_pruning (R.prune c ds)
          → (elim b [ true ↦ map_pruning d ∷ map map_pruning ds | false ↦ map_pruning d ∷ R.prune (map_pruning c) (map map_pruning ds) ]) ≡ map map_pruning (elim b [ true ↦ d ∷ ds | false ↦ d ∷ R.prune c ds ])
      go true h = refl
      go false h = ap (λ r. map_pruning d ∷ r) h

  prune_all_map : (l : Ident P) (u : UnresolvedPruning P) (xs : List (Ident P)) (cs : List (Pruning P)) → R.prune_all (map_ident f l) (map_unresolved u) (map (map_ident f) xs) (map map_pruning cs) ≡ map map_pruning (R.prune_all l u xs cs)
  unfolding R.prune_all map_unresolved map_ident map_pruning
  prune_all_map l u [] cs = refl
  prune_all_map l u (x ∷ xs) cs =
      let c : Pruning P = record { variable = x.id; label = l; location_of_goto = u.location_of_goto } in
      go (is_in x.id u.intersection_of_variables) (R.prune_all l u xs cs) (R.prune_all l u xs (R.prune c cs)) (prune_all_map l u xs cs) (ap (R.prune_all (map_ident f l) (map_unresolved u) (map (map_ident f) xs)) (prune-map c cs) ∙ prune_all_map l u xs (R.prune c cs))
    where
      go : (b : Bool) {x₀ x₁ : List (Pruning P')} (y₀ y₁ : List (Pruning P)) → x₀ ≡ map map_pruning y₀ → x₁ ≡ map map_pruning y₁ → (elim b [ true ↦ x₀ | false ↦ x₁ ]) ≡ map map_pruning (elim b [ true ↦ y₀ | false ↦ y₁ ])
      go true y₀ y₁ h k = h
      go false y₀ y₁ h k = k

  prune_by_map : (l : Ident P) (xs : List (Ident P)) (o : Option (UnresolvedPruning P)) (s : Prunings P) → R.prune_by (map_ident f l) (map (map_ident f) xs) (map_option map_unresolved o) (map_prunings s) ≡ map_prunings (R.prune_by l xs o s)
  unfolding R.prune_by map_option map_prunings map_ident map_unresolved
  prune_by_map l xs none s = refl
  prune_by_map l xs (some u) s = λ t. record {
    unresolved_labels = keep-map map_unresolved (λ x. not (eqb x.label l.id)) (λ x. not (eqb x.label l.id)) (λ x. refl) s.unresolved_labels t;
    pruned_variables = prune_all_map l u xs s.pruned_variables t;
    poisoned_variables = s.poisoned_variables;
    skips = map (λ r. (f r.0, f r.1)) s.skips;
  }

  label_map : (i : Ident P) → Nat (map_ident f) (Q.prune_at_label i) (Q.prune_at_label (map_ident f i))
  unfolding Q.prune_at_label R.prune_at_label Q.with_prunings Q.last_layer map_analyzer map_scope map_prunings map_ident map_unresolved
  label_map i = record {
    at = λ a.
        let q = a.prunings in
        let e : R.prune_by (map_ident f i) (drop a.variable_stack.layer (map (map_ident f) a.variable_stack.locals)) (first (λ u. eqb u.label i.id) (map map_unresolved q.unresolved_labels)) (map_prunings q) ≡ map_prunings (R.prune_by i (drop a.variable_stack.layer a.variable_stack.locals) (first (λ u. eqb u.label i.id) q.unresolved_labels) q)
        = ap (λ l. R.prune_by (map_ident f i) l (first (λ u. eqb u.label i.id) (map map_unresolved q.unresolved_labels)) (map_prunings q)) (drop-map a.variable_stack.layer a.variable_stack.locals)
        ∙ ap (λ o. R.prune_by (map_ident f i) (map (map_ident f) (drop a.variable_stack.layer a.variable_stack.locals)) o (map_prunings q)) (first-map map_unresolved _ _ (λ x. refl) q.unresolved_labels)
        ∙ prune_by_map i (drop a.variable_stack.layer a.variable_stack.locals) (first (λ u. eqb u.label i.id) q.unresolved_labels) q in
        ap (λ r. (map_ident f i, Q.with_prunings (map_analyzer a) r)) e;
  }

  -- STATEMENTS

  option_map : {A A' : Type 0} (g : A → A') (k : A → Pass P A) (k' : A' → Pass P' A') → ((x : A) → Nat g (k x) (k' (g x))) → (o : Option A) → Nat (map_option g) (V'.analyze_option k o) (V'.analyze_option k' (map_option g o))
  unfolding V'.analyze_option map_option
  option_map g k k' q none = nat_ret (map_option g) _
  option_map g k k' q (some x) = nat_bind _ _ (q x) (λ x. nat_ret (map_option g) _)

  declaration_map : (p : P) (v : Option (Expr P)) (t : Carried P) (r : Maybe P (Ident P)) → V'.declaration_of (f p) (map_option (map_node f) v) (map_carried f t) (mi r) ≡ map_stm f (V'.declaration_of p v t r)
  unfolding V'.declaration_of map_stm mi map_maybe
  declaration_map p v t (ok i) = refl
  declaration_map p v t (err z) = refl

  method_map : (b : ℕ) (es : Node P (list_of Kind.expr)) (r : Maybe P (Ident P)) → V'.method_to b (map_node f es) (mi r) ≡ map_stm f (V'.method_to b es r)
  unfolding V'.method_to map_stm mi map_maybe
  method_map b es (ok i) = refl
  method_map b es (err z) = refl

  carried_map : (c : Carried P) → Nat (map_carried f) (V'.analyze_option V'.analyze_maybe_type c) (V'.analyze_option V'.analyze_maybe_type (map_carried f c))
  unfolding map_carried
  carried_map c = option_map (map_maybe_ty f) _ _ maybe_type_map c

  stm_map : {s : StmSort} (x : Stm P s) → Nat (map_stm f) (V'.analyze_stm x) (V'.analyze_stm (map_stm f x))
  unfolding V'.analyze_stm map_stm
  stm_map nil' = nat_ret (map_stm f) _
  stm_map (cons' t ts) = nat_bind _ _ (stm_map t) (λ x. nat_bind _ _ (stm_map ts) (λ y. nat_ret (map_stm f) _))
  stm_map (declaration p v t i) = nat_bind _ _ (option_map (map_node f) _ _ node_map v) (λ v. nat_bind _ _ (carried_map t) (λ t. nat_bind _ _ (declare_map 4 i) (λ r. nat_eq (map_stm f) (declaration_map p v t r))))
  stm_map (assignment p v r) = nat_bind _ _ (node_map v) (λ x. nat_bind _ _ (node_map r) (λ y. nat_ret (map_stm f) _))
  stm_map (method_call i b es) = nat_bind _ _ (node_map es) (λ x. nat_bind _ _ (called_map i b) (λ r. nat_eq (map_stm f) (method_map b x r)))
  stm_map (loop p) = nat_ret (map_stm f) _
  stm_map (goto i p) = nat_bind _ _ (goto_map i p) (λ x. nat_ret (map_stm f) _)
  stm_map (label i p) = nat_bind _ _ (label_map i) (λ x. nat_ret (map_stm f) _)
  stm_map (if_else p op q r x y t e) = nat_bind _ _ (node_map x) (λ x. nat_bind _ _ (node_map y) (λ y. nat_bind _ _ (stm_map t) (λ t. nat_bind _ _ (stm_map e) (λ e. nat_ret (map_stm f) _))))
  stm_map (block p ts) = nat_bind _ _ (nat_scope (stm_map ts)) (λ x. nat_ret (map_stm f) _)
  stm_map (bad_stmt z) = nat_ret (map_stm f) _
  stm_map no_else = nat_ret (map_stm f) _
  stm_map (or_else p t) = nat_bind _ _ (stm_map t) (λ x. nat_ret (map_stm f) _)

  -- DECLARATIONS

  inside_map : (b : Body P) → Nat (map_body f) (V'.analyze_in_body b) (V'.analyze_in_body (map_body f b))
  unfolding V'.analyze_in_body map_body
  inside_map b = nat_bind _ _ (stm_map b.statements) (λ ts. nat_bind _ _ (option_map (map_node f) _ _ node_map b.value) (λ v. nat_ret (map_body f) _))

  body_map : (b : Maybe P (Body P)) → Nat (map_maybe f (map_body f)) (V'.analyze_body b) (V'.analyze_body (map_maybe f (map_body f) b))
  unfolding V'.analyze_body map_maybe map_body map_ident resolved
  body_map (ok b) = nat_bind _ _ (nat_scope (inside_map b)) (λ b'. nat_bind _ _ nat_fresh (λ n. nat_ok (map_body f) _))
  body_map (err z) = nat_ret (map_maybe f (map_body f)) _

  turn_map : {A A' : Type 0} (g : A → A') (k : A → Pass P A) (k' : A' → Pass P' A') → ((x : A) → Nat g (k x) (k' (g x))) → (xs : List A) → Nat (map g) (V'.in_turn k xs) (V'.in_turn k' (map g xs))
  unfolding V'.in_turn
  turn_map g k k' q [] = nat_ret (map g) _
  turn_map g k k' q (x ∷ xs) = nat_bind _ _ (q x) (λ x. nat_bind _ _ (turn_map g k k' q xs) (λ y. nat_ret (map g) _))

  declare_maybe_map : (k : ℕ) (i : Maybe P (Ident P)) → Nat mi (V'.declare_maybe k i) (V'.declare_maybe k (mi i))
  unfolding V'.declare_maybe mi map_maybe
  declare_maybe_map k (ok i) = declare_map k i
  declare_maybe_map k (err z) = nat_ret mi _

  param_map : (k : ℕ) (x : Param P) → Nat (map_param f) (V'.analyze_param k x) (V'.analyze_param k (map_param f x))
  unfolding V'.analyze_param map_param mi
  param_map k x = nat_bind _ _ (declare_maybe_map k x.ident) (λ i. nat_bind _ _ (maybe_type_map x.type) (λ t. nat_ret (map_param f) _))

  -- a step on the containers alone
  pub record NatC {A A' : Type 0} (g : A → A') (m : S.State (Containment P) A) (m' : S.State (Containment P') A') : Type 0 where
    pub at : (c : Containment P) → m' (map_containment c) ≡ (g (m c).0, map_containment (m c).1)

  natc_ok : {A A' : Type 0} (g : A → A') (x : A) → NatC (map_maybe f g) (S.ret (ok x)) (S.ret (ok (g x)))
  unfolding S.ret map_maybe
  natc_ok g x = record { at = λ c. refl }

  orc_map : {A A' B B' : Type 0} (g : A → A') (h : B → B') (k : A → S.State (Containment P) (Maybe P B)) (k' : A' → S.State (Containment P') (Maybe P' B')) → ((x : A) → NatC (map_maybe f h) (k x) (k' (g x))) → (r : Maybe P A) → NatC (map_maybe f h) (S.or_poison k r) (S.or_poison k' (map_maybe f g r))
  unfolding S.or_poison S.ret map_maybe
  orc_map g h k k' q (ok x) = q x
  orc_map g h k k' q (err z) = record { at = λ c. refl }

  natc_try : {A A' B B' : Type 0} (g : A → A') (h : B → B') {m : S.State (Containment P) (Maybe P A)} {m' : S.State (Containment P') (Maybe P' A')} (k : A → S.State (Containment P) (Maybe P B)) (k' : A' → S.State (Containment P') (Maybe P' B')) → NatC (map_maybe f g) m m' → ((x : A) → NatC (map_maybe f h) (k x) (k' (g x))) → NatC (map_maybe f h) (S.◌>>?◌ m k) (S.◌>>?◌ m' k')
  unfolding S.◌>>?◌ S.◌>>=◌
  natc_try g h {m} {m'} k k' p q = record { at = λ c. ap (λ r. S.or_poison k' r.0 r.1) (p.at c) ∙ (orc_map g h k k' q (m c).0).at (m c).1 }

  found1_nat : (c : Ident P) (m : Option (Ident P)) (x : Ident P) → NatC mi (C.found_container_1 c m x) (C.found_container_1 (map_ident f c) (map_option (map_ident f) m) (map_ident f x))
  unfolding mi
  found1_nat c m x = record { at = found1_map c m x }

  found_map : (c : Ident P) (m : Option (Ident P)) (t : Ty P) → NatC (map_maybe f (map_ty f)) (C.found_container c m t) (C.found_container (map_ident f c) (map_option (map_ident f) m) (map_ty f t))
  unfolding C.found_container map_ty mi
  found_map c m (plain k) = natc_ok (map_ty f) _
  found_map c m (array t n) = natc_try (map_ty f) (map_ty f) _ _ (found_map c m t) (λ x. natc_ok (map_ty f) _)
  found_map c m (array_with_named_length t i) = natc_try (map_ty f) (map_ty f) _ _ (found_map c m t) (λ x. natc_try (map_ident f) (map_ty f) _ _ (found1_nat c m i) (λ y. natc_ok (map_ty f) _))
  found_map c m (arraylike k t) = natc_try (map_ty f) (map_ty f) _ _ (found_map c m t) (λ x. natc_ok (map_ty f) _)
  found_map c m (struct i) = natc_try (map_ident f) (map_ty f) _ _ (found1_nat c m i) (λ x. natc_ok (map_ty f) _)
  found_map c m (word i n) = natc_try (map_ident f) (map_ty f) _ _ (found1_nat c m i) (λ x. natc_ok (map_ty f) _)
  found_map c m (unresolved i) = natc_try (map_ident f) (map_ty f) _ _ (found1_nat c m i) (λ x. natc_ok (map_ty f) _)
  found_map c m nameless = natc_ok (map_ty f) _
  found_map c m (pointer t) = natc_ok (map_ty f) _
  found_map c m (view t) = natc_ok (map_ty f) _

  on_map : {A A' : Type 0} {g : A → A'} {m : S.State (Containment P) A} {m' : S.State (Containment P') A'} → NatC g m m' → Nat g (Q.on_containment m) (Q.on_containment m')
  unfolding Q.on_containment Q.with_containment map_analyzer
  on_map p = record { at = λ a. ap (λ r. (r.0, Q.with_containment (map_analyzer a) r.1)) (p.at a.containment) }

  found_maybe_map : (c : Ident P) (m : Option (Ident P)) (t : Maybe P (Ty P)) → Nat (map_maybe_ty f) (V'.found_maybe c m t) (V'.found_maybe (map_ident f c) (map_option (map_ident f) m) (map_maybe_ty f t))
  unfolding V'.found_maybe map_maybe_ty map_maybe
  found_maybe_map c m (ok t) = on_map (found_map c m t)
  found_maybe_map c m (err z) = nat_ret (map_maybe_ty f) _

  edges_map : (c : Ident P) (i : Maybe P (Ident P)) (t : Maybe P (Ty P)) → Nat (map_maybe_ty f) (V'.analyze_wellfoundedness c i t) (V'.analyze_wellfoundedness (map_ident f c) (mi i) (map_maybe_ty f t))
  unfolding V'.analyze_wellfoundedness mi map_maybe map_option
  edges_map c (ok i) t = found_maybe_map c (some i) t
  edges_map c (err z) t = nat_ret (map_maybe_ty f) _

  member_map : (c : Ident P) (x : Param P) → Nat (map_param f) (V'.analyze_member c x) (V'.analyze_member (map_ident f c) (map_param f x))
  unfolding V'.analyze_member map_param mi
  member_map c x = nat_bind _ _ (param_map 6 x) (λ m. nat_bind _ _ (edges_map c m.ident m.type) (λ t. nat_ret (map_param f) _))

  constexpr_map : (i : Ident P) (x : Expr P) → Nat (map_node f) (V'.analyze_constexpr i x) (V'.analyze_constexpr (map_ident f i) (map_node f x))
  unfolding V'.analyze_constexpr V'.in_constexpr_of Q.with_containment map_analyzer map_containment map_option
  constexpr_map i x = record { at = λ a. ap (λ r. (r.0, V'.in_constexpr_of none r.1)) ((node_map x).at (V'.in_constexpr_of (some i) a)) }

  function_of_map : (names : List (List ℕ)) (n : ℕ) (p q : P) (ps : List (Param P)) (b : Maybe P (Body P)) (t : Maybe P (Ty P)) (r : Maybe P (Ident P)) → Nat (map_decl f) (V'.function_of names n p q ps b t r) (V'.function_of names n (f p) (f q) (map (map_param f) ps) (map_maybe f (map_body f) b) (map_maybe_ty f t) (mi r))
  unfolding V'.function_of map_decl mi map_maybe map_ident
  function_of_map names n p q ps b t (ok i) = nat_bind _ _ (maybe_type_map t) (λ t. nat_ret (map_decl f) _)
  function_of_map names n p q ps b t (err z) = nat_ret (map_decl f) _

  head_of_map : (n : ℕ) (p q : P) (ps : List (Param P)) (t : Maybe P (Ty P)) (r : Maybe P (Ident P)) → Nat (map_decl f) (V'.function_head_of n p q ps t r) (V'.function_head_of n (f p) (f q) (map (map_param f) ps) (map_maybe_ty f t) (mi r))
  unfolding V'.function_head_of map_decl mi map_maybe
  head_of_map n p q ps t (ok i) = nat_bind _ _ (maybe_type_map t) (λ t. nat_ret (map_decl f) _)
  head_of_map n p q ps t (err z) = nat_ret (map_decl f) _

  inner_map : (ps : List (Param P)) (b : Maybe P (Body P)) → Nat (λ r. (map (map_param f) r.0, map_maybe f (map_body f) r.1)) (V'.analyze_params_and_body ps b) (V'.analyze_params_and_body (map (map_param f) ps) (map_maybe f (map_body f) b))
  unfolding V'.analyze_params_and_body
  inner_map ps b = nat_bind _ _ (turn_map (map_param f) _ _ (param_map 5) ps) (λ ps. nat_bind _ _ (body_map b) (λ b. nat_ret (λ r. (map (map_param f) r.0, map_maybe f (map_body f) r.1)) (ps, b)))

  decl_map : (names : List (List ℕ)) (d : Decl P) → Nat (map_decl f) (V'.analyze_decl names d) (V'.analyze_decl names (map_decl f d))
  unfolding V'.analyze_decl map_decl mi map_option
  decl_map names (constant n p q i x t) = nat_bind _ _ (constexpr_map i x) (λ x. nat_bind _ _ (maybe_type_map t) (λ t. nat_bind _ _ (found_maybe_map i none t) (λ t. nat_ret (map_decl f) _)))
  decl_map names (function n p q i ps b t) = nat_bind _ _ (nat_function i) (λ i. nat_bind _ _ (nat_scope (inner_map ps b)) (λ r. function_of_map names n p q r.0 r.1 t i))
  decl_map names (function_head n p q i ps t) = nat_bind _ _ (nat_function i) (λ i. nat_bind _ _ (nat_scope (turn_map (map_param f) _ _ (param_map 5) ps)) (λ ps. head_of_map n p q ps t i))
  decl_map names (structure n p i ms t) = nat_bind _ _ (nat_scope (turn_map (map_param f) _ _ (member_map i) ms)) (λ ms. nat_bind _ _ (maybe_type_map t) (λ t. nat_ret (map_decl f) _))
  decl_map names (import b p) = nat_ret (map_decl f) _
  decl_map names (bad_decl z) = nat_ret (map_decl f) _

  -- PREDECLARATION

  push_map : (b : Bool) (i : Ident P) (c : Containment P) → C.push_container b (map_ident f i) (map_containment c) ≡ map_containment (C.push_container b i c)
  unfolding C.push_container C.with_containers map_containment map_container
  push_map b i c = λ t. record {
    containers = sym (map-append map_container c.containers (record { identifier = i; contained_ids = []; depth = 0; is_structure = b } ∷ [])) t;
    in_constexpr_of_constant = map_option (map_ident f) c.in_constexpr_of_constant;
    edges = c.edges;
  }

  push_constant_map : (i : Ident P) (s : Scope P) → Q.push_constant (map_ident f i) (map_scope s) ≡ map_scope (Q.push_constant i s)
  unfolding Q.push_constant map_scope
  push_constant_map i s = λ t. record { constants = sym (map-append (map_ident f) s.constants (i ∷ [])) t; locals = map (map_ident f) s.locals; layer = s.layer }

  declared_as : (k : ℕ) (i : Ident P) {l : List (Ident P')} (is : List (Ident P)) → l ≡ map (map_ident f) is → Q.unless_duplicate k (map_ident f i) (first_named i.name l) ≡ mi (Q.unless_duplicate k i (first_named i.name is))
  declared_as k i is e = ap (λ l. Q.unless_duplicate k (map_ident f i) (first_named i.name l)) e ∙ ap (Q.unless_duplicate k (map_ident f i)) (named_map i.name is) ∙ duplicate_map k i (first_named i.name is)

  declare_constant_map : (i : Ident P) → Nat mi (Q.declare_constant i) (Q.declare_constant (map_ident f i))
  unfolding Q.declare_constant Q.authoritative Q.next_id Q.with_stack Q.with_containment map_analyzer map_containment map_ident resolved
  declare_constant_map i = record {
    at = λ a.
        let i' = resolved i a.resolution_id 1 in
        let e = declared_as 3 i' (C.constants a.containment.containers) (constants-map a.containment.containers) in
        λ t. (e t, Q.next_id (Q.with_stack (Q.with_containment (map_analyzer a) (push_map false i' a.containment t)) (push_constant_map i' a.variable_stack t)));
  }

  declare_struct_map : (i : Ident P) → Nat mi (Q.declare_struct i) (Q.declare_struct (map_ident f i))
  unfolding Q.declare_struct Q.authoritative Q.next_id Q.with_containment map_analyzer map_containment map_ident resolved
  declare_struct_map i = record {
    at = λ a.
        let i' = resolved i a.resolution_id 1 in
        let e = declared_as 8 i' (C.structures a.containment.containers) (structures-map a.containment.containers) in
        λ t. (e t, Q.next_id (Q.with_containment (map_analyzer a) (push_map true i' a.containment t)));
  }

  declare_function_map : (i : Ident P) → Nat mi (Q.declare_function i) (Q.declare_function (map_ident f i))
  unfolding Q.declare_function Q.authoritative Q.next_id Q.with_functions map_analyzer map_ident resolved
  declare_function_map i = record {
    at = λ a.
        let i' = resolved i a.resolution_id 1 in
        let e = declared_as 7 i' a.function_list refl in
        λ t. (e t, Q.next_id (Q.with_functions (map_analyzer a) (sym (map-append (map_ident f) a.function_list (i' ∷ [])) t)));
  }

  as_decl_map : (g : Ident P → Decl P) (g' : Ident P' → Decl P') → ((i : Ident P) → g' (map_ident f i) ≡ map_decl f (g i)) → (r : Maybe P (Ident P)) → V'.declared_as g' (mi r) ≡ map_decl f (V'.declared_as g r)
  unfolding V'.declared_as map_decl mi map_maybe
  as_decl_map g g' e (ok i) = e i
  as_decl_map g g' e (err z) = refl

  predeclare_map : (d : Decl P) → Nat (map_decl f) (V'.predeclare d) (V'.predeclare (map_decl f d))
  unfolding V'.predeclare map_decl
  predeclare_map (constant n p q i x t) = nat_bind _ _ (declare_constant_map i) (λ r. nat_eq (map_decl f) (as_decl_map _ _ (λ i. refl) r))
  predeclare_map (function n p q i ps b t) = nat_bind _ _ (declare_function_map i) (λ r. nat_eq (map_decl f) (as_decl_map _ _ (λ i. refl) r))
  predeclare_map (function_head n p q i ps t) = nat_bind _ _ (declare_function_map i) (λ r. nat_eq (map_decl f) (as_decl_map _ _ (λ i. refl) r))
  predeclare_map (structure n p i ms t) = nat_bind _ _ (declare_struct_map i) (λ r. nat_eq (map_decl f) (as_decl_map _ _ (λ i. refl) r))
  predeclare_map (import b p) = nat_ret (map_decl f) _
  predeclare_map (bad_decl z) = nat_ret (map_decl f) _

  -- the second pass as a whole
  all_map : (names : List (List ℕ)) (ds : List (Decl P)) → Nat (map (map_decl f)) (V'.analyze_all names ds) (V'.analyze_all names (map (map_decl f) ds))
  unfolding V'.analyze_all
  all_map names ds = nat_bind _ _ (turn_map (map_decl f) _ _ predeclare_map ds) (λ ds. turn_map (map_decl f) _ _ (decl_map names) ds)

  -- DEPTHS

  commute : {A B : Type 0} (g : A → B) (h : A → A) (h' : B → B) → ((x : A) → h' (g x) ≡ g (h x)) → (xs : List A) → map h' (map g xs) ≡ map g (map h xs)
  commute g h h' e [] = refl
  commute g h h' e (x ∷ xs) = λ t. e x t ∷ commute g h h' e xs t

  ids_of_map : (cs : List (Container P)) → map C.id_of (map map_container cs) ≡ map C.id_of cs
  unfolding C.id_of map_container map_ident
  ids_of_map [] = refl
  ids_of_map (c ∷ cs) = ap (λ l. c.identifier.id ∷ l) (ids_of_map cs)

  resolved_map : (cs : List (Container P)) → map C.id_of (keep C.resolves (map map_container cs)) ≡ map C.id_of (keep C.resolves cs)
  unfolding C.resolves map_container
  resolved_map cs = ap (map C.id_of) (keep-map map_container C.resolves C.resolves (λ x. refl) cs) ∙ ids_of_map (keep C.resolves cs)

  settled_map : (d : ℕ) (ids : List ℕ) (c : Container P) → C.settled d ids (map_container c) ≡ map_container (C.settled d ids c)
  unfolding C.settled C.resolves map_container
  settled_map d ids c = refl

  rounds-map : (n d : ℕ) (cs : List (Container P)) → C.rounds n d (map map_container cs) ≡ map map_container (C.rounds n d cs)
  unfolding C.rounds
  rounds-map zero d cs = refl
  rounds-map (suc n) d cs =
      ap (λ (l : List ℕ). elim l [ [] ↦ map map_container cs | id ∷ ids ↦ C.rounds n (d + 1) (map (C.settled d (id ∷ ids)) (map map_container cs)) ]) (resolved_map cs)
      ∙ go (map C.id_of (keep C.resolves cs)) (λ cs. rounds-map n (d + 1) cs)
    where
      go : (l : List ℕ) → ((cs : List (Container P)) → C.rounds n (d + 1) (map map_container cs) ≡ map map_container (C.rounds n (d + 1) cs))
          → (elim l [ [] ↦ map map_container cs | id ∷ ids ↦ C.rounds n (d + 1) (map (C.settled d (id ∷ ids)) (map map_container cs)) ]) ≡ map map_container (elim l [ [] ↦ cs | id ∷ ids ↦ C.rounds n (d + 1) (map (C.settled d (id ∷ ids)) cs) ])
      go [] ih = refl
      go (id ∷ ids) ih = ap (C.rounds n (d + 1)) (commute map_container (C.settled d (id ∷ ids)) (C.settled d (id ∷ ids)) (settled_map d (id ∷ ids)) cs) ∙ ih (map (C.settled d (id ∷ ids)) cs)

  depths_map : (cs : List (Container P)) → C.determine_container_depths (map map_container cs) ≡ map map_container (C.determine_container_depths cs)
  unfolding C.determine_container_depths C.or_poisoned map_container
  depths_map cs = ap (λ (n : ℕ). map C.or_poisoned (C.rounds n 0 (map map_container cs))) (length-map cs map_container) ∙ ap (map C.or_poisoned) (rounds-map (length cs) 0 cs) ∙ commute map_container C.or_poisoned C.or_poisoned (λ c. refl) (C.rounds (length cs) 0 cs)

  obtain_map : (i : Ident P) (cs : List (Container P)) → C.obtain_container_depth (map_ident f i) (map map_container cs) ≡ C.obtain_container_depth i cs
  unfolding C.obtain_container_depth C.id_of map_container map_ident
  obtain_map i [] = refl
  obtain_map i (c ∷ cs) = ap (λ (r : ℕ). elim (eqb c.identifier.id i.id) [ true ↦ c.depth | false ↦ r ]) (obtain_map i cs)

  depth_of-map : (cs : List (Container P)) (d : Decl P) → V'.depth_of (map map_container cs) (map_decl f d) ≡ V'.depth_of cs d
  unfolding V'.depth_of map_decl
  depth_of-map cs (constant n p q i x t) = obtain_map i cs
  depth_of-map cs (function n p q i ps b t) = refl
  depth_of-map cs (function_head n p q i ps t) = refl
  depth_of-map cs (structure n p i ms t) = obtain_map i cs
  depth_of-map cs (import b p) = refl
  depth_of-map cs (bad_decl z) = refl

  depths_of_map : (cs : List (Container P)) (ds : List (Decl P)) → map (V'.depth_of (map map_container cs)) (map (map_decl f) ds) ≡ map (V'.depth_of cs) ds
  depths_of_map cs [] = refl
  depths_of_map cs (d ∷ ds) = λ t. depth_of-map cs d t ∷ depths_of_map cs ds t

  -- LABELS

  unfoldable pub map_labels : L.Labels P → L.Labels P'
  map_labels l = record { label_stack = map (map_ident f) l.label_stack; resolution_id = l.resolution_id }

  use_label_map : (i : Ident P) (p : P) (o : Option (Ident P)) → L.use_label (map_ident f i) (f p) (map_option (map_ident f) o) ≡ map_stm f (L.use_label i p o)
  unfolding L.use_label map_ident map_option map_stm map_poison resolved
  use_label_map i p (some j) = refl
  use_label_map i p none = refl

  declare_label_map : (i : Ident P) (p : P) (o : Option (Ident P)) → L.declare_label (map_ident f i) (f p) (map_option (map_ident f) o) ≡ map_stm f (L.declare_label i p o)
  unfolding L.declare_label map_ident map_option map_stm map_poison
  declare_label_map i p (some j) = refl
  declare_label_map i p none = refl

  labels_map : {s : StmSort} (x : Stm P s) (l : L.Labels P) → L.labels (map_stm f x) (map_labels l) ≡ (map_stm f (L.labels x l).0, map_labels (L.labels x l).1)
  unfolding L.labels map_stm map_labels L.pop_scope L.declared map_ident resolved
  labels_map nil' l = refl
  labels_map (cons' t ts) l = ap (λ r. (cons' (L.labels (map_stm f t) r.1).0 r.0, (L.labels (map_stm f t) r.1).1)) (labels_map ts l) ∙ ap (λ r. (cons' r.0 (map_stm f (L.labels ts l).0), r.1)) (labels_map t (L.labels ts l).1)
  labels_map (declaration p v t i) l = refl
  labels_map (assignment p v r) l = refl
  labels_map (method_call i b es) l = refl
  labels_map (loop p) l = refl
  labels_map (goto i p) l = ap (λ r. (r, map_labels l)) (ap (L.use_label (map_ident f i) (f p)) (named_map i.name l.label_stack) ∙ use_label_map i p (first_named i.name l.label_stack))
  labels_map (label i p) l =
      let i' = resolved i l.resolution_id 1 in
      let e = ap (L.declare_label (map_ident f i') (f p)) (named_map i.name l.label_stack) ∙ declare_label_map i' p (first_named i.name l.label_stack) in
      λ t. (e t, record { label_stack = sym (map-append (map_ident f) l.label_stack (i' ∷ [])) t; resolution_id = l.resolution_id + 1 })
  labels_map (if_else p op q r x y t e) l = ap (λ z. (if_else (f p) op (f q) (f r) (map_node f x) (map_node f y) z.0 (L.labels (map_stm f e) z.1).0, (L.labels (map_stm f e) z.1).1)) (labels_map t l) ∙ ap (λ z. (if_else (f p) op (f q) (f r) (map_node f x) (map_node f y) (map_stm f (L.labels t l).0) z.0, z.1)) (labels_map e (L.labels t l).1)
  labels_map (block p ts) l = ap (λ z. (block (f p) z.0, L.pop_scope (map_labels l) z.1)) (labels_map ts l)
  labels_map (bad_stmt z) l = refl
  labels_map no_else l = refl
  labels_map (or_else p t) l = ap (λ z. (or_else (f p) z.0, z.1)) (labels_map t l)

  labels_body_map : (b : Maybe P (Body P)) (l : L.Labels P) → L.labels_body (map_maybe f (map_body f) b) (map_labels l) ≡ (map_maybe f (map_body f) (L.labels_body b l).0, map_labels (L.labels_body b l).1)
  unfolding L.labels_body map_maybe map_body map_labels L.pop_scope
  labels_body_map (ok b) l = ap (λ z. (ok (record { statements = z.0; value = map_option (map_node f) b.value; result = map_ident f b.result }), L.pop_scope (map_labels l) z.1)) (labels_map b.statements l)
  labels_body_map (err z) l = refl

  labels_decl_map : (d : Decl P) (l : L.Labels P) → L.labels_decl (map_decl f d) (map_labels l) ≡ (map_decl f (L.labels_decl d l).0, map_labels (L.labels_decl d l).1)
  unfolding L.labels_decl map_decl
  labels_decl_map (constant n p q i x t) l = refl
  labels_decl_map (function n p q i ps b t) l = ap (λ z. (function n (f p) (f q) (map_ident f i) (map (map_param f) ps) z.0 (map_maybe_ty f t), z.1)) (labels_body_map b l)
  labels_decl_map (function_head n p q i ps t) l = refl
  labels_decl_map (structure n p i ms t) l = refl
  labels_decl_map (import b p) l = refl
  labels_decl_map (bad_decl z) l = refl

  labels_decls_map : (ds : List (Decl P)) (l : L.Labels P) → L.labels_decls (map (map_decl f) ds) (map_labels l) ≡ (map (map_decl f) (L.labels_decls ds l).0, map_labels (L.labels_decls ds l).1)
  unfolding L.labels_decls
  labels_decls_map [] l = refl
  labels_decls_map (d ∷ ds) l = ap (λ z. (z.0 ∷ (L.labels_decls (map (map_decl f) ds) z.1).0, (L.labels_decls (map (map_decl f) ds) z.1).1)) (labels_decl_map d l) ∙ ap (λ z. (map_decl f (L.labels_decl d l).0 ∷ z.0, z.1)) (labels_decls_map ds (L.labels_decl d l).1)

  references_map : (ds : List (Decl P)) → L.label_references (map (map_decl f) ds) ≡ map (map_decl f) (L.label_references ds)
  unfolding L.label_references map_labels
  references_map ds = ap (λ z. z.0) (labels_decls_map ds (record { label_stack = []; resolution_id = 1 }))

  -- BOTH PASSES

  pub analyze-map : (names : List (List ℕ)) (ds : List (Decl P)) → analyze names (map (map_decl f) ds) ≡ (map (map_decl f) (analyze names ds).0, map_analyzer (analyze names ds).1)
  unfolding analyze Q.begin R.no_prunings map_analyzer map_scope map_containment map_prunings map_option
  analyze-map names ds = ap (λ l. V'.analyze_all names l Q.begin) (references_map ds) ∙ (all_map names (L.label_references ds)).at Q.begin

  pub natural : (t : Tree P) → answered_tree (map_tree f t) ≡ map_tree f (answered_tree t)
  unfolding answered_tree map_tree V'.postanalyzed map_analyzer map_containment
  natural t =
      let r = analyze t.names t.decls in
      let cs = r.1.containment.containers in
      ap (λ z. V'.postanalyzed t.names z.0 z.1) (analyze-map t.names t.decls)
      ∙ ap (λ hs. record { names = t.names; decls = map (map_decl f) r.0; depths = hs }) (ap (λ l. map (V'.depth_of l) (map (map_decl f) r.0)) (depths_map cs) ∙ depths_of_map (C.determine_container_depths cs) r.0)

-- both passes commute with every map of places
pub both_natural : Natural
both_natural P P' f t = natural f t

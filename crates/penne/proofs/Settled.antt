-- The second pass between two declarations: what predeclaration leaves, and every declaration keeps.
use Prim.Native.Nat.{ℕ, ◌<◌, ◌≤◌}
use mathlib.Core.Bool.{Bool, true, false}
use mathlib.Core.Path.{◌≡◌, refl, sym, ◌∙◌, ap, subst}
use mathlib.Core.List.{List, [], ◌∷◌, ◌++◌, map, append_assoc, append-nil, flat_map}
use mathlib.Core.Option.{Option, none, some}
use mathlib.Core.Logic.{inl, inr, ⊎_elim}
use native.Mathlib.Omega.{arith}
use lib.ListN.{length, drop}
use lib.Dec.{eqb, ltb}
use borrow.Author.Tests.{ne_eqb, eq-eqb, ltb-true, ltb-false}
use Rattle.penne.specs.Find.{is_in, first, keep, first_named, resolved}
use Rattle.penne.specs.Pruning.{Prunings, no_prunings, fate, fate_by}
use Rattle.penne.specs.Containers.{Container, structures, push_container, with_containers, identifier_of}
use Rattle.penne.specs.Scopes.{Analyzer}
use Rattle.penne.specs.Tree.{Spot, Ident, Maybe, ok, err, Ty, Param, Body, Decl, constant, function, function_head, structure, import, bad_decl}
use Rattle.penne.specs.Walks.{Names, constant_names, structure_names, function_names}
use Rattle.penne.specs.State as S
use Rattle.penne.specs.Scopes as Q
use Rattle.penne.specs.Variables as V'
use Rattle.penne.proofs.Booleans.{true_false, none_some, eqb_sym, is_false, or_with}
use Rattle.penne.proofs.Steady.{is_gone, is_some, gone_id, AllStand, steady_node, steady_maybe, steady_option}
use Rattle.penne.proofs.Waiting.{ids_in, waiting, lost_at, lost_by, waits}
use Rattle.penne.proofs.Leaves.{l_bind, l_maybe, l_found, l_function_of, l_bodyless, l_head, l_structure, l_turn, l_param, l_predeclare}
use Rattle.penne.proofs.Skeleton.{Sk}
use Rattle.penne.proofs.BodySkeleton.{sk}
use Rattle.penne.proofs.Numbered.{statements_of, OwnLabels, no_names, Waits, waits_same, waits_stm}
use Rattle.penne.proofs.Keeps.{Orderly, Above, in_last, g_decl}
use Rattle.penne.specs.Scopes.{new_scope}

-- NAMES

-- the names of identifiers
unfoldable pub names_of : List (Ident Spot) → List ℕ
names_of is = map (λ (i : Ident Spot). i.name) is

-- of one more
names_last : (is : List (Ident Spot)) (i : Ident Spot) → names_of (is ++ (i ∷ [])) ≡ names_of is ++ (i.name ∷ [])
unfolding names_of
names_last [] i = refl
names_last (j ∷ is) i = ap (λ (l : List ℕ). j.name ∷ l) (names_last is i)

-- a search by name finds something exactly where the name is there
pub found_named : (x : ℕ) (is : List (Ident Spot)) → is_some (first_named x is) ≡ is_in x (names_of is)
unfolding first_named first names_of is_in is_some
found_named x [] = refl
found_named x (i ∷ is) = (elim (eqb i.name x) as (λ b. eqb i.name x ≡ b → is_some (first_named x (i ∷ is)) ≡ is_in x (names_of (i ∷ is))) [
  | true ↦ λ e. rw (e, first, is_some, eqb_sym x i.name ∙ e, is_in)
  | false ↦ λ e. rw (e, first, eqb_sym x i.name ∙ e, is_in) (found_named x is)
]) refl

-- PREDECLARATION

-- from a to b these constants, structures and functions were predeclared
pub record Ahead (a b : Analyzer Spot) (cs ss fs : List ℕ) : Type 0 where
  pub constants : names_of b.variable_stack.constants ≡ names_of a.variable_stack.constants ++ cs
  pub structs : names_of (structures b.containment.containers) ≡ names_of (structures a.containment.containers) ++ ss
  pub functions : names_of b.function_list ≡ names_of a.function_list ++ fs
  pub locals : b.variable_stack.locals ≡ a.variable_stack.locals
  pub layer : b.variable_stack.layer ≡ a.variable_stack.layer
  pub constexpr : b.containment.in_constexpr_of_constant ≡ a.containment.in_constexpr_of_constant
  pub low : ((x : ℕ) → a.resolution_id ≤ x → is_in x (ids_in a.variable_stack.constants) ≡ false) → (x : ℕ) → b.resolution_id ≤ x → is_in x (ids_in b.variable_stack.constants) ≡ false

-- nothing is predeclared
ahead_none : (a : Analyzer Spot) → Ahead a a [] [] []
ahead_none a = record { constants = sym (append-nil _); structs = sym (append-nil _); functions = sym (append-nil _); locals = refl; layer = refl; constexpr = refl; low = λ h. h }

-- one after the other
ahead_trans : {a b c : Analyzer Spot} {cs ss fs cs' ss' fs' : List ℕ} → Ahead a b cs ss fs → Ahead b c cs' ss' fs' → Ahead a c (cs ++ cs') (ss ++ ss') (fs ++ fs')
ahead_trans {a} {b} {c} {cs} {ss} {fs} {cs'} {ss'} {fs'} p q = record {
  constants = q.constants ∙ ap (λ (l : List ℕ). l ++ cs') p.constants ∙ append_assoc (names_of a.variable_stack.constants) cs cs';
  structs = q.structs ∙ ap (λ (l : List ℕ). l ++ ss') p.structs ∙ append_assoc (names_of (structures a.containment.containers)) ss ss';
  functions = q.functions ∙ ap (λ (l : List ℕ). l ++ fs') p.functions ∙ append_assoc (names_of a.function_list) fs fs';
  locals = q.locals ∙ p.locals;
  layer = q.layer ∙ p.layer;
  constexpr = q.constexpr ∙ p.constexpr;
  low = λ h. q.low (p.low h);
}

-- one more container
structures_last : (b : Bool) (i : Ident Spot) (cs : List (Container Spot)) → structures (cs ++ (record { identifier = i; contained_ids = []; depth = 0; is_structure = b } ∷ [])) ≡ structures cs ++ (elim b [ true ↦ i ∷ [] | false ↦ [] ])
unfolding structures keep identifier_of
structures_last true i [] = refl
structures_last false i [] = refl
structures_last b i (c ∷ cs) = (elim c.is_structure as (λ y. c.is_structure ≡ y → structures ((c ∷ cs) ++ (record { identifier = i; contained_ids = []; depth = 0; is_structure = b } ∷ [])) ≡ structures (c ∷ cs) ++ (elim b [ true ↦ i ∷ [] | false ↦ [] ])) [
  | true ↦ λ e. rw (e, keep) (ap (λ (l : List (Ident Spot)). c.identifier ∷ l) (structures_last b i cs))
  | false ↦ λ e. rw (e, keep) (structures_last b i cs)
]) refl

-- one declaration
ahead_one : (d : Decl Spot) (a : Analyzer Spot) → Ahead a (V'.predeclare d a).1 (constant_names d) (structure_names d) (function_names d)
unfolding V'.predeclare S.◌>>=◌ S.ret Q.declare_constant Q.declare_function Q.declare_struct Q.next_id Q.with_stack Q.with_containment Q.with_functions Q.push_constant Q.authoritative push_container with_containers resolved constant_names structure_names function_names
ahead_one (constant f p q i x t) a = record {
  constants = names_last a.variable_stack.constants (Q.authoritative a i);
  structs = ap names_of (structures_last false (Q.authoritative a i) a.containment.containers ∙ append-nil _) ∙ sym (append-nil _);
  functions = sym (append-nil _);
  locals = refl;
  layer = refl;
  constexpr = refl;
  low = λ h x e. in_last x a.variable_stack.constants (Q.authoritative a i) ∙ or_with _ _ (ne_eqb x a.resolution_id (λ z. omega arith)) ∙ h x (omega arith);
}
ahead_one (function f p q i ps b t) a = record { constants = sym (append-nil _); structs = sym (append-nil _); functions = names_last a.function_list (Q.authoritative a i); locals = refl; layer = refl; constexpr = refl; low = λ h x e. h x (omega arith) }
ahead_one (function_head f p q i ps t) a = record { constants = sym (append-nil _); structs = sym (append-nil _); functions = names_last a.function_list (Q.authoritative a i); locals = refl; layer = refl; constexpr = refl; low = λ h x e. h x (omega arith) }
ahead_one (structure f p i ms t) a = record {
  constants = sym (append-nil _);
  structs = ap names_of (structures_last true (Q.authoritative a i) a.containment.containers) ∙ names_last (structures a.containment.containers) (Q.authoritative a i);
  functions = sym (append-nil _);
  locals = refl;
  layer = refl;
  constexpr = refl;
  low = λ h x e. h x (omega arith);
}
ahead_one (import b p) a = ahead_none a
ahead_one (bad_decl z) a = ahead_none a

-- all of them
pub ahead : (ds : List (Decl Spot)) (a : Analyzer Spot) → Ahead a (V'.in_turn V'.predeclare ds a).1 (flat_map constant_names ds) (flat_map structure_names ds) (flat_map function_names ds)
unfolding V'.in_turn S.◌>>=◌ S.ret flat_map
ahead [] a = ahead_none a
ahead (d ∷ ds) a = ahead_trans (ahead_one d a) (ahead ds (V'.predeclare d a).1)

-- BETWEEN DECLARATIONS

-- these are the constants and structures; no scope is open; constants stand; no goto waits for a label from m on
pub record Settled (cs ss : List ℕ) (m : ℕ) (a : Analyzer Spot) : Type 0 where
  pub orderly : Orderly a
  pub base : ℕ
  pub above : Above base a
  pub low : (x : ℕ) → base ≤ x → is_in x (ids_in a.variable_stack.constants) ≡ false
  pub locals : a.variable_stack.locals ≡ []
  pub constants : names_of a.variable_stack.constants ≡ cs
  pub structs : names_of (structures a.containment.containers) ≡ ss
  pub outside : a.containment.in_constexpr_of_constant ≡ none
  pub unwaited : (l : ℕ) → m ≤ l → waits l a.prunings.unresolved_labels ≡ false

-- with no prunings yet everything stands
no_prunings_lem : (x : ℕ) (s : Prunings Spot) → s ≡ no_prunings → gone_id x s ≡ false
unfolding gone_id is_gone fate fate_by no_prunings first is_in
no_prunings_lem x s e = ap (gone_id x) e

-- after predeclaration
pub settled : (ds : List (Decl Spot)) (m : ℕ) → Settled (flat_map constant_names ds) (flat_map structure_names ds) m (V'.in_turn V'.predeclare ds Q.begin).1
unfolding Q.begin Q.variables Q.last_layer ids_in is_in waits waiting lost_at lost_by no_prunings first is_some names_of structures keep
settled ds m =
    let h = ahead ds Q.begin in
    let e = (l_turn V'.predeclare ds l_predeclare).same Q.begin in
    let a = (V'.in_turn V'.predeclare ds Q.begin).1 in
    let w = h.low (λ x _. refl) in
    let nothing : (x : ℕ) → is_in x (ids_in (Q.last_layer a)) ≡ false = λ x. (let l = h.locals in let k = h.layer in λ t. is_in x (ids_in (drop (k t) (l t)))) in
    record {
      orderly = record {
        fresh = λ x g. record {
          stands = no_prunings_lem x a.prunings e;
          unheld = ap (λ (l : List (Ident Spot)). is_in x (ids_in (a.variable_stack.constants ++ l))) h.locals ∙ ap (λ (l : List (Ident Spot)). is_in x (ids_in l)) (append-nil a.variable_stack.constants) ∙ w x g;
          unkept = λ l. ap (λ (s : Prunings Spot). lost_at l x s.unresolved_labels) e ∙ sym (ap (λ (s : Prunings Spot). waits l s.unresolved_labels) e);
        };
        layer = subst (λ (k : ℕ). k ≤ length a.variable_stack.locals) (sym h.layer) (omega arith);
      };
      base = a.resolution_id;
      above = record { given = omega arith; stand = λ x g. no_prunings_lem x a.prunings e; outer = λ x g. nothing x };
      low = w;
      locals = h.locals;
      constants = h.constants;
      structs = h.structs;
      outside = h.constexpr;
      unwaited = λ l g. ap (λ (s : Prunings Spot). waits l s.unresolved_labels) e;
    }

-- every variable that a search finds there stands
pub found_held : (x : ℕ) (is : List (Ident Spot)) (j : Ident Spot) → first_named x is ≡ some j → is_in j.id (ids_in is) ≡ true
unfolding first_named first ids_in is_in
found_held x [] j h = none_some j h
found_held x (i ∷ is) j h = (elim (eqb i.name x) as (λ b. eqb i.name x ≡ b → is_in j.id (ids_in (i ∷ is)) ≡ true) [
  | true ↦ λ e. (let z : some i ≡ some j = rw (e, first) at h in let y : j ≡ i = cc in let q : eqb j.id i.id ≡ true = eq-eqb j.id i.id (ap (λ (w : Ident Spot). w.id) y) in rw (q, is_in))
  | false ↦ λ e. (elim (eqb j.id i.id) as (λ b. eqb j.id i.id ≡ b → is_in j.id (ids_in (i ∷ is)) ≡ true) [
    | true ↦ λ q. rw (q, is_in)
    | false ↦ λ q. rw (q, is_in) (found_held x is j (rw (e, first) at h))
  ]) refl
]) refl

-- a constant has an id below the base
pub below_base : (base x : ℕ) (is : List (Ident Spot)) → ((y : ℕ) → base ≤ y → is_in y (ids_in is) ≡ false) → is_in x (ids_in is) ≡ true → x < base
below_base base x is h e = (elim (ltb x base) as (λ b. ltb x base ≡ b → x < base) [
  | true ↦ λ z. ltb-true x base z
  | false ↦ λ z. true_false (sym e ∙ h x (ltb-false x base z))
]) refl

-- there every variable stands
pub all_stand : {cs ss : List ℕ} {m : ℕ} {a : Analyzer Spot} → Settled cs ss m a → AllStand a
unfolding Q.variables
all_stand {a = a} s = record { stand = λ x j e. s.above.stand j.id (below_base s.base j.id a.variable_stack.constants s.low (found_held x a.variable_stack.constants j (ap (first_named x) (sym (append-nil _)) ∙ ap (λ (l : List (Ident Spot)). first_named x (a.variable_stack.constants ++ l)) (sym s.locals) ∙ e))) }

-- A DECLARATION

-- steps that leave the stack alone
found_stack : (c : Ident Spot) (m : Option (Ident Spot)) (t : Maybe Spot (Ty Spot)) (a : Analyzer Spot) → (V'.found_maybe c m t a).1.variable_stack ≡ a.variable_stack
unfolding V'.found_maybe Q.on_containment Q.with_containment S.ret
found_stack c m (ok t) a = refl
found_stack c m (err z) a = refl

function_stack : (names : List (List ℕ)) (f : ℕ) (p q : Spot) (ps : List (Param Spot)) (b : Maybe Spot (Body Spot)) (t : Maybe Spot (Ty Spot)) (i : Maybe Spot (Ident Spot)) (a : Analyzer Spot) → (V'.function_of names f p q ps b t i a).1.variable_stack ≡ a.variable_stack
unfolding V'.function_of S.◌>>=◌ S.ret
function_stack names f p q ps b t (ok i) a = (steady_maybe t a).stack
function_stack names f p q ps b t (err z) a = refl

head_stack : (f : ℕ) (p q : Spot) (ps : List (Param Spot)) (t : Maybe Spot (Ty Spot)) (i : Maybe Spot (Ident Spot)) (a : Analyzer Spot) → (V'.function_head_of f p q ps t i a).1.variable_stack ≡ a.variable_stack
unfolding V'.function_head_of S.◌>>=◌ S.ret
head_stack f p q ps t (ok i) a = (steady_maybe t a).stack
head_stack f p q ps t (err z) a = refl

-- it closes the scopes that it opens
decl_stack : (names : List (List ℕ)) (d : Decl Spot) (a : Analyzer Spot) → (V'.analyze_decl names d a).1.variable_stack ≡ a.variable_stack
unfolding V'.analyze_decl S.◌>>=◌ S.ret V'.analyze_constexpr V'.in_constexpr_of Q.with_containment Q.in_new_scope Q.with_stack Q.use_function
decl_stack names (constant f p q i x t) a =
    let a₁ = (V'.analyze_constexpr i x a).1 in
    let a₂ = (V'.analyze_maybe_type t a₁).1 in
    found_stack i none (V'.analyze_maybe_type t a₁).0 a₂ ∙ (steady_maybe t a₁).stack ∙ (steady_node x (V'.in_constexpr_of (some i) a)).stack
decl_stack names (function f p q i ps b t) a = function_stack names f p q _ _ t _ _
decl_stack names (function_head f p q i ps t) a = head_stack f p q _ t _ _
decl_stack names (structure f p i ms t) a = (steady_maybe t _).stack
decl_stack names (import b p) a = refl
decl_stack names (bad_decl z) a = refl

-- what follows a body meets no goto
waits_then : {a b c : Analyzer Spot} {s : Sk} → Waits a b s → c.prunings.unresolved_labels ≡ b.prunings.unresolved_labels → Waits a c s
waits_then w e = record { origin = λ l h. w.origin l (ap (waits l) (sym e) ∙ h) }

-- what waits behind a declaration waited before it, or its body goes there
decl_waits : (names : List (List ℕ)) (d : Decl Spot) (n : Names) (a : Analyzer Spot) → Waits a (V'.analyze_decl names d a).1 (sk (statements_of d) n)
unfolding statements_of V'.analyze_decl V'.analyze_params_and_body V'.analyze_body V'.analyze_in_body V'.analyze_constexpr V'.in_constexpr_of S.◌>>=◌ S.ret Q.use_function Q.in_new_scope Q.with_stack Q.with_containment Q.create_anonymous_resolution_id Q.next_id
decl_waits names (constant f p q i x t) n a =
    let a₁ = (V'.analyze_constexpr i x a).1 in
    let e = (l_bind (l_maybe t) (λ y. l_found i none y)).same a₁ in
    waits_then {b = a₁} (waits_same (steady_node x (V'.in_constexpr_of (some i) a)).waiting) (ap (λ (z : Prunings Spot). z.unresolved_labels) e)
decl_waits names (function f p q i ps (ok b) t) n a =
    let a₁ = (V'.in_turn (V'.analyze_param 5) ps (new_scope a)).1 in
    let a₂ = (V'.analyze_stm b.statements (new_scope a₁)).1 in
    let w : Waits (new_scope a₁) a₂ _ = waits_stm b.statements n (new_scope a₁) in
    let v = (steady_option V'.analyze_node b.value a₂ (λ x. steady_node x a₂)).waiting in
    let e = (l_turn (V'.analyze_param 5) ps (l_param 5)).same (new_scope a) in
    record { origin = λ l h. ⊎_elim (λ x. inl (ap (λ (z : Prunings Spot). waits l z.unresolved_labels) (sym e) ∙ x)) inr (w.origin l (ap (waits l) (sym v) ∙ ap (λ (z : Prunings Spot). waits l z.unresolved_labels) (sym ((l_function_of names f p q _ _ t _).same _)) ∙ h)) }
decl_waits names (function f p q i ps (err z) t) n a = waits_same (ap (λ (y : Prunings Spot). y.unresolved_labels) ((l_bodyless names f p q i ps z t).same a))
decl_waits names (function_head f p q i ps t) n a = waits_same (ap (λ (y : Prunings Spot). y.unresolved_labels) ((l_head names f p q i ps t).same a))
decl_waits names (structure f p i ms t) n a = waits_same (ap (λ (y : Prunings Spot). y.unresolved_labels) ((l_structure names f p i ms t).same a))
decl_waits names (import b p) n a = waits_same refl
decl_waits names (bad_decl z) n a = waits_same refl

-- it leaves the next one what it found
pub settled_decl : {cs ss : List ℕ} {m m' : ℕ} {a : Analyzer Spot} (names : List (List ℕ)) (d : Decl Spot) → OwnLabels m m' (statements_of d) → Settled cs ss m a → Settled cs ss m' (V'.analyze_decl names d a).1
settled_decl {m' = m'} {a} names d o s =
    let g = (g_decl names d).go a in
    let r = o.rise in
    record {
      orderly = g.orderly s.orderly;
      base = s.base;
      above = g.above s.base s.orderly s.above;
      low = λ x h. ap (λ (l : List (Ident Spot)). is_in x (ids_in l)) g.constants ∙ s.low x h;
      locals = ap (λ (z : Q.Scope Spot). z.locals) (decl_stack names d a) ∙ s.locals;
      constants = ap names_of g.constants ∙ s.constants;
      structs = ap names_of g.structs ∙ s.structs;
      outside = g.constexpr s.outside;
      unwaited = λ l h. is_false _ (λ e. ⊎_elim (λ x. true_false (sym x ∙ s.unwaited l (omega arith))) (λ x. let z = o.jumped no_names l x in omega arith) ((decl_waits names d no_names a).origin l e));
    }

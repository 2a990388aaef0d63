-- An expression leaves scopes, waiting labels, structures, functions and the set of what does not stand as they are; what it puts into the list are uses of what does not stand.
use Prim.Native.Nat.{ℕ, zero, suc, ◌≤◌}
use native.Mathlib.Omega.{arith}
use mathlib.Core.Bool.{Bool, true, false, ◌||◌, not}
use mathlib.Core.Path.{◌≡◌, refl, sym, ◌∙◌, ap}
use mathlib.Core.List.{List, [], ◌∷◌, ◌++◌, append_assoc, append-nil}
use mathlib.Core.Option.{Option, none, some}
use lib.Dec.{eqb}
use borrow.Author.Tests.{eqb-true, eqb-false, ne_eqb}
use Rattle.penne.specs.Tree.{Kind, Ident, Maybe, ok, err, Ty, plain, array, array_with_named_length, arraylike, struct, word, unresolved, nameless, pointer, view, Sort, Node, nil, cons, binary, unary, boolean, signed, bits, string, array_literal, structural, parenthesized, deref, bit_cast, type_cast, length_of_array, size_of, function_call, bad_expr, reference, element, member, member_expression}
use Rattle.penne.specs.Find.{first, keep, first_named}
use Rattle.penne.specs.Pruning.{Fate, pruned, poisoned, standing, fate, fate_by, Pruning, Prunings, poison_variable, list_skip}
use Rattle.penne.specs.Containers.{Container, Containment, identifier_of, structures, joined, join_where, added_ids, add_ids, found_container_1}
use Rattle.penne.specs.Scopes.{Analyzer}
use Rattle.penne.specs.State as S
use Rattle.penne.specs.Scopes as Q
use Rattle.penne.specs.Variables as V'
use Rattle.penne.proofs.Booleans.{true_false, or_right}
use Rattle.penne.proofs.Searching.{is_in_here, is_in_past}

-- it does not stand
unfoldable pub is_gone : {P : Type 0} → Fate P → Bool
is_gone (pruned c) = true
is_gone poisoned = true
is_gone standing = false

-- something was found
unfoldable pub is_some : {A : Type 0} → Option A → Bool
is_some none = false
is_some (some x) = true

-- the variable with this id does not stand
unfoldable pub gone_id : {P : Type 0} → ℕ → Prunings P → Bool
gone_id x s = is_gone (fate x s)

-- it does not where it is pruned or poisoned
pub gone_by : {P : Type 0} (o : Option (Pruning P)) (b : Bool) → is_gone (fate_by o b) ≡ (is_some o || b)
unfolding is_gone fate_by is_some
gone_by none true = refl
gone_by none false = refl
gone_by (some c) b = refl

-- it is among the pruned
unfoldable pub has : {P : Type 0} → ℕ → List (Pruning P) → Bool
has x cs = is_some (first (λ c. eqb c.variable x) cs)

-- to take y out does not change whether x is in
has-keep : {P : Type 0} (x y : ℕ) (cs : List (Pruning P)) → eqb x y ≡ false → has x (keep (λ c. not (eqb c.variable y)) cs) ≡ has x cs
unfolding has first keep is_some
has-keep x y [] e = refl
has-keep x y (c ∷ cs) e = (elim (eqb c.variable y) as (λ b. eqb c.variable y ≡ b → has x (keep (λ c. not (eqb c.variable y)) (c ∷ cs)) ≡ has x (c ∷ cs)) [
  | true ↦ λ q. (let z : eqb c.variable x ≡ false = ne_eqb c.variable x (λ w. eqb-false x y e (sym w ∙ eqb-true _ _ q)) in rw (q, z, keep, first, has) (has-keep x y cs e))
  | false ↦ λ q. (elim (eqb c.variable x) as (λ b. eqb c.variable x ≡ b → has x (keep (λ c. not (eqb c.variable y)) (c ∷ cs)) ≡ has x (c ∷ cs)) [
    | true ↦ λ z. rw (q, z, keep, first, has)
    | false ↦ λ z. rw (q, z, keep, first, has) (has-keep x y cs e)
  ]) refl
]) refl

-- what is pruned and then poisoned does not stand before or after; of all others nothing changes
gone_poison : {P : Type 0} (x y : ℕ) (s : Prunings P) → gone_id y s ≡ true → gone_id x (poison_variable y s) ≡ gone_id x s
unfolding gone_id fate poison_variable has
gone_poison x y s h = (elim (eqb x y) as (λ b. eqb x y ≡ b → gone_id x (poison_variable y s) ≡ gone_id x s) [
  | true ↦ λ e. gone_by _ _ ∙ or_right (has x (keep (λ c. not (eqb c.variable y)) s.pruned_variables)) _ (is_in_here x y s.poisoned_variables e) ∙ sym (ap (λ (z : ℕ). gone_id z s) (eqb-true x y e) ∙ h)
  | false ↦ λ e. gone_by _ _ ∙ (let p = has-keep x y s.pruned_variables e in let q = is_in_past x y s.poisoned_variables e in λ t. p t || q t) ∙ sym (gone_by _ _)
]) refl

-- THE STRUCTURES: to join ids to containers leaves their identifiers as they are

-- of one container
structures-joined : {P : Type 0} (b : Bool) (ids : List ℕ) (c : Container P) (cs ds : List (Container P)) → structures cs ≡ structures ds → structures (joined b ids c ∷ cs) ≡ structures (c ∷ ds)
unfolding structures joined keep identifier_of
structures-joined true ids c cs ds e = (elim c.is_structure as (λ b. c.is_structure ≡ b → structures (joined true ids c ∷ cs) ≡ structures (c ∷ ds)) [
  | true ↦ λ h. rw (h, keep) (ap (λ (l : List _). c.identifier ∷ l) e)
  | false ↦ λ h. rw (h, keep) e
]) refl
structures-joined false ids c cs ds e = (elim c.is_structure as (λ b. c.is_structure ≡ b → structures (c ∷ cs) ≡ structures (c ∷ ds)) [
  | true ↦ λ h. rw (h, keep) (ap (λ (l : List _). c.identifier ∷ l) e)
  | false ↦ λ h. rw (h, keep) e
]) refl

structures_join : {P : Type 0} (f : Container P → Bool) (ids : List ℕ) (cs : List (Container P)) → structures (join_where f ids cs) ≡ structures cs
unfolding join_where
structures_join f ids [] = refl
structures_join f ids (c ∷ cs) = structures-joined (f c) ids c (join_where f ids cs) cs (structures_join f ids cs)

-- in found_container_1
structures_added : {P : Type 0} (c : Ident P) (m : Option (Ident P)) (x : Ident P) (ids : List ℕ) (b : Bool) (cs : List (Container P)) → structures (added_ids c m x ids b cs).1 ≡ structures cs
unfolding added_ids
structures_added c m x ids true cs = refl
structures_added c m x ids false cs = structures_join _ ids cs

structures_add : {P : Type 0} (c : Ident P) (m : Option (Ident P)) (x : Ident P) (ids : List ℕ) (b : Bool) (cs : List (Container P)) → structures (add_ids c m x ids b cs).1 ≡ structures cs
unfolding add_ids
structures_add c m x ids true cs = refl
structures_add c m x ids false cs = structures_added c m x ids _ _ ∙ structures_join _ ids cs

-- found_container_1
pub structures_found : {P : Type 0} (c : Ident P) (m : Option (Ident P)) (x : Ident P) (s : Containment P) → structures (found_container_1 c m x s).1.containers ≡ structures s.containers
unfolding found_container_1
structures_found c m x s = structures_add c m x _ _ s.containers

-- STEPS THAT LEAVE MUCH AS IT IS

-- every variable that a search finds stands
pub record AllStand {P : Type 0} (a : Analyzer P) : Type 0 where
  pub stand : (x : ℕ) (j : Ident P) → first_named x (Q.variables a) ≡ some j → gone_id j.id a.prunings ≡ false

-- from a to a' the scopes, the waiting labels, the structures, the functions and the set of what does not stand are the same, ids only rise, and the list only grows; it stays where every variable stands
pub record Steady {P : Type 0} (a a' : Analyzer P) : Type 0 where
  pub stack : a'.variable_stack ≡ a.variable_stack
  pub waiting : a'.prunings.unresolved_labels ≡ a.prunings.unresolved_labels
  pub gone : (x : ℕ) → gone_id x a'.prunings ≡ gone_id x a.prunings
  pub rise : a.resolution_id ≤ a'.resolution_id
  pub structs : structures a'.containment.containers ≡ structures a.containment.containers
  pub constexpr : a'.containment.in_constexpr_of_constant ≡ a.containment.in_constexpr_of_constant
  pub functions : a'.function_list ≡ a.function_list
  pub added : List (P × P)
  pub grows : a'.prunings.skips ≡ a.prunings.skips ++ added
  pub quiet : AllStand a → added ≡ []

-- nothing happens
steady_refl : {P : Type 0} (a : Analyzer P) → Steady a a
steady_refl a = record { stack = refl; waiting = refl; gone = λ x. refl; rise = omega arith; structs = refl; constexpr = refl; functions = refl; added = []; grows = sym (append-nil _); quiet = λ h. refl }

-- afterwards every variable stands that stood
stand_after : {P : Type 0} {a b : Analyzer P} → Steady a b → AllStand a → AllStand b
unfolding Q.variables
stand_after {P} {a} {b} t h = record { stand = λ x j e. t.gone j.id ∙ h.stand x j (ap (λ (s : Q.Scope P). first_named x (s.constants ++ s.locals)) (sym t.stack) ∙ e) }

-- one step after another
pub steady_trans : {P : Type 0} {a b c : Analyzer P} → Steady a b → Steady b c → Steady a c
steady_trans {a = a} p q =
    let r = p.rise in
    let r' = q.rise in
    record {
      stack = q.stack ∙ p.stack;
      waiting = q.waiting ∙ p.waiting;
      gone = λ x. q.gone x ∙ p.gone x;
      rise = omega arith;
      structs = q.structs ∙ p.structs;
      constexpr = q.constexpr ∙ p.constexpr;
      functions = q.functions ∙ p.functions;
      added = p.added ++ q.added;
      grows = q.grows ∙ ap (λ (l : List _). l ++ q.added) p.grows ∙ append_assoc a.prunings.skips p.added q.added;
      quiet = λ h. let e = p.quiet h in let e' = q.quiet (stand_after p h) in λ t. e t ++ e' t;
    }

-- a use of what is found
steady_containee : {P : Type 0} (i : Ident P) (o : Option (Ident P)) (a : Analyzer P) → Steady a (Q.use_containee i o a).1
unfolding Q.use_containee Q.on_containment Q.with_containment S.ret found_container_1
steady_containee i (some c) a = record { stack = refl; waiting = refl; gone = λ x. refl; rise = omega arith; structs = structures_found c none i a.containment; constexpr = refl; functions = refl; added = []; grows = sym (append-nil _); quiet = λ h. refl }
steady_containee i none a = steady_refl a

steady_by : {P : Type 0} (i j : Ident P) (x : Fate P) (a : Analyzer P) → first_named i.name (Q.variables a) ≡ some j → fate j.id a.prunings ≡ x → Steady a (Q.use_variable_by i j x a).1
unfolding Q.use_variable_by Q.with_prunings Q.use_as list_skip is_gone gone_id fate poison_variable
steady_by i j (pruned c) a f e = record { stack = refl; waiting = refl; gone = λ x. gone_poison x j.id a.prunings (ap is_gone e); rise = omega arith; structs = refl; constexpr = refl; functions = refl; added = (i.place, j.place) ∷ []; grows = refl; quiet = λ h. true_false (sym (ap is_gone e) ∙ h.stand i.name j f) }
steady_by i j poisoned a f e = record { stack = refl; waiting = refl; gone = λ x. refl; rise = omega arith; structs = refl; constexpr = refl; functions = refl; added = (i.place, j.place) ∷ []; grows = refl; quiet = λ h. true_false (sym (ap is_gone e) ∙ h.stand i.name j f) }
steady_by i j standing a f e = steady_containee _ _ a

steady_at : {P : Type 0} (i : Ident P) (o : Option (Ident P)) (a : Analyzer P) → first_named i.name (Q.variables a) ≡ o → Steady a (Q.use_variable_at i o a).1
unfolding Q.use_variable_at S.ret
steady_at i none a f = steady_refl a
steady_at i (some j) a f = steady_by i j _ a f refl

-- the base of a reference
pub steady_base : {P : Type 0} (b : Maybe P (Ident P)) (a : Analyzer P) → Steady a (V'.analyze_base b a).1
unfolding V'.analyze_base Q.use_variable S.ret
steady_base (ok i) a = steady_at i _ a refl
steady_base (err z) a = steady_refl a

-- names in types
steady_const : {P : Type 0} (i : Ident P) (o o' : Option (Ident P)) (a : Analyzer P) → Steady a (Q.use_constant_at i o o' a).1
unfolding Q.use_constant_at S.ret Q.use_as
steady_const i (some j) o' a = steady_containee _ _ a
steady_const i none (some j) a = steady_refl a
steady_const i none none a = steady_refl a

steady_struct : {P : Type 0} (i : Ident P) (o : Option (Ident P)) (a : Analyzer P) → Steady a (Q.use_struct_at i o a).1
unfolding Q.use_struct_at S.ret Q.use_as
steady_struct i (some j) a = steady_containee _ _ a
steady_struct i none a = steady_refl a

-- `?`
steady_try : {P A B : Type 0} (m : Q.Pass P (Maybe P A)) (f : A → Q.Pass P (Maybe P B)) (a : Analyzer P) → Steady a (m a).1 → ((x : A) (b : Analyzer P) → Steady b (f x b).1) → Steady a ((S.◌>>?◌ m f) a).1
unfolding S.◌>>?◌ S.◌>>=◌ S.ret S.or_poison
steady_try m f a e h = go (m a).0 (m a).1 e
  where
    go : (r : Maybe _ _) (b : Analyzer _) → Steady a b → Steady a (S.or_poison f r b).1
    go (ok x) b e = steady_trans e (h x b)
    go (err z) b e = e

-- a type
pub steady_type : {P : Type 0} (t : Ty P) (a : Analyzer P) → Steady a (V'.analyze_type t a).1
unfolding V'.analyze_type S.ret Q.use_struct Q.use_constant
steady_type (plain k) a = steady_refl a
steady_type (array t n) a = steady_try _ _ a (steady_type t a) (λ _ b. steady_refl b)
steady_type (array_with_named_length t i) a = steady_try _ _ a (steady_type t a) (λ _ b. steady_try _ _ b (steady_const i _ _ b) (λ _ c. steady_refl c))
steady_type (arraylike k t) a = steady_try _ _ a (steady_type t a) (λ _ b. steady_refl b)
steady_type (struct i) a = steady_try _ _ a (steady_struct i _ a) (λ _ b. steady_refl b)
steady_type (word i n) a = steady_try _ _ a (steady_struct i _ a) (λ _ b. steady_refl b)
steady_type (unresolved i) a = steady_try _ _ a (steady_struct i _ a) (λ _ b. steady_refl b)
steady_type nameless a = steady_refl a
steady_type (pointer t) a = steady_try _ _ a (steady_type t a) (λ _ b. steady_refl b)
steady_type (view t) a = steady_try _ _ a (steady_type t a) (λ _ b. steady_refl b)

-- a cast's operand
steady_cast : {P : Type 0} (p q : P) (m : Q.Pass P (Node P (Sort.one Kind.expr))) → ((a : Analyzer P) → Steady a (m a).1) → (r : Maybe P (Ty P)) (a : Analyzer P) → Steady a (V'.cast_to p q m r a).1
unfolding V'.cast_to S.◌>>=◌ S.ret
steady_cast p q m h (ok t) a = h a
steady_cast p q m h (err z) a = steady_refl a

-- a type that may be poison
pub steady_maybe : {P : Type 0} (t : Maybe P (Ty P)) (a : Analyzer P) → Steady a (V'.analyze_maybe_type t a).1
unfolding V'.analyze_maybe_type S.ret
steady_maybe (ok t) a = steady_type t a
steady_maybe (err z) a = steady_refl a

-- the name of a call
pub steady_called : {P : Type 0} (i : Ident P) (b : ℕ) (a : Analyzer P) → Steady a (V'.use_called i b a).1
unfolding V'.use_called Q.use_function S.ret
steady_called i ℕ.zero a = steady_refl a
steady_called i (suc b) a = steady_refl a

-- an array's elements, in a new scope, and its id
steady_scope : {P : Type 0} {a b : Analyzer P} (m : ℕ) → Steady (Q.with_stack a (record { constants = a.variable_stack.constants; locals = a.variable_stack.locals; layer = m })) b → Steady a (Q.next_id (Q.with_stack b a.variable_stack))
unfolding Q.with_stack Q.next_id Q.variables
steady_scope m p = let r = p.rise in record { stack = refl; waiting = p.waiting; gone = p.gone; rise = omega arith; structs = p.structs; constexpr = p.constexpr; functions = p.functions; added = p.added; grows = p.grows; quiet = λ h. p.quiet (record { stand = h.stand }) }

-- EXPRESSIONS
pub steady_node : {P : Type 0} {s : Sort} (x : Node P s) (a : Analyzer P) → Steady a (V'.analyze_node x a).1
unfolding V'.analyze_node S.◌>>=◌ S.ret Q.in_new_scope Q.create_anonymous_resolution_id
steady_node nil a = steady_refl a
steady_node (cons x xs) a = steady_trans (steady_node x a) (steady_node xs (V'.analyze_node x a).1)
steady_node (binary op p q x y) a = steady_trans (steady_node x a) (steady_node y (V'.analyze_node x a).1)
steady_node (unary op p q x) a = steady_node x a
steady_node (boolean b p) a = steady_refl a
steady_node (signed b p c) a = steady_refl a
steady_node (bits b p c) a = steady_refl a
steady_node (string b p) a = steady_refl a
steady_node (array_literal p c es i) a = steady_scope _ (steady_node es (Q.new_scope a))
steady_node (structural p ms c) a = steady_trans (steady_node ms a) (steady_maybe c (V'.analyze_node ms a).1)
steady_node (parenthesized p x) a = steady_node x a
steady_node (deref c r) a = steady_node r a
steady_node (bit_cast p q c x) a = steady_node x a
steady_node (type_cast p q t x) a = steady_trans (steady_type t a) (steady_cast p q (V'.analyze_node x) (steady_node x) (V'.analyze_type t a).0 (V'.analyze_type t a).1)
steady_node (length_of_array p r) a = steady_node r a
steady_node (size_of p t) a = steady_type t a
steady_node (function_call i b c es) a = steady_trans (steady_node es a) (steady_called i b (V'.analyze_node es a).1)
steady_node (bad_expr z) a = steady_refl a
steady_node (reference d p q b ts) a = steady_trans (steady_base b a) (steady_node ts (V'.analyze_base b a).1)
steady_node (element n x) a = steady_node x a
steady_node (member i o) a = steady_refl a
steady_node (member_expression i o x) a = steady_node x a

-- what may be absent
pub steady_option : {P A : Type 0} (f : A → Q.Pass P A) (o : Option A) (a : Analyzer P) → ((x : A) → Steady a (f x a).1) → Steady a (V'.analyze_option f o a).1
unfolding V'.analyze_option S.◌>>=◌ S.ret
steady_option f none a h = steady_refl a
steady_option f (some x) a h = h x

-- What every step of the second pass keeps: the list only grows, ids rise, what was never given out is nowhere, outer scopes stay. With it demand 3's `whole`: the list is its parts in turn.
use Prim.Native.Nat.{ℕ, zero, suc, ◌<◌, ◌≤◌}
use mathlib.Core.Bool.{Bool, true, false, ◌&&◌, ◌||◌, not}
use mathlib.Core.Path.{◌≡◌, refl, sym, ◌∙◌, ap, subst}
use mathlib.Core.List.{List, [], ◌∷◌, ◌++◌, append_assoc, append-nil, flat_map}
use mathlib.Core.Option.{Option, none, some}
use native.Mathlib.Omega.{arith}
use lib.ListN.{length, drop, length-append}
use lib.Seq.{drop-append_seam}
use lib.Dec.{eqb}
use borrow.Author.Tests.{ne_eqb}
use Rattle.penne.specs.Tree.{Ident, Maybe, ok, err, Ty, plain, array, array_with_named_length, arraylike, struct, word, unresolved, nameless, pointer, view, Expr, StmSort, Stm, nil', cons', declaration, assignment, method_call, loop, goto, label, if_else, block, bad_stmt, no_else, or_else, Param, Body, Decl, constant, function, function_head, structure, import, bad_decl, Sort, Node}
use Rattle.penne.specs.Find.{is_in, resolved}
use Rattle.penne.specs.Pruning.{UnresolvedPruning}
use Rattle.penne.specs.Containers.{Containment, structures, found_container_1, found_container}
use Rattle.penne.specs.Scopes.{Analyzer, new_scope}
use Rattle.penne.specs.Walks.{parts, parts_of}
use Rattle.penne.specs.State as S
use Rattle.penne.specs.Pruning as R
use Rattle.penne.specs.Scopes as Q
use Rattle.penne.specs.Variables as V'
use Rattle.penne.proofs.Booleans.{true_false, one_zero, or_with}
use Rattle.penne.proofs.Steady.{gone_id, structures_found, Steady, steady_node, steady_maybe, steady_called}
use Rattle.penne.proofs.Leaves.{l_turn, l_predeclare}
use Rattle.penne.proofs.Waiting.{ids_in, lost_at, waits, is_in_last, lost_meet, waits_meet, gone_label, kept_label}

-- ORDER

-- an id that was not given out yet is nowhere
pub record Fresh {P : Type 0} (a : Analyzer P) (x : ℕ) : Type 0 where
  pub stands : gone_id x a.prunings ≡ false
  pub unheld : is_in x (ids_in (Q.variables a)) ≡ false
  pub unkept : (l : ℕ) → lost_at l x a.prunings.unresolved_labels ≡ waits l a.prunings.unresolved_labels

-- so with all of them; and the last layer begins in the stack
pub record Orderly {P : Type 0} (a : Analyzer P) : Type 0 where
  pub fresh : (x : ℕ) → a.resolution_id ≤ x → Fresh a x
  pub layer : a.variable_stack.layer ≤ length a.variable_stack.locals

-- the ids below `base` stand, and are not in the last layer
pub record Above {P : Type 0} (base : ℕ) (a : Analyzer P) : Type 0 where
  pub given : base ≤ a.resolution_id
  pub stand : (x : ℕ) → x < base → gone_id x a.prunings ≡ false
  pub outer : (x : ℕ) → x < base → is_in x (ids_in (Q.last_layer a)) ≡ false

-- what every step of the pass keeps, in a scope that it leaves open
pub record Grow {P : Type 0} (a a' : Analyzer P) : Type 0 where
  pub added : List (P × P)
  pub grows : a'.prunings.skips ≡ a.prunings.skips ++ added
  pub rise : a.resolution_id ≤ a'.resolution_id
  pub structs : structures a'.containment.containers ≡ structures a.containment.containers
  pub constexpr : a.containment.in_constexpr_of_constant ≡ none → a'.containment.in_constexpr_of_constant ≡ none
  pub functions : a'.function_list ≡ a.function_list
  pub constants : a'.variable_stack.constants ≡ a.variable_stack.constants
  pub pushed : List (Ident P)
  pub locals : a'.variable_stack.locals ≡ a.variable_stack.locals ++ pushed
  pub layer : a'.variable_stack.layer ≡ a.variable_stack.layer
  pub above : (base : ℕ) → Orderly a → Above base a → Above base a'
  pub orderly : Orderly a → Orderly a'

-- so it is with a step from every state
pub record Grows {P A : Type 0} (m : Q.Pass P A) : Type 0 where
  pub go : (a : Analyzer P) → Grow a (m a).1

-- nothing happens
grow_refl : {P : Type 0} (a : Analyzer P) → Grow a a
grow_refl a = record { added = []; grows = sym (append-nil _); rise = omega arith; structs = refl; constexpr = λ e. e; functions = refl; constants = refl; pushed = []; locals = sym (append-nil _); layer = refl; orderly = λ o. o; above = λ base o h. h }

-- one step after another
grow_trans : {P : Type 0} {a b c : Analyzer P} → Grow a b → Grow b c → Grow a c
grow_trans {a = a} p q =
    let r = p.rise in
    let r' = q.rise in
    record {
      added = p.added ++ q.added;
      grows = q.grows ∙ ap (λ (l : List _). l ++ q.added) p.grows ∙ append_assoc a.prunings.skips p.added q.added;
      rise = omega arith;
      structs = q.structs ∙ p.structs;
      constexpr = λ e. q.constexpr (p.constexpr e);
      functions = q.functions ∙ p.functions;
      constants = q.constants ∙ p.constants;
      pushed = p.pushed ++ q.pushed;
      locals = q.locals ∙ ap (λ (l : List _). l ++ q.pushed) p.locals ∙ append_assoc a.variable_stack.locals p.pushed q.pushed;
      layer = q.layer ∙ p.layer;
      orderly = λ o. q.orderly (p.orderly o);
      above = λ base o h. q.above base (p.orderly o) (p.above base o h);
    }

-- a step that leaves stack, waiting labels and what stands as they are
pub grow_steady : {P : Type 0} {a b : Analyzer P} → Steady a b → Grow a b
unfolding Q.variables Q.last_layer
grow_steady {P} {a} {b} t =
    let r = t.rise in
    record {
      added = t.added;
      grows = t.grows;
      rise = r;
      structs = t.structs;
      constexpr = λ e. t.constexpr ∙ e;
      functions = t.functions;
      constants = ap (λ (z : Q.Scope P). z.constants) t.stack;
      pushed = [];
      locals = ap (λ (z : Q.Scope P). z.locals) t.stack ∙ sym (append-nil _);
      layer = ap (λ (z : Q.Scope P). z.layer) t.stack;
      orderly = λ o. record {
        fresh = λ x h. let u = o.fresh x (omega arith) in record {
          stands = t.gone x ∙ u.stands;
          unheld = ap (λ (z : Q.Scope P). is_in x (ids_in (z.constants ++ z.locals))) t.stack ∙ u.unheld;
          unkept = λ l. ap (lost_at l x) t.waiting ∙ u.unkept l ∙ sym (ap (waits l) t.waiting);
        };
        layer = subst (λ (z : Q.Scope P). z.layer ≤ length z.locals) (sym t.stack) o.layer;
      };
      above = λ base o h. let g = h.given in record {
        given = omega arith;
        stand = λ x e. t.gone x ∙ h.stand x e;
        outer = λ x e. ap (λ (z : Q.Scope P). is_in x (ids_in (drop z.layer z.locals))) t.stack ∙ h.outer x e;
      };
    }

-- a step on the containers alone
grow_containers : {P : Type 0} {a b : Analyzer P} → b.variable_stack ≡ a.variable_stack → b.prunings ≡ a.prunings → b.resolution_id ≡ a.resolution_id → structures b.containment.containers ≡ structures a.containment.containers → b.containment.in_constexpr_of_constant ≡ a.containment.in_constexpr_of_constant → b.function_list ≡ a.function_list → Grow a b
grow_containers {P} {a} {b} e f g h k y = grow_steady (record { stack = e; waiting = ap (λ (s : R.Prunings P). s.unresolved_labels) f; gone = λ x. ap (gone_id x) f; rise = omega arith; structs = h; constexpr = k; functions = y; added = []; grows = ap (λ (s : R.Prunings P). s.skips) f ∙ sym (append-nil _); quiet = λ h. refl })

-- steps that are made of such steps
g_ret : {P A : Type 0} (x : A) → Grows {P = P} (S.ret x)
unfolding S.ret
g_ret x = record { go = λ a. grow_refl a }

g_bind : {P A B : Type 0} {m : Q.Pass P A} {f : A → Q.Pass P B} → Grows m → ((x : A) → Grows (f x)) → Grows (S.◌>>=◌ m f)
unfolding S.◌>>=◌
g_bind {m = m} p q = record { go = λ a. grow_trans (p.go a) ((q (m a).0).go (m a).1) }

-- SCOPES

-- behind its last entry a list has none
pub drop_all : {A : Type 0} (xs : List A) → drop (length xs) xs ≡ []
drop_all [] = refl
drop_all (x ∷ xs) = drop_all xs

-- nothing is in it
pub empty_layer : {P : Type 0} (x : ℕ) (a : Analyzer P) → is_in x (ids_in (Q.last_layer (new_scope a))) ≡ false
unfolding Q.last_layer Q.with_stack ids_in is_in
empty_layer {P} x a = ap (λ (l : List (Ident P)). is_in x (ids_in l)) (drop_all a.variable_stack.locals)

-- ids are in order there, and again behind it
pub orderly_scope : {P : Type 0} (a : Analyzer P) → Orderly a → Orderly (new_scope a)
unfolding Q.with_stack Q.variables
orderly_scope a o = record { fresh = λ x h. let u = o.fresh x h in record { stands = u.stands; unheld = u.unheld; unkept = u.unkept }; layer = omega arith }

pub orderly_back : {P : Type 0} (a b : Analyzer P) → Orderly a → a.resolution_id ≤ b.resolution_id → Orderly b → Orderly (Q.with_stack b a.variable_stack)
unfolding Q.with_stack Q.variables
orderly_back a b o r q = record { fresh = λ x h. let u = o.fresh x (omega arith) in let v = q.fresh x h in record { stands = v.stands; unheld = u.unheld; unkept = v.unkept }; layer = o.layer }

above_scope : {P : Type 0} (base : ℕ) (a : Analyzer P) → Above base a → Above base (new_scope a)
unfolding Q.with_stack
above_scope base a h = record { given = h.given; stand = h.stand; outer = λ x e. empty_layer x a }

-- a step in a new scope
g_scope : {P A : Type 0} {m : Q.Pass P A} → Grows m → Grows (Q.in_new_scope m)
unfolding Q.in_new_scope Q.with_stack Q.last_layer
g_scope {P} {A} {m} p = record { go = go }
  where
    go : (a : Analyzer P) → Grow a (Q.in_new_scope m a).1
    go a =
        let g = p.go (new_scope a) in
        let r = g.rise in
        record {
          added = g.added;
          grows = g.grows;
          rise = r;
          structs = g.structs;
          constexpr = g.constexpr;
          functions = g.functions;
          constants = refl;
          pushed = [];
          locals = sym (append-nil _);
          layer = refl;
          orderly = λ o. orderly_back a (m (new_scope a)).1 o r (g.orderly (orderly_scope a o));
          above = λ base o h. let u = g.above base (orderly_scope a o) (above_scope base a h) in record { given = u.given; stand = u.stand; outer = h.outer };
        }

-- expressions, types, names of calls
g_node : {P : Type 0} {s : Sort} (x : Node P s) → Grows (V'.analyze_node x)
g_node x = record { go = λ a. grow_steady (steady_node x a) }

g_maybe : {P : Type 0} (t : Maybe P (Ty P)) → Grows (V'.analyze_maybe_type t)
g_maybe t = record { go = λ a. grow_steady (steady_maybe t a) }

g_called : {P : Type 0} (i : Ident P) (b : ℕ) → Grows (V'.use_called i b)
g_called i b = record { go = λ a. grow_steady (steady_called i b a) }

g_option : {P A : Type 0} (f : A → Q.Pass P A) (o : Option A) → ((x : A) → Grows (f x)) → Grows (V'.analyze_option f o)
unfolding V'.analyze_option
g_option f none h = g_ret none
g_option f (some x) h = g_bind (h x) (λ y. g_ret (some y))

-- DECLARING, GOTOS, LABELS

-- ids of one more
ids_last : {P : Type 0} (is : List (Ident P)) (i : Ident P) → ids_in (is ++ (i ∷ [])) ≡ ids_in is ++ (i.id ∷ [])
unfolding ids_in
ids_last [] i = refl
ids_last (j ∷ is) i = ap (λ (l : List ℕ). j.id ∷ l) (ids_last is i)

drop_last : {A : Type 0} (m : ℕ) (xs : List A) (x : A) → m ≤ length xs → drop m (xs ++ (x ∷ [])) ≡ drop m xs ++ (x ∷ [])
drop_last zero xs x h = refl
drop_last (suc m) [] x h = one_zero (omega arith)
drop_last (suc m) (y ∷ xs) x h = drop_last m xs x (omega arith)

-- one more variable
pub in_last : {P : Type 0} (x : ℕ) (is : List (Ident P)) (i : Ident P) → is_in x (ids_in (is ++ (i ∷ []))) ≡ (is_in x (ids_in is) || eqb x i.id)
in_last x is i = ap (is_in x) (ids_last is i) ∙ is_in_last x i.id (ids_in is)

-- one more in the last layer
pub in_layer : {P : Type 0} (x m : ℕ) (is : List (Ident P)) (i : Ident P) → m ≤ length is → is_in x (ids_in (drop m (is ++ (i ∷ [])))) ≡ (is_in x (ids_in (drop m is)) || eqb x i.id)
in_layer {P} x m is i h = ap (λ (l : List (Ident P)). is_in x (ids_in l)) (drop_last m is i h) ∙ in_last x (drop m is) i

-- declare_variable and its like
pub g_declare : {P : Type 0} (k : ℕ) (i : Ident P) → Grows (Q.declare_variable k i)
unfolding Q.declare_variable Q.next_id Q.with_stack Q.push_variable Q.authoritative Q.variables Q.last_layer resolved
g_declare {P} k i = record { go = go }
  where
    go : (a : Analyzer P) → Grow a (Q.declare_variable k i a).1
    go a =
        let new = Q.authoritative a i in
        let is = a.variable_stack.locals in
        record {
          added = [];
          grows = sym (append-nil _);
          rise = omega arith;
          structs = refl;
          constexpr = λ e. e;
          functions = refl;
          constants = refl;
          pushed = new ∷ [];
          locals = refl;
          layer = refl;
          orderly = λ o. record {
            fresh = λ x h. let u = o.fresh x (omega arith) in record {
              stands = u.stands;
              unheld = ap (λ (l : List (Ident P)). is_in x (ids_in l)) (sym (append_assoc a.variable_stack.constants is (new ∷ []))) ∙ in_last x (Q.variables a) new ∙ or_with _ _ (ne_eqb x a.resolution_id (λ e. omega arith)) ∙ u.unheld;
              unkept = u.unkept;
            };
            layer = let h = o.layer in omega (arith, length-append is (new ∷ []));
          };
          above = λ base o h. let g = h.given in record {
            given = omega arith;
            stand = h.stand;
            outer = λ x e. in_layer x a.variable_stack.layer is new o.layer ∙ or_with _ _ (ne_eqb x a.resolution_id (λ e'. omega arith)) ∙ h.outer x e;
          };
        }

-- prepare_to_prune_at_goto
pub g_goto : {P : Type 0} (i : Ident P) (p : P) → Grows (Q.prepare_to_prune_at_goto i p)
unfolding Q.prepare_to_prune_at_goto Q.with_prunings R.prepare_to_prune_at_goto Q.variables Q.last_layer ids_in gone_id R.fate
g_goto {P} i p = record { go = go }
  where
    go : (a : Analyzer P) → Grow a (Q.prepare_to_prune_at_goto i p a).1
    go a =
        let us = a.prunings.unresolved_labels in
        let here = ids_in (Q.variables a) in
        record {
          added = [];
          grows = sym (append-nil _);
          rise = omega arith;
          structs = refl;
          constexpr = λ e. e;
          functions = refl;
          constants = refl;
          pushed = [];
          locals = sym (append-nil _);
          layer = refl;
          orderly = λ o. record {
            fresh = λ x h. let u = o.fresh x h in record { stands = u.stands; unheld = u.unheld; unkept = λ l. lost_meet l x i.id here p us ∙ ap (λ (c : Bool). lost_at l x us || (not c && eqb l i.id)) u.unheld ∙ ap (λ (c : Bool). c || eqb l i.id) (u.unkept l) ∙ sym (waits_meet l i.id here p us) };
            layer = o.layer;
          };
          above = λ base o h. record { given = h.given; stand = h.stand; outer = h.outer };
        }

-- what is in no layer is not in the last one
not_dropped : {P : Type 0} (x m : ℕ) (is : List (Ident P)) → is_in x (ids_in is) ≡ false → is_in x (ids_in (drop m is)) ≡ false
unfolding ids_in is_in
not_dropped x zero is e = e
not_dropped x (suc m) [] e = e
not_dropped x (suc m) (i ∷ is) e = (elim (eqb x i.id) as (λ b. eqb x i.id ≡ b → is_in x (ids_in (drop m is)) ≡ false) [
  | true ↦ λ g. true_false (rw (g, is_in) at e)
  | false ↦ λ g. not_dropped x m is (rw (g, is_in) at e)
]) refl

not_behind : {P : Type 0} (x : ℕ) (is js : List (Ident P)) → is_in x (ids_in (is ++ js)) ≡ false → is_in x (ids_in js) ≡ false
unfolding ids_in is_in
not_behind x [] js e = e
not_behind x (i ∷ is) js e = (elim (eqb x i.id) as (λ b. eqb x i.id ≡ b → is_in x (ids_in js) ≡ false) [
  | true ↦ λ g. true_false (rw (g, is_in) at e)
  | false ↦ λ g. not_behind x is js (rw (g, is_in) at e)
]) refl

unlayered : {P : Type 0} (x : ℕ) (a : Analyzer P) → is_in x (ids_in (Q.variables a)) ≡ false → is_in x (ids_in (Q.last_layer a)) ≡ false
unfolding Q.variables Q.last_layer
unlayered x a e = not_dropped x a.variable_stack.layer a.variable_stack.locals (not_behind x a.variable_stack.constants a.variable_stack.locals e)

-- prune_at_label puts nothing into the list
by_skips : {P : Type 0} (l : Ident P) (is : List (Ident P)) (o : Option (UnresolvedPruning P)) (s : R.Prunings P) → (R.prune_by l is o s).skips ≡ s.skips
unfolding R.prune_by
by_skips l is none s = refl
by_skips l is (some u) s = refl

pub label_skips : {P : Type 0} (l : Ident P) (is : List (Ident P)) (s : R.Prunings P) → (R.prune_at_label l is s).skips ≡ s.skips
unfolding R.prune_at_label
label_skips l is s = by_skips l is _ s

-- at a label what is in no last layer stands on
pub stands_on : {P : Type 0} (x : ℕ) (l : Ident P) (is : List (Ident P)) (s : R.Prunings P) → gone_id x s ≡ false → is_in x (ids_in is) ≡ false → gone_id x (R.prune_at_label l is s) ≡ false
stands_on x l is s e f = gone_label x l is s ∙ (λ t. e t || (f t && lost_at l.id x s.unresolved_labels))

-- prune_at_label
pub g_label : {P : Type 0} (i : Ident P) → Grows (Q.prune_at_label i)
unfolding Q.prune_at_label Q.with_prunings Q.variables Q.last_layer
g_label {P} i = record { go = go }
  where
    go : (a : Analyzer P) → Grow a (Q.prune_at_label i a).1
    go a = record {
      added = [];
      grows = label_skips i _ a.prunings ∙ sym (append-nil _);
      rise = omega arith;
      structs = refl;
      constexpr = λ e. e;
      functions = refl;
      constants = refl;
      pushed = [];
      locals = sym (append-nil _);
      layer = refl;
      above = λ base o h. record { given = h.given; stand = λ x e. stands_on x i _ a.prunings (h.stand x e) (h.outer x e); outer = h.outer };
      orderly = λ o. record {
        fresh = λ x h. let u = o.fresh x h in record { stands = stands_on x i _ a.prunings u.stands (unlayered x a u.unheld); unheld = u.unheld; unkept = kept_label x i _ a.prunings u.unkept };
        layer = o.layer;
      };
    }

-- STATEMENTS AND DECLARATIONS

-- statements
pub g_stm : {P : Type 0} {s : StmSort} (t : Stm P s) → Grows (V'.analyze_stm t)
unfolding V'.analyze_stm
g_stm nil' = g_ret _
g_stm (cons' t ts) = g_bind (g_stm t) (λ x. g_bind (g_stm ts) (λ y. g_ret _))
g_stm (declaration p v t i) = g_bind (g_option _ v g_node) (λ x. g_bind (g_option _ t g_maybe) (λ y. g_bind (g_declare 4 i) (λ z. g_ret _)))
g_stm (assignment p v r) = g_bind (g_node v) (λ x. g_bind (g_node r) (λ y. g_ret _))
g_stm (method_call i b es) = g_bind (g_node es) (λ x. g_bind (g_called i b) (λ y. g_ret _))
g_stm (loop p) = g_ret _
g_stm (goto i p) = g_bind (g_goto i p) (λ x. g_ret _)
g_stm (label i p) = g_bind (g_label i) (λ x. g_ret _)
g_stm (if_else p op q r x y t e) = g_bind (g_node x) (λ x. g_bind (g_node y) (λ y. g_bind (g_stm t) (λ t. g_bind (g_stm e) (λ e. g_ret _))))
g_stm (block p ts) = g_bind (g_scope (g_stm ts)) (λ x. g_ret _)
g_stm (bad_stmt z) = g_ret _
g_stm no_else = g_ret _
g_stm (or_else p t) = g_bind (g_stm t) (λ x. g_ret _)

-- one after the other
g_turn : {P A : Type 0} (f : A → Q.Pass P A) (xs : List A) → ((x : A) → Grows (f x)) → Grows (V'.in_turn f xs)
unfolding V'.in_turn
g_turn f [] h = g_ret []
g_turn f (x ∷ xs) h = g_bind (h x) (λ y. g_bind (g_turn f xs h) (λ ys. g_ret (y ∷ ys)))

g_id : {P : Type 0} → Grows {P = P} Q.create_anonymous_resolution_id
unfolding Q.create_anonymous_resolution_id Q.next_id Q.variables Q.last_layer
g_id {P} = record { go = go }
  where
    go : (a : Analyzer P) → Grow a (Q.next_id a)
    go a = grow_steady (record { stack = refl; waiting = refl; gone = λ x. refl; rise = omega arith; structs = refl; constexpr = refl; functions = refl; added = []; grows = sym (append-nil _); quiet = λ h. refl })

g_inside : {P : Type 0} (b : Body P) → Grows (V'.analyze_in_body b)
unfolding V'.analyze_in_body
g_inside b = g_bind (g_stm b.statements) (λ x. g_bind (g_option _ b.value g_node) (λ y. g_ret _))

-- bodies and parameters
g_body : {P : Type 0} (b : Maybe P (Body P)) → Grows (V'.analyze_body b)
unfolding V'.analyze_body
g_body (ok b) = g_bind (g_scope (g_inside b)) (λ x. g_bind g_id (λ y. g_ret _))
g_body (err z) = g_ret _

g_declare_maybe : {P : Type 0} (k : ℕ) (i : Maybe P (Ident P)) → Grows (V'.declare_maybe k i)
unfolding V'.declare_maybe
g_declare_maybe k (ok i) = g_declare k i
g_declare_maybe k (err z) = g_ret _

g_param : {P : Type 0} (k : ℕ) (x : Param P) → Grows (V'.analyze_param k x)
unfolding V'.analyze_param
g_param k x = g_bind (g_declare_maybe k x.ident) (λ i. g_bind (g_maybe x.type) (λ t. g_ret _))

-- found_container leaves the structures and in_constexpr_of_constant as they are
record Contained {P A : Type 0} (r : A × Containment P) (s : Containment P) : Type 0 where
  structs : structures r.1.containers ≡ structures s.containers
  constexpr : r.1.in_constexpr_of_constant ≡ s.in_constexpr_of_constant

-- steps on the containers
contained_ret : {P A : Type 0} (x : A) (s : Containment P) → Contained (S.ret x s) s
unfolding S.ret
contained_ret x s = record { structs = refl; constexpr = refl }

contained_one : {P : Type 0} (c : Ident P) (m : Option (Ident P)) (x : Ident P) (s : Containment P) → Contained (found_container_1 c m x s) s
unfolding found_container_1
contained_one c m x s = record { structs = structures_found c m x s; constexpr = refl }

contained_try : {P A B : Type 0} (m : S.State (Containment P) (Maybe P A)) (f : A → S.State (Containment P) (Maybe P B)) (s : Containment P) → Contained (m s) s → ((x : A) (t : Containment P) → Contained (f x t) t) → Contained ((S.◌>>?◌ m f) s) s
unfolding S.◌>>?◌ S.◌>>=◌ S.ret S.or_poison
contained_try {P} {A} {B} m f s p h = go (m s).0 (m s).1 p.structs p.constexpr
  where
    go : (r : Maybe P A) (t : Containment P) → structures t.containers ≡ structures s.containers → t.in_constexpr_of_constant ≡ s.in_constexpr_of_constant → Contained (S.or_poison f r t) s
    go (ok x) t e g = record { structs = (h x t).structs ∙ e; constexpr = (h x t).constexpr ∙ g }
    go (err z) t e g = record { structs = e; constexpr = g }

contained : {P : Type 0} (c : Ident P) (m : Option (Ident P)) (t : Ty P) (s : Containment P) → Contained (found_container c m t s) s
unfolding found_container
contained c m (plain k) s = contained_ret _ s
contained c m (array t n) s = contained_try _ _ s (contained c m t s) (λ x u. contained_ret _ u)
contained c m (array_with_named_length t i) s = contained_try _ _ s (contained c m t s) (λ x u. contained_try _ _ u (contained_one c m i u) (λ y v. contained_ret _ v))
contained c m (arraylike k t) s = contained_try _ _ s (contained c m t s) (λ x u. contained_ret _ u)
contained c m (struct i) s = contained_try _ _ s (contained_one c m i s) (λ x u. contained_ret _ u)
contained c m (word i n) s = contained_try _ _ s (contained_one c m i s) (λ x u. contained_ret _ u)
contained c m (unresolved i) s = contained_try _ _ s (contained_one c m i s) (λ x u. contained_ret _ u)
contained c m nameless s = contained_ret _ s
contained c m (pointer t) s = contained_ret _ s
contained c m (view t) s = contained_ret _ s

-- found_container
g_found : {P : Type 0} (c : Ident P) (m : Option (Ident P)) (t : Maybe P (Ty P)) → Grows (V'.found_maybe c m t)
unfolding V'.found_maybe Q.on_containment Q.with_containment
g_found c m (ok t) = record { go = λ a. let u = contained c m t a.containment in grow_containers refl refl refl u.structs u.constexpr refl }
g_found c m (err z) = g_ret _

g_edges : {P : Type 0} (c : Ident P) (i : Maybe P (Ident P)) (t : Maybe P (Ty P)) → Grows (V'.analyze_wellfoundedness c i t)
unfolding V'.analyze_wellfoundedness
g_edges c (ok i) t = g_found c (some i) t
g_edges c (err z) t = g_ret _

g_member : {P : Type 0} (c : Ident P) (x : Param P) → Grows (V'.analyze_member c x)
unfolding V'.analyze_member
g_member c x = g_bind (g_param 6 x) (λ m. g_bind (g_edges c m.ident m.type) (λ t. g_ret _))

-- a constant's value
g_constexpr : {P : Type 0} (i : Ident P) (x : Expr P) → Grows (V'.analyze_constexpr i x)
unfolding V'.analyze_constexpr V'.in_constexpr_of Q.with_containment Q.variables Q.last_layer
g_constexpr {P} i x = record { go = go }
  where
    go : (a : Analyzer P) → Grow a (V'.analyze_constexpr i x a).1
    go a =
        let g = (g_node x).go (V'.in_constexpr_of (some i) a) in
        record {
          added = g.added;
          grows = g.grows;
          rise = g.rise;
          structs = g.structs;
          constexpr = λ e. refl;
          functions = g.functions;
          constants = g.constants;
          pushed = g.pushed;
          locals = g.locals;
          layer = g.layer;
          orderly = λ o. fine (g.orderly (back o));
          above = λ base o h. let u = g.above base (back o) (record { given = h.given; stand = h.stand; outer = h.outer }) in record { given = u.given; stand = u.stand; outer = u.outer };
        }
      where
        back : Orderly a → Orderly (V'.in_constexpr_of (some i) a)
        back o = record { fresh = λ y h. let u = o.fresh y h in record { stands = u.stands; unheld = u.unheld; unkept = u.unkept }; layer = o.layer }

        fine : Orderly (V'.analyze_node x (V'.in_constexpr_of (some i) a)).1 → Orderly (V'.analyze_constexpr i x a).1
        fine o = record { fresh = λ y h. let u = o.fresh y h in record { stands = u.stands; unheld = u.unheld; unkept = u.unkept }; layer = o.layer }

-- functions
g_fn : {P : Type 0} (i : Ident P) → Grows (Q.use_function i)
unfolding Q.use_function
g_fn i = record { go = λ a. grow_refl a }

g_function_of : {P : Type 0} (names : List (List ℕ)) (f : ℕ) (p q : P) (ps : List (Param P)) (b : Maybe P (Body P)) (t : Maybe P (Ty P)) (i : Maybe P (Ident P)) → Grows (V'.function_of names f p q ps b t i)
unfolding V'.function_of
g_function_of names f p q ps b t (ok i) = g_bind (g_maybe t) (λ x. g_ret _)
g_function_of names f p q ps b t (err z) = g_ret _

g_head_of : {P : Type 0} (f : ℕ) (p q : P) (ps : List (Param P)) (t : Maybe P (Ty P)) (i : Maybe P (Ident P)) → Grows (V'.function_head_of f p q ps t i)
unfolding V'.function_head_of
g_head_of f p q ps t (ok i) = g_bind (g_maybe t) (λ x. g_ret _)
g_head_of f p q ps t (err z) = g_ret _

g_inner : {P : Type 0} (ps : List (Param P)) (b : Maybe P (Body P)) → Grows (V'.analyze_params_and_body ps b)
unfolding V'.analyze_params_and_body
g_inner ps b = g_bind (g_turn _ ps (g_param 5)) (λ x. g_bind (g_body b) (λ y. g_ret _))

-- declarations
pub g_decl : {P : Type 0} (names : List (List ℕ)) (d : Decl P) → Grows (V'.analyze_decl names d)
unfolding V'.analyze_decl
g_decl names (constant f p q i x t) = g_bind (g_constexpr i x) (λ x. g_bind (g_maybe t) (λ y. g_bind (g_found i none y) (λ z. g_ret _)))
g_decl names (function f p q i ps b t) = g_bind (g_fn i) (λ i. g_bind (g_scope (g_inner ps b)) (λ r. g_function_of names f p q r.0 r.1 t i))
g_decl names (function_head f p q i ps t) = g_bind (g_fn i) (λ i. g_bind (g_scope (g_turn _ ps (g_param 5))) (λ r. g_head_of f p q r t i))
g_decl names (structure f p i ms t) = g_bind (g_scope (g_turn _ ms (g_member i))) (λ x. g_bind (g_maybe t) (λ y. g_ret _))
g_decl names (import b p) = g_ret _
g_decl names (bad_decl z) = g_ret _

-- the list after all declarations is the list before, and the parts
parts_whole : {P : Type 0} (names : List (List ℕ)) (ds : List (Decl P)) (a : Analyzer P) → (V'.in_turn (V'.analyze_decl names) ds a).1.prunings.skips ≡ a.prunings.skips ++ flat_map (λ part. part) (parts names ds a)
unfolding V'.in_turn parts flat_map S.◌>>=◌ S.ret
parts_whole names [] a = sym (append-nil _)
parts_whole names (d ∷ ds) a =
    let g = (g_decl names d).go a in
    let e : drop (length a.prunings.skips) (V'.analyze_decl names d a).1.prunings.skips ≡ g.added = ap (drop (length a.prunings.skips)) g.grows ∙ drop-append_seam a.prunings.skips g.added in
    let h = g.grows ∙ ap (λ (l : List _). a.prunings.skips ++ l) (sym e) in
    parts_whole names ds (V'.analyze_decl names d a).1 ∙ ap (λ (l : List _). l ++ flat_map (λ part. part) (parts names ds (V'.analyze_decl names d a).1)) h ∙ append_assoc a.prunings.skips _ _

-- DEMAND 3's `whole`
pub whole : {P : Type 0} (names : List (List ℕ)) (ds : List (Decl P)) → (V'.analyze_all names ds Q.begin).1.prunings.skips ≡ flat_map (λ part. part) (parts_of names ds)
unfolding V'.analyze_all parts_of S.◌>>=◌ Q.begin R.no_prunings
whole {P} names ds = parts_whole names (V'.in_turn V'.predeclare ds Q.begin).0 (V'.in_turn V'.predeclare ds Q.begin).1 ∙ ap (λ (s : R.Prunings P). s.skips ++ flat_map (λ part. part) (parts_of names ds)) ((l_turn _ ds l_predeclare).same Q.begin)

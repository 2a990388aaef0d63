-- The second pass and pruning on the skeleton go in step: what the pass's state has of every declaration statement is what the skeleton says of it.
use Prim.Native.Nat.{ℕ, ◌+◌, ◌<◌, ◌≤◌}
use mathlib.Core.Bool.{Bool, true, false, ◌&&◌, ◌||◌, not}
use mathlib.Core.Path.{◌≡◌, refl, sym, ◌∙◌, ap, subst}
use mathlib.Core.List.{List, [], ◌∷◌, ◌++◌, append_assoc}
use mathlib.Core.Option.{Option, none}
use native.Mathlib.Omega.{arith}
use lib.ListN.{drop}
use lib.Dec.{eqb}
use borrow.Author.Tests.{eq-eqb, ne_eqb}
use Rattle.penne.specs.Find.{is_in, first_named, resolved}
use Rattle.penne.specs.Pruning.{UnresolvedPruning}
use Rattle.penne.specs.Containers.{Containment, structures}
use Rattle.penne.specs.Scopes.{Analyzer}
use Rattle.penne.specs.Tree.{Spot, Ident}
use Rattle.penne.specs.Walks.{Target, local, no_local, Names, with_scope, declared}
use Rattle.penne.specs.Pruning as R
use Rattle.penne.specs.Scopes as Q
use Rattle.penne.proofs.Booleans.{true_false, or_left, or_right, false_or_left, false_or_right, or_with}
use Rattle.penne.proofs.Skeleton.{runs, jumps, marks}
use Rattle.penne.proofs.PruningIsFlow.{St, st, enter, back, pruned}
use Rattle.penne.proofs.Steady.{is_some, gone_id, Steady}
use Rattle.penne.proofs.Keeps.{Orderly, grow_steady, g_declare, g_goto, g_label, in_last, in_layer, stands_on, empty_layer, orderly_scope, orderly_back}
use Rattle.penne.specs.Scopes.{new_scope}
use Rattle.penne.proofs.Beside.{Beside, beside_map, beside_last, beside_back}
use Rattle.penne.proofs.Looks.{Looks, l_local, l_other, Sees}
use Rattle.penne.proofs.Waiting.{ids_in, waiting, lost_by, lost_at, waits, lost_meet, waits_meet, gone_label, waiting_label}

-- A declaration statement k in scope, its variable's id x, and what the skeleton says of k. `met` are the labels that were met already: nothing waits for them.
-- `layered` is false in a branch of an If, which the skeleton takes for a scope and the pass does not.
pub record Lives (layered : Bool) (met : ℕ → Bool) (count : ℕ) (s : St) (a : Analyzer Spot) (k x : ℕ) : Type 0 where
  pub below : k < count
  pub opened : s.opened ≡ true
  pub given : x < a.resolution_id
  pub held : is_in x (ids_in (Q.variables a)) ≡ true
  pub own : layered ≡ true → is_in x (ids_in (Q.last_layer a)) ≡ s.own
  pub gone : gone_id x a.prunings ≡ s.gone
  pub lost : (l : ℕ) → met l ≡ false → lost_at l x a.prunings.unresolved_labels ≡ s.lost l

-- a name in scope beside its variable; a constant or parameter stands, and is in no layer of the body
pub data Entry (layered : Bool) (met : ℕ → Bool) (count : ℕ) (f : ℕ → St) (a : Analyzer Spot) : Target → Ident Spot → Type 0 where
  e_local : {k d : ℕ} {i : Ident Spot} → i.place.from ≡ d → Lives layered met count (f k) a k i.id → Entry layered met count f a (local k d) i
  e_other : {i : Ident Spot} → gone_id i.id a.prunings ≡ false → (layered ≡ true → is_in i.id (ids_in (Q.last_layer a)) ≡ false) → i.id < a.resolution_id → Entry layered met count f a no_local i

-- a declaration statement that was not met yet: it is lost to every goto so far
pub record Unmet (met : ℕ → Bool) (s : St) (us : List (UnresolvedPruning Spot)) : Type 0 where
  pub opened : s.opened ≡ false
  pub own : s.own ≡ false
  pub gone : s.gone ≡ false
  pub lost : (l : ℕ) → met l ≡ false → waits l us ≡ s.lost l

-- the whole state in step with the skeleton, names by names and number by number
pub record InStep (layered : Bool) (met : ℕ → Bool) (n : Names) (f : ℕ → St) (a : Analyzer Spot) : Type 0 where
  pub entries : Beside (Entry layered met n.count f a) n.scope (Q.variables a)
  pub unmet : (k : ℕ) → n.count ≤ k → Unmet met (f k) a.prunings.unresolved_labels
  pub orderly : Orderly a
  pub outside : a.containment.in_constexpr_of_constant ≡ none
  pub consts : (x : ℕ) → is_some (first_named x a.variable_stack.constants) ≡ is_in x n.constants
  pub structs : (x : ℕ) → is_some (first_named x (structures a.containment.containers)) ≡ is_in x n.structures

-- what an expression needs of it
pub sees : {w : Bool} {met : ℕ → Bool} {n : Names} {f : ℕ → St} {a : Analyzer Spot} → InStep w met n f a → Sees n f a
sees {w} {met} {n} {f} {a} v = record { entries = beside_map go v.entries; outside = v.outside; consts = v.consts; structs = v.structs }
  where
    go : (t : Target) (i : Ident Spot) → Entry w met n.count f a t i → Looks f a.prunings t i
    go (local k d) i (e_local p q) = l_local p q.gone
    go no_local i (e_other p q r) = l_other p

-- EXPRESSIONS leave it
pub in_steady : {w : Bool} {met : ℕ → Bool} {n : Names} {f : ℕ → St} {a b : Analyzer Spot} → InStep w met n f a → Steady a b → b.containment ≡ a.containment → InStep w met n f b
unfolding Q.variables Q.last_layer
in_steady {w} {met} {n} {f} {a} {b} v t e = record {
  entries = subst (λ (z : Q.Scope Spot). Beside (Entry w met n.count f b) n.scope (z.constants ++ z.locals)) (sym t.stack) (beside_map go v.entries);
  unmet = λ k h. let u = v.unmet k h in record { opened = u.opened; own = u.own; gone = u.gone; lost = λ l z. ap (waits l) t.waiting ∙ u.lost l z };
  orderly = (grow_steady t).orderly v.orderly;
  outside = ap (λ (c : Containment Spot). c.in_constexpr_of_constant) e ∙ v.outside;
  consts = λ x. ap (λ (z : Q.Scope Spot). is_some (first_named x z.constants)) t.stack ∙ v.consts x;
  structs = λ x. ap (λ (c : Containment Spot). is_some (first_named x (structures c.containers))) e ∙ v.structs x;
}
  where
    go : (t' : Target) (i : Ident Spot) → Entry w met n.count f a t' i → Entry w met n.count f b t' i
    go (local k d) i (e_local p q) = let r = t.rise in let g = q.given in e_local {i = i} p (record {
      below = q.below;
      opened = q.opened;
      given = omega arith;
      held = ap (λ (z : Q.Scope Spot). is_in i.id (ids_in (z.constants ++ z.locals))) t.stack ∙ q.held;
      own = λ z. ap (λ (z : Q.Scope Spot). is_in i.id (ids_in (drop z.layer z.locals))) t.stack ∙ q.own z;
      gone = t.gone i.id ∙ q.gone;
      lost = λ l z. ap (lost_at l i.id) t.waiting ∙ q.lost l z;
    })
    go no_local i (e_other p q g) = let r = t.rise in e_other {i = i} (t.gone i.id ∙ p) (λ z. ap (λ (z : Q.Scope Spot). is_in i.id (ids_in (drop z.layer z.locals))) t.stack ∙ q z) (omega arith)

-- DECLARING

less_ne : (m n : ℕ) → m < n → eqb m n ≡ false
less_ne m n h = ne_eqb m n (λ e. omega arith)

-- what is in scope stays as it is where a variable is declared, with an id that was not given out
held_on : (a : Analyzer Spot) (k x : ℕ) (i : Ident Spot) → x < a.resolution_id → is_in x (ids_in (Q.variables (Q.declare_variable k i a).1)) ≡ is_in x (ids_in (Q.variables a))
unfolding Q.declare_variable Q.next_id Q.with_stack Q.push_variable Q.authoritative Q.variables resolved
held_on a k x i h = ap (λ (l : List (Ident Spot)). is_in x (ids_in l)) (sym (append_assoc a.variable_stack.constants a.variable_stack.locals (Q.authoritative a i ∷ []))) ∙ in_last x (Q.variables a) (Q.authoritative a i) ∙ or_with _ _ (less_ne x a.resolution_id h)

-- nor do layers change
layered_on : (a : Analyzer Spot) (k x : ℕ) (i : Ident Spot) → Orderly a → x < a.resolution_id → is_in x (ids_in (Q.last_layer (Q.declare_variable k i a).1)) ≡ is_in x (ids_in (Q.last_layer a))
unfolding Q.declare_variable Q.next_id Q.with_stack Q.push_variable Q.authoritative Q.last_layer resolved
layered_on a k x i o h = in_layer x a.variable_stack.layer a.variable_stack.locals (Q.authoritative a i) o.layer ∙ or_with _ _ (less_ne x a.resolution_id h)

-- a declaration statement
pub in_declare : {w : Bool} {met : ℕ → Bool} {n : Names} {f : ℕ → St} {a : Analyzer Spot} (i : Ident Spot) → InStep w met n f a → InStep w met (declared i n) (λ k. pruned k (runs n.count) (f k)) (Q.declare_variable 4 i a).1
unfolding Q.declare_variable Q.next_id Q.with_stack Q.push_variable Q.authoritative Q.variables Q.last_layer resolved declared with_scope pruned st
in_declare {w} {met} {n} {f} {a} i v = record {
  entries = subst (λ (l : List (Ident Spot)). Beside (Entry w met (n.count + 1) (λ k. pruned k (runs n.count) (f k)) (Q.declare_variable 4 i a).1) (n.scope ++ ((i.name, local n.count i.place.from) ∷ [])) l) (append_assoc a.variable_stack.constants a.variable_stack.locals (new ∷ [])) (beside_last i.name _ new refl (e_local refl itself) (beside_map go v.entries));
  unmet = λ k h. let u = v.unmet k (omega arith) in let z : eqb k n.count ≡ false = ne_eqb k n.count (λ e. omega arith) in record { opened = rw (u.opened, z); own = rw (u.own, z); gone = u.gone; lost = u.lost };
  orderly = ((g_declare 4 i).go a).orderly v.orderly;
  outside = v.outside;
  consts = v.consts;
  structs = v.structs;
}
  where
    new : Ident Spot
    new = Q.authoritative a i

    itself : Lives w met (n.count + 1) (pruned n.count (runs n.count) (f n.count)) (Q.declare_variable 4 i a).1 n.count a.resolution_id
    itself =
        let u = v.unmet n.count (omega arith) in
        let y = v.orderly.fresh a.resolution_id (omega arith) in
        let e = eq-eqb n.count n.count refl in
        let r = eq-eqb a.resolution_id a.resolution_id refl in record {
          below = omega arith;
          opened = or_right (f n.count).opened _ e;
          given = omega arith;
          held = ap (λ (l : List (Ident Spot)). is_in a.resolution_id (ids_in l)) (sym (append_assoc a.variable_stack.constants a.variable_stack.locals (new ∷ []))) ∙ in_last a.resolution_id (Q.variables a) new ∙ or_right (is_in a.resolution_id (ids_in (Q.variables a))) _ r;
          own = λ z. in_layer a.resolution_id a.variable_stack.layer a.variable_stack.locals new v.orderly.layer ∙ or_right (is_in a.resolution_id (ids_in (Q.last_layer a))) _ r ∙ sym (or_right (f n.count).own _ e);
          gone = y.stands ∙ sym u.gone;
          lost = λ l z. y.unkept l ∙ u.lost l z;
        }

    go : (t : Target) (j : Ident Spot) → Entry w met n.count f a t j → Entry w met (n.count + 1) (λ k. pruned k (runs n.count) (f k)) (Q.declare_variable 4 i a).1 t j
    go (local k d) j (e_local p q) =
        let b = q.below in
        let g = q.given in
        e_local {k = k} {i = j} p (record {
          below = omega arith;
          opened = or_left _ _ q.opened;
          given = omega arith;
          held = held_on a 4 j.id i g ∙ q.held;
          own = λ z. layered_on a 4 j.id i v.orderly g ∙ q.own z ∙ sym (or_with _ _ (less_ne k n.count b));
          gone = q.gone;
          lost = q.lost;
        })
    go no_local j (e_other p q g) = e_other {i = j} p (λ z. layered_on a 4 j.id i v.orderly g ∙ q z) (omega arith)

-- a parameter: it stands, and is in no layer of the body
pub in_param : {met : ℕ → Bool} {n : Names} {f : ℕ → St} {a : Analyzer Spot} (i : Ident Spot) → InStep false met n f a → InStep false met (with_scope n (n.scope ++ ((i.name, no_local) ∷ [])) n.count) f (Q.declare_variable 5 i a).1
unfolding Q.declare_variable Q.next_id Q.with_stack Q.push_variable Q.authoritative Q.variables Q.last_layer resolved with_scope
in_param {met} {n} {f} {a} i v = record {
  entries = subst (λ (l : List (Ident Spot)). Beside (Entry false met n.count f (Q.declare_variable 5 i a).1) (n.scope ++ ((i.name, no_local) ∷ [])) l) (append_assoc a.variable_stack.constants a.variable_stack.locals (new ∷ [])) (beside_last i.name no_local new refl (e_other (v.orderly.fresh a.resolution_id (omega arith)).stands (λ z. true_false (sym z)) (omega arith)) (beside_map go v.entries));
  unmet = v.unmet;
  orderly = ((g_declare 5 i).go a).orderly v.orderly;
  outside = v.outside;
  consts = v.consts;
  structs = v.structs;
}
  where
    new : Ident Spot
    new = Q.authoritative a i

    go : (t : Target) (j : Ident Spot) → Entry false met n.count f a t j → Entry false met n.count f (Q.declare_variable 5 i a).1 t j
    go (local k d) j (e_local p q) = let g = q.given in e_local {k = k} {i = j} p (record {
      below = q.below;
      opened = q.opened;
      given = omega arith;
      held = held_on a 5 j.id i g ∙ q.held;
      own = λ z. true_false (sym z);
      gone = q.gone;
      lost = q.lost;
    })
    go no_local j (e_other p q g) = e_other {i = j} p (λ z. true_false (sym z)) (omega arith)

-- A GOTO
pub in_goto : {w : Bool} {met : ℕ → Bool} {n : Names} {f : ℕ → St} {a : Analyzer Spot} (i : Ident Spot) (p : Spot) → InStep w met n f a → InStep w met n (λ k. pruned k (jumps i.id) (f k)) (Q.prepare_to_prune_at_goto i p a).1
unfolding Q.prepare_to_prune_at_goto R.prepare_to_prune_at_goto Q.with_prunings Q.variables Q.last_layer pruned st ids_in gone_id R.fate
in_goto {w} {met} {n} {f} {a} i p v = record {
  entries = beside_map go v.entries;
  unmet = λ k h. let u = v.unmet k h in record { opened = u.opened; own = u.own; gone = u.gone; lost = λ l z. waits_meet l i.id here p us ∙ ap (λ (c : Bool). c || eqb l i.id) (u.lost l z) ∙ ap (λ (c : Bool). (f k).lost l || (not c && eqb l i.id)) (sym u.opened) };
  orderly = ((g_goto i p).go a).orderly v.orderly;
  outside = v.outside;
  consts = v.consts;
  structs = v.structs;
}
  where
    us : List (UnresolvedPruning Spot)
    us = a.prunings.unresolved_labels

    here : List ℕ
    here = ids_in (Q.variables a)

    go : (t : Target) (j : Ident Spot) → Entry w met n.count f a t j → Entry w met n.count (λ k. pruned k (jumps i.id) (f k)) (Q.prepare_to_prune_at_goto i p a).1 t j
    go (local k d) j (e_local e q) = e_local e (record { below = q.below; opened = q.opened; given = q.given; held = q.held; own = q.own; gone = q.gone; lost = λ l z. lost_meet l j.id i.id here p us ∙ ap (λ (c : Bool). lost_at l j.id us || (not c && eqb l i.id)) q.held ∙ ap (λ (c : Bool). c || false) (q.lost l z) ∙ ap (λ (c : Bool). (f k).lost l || (not c && eqb l i.id)) (sym q.opened) })
    go no_local j (e_other e q g) = e_other e q g

-- A LABEL

-- a label that is not met now was not met before
met_before : (met : ℕ → Bool) (l m : ℕ) → (met l || eqb l m) ≡ false → (met l ≡ false) × (eqb l m ≡ false)
met_before met l m h = (false_or_left _ _ h, false_or_right (met l) _ h)

-- the variables of its layer that are lost to it do not stand any more
pub in_label : {met : ℕ → Bool} {n : Names} {f : ℕ → St} {a : Analyzer Spot} (w : Bool) (i : Ident Spot) → w ≡ true → met i.id ≡ false → InStep w met n f a → InStep w (λ l. met l || eqb l i.id) n (λ k. pruned k (marks i.id) (f k)) (Q.prune_at_label i a).1
unfolding Q.prune_at_label Q.with_prunings Q.variables Q.last_layer pruned st lost_by lost_at is_some waits
in_label {met} {n} {f} {a} w i lay m v = record {
  entries = beside_map go v.entries;
  unmet = λ k h. let u = v.unmet k h in record { opened = u.opened; own = u.own; gone = rw (u.gone, u.own); lost = λ l z. let (z₁, z₂) = met_before met l i.id z in ap (λ (o : Option (UnresolvedPruning Spot)). is_some o) (waiting_label l i (Q.last_layer a) a.prunings z₂) ∙ u.lost l z₁ };
  orderly = ((g_label i).go a).orderly v.orderly;
  outside = v.outside;
  consts = v.consts;
  structs = v.structs;
}
  where
    go : (t : Target) (j : Ident Spot) → Entry w met n.count f a t j → Entry w (λ l. met l || eqb l i.id) n.count (λ k. pruned k (marks i.id) (f k)) (Q.prune_at_label i a).1 t j
    go (local k d) j (e_local e q) = e_local e (record {
      below = q.below;
      opened = q.opened;
      given = q.given;
      held = q.held;
      own = q.own;
      gone = gone_label j.id i (Q.last_layer a) a.prunings ∙ (λ t. q.gone t || (q.own lay t && q.lost i.id m t));
      lost = λ l z. let (z₁, z₂) = met_before met l i.id z in ap (lost_by j.id) (waiting_label l i (Q.last_layer a) a.prunings z₂) ∙ q.lost l z₁;
    })
    go no_local j (e_other e q g) = e_other (stands_on j.id i (Q.last_layer a) a.prunings e (q lay)) q g

-- SCOPES

-- a block's: a new layer, with nothing in it
pub in_scope : {w : Bool} {met : ℕ → Bool} {n : Names} {f : ℕ → St} {a : Analyzer Spot} → InStep w met n f a → InStep true met n (λ k. enter (f k)) (new_scope a)
unfolding Q.with_stack Q.variables Q.last_layer enter st
in_scope {w} {met} {n} {f} {a} v = record {
  entries = beside_map go v.entries;
  unmet = λ k h. let u = v.unmet k h in record { opened = u.opened; own = refl; gone = u.gone; lost = u.lost };
  orderly = orderly_scope a v.orderly;
  outside = v.outside;
  consts = v.consts;
  structs = v.structs;
}
  where
    go : (t : Target) (i : Ident Spot) → Entry w met n.count f a t i → Entry true met n.count (λ k. enter (f k)) (new_scope a) t i
    go (local k d) i (e_local p q) = e_local p (record { below = q.below; opened = q.opened; given = q.given; held = q.held; own = λ z. empty_layer i.id a; gone = q.gone; lost = q.lost })
    go no_local i (e_other p q g) = e_other p (λ z. empty_layer i.id a) g

-- a branch of an If: nothing is said of layers
pub in_branch : {w : Bool} {met : ℕ → Bool} {n : Names} {f : ℕ → St} {a : Analyzer Spot} → InStep w met n f a → InStep false met n (λ k. enter (f k)) a
unfolding enter st
in_branch {w} {met} {n} {f} {a} v = record {
  entries = beside_map go v.entries;
  unmet = λ k h. let u = v.unmet k h in record { opened = u.opened; own = refl; gone = u.gone; lost = u.lost };
  orderly = v.orderly;
  outside = v.outside;
  consts = v.consts;
  structs = v.structs;
}
  where
    go : (t : Target) (i : Ident Spot) → Entry w met n.count f a t i → Entry false met n.count (λ k. enter (f k)) a t i
    go (local k d) i (e_local p q) = e_local p (record { below = q.below; opened = q.opened; given = q.given; held = q.held; own = λ z. true_false (sym z); gone = q.gone; lost = q.lost })
    go no_local i (e_other p q g) = e_other p (λ z. true_false (sym z)) g

-- the names after statements: those before, and more
pub record Further (n n' : Names) : Type 0 where
  pub count : n.count ≤ n'.count
  pub names : List (ℕ × Target)
  pub scope : n'.scope ≡ n.scope ++ names

-- back in the old scope: names and layers are those from before it, all else is as at its end
pub in_back : {w w' : Bool} {met met' : ℕ → Bool} {n n' : Names} {f g : ℕ → St} {a b : Analyzer Spot} (pushed : List (Ident Spot)) → InStep w met n f a → Further n n' → a.resolution_id ≤ b.resolution_id → b.variable_stack.constants ≡ a.variable_stack.constants → b.variable_stack.locals ≡ a.variable_stack.locals ++ pushed → InStep w' met' n' g b → InStep w met' (with_scope n' n.scope n'.count) (λ k. back (f k) (g k)) (Q.with_stack b a.variable_stack)
unfolding Q.with_stack Q.variables Q.last_layer back st with_scope
in_back {w} {w'} {met} {met'} {n} {n'} {f} {g} {a} {b} pushed v z r c l u = record {
  entries = beside_back z.names pushed go v.entries (subst (λ (es : List (ℕ × Target)). Beside (Entry w' met' n'.count g b) es ((a.variable_stack.constants ++ a.variable_stack.locals) ++ pushed)) z.scope (subst (λ (is : List (Ident Spot)). Beside (Entry w' met' n'.count g b) n'.scope is) more u.entries));
  unmet = λ k h. let e = z.count in let p = v.unmet k (omega arith) in let q = u.unmet k h in record { opened = p.opened; own = p.own; gone = q.gone; lost = q.lost };
  orderly = orderly_back a b v.orderly r u.orderly;
  outside = u.outside;
  consts = λ x. ap (λ (is : List (Ident Spot)). is_some (first_named x is)) (sym c) ∙ u.consts x;
  structs = u.structs;
}
  where
    more : b.variable_stack.constants ++ b.variable_stack.locals ≡ (a.variable_stack.constants ++ a.variable_stack.locals) ++ pushed
    more = (λ t. c t ++ l t) ∙ sym (append_assoc a.variable_stack.constants a.variable_stack.locals pushed)

    go : (t : Target) (i : Ident Spot) → Entry w met n.count f a t i → Entry w' met' n'.count g b t i → Entry w met' n'.count (λ k. back (f k) (g k)) (Q.with_stack b a.variable_stack) t i
    go (local k d) i (e_local p q) (e_local p' q') = e_local p (record { below = q'.below; opened = q.opened; given = q'.given; held = q.held; own = q.own; gone = q'.gone; lost = q'.lost })
    go no_local i (e_other p q g) (e_other p' q' g') = e_other p' q g'

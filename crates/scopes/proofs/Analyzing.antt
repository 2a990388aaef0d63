-- What the calls do beside the definitions' analyzer, for those who call them.
use mathlib.Core.Path.{◌≡◌, refl, sym, ap, ◌∙◌}
use mathlib.Core.Bool.{Bool, true, false}
use mathlib.Core.List.{List, [], ◌∷◌, ◌++◌}
use mathlib.Core.Option.{Option, none, some}
use Prim.Native.Nat.{ℕ, suc, ◌+◌, ◌≤◌, ◌<◌}
use native.Mathlib.Omega.{arith}
use lib.Dec.{eqb}
use lib.ListN.{length, take, replicate, length-append, length-replicate, get_or-replicate}
use lib.Seq.{take_at}
use borrow.Author.Tests.{eqb-true, eq-eqb}
use Rattle.penne.specs.Tree.{Spot, Ident}
use Rattle.penne.specs.Find.{first, is_in, first_named, resolved}
use Rattle.penne.specs.Pruning.{UnresolvedPruning, Pruning, Prunings, pruned, poisoned, standing, fate, poison_variable, list_skip}
use Rattle.penne.specs.Pruning as R
use Rattle.penne.specs.Scopes.{Analyzer, with_stack, new_scope, with_functions, with_containment, with_prunings, next_id, variables, last_layer, authoritative, push_constant, push_variable, declare_constant, declare_variable, prepare_to_prune_at_goto, prune_at_label, begin}
use Rattle.penne.specs.Scopes as Defs
use Rattle.penne.specs.Containers.{Containment}
use Rattle.penne.proofs.Searching.{first_hit, first_miss, is_in_here, is_in_past}
use Rattle.scopes.specs.declared.scope.Scope.{Scope}
use Rattle.scopes.specs.declared.scope.Local.{Local}
use Rattle.std.specs.Prelude as Rust
use Rattle.scopes.specs.declared.pruning.Fate.{Fate}
use Rattle.scopes.specs.declared.pruning.Fate.TheVariants.{Standing, Poisoned, Pruned}
use Rattle.scopes.specs.Table.{rows, words, heads, label_note, Nth, here, there, Stands, Known, Label, Noted, unnoted, noted, unresolved, Tells, stands, poisons, prunes, Holds, Blank, Keeps}
use Rattle.scopes.specs.Calls.{Begins, Opens, Closes, Declares, Finds, nothing, found}
use Rattle.scopes.specs.Jumps.{InScope, Prepares, Prunes, Poisons}
use Rattle.scopes.specs.Mirror.{ids_of, Mirrors}
use Rattle.scopes.proofs.Holding.{label_kept}
use Rattle.scopes.proofs.Finding.{never}

-- WHAT THE TABLE DOES NOT SEE

-- a table of zeros
pub blank : Blank (replicate {A = ℕ} words 0)
blank = record { long = length-replicate {A = ℕ} words 0; headless = λ n h. get_or-replicate {A = ℕ} words (heads + n) 0 0 (omega arith); noteless = λ n h. get_or-replicate {A = ℕ} words (label_note + n) 0 0 (omega arith) }

noted_next : {ls : List (Ident Spot)} {next next' note goto : ℕ} {o : Option (UnresolvedPruning Spot)} → next ≤ next' → Noted ls next note goto o → Noted ls next' note goto o
noted_next h (unnoted e) = unnoted e
noted_next h (noted n) = let early = n.early in noted (record { some_id = n.some_id; early = omega arith; place = n.place; lower = n.lower; inside = λ at z. n.inside at z })

-- an id that is given to something else
pub next_given : {s : Scope} {w : List ℕ} {ls : List (Ident Spot)} {layer : ℕ} {p : Prunings Spot} {next next' : ℕ} → next ≤ next' → Holds s w ls layer p next → Holds s w ls layer p next'
next_given z h =
    let some_id = h.some_id in
    record {
      counted = h.counted;
      few = h.few;
      begins = h.begins;
      long = h.long;
      some_id = omega arith;
      entries = h.entries;
      head = h.head;
      known = record { names = λ n. h.known.names n; ids = λ n. omega (arith, h.known.ids n); apart = λ n m e. h.known.apart n m e };
      fates = h.fates;
      fresh = record { at = λ x l. h.fresh.at x (omega arith) };
      notes = record { at = λ row l. noted_next z (h.notes.at row l) };
    }

-- a record more in the skip list
pub skip_listed : {s : Scope} {w : List ℕ} {ls : List (Ident Spot)} {layer : ℕ} {p : Prunings Spot} {next : ℕ} (i j : Ident Spot) → Holds s w ls layer p next → Holds s w ls layer (list_skip i j p) next
unfolding list_skip fate unresolved
skip_listed i j h = record {
  counted = h.counted;
  few = h.few;
  begins = h.begins;
  long = h.long;
  some_id = h.some_id;
  entries = h.entries;
  head = h.head;
  known = h.known;
  fates = record { at = λ n. h.fates.at n };
  fresh = record { at = λ x l. h.fresh.at x l };
  notes = record { at = λ row l. h.notes.at row l };
}

-- THE IDS IN SCOPE

-- the ids of all layers: in one of two lists, or in the other
in_append : (x : ℕ) (cs ls : List (Ident Spot)) → is_in x (ids_of (cs ++ ls)) ≡ true → (is_in x (ids_of cs) ≡ true → ⊥) → is_in x (ids_of ls) ≡ true
in_append x [] ls e d = e
in_append x (c ∷ cs) ls e d = go (eqb x c.id) refl (in_append x cs ls)
  where
    go : (b : Bool) → eqb x c.id ≡ b → (is_in x (ids_of (cs ++ ls)) ≡ true → (is_in x (ids_of cs) ≡ true → ⊥) → is_in x (ids_of ls) ≡ true) → is_in x (ids_of ls) ≡ true
    go true z f = absurd (d (is_in_here x c.id (ids_of cs) z))
    go false z f = f (sym (is_in_past x c.id (ids_of (cs ++ ls)) z) ∙ e) (λ q. d (is_in_past x c.id (ids_of cs) z ∙ q))

in_right : (x : ℕ) (cs ls : List (Ident Spot)) → is_in x (ids_of ls) ≡ true → is_in x (ids_of (cs ++ ls)) ≡ true
in_right x [] ls e = e
in_right x (c ∷ cs) ls e = go (eqb x c.id) refl (in_right x cs ls e)
  where
    go : (b : Bool) → eqb x c.id ≡ b → is_in x (ids_of (cs ++ ls)) ≡ true → is_in x (ids_of (c ∷ (cs ++ ls))) ≡ true
    go true z f = is_in_here x c.id (ids_of (cs ++ ls)) z
    go false z f = is_in_past x c.id (ids_of (cs ++ ls)) z ∙ f

nth_in : {k : ℕ} {i : Ident Spot} {ls : List (Ident Spot)} → Nth k i ls → is_in i.id (ids_of ls) ≡ true
nth_in {ls = []} x'' = elim x'' [ ]
nth_in {i = i} {ls = _ ∷ ls} here = is_in_here i.id i.id (ids_of ls) (eq-eqb i.id i.id refl)
nth_in {i = i} {ls = j ∷ ls} (there n) = in_right i.id (j ∷ []) ls (nth_in n)

in_lower : (ls : List (Ident Spot)) (next : ℕ) → ((k : ℕ) (i : Ident Spot) → Nth k i ls → i.id < next) → (x : ℕ) → is_in x (ids_of ls) ≡ true → x < next
unfolding is_in
in_lower [] next f x e = absurd (never e)
in_lower (i ∷ ls) next f x e = go (eqb x i.id) refl (in_lower ls next (λ k j n. f (suc k) j (there n)) x)
  where
    go : (b : Bool) → eqb x i.id ≡ b → (is_in x (ids_of ls) ≡ true → x < next) → x < next
    go true z g = omega (arith, eqb-true x i.id z, f 0 i here)
    go false z g = g (sym (is_in_past x i.id (ids_of ls) z) ∙ e)

bool_cases : (b : Bool) → Dec (b ≡ true)
bool_cases true = yes refl
bool_cases false = no never

-- the ids of constants and locals, as they are at a goto
pub in_scope : {ls : List (Ident Spot)} {next : ℕ} (cs : List (Ident Spot)) → ((x : ℕ) → is_in x (ids_of cs) ≡ true → x < next) → Known ls next → InScope ls next (ids_of (cs ++ ls))
in_scope {ls} {next} cs f h = record { locals = λ {i = i} n. in_right i.id cs ls (nth_in n); lower = λ x e. go x e (bool_cases (is_in x (ids_of cs))) }
  where
    go : (x : ℕ) → is_in x (ids_of (cs ++ ls)) ≡ true → Dec (is_in x (ids_of cs) ≡ true) → x < next
    go x e (yes z) = f x z
    go x e (no z) = in_lower ls next (λ k i n. h.ids n) x (in_append x cs ls e z)

-- BESIDE THE ANALYZER

module _ {s : Scope} {w : List ℕ} {a : Analyzer Spot} (m : Mirrors s w a) where
  -- push_scope
  pub mirrors_open : {r : Scope} → Opens s r → Mirrors r w (new_scope a)
  unfolding with_stack
  mirrors_open o = record { holds = o.holds m.holds; lower = m.lower }

  -- pop_scope: the stack is again t, to whose locals others were added
  pub mirrors_close : {outer r : Scope} {w' : List ℕ} (t : Defs.Scope Spot) (more : List (Ident Spot)) → Closes s outer w r w' → a.variable_stack.constants ≡ t.constants → a.variable_stack.locals ≡ t.locals ++ more
      → outer.count ≡ length t.locals → outer.layer ≡ t.layer → Mirrors r w' (with_stack a t)
  unfolding with_stack
  mirrors_close {outer} {r} {w'} t more o c e n q =
      let left : take outer.count a.variable_stack.locals ≡ t.locals = ap (take outer.count) e ∙ take_at t.locals more outer.count (sym n) in
      let long : outer.count ≤ length a.variable_stack.locals = rw (e, length-append) (omega arith) in
      record { holds = rw (left, q) at (o.holds m.holds long); lower = λ x z. m.lower x (rw c z) }

  -- declare_variable, declare_parameter, declare_member
  pub mirrors_declare : {l : Local} {r : Scope} {w' : List ℕ} (kind : ℕ) (i : Ident Spot) → Declares s l w r w' → length a.variable_stack.locals < rows → Stands l (authoritative a i) → i.name < rows → Mirrors r w' (declare_variable kind i a).1
  unfolding declare_variable next_id with_stack push_variable authoritative resolved
  mirrors_declare kind i d room st nm = record { holds = d.holds m.holds room st nm refl; lower = λ x z. omega (arith, m.lower x z) }

  -- prepare_to_prune_at_goto
  pub mirrors_goto : {row place id : ℕ} {w' : List ℕ} (l : Ident Spot) (goto : Spot) → Prepares row place id w w' → row < rows → l.id ≡ row + 1 → place ≡ goto.number → id ≡ a.resolution_id → Mirrors s w' (prepare_to_prune_at_goto l goto a).1
  unfolding prepare_to_prune_at_goto with_prunings variables
  mirrors_goto l goto g z e q n = record { holds = g.holds l goto m.holds z e q n (in_scope a.variable_stack.constants m.lower m.holds.known); lower = m.lower }

  -- prune_at_label
  pub mirrors_label : {row : ℕ} {w' : List ℕ} {l : Ident Spot} → Prunes s row w w' → Label w row l → Mirrors s w' (prune_at_label l a).1
  unfolding prune_at_label with_prunings last_layer
  mirrors_label g l = record { holds = g.holds m.holds l; lower = m.lower }

  -- use_variable at a pruned variable
  pub mirrors_poison : {k : ℕ} {w' : List ℕ} {j : Ident Spot} (i : Ident Spot) → Poisons k w w' → Nth k j a.variable_stack.locals → Mirrors s w' (with_prunings a (list_skip i j (poison_variable j.id a.prunings)))
  unfolding with_prunings
  mirrors_poison {j = j} i g n = record { holds = skip_listed i j (g.holds m.holds n); lower = m.lower }

  -- use_variable at a poisoned one
  pub mirrors_skip : (i j : Ident Spot) → Mirrors s w (with_prunings a (list_skip i j a.prunings))
  unfolding with_prunings
  mirrors_skip i j = record { holds = skip_listed i j m.holds; lower = m.lower }

  -- what else takes an id
  pub mirrors_next : Mirrors s w (next_id a)
  unfolding next_id
  mirrors_next = record { holds = next_given (omega arith) m.holds; lower = λ x z. omega (arith, m.lower x z) }

  pub mirrors_containment : (c : Containment Spot) → Mirrors s w (with_containment a c)
  unfolding with_containment
  mirrors_containment c = record { holds = m.holds; lower = m.lower }

  pub mirrors_functions : (fs : List (Ident Spot)) → Mirrors s w (with_functions a fs)
  unfolding with_functions
  mirrors_functions fs = record { holds = m.holds; lower = m.lower }

  -- declare_constant
  pub mirrors_constant : (i : Ident Spot) → Mirrors s w (declare_constant i a).1
  unfolding declare_constant next_id with_stack with_containment push_constant authoritative resolved
  mirrors_constant i = record { holds = next_given (omega arith) m.holds; lower = λ x e. go x e (bool_cases (is_in x (ids_of a.variable_stack.constants))) }
    where
      i' : Ident Spot
      i' = authoritative a i

      only : (k : ℕ) (j : Ident Spot) → Nth k j (i' ∷ []) → j.id < a.resolution_id + 1
      only _ j (there {k = k} x7) = elim x7 [ ]
      only k j here = omega arith

      go : (x : ℕ) → is_in x (ids_of (a.variable_stack.constants ++ (i' ∷ []))) ≡ true → Dec (is_in x (ids_of a.variable_stack.constants) ≡ true) → x < a.resolution_id + 1
      go x e (yes z) = omega (arith, m.lower x z)
      go x e (no z) = in_lower (i' ∷ []) (a.resolution_id + 1) only x (in_append x a.variable_stack.constants (i' ∷ []) e z)

-- the state that analyze begins with
pub mirrors_begin : {s : Scope} {w : List ℕ} → Begins s → Blank w → Mirrors s w begin
unfolding begin is_in
mirrors_begin n b = record { holds = n.holds 1 b (omega arith); lower = λ x z. absurd (never z) }

-- THE SEARCH THROUGH ALL LAYERS: the constants come first

first_left : {A : Type 0} (f : A → Bool) (xs ys : List A) (x : A) → first f xs ≡ some x → first f (xs ++ ys) ≡ some x
unfolding first
first_left f [] ys x e = absurd (let z : ◌≡◌ {A = ℕ} 0 1 = cc in omega arith)
first_left f (y ∷ xs) ys x e = go (f y) refl (first_left f xs ys x)
  where
    go : (b : Bool) → f y ≡ b → (first f xs ≡ some x → first f (xs ++ ys) ≡ some x) → first f (y ∷ (xs ++ ys)) ≡ some x
    go true z g = first_hit f y (xs ++ ys) z ∙ sym (first_hit f y xs z) ∙ e
    go false z g = first_miss f y (xs ++ ys) z ∙ g (sym (first_miss f y xs z) ∙ e)

first_right : {A : Type 0} (f : A → Bool) (xs ys : List A) → first f xs ≡ none → first f (xs ++ ys) ≡ first f ys
first_right f [] ys e = refl
first_right f (y ∷ xs) ys e = go (f y) refl (first_right f xs ys)
  where
    go : (b : Bool) → f y ≡ b → (first f xs ≡ none → first f (xs ++ ys) ≡ first f ys) → first f (y ∷ (xs ++ ys)) ≡ first f ys
    go true z g = absurd (let q = sym (first_hit f y xs z) ∙ e in let o : ◌≡◌ {A = ℕ} 0 1 = cc in omega arith)
    go false z g = first_miss f y (xs ++ ys) z ∙ g (sym (first_miss f y xs z) ∙ e)

module _ (a : Analyzer Spot) (n : ℕ) where
  pub named_constant : (j : Ident Spot) → first_named n a.variable_stack.constants ≡ some j → first_named n (variables a) ≡ some j
  unfolding first_named variables
  named_constant j e = first_left (λ i. eqb i.name n) a.variable_stack.constants a.variable_stack.locals j e

  pub named_local : first_named n a.variable_stack.constants ≡ none → first_named n (variables a) ≡ first_named n a.variable_stack.locals
  unfolding first_named variables
  named_local e = first_right (λ i. eqb i.name n) a.variable_stack.constants a.variable_stack.locals e

-- BY WHAT A CALL ANSWERED

module _ {n : ℕ} {ls : List (Ident Spot)} where
  pub found_none : {r : Rust.Option ℕ} → Finds n ls r → r ≡ Rust.None → first_named n ls ≡ none
  found_none (nothing e) q = e
  found_none (found at e) q = absurd (let z : ◌≡◌ {A = ℕ} 0 1 = cc in omega arith)

  pub found_at : {r : Rust.Option ℕ} {k : ℕ} → Finds n ls r → r ≡ Rust.Some k → (i : Ident Spot) × Nth k i ls × (first_named n ls ≡ some i)
  found_at (nothing e) q = absurd (let z : ◌≡◌ {A = ℕ} 0 1 = cc in omega arith)
  found_at {k = k} (found {k = m} {i = i} at e) q = let z : m ≡ k = cc in (i, rw z at at, e)

module _ {w : List ℕ} where
  pub told_standing : {r : Fate} {f : R.Fate Spot} → Tells w r f → r ≡ Standing → f ≡ standing
  told_standing stands q = refl
  told_standing poisons q = absurd (let z : ◌≡◌ {A = ℕ} 0 1 = cc in omega arith)
  told_standing (prunes l) q = absurd (let z : ◌≡◌ {A = ℕ} 0 1 = cc in omega arith)

  pub told_poisoned : {r : Fate} {f : R.Fate Spot} → Tells w r f → r ≡ Poisoned → f ≡ poisoned
  told_poisoned stands q = absurd (let z : ◌≡◌ {A = ℕ} 0 1 = cc in omega arith)
  told_poisoned poisons q = refl
  told_poisoned (prunes l) q = absurd (let z : ◌≡◌ {A = ℕ} 0 1 = cc in omega arith)

  pub told_pruned : {r : Fate} {f : R.Fate Spot} {row goto : ℕ} → Tells w r f → r ≡ Pruned row goto → (c : Pruning Spot) × (f ≡ pruned c) × Label w row c.label × (goto ≡ c.location_of_goto.number)
  told_pruned stands q = absurd (let z : ◌≡◌ {A = ℕ} 0 1 = cc in omega arith)
  told_pruned poisons q = absurd (let z : ◌≡◌ {A = ℕ} 0 1 = cc in omega arith)
  told_pruned {row = row} {goto = goto} (prunes {row = m} {c = c} l) q = let z : m ≡ row = cc in let e : goto ≡ c.location_of_goto.number = cc in (c, refl, rw z at l, e)

-- a label stays where it was
pub label_stays : {w w' : List ℕ} {row : ℕ} {l : Ident Spot} → Keeps w w' → Label w row l → Label w' row l
label_stays k l = label_kept k.labels l

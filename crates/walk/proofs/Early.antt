-- The containers have the first ids: what is declared, pruned and poisoned has later ones.
use mathlib.Core.Path.{◌≡◌, refl, sym, ap, subst, ◌∙◌}
use mathlib.Core.Bool.{true, false}
use mathlib.Core.List.{List, [], ◌∷◌, ◌++◌}
use mathlib.Core.Option.{Option, none, some}
use Prim.Native.Nat.{ℕ, zero, suc, ◌≤◌, ◌<◌}
use native.Mathlib.Omega.{arith}
use lib.Dec.{eqb}
use lib.ListN.{drop}
use Rattle.penne.specs.Tree.{Spot, Ident}
use Rattle.penne.specs.Find.{first, is_in}
use Rattle.penne.specs.Containers.{Containment}
use Rattle.penne.specs.Pruning.{UnresolvedPruning, Pruning, Prunings, fate, fate_by, prune, prune_all, prune_by, poison_variable, list_skip}
use Rattle.penne.specs.Pruning as R
use Rattle.penne.specs.Scopes.{Analyzer, with_stack, with_containment, with_prunings, next_id, last_layer, authoritative, push_variable, declare_variable, prepare_to_prune_at_goto, prune_at_label}
use Rattle.penne.specs.Find.{resolved}
use Rattle.penne.specs.Scopes as Defs
use Rattle.scopes.specs.Table.{Nth, here, there}
use Rattle.scopes.proofs.Lists.{Snoc, front, last, nth_left, nth_snoc}
use Rattle.scopes.proofs.Finding.{prune_other}
use Rattle.scopes.proofs.Fating.{poisoned_other}
use Rattle.containers.specs.Table.{id_at}
use Rattle.walk.specs.Walking.{Early}

-- the list is no fate
skip_fates : (i j : Ident Spot) (p : Prunings Spot) (x : ℕ) → fate x (list_skip i j p) ≡ fate x p
unfolding list_skip fate
skip_fates i j p x = refl

module _ {n : ℕ} {a : Analyzer Spot} (e : Early n a) where
  -- containers, locals and fates are the same
  pub early_same : (a' : Analyzer Spot) → a'.containment ≡ a.containment → a'.variable_stack.locals ≡ a.variable_stack.locals → ((x : ℕ) → fate x a'.prunings ≡ fate x a.prunings) → a.resolution_id ≤ a'.resolution_id → Early n a'
  early_same a' c l f g = record {
    first = e.first;
    past = omega (arith, e.past);
    containers = λ r h. let y = e.containers r h in let i : id_at a'.containment.containers r ≡ id_at a.containment.containers r = ap (λ (s : Containment Spot). id_at s.containers r) c in omega arith;
    locals = λ {k} {i} m. e.locals (subst (λ (ls : List (Ident Spot)). Nth k i ls) l m);
    untouched = λ x h. f x ∙ e.untouched x h;
  }

  -- other containers, with the same ids
  pub early_containment : (c : Containment Spot) → ((r : ℕ) → r < n → id_at c.containers r ≡ id_at a.containment.containers r) → Early n (with_containment a c)
  unfolding with_containment
  early_containment c k = record { first = e.first; past = e.past; containers = λ r h. let y = e.containers r h in let i = k r h in omega arith; locals = e.locals; untouched = e.untouched }

  -- locals are dropped
  pub early_close : (t : Defs.Scope Spot) (more : List (Ident Spot)) → a.variable_stack.locals ≡ t.locals ++ more → Early n (with_stack a t)
  unfolding with_stack
  early_close t more l = record { first = e.first; past = e.past; containers = e.containers; locals = λ {k} {i} m. e.locals (subst (λ (ls : List (Ident Spot)). Nth k i ls) (sym l) (nth_left more m)); untouched = e.untouched }

  -- one local more, with the next id
  pub early_declare : (kind : ℕ) (i : Ident Spot) → Early n (declare_variable kind i a).1
  unfolding declare_variable next_id with_stack push_variable authoritative resolved
  early_declare kind i = record {
    first = e.first;
    past = omega (arith, e.past);
    containers = e.containers;
    locals = λ {k} {i = j} m. go k j (nth_snoc a.variable_stack.locals m);
    untouched = e.untouched;
  }
    where
      go : (k : ℕ) (j : Ident Spot) → Snoc k j a.variable_stack.locals (authoritative a i) → e.first ≤ j.id
      go k j (front m) = e.locals m
      go k j (last q z) = let y : j.id ≡ a.resolution_id = ap (λ (x : Ident Spot). x.id) z in omega (arith, e.past)

  -- a use is listed
  pub early_skip : (i j : Ident Spot) → Early n (with_prunings a (list_skip i j a.prunings))
  unfolding with_prunings
  early_skip i j = early_same (with_prunings a (list_skip i j a.prunings)) refl refl (skip_fates i j a.prunings) (omega arith)

  -- a local is poisoned, and its use listed
  pub early_poison : {k : ℕ} {j : Ident Spot} (i : Ident Spot) → Nth k j a.variable_stack.locals → Early n (with_prunings a (list_skip i j (poison_variable j.id a.prunings)))
  unfolding with_prunings
  early_poison {k} {j} i m = record {
    first = e.first;
    past = e.past;
    containers = e.containers;
    locals = e.locals;
    untouched = λ x h. let z = e.locals m in skip_fates i j (poison_variable j.id a.prunings) x ∙ poisoned_other j.id x a.prunings (λ q. absurd (omega arith)) ∙ e.untouched x h;
  }

  -- a goto
  pub early_goto : (l : Ident Spot) (p : Spot) → Early n (prepare_to_prune_at_goto l p a).1
  unfolding prepare_to_prune_at_goto with_prunings R.prepare_to_prune_at_goto fate
  early_goto l p = early_same (prepare_to_prune_at_goto l p a).1 refl refl (λ x. refl) (omega arith)

-- what a label prunes has the ids of the label's own layer
record Later (b : ℕ) (ls : List (Ident Spot)) : Type 0 where
  at : {k : ℕ} {i : Ident Spot} → Nth k i ls → b < i.id

later_rest : {b : ℕ} {x : Ident Spot} {ls : List (Ident Spot)} → Later b (x ∷ ls) → Later b ls
later_rest f = record { at = λ n. f.at (there n) }

later_drop : {b : ℕ} (m : ℕ) (ls : List (Ident Spot)) → Later b ls → Later b (drop m ls)
later_drop zero ls f = f
later_drop (suc m) [] f = f
later_drop (suc m) (x ∷ ls) f = later_drop m ls (later_rest f)

pruned_all : (l : Ident Spot) (u : UnresolvedPruning Spot) (x : ℕ) (xs : List (Ident Spot)) → Later x xs → (cs : List (Pruning Spot))
    → first (λ c. eqb c.variable x) (prune_all l u xs cs) ≡ first (λ c. eqb c.variable x) cs
unfolding prune_all
pruned_all l u x [] f cs = refl
pruned_all l u x (y ∷ xs) f cs = (elim (is_in y.id u.intersection_of_variables) as (λ b. first (λ c. eqb c.variable x) (elim b [
  | true ↦ prune_all l u xs cs
  | false ↦ prune_all l u xs (prune (record { variable = y.id; label = l; location_of_goto = u.location_of_goto }) cs)
]) ≡ first (λ c. eqb c.variable x) cs) [
  | true ↦ pruned_all l u x xs (later_rest f) cs
  | false ↦ pruned_all l u x xs (later_rest f) (prune (record { variable = y.id; label = l; location_of_goto = u.location_of_goto }) cs)
      ∙ prune_other (record { variable = y.id; label = l; location_of_goto = u.location_of_goto }) x (λ q. let z = f.at here in absurd (omega arith)) cs
])

pruned_by : (l : Ident Spot) (layer : List (Ident Spot)) (o : Option (UnresolvedPruning Spot)) (p : Prunings Spot) (x : ℕ) → Later x layer → fate x (prune_by l layer o p) ≡ fate x p
unfolding prune_by fate
pruned_by l layer none p x f = refl
pruned_by l layer (some u) p x f = ap (λ (o : Option (Pruning Spot)). fate_by o (is_in x p.poisoned_variables)) (pruned_all l u x layer f p.pruned_variables)

module _ {n : ℕ} {a : Analyzer Spot} (e : Early n a) where
  -- a label
  pub early_label : (l : Ident Spot) → Early n (prune_at_label l a).1
  unfolding prune_at_label with_prunings last_layer R.prune_at_label
  early_label l = record {
    first = e.first;
    past = e.past;
    containers = e.containers;
    locals = e.locals;
    untouched = λ x h.
        pruned_by l (drop a.variable_stack.layer a.variable_stack.locals) _ a.prunings x (later_drop a.variable_stack.layer a.variable_stack.locals (record { at = λ m. let z = e.locals m in omega arith })) ∙ e.untouched x h;
  }

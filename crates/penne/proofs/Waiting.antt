-- Gotos and labels, variable by variable: what they change in the waiting labels and in the set of what does not stand.
use Prim.Native.Nat.{ℕ}
use mathlib.Core.Bool.{Bool, true, false, ◌&&◌, ◌||◌, not, or-true, or-false}
use mathlib.Core.Path.{◌≡◌, refl, sym, ◌∙◌, ap}
use mathlib.Core.List.{List, [], ◌∷◌, ◌++◌, map}
use mathlib.Core.Option.{Option, none, some}
use lib.Dec.{eqb}
use borrow.Author.Tests.{eqb-true}
use Rattle.penne.specs.Find.{first, keep, is_in}
use Rattle.penne.specs.Pruning.{UnresolvedPruning, Pruning, Prunings, meet_at, prune, prune_all, prune_by, prune_at_label, fate}
use Rattle.penne.specs.Tree.{Ident}
use Rattle.penne.proofs.Steady.{is_some, gone_id, has, gone_by}
use Rattle.penne.proofs.Booleans.{eqb_sym, and-true, and-false}

-- the ids of variables
unfoldable pub ids_in : {P : Type 0} → List (Ident P) → List ℕ
ids_in {P} is = map (λ (i : Ident P). i.id) is

-- what unresolved_labels has of the label l
unfoldable pub waiting : {P : Type 0} → ℕ → List (UnresolvedPruning P) → Option (UnresolvedPruning P)
waiting l us = first (λ u. eqb u.label l) us

-- by what unresolved_labels has of the label
unfoldable pub lost_by : {P : Type 0} → ℕ → Option (UnresolvedPruning P) → Bool
lost_by x none = false
lost_by x (some u) = not (is_in x u.intersection_of_variables)

-- the variable x was out of scope at a goto to l that waits for its label
unfoldable pub lost_at : {P : Type 0} → ℕ → ℕ → List (UnresolvedPruning P) → Bool
lost_at l x us = lost_by x (waiting l us)

-- a goto to l waits for its label
unfoldable pub waits : {P : Type 0} → ℕ → List (UnresolvedPruning P) → Bool
waits l us = is_some (waiting l us)

-- SETS

-- with one more, the last
pub is_in_last : (x y : ℕ) (xs : List ℕ) → is_in x (xs ++ (y ∷ [])) ≡ (is_in x xs || eqb x y)
unfolding is_in
is_in_last x y [] = (elim (eqb x y) as (λ b. eqb x y ≡ b → is_in x (y ∷ []) ≡ eqb x y) [
  | true ↦ λ e. rw (e, is_in)
  | false ↦ λ e. rw (e, is_in)
]) refl
is_in_last x y (z ∷ xs) = (elim (eqb x z) as (λ b. eqb x z ≡ b → is_in x (z ∷ (xs ++ (y ∷ []))) ≡ (is_in x (z ∷ xs) || eqb x y)) [
  | true ↦ λ e. rw (e, is_in)
  | false ↦ λ e. rw (e, is_in) (is_in_last x y xs)
]) refl

-- of those that pass a test
is_in-keep : (x : ℕ) (f : ℕ → Bool) (xs : List ℕ) → is_in x (keep f xs) ≡ (is_in x xs && f x)
unfolding is_in keep
is_in-keep x f [] = refl
is_in-keep x f (y ∷ xs) = (elim (eqb x y) as (λ b. eqb x y ≡ b → is_in x (keep f (y ∷ xs)) ≡ (is_in x (y ∷ xs) && f x)) [
  | true ↦ λ e. (elim (f y) as (λ c. f y ≡ c → is_in x (keep f (y ∷ xs)) ≡ (is_in x (y ∷ xs) && f x)) [
    | true ↦ λ g. let z : f x ≡ true = ap f (eqb-true x y e) ∙ g in rw (g, keep, e, is_in, z)
    | false ↦ λ g. let z : f x ≡ false = ap f (eqb-true x y e) ∙ g in rw (g, keep, e, is_in, z) (is_in-keep x f xs ∙ ap (λ (c : Bool). is_in x xs && c) z ∙ and-false (is_in x xs))
  ]) refl
  | false ↦ λ e. (elim (f y) as (λ c. f y ≡ c → is_in x (keep f (y ∷ xs)) ≡ (is_in x (y ∷ xs) && f x)) [
    | true ↦ λ g. rw (g, keep, e, is_in) (is_in-keep x f xs)
    | false ↦ λ g. rw (g, keep, e, is_in) (is_in-keep x f xs)
  ]) refl
]) refl

-- AT A GOTO

not-and : (a b : Bool) → not (a && b) ≡ (not a || (not b && true))
not-and true true = refl
not-and true false = refl
not-and false b = refl

-- x is lost to l exactly where it is not in scope here, or was lost before
pub lost_meet : {P : Type 0} (m x l : ℕ) (here : List ℕ) (p : P) (us : List (UnresolvedPruning P)) → lost_at m x (meet_at l here p us) ≡ (lost_at m x us || (not (is_in x here) && eqb m l))
unfolding lost_at lost_by waiting first meet_at
lost_meet m x l here p [] = (elim (eqb l m) as (λ b. eqb l m ≡ b → lost_at m x (meet_at l here p []) ≡ (not (is_in x here) && eqb m l)) [
  | true ↦ λ e. rw (e, eqb_sym m l ∙ e, first, lost_by) (sym (and-true (not (is_in x here))))
  | false ↦ λ e. rw (e, eqb_sym m l ∙ e, first, lost_by) (sym (and-false (not (is_in x here))))
]) refl
lost_meet m x l here p (u ∷ us) = (elim (eqb u.label l) as (λ b. eqb u.label l ≡ b → lost_at m x (meet_at l here p (u ∷ us)) ≡ (lost_at m x (u ∷ us) || (not (is_in x here) && eqb m l))) [
  | true ↦ λ e. (elim (eqb l m) as (λ b. eqb l m ≡ b → lost_at m x (meet_at l here p (u ∷ us)) ≡ (lost_at m x (u ∷ us) || (not (is_in x here) && eqb m l))) [
    | true ↦ λ g. let z : eqb u.label m ≡ true = ap (λ (y : ℕ). eqb y m) (eqb-true _ _ e) ∙ g in rw (e, meet_at, g, z, first, lost_by, eqb_sym m l ∙ g) (ap not (is_in-keep x (λ y. is_in y here) u.intersection_of_variables) ∙ not-and (is_in x u.intersection_of_variables) (is_in x here))
    | false ↦ λ g. let z : eqb u.label m ≡ false = ap (λ (y : ℕ). eqb y m) (eqb-true _ _ e) ∙ g in rw (e, meet_at, g, z, first, lost_by, eqb_sym m l ∙ g) (sym (ap (λ (c : Bool). lost_at m x us || c) (and-false (not (is_in x here))) ∙ or-false _))
  ]) refl
  | false ↦ λ e. (elim (eqb u.label m) as (λ b. eqb u.label m ≡ b → lost_at m x (meet_at l here p (u ∷ us)) ≡ (lost_at m x (u ∷ us) || (not (is_in x here) && eqb m l))) [
    | true ↦ λ g. let z : eqb m l ≡ false = ap (λ (y : ℕ). eqb y l) (sym (eqb-true _ _ g)) ∙ e in rw (e, meet_at, g, first, lost_by, z) (sym (ap (λ (c : Bool). not (is_in x u.intersection_of_variables) || c) (and-false (not (is_in x here))) ∙ or-false _))
    | false ↦ λ g. rw (e, meet_at, g, first, lost_by) (lost_meet m x l here p us)
  ]) refl
]) refl

-- a goto to l waits for its label
pub waits_meet : {P : Type 0} (m l : ℕ) (here : List ℕ) (p : P) (us : List (UnresolvedPruning P)) → waits m (meet_at l here p us) ≡ (waits m us || eqb m l)
unfolding waits waiting first meet_at is_some
waits_meet m l here p [] = (elim (eqb l m) as (λ b. eqb l m ≡ b → waits m (meet_at l here p []) ≡ eqb m l) [
  | true ↦ λ e. rw (e, eqb_sym m l ∙ e, first, is_some)
  | false ↦ λ e. rw (e, eqb_sym m l ∙ e, first, is_some)
]) refl
waits_meet m l here p (u ∷ us) = (elim (eqb u.label l) as (λ b. eqb u.label l ≡ b → waits m (meet_at l here p (u ∷ us)) ≡ (waits m (u ∷ us) || eqb m l)) [
  | true ↦ λ e. (elim (eqb l m) as (λ b. eqb l m ≡ b → waits m (meet_at l here p (u ∷ us)) ≡ (waits m (u ∷ us) || eqb m l)) [
    | true ↦ λ g. let z : eqb u.label m ≡ true = ap (λ (y : ℕ). eqb y m) (eqb-true _ _ e) ∙ g in rw (e, meet_at, g, z, first, is_some)
    | false ↦ λ g. let z : eqb u.label m ≡ false = ap (λ (y : ℕ). eqb y m) (eqb-true _ _ e) ∙ g in rw (e, meet_at, g, z, first, is_some, eqb_sym m l ∙ g) (sym (or-false _))
  ]) refl
  | false ↦ λ e. (elim (eqb u.label m) as (λ b. eqb u.label m ≡ b → waits m (meet_at l here p (u ∷ us)) ≡ (waits m (u ∷ us) || eqb m l)) [
    | true ↦ λ g. rw (e, meet_at, g, first, is_some)
    | false ↦ λ g. rw (e, meet_at, g, first, is_some) (waits_meet m l here p us)
  ]) refl
]) refl

-- AT A LABEL

-- another label's gotos wait on
waiting-keep : {P : Type 0} (m l : ℕ) (us : List (UnresolvedPruning P)) → eqb m l ≡ false → waiting m (keep (λ u. not (eqb u.label l)) us) ≡ waiting m us
unfolding waiting first keep
waiting-keep m l [] e = refl
waiting-keep m l (u ∷ us) e = (elim (eqb u.label l) as (λ b. eqb u.label l ≡ b → waiting m (keep (λ u. not (eqb u.label l)) (u ∷ us)) ≡ waiting m (u ∷ us)) [
  | true ↦ λ g. let z : eqb u.label m ≡ false = ap (λ (y : ℕ). eqb y m) (eqb-true _ _ g) ∙ eqb_sym l m ∙ e in rw (g, keep, z, first) (waiting-keep m l us e)
  | false ↦ λ g. (elim (eqb u.label m) as (λ b. eqb u.label m ≡ b → waiting m (keep (λ u. not (eqb u.label l)) (u ∷ us)) ≡ waiting m (u ∷ us)) [
    | true ↦ λ z. rw (g, keep, z, first)
    | false ↦ λ z. rw (g, keep, z, first) (waiting-keep m l us e)
  ]) refl
]) refl

-- what is pruned already stays; the new one is
has-prune : {P : Type 0} (x : ℕ) (c : Pruning P) (cs : List (Pruning P)) → has x (prune c cs) ≡ (has x cs || eqb x c.variable)
unfolding has first prune is_some
has-prune x c [] = (elim (eqb c.variable x) as (λ b. eqb c.variable x ≡ b → has x (prune c []) ≡ eqb x c.variable) [
  | true ↦ λ e. rw (e, eqb_sym x c.variable ∙ e, first, is_some)
  | false ↦ λ e. rw (e, eqb_sym x c.variable ∙ e, first, is_some)
]) refl
has-prune x c (d ∷ cs) = (elim (eqb d.variable c.variable) as (λ b. eqb d.variable c.variable ≡ b → has x (prune c (d ∷ cs)) ≡ (has x (d ∷ cs) || eqb x c.variable)) [
  | true ↦ λ e. (elim (eqb d.variable x) as (λ b. eqb d.variable x ≡ b → has x (prune c (d ∷ cs)) ≡ (has x (d ∷ cs) || eqb x c.variable)) [
    | true ↦ λ g. rw (e, prune, g, first, is_some)
    | false ↦ λ g. let z : eqb x c.variable ≡ false = ap (λ (y : ℕ). eqb x y) (sym (eqb-true _ _ e)) ∙ eqb_sym x d.variable ∙ g in rw (e, prune, g, first, z) (sym (or-false _))
  ]) refl
  | false ↦ λ e. (elim (eqb d.variable x) as (λ b. eqb d.variable x ≡ b → has x (prune c (d ∷ cs)) ≡ (has x (d ∷ cs) || eqb x c.variable)) [
    | true ↦ λ g. rw (e, prune, g, first, is_some)
    | false ↦ λ g. rw (e, prune, g, first) (has-prune x c cs)
  ]) refl
]) refl

-- those of the layer that a goto missed are pruned
has-prune_all : {P : Type 0} (x : ℕ) (l : Ident P) (u : UnresolvedPruning P) (is : List (Ident P)) (cs : List (Pruning P)) → has x (prune_all l u is cs) ≡ (has x cs || (is_in x (ids_in is) && not (is_in x u.intersection_of_variables)))
unfolding prune_all ids_in is_in
has-prune_all x l u [] cs = sym (or-false _)
has-prune_all x l u (i ∷ is) cs = (elim (is_in i.id u.intersection_of_variables) as (λ b. is_in i.id u.intersection_of_variables ≡ b → has x (prune_all l u (i ∷ is) cs) ≡ (has x cs || (is_in x (ids_in (i ∷ is)) && not (is_in x u.intersection_of_variables)))) [
  | true ↦ λ e. (elim (eqb x i.id) as (λ b. eqb x i.id ≡ b → has x (prune_all l u (i ∷ is) cs) ≡ (has x cs || (is_in x (ids_in (i ∷ is)) && not (is_in x u.intersection_of_variables)))) [
    | true ↦ λ g. let z : is_in x u.intersection_of_variables ≡ true = ap (λ (y : ℕ). is_in y u.intersection_of_variables) (eqb-true _ _ g) ∙ e in rw (e, prune_all, g, is_in, z) (has-prune_all x l u is cs ∙ ap (λ (c : Bool). has x cs || (is_in x (ids_in is) && not c)) z ∙ ap (λ (c : Bool). has x cs || c) (and-false (is_in x (ids_in is))))
    | false ↦ λ g. rw (e, prune_all, g, is_in) (has-prune_all x l u is cs)
  ]) refl
  | false ↦ λ e. (elim (eqb x i.id) as (λ b. eqb x i.id ≡ b → has x (prune_all l u (i ∷ is) cs) ≡ (has x cs || (is_in x (ids_in (i ∷ is)) && not (is_in x u.intersection_of_variables)))) [
    | true ↦ λ g. let z : is_in x u.intersection_of_variables ≡ false = ap (λ (y : ℕ). is_in y u.intersection_of_variables) (eqb-true _ _ g) ∙ e in rw (e, prune_all, g, is_in, z) (has-prune_all x l u is _ ∙ ap (λ (c : Bool). c || (is_in x (ids_in is) && not (is_in x u.intersection_of_variables))) (has-prune x _ cs ∙ ap (λ (c : Bool). has x cs || c) g ∙ or-true (has x cs)) ∙ sym (or-true (has x cs)))
    | false ↦ λ g. rw (e, prune_all, g, is_in) (has-prune_all x l u is _ ∙ ap (λ (c : Bool). c || (is_in x (ids_in is) && not (is_in x u.intersection_of_variables))) (has-prune x _ cs ∙ ap (λ (c : Bool). has x cs || c) g ∙ or-false (has x cs)))
  ]) refl
]) refl

or_swap : (a b c : Bool) → ((a || c) || b) ≡ ((a || b) || c)
or_swap true b c = refl
or_swap false true c = or-true c
or_swap false false c = or-false c

gone_by_label : {P : Type 0} (x : ℕ) (l : Ident P) (is : List (Ident P)) (o : Option (UnresolvedPruning P)) (s : Prunings P) → gone_id x (prune_by l is o s) ≡ (gone_id x s || (is_in x (ids_in is) && lost_by x o))
unfolding prune_by lost_by gone_id fate has
gone_by_label x l is none s = sym (ap (λ (c : Bool). gone_id x s || c) (and-false (is_in x (ids_in is))) ∙ or-false _)
gone_by_label x l is (some u) s = gone_by _ _ ∙ ap (λ (c : Bool). c || is_in x s.poisoned_variables) (has-prune_all x l u is s.pruned_variables) ∙ or_swap (has x s.pruned_variables) (is_in x s.poisoned_variables) _ ∙ ap (λ (c : Bool). c || (is_in x (ids_in is) && not (is_in x u.intersection_of_variables))) (sym (gone_by _ _))

-- at a label l what is lost to it in the last layer does not stand any more
pub gone_label : {P : Type 0} (x : ℕ) (l : Ident P) (is : List (Ident P)) (s : Prunings P) → gone_id x (prune_at_label l is s) ≡ (gone_id x s || (is_in x (ids_in is) && lost_at l.id x s.unresolved_labels))
unfolding prune_at_label lost_at waiting
gone_label x l is s = gone_by_label x l is _ s

waiting_by_label : {P : Type 0} (m : ℕ) (l : Ident P) (is : List (Ident P)) (o : Option (UnresolvedPruning P)) (s : Prunings P) → eqb m l.id ≡ false → waiting m (prune_by l is o s).unresolved_labels ≡ waiting m s.unresolved_labels
unfolding prune_by
waiting_by_label m l is none s e = refl
waiting_by_label m l is (some u) s e = waiting-keep m l.id s.unresolved_labels e

-- another label's gotos wait on
pub waiting_label : {P : Type 0} (m : ℕ) (l : Ident P) (is : List (Ident P)) (s : Prunings P) → eqb m l.id ≡ false → waiting m (prune_at_label l is s).unresolved_labels ≡ waiting m s.unresolved_labels
unfolding prune_at_label
waiting_label m l is s e = waiting_by_label m l is _ s e

-- this label's gotos are no longer there
waiting_gone : {P : Type 0} (m l : ℕ) (us : List (UnresolvedPruning P)) → eqb m l ≡ true → waiting m (keep (λ u. not (eqb u.label l)) us) ≡ none
unfolding waiting first keep
waiting_gone m l [] e = refl
waiting_gone m l (u ∷ us) e = (elim (eqb u.label l) as (λ b. eqb u.label l ≡ b → waiting m (keep (λ u. not (eqb u.label l)) (u ∷ us)) ≡ none) [
  | true ↦ λ g. rw (g, keep) (waiting_gone m l us e)
  | false ↦ λ g. let z : eqb u.label m ≡ false = ap (λ (y : ℕ). eqb u.label y) (eqb-true _ _ e) ∙ g in rw (g, keep, z, first) (waiting_gone m l us e)
]) refl

kept_by_label : {P : Type 0} (x : ℕ) (l : Ident P) (is : List (Ident P)) (o : Option (UnresolvedPruning P)) (s : Prunings P) → ((m : ℕ) → lost_at m x s.unresolved_labels ≡ waits m s.unresolved_labels) → (m : ℕ) → lost_at m x (prune_by l is o s).unresolved_labels ≡ waits m (prune_by l is o s).unresolved_labels
unfolding prune_by lost_at waits lost_by is_some
kept_by_label x l is none s h m = h m
kept_by_label x l is (some u) s h m = (elim (eqb m l.id) as (λ b. eqb m l.id ≡ b → lost_at m x (keep (λ u. not (eqb u.label l.id)) s.unresolved_labels) ≡ waits m (keep (λ u. not (eqb u.label l.id)) s.unresolved_labels)) [
  | true ↦ λ e. let z = waiting_gone m l.id s.unresolved_labels e in ap (lost_by x) z ∙ sym (ap is_some z)
  | false ↦ λ e. let z = waiting-keep m l.id s.unresolved_labels e in ap (lost_by x) z ∙ h m ∙ sym (ap is_some z)
]) refl

-- an id that no goto's set holds is in none afterwards
pub kept_label : {P : Type 0} (x : ℕ) (l : Ident P) (is : List (Ident P)) (s : Prunings P) → ((m : ℕ) → lost_at m x s.unresolved_labels ≡ waits m s.unresolved_labels) → (m : ℕ) → lost_at m x (prune_at_label l is s).unresolved_labels ≡ waits m (prune_at_label l is s).unresolved_labels
unfolding prune_at_label
kept_label x l is s h m = kept_by_label x l is _ s h m

-- what waits behind a label waited before it
waits_keep : {P : Type 0} (m : ℕ) (f : UnresolvedPruning P → Bool) (us : List (UnresolvedPruning P)) → waits m (keep f us) ≡ true → waits m us ≡ true
unfolding waits waiting first keep is_some
waits_keep m f [] h = h
waits_keep m f (u ∷ us) h = (elim (eqb u.label m) as (λ b. eqb u.label m ≡ b → waits m (u ∷ us) ≡ true) [
  | true ↦ λ e. rw (e, first, is_some)
  | false ↦ λ e. rw (e, first) ((elim (f u) as (λ b. f u ≡ b → waits m us ≡ true) [
    | true ↦ λ g. waits_keep m f us (rw (g, keep, e, first) at h)
    | false ↦ λ g. waits_keep m f us (rw (g, keep) at h)
  ]) refl)
]) refl

waits_by_label : {P : Type 0} (m : ℕ) (l : Ident P) (is : List (Ident P)) (o : Option (UnresolvedPruning P)) (s : Prunings P) → waits m (prune_by l is o s).unresolved_labels ≡ true → waits m s.unresolved_labels ≡ true
unfolding prune_by
waits_by_label m l is none s h = h
waits_by_label m l is (some u) s h = waits_keep m _ s.unresolved_labels h

-- the same of prune_at_label
pub waits_label : {P : Type 0} (m : ℕ) (l : Ident P) (is : List (Ident P)) (s : Prunings P) → waits m (prune_at_label l is s).unresolved_labels ≡ true → waits m s.unresolved_labels ≡ true
unfolding prune_at_label
waits_label m l is s h = waits_by_label m l is _ s h

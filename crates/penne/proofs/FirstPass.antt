-- What the first pass makes of labels, on the skeleton: a goto has its label further on, in a scope that is open at the goto, and no label is met twice.
use Prim.Native.Nat.{ℕ, ◌<◌, ◌≤◌}
use mathlib.Core.Bool.{Bool, true, false, ◌&&◌, ◌||◌}
use mathlib.Core.Path.{◌≡◌, refl, sym, ◌∙◌, ap, subst}
use mathlib.Core.List.{List, [], ◌∷◌, ◌++◌}
use mathlib.Core.Option.{Option, none, some}
use mathlib.Core.Logic.{◌⊎◌, inl, inr, ⊎_elim}
use native.Mathlib.Omega.{arith}
use lib.Dec.{eqb}
use borrow.Author.Tests.{eqb-true, eq-eqb}
use Rattle.penne.specs.Find.{first, first_named, resolved}
use Rattle.penne.specs.Labels.{Labels, pop_scope, use_label, declare_label, declared, labels}
use Rattle.penne.specs.Tree.{Spot, Ident, StmSort, stmt, stmts, else_branch, Stm, nil', cons', declaration, assignment, method_call, loop, goto, label, if_else, block, bad_stmt, no_else, or_else}
use Rattle.penne.specs.Walks.{Act, use_of, run, jump, target, fork, past, Names, not_bare, premise}
use Rattle.penne.proofs.Skeleton.{Sk, seq, either, scoped}
use Rattle.penne.proofs.Booleans.{or_case, and_left, and_right, true_false, none_some, or_left, or_right, one_zero, is_false, both_false}
use Rattle.penne.proofs.SkeletonLabels.{Well, w_skip, w_seq, w_jumps, w_marks, w_either, w_scoped, jumps_to, has_mark, hides, hides_has, Apart, a_seq, a_either, a_scoped, q_seq, Quiet, q_reads, q_skip, quiet_well, quiet_jump, quiet_mark, quiet_apart, a_jumps, a_marks, a_skip, q_runs}
use Rattle.penne.proofs.BodySkeleton.{of_use, of_uses, sk}

-- an identifier with this id is in the list
unfoldable pub held_in : ℕ → List (Ident Spot) → Bool
held_in k [] = false
held_in k (i ∷ is) = eqb k i.id || held_in k is

-- one more, the last
pub held_last : (k : ℕ) (is : List (Ident Spot)) (i : Ident Spot) → held_in k (is ++ (i ∷ [])) ≡ true → (held_in k is ≡ true) ⊎ (k ≡ i.id)
unfolding held_in
held_last k [] i h = ⊎_elim (λ e. inr (eqb-true k i.id e)) (λ e. true_false (sym e)) (or_case _ _ h)
held_last k (j ∷ is) i h = ⊎_elim (λ e. inl (or_left (eqb k j.id) _ e)) (λ e. ⊎_elim (λ f. inl (or_right (eqb k j.id) _ f)) inr (held_last k is i e)) (or_case (eqb k j.id) _ h)

-- what a search finds is there
pub first_held : (f : Ident Spot → Bool) (is : List (Ident Spot)) (j : Ident Spot) → first f is ≡ some j → held_in j.id is ≡ true
unfolding first held_in
first_held f [] j h = none_some j h
first_held f (i ∷ is) j h = (elim (f i) as (λ b. f i ≡ b → held_in j.id (i ∷ is) ≡ true) [
  | true ↦ λ e. let z : some i ≡ some j = rw (e, first) at h in or_left _ _ (eq-eqb j.id i.id (let y : j ≡ i = cc in ap (λ (x : Ident Spot). x.id) y))
  | false ↦ λ e. or_right (eqb j.id i.id) _ (first_held f is j (rw (e, first) at h))
]) refl

-- the labels of the open scopes have ids that were given out
pub record Below (l : Labels Spot) : Type 0 where
  pub below : (k : ℕ) → held_in k l.label_stack ≡ true → k < l.resolution_id

-- from l to l' the pass goes over a; plain says that it is one statement, and no label
pub record Labelled (l l' : Labels Spot) (a : Sk) (plain : Bool) : Type 0 where
  pub rise : l.resolution_id ≤ l'.resolution_id
  pub marked : (k : ℕ) → has_mark k a ≡ true → (l.resolution_id ≤ k) × (k < l'.resolution_id)
  pub jumped : (k : ℕ) → jumps_to k a ≡ true → (held_in k l.label_stack ≡ true) ⊎ ((l.resolution_id ≤ k) × (k < l'.resolution_id))
  pub stack : (k : ℕ) → held_in k l'.label_stack ≡ true → (held_in k l.label_stack ≡ true) ⊎ ((l.resolution_id ≤ k) × (k < l'.resolution_id) × (hides k a ≡ false))
  pub no_mark : plain ≡ true → (k : ℕ) → held_in k l'.label_stack ≡ true → l.resolution_id ≤ k → has_mark k a ≡ false
  pub well : Well a
  pub apart : Apart a

-- so it is afterwards
below_after : {l l' : Labels Spot} {a : Sk} {b : Bool} → Below l → Labelled l l' a b → Below l'
below_after {l} {l'} o r = record { below = λ k h. ⊎_elim (λ e. let z = o.below k e in let y = r.rise in omega arith) (λ e. e.1) (r.stack k h) }

-- the second part is gone over first
lab_seq : {l l₁ l₂ : Labels Spot} {a c : Sk} {b b' : Bool} → Below l → Labelled l l₁ c b → Labelled l₁ l₂ a b' → Labelled l l₂ (seq a c) false
unfolding has_mark jumps_to hides
lab_seq {l} {l₁} {l₂} {a} {c} o r q =
    let y = r.rise in
    let y' = q.rise in
    record {
      rise = omega arith;
      marked = λ k h. ⊎_elim (λ e. let (f, g) = q.marked k e in (omega arith, omega arith)) (λ e. let (f, g) = r.marked k e in (omega arith, omega arith)) (or_case _ _ h);
      jumped = λ k h. ⊎_elim (λ e. ⊎_elim (λ f. ⊎_elim inl (λ g. inr (g.0, let z = g.1 in omega arith)) (r.stack k f)) (λ f. let z = f.0 in inr (omega arith, f.1)) (q.jumped k e)) (λ e. ⊎_elim inl (λ f. let z = f.1 in inr (f.0, omega arith)) (r.jumped k e)) (or_case _ _ h);
      stack = λ k h. ⊎_elim (λ e. ⊎_elim inl (λ f. let z = f.1 in inr (f.0, omega arith, both_false _ _ (is_false _ (λ x. let (g, g') = q.marked k (hides_has k a x) in omega arith)) f.2)) (r.stack k e)) (λ e. let z = e.0 in inr (omega arith, e.1, both_false _ _ e.2 (is_false _ (λ x. let (g, g') = r.marked k (hides_has k c x) in omega arith)))) (q.stack k h);
      no_mark = λ z. true_false (sym z);
      well = w_seq q.well r.well
          (λ k h. is_false _ (λ x. let (g, g') = q.marked k x in ⊎_elim (λ e. let w = o.below k e in omega arith) (λ e. let w = e.1 in omega arith) (r.jumped k h)))
          (λ k h. is_false _ (λ x. let (g, g') = r.marked k (hides_has k c x) in ⊎_elim (λ e. ⊎_elim (λ f. let w = o.below k f in omega arith) (λ f. true_false (sym x ∙ f.2)) (r.stack k e)) (λ e. let w = e.0 in omega arith) (q.jumped k h)));
      apart = a_seq q.apart r.apart (λ k h. is_false _ (λ x. let (g, g') = q.marked k h in let (f, f') = r.marked k x in omega arith));
    }

-- an If whose branches are no labels
lab_either : {l l₁ l₂ : Labels Spot} {a c : Sk} → Below l → Labelled l l₁ a true → Labelled l₁ l₂ c true → Labelled l l₂ (either a c) true
unfolding has_mark jumps_to hides
lab_either {l} {l₁} {l₂} {a} {c} o r q =
    let y = r.rise in
    let y' = q.rise in
    record {
      rise = omega arith;
      marked = λ k h. ⊎_elim (λ e. let (f, g) = r.marked k e in (omega arith, omega arith)) (λ e. let (f, g) = q.marked k e in (omega arith, omega arith)) (or_case _ _ h);
      jumped = λ k h. ⊎_elim (λ e. ⊎_elim inl (λ f. let z = f.1 in inr (f.0, omega arith)) (r.jumped k e)) (λ e. ⊎_elim (λ f. ⊎_elim inl (λ g. inr (g.0, let z = g.1 in omega arith)) (r.stack k f)) (λ f. let z = f.0 in inr (omega arith, f.1)) (q.jumped k e)) (or_case _ _ h);
      stack = over;
      no_mark = λ z k h g. ⊎_elim (λ e. let w = o.below k e in one_zero (omega arith)) (λ e. e.2) (over k h);
      well = w_either r.well q.well
          (λ k h. is_false _ (λ x. let (g, g') = q.marked k x in ⊎_elim (λ e. let w = o.below k e in omega arith) (λ e. let w = e.1 in omega arith) (r.jumped k h)))
          (λ k h. is_false _ (λ x. let (g, g') = r.marked k x in ⊎_elim (λ e. true_false (sym x ∙ r.no_mark refl k e (omega arith))) (λ e. let w = e.0 in omega arith) (q.jumped k h)));
      apart = a_either r.apart q.apart (λ k h. is_false _ (λ x. let (g, g') = r.marked k h in let (f, f') = q.marked k x in omega arith));
    }
  where
    over : (k : ℕ) → held_in k l₂.label_stack ≡ true → (held_in k l.label_stack ≡ true) ⊎ ((l.resolution_id ≤ k) × (k < l₂.resolution_id) × ((has_mark k a || has_mark k c) ≡ false))
    over k h =
        let y = r.rise in
        let y' = q.rise in
        ⊎_elim (λ e. ⊎_elim inl (λ f. let z = f.1 in inr (f.0, omega arith, both_false (has_mark k a) (has_mark k c) (r.no_mark refl k e f.0) (is_false (has_mark k c) (λ x. let (g, g') = q.marked k x in omega arith)))) (r.stack k e)) (λ e. let z = e.0 in inr (omega arith, e.1, both_false (has_mark k a) (has_mark k c) (is_false (has_mark k a) (λ x. let (g, g') = r.marked k x in omega arith)) (q.no_mark refl k h z))) (q.stack k h)

-- a block: its labels are no longer open behind it
lab_scope : {l l₁ : Labels Spot} {a : Sk} {b : Bool} → Below l → Labelled l l₁ a b → Labelled l (pop_scope l l₁) (scoped a) true
unfolding has_mark jumps_to hides pop_scope
lab_scope o r = record {
  rise = r.rise;
  marked = r.marked;
  jumped = r.jumped;
  stack = λ k h. inl h;
  no_mark = λ z k h g. let w = o.below k h in one_zero (omega arith);
  well = w_scoped r.well;
  apart = a_scoped r.apart;
}

-- uses are quiet
pub quiet_uses : (xs : List Act) → Quiet (of_uses xs)
unfolding of_uses of_use
quiet_uses [] = q_skip
quiet_uses (x ∷ xs) = q_seq (one x) (quiet_uses xs)
  where
    one : (x : Act) → Quiet (of_use x)
    one (use_of u t) = q_reads
    one (run m) = q_skip
    one (jump l) = q_skip
    one (target l) = q_skip
    one (fork k) = q_skip
    one (past k) = q_skip

-- what is quiet changes nothing
lab_quiet : {l : Labels Spot} {a : Sk} {b : Bool} → Quiet a → Labelled l l a b
lab_quiet q = record {
  rise = omega arith;
  marked = λ k h. true_false (sym h ∙ quiet_mark k q);
  jumped = λ k h. true_false (sym h ∙ quiet_jump k q);
  stack = λ k h. inl h;
  no_mark = λ z k h g. quiet_mark k q;
  well = quiet_well q;
  apart = quiet_apart q;
}

lab_prefix : {l l' : Labels Spot} {a c : Sk} {b : Bool} → Below l → Quiet a → Labelled l l' c b → Labelled l l' (seq a c) b
unfolding has_mark
lab_prefix {l} {l'} {a} {c} {b} o q r =
    let w = lab_seq {b' = false} o r (lab_quiet q) in
    record { rise = w.rise; marked = w.marked; jumped = w.jumped; stack = w.stack; no_mark = λ z k h g. rw (quiet_mark k q) (r.no_mark z k h g); well = w.well; apart = w.apart }

-- a goto that was resolved, or is a poison now
lab_goto : (l : Labels Spot) (n : Names) (i : Ident Spot) (p : Spot) (o : Option (Ident Spot)) → first_named i.name l.label_stack ≡ o → Labelled l l (sk (use_label i p o) n) (not_bare (use_label i p o))
unfolding sk use_label not_bare resolved first_named jumps_to has_mark hides
lab_goto l n i p none e = lab_quiet q_skip
lab_goto l n i p (some j) e = record {
  rise = omega arith;
  marked = λ k h. true_false (sym h);
  jumped = λ k h. inl (ap (λ (x : ℕ). held_in x l.label_stack) (eqb-true k j.id h) ∙ first_held _ l.label_stack j e);
  stack = λ k h. inl h;
  no_mark = λ z k h g. refl;
  well = w_jumps;
  apart = a_jumps;
}

-- a label, or a duplicate
lab_label : (l : Labels Spot) (n : Names) (i : Ident Spot) (p : Spot) (o : Option (Ident Spot)) → i.id ≡ l.resolution_id → Below l → Labelled l (declared i l) (sk (declare_label i p o) n) (not_bare (declare_label i p o))
unfolding sk declare_label declared not_bare jumps_to has_mark hides
lab_label l n i p none e b = record {
  rise = omega arith;
  marked = λ k h. let z = eqb-true k i.id h in (omega arith, omega arith);
  jumped = λ k h. true_false (sym h);
  stack = λ k h. ⊎_elim inl (λ z. inr (omega arith, omega arith, refl)) (held_last k l.label_stack i h);
  no_mark = λ z. true_false (sym z);
  well = w_marks;
  apart = a_marks;
}
lab_label l n i p (some j) e b = record {
  rise = omega arith;
  marked = λ k h. true_false (sym h);
  jumped = λ k h. true_false (sym h);
  stack = λ k h. ⊎_elim inl (λ z. inr (omega arith, omega arith, refl)) (held_last k l.label_stack i h);
  no_mark = λ z k h g. refl;
  well = w_skip;
  apart = a_skip;
}

-- one statement, not a list
unfoldable pub is_one : StmSort → Bool
is_one stmt = true
is_one stmts = false
is_one else_branch = true

lab_plain : {l l' : Labels Spot} {a : Sk} {b b' : Bool} → b' ≡ b → Labelled l l' a b → Labelled l l' a b'
lab_plain {l} {l'} {a} e r = subst (λ (c : Bool). Labelled l l' a c) (sym e) r

-- THE FIRST PASS LEAVES LABELS WELL
pub labelled : {s : StmSort} (t : Stm Spot s) (l : Labels Spot) (n : Names) → Below l → premise (labels t l).0 ≡ true → Labelled l (labels t l).1 (sk (labels t l).0 n) (is_one s && not_bare (labels t l).0)
unfolding labels sk premise not_bare is_one resolved
labelled nil' l n o h = lab_quiet q_skip
labelled (cons' t ts) l n o h =
    let r = labelled ts l _ o (and_right (premise (labels t (labels ts l).1).0) _ h) in
    lab_seq o r (labelled t (labels ts l).1 n (below_after o r) (and_left _ _ h))
labelled (declaration p v t i) l n o h = lab_quiet (q_seq (quiet_uses _) q_runs)
labelled (assignment p v r) l n o h = lab_quiet (q_seq (quiet_uses _) (quiet_uses _))
labelled (method_call i b es) l n o h = lab_quiet (quiet_uses _)
labelled (loop p) l n o h = lab_quiet q_skip
labelled (goto i p) l n o h = lab_goto l n i p _ refl
labelled (label i p) l n o h = lab_label l n (resolved i l.resolution_id 1) p _ refl o
labelled (if_else p op q r x y t e) l n o h =
    let h₁ = and_left _ _ h in
    let h₂ = and_left _ _ h₁ in
    let a = labelled t l n o (and_right (not_bare (labels t l).0 && not_bare (labels e (labels t l).1).0) _ h₁) in
    let c = labelled e (labels t l).1 _ (below_after o a) (and_right (not_bare (labels t l).0 && not_bare (labels e (labels t l).1).0 && premise (labels t l).0) _ h) in
    lab_prefix o (quiet_uses _) (lab_prefix o (quiet_uses _) (lab_either o (lab_plain (sym (and_left _ _ h₂)) a) (lab_plain (sym (and_right (not_bare (labels t l).0) _ h₂)) c)))
labelled (block p ts) l n o h = lab_scope o (labelled ts l n o h)
labelled (bad_stmt z) l n o h = lab_quiet q_skip
labelled no_else l n o h = lab_quiet q_skip
labelled (or_else p t) l n o h = labelled t l n o h

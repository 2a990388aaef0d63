-- Statement by statement: the second pass goes in step with pruning on the skeleton, and puts into the list what pruning there refuses.
use Prim.Native.Nat.{ℕ, ◌≤◌}
use mathlib.Core.Bool.{Bool, true, false, ◌&&◌, ◌||◌, or-false}
use mathlib.Core.Path.{◌≡◌, refl, sym, ◌∙◌, ap, subst}
use mathlib.Core.List.{List, [], ◌∷◌, ◌++◌, append_assoc, append-nil}
use mathlib.Core.Logic.{◌⊎◌, inl, inr, ⊎_elim}
use native.Mathlib.Omega.{arith}
use borrow.Author.Tests.{eq-eqb}
use Rattle.penne.specs.Pruning.{offsets}
use Rattle.penne.specs.Scopes.{Analyzer}
use Rattle.penne.specs.Find.{resolved}
use Rattle.penne.specs.Tree.{Spot, Ident, StmSort, Stm, nil', cons', declaration, assignment, method_call, loop, goto, label, if_else, block, bad_stmt, no_else, or_else}
use Rattle.penne.specs.Walks.{Act, use_of, run, jump, target, fork, past, Target, Names, with_scope, declared, uses, option_uses, acts, not_bare, premise, record_if}
use Rattle.penne.specs.State as S
use Rattle.penne.specs.Pruning as R
use Rattle.penne.specs.Scopes as Q
use Rattle.penne.specs.Variables as V'
use Rattle.penne.proofs.Booleans.{and_left, and_right, true_false, or_left, or_right, both_false, or-or, never_true}
use Rattle.penne.proofs.Skeleton.{Sk, skip, seq, runs, jumps, marks, either, scoped, flat}
use Rattle.penne.proofs.SkeletonLabels.{has_mark, Apart, a_seq, a_either, a_scoped, quiet_mark}
use Rattle.penne.proofs.Missed.{picked_by, picked_append}
use Rattle.penne.proofs.PruningIsFlow.{St, st, enter, back, pruned, gone_at, refused, refused_fits}
use Rattle.penne.proofs.BodySkeleton.{of_use, of_uses, sk}
use Rattle.penne.proofs.FirstPass.{quiet_uses, is_one}
use Rattle.penne.proofs.BodyPruning.{same_scope}
use Rattle.penne.proofs.Steady.{Steady, steady_trans, steady_node, steady_maybe, steady_called, steady_option}
use Rattle.penne.proofs.Keeps.{Grow, g_stm, label_skips}
use Rattle.penne.specs.Scopes.{new_scope}
use Rattle.penne.proofs.Looks.{gone_use, told, Looked, looked_more, looked, looked_option, looked_carried, looked_called, sees_after}
use Rattle.penne.proofs.InStep.{InStep, sees, in_steady, in_declare, in_goto, in_label, in_scope, in_branch, Further, in_back}

-- LABELS THAT WERE MET

-- those of a skeleton too
abbrev pub met_in : (ℕ → Bool) → Sk → ℕ → Bool
met_in met s = λ l. met l || has_mark l s

-- no label of the skeleton was met before, and none is met twice in it
pub record Clear (met : ℕ → Bool) (s : Sk) : Type 0 where
  pub apart : Apart s
  pub clear : (l : ℕ) → has_mark l s ≡ true → met l ≡ false

-- a label of what follows was not met in what went before
next_clear : (met : ℕ → Bool) (a c : Sk) → ((l : ℕ) → has_mark l a ≡ true → has_mark l c ≡ false) → ((l : ℕ) → (has_mark l a || has_mark l c) ≡ true → met l ≡ false) → (l : ℕ) → has_mark l c ≡ true → met_in met a l ≡ false
next_clear met a c h g l e = both_false (met l) (has_mark l a) (g l (or_right (has_mark l a) _ e)) (never_true _ (λ z. sym e ∙ h l z))

-- parts of a skeleton
pub clear_first : {met : ℕ → Bool} {a c : Sk} → Clear met (seq a c) → Clear met a
unfolding has_mark
clear_first {met} {a} {c} v = record { apart = go v.apart; clear = λ l e. v.clear l (or_left _ _ e) }
  where
    go : Apart (seq a c) → Apart a
    go (a_seq x y z) = x

pub clear_second : {met : ℕ → Bool} {a c : Sk} → Clear met (seq a c) → Clear (met_in met a) c
unfolding has_mark
clear_second {met} {a} {c} v = go v.apart
  where
    go : Apart (seq a c) → Clear (met_in met a) c
    go (a_seq x y z) = record { apart = y; clear = next_clear met a c z v.clear }

pub clear_then : {met : ℕ → Bool} {a c : Sk} → Clear met (either a c) → Clear met a
unfolding has_mark
clear_then {met} {a} {c} v = record { apart = go v.apart; clear = λ l e. v.clear l (or_left _ _ e) }
  where
    go : Apart (either a c) → Apart a
    go (a_either x y z) = x

pub clear_else : {met : ℕ → Bool} {a c : Sk} → Clear met (either a c) → Clear (met_in met a) c
unfolding has_mark
clear_else {met} {a} {c} v = go v.apart
  where
    go : Apart (either a c) → Clear (met_in met a) c
    go (a_either x y z) = record { apart = y; clear = next_clear met a c z v.clear }

pub clear_scope : {met : ℕ → Bool} {a : Sk} → Clear met (scoped a) → Clear met a
unfolding has_mark
clear_scope {met} {a} v = record { apart = go v.apart; clear = v.clear }
  where
    go : Apart (scoped a) → Apart a
    go (a_scoped x) = x

-- THE LIST OF A SKELETON

-- what pruning on a skeleton puts into the list
unfoldable pub refusals : Sk → (ℕ → St) → List (ℕ × ℕ)
refusals s f = picked_by (refused s f) (flat s)

-- of two skeletons
refusals-seq : (a c : Sk) (f : ℕ → St) → refusals (seq a c) f ≡ refusals a f ++ refusals c (λ k. pruned k a (f k))
unfolding refusals refused flat
refusals-seq a c f = picked_append _ _ (refused_fits a f)

-- of the branches of an If
refusals-either : (a c : Sk) (f : ℕ → St) → refusals (either a c) f ≡ refusals a (λ k. enter (f k)) ++ refusals c (λ k. enter (back (f k) (pruned k a (enter (f k)))))
unfolding refusals refused flat picked_by record_if
refusals-either a c f = picked_append _ _ (refused_fits a _)

-- of uses: those whose local does not stand
refusals_uses : (xs : List Act) (f : ℕ → St) → refusals (of_uses xs) f ≡ told f xs
unfolding refusals refused flat of_uses of_use picked_by told gone_use record_if pruned
refusals_uses [] f = refl
refusals_uses (use_of u t ∷ xs) f = ap (λ (l : List (ℕ × ℕ)). record_if (gone_at f t) (use_of u t) ++ l) (refusals_uses xs f)
refusals_uses (run m ∷ xs) f = refusals_uses xs f
refusals_uses (jump l ∷ xs) f = refusals_uses xs f
refusals_uses (target l ∷ xs) f = refusals_uses xs f
refusals_uses (fork k ∷ xs) f = refusals_uses xs f
refusals_uses (past k ∷ xs) f = refusals_uses xs f

-- uses change nothing
pruned_uses : (k : ℕ) (xs : List Act) (s : St) → pruned k (of_uses xs) s ≡ s
unfolding of_uses of_use pruned
pruned_uses k [] s = refl
pruned_uses k (use_of u t ∷ xs) s = pruned_uses k xs s
pruned_uses k (run m ∷ xs) s = pruned_uses k xs s
pruned_uses k (jump l ∷ xs) s = pruned_uses k xs s
pruned_uses k (target l ∷ xs) s = pruned_uses k xs s
pruned_uses k (fork m ∷ xs) s = pruned_uses k xs s
pruned_uses k (past m ∷ xs) s = pruned_uses k xs s

-- A STEP

-- over the skeleton s, from a with the names n to b with the names n'
pub record Step (w : Bool) (met : ℕ → Bool) (s : Sk) (n n' : Names) (f : ℕ → St) (a b : Analyzer Spot) : Type 0 where
  pub instep : InStep w (met_in met s) n' (λ k. pruned k s (f k)) b
  pub list : offsets b.prunings.skips ≡ offsets a.prunings.skips ++ refusals s f
  pub further : Further n n'

-- other words for what was met, and for what the skeleton says
in_as : {w : Bool} {met met' : ℕ → Bool} {n : Names} {f g : ℕ → St} {a : Analyzer Spot} → ((l : ℕ) → met l ≡ met' l) → ((k : ℕ) → f k ≡ g k) → InStep w met n f a → InStep w met' n g a
in_as {w} {met} {met'} {n} {f} {g} {a} e h v = subst (λ (z : ℕ → Bool). InStep w z n g a) (λ t l. e l t) (subst (λ (z : ℕ → St). InStep w met n z a) (λ t k. h k t) v)

-- one after the other
further_trans : {n n₁ n₂ : Names} → Further n n₁ → Further n₁ n₂ → Further n n₂
further_trans {n} p q =
    let c = p.count in
    let c' = q.count in
    record {
      count = omega arith;
      names = p.names ++ q.names;
      scope = q.scope ∙ ap (λ (es : List (ℕ × Target)). es ++ q.names) p.scope ∙ append_assoc n.scope p.names q.names;
    }

-- one skeleton after another
pub step_seq : {w : Bool} {met : ℕ → Bool} {s s' : Sk} {n n₁ n₂ : Names} {f : ℕ → St} {a b c : Analyzer Spot} → Step w met s n n₁ f a b → Step w (met_in met s) s' n₁ n₂ (λ k. pruned k s (f k)) b c → Step w met (seq s s') n n₂ f a c
unfolding pruned has_mark
step_seq {w} {met} {s} {s'} {n} {n₁} {n₂} {f} {a} {b} {c} p q = record {
  instep = in_as (λ l. or-or (met l) (has_mark l s) (has_mark l s')) (λ k. refl) q.instep;
  list = q.list ∙ ap (λ (l : List (ℕ × ℕ)). l ++ refusals s' (λ k. pruned k s (f k))) p.list ∙ append_assoc (offsets a.prunings.skips) (refusals s f) _ ∙ ap (λ (l : List (ℕ × ℕ)). offsets a.prunings.skips ++ l) (sym (refusals-seq s s' f));
  further = further_trans p.further q.further;
}

-- the names are the same
further_none : {n n' : Names} → n'.scope ≡ n.scope → n.count ≤ n'.count → Further n n'
further_none e c = record { count = c; names = []; scope = e ∙ sym (append-nil _) }

-- uses, and whatever leaves the state as they do
pub step_uses : {w : Bool} {met : ℕ → Bool} {n : Names} {f : ℕ → St} {a b : Analyzer Spot} (xs : List Act) → InStep w met n f a → Steady a b → Looked f xs a b → Step w met (of_uses xs) n n f a b
step_uses {w} {met} {n} {f} {a} xs v t l = record {
  instep = in_as (λ m. sym (ap (λ (z : Bool). met m || z) (quiet_mark m (quiet_uses xs)) ∙ or-false (met m))) (λ k. sym (pruned_uses k xs (f k))) (in_steady v t l.contains);
  list = l.list ∙ ap (λ (z : List (ℕ × ℕ)). offsets a.prunings.skips ++ z) (sym (refusals_uses xs f));
  further = further_none refl (omega arith);
}

-- nothing
step_skip : {w : Bool} {met : ℕ → Bool} {n : Names} {f : ℕ → St} {a : Analyzer Spot} → InStep w met n f a → Step w met skip n n f a a
unfolding pruned has_mark refusals refused picked_by
step_skip {w} {met} v = record {
  instep = in_as (λ l. sym (or-false (met l))) (λ k. refl) v;
  list = sym (append-nil _);
  further = further_none refl (omega arith);
}

-- a declaration statement
step_run : {w : Bool} {met : ℕ → Bool} {n : Names} {f : ℕ → St} {a : Analyzer Spot} (i : Ident Spot) → InStep w met n f a → Step w met (runs n.count) n (declared i n) f a (Q.declare_variable 4 i a).1
unfolding has_mark refusals refused flat picked_by record_if declared with_scope Q.declare_variable Q.next_id Q.with_stack Q.push_variable Q.authoritative resolved
step_run {w} {met} {n} {f} {a} i v = record {
  instep = in_as (λ l. sym (or-false (met l))) (λ k. refl) (in_declare i v);
  list = sym (append-nil _);
  further = record { count = omega arith; names = _; scope = refl };
}

-- a goto
step_jump : {w : Bool} {met : ℕ → Bool} {n : Names} {f : ℕ → St} {a : Analyzer Spot} (i : Ident Spot) (p : Spot) → InStep w met n f a → Step w met (jumps i.id) n n f a (Q.prepare_to_prune_at_goto i p a).1
unfolding has_mark refusals refused flat picked_by record_if Q.prepare_to_prune_at_goto Q.with_prunings R.prepare_to_prune_at_goto
step_jump {w} {met} i p v = record {
  instep = in_as (λ l. sym (or-false (met l))) (λ k. refl) (in_goto i p v);
  list = sym (append-nil _);
  further = further_none refl (omega arith);
}

-- a label
step_mark : {w : Bool} {met : ℕ → Bool} {n : Names} {f : ℕ → St} {a : Analyzer Spot} (i : Ident Spot) → w ≡ true → Clear met (marks i.id) → InStep w met n f a → Step w met (marks i.id) n n f a (Q.prune_at_label i a).1
unfolding has_mark refusals refused flat picked_by record_if Q.prune_at_label Q.with_prunings
step_mark {w} {met} {a = a} i e c v = record {
  instep = in_label w i e (c.clear i.id (eq-eqb i.id i.id refl)) v;
  list = ap offsets (label_skips i (Q.last_layer a) a.prunings) ∙ sym (append-nil _);
  further = further_none refl (omega arith);
}

-- a block
step_scope : {w : Bool} {met : ℕ → Bool} {s : Sk} {n n' : Names} {f : ℕ → St} {a b : Analyzer Spot} → InStep w met n f a → Grow (new_scope a) b → Step true met s n n' (λ k. enter (f k)) (new_scope a) b → Step w met (scoped s) n (with_scope n' n.scope n'.count) f a (Q.with_stack b a.variable_stack)
unfolding has_mark pruned refusals refused flat with_scope Q.with_stack
step_scope v g p = record {
  instep = in_back g.pushed v p.further g.rise g.constants g.locals p.instep;
  list = p.list;
  further = further_none refl p.further.count;
}

-- a branch behind us, which declared nothing
pub in_behind : {w w' : Bool} {met met' : ℕ → Bool} {n n' : Names} {f g : ℕ → St} {a b : Analyzer Spot} → InStep w met n f a → Grow a b → Further n n' → n'.scope ≡ n.scope → b.variable_stack ≡ a.variable_stack → InStep w' met' n' g b → InStep w met' n' (λ k. back (f k) (g k)) b
unfolding with_scope Q.with_stack
in_behind {w} {w'} {met} {met'} {n} {n'} {f} {g} {a} {b} v z y e s u =
    let r = in_back z.pushed v y z.rise z.constants z.locals u in
    let r₁ = subst (λ (es : List (ℕ × Target)). InStep w met' (with_scope n' es n'.count) (λ k. back (f k) (g k)) (Q.with_stack b a.variable_stack)) (sym e) r in
    subst (λ (y : Q.Scope Spot). InStep w met' n' (λ k. back (f k) (g k)) (Q.with_stack b y)) (sym s) r₁

-- an If
step_either : {w : Bool} {met : ℕ → Bool} {s s' : Sk} {n n₁ n₂ : Names} {f : ℕ → St} {a b c : Analyzer Spot}
    → n₁.scope ≡ n.scope → n₂.scope ≡ n₁.scope → c.variable_stack ≡ b.variable_stack → Grow b c
    → InStep w (met_in met s) n₁ (λ k. back (f k) (pruned k s (enter (f k)))) b
    → Step false met s n n₁ (λ k. enter (f k)) a b
    → Step false (met_in met s) s' n₁ n₂ (λ k. enter (back (f k) (pruned k s (enter (f k))))) b c
    → Step w met (either s s') n n₂ f a c
unfolding has_mark pruned back st
step_either {w} {met} {s} {s'} {n} {n₁} {n₂} {f} {a} {b} {c} e d d' z v p q = record {
  instep = in_as (λ l. or-or (met l) (has_mark l s) (has_mark l s')) (λ k. refl) (in_behind v z q.further d d' q.instep);
  list = q.list ∙ ap (λ (l : List (ℕ × ℕ)). l ++ refusals s' (λ k. enter (back (f k) (pruned k s (enter (f k)))))) p.list ∙ append_assoc (offsets a.prunings.skips) (refusals s (λ k. enter (f k))) _ ∙ ap (λ (l : List (ℕ × ℕ)). offsets a.prunings.skips ++ l) (sym (refusals-either s s' f));
  further = further_none (d ∙ e) (further_trans p.further q.further).count;
}

-- THE STATEMENTS

-- a branch that is neither a declaration nor a label leaves the stack as it is
pub same_stack : {s : StmSort} (t : Stm Spot s) (a : Analyzer Spot) → is_one s ≡ true → not_bare t ≡ true → premise t ≡ true → (V'.analyze_stm t a).1.variable_stack ≡ a.variable_stack
unfolding V'.analyze_stm S.◌>>=◌ S.ret not_bare premise is_one Q.in_new_scope Q.with_stack Q.prepare_to_prune_at_goto Q.with_prunings
same_stack nil' a o h p = true_false (sym o)
same_stack (cons' t ts) a o h p = true_false (sym o)
same_stack (declaration p v t i) a o h q = true_false (sym h)
same_stack (assignment p v r) a o h q = (steady_trans (steady_node v a) (steady_node r (V'.analyze_node v a).1)).stack
same_stack (method_call i b es) a o h q = (steady_trans (steady_node es a) (steady_called i b (V'.analyze_node es a).1)).stack
same_stack (loop p) a o h q = refl
same_stack (goto i p) a o h q = refl
same_stack (label i p) a o h q = true_false (sym h)
same_stack (if_else p op q r x y t e) a o h z =
    let z₁ = and_left _ _ z in
    let z₂ = and_left _ _ z₁ in
    let a₁ = (V'.analyze_node x a).1 in
    let a₂ = (V'.analyze_node y a₁).1 in
    same_stack e (V'.analyze_stm t a₂).1 refl (and_right (not_bare t) _ z₂) (and_right (not_bare t && not_bare e && premise t) _ z) ∙ same_stack t a₂ refl (and_left _ _ z₂) (and_right (not_bare t && not_bare e) _ z₁) ∙ (steady_trans (steady_node x a) (steady_node y a₁)).stack
same_stack (block p ts) a o h q = refl
same_stack (bad_stmt z) a o h q = refl
same_stack no_else a o h q = refl
same_stack (or_else p t) a o h q = same_stack t a refl h q

-- layers are followed, or the statement is a branch that does not look at them
abbrev pub Mode : Bool → Bool → Type 0
Mode w plain = (w ≡ true) ⊎ (plain ≡ true)

-- THE SECOND PASS GOES IN STEP
pub step : {s : StmSort} (t : Stm Spot s) (w : Bool) (met : ℕ → Bool) (n : Names) (f : ℕ → St) (a : Analyzer Spot) → Mode w (is_one s && not_bare t) → premise t ≡ true → Clear met (sk t n) → InStep w met n f a → Step w met (sk t n) n (acts t n).1 f a (V'.analyze_stm t a).1
unfolding V'.analyze_stm S.◌>>=◌ S.ret sk acts is_one not_bare premise Q.in_new_scope
step nil' w met n f a o h c v = step_skip v
step (cons' t ts) w met n f a o h c v =
    let e : w ≡ true = ⊎_elim (λ x. x) (λ x. true_false (sym x)) o in
    let p = step t w met n f a (inl e) (and_left _ _ h) (clear_first c) v in
    step_seq p (step ts w _ _ _ _ (inl e) (and_right (premise t) _ h) (clear_second c) p.instep)
step (declaration p v t i) w met n f a o h c z =
    let l = looked_option v n f a (sees z) in
    let s = steady_option V'.analyze_node v a (λ x. steady_node x a) in
    let a₁ = (V'.analyze_option V'.analyze_node v a).1 in
    let l' = looked_more l (looked_carried t n f a₁ (sees_after (sees z) s l.contains)) in
    let s' = steady_trans s (steady_option V'.analyze_maybe_type t a₁ (λ x. steady_maybe x a₁)) in
    let q = step_uses (option_uses n v) z s' l' in
    step_seq q (step_run i q.instep)
step (assignment p x r) w met n f a o h c v =
    let q = step_uses (uses n x) v (steady_node x a) (looked x n f a (sees v)) in
    let a₁ = (V'.analyze_node x a).1 in
    step_seq q (step_uses (uses n r) q.instep (steady_node r a₁) (looked r n _ a₁ (sees q.instep)))
step (method_call i b es) w met n f a o h c v = step_uses (uses n es) v (steady_trans (steady_node es a) (steady_called i b _)) (looked_more (looked es n f a (sees v)) (looked_called i b f _))
step (loop p) w met n f a o h c v = step_skip v
step (goto i p) w met n f a o h c v = step_jump i p v
step (label i p) w met n f a o h c v = step_mark i (⊎_elim (λ x. x) (λ x. true_false (sym x)) o) c v
step (if_else p op q r x y t e) w met n f a o h c v =
    let h₁ = and_left _ _ h in
    let h₂ = and_left _ _ h₁ in
    let ht = and_right (not_bare t && not_bare e) _ h₁ in
    let he = and_right (not_bare t && not_bare e && premise t) _ h in
    let bt = and_left _ _ h₂ in
    let be = and_right (not_bare t) _ h₂ in
    let a₁ = (V'.analyze_node x a).1 in
    let a₂ = (V'.analyze_node y a₁).1 in
    let a₃ = (V'.analyze_stm t a₂).1 in
    let p₁ = step_uses (uses n x) v (steady_node x a) (looked x n f a (sees v)) in
    let p₂ = step_uses (uses n y) p₁.instep (steady_node y a₁) (looked y n _ a₁ (sees p₁.instep)) in
    let c₁ = clear_second (clear_second c) in
    let p₃ = step t false _ n _ a₂ (inr bt) ht (clear_then c₁) (in_branch p₂.instep) in
    let s₁ = same_scope t n refl bt ht in
    let s₂ = same_stack t a₂ refl bt ht in
    let v₃ = in_behind p₂.instep ((g_stm t).go a₂) p₃.further s₁ s₂ p₃.instep in
    let p₄ = step e false _ (acts t n).1 _ a₃ (inr be) he (clear_else c₁) (in_branch v₃) in
    step_seq p₁ (step_seq p₂ (step_either s₁ (same_scope e (acts t n).1 refl be he) (same_stack e a₃ refl be he) ((g_stm e).go a₃) v₃ p₃ p₄))
step (block p ts) w met n f a o h c v = step_scope v ((g_stm ts).go (new_scope a)) (step ts true met n _ _ (inl refl) h (clear_scope c) (in_scope v))
step (bad_stmt z) w met n f a o h c v = step_skip v
step no_else w met n f a o h c v = step_skip v
step (or_else p t) w met n f a o h c v = step t w met n f a o h c v

-- Goto pruning on a skeleton, seen from one declaration n; and that it says what `flow` says wherever n is in scope.
use Prim.Native.Nat.{ℕ}
use mathlib.Core.Bool.{Bool, true, false, ◌&&◌, ◌||◌, not, or-false, or_self}
use mathlib.Core.List.{List, [], ◌∷◌, ◌++◌}
use mathlib.Core.Path.{◌≡◌, refl, sym, ◌∙◌, ap, subst}
use lib.Dec.{eqb}
use mathlib.Core.Logic.{◌⊎◌, inl, inr, ⊎_elim, ◌↔◌}
use borrow.Author.Tests.{eq-eqb}
use lib.ListN.{get_or}
use Rattle.penne.specs.Walks.{use_of, Target, local, no_local, Skipped}
use Rattle.penne.proofs.Skeleton.{Sk, skip, seq, reads, runs, jumps, marks, either, scoped, Miss, miss, flow, flat}
use Rattle.penne.proofs.Missed.{missed, missed_at, at_else, missed_skipped, Fits, f_nil, f_no, f_use, fits_append}
use Rattle.penne.proofs.Booleans.{or_case, and_right, true_false, or_left, or_right, false_or_left, false_or_right, both_false, bool_case, not_both, and-true, and-false, or-or}
use Rattle.penne.proofs.SkeletonLabels.{Well, w_seq, w_either, w_scoped, jumps_to, has_mark, hides, hides_has}
use Rattle.penne.proofs.WalkIsFlow.{fresh}

-- what the second pass knows of n: it is in scope, it is in the last layer, it does not stand (pruned or poisoned); and for each label whether a goto to it was met where n was not in scope
pub record St : Type 0 where
  pub opened : Bool
  pub own : Bool
  pub gone : Bool
  pub lost : ℕ → Bool

-- the four together
unfoldable pub st : Bool → Bool → Bool → (ℕ → Bool) → St
st o w g l = record { opened = o; own = w; gone = g; lost = l }

-- in a new scope; back in the old one
unfoldable pub enter : St → St
enter s = st s.opened false s.gone s.lost

-- back in the old scope s, from t
unfoldable pub back : St → St → St
back s t = st s.opened s.own t.gone t.lost

-- from before a skeleton to behind it
unfoldable pub pruned : ℕ → Sk → St → St
pruned n skip s = s
pruned n (seq a c) s = pruned n c (pruned n a s)
pruned n (reads u t) s = s
pruned n (runs m) s = st (s.opened || eqb n m) (s.own || eqb n m) s.gone s.lost
pruned n (jumps l) s = st s.opened s.own s.gone (λ m. s.lost m || (not s.opened && eqb m l))
pruned n (marks l) s = st s.opened s.own (s.gone || (s.own && s.lost l)) s.lost
pruned n (either a c) s = back s (pruned n c (enter (back s (pruned n a (enter s)))))
pruned n (scoped a) s = back s (pruned n a (enter s))

-- n is run in it
unfoldable pub has_run : ℕ → Sk → Bool
has_run n skip = false
has_run n (seq a c) = has_run n a || has_run n c
has_run n (reads u t) = false
has_run n (runs m) = eqb n m
has_run n (jumps l) = false
has_run n (marks l) = false
has_run n (either a c) = has_run n a || has_run n c
has_run n (scoped a) = has_run n a

-- at most once
pub data Once (n : ℕ) : Sk → Type 0 where
  o_skip : Once n skip
  o_seq : {a c : Sk} → Once n a → Once n c → (has_run n a ≡ true → has_run n c ≡ false) → Once n (seq a c)
  o_reads : {u : ℕ} {t : Target} → Once n (reads u t)
  o_runs : {m : ℕ} → Once n (runs m)
  o_jumps : {l : ℕ} → Once n (jumps l)
  o_marks : {l : ℕ} → Once n (marks l)
  o_either : {a c : Sk} → Once n a → Once n c → (has_run n a ≡ true → has_run n c ≡ false) → Once n (either a c)
  o_scoped : {a : Sk} → Once n a → Once n (scoped a)

-- where n is not run, what is missing stays missing
keeps : (n : ℕ) (a : Sk) (m : Miss) → has_run n a ≡ false → m.here ≡ true → (flow n a m).here ≡ true
unfolding flow miss has_run
keeps n skip m r h = h
keeps n (seq a c) m r h = keeps n c _ (false_or_right (has_run n a) _ r) (keeps n a m (false_or_left _ _ r) h)
keeps n (reads u t) m r h = h
keeps n (runs k) m r h = rw (h, r)
keeps n (jumps l) m r h = h
keeps n (marks l) m r h = or_left _ _ h
keeps n (either a c) m r h = or_left _ _ (keeps n a m (false_or_left _ _ r) h)
keeps n (scoped a) m r h = keeps n a m r h

-- where nothing is missing and no label waits, nothing changes
pub record Dead (n : ℕ) (a : Sk) (m : Miss) : Type 0 where
  pub here : (flow n a m).here ≡ false
  pub at : (l : ℕ) → (flow n a m).at l ≡ m.at l

-- so it is where no label of a waits
dead : (n : ℕ) (a : Sk) (m : Miss) → m.here ≡ false → ((l : ℕ) → has_mark l a ≡ true → m.at l ≡ false) → Dead n a m
unfolding flow miss has_mark
dead n skip m h w = record { here = h; at = λ l. refl }
dead n (seq a c) m h w =
    let d = dead n a m h (λ l e. w l (or_left _ _ e)) in
    let d' = dead n c (flow n a m) d.here (λ l e. d.at l ∙ w l (or_right (has_mark l a) _ e)) in
    record { here = d'.here; at = λ l. d'.at l ∙ d.at l }
dead n (reads u t) m h w = record { here = h; at = λ l. refl }
dead n (runs k) m h w = record { here = rw h; at = λ l. refl }
dead n (jumps l) m h w = record { here = h; at = λ k. rw h (or-false (m.at k)) }
dead n (marks l) m h w = record { here = both_false _ _ h (w l (eq-eqb l l refl)); at = λ k. refl }
dead n (either a c) m h w =
    let d = dead n a m h (λ l e. w l (or_left _ _ e)) in
    let d' = dead n c (miss m.here (flow n a m).at) h (λ l e. d.at l ∙ w l (or_right (has_mark l a) _ e)) in
    record { here = both_false _ _ d.here d'.here; at = λ l. d'.at l ∙ d.at l }
dead n (scoped a) m h w = let d = dead n a m h w in record { here = d.here; at = d.at }

-- what waits waited before, or a goto to it was met
flow_at : (n l : ℕ) (a : Sk) (m : Miss) → (flow n a m).at l ≡ true → (m.at l ≡ true) ⊎ (jumps_to l a ≡ true)
unfolding flow miss jumps_to
flow_at n l skip m h = inl h
flow_at n l (seq a c) m h = go (flow_at n l c _ h) (flow_at n l a m)
  where
    go : (((flow n a m).at l ≡ true) ⊎ (jumps_to l c ≡ true)) → ((flow n a m).at l ≡ true → (m.at l ≡ true) ⊎ (jumps_to l a ≡ true)) → (m.at l ≡ true) ⊎ ((jumps_to l a || jumps_to l c) ≡ true)
    go (inr e) f = inr (or_right (jumps_to l a) _ e)
    go (inl e) f = ⊎_elim inl (λ x. inr (or_left _ _ x)) (f e)
flow_at n l (reads u t) m h = inl h
flow_at n l (runs k) m h = inl h
flow_at n l (jumps k) m h = ⊎_elim inl (λ x. inr (and_right m.here _ x)) (or_case _ _ h)
flow_at n l (marks k) m h = inl h
flow_at n l (either a c) m h = go (flow_at n l c (miss m.here (flow n a m).at) h) (flow_at n l a m)
  where
    go : (((flow n a m).at l ≡ true) ⊎ (jumps_to l c ≡ true)) → ((flow n a m).at l ≡ true → (m.at l ≡ true) ⊎ (jumps_to l a ≡ true)) → (m.at l ≡ true) ⊎ ((jumps_to l a || jumps_to l c) ≡ true)
    go (inr e) f = inr (or_right (jumps_to l a) _ e)
    go (inl e) f = ⊎_elim inl (λ x. inr (or_left _ _ x)) (f e)
flow_at n l (scoped a) m h = flow_at n l a m h

-- scopes: what is open stays open; what is opened here is in the last layer; what is in the last layer stays there
pub stays_open : (n : ℕ) (a : Sk) (s : St) → s.opened ≡ true → (pruned n a s).opened ≡ true
unfolding pruned st back enter
stays_open n skip s h = h
stays_open n (seq a c) s h = stays_open n c _ (stays_open n a s h)
stays_open n (reads u t) s h = h
stays_open n (runs m) s h = or_left _ _ h
stays_open n (jumps l) s h = h
stays_open n (marks l) s h = h
stays_open n (either a c) s h = h
stays_open n (scoped a) s h = h

stays_own : (n : ℕ) (a : Sk) (s : St) → s.own ≡ true → (pruned n a s).own ≡ true
unfolding pruned st back enter
stays_own n skip s h = h
stays_own n (seq a c) s h = stays_own n c _ (stays_own n a s h)
stays_own n (reads u t) s h = h
stays_own n (runs m) s h = or_left _ _ h
stays_own n (jumps l) s h = h
stays_own n (marks l) s h = h
stays_own n (either a c) s h = h
stays_own n (scoped a) s h = h

opens_own : (n : ℕ) (a : Sk) (s : St) → s.opened ≡ false → (pruned n a s).opened ≡ true → (pruned n a s).own ≡ true
unfolding pruned st back enter
opens_own n skip s h e = true_false (sym e ∙ h)
opens_own n (seq a c) s h e = ⊎_elim (λ f. stays_own n c _ (opens_own n a s h f)) (λ f. opens_own n c _ f e) (bool_case (pruned n a s).opened)
opens_own n (reads u t) s h e = true_false (sym e ∙ h)
opens_own n (runs m) s h e = ⊎_elim (λ f. true_false (sym f ∙ h)) (λ f. or_right s.own _ f) (or_case _ _ e)
opens_own n (jumps l) s h e = true_false (sym e ∙ h)
opens_own n (marks l) s h e = true_false (sym e ∙ h)
opens_own n (either a c) s h e = true_false (sym e ∙ h)
opens_own n (scoped a) s h e = true_false (sym e ∙ h)

-- how the two are related: r says whether n was run already
pub data Inv (r : Bool) (m : Miss) (s : St) : Type 0 where
  before : r ≡ false → s.opened ≡ false → s.own ≡ false → s.gone ≡ false → m.here ≡ true → ((l : ℕ) → m.at l ≡ s.lost l) → Inv r m s
  inside : r ≡ true → s.opened ≡ true → m.here ≡ s.gone → ((l : ℕ) → (m.here ≡ true) ⊎ (m.at l ≡ s.lost l)) → Inv r m s
  after : r ≡ true → s.opened ≡ false → Inv r m s

-- what is needed before a skeleton
pub record Pre (n : ℕ) (a : Sk) (r : Bool) (m : Miss) (s : St) : Type 0 where
  pub inv : Inv r m s
  pub once : Once n a
  pub unrun : r ≡ true → has_run n a ≡ false
  pub clear : (l : ℕ) → hides l a ≡ true → m.at l ≡ false
  pub inner : s.opened ≡ true → (s.own ≡ true) ⊎ ((m.here ≡ true) ⊎ ((l : ℕ) → has_mark l a ≡ true → m.at l ≡ false))

-- THE INVARIANT, statement by statement

-- where n is in scope, it was run
inside_run : {r : Bool} {m : Miss} {s : St} → Inv r m s → s.opened ≡ true → r ≡ true
inside_run (before a b c d e f) h = not_both h b
inside_run (inside a b c d) h = a
inside_run (after a b) h = a

-- before the first of two skeletons
pre_first : {n : ℕ} {a c : Sk} {r : Bool} {m : Miss} {s : St} → Pre n (seq a c) r m s → Pre n a r m s
unfolding has_run hides has_mark
pre_first p = record {
  inv = p.inv;
  once = go p.once;
  unrun = λ e. false_or_left _ _ (p.unrun e);
  clear = λ l e. p.clear l (or_left _ _ e);
  inner = λ e. ⊎_elim inl (λ x. inr (⊎_elim inl (λ f. inr (λ l g. f l (or_left _ _ g))) x)) (p.inner e);
}
  where
    go : {n : ℕ} {a c : Sk} → Once n (seq a c) → Once n a
    go (o_seq x y z) = x

-- before a second skeleton
pre_second : {n : ℕ} {a c : Sk} {r : Bool} {m : Miss} {s : St} → Well (seq a c) → Pre n (seq a c) r m s → Inv (r || has_run n a) (flow n a m) (pruned n a s) → Pre n c (r || has_run n a) (flow n a m) (pruned n a s)
unfolding has_run hides has_mark
pre_second {n} {a} {c} {r} {m} {s} (w_seq v w f g) p i = record {
  inv = i;
  once = once₂ p.once;
  unrun = λ e. ⊎_elim (λ x. false_or_right (has_run n a) _ (p.unrun x)) (once₃ p.once) (or_case _ _ e);
  clear = λ l e. ⊎_elim (λ x. ⊎_elim (λ y. not_both y (p.clear l (or_right (hides l a) _ e))) (λ y. not_both e (g l y)) (flow_at n l a m x)) (λ x. x) (bool_case ((flow n a m).at l));
  inner = λ e. ⊎_elim (λ o. go o (p.inner o)) (λ o. inl (opens_own n a s o e)) (bool_case s.opened);
}
  where
    once₂ : Once n (seq a c) → Once n c
    once₂ (o_seq x y z) = y

    once₃ : Once n (seq a c) → has_run n a ≡ true → has_run n c ≡ false
    once₃ (o_seq x y z) = z

    no_run : s.opened ≡ true → has_run n a ≡ false
    no_run o = false_or_left _ _ (p.unrun (inside_run p.inv o))

    go : s.opened ≡ true → (s.own ≡ true) ⊎ ((m.here ≡ true) ⊎ ((l : ℕ) → (has_mark l a || has_mark l c) ≡ true → m.at l ≡ false)) → ((pruned n a s).own ≡ true) ⊎ (((flow n a m).here ≡ true) ⊎ ((l : ℕ) → has_mark l c ≡ true → (flow n a m).at l ≡ false))
    go o (inl e) = inl (stays_own n a s e)
    go o (inr (inl e)) = inr (inl (keeps n a m (no_run o) e))
    go o (inr (inr h)) = inr (⊎_elim (λ e. inl (keeps n a m (no_run o) e)) (λ e. inr (λ l x. (dead n a m e (λ k y. h k (or_left _ _ y))).at l ∙ h l (or_right (has_mark l a) _ x))) (bool_case m.here))

-- in a new scope the relation is the same
inv_enter : {r : Bool} {m : Miss} {s : St} → Inv r m s → Inv r m (enter s)
unfolding enter st
inv_enter (before a b c d e f) = before a b refl d e f
inv_enter (inside a b c d) = inside a b c d
inv_enter (after a b) = after a b

-- back from a scope t that began in s
inv_back : {r r' : Bool} {m m' : Miss} {s t : St} → Inv r m s → (r' ≡ false → r ≡ false) → (s.opened ≡ true → t.opened ≡ true) → Inv r' m' t → Inv r' m' (back s t)
unfolding back st
inv_back (before a b c d e f) h k (before a' b' c' d' e' f') = before a' b c d' e' f'
inv_back (before a b c d e f) h k (inside a' b' c' d') = after a' b
inv_back (before a b c d e f) h k (after a' b') = after a' b
inv_back (inside a b c d) h k (before a' b' c' d' e' f') = not_both a (h a')
inv_back (inside a b c d) h k (inside a' b' c' d') = inside a' b c' d'
inv_back (inside a b c d) h k (after a' b') = not_both (k b) b'
inv_back (after a b) h k (before a' b' c' d' e' f') = not_both a (h a')
inv_back (after a b) h k (inside a' b' c' d') = after a' b
inv_back (after a b) h k (after a' b') = after a' b

-- before a scope, before a then branch
pre_scope : {n : ℕ} {a : Sk} {r : Bool} {m : Miss} {s : St} → Pre n (scoped a) r m s → Pre n a r m (enter s)
unfolding has_run hides has_mark enter st
pre_scope {n} {a} {r} {m} {s} p = record {
  inv = inv_enter p.inv;
  once = go p.once;
  unrun = p.unrun;
  clear = λ l e. p.clear l (hides_has l a e);
  inner = λ e. inr (inr p.clear);
}
  where
    go : Once n (scoped a) → Once n a
    go (o_scoped x) = x

pre_then : {n : ℕ} {a c : Sk} {r : Bool} {m : Miss} {s : St} → Pre n (either a c) r m s → Pre n a r m (enter s)
unfolding has_run hides has_mark enter st
pre_then {n} {a} {c} {r} {m} {s} p = record {
  inv = inv_enter p.inv;
  once = go p.once;
  unrun = λ e. false_or_left _ _ (p.unrun e);
  clear = λ l e. p.clear l (or_left _ _ (hides_has l a e));
  inner = λ e. inr (inr (λ l f. p.clear l (or_left _ _ f)));
}
  where
    go : Once n (either a c) → Once n a
    go (o_either x y z) = x

-- a branch in which n is in scope leaves what is missing as it is
same_here : (n : ℕ) (a : Sk) (m : Miss) → has_run n a ≡ false → ((l : ℕ) → has_mark l a ≡ true → m.at l ≡ false) → (flow n a m).here ≡ m.here
same_here n a m h w = ⊎_elim (λ e. keeps n a m h e ∙ sym e) (λ e. (dead n a m e w).here ∙ sym e) (bool_case m.here)

-- no label of the else branch waits
else_clear : {n : ℕ} {a c : Sk} {r : Bool} {m : Miss} {s : St} → Well (either a c) → Pre n (either a c) r m s → (l : ℕ) → has_mark l c ≡ true → (flow n a m).at l ≡ false
unfolding hides
else_clear {n} {a} {c} {r} {m} {s} (w_either v w f g) p l e = ⊎_elim (λ x. ⊎_elim (λ y. not_both y (p.clear l (or_right (has_mark l a) _ e))) (λ y. not_both e (f l y)) (flow_at n l a m x)) (λ x. x) (bool_case ((flow n a m).at l))

-- before an else branch
inv_else : (n : ℕ) (k : Sk) (r : Bool) (m : Miss) (s : St) → (r ≡ true → has_run n k ≡ false) → ((l : ℕ) → has_mark l k ≡ true → m.at l ≡ false) → Inv r m s → Inv (r || has_run n k) (flow n k m) (pruned n k (enter s)) → Inv (r || has_run n k) (miss m.here (flow n k m).at) (enter (back s (pruned n k (enter s))))
unfolding enter back st miss
inv_else n k r m s u w (before a b c d e f) (before a' b' c' d' e' f') = before a' b refl d' e f'
inv_else n k r m s u w (before a b c d e f) (inside a' b' c' d') = after a' b
inv_else n k r m s u w (before a b c d e f) (after a' b') = after a' b
inv_else n k r m s u w (inside a b c d) (before a' b' c' d' e' f') = not_both a (false_or_left _ _ a')
inv_else n k r m s u w (inside a b c d) (inside a' b' c' d') = let z = same_here n k m (u a) w in inside a' b (sym z ∙ c') (λ l. ⊎_elim (λ x. inl (sym z ∙ x)) inr (d' l))
inv_else n k r m s u w (inside a b c d) (after a' b') = not_both (stays_open n k (enter s) b) b'
inv_else n k r m s u w (after a b) i = after (or_left _ _ a) b

pre_else : {n : ℕ} {a c : Sk} {r : Bool} {m : Miss} {s : St} → Well (either a c) → Pre n (either a c) r m s → Inv (r || has_run n a) (flow n a m) (pruned n a (enter s)) → Pre n c (r || has_run n a) (miss m.here (flow n a m).at) (enter (back s (pruned n a (enter s))))
unfolding has_run hides miss
pre_else {n} {a} {c} {r} {m} {s} v p i = record {
  inv = inv_else n a r m s (λ e. false_or_left _ _ (p.unrun e)) (λ l e. p.clear l (or_left _ _ e)) p.inv i;
  once = once₂ p.once;
  unrun = λ e. ⊎_elim (λ x. false_or_right (has_run n a) _ (p.unrun x)) (once₃ p.once) (or_case _ _ e);
  clear = λ l e. else_clear v p l (hides_has l c e);
  inner = λ e. inr (inr (else_clear v p));
}
  where
    once₂ : Once n (either a c) → Once n c
    once₂ (o_either x y z) = y

    once₃ : Once n (either a c) → has_run n a ≡ true → has_run n c ≡ false
    once₃ (o_either x y z) = z

same_run : {r r' : Bool} {m : Miss} {s : St} → r ≡ r' → Inv r m s → Inv r' m s
same_run {r} {r'} {m} {s} e i = subst (λ (b : Bool). Inv b m s) e i

-- a declaration, a goto, a label
inv_run : (n k : ℕ) {r : Bool} {m : Miss} {s : St} → (r ≡ true → eqb n k ≡ false) → Inv r m s → (b : Bool) → eqb n k ≡ b → Inv (r || eqb n k) (flow n (runs k) m) (pruned n (runs k) s)
unfolding flow miss pruned st
inv_run n k {r} {m} {s} u (before a b c d e f) true z = inside (or_right r _ z) (or_right s.opened _ z) (rw (e, z) (sym d)) (λ l. inr (f l))
inv_run n k u (before a b c d e f) false z = before (rw (a, z)) (rw (b, z)) (rw (c, z)) d (rw (e, z)) f
inv_run n k u (inside a b c d) y z = inside (or_left _ _ a) (or_left _ _ b) (rw (u a) (and-true _ ∙ c)) (λ l. ⊎_elim (λ x. inl (rw (u a) (and-true _ ∙ x))) inr (d l))
inv_run n k u (after a b) y z = after (or_left _ _ a) (rw (b, u a))

inv_jump : (n k : ℕ) {r : Bool} {m : Miss} {s : St} → Inv r m s → Inv r (flow n (jumps k) m) (pruned n (jumps k) s)
unfolding flow miss pruned st
inv_jump n k (before a b c d e f) = before a b c d e (λ l. rw (b, e, f l))
inv_jump n k {r} {m} {s} (inside a b c d) = inside a b c (λ l. ⊎_elim inl (λ x. ⊎_elim inl (λ y. inr (ap (λ (h : Bool). m.at l || (h && eqb l k)) y ∙ or-false _ ∙ x ∙ sym (or-false _) ∙ ap (λ (h : Bool). s.lost l || (not h && eqb l k)) (sym b))) (bool_case m.here)) (d l))
inv_jump n k (after a b) = after a b

inv_mark : (n k : ℕ) {r : Bool} {m : Miss} {s : St} → (s.opened ≡ true → (s.own ≡ true) ⊎ ((m.here ≡ true) ⊎ (m.at k ≡ false))) → Inv r m s → Inv r (flow n (marks k) m) (pruned n (marks k) s)
unfolding flow miss pruned st
inv_mark n k u (before a b c d e f) = before a b c (rw (d, c)) (or_left _ _ e) f
inv_mark n k {r} {m} {s} u (inside a b c d) = ⊎_elim yes no (bool_case m.here)
  where
    yes : m.here ≡ true → Inv r (flow n (marks k) m) (pruned n (marks k) s)
    yes e = inside a b (or_left _ _ e ∙ sym (or_left _ _ (sym c ∙ e))) (λ l. inl (or_left _ _ e))

    at_lost : m.here ≡ false → (l : ℕ) → m.at l ≡ s.lost l
    at_lost e l = ⊎_elim (λ x. not_both x e) (λ x. x) (d l)

    here_gone : m.here ≡ false → (s.own ≡ true) ⊎ ((m.here ≡ true) ⊎ (m.at k ≡ false)) → (m.here || m.at k) ≡ (s.gone || (s.own && s.lost k))
    here_gone e (inl x) = rw (e, sym c ∙ e, x) (at_lost e k)
    here_gone e (inr (inl x)) = not_both x e
    here_gone e (inr (inr x)) = rw (e, sym c ∙ e, x, sym (at_lost e k) ∙ x) (sym (and-false s.own))

    no : m.here ≡ false → Inv r (flow n (marks k) m) (pruned n (marks k) s)
    no e = inside a b (here_gone e (u b)) (λ l. inr (at_lost e l))
inv_mark n k u (after a b) = after a b

-- both branches behind us
inv_both : {n : ℕ} {a c : Sk} {r : Bool} {m : Miss} {s : St} → Well (either a c) → Pre n (either a c) r m s → Inv (r || has_run n a) (flow n a m) (pruned n a (enter s)) → Inv (r || (has_run n a || has_run n c)) (flow n c (miss m.here (flow n a m).at)) (back s (pruned n c (enter (back s (pruned n a (enter s)))))) → Inv (r || (has_run n a || has_run n c)) (flow n (either a c) m) (pruned n (either a c) s)
unfolding flow miss pruned st back has_run hides
inv_both {n} {a = a₁} {m = m} v p i (before a b c d e f) = before a b c d (or_right (flow n a₁ m).here _ e) f
inv_both {n} {a = a₁} {c = c₁} {m = m} v p i (inside a b c d) =
    let u = p.unrun (inside_run p.inv b) in
    let z = same_here n a₁ m (false_or_left _ _ u) (λ l e. p.clear l (or_left _ _ e)) in
    let z' = same_here n c₁ (miss m.here (flow n a₁ m).at) (false_or_right (has_run n a₁) _ u) (else_clear v p) in
    let y : ((flow n a₁ m).here || (flow n c₁ (miss m.here (flow n a₁ m).at)).here) ≡ (flow n c₁ (miss m.here (flow n a₁ m).at)).here = ap (λ (x : Bool). x || (flow n c₁ (miss m.here (flow n a₁ m).at)).here) (z ∙ sym z') ∙ or_self _ in
    inside a b (y ∙ c) (λ l. ⊎_elim (λ x. inl (y ∙ x)) inr (d l))
inv_both v p i (after a b) = after a b

-- THE THEOREM ON PRUNING
pub kept : {n : ℕ} {r : Bool} {m : Miss} {s : St} (a : Sk) → Well a → Pre n a r m s → Inv (r || has_run n a) (flow n a m) (pruned n a s)
unfolding has_run has_mark flow pruned enter back st
kept {r = r} skip v p = same_run (sym (or-false r)) p.inv
kept {n} {r} (seq a c) (w_seq v w f g) p =
    let i = kept a v (pre_first p) in
    same_run (or-or r (has_run n a) (has_run n c)) (kept {r = r || has_run n a} c w (pre_second (w_seq v w f g) p i))
kept {r = r} (reads u t) v p = same_run (sym (or-false r)) p.inv
kept {n} (runs k) v p = inv_run n k p.unrun p.inv (eqb n k) refl
kept {n} {r} (jumps l) v p = same_run (sym (or-false r)) (inv_jump n l p.inv)
kept {n} {r} (marks l) v p = same_run (sym (or-false r)) (inv_mark n l (λ e. ⊎_elim inl (λ x. inr (⊎_elim inl (λ f. inr (f l (eq-eqb l l refl))) x)) (p.inner e)) p.inv)
kept {n} {r} {s = s} (either a c) (w_either v w f g) p =
    let i = kept a v (pre_then p) in
    let j = same_run (or-or r (has_run n a) (has_run n c)) (kept {r = r || has_run n a} c w (pre_else (w_either v w f g) p i)) in
    inv_both (w_either v w f g) p i (inv_back p.inv (λ e. false_or_left _ _ e) (λ e. stays_open n c (enter (back s (pruned n a (enter s)))) e) j)
kept {n} {s = s} (scoped a) (w_scoped v) p = inv_back p.inv (λ e. false_or_left _ _ e) (λ e. stays_open n a (enter s) e) (kept a v (pre_scope p))

-- THE LISTS

-- whether what a use resolves to stands
unfoldable pub gone_at : (ℕ → St) → Target → Bool
gone_at f (local n d) = (f n).gone
gone_at f no_local = false

-- for each act whether it is a use of what does not stand, as the pass finds it
unfoldable pub refused : Sk → (ℕ → St) → List Bool
refused skip f = []
refused (seq a c) f = refused a f ++ refused c (λ n. pruned n a (f n))
refused (reads u t) f = gone_at f t ∷ []
refused (runs m) f = false ∷ []
refused (jumps l) f = false ∷ []
refused (marks l) f = false ∷ []
refused (either a c) f = false ∷ (refused a (λ n. enter (f n)) ++ (false ∷ refused c (λ n. enter (back (f n) (pruned n a (enter (f n)))))))
refused (scoped a) f = refused a (λ n. enter (f n))

-- a use of a local is in the local's scope
pub data InScope : Sk → (ℕ → St) → Type 0 where
  i_skip : {f : ℕ → St} → InScope skip f
  i_seq : {a c : Sk} {f : ℕ → St} → InScope a f → InScope c (λ n. pruned n a (f n)) → InScope (seq a c) f
  i_local : {u n d : ℕ} {f : ℕ → St} → (f n).opened ≡ true → InScope (reads u (local n d)) f
  i_other : {u : ℕ} {f : ℕ → St} → InScope (reads u no_local) f
  i_runs : {m : ℕ} {f : ℕ → St} → InScope (runs m) f
  i_jumps : {l : ℕ} {f : ℕ → St} → InScope (jumps l) f
  i_marks : {l : ℕ} {f : ℕ → St} → InScope (marks l) f
  i_either : {a c : Sk} {f : ℕ → St} → InScope a (λ n. enter (f n)) → InScope c (λ n. enter (back (f n) (pruned n a (enter (f n))))) → InScope (either a c) f
  i_scoped : {a : Sk} {f : ℕ → St} → InScope a (λ n. enter (f n)) → InScope (scoped a) f

-- in its scope, n does not stand exactly where a walk may miss it
here_gone : {r : Bool} {m : Miss} {s : St} → Inv r m s → s.opened ≡ true → m.here ≡ s.gone
here_gone (before a b c d e f) h = not_both h b
here_gone (inside a b c d) h = c
here_gone (after a b) h = not_both h b

-- PRUNING IS FLOW: use by use, what does not stand is what a walk may miss
same_uses : (a : Sk) (r : ℕ → Bool) (g : ℕ → Miss) (f : ℕ → St) → Well a → InScope a f → ((n : ℕ) → Pre n a (r n) (g n) (f n)) → missed a g ≡ refused a f
unfolding missed missed_at at_else refused gone_at
same_uses skip r g f v i p = refl
same_uses (seq a c) r g f (w_seq v w x y) (i_seq i j) p =
    let e = same_uses a r g f v i (λ n. pre_first (p n)) in
    let e' = same_uses c (λ n. r n || has_run n a) (λ n. flow n a (g n)) (λ n. pruned n a (f n)) w j (λ n. pre_second (w_seq v w x y) (p n) (kept a v (pre_first (p n)))) in
    cc
same_uses (reads u (local n d)) r g f v (i_local i) p = ap (λ (b : Bool). b ∷ []) (here_gone (p n).inv i)
same_uses (reads u no_local) r g f v i p = refl
same_uses (runs m) r g f v i p = refl
same_uses (jumps l) r g f v i p = refl
same_uses (marks l) r g f v i p = refl
same_uses (either a c) r g f (w_either v w x y) (i_either i j) p =
    let e = same_uses a r g (λ n. enter (f n)) v i (λ n. pre_then (p n)) in
    let e' = same_uses c (λ n. r n || has_run n a) (λ n. miss (g n).here (flow n a (g n)).at) (λ n. enter (back (f n) (pruned n a (enter (f n))))) w j (λ n. pre_else (w_either v w x y) (p n) (kept a v (pre_then (p n)))) in
    λ t. false ∷ (e t ++ (false ∷ e' t))
same_uses (scoped a) r g f (w_scoped v) (i_scoped i) p = same_uses a r g (λ n. enter (f n)) v i (λ n. pre_scope (p n))

-- before the first statement
unfoldable pub unmet : St
unmet = st false false false (λ l. false)

-- THE THEOREM, on skeletons: pruning refuses the acts that walks skip
pub refused_skipped : (a : Sk) → Well a → ((n : ℕ) → Once n a) → InScope a (λ n. unmet) → (p : ℕ) → (get_or (refused a (λ n. unmet)) p false ≡ true) ↔ Skipped (flat a) p
unfolding unmet st fresh miss
refused_skipped a v o i p =
    let e = same_uses a (λ n. false) (λ n. fresh) (λ n. unmet) v i (λ n. record {
      inv = before refl refl refl refl refl (λ l. refl);
      once = o n;
      unrun = λ z. true_false (sym z);
      clear = λ l z. refl;
      inner = λ z. true_false (sym z);
    }) in
    subst (λ (bs : List Bool). (get_or bs p false ≡ true) ↔ Skipped (flat a) p) e (missed_skipped a v p)

-- the bits are true at uses of locals alone
fits_gone : (f : ℕ → St) (u : ℕ) (t : Target) → Fits (gone_at f t ∷ []) (use_of u t ∷ [])
unfolding gone_at
fits_gone f u (local n d) = f_use f_nil
fits_gone f u no_local = f_no f_nil

-- a bit for each act
pub refused_fits : (a : Sk) (f : ℕ → St) → Fits (refused a f) (flat a)
unfolding refused flat
refused_fits skip f = f_nil
refused_fits (seq a c) f = fits_append (refused_fits a f) (refused_fits c _)
refused_fits (reads u t) f = fits_gone f u t
refused_fits (runs m) f = f_no f_nil
refused_fits (jumps l) f = f_no f_nil
refused_fits (marks l) f = f_no f_nil
refused_fits (either a c) f = f_no (fits_append (refused_fits a _) (f_no (refused_fits c _)))
refused_fits (scoped a) f = refused_fits a _

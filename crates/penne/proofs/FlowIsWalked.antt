-- Where `flow` says that a declaration may be missing, a walk is there that misses it.
use Prim.Native.Nat.{ℕ, zero, suc, ◌+◌}
use mathlib.Core.Bool.{Bool, true, false, ◌&&◌}
use mathlib.Core.List.{List, [], ◌∷◌, ◌++◌}
use mathlib.Core.Path.{◌≡◌, refl, sym, ◌∙◌, ap, subst}
use mathlib.Core.Option.{some}
use native.Mathlib.Omega.{arith}
use lib.ListN.{length, get_elem?, length-append}
use lib.Dec.{eqb}
use mathlib.Core.Logic.{◌⊎◌, inl, inr}
use borrow.Author.Tests.{eqb-true}
use Rattle.penne.specs.Find.{is_in}
use Rattle.penne.specs.Walks.{Act, use_of, run, jump, target, fork, past, Target, Walk, examine, declare, pass_goto, follow_goto, pass_label, then_branch, else_branch, pass_else}
use Rattle.penne.proofs.Skeleton.{Sk, skip, seq, reads, runs, jumps, marks, either, scoped, flat, len, Miss, miss, flow, At, at_read, at_run, at_jump, at_mark, at_fork, at_past, in_first, in_second, in_then, in_else, in_scope}
use Rattle.penne.proofs.Booleans.{or_case, and_left, not_true, and_right}

-- these acts stand in the text from place k on
pub record Sits (T : List Act) (k : ℕ) (xs : List Act) : Type 0 where
  pub act : (j : ℕ) (x : Act) → get_elem? xs j ≡ some x → get_elem? T (k + j) ≡ some x

-- acts of a text that has more acts before or behind
get_left : (xs ys : List Act) (j : ℕ) (x : Act) → get_elem? xs j ≡ some x → get_elem? (xs ++ ys) j ≡ some x
get_left [] ys j x h = cc
get_left (y ∷ xs) ys zero x h = h
get_left (y ∷ xs) ys (suc j) x h = get_left xs ys j x h

get_right : (xs ys : List Act) (j : ℕ) → get_elem? (xs ++ ys) (length xs + j) ≡ get_elem? ys j
get_right [] ys j = ap (get_elem? ys) (omega arith)
get_right (y ∷ xs) ys j = let e : suc (length xs) + j ≡ suc (length xs + j) = omega arith in ap (get_elem? (y ∷ (xs ++ ys))) e ∙ get_right xs ys j

-- so do parts of them
sits_left : {T : List Act} {k : ℕ} (xs ys : List Act) → Sits T k (xs ++ ys) → Sits T k xs
sits_left xs ys h = record { act = λ j x e. h.act j x (get_left xs ys j x e) }

sits_right : {T : List Act} {k : ℕ} (xs ys : List Act) → Sits T k (xs ++ ys) → Sits T (k + length xs) ys
sits_right {T} {k} xs ys h = record { act = λ j x e. ap (get_elem? T) (omega arith) ∙ h.act (length xs + j) x (get_right xs ys j ∙ e) }

sits_head : {T : List Act} {k : ℕ} (x : Act) (xs : List Act) → Sits T k (x ∷ xs) → get_elem? T k ≡ some x
sits_head {T} {k} x xs h = ap (get_elem? T) (omega arith) ∙ h.act 0 x refl

sits_tail : {T : List Act} {k : ℕ} (x : Act) (xs : List Act) → Sits T k (x ∷ xs) → Sits T (k + 1) xs
sits_tail {T} {k} x xs h = record { act = λ j y e. ap (get_elem? T) (omega arith) ∙ h.act (suc j) y e }

-- a walk stands at p that misses n
pub record Missing (T : List Act) (n p : ℕ) : Type 0 where
  pub ran : List ℕ
  pub walk : Walk T p ran
  pub without : is_in n ran ≡ false

-- a walk stands at a goto to l that misses n
pub record Waiting (T : List Act) (n l : ℕ) : Type 0 where
  pub from : ℕ
  pub missing : Missing T n from
  pub goes : get_elem? T from ≡ some (jump l)

-- what s says is so, at place k
pub record Holds (T : List Act) (n k : ℕ) (s : Miss) : Type 0 where
  pub stands : s.here ≡ true → Missing T n k
  pub waits : (l : ℕ) → s.at l ≡ true → Waiting T n l

-- the same place in other words
moved : {T : List Act} {n p q : ℕ} → p ≡ q → Missing T n p → Missing T n q
moved {T} {n} e m = subst (Missing T n) e m

holds_at : {T : List Act} {n p q : ℕ} {s : Miss} → p ≡ q → Holds T n p s → Holds T n q s
holds_at {T} {n} {p} {q} {s} e h = subst (λ k. Holds T n k s) e h

-- steps of walks that miss n
go_use : {T : List Act} {n p u : ℕ} {t : Target} → Missing T n p → get_elem? T p ≡ some (use_of u t) → Missing T n (suc p)
go_use m e = record { ran = m.ran; walk = examine m.walk e; without = m.without }

go_run : {T : List Act} {n m p : ℕ} → eqb n m ≡ false → Missing T n p → get_elem? T p ≡ some (run m) → Missing T n (suc p)
unfolding is_in
go_run f m e = record { ran = _ ∷ m.ran; walk = declare m.walk e; without = rw (f, is_in) m.without }

go_jump : {T : List Act} {n p l : ℕ} → Missing T n p → get_elem? T p ≡ some (jump l) → Missing T n (suc p)
go_jump m e = record { ran = m.ran; walk = pass_goto m.walk e; without = m.without }

go_follow : {T : List Act} {n p l : ℕ} → Waiting T n l → get_elem? T p ≡ some (target l) → Missing T n p
go_follow w e = record { ran = w.missing.ran; walk = follow_goto w.missing.walk w.goes e; without = w.missing.without }

go_label : {T : List Act} {n p l : ℕ} → Missing T n p → get_elem? T p ≡ some (target l) → Missing T n (suc p)
go_label m e = record { ran = m.ran; walk = pass_label m.walk e; without = m.without }

go_then : {T : List Act} {n p k : ℕ} → Missing T n p → get_elem? T p ≡ some (fork k) → Missing T n (suc p)
go_then m e = record { ran = m.ran; walk = then_branch m.walk e; without = m.without }

go_else : {T : List Act} {n p k : ℕ} → Missing T n p → get_elem? T p ≡ some (fork k) → Missing T n (suc p + k)
go_else m e = record { ran = m.ran; walk = else_branch m.walk e; without = m.without }

go_past : {T : List Act} {n p k : ℕ} → Missing T n p → get_elem? T p ≡ some (past k) → Missing T n (suc p + k)
go_past m e = record { ran = m.ran; walk = pass_else m.walk e; without = m.without }

-- an If: its then branch, the end of it, its else branch
either_then : {T : List Act} {k : ℕ} (a c : Sk) → Sits T k (flat (either a c)) → Sits T (k + 1) (flat a)
unfolding flat
either_then a c h = sits_left _ _ (sits_tail _ _ h)

either_past : {T : List Act} {k : ℕ} (a c : Sk) → Sits T k (flat (either a c)) → get_elem? T (k + 1 + len a) ≡ some (past (len c))
unfolding flat
either_past a c h = sits_head _ _ (sits_right (flat a) _ (sits_tail _ _ h))

either_else : {T : List Act} {k : ℕ} (a c : Sk) → Sits T k (flat (either a c)) → Sits T (k + 1 + len a + 1) (flat c)
unfolding flat
either_else a c h = sits_tail _ _ (sits_right (flat a) _ (sits_tail _ _ h))

pub either-len : (a c : Sk) → len (either a c) ≡ len a + len c + 2
unfolding flat
either-len a c = omega (arith, length-append (flat a) (past (len c) ∷ flat c))

-- what holds before the else branch, where a's exit holds
else_holds : {T : List Act} {n k : ℕ} {s : Miss} (a c : Sk) → Sits T k (flat (either a c)) → Holds T n k s → Holds T n (k + 1 + len a) (flow n a s) → Holds T n (k + 1 + len a + 1) (miss s.here (flow n a s).at)
unfolding miss flat
else_holds {T} {n} {k} {s} a c h o o₁ = record {
  stands = λ e. moved (omega arith) (go_else (o.stands e) (sits_head _ _ h));
  waits = o₁.waits;
}

-- before the then branch
then_holds : {T : List Act} {n k : ℕ} {s : Miss} (a c : Sk) → Sits T k (flat (either a c)) → Holds T n k s → Holds T n (k + 1) s
unfolding flat
then_holds {T} {n} {k} {s} a c h o = record {
  stands = λ e. moved (omega arith) (go_then (o.stands e) (sits_head _ _ h));
  waits = o.waits;
}

-- behind both branches
either_holds : {T : List Act} {n k : ℕ} (s : Miss) (a c : Sk) → Sits T k (flat (either a c)) → Holds T n (k + 1 + len a) (flow n a s) → Holds T n (k + 1 + len a + 1 + len c) (flow n c (miss s.here (flow n a s).at)) → Holds T n (k + len (either a c)) (flow n (either a c) s)
unfolding flow miss
either_holds {T} {n} {k} s a c h o₁ o₂ = record {
  stands = λ e. go (or_case _ _ e);
  waits = o₂.waits;
}
  where
    go : (((flow n a s).here ≡ true) ⊎ ((flow n c (miss s.here (flow n a s).at)).here ≡ true)) → Missing T n (k + len (either a c))
    go (inl e) = moved (omega (arith, either-len a c)) (go_past (o₁.stands e) (either_past a c h))
    go (inr e) = moved (omega (arith, either-len a c)) (o₂.stands e)

-- behind a skeleton
complete : {T : List Act} {n k : ℕ} {s : Miss} (a : Sk) → Sits T k (flat a) → Holds T n k s → Holds T n (k + len a) (flow n a s)
unfolding flat flow miss
complete skip h o = holds_at (omega arith) o
complete {k = k} (seq a c) h o = holds_at (omega (arith, length-append (flat a) (flat c))) (complete {k = k + length (flat a)} c (sits_right (flat a) _ h) (complete a (sits_left _ _ h) o))
complete (reads u t) h o = record { stands = λ e. moved (omega arith) (go_use (o.stands e) (sits_head _ _ h)); waits = o.waits }
complete {n = n} {s = s} (runs m) h o = record { stands = λ e. moved (omega arith) (go_run (not_true _ (and_right s.here _ e)) (o.stands (and_left s.here _ e)) (sits_head _ _ h)); waits = o.waits }
complete {T} {n} {k} {s} (jumps l) h o = record { stands = λ e. moved (omega arith) (go_jump (o.stands e) (sits_head _ _ h)); waits = λ m e. go m (or_case _ _ e) }
  where
    go : (m : ℕ) → (s.at m ≡ true) ⊎ ((s.here && eqb m l) ≡ true) → Waiting T n m
    go m (inl e) = o.waits m e
    go m (inr e) = record { from = k; missing = o.stands (and_left s.here _ e); goes = sits_head _ _ h ∙ ap (λ x. some (jump x)) (sym (eqb-true m l (and_right s.here _ e))) }
complete {T} {n} {k} {s} (marks l) h o = record { stands = λ e. moved (omega arith) (go_label (go (or_case _ _ e)) (sits_head _ _ h)); waits = o.waits }
  where
    go : (s.here ≡ true) ⊎ (s.at l ≡ true) → Missing T n k
    go (inl e) = o.stands e
    go (inr e) = go_follow (o.waits l e) (sits_head _ _ h)
complete {k = k} {s = s} (either a c) h o =
    let o₁ = complete {k = k + 1} a (either_then a c h) (then_holds a c h o) in
    either_holds s a c h o₁ (complete {k = k + 1 + len a + 1} c (either_else a c h) (else_holds a c h o o₁))
complete (scoped a) h o = complete a h o

-- inside a skeleton
pub complete_at : {T : List Act} {n k p : ℕ} {x : Act} {b : Bool} {s : Miss} (a : Sk) → Sits T k (flat a) → Holds T n k s → At n p x b a k s → b ≡ true → Missing T n p
unfolding flat flow miss
complete_at skip h o i e = elim i [ ]
complete_at (seq a c) h o (in_first i) e = complete_at a (sits_left _ _ h) o i e
complete_at {k = k} (seq a c) h o (in_second i) e = complete_at {k = k + len a} c (sits_right (flat a) _ h) (complete a (sits_left _ _ h) o) i e
complete_at (reads u t) h o (at_read q x y) e = moved (sym q) (o.stands (sym y ∙ e))
complete_at (runs m) h o (at_run q x y) e = moved (sym q) (o.stands (sym y ∙ e))
complete_at (jumps l) h o (at_jump q x y) e = moved (sym q) (o.stands (sym y ∙ e))
complete_at {T} {n} {k} {p} {s = s} (marks l) h o (at_mark q x y) e = moved (sym q) (go (or_case _ _ (sym y ∙ e)))
  where
    go : (s.here ≡ true) ⊎ (s.at l ≡ true) → Missing T n k
    go (inl e) = o.stands e
    go (inr e) = go_follow (o.waits l e) (sits_head _ _ h)
complete_at (either a c) h o (at_fork q x y) e = moved (sym q) (o.stands (sym y ∙ e))
complete_at (either a c) h o (at_past q x y) e = moved (sym q) ((complete a (either_then a c h) (then_holds a c h o)).stands (sym y ∙ e))
complete_at {k = k} (either a c) h o (in_then i) e = complete_at {k = k + 1} a (either_then a c h) (then_holds a c h o) i e
complete_at {k = k} (either a c) h o (in_else i) e = complete_at {k = k + 1 + len a + 1} c (either_else a c h) (else_holds a c h o (complete a (either_then a c h) (then_holds a c h o))) i e
complete_at (scoped a) h o (in_scope i) e = complete_at a h o i e

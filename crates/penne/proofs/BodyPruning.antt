-- Declarations run once, uses stand in their local's scope; and the theorem for a body.
use Prim.Native.Nat.{ℕ, ◌<◌, ◌≤◌}
use mathlib.Core.Bool.{Bool, true, false, ◌&&◌}
use mathlib.Core.Path.{◌≡◌, refl, sym, ◌∙◌, ap, subst}
use mathlib.Core.List.{List, [], ◌∷◌, ◌++◌, map, flat_map}
use mathlib.Core.Option.{Option, none, some}
use mathlib.Core.Logic.{◌⊎◌, inl, inr, ⊎_elim, ◌↔◌}
use native.Mathlib.Omega.{arith}
use lib.ListN.{get_or}
use lib.Dec.{eqb}
use borrow.Author.Tests.{eqb-true, eq-eqb}
use Rattle.penne.specs.Tree.{Spot, Ident, Maybe, ok, err, Expr, Sort, Node, nil, cons, binary, unary, boolean, signed, bits, string, array_literal, structural, parenthesized, deref, bit_cast, type_cast, length_of_array, size_of, function_call, bad_expr, reference, element, member, member_expression, StmSort, Stm, nil', cons', declaration, assignment, method_call, loop, goto, label, if_else, block, bad_stmt, no_else, or_else, Body, Param, Decl}
use Rattle.penne.specs.Walks.{Act, use_of, run, jump, target, fork, past, Target, local, no_local, Names, with_scope, resolve, declared, acts, not_bare, premise, stands, uses, base_use, option_uses, body_acts, Skipped, NamesSkipped, names_at, param_names, constant_names}
use Rattle.penne.proofs.Skeleton.{Sk, skip, seq, reads, jumps, marks, either}
use Rattle.penne.proofs.Booleans.{or_case, and_left, and_right, true_false, or_left, or_right, is_false}
use Rattle.penne.proofs.SkeletonLabels.{Well, w_seq, quiet_well, quiet_jump, quiet_hides}
use Rattle.penne.proofs.Missed.{Fits, picked_by, names_picked}
use Rattle.penne.proofs.PruningIsFlow.{St, st, enter, back, pruned, has_run, Once, o_skip, o_seq, o_reads, o_runs, o_jumps, o_marks, o_either, o_scoped, stays_open, refused, InScope, i_skip, i_seq, i_local, i_other, i_runs, i_jumps, i_marks, i_either, i_scoped, unmet, refused_skipped, refused_fits}
use Rattle.penne.proofs.BodySkeleton.{of_use, of_uses, sk, sk_body, flat_body}
use Rattle.penne.proofs.FirstPass.{is_one, quiet_uses}

-- ONCE

-- k is run in it only if it is from c on and below d
pub record Counts (k c d : ℕ) (a : Sk) : Type 0 where
  pub rise : c ≤ d
  pub range : has_run k a ≡ true → (c ≤ k) × (k < d)
  pub once : Once k a

-- numbers rise from each part to the next
counts_seq : {k c d e : ℕ} {a b : Sk} → Counts k c d a → Counts k d e b → Counts k c e (seq a b)
unfolding has_run
counts_seq {k} {c} {d} {e} {a} {b} p q =
    let y = p.rise in
    let y' = q.rise in
    record {
      rise = omega arith;
      range = λ h. ⊎_elim (λ x. let (f, g) = p.range x in (f, omega arith)) (λ x. let (f, g) = q.range x in (omega arith, g)) (or_case _ _ h);
      once = o_seq p.once q.once (λ h. is_false _ (λ x. let (f, g) = p.range h in let (f', g') = q.range x in omega arith));
    }

counts_either : {k c d e : ℕ} {a b : Sk} → Counts k c d a → Counts k d e b → Counts k c e (either a b)
unfolding has_run
counts_either {k} {c} {d} {e} {a} {b} p q =
    let y = p.rise in
    let y' = q.rise in
    record {
      rise = omega arith;
      range = λ h. ⊎_elim (λ x. let (f, g) = p.range x in (f, omega arith)) (λ x. let (f, g) = q.range x in (omega arith, g)) (or_case _ _ h);
      once = o_either p.once q.once (λ h. is_false _ (λ x. let (f, g) = p.range h in let (f', g') = q.range x in omega arith));
    }

counts_use : {k c : ℕ} (x : Act) → Counts k c c (of_use x)
unfolding of_use has_run
counts_use (use_of u t) = record { rise = omega arith; range = λ h. true_false (sym h); once = o_reads }
counts_use (run m) = record { rise = omega arith; range = λ h. true_false (sym h); once = o_skip }
counts_use (jump l) = record { rise = omega arith; range = λ h. true_false (sym h); once = o_skip }
counts_use (target l) = record { rise = omega arith; range = λ h. true_false (sym h); once = o_skip }
counts_use (fork m) = record { rise = omega arith; range = λ h. true_false (sym h); once = o_skip }
counts_use (past m) = record { rise = omega arith; range = λ h. true_false (sym h); once = o_skip }

counts_skip : {k c : ℕ} → Counts k c c skip
unfolding has_run
counts_skip = record { rise = omega arith; range = λ h. true_false (sym h); once = o_skip }

counts_uses : {k c : ℕ} (xs : List Act) → Counts k c c (of_uses xs)
unfolding of_uses
counts_uses [] = counts_skip
counts_uses (x ∷ xs) = counts_seq (counts_use x) (counts_uses xs)

-- so it is with statements
counts : {s : StmSort} (k : ℕ) (t : Stm Spot s) (n : Names) → Counts k n.count (acts t n).1.count (sk t n)
unfolding sk acts has_run declared with_scope
counts k nil' n = counts_skip
counts k (cons' t ts) n = counts_seq (counts k t n) (counts k ts (acts t n).1)
counts k (declaration p v t i) n = counts_seq (counts_uses _) (record { rise = omega arith; range = λ h. let z = eqb-true k n.count h in (omega arith, omega arith); once = o_runs })
counts k (assignment p v r) n = counts_seq (counts_uses _) (counts_uses _)
counts k (method_call i b es) n = counts_uses _
counts k (loop p) n = counts_skip
counts k (goto i p) n = record { rise = omega arith; range = λ h. true_false (sym h); once = o_jumps }
counts k (label i p) n = record { rise = omega arith; range = λ h. true_false (sym h); once = o_marks }
counts k (if_else p op q r x y t e) n = counts_seq (counts_uses _) (counts_seq (counts_uses _) (counts_either (counts k t n) (counts k e (acts t n).1)))
counts k (block p ts) n = let c = counts k ts n in record { rise = c.rise; range = c.range; once = o_scoped c.once }
counts k (bad_stmt z) n = counts_skip
counts k no_else n = counts_skip
counts k (or_else p t) n = counts k t n

-- SCOPES

-- every local among the names is open
pub record AllOpen (es : List (ℕ × Target)) (f : ℕ → St) : Type 0 where
  pub opens : (x k d : ℕ) → resolve x es ≡ local k d → (f k).opened ≡ true

-- a branch that is neither a declaration nor a label leaves the names as they are
pub same_scope : {s : StmSort} (t : Stm Spot s) (n : Names) → is_one s ≡ true → not_bare t ≡ true → premise t ≡ true → (acts t n).1.scope ≡ n.scope
unfolding acts not_bare premise is_one with_scope
same_scope nil' n o h p = true_false (sym o)
same_scope (cons' t ts) n o h p = true_false (sym o)
same_scope (declaration p v t i) n o h q = true_false (sym h)
same_scope (assignment p v r) n o h q = refl
same_scope (method_call i b es) n o h q = refl
same_scope (loop p) n o h q = refl
same_scope (goto i p) n o h q = refl
same_scope (label i p) n o h q = true_false (sym h)
same_scope (if_else p op q r x y t e) n o h z =
    let z₁ = and_left _ _ z in
    let z₂ = and_left _ _ z₁ in
    same_scope e (acts t n).1 refl (and_right (not_bare t) _ z₂) (and_right (not_bare t && not_bare e && premise t) _ z) ∙ same_scope t n refl (and_left _ _ z₂) (and_right (not_bare t && not_bare e) _ z₁)
same_scope (block p ts) n o h q = refl
same_scope (bad_stmt z) n o h q = refl
same_scope no_else n o h q = refl
same_scope (or_else p t) n o h q = same_scope t n refl h q

-- uses whose targets are looked up among these names
pub data UsesOf (n : Names) : List Act → Type 0 where
  u_nil : UsesOf n []
  u_use : {u : ℕ} {xs : List Act} (x : ℕ) → UsesOf n xs → UsesOf n (use_of u (resolve x n.scope) ∷ xs)

-- an expression's uses
from_append : {n : Names} {xs ys : List Act} → UsesOf n xs → UsesOf n ys → UsesOf n (xs ++ ys)
from_append u_nil q = q
from_append (u_use x p) q = u_use x (from_append p q)

from_base : (n : Names) (b : Maybe Spot (Ident Spot)) → UsesOf n (base_use n b)
unfolding base_use
from_base n (ok i) = u_use _ u_nil
from_base n (err z) = u_nil

from_if : {n : Names} (b : Bool) (xs : List Act) → UsesOf n xs → UsesOf n (elim b [ true ↦ xs | false ↦ [] ])
from_if true xs p = p
from_if false xs p = u_nil

from_uses : {s : Sort} (n : Names) (x : Node Spot s) → UsesOf n (uses n x)
unfolding uses
from_uses n nil = u_nil
from_uses n (cons x xs) = from_append (from_uses n x) (from_uses n xs)
from_uses n (binary op p q x y) = from_append (from_uses n x) (from_uses n y)
from_uses n (unary op p q x) = from_uses n x
from_uses n (boolean b p) = u_nil
from_uses n (signed b p c) = u_nil
from_uses n (bits b p c) = u_nil
from_uses n (string b p) = u_nil
from_uses n (array_literal p c es i) = from_uses n es
from_uses n (structural p ms c) = from_uses n ms
from_uses n (parenthesized p x) = from_uses n x
from_uses n (deref c r) = from_uses n r
from_uses n (bit_cast p q c x) = from_uses n x
from_uses n (type_cast p q t x) = from_if (stands n t) _ (from_uses n x)
from_uses n (length_of_array p r) = from_uses n r
from_uses n (size_of p t) = u_nil
from_uses n (function_call i b c es) = from_uses n es
from_uses n (bad_expr z) = u_nil
from_uses n (reference d p q b ts) = from_append (from_base n b) (from_uses n ts)
from_uses n (element e x) = from_uses n x
from_uses n (member i o) = u_nil
from_uses n (member_expression i o x) = from_uses n x

from_option : (n : Names) (v : Option (Expr Spot)) → UsesOf n (option_uses n v)
unfolding option_uses
from_option n none = u_nil
from_option n (some x) = from_uses n x

-- open names stay open
open_after : {es : List (ℕ × Target)} {f : ℕ → St} (a : Sk) → AllOpen es f → AllOpen es (λ k. pruned k a (f k))
open_after {es} {f} a o = record { opens = λ x k d e. stays_open k a (f k) (o.opens x k d e) }

-- so uses of locals are in scope
in_target : {u : ℕ} {f : ℕ → St} {es : List (ℕ × Target)} (x : ℕ) (t : Target) → resolve x es ≡ t → AllOpen es f → InScope (reads u t) f
in_target x (local k d) e o = i_local (o.opens x k d e)
in_target x no_local e o = i_other

in_uses : {n : Names} {f : ℕ → St} {xs : List Act} → UsesOf n xs → AllOpen n.scope f → InScope (of_uses xs) f
unfolding of_uses of_use pruned
in_uses u_nil o = i_skip
in_uses (u_use x p) o = i_seq (in_target x _ refl o) (in_uses p o)

-- one more name, the innermost
resolve_last : (x k d : ℕ) (es : List (ℕ × Target)) (e : ℕ × Target) → resolve x (es ++ (e ∷ [])) ≡ local k d → (resolve x es ≡ local k d) ⊎ (e.1 ≡ local k d)
unfolding resolve
resolve_last x k d [] e h = (elim (eqb e.0 x) as (λ b. eqb e.0 x ≡ b → (no_local ≡ local k d) ⊎ (e.1 ≡ local k d)) [
  | true ↦ λ q. inr (rw (q, resolve) at h)
  | false ↦ λ q. inl (rw (q, resolve) at h)
]) refl
resolve_last x k d (c ∷ es) e h = (elim (eqb c.0 x) as (λ b. eqb c.0 x ≡ b → (resolve x (c ∷ es) ≡ local k d) ⊎ (e.1 ≡ local k d)) [
  | true ↦ λ q. inl (rw (q, resolve) (rw (q, resolve) at h))
  | false ↦ λ q. ⊎_elim (λ z. inl (rw (q, resolve) z)) inr (resolve_last x k d es e (rw (q, resolve) at h))
]) refl

-- a local's number
unfoldable number_of : Target → ℕ
number_of (local k d) = k
number_of no_local = 0

-- statements whose uses are in scope, and whose names are open behind them
pub record Placed {s : StmSort} (t : Stm Spot s) (n : Names) (f : ℕ → St) : Type 0 where
  pub within : InScope (sk t n) f
  pub behind : AllOpen (acts t n).1.scope (λ k. pruned k (sk t n) (f k))

same_open : {es es' : List (ℕ × Target)} {f : ℕ → St} → es' ≡ es → AllOpen es f → AllOpen es' f
same_open {es} {es'} {f} e o = subst (λ (z : List (ℕ × Target)). AllOpen z f) (sym e) o

-- so it is with statements that meet the premise
placed : {s : StmSort} (t : Stm Spot s) (n : Names) (f : ℕ → St) → premise t ≡ true → AllOpen n.scope f → Placed t n f
unfolding sk acts premise declared with_scope pruned st enter back number_of is_one
placed nil' n f h o = record { within = i_skip; behind = o }
placed (cons' t ts) n f h o =
    let a = placed t n f (and_left _ _ h) o in
    let c = placed ts (acts t n).1 (λ k. pruned k (sk t n) (f k)) (and_right (premise t) _ h) a.behind in
    record { within = i_seq a.within c.within; behind = c.behind }
placed (declaration p v t i) n f h o = record {
  within = i_seq (in_uses (from_option n v) o) i_runs;
  behind = record {
    opens = λ x k d e. ⊎_elim
        (λ z. or_left _ _ (stays_open k (of_uses (option_uses n v)) (f k) (o.opens x k d z)))
        (λ z. or_right (pruned k (of_uses (option_uses n v)) (f k)).opened _ (eq-eqb k n.count (sym (ap number_of z))))
        (resolve_last x k d n.scope (i.name, local n.count i.place.from) e);
  };
}
placed (assignment p v r) n f h o = record {
  within = i_seq (in_uses (from_uses n v) o) (in_uses (from_uses n r) (open_after (of_uses (uses n v)) o));
  behind = open_after (seq (of_uses (uses n v)) (of_uses (uses n r))) o;
}
placed (method_call i b es) n f h o = record { within = in_uses (from_uses n es) o; behind = open_after (of_uses (uses n es)) o }
placed (loop p) n f h o = record { within = i_skip; behind = o }
placed (goto i p) n f h o = record { within = i_jumps; behind = open_after (jumps i.id) o }
placed (label i p) n f h o = record { within = i_marks; behind = open_after (marks i.id) o }
placed (if_else p op q r x y t e) n f h o =
    let h₁ = and_left _ _ h in
    let h₂ = and_left _ _ h₁ in
    let o₁ = open_after (of_uses (uses n x)) o in
    let o₂ = open_after (of_uses (uses n y)) o₁ in
    let ht = and_right (not_bare t && not_bare e) _ h₁ in
    let he = and_right (not_bare t && not_bare e && premise t) _ h in
    let s₁ = same_scope t n refl (and_left _ _ h₂) ht in
    let s₂ = same_scope e (acts t n).1 refl (and_right (not_bare t) _ h₂) he in
    let a = placed t n (λ k. enter (pruned k (of_uses (uses n y)) (pruned k (of_uses (uses n x)) (f k)))) ht (record { opens = o₂.opens }) in
    let c = placed e (acts t n).1 (λ k. enter (back (pruned k (of_uses (uses n y)) (pruned k (of_uses (uses n x)) (f k))) (pruned k (sk t n) (enter (pruned k (of_uses (uses n y)) (pruned k (of_uses (uses n x)) (f k))))))) he (same_open s₁ (record { opens = o₂.opens })) in
    record {
      within = i_seq (in_uses (from_uses n x) o) (i_seq (in_uses (from_uses n y) o₁) (i_either a.within c.within));
      behind = same_open (s₂ ∙ s₁) (record { opens = o₂.opens });
    }
placed (block p ts) n f h o =
    let a = placed ts n (λ k. enter (f k)) h (record { opens = o.opens }) in
    record { within = i_scoped a.within; behind = record { opens = o.opens } }
placed (bad_stmt z) n f h o = record { within = i_skip; behind = o }
placed no_else n f h o = record { within = i_skip; behind = o }
placed (or_else p t) n f h o = let a = placed t n f h o in record { within = a.within; behind = a.behind }

-- THE THEOREM, of a body

-- the list that pruning on a body's skeleton gives
unfoldable pub pruned_list : Body Spot → Names → List (ℕ × ℕ)
pruned_list b n = picked_by (refused (sk_body b n) (λ k. unmet)) (body_acts b n)

-- no name stands for a local yet
pub record NoLocals (es : List (ℕ × Target)) : Type 0 where
  pub none_local : (x k d : ℕ) → resolve x es ≡ local k d → true ≡ false

-- a return value has no labels
well_body : (b : Body Spot) (n : Names) → Well (sk b.statements n) → Well (sk_body b n)
unfolding sk_body
well_body b n w = let q = quiet_uses (option_uses (acts b.statements n).1 b.value) in
    w_seq w (quiet_well q) (λ k h. true_false (sym h ∙ quiet_jump k q)) (λ k h. quiet_hides k q)

-- of a body whose labels are well and that meets the premise, pruning on its skeleton refuses the acts that walks skip
pub refused_body : (b : Body Spot) (n : Names) → Well (sk b.statements n) → premise b.statements ≡ true → NoLocals n.scope → (p : ℕ) → (get_or (refused (sk_body b n) (λ k. unmet)) p false ≡ true) ↔ Skipped (body_acts b n) p
unfolding sk_body
refused_body b n w h c p =
    let o : AllOpen n.scope (λ k. unmet) = record { opens = λ x k d e. true_false (c.none_local x k d e) } in
    let q = placed b.statements n (λ k. unmet) h o in
    let i : InScope (sk_body b n) (λ k. unmet) = i_seq q.within (in_uses (from_option (acts b.statements n).1 b.value) q.behind) in
    let once : (k : ℕ) → Once k (sk_body b n) = λ k. (counts_seq (counts k b.statements n) (counts_uses (option_uses (acts b.statements n).1 b.value))).once in
    subst (λ (text : List Act). (get_or (refused (sk_body b n) (λ k. unmet)) p false ≡ true) ↔ Skipped text p) (flat_body b n) (refused_skipped (sk_body b n) (well_body b n w) once i p)

-- its list is the list that walks ask for
pub demand3_body : (b : Body Spot) (n : Names) → Well (sk b.statements n) → premise b.statements ≡ true → NoLocals n.scope → NamesSkipped (body_acts b n) (pruned_list b n)
unfolding pruned_list
demand3_body b n w h c = names_picked _ _ (subst (λ (text : List Act). Fits (refused (sk_body b n) (λ k. unmet)) text) (flat_body b n) (refused_fits (sk_body b n) _)) (refused_body b n w h c)

-- the names before a body
no_locals_nil : NoLocals []
unfolding resolve
no_locals_nil = record { none_local = λ x k d e. cc }

no_locals_cons : {es : List (ℕ × Target)} (m : ℕ) → NoLocals es → NoLocals ((m, no_local) ∷ es)
unfolding resolve
no_locals_cons {es} m c = record { none_local = go }
  where
    go : (x k d : ℕ) → resolve x ((m, no_local) ∷ es) ≡ local k d → true ≡ false
    go x k d e = (elim (eqb m x) as (λ b. eqb m x ≡ b → true ≡ false) [
      | true ↦ λ q. (let z : no_local ≡ local k d = rw (q, resolve) at e in cc)
      | false ↦ λ q. c.none_local x k d (rw (q, resolve) at e)
    ]) refl

no_locals_params : (ps : List (Param Spot)) → NoLocals (flat_map param_names ps)
unfolding param_names flat_map
no_locals_params [] = no_locals_nil
no_locals_params (p ∷ ps) = go p.ident refl (no_locals_params ps)
  where
    go : (i : Maybe Spot (Ident Spot)) → p.ident ≡ i → NoLocals (flat_map param_names ps) → NoLocals (param_names p ++ flat_map param_names ps)
    go (ok i) e c = rw (e, param_names) (no_locals_cons i.name c)
    go (err z) e c = rw (e, param_names) c

no_locals_map : (ms : List ℕ) {es : List (ℕ × Target)} → NoLocals es → NoLocals (map (λ m. (m, no_local)) ms ++ es)
no_locals_map [] c = c
no_locals_map (m ∷ ms) c = no_locals_cons m (no_locals_map ms c)

-- constants and parameters are no locals
pub no_locals : (ds : List (Decl Spot)) (ps : List (Param Spot)) → NoLocals (names_at ds ps).scope
unfolding names_at
no_locals ds ps = no_locals_map (flat_map constant_names ds) (no_locals_params ps)

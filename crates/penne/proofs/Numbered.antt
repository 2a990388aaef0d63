-- Labels over all declarations: each body's labels have numbers of their own, above all that an earlier body goes to.
use Prim.Native.Nat.{ℕ, zero, suc, ◌<◌, ◌≤◌}
use mathlib.Core.Bool.{true, false}
use mathlib.Core.Path.{◌≡◌, refl, sym, ◌∙◌, ap, subst}
use mathlib.Core.List.{List, [], ◌∷◌}
use mathlib.Core.Option.{Option, none, some}
use mathlib.Core.Logic.{◌⊎◌, inl, inr, ⊎_elim}
use native.Mathlib.Omega.{arith}
use lib.ListN.{get_elem?}
use borrow.Author.Tests.{eqb-true}
use Rattle.penne.specs.Find.{first_named, resolved}
use Rattle.penne.specs.Labels.{Labels, pop_scope, use_label, declare_label, declared, labels, labels_body, labels_decl, labels_decls, label_references}
use Rattle.penne.specs.Scopes.{Analyzer}
use Rattle.penne.specs.Tree.{Spot, Ident, Maybe, ok, err, StmSort, stmts, Stm, nil', cons', declaration, assignment, method_call, loop, goto, label, if_else, block, bad_stmt, no_else, or_else, Decl, constant, function, function_head, structure, import, bad_decl}
use Rattle.penne.specs.Walks.{Act, Names, acts, premise}
use Rattle.penne.specs.Scopes as Q
use Rattle.penne.specs.State as S
use Rattle.penne.specs.Pruning as R
use Rattle.penne.specs.Variables as V'
use Rattle.penne.proofs.Booleans.{or_case, true_false, none_some, or_left, or_right}
use Rattle.penne.proofs.SkeletonLabels.{Well, w_skip, jumps_to, has_mark, Apart, a_skip, quiet_jump}
use Rattle.penne.proofs.Skeleton.{Sk, seq, either}
use Rattle.penne.proofs.BodySkeleton.{of_uses, sk}
use Rattle.penne.proofs.FirstPass.{held_in, held_last, first_held, Below, labelled, quiet_uses}
use Rattle.penne.proofs.Steady.{steady_trans, steady_node, steady_maybe, steady_called, steady_option}
use Rattle.penne.proofs.Waiting.{waits, waits_meet, waits_label}

-- GOTOS OF A BODY

-- from l to l' the first pass goes over s: what it goes to has a number that was given out
pub record Numbers (l l' : Labels Spot) (s : Sk) : Type 0 where
  pub rise : l.resolution_id ≤ l'.resolution_id
  pub below : Below l'
  pub jumped : (k : ℕ) → jumps_to k s ≡ true → k < l'.resolution_id

-- where nothing is gone to
quiet_numbers : {l : Labels Spot} {s : Sk} → Below l → ((k : ℕ) → jumps_to k s ≡ false) → Numbers l l s
quiet_numbers o q = record { rise = omega arith; below = o; jumped = λ k h. true_false (sym h ∙ q k) }

-- the second part is gone over first
numbers_seq : {l l₁ l₂ : Labels Spot} {a c : Sk} → Numbers l l₁ c → Numbers l₁ l₂ a → Numbers l l₂ (seq a c)
unfolding jumps_to
numbers_seq r q =
    let y = r.rise in
    let y' = q.rise in
    record { rise = omega arith; below = q.below; jumped = λ k h. ⊎_elim (λ e. q.jumped k e) (λ e. let z = r.jumped k e in omega arith) (or_case _ _ h) }

numbers_either : {l l₁ l₂ : Labels Spot} {a c : Sk} → Numbers l l₁ a → Numbers l₁ l₂ c → Numbers l l₂ (either a c)
unfolding jumps_to
numbers_either r q =
    let y = r.rise in
    let y' = q.rise in
    record { rise = omega arith; below = q.below; jumped = λ k h. ⊎_elim (λ e. let z = r.jumped k e in omega arith) (λ e. q.jumped k e) (or_case _ _ h) }

numbers_uses : {l : Labels Spot} (xs : List Act) → Below l → Numbers l l (of_uses xs)
numbers_uses xs o = quiet_numbers o (λ k. quiet_jump k (quiet_uses xs))

numbers_goto : (l : Labels Spot) (n : Names) (i : Ident Spot) (p : Spot) (o : Option (Ident Spot)) → first_named i.name l.label_stack ≡ o → Below l → Numbers l l (sk (use_label i p o) n)
unfolding sk use_label resolved first_named jumps_to
numbers_goto l n i p none e b = quiet_numbers b (λ k. refl)
numbers_goto l n i p (some j) e b = record { rise = omega arith; below = b; jumped = λ k h. let z = b.below j.id (first_held _ l.label_stack j e) in let y = eqb-true k j.id h in omega arith }

numbers_label : (l : Labels Spot) (n : Names) (i : Ident Spot) (p : Spot) (o : Option (Ident Spot)) → i.id ≡ l.resolution_id → Below l → Numbers l (declared i l) (sk (declare_label i p o) n)
unfolding sk declare_label declared jumps_to
numbers_label l n i p o e b = record { rise = omega arith; below = record { below = λ k h. ⊎_elim (λ z. let y = b.below k z in omega arith) (λ z. omega arith) (held_last k l.label_stack i h) }; jumped = λ k h. true_false (sym h ∙ go k o) }
  where
    go : (k : ℕ) (o : Option (Ident Spot)) → jumps_to k (sk (declare_label i p o) n) ≡ false
    go k none = refl
    go k (some j) = refl

-- so it is with statements
numbers : {s : StmSort} (t : Stm Spot s) (l : Labels Spot) (n : Names) → Below l → Numbers l (labels t l).1 (sk (labels t l).0 n)
unfolding labels sk resolved pop_scope jumps_to
numbers nil' l n o = quiet_numbers o (λ k. refl)
numbers (cons' t ts) l n o = let r = numbers ts l _ o in numbers_seq r (numbers t (labels ts l).1 n r.below)
numbers (declaration p v t i) l n o = numbers_seq (quiet_numbers o (λ k. refl)) (numbers_uses _ o)
numbers (assignment p v r) l n o = numbers_seq (numbers_uses _ o) (numbers_uses _ o)
numbers (method_call i b es) l n o = numbers_uses _ o
numbers (loop p) l n o = quiet_numbers o (λ k. refl)
numbers (goto i p) l n o = numbers_goto l n i p _ refl o
numbers (label i p) l n o = numbers_label l n (resolved i l.resolution_id 1) p _ refl o
numbers (if_else p op q r x y t e) l n o =
    let a = numbers t l n o in
    let c = numbers e (labels t l).1 _ a.below in
    let b = c.below in
    numbers_seq (numbers_seq (numbers_either a c) (numbers_uses _ b)) (numbers_uses _ b)
numbers (block p ts) l n o = let r = numbers ts l n o in let y = r.rise in record { rise = r.rise; below = record { below = λ k h. let z = o.below k h in omega arith }; jumped = r.jumped }
numbers (bad_stmt z) l n o = quiet_numbers o (λ k. refl)
numbers no_else l n o = quiet_numbers o (λ k. refl)
numbers (or_else p t) l n o = numbers t l n o

-- in the second pass a label waits only where a goto to it was met
pub record Waits (a b : Analyzer Spot) (s : Sk) : Type 0 where
  pub origin : (l : ℕ) → waits l b.prunings.unresolved_labels ≡ true → (waits l a.prunings.unresolved_labels ≡ true) ⊎ (jumps_to l s ≡ true)

-- where no goto is met
pub waits_same : {a b : Analyzer Spot} {s : Sk} → b.prunings.unresolved_labels ≡ a.prunings.unresolved_labels → Waits a b s
waits_same e = record { origin = λ l h. inl (ap (waits l) (sym e) ∙ h) }

waits_seq : {a b c : Analyzer Spot} {s s' : Sk} → Waits a b s → Waits b c s' → Waits a c (seq s s')
unfolding jumps_to
waits_seq {s = s} p q = record { origin = λ l h. ⊎_elim (λ e. ⊎_elim inl (λ f. inr (or_left _ _ f)) (p.origin l e)) (λ e. inr (or_right (jumps_to l s) _ e)) (q.origin l h) }

waits_either : {a b c : Analyzer Spot} {s s' : Sk} → Waits a b s → Waits b c s' → Waits a c (either s s')
unfolding jumps_to
waits_either {s = s} p q = record { origin = λ l h. ⊎_elim (λ e. ⊎_elim inl (λ f. inr (or_left _ _ f)) (p.origin l e)) (λ e. inr (or_right (jumps_to l s) _ e)) (q.origin l h) }

-- so it is with statements
pub waits_stm : {s : StmSort} (t : Stm Spot s) (n : Names) (a : Analyzer Spot) → Waits a (V'.analyze_stm t a).1 (sk t n)
unfolding V'.analyze_stm S.◌>>=◌ S.ret sk jumps_to Q.declare_variable Q.next_id Q.with_stack Q.prepare_to_prune_at_goto R.prepare_to_prune_at_goto Q.prune_at_label Q.with_prunings Q.in_new_scope
waits_stm nil' n a = waits_same refl
waits_stm (cons' t ts) n a = waits_seq (waits_stm t n a) (waits_stm ts (acts t n).1 (V'.analyze_stm t a).1)
waits_stm (declaration p v t i) n a =
    let a₁ = (V'.analyze_option V'.analyze_node v a).1 in
    waits_same (steady_trans (steady_option V'.analyze_node v a (λ x. steady_node x a)) (steady_option V'.analyze_maybe_type t a₁ (λ x. steady_maybe x a₁))).waiting
waits_stm (assignment p v r) n a = waits_same (steady_trans (steady_node v a) (steady_node r (V'.analyze_node v a).1)).waiting
waits_stm (method_call i b es) n a = waits_same (steady_trans (steady_node es a) (steady_called i b (V'.analyze_node es a).1)).waiting
waits_stm (loop p) n a = waits_same refl
waits_stm (goto i p) n a = record { origin = λ l h. or_case _ _ (sym (waits_meet l i.id _ p a.prunings.unresolved_labels) ∙ h) }
waits_stm (label i p) n a = record { origin = λ l h. inl (waits_label l i _ a.prunings h) }
waits_stm (if_else p op q r x y t e) n a =
    let a₁ = (V'.analyze_node x a).1 in
    let a₂ = (V'.analyze_node y a₁).1 in
    waits_seq (waits_same {b = a₁} (steady_node x a).waiting) (waits_seq (waits_same {b = a₂} (steady_node y a₁).waiting) (waits_either (waits_stm t n a₂) (waits_stm e (acts t n).1 (V'.analyze_stm t a₂).1)))
waits_stm (block p ts) n a = record { origin = λ l h. (waits_stm ts n (Q.with_stack a _)).origin l h }
waits_stm (bad_stmt z) n a = waits_same refl
waits_stm no_else n a = waits_same refl
waits_stm (or_else p t) n a = waits_stm t n a

-- DECLARATIONS

-- a function's statements
unfoldable pub statements_of : Decl Spot → Stm Spot stmts
statements_of (constant f p q i x t) = nil'
statements_of (function f p q i ps (ok b) t) = b.statements
statements_of (function f p q i ps (err z) t) = nil'
statements_of (function_head f p q i ps t) = nil'
statements_of (structure f p i ms t) = nil'
statements_of (import b p) = nil'
statements_of (bad_decl z) = nil'

-- what the first pass leaves of statements, with the numbers from m to below m': where they meet the premise, labels are well, met once, and numbered from m on
pub record OwnLabels (m m' : ℕ) (ts : Stm Spot stmts) : Type 0 where
  pub rise : m ≤ m'
  pub jumped : (n : Names) (l : ℕ) → jumps_to l (sk ts n) ≡ true → l < m'
  pub well : (n : Names) → premise ts ≡ true → Well (sk ts n)
  pub apart : (n : Names) → premise ts ≡ true → Apart (sk ts n)
  pub marked : (n : Names) → premise ts ≡ true → (l : ℕ) → has_mark l (sk ts n) ≡ true → m ≤ l

-- no statements, no labels
no_labels : {m : ℕ} → OwnLabels m m nil'
unfolding sk jumps_to has_mark
no_labels = record { rise = omega arith; jumped = λ n l h. true_false (sym h); well = λ n h. w_skip; apart = λ n h. a_skip; marked = λ n h l e. true_false (sym e) }

-- numbers of labels have nothing to do with names
pub no_names : Names
no_names = record { constants = []; structures = []; scope = []; count = 0 }

-- of a body
own_labels : (ts : Stm Spot stmts) (l : Labels Spot) → l.label_stack ≡ [] → OwnLabels l.resolution_id (labels ts l).1.resolution_id (labels ts l).0
unfolding held_in
own_labels ts l e =
    let b : Below l = record { below = λ k q. true_false (sym q ∙ ap (held_in k) e) } in
    record {
      rise = (numbers ts l no_names b).rise;
      jumped = λ n k h. (numbers ts l n b).jumped k h;
      well = λ n h. (labelled ts l n b h).well;
      apart = λ n h. (labelled ts l n b h).apart;
      marked = λ n h k z. ((labelled ts l n b h).marked k z).0;
    }

-- declarations in their order, numbered from m on
pub data Numbered : ℕ → List (Decl Spot) → Type 0 where
  n_nil : {m : ℕ} → Numbered m []
  n_cons : {m m' : ℕ} {d : Decl Spot} {ds : List (Decl Spot)} → OwnLabels m m' (statements_of d) → Numbered m' ds → Numbered m (d ∷ ds)

-- of a declaration
own_decl : (d : Decl Spot) (l : Labels Spot) → l.label_stack ≡ [] → OwnLabels l.resolution_id (labels_decl d l).1.resolution_id (statements_of (labels_decl d l).0)
unfolding labels_decl labels_body statements_of pop_scope
own_decl (constant f p q i x t) l e = no_labels
own_decl (function f p q i ps (ok b) t) l e = own_labels b.statements l e
own_decl (function f p q i ps (err z) t) l e = no_labels
own_decl (function_head f p q i ps t) l e = no_labels
own_decl (structure f p i ms t) l e = no_labels
own_decl (import b p) l e = no_labels
own_decl (bad_decl z) l e = no_labels

-- every body's labels are gone again
stack_decl : (d : Decl Spot) (l : Labels Spot) → l.label_stack ≡ [] → (labels_decl d l).1.label_stack ≡ []
unfolding labels_decl labels_body pop_scope
stack_decl (constant f p q i x t) l e = e
stack_decl (function f p q i ps (ok b) t) l e = e
stack_decl (function f p q i ps (err z) t) l e = e
stack_decl (function_head f p q i ps t) l e = e
stack_decl (structure f p i ms t) l e = e
stack_decl (import b p) l e = e
stack_decl (bad_decl z) l e = e

-- of one after the other
numbered_decls : (ds : List (Decl Spot)) (l : Labels Spot) → l.label_stack ≡ [] → Numbered l.resolution_id (labels_decls ds l).0
unfolding labels_decls
numbered_decls [] l e = n_nil
numbered_decls (d ∷ ds) l e = n_cons (own_decl d l e) (numbered_decls ds (labels_decl d l).1 (stack_decl d l e))

-- THE FIRST PASS NUMBERS THEM
pub numbered : (ds : List (Decl Spot)) → Numbered 1 (label_references ds)
unfolding label_references
numbered ds = numbered_decls ds _ refl

-- predeclaration leaves bodies as they are, or drops them
own_as : {m m' : ℕ} (g : Ident Spot → Decl Spot) (r : Maybe Spot (Ident Spot)) → ((i : Ident Spot) → OwnLabels m m' (statements_of (g i))) → OwnLabels m m' (statements_of (V'.declared_as g r))
unfolding V'.declared_as statements_of
own_as g (ok i) h = h i
own_as {m} {m'} g (err z) h = dropped (h (record { name = 0; place = record { number = 0; from = 0 }; id = 0; auth = 0 })).rise
  where
    dropped : m ≤ m' → OwnLabels m m' nil'
    dropped e = let o : OwnLabels m m nil' = no_labels in record { rise = e; jumped = λ n l h. let z = o.jumped n l h in omega arith; well = o.well; apart = o.apart; marked = o.marked }

own_predeclared : {m m' : ℕ} (d : Decl Spot) (a : Analyzer Spot) → OwnLabels m m' (statements_of d) → OwnLabels m m' (statements_of (V'.predeclare d a).0)
unfolding V'.predeclare S.◌>>=◌ S.ret statements_of
own_predeclared (constant f p q i x t) a o = own_as _ _ (λ j. o)
own_predeclared (function f p q i ps (ok b) t) a o = own_as _ _ (λ j. o)
own_predeclared (function f p q i ps (err z) t) a o = own_as _ _ (λ j. o)
own_predeclared (function_head f p q i ps t) a o = own_as _ _ (λ j. o)
own_predeclared (structure f p i ms t) a o = own_as _ _ (λ j. o)
own_predeclared (import b p) a o = o
own_predeclared (bad_decl z) a o = o

-- so the numbers are as they were
pub numbered_predeclared : {m : ℕ} {ds : List (Decl Spot)} (a : Analyzer Spot) → Numbered m ds → Numbered m (V'.in_turn V'.predeclare ds a).0
unfolding V'.in_turn S.◌>>=◌ S.ret
numbered_predeclared a n_nil = n_nil
numbered_predeclared a (n_cons {d = d} o r) = n_cons (own_predeclared d a o) (numbered_predeclared (V'.predeclare d a).1 r)

-- the labels of the k-th are well
pub own_at : {m : ℕ} {ds : List (Decl Spot)} (k : ℕ) (d : Decl Spot) → Numbered m ds → get_elem? ds k ≡ some d → (n : Names) → premise (statements_of d) ≡ true → Well (sk (statements_of d) n)
own_at k d n_nil h = none_some d h
own_at zero d (n_cons {d = c} o r) h = let z : c ≡ d = cc in subst (λ (x : Decl Spot). (n : Names) → premise (statements_of x) ≡ true → Well (sk (statements_of x) n)) z o.well
own_at (suc k) d (n_cons o r) h = own_at k d r h

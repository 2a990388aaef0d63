-- The ids of a whole tree: label ids and variable ids count separately from 1, and both stay below the input's length in bytes.
use Prim.Native.Nat.{ℕ, ◌+◌, ◌≤◌, ◌<◌}
use mathlib.Core.Path.{◌≡◌, refl}
use mathlib.Core.List.{List, [], ◌∷◌}
use mathlib.Core.Option.{Option, none, some}
use lib.ListN.{length}
use native.Mathlib.Omega.{arith}
use Rattle.penne.specs.Tree.{Spot, Ident, Maybe, ok, err, StmSort, Stm, nil', cons', declaration, assignment, method_call, loop, goto, label, if_else, block, bad_stmt, no_else, or_else, Body, Decl, constant, function, function_head, structure, import, bad_decl, Tree}
use Rattle.penne.specs.Reader.{Cur, got}
use Rattle.penne.specs.Read.{incoming, decode}
use Rattle.penne.specs.Labels.{Labels, pop_scope, use_label, declare_label, declared, labels, labels_body, labels_decl, labels_decls, label_references}
use Rattle.penne.specs.State as S
use Rattle.penne.specs.Scopes.{Analyzer}
use Rattle.penne.specs.Scopes as Q
use Rattle.penne.specs.Variables as V'
use Rattle.penne.specs.Scoper.{analyze}
use Rattle.penne.specs.Ids.{ids_stm, ids_body, ids_decl, ids_own, ids_decls, ids_labels, ids_labels_body, ids_labels_decl, ids_labels_decls}
use Rattle.penne.proofs.IdsPass.{Still, still_none, still_then, still_decl}
use Rattle.penne.proofs.IdsRead.{decoded_bytes}

-- THE FIRST PASS: every label takes the next id

module _ {P : Type 0} where
  pub next_label : {s : StmSort} (t : Stm P s) (l : Labels P) → (labels t l).1.resolution_id ≡ l.resolution_id + ids_labels t
  unfolding labels ids_labels declared pop_scope
  next_label nil' l = omega arith
  next_label (cons' t ts) l = omega (arith, next_label ts l, next_label t (labels ts l).1)
  next_label (declaration p v t i) l = omega arith
  next_label (assignment p v r) l = omega arith
  next_label (method_call i b es) l = omega arith
  next_label (loop p) l = omega arith
  next_label (goto i p) l = omega arith
  next_label (label i p) l = omega arith
  next_label (if_else p op q r x y t e) l = omega (arith, next_label t l, next_label e (labels t l).1)
  next_label (block p ts) l = next_label ts l
  next_label (bad_stmt z) l = omega arith
  next_label no_else l = omega arith
  next_label (or_else p t) l = next_label t l

  next_label_body : (b : Maybe P (Body P)) (l : Labels P) → (labels_body b l).1.resolution_id ≡ l.resolution_id + ids_labels_body b
  unfolding labels_body ids_labels_body pop_scope
  next_label_body (ok b) l = next_label b.statements l
  next_label_body (err z) l = omega arith

  pub next_label_decl : (d : Decl P) (l : Labels P) → (labels_decl d l).1.resolution_id ≡ l.resolution_id + ids_labels_decl d
  unfolding labels_decl ids_labels_decl
  next_label_decl (constant f p q i x t) l = omega arith
  next_label_decl (function f p q i ps b t) l = next_label_body b l
  next_label_decl (function_head f p q i ps t) l = omega arith
  next_label_decl (structure f p i ms t) l = omega arith
  next_label_decl (import b p) l = omega arith
  next_label_decl (bad_decl z) l = omega arith

  pub next_label_decls : (ds : List (Decl P)) (l : Labels P) → (labels_decls ds l).1.resolution_id ≡ l.resolution_id + ids_labels_decls ds
  unfolding labels_decls ids_labels_decls
  next_label_decls [] l = omega arith
  next_label_decls (d ∷ ds) l = omega (arith, next_label_decl d l, next_label_decls ds (labels_decl d l).1)

  -- it does not change how many the second pass takes

  same_used : (i : Ident P) (p : P) (o : Option (Ident P)) → ids_stm (use_label i p o) ≡ 0
  unfolding use_label ids_stm
  same_used i p (some j) = refl
  same_used i p none = refl

  same_declared : (i : Ident P) (p : P) (o : Option (Ident P)) → ids_stm (declare_label i p o) ≡ 0
  unfolding declare_label ids_stm
  same_declared i p (some j) = refl
  same_declared i p none = refl

  same_stm : {s : StmSort} (t : Stm P s) (l : Labels P) → ids_stm (labels t l).0 ≡ ids_stm t
  unfolding labels ids_stm
  same_stm nil' l = refl
  same_stm (cons' t ts) l = omega (arith, same_stm ts l, same_stm t (labels ts l).1)
  same_stm (declaration p v t i) l = refl
  same_stm (assignment p v r) l = refl
  same_stm (method_call i b es) l = refl
  same_stm (loop p) l = refl
  same_stm (goto i p) l = same_used i p _
  same_stm (label i p) l = same_declared _ p _
  same_stm (if_else p op q r x y t e) l = omega (arith, same_stm t l, same_stm e (labels t l).1)
  same_stm (block p ts) l = same_stm ts l
  same_stm (bad_stmt z) l = refl
  same_stm no_else l = refl
  same_stm (or_else p t) l = same_stm t l

  same_body : (b : Maybe P (Body P)) (l : Labels P) → ids_body (labels_body b l).0 ≡ ids_body b
  unfolding labels_body ids_body
  same_body (ok b) l = omega (arith, same_stm b.statements l)
  same_body (err z) l = refl

  same_decl : (d : Decl P) (l : Labels P) → ids_own (labels_decl d l).0 + ids_decl (labels_decl d l).0 ≡ ids_own d + ids_decl d
  unfolding labels_decl ids_decl ids_own
  same_decl (constant f p q i x t) l = refl
  same_decl (function f p q i ps b t) l = omega (arith, same_body b l)
  same_decl (function_head f p q i ps t) l = refl
  same_decl (structure f p i ms t) l = refl
  same_decl (import b p) l = refl
  same_decl (bad_decl z) l = refl

  same_decls : (ds : List (Decl P)) (l : Labels P) → ids_decls (labels_decls ds l).0 ≡ ids_decls ds
  unfolding labels_decls ids_decls
  same_decls [] l = refl
  same_decls (d ∷ ds) l = omega (arith, same_decl d l, same_decls ds (labels_decl d l).1)

  -- PREDECLARATION: every name takes the next id

  pub next_own : (d : Decl P) (a : Analyzer P) → (V'.predeclare d a).1.resolution_id ≡ a.resolution_id + ids_own d
  unfolding V'.predeclare S.◌>>=◌ S.ret ids_own Q.declare_constant Q.declare_function Q.declare_struct Q.next_id Q.with_stack Q.with_containment Q.with_functions
  next_own (constant f p q i x t) a = omega arith
  next_own (function f p q i ps b t) a = omega arith
  next_own (function_head f p q i ps t) a = omega arith
  next_own (structure f p i ms t) a = omega arith
  next_own (import b p) a = omega arith
  next_own (bad_decl z) a = omega arith

  fewer_as : (f : Ident P → Decl P) (n : ℕ) → ((i : Ident P) → ids_decl (f i) ≤ n) → (r : Maybe P (Ident P)) → ids_decl (V'.declared_as f r) ≤ n
  unfolding V'.declared_as ids_decl
  fewer_as f n h (ok i) = h i
  fewer_as f n h (err z) = omega arith

  -- a duplicate takes no ids inside
  fewer : (d : Decl P) (a : Analyzer P) → ids_decl (V'.predeclare d a).0 ≤ ids_decl d
  unfolding V'.predeclare S.◌>>=◌ S.ret ids_decl
  fewer (constant f p q i x t) a = fewer_as _ _ (λ i. omega arith) _
  fewer (function f p q i ps b t) a = fewer_as _ _ (λ i. omega arith) _
  fewer (function_head f p q i ps t) a = fewer_as _ _ (λ i. omega arith) _
  fewer (structure f p i ms t) a = fewer_as _ _ (λ i. omega arith) _
  fewer (import b p) a = omega arith
  fewer (bad_decl z) a = omega arith

  -- all that the declarations take behind predeclaration
  unfoldable pub ids_inside : List (Decl P) → ℕ
  ids_inside [] = 0
  ids_inside (d ∷ ds) = ids_decl d + ids_inside ds

  pub next_owns : (ds : List (Decl P)) (a : Analyzer P) → (V'.in_turn V'.predeclare ds a).1.resolution_id + ids_inside (V'.in_turn V'.predeclare ds a).0 ≤ a.resolution_id + ids_decls ds
  unfolding V'.in_turn S.◌>>=◌ S.ret ids_decls ids_inside
  next_owns [] a = omega arith
  next_owns (d ∷ ds) a = omega (arith, next_own d a, fewer d a, next_owns ds (V'.predeclare d a).1)

  pub lower_owns : (ds : List (Decl P)) (a : Analyzer P) → a.resolution_id ≤ (V'.in_turn V'.predeclare ds a).1.resolution_id
  unfolding V'.in_turn S.◌>>=◌ S.ret
  lower_owns [] a = omega arith
  lower_owns (d ∷ ds) a = omega (arith, next_own d a, lower_owns ds (V'.predeclare d a).1)

  -- THE SECOND PASS

  pub still_decls : (names : List (List ℕ)) (ds : List (Decl P)) (a : Analyzer P) → Still (ids_inside ds) a (V'.in_turn (V'.analyze_decl names) ds a).1
  unfolding V'.in_turn S.◌>>=◌ S.ret ids_inside
  still_decls names [] a = still_none
  still_decls names (d ∷ ds) a = still_then (still_decl names d a) (still_decls names ds (V'.analyze_decl names d a).1)

  -- over a whole tree
  pub ids_all : (names : List (List ℕ)) (ds : List (Decl P)) → (analyze names ds).1.resolution_id ≤ 1 + ids_decls ds
  unfolding analyze V'.analyze_all S.◌>>=◌ S.ret label_references Q.begin
  ids_all names ds =
      let l = label_references ds in
      let r = V'.in_turn V'.predeclare l Q.begin in
      omega (arith, (still_decls names r.0 r.1).takes.upper, next_owns l Q.begin, same_decls ds (record { label_stack = []; resolution_id = 1 }))

-- both passes' next ids behind a tree that was read: no id reaches the input's length
pub record Few (s : List ℕ) (t : Tree Spot) : Type 0 where
  pub variables : (analyze t.names t.decls).1.resolution_id < length s
  pub labels : (labels_decls t.decls (record { label_stack = []; resolution_id = 1 })).1.resolution_id < length s

pub ids_few_next : (s : List ℕ) {t : Tree Spot} {c : Cur} → decode incoming s ≡ got t c → Few s t
ids_few_next s {t} e = record {
  variables = omega (arith, decoded_bytes s e, ids_all t.names t.decls);
  labels = omega (arith, decoded_bytes s e, next_label_decls t.decls (record { label_stack = []; resolution_id = 1 }));
}

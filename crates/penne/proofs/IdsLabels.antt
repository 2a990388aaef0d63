-- The ids of labels and gotos: the first pass gives ids that count from 1 and are below its next one, and the second leaves them alone.
use Prim.Native.Nat.{ℕ, ◌≤◌}
use mathlib.Core.Path.{◌≡◌, refl, sym, subst}
use mathlib.Core.List.{List, [], ◌∷◌, ◌++◌, flat_map}
use mathlib.Core.Option.{Option, none, some}
use native.Mathlib.Omega.{arith}
use Rattle.penne.specs.Tree.{Kind, Ident, Maybe, ok, err, Ty, Sort, Expr, Node, StmSort, Stm, nil', cons', declaration, assignment, method_call, loop, goto, label, if_else, block, bad_stmt, no_else, or_else, Param, Body, Decl, constant, function, function_head, structure, import, bad_decl, Carried}
use Rattle.penne.specs.Find.{resolved}
use Rattle.penne.specs.Labels.{Labels}
use Rattle.penne.specs.Labels as L
use Rattle.penne.specs.State as S
use Rattle.penne.specs.Scopes.{Analyzer, Pass, new_scope}
use Rattle.penne.specs.Scopes as Q
use Rattle.penne.specs.Variables as V'
use Rattle.penne.specs.Ids.{given_maybe, given_ident, given_labels, given_labels_body, given_labels_decl, Below, nothing}
use Rattle.penne.proofs.IdsBelow.{raise, both, left, right, ids_of, Known, known, known_named, fresh, fresh_last}

-- THE FIRST PASS GIVES THEM

module _ {P : Type 0} where
  pub record LowL (l : Labels P) : Type 0 where
    pub stack : Below l.resolution_id (ids_of l.label_stack)
    pub begun : 1 ≤ l.resolution_id

  -- from l, an answer whose ids are h
  pub record FineL (l : Labels P) (h : List ℕ) (l' : Labels P) : Type 0 where
    pub low : LowL l'
    pub up : l.resolution_id ≤ l'.resolution_id
    pub given : Below l'.resolution_id h

  fine_none : {l : Labels P} → LowL l → FineL l [] l
  fine_none u = record { low = u; up = omega arith; given = nothing }

  given_used : {n : ℕ} (i : Ident P) (p : P) (o : Option (Ident P)) → Known n o → Below n (given_labels (L.use_label i p o))
  unfolding L.use_label given_labels given_ident resolved
  given_used i p (some j) (known q) = q
  given_used i p none k = nothing

  given_labelled : {n : ℕ} (i : Ident P) (p : P) (o : Option (Ident P)) → Below n (given_ident i) → Below n (given_labels (L.declare_label i p o))
  unfolding L.declare_label given_labels
  given_labelled i p (some j) q = nothing
  given_labelled i p none q = q

  fine_labels : {s : StmSort} (t : Stm P s) (l : Labels P) → LowL l → FineL l (given_labels (L.labels t l).0) (L.labels t l).1
  unfolding L.labels L.declared L.pop_scope given_labels
  fine_labels nil' l u = fine_none u
  fine_labels (cons' t ts) l u =
      let p = fine_labels ts l u in
      let q = fine_labels t (L.labels ts l).1 p.low in
      record { low = q.low; up = omega (arith, p.up, q.up); given = both q.given (raise q.up p.given) }
  fine_labels (declaration p v t i) l u = fine_none u
  fine_labels (assignment p v r) l u = fine_none u
  fine_labels (method_call i b es) l u = fine_none u
  fine_labels (loop p) l u = fine_none u
  fine_labels (goto i p) l u = record { low = u; up = omega arith; given = given_used i p _ (known_named i.name _ u.stack) }
  fine_labels (label i p) l u = record {
    low = record { stack = fresh_last l.label_stack i u.begun u.stack; begun = omega arith };
    up = omega arith;
    given = given_labelled (resolved i l.resolution_id 1) p _ (fresh i u.begun);
  }
  fine_labels (if_else p op q r x y t e) l u =
      let v = fine_labels t l u in
      let w = fine_labels e (L.labels t l).1 v.low in
      record { low = w.low; up = omega (arith, v.up, w.up); given = both (raise w.up v.given) w.given }
  fine_labels (block p ts) l u =
      let v = fine_labels ts l u in
      record { low = record { stack = raise v.up u.stack; begun = v.low.begun }; up = v.up; given = v.given }
  fine_labels (bad_stmt z) l u = fine_none u
  fine_labels no_else l u = fine_none u
  fine_labels (or_else p t) l u = fine_labels t l u

  fine_labels_body : (b : Maybe P (Body P)) (l : Labels P) → LowL l → FineL l (given_maybe given_labels_body (L.labels_body b l).0) (L.labels_body b l).1
  unfolding L.labels_body L.pop_scope given_maybe given_labels_body
  fine_labels_body (ok b) l u =
      let v = fine_labels b.statements l u in
      record { low = record { stack = raise v.up u.stack; begun = v.low.begun }; up = v.up; given = v.given }
  fine_labels_body (err z) l u = fine_none u

  fine_labels_decl : (d : Decl P) (l : Labels P) → LowL l → FineL l (given_labels_decl (L.labels_decl d l).0) (L.labels_decl d l).1
  unfolding L.labels_decl given_labels_decl
  fine_labels_decl (constant f p q i x t) l u = fine_none u
  fine_labels_decl (function f p q i ps b t) l u = fine_labels_body b l u
  fine_labels_decl (function_head f p q i ps t) l u = fine_none u
  fine_labels_decl (structure f p i ms t) l u = fine_none u
  fine_labels_decl (import b p) l u = fine_none u
  fine_labels_decl (bad_decl z) l u = fine_none u

  pub fine_labels_decls : (ds : List (Decl P)) (l : Labels P) → LowL l → FineL l (flat_map given_labels_decl (L.labels_decls ds l).0) (L.labels_decls ds l).1
  unfolding L.labels_decls flat_map
  fine_labels_decls [] l u = fine_none u
  fine_labels_decls (d ∷ ds) l u =
      let p = fine_labels_decl d l u in
      let q = fine_labels_decls ds (L.labels_decl d l).1 p.low in
      record { low = q.low; up = omega (arith, p.up, q.up); given = both (raise q.up p.given) q.given }

  -- THE SECOND PASS LEAVES LABELS ALONE

  labels_declaration : (p : P) (v : Option (Expr P)) (t : Carried P) (r : Maybe P (Ident P)) → given_labels (V'.declaration_of p v t r) ≡ []
  unfolding V'.declaration_of given_labels
  labels_declaration p v t (ok i) = refl
  labels_declaration p v t (err z) = refl

  labels_method : (b : ℕ) (es : Node P (Sort.list_of Kind.expr)) (r : Maybe P (Ident P)) → given_labels (V'.method_to b es r) ≡ []
  unfolding V'.method_to given_labels
  labels_method b es (ok i) = refl
  labels_method b es (err z) = refl

  labels_stm : {s : StmSort} (t : Stm P s) (a : Analyzer P) → given_labels (V'.analyze_stm t a).0 ≡ given_labels t
  unfolding V'.analyze_stm S.◌>>=◌ S.ret Q.in_new_scope Q.prepare_to_prune_at_goto Q.prune_at_label given_labels
  labels_stm nil' a = refl
  labels_stm (cons' t ts) a = λ k. labels_stm t a k ++ labels_stm ts (V'.analyze_stm t a).1 k
  labels_stm (declaration p v t i) a = labels_declaration p _ _ _
  labels_stm (assignment p v r) a = refl
  labels_stm (method_call i b es) a = labels_method b _ _
  labels_stm (loop p) a = refl
  labels_stm (goto i p) a = refl
  labels_stm (label i p) a = refl
  labels_stm (if_else p op q r x y t e) a =
      let c = (V'.analyze_node y (V'.analyze_node x a).1).1 in
      λ k. labels_stm t c k ++ labels_stm e (V'.analyze_stm t c).1 k
  labels_stm (block p ts) a = labels_stm ts (new_scope a)
  labels_stm (bad_stmt z) a = refl
  labels_stm no_else a = refl
  labels_stm (or_else p t) a = labels_stm t a

  labels_body : (b : Maybe P (Body P)) (a : Analyzer P) → given_maybe given_labels_body (V'.analyze_body b a).0 ≡ given_maybe given_labels_body b
  unfolding V'.analyze_body V'.analyze_in_body S.◌>>=◌ S.ret Q.in_new_scope given_maybe given_labels_body
  labels_body (ok b) a = labels_stm b.statements (new_scope a)
  labels_body (err z) a = refl

  labels_function : {n : ℕ} (names : List (List ℕ)) (f : ℕ) (p q : P) (ps : List (Param P)) (b : Maybe P (Body P)) (t : Maybe P (Ty P)) (i : Maybe P (Ident P)) (a : Analyzer P) → Below n (given_maybe given_labels_body b) → Below n (given_labels_decl (V'.function_of names f p q ps b t i a).0)
  unfolding V'.function_of S.◌>>=◌ S.ret given_labels_decl
  labels_function names f p q ps b t (ok i) a h = h
  labels_function names f p q ps b t (err z) a h = nothing

  labels_head : {n : ℕ} (f : ℕ) (p q : P) (ps : List (Param P)) (t : Maybe P (Ty P)) (i : Maybe P (Ident P)) (a : Analyzer P) → Below n (given_labels_decl (V'.function_head_of f p q ps t i a).0)
  unfolding V'.function_head_of S.◌>>=◌ S.ret given_labels_decl
  labels_head f p q ps t (ok i) a = nothing
  labels_head f p q ps t (err z) a = nothing

  pub labels_decl : {n : ℕ} (names : List (List ℕ)) (d : Decl P) (a : Analyzer P) → Below n (given_labels_decl d) → Below n (given_labels_decl (V'.analyze_decl names d a).0)
  unfolding V'.analyze_decl V'.analyze_params_and_body S.◌>>=◌ S.ret Q.in_new_scope given_labels_decl
  labels_decl names (constant f p q i x t) a h = nothing
  labels_decl {n} names (function f p q i ps b t) a h = labels_function names f p q _ _ t _ _ (subst (Below n) (sym (labels_body b _)) h)
  labels_decl names (function_head f p q i ps t) a h = labels_head f p q _ t _ _
  labels_decl names (structure f p i ms t) a h = nothing
  labels_decl names (import b p) a h = nothing
  labels_decl names (bad_decl z) a h = nothing

  labels_as_decl : {n : ℕ} (f : Ident P → Decl P) → ((i : Ident P) → Below n (given_labels_decl (f i))) → (r : Maybe P (Ident P)) → Below n (given_labels_decl (V'.declared_as f r))
  unfolding V'.declared_as given_labels_decl
  labels_as_decl f h (ok i) = h i
  labels_as_decl f h (err z) = nothing

  pub labels_own : {n : ℕ} (d : Decl P) (a : Analyzer P) → Below n (given_labels_decl d) → Below n (given_labels_decl (V'.predeclare d a).0)
  unfolding V'.predeclare S.◌>>=◌ S.ret given_labels_decl
  labels_own (constant f p q i x t) a h = labels_as_decl _ (λ i. nothing) _
  labels_own (function f p q i ps b t) a h = labels_as_decl _ (λ i. h) _
  labels_own (function_head f p q i ps t) a h = labels_as_decl _ (λ i. nothing) _
  labels_own (structure f p i ms t) a h = labels_as_decl _ (λ i. nothing) _
  labels_own (import b p) a h = nothing
  labels_own (bad_decl z) a h = nothing

  pub labels_turn : {n : ℕ} (f : Decl P → Pass P (Decl P)) → ((d : Decl P) (a : Analyzer P) → Below n (given_labels_decl d) → Below n (given_labels_decl (f d a).0)) → (ds : List (Decl P)) (a : Analyzer P) → Below n (flat_map given_labels_decl ds) → Below n (flat_map given_labels_decl (V'.in_turn f ds a).0)
  unfolding V'.in_turn S.◌>>=◌ S.ret flat_map
  labels_turn f g [] a h = nothing
  labels_turn f g (d ∷ ds) a h = both (g d a (left (given_labels_decl d) _ h)) (labels_turn f g ds (f d a).1 (right (given_labels_decl d) _ h))

-- The words of a tree say what the definition's label pass makes of it.
use mathlib.Core.Path.{◌≡◌, refl, sym, ap, subst, ◌∙◌}
use mathlib.Core.Bool.{true, false}
use mathlib.Core.List.{List, [], ◌∷◌, ◌++◌, map, append_assoc, append-nil}
use mathlib.Core.Option.{Option, none, some}
use Prim.Native.Nat.{ℕ, zero, suc, ◌+◌, ◌-◌, ◌≤◌, ◌<◌}
use native.Mathlib.Omega.{arith}
use lib.Dec.{leb, eqb}
use lib.ListN.{length, get_or, length-append}
use Rattle.label_references.specs.Pass.{fresh}
use borrow.Author.Tests.{le-leb, lt-leb}
use Rattle.penne.specs.Find.{first, first_named, resolved}
use Rattle.penne.specs.Tree.{Spot, Ident, poison, StmSort, stmt, Stm, nil', cons', declaration, assignment, method_call, loop, goto, label, if_else, block, bad_stmt, no_else, or_else, stmts, ok, err, Decl, constant, function, function_head, structure, import, bad_decl}
use Rattle.penne.specs.Labels.{Labels, labels, use_label, declare_label, declared, pop_scope, labels_body, labels_decl, labels_decls, label_references}
use Rattle.penne.proofs.Searching.{first_hit, first_miss}
use Rattle.labels.specs.Outcomes.{goto_word, label_word, outcomes, labels_in, statements_in, body_of, body_outcomes, body_labels, outcomes_decls, labels_in_decls}
use Rattle.scopes.specs.Labels.{Along, stop, step}
use Rattle.label_references.specs.Marked.{place_of, marked_goto, marked_label, rest, marked, marked_body, marked_decl, marked_decls, Numbered, Known, none_known, one_known}
use Rattle.label_references.proofs.Growing.{labels_few}
use Rattle.tree.specs.declared.script.Layout.{Layout}
use Rattle.tree.specs.Script.{LaidOut}

-- what is found is known
pub data Found (all : List (Ident Spot)) : Option (Ident Spot) → Type 0 where
  not_found : Found all none
  is_found : {j : Ident Spot} → Numbered all j.id j → Found all (some j)

found : {all js : List (Ident Spot)} (name : ℕ) → Known all js → Found all (first_named name js)
unfolding first_named first
found name none_known = not_found
found {all} name (one_known {i = j} {is = js} n k) = (elim (eqb j.name name) as (λ b. eqb j.name name ≡ b → Found all (first (λ (i : Ident Spot). eqb i.name name) (j ∷ js))) [
  | true ↦ λ e. subst (Found all) (sym (first_hit (λ (i : Ident Spot). eqb i.name name) j js e)) (is_found n)
  | false ↦ λ e. subst (Found all) (sym (first_miss (λ (i : Ident Spot). eqb i.name name) j js e)) (found name k)
]) refl

known_more : {all js : List (Ident Spot)} {i : Ident Spot} → Known all js → Numbered all i.id i → Known all (js ++ (i ∷ []))
known_more none_known n = one_known n none_known
known_more (one_known m k) n = one_known m (known_more k n)

-- a goto and a label by their words
goto_marked : {all : List (Ident Spot)} (i : Ident Spot) (p : Spot) (q : Option (Ident Spot)) → Found all q → marked_goto i p (goto_word q) ≡ use_label i p q
unfolding marked_goto goto_word use_label
goto_marked i p none not_found = refl
goto_marked i p (some j) (is_found n) = go j.id n.low
  where
    go : (id : ℕ) → 0 < id → marked_goto i p id ≡ goto (resolved i id 0) p
    go zero h = absurd (omega arith)
    go (suc m) h = refl

label_marked : {all : List (Ident Spot)} (i : Ident Spot) (p : Spot) (id : ℕ) (q : Option (Ident Spot)) → id ≤ 1024 → Found all q → marked_label all i p (label_word id q) ≡ declare_label (resolved i id 1) p q
unfolding marked_label label_word declare_label resolved
label_marked i p id none h not_found = rw (le-leb id 1024 h, marked_label)
label_marked {all} i p id (some j) h (is_found n) =
    let z : leb (1024 + j.id) 1024 ≡ false = lt-leb (1024 + j.id) 1024 (omega (arith, n.low)) in
    let e : 1024 + j.id - 1024 ≡ j.id = omega arith in
    rw (z, marked_label) (ap (λ (x : Spot). bad_stmt (poison 1 (i.name ∷ []) (x ∷ i.place ∷ []))) (ap (λ (d : ℕ). place_of all d i.place) e ∙ n.is i.place))

-- a numbered list in two parts
pub record Split {A : Type 0} (P : ℕ → A → Type 0) (k : ℕ) (xs ys : List A) (n : ℕ) : Type 0 where
  pub middle : ℕ
  pub left : Along P k xs middle
  pub right : Along P middle ys n

split : {A : Type 0} {P : ℕ → A → Type 0} {k n : ℕ} (xs ys : List A) → Along P k (xs ++ ys) n → Split P k xs ys n
split {k = k} [] ys a = record { middle = k; left = stop; right = a }
split {k = k} (x ∷ xs) ys (step p a) = let s = split {k = k + 1} xs ys a in record { middle = s.middle; left = step p s.left; right = s.right }

-- what the words say of t, where l holds before it
pub record Marks {s : StmSort} (all : List (Ident Spot)) (t : Stm Spot s) (l : Labels Spot) (n : ℕ) : Type 0 where
  pub words : (os : List ℕ) → marked all t (outcomes t l ++ os) ≡ ((labels t l).0, os)
  pub known : Known all (labels t l).1.label_stack
  pub next : n ≡ (labels t l).1.resolution_id

pub marks : {s : StmSort} {all : List (Ident Spot)} (t : Stm Spot s) (l : Labels Spot) {n : ℕ} → Along (Numbered all) l.resolution_id (labels_in t) n → Known all l.label_stack → Marks all t l n
unfolding marked outcomes labels labels_in rest declared pop_scope resolved
marks nil' l stop k = record { words = λ os. refl; known = k; next = refl }
marks {all = all} (cons' t ts) l {n} a k =
    let s = split (labels_in ts) (labels_in t) a in
    let m = marks ts l s.left k in
    let m₂ = marks t (labels ts l).1 (subst (λ (i : ℕ). Along (Numbered all) i (labels_in t) n) m.next s.right) m.known in
    record {
      known = m₂.known;
      next = m₂.next;
      words = λ os.
          ap (λ (v : List ℕ). marked all (cons' t ts) v) (append_assoc (outcomes t (labels ts l).1) (outcomes ts l) os) ∙
          ap (λ (z : Stm Spot stmt × List ℕ). (cons' z.0 (marked all ts z.1).0, (marked all ts z.1).1)) (m₂.words (outcomes ts l ++ os)) ∙
          ap (λ (z : Stm Spot _ × List ℕ). (cons' (labels t (labels ts l).1).0 z.0, z.1)) (m.words os);
    }
marks (declaration p v t i) l stop k = record { words = λ os. refl; known = k; next = refl }
marks (assignment p v r) l stop k = record { words = λ os. refl; known = k; next = refl }
marks (method_call i b es) l stop k = record { words = λ os. refl; known = k; next = refl }
marks (loop p) l stop k = record { words = λ os. refl; known = k; next = refl }
marks (goto i p) l stop k = record { words = λ os. ap (λ (x : Stm Spot stmt). (x, os)) (goto_marked i p (first_named i.name l.label_stack) (found i.name k)); known = k; next = refl }
marks {all = all} (label i p) l (step a stop) k = record {
  words = λ os. ap (λ (x : Stm Spot stmt). (x, os)) (label_marked i p l.resolution_id (first_named i.name l.label_stack) a.high (found i.name k));
  known = known_more {i = resolved i l.resolution_id 1} k (record { is = a.is; low = a.low; high = a.high });
  next = refl;
}
marks {all = all} (if_else p op q r x y t e) l {n} a k =
    let s = split (labels_in t) (labels_in e) a in
    let m = marks t l s.left k in
    let m₂ = marks e (labels t l).1 (subst (λ (i : ℕ). Along (Numbered all) i (labels_in e) n) m.next s.right) m.known in
    record {
      known = m₂.known;
      next = m₂.next;
      words = λ os.
          ap (λ (v : List ℕ). marked all (if_else p op q r x y t e) (0 ∷ v)) (append_assoc (outcomes t l) (outcomes e (labels t l).1) os) ∙
          ap (λ (z : Stm Spot stmt × List ℕ). (if_else p op q r x y z.0 (marked all e z.1).0, (marked all e z.1).1)) (m.words (outcomes e (labels t l).1 ++ os)) ∙
          ap (λ (z : Stm Spot _ × List ℕ). (if_else p op q r x y (labels t l).0 z.0, z.1)) (m₂.words os);
    }
marks (block p ts) l a k =
    let m = marks ts l a k in
    record { known = k; next = m.next; words = λ os. ap (λ (z : Stm Spot _ × List ℕ). (block p z.0, z.1)) (m.words os) }
marks (bad_stmt z) l stop k = record { words = λ os. refl; known = k; next = refl }
marks no_else l stop k = record { words = λ os. refl; known = k; next = refl }
marks (or_else p t) l a k =
    let m = marks t l a k in
    record { known = m.known; next = m.next; words = λ os. ap (λ (z : Stm Spot stmt × List ℕ). (or_else p z.0, z.1)) (m.words os) }

-- DECLARATIONS

pub record MarksDecl (all : List (Ident Spot)) (d : Decl Spot) (l : Labels Spot) (n : ℕ) : Type 0 where
  pub words : (os : List ℕ) → marked_decl all d (body_outcomes (body_of d) l ++ os) ≡ ((labels_decl d l).0, os)
  pub known : Known all (labels_decl d l).1.label_stack
  pub next : n ≡ (labels_decl d l).1.resolution_id

marks_decl : {all : List (Ident Spot)} (d : Decl Spot) (l : Labels Spot) {n : ℕ} → Along (Numbered all) l.resolution_id (body_labels (body_of d)) n → Known all l.label_stack → MarksDecl all d l n
unfolding marked_decl marked_body body_outcomes body_labels body_of statements_in labels_decl labels_body pop_scope
marks_decl (constant f p q i x t) l stop k = record { words = λ os. refl; known = k; next = refl }
marks_decl (function f p q i ps (ok b) t) l a k =
    let m = marks b.statements l a k in
    record { known = k; next = m.next; words = λ os. ap (λ (z : Stm Spot stmts × List ℕ). (function f p q i ps (ok (record { statements = z.0; value = b.value; result = b.result })) t, z.1)) (m.words os) }
marks_decl (function f p q i ps (err z) t) l stop k = record { words = λ os. refl; known = k; next = refl }
marks_decl (function_head f p q i ps t) l stop k = record { words = λ os. refl; known = k; next = refl }
marks_decl (structure f p i ms t) l stop k = record { words = λ os. refl; known = k; next = refl }
marks_decl (import b p) l stop k = record { words = λ os. refl; known = k; next = refl }
marks_decl (bad_decl z) l stop k = record { words = λ os. refl; known = k; next = refl }

pub marks_decls : {all : List (Ident Spot)} (ds : List (Decl Spot)) (l : Labels Spot) {n : ℕ} → Along (Numbered all) l.resolution_id (labels_in_decls ds) n → Known all l.label_stack → (os : List ℕ) → marked_decls all ds (outcomes_decls ds l ++ os) ≡ ((labels_decls ds l).0, os)
unfolding marked_decls outcomes_decls labels_decls labels_in_decls
marks_decls [] l a k os = refl
marks_decls {all} (d ∷ ds) l {n} a k os =
    let s = split (body_labels (body_of d)) (labels_in_decls ds) a in
    let m = marks_decl d l s.left k in
    let m₂ = marks_decls ds (labels_decl d l).1 (subst (λ (i : ℕ). Along (Numbered all) i (labels_in_decls ds) n) m.next s.right) m.known os in
    ap (λ (v : List ℕ). marked_decls all (d ∷ ds) v) (append_assoc (body_outcomes (body_of d) l) (outcomes_decls ds (labels_decl d l).1) os) ∙
    ap (λ (z : Decl Spot × List ℕ). (z.0 ∷ (marked_decls all ds z.1).0, (marked_decls all ds z.1).1)) (m.words (outcomes_decls ds (labels_decl d l).1 ++ os)) ∙
    ap (λ (z : List (Decl Spot) × List ℕ). ((labels_decl d l).0 ∷ z.0, z.1)) m₂

nth_go : (pre : List (Ident Spot)) (x : Ident Spot) (xs : List (Ident Spot)) (p : Spot) → get_or (map (λ i. i.place) (pre ++ (x ∷ xs))) (length pre) p ≡ x.place
nth_go [] x xs p = refl
nth_go (y ∷ pre) x xs p = nth_go pre x xs p

place_go : (pre : List (Ident Spot)) (x : Ident Spot) (xs : List (Ident Spot)) (p : Spot) → place_of (pre ++ (x ∷ xs)) (length pre + 1) p ≡ x.place
unfolding place_of
place_go pre x xs p = let e : length pre + 1 - 1 ≡ length pre = omega arith in ap (λ (i : ℕ). get_or (map (λ (j : Ident Spot). j.place) (pre ++ (x ∷ xs))) i p) e ∙ nth_go pre x xs p

-- every label has its id in the list of all
numbered_go : (pre xs : List (Ident Spot)) → length pre + length xs ≤ 1024 → Along (Numbered (pre ++ xs)) (length pre + 1) xs (length pre + 1 + length xs)
numbered_go pre [] h = let e : length pre + 1 ≡ length pre + 1 + 0 = omega arith in subst (λ (i : ℕ). Along (Numbered (pre ++ [])) (length pre + 1) [] i) e stop
numbered_go pre (x ∷ xs) h =
    let f : (pre ++ (x ∷ [])) ++ xs ≡ pre ++ (x ∷ xs) = append_assoc pre (x ∷ []) xs in
    let c : length (pre ++ (x ∷ [])) ≡ length pre + 1 = length-append pre (x ∷ []) in
    let a = numbered_go (pre ++ (x ∷ [])) xs (omega arith) in
    let a₁ : Along (Numbered (pre ++ (x ∷ xs))) (length pre + 1 + 1) xs (length pre + 1 + 1 + length xs) = subst (λ (i : ℕ). Along (Numbered (pre ++ (x ∷ xs))) (i + 1) xs (i + 1 + length xs)) c (subst (λ (v : List (Ident Spot)). Along (Numbered v) (length (pre ++ (x ∷ [])) + 1) xs (length (pre ++ (x ∷ [])) + 1 + length xs)) f a) in
    let d : length pre + 1 + 1 + length xs ≡ length pre + 1 + suc (length xs) = omega arith in
    step (record { is = λ p. place_go pre x xs p; low = omega arith; high = omega arith }) (subst (λ (i : ℕ). Along (Numbered (pre ++ (x ∷ xs))) (length pre + 1 + 1) xs i) d a₁)

-- THE PASS: the tree with its words is what the definition's first pass makes of it
pub marked_is : (ds : List (Decl Spot)) → length (labels_in_decls ds) ≤ 1024 → (marked_decls (labels_in_decls ds) ds (outcomes_decls ds (fresh 1))).0 ≡ label_references ds
unfolding label_references fresh
marked_is ds h =
    let e : outcomes_decls ds (fresh 1) ++ [] ≡ outcomes_decls ds (fresh 1) = append-nil (outcomes_decls ds (fresh 1)) in
    ap (λ (v : List ℕ). (marked_decls (labels_in_decls ds) ds v).0) (sym e) ∙ ap (λ (z : List (Decl Spot) × List ℕ). z.0) (marks_decls ds (fresh 1) (numbered_go [] (labels_in_decls ds) (omega arith)) none_known [])

-- of a tree that is read, whatever its declarations
pub pass_is : {s : List ℕ} {l : Layout} (t : LaidOut s l) → (marked_decls (labels_in_decls t.decls) t.decls (outcomes_decls t.decls (fresh 1))).0 ≡ label_references t.decls
pass_is t = marked_is t.decls (labels_few t)

-- The words that the label pass leaves fit the declarations whose statements they are of.
use mathlib.Core.Path.{◌≡◌, refl, sym, ap, subst, ◌∙◌}
use mathlib.Core.Bool.{Bool, true, ◌&&◌}
use mathlib.Core.List.{List, [], ◌∷◌, ◌++◌, append-nil, append_assoc}
use Prim.Native.Nat.{ℕ}
use Rattle.penne.specs.Tree.{Spot, Ident, stmts, Stm, ok, err, Decl, constant, function, function_head, structure, import, bad_decl}
use Rattle.penne.specs.Labels.{Labels, pop_scope, labels_body, labels_decl}
use Rattle.tree.specs.declared.script.Layout.{Layout}
use Rattle.tree.specs.Script.{LaidOut}
use Rattle.labels.specs.Outcomes.{statements_in, body_of, body_outcomes, body_labels, outcomes_decls, labels_in_decls}
use Rattle.label_references.specs.Pass.{fresh}
use Rattle.scopes.specs.Labels.{Along, stop}
use Rattle.label_references.specs.Marked.{marked_body, marked_decl, Known, none_known}
use Rattle.label_references.proofs.Marking.{marks}
use Rattle.label_references.proofs.Growing.{labels_few}
use Rattle.statement_parts.specs.Stating.{fits_body}
use Rattle.statement_parts.proofs.Fitting.{Sits, split, numbered_along, fits_body_lem, sits_all}

-- the words of a declaration's statements fit them
unfoldable pub fits_words : List (Ident Spot) → Decl Spot → List ℕ → Bool
fits_words all (constant g p q i x t) os = true
fits_words all (function g p q i ps b t) os = fits_body all true b os
fits_words all (function_head g p q i ps t) os = true
fits_words all (structure g p i ms t) os = true
fits_words all (import b p) os = true
fits_words all (bad_decl z) os = true

-- so do those of all declarations, one after the other
unfoldable pub fits_all : List (Ident Spot) → List (Decl Spot) → List ℕ → Bool
fits_all all [] os = true
fits_all all (d ∷ ds) os = fits_words all d os && fits_all all ds (marked_decl all d os).1

-- what the words say of d, where l holds before it
record Fits (all : List (Ident Spot)) (d : Decl Spot) (l : Labels Spot) (n : ℕ) : Type 0 where
  fits : (os : List ℕ) → fits_words all d (body_outcomes (body_of d) l ++ os) ≡ true
  words : (os : List ℕ) → (marked_decl all d (body_outcomes (body_of d) l ++ os)).1 ≡ os
  known : Known all (labels_decl d l).1.label_stack
  next : n ≡ (labels_decl d l).1.resolution_id

fits_decl : {all : List (Ident Spot)} (d : Decl Spot) (l : Labels Spot) {n : ℕ} → Along (Sits all) l.resolution_id (body_labels (body_of d)) n → Known all l.label_stack → Fits all d l n
unfolding fits_words marked_decl marked_body body_outcomes body_labels body_of statements_in labels_decl labels_body pop_scope
fits_decl (constant g p q i x t) l stop k = record { fits = λ os. refl; words = λ os. refl; known = k; next = refl }
fits_decl (function g p q i ps (ok b) t) l a k =
    let m = marks b.statements l (numbered_along a) k in
    record { fits = fits_body_lem (ok b) l a k; words = λ os. ap (λ (z : Stm Spot stmts × List ℕ). z.1) (m.words os); known = k; next = m.next }
fits_decl (function g p q i ps (err z) t) l stop k = record { fits = fits_body_lem (err z) l stop k; words = λ os. refl; known = k; next = refl }
fits_decl (function_head g p q i ps t) l stop k = record { fits = λ os. refl; words = λ os. refl; known = k; next = refl }
fits_decl (structure g p i ms t) l stop k = record { fits = λ os. refl; words = λ os. refl; known = k; next = refl }
fits_decl (import b p) l stop k = record { fits = λ os. refl; words = λ os. refl; known = k; next = refl }
fits_decl (bad_decl z) l stop k = record { fits = λ os. refl; words = λ os. refl; known = k; next = refl }

fits_decls : {all : List (Ident Spot)} (ds : List (Decl Spot)) (l : Labels Spot) {n : ℕ} → Along (Sits all) l.resolution_id (labels_in_decls ds) n → Known all l.label_stack → (os : List ℕ) → fits_all all ds (outcomes_decls ds l ++ os) ≡ true
unfolding fits_all outcomes_decls labels_in_decls
fits_decls [] l a k os = refl
fits_decls {all} (d ∷ ds) l {n} a k os =
    let s = split (body_labels (body_of d)) (labels_in_decls ds) a in
    let m = fits_decl d l s.left k in
    let l₁ = (labels_decl d l).1 in
    let r = fits_decls ds l₁ (subst (λ (i : ℕ). Along (Sits all) i (labels_in_decls ds) n) m.next s.right) m.known os in
    let v = outcomes_decls ds l₁ ++ os in
    ap (λ (x : List ℕ). fits_all all (d ∷ ds) x) (append_assoc (body_outcomes (body_of d) l) (outcomes_decls ds l₁) os) ∙ rw (m.fits v, m.words v) r

-- of a tree that is read
pub fits_all_lem : {s : List ℕ} {l : Layout} (t : LaidOut s l) → fits_all (labels_in_decls t.decls) t.decls (outcomes_decls t.decls (fresh 1)) ≡ true
unfolding fresh
fits_all_lem t =
    let all = labels_in_decls t.decls in
    ap (λ (v : List ℕ). fits_all all t.decls v) (sym (append-nil (outcomes_decls t.decls (fresh 1)))) ∙ fits_decls t.decls (fresh 1) (sits_all all (labels_few t)) none_known []

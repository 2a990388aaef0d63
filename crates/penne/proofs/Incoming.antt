-- Demand 3 and the agreement with the premise read on the tree as it came in: what meets it then meets it after the first pass too, so both hold of every kept function that met it.
use Prim.Native.Nat.{ℕ, zero, suc}
use mathlib.Core.Bool.{true, false, ◌&&◌}
use mathlib.Core.Path.{◌≡◌, refl, sym, ◌∙◌, ap}
use mathlib.Core.List.{List, [], ◌∷◌, ◌++◌, flat_map}
use mathlib.Core.Option.{Option, none, some}
use lib.ListN.{get_elem?, get_or, take}
use Rattle.penne.specs.Find.{is_in, resolved}
use Rattle.penne.specs.Labels.{Labels, use_label, declare_label, labels, labels_body, labels_decl, labels_decls, label_references}
use Rattle.penne.specs.Pruning.{offsets}
use Rattle.penne.specs.Tree.{Spot, Ident, Maybe, ok, Ty, StmSort, Stm, nil', cons', declaration, assignment, method_call, loop, goto, label, if_else, block, bad_stmt, no_else, or_else, Param, Body, Decl, constant, function, function_head, structure, import, bad_decl}
use Rattle.penne.specs.Walks.{not_bare, premise, body_acts, names_at, function_names, parts_of, NamesSkipped}
use Rattle.penne.specs.Standing.{Agreement}
use Rattle.penne.proofs.Booleans.{true_false, none_some, and_left, and_right, both_true}
use Rattle.penne.proofs.Demand3.{demand3}
use Rattle.penne.proofs.Agreement.{agreement}

-- a goto stays no declaration and no label, resolved or not
bare_goto : (i : Ident Spot) (p : Spot) (o : Option (Ident Spot)) → not_bare (use_label i p o) ≡ true
unfolding use_label not_bare
bare_goto i p (some j) = refl
bare_goto i p none = refl

-- it has no branches
premise_goto : (i : Ident Spot) (p : Spot) (o : Option (Ident Spot)) → premise (use_label i p o) ≡ true
unfolding use_label premise
premise_goto i p (some j) = refl
premise_goto i p none = refl

-- nor has a label
premise_label : (i : Ident Spot) (p : Spot) (o : Option (Ident Spot)) → premise (declare_label i p o) ≡ true
unfolding declare_label premise
premise_label i p (some j) = refl
premise_label i p none = refl

-- what is no declaration and no label is none afterwards
bare_labels : {s : StmSort} (t : Stm Spot s) (l : Labels Spot) → not_bare t ≡ true → not_bare (labels t l).0 ≡ true
unfolding labels not_bare
bare_labels nil' l h = h
bare_labels (cons' t ts) l h = h
bare_labels (declaration p v t i) l h = h
bare_labels (assignment p v r) l h = h
bare_labels (method_call i b es) l h = h
bare_labels (loop p) l h = h
bare_labels (goto i p) l h = bare_goto i p _
bare_labels (label i p) l h = true_false (sym h)
bare_labels (if_else p op q r x y t e) l h = h
bare_labels (block p ts) l h = h
bare_labels (bad_stmt z) l h = h
bare_labels no_else l h = h
bare_labels (or_else p t) l h = bare_labels t l h

-- THE FIRST PASS LEAVES THE PREMISE
premise-labels : {s : StmSort} (t : Stm Spot s) (l : Labels Spot) → premise t ≡ true → premise (labels t l).0 ≡ true
unfolding labels premise
premise-labels nil' l h = h
premise-labels (cons' t ts) l h = both_true _ _ (premise-labels t (labels ts l).1 (and_left _ _ h)) (premise-labels ts l (and_right (premise t) _ h))
premise-labels (declaration p v t i) l h = h
premise-labels (assignment p v r) l h = h
premise-labels (method_call i b es) l h = h
premise-labels (loop p) l h = h
premise-labels (goto i p) l h = premise_goto i p _
premise-labels (label i p) l h = premise_label (resolved i l.resolution_id 1) p _
premise-labels (if_else p op q r x y t e) l h =
    let h₁ = and_left _ _ h in
    let h₂ = and_left _ _ h₁ in
    let l₁ = (labels t l).1 in
    both_true _ _ (both_true _ _ (both_true _ _ (bare_labels t l (and_left _ _ h₂)) (bare_labels e l₁ (and_right (not_bare t) _ h₂))) (premise-labels t l (and_right (not_bare t && not_bare e) _ h₁))) (premise-labels e l₁ (and_right (not_bare t && not_bare e && premise t) _ h))
premise-labels (block p ts) l h = premise-labels ts l h
premise-labels (bad_stmt z) l h = h
premise-labels no_else l h = h
premise-labels (or_else p t) l h = premise-labels t l h

-- it leaves the names of functions
same_function : (d : Decl Spot) (l : Labels Spot) → function_names (labels_decl d l).0 ≡ function_names d
unfolding labels_decl function_names
same_function (constant f p q i x t) l = refl
same_function (function f p q i ps b t) l = refl
same_function (function_head f p q i ps t) l = refl
same_function (structure f p i ms t) l = refl
same_function (import b p) l = refl
same_function (bad_decl z) l = refl

-- of those before the k-th
pub same_functions : (ds : List (Decl Spot)) (k : ℕ) (l : Labels Spot) → flat_map function_names (take k (labels_decls ds l).0) ≡ flat_map function_names (take k ds)
unfolding labels_decls flat_map
same_functions ds zero l = refl
same_functions [] (suc k) l = refl
same_functions (d ∷ ds) (suc k) l = let e = same_function d l in let f = same_functions ds k (labels_decl d l).1 in λ t. e t ++ f t

-- a function with a body, after the first pass
record Passed (ds : List (Decl Spot)) (k f : ℕ) (p q : Spot) (i : Ident Spot) (ps : List (Param Spot)) (t : Maybe Spot (Ty Spot)) : Type 0 where
  body : Body Spot
  is : get_elem? ds k ≡ some (function f p q i ps (ok body) t)
  holds : premise body.statements ≡ true

-- the k-th declaration, after the first pass
passed_at : (ds : List (Decl Spot)) (l : Labels Spot) (k f : ℕ) (p q : Spot) (i : Ident Spot) (ps : List (Param Spot)) (b : Body Spot) (t : Maybe Spot (Ty Spot)) → get_elem? ds k ≡ some (function f p q i ps (ok b) t) → premise b.statements ≡ true → Passed (labels_decls ds l).0 k f p q i ps t
unfolding labels_decls labels_decl labels_body
passed_at [] l k f p q i ps b t h e = none_some _ h
passed_at (d ∷ ds) l zero f p q i ps b t h e =
    let z : d ≡ function f p q i ps (ok b) t = cc in
    record { body = _; is = ap (λ (x : Decl Spot). some (labels_decl x l).0) z; holds = premise-labels b.statements l e }
passed_at (d ∷ ds) l (suc k) f p q i ps b t h e = let r = passed_at ds (labels_decl d l).1 k f p q i ps b t h e in record { body = r.body; is = r.is; holds = r.holds }

-- what is promised of the k-th declaration as it came in, a function with parameters ps: after the first pass it has this body, the list names what walks through it skip, and its answer agrees with it
pub record Promised (names : List (List ℕ)) (ds : List (Decl Spot)) (k f : ℕ) (p q : Spot) (i : Ident Spot) (ps : List (Param Spot)) (t : Maybe Spot (Ty Spot)) : Type 0 where
  pub body : Body Spot
  pub passed : get_elem? (label_references ds) k ≡ some (function f p q i ps (ok body) t)
  pub listed : NamesSkipped (body_acts body (names_at (label_references ds) ps)) (offsets (get_or (parts_of names (label_references ds)) k []))
  pub agrees : Agreement names (label_references ds) k ps body

-- in functions meeting demand 3's premise, as they came in
pub promised : (names : List (List ℕ)) (ds : List (Decl Spot)) (k f : ℕ) (p q : Spot) (i : Ident Spot) (ps : List (Param Spot)) (b : Body Spot) (t : Maybe Spot (Ty Spot))
    → get_elem? ds k ≡ some (function f p q i ps (ok b) t)
    → is_in i.name (flat_map function_names (take k ds)) ≡ false
    → premise b.statements ≡ true
    → Promised names ds k f p q i ps t
unfolding label_references
promised names ds k f p q i ps b t h g e =
    let r = passed_at ds (record { label_stack = []; resolution_id = 1 }) k f p q i ps b t h e in
    let g' = ap (is_in i.name) (same_functions ds k (record { label_stack = []; resolution_id = 1 })) ∙ g in
    record {
      body = r.body;
      passed = r.is;
      listed = (demand3 names ds).demand k f p q i ps r.body t r.is g' r.holds;
      agrees = agreement names ds k f p q i ps r.body t r.is g' r.holds;
    }

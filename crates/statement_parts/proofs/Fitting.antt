-- The label pass's own words fit the statements.
use mathlib.Core.Path.{◌≡◌, refl, sym, ap, subst, ◌∙◌}
use mathlib.Core.Bool.{Bool, true, false, ◌&&◌}
use mathlib.Core.List.{List, [], ◌∷◌, ◌++◌, map, append_assoc}
use mathlib.Core.Option.{Option, none, some}
use Prim.Native.Nat.{ℕ, zero, suc, ◌+◌, ◌-◌, ◌≤◌, ◌<◌}
use native.Mathlib.Omega.{arith}
use lib.Dec.{leb, eqb}
use lib.ListN.{length, get_or, length-append}
use borrow.Author.Tests.{le-leb, lt-leb, leb-true, leb-false, eq-eqb}
use Rattle.penne.specs.Find.{first, first_named}
use Rattle.penne.specs.Tree.{Spot, Ident, StmSort, Stm, nil', cons', declaration, assignment, method_call, loop, goto, label, if_else, block, bad_stmt, no_else, or_else, Maybe, ok, err, Body}
use Rattle.penne.specs.Labels.{Labels, labels}
use Rattle.penne.proofs.Searching.{first_hit, first_miss}
use Rattle.penne.proofs.Booleans.{both_true, some_same}
use Rattle.labels.specs.Outcomes.{goto_word, label_word, outcomes, labels_in, statements_in, body_outcomes, body_labels}
use Rattle.scopes.specs.Labels.{Along, stop, step}
use Rattle.label_references.specs.Marked.{place_of, marked, rest, Numbered, Known, none_known, one_known}
use Rattle.label_references.proofs.Marking.{marks}
use Rattle.statement_parts.specs.Stating.{same_label, fit_goto, fit_label, fits, fits_body}

-- the label i stands in the list of all, by its id
pub record Sits (all : List (Ident Spot)) (id : ℕ) (i : Ident Spot) : Type 0 where
  pub is : (d : Ident Spot) → get_or all (id - 1) d ≡ i
  pub low : 0 < id
  pub high : id ≤ 1024
  pub inside : id ≤ length all

pub place_at : (all : List (Ident Spot)) (m : ℕ) → m < length all → (p : Spot) (d : Ident Spot) → get_or (map (λ i. i.place) all) m p ≡ (get_or all m d).place
place_at [] m h p d = absurd (omega arith)
place_at (x ∷ xs) zero h p d = refl
place_at (x ∷ xs) (suc m) h p d = place_at xs m (omega arith) p d

sits_numbered : {all : List (Ident Spot)} {id : ℕ} {i : Ident Spot} → Sits all id i → Numbered all id i
unfolding place_of
sits_numbered {all} {id} {i} s =
    let low = s.low in
    let inside = s.inside in
    record { is = λ p. place_at all (id - 1) (omega arith) p i ∙ ap (λ (x : Ident Spot). x.place) (s.is i); low = s.low; high = s.high }

pub numbered_along : {all is : List (Ident Spot)} {k n : ℕ} → Along (Sits all) k is n → Along (Numbered all) k is n
numbered_along stop = stop
numbered_along (step p a) = step (sits_numbered p) (numbered_along a)

-- a numbered list in two parts
pub record Split (P : ℕ → Ident Spot → Type 0) (k : ℕ) (xs ys : List (Ident Spot)) (n : ℕ) : Type 0 where
  pub middle : ℕ
  pub left : Along P k xs middle
  pub right : Along P middle ys n

pub split : {P : ℕ → Ident Spot → Type 0} {k n : ℕ} (xs ys : List (Ident Spot)) → Along P k (xs ++ ys) n → Split P k xs ys n
split {k = k} [] ys a = record { middle = k; left = stop; right = a }
split {k = k} (x ∷ xs) ys (step p a) = let s = split {k = k + 1} xs ys a in record { middle = s.middle; left = step p s.left; right = s.right }

-- WHAT THE SEARCH FINDS

past : (all : List (Ident Spot)) (m : ℕ) (p : Spot) → length all ≤ m → get_or (map (λ i. i.place) all) m p ≡ p
past [] zero p h = refl
past [] (suc m) p h = refl
past (x ∷ xs) zero p h = absurd (omega arith)
past (x ∷ xs) (suc m) p h = past xs m p (omega arith)

-- an id that is known is that of a label
numbered_inside : {all : List (Ident Spot)} {id : ℕ} {i : Ident Spot} → Numbered all id i → id ≤ length all
unfolding place_of
numbered_inside {all} {id} {i} n = go (leb id (length all)) refl
  where
    other : Spot
    other = record { number = i.place.number + 1; from = 0 }

    go : (b : Bool) → leb id (length all) ≡ b → id ≤ length all
    go true e = leb-true id (length all) e
    go false e =
        let late = leb-false id (length all) e in
        let z : i.place.number + 1 ≡ i.place.number = ap (λ (p : Spot). p.number) (sym (past all (id - 1) other (omega arith)) ∙ n.is other) in
        absurd (omega arith)

word_inside : {all js : List (Ident Spot)} (name : ℕ) → Known all js → goto_word (first_named name js) ≤ length all
unfolding first_named first goto_word
word_inside name none_known = omega arith
word_inside {all} name (one_known {i = j} {is = js} n k) = (elim (eqb j.name name) as (λ b. eqb j.name name ≡ b → goto_word (first (λ (i : Ident Spot). eqb i.name name) (j ∷ js)) ≤ length all) [
  | true ↦ λ e. subst (λ (o : Option (Ident Spot)). goto_word o ≤ length all) (sym (first_hit (λ (i : Ident Spot). eqb i.name name) j js e)) (numbered_inside n)
  | false ↦ λ e. subst (λ (o : Option (Ident Spot)). goto_word o ≤ length all) (sym (first_miss (λ (i : Ident Spot). eqb i.name name) j js e)) (word_inside name k)
]) refl

found_low : {all js : List (Ident Spot)} (name : ℕ) → Known all js → (j : Ident Spot) → first_named name js ≡ some j → 0 < j.id
unfolding first_named first
found_low name none_known j e = absurd (let z : ◌≡◌ {A = ℕ} 0 1 = cc in omega arith)
found_low {all} name (one_known {i = i} {is = js} n k) j e = (elim (eqb i.name name) as (λ b. eqb i.name name ≡ b → 0 < j.id) [
  | true ↦ λ z. let q : i ≡ j = some_same (sym (first_hit (λ (x : Ident Spot). eqb x.name name) i js z) ∙ e) in let low = n.low in omega (arith, ap (λ (x : Ident Spot). x.id) q)
  | false ↦ λ z. found_low name k j (sym (first_miss (λ (x : Ident Spot). eqb x.name name) i js z) ∙ e)
]) refl

-- A LABEL'S WORD

same_self : (i j : Ident Spot) → j ≡ i → same_label i j ≡ true
unfolding same_label
same_self i j e = rw (e, eq-eqb i.name i.name refl, eq-eqb i.place.number i.place.number refl)

own_word : {all : List (Ident Spot)} (i : Ident Spot) (id : ℕ) → Sits all id i → fit_label all i id ≡ true
unfolding fit_label
own_word {all} i id s =
    let low = s.low in
    rw (le-leb id 1024 s.high, fit_label, le-leb 1 id (omega arith), le-leb id (length all) s.inside, same_self i (get_or all (id - 1) i) (s.is i))

earlier_word : (all : List (Ident Spot)) (i : Ident Spot) (id : ℕ) → 0 < id → id ≤ length all → fit_label all i (1024 + id) ≡ true
unfolding fit_label
earlier_word all i id low h =
    let e : 1024 + id - 1024 ≡ id = omega arith in
    rw (lt-leb (1024 + id) 1024 (omega arith), fit_label, e, le-leb id (length all) h)

label_word_lem : {all js : List (Ident Spot)} (i : Ident Spot) (id : ℕ) → Sits all id i → Known all js → fit_label all i (label_word id (first_named i.name js)) ≡ true
unfolding label_word goto_word
label_word_lem {all} {js} i id s k = go (first_named i.name js) refl
  where
    go : (o : Option (Ident Spot)) → first_named i.name js ≡ o → fit_label all i (label_word id o) ≡ true
    go none e = own_word i id s
    go (some j) e = earlier_word all i j.id (found_low i.name k j e) (subst (λ (o : Option (Ident Spot)). goto_word o ≤ length all) e (word_inside i.name k))

-- THE WORDS OF A STATEMENT

pub fits_stm : {s : StmSort} {all : List (Ident Spot)} (t : Stm Spot s) (l : Labels Spot) {n : ℕ} → Along (Sits all) l.resolution_id (labels_in t) n → Known all l.label_stack → (os : List ℕ) → fits all true t (outcomes t l ++ os) ≡ true
unfolding fits outcomes labels_in fit_goto rest
fits_stm nil' l a k os = refl
fits_stm {all = all} (cons' t ts) l {n} a k os =
    let s = split (labels_in ts) (labels_in t) a in
    let m = marks ts l (numbered_along s.left) k in
    let l₁ = (labels ts l).1 in
    let right : Along (Sits all) l₁.resolution_id (labels_in t) n = subst (λ (i : ℕ). Along (Sits all) i (labels_in t) n) m.next s.right in
    let m₁ = marks t l₁ (numbered_along right) m.known in
    ap (λ (v : List ℕ). fits all true t v && fits all true ts (marked all t v).1) (append_assoc (outcomes t l₁) (outcomes ts l) os)
    ∙ both_true _ _ (fits_stm t l₁ right m.known (outcomes ts l ++ os)) (ap (λ (z : Stm Spot _ × List ℕ). fits all true ts z.1) (m₁.words (outcomes ts l ++ os)) ∙ fits_stm ts l s.left k os)
fits_stm (declaration p v t i) l a k os = refl
fits_stm (assignment p v r) l a k os = refl
fits_stm (method_call i b es) l a k os = refl
fits_stm (loop p) l a k os = refl
fits_stm {all = all} (goto i p) l a k os = le-leb _ (length all) (word_inside i.name k)
fits_stm (label i p) l (step s a) k os = label_word_lem i l.resolution_id s k
fits_stm {all = all} (if_else p op q r x y t e) l {n} a k os =
    let s = split (labels_in t) (labels_in e) a in
    let m = marks t l (numbered_along s.left) k in
    let l₁ = (labels t l).1 in
    let right : Along (Sits all) l₁.resolution_id (labels_in e) n = subst (λ (i : ℕ). Along (Sits all) i (labels_in e) n) m.next s.right in
    ap (λ (v : List ℕ). fits all true t v && fits all true e (marked all t v).1) (append_assoc (outcomes t l) (outcomes e l₁) os)
    ∙ both_true _ _ (fits_stm t l s.left k (outcomes e l₁ ++ os)) (ap (λ (z : Stm Spot _ × List ℕ). fits all true e z.1) (m.words (outcomes e l₁ ++ os)) ∙ fits_stm e l₁ right m.known os)
fits_stm (block p ts) l a k os = fits_stm ts l a k os
fits_stm (bad_stmt z) l a k os = refl
fits_stm no_else l a k os = refl
fits_stm (or_else p t) l a k os = fits_stm t l a k os

pub fits_body_lem : {all : List (Ident Spot)} (b : Maybe Spot (Body Spot)) (l : Labels Spot) {n : ℕ} → Along (Sits all) l.resolution_id (body_labels (statements_in b)) n → Known all l.label_stack → (os : List ℕ) → fits_body all true b (body_outcomes (statements_in b) l ++ os) ≡ true
unfolding fits_body body_outcomes body_labels statements_in
fits_body_lem (ok b) l a k os = fits_stm b.statements l a k os
fits_body_lem (err z) l a k os = refl

-- EVERY LABEL SITS IN THE LIST OF ALL

nth_go : (pre : List (Ident Spot)) (x : Ident Spot) (xs : List (Ident Spot)) (d : Ident Spot) → get_or (pre ++ (x ∷ xs)) (length pre) d ≡ x
nth_go [] x xs d = refl
nth_go (y ∷ pre) x xs d = nth_go pre x xs d

sits_go : (pre xs : List (Ident Spot)) → length pre + length xs ≤ 1024 → Along (Sits (pre ++ xs)) (length pre + 1) xs (length pre + 1 + length xs)
sits_go pre [] h = let e : length pre + 1 ≡ length pre + 1 + 0 = omega arith in subst (λ (i : ℕ). Along (Sits (pre ++ [])) (length pre + 1) [] i) e stop
sits_go pre (x ∷ xs) h =
    let f : (pre ++ (x ∷ [])) ++ xs ≡ pre ++ (x ∷ xs) = append_assoc pre (x ∷ []) xs in
    let c : length (pre ++ (x ∷ [])) ≡ length pre + 1 = length-append pre (x ∷ []) in
    let all : length (pre ++ (x ∷ xs)) ≡ length pre + suc (length xs) = length-append pre (x ∷ xs) in
    let a = sits_go (pre ++ (x ∷ [])) xs (omega arith) in
    let a₁ : Along (Sits (pre ++ (x ∷ xs))) (length pre + 1 + 1) xs (length pre + 1 + 1 + length xs) = subst (λ (i : ℕ). Along (Sits (pre ++ (x ∷ xs))) (i + 1) xs (i + 1 + length xs)) c (subst (λ (v : List (Ident Spot)). Along (Sits v) (length (pre ++ (x ∷ [])) + 1) xs (length (pre ++ (x ∷ [])) + 1 + length xs)) f a) in
    let d : length pre + 1 + 1 + length xs ≡ length pre + 1 + suc (length xs) = omega arith in
    let e : length pre + 1 - 1 ≡ length pre = omega arith in
    step (record { is = λ y. ap (λ (i : ℕ). get_or (pre ++ (x ∷ xs)) i y) e ∙ nth_go pre x xs y; low = omega arith; high = omega arith; inside = omega arith }) (subst (λ (i : ℕ). Along (Sits (pre ++ (x ∷ xs))) (length pre + 1 + 1) xs i) d a₁)

pub sits_all : (all : List (Ident Spot)) → length all ≤ 1024 → Along (Sits all) 1 all (1 + length all)
sits_all all h = sits_go [] all (omega arith)

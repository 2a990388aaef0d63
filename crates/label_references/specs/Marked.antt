-- A tree with its gotos and labels replaced by what their words say.
use Rattle.std.specs.Prelude.{ℕ, zero, suc, ◌-◌, ◌≤◌, ◌<◌, ◌≡◌, true, false, List, [], ◌∷◌, map, leb, get_or}
use Rattle.penne.specs.Find.{resolved}
use Rattle.penne.specs.Tree.{Ident, poison, StmSort, stmt, Stm, nil', cons', declaration, assignment, method_call, loop, goto, label, if_else, block, bad_stmt, no_else, or_else, Maybe, ok, err, Body, Decl, constant, function, function_head, structure, import, bad_decl}

-- the place of the label with this id, in a list of all labels
unfoldable pub place_of : {P : Type 0} → List (Ident P) → (id : ℕ) → P → P
place_of all id p = get_or (map (λ i. i.place) all) (id - 1) p

-- a goto, by its word
unfoldable pub marked_goto : {P : Type 0} → Ident P → P → (word : ℕ) → Stm P stmt
marked_goto i p zero = bad_stmt (poison 2 (i.name ∷ []) (i.place ∷ []))
marked_goto i p (suc n) = goto (resolved i (suc n) 0) p

-- a label, by its word
unfoldable pub marked_label : {P : Type 0} → List (Ident P) → Ident P → P → (word : ℕ) → Stm P stmt
marked_label all i p o = elim (leb o 1024) [
  | true ↦ label (resolved i o 1) p
  | false ↦ bad_stmt (poison 1 (i.name ∷ []) (place_of all (o - 1024) i.place ∷ i.place ∷ []))
]

-- the first word, and those behind it
abbrev pub front : List ℕ → ℕ
front os = get_or os 0 0

unfoldable pub rest : List ℕ → List ℕ
rest [] = []
rest (o ∷ os) = os

-- in reading order, with the words that are left over
unfoldable pub marked : {P : Type 0} {s : StmSort} → List (Ident P) → Stm P s → List ℕ → Stm P s × List ℕ
marked all nil' os = (nil', os)
marked all (cons' t ts) os =
    let (t', os₁) = marked all t os in
    let (ts', os₂) = marked all ts os₁ in
    (cons' t' ts', os₂)
marked all (declaration p v t i) os = (declaration p v t i, rest os)
marked all (assignment p v r) os = (assignment p v r, rest os)
marked all (method_call i b es) os = (method_call i b es, rest os)
marked all (loop p) os = (loop p, rest os)
marked all (goto i p) os = (marked_goto i p (front os), rest os)
marked all (label i p) os = (marked_label all i p (front os), rest os)
marked all (if_else p op q r x y t e) os =
    let (t', os₁) = marked all t (rest os) in
    let (e', os₂) = marked all e os₁ in
    (if_else p op q r x y t' e', os₂)
marked all (block p ts) os =
    let (ts', os₁) = marked all ts (rest os) in
    (block p ts', os₁)
marked all (bad_stmt z) os = (bad_stmt z, rest os)
marked all no_else os = (no_else, os)
marked all (or_else p t) os =
    let (t', os₁) = marked all t os in
    (or_else p t', os₁)

-- a body, a declaration, the declarations in their order
unfoldable pub marked_body : {P : Type 0} → List (Ident P) → Maybe P (Body P) → List ℕ → Maybe P (Body P) × List ℕ
marked_body all (ok b) os =
    let (ts, os₁) = marked all b.statements os in
    (ok (record { statements = ts; value = b.value; result = b.result }), os₁)
marked_body all (err z) os = (err z, os)

unfoldable pub marked_decl : {P : Type 0} → List (Ident P) → Decl P → List ℕ → Decl P × List ℕ
marked_decl all (constant f p q i x t) os = (constant f p q i x t, os)
marked_decl all (function f p q i ps b t) os =
    let (b', os₁) = marked_body all b os in
    (function f p q i ps b' t, os₁)
marked_decl all (function_head f p q i ps t) os = (function_head f p q i ps t, os)
marked_decl all (structure f p i ms t) os = (structure f p i ms t, os)
marked_decl all (import b p) os = (import b p, os)
marked_decl all (bad_decl z) os = (bad_decl z, os)

unfoldable pub marked_decls : {P : Type 0} → List (Ident P) → List (Decl P) → List ℕ → List (Decl P) × List ℕ
marked_decls all [] os = ([], os)
marked_decls all (d ∷ ds) os =
    let (d', os₁) = marked_decl all d os in
    let (ds', os₂) = marked_decls all ds os₁ in
    (d' ∷ ds', os₂)

-- the label i has this id among all
pub record Numbered {P : Type 0} (all : List (Ident P)) (id : ℕ) (i : Ident P) : Type 0 where
  pub is : (p : P) → place_of all id p ≡ i.place
  pub low : 0 < id
  pub high : id ≤ 1024

-- so has every label of a list
pub data Known {P : Type 0} (all : List (Ident P)) : List (Ident P) → Type 0 where
  none_known : Known all []
  one_known : {i : Ident P} {is : List (Ident P)} → Numbered all i.id i → Known all is → Known all (i ∷ is)

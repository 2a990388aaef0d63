-- What the answer has to say of uses (docs/FORM.md, The skip list): "each listed use that still stands is answered by kind 13 or Poisoned, and every other standing use of a local keeps its identifier."
-- The bases of a body are paired with those of its answer: both are laid out as outlines, and a base still stands where the two outlines have the same shape down to it.
use Rattle.std.specs.Prelude.{ℕ, ◌+◌, Bool, true, false, ◌≡◌, take}
use mathlib.Core.List.{List, [], flat_map}
use Rattle.std.proofs.Math.Option.{Option, none, some}
use Rattle.std.proofs.Math.ListN.{get_elem?}
use Rattle.penne.specs.Find.{is_in, resolved}
use Rattle.penne.specs.Labels.{label_references}
use Rattle.penne.specs.Scopes.{begin}
use Rattle.penne.specs.Variables.{analyze_all}
use Rattle.penne.specs.Tree.{Spot, Ident, poison, Maybe, ok, err, Ty, Sort, Node, nil, cons, binary, unary, boolean, signed, bits, string, array_literal, structural, parenthesized, deref, bit_cast, type_cast, length_of_array, size_of, function_call, bad_expr, reference, element, member, member_expression, Expr, StmSort, Stm, nil', cons', declaration, assignment, method_call, loop, goto, label, if_else, block, bad_stmt, no_else, or_else, Param, Body, Decl, function}
use Rattle.penne.specs.Walks.{use_of, run, Target, local, Names, stands, body_acts, Skipped, premise, function_names, names_at}

-- OUTLINES

-- what stands at one place of a body: a reference's base, a declaration statement's identifier, or an act that is neither (a goto, a label, an If's fork, the end of its then branch)
pub data Point : Type 0 where
  base : Maybe Spot (Ident Spot) → Point
  declares : Ident Spot → Point
  other : Point

-- the points of a text, in the text's shape
pub data Outline : Type 0 where
  empty : Outline
  point : Point → Outline
  both : Outline → Outline → Outline

-- those of an expression; a cast's operand counts where `test` says so of its type, and in a poison's place there is nothing
unfoldable pub outline : {s : Sort} → (test : Ty Spot → Bool) → Node Spot s → Outline
outline test nil = empty
outline test (cons x xs) = both (outline test x) (outline test xs)
outline test (binary op p q x y) = both (outline test x) (outline test y)
outline test (unary op p q x) = outline test x
outline test (boolean b p) = empty
outline test (signed b p c) = empty
outline test (bits b p c) = empty
outline test (string b p) = empty
outline test (array_literal p c es i) = outline test es
outline test (structural p ms c) = outline test ms
outline test (parenthesized p x) = outline test x
outline test (deref c r) = outline test r
outline test (bit_cast p q c x) = outline test x
outline test (type_cast p q t x) = elim (test t) [ true ↦ outline test x | false ↦ empty ]
outline test (length_of_array p r) = outline test r
outline test (size_of p t) = empty
outline test (function_call i b c es) = outline test es
outline test (bad_expr z) = empty
outline test (reference d p q b ts) = both (point (base b)) (outline test ts)
outline test (element e x) = outline test x
outline test (member i o) = empty
outline test (member_expression i o x) = outline test x

-- those of an expression that may be there
unfoldable pub outline_option : (test : Ty Spot → Bool) → Option (Expr Spot) → Outline
outline_option test none = empty
outline_option test (some x) = outline test x

-- those of statements, as `acts` lays them out
unfoldable pub outline_stm : {s : StmSort} → (test : Ty Spot → Bool) → Stm Spot s → Outline
outline_stm test nil' = empty
outline_stm test (cons' t ts) = both (outline_stm test t) (outline_stm test ts)
outline_stm test (declaration p v t i) = both (outline_option test v) (point (declares i))
outline_stm test (assignment p v r) = both (outline test v) (outline test r)
outline_stm test (method_call i b es) = outline test es
outline_stm test (loop p) = empty
outline_stm test (goto i p) = point other
outline_stm test (label i p) = point other
outline_stm test (if_else p op q r x y t e) = both (outline test x) (both (outline test y) (both (point other) (both (outline_stm test t) (both (point other) (outline_stm test e)))))
outline_stm test (block p ts) = outline_stm test ts
outline_stm test (bad_stmt z) = empty
outline_stm test no_else = empty
outline_stm test (or_else p t) = outline_stm test t

-- those of a body
unfoldable pub outline_body : (test : Ty Spot → Bool) → Body Spot → Outline
outline_body test b = both (outline_stm test b.statements) (outline_option test b.value)

-- PAIRS

-- the acts that a point takes in the body's text: none where the base came in as a poison
unfoldable pub acts_at : Point → ℕ
acts_at (base (ok i)) = 1
acts_at (base (err z)) = 0
acts_at (declares i) = 1
acts_at other = 1

-- the acts of an outline
unfoldable pub size : Outline → ℕ
size empty = 0
size (point p) = acts_at p
size (both x y) = size x + size y

-- point p at act `at` of the first outline stands in the second as p'
pub data Stands (p p' : Point) : (x x' : Outline) → (at : ℕ) → Type 0 where
  here : Stands p p' (point p) (point p') 0
  in_first : {x x' y y' : Outline} {at : ℕ} → Stands p p' x x' at → Stands p p' (both x y) (both x' y') at
  in_second : {x x' y y' : Outline} {at : ℕ} → Stands p p' y y' at → Stands p p' (both x y) (both x' y') (size x + at)

-- p is a point of the outline
pub data Has (p : Point) : Outline → Type 0 where
  itself : Has p (point p)
  of_first : {x y : Outline} → Has p x → Has p (both x y)
  of_second : {x y : Outline} → Has p y → Has p (both x y)

-- in an answer every cast was looked at
unfoldable pub any_type : Ty Spot → Bool
any_type t = true

-- in a body f with the names n before it, the use i at act `at` of its text still stands in the answer f', as b
abbrev pub StandsAs : (n : Names) → (f f' : Body Spot) → (at : ℕ) → Ident Spot → (b : Maybe Spot (Ident Spot)) → Type 0
StandsAs n f f' at i b = Stands (base (ok i)) (base b) (outline_body (stands n) f) (outline_body any_type f') at

-- AGREEMENT

-- "answered by kind 13 or Poisoned"
pub data Refused : Maybe Spot (Ident Spot) → Type 0 where
  may_be_skipped : {ns : List ℕ} {ps : List Spot} → Refused (err (poison 13 ns ps))
  poisoned : Refused (err (poison 0 [] []))

-- "keeps its identifier", with the id of what it resolves to: of the k-th declaration statement, as that stands in the answer
pub record Kept (n : Names) (f f' : Body Spot) (k : ℕ) (i : Ident Spot) (b : Maybe Spot (Ident Spot)) : Type 0 where
  pub at : ℕ
  pub declared : Ident Spot
  pub answered : Ident Spot
  pub is_run : get_elem? (body_acts f n) at ≡ some (run k)
  pub declaration : Stands (declares declared) (declares answered) (outline_body (stands n) f) (outline_body any_type f') at
  pub same : b ≡ ok (resolved i answered.id 0)

-- a base b of the answer stands in the place of a base of the body
pub record StandsFor (b : Maybe Spot (Ident Spot)) (x x' : Outline) : Type 0 where
  pub at : ℕ
  pub came : Maybe Spot (Ident Spot)
  pub stands : Stands (base came) (base b) x x' at

-- a body f with its answer f'; n are the names before it
pub record Agrees (n : Names) (f f' : Body Spot) : Type 0 where
  -- no base of the answer is left out
  pub all : (b : Maybe Spot (Ident Spot)) → Has (base b) (outline_body any_type f') → StandsFor b (outline_body (stands n) f) (outline_body any_type f')
  -- what stands is an examined use
  pub examined : (at : ℕ) (i : Ident Spot) (b : Maybe Spot (Ident Spot)) → StandsAs n f f' at i b → (t : Target) × (get_elem? (body_acts f n) at ≡ some (use_of i.place.from t))
  -- "each listed use that still stands is answered by kind 13 or Poisoned"
  pub refused : (at : ℕ) (i : Ident Spot) (b : Maybe Spot (Ident Spot)) → StandsAs n f f' at i b → Skipped (body_acts f n) at → Refused b
  -- "every other standing use of a local keeps its identifier"
  pub kept : (at : ℕ) (i : Ident Spot) (b : Maybe Spot (Ident Spot)) (u k d : ℕ) → StandsAs n f f' at i b → get_elem? (body_acts f n) at ≡ some (use_of u (local k d)) → (Skipped (body_acts f n) at → true ≡ false) → Kept n f f' k i b

-- the k-th declaration, a function with the body b, is answered by a function whose body agrees with b
pub record Agreement (names : List (List ℕ)) (ds : List (Decl Spot)) (k : ℕ) (ps : List (Param Spot)) (b : Body Spot) : Type 0 where
  pub flags : ℕ
  pub place_of_declaration : Spot
  pub place_of_return_type : Spot
  pub identifier : Ident Spot
  pub parameters : List (Param Spot)
  pub body : Body Spot
  pub type : Maybe Spot (Ty Spot)
  pub answers : get_elem? (analyze_all names ds begin).0 k ≡ some (function flags place_of_declaration place_of_return_type identifier parameters (ok body) type)
  pub agrees : Agrees (names_at ds ps) b body

-- the theorem to prove: so it is with every kept function that meets the premise
abbrev pub AgreementHolds : Type 0
AgreementHolds = (names : List (List ℕ)) (ds : List (Decl Spot)) (k f : ℕ) (p q : Spot) (i : Ident Spot) (ps : List (Param Spot)) (b : Body Spot) (t : Maybe Spot (Ty Spot))
    → get_elem? (label_references ds) k ≡ some (function f p q i ps (ok b) t)
    → is_in i.name (flat_map function_names (take k (label_references ds))) ≡ false
    → premise b.statements ≡ true
    → Agreement names (label_references ds) k ps b

-- The skip list (docs/FORM.md) and demand 3 (docs/PROMISES.md): what a walk is, and what the list has to say of it. What comes before DEMAND 3 knows nothing of pruning.
-- A function's body is laid out as the acts of its text, in the order in which they stand; a walk goes from act to act.
use Rattle.std.specs.Prelude.{ℕ, suc, ◌+◌, Bool, true, false, ◌&&◌, not, ◌≡◌, ◌↔◌, length, get_or, take, drop, eqb}
use mathlib.Core.List.{List, [], ◌∷◌, ◌++◌, map, flat_map}
use Rattle.std.proofs.Math.Option.{Option, none, some}
use Rattle.std.proofs.Math.ListN.{get_elem?}
use Rattle.penne.specs.Find.{is_in}
use Rattle.penne.specs.Labels.{label_references}
use Rattle.penne.specs.Pruning.{offsets}
use Rattle.penne.specs.Scopes.{Analyzer, begin}
use Rattle.penne.specs.Variables.{in_turn, predeclare, analyze_decl, analyze_all}
use Rattle.penne.specs.Tree.{Spot, Ident, Maybe, ok, err, Ty, plain, array, array_with_named_length, arraylike, struct, word, unresolved, nameless, pointer, view, Sort, Node, nil, cons, binary, unary, boolean, signed, bits, string, array_literal, structural, parenthesized, deref, bit_cast, type_cast, length_of_array, size_of, function_call, bad_expr, reference, element, member, member_expression, Expr, StmSort, Stm, nil', cons', declaration, assignment, method_call, loop, goto, label, if_else, block, bad_stmt, no_else, or_else, Param, Body, Decl, constant, function, function_head, structure, import, bad_decl}

-- THE TEXT OF A BODY

-- what a use resolves to: the n-th declaration statement of the body, with its identifier's offset, or no local (a parameter, a constant, nothing)
pub data Target : Type 0 where
  local : (n offset : ℕ) → Target
  no_local : Target

-- what a walk meets
pub data Act : Type 0 where
  use_of : (offset : ℕ) → Target → Act  -- an examined use, by its identifier's offset
  run : (n : ℕ) → Act  -- the n-th declaration statement
  jump : (label : ℕ) → Act  -- a goto, by the id of the label it resolved to
  target : (label : ℕ) → Act  -- a label, by its id
  fork : (acts : ℕ) → Act  -- an If: the branch that follows, or the one so many acts further on
  past : (acts : ℕ) → Act  -- the end of a then branch: on, so many acts further on

-- names of the constants and of the structures, for types, and the names in scope, the outermost first; how many declaration statements there were
pub record Names : Type 0 where
  pub constants : List ℕ
  pub structures : List ℕ
  pub scope : List (ℕ × Target)
  pub count : ℕ

-- other names in scope, another count
unfoldable pub with_scope : Names → List (ℕ × Target) → ℕ → Names
with_scope n s c = record { constants = n.constants; structures = n.structures; scope = s; count = c }

-- "Uses search outermost first"
unfoldable pub resolve : ℕ → List (ℕ × Target) → Target
resolve n [] = no_local
resolve n (e ∷ es) = elim (eqb e.0 n) [ true ↦ e.1 | false ↦ resolve n es ]

-- a type that is not refused, in a body: each name that it holds is there
unfoldable pub stands : {P : Type 0} → Names → Ty P → Bool
stands n (plain k) = true
stands n (array t l) = stands n t
stands n (array_with_named_length t i) = stands n t && is_in i.name n.constants
stands n (arraylike k t) = stands n t
stands n (struct i) = is_in i.name n.structures
stands n (word i z) = is_in i.name n.structures
stands n (unresolved i) = is_in i.name n.structures
stands n nameless = true
stands n (pointer t) = stands n t
stands n (view t) = stands n t

-- "A use is the identifier at a reference's base."
unfoldable pub base_use : Names → Maybe Spot (Ident Spot) → List Act
base_use n (ok i) = use_of i.place.from (resolve i.name n.scope) ∷ []
base_use n (err z) = []

-- the examined uses of an expression: all "outside the operand of a cast whose type is refused"
unfoldable pub uses : {s : Sort} → Names → Node Spot s → List Act
uses n nil = []
uses n (cons x xs) = uses n x ++ uses n xs
uses n (binary op p q x y) = uses n x ++ uses n y
uses n (unary op p q x) = uses n x
uses n (boolean b p) = []
uses n (signed b p c) = []
uses n (bits b p c) = []
uses n (string b p) = []
uses n (array_literal p c es i) = uses n es
uses n (structural p ms c) = uses n ms
uses n (parenthesized p x) = uses n x
uses n (deref c r) = uses n r
uses n (bit_cast p q c x) = uses n x
uses n (type_cast p q t x) = elim (stands n t) [ true ↦ uses n x | false ↦ [] ]
uses n (length_of_array p r) = uses n r
uses n (size_of p t) = []
uses n (function_call i b c es) = uses n es
uses n (bad_expr z) = []
uses n (reference d p q b ts) = base_use n b ++ uses n ts
uses n (element e x) = uses n x
uses n (member i o) = []
uses n (member_expression i o x) = uses n x

-- those of an expression that may be there
unfoldable pub option_uses : Names → Option (Expr Spot) → List Act
option_uses n none = []
option_uses n (some x) = uses n x

-- a declaration statement's name comes into scope
unfoldable pub declared : Ident Spot → Names → Names
declared i n = with_scope n (n.scope ++ ((i.name, local n.count i.place.from) ∷ [])) (n.count + 1)

-- the acts of statements, and the names after them; a block's names end with it
unfoldable pub acts : {s : StmSort} → Stm Spot s → Names → List Act × Names
acts nil' n = ([], n)
acts (cons' t ts) n =
    let (xs₁, n₁) = acts t n in
    let (xs₂, n₂) = acts ts n₁ in
    (xs₁ ++ xs₂, n₂)
acts (declaration p v t i) n = (option_uses n v ++ (run n.count ∷ []), declared i n)
acts (assignment p v r) n = (uses n v ++ uses n r, n)
acts (method_call i b es) n = (uses n es, n)
acts (loop p) n = ([], n)
acts (goto i p) n = (jump i.id ∷ [], n)
acts (label i p) n = (target i.id ∷ [], n)
acts (if_else p op q r x y t e) n =
    let (xs₁, n₁) = acts t n in
    let (xs₂, n₂) = acts e n₁ in
    (uses n x ++ (uses n y ++ (fork (length xs₁ + 1) ∷ (xs₁ ++ (past (length xs₂) ∷ xs₂)))), n₂)
acts (block p ts) n =
    let (xs₁, n₁) = acts ts n in
    (xs₁, with_scope n₁ n.scope n₁.count)
acts (bad_stmt z) n = ([], n)
acts no_else n = ([], n)
acts (or_else p t) n = acts t n

-- the body's first statement to the return value
unfoldable pub body_acts : Body Spot → Names → List Act
body_acts b n = let (text, n₁) = acts b.statements n in text ++ option_uses n₁ b.value

-- WALKS

-- A walk that stands before act `at`, having run the declaration statements `ran`.
pub data Walk (text : List Act) : (at : ℕ) → (ran : List ℕ) → Type 0 where
  start : Walk text 0 []
  examine : {at offset : ℕ} {ran : List ℕ} {t : Target} → Walk text at ran → get_elem? text at ≡ some (use_of offset t) → Walk text (suc at) ran
  declare : {at n : ℕ} {ran : List ℕ} → Walk text at ran → get_elem? text at ≡ some (run n) → Walk text (suc at) (n ∷ ran)
  pass_goto : {at l : ℕ} {ran : List ℕ} → Walk text at ran → get_elem? text at ≡ some (jump l) → Walk text (suc at) ran
  follow_goto : {at to l : ℕ} {ran : List ℕ} → Walk text at ran → get_elem? text at ≡ some (jump l) → get_elem? text to ≡ some (target l) → Walk text to ran
  pass_label : {at l : ℕ} {ran : List ℕ} → Walk text at ran → get_elem? text at ≡ some (target l) → Walk text (suc at) ran
  then_branch : {at k : ℕ} {ran : List ℕ} → Walk text at ran → get_elem? text at ≡ some (fork k) → Walk text (suc at) ran
  else_branch : {at k : ℕ} {ran : List ℕ} → Walk text at ran → get_elem? text at ≡ some (fork k) → Walk text (suc at + k) ran
  pass_else : {at k : ℕ} {ran : List ℕ} → Walk text at ran → get_elem? text at ≡ some (past k) → Walk text (suc at + k) ran

-- Act `at` is a use of a local, and some walk reaches it without having run its declaration.
pub record Skipped (text : List Act) (at : ℕ) : Type 0 where
  pub offset : ℕ
  pub n : ℕ
  pub declared_at : ℕ
  pub ran : List ℕ
  pub is_use : get_elem? text at ≡ some (use_of offset (local n declared_at))
  pub walk : Walk text at ran
  pub not_run : is_in n ran ≡ false

-- the record of a use of a local
unfoldable pub record_of : Act → List (ℕ × ℕ)
record_of (use_of u (local n d)) = (u, d) ∷ []
record_of (use_of u no_local) = []
record_of (run n) = []
record_of (jump l) = []
record_of (target l) = []
record_of (fork k) = []
record_of (past k) = []

-- the same, of an act that passes
unfoldable pub record_if : Bool → Act → List (ℕ × ℕ)
record_if true a = record_of a
record_if false a = []

-- the records of the acts that pass, each once and in their order; `at` is the first one's place
unfoldable pub picked : (ℕ → Bool) → (at : ℕ) → List Act → List (ℕ × ℕ)
picked f at [] = []
picked f at (a ∷ text) = record_if (f at) a ++ picked f (at + 1) text

-- "names every examined use of a local that some walk reaches without having run its declaration, each once, in tree order, and nothing else"
pub record NamesSkipped (text : List Act) (rs : List (ℕ × ℕ)) : Type 0 where
  pub test : ℕ → Bool
  pub tests : (at : ℕ) → (test at ≡ true) ↔ Skipped text at
  pub all : rs ≡ picked test 0 text

-- THE PREMISE: "no branch of an if is itself a declaration or a label"

-- neither a declaration nor a label
unfoldable pub not_bare : {P : Type 0} {s : StmSort} → Stm P s → Bool
not_bare nil' = true
not_bare (cons' t ts) = true
not_bare (declaration p v t i) = false
not_bare (assignment p v r) = true
not_bare (method_call i b es) = true
not_bare (loop p) = true
not_bare (goto i p) = true
not_bare (label i p) = false
not_bare (if_else p op q r x y t e) = true
not_bare (block p ts) = true
not_bare (bad_stmt z) = true
not_bare no_else = true
not_bare (or_else p t) = not_bare t

-- it holds of every If at every level
unfoldable pub premise : {P : Type 0} {s : StmSort} → Stm P s → Bool
premise nil' = true
premise (cons' t ts) = premise t && premise ts
premise (declaration p v t i) = true
premise (assignment p v r) = true
premise (method_call i b es) = true
premise (loop p) = true
premise (goto i p) = true
premise (label i p) = true
premise (if_else p op q r x y t e) = not_bare t && not_bare e && premise t && premise e
premise (block p ts) = premise ts
premise (bad_stmt z) = true
premise no_else = true
premise (or_else p t) = premise t

-- DEMAND 3

-- the name of a constant
unfoldable pub constant_names : {P : Type 0} → Decl P → List ℕ
constant_names (constant f p q i x t) = i.name ∷ []
constant_names (function f p q i ps b t) = []
constant_names (function_head f p q i ps t) = []
constant_names (structure f p i ms t) = []
constant_names (import b p) = []
constant_names (bad_decl z) = []

-- the name of a structure
unfoldable pub structure_names : {P : Type 0} → Decl P → List ℕ
structure_names (constant f p q i x t) = []
structure_names (function f p q i ps b t) = []
structure_names (function_head f p q i ps t) = []
structure_names (structure f p i ms t) = i.name ∷ []
structure_names (import b p) = []
structure_names (bad_decl z) = []

-- the name of a function or head
unfoldable pub function_names : {P : Type 0} → Decl P → List ℕ
function_names (constant f p q i x t) = []
function_names (function f p q i ps b t) = i.name ∷ []
function_names (function_head f p q i ps t) = i.name ∷ []
function_names (structure f p i ms t) = []
function_names (import b p) = []
function_names (bad_decl z) = []

-- a body that is no poison
unfoldable pub is_body : {P : Type 0} → Maybe P (Body P) → Bool
is_body (ok b) = true
is_body (err z) = false

-- a kept function with a body: its name is not among the earlier ones
unfoldable pub is_kept : {P : Type 0} → (earlier : List ℕ) → Decl P → Bool
is_kept e (constant f p q i x t) = false
is_kept e (function f p q i ps b t) = not (is_in i.name e) && is_body b
is_kept e (function_head f p q i ps t) = false
is_kept e (structure f p i ms t) = false
is_kept e (import b p) = false
is_kept e (bad_decl z) = false

-- the name of a parameter that has one
unfoldable pub param_names : {P : Type 0} → Param P → List (ℕ × Target)
param_names x = elim x.ident [ ok i ↦ (i.name, no_local) ∷ [] | err z ↦ [] ]

-- the names before a body: constants, then parameters
unfoldable pub names_at : {P : Type 0} → List (Decl P) → List (Param P) → Names
names_at ds ps = record {
  constants = flat_map constant_names ds;
  structures = flat_map structure_names ds;
  scope = map (λ n. (n, no_local)) (flat_map constant_names ds) ++ flat_map param_names ps;
  count = 0;
}

-- for each declaration the records that analysing it adds to the list
unfoldable pub parts : {P : Type 0} → List (List ℕ) → List (Decl P) → Analyzer P → List (List (P × P))
parts names [] a = []
parts names (d ∷ ds) a =
    let (d', a') = analyze_decl names d a in
    drop (length a.prunings.skips) a'.prunings.skips ∷ parts names ds a'

-- the second pass's parts of the list, over declarations that went through the first
unfoldable pub parts_of : {P : Type 0} → List (List ℕ) → List (Decl P) → List (List (P × P))
parts_of names ds = let (ds', a) = in_turn predeclare ds begin in parts names ds' a

-- Demand 3, of declarations that went through the first pass. A kept function has no earlier function or head of its name.
pub record Demand3 (names : List (List ℕ)) (ds : List (Decl Spot)) : Type 0 where
  -- in every kept function that meets the premise, its part of the list names what walks skip
  pub demand : (k f : ℕ) (p q : Spot) (i : Ident Spot) (ps : List (Param Spot)) (b : Body Spot) (t : Maybe Spot (Ty Spot))
      → get_elem? ds k ≡ some (function f p q i ps (ok b) t)
      → is_in i.name (flat_map function_names (take k ds)) ≡ false
      → premise b.statements ≡ true
      → NamesSkipped (body_acts b (names_at ds ps)) (offsets (get_or (parts_of names ds) k []))
  -- what is no kept function with a body has an empty part
  pub nothing_else : (k : ℕ) (d : Decl Spot) → get_elem? ds k ≡ some d → is_kept (flat_map function_names (take k ds)) d ≡ false → get_or (parts_of names ds) k [] ≡ []
  -- the list is its parts in turn
  pub whole : (analyze_all names ds begin).1.prunings.skips ≡ flat_map (λ part. part) (parts_of names ds)

-- the theorem to prove
abbrev pub Demand3Holds : Type 0
Demand3Holds = (names : List (List ℕ)) (ds : List (Decl Spot)) → Demand3 names (label_references ds)

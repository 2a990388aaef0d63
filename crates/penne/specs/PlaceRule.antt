-- The place rule: "Two trees that differ only in place numbers of equal byte count get the same refusals, lengths, ids, depths and list."
-- The rule speaks of all byte strings, also of those that are refused: so it is told by what the form wants at a byte, not by what was read.
use Rattle.std.specs.Prelude.{ℕ, zero, suc, ◌+◌, true, false, ◌≡◌, List, [], ◌∷◌, ◌++◌, length, get_or, take, drop, ltb, eqb}
use Rattle.penne.specs.Reader.{Cur, Got, got, refused, moved, num}
use Rattle.penne.specs.Read.{poison_fields, TyKind, k_plain, k_array, k_named_length, k_arraylike, k_struct, k_word, k_unresolved, k_nameless, k_pointer, k_view, ty_kinds, ExprKind, k_binary, k_unary, k_boolean, k_signed, k_bits, k_string, k_array_literal, k_structural, k_parenthesized, k_deref, k_bit_cast, k_type_cast, k_length_of_array, k_size_of, k_function_call, k_bad_expr, expr_kinds, StmtKind, k_declaration, k_assignment, k_method_call, k_loop, k_goto, k_label, k_if, k_block, k_bad_stmt, stmt_kinds, DeclKind, k_constant, k_function, k_function_head, k_structure, k_import, k_bad_decl, decl_kinds, decode, incoming}
use Rattle.penne.specs.Tree.{Spot, Tree}
use Rattle.penne.specs.Places.{map_tree}
use Rattle.penne.specs.Scoper.{answered_tree, scoped}

-- WHAT THE FORM WANTS

-- a part of the tree that is still to come
pub data Want : Type 0 where
  place number bytes ident poison type expr ref step item stmt else_branch body param decl decls tree : Want
  raw : ℕ → Want  -- so many bytes
  option maybe list : Want → Want
  times : ℕ → Want → Want  -- so many of them

-- what is done at a part: a place number is passed; another number says what comes next; bytes are passed; the part is made of others
pub data Move : Type 0 where
  passes : Move
  opens : (ℕ → List Want) → Move
  skips : ℕ → Move
  splits : List Want → Move

-- behind a poison's kind
unfoldable pub in_poison : ℕ → List Want
in_poison k = elim (eqb k 17) [ true ↦ number ∷ [] | false ↦ times (get_or poison_fields k (0, 0)).0 number ∷ times (get_or poison_fields k (0, 0)).1 place ∷ [] ]

-- behind a type's kind
unfoldable pub in_type : TyKind → List Want
in_type k_plain = []
in_type k_array = type ∷ number ∷ []
in_type k_named_length = type ∷ ident ∷ []
in_type k_arraylike = type ∷ []
in_type k_struct = ident ∷ []
in_type k_word = ident ∷ number ∷ []
in_type k_unresolved = ident ∷ []
in_type k_nameless = []
in_type k_pointer = type ∷ []
in_type k_view = type ∷ []

-- behind an expression's kind
unfoldable pub in_expr : ExprKind → List Want
in_expr k_binary = number ∷ place ∷ place ∷ expr ∷ expr ∷ []
in_expr k_unary = number ∷ place ∷ place ∷ expr ∷ []
in_expr k_boolean = number ∷ place ∷ []
in_expr k_signed = raw 16 ∷ place ∷ option (maybe type) ∷ []
in_expr k_bits = raw 16 ∷ place ∷ option (maybe type) ∷ []
in_expr k_string = bytes ∷ place ∷ []
in_expr k_array_literal = place ∷ option (maybe type) ∷ list expr ∷ number ∷ []
in_expr k_structural = place ∷ list item ∷ maybe type ∷ []
in_expr k_parenthesized = place ∷ expr ∷ []
in_expr k_deref = option (maybe type) ∷ ref ∷ []
in_expr k_bit_cast = place ∷ place ∷ option (maybe type) ∷ expr ∷ []
in_expr k_type_cast = place ∷ place ∷ type ∷ expr ∷ []
in_expr k_length_of_array = place ∷ ref ∷ []
in_expr k_size_of = place ∷ type ∷ []
in_expr k_function_call = ident ∷ number ∷ option (maybe type) ∷ list expr ∷ []
in_expr k_bad_expr = poison ∷ []

-- behind a step's kind
unfoldable pub in_step : ℕ → List Want
in_step zero = number ∷ expr ∷ []
in_step (suc n) = ident ∷ number ∷ []

-- behind a statement's kind
unfoldable pub in_stmt : StmtKind → List Want
in_stmt k_declaration = place ∷ option expr ∷ option (maybe type) ∷ ident ∷ []
in_stmt k_assignment = place ∷ expr ∷ ref ∷ []
in_stmt k_method_call = ident ∷ number ∷ list expr ∷ []
in_stmt k_loop = place ∷ []
in_stmt k_goto = ident ∷ place ∷ []
in_stmt k_label = ident ∷ place ∷ []
in_stmt k_if = place ∷ number ∷ place ∷ place ∷ expr ∷ expr ∷ stmt ∷ option else_branch ∷ []
in_stmt k_block = place ∷ list stmt ∷ []
in_stmt k_bad_stmt = poison ∷ []

-- behind a declaration's kind
unfoldable pub in_decl : DeclKind → List Want
in_decl k_constant = number ∷ place ∷ place ∷ ident ∷ expr ∷ maybe type ∷ []
in_decl k_function = number ∷ place ∷ place ∷ ident ∷ list param ∷ maybe body ∷ maybe type ∷ []
in_decl k_function_head = number ∷ place ∷ place ∷ ident ∷ list param ∷ maybe type ∷ []
in_decl k_structure = number ∷ place ∷ ident ∷ list param ∷ maybe type ∷ []
in_decl k_import = bytes ∷ place ∷ []
in_decl k_bad_decl = poison ∷ []

-- "'Option X' is 0, or 1 then X."
unfoldable pub in_option : Want → ℕ → List Want
in_option w zero = []
in_option w (suc n) = w ∷ []

-- "'Maybe X' is 0 then X, or 1 then a poison."
unfoldable pub in_maybe : Want → ℕ → List Want
in_maybe w zero = w ∷ []
in_maybe w (suc n) = poison ∷ []

-- n of them, one after another
unfoldable pub in_times : ℕ → Want → List Want
in_times zero w = []
in_times (suc n) w = w ∷ times n w ∷ []

-- the form of docs/FORM.md, with no thought of what it refuses
unfoldable pub move : Want → Move
move place = passes
move number = opens (λ _. [])
move bytes = opens (λ n. raw n ∷ [])
move ident = opens (λ _. place ∷ number ∷ number ∷ [])  -- a name, its place, id, authority
move poison = opens in_poison
move type = opens (λ n. in_type (get_or ty_kinds n k_plain))
move expr = opens (λ n. in_expr (get_or expr_kinds n k_bad_expr))
move ref = opens (λ _. place ∷ place ∷ maybe ident ∷ list step ∷ [])
move step = opens in_step
move item = splits (maybe ident ∷ number ∷ expr ∷ [])
move stmt = opens (λ n. in_stmt (get_or stmt_kinds n k_bad_stmt))
move else_branch = splits (place ∷ stmt ∷ [])
move body = splits (list stmt ∷ option expr ∷ ident ∷ [])
move param = splits (place ∷ maybe ident ∷ maybe type ∷ [])
move decl = opens (λ n. in_decl (get_or decl_kinds n k_bad_decl))
move decls = opens (λ n. times n decl ∷ times n number ∷ [])  -- the declarations, then a depth for each
move tree = opens (λ n. times n bytes ∷ decls ∷ [])
move (raw n) = skips n
move (option w) = opens (in_option w)
move (maybe w) = opens (in_maybe w)
move (list w) = opens (λ n. times n w ∷ [])
move (times n w) = splits (in_times n w)

-- STRINGS THAT DIFFER IN PLACE NUMBERS ALONE

-- at the byte `at` of s stands the number n, in the bytes up to `next`
pub record Number (s : List ℕ) (at n next : ℕ) : Type 0 where
  pub reads : (c : Cur) → c.at ≡ at → num s c ≡ got n (moved c next)

mutual
  -- s and t from the byte `at` on, where these parts are wanted
  pub data Alike (s t : List ℕ) : List Want → ℕ → Type 0 where
    same : {ws : List Want} {at : ℕ} → drop at s ≡ drop at t → Alike s t ws at  -- from here on they are the same
    on : {w : Want} {ws : List Want} {at : ℕ} → Step s t (move w) ws at → Alike s t (w ∷ ws) at

  -- by what is done at the first of the parts
  pub data Step (s t : List ℕ) : Move → List Want → ℕ → Type 0 where
    passed : {ws : List Want} {at next p q : ℕ} → Number s at p next → Number t at q next → Alike s t ws next → Step s t passes ws at  -- place numbers of equal byte count
    opened : {f : ℕ → List Want} {ws : List Want} {at next n : ℕ} → Number s at n next → Number t at n next → Alike s t (f n ++ ws) next → Step s t (opens f) ws at  -- one number in both
    skipped : {k : ℕ} {ws : List Want} {at : ℕ} → take k (drop at s) ≡ take k (drop at t) → Alike s t ws (at + k) → Step s t (skips k) ws at  -- the same bytes in both
    split : {us ws : List Want} {at : ℕ} → Alike s t (us ++ ws) at → Step s t (splits us) ws at

-- "differ only in place numbers of equal byte count"
pub record DifferInPlaces (s t : List ℕ) : Type 0 where
  pub long : length s ≡ length t
  pub alike : Alike s t (tree ∷ []) 0

-- THE SAME ANSWERS BUT FOR PLACES

-- the least number of as many bytes
unfoldable pub least_as_long : ℕ → ℕ
least_as_long n = elim (ltb n 128) [
  | true ↦ 0
  | false ↦ elim (ltb n 16384) [
    | true ↦ 128
    | false ↦ elim (ltb n 2097152) [
      | true ↦ 16384
      | false ↦ elim (ltb n 268435456) [ true ↦ 2097152 | false ↦ 268435456 ]
    ]
  ]
]

-- of a place only where it stands and how many bytes its number takes
unfoldable pub blank : Spot → Spot
blank p = record { number = least_as_long p.number; from = p.from }

-- what was read: refused alike, or trees whose answers have the same ids and depths, and place numbers of equal byte count
pub data SameAnswers : Got (Tree Spot) → Got (Tree Spot) → Type 0 where
  both_refused : {n p : ℕ} → SameAnswers (refused n p) (refused n p)
  both_read : {t t' : Tree Spot} {c c' : Cur} → map_tree blank (answered_tree t) ≡ map_tree blank (answered_tree t') → SameAnswers (got t c) (got t' c')

-- the same refusal, place, lengths and list, and answers that are the same but for places
pub record SameButPlaces (s t : List ℕ) (bytes words work : ℕ) : Type 0 where
  pub refusal : (scoped s bytes words work).refusal ≡ (scoped t bytes words work).refusal
  pub place : (scoped s bytes words work).place ≡ (scoped t bytes words work).place
  pub tree_length : (scoped s bytes words work).tree_length ≡ (scoped t bytes words work).tree_length
  pub records : (scoped s bytes words work).records ≡ (scoped t bytes words work).records
  pub list : (scoped s bytes words work).list ≡ (scoped t bytes words work).list
  pub answers : SameAnswers (decode incoming s) (decode incoming t)

-- the rule
abbrev pub PlaceRule : Type 0
PlaceRule = (s t : List ℕ) → DifferInPlaces s t → (bytes words work : ℕ) → SameButPlaces s t bytes words work

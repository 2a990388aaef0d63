-- scoper.rs: the scoping call with all that it leaves behind, and the three readers of an answered tree.
use Rattle.std.specs.Prelude.{ℕ, zero, suc, ◌+◌, ◌-◌, Bool, true, false, length, get_or, take, replicate, ltb, leb}
use mathlib.Core.List.{List, [], ◌∷◌, ◌++◌, flat_map}
use Rattle.std.proofs.Math.Option.{Option, none, some}
use Rattle.std.proofs.Math.ListN.{get_elem?}
use Rattle.penne.specs.Reader.{Got, got, refused}
use Rattle.penne.specs.Read.{decode, incoming, answered}
use Rattle.penne.specs.Write.{num_b, bytes_b, encode}
use Rattle.penne.specs.Labels.{label_references}
use Rattle.penne.specs.Pruning.{offsets}
use Rattle.penne.specs.Scopes.{Analyzer, begin}
use Rattle.penne.specs.Variables.{analyze_all, postanalyzed}
use Rattle.penne.specs.Tree.{Spot, Decl, constant, function, function_head, structure, import, bad_decl, Tree}

-- THE SCOPING CALL

-- analyze of the program: both passes, with the second one's last state
unfoldable pub analyze : {P : Type 0} → List (List ℕ) → List (Decl P) → List (Decl P) × Analyzer P
analyze names ds = analyze_all names (label_references ds) begin

-- the tree that the passes answer
unfoldable pub answered_tree : {P : Type 0} → Tree P → Tree P
answered_tree t = let (ds, a) = analyze t.names t.decls in postanalyzed t.names ds a

-- the skip list: "In a function outside the premise the list is what pruning refused", and in every other one too
unfoldable pub skip_list : Tree Spot → List (ℕ × ℕ)
skip_list t = let (ds, a) = analyze t.names t.decls in offsets a.prunings.skips

-- an answer: the answered tree's bytes and the list's records, or a refusal's number and place
pub data Answer : Type 0 where
  answer : (tree : List ℕ) → (records : List (ℕ × ℕ)) → Answer
  refusal : (number place : ℕ) → Answer

-- what the passes answer for what was read
unfoldable pub answer_to : Got (Tree Spot) → Answer
answer_to (got t c) = answer (encode (answered_tree t)) (skip_list t)
answer_to (refused n p) = refusal n p

-- "A record is two words"
unfoldable pub words : List (ℕ × ℕ) → List ℕ
words [] = []
words (r ∷ rs) = r.0 ∷ r.1 ∷ words rs

-- rows 11 and 12, with so many bytes lent for the tree and so many words for the list
unfoldable pub if_room : (bytes words : ℕ) → Answer → Answer
if_room m n (answer t rs) = elim (leb (length t) m) [
  | false ↦ refusal 11 0
  | true ↦ elim (leb (length (words rs)) n) [ false ↦ refusal 12 0 | true ↦ answer t rs ]
]
if_room m n (refusal k p) = refusal k p

-- "Order: 1, 2; then the first place in reading order where one of 3 to 9 holds, …; 10; 13 or 11, 12."
unfoldable pub scoped_answer : (tree : List ℕ) → (bytes words work : ℕ) → Answer
scoped_answer s m n w = elim (ltb 65535 (length s)) [
  | true ↦ refusal 1 0
  | false ↦ elim (ltb w 16384) [
    | true ↦ refusal 2 0
    | false ↦ if_room m n (answer_to (decode incoming s))
  ]
]

-- all that a call leaves behind: number (0 is none) and place of the refusal, length of the answer, records in the list, and what the lent memory holds
pub record Outcome : Type 0 where
  pub refusal : ℕ
  pub place : ℕ
  pub tree_length : ℕ
  pub records : ℕ
  pub tree : List ℕ
  pub list : List ℕ
  pub work : List ℕ

-- what was lent, beginning with xs: "bytes and words after the stated lengths are zero"
unfoldable pub padded : ℕ → List ℕ → List ℕ
padded room xs = xs ++ replicate (room - length xs) 0

-- "A refusal returns lengths 0", and leaves only zeros; "work memory is zero"
unfoldable pub outcome : (bytes words work : ℕ) → Answer → Outcome
outcome m n w (answer t rs) = record { refusal = 0; place = 0; tree_length = length t; records = length rs; tree = padded m t; list = padded n (words rs); work = padded w [] }
outcome m n w (refusal k p) = record { refusal = k; place = p; tree_length = 0; records = 0; tree = padded m []; list = padded n []; work = padded w [] }

-- the scoping call on a tree, with so many bytes lent for the answer and so many words for the list and for work
unfoldable pub scoped : (tree : List ℕ) → (bytes words work : ℕ) → Outcome
scoped s m n w = outcome m n w (scoped_answer s m n w)

-- THE READERS

-- a reader's answer, or a refusal's number and place
pub data Asked (A : Type 0) : Type 0 where
  told : A → Asked A
  untold : (number place : ℕ) → Asked A

-- row 13 where there is no such declaration
unfoldable pub ask_decl : {A : Type 0} → (Decl Spot → A) → Option (Decl Spot) → Asked A
ask_decl f (some d) = told (f d)
ask_decl f none = untold 13 0

-- f of declaration k and the tree that was read
unfoldable pub ask_tree : {A : Type 0} → (Tree Spot → Decl Spot → A) → ℕ → Got (Tree Spot) → Asked A
ask_tree f k (got t c) = ask_decl (f t) (get_elem? t.decls k)
ask_tree f k (refused n p) = untold n p

-- "refusing by 1, 3 to 10 (depths allowed as answered; …) and 13"
unfoldable pub ask : {A : Type 0} → (Tree Spot → Decl Spot → A) → List ℕ → (k : ℕ) → Asked A
ask f s k = elim (ltb 65535 (length s)) [
  | true ↦ untold 1 0
  | false ↦ ask_tree f k (decode answered s)
]

-- a depth by its number: d for 2 + d, max for none and for a poisoned one
unfoldable pub depth_or : (max : ℕ) → ℕ → ℕ
depth_or max zero = max
depth_or max (suc zero) = max
depth_or max (suc (suc d)) = d

-- get_container_depth: what is no constant and no structure has depth number 0, so max
unfoldable pub get_container_depth : List ℕ → (k max : ℕ) → Asked ℕ
get_container_depth s k max = ask (λ t _. depth_or max (get_or t.depths k 0)) s k

-- is_container: the depth with the largest maximum, 2^32 - 1, is below it
unfoldable pub is_container : List ℕ → (k : ℕ) → Asked Bool
is_container s k = ask (λ t _. ltb (depth_or 4294967295 (get_or t.depths k 0)) 4294967295) s k

-- where the bytes of name n stand in the tree: behind the count, the names before it, and its own length, one byte
unfoldable pub name_from : List (List ℕ) → ℕ → ℕ
name_from names n = length (num_b (length names)) + length (flat_map bytes_b (take n names)) + 1

-- where a structure's name stands in the tree, and its length: "empty for a refusal or another kind"
unfoldable pub structure_name : Tree Spot → Decl Spot → ℕ × ℕ
structure_name t (constant f p q i x y) = (0, 0)
structure_name t (function f p q i ps b y) = (0, 0)
structure_name t (function_head f p q i ps y) = (0, 0)
structure_name t (structure f p i ms y) = (name_from t.names i.name, length (get_or t.names i.name []))
structure_name t (import b p) = (0, 0)
structure_name t (bad_decl z) = (0, 0)

-- get_structure_name: "the name as a part of the tree that was lent", by its offset and length
unfoldable pub get_structure_name : List ℕ → (k : ℕ) → Asked (ℕ × ℕ)
get_structure_name s k = ask structure_name s k

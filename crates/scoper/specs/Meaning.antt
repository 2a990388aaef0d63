-- What the promise of `analyze` means for whoever calls it, said of what was lent. All of it is proved of every call that meets the promise, and `analyze` always meets it: proofs/Meaning.
use Rattle.std.specs.Prelude.{ℕ, ◌+◌, true, false, ◌≡◌, length, get_or, take, Result, Ok, Err}
use mathlib.Core.List.{List, [], map, flat_map}
use Rattle.std.proofs.Math.Option.{some}
use Rattle.std.proofs.Math.ListN.{get_elem?}
use Rattle.penne.specs.Reader.{Cur, got}
use Rattle.penne.specs.Read.{decode, incoming}
use Rattle.penne.specs.Write.{encode}
use Rattle.penne.specs.Find.{is_in}
use Rattle.penne.specs.Labels.{label_references}
use Rattle.penne.specs.Tree.{Spot, Ident, Maybe, ok, Ty, Param, Body, Decl, function, Tree}
use Rattle.penne.specs.Scoper.{Answer as Scoped-answer, answer, refusal, scoped_answer, answered_tree, skip_list, words, padded}
use Rattle.penne.specs.Walks.{body_acts, names_at, premise, function_names, is_kept, NamesSkipped}
use Rattle.penne.specs.Standing.{Agrees}
use Rattle.penne.specs.Order.{Rising}
use Rattle.penne.specs.Ids.{ids_decls, ids_labels_decls, Given}
use Rattle.penne.specs.PlaceRule.{DifferInPlaces, SameAnswers}
use Rattle.scoper.specs.declared.Scoped.{Scoped}
use Rattle.fields.specs.declared.refusal.Refusal.{Refusal}
use Rattle.fields.specs.Answers.{row_of}
use Rattle.scoper.specs.Scoping.{Scopes}

-- a call that meets the promise: its tree, what it was lent, what it told, and what was lent as it stood afterwards
pub record Call : Type 0 where
  pub tree : List ℕ
  pub answer : List ℕ
  pub list : List ℕ
  pub work : List ℕ
  pub told : Result Scoped Refusal
  pub answer' : List ℕ
  pub list' : List ℕ
  pub work' : List ℕ
  pub meets : Scopes tree answer list work told answer' list' work'

-- EVERY CALL ENDS, WITH AN ANSWER OR WITH A REFUSAL (demands 1 and 2)

-- what the table of refusals and both passes say of the tree's bytes and of how much was lent: which of the two it is, and the refusal's number and place
abbrev pub answer_of : Call → Scoped-answer
answer_of c = scoped_answer c.tree (length c.answer) (length c.list) (length c.work)

-- an answer: the tree is the bytes of a script; what was lent begins with the bytes of the answered script and with the words of its skip list, and behind them all is zero
pub record Answered (c : Call) (bytes records : ℕ) : Type 0 where
  pub script : Tree Spot
  pub behind : Cur
  pub came : decode incoming c.tree ≡ got script behind
  pub by : answer_of c ≡ answer (encode (answered_tree script)) (skip_list script)
  pub bytes_are : bytes ≡ length (encode (answered_tree script))
  pub records_are : records ≡ length (skip_list script)
  pub answer_is : c.answer' ≡ padded (length c.answer) (encode (answered_tree script))
  pub list_is : c.list' ≡ padded (length c.list) (words (skip_list script))
  pub work_is : c.work' ≡ padded (length c.work) []

abbrev pub Answers : Type 0
Answers = (c : Call) (bytes records : ℕ) → c.told ≡ Ok (record { length = bytes; records = records }) → Answered c bytes records

-- a refusal: number and place are the table's, and "after a refusal answer, list and work memory hold only zeros"
pub record RefusedBy (c : Call) (number place : ℕ) : Type 0 where
  pub by : answer_of c ≡ refusal number place
  pub answer_is : c.answer' ≡ padded (length c.answer) []
  pub list_is : c.list' ≡ padded (length c.list) []
  pub work_is : c.work' ≡ padded (length c.work) []

abbrev pub Refusals : Type 0
Refusals = (c : Call) (e : Refusal) → c.told ≡ Err e → RefusedBy c (row_of e.reason) e.place

-- THE SKIP LIST, AND WHAT STANDS IN THE ANSWER (demand 3, and the agreement)

-- the k-th of the declarations is a function with these parameters and this body
pub record Function (ds : List (Decl Spot)) (k : ℕ) (ps : List (Param Spot)) (b : Body Spot) : Type 0 where
  pub flags : ℕ
  pub place_of_declaration : Spot
  pub place_of_return_type : Spot
  pub identifier : Ident Spot
  pub type : Maybe Spot (Ty Spot)
  pub is : get_elem? ds k ≡ some (function flags place_of_declaration place_of_return_type identifier ps (ok b) type)

-- a kept function: with no function or head of its name before it
pub record Kept (ds : List (Decl Spot)) (k : ℕ) (ps : List (Param Spot)) (b : Body Spot) : Type 0 where
  pub at : Function ds k ps b
  pub first : is_in at.identifier.name (flat_map function_names (take k ds)) ≡ false

-- the k-th declaration of a script, a function with the parameters ps, and its part of the list
pub record InFunction (script : Tree Spot) (k : ℕ) (ps : List (Param Spot)) (part : List (ℕ × ℕ)) : Type 0 where
  -- its body with gotos and labels resolved, which is the one that walks go through
  pub resolved : Body Spot
  pub passed : Function (label_references script.decls) k ps resolved
  -- its part names every use of a local that some walk reaches without having run its declaration, each once, in tree order, and nothing else
  pub listed : NamesSkipped (body_acts resolved (names_at (label_references script.decls) ps)) part
  -- its body as answered: each such use that still stands is refused there, every other standing use of a local keeps its identifier
  pub parameters : List (Param Spot)
  pub body : Body Spot
  pub answered : Function (answered_tree script).decls k parameters body
  pub agrees : Agrees (names_at (label_references script.decls) ps) resolved body

-- the list is made of parts, one for each declaration
pub record Lists (c : Call) (script : Tree Spot) : Type 0 where
  pub parts : List (List (ℕ × ℕ))
  pub long : length parts ≡ length script.decls
  pub records : skip_list script ≡ flat_map (λ part. part) parts
  pub whole : c.list' ≡ padded (length c.list) (words (flat_map (λ part. part) parts))
  -- each once, in tree order: the offsets of the uses are offsets of the input, and each is greater than the one before it
  pub ordered : Rising 0 (length c.tree) (map (λ r. r.0) (flat_map (λ part. part) parts))
  -- "In every kept function in which no branch of an if is itself a declaration or a label"
  pub functions : (k : ℕ) (ps : List (Param Spot)) (b : Body Spot) → Kept script.decls k ps b → premise b.statements ≡ true → InFunction script k ps (get_or parts k [])
  -- what is no kept function with a body has no part in it
  pub others : (k : ℕ) (d : Decl Spot) → get_elem? script.decls k ≡ some d → is_kept (flat_map function_names (take k script.decls)) d ≡ false → get_or parts k [] ≡ []

abbrev pub SkipLists : Type 0
SkipLists = (c : Call) (bytes records : ℕ) → (a : Answered c bytes records) → Lists c a.script

-- IDS: "Label ids and variable ids count separately from 1. No id given out exceeds the input's length in bytes."

pub record Numbered (c : Call) (script : Tree Spot) : Type 0 where
  -- variable ids from 1 on, at most as many as the script has declared names, arrays and bodies; label ids from 1 on, at most as many as it has labels
  pub counted : Given (1 + ids_decls script.decls) (1 + ids_labels_decls script.decls) (answered_tree script).decls
  pub few : Given (length c.tree) (length c.tree) (answered_tree script).decls

abbrev pub IdsGiven : Type 0
IdsGiven = (c : Call) (bytes records : ℕ) → (a : Answered c bytes records) → Numbered c a.script

-- THE PLACE RULE: "Two trees that differ only in place numbers of equal byte count get the same refusals, lengths, ids, depths and list."

-- the refusal's number (0: none) and place, the answer's length in bytes and the list's in records
unfoldable pub tells : Result Scoped Refusal → ℕ × ℕ × ℕ × ℕ
tells (Ok s) = (0, 0, s.length, s.records)
tells (Err e) = (row_of e.reason, e.place, 0, 0)

-- two calls that were lent equally much
pub record LentAlike (c d : Call) : Type 0 where
  pub answer : length c.answer ≡ length d.answer
  pub list : length c.list ≡ length d.list
  pub work : length c.work ≡ length d.work

-- the same is told, the lists are the same, and so are ids and depths of what is answered
pub record SameButPlaces (c d : Call) : Type 0 where
  pub told : tells c.told ≡ tells d.told
  pub list : c.list' ≡ d.list'
  pub answers : SameAnswers (decode incoming c.tree) (decode incoming d.tree)

abbrev pub PlacesDoNotMatter : Type 0
PlacesDoNotMatter = (c d : Call) → LentAlike c d → DifferInPlaces c.tree d.tree → SameButPlaces c d

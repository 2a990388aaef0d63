-- What the scoping call promises, and its parts.
use Rattle.std.specs.Prelude.{ℕ, ◌-◌, ◌≤◌, ◌≡◌, List, [], ◌∷◌, length, get_or, Result, Ok, Err}
use Rattle.penne.specs.Write.{encode}
use Rattle.penne.specs.Scoper.{Answer, answer, refusal, answered_tree, skip_list, words, if_room, scoped_answer, Outcome, scoped}
use Rattle.tree.specs.declared.script.Layout.{Layout}
use Rattle.tree.specs.Script.{LaidOut}
use Rattle.answer.specs.declared.wrote.Wrote.{Wrote}
use Rattle.answer.specs.declared.wrote.Wrote.TheVariants.{Bytes, NoRoom}
use Rattle.answer.specs.Out.{Said}
use Rattle.walk.specs.Walking.{Input}
use Rattle.variable_references.specs.Whole.{tree_of}
use Rattle.scoper.specs.declared.Scoped.{Scoped}
use Rattle.fields.specs.declared.refusal.Reason.{Reason}
use Rattle.fields.specs.declared.refusal.Reason.TheVariants.{TreeTooLong, WorkTooSmall, CutOff, BadNumber, OutOfRange, BadName, TooDeep, TooMany, NamelessType, LeftOver, AnswerFull, ListFull, NoSuchDeclaration}
use Rattle.fields.specs.declared.refusal.Refusal.{Refusal}
use Rattle.fields.specs.Answers.{row_of}

-- THE CALL

-- all that a call tells and leaves behind, as the definition has it
unfoldable pub outcome_of : Result Scoped Refusal → (tree list work : List ℕ) → Outcome
outcome_of (Ok s) o l w = record { refusal = 0; place = 0; tree_length = s.length; records = s.records; tree = o; list = l; work = w }
outcome_of (Err e) o l w = record { refusal = row_of e.reason; place = e.place; tree_length = 0; records = 0; tree = o; list = l; work = w }

-- the reason with this number
unfoldable pub reason_of : ℕ → Reason
reason_of n = get_or (TreeTooLong ∷ WorkTooSmall ∷ CutOff ∷ BadNumber ∷ OutOfRange ∷ BadName ∷ TooDeep ∷ TooMany ∷ NamelessType ∷ LeftOver ∷ AnswerFull ∷ ListFull ∷ NoSuchDeclaration ∷ []) (n - 1) NoSuchDeclaration

-- what it tells: lengths of the answer and of the list in records, or a refusal's reason and place
unfoldable pub scoped_by : Answer → Result Scoped Refusal
scoped_by (answer t rs) = Ok (record { length = length t; records = length rs })
scoped_by (refusal n p) = Err (record { reason = reason_of n; place = p })

-- THE PROMISE of `analyze`: from the tree t, with o, l and w lent, it tells r and leaves o', l' and w'
pub record Scopes (t o l w : List ℕ) (r : Result Scoped Refusal) (o' l' w' : List ℕ) : Type 0 where
  pub told : r ≡ scoped_by (scoped_answer t (length o) (length l) (length w))
  pub outcome : outcome_of r o' l' w' ≡ scoped t (length o) (length l) (length w)

-- ITS PARTS

-- rows 11 and 12, by what was written
abbrev pub fitted : (full : Reason) → Wrote → Result ℕ Refusal
fitted full (Bytes n) = Ok n
fitted full NoRoom = Err (record { reason = full; place = 0 })

abbrev pub both : Result ℕ Refusal → Result ℕ Refusal → Result (ℕ × ℕ) Refusal
both (Ok n) (Ok k) = Ok (n, k)
both (Ok n) (Err e) = Err e
both (Err e) k = Err e

abbrev pub roomed : (answer list : Wrote) → Result (ℕ × ℕ) Refusal
roomed v k = both (fitted AnswerFull v) (fitted ListFull k)

-- the end that the code came to is the definition's answer: with an answer, both buffers begin with it
pub data Ending (o l : List ℕ) : Result (ℕ × ℕ) Refusal → Answer → Type 0 where
  written : {t : List ℕ} {rs : List (ℕ × ℕ)} → Said (Bytes (length t)) o t (length o) → Said (Bytes (length (words rs))) l (words rs) (length l) → Ending o l (Ok (length t, length (words rs))) (answer t rs)
  unwritten : {e : Refusal} → Ending o l (Err e) (refusal (row_of e.reason) e.place)

-- both passes over a tree whose parts stand where the layout says
pub record Passes (s : List ℕ) (y : Layout) (o l w : List ℕ) (r : Result (ℕ × ℕ) Refusal) (o' l' : List ℕ) : Type 0 where
  pub does : Input s → 16384 ≤ length w → (t : LaidOut s y) → Ending o' l' r (if_room (length o) (length l) (answer (encode (answered_tree (tree_of t))) (skip_list (tree_of t))))

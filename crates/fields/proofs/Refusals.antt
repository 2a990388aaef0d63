-- The rows of the table of refusals tell its reasons apart.
use Rattle.std.proofs.Common.{ℕ, ◌≡◌, refl, sym, ap, ◌∙◌, List, [], ◌∷◌, get_or}
use Rattle.std.proofs.Math.Option.{Option, none, some}
use Rattle.fields.specs.declared.refusal.Reason.{Reason}
use Rattle.fields.specs.declared.refusal.Reason.TheVariants.{TreeTooLong, WorkTooSmall, CutOff, BadNumber, OutOfRange, BadName, TooDeep, TooMany, NamelessType, LeftOver, AnswerFull, ListFull, NoSuchDeclaration}
use Rattle.fields.specs.Answers.{row_of}

-- the reasons by their rows
reasons : List (Option Reason)
reasons = none ∷ some TreeTooLong ∷ some WorkTooSmall ∷ some CutOff ∷ some BadNumber ∷ some OutOfRange ∷ some BadName ∷ some TooDeep ∷ some TooMany ∷ some NamelessType ∷ some LeftOver ∷ some AnswerFull ∷ some ListFull ∷ some NoSuchDeclaration ∷ []

reason_back : (a : Reason) → get_or reasons (row_of a) none ≡ some a
unfolding reasons
reason_back TreeTooLong = refl
reason_back WorkTooSmall = refl
reason_back CutOff = refl
reason_back BadNumber = refl
reason_back OutOfRange = refl
reason_back BadName = refl
reason_back TooDeep = refl
reason_back TooMany = refl
reason_back NamelessType = refl
reason_back LeftOver = refl
reason_back AnswerFull = refl
reason_back ListFull = refl
reason_back NoSuchDeclaration = refl

pub row_unique : (a b : Reason) → row_of a ≡ row_of b → a ≡ b
row_unique a b e = same (sym (reason_back a) ∙ ap (λ (n : ℕ). get_or reasons n none) e ∙ reason_back b)
  where
    same : {a b : Reason} → some a ≡ some b → a ≡ b
    same e = cc

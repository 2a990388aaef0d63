-- What the readers of an answered tree answer, in the words of the definitions.
use Rattle.std.specs.Prelude.{ℕ, ◌<◌, ◌≡◌, Bool, List, length, get_or, Result, Ok, Err, IsOkAnd}
use Rattle.penne.specs.Reader.{Counts, Cur, got, each}
use Rattle.penne.specs.Tree.{Spot, Decl}
use Rattle.penne.specs.Read.{answered}
use Rattle.penne.specs.Scoper.{Asked, told, untold}
use Rattle.fields.specs.declared.refusal.Refusal.{Refusal}
use Rattle.fields.specs.Answers.{cursor, row_of}

-- an answer of the code, as the definitions have it: `of` makes its value
abbrev pub asked : {T A : Type 0} → (T → A) → Result T Refusal → Asked A
asked of (Ok x) = told (of x)
asked of (Err e) = untold (row_of e.reason) e.place

abbrev pub depth_asked : Result ℕ Refusal → Asked ℕ
depth_asked = asked (λ d. d)

abbrev pub container_asked : Result Bool Refusal → Asked Bool
container_asked = asked (λ b. b)

-- whatever depths are read at `at` for whatever declarations, r is the one behind n others
pub record NthDepth (s : List ℕ) (at n : ℕ) (r : Result ℕ Refusal) : Type 0 where
  pub is : (names : ℕ) (k : Counts) (ds : List (Decl Spot)) (hs : List ℕ) (c : Cur) → each answered ds s (cursor at names k) ≡ got hs c → n < length ds → IsOkAnd r (λ h. h ≡ get_or hs n 0)

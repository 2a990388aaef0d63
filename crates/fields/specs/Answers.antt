-- What the readers' answers say, in the words of the definitions. The code keeps no tree, so that of a part's value only the end is left.
use Rattle.std.specs.Prelude.{ℕ, ◌≡◌, List, [], ◌∷◌, ◌++◌, map, codes, decimal, true, false, Option, Some, None, Result, Ok, Err}
use Rattle.penne.specs.Reader.{Counts, Cur, Got, got, refused, Reader, ◌>>=◌, ret, num, bytes, plus, fits, last_group}
use Rattle.penne.specs.Tree.{Spot, Ident}
use Rattle.penne.specs.Read.{ident, place, poison_fields}
use Rattle.fields.specs.declared.field.Identifier.{Identifier}
use Rattle.fields.specs.declared.counts.Counts as C
use Rattle.fields.specs.declared.refusal.Reason.{Reason}
use Rattle.fields.specs.declared.refusal.Reason.TheVariants.{TreeTooLong, WorkTooSmall, CutOff, BadNumber, OutOfRange, BadName, TooDeep, TooMany, NamelessType, LeftOver, AnswerFull, ListFull, NoSuchDeclaration}
use Rattle.fields.specs.declared.refusal.Refusal.{Refusal}

-- the row of a reason in the table of refusals
abbrev pub row_of : Reason → ℕ
row_of TreeTooLong = 1
row_of WorkTooSmall = 2
row_of CutOff = 3
row_of BadNumber = 4
row_of OutOfRange = 5
row_of BadName = 6
row_of TooDeep = 7
row_of TooMany = 8
row_of NamelessType = 9
row_of LeftOver = 10
row_of AnswerFull = 11
row_of ListFull = 12
row_of NoSuchDeclaration = 13

-- a refusal as the programs print it: its row and its place
abbrev pub refusal_text : Refusal → List ℕ
refusal_text e = codes "refused " ++ (decimal (row_of e.reason) ++ (codes " at " ++ decimal e.place))

-- a cursor at a byte, with so many names in the table and so much counted
abbrev pub cursor : (at names : ℕ) → Counts → Cur
cursor at names k = record { at = at; names = names; counts = k }

-- a refusal of the code, as the definitions have it
abbrev pub refusal : {A : Type 0} → Refusal → Got A
refusal e = refused (row_of e.reason) e.place

-- a number with the next cursor, or a refusal
abbrev pub number_of : (names : ℕ) → Counts → Result (ℕ × ℕ) Refusal → Got ℕ
number_of names k (Ok x) = got x.0 (cursor x.1 names k)
number_of names k (Err e) = refusal e

-- r is what m reads at `at`, whatever the table of names and whatever was counted
pub record Gives (m : Reader ℕ) (s : List ℕ) (at : ℕ) (r : Result (ℕ × ℕ) Refusal) : Type 0 where
  pub is : (names : ℕ) (k : Counts) → m s (cursor at names k) ≡ number_of names k r

-- r is what a number's last group makes of it
pub record Last (b w v start next : ℕ) (r : Result (ℕ × ℕ) Refusal) : Type 0 where
  pub is : (names : ℕ) (k : Counts) → last_group b w v start next (cursor start names k) ≡ number_of names k r

-- r is what m reads at `at` in a tree with so many names, whatever was counted
pub record Reads (m : Reader ℕ) (s : List ℕ) (names at : ℕ) (r : Result (ℕ × ℕ) Refusal) : Type 0 where
  pub is : (k : Counts) → m s (cursor at names k) ≡ number_of names k r

-- what is left of an answer when the value is left aside
unfoldable pub forget : {A : Type 0} → Got A → Got (Unit {0})
forget (got a c) = got tt c
forget (refused n p) = refused n p

-- where a part ends, or its refusal
abbrev pub end_of : (names : ℕ) → Counts → Result ℕ Refusal → Got (Unit {0})
end_of names k (Ok next) = got tt (cursor next names k)
end_of names k (Err e) = refusal e

-- r is where the part ends that m reads at `at` in a tree with so many names, whatever was counted, or m's refusal
pub record Ends {A : Type 0} (m : Reader A) (s : List ℕ) (names at : ℕ) (r : Result ℕ Refusal) : Type 0 where
  pub is : (k : Counts) → forget (m s (cursor at names k)) ≡ end_of names k r

-- the same, where m does not look at the table of names
pub record Skips {A : Type 0} (m : Reader A) (s : List ℕ) (at : ℕ) (r : Result ℕ Refusal) : Type 0 where
  pub is : (names : ℕ) (k : Counts) → forget (m s (cursor at names k)) ≡ end_of names k r

-- an identifier of the code, read at `at`, as the definitions have it
abbrev pub ident_of : (at : ℕ) → Identifier → Ident Spot
ident_of at i = record { name = i.name; place = record { number = i.place; from = at }; id = i.id; auth = i.authority }

-- an identifier with the next cursor, or a refusal
abbrev pub identified_of : (names at : ℕ) → Counts → Result (Identifier × ℕ) Refusal → Got (Ident Spot)
identified_of names at k (Ok x) = got (ident_of at x.0) (cursor x.1 names k)
identified_of names at k (Err e) = refusal e

-- r is the identifier that stands at `at`
pub record Identifies (s : List ℕ) (names at : ℕ) (r : Result (Identifier × ℕ) Refusal) : Type 0 where
  pub is : (k : Counts) → ident s (cursor at names k) ≡ identified_of names at k r

-- how many names and how many places a poison of each kind has; kind 17's one number counts as a place
unfoldable pub poison_names : List ℕ
poison_names = map (λ r. r.0) poison_fields ++ (0 ∷ [])

unfoldable pub poison_places : List ℕ
poison_places = map (λ r. r.1) poison_fields ++ (1 ∷ [])

-- an identifier and a number, bytes and a place
unfoldable pub identifier_and_number : Reader (Ident Spot × ℕ)
identifier_and_number = ident >>= λ i. num >>= λ n. ret (i, n)

unfoldable pub bytes_and_place : Reader (List ℕ × Spot)
bytes_and_place = bytes >>= λ b. place >>= λ p. ret (b, p)

-- what the form writes "2p", and "op, 2p"
unfoldable pub two_places : Reader (Spot × Spot)
two_places = place >>= λ p. place >>= λ q. ret (p, q)

unfoldable pub operator : Reader (ℕ × (Spot × Spot))
operator = num >>= λ op. two_places >>= λ r. ret (op, r)

-- COUNTING

-- what the code has counted
abbrev pub counts_of : C.Counts → Counts
counts_of k = record { containers = k.containers; functions = k.functions; entries = k.entries; statements = k.statements }

-- both counts together, where row 8 allows it
unfoldable pub together : Counts → Counts → Option Counts
together a b = elim (fits (plus a b)) [ true ↦ Some (plus a b) | false ↦ None ]

abbrev pub counted_of : Option C.Counts → Option Counts
counted_of (Some k) = Some (counts_of k)
counted_of None = None

-- r is both counts together, where row 8 allows it
pub record Counting (a b : C.Counts) (r : Option C.Counts) : Type 0 where
  pub is : together (counts_of a) (counts_of b) ≡ counted_of r

-- where a part ends and what is counted by then, or its refusal
abbrev pub passed_of : (names : ℕ) → Result (ℕ × C.Counts) Refusal → Got (Unit {0})
passed_of names (Ok x) = got tt (cursor x.0 names (counts_of x.1))
passed_of names (Err e) = refusal e

-- r is where the part ends that m reads at `at` in a tree with so many names, where so much is counted, or m's refusal
pub record Passes {A : Type 0} (m : Reader A) (s : List ℕ) (names : ℕ) (k : C.Counts) (at : ℕ) (r : Result (ℕ × C.Counts) Refusal) : Type 0 where
  pub is : forget (m s (cursor at names (counts_of k))) ≡ passed_of names r

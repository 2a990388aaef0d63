-- The table of names as it lies in the bytes: a name's length is one byte, since it is at most 64, and its bytes follow.
use Rattle.std.specs.Prelude.{ℕ, zero, suc, ◌+◌, ◌*◌, ◌/◌, ◌%◌, ◌≡◌, Bool, true, ◌||◌, List, [], ◌∷◌, ◌++◌, eqb, length, get_or, take, drop, Result, Ok, Err, IfOk}
use Rattle.penne.specs.Reader.{Counts, Got, got}
use Rattle.penne.specs.Read.{read_names, among_names}
use Rattle.fields.specs.declared.refusal.Refusal.{Refusal}
use Rattle.fields.specs.Answers.{cursor, refusal}

-- n bytes from `at` on, as far as there are any
abbrev pub part : List ℕ → (at n : ℕ) → List ℕ
part s at n = take n (drop at s)

-- where the name behind the one at `at` begins
abbrev pub behind : List ℕ → ℕ → ℕ
behind s at = at + 1 + get_or s at 0

-- n names, the first of which begins at `at`
unfoldable pub names_from : (n : ℕ) → List ℕ → (at : ℕ) → List (List ℕ)
names_from zero s at = []
names_from (suc n) s at = part s (at + 1) (get_or s at 0) ∷ names_from n s (behind s at)

-- where they end
unfoldable pub names_end : (n : ℕ) → List ℕ → (at : ℕ) → ℕ
names_end zero s at = at
names_end (suc n) s at = names_end n s (behind s at)

-- the table of so many names at `at`, with the next cursor, or a refusal
abbrev pub table_of : (n : ℕ) → List ℕ → (at : ℕ) → Counts → Result ℕ Refusal → Got (List (List ℕ))
table_of n s at k (Ok next) = got (names_from n s at) (cursor next 0 k)
table_of n s at k (Err e) = refusal e

-- r is where the table of n names ends that begins at `at`, or its refusal; before it, no name is in the table
pub record Tables (n : ℕ) (s : List ℕ) (at : ℕ) (r : Result ℕ Refusal) : Type 0 where
  pub is : (k : Counts) → read_names n [] s (cursor at 0 k) ≡ table_of n s at k r

-- what is left of the table behind one name more, or its refusal; `rest` names are to come
abbrev pub after_one : (count : ℕ) → List ℕ → (from rest : ℕ) → Counts → Result ℕ Refusal → Got (List (List ℕ))
after_one count s from rest k (Ok next) = read_names rest (names_from (suc count) s from) s (cursor next 0 k)
after_one count s from rest k (Err e) = refusal e

-- r is where the name at `at` ends, behind so many names from `from` on, or its refusal
pub record OneMore (count : ℕ) (s : List ℕ) (from at : ℕ) (r : Result ℕ Refusal) : Type 0 where
  pub is : (rest : ℕ) (k : Counts) → read_names (suc rest) (names_from count s from) s (cursor at 0 k) ≡ after_one count s from rest k r
  pub ends : IfOk r (λ next. next ≡ names_end (suc count) s from)

-- HAS THE NAME BEEN MET?

-- a name's number: which one is of no matter, as long as equal names have the same
unfoldable pub hash_from : (h : ℕ) → List ℕ → ℕ
hash_from h [] = h
hash_from h (b ∷ bs) = hash_from ((h * 367 + b) % 8388608) bs

abbrev pub hash_of : List ℕ → ℕ
hash_of name = hash_from 0 name

-- what a name of number h leaves in its cell: not 0
abbrev pub mark_of : ℕ → ℕ
mark_of h = h / 8192 % 32768 + 1

-- its cell holds its own mark, or 65535, where several were left
unfoldable pub met_by : (cells : List ℕ) → (h : ℕ) → Bool
met_by cells h = eqb (get_or cells (h % 8192) 0) 65535 || eqb (get_or cells (h % 8192) 0) (mark_of h)

-- of 8192 cells, h is marked, and what was stays so
pub record Marks (cells : List ℕ) (h : ℕ) (after : List ℕ) : Type 0 where
  pub long : length after ≡ length cells
  pub has : length cells ≡ 8192 → met_by after h ≡ true
  pub keeps : length cells ≡ 8192 → (j : ℕ) → met_by cells j ≡ true → met_by after j ≡ true

-- all these names are marked
pub record Marked (cells : List ℕ) (names : List (List ℕ)) : Type 0 where
  pub long : length cells ≡ 8192
  pub is : (y : List ℕ) → among_names y names ≡ true → met_by cells (hash_of y) ≡ true

-- r says whether the name is among the names, and it is marked beside them
pub record Knows (names : List (List ℕ)) (name : List ℕ) (r : Bool) (cells : List ℕ) : Type 0 where
  pub is : r ≡ among_names name names
  pub marked : Marked cells (names ++ (name ∷ []))

-- behind a name that passes, it is marked beside those before it
pub record Noted (count : ℕ) (s : List ℕ) (from : ℕ) (r : Result ℕ Refusal) (cells : List ℕ) : Type 0 where
  pub marked : IfOk r (λ next. Marked cells (names_from (suc count) s from))

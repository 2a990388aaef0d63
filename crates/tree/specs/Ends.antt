-- Where declarations end, as rows of ten words tell it.
use Rattle.std.specs.Prelude.{ℕ, ◌+◌, ◌*◌, ◌≤◌, ◌<◌, ◌≡◌, Bool, true, List, length, get_or, Result, Ok, IfOk}
use Rattle.penne.specs.Read.{read_decl}
use Rattle.fields.specs.declared.counts.Counts as C
use Rattle.fields.specs.declared.refusal.Refusal.{Refusal}
use Rattle.tree.specs.declared.script.Layout.{Layout}
use Rattle.fields.specs.Answers.{Passes}

-- four words from i on, as counts
abbrev pub counts_in : List ℕ → (i : ℕ) → C.Counts
counts_in m i = record { containers = get_or m i 0; functions = get_or m (i + 1) 0; entries = get_or m (i + 2) 0; statements = get_or m (i + 3) 0 }

-- what a row tells: the declaration at `at`, with `before` counted, ends at `next`, with `behind` counted
pub record Row : Type 0 where
  pub at : ℕ
  pub before : C.Counts
  pub behind : C.Counts
  pub next : ℕ  -- 0: nothing is told

-- the row that begins at word i
abbrev pub row_at : List ℕ → (i : ℕ) → Row
row_at m i = record { at = get_or m i 0; before = counts_in m (i + 1); behind = counts_in m (i + 5); next = get_or m (i + 9) 0 }

-- what the row tells is so
pub record Sound (s : List ℕ) (names : ℕ) (r : Row) : Type 0 where
  pub is : (r.next ≡ 0 → ⊥) → Passes read_decl s names r.before r.at (Ok (r.next, r.behind))

-- all that the rows of m tell of the tree s, with so many names, is so
pub record Known (s : List ℕ) (names : ℕ) (m : List ℕ) : Type 0 where
  pub row : (k : ℕ) → Sound s names (row_at m (k * 10))

-- where r says so, the row that begins at word i tells of the declaration at `at`
pub record Tells (m : List ℕ) (i : ℕ) (k : C.Counts) (at : ℕ) (r : Bool) : Type 0 where
  pub some : r ≡ true → get_or m (i + 9) 0 ≡ 0 → ⊥
  pub begins : r ≡ true → get_or m i 0 ≡ at
  pub counts : r ≡ true → counts_in m (i + 1) ≡ k

-- the counts are written to the four words from i on, and nothing else is
pub record Writes (m : List ℕ) (i : ℕ) (k : C.Counts) (m' : List ℕ) : Type 0 where
  pub long : length m' ≡ length m
  pub low : (j : ℕ) → j < i → get_or m' j 0 ≡ get_or m j 0
  pub high : (j : ℕ) → i + 4 ≤ j → get_or m' j 0 ≡ get_or m j 0
  pub is : i + 3 < length m → counts_in m' i ≡ k

-- where it is so that the declaration ends there, and the rows were sound, they are
pub record Notes (k : C.Counts) (at next : ℕ) (more : C.Counts) (m m' : List ℕ) : Type 0 where
  pub keeps : {s : List ℕ} {names : ℕ} → Passes read_decl s names k at (Ok (next, more)) → Known s names m → Known s names m'

-- where the parts of s were found, rows that were sound still are
pub record Remembers (s : List ℕ) (m : List ℕ) (r : Result Layout Refusal) (m' : List ℕ) : Type 0 where
  pub keeps : IfOk r (λ l. Known s l.names m → Known s l.names m')

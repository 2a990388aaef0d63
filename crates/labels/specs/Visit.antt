-- What the visit promises: where a part stands in the rows and the labels in scope are held, its outcomes are told afterwards, and the labels are held that the pass leaves in scope.
use Rattle.std.specs.Prelude.{ℕ, suc, ◌+◌, ◌<◌, ◌≤◌, ◌≡◌, Bool, List, [], ◌∷◌, ◌++◌, eqb, length, get_or, set}
use Rattle.std.specs.Prelude as Rust
use Rattle.std.proofs.Math.Option.{Option, none, some}
use Rattle.penne.specs.Tree.{Spot, Ident, stmt, Stm}
use Rattle.penne.specs.Find.{first_named}
use Rattle.penne.specs.Labels.{Labels, labels}
use Rattle.labels.specs.declared.Labels as L
use Rattle.labels.specs.Outcomes.{outcomes, labels_in}
use Rattle.labels.specs.Table.{single, list, Rows, Told, Stacked, Off}
use Rattle.scopes.specs.Labels.{Along, Named}

-- the words hold the labels in scope; every id is below the next
pub record Held (w : List ℕ) (a : L.Labels) (l : Labels Spot) : Type 0 where
  pub stack : Along (Stacked w a.next) 0 l.label_stack a.count
  pub next : a.next ≡ l.resolution_id
  pub few : a.count < a.next
  pub words : 13312 ≤ length w

-- nothing is changed but the outcomes from k to k', the rows of labels from the next id on, and the labels above those in scope
pub record Touches (k k' : ℕ) (a : L.Labels) (w w' : List ℕ) : Type 0 where
  pub long : length w' ≡ length w
  pub same : (i : ℕ) → Off k k' i → Off (2047 + a.next) 3072 i → Off (3071 + a.next) 4096 i → Off (12288 + a.count) 13312 i → get_or w' i 0 ≡ get_or w i 0

-- the outcomes os of the statements from k to k' are told, the labels `is` have the next ids, and l is held
pub record Did (k k' : ℕ) (os : List ℕ) (is : List (Ident Spot)) (l : Labels Spot) (a : L.Labels) (w : List ℕ) (b : L.Labels) (w' : List ℕ) : Type 0 where
  pub told : Along (Told w') k os k'
  pub named : Along (Named w') a.next is b.next
  pub held : Held w' b l
  pub more : a.count ≤ b.count
  pub touches : Touches k k' a w w'

-- the visit of the statement of number k
pub record Visits (left k : ℕ) (a : L.Labels) (w : List ℕ) (b : L.Labels) (w' : List ℕ) : Type 0 where
  pub does : {t : Stm Spot stmt} {k' : ℕ} {l : Labels Spot} → Rows w left k (single t) k' → Held w a l → a.next + length (labels_in t) ≤ 1025 → Did k k' (outcomes t l) (labels_in t) (labels t l).1 a w b w'

-- the same, where its kind is known
pub record VisitsKind (kind left k : ℕ) (a : L.Labels) (w : List ℕ) (b : L.Labels) (w' : List ℕ) : Type 0 where
  pub visits : get_or w (6144 + k) 0 ≡ kind → Visits (suc left) k a w b w'

-- a list, visited as it is turned round: the words, the labels, and what is left
unfoldable pub outcomes_back : List (Stm Spot stmt) → Labels Spot → List ℕ
outcomes_back [] l = []
outcomes_back (t ∷ rs) l = outcomes_back rs (labels t l).1 ++ outcomes t l

unfoldable pub labels_back : List (Stm Spot stmt) → List (Ident Spot)
labels_back [] = []
labels_back (t ∷ rs) = labels_in t ++ labels_back rs

unfoldable pub after_back : List (Stm Spot stmt) → Labels Spot → Labels Spot
after_back [] l = l
after_back (t ∷ rs) l = after_back rs (labels t l).1

-- the visit of the list whose last statement has the number `last` less 1
pub record VisitsList (left last : ℕ) (a : L.Labels) (w : List ℕ) (b : L.Labels) (w' : List ℕ) : Type 0 where
  pub does : {rs : List (Stm Spot stmt)} {k k' : ℕ} {l : Labels Spot} → Rows w left k (list rs last) k' → Held w a l → a.next + length (labels_back rs) ≤ 1025
      → Did k k' (outcomes_back rs l) (labels_back rs) (after_back rs l) a w b w'

-- THE LEAVES

-- r is the word of row k in the column that begins at `from`
pub record Shows (w : List ℕ) (from k r : ℕ) : Type 0 where
  pub is : k < 2048 → from ≤ 12288 → r ≡ get_or w (from + k) 0

-- the id of what the search found
unfoldable pub found_id : {P : Type 0} → Option (Ident P) → Rust.Option ℕ
found_id none = Rust.None
found_id (some j) = Rust.Some j.id

-- r is the id of the first label of that name, of those in scope from the i-th on
pub record Finds (w : List ℕ) (i count name : ℕ) (r : Rust.Option ℕ) : Type 0 where
  pub is : 13312 ≤ length w → {next : ℕ} {js : List (Ident Spot)} → Along (Stacked w next) i js count → next ≤ 1025 → count ≤ 1024 → r ≡ found_id (first_named name js)

-- the i-th label in scope, and a label's name
pub record InScope (w : List ℕ) (i r : ℕ) : Type 0 where
  pub is : i < 1024 → r ≡ get_or w (12288 + i) 0

pub record NameOf (w : List ℕ) (id r : ℕ) : Type 0 where
  pub is : 0 < id → id ≤ 1024 → r ≡ get_or w (2047 + id) 0

-- r says whether the label of that id has the name
pub record Bears (w : List ℕ) (id name : ℕ) (r : Bool) : Type 0 where
  pub own : ℕ
  pub named : NameOf w id own
  pub is : r ≡ eqb own name

-- the outcome of statement k is set
pub record Sets (k o : ℕ) (w w' : List ℕ) : Type 0 where
  pub is : k < 2048 → w' ≡ set w k o

-- a label's word, where `earlier` is the id of an earlier one
pub record LabelWord (earlier : Rust.Option ℕ) (id r : ℕ) : Type 0 where
  pub none : earlier ≡ Rust.None → r ≡ id
  pub some : (e : ℕ) → earlier ≡ Rust.Some e → e ≤ 1024 → r ≡ 1024 + e

-- a label of that name and place is declared
pub record Declares (name place : ℕ) (a : L.Labels) (w : List ℕ) (b : L.Labels) (w' : List ℕ) : Type 0 where
  pub count : a.count < 1024 → 0 < a.next → a.next ≤ 1024 → b ≡ record { count = a.count + 1; next = a.next + 1 }
  pub words : a.count < 1024 → 0 < a.next → a.next ≤ 1024 → w' ≡ set (set (set w (2047 + a.next) name) (3071 + a.next) place) (12288 + a.count) a.next

-- What the laying out promises: whatever the definition reads here, its rows stand in the table afterwards, and the answer is where it ends.
use Rattle.std.specs.Prelude.{ℕ, suc, ◌+◌, ◌<◌, ◌≤◌, ◌≡◌, List, [], length, get_or, Result, Ok}
use Rattle.penne.specs.Tree.{Spot, Expr, stmt, else_branch, Stm, if_else}
use Rattle.penne.specs.Reader.{Cur, Got, got}
use Rattle.fields.specs.Answers.{cursor, counts_of}
use Rattle.fields.specs.declared.counts.Counts as C
use Rattle.fields.specs.declared.refusal.Refusal.{Refusal}
use Rattle.label_references.specs.declared.shape.Shaped.{Shaped}
use Rattle.labels.specs.Table.{Leaf, Row, single, list, Rows, turned, Off}

-- nothing is changed but the rows from k to k'
pub record Only (k k' : ℕ) (w w' : List ℕ) : Type 0 where
  pub long : length w' ≡ length w
  pub same : (i : ℕ) → Off k k' i → Off (6144 + k) (6144 + k') i → Off (8192 + k) (8192 + k') i → Off (10240 + k) (10240 + k') i → get_or w' i 0 ≡ get_or w i 0

-- row k is set
pub record SetsRow (k kind previous inside word : ℕ) (w w' : List ℕ) : Type 0 where
  pub row : k < 2048 → 13312 ≤ length w → Row w' k kind inside word
  pub before : k < 2048 → 13312 ≤ length w → get_or w' (8192 + k) 0 ≡ previous
  pub only : Only k (k + 1) w w'

-- laid out as far as `end`
abbrev pub shaped : (end : ℕ) → C.Counts → (last : ℕ) → Shaped
shaped end counts last = record { at = end; counts = counts; last = last }

-- the statement t of number k, read as far as c, is laid out behind the one of number `previous` less 1
pub record Laid (names left k previous : ℕ) (t : Stm Spot stmt) (c : Cur) (w : List ℕ) (r : Result Shaped Refusal) (w' : List ℕ) : Type 0 where
  pub end : ℕ
  pub counts : C.Counts
  pub told : r ≡ Ok (shaped end counts (k + 1))
  pub cur : c ≡ cursor end names (counts_of counts)
  pub rows : Rows w' left k (single t) counts.statements
  pub before : get_or w' (8192 + k) 0 ≡ previous
  pub only : Only k counts.statements w w'

-- whatever q reads is laid out so
pub record Lays (q : Got (Stm Spot stmt)) (names left k previous : ℕ) (w : List ℕ) (r : Result Shaped Refusal) (w' : List ℕ) : Type 0 where
  pub does : 13312 ≤ length w → {t : Stm Spot stmt} {c : Cur} → q ≡ got t c → Laid names left k previous t c w r w'

-- the same, where the statement's kind is read and it is counted
pub record LaysKind (q : Got (Stm Spot stmt)) (names left : ℕ) (so_far : C.Counts) (k previous : ℕ) (w : List ℕ) (r : Result Shaped Refusal) (w' : List ℕ) : Type 0 where
  pub lays : so_far.statements ≡ k + 1 → k < 2048 → Lays q names (suc left) k previous w r w'

-- the same, where it is known to hold no other statement
pub record LaysLeaf (q : Got (Stm Spot stmt)) (names left k previous : ℕ) (w : List ℕ) (r : Result Shaped Refusal) (w' : List ℕ) : Type 0 where
  pub lays : ((t : Stm Spot stmt) (c : Cur) → q ≡ got t c → Leaf t × (c.counts.statements ≡ k + 1)) → k < 2048 → (left ≡ 0 → ⊥) → Lays q names left k previous w r w'

-- whatever q reads behind the then branch t of the If of number k, the If is laid out
pub record LaysElse (q : Got (Stm Spot else_branch)) (names left : ℕ) (so_far : C.Counts) (k previous : ℕ) (w : List ℕ) (r : Result Shaped Refusal) (w' : List ℕ) : Type 0 where
  pub does : 13312 ≤ length w → k < 2048 → {t : Stm Spot stmt} {p r₁ r₂ : Spot} {op : ℕ} {x y : Expr Spot} {e : Stm Spot else_branch} {c : Cur}
      → Rows w left (k + 1) (single t) so_far.statements → q ≡ got e c → (l : Laid names (suc left) k previous (if_else p op r₁ r₂ x y t e) c w r w') × (so_far.statements ≤ l.counts.statements)

-- behind the statements rs, the last first, that stand in the rows from k to m, the statements ts are laid out, as far as c
pub record ListLaid (names left k m : ℕ) (rs ts : List (Stm Spot stmt)) (c : Cur) (w : List ℕ) (r : Result Shaped Refusal) (w' : List ℕ) : Type 0 where
  pub end : ℕ
  pub counts : C.Counts
  pub last : ℕ
  pub told : r ≡ Ok (shaped end counts last)
  pub cur : c ≡ cursor end names (counts_of counts)
  pub rows : Rows w' left k (list (turned ts rs) last) counts.statements
  pub grown : m ≤ counts.statements
  pub only : Only m counts.statements w w'

-- whatever q reads, a list of statements is laid out, the first of number k
pub record LaysList (q : Got (List (Stm Spot stmt))) (names left k : ℕ) (w : List ℕ) (r : Result Shaped Refusal) (w' : List ℕ) : Type 0 where
  pub does : 13312 ≤ length w → {ts : List (Stm Spot stmt)} {c : Cur} → q ≡ got ts c → ListLaid names left k k [] ts c w r w'

-- a statement of number k ends so
pub record EndsAt (at : ℕ) (so_far : C.Counts) (k : ℕ) (r : Shaped) : Type 0 where
  pub is : k < 2048 → r ≡ shaped at so_far (k + 1)

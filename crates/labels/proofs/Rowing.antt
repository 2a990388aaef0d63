-- Rows of statements: how far they reach, and that they stay where their words stay.
use mathlib.Core.Path.{◌≡◌, ◌∙◌}
use mathlib.Core.List.{List}
use Prim.Native.Nat.{ℕ, ◌+◌, ◌<◌, ◌≤◌}
use native.Mathlib.Omega.{arith}
use lib.ListN.{get_or}
use Rattle.penne.specs.Tree.{Spot, stmt, Stm}
use Rattle.labels.specs.Table.{Row, Part, single, list, Rows, leaf_row, goto_row, label_row, if_row, else_row, block_row, no_rows, more_rows}

pub rows_le : {w : List ℕ} {l k k' : ℕ} {p : Part} → Rows w l k p k' → k ≤ k'
rows_le (leaf_row x r) = omega arith
rows_le (goto_row r) = omega arith
rows_le (label_row r) = omega arith
rows_le {k = k} {k'} (if_row r a) = let h : k + 1 ≤ k' = rows_le a in omega arith
rows_le {k = k} {k'} (else_row {m = m} r a b) = let h : k + 1 ≤ m = rows_le a in let j : m ≤ k' = rows_le b in omega arith
rows_le {k = k} {k'} (block_row ts r a) = let h : k + 1 ≤ k' = rows_le a in omega arith
rows_le no_rows = omega arith
rows_le {k = k} {k'} (more_rows {m = m} a e b) = let h : k ≤ m = rows_le a in let j : m ≤ k' = rows_le b in omega arith

pub rows_lt : {w : List ℕ} {l k k' : ℕ} {t : Stm Spot stmt} → Rows w l k (single t) k' → k < k'
rows_lt (leaf_row x r) = omega arith
rows_lt (goto_row r) = omega arith
rows_lt (label_row r) = omega arith
rows_lt {k = k} {k'} (if_row r a) = let h : k + 1 ≤ k' = rows_le a in omega arith
rows_lt {k = k} {k'} (else_row {m = m} r a b) = let h : k + 1 ≤ m = rows_le a in let j : m ≤ k' = rows_le b in omega arith
rows_lt {k = k} {k'} (block_row ts r a) = let h : k + 1 ≤ k' = rows_le a in omega arith

pub rows_high : {w : List ℕ} {l k k' : ℕ} {p : Part} → Rows w l k p k' → k ≤ 2048 → k' ≤ 2048
rows_high (leaf_row x r) h = omega (arith, r.low)
rows_high (goto_row r) h = omega (arith, r.low)
rows_high (label_row r) h = omega (arith, r.low)
rows_high (if_row r a) h = rows_high a (omega (arith, r.low))
rows_high (else_row r a b) h = rows_high b (rows_high a (omega (arith, r.low)))
rows_high (block_row ts r a) h = rows_high a (omega (arith, r.low))
rows_high no_rows h = h
rows_high (more_rows a e b) h = rows_high b (rows_high a h)

pub rows_below : {w : List ℕ} {l k k' : ℕ} {t : Stm Spot stmt} → Rows w l k (single t) k' → k < 2048
rows_below (leaf_row x r) = r.low
rows_below (goto_row r) = r.low
rows_below (label_row r) = r.low
rows_below (if_row r a) = r.low
rows_below (else_row r a b) = r.low
rows_below (block_row ts r a) = r.low

pub rows_last : {w : List ℕ} {l k k' last : ℕ} {rs : List (Stm Spot stmt)} → Rows w l k (list rs last) k' → last ≤ k'
rows_last no_rows = omega arith
rows_last (more_rows a e b) = omega (arith, rows_lt b)

-- row i is the same in both words
pub record SameRow (w w' : List ℕ) (i : ℕ) : Type 0 where
  pub kinds : get_or w' (6144 + i) 0 ≡ get_or w (6144 + i) 0
  pub before : get_or w' (8192 + i) 0 ≡ get_or w (8192 + i) 0
  pub insides : get_or w' (10240 + i) 0 ≡ get_or w (10240 + i) 0
  pub words : get_or w' i 0 ≡ get_or w i 0

row_same : {w w' : List ℕ} {k kind inside word : ℕ} → SameRow w w' k → Row w k kind inside word → Row w' k kind inside word
row_same s r = record { low = r.low; kinds = s.kinds ∙ r.kinds; insides = s.insides ∙ r.insides; words = s.words ∙ r.words }

pub rows_same : {w w' : List ℕ} {l k k' : ℕ} {p : Part} → ((i : ℕ) → k ≤ i → i < k' → SameRow w w' i) → Rows w l k p k' → Rows w' l k p k'
rows_same {k = k} s (leaf_row x r) = leaf_row x (row_same (s k (omega arith) (omega arith)) r)
rows_same {k = k} s (goto_row r) = goto_row (row_same (s k (omega arith) (omega arith)) r)
rows_same {k = k} s (label_row r) = label_row (row_same (s k (omega arith) (omega arith)) r)
rows_same {k = k} s (if_row r a) = if_row (row_same (s k (omega arith) (omega (arith, rows_le a))) r) (rows_same (λ i h₁ h₂. s i (omega arith) h₂) a)
rows_same {k = k} s (else_row r a b) = else_row (row_same (s k (omega arith) (omega (arith, rows_le a, rows_le b))) r) (rows_same (λ i h₁ h₂. s i (omega arith) (omega (arith, rows_le b))) a) (rows_same (λ i h₁ h₂. s i (omega (arith, rows_le a)) h₂) b)
rows_same {k = k} s (block_row ts r a) = block_row ts (row_same (s k (omega arith) (omega (arith, rows_le a))) r) (rows_same (λ i h₁ h₂. s i (omega arith) h₂) a)
rows_same s no_rows = no_rows
rows_same s (more_rows {m = m} a e b) = more_rows (rows_same (λ i h₁ h₂. s i h₁ (omega (arith, rows_le b))) a) ((s m (omega (arith, rows_le a)) (omega (arith, rows_lt b))).before ∙ e) (rows_same (λ i h₁ h₂. s i (omega (arith, rows_le a)) h₂) b)

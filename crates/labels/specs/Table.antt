-- The rows of statements in the work words: words 0 to 2047 are outcomes, the columns of kinds, of previous statements and of what is inside begin at 6144, 8192 and 10240.
use Rattle.std.specs.Prelude.{ℕ, suc, ◌+◌, ◌<◌, ◌≤◌, ◌≡◌, List, [], ◌∷◌, get_or}
use Rattle.penne.specs.Tree.{Spot, Ident, Carried, Expr, Node, one, ref, list_of, expr, Poison, stmt, Stm, declaration, assignment, method_call, loop, goto, label, if_else, block, bad_stmt, no_else, or_else}
use Rattle.penne.specs.Read.{to_stms}
use Rattle.std.proofs.Math.Option.{Option}

-- a statement that holds no other, and is no goto and no label
pub data Leaf : Stm Spot stmt → Type 0 where
  declares : {p : Spot} {v : Option (Expr Spot)} {t : Carried Spot} {i : Ident Spot} → Leaf (declaration p v t i)
  assigns : {p : Spot} {v : Expr Spot} {r : Node Spot (one ref)} → Leaf (assignment p v r)
  calls : {i : Ident Spot} {b : ℕ} {es : Node Spot (list_of expr)} → Leaf (method_call i b es)
  loops : {p : Spot} → Leaf (loop p)
  bad : {z : Poison Spot} → Leaf (bad_stmt z)

-- the row of statement k, but for the one before it
pub record Row (w : List ℕ) (k kind inside word : ℕ) : Type 0 where
  pub low : k < 2048
  pub kinds : get_or w (6144 + k) 0 ≡ kind
  pub insides : get_or w (10240 + k) 0 ≡ inside
  pub words : get_or w k 0 ≡ word

-- a list turned round, in front of another
unfoldable pub turned : {A : Type 0} → List A → List A → List A
turned [] rs = rs
turned (t ∷ ts) rs = turned ts (t ∷ rs)

-- what stands in some rows: a statement, or a list of statements, the last first, with 1 + the number of its last one
pub data Part : Type 0 where
  single : Stm Spot stmt → Part
  list : List (Stm Spot stmt) → (last : ℕ) → Part

-- the part stands in the rows from k to k', with so many levels left
pub data Rows (w : List ℕ) : (left k : ℕ) → Part → (k' : ℕ) → Type 0 where
  leaf_row : {l k : ℕ} {t : Stm Spot stmt} → Leaf t → Row w k 0 0 0 → Rows w (suc l) k (single t) (k + 1)
  goto_row : {l k : ℕ} {i : Ident Spot} {p : Spot} → Row w k 4 i.name 0 → Rows w (suc l) k (single (goto i p)) (k + 1)
  label_row : {l k : ℕ} {i : Ident Spot} {p : Spot} → Row w k 5 i.name i.place.number → Rows w (suc l) k (single (label i p)) (k + 1)
  if_row : {l k m op : ℕ} {p q r : Spot} {x y : Expr Spot} {t : Stm Spot stmt} → Row w k 6 0 0 → Rows w l (k + 1) (single t) m → Rows w (suc l) k (single (if_else p op q r x y t no_else)) m
  else_row : {l k m k' op : ℕ} {p q r z : Spot} {x y : Expr Spot} {t e : Stm Spot stmt} → Row w k 6 (m + 1) 0 → Rows w l (k + 1) (single t) m → Rows w l m (single e) k' → Rows w (suc l) k (single (if_else p op q r x y t (or_else z e))) k'
  block_row : {l k k' last : ℕ} {p : Spot} (ts : List (Stm Spot stmt)) → Row w k 7 last 0 → Rows w l (k + 1) (list (turned ts []) last) k' → Rows w (suc l) k (single (block p (to_stms ts))) k'
  no_rows : {l k : ℕ} → Rows w l k (list [] 0) k
  more_rows : {l k m k' last : ℕ} {us : List (Stm Spot stmt)} {t : Stm Spot stmt} → Rows w l k (list us last) m → get_or w (8192 + m) 0 ≡ last → Rows w l m (single t) k' → Rows w l k (list (t ∷ us) (m + 1)) k'

-- statement k has the outcome o
pub record Told (w : List ℕ) (k o : ℕ) : Type 0 where
  pub is : get_or w k 0 ≡ o

-- the label i stands n-th in scope
pub record Stacked (w : List ℕ) (next n : ℕ) (i : Ident Spot) : Type 0 where
  pub id : get_or w (12288 + n) 0 ≡ i.id
  pub name : get_or w (2047 + i.id) 0 ≡ i.name
  pub low : 0 < i.id
  pub high : i.id < next

-- i is not from a on and below b
abbrev pub Off : (a b i : ℕ) → Type 0
Off a b i = a ≤ i → i < b → ⊥

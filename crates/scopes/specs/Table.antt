-- What the table of the scopes holds: the locals in scope, and what gotos and labels did to them.
use Rattle.std.specs.Prelude.{ℕ, zero, suc, ◌+◌, ◌≤◌, ◌<◌, ◌≡◌, true, false, List, [], ◌∷◌, eqb, length, get_or}
use Rattle.std.proofs.Math.Option.{Option, none, some}
use Rattle.penne.specs.Tree.{Spot, Ident}
use Rattle.penne.specs.Find.{first, is_in}
use Rattle.penne.specs.Pruning.{UnresolvedPruning, Pruning, Prunings, pruned, poisoned, standing, fate}
use Rattle.penne.specs.Pruning as R
use Rattle.scopes.specs.declared.scope.Scope.{Scope}
use Rattle.scopes.specs.declared.scope.Local.{Local}
use Rattle.scopes.specs.declared.pruning.Fate.{Fate}
use Rattle.scopes.specs.declared.pruning.Fate.TheVariants.{Standing, Poisoned, Pruned}

-- the words of the table, and the rows of a column
abbrev pub words : ℕ
words = 11264

abbrev pub rows : ℕ
rows = 1024

-- where the columns begin
abbrev pub label_name : ℕ
label_name = 0

abbrev pub label_place : ℕ
label_place = 1024

abbrev pub label_goto : ℕ
label_goto = 2048

abbrev pub label_note : ℕ
label_note = 3072

abbrev pub local_name : ℕ
local_name = 4096

abbrev pub local_place : ℕ
local_place = 5120

abbrev pub local_from : ℕ
local_from = 6144

abbrev pub local_id : ℕ
local_id = 7168

abbrev pub local_fate : ℕ
local_fate = 8192

abbrev pub local_goto : ℕ
local_goto = 9216

abbrev pub heads : ℕ
heads = 10240

-- row k of the column that begins at c
abbrev pub cell : List ℕ → (c k : ℕ) → ℕ
cell w c k = get_or w (c + k) 0

-- x is the k-th of the list
pub data Nth {A : Type 0} : ℕ → A → List A → Type 0 where
  here : {x : A} {xs : List A} → Nth zero x (x ∷ xs)
  there : {k : ℕ} {x y : A} {xs : List A} → Nth k x xs → Nth (suc k) x (y ∷ xs)

-- THE LOCALS

-- the numbers of an identifier that is declared
pub record Stands (l : Local) (i : Ident Spot) : Type 0 where
  pub name : l.name ≡ i.name
  pub place : l.place ≡ i.place.number
  pub from : l.from ≡ i.place.from
  pub id : l.id ≡ i.id

-- entry k
abbrev pub entry : List ℕ → ℕ → Local
entry w k = record { name = cell w local_name k; place = cell w local_place k; from = cell w local_from k; id = cell w local_id k }

-- the entries are the locals, in their order
pub record Entries (w : List ℕ) (ls : List (Ident Spot)) : Type 0 where
  pub at : {k : ℕ} {i : Ident Spot} → Nth k i ls → Stands (entry w k) i

-- one entry further
unfoldable pub further : ℕ → ℕ
further zero = zero
further (suc k) = suc (suc k)

-- 0 where none has the name, else 1 + the index of the first that has it
unfoldable pub head_of : {P : Type 0} → ℕ → List (Ident P) → ℕ
head_of n [] = zero
head_of n (i ∷ is) = elim (eqb i.name n) [ true ↦ 1 | false ↦ further (head_of n is) ]

-- the head of each name
pub record Heads (w : List ℕ) (ls : List (Ident Spot)) : Type 0 where
  pub at : (n : ℕ) → n < rows → cell w heads n ≡ head_of n ls

-- names have a head; no two locals have the same id, and none the next
pub record Known (ls : List (Ident Spot)) (next : ℕ) : Type 0 where
  pub names : {k : ℕ} {i : Ident Spot} → Nth k i ls → i.name < rows
  pub ids : {k : ℕ} {i : Ident Spot} → Nth k i ls → i.id < next
  pub apart : {k m : ℕ} {i j : Ident Spot} → Nth k i ls → Nth m j ls → i.id ≡ j.id → k ≡ m

-- WHAT BECAME OF THEM

-- the label of that row
pub record Label (w : List ℕ) (row : ℕ) (l : Ident Spot) : Type 0 where
  pub low : row < rows
  pub id : l.id ≡ row + 1
  pub name : cell w label_name row ≡ l.name
  pub place : cell w label_place row ≡ l.place.number

-- a fate by its number: 0 standing, 1 poisoned, 2 + row pruned by the label of that row
unfoldable pub fate_by : (number goto : ℕ) → Fate
fate_by zero goto = Standing
fate_by (suc zero) goto = Poisoned
fate_by (suc (suc row)) goto = Pruned row goto

-- the fate of entry k
abbrev pub fate_at : List ℕ → ℕ → Fate
fate_at w k = fate_by (cell w local_fate k) (cell w local_goto k)

-- the same fate: a pruning is known by its label's row and its goto's place
pub data Tells (w : List ℕ) : Fate → R.Fate Spot → Type 0 where
  stands : Tells w Standing standing
  poisons : Tells w Poisoned poisoned
  prunes : {row : ℕ} {c : Pruning Spot} → Label w row c.label → Tells w (Pruned row c.location_of_goto.number) (pruned c)

-- the fates of the locals
pub record Fates (w : List ℕ) (ls : List (Ident Spot)) (p : Prunings Spot) : Type 0 where
  pub at : {k : ℕ} {i : Ident Spot} → Nth k i ls → Tells w (fate_at w k) (fate i.id p)

-- nothing became yet of an id to come
pub record Fresh (p : Prunings Spot) (next : ℕ) : Type 0 where
  pub at : (x : ℕ) → next ≤ x → fate x p ≡ standing

-- WHAT GOTOS LEFT BEHIND

-- A note is the id that came next at the first goto: all that was in scope at every goto has a lower id, and a local that has a lower id was in scope at every goto.
pub record Note (ls : List (Ident Spot)) (next note goto : ℕ) (u : UnresolvedPruning Spot) : Type 0 where
  pub some_id : 0 < note
  pub early : note ≤ next
  pub place : goto ≡ u.location_of_goto.number
  pub lower : (x : ℕ) → is_in x u.intersection_of_variables ≡ true → x < note
  pub inside : {k : ℕ} {i : Ident Spot} → Nth k i ls → i.id < note → is_in i.id u.intersection_of_variables ≡ true

-- what unresolved_labels has of a label
pub data Noted (ls : List (Ident Spot)) (next note goto : ℕ) : Option (UnresolvedPruning Spot) → Type 0 where
  unnoted : note ≡ 0 → Noted ls next note goto none
  noted : {u : UnresolvedPruning Spot} → Note ls next note goto u → Noted ls next note goto (some u)

-- what unresolved_labels has of the label with that id
unfoldable pub unresolved : ℕ → Prunings Spot → Option (UnresolvedPruning Spot)
unresolved id p = first (λ u. eqb u.label id) p.unresolved_labels

-- the notes of all labels
pub record Notes (w : List ℕ) (ls : List (Ident Spot)) (p : Prunings Spot) (next : ℕ) : Type 0 where
  pub at : (row : ℕ) → row < rows → Noted ls next (cell w label_note row) (cell w label_goto row) (unresolved (row + 1) p)

-- THE TABLE

-- The scope s and the table w stand for the locals ls, of which the last layer begins at `layer`, the prunings p, and the next id.
pub record Holds (s : Scope) (w : List ℕ) (ls : List (Ident Spot)) (layer : ℕ) (p : Prunings Spot) (next : ℕ) : Type 0 where
  pub counted : s.count ≡ length ls
  pub few : length ls ≤ rows
  pub begins : s.layer ≡ layer
  pub long : length w ≡ words
  pub some_id : 0 < next
  pub entries : Entries w ls
  pub head : Heads w ls
  pub known : Known ls next
  pub fates : Fates w ls p
  pub fresh : Fresh p next
  pub notes : Notes w ls p next

-- a table before anything is declared: no name has a head, no label a note
pub record Blank (w : List ℕ) : Type 0 where
  pub long : length w ≡ words
  pub headless : (n : ℕ) → n < rows → cell w heads n ≡ 0
  pub noteless : (row : ℕ) → row < rows → cell w label_note row ≡ 0

-- what every call leaves as it was: how long the table is, and the names and places of the labels
pub record Keeps (w w' : List ℕ) : Type 0 where
  pub long : length w' ≡ length w
  pub labels : (j : ℕ) → j < label_goto → get_or w' j 0 ≡ get_or w j 0

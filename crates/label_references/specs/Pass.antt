-- What the pass promises of a declaration and of all of them, whatever the definition reads.
use Rattle.std.specs.Prelude.{ℕ, ◌+◌, ◌<◌, ◌≤◌, ◌≡◌, List, [], length, get_or, Option, Some, None, Result, Ok}
use Rattle.std.proofs.Math.Option.{none, some}
use Rattle.penne.specs.Tree.{Spot, stmt, Stm, Decl}
use Rattle.penne.specs.Reader.{Cur, Got, got, listed}
use Rattle.penne.specs.Read.{to_stms, read_stmt}
use Rattle.penne.specs.Labels.{Labels, labels_decl}
use Rattle.fields.specs.Answers.{cursor, counts_of}
use Rattle.tree.specs.Script.{LaidOut}
use Rattle.fields.specs.declared.counts.Counts as C
use Rattle.fields.specs.declared.refusal.Refusal.{Refusal}
use Rattle.tree.specs.declared.script.Layout.{Layout}
use Rattle.labels.specs.Outcomes.{body_of, body_outcomes, body_labels, outcomes_decls, labels_in_decls}
use Rattle.labels.specs.Table.{list, Rows, turned, Told, Off}
use Rattle.scopes.specs.Labels.{Along, Named}
use Rattle.label_references.specs.Lay.{Only}

-- where the statements of the declaration x begin, that is read as far as d; k statements are counted before it
pub data StartOf (s : List ℕ) (names k : ℕ) (x : Decl Spot) (d : Cur) : Result (Option (ℕ × C.Counts)) Refusal → Type 0 where
  no_start : body_of x ≡ none → d.counts.statements ≡ k → StartOf s names k x d (Ok None)
  start_at : {n : ℕ} {c : C.Counts} (ts : List (Stm Spot stmt)) (e : Cur) → body_of x ≡ some (to_stms ts) → c.statements ≡ k
      → listed (read_stmt 63) s (cursor n names (counts_of c)) ≡ got ts e → d.counts.statements ≡ e.counts.statements → StartOf s names k x d (Ok (Some (n, c)))

pub record Starts (q : Got (Decl Spot)) (s : List ℕ) (names k : ℕ) (r : Result (Option (ℕ × C.Counts)) Refusal) : Type 0 where
  pub does : {x : Decl Spot} {d : Cur} → q ≡ got x d → StartOf s names k x d r

-- the statements of x, the first of number k, stand in the rows
pub data BodyLaid (k : ℕ) (x : Decl Spot) (d : Cur) (w : List ℕ) : Option ℕ → List ℕ → Type 0 where
  no_body : body_of x ≡ none → d.counts.statements ≡ k → BodyLaid k x d w None w
  body : {last : ℕ} {w' : List ℕ} (ts : List (Stm Spot stmt)) → body_of x ≡ some (to_stms ts) → Rows w' 63 k (list (turned ts []) last) d.counts.statements → Only k d.counts.statements w w' → BodyLaid k x d w (Some last) w'

pub record LaysBody (q : Got (Decl Spot)) (k : ℕ) (w : List ℕ) (r : Option ℕ) (w' : List ℕ) : Type 0 where
  pub does : 13312 ≤ length w → {x : Decl Spot} {d : Cur} → q ≡ got x d → BodyLaid k x d w r w'

-- the pass before a declaration: no label is in scope
unfoldable pub fresh : (next : ℕ) → Labels Spot
fresh next = record { label_stack = []; resolution_id = next }

-- nothing is changed but the outcomes from k to k', the rows of labels from the next id on, and what the pass clears afterwards
pub record Beyond (k k' next : ℕ) (w w' : List ℕ) : Type 0 where
  pub long : length w' ≡ length w
  pub same : (i : ℕ) → Off k k' i → Off (2047 + next) 3072 i → Off (3071 + next) 4096 i → Off 6144 13312 i → get_or w' i 0 ≡ get_or w i 0

-- the declaration x: its outcomes are told, its labels have the next ids
pub record Decided (k k' next : ℕ) (x : Decl Spot) (w : List ℕ) (after : ℕ) (w' : List ℕ) : Type 0 where
  pub told : Along (Told w') k (body_outcomes (body_of x) (fresh next)) k'
  pub named : Along (Named w') next (body_labels (body_of x)) after
  pub next_is : (labels_decl x (fresh next)).1 ≡ fresh after
  pub beyond : Beyond k k' next w w'

pub record Decides (q : Got (Decl Spot)) (k next : ℕ) (w : List ℕ) (r : ℕ) (w' : List ℕ) : Type 0 where
  pub does : 13312 ≤ length w → k ≤ 2048 → 0 < next → {x : Decl Spot} {d : Cur} → q ≡ got x d → next + length (body_labels (body_of x)) ≤ 1025 → Decided k d.counts.statements next x w r w'

-- nothing is counted yet
abbrev pub uncounted : C.Counts
uncounted = record { containers = 0; functions = 0; entries = 0; statements = 0 }

-- the declarations in their order
pub record AllDecided (k k' next : ℕ) (xs : List (Decl Spot)) (w w' : List ℕ) : Type 0 where
  pub told : Along (Told w') k (outcomes_decls xs (fresh next)) k'
  pub named : Along (Named w') next (labels_in_decls xs) (next + length (labels_in_decls xs))
  pub top : k' ≤ 2048
  pub few : next + length (labels_in_decls xs) ≤ 1025
  pub beyond : Beyond k k' next w w'

pub record DecidesAll (q : Got (List (Decl Spot))) (k : C.Counts) (next : ℕ) (w w' : List ℕ) : Type 0 where
  pub does : 13312 ≤ length w → 0 < next → next ≤ k.entries + 1 → k.entries ≤ 1024 → k.statements ≤ 2048 → {xs : List (Decl Spot)} {d : Cur} → q ≡ got xs d → AllDecided k.statements d.counts.statements next xs w w'

-- THE PASS: of every tree whose parts stand where l says
pub record Pass (s : List ℕ) (l : Layout) (w w' : List ℕ) : Type 0 where
  pub long : length w' ≡ length w
  pub told : 16384 ≤ length w → (t : LaidOut s l) → Along (Told w') 0 (outcomes_decls t.decls (fresh 1)) t.counts.statements  -- the outcomes of all statements
  pub named : 16384 ≤ length w → (t : LaidOut s l) → Along (Named w') 1 (labels_in_decls t.decls) (1 + length (labels_in_decls t.decls))  -- every label by its id
  pub cleared : 16384 ≤ length w → (i : ℕ) → 6144 ≤ i → i < 13312 → get_or w' i 0 ≡ 0
  pub kept : (t : LaidOut s l) (i : ℕ) → Off 0 t.counts.statements i → Off 2048 4096 i → Off 6144 13312 i → get_or w' i 0 ≡ get_or w i 0  -- all else, but the labels' own rows

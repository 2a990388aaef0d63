-- The whole tree: where its parts stand, and whether it passes.
use Rattle.std.specs.Prelude.{ℕ, ◌≡◌, true, false, List, [], ltb, length, Result, Ok, Err, IfOk, IfErr}
use Rattle.std.proofs.Math.Option.{Option, none, some}
use Rattle.penne.specs.Reader.{Counts, Cur, Got, got, refused, Reader, ◌>>=◌, ret, num, below, many, each, nothing}
use Rattle.penne.specs.Tree.{Spot, Decl}
use Rattle.penne.specs.Read.{DeclKind, k_constant, k_function, k_function_head, k_structure, k_import, k_bad_decl, read_decl, read_names, read_tree, decode, incoming, answered}
use Rattle.fields.specs.declared.refusal.Refusal.{Refusal}
use Rattle.tree.specs.declared.script.Layout.{Layout}
use Rattle.fields.specs.Answers.{cursor, row_of, refusal as refused_by, Ends, Skips}

-- THE VERDICT

-- a refusal's number and place, where there is one
unfoldable pub refusal_of : {A : Type 0} → Got A → Option (ℕ × ℕ)
refusal_of (got a c) = none
refusal_of (refused n p) = some (n, p)

-- rows 1 and 3 to 10, with the depths read so
unfoldable pub refusal : (depth : Decl Spot → Reader ℕ) → List ℕ → Option (ℕ × ℕ)
refusal depth s = elim (ltb 65535 (length s)) [ true ↦ some (1, 0) | false ↦ refusal_of (decode depth s) ]

-- what the code says of a tree
abbrev pub verdict_of : Result (Unit {0}) Refusal → Option (ℕ × ℕ)
verdict_of (Ok t) = none
verdict_of (Err e) = some (row_of e.reason, e.place)

-- THE LAYOUT

-- the reader begins at the first byte, with no name in the table and nothing counted
abbrev pub start : Cur
start = cursor 0 0 nothing

-- the parts of s stand where l says: behind the declarations only the depths are left to read
pub record LaidOut (s : List ℕ) (l : Layout) : Type 0 where
  pub table : List (List ℕ)
  pub begin : ℕ  -- where the first name begins
  pub behind : Cur  -- what follows the last name
  pub counted : num s start ≡ got l.names (cursor begin 0 nothing)
  pub named : read_names l.names [] s (cursor begin 0 nothing) ≡ got table behind
  pub decls : List (Decl Spot)
  pub counts : Counts
  pub read : many read_decl l.count s (cursor l.first l.names nothing) ≡ got decls (cursor l.depths l.names counts)
  pub whole : (depth : Decl Spot → Reader ℕ) → read_tree depth s start ≡ (each depth decls >>= λ hs. ret (record { names = table; decls = decls; depths = hs })) s (cursor l.depths l.names counts)

-- r is where the parts of s stand, or the refusal of what stands before the depths
pub record Lays (s : List ℕ) (r : Result Layout Refusal) : Type 0 where
  pub out : IfOk r (LaidOut s)
  pub not : IfErr r (λ e. (depth : Decl Spot → Reader ℕ) → read_tree depth s start ≡ refused_by e)

-- THE DEPTHS

-- an answered depth, by the kind of its declaration: "nonzero only for constants and structures"
unfoldable pub depth_by : DeclKind → Reader ℕ
depth_by k_constant = num
depth_by k_function = below 1
depth_by k_function_head = below 1
depth_by k_structure = num
depth_by k_import = below 1
depth_by k_bad_decl = below 1

-- r is where the depths of any `count` declarations end that come in at `at`, or their refusal
pub record IncomingDepths (s : List ℕ) (count at : ℕ) (r : Result ℕ Refusal) : Type 0 where
  pub ends : (ds : List (Decl Spot)) → length ds ≡ count → Skips (each incoming ds) s at r

-- r is where the depths of the declarations end, as an answer has them, or their refusal
pub record AnsweredDepths (s : List ℕ) (l : Layout) (r : Result ℕ Refusal) : Type 0 where
  pub ends : (ds : List (Decl Spot)) (c : Cur) → many read_decl l.count s (cursor l.first l.names nothing) ≡ got ds c → Ends (each answered ds) s l.names l.depths r

-- s decodes with the depths read so, and its parts stand where l says
pub record DecodedAs (depth : Decl Spot → Reader ℕ) (s : List ℕ) (l : Layout) : Type 0 where
  pub laid : LaidOut s l
  pub depths : List ℕ
  pub end : Cur
  pub read : each depth laid.decls s (cursor l.depths l.names laid.counts) ≡ got depths end
  pub short : ltb 65535 (length s) ≡ false
  pub decoded : decode depth s ≡ got (record { names = laid.table; decls = laid.decls; depths = depths }) end

-- r is where the parts of a tree stand, or its refusal
pub record LayoutAs (depth : Decl Spot → Reader ℕ) (s : List ℕ) (r : Result Layout Refusal) : Type 0 where
  pub out : IfOk r (DecodedAs depth s)
  pub not : IfErr r (λ e. refusal depth s ≡ some (row_of e.reason, e.place))

-- an answered tree
abbrev pub Decoded : List ℕ → Layout → Type 0
Decoded s l = DecodedAs answered s l

abbrev pub AnsweredLayout : List ℕ → Result Layout Refusal → Type 0
AnsweredLayout s r = LayoutAs answered s r

-- a tree as it comes in
abbrev pub IncomingLayout : List ℕ → Result Layout Refusal → Type 0
IncomingLayout s r = LayoutAs incoming s r

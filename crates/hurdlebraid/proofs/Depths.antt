-- One call of get_container_depth, with the largest maximum, tells what get_container_depth and is_container answer.
use Prim.Native.Nat.{ℕ, zero, suc, ◌+◌, ◌*◌, ◌%◌, ◌^◌, ◌<◌}
use native.Mathlib.Omega.{arith}
use mathlib.Core.Path.{◌≡◌, refl, sym}
use mathlib.Core.Bool.{Bool, true, false, ◌&&◌, ◌||◌, not}
use mathlib.Core.List.{List, [], ◌∷◌}
use mathlib.Core.Option.{Option, none, some}
use lib.Dec.{ltb, eqb}
use lib.ListN.{length, get_or, get_elem?}
use borrow.Author.Tests.{ltb-true, lt-ltb}
use Rattle.penne.specs.Reader.{Cur, Got, got, refused, last_group, groups, moved, num, below, such, each, ret, listed}
use Rattle.penne.specs.Tree.{Spot, Decl, constant, function, function_head, structure, import, bad_decl, Tree}
use Rattle.penne.specs.Read.{read_names, tabled, read_decl, read_tree, answered, decode}
use Rattle.penne.specs.Scoper.{Asked, told, untold, ask_decl, ask_tree, ask, depth_or, get_container_depth, is_container}
use Rattle.penne.proofs.Leading.{Leads, leads_got, leads_no, leads_bind, leads_such}
use Rattle.penne.proofs.Booleans.{and_left}
use Rattle.penne.proofs.IdsRead.{ended_got}
use Rattle.hurdlebraid.specs.Telling.{Told, depth_and_kind}

-- NO DEPTH IS AS LARGE AS 2^32

-- the last group is only passed where the value is below
last_small : (b w v start next : ℕ) (c : Cur) → Leads (last_group b w v start next c) (λ x _. x < 2 ^ 32)
unfolding last_group
last_small b w v start next c = go (ltb (v + b * w) (2 ^ 32) && (not (eqb b 0) || eqb w 1)) refl
  where
    go : (t : Bool) → (ltb (v + b * w) (2 ^ 32) && (not (eqb b 0) || eqb w 1)) ≡ t → Leads {A = ℕ} (elim t [ true ↦ got (v + b * w) (moved c next) | false ↦ refused 4 start ]) (λ x _. x < 2 ^ 32)
    go true e = leads_got _ _ (ltb-true _ _ (and_left _ _ e))
    go false e = leads_no

-- whatever groups come to is below
groups_small : (left start w v : ℕ) (s : List ℕ) (at : ℕ) (c : Cur) → Leads (groups left start w v s at c) (λ x _. x < 2 ^ 32)
unfolding groups
groups_small zero start w v s at c = leads_no
groups_small (suc left) start w v s at c = go (ltb at (length s)) (ltb (get_or s at 0) 128) (groups_small left start (w * 128) (v + get_or s at 0 % 128 * w) s (at + 1) c)
  where
    go : (t u : Bool) → Leads (groups left start (w * 128) (v + get_or s at 0 % 128 * w) s (at + 1) c) (λ x _. x < 2 ^ 32)
        → Leads {A = ℕ} (elim t [ false ↦ refused 3 start | true ↦ elim u [ false ↦ groups left start (w * 128) (v + get_or s at 0 % 128 * w) s (at + 1) c | true ↦ last_group (get_or s at 0) w v start (at + 1) c ] ]) (λ x _. x < 2 ^ 32)
    go false u rest = leads_no
    go true false rest = rest
    go true true rest = last_small (get_or s at 0) w v start (at + 1) c

-- a number that is read is below
num_small : (s : List ℕ) (c : Cur) → Leads (num s c) (λ x _. x < 2 ^ 32)
unfolding num
num_small s c = groups_small 5 c.at 1 0 s c.at c

-- so is one below a limit
below_small : (k : ℕ) (s : List ℕ) (c : Cur) → Leads (below k s c) (λ x _. x < 2 ^ 32)
unfolding below
below_small k s c = leads_such num _ 5 s c (num_small s c)

-- so is a depth, whatever it is the depth of
answered_small : (d : Decl Spot) (s : List ℕ) (c : Cur) → Leads (answered d s c) (λ x _. x < 2 ^ 32)
unfolding answered
answered_small (constant f p q i x t) s c = num_small s c
answered_small (function f p q i ps b t) s c = below_small 1 s c
answered_small (function_head f p q i ps t) s c = below_small 1 s c
answered_small (structure f p i ms t) s c = num_small s c
answered_small (import b p) s c = below_small 1 s c
answered_small (bad_decl z) s c = below_small 1 s c

-- all of them are below 2^32, and so is the 0 behind the last
abbrev Small : List ℕ → Type 0
Small hs = (k : ℕ) → get_or hs k 0 < 2 ^ 32

-- one more
small_more : (h : ℕ) (hs : List ℕ) → h < 2 ^ 32 → Small hs → Small (h ∷ hs)
small_more h hs x xs zero = x
small_more h hs x xs (suc k) = xs k

-- the depths that are read
each_small : (ds : List (Decl Spot)) (s : List ℕ) (c : Cur) → Leads (each answered ds s c) (λ hs _. Small hs)
unfolding each ret
each_small [] s c = leads_got [] c (λ k. omega arith)
each_small (d ∷ ds) s c = leads_bind (answered d) _ s c λ h c₁ e. leads_bind (each answered ds) _ s c₁ λ hs c₂ g. leads_got _ _ (small_more h hs ((answered_small d s c).to e) ((each_small ds s c₁).to g))

-- the depths of a tree
tree_small : (s : List ℕ) (c : Cur) → Leads (read_tree answered s c) (λ t _. Small t.depths)
unfolding read_tree ret
tree_small s c = leads_bind (such num (λ n _. ltb n 1025) 8) _ s c λ n c₁ _. leads_bind (read_names n []) _ s c₁ λ ns c₂ _. leads_bind (tabled n) _ s c₂ λ _ c₃ _.
    leads_bind (listed read_decl) _ s c₃ λ ds c₄ _. leads_bind (each answered ds) _ s c₄ λ hs c₅ e. leads_got _ _ ((each_small ds s c₄).to e)

-- the depths of an answered tree
decode_small : (s : List ℕ) → Leads (decode answered s) (λ t _. Small t.depths)
unfolding decode
decode_small s = record { to = λ e. (tree_small s _).to (ended_got s _ e) }

-- BOTH READERS AT ONCE

-- of get_container_depth, asked with the largest maximum: the depth and 1, or the given maximum and 0
unfoldable pub depth_told : (max : ℕ) → Asked ℕ → Told
depth_told max (told d) = elim (ltb d 4294967295) [ true ↦ record { number = 0; place = 0; first = d; second = 1 } | false ↦ record { number = 0; place = 0; first = max; second = 0 } ]
depth_told max (untold n p) = record { number = n; place = p; first = 0; second = 0 }

-- of a depth's number
depth_told_lem : (max n : ℕ) → n < 2 ^ 32 → depth_told max (told (depth_or 4294967295 n)) ≡ depth_and_kind (told (depth_or max n)) (told (ltb (depth_or 4294967295 n) 4294967295))
unfolding depth_told depth_and_kind depth_or
depth_told_lem max zero h = refl
depth_told_lem max (suc zero) h = refl
depth_told_lem max (suc (suc d)) h = rw (lt-ltb d 4294967295 (omega arith), depth_told)

-- what get_container_depth asks of a declaration
abbrev depth : ℕ → ℕ → Tree Spot → Decl Spot → ℕ
depth k max t _ = depth_or max (get_or t.depths k 0)

-- what is_container asks
abbrev kind : ℕ → Tree Spot → Decl Spot → Bool
kind k t _ = ltb (depth_or 4294967295 (get_or t.depths k 0)) 4294967295

-- of a declaration, or of none
decl_told : (k max : ℕ) (t : Tree Spot) → Small t.depths → (o : Option (Decl Spot)) → depth_told max (ask_decl (depth k 4294967295 t) o) ≡ depth_and_kind (ask_decl (depth k max t) o) (ask_decl (kind k t) o)
unfolding ask_decl depth_told depth_and_kind
decl_told k max t h none = refl
decl_told k max t h (some d) = depth_told_lem max (get_or t.depths k 0) (h k)

-- of what was read
tree_told : (k max : ℕ) (q : Got (Tree Spot)) → Leads q (λ t _. Small t.depths) → depth_told max (ask_tree (depth k 4294967295) k q) ≡ depth_and_kind (ask_tree (depth k max) k q) (ask_tree (kind k) k q)
unfolding ask_tree depth_told depth_and_kind
tree_told k max (got t c) h = decl_told k max t (h.to refl) (get_elem? t.decls k)
tree_told k max (refused n p) h = refl

-- of any bytes
pub tells_depth_and_kind : (s : List ℕ) (k max : ℕ) → depth_and_kind (get_container_depth s k max) (is_container s k) ≡ depth_told max (get_container_depth s k 4294967295)
unfolding get_container_depth is_container ask depth_told depth_and_kind
tells_depth_and_kind s k max = (elim (ltb 65535 (length s)) as (λ t. ltb 65535 (length s) ≡ t → depth_and_kind (get_container_depth s k max) (is_container s k) ≡ depth_told max (get_container_depth s k 4294967295)) [
  | true ↦ λ z. rw (z, ask)
  | false ↦ λ z. rw (z, ask) (sym (tree_told k max (decode answered s) (decode_small s)))
]) refl

-- What stands before a declaration's parts, and how many rows a declaration takes.
use Rattle.std.specs.Prelude.{ℕ, ◌<◌, ◌≡◌, List, get_or, Result, Ok, Err}
use Rattle.fields.specs.declared.refusal.Refusal.{Refusal}
use Rattle.penne.specs.Reader.{Counts, num, below}
use Rattle.penne.specs.Tree.{Spot, Ident, Decl, constant, function, function_head, structure, import, bad_decl}
use Rattle.penne.specs.Read.{decl_of, decl_kinds, k_bad_decl}
use Rattle.fields.specs.Answers.{cursor, ident_of, Gives, Skips, Identifies, two_places}
use Rattle.walk.specs.Walking.{Leads}
use Rattle.stages.specs.declared.heads.Start.{Start}
use Rattle.stages.specs.declared.heads.Head.{Head}
use Rattle.stages.specs.declared.heads.Head.TheVariants as H

-- head_places: a structure has one place, the others have two
pub record HeadPlaces (t : List ℕ) (at kind : ℕ) (r : Result ℕ Refusal) : Type 0 where
  pub one : kind ≡ 3 → Skips num t at r
  pub two : (kind ≡ 3 → ⊥) → Skips two_places t at r

-- flags, places and identifier of a declaration that has a name; its kind ends at `at`
pub record Begins (t : List ℕ) (names at kind : ℕ) (h : Start) : Type 0 where
  pub not_import : kind ≡ 4 → ⊥
  pub not_poison : kind ≡ 5 → ⊥
  pub flags : Gives (below 32) t at (Ok (h.flags, h.places))
  pub places : HeadPlaces t h.places kind (Ok h.from)
  pub identifier : Identifies t names h.from (Ok (h.identifier, h.parts))

-- read_head
pub data Heads (t : List ℕ) (names at kind : ℕ) : Result Head Refusal → Type 0 where
  an_import : kind ≡ 4 → Heads t names at kind (Ok H.Import)
  a_poison : kind ≡ 5 → Heads t names at kind (Ok H.Poison)
  named : {h : Start} → Begins t names at kind h → Heads t names at kind (Ok (H.Named h))
  unread : {e : Refusal} → (kind < 6 → (k : Counts) → Leads (decl_of 63 (get_or decl_kinds kind k_bad_decl)) t (cursor at names k) (λ x d. ⊥)) → Heads t names at kind (Err e)

-- the identifier of a head
abbrev pub own : Start → Ident Spot
own h = ident_of h.from h.identifier

-- how many containers and functions it is
unfoldable pub rows_of : Decl Spot → ℕ × ℕ
rows_of (constant g p q i x t) = (1, 0)
rows_of (function g p q i ps b t) = (0, 1)
rows_of (function_head g p q i ps t) = (0, 1)
rows_of (structure g p i ms t) = (1, 0)
rows_of (import b p) = (0, 0)
rows_of (bad_decl z) = (0, 0)

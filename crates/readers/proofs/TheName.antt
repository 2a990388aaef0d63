-- The bytes that get_structure_name tells are the structure's name.
use mathlib.Core.Path.{◌≡◌, refl, sym, ap, ◌∙◌}
use mathlib.Core.Bool.{true, false}
use mathlib.Core.List.{List, [], ◌∷◌, ◌++◌, flat_map}
use Prim.Native.Nat.{ℕ, zero, suc, ◌+◌}
use native.Mathlib.Omega.{arith}
use lib.Dec.{ltb, leb}
use lib.ListN.{length, get_or, take, drop, length-append}
use borrow.Author.Tests.{le-ltb}
use Rattle.penne.specs.Reader.{Cur, Got, got, refused, num, such, raw, bytes, moved, listed, each, ret}
use Rattle.penne.specs.Tree.{Spot, Tree}
use Rattle.penne.specs.Read.{read_names, tabled, read_decl, read_tree, decode, answered}
use Rattle.penne.specs.Write.{num_b, bytes_b}
use Rattle.penne.specs.Scoper.{ask_decl, ask_tree, ask, name_from, structure_name, get_structure_name}
use Rattle.penne.proofs.Leading.{never, same_value, same_cur}
use Rattle.penne.proofs.IdsRead.{ended_got}
use Rattle.name_table.specs.Names.{part}
use Rattle.tree.specs.Script.{start}
use Rattle.fields.proofs.Back.{bind_case}
use Rattle.answer.proofs.Groups.{number_small}
use Rattle.answer.proofs.Spelling.{num_reading}
use Rattle.readers.specs.Naming.{part_told, TellsTheName}
use Rattle.readers.proofs.Asking.{such_go}
use Rattle.readers.proofs.Naming.{Table, none', more', read_table}

-- THE NAMES OF THE TABLE

-- n bytes that were read are the part that they were read from
raw_part : (n : ℕ) (s : List ℕ) (c : Cur) {b : List ℕ} {d : Cur} → raw n s c ≡ got b d → part s c.at n ≡ b
unfolding raw
raw_part n s c {b} {d} e = (elim (leb (c.at + n) (length s)) as (λ t. elim t as (λ _. Got (List ℕ)) [ true ↦ got (take n (drop c.at s)) (moved c (c.at + n)) | false ↦ refused 3 c.at ] ≡ got b d → part s c.at n ≡ b) [
  | true ↦ λ h. same_value h
  | false ↦ λ h. never h
]) e

-- a name's bytes stand behind its length
text_part : (s : List ℕ) (c c₁ : Cur) {b : List ℕ} {d : Cur} → num s c ≡ got (length b) c₁ → bytes s c ≡ got b d → part s c₁.at (length b) ≡ b
unfolding bytes
text_part s c c₁ {b} number text = bind_case num raw s c text λ n c₂ e h.
    let same = sym number ∙ e in
    let width : length b ≡ n = same_value same in
    let from : c₁.at ≡ c₂.at = ap (λ (x : Cur). x.at) (same_cur same) in
    (λ j. part s (from j) (width j)) ∙ raw_part n s c₂ h

-- name n stands behind those before it and its own length; past the end both are empty
table_part : (s : List ℕ) (c : Cur) (names : List (List ℕ)) (n : ℕ) → Table s c names → part s (c.at + length (flat_map bytes_b (take n names)) + 1) (length (get_or names n [])) ≡ get_or names n []
unfolding flat_map bytes_b
table_part s c [] n none' = refl
table_part s c (b ∷ bs) zero (more' c₁ c₂ small number one text two t) =
    let from : c.at + 0 + 1 ≡ c₁.at = omega (arith, one) in
    ap (λ (j : ℕ). part s j (length b)) from ∙ text_part s c c₁ number text
table_part s c (b ∷ bs) (suc n) (more' c₁ c₂ small number one text two t) =
    let from : c.at + length (bytes_b b ++ flat_map bytes_b (take n bs)) + 1 ≡ c₂.at + length (flat_map bytes_b (take n bs)) + 1 = omega (arith, two, length-append (bytes_b b) (flat_map bytes_b (take n bs)), length-append (num_b (length b)) b, ap length (number_small (length b) small)) in
    ap (λ (j : ℕ). part s j (length (get_or bs n []))) from ∙ table_part s c₂ bs n t

-- IN A TREE

-- the count of a tree's names and their table come first
names_case : {X : Type 0} (s : List ℕ) {t : Tree Spot} {c : Cur} → decode answered s ≡ got t c → ((n : ℕ) (c₁ c₂ : Cur) → num s start ≡ got n c₁ → read_names n [] s c₁ ≡ got t.names c₂ → X) → X
unfolding decode read_tree such ret
names_case s e next =
    bind_case (such num (λ n _. ltb n 1025) 8) _ s start (ended_got s _ e) λ n c₁ e₁ h₁. bind_case (read_names n []) _ s c₁ h₁ λ ns c₂ e₂ h₂. bind_case (tabled n) _ s c₂ h₂ λ _ c₃ e₃ h₃.
    bind_case (listed read_decl) _ s c₃ h₃ λ ds c₄ e₄ h₄. bind_case (each answered ds) _ s c₄ h₄ λ hs c₅ e₅ h₅.
    next n c₁ c₂ (such_go (λ n _. ltb n 1025) 8 0 (num s start) e₁) (e₂ ∙ ap (λ (l : List (List ℕ)). got l c₂) (ap (λ (x : Tree Spot). x.names) (same_value h₅)))

-- name n of a tree stands where `name_from` says
name_part : (s : List ℕ) {t : Tree Spot} {c : Cur} → decode answered s ≡ got t c → (n : ℕ) → part s (name_from t.names n) (length (get_or t.names n [])) ≡ get_or t.names n []
unfolding name_from
name_part s {t} e n = names_case s e λ count c₁ c₂ number names.
    let r = read_table count [] s c₁ names in
    let begin : length (num_b (length t.names)) ≡ c₁.at = ap (λ (j : ℕ). length (num_b j)) (ap length r.is ∙ r.many) ∙ omega (arith, (num_reading s start count c₁ number).long) in
    ap (λ (j : ℕ). part s (j + length (flat_map bytes_b (take n t.names)) + 1) (length (get_or t.names n []))) begin
    ∙ ap (λ (l : List (List ℕ)). part s (c₁.at + length (flat_map bytes_b (take n l)) + 1) (length (get_or l n []))) r.is ∙ table_part s c₁ r.names n r.table ∙ ap (λ (l : List (List ℕ)). get_or l n []) (sym r.is)

-- what is told of a structure is its name
pub tells_the_name : TellsTheName
unfolding part_told get_structure_name ask ask_tree ask_decl structure_name
tells_the_name s k t c f p i ms y short e d =
    let asked : get_structure_name s k ≡ ask_tree structure_name k (decode answered s) = rw (le-ltb 65535 (length s) short, ask) in
    ap (part_told s) (asked ∙ ap (ask_tree structure_name k) e ∙ ap (ask_decl (structure_name t)) d) ∙ name_part s e i.name

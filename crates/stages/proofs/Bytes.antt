-- A tree has more bytes than its declarations take ids.
use Prim.Native.Nat.{ℕ, ◌+◌, ◌≤◌}
use mathlib.Core.Path.{◌≡◌, refl, ap, ◌∙◌}
use mathlib.Core.List.{List, [], ◌∷◌, map}
use native.Mathlib.Omega.{arith}
use lib.ListN.{length}
use Rattle.penne.specs.Tree.{Spot, Decl, Tree}
use Rattle.penne.specs.Reader.{Cur, Got, got, refused, ◌>>=◌, ret, each}
use Rattle.penne.specs.Read.{read_tree}
use Rattle.penne.specs.Ids.{ids_decls}
use Rattle.penne.proofs.IdsRead.{declared_bytes}
use Rattle.tree.specs.declared.script.Layout.{Layout}
use Rattle.fields.specs.Answers.{cursor}
use Rattle.tree.specs.Script.{LaidOut, start}

-- no depth is read
pub each_none : (ds : List (Decl Spot)) (s : List ℕ) (c : Cur) → each {B = ℕ} (λ d. ret 0) ds s c ≡ got (map (λ d. 0) ds) c
unfolding each ◌>>=◌ ret
each_none [] s c = refl
each_none (d ∷ ds) s c = ap (λ (q : Got (List ℕ)). elim q as (λ _. Got (List ℕ)) [ got bs next ↦ got (0 ∷ bs) next | refused n p ↦ refused n p ]) (each_none ds s c)

pub read_bytes : {s : List ℕ} {l : Layout} (t : LaidOut s l) → ids_decls t.decls + 2 ≤ length s
unfolding ◌>>=◌ ret
read_bytes {s} {l} t =
    let e : read_tree (λ d. ret 0) s start ≡ got (record { names = t.table; decls = t.decls; depths = map (λ d. 0) t.decls }) (cursor l.depths l.names t.counts) = t.whole (λ d. ret 0) ∙ ap (λ (q : Got (List ℕ)). elim q as (λ _. Got (Tree Spot)) [ got hs next ↦ got (record { names = t.table; decls = t.decls; depths = hs }) next | refused n p ↦ refused n p ]) (each_none t.decls s (cursor l.depths l.names t.counts)) in
    omega (arith, declared_bytes s e)

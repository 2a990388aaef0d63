-- What the walk stands for after edges were handed over.
use mathlib.Core.Path.{◌≡◌, sym, subst}
use mathlib.Core.List.{List}
use Prim.Native.Nat.{ℕ}
use Rattle.penne.specs.Tree.{Spot}
use Rattle.penne.specs.Pruning.{Prunings, offsets}
use Rattle.penne.specs.Scopes.{Analyzer}
use Rattle.penne.specs.Scoper.{words}
use Rattle.answer.specs.Out.{Said}
use Rattle.walk.specs.declared.state.Walk.{Walk}
use Rattle.walk.specs.Walking.{Lower, Tables, Ground, Good, Stands, Is}
use Rattle.walk.proofs.Tables.{marks_kept}

-- the tables are those of u, and what the second pass only reads is as it was
pub tables_changed : {s : Walk} {o l w w' : List ℕ} {b : Ground} → Is s o l w b → (u : Analyzer Spot) → (Good (record { out = b.out; st = u; rest = b.rest }) → Good b)
    → (Good b → Stands s o l w b → (u.prunings ≡ b.st.prunings) × Tables s.tables s.script s.counts w' u × Lower w w') → Is s o l w' (record { out = b.out; st = u; rest = b.rest })
tables_changed {s} {o} {l} {w} {w'} {b} i u back k = record {
  when = λ z.
      let y = back z in
      let j = i.when y in
      let v = k y j in
      record {
        script = j.script;
        put = j.put;
        skip = subst (λ (p : Prunings Spot). Said s.listed l (words (offsets p.skips)) b.rest.slots) (sym v.0) j.skip;
        tables = v.1;
        marks = marks_kept v.2 j.marks;
      };
}

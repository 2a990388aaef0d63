-- The ids given out: they count from 1, labels and variables apart, and none exceeds the input's length in bytes.
use Prim.Native.Nat.{ℕ, ◌+◌}
use mathlib.Core.Path.{◌≡◌}
use mathlib.Core.List.{List, [], flat_map}
use lib.ListN.{length}
use native.Mathlib.Omega.{arith}
use Rattle.penne.specs.Tree.{Spot, Decl, Tree}
use Rattle.penne.specs.Reader.{Cur, got}
use Rattle.penne.specs.Read.{incoming, decode}
use Rattle.penne.specs.Labels.{Labels}
use Rattle.penne.specs.Labels as L
use Rattle.penne.specs.State as S
use Rattle.penne.specs.Scopes as Q
use Rattle.penne.specs.Variables as V'
use Rattle.penne.specs.Scoper.{analyze, answered_tree}
use Rattle.penne.specs.Ids.{ids_decls, ids_labels_decls, nothing, Given}
use Rattle.penne.proofs.IdsRead.{decoded_bytes}
use Rattle.penne.proofs.IdsWhole.{next_label_decls, ids_all}
use Rattle.penne.proofs.IdsBelow.{raise}
use Rattle.penne.proofs.IdsVariables.{given_variables}
use Rattle.penne.proofs.IdsLabels.{fine_labels_decls, labels_decl, labels_own, labels_turn}

module _ {P : Type 0} where
  -- "Label ids and variable ids count separately from 1."
  pub ids_given : (names : List (List ℕ)) (ds : List (Decl P)) → Given (1 + ids_decls ds) (1 + ids_labels_decls ds) (analyze names ds).0
  unfolding analyze V'.analyze_all S.◌>>=◌ L.label_references flat_map
  ids_given names ds =
      let start : Labels P = record { label_stack = []; resolution_id = 1 } in
      let l = fine_labels_decls ds start (record { stack = nothing; begun = omega arith }) in
      let r = V'.in_turn V'.predeclare (L.label_references ds) Q.begin in
      record {
        of_variables = raise (ids_all names ds) (given_variables names (L.label_references ds));
        of_labels = raise (omega (arith, next_label_decls ds start)) (labels_turn (V'.analyze_decl names) (labels_decl names) r.0 r.1 (labels_turn V'.predeclare labels_own (L.label_references ds) Q.begin l.given));
      }

-- "No id given out exceeds the input's length in bytes."
pub ids_few : (s : List ℕ) {t : Tree Spot} {c : Cur} → decode incoming s ≡ got t c → Given (length s) (length s) (answered_tree t).decls
unfolding answered_tree V'.postanalyzed
ids_few s {t} e =
    let g = ids_given t.names t.decls in
    record { of_variables = raise (omega (arith, decoded_bytes s e)) g.of_variables; of_labels = raise (omega (arith, decoded_bytes s e)) g.of_labels }

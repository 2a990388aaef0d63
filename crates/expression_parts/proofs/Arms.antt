-- Expressions, references and steps: a law for each arm of analyze, about the pass and the encoder alone.
use mathlib.Core.Path.{◌≡◌}
use mathlib.Core.List.{List, ◌++◌, append_assoc}
use Prim.Native.Nat.{ℕ}
use Rattle.penne.specs.Tree.{Spot, Ident, Maybe, Ty, Carried, ref, step, item, one, Node, Expr, binary, unary, boolean, structural, parenthesized, deref, bit_cast, length_of_array, reference, element, member, member_expression}
use Rattle.penne.specs.Read.{to_nodes}
use Rattle.penne.specs.Write.{num_b, place_b, ident_b, maybe_b, ty_b, carried_b, node_b}
use Rattle.penne.specs.State as S
use Rattle.penne.specs.Variables.{analyze_base, analyze_maybe_type, analyze_node}
use Rattle.answer.specs.Parts.{renumbered, span}
use Rattle.walk.specs.Walking.{Ground, onward, say}
use Rattle.walk.proofs.Copying.{Spells, spells_is}
use Rattle.expression_parts.specs.Expressing.{nodes, nodes_b, list_walk, Integer, is_signed, is_bits}
use Rattle.expression_parts.proofs.Onward.{out_same}

module _ {t : List ℕ} {from to : ℕ} (a : Ground) where
  -- EXPRESSIONS

  pub binary_is : (op : ℕ) (p q : Spot) (x y : Expr Spot) → Spells t from to (num_b op ++ (place_b p ++ place_b q)) → onward analyze_node node_b y (onward analyze_node node_b x (say (num_b 0 ++ renumbered t from to) a)) ≡ onward analyze_node node_b (binary op p q x y) a
  unfolding analyze_node node_b S.◌>>=◌ S.ret
  binary_is op p q x y h = out_same (rw (spells_is h) (simp append_assoc))

  pub unary_is : (op : ℕ) (p q : Spot) (x : Expr Spot) → Spells t from to (num_b op ++ (place_b p ++ place_b q)) → onward analyze_node node_b x (say (num_b 1 ++ renumbered t from to) a) ≡ onward analyze_node node_b (unary op p q x) a
  unfolding analyze_node node_b S.◌>>=◌ S.ret
  unary_is op p q x h = out_same (rw (spells_is h) (simp append_assoc))

  pub boolean_is : (b : ℕ) (p : Spot) → Spells t from to (num_b b ++ place_b p) → say (num_b 2 ++ renumbered t from to) a ≡ onward analyze_node node_b (boolean b p) a
  unfolding analyze_node node_b S.ret
  boolean_is b p h = out_same (rw (spells_is h))

  pub integer_is : {kind : ℕ} {f : List ℕ → Spot → Carried Spot → Expr Spot} {b : List ℕ} (start : ℕ) (p : Spot) (c : Carried Spot) → Integer kind f → b ≡ span t start from → Spells t from to (place_b p ++ carried_b c) → say (num_b kind ++ (span t start from ++ renumbered t from to)) a ≡ onward analyze_node node_b (f b p c) a
  unfolding analyze_node node_b S.ret
  integer_is start p c is_signed e h = out_same (rw (e, spells_is h))
  integer_is start p c is_bits e h = out_same (rw (e, spells_is h))

  pub structural_is : (p : Spot) (ms : List (Node Spot (one item))) (c : Maybe Spot (Ty Spot)) → Spells t from to (place_b p) → onward analyze_maybe_type (maybe_b ty_b) c (list_walk ms (say (num_b 7 ++ renumbered t from to) a)) ≡ onward analyze_node node_b (structural p (to_nodes ms) c) a
  unfolding analyze_node node_b nodes nodes_b S.◌>>=◌ S.ret
  structural_is p ms c h = out_same (rw (spells_is h) (simp append_assoc))

  pub parenthesized_is : (p : Spot) (x : Expr Spot) → Spells t from to (place_b p) → onward analyze_node node_b x (say (num_b 8 ++ renumbered t from to) a) ≡ onward analyze_node node_b (parenthesized p x) a
  unfolding analyze_node node_b S.◌>>=◌ S.ret
  parenthesized_is p x h = out_same (rw (spells_is h) (simp append_assoc))

  pub deref_is : (c : Carried Spot) (x : Node Spot (one ref)) → Spells t from to (carried_b c) → onward analyze_node node_b x (say (num_b 9 ++ renumbered t from to) a) ≡ onward analyze_node node_b (deref c x) a
  unfolding analyze_node node_b S.◌>>=◌ S.ret
  deref_is c x h = out_same (rw (spells_is h) (simp append_assoc))

  pub bit_cast_is : (p q : Spot) (c : Carried Spot) (x : Expr Spot) → Spells t from to ((place_b p ++ place_b q) ++ carried_b c) → onward analyze_node node_b x (say (num_b 10 ++ renumbered t from to) a) ≡ onward analyze_node node_b (bit_cast p q c x) a
  unfolding analyze_node node_b S.◌>>=◌ S.ret
  bit_cast_is p q c x h = out_same (rw (spells_is h) (simp append_assoc))

  pub length_of_array_is : (p : Spot) (x : Node Spot (one ref)) → Spells t from to (place_b p) → onward analyze_node node_b x (say (num_b 12 ++ renumbered t from to) a) ≡ onward analyze_node node_b (length_of_array p x) a
  unfolding analyze_node node_b S.◌>>=◌ S.ret
  length_of_array_is p x h = out_same (rw (spells_is h) (simp append_assoc))

  pub item_is : (i : Maybe Spot (Ident Spot)) (n : ℕ) (x : Expr Spot) → Spells t from to (maybe_b ident_b i ++ num_b n) → onward analyze_node node_b x (say (renumbered t from to) a) ≡ onward analyze_node node_b (member_expression i n x) a
  unfolding analyze_node node_b S.◌>>=◌ S.ret
  item_is i n x h = out_same (rw (spells_is h) (simp append_assoc))

  -- REFERENCES AND STEPS

  pub reference_is : (n : ℕ) (p q : Spot) (b : Maybe Spot (Ident Spot)) (ts : List (Node Spot (one step))) → Spells t from to (num_b n ++ (place_b p ++ place_b q))
      → list_walk ts (onward analyze_base (maybe_b ident_b) b (say (renumbered t from to) a)) ≡ onward analyze_node node_b (reference n p q b (to_nodes ts)) a
  unfolding analyze_node node_b nodes nodes_b S.◌>>=◌ S.ret
  reference_is n p q b ts h = out_same (rw (spells_is h) (simp append_assoc))

  pub element_is : (n : ℕ) (x : Expr Spot) → Spells t from to (num_b n) → onward analyze_node node_b x (say (num_b 0 ++ renumbered t from to) a) ≡ onward analyze_node node_b (element n x) a
  unfolding analyze_node node_b S.◌>>=◌ S.ret
  element_is n x h = out_same (rw (spells_is h) (simp append_assoc))

  pub member_is : (i : Ident Spot) (n : ℕ) → Spells t from to (ident_b i ++ num_b n) → say (num_b 1 ++ renumbered t from to) a ≡ onward analyze_node node_b (member i n) a
  unfolding analyze_node node_b S.ret
  member_is i n h = out_same (rw (spells_is h))

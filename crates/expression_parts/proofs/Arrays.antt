-- An array: its elements in a scope of their own, and then the next id.
use mathlib.Core.Path.{◌≡◌, refl, sym, ap, ◌∙◌}
use mathlib.Core.List.{List, [], ◌++◌, append_assoc, append-nil}
use Prim.Native.Nat.{ℕ}
use native.Mathlib.Omega.{arith}
use Rattle.penne.specs.Tree.{Spot, Carried, Expr, array_literal}
use Rattle.penne.specs.Read.{to_nodes}
use Rattle.penne.specs.Write.{num_b, place_b, carried_b, node_b}
use Rattle.penne.specs.State as S
use Rattle.penne.specs.Scopes.{with_stack, next_id, in_new_scope, create_anonymous_resolution_id}
use Rattle.penne.specs.Variables.{analyze_node}
use Rattle.penne.proofs.IdsPass.{still_node}
use Rattle.answer.specs.Parts.{renumbered}
use Rattle.walk.specs.declared.state.Walk.{Walk}
use Rattle.walk.specs.Walking.{Ground, Good, Is, onward, say, opening, closing, numbering, Grows, Closes}
use Rattle.walk.proofs.Copying.{Spells, spells_is}
use Rattle.expression_parts.specs.Expressing.{nodes, nodes_b, list_walk, array_number}
use Rattle.expression_parts.proofs.Onward.{out_same}

-- the id that is written is the next one
pub array_id_is : {s : Walk} {o l w : List ℕ} {a : Ground} (n : ℕ) → Is s o l w a → Good (array_number n a) → numbering (say (num_b s.tables.next_id) a) ≡ array_number n a
unfolding create_anonymous_resolution_id next_id
array_id_is {a = a} n i z =
    let few = z.few in
    let j = i.when (record { few = omega arith; fit = z.fit }) in
    out_same (ap (λ (k : ℕ). a.out ++ num_b k) j.tables.next)

module _ (es : List (Expr Spot)) (xs : List ℕ) (a : Ground) where
  -- the elements leave the stack as it was
  elements_grow : Grows a.st.variable_stack (list_walk es (opening (say xs a))).st.variable_stack
  unfolding nodes with_stack
  elements_grow =
      let q = (still_node (to_nodes es) (opening (say xs a)).st).stack in
      record { constants = ap (λ (u : _). u.constants) q; more = []; locals = ap (λ (u : _). u.locals) q ∙ sym (append-nil a.st.variable_stack.locals) }

  elements_good : Good (list_walk es (opening (say xs a))) → Good a
  unfolding nodes with_stack
  elements_good z = let few = z.few in let le = (still_node (to_nodes es) (opening (say xs a)).st).takes.lower in record { few = omega arith; fit = z.fit }

  pub elements_closed : {s outer : Walk} {w : List ℕ} {r : Walk} {w' : List ℕ} {o l o₀ l₀ w₀ : List ℕ} → Closes s outer.tables.scope w r w' → Is outer o₀ l₀ w₀ a → Is s o l w (list_walk es (opening (say xs a))) → Is r o l w' (closing a (list_walk es (opening (say xs a))))
  elements_closed c i₀ i = c.is refl i₀ i elements_grow elements_good

pub array_literal_is : {t : List ℕ} {from to : ℕ} (a : Ground) (p : Spot) (c : Carried Spot) (es : List (Expr Spot)) (n : ℕ) → Spells t from to (place_b p ++ carried_b c)
    → array_number n (closing a (list_walk es (opening (say (num_b 6 ++ renumbered t from to) a)))) ≡ onward analyze_node node_b (array_literal p c (to_nodes es) n) a
unfolding analyze_node node_b nodes nodes_b in_new_scope create_anonymous_resolution_id S.◌>>=◌ S.ret
array_literal_is a p c es n h = out_same (rw (spells_is h) (simp append_assoc))

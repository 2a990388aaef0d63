-- How the walk goes on along a list.
use mathlib.Core.Path.{◌≡◌, refl, sym, ap, ◌∙◌}
use mathlib.Core.List.{List, [], ◌∷◌, ◌++◌, append_assoc, append-nil}
use Prim.Native.Nat.{ℕ, suc}
use lib.ListN.{length}
use Rattle.penne.specs.Reader.{Cur, Got, got, refused, Reader, ◌>>=◌, ret, many}
use Rattle.penne.specs.Tree.{Spot, Kind, one, Node}
use Rattle.penne.specs.Read.{to_nodes}
use Rattle.penne.specs.Write.{num_b, count, node_b}
use Rattle.penne.specs.State as S
use Rattle.penne.specs.Scopes.{Analyzer}
use Rattle.penne.specs.Variables.{analyze_node}
use Rattle.fields.proofs.Back.{many_length}
use Rattle.walk.specs.declared.state.Walk.{Walk}
use Rattle.walk.specs.Walking.{here, Rest, Ground, Is, onward, say, Did, Leads, Input, Walks}
use Rattle.walk.proofs.Leading.{is_same, Listed}
use Rattle.expression_parts.specs.Expressing.{nodes, nodes_b, list_walk}

-- grounds that differ in how their bytes are put together
pub out_same : {xs ys : List ℕ} {st : Analyzer Spot} {m : Rest} → xs ≡ ys → ◌≡◌ {A = Ground} (record { out = xs; st = st; rest = m }) (record { out = ys; st = st; rest = m })
out_same {st = st} {m} e = ap (λ (l : List ℕ). record { out = l; st = st; rest = m }) e

-- a reader by itself
ret_go : {A : Type 0} (t : List ℕ) (q : Got A) → ◌≡◌ {A = Got A} (elim q [ got y e ↦ ret y t e | refused i p ↦ refused i p ]) q
unfolding ret
ret_go t (got y e) = refl
ret_go t (refused i p) = refl

pub leads_ret : {A : Type 0} {t : List ℕ} {m : Reader A} {P : A → Cur → Type 0} {c : Cur} → Leads (m >>= λ x. ret x) t c P → Leads m t c P
unfolding ◌>>=◌
leads_ret {t = t} {m} {c = c} k = record { to = λ x d g. k.to x d (ret_go t (m t c) ∙ g) }

-- LISTS

pub nodes_listed : {k : Kind} → Listed {A = Node Spot (one k)} (λ x a. onward analyze_node node_b x a) (λ xs a. onward nodes node_b xs a)
unfolding nodes to_nodes analyze_node node_b S.◌>>=◌ S.ret
nodes_listed = record { nil_is = λ a. out_same (sym (append-nil a.out)); cons_is = λ x xs a. out_same (append_assoc a.out _ _) }

count-nodes : {k : Kind} (xs : List (Node Spot (one k))) (s : Analyzer Spot) → count (nodes xs s).0 ≡ length xs
unfolding nodes to_nodes analyze_node count S.◌>>=◌ S.ret
count-nodes [] s = refl
count-nodes (x ∷ xs) s = ap suc (count-nodes xs (analyze_node x s).1)

list_is : {k : Kind} (n : ℕ) (xs : List (Node Spot (one k))) (a : Ground) → length xs ≡ n → onward nodes node_b xs (say (num_b n) a) ≡ list_walk xs a
unfolding nodes_b
list_is n xs a e = out_same (append_assoc a.out _ _ ∙ ap (λ (j : ℕ). a.out ++ (num_b j ++ node_b (nodes xs a.st).0)) (sym e ∙ sym (count-nodes xs a.st)))

-- the count was written, then the items
pub leads_list : {k : Kind} (m : Reader (Node Spot (one k))) (n : ℕ) (a : Ground) {t : List ℕ} {s : Walk} {o l w : List ℕ} {r : Walk} {o' l' w' : List ℕ} → Walks t (many m n) (λ xs b. onward nodes node_b xs b) s o l w r o' l' w' → Input t → Is s o l w (say (num_b n) a)
    → Leads (many m n) t (here s) (λ xs d. Did d (list_walk xs a) r o' l' w')
leads_list m n a {t} {s} k h i = record { to = λ xs d g. let z = (k.does h _ i).to xs d g in record { cur = z.cur; is = is_same (λ _. list_is n xs a (many_length m n t (here s) g)) z.is } }

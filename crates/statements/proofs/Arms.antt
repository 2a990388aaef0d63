-- Statements without a word of their own: a law for each function, and for each arm of analyze.
use mathlib.Core.Path.{◌≡◌, refl, sym, ap, subst, ◌∙◌}
use mathlib.Core.Bool.{true}
use mathlib.Core.List.{List, ◌++◌, append_assoc}
use Prim.Native.Nat.{ℕ, ◌≤◌}
use lib.Dec.{lit≤}
use lib.ListN.{get_or}
use Rattle.std.specs.Prelude.{Result}
use Rattle.fields.specs.declared.refusal.Refusal.{Refusal}
use Rattle.penne.specs.Reader.{Reader, ◌>>=◌, ret, num, listed}
use Rattle.std.specs.Prelude.{Ok, Err}
use Rattle.penne.specs.Tree.{Spot, Ident, Poison, Maybe, ok, err, expr, ref, one, list_of, Node, Expr, stmt, Stm, assignment, method_call, loop, bad_stmt}
use Rattle.penne.specs.Read.{place, read_poison, read, to_nodes, read_stmt, stmt_of, StmtKind, stmt_kinds, k_bad_stmt, read_assignment, read_method_call}
use Rattle.penne.specs.Write.{num_b, place_b, poison_b, node_b, stm_b}
use Rattle.penne.specs.State as S
use Rattle.penne.specs.Scopes.{Analyzer}
use Rattle.penne.specs.Variables.{analyze_node, use_called, method_to, analyze_stm}
use Rattle.penne.proofs.IdsPass.{still_node}
use Rattle.fields.specs.declared.field.Identifier.{Identifier}
use Rattle.fields.specs.Answers.{ident_of, Gives, Identifies}
use Rattle.fields.proofs.Chain.{reads}
use Rattle.tree.proofs.Statements.{from_last}
use Rattle.answer.specs.declared.wrote.Wrote.{Wrote}
use Rattle.answer.specs.Out.{Put}
use Rattle.answer.specs.Parts.{renumbered}
use Rattle.answer.proofs.Fields.{identifier_bytes}
use Rattle.label_references.specs.Marked.{marked, rest}
use Rattle.walk.specs.declared.state.Walk.{Walk}
use Rattle.walk.specs.declared.fault.Fault.{Fault}
use Rattle.walk.specs.Walking.{moved_to, with_wrote, Ground, Good, Is, onward, say, say_poison, Walks, fault_b, made_b, Used, Made, Uses}
use Rattle.walk.proofs.Leading.{leads_at, leads_read, leads_unread, leads_identified, leads_place, leads_call, leads_end, leads_last}
use Rattle.walk.proofs.Writing.{instead, moved_on, wrote_on}
use Rattle.walk.proofs.Copying.{spells_is}
use Rattle.walk.proofs.Using.{made_used, made_refused}
use Rattle.expression_parts.specs.Expressing.{nodes, nodes_b, list_walk, Headed}
use Rattle.expression_parts.proofs.Onward.{out_same}
use Rattle.expression_parts.proofs.Names.{called_same, number_spelled, headed_is, here_headed}
use Rattle.statement_parts.specs.Stating.{fits, leaving, stm_walk, behind, Follows, Anything, Entered, Worded, Numbered}
use Rattle.statement_parts.proofs.Fit.{good_before, good_behind}

-- WHAT IS COPIED

-- a kind and the place behind it
pub place_put : (kind : ℕ) {t : List ℕ} {at : ℕ} {m₁ : Result (ℕ × ℕ) Refusal} {v n : ℕ} {w : Wrote} {o : List ℕ} {x : Wrote} {o' : List ℕ} → Gives num t at m₁ → m₁ ≡ Ok (v, n) → Put w (num_b kind ++ renumbered t at n) o x o' → Put w (num_b kind ++ place_b (record { number = v; from = at })) o x o'
unfolding place_b
place_put kind {w = w} {o} {x} {o'} g e p = subst (λ (ys : List ℕ). Put w (num_b kind ++ ys) o x o') (spells_is (number_spelled g e)) p

-- KINDS

-- less has to be known
follows : {P Q : Ground → Type 0} {t : List ℕ} {m : Reader (Stm Spot stmt)} {s : Walk} {o l w : List ℕ} {r : Walk} {o' l' w' : List ℕ} → ((a : Ground) → P a → Q a) → Follows Q t m s o l w r o' l' w' → Follows P t m s o l w r o' l' w'
follows f k = record { does = λ h a p i. k.does h a (f a p) i }

-- what an arm knows is enough for its function
module _ {kind n : ℕ} {t : List ℕ} {m : Reader (Stm Spot stmt)} {s : Walk} {o l w : List ℕ} {r : Walk} {o' l' w' : List ℕ} where
  pub plain : Follows Anything t m s o l w r o' l' w' → Follows (Numbered kind n s w) t m s o l w r o' l' w'
  plain k = follows (λ _ _. tt) k

  pub entered : kind ≡ 0 → Follows (Entered s) t m s o l w r o' l' w' → Follows (Numbered kind n s w) t m s o l w r o' l' w'
  entered e k = follows (λ _ p. p.entered e) k

  pub worded : Follows (Worded n w) t m s o l w r o' l' w' → Follows (Numbered kind n s w) t m s o l w r o' l' w'
  worded k = follows (λ _ p. p.worded) k

-- POISON

poison_is : (z : Poison Spot) (a : Ground) → say_poison 8 z (behind a) ≡ stm_walk stm_b (bad_stmt z) a
unfolding stm_walk behind marked fits analyze_stm stm_b S.ret
poison_is z a = refl

pub poisoned : {P : Ground → Type 0} (left v : ℕ) {t : List ℕ} {s : Walk} {o l w : List ℕ} {r : Walk} {o' : List ℕ} → 8 ≤ v → Walks t read_poison (say_poison 8) s o l w r o' l w → Follows P t (stmt_of left (read_stmt left) (get_or stmt_kinds v k_bad_stmt)) s o l w r o' l w
unfolding stmt_kinds stmt_of
poisoned {P} left v {t} {s} {o} {l} {w} {r} {o'} e k =
    subst (λ (x : StmtKind). Follows P t (stmt_of left (read_stmt left) x) s o l w r o' l w) (sym (from_last stmt_kinds 8 k_bad_stmt refl (lit≤ tt) v e))
    (record { does = λ h a p i. leads_call _ k h i λ z g i₁. leads_end (bad_stmt z) refl i₁ λ _. poison_is z a })

-- LOOP

loop_is : (p : Spot) (a : Ground) → say (num_b 3 ++ place_b p) (behind a) ≡ stm_walk stm_b (loop p) a
unfolding stm_walk behind marked fits analyze_stm stm_b S.ret
loop_is p a = refl

module _ {t : List ℕ} {s : Walk} {m₁ : Result (ℕ × ℕ) Refusal} (g : Gives num t s.at m₁) {P : Ground → Type 0} {o l w : List ℕ} where
  pub looped : {v n : ℕ} {x : Wrote} {o' : List ℕ} → m₁ ≡ Ok (v, n) → Put s.wrote (num_b 3 ++ renumbered t s.at n) o x o' → Follows P t (place >>= λ p. ret (loop p)) s o l w (moved_to (with_wrote s x) n) o' l w
  looped e p = record { does = λ h a _ i. leads_place _ g e (leads_end (loop _) refl (wrote_on i (place_put 3 g e p)) λ _. loop_is _ a) }

-- ASSIGNMENT

assignment_is : (p : Spot) (v : Expr Spot) (x : Node Spot (one ref)) (a : Ground) → onward analyze_node node_b x (onward analyze_node node_b v (say (num_b 1 ++ place_b p) (behind a))) ≡ stm_walk stm_b (assignment p v x) a
unfolding stm_walk behind marked fits analyze_stm stm_b S.◌>>=◌ S.ret
assignment_is p v x a = out_same (simp append_assoc)

module _ {t : List ℕ} {s : Walk} {m₁ : Result (ℕ × ℕ) Refusal} (g : Gives num t s.at m₁) (left : ℕ) {P : Ground → Type 0} {o l w : List ℕ} {r : Walk} {o' l' w' : List ℕ} where
  pub assigned : {v n : ℕ} {x : Wrote} {s₁ : Walk} {o₁ o₂ l₂ w₂ : List ℕ} → m₁ ≡ Ok (v, n) → Put s.wrote (num_b 1 ++ renumbered t s.at n) o x o₁
      → Walks t (read left expr) (onward analyze_node node_b) (moved_to (with_wrote s x) n) o₁ l w s₁ o₂ l₂ w₂ → Walks t (read left ref) (onward analyze_node node_b) s₁ o₂ l₂ w₂ r o' l' w' → Follows P t (read_assignment left) s o l w r o' l' w'
  unfolding read_assignment
  assigned e p k k' = record { does = λ h a _ i. leads_place _ g e (leads_call _ k h (wrote_on i (place_put 1 g e p)) λ x _ i₁. leads_last (assignment _ x) k' h i₁ λ y _. assignment_is _ x y a) }

-- METHOD CALL

-- the name is looked up among the same functions before the arguments as after
method_pass : (x : Ident Spot) (b : ℕ) (es : Node Spot (list_of expr)) (u : Analyzer Spot) → analyze_stm (method_call x b es) u ≡ (method_to b (analyze_node es u).0 (use_called x b u).0, (analyze_node es u).1)
unfolding analyze_stm S.◌>>=◌ S.ret
method_pass x b es u = ap (λ (q : Maybe Spot (Ident Spot) × Analyzer Spot). (method_to b (analyze_node es u).0 q.0, q.1)) (called_same x b u (analyze_node es u).1 (still_node es u).takes.functions)

method_walk : (x : Ident Spot) (b : ℕ) (es : Node Spot (list_of expr)) (a : Ground) {y : Maybe Spot (Ident Spot)} → (use_called x b a.st).0 ≡ y
    → stm_walk stm_b (method_call x b es) a ≡ record { out = a.out ++ stm_b (method_to b (analyze_node es a.st).0 y); st = (analyze_node es a.st).1; rest = leaving (rest a.rest.words) true a.rest }
unfolding stm_walk marked fits
method_walk x b es a e =
    ap (λ (q : Stm Spot stmt × Analyzer Spot). record { out = a.out ++ stm_b q.0; st = q.1; rest = leaving (rest a.rest.words) true a.rest }) (method_pass x b es a.st)
    ∙ ap (λ (y : Maybe Spot (Ident Spot)). record { out = a.out ++ stm_b (method_to b (analyze_node es a.st).0 y); st = (analyze_node es a.st).1; rest = leaving (rest a.rest.words) true a.rest }) e

method_is : (x : Ident Spot) (b : ℕ) (es : List (Expr Spot)) (a : Ground) {from : ℕ} {j : Identifier} → (use_called x b a.st).0 ≡ ok (ident_of from j)
    → list_walk es (say (num_b 2 ++ (made_b j ++ num_b b)) (behind a)) ≡ stm_walk stm_b (method_call x b (to_nodes es)) a
unfolding behind nodes nodes_b method_to stm_b
method_is x b es a {from} {j} e = out_same (rw (identifier_bytes (ident_of from j)) (simp append_assoc)) ∙ sym (method_walk x b (to_nodes es) a e)

method_bad : (x : Ident Spot) (b : ℕ) (es : List (Expr Spot)) (a : Ground) (f : Fault) {z : Poison Spot} → (use_called x b a.st).0 ≡ err z → fault_b f ≡ poison_b z
    → record { out = a.out ++ (num_b 8 ++ fault_b f); st = (nodes es a.st).1; rest = (behind a).rest } ≡ stm_walk stm_b (method_call x b (to_nodes es)) a
unfolding behind nodes method_to stm_b
method_bad x b es a f e q = out_same (ap (λ (ys : List ℕ). a.out ++ (num_b 8 ++ ys)) q) ∙ sym (method_walk x b (to_nodes es) a e)

-- what the name was looked up as
looked : {s : Walk} {j : Identifier} (b : ℕ) {o l w : List ℕ} {u : Used} → Uses (λ x. use_called x b) s j w u w → (x : Stm Spot stmt) (a : Ground) → Is s o l w (behind a) → Good (stm_walk stm_b x a) → Made s.at u (use_called (ident_of s.at j) b a.st).0
unfolding behind
looked {s} {j} b {o} {l} k x a i z =
    let y = good_behind a (good_before stm_b x a z) in
    let same : (use_called (ident_of s.at j) b a.st).1 ≡ a.st = ap (λ (q : Maybe Spot (Ident Spot) × Analyzer Spot). q.1) (called_same (ident_of s.at j) b a.st a.st refl) in
    (k.does s.at o l (behind a) i).made (record { few = subst (λ (v : Analyzer Spot). v.resolution_id ≤ 4294967295) (sym same) y.few; fit = y.fit })

nodes_grown : (es : List (Expr Spot)) (u : Analyzer Spot) → u.resolution_id ≤ (nodes es u).1.resolution_id
unfolding nodes
nodes_grown es u = (still_node (to_nodes es) u).takes.lower

module _ {t : List ℕ} {s : Walk} {r₁ : Result (Identifier × ℕ) Refusal} (g : Identifies t s.script.names s.at r₁) (left : ℕ) {P : Ground → Type 0} {o l w : List ℕ} {o' l' w' : List ℕ} where
  module _ {j : Identifier} {n : ℕ} (e : r₁ ≡ Ok (j, n)) {m₁ : Result (ℕ × ℕ) Refusal} (g₁ : Gives num t n m₁) where
    pub method_unread : {x : Refusal} {r : Walk} → m₁ ≡ Err x → Follows P t (read_method_call left) s o l w r o' l' w'
    unfolding read_method_call
    method_unread f = record { does = λ h a p i. leads_identified _ g e (leads_unread _ (reads g₁) f) }

    module _ {b n₁ : ℕ} (f : m₁ ≡ Ok (b, n₁)) {u : Used} (k : Uses (λ x. use_called x b) s j w u w) where
      pub method_as : {v : Identifier} {s₁ r : Walk} {o₁ : List ℕ} → u ≡ Ok v → Headed s 2 v t n n₁ o s₁ o₁ → Walks t (listed (read left expr)) list_walk s₁ o₁ l w r o' l' w' → Follows P t (read_method_call left) s o l w r o' l' w'
      unfolding read_method_call
      method_as {v} {s₁} {o₁} made hd c = record {
        does = λ h a _ i.
            let j₁ = subst (λ (ys : List ℕ). Is s₁ o₁ l w (say (num_b 2 ++ (made_b v ++ ys)) (behind a))) (spells_is (number_spelled g₁ f)) (headed_is i hd) in
            leads_identified _ g e (leads_read _ (reads g₁) f (leads_at (here_headed hd) (leads_call _ c h j₁ λ es q i₁. leads_end (method_call _ b (to_nodes es)) refl i₁ λ z. method_is _ b es a (made_used (looked b k (method_call (ident_of s.at j) b (to_nodes es)) a i z) made))));
      }

      pub method_refused : {v : Fault} {s₁ : Walk} {x : Wrote} {o₁ : List ℕ} → u ≡ Err v → Walks t (listed (read left expr)) list_walk (moved_to s n₁) o l w s₁ o₁ l' w' → Put s.wrote (num_b 8 ++ fault_b v) o₁ x o' → Follows P t (read_method_call left) s o l w (with_wrote s₁ x) o' l' w'
      unfolding read_method_call behind
      method_refused {v} not c put = record {
        does = λ h a _ i. leads_identified _ g e (leads_read _ (reads g₁) f (leads_call _ c h (moved_on i) λ es q i₁.
            leads_end (method_call _ b (to_nodes es)) refl (instead i _ (nodes_grown es a.st) i₁ put) λ z. let y = made_refused (looked b k (method_call (ident_of s.at j) b (to_nodes es)) a i z) not in method_bad (ident_of s.at j) b es a v y.1 y.2));
      }

-- Statements that hold others: If, Block, and lists of statements.
use mathlib.Core.Path.{◌≡◌, refl, sym, ap, subst, ◌∙◌}
use mathlib.Core.Bool.{Bool, true, ◌&&◌}
use mathlib.Core.List.{List, [], ◌∷◌, ◌++◌, append_assoc}
use Prim.Native.Nat.{ℕ, suc}
use lib.ListN.{length}
use Rattle.std.specs.Prelude.{Result, Ok, Err}
use Rattle.fields.specs.declared.refusal.Refusal.{Refusal}
use Rattle.penne.specs.Reader.{num, below, many, listed}
use Rattle.penne.specs.Tree.{Spot, Ident, expr, Expr, stmt, else_branch, Stm, if_else, block, no_else, or_else}
use Rattle.penne.specs.Read.{read, to_stms, read_stmt, read_if, else_of, read_block}
use Rattle.penne.specs.Write.{num_b, place_b, count', node_b, stm_b}
use Rattle.penne.specs.State as S
use Rattle.penne.specs.Scopes.{Analyzer, in_new_scope, with_stack}
use Rattle.penne.specs.Variables.{analyze_node, analyze_stm}
use Rattle.penne.proofs.IdsPass.{grown_stm}
use Rattle.fields.specs.Answers.{Gives, Skips, operator}
use Rattle.fields.proofs.Chain.{reads}
use Rattle.fields.proofs.Back.{many_length}
use Rattle.answer.specs.declared.wrote.Wrote.{Wrote}
use Rattle.answer.specs.Out.{Put}
use Rattle.answer.specs.Parts.{renumbered}
use Rattle.label_references.specs.Marked.{marked, rest}
use Rattle.walk.specs.declared.state.Walk.{Walk}
use Rattle.walk.specs.Walking.{moved_to, with_wrote, Ground, Good, onward, say, Walks, Opens, Closes, Grows, opening, closing}
use Rattle.walk.proofs.Leading.{walks, leads_read, leads_unread, leads_place, leads_unplace, leads_operator, leads_unoperator, leads_call, leads_end, leads_last, is_same, leads_at}
use Rattle.walk.proofs.Writing.{wrote_on}
use Rattle.walk.proofs.Copying.{spells_is, spells_join, spelled_operator}
use Rattle.walk.proofs.Choosing.{leads_untagged, leads_first, leads_second}
use Rattle.expression_parts.proofs.Onward.{out_same}
use Rattle.expression_parts.proofs.Names.{number_spelled}
use Rattle.statement_parts.specs.Stating.{is_free, fits, leaving, stm_walk, stms_walk, stms_b, behind, Follows}
use Rattle.statement_parts.proofs.Free.{free_same, within_node}
use Rattle.statement_parts.proofs.Fit.{ground_same, leaving_same, leaving_twice, cons_rest, good_before}
use Rattle.statements.proofs.Arms.{place_put}

-- IF

if_is : (p : Spot) (op : ℕ) (q r : Spot) (x y : Expr Spot) (t : Stm Spot stmt) (e : Stm Spot else_branch) (a : Ground)
    → stm_walk stm_b e (stm_walk stm_b t (onward analyze_node node_b y (onward analyze_node node_b x (say (num_b 6 ++ (place_b p ++ (num_b op ++ (place_b q ++ place_b r)))) (behind a))))) ≡ stm_walk stm_b (if_else p op q r x y t e) a
unfolding stm_walk behind leaving marked fits analyze_stm stm_b S.◌>>=◌ S.ret
if_is p op q r x y t e a =
    let b = onward analyze_node node_b y (onward analyze_node node_b x (say (num_b 6 ++ (place_b p ++ (num_b op ++ (place_b q ++ place_b r)))) (behind a))) in
    let all = a.rest.labels in
    let os = rest a.rest.words in
    let os₁ = (marked all t os).1 in
    let free : is_free b.st ≡ is_free a.st = free_same (within_node y (analyze_node x a.st).1) ∙ free_same (within_node x a.st) in
    ground_same (simp append_assoc) (cons_rest t e b ∙ leaving_twice os _ true (fits all (is_free b.st) t os && fits all (is_free b.st) e os₁) a.rest
    ∙ ap (λ (f : Bool). leaving (marked all e os₁).1 (fits all f t os && fits all f e os₁) a.rest) free)

module _ {t : List ℕ} {s : Walk} {m₁ : Result (ℕ × ℕ) Refusal} (g : Gives num t s.at m₁) (left : ℕ) {P : Ground → Type 0} {o l w : List ℕ} {r : Walk} {o' l' w' : List ℕ} where
  module _ {v n : ℕ} (e : m₁ ≡ Ok (v, n)) {m₂ : Result ℕ Refusal} (g₂ : Skips operator t n m₂) where
    pub if_unread : {x : Refusal} → m₂ ≡ Err x → Follows P t (read_if left (read_stmt left)) s o l w r o' l' w'
    unfolding read_if
    if_unread f = record { does = λ h a p i. leads_place _ g e (leads_unoperator _ g₂ f) }

    pub branched : {n₂ : ℕ} {x : Wrote} {s₁ s₂ s₃ : Walk} {o₁ o₂ l₂ w₂ o₃ l₃ w₃ o₄ l₄ w₄ : List ℕ} → m₂ ≡ Ok n₂ → Put s.wrote (num_b 6 ++ renumbered t s.at n₂) o x o₁
        → Walks t (read left expr) (onward analyze_node node_b) (moved_to (with_wrote s x) n₂) o₁ l w s₁ o₂ l₂ w₂ → Walks t (read left expr) (onward analyze_node node_b) s₁ o₂ l₂ w₂ s₂ o₃ l₃ w₃ → Walks t (read_stmt left) (stm_walk stm_b) s₂ o₃ l₃ w₃ s₃ o₄ l₄ w₄
        → Walks t (else_of (read_stmt left)) (stm_walk stm_b) s₃ o₄ l₄ w₄ r o' l' w' → Follows P t (read_if left (read_stmt left)) s o l w r o' l' w'
    unfolding read_if place_b
    branched {x = x} {o₁ = o₁} f put k₁ k₂ k₃ k₄ = record {
      does = λ h a _ i. leads_place _ g e (leads_operator _ g₂ f λ op q u z.
          let sp = spells_join (number_spelled g e) (spelled_operator.is t _ _ _ z) in
          leads_call _ k₁ h (wrote_on i (subst (λ (ys : List ℕ). Put s.wrote (num_b 6 ++ ys) o x o₁) (spells_is sp) put)) λ y₁ _ i₁. leads_call _ k₂ h i₁ λ y₂ _ i₂. leads_call _ k₃ h i₂ λ y₃ _ i₃.
          leads_last (if_else _ op q u y₁ y₂ y₃) k₄ h i₃ λ y₄ _. if_is _ op q u y₁ y₂ y₃ y₄ a);
    }

-- ELSE

no_else_is : (a : Ground) → say (num_b 0) a ≡ stm_walk stm_b no_else a
unfolding stm_walk marked fits analyze_stm stm_b S.ret
no_else_is a = ground_same refl (leaving_same a.rest)

or_else_is : (p : Spot) (t : Stm Spot stmt) (a : Ground) → stm_walk stm_b t (say (num_b 1 ++ place_b p) a) ≡ stm_walk stm_b (or_else p t) a
unfolding stm_walk marked fits analyze_stm stm_b S.◌>>=◌ S.ret
or_else_is p t a = out_same (simp append_assoc)

module _ {t : List ℕ} {s : Walk} {m₁ : Result (ℕ × ℕ) Refusal} (g : Gives (below 2) t s.at m₁) (left : ℕ) {o l w : List ℕ} where
  pub else_not : {x : Refusal} {r : Walk} {o' l' w' : List ℕ} → m₁ ≡ Err x → Walks t (else_of (read_stmt left)) (stm_walk stm_b) s o l w r o' l' w'
  unfolding else_of
  else_not e = walks λ h a i. leads_untagged g _ _ e

  module _ {v n : ℕ} (e : m₁ ≡ Ok (v, n)) where
    pub no_else_lem : {x : Wrote} {o' : List ℕ} → v ≡ 0 → Put s.wrote (num_b 0) o x o' → Walks t (else_of (read_stmt left)) (stm_walk stm_b) s o l w (moved_to (with_wrote s x) n) o' l w
    unfolding else_of
    no_else_lem z put = walks λ h a i. leads_first g _ _ e z (leads_end no_else refl (wrote_on i put) λ _. no_else_is a)

    module _ (z : v ≡ 0 → ⊥) {m₂ : Result (ℕ × ℕ) Refusal} (g₂ : Gives num t n m₂) where
      pub else_unread : {x : Refusal} {r : Walk} {o' l' w' : List ℕ} → m₂ ≡ Err x → Walks t (else_of (read_stmt left)) (stm_walk stm_b) s o l w r o' l' w'
      unfolding else_of
      else_unread f = walks λ h a i. leads_second g _ _ e z (leads_unplace _ g₂ f)

      pub or_else_lem : {v₂ n₂ : ℕ} {x : Wrote} {r : Walk} {o₁ o' l' w' : List ℕ} → m₂ ≡ Ok (v₂, n₂) → Put s.wrote (num_b 1 ++ renumbered t n n₂) o x o₁
          → Walks t (read_stmt left) (stm_walk stm_b) (moved_to (with_wrote s x) n₂) o₁ l w r o' l' w' → Walks t (else_of (read_stmt left)) (stm_walk stm_b) s o l w r o' l' w'
      unfolding else_of
      or_else_lem f put k = walks λ h a i. leads_second g _ _ e z (leads_place _ g₂ f (leads_last (or_else _) k h (wrote_on i (place_put 1 g₂ f put)) λ y _. or_else_is _ y a))

-- LISTS

count_stms : (ts : List (Stm Spot stmt)) (all : List (Ident Spot)) (os : List ℕ) (u : Analyzer Spot) → count' (analyze_stm (marked all (to_stms ts) os).0 u).0 ≡ length ts
unfolding to_stms marked analyze_stm count' S.◌>>=◌ S.ret
count_stms [] all os u = refl
count_stms (t ∷ ts) all os u = ap suc (count_stms ts all (marked all t os).1 (analyze_stm (marked all t os).0 u).1)

stms_is : (n : ℕ) (ts : List (Stm Spot stmt)) (a : Ground) → length ts ≡ n → stm_walk stm_b (to_stms ts) (say (num_b n) a) ≡ stms_walk ts a
unfolding stm_walk stms_b
stms_is n ts a e =
    let ts' = (analyze_stm (marked a.rest.labels (to_stms ts) a.rest.words).0 a.st).0 in
    out_same (append_assoc a.out _ _ ∙ ap (λ (j : ℕ). a.out ++ (num_b j ++ stm_b ts')) (sym e ∙ sym (count_stms ts a.rest.labels a.rest.words a.st)))

module _ {t : List ℕ} {s : Walk} {m₁ : Result (ℕ × ℕ) Refusal} (g : Gives num t s.at m₁) (left : ℕ) {o l w : List ℕ} {r : Walk} {o' l' w' : List ℕ} where
  pub stms_not : {x : Refusal} → m₁ ≡ Err x → Walks t (listed (read_stmt left)) stms_walk s o l w r o' l' w'
  unfolding listed
  stms_not e = walks λ h a i. leads_unread _ (reads g) e

  -- the count was written, then the statements
  pub stms : {n b : ℕ} {x : Wrote} {o₁ : List ℕ} → m₁ ≡ Ok (n, b) → Put s.wrote (num_b n) o x o₁ → Walks t (many (read_stmt left) n) (λ xs a. stm_walk stm_b (to_stms xs) a) (moved_to (with_wrote s x) b) o₁ l w r o' l' w'
      → Walks t (listed (read_stmt left)) stms_walk s o l w r o' l' w'
  unfolding listed
  stms {n} e put k = walks λ h a i. leads_read _ (reads g) e (record { to = λ xs d q. let z = (k.does h _ (wrote_on i put)).to xs d q in record { cur = z.cur; is = is_same (λ _. stms_is n xs a (many_length (read_stmt left) n t _ q)) z.is } })

-- BLOCK

block_is : (p : Spot) (ts : List (Stm Spot stmt)) (a : Ground) → closing (behind a) (stms_walk ts (opening (say (num_b 7 ++ place_b p) (behind a)))) ≡ stm_walk stm_b (block p (to_stms ts)) a
unfolding stm_walk stms_b behind leaving marked fits analyze_stm stm_b in_new_scope with_stack is_free S.◌>>=◌ S.ret
block_is p ts a = ground_same (simp append_assoc) (leaving_twice (rest a.rest.words) _ true _ a.rest)

-- what was declared inside is added to the locals
pub grows_stms : (ts : List (Stm Spot stmt)) (a : Ground) → Grows a.st.variable_stack (stms_walk ts (opening a)).st.variable_stack
unfolding stm_walk with_stack
grows_stms ts a = let d = (grown_stm (marked a.rest.labels (to_stms ts) a.rest.words).0 (opening a).st).stack in record { constants = d.constants; more = d.more; locals = d.locals }

pub good_stms : (ts : List (Stm Spot stmt)) (a : Ground) → Good (stms_walk ts (opening a)) → Good a
unfolding with_stack
good_stms ts a z = let y = good_before stms_b (to_stms ts) (opening a) z in record { few = y.few; fit = y.fit }

module _ {t : List ℕ} {s : Walk} {m₁ : Result (ℕ × ℕ) Refusal} (g : Gives num t s.at m₁) (left : ℕ) {P : Ground → Type 0} {o l w : List ℕ} {r : Walk} {o' l' w' : List ℕ} where
  pub blocked : {v n : ℕ} {x : Wrote} {s₁ s₂ : Walk} {o₁ w₂ : List ℕ} → m₁ ≡ Ok (v, n) → Put s.wrote (num_b 7 ++ renumbered t s.at n) o x o₁ → Opens (moved_to (with_wrote s x) n) s₁ → Walks t (listed (read_stmt left)) stms_walk s₁ o₁ l w s₂ o' l' w₂ → Closes s₂ s.tables.scope w₂ r w'
      → Follows P t (read_block (read_stmt left)) s o l w r o' l' w'
  unfolding read_block
  blocked e put op k cl = record {
    does = λ h a _ i. leads_place _ g e (leads_at op.cur (leads_call _ k h (op.is (wrote_on i (place_put 7 g e put))) λ ts _ i₁.
        leads_end (block _ (to_stms ts)) (sym cl.cur) (cl.is refl i i₁ (grows_say ts _ (behind a)) (λ z. good_say _ (behind a) (good_stms ts _ z))) λ _. block_is _ ts a));
  }
    where
      grows_say : (ts : List (Stm Spot stmt)) (xs : List ℕ) (b : Ground) → Grows b.st.variable_stack (stms_walk ts (opening (say xs b))).st.variable_stack
      grows_say ts xs b = grows_stms ts (say xs b)

      good_say : (xs : List ℕ) (b : Ground) → Good (say xs b) → Good b
      good_say xs b z = record { few = z.few; fit = z.fit }

-- Gotos and labels, by the words that the label pass decided.
use mathlib.Core.Path.{◌≡◌, refl, sym, ap, subst, ◌∙◌}
use mathlib.Core.Bool.{Bool, true, false, ◌&&◌}
use mathlib.Core.List.{List, [], ◌∷◌, ◌++◌}
use Prim.Native.Nat.{ℕ, zero, suc, ◌+◌, ◌-◌, ◌≤◌, ◌<◌}
use native.Mathlib.Omega.{arith}
use lib.Dec.{leb, eqb}
use lib.ListN.{length, get_or}
use borrow.Author.Tests.{le-leb, lt-leb, leb-true, eqb-true}
use borrow.Rule.Slice.PartMut.{put_mid}
use Rattle.std.specs.Prelude.{Result, Ok, Err}
use Rattle.fields.specs.declared.refusal.Refusal.{Refusal}
use Rattle.penne.specs.Reader.{num}
use Rattle.penne.specs.Find.{resolved}
use Rattle.penne.specs.Tree.{Spot, Ident, poison, stmt, Stm, goto, label, bad_stmt}
use Rattle.penne.specs.Read.{poison_fields, read_jump}
use Rattle.penne.specs.Write.{num_b, place_b, poison_b, stm_b}
use Rattle.penne.specs.State as S
use Rattle.penne.specs.Scopes.{with_prunings, prepare_to_prune_at_goto, prune_at_label}
use Rattle.penne.specs.Variables.{analyze_stm}
use Rattle.fields.specs.declared.field.Identifier.{Identifier}
use Rattle.fields.specs.declared.counts.Counts as K
use Rattle.fields.specs.Answers.{ident_of, Gives, Identifies, poison_names, poison_places}
use Rattle.answer.specs.declared.wrote.Wrote.{Wrote}
use Rattle.answer.specs.Out.{Put}
use Rattle.answer.proofs.Fields.{identifier_bytes, poison_bytes}
use Rattle.scopes.specs.Jumps as J
use Rattle.scopes.specs.Labels.{Along, step, Named}
use Rattle.labels.specs.Visit.{Shows}
use Rattle.label_references.specs.Marked.{place_of, marked_goto, marked_label, marked, front, rest}
use Rattle.containers.proofs.Lists.{and_true}
use Rattle.walk.specs.declared.state.Walk.{Walk}
use Rattle.walk.specs.declared.fault.Fault.{Fault}
use Rattle.walk.specs.declared.fault.Fault.TheVariants as F
use Rattle.answer.specs.Parts.{resolved_to}
use Rattle.walk.specs.Walking.{moved_to, with_wrote, scopes_in, Rest, Ground, Good, Marks, Is, silently, say, fault_b, label_fault, made_b}
use Rattle.walk.proofs.Leading.{leads_identified, leads_place, leads_unplace, leads_end, is_same}
use Rattle.walk.proofs.Faults.{undefined_bytes}
use Rattle.walk.proofs.Jumping.{short_is, prepared_is, pruned_is}
use Rattle.walk.proofs.Writing.{wrote_on}
use Rattle.expression_parts.proofs.Onward.{out_same}
use Rattle.statement_parts.specs.Stating.{same_label, fit_goto, fit_label, fits, leaving, stm_walk, behind, Follows, Worded, Prepares, Prunes, LabelPlace}
use Rattle.statement_parts.proofs.Fit.{ground_same, leaving_twice, good_before, good_behind}
use Rattle.statement_parts.proofs.Fit.{fitting}
use Rattle.statement_parts.proofs.Fitting.{place_at}

-- THE TABLE OF THE SCOPES

pub prepare_short : {s : Walk} {id place : ℕ} {w : List ℕ} → length w < 16384 → Prepares s id place w w
unfolding prepare_to_prune_at_goto with_prunings
prepare_short h = record { is = λ i p e q low high j. short_is j _ (λ z. record { few = z.few; fit = z.fit }) h }

pub prepare_none : {s : Walk} {id place : ℕ} {w w' : List ℕ} → id ≡ 0 → Prepares s id place w w'
prepare_none h = record { is = λ i p e q low high j. absurd (omega arith) }

pub prepare_is : {s : Walk} {id place : ℕ} {w ys : List ℕ} → J.Prepares (id - 1) place s.tables.next_id (scopes_in w) ys → Prepares s id place w (put_mid 2048 11264 w ys)
prepare_is g = record { is = λ i p e q low high j. prepared_is j i p g e q low high }

pub prune_short : {s : Walk} {id : ℕ} {w : List ℕ} → length w < 16384 → Prunes s id w w
unfolding prune_at_label with_prunings
prune_short h = record { is = λ i e high j. short_is j _ (λ z. record { few = z.few; fit = z.fit }) h }

pub prune_none : {s : Walk} {id : ℕ} {w : List ℕ} → id ≡ 0 → Prunes s id w w
unfolding prune_at_label with_prunings
prune_none h = record { is = λ i e high j. is_same (λ z. let low = (high (record { few = z.few; fit = z.fit })).0 in absurd (omega arith)) j }

pub prune_is : {s : Walk} {id : ℕ} {w ys : List ℕ} → (id ≡ 0 → ⊥) → J.Prunes s.tables.scope (id - 1) (scopes_in w) ys → Prunes s id w (put_mid 2048 11264 w ys)
prune_is {id = id} z g = record { is = λ i e high j. pruned_is j {id = id} i g e (omega arith) (λ y. (high y).1) }

-- THE LABELS

along_at : {w : List ℕ} (all : List (Ident Spot)) (k m : ℕ) {n : ℕ} → Along (Named w) k all n → m < length all → (d : Ident Spot) → Named w (k + m) (get_or all m d)
along_at [] k m a h d = absurd (omega arith)
along_at {w} (x ∷ xs) k zero (step p a) h d = let e : k ≡ k + 0 = omega arith in subst (λ (i : ℕ). Named w i x) e p
along_at {w} (x ∷ xs) k (suc m) (step p a) h d = let e : k + 1 + m ≡ k + suc m = omega arith in subst (λ (i : ℕ). Named w i (get_or xs m d)) e (along_at xs (k + 1) m a (omega arith) d)

module _ {n : K.Counts} {w : List ℕ} {m : Rest} (h : Marks n w m) (x : Ident Spot) {id : ℕ} (low : 0 < id) (high : id ≤ length m.labels) where
  labelled : Named w id (get_or m.labels (id - 1) x)
  labelled = let e : 1 + (id - 1) ≡ id = omega arith in subst (λ (i : ℕ). Named w i (get_or m.labels (id - 1) x)) e (along_at m.labels 1 (id - 1) h.named (omega arith) x)

  -- the place of an earlier label
  placed : get_or w (3071 + id) 0 ≡ (place_of m.labels id x.place).number
  unfolding place_of
  placed = labelled.place ∙ ap (λ (p : Spot). p.number) (sym (place_at m.labels (id - 1) (omega arith) x.place x))

  -- a label of the same name and place
  same_labelled : same_label x (get_or m.labels (id - 1) x) ≡ true → (i : Ident Spot) → i.name ≡ x.name → i.place.number ≡ x.place.number → Named w id i
  unfolding same_label
  same_labelled e i en ep =
      let y = get_or m.labels (id - 1) x in
      let b = and_true (eqb x.name y.name) (eqb x.place.number y.place.number) e in
      record { name = labelled.name ∙ sym (eqb-true x.name y.name b.0) ∙ sym en; place = labelled.place ∙ sym (eqb-true x.place.number y.place.number b.1) ∙ sym ep }

-- THE WORD

-- the ground before the step of a goto or label: what was decided fits
abbrev fitted_to : Ground → Bool → Ground
fitted_to a b = record { out = a.out; st = a.st; rest = leaving (rest a.rest.words) b a.rest }

fitted : {s : Walk} {o l w : List ℕ} (a : Ground) (b : Bool) → Is s o l w (behind a) → Is s o l w (fitted_to a b)
unfolding behind leaving
fitted a b i = is_same (λ _. ground_same refl (leaving_twice (rest a.rest.words) (rest a.rest.words) true b a.rest)) (fitting b i)

good_fitted : (a : Ground) (b : Bool) → Good (fitted_to a b) → Good (behind a)
unfolding behind leaving
good_fitted a b z = good_behind a (record { few = z.few; fit = (and_true _ _ z.fit).0 })

few_labels : {c : K.Counts} {w : List ℕ} (a : Ground) → Marks c w (behind a).rest → length a.rest.labels ≤ 1024
unfolding behind leaving
few_labels a m = m.labels

module _ {w : List ℕ} {k id : ℕ} (h : Shows w 0 k id) {a : Ground} (d : Worded k w a) where
  shown : Good (behind a) → front a.rest.words ≡ id
  shown z = let e : 0 + k ≡ k = omega arith in sym (h.is d.low (omega arith) ∙ ap (λ (j : ℕ). get_or w j 0) e ∙ d.is z)

-- GOTO

goto_walk : (x : Ident Spot) (p : Spot) (a : Ground) (o : ℕ) → front a.rest.words ≡ o
    → stm_walk stm_b (goto x p) a ≡ record { out = a.out ++ stm_b (analyze_stm (marked_goto x p o) a.st).0; st = (analyze_stm (marked_goto x p o) a.st).1; rest = leaving (rest a.rest.words) (fit_goto a.rest.labels o) a.rest }
unfolding stm_walk marked fits
goto_walk x p a o e = ap (λ (o : ℕ). record { out = a.out ++ stm_b (analyze_stm (marked_goto x p o) a.st).0; st = (analyze_stm (marked_goto x p o) a.st).1; rest = leaving (rest a.rest.words) (fit_goto a.rest.labels o) a.rest }) e

goto_bad : (j : Identifier) (from : ℕ) (p : Spot) (a : Ground) → front a.rest.words ≡ 0 → say (num_b 8 ++ fault_b (F.UndefinedLabel j.name j.place)) (behind a) ≡ stm_walk stm_b (goto (ident_of from j) p) a
unfolding behind marked_goto fit_goto analyze_stm stm_b S.ret poison_names poison_places poison_fields
goto_bad j from p a e =
    ground_same (ap (λ (ys : List ℕ). a.out ++ (num_b 8 ++ ys)) (undefined_bytes 2 j from refl refl)) (ap (λ (b : Bool). leaving (rest a.rest.words) b a.rest) (sym (le-leb 0 (length a.rest.labels) (omega arith)))) ∙ sym (goto_walk (ident_of from j) p a 0 e)

marked_to : (x : Ident Spot) (p : Spot) (id : ℕ) → 0 < id → marked_goto x p id ≡ goto (resolved x id 0) p
unfolding marked_goto
marked_to x p zero h = absurd (omega arith)
marked_to x p (suc n) h = refl

goto_is : (j : Identifier) (from id : ℕ) (p : Spot) (a : Ground) → 0 < id → front a.rest.words ≡ id
    → say (num_b 4 ++ (made_b (resolved_to j id 0) ++ num_b p.number)) (silently (prepare_to_prune_at_goto (resolved (ident_of from j) id 0)) p (fitted_to a (fit_goto a.rest.labels id))) ≡ stm_walk stm_b (goto (ident_of from j) p) a
unfolding analyze_stm prepare_to_prune_at_goto stm_b resolved place_b S.◌>>=◌ S.ret
goto_is j from id p a h e =
    out_same (ap (λ (ys : List ℕ). a.out ++ (num_b 4 ++ (ys ++ num_b p.number))) (identifier_bytes (ident_of from (resolved_to j id 0))))
    ∙ sym (goto_walk (ident_of from j) p a id e ∙ ap (λ (t : Stm Spot stmt). record { out = a.out ++ stm_b (analyze_stm t a.st).0; st = (analyze_stm t a.st).1; rest = leaving (rest a.rest.words) (fit_goto a.rest.labels id) a.rest }) (marked_to (ident_of from j) p id h))

module _ {t : List ℕ} {s : Walk} {r₁ : Result (Identifier × ℕ) Refusal} (g : Identifies t s.script.names s.at r₁) (f : Ident Spot → Spot → Stm Spot stmt) {P : Ground → Type 0} {o l w : List ℕ} {r : Walk} {o' l' w' : List ℕ} where
  pub jump_unread : {j : Identifier} {n : ℕ} {m₁ : Result (ℕ × ℕ) Refusal} {x : Refusal} → r₁ ≡ Ok (j, n) → Gives num t n m₁ → m₁ ≡ Err x → Follows P t (read_jump f) s o l w r o' l' w'
  unfolding read_jump
  jump_unread e g₁ q = record { does = λ h a p i. leads_identified _ g e (leads_unplace _ g₁ q) }

module _ {t : List ℕ} {s : Walk} {r₁ : Result (Identifier × ℕ) Refusal} (g : Identifies t s.script.names s.at r₁) {j : Identifier} {n : ℕ} (e : r₁ ≡ Ok (j, n)) {m₁ : Result (ℕ × ℕ) Refusal} (g₁ : Gives num t n m₁) {v b : ℕ} (q : m₁ ≡ Ok (v, b)) {k id : ℕ} {o l w : List ℕ} (h : Shows w 0 k id) where
  pub goto_undefined : {x : Wrote} {o' : List ℕ} → id ≡ 0 → Put s.wrote (num_b 8 ++ fault_b (F.UndefinedLabel j.name j.place)) o x o' → Follows (Worded k w) t (read_jump goto) s o l w (moved_to (with_wrote s x) b) o' l w
  unfolding read_jump
  goto_undefined z put = record {
    does = λ _ a d i. leads_identified _ g e (leads_place _ g₁ q (leads_end (goto _ _) refl (wrote_on i put) λ c. goto_bad j s.at _ a (shown h d (good_behind a (good_before stm_b _ a c)) ∙ z)));
  }

  pub goto_label : {i : Identifier} {x : Wrote} {o' w' : List ℕ} → (id ≡ 0 → ⊥) → Prepares s id v w w' → i ≡ resolved_to j id 0 → Put s.wrote (num_b 4 ++ (made_b i ++ num_b v)) o x o' → Follows (Worded k w) t (read_jump goto) s o l w (moved_to (with_wrote s x) b) o' l w'
  unfolding read_jump resolved fit_goto leaving
  goto_label {x = x} {o' = o'} z pr y put = record {
    does = λ _ a d i.
        let to = resolved (ident_of s.at j) id 0 in
        let p : Spot = record { number = v; from = n } in
        let low : 0 < id = omega arith in
        let i₁ = pr.is to p refl refl low (λ c. let m = (i.when (good_fitted a _ c)).marks in let few = few_labels a m in let le = leb-true id (length a.rest.labels) (and_true a.rest.fit (leb id (length a.rest.labels)) c.fit).1 in omega (arith, few, le)) (fitted a (fit_goto a.rest.labels id) i) in
        leads_identified _ g e (leads_place _ g₁ q (leads_end (goto _ _) refl (wrote_on i₁ (subst (λ (u : Identifier). Put s.wrote (num_b 4 ++ (made_b u ++ num_b v)) o x o') y put)) λ c. goto_is j s.at id p a low (shown h d (good_behind a (good_before stm_b _ a c)))));
  }

-- LABEL

label_walk : (x : Ident Spot) (p : Spot) (a : Ground) (o : ℕ) → front a.rest.words ≡ o
    → stm_walk stm_b (label x p) a ≡ record { out = a.out ++ stm_b (analyze_stm (marked_label a.rest.labels x p o) a.st).0; st = (analyze_stm (marked_label a.rest.labels x p o) a.st).1; rest = leaving (rest a.rest.words) (fit_label a.rest.labels x o) a.rest }
unfolding stm_walk marked fits
label_walk x p a o e = ap (λ (o : ℕ). record { out = a.out ++ stm_b (analyze_stm (marked_label a.rest.labels x p o) a.st).0; st = (analyze_stm (marked_label a.rest.labels x p o) a.st).1; rest = leaving (rest a.rest.words) (fit_label a.rest.labels x o) a.rest }) e

label_bytes : (j : Identifier) (from before : ℕ) (q : Spot) → before ≡ q.number → fault_b (label_fault j before) ≡ poison_b (poison 1 (j.name ∷ []) (q ∷ (ident_of from j).place ∷ []))
unfolding poison_names poison_places poison_fields
label_bytes j from before q e = ap (λ (n : ℕ). fault_b (label_fault j n)) e ∙ poison_bytes 1 (j.name ∷ []) (q ∷ (ident_of from j).place ∷ []) (0 ∷ []) (0 ∷ 0 ∷ []) refl refl

label_bad : (j : Identifier) (from o before : ℕ) (p : Spot) (a : Ground) → 1024 < o → front a.rest.words ≡ o → before ≡ (place_of a.rest.labels (o - 1024) (ident_of from j).place).number
    → say (num_b 8 ++ fault_b (label_fault j before)) (fitted_to a (fit_label a.rest.labels (ident_of from j) o)) ≡ stm_walk stm_b (label (ident_of from j) p) a
unfolding analyze_stm stm_b S.ret marked_label place_of
label_bad j from o before p a h e q =
    let x = ident_of from j in
    let all = a.rest.labels in
    let z : leb o 1024 ≡ false = lt-leb o 1024 h in
    let bad : marked_label all x p o ≡ bad_stmt (poison 1 (x.name ∷ []) (place_of all (o - 1024) x.place ∷ x.place ∷ [])) = rw (z, marked_label) in
    out_same (ap (λ (ys : List ℕ). a.out ++ (num_b 8 ++ ys)) (label_bytes j from before (place_of all (o - 1024) x.place) q))
    ∙ sym (label_walk x p a o e ∙ ap (λ (t : Stm Spot stmt). record { out = a.out ++ stm_b (analyze_stm t a.st).0; st = (analyze_stm t a.st).1; rest = leaving (rest a.rest.words) (fit_label all x o) a.rest }) bad)

label_is : (j : Identifier) (from o : ℕ) (p : Spot) (a : Ground) → o ≤ 1024 → front a.rest.words ≡ o
    → say (num_b 5 ++ (made_b (resolved_to j o 1) ++ num_b p.number)) (silently prune_at_label (resolved (ident_of from j) o 1) (fitted_to a (fit_label a.rest.labels (ident_of from j) o))) ≡ stm_walk stm_b (label (ident_of from j) p) a
unfolding analyze_stm prune_at_label stm_b resolved place_b S.◌>>=◌ S.ret marked_label
label_is j from o p a h e =
    let x = ident_of from j in
    let all = a.rest.labels in
    let z : leb o 1024 ≡ true = le-leb o 1024 h in
    let own : marked_label all x p o ≡ label (resolved x o 1) p = rw (z, marked_label) in
    out_same (ap (λ (ys : List ℕ). a.out ++ (num_b 5 ++ (ys ++ num_b p.number))) (identifier_bytes (ident_of from (resolved_to j o 1))))
    ∙ sym (label_walk x p a o e ∙ ap (λ (t : Stm Spot stmt). record { out = a.out ++ stm_b (analyze_stm t a.st).0; st = (analyze_stm t a.st).1; rest = leaving (rest a.rest.words) (fit_label all x o) a.rest }) own)

-- what a label's word says where it fits
late_fits : (all : List (Ident Spot)) (x : Ident Spot) (o : ℕ) → 1024 < o → fit_label all x o ≡ true → o - 1024 ≤ length all
unfolding fit_label
late_fits all x o h e = let z : leb o 1024 ≡ false = lt-leb o 1024 h in let q : fit_label all x o ≡ leb (o - 1024) (length all) = rw (z, fit_label) in leb-true (o - 1024) (length all) (sym q ∙ e)

record Own (all : List (Ident Spot)) (x : Ident Spot) (o : ℕ) : Type 0 where
  low : 0 < o
  high : o ≤ length all
  same : same_label x (get_or all (o - 1) x) ≡ true

own_fits : (all : List (Ident Spot)) (x : Ident Spot) (o : ℕ) → o ≤ 1024 → fit_label all x o ≡ true → Own all x o
unfolding fit_label same_label
own_fits all x o h e =
    let z : leb o 1024 ≡ true = le-leb o 1024 h in
    let q : fit_label all x o ≡ leb 1 o && (leb o (length all) && same_label x (get_or all (o - 1) x)) = rw (z, fit_label) in
    let b = and_true (leb 1 o) (leb o (length all) && same_label x (get_or all (o - 1) x)) (sym q ∙ e) in
    let c = and_true (leb o (length all)) (same_label x (get_or all (o - 1) x)) b.1 in
    record { low = omega (arith, leb-true 1 o b.0); high = leb-true o (length all) c.0; same = c.1 }

fit_of : (x : Ident Spot) (p : Spot) (a : Ground) → Good (stm_walk stm_b (label x p) a) → fit_label a.rest.labels x (front a.rest.words) ≡ true
unfolding stm_walk marked fits leaving
fit_of x p a c = (and_true a.rest.fit (fit_label a.rest.labels x (front a.rest.words)) c.fit).1

late_place : {c : K.Counts} {w : List ℕ} (a : Ground) → Marks c w (behind a).rest → (x : Ident Spot) (id : ℕ) → 0 < id → id ≤ length a.rest.labels → get_or w (3071 + id) 0 ≡ (place_of a.rest.labels id x.place).number
unfolding behind leaving
late_place a m x id low high = placed m x low high

own_named : {c : K.Counts} {w : List ℕ} (a : Ground) → Marks c w (behind a).rest → (x : Ident Spot) (id : ℕ) → Own a.rest.labels x id → Named w id (resolved x id 1)
unfolding behind leaving resolved
own_named a m x id own = same_labelled m x own.low own.high own.same (resolved x id 1) refl refl

module _ {t : List ℕ} {s : Walk} {r₁ : Result (Identifier × ℕ) Refusal} (g : Identifies t s.script.names s.at r₁) {j : Identifier} {n : ℕ} (e : r₁ ≡ Ok (j, n)) {m₁ : Result (ℕ × ℕ) Refusal} (g₁ : Gives num t n m₁) {v b : ℕ} (q : m₁ ≡ Ok (v, b)) {k id : ℕ} {o l w : List ℕ} (h : Shows w 0 k id) where
  pub label_twice : {before : ℕ} {u : Fault} {x : Wrote} {o' : List ℕ} → 1024 < id → LabelPlace (id - 1024) w before → u ≡ label_fault j before → Put s.wrote (num_b 8 ++ fault_b u) o x o' → Follows (Worded k w) t (read_jump label) s o l w (moved_to (with_wrote s x) b) o' l w
  unfolding read_jump
  label_twice {before} {x = x} {o' = o'} z lp y put = record {
    does = λ _ a d i.
        let all = a.rest.labels in
        let me = ident_of s.at j in
        leads_identified _ g e (leads_place _ g₁ q (leads_end (label _ _) refl (wrote_on (fitted a (fit_label all me id) i) (subst (λ (u : Fault). Put s.wrote (num_b 8 ++ fault_b u) o x o') y put)) λ c.
        let c₀ = good_behind a (good_before stm_b (label me (record { number = v; from = n })) a c) in
        let word = shown h d c₀ in
        let m = (i.when c₀).marks in
        let few = few_labels a m in
        let fit : fit_label all me id ≡ true = ap (fit_label all me) (sym word) ∙ fit_of me (record { number = v; from = n }) a c in
        let high = late_fits all me id z fit in
        label_bad j s.at id before (record { number = v; from = n }) a z word (lp.is (omega (arith, few, high)) (omega (arith, few, high)) ∙ late_place a m me (id - 1024) (omega (arith, few, high)) high)));
  }

  pub label_goes : {i : Identifier} {x : Wrote} {o' w' : List ℕ} → id ≤ 1024 → Prunes s id w w' → i ≡ resolved_to j id 1 → Put s.wrote (num_b 5 ++ (made_b i ++ num_b v)) o x o' → Follows (Worded k w) t (read_jump label) s o l w (moved_to (with_wrote s x) b) o' l w'
  unfolding read_jump resolved leaving
  label_goes {x = x} {o' = o'} le pr y put = record {
    does = λ _ a d i.
        let all = a.rest.labels in
        let me = ident_of s.at j in
        let p : Spot = record { number = v; from = n } in
        let i₁ = pr.is (resolved me id 1) refl (λ c. let own = own_fits all me id le (and_true a.rest.fit (fit_label all me id) c.fit).1 in (own.low, (le, own_named a (i.when (good_fitted a _ c)).marks me id own))) (fitted a (fit_label all me id) i) in
        leads_identified _ g e (leads_place _ g₁ q (leads_end (label _ _) refl (wrote_on i₁ (subst (λ (u : Identifier). Put s.wrote (num_b 5 ++ (made_b u ++ num_b v)) o x o') y put)) λ c. label_is j s.at id p a le (shown h d (good_behind a (good_before stm_b _ a c)))));
  }

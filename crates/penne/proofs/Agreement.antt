-- AGREEMENT: in a kept function that meets the premise, what is listed and still stands is answered by kind 13 or Poisoned, and every other standing use of a local keeps its identifier.
use Prim.Native.Nat.{ℕ, zero, suc}
use mathlib.Core.Bool.{Bool, true, false}
use mathlib.Core.Path.{◌≡◌, refl, sym, ◌∙◌, ap, subst}
use mathlib.Core.List.{List, [], ◌∷◌, ◌++◌, flat_map}
use mathlib.Core.Option.{Option, none, some}
use mathlib.Core.Logic.{◌↔◌, inl}
use native.Mathlib.Omega.{arith}
use lib.ListN.{get_elem?, get_or, take}
use lib.Dec.{eqb}
use borrow.Author.Tests.{eq-eqb}
use Rattle.penne.specs.Find.{is_in, first_named, resolved}
use Rattle.penne.specs.Labels.{label_references}
use Rattle.penne.specs.Scopes.{Analyzer}
use Rattle.penne.specs.Tree.{Spot, Ident, Maybe, ok, Ty, Expr, Param, Body, Decl, function}
use Rattle.penne.specs.Walks.{Act, use_of, run, Target, local, no_local, Names, stands, acts, body_acts, premise, Skipped, constant_names, structure_names, function_names, names_at}
use Rattle.penne.specs.Standing.{declares, Outline, outline_option, outline_stm, outline_body, Stands, in_first, any_type, Refused, Agrees, AgreementHolds}
use Rattle.penne.specs.State as S
use Rattle.penne.specs.Scopes as Q
use Rattle.penne.specs.Variables as V'
use Rattle.penne.proofs.Missed.{use_target_lem}
use Rattle.penne.proofs.Booleans.{true_false, none_some, one_zero, never_true}
use Rattle.penne.proofs.PruningIsFlow.{St, unmet, refused, pruned}
use Rattle.penne.proofs.BodySkeleton.{sk, sk_body}
use Rattle.penne.proofs.BodyPruning.{refused_body, no_locals}
use Rattle.penne.proofs.Numbered.{own_at, statements_of, numbered, numbered_predeclared}
use Rattle.penne.proofs.Steady.{is_some}
use Rattle.penne.proofs.Beside.{beside_map}
use Rattle.penne.proofs.Settled.{names_of, found_named, ahead, settled}
use Rattle.penne.proofs.InStep.{InStep, Entry, e_local, e_other, sees}
use Rattle.penne.proofs.Steps.{Clear, step}
use Rattle.penne.proofs.Functions.{names_before, before_body, in_function, own_clear}
use Rattle.penne.proofs.Looks.{typed}
use Rattle.penne.proofs.Covers.{covered_body}
use Rattle.penne.proofs.Answers.{Nth, n_here, n_later, nth_left, Becomes, is_refused, is_kept, is_other, Known, k_other, Knows}
use Rattle.penne.proofs.Replies.{marked_act, marked_bit, Replies, replies_both, replies_option, Declared, heard, same_stands, sized_stm, fits_stm}
use Rattle.penne.proofs.Demand3.{predeclared_at, earlier, part_at, kept_function}

-- A BODY

-- declaration statement k stands in the answer with the id x
record AnsweredAs (text : List Act) (o o' : Outline) (k x : ℕ) : Type 0 where
  at : ℕ
  declared : Ident Spot
  answered : Ident Spot
  is_run : get_elem? text at ≡ some (run k)
  declaration : Stands (declares declared) (declares answered) o o' at
  same : answered.id ≡ x

nth_act : {xs : List Act} {at : ℕ} {x : Act} → Nth xs at x → get_elem? xs at ≡ some x
nth_act n_here = refl
nth_act (n_later p) = nth_act p

-- before a body there are no locals
knows_none : {K : ℕ → ℕ → Type 0} {met : ℕ → Bool} {n : Names} {f : ℕ → St} {a : Analyzer Spot} → n.count ≡ 0 → InStep true met n f a → Knows K n a
knows_none {K} {met} {n} {f} {a} z v = record { entries = beside_map go v.entries }
  where
    go : (t : Target) (i : Ident Spot) → Entry true met n.count f a t i → Known K (Q.variables a) a.resolution_id t i
    go (local k d) i (e_local p q) = let b = q.below in one_zero (omega arith)
    go no_local i (e_other p q g) = k_other

-- the same test in other words
replies_same : {K : ℕ → ℕ → Type 0} {g h : Ty Spot → Bool} {x' : Outline} {xs : List Act} {bs : List Bool} (v : Option (Expr Spot)) → g ≡ h → Replies K (outline_option g v) x' xs bs → Replies K (outline_option h v) x' xs bs
replies_same {K} {x' = x'} {xs} {bs} v e p = subst (λ (y : Ty Spot → Bool). Replies K (outline_option y v) x' xs bs) e p

-- a body's answer
abbrev answer_of : Body Spot → Analyzer Spot → Body Spot
answer_of b a = (V'.analyze_in_body b a).0

-- all that stands of a body is answered
replies_body : {met : ℕ → Bool} (b : Body Spot) (n : Names) (f : ℕ → St) (a : Analyzer Spot) → n.count ≡ 0 → premise b.statements ≡ true → Clear met (sk b.statements n) → InStep true met n f a → Replies (AnsweredAs (body_acts b n) (outline_body (stands n) b) (outline_body any_type (answer_of b a))) (outline_body (stands n) b) (outline_body any_type (answer_of b a)) (body_acts b n) (refused (sk_body b n) f)
unfolding V'.analyze_in_body S.◌>>=◌ S.ret outline_body body_acts sk_body refused
replies_body {met} b n f a z h c v =
    let K = AnsweredAs (body_acts b n) (outline_body (stands n) b) (outline_body any_type (answer_of b a)) in
    let d : Declared K (outline_stm (stands n) b.statements) (outline_stm any_type (V'.analyze_stm b.statements a).0) (acts b.statements n).0 = record { known = λ at k j j' s q. record { at = at; declared = j; answered = j'; is_run = nth_act (nth_left _ q); declaration = in_first s; same = refl } } in
    let a₁ = (V'.analyze_stm b.statements a).1 in
    let n₁ = (acts b.statements n).1 in
    let p = step b.statements true met n f a (inl refl) h c v in
    let r = heard b.statements true met n f a (inl refl) h c v (knows_none z v) d in
    let q = replies_option b.value n₁ (λ k. pruned k (sk b.statements n) (f k)) a₁ (sees p.instep) r.knows in
    replies_both (sized_stm b.statements n) (fits_stm b.statements n f) r.replies (replies_same b.value (same_stands b.statements n) q)

-- by its bit a use of a local is refused or kept
refused_by : {K : ℕ → ℕ → Type 0} {i : Ident Spot} {t : Target} {c : Bool} {r : Maybe Spot (Ident Spot)} → Becomes K i t c r → c ≡ true → Refused r
refused_by (is_refused x) e = x
refused_by (is_kept x) e = true_false (sym e)
refused_by is_other e = true_false (sym e)

-- the use i keeps its identifier
record KeptBy (K : ℕ → ℕ → Type 0) (i : Ident Spot) (k : ℕ) (r : Maybe Spot (Ident Spot)) : Type 0 where
  id : ℕ
  known : K k id
  same : r ≡ ok (resolved i id 0)

kept_by : {K : ℕ → ℕ → Type 0} {i : Ident Spot} {t : Target} {c : Bool} {r : Maybe Spot (Ident Spot)} (k d : ℕ) → Becomes K i t c r → c ≡ false → t ≡ local k d → KeptBy K i k r
kept_by k d (is_refused x) e f = true_false e
kept_by {K} {i} k d (is_kept {k = k'} {d = d'} {x = x} y) e f = let z : k' ≡ k = cc in subst (λ (m : ℕ). KeptBy K i m (ok (resolved i x 0))) z (record { id = x; known = y; same = refl })
kept_by k d is_other e f = let z : true ≡ false = cc in true_false z

-- so a body agrees with its answer
agrees_body : {met : ℕ → Bool} (b : Body Spot) (n : Names) (a : Analyzer Spot) → n.count ≡ 0 → premise b.statements ≡ true → Clear met (sk b.statements n) → ((p : ℕ) → (get_or (refused (sk_body b n) (λ k. unmet)) p false ≡ true) ↔ Skipped (body_acts b n) p) → InStep true met n (λ k. unmet) a → Agrees n b (answer_of b a)
agrees_body b n a z h c w v =
    let q = replies_body b n (λ k. unmet) a z h c v in record {
      all = (covered_body b n a (typed (sees v))).covers;
      examined = λ at i r s. let x = q.reply at i r s in (x.target, marked_act x.marked);
      refused = λ at i r s y. let x = q.reply at i r s in refused_by x.becomes (sym (marked_bit x.marked) ∙ (w at).1 y);
      kept = λ at i r u k d s e y.
          let x = q.reply at i r s in
          let g = never_true x.gone (λ t. y ((w at).0 (marked_bit x.marked ∙ t))) in
          let l = kept_by k d x.becomes g (let z : some (use_of i.place.from x.target) ≡ some (use_of u (local k d)) = sym (marked_act x.marked) ∙ e in let z' : use_of i.place.from x.target ≡ use_of u (local k d) = cc in use_target_lem z') in
          let m = l.known in
          record { at = m.at; declared = m.declared; answered = m.answered; is_run = m.is_run; declaration = m.declaration; same = l.same ∙ ap (λ (id : ℕ). ok (resolved i id 0)) (sym m.same) };
    }

-- A FUNCTION

is_in_right : (x : ℕ) (xs ys : List ℕ) → is_in x ys ≡ true → is_in x (xs ++ ys) ≡ true
unfolding is_in
is_in_right x [] ys h = h
is_in_right x (y ∷ xs) ys h = (elim (eqb x y) as (λ b. eqb x y ≡ b → is_in x (y ∷ (xs ++ ys)) ≡ true) [
  | true ↦ λ e. rw (e, is_in)
  | false ↦ λ e. rw (e, is_in) (is_in_right x xs ys h)
]) refl

-- its name is among the functions'
named_at : (ds : List (Decl Spot)) (k f : ℕ) (p q : Spot) (i : Ident Spot) (ps : List (Param Spot)) (b : Maybe Spot (Body Spot)) (t : Maybe Spot (Ty Spot)) → get_elem? ds k ≡ some (function f p q i ps b t) → is_in i.name (flat_map function_names ds) ≡ true
unfolding flat_map function_names is_in
named_at [] k f p q i ps b t h = none_some _ h
named_at (d ∷ ds) zero f p q i ps b t h = let z : d ≡ function f p q i ps b t = cc in subst (λ (x : Decl Spot). is_in i.name (function_names x ++ flat_map function_names ds) ≡ true) (sym z) (here i.name (flat_map function_names ds))
  where
    here : (x : ℕ) (xs : List ℕ) → is_in x (x ∷ xs) ≡ true
    here x xs = let e = eq-eqb x x refl in rw (e, is_in)
named_at (d ∷ ds) (suc k) f p q i ps b t h = is_in_right i.name (function_names d) (flat_map function_names ds) (named_at ds k f p q i ps b t h)

-- a function that is found again is answered by a function
record FunctionAnswer (d : Decl Spot) (p q : Spot) (b : Body Spot) : Type 0 where
  flags : ℕ
  identifier : Ident Spot
  parameters : List (Param Spot)
  result : Ident Spot
  type : Maybe Spot (Ty Spot)
  is : d ≡ function flags p q identifier parameters (ok (record { statements = b.statements; value = b.value; result = result })) type

-- by whether its name is found
function_of : (names : List (List ℕ)) (f : ℕ) (p q : Spot) (ps : List (Param Spot)) (b : Body Spot) (r : Ident Spot) (t : Maybe Spot (Ty Spot)) (i : Ident Spot) (o : Option (Ident Spot)) (a : Analyzer Spot) → is_some o ≡ true → FunctionAnswer (V'.function_of names f p q ps (ok (record { statements = b.statements; value = b.value; result = r })) t (Q.use_function_at i o) a).0 p q b
unfolding V'.function_of Q.use_function_at S.◌>>=◌ S.ret is_some
function_of names f p q ps b r t i (some j) a h = record { flags = _; identifier = _; parameters = ps; result = r; type = _; is = refl }
function_of names f p q ps b r t i none a h = true_false (sym h)

-- its name, looked up again, is found
function_answer : (names : List (List ℕ)) (f : ℕ) (p q : Spot) (i : Ident Spot) (ps : List (Param Spot)) (b : Body Spot) (t : Maybe Spot (Ty Spot)) (a : Analyzer Spot) → is_some (first_named i.name a.function_list) ≡ true → FunctionAnswer (V'.analyze_decl names (function f p q i ps (ok b) t) a).0 p q (answer_of b (before_body ps a))
unfolding V'.analyze_decl V'.analyze_params_and_body V'.analyze_body S.◌>>=◌ S.ret Q.use_function Q.in_new_scope Q.create_anonymous_resolution_id
function_answer names f p q i ps b t a h = function_of names f p q _ _ _ t i (first_named i.name a.function_list) _ h

-- an outline does not know of the result's identifier
agrees_as : {n : Names} {b c : Body Spot} (r : Ident Spot) → Agrees n b c → Agrees n b (record { statements = c.statements; value = c.value; result = r })
unfolding outline_body
agrees_as r p = record {
  all = p.all;
  examined = p.examined;
  refused = p.refused;
  kept = λ at i b u k d s h y. let w = p.kept at i b u k d s h y in record { at = w.at; declared = w.declared; answered = w.answered; is_run = w.is_run; declaration = w.declaration; same = w.same };
}

-- THE THEOREM
pub agreement : AgreementHolds
unfolding V'.analyze_all S.◌>>=◌ names_at names_before statements_of Q.begin names_of Q.authoritative resolved
agreement names ds₀ k f p q i ps b t h g e =
    let ds = label_references ds₀ in
    let aₖ = (V'.in_turn V'.predeclare (take k ds) Q.begin).1 in
    let a₀ = (V'.in_turn V'.predeclare ds Q.begin).1 in
    let d = function f p q (Q.authoritative aₖ i) ps (ok b) t in
    let z = predeclared_at ds Q.begin k (function f p q i ps (ok b) t) h ∙ ap (λ (d : Decl Spot). some d) (kept_function f p q i ps (ok b) t aₖ (earlier ds k i.name ∙ g)) in
    let r = part_at names k d (numbered_predeclared Q.begin (numbered ds₀)) (settled ds 1) z in
    let there = ap (λ (l : List (Ident Spot)). is_some (first_named i.name l)) r.functions ∙ found_named i.name a₀.function_list ∙ ap (is_in i.name) (ahead ds Q.begin).functions ∙ named_at ds k f p q i ps (ok b) t h in
    let w = function_answer names f p q (Q.authoritative aₖ i) ps b t r.state there in
    let n = names_before (flat_map constant_names ds) (flat_map structure_names ds) ps in
    record {
      flags = w.flags;
      place_of_declaration = p;
      place_of_return_type = q;
      identifier = w.identifier;
      parameters = w.parameters;
      body = record { statements = (answer_of b (before_body ps r.state)).statements; value = (answer_of b (before_body ps r.state)).value; result = w.result };
      type = w.type;
      answers = r.answers ∙ ap (λ (x : Decl Spot). some x) w.is;
      agrees = agrees_as w.result (agrees_body b n (before_body ps r.state) refl e (own_clear b n e r.own) (refused_body b n (own_at k (function f p q i ps (ok b) t) (numbered ds₀) h n e) e (no_locals ds ps)) (in_function ps r.settles));
    }

-- A function in the second pass: from its parameters to its return value it puts into the list what pruning on the body's skeleton refuses.
use Prim.Native.Nat.{ℕ}
use mathlib.Core.Bool.{Bool, true, false}
use mathlib.Core.Path.{◌≡◌, refl, sym, ◌∙◌, ap, subst}
use mathlib.Core.List.{List, [], ◌∷◌, ◌++◌, map, append_assoc, append-nil, flat_map}
use mathlib.Core.Logic.{inl}
use native.Mathlib.Omega.{arith}
use lib.Dec.{eqb, ltb}
use borrow.Author.Tests.{le-ltb, ltb-false, eq-eqb}
use Rattle.penne.specs.Find.{is_in}
use Rattle.penne.specs.Pruning.{Prunings, offsets}
use Rattle.penne.specs.Containers.{structures}
use Rattle.penne.specs.Scopes.{Analyzer}
use Rattle.penne.specs.Tree.{Spot, Ident, Maybe, ok, err, Ty, Param, Body, function}
use Rattle.penne.specs.Walks.{Names, with_scope, Target, no_local, acts, option_uses, premise, param_names}
use Rattle.penne.specs.State as S
use Rattle.penne.specs.Scopes as Q
use Rattle.penne.specs.Variables as V'
use Rattle.penne.proofs.Booleans.{true_false}
use Rattle.penne.proofs.Missed.{picked_by}
use Rattle.penne.proofs.PruningIsFlow.{St, st, enter, unmet, refused}
use Rattle.penne.proofs.BodySkeleton.{sk, sk_body, flat_body}
use Rattle.penne.proofs.BodyPruning.{pruned_list}
use Rattle.penne.proofs.Steady.{steady_node, steady_maybe, steady_option}
use Rattle.penne.proofs.Beside.{Beside, b_nil, b_cons}
use Rattle.penne.proofs.Looks.{looked_maybe, looked_option}
use Rattle.penne.proofs.Waiting.{ids_in}
use Rattle.penne.proofs.Leaves.{l_turn, l_param, l_function_of}
use Rattle.penne.proofs.Keeps.{orderly_scope}
use Rattle.penne.specs.Scopes.{new_scope}
use Rattle.penne.proofs.Numbered.{OwnLabels}
use Rattle.penne.proofs.Settled.{names_of, found_named, Settled, below_base}
use Rattle.penne.proofs.InStep.{InStep, Entry, e_other, sees, in_steady, in_param, in_scope}
use Rattle.penne.proofs.Steps.{Clear, refusals, Step, step_seq, step_uses, step}

-- BEFORE THE PARAMETERS

-- constants, by their names
beside_constants : {E : Target → Ident Spot → Type 0} (is : List (Ident Spot)) → ((i : Ident Spot) → is_in i.id (ids_in is) ≡ true → E no_local i) → Beside E (map (λ c. (c, no_local)) (names_of is)) is
unfolding names_of ids_in is_in
beside_constants [] h = b_nil
beside_constants {E} (i ∷ is) h = b_cons refl (h i here) (beside_constants is later)
  where
    here : is_in i.id (ids_in (i ∷ is)) ≡ true
    here = let e = eq-eqb i.id i.id refl in rw (e, is_in)

    later : (j : Ident Spot) → is_in j.id (ids_in is) ≡ true → E no_local j
    later j e = h j ((elim (eqb j.id i.id) as (λ b. eqb j.id i.id ≡ b → is_in j.id (ids_in (i ∷ is)) ≡ true) [
      | true ↦ λ q. rw (q, is_in)
      | false ↦ λ q. rw (q, is_in) e
    ]) refl)

-- the names there
unfoldable pub constants_alone : (cs ss : List ℕ) → Names
constants_alone cs ss = record { constants = cs; structures = ss; scope = map (λ c. (c, no_local)) cs; count = 0 }

-- there the pass and the skeleton are in step
in_begin : {cs ss : List ℕ} {m : ℕ} {a : Analyzer Spot} → Settled cs ss m a → InStep false (λ l. ltb l m) (constants_alone cs ss) (λ k. unmet) (new_scope a)
unfolding constants_alone unmet st Q.with_stack Q.variables
in_begin {cs} {ss} {m} {a} s = record {
  entries = subst (λ (l : List ℕ). Beside E (map (λ c. (c, no_local)) l) (is ++ a.variable_stack.locals)) s.constants (subst (λ (l : List (Ident Spot)). Beside E (map (λ c. (c, no_local)) (names_of is)) l) (sym (append-nil is) ∙ ap (λ (l : List (Ident Spot)). is ++ l) (sym s.locals)) (beside_constants is entry));
  unmet = λ k h. record { opened = refl; own = refl; gone = refl; lost = λ l z. s.unwaited l (ltb-false l m z) };
  orderly = orderly_scope a s.orderly;
  outside = s.outside;
  consts = λ x. found_named x is ∙ ap (is_in x) s.constants;
  structs = λ x. found_named x (structures a.containment.containers) ∙ ap (is_in x) s.structs;
}
  where
    is : List (Ident Spot)
    is = a.variable_stack.constants

    E : Target → Ident Spot → Type 0
    E = Entry false (λ l. ltb l m) 0 (λ k. unmet) (new_scope a)

    entry : (i : Ident Spot) → is_in i.id (ids_in is) ≡ true → Entry false (λ l. ltb l m) 0 (λ k. unmet) (new_scope a) no_local i
    entry i h = let b = below_base s.base i.id is s.low h in let g = s.above.given in e_other {i = i} (s.above.stand i.id b) (λ z. true_false (sym z)) (omega arith)

-- PARAMETERS

-- the name of a parameter that has one
unfoldable ident_names : Maybe Spot (Ident Spot) → List (ℕ × Target)
ident_names i = elim i [ ok j ↦ (j.name, no_local) ∷ [] | err z ↦ [] ]

-- a parameter
in_declared : {met : ℕ → Bool} {n : Names} {f : ℕ → St} {a : Analyzer Spot} (i : Maybe Spot (Ident Spot)) → InStep false met n f a → InStep false met (with_scope n (n.scope ++ ident_names i) n.count) f (V'.declare_maybe 5 i a).1
unfolding ident_names V'.declare_maybe S.ret with_scope
in_declared (ok i) v = in_param i v
in_declared {met} {n} {f} {a} (err z) v = subst (λ (es : List (ℕ × Target)). InStep false met (with_scope n es n.count) f a) (sym (append-nil n.scope)) v

-- all of them
in_params : {met : ℕ → Bool} {f : ℕ → St} (ps : List (Param Spot)) (n : Names) (a : Analyzer Spot) → InStep false met n f a → InStep false met (with_scope n (n.scope ++ flat_map param_names ps) n.count) f (V'.in_turn (V'.analyze_param 5) ps a).1
unfolding V'.in_turn V'.analyze_param S.◌>>=◌ S.ret flat_map param_names ident_names with_scope
in_params {met} {f} [] n a v = subst (λ (es : List (ℕ × Target)). InStep false met (with_scope n es n.count) f a) (sym (append-nil n.scope)) v
in_params {met} {f} (p ∷ ps) n a v =
    let v₁ = in_declared p.ident v in
    let a₁ = (V'.declare_maybe 5 p.ident a).1 in
    let v₂ = in_steady v₁ (steady_maybe p.type a₁) (looked_maybe p.type _ f a₁ (sees v₁)).contains in
    let a₂ = (V'.analyze_maybe_type p.type a₁).1 in
    let v₃ = in_params ps (with_scope n (n.scope ++ ident_names p.ident) n.count) a₂ v₂ in
    subst (λ (es : List (ℕ × Target)). InStep false met (with_scope n es n.count) f (V'.in_turn (V'.analyze_param 5) ps a₂).1) (append_assoc n.scope (ident_names p.ident) (flat_map param_names ps)) v₃

-- THE BODY

-- its statements, then its return value
step_body : {met : ℕ → Bool} (b : Body Spot) (n : Names) (f : ℕ → St) (a : Analyzer Spot) → premise b.statements ≡ true → Clear met (sk b.statements n) → InStep true met n f a → Step true met (sk_body b n) n (acts b.statements n).1 f a (V'.analyze_in_body b a).1
unfolding V'.analyze_in_body S.◌>>=◌ S.ret sk_body
step_body {met} b n f a h c v =
    let p = step b.statements true met n f a (inl refl) h c v in
    let a₁ = (V'.analyze_stm b.statements a).1 in
    step_seq p (step_uses (option_uses (acts b.statements n).1 b.value) p.instep (steady_option V'.analyze_node b.value a₁ (λ x. steady_node x a₁)) (looked_option b.value _ _ a₁ (sees p.instep)))

-- the names before a body: constants, then parameters
unfoldable pub names_before : (cs ss : List ℕ) → List (Param Spot) → Names
names_before cs ss ps = record { constants = cs; structures = ss; scope = map (λ c. (c, no_local)) cs ++ flat_map param_names ps; count = 0 }

-- the state in which the body is analysed
abbrev pub before_body : List (Param Spot) → Analyzer Spot → Analyzer Spot
before_body ps a = new_scope (V'.in_turn (V'.analyze_param 5) ps (new_scope a)).1

-- there the pass and the skeleton are in step
pub in_function : {cs ss : List ℕ} {m : ℕ} {a : Analyzer Spot} (ps : List (Param Spot)) → Settled cs ss m a → InStep true (λ l. ltb l m) (names_before cs ss ps) (λ k. unmet) (before_body ps a)
unfolding constants_alone names_before with_scope enter unmet st
in_function {cs} {ss} {a = a} ps s = in_scope (in_params ps (constants_alone cs ss) (new_scope a) (in_begin s))

-- a body's labels were not met before it
pub own_clear : {m m' : ℕ} (b : Body Spot) (n : Names) → premise b.statements ≡ true → OwnLabels m m' b.statements → Clear (λ l. ltb l m) (sk b.statements n)
own_clear {m} b n h o = record { apart = o.apart n h; clear = λ l e. le-ltb l m (o.marked n h l e) }

-- what pruning on its skeleton puts into the list
refusals_body : (b : Body Spot) (n : Names) → refusals (sk_body b n) (λ k. unmet) ≡ pruned_list b n
unfolding refusals pruned_list
refusals_body b n = ap (picked_by (refused (sk_body b n) (λ k. unmet))) (flat_body b n)

-- A FUNCTION'S RECORDS
pub function_list : {cs ss : List ℕ} {m m' : ℕ} {a : Analyzer Spot} (names : List (List ℕ)) (f : ℕ) (p q : Spot) (i : Ident Spot) (ps : List (Param Spot)) (b : Body Spot) (t : Maybe Spot (Ty Spot))
    → Settled cs ss m a → OwnLabels m m' b.statements → premise b.statements ≡ true
    → offsets (V'.analyze_decl names (function f p q i ps (ok b) t) a).1.prunings.skips ≡ offsets a.prunings.skips ++ pruned_list b (names_before cs ss ps)
unfolding V'.analyze_decl V'.analyze_params_and_body V'.analyze_body S.◌>>=◌ S.ret Q.use_function Q.in_new_scope Q.with_stack Q.create_anonymous_resolution_id Q.next_id
function_list {cs} {ss} {m} {m'} {a} names f p q i ps b t s o h =
    let n = names_before cs ss ps in
    let r = step_body b n (λ k. unmet) (before_body ps a) h (own_clear b n h o) (in_function ps s) in
    ap (λ (z : Prunings Spot). offsets z.skips) ((l_function_of names f p q _ _ t _).same _) ∙ r.list ∙ ap (λ (z : Prunings Spot). offsets z.skips ++ refusals (sk_body b n) (λ k. unmet)) ((l_turn (V'.analyze_param 5) ps (l_param 5)).same (new_scope a)) ∙ ap (λ (l : List (ℕ × ℕ)). offsets a.prunings.skips ++ l) (refusals_body b n)

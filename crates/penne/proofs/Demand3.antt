-- DEMAND 3: in every kept function that meets the premise, the list names what walks skip; elsewhere it names nothing, and nothing else is in it.
use Prim.Native.Nat.{ℕ, zero, suc}
use mathlib.Core.Bool.{Bool, true, false, ◌&&◌, not}
use mathlib.Core.Path.{◌≡◌, refl, sym, ◌∙◌, ap, subst}
use mathlib.Core.List.{List, [], ◌∷◌, ◌++◌, flat_map, append-nil}
use mathlib.Core.Option.{Option, none, some}
use lib.ListN.{get_elem?, get_or, take, length, drop}
use lib.Seq.{drop-append_seam}
use Rattle.penne.specs.Find.{is_in, first_named}
use Rattle.penne.specs.Labels.{label_references}
use Rattle.penne.specs.Tree.{Spot, Ident, Maybe, ok, err, Ty, Param, Body, Decl, constant, function, function_head, structure, import, bad_decl, Expr}
use Rattle.penne.specs.Walks.{premise, body_acts, NamesSkipped, names_at, function_names, parts_of, is_body, is_kept, parts, Demand3Holds}
use Rattle.penne.specs.Pruning.{offsets, Prunings}
use Rattle.penne.specs.Scopes.{Analyzer}
use Rattle.penne.specs.State as S
use Rattle.penne.specs.Scopes as Q
use Rattle.penne.specs.Variables as V'
use Rattle.penne.proofs.Booleans.{true_false, none_some}
use Rattle.penne.proofs.Numbered.{statements_of, OwnLabels, Numbered, n_nil, n_cons, numbered, numbered_predeclared, own_at}
use Rattle.penne.proofs.BodyPruning.{pruned_list, demand3_body, no_locals}
use Rattle.penne.proofs.Steady.{is_some, steady_node}
use Rattle.penne.proofs.Leaves.{l_bind, l_maybe, l_found, l_bodyless, l_head, l_structure}
use Rattle.penne.proofs.Keeps.{g_decl, whole, drop_all}
use Rattle.penne.proofs.Settled.{names_of, found_named, ahead, Settled, settled, settled_decl, all_stand}
use Rattle.penne.proofs.Functions.{names_before, function_list}

-- of what the first pass leaves: pruning on the skeleton of a body gives the list that walks ask for
demand3_pruned : (ds : List (Decl Spot)) (k f : ℕ) (p q : Spot) (i : Ident Spot) (ps : List (Param Spot)) (b : Body Spot) (t : Maybe Spot (Ty Spot))
    → get_elem? (label_references ds) k ≡ some (function f p q i ps (ok b) t)
    → premise b.statements ≡ true
    → NamesSkipped (body_acts b (names_at (label_references ds) ps)) (pruned_list b (names_at (label_references ds) ps))
unfolding statements_of
demand3_pruned ds k f p q i ps b t h e =
    demand3_body b _ (own_at k (function f p q i ps (ok b) t) (numbered ds) h _ e) e (no_locals (label_references ds) ps)

-- PREDECLARED DECLARATIONS

-- the k-th one, as it was predeclared after those before it
pub predeclared_at : (ds : List (Decl Spot)) (a : Analyzer Spot) (k : ℕ) (d : Decl Spot) → get_elem? ds k ≡ some d → get_elem? (V'.in_turn V'.predeclare ds a).0 k ≡ some (V'.predeclare d (V'.in_turn V'.predeclare (take k ds) a).1).0
unfolding V'.in_turn S.◌>>=◌ S.ret
predeclared_at [] a k d h = none_some d h
predeclared_at (c ∷ ds) a zero d h = let z : c ≡ d = cc in ap (λ (x : Decl Spot). some (V'.predeclare x a).0) z
predeclared_at (c ∷ ds) a (suc k) d h = predeclared_at ds (V'.predeclare c a).1 k d h

-- whether a function or head of this name came before
pub earlier : (ds : List (Decl Spot)) (k x : ℕ) → is_some (first_named x (V'.in_turn V'.predeclare (take k ds) Q.begin).1.function_list) ≡ is_in x (flat_map function_names (take k ds))
unfolding Q.begin names_of
earlier ds k x = found_named x _ ∙ ap (is_in x) (ahead (take k ds) Q.begin).functions

-- the state before the k-th declaration, its part of the list, and its answer
pub record PartAt (names : List (List ℕ)) (cs ss : List ℕ) (fs : List (Ident Spot)) (d : Decl Spot) (part : List (Spot × Spot)) (answer : Option (Decl Spot)) : Type 0 where
  pub state : Analyzer Spot
  pub from : ℕ
  pub to : ℕ
  pub settles : Settled cs ss from state
  pub own : OwnLabels from to (statements_of d)
  pub functions : state.function_list ≡ fs
  pub is : part ≡ drop (length state.prunings.skips) (V'.analyze_decl names d state).1.prunings.skips
  pub answers : answer ≡ some (V'.analyze_decl names d state).0

-- every declaration but the first is met in the state that the one before it left
pub part_at : {cs ss : List ℕ} {m : ℕ} {ds : List (Decl Spot)} {a : Analyzer Spot} (names : List (List ℕ)) (k : ℕ) (d : Decl Spot) → Numbered m ds → Settled cs ss m a → get_elem? ds k ≡ some d → PartAt names cs ss a.function_list d (get_or (parts names ds a) k []) (get_elem? (V'.in_turn (V'.analyze_decl names) ds a).0 k)
unfolding parts V'.in_turn S.◌>>=◌ S.ret
part_at names k d n_nil s h = none_some d h
part_at {cs} {ss} {a = a} names zero d (n_cons {d = c} {ds} o r) s h =
    let z : c ≡ d = cc in
    subst (λ (x : Decl Spot). PartAt names cs ss a.function_list x (get_or (parts names (c ∷ ds) a) 0 []) (some (V'.analyze_decl names c a).0)) z (record { state = a; from = _; to = _; settles = s; own = o; functions = refl; is = refl; answers = refl })
part_at {a = a} names (suc k) d (n_cons {d = c} o r) s h =
    let p = part_at names k d r (settled_decl names c o s) h in
    record { state = p.state; from = p.from; to = p.to; settles = p.settles; own = p.own; functions = p.functions ∙ ((g_decl names c).go a).functions; is = p.is; answers = p.answers }

-- FUNCTIONS

-- records in offsets
offsets-append : (xs ys : List (Spot × Spot)) → offsets (xs ++ ys) ≡ offsets xs ++ offsets ys
unfolding offsets
offsets-append [] ys = refl
offsets-append (x ∷ xs) ys = ap (λ (l : List (ℕ × ℕ)). (x.0.from, x.1.from) ∷ l) (offsets-append xs ys)

cancel : (xs ys zs : List (ℕ × ℕ)) → xs ++ ys ≡ xs ++ zs → ys ≡ zs
cancel xs ys zs e = sym (drop-append_seam xs ys) ∙ ap (drop (length xs)) e ∙ drop-append_seam xs zs

-- what a declaration adds, in offsets
part_offsets : (names : List (List ℕ)) (d : Decl Spot) (a : Analyzer Spot) (rs : List (ℕ × ℕ)) → offsets (V'.analyze_decl names d a).1.prunings.skips ≡ offsets a.prunings.skips ++ rs → offsets (drop (length a.prunings.skips) (V'.analyze_decl names d a).1.prunings.skips) ≡ rs
part_offsets names d a rs e =
    let g = (g_decl names d).go a in
    let z : drop (length a.prunings.skips) (V'.analyze_decl names d a).1.prunings.skips ≡ g.added = ap (drop (length a.prunings.skips)) g.grows ∙ drop-append_seam a.prunings.skips g.added in
    ap offsets z ∙ cancel (offsets a.prunings.skips) _ rs (sym (offsets-append a.prunings.skips g.added) ∙ ap offsets (sym g.grows) ∙ e)

-- a function whose name was not there before is kept
pub kept_function : (f : ℕ) (p q : Spot) (i : Ident Spot) (ps : List (Param Spot)) (b : Maybe Spot (Body Spot)) (t : Maybe Spot (Ty Spot)) (a : Analyzer Spot) → is_some (first_named i.name a.function_list) ≡ false → (V'.predeclare (function f p q i ps b t) a).0 ≡ function f p q (Q.authoritative a i) ps b t
unfolding V'.predeclare S.◌>>=◌ S.ret Q.declare_function V'.declared_as Q.unless_duplicate is_some
kept_function f p q i ps b t a h = go (first_named i.name a.function_list) h
  where
    go : (o : Option (Ident Spot)) → is_some o ≡ false → V'.declared_as (λ j. function f p q j ps b t) (Q.unless_duplicate 7 (Q.authoritative a i) o) ≡ function f p q (Q.authoritative a i) ps b t
    go none e = refl
    go (some j) e = true_false e

-- THE SECOND PASS, of declarations that went through the first: its list is what pruning on skeletons refuses
second_pass : (names : List (List ℕ)) (ds : List (Decl Spot)) (k f : ℕ) (p q : Spot) (i : Ident Spot) (ps : List (Param Spot)) (b : Body Spot) (t : Maybe Spot (Ty Spot))
    → Numbered 1 ds
    → get_elem? ds k ≡ some (function f p q i ps (ok b) t)
    → is_in i.name (flat_map function_names (take k ds)) ≡ false
    → premise b.statements ≡ true
    → offsets (get_or (parts_of names ds) k []) ≡ pruned_list b (names_at ds ps)
unfolding parts_of names_at names_before statements_of
second_pass names ds k f p q i ps b t o h g e =
    let aₖ = (V'.in_turn V'.predeclare (take k ds) Q.begin).1 in
    let z = predeclared_at ds Q.begin k (function f p q i ps (ok b) t) h ∙ ap (λ (d : Decl Spot). some d) (kept_function f p q i ps (ok b) t aₖ (earlier ds k i.name ∙ g)) in
    let r = part_at names k _ (numbered_predeclared Q.begin o) (settled ds 1) z in
    ap offsets r.is ∙ part_offsets names _ r.state _ (function_list names f p q _ ps b t r.settles r.own e)

-- EVERYTHING ELSE

-- a constant's value holds no use of a local
constant-skips : {cs ss : List ℕ} {m : ℕ} {a : Analyzer Spot} (names : List (List ℕ)) (f : ℕ) (p q : Spot) (i : Ident Spot) (x : Expr Spot) (t : Maybe Spot (Ty Spot)) → Settled cs ss m a → (V'.analyze_decl names (constant f p q i x t) a).1.prunings.skips ≡ a.prunings.skips
unfolding V'.analyze_decl V'.analyze_constexpr V'.in_constexpr_of Q.with_containment S.◌>>=◌ S.ret Q.variables
constant-skips {a = a} names f p q i x t s =
    let a₁ = (V'.analyze_constexpr i x a).1 in
    let u = steady_node x (V'.in_constexpr_of (some i) a) in
    ap (λ (z : Prunings Spot). z.skips) ((l_bind (l_maybe t) (λ y. l_found i none y)).same a₁) ∙ u.grows ∙ ap (λ (l : List (Spot × Spot)). a.prunings.skips ++ l) (u.quiet (record { stand = (all_stand s).stand })) ∙ append-nil _

-- a function with a body
unfoldable body_of : Decl Spot → Bool
body_of (constant f p q i x t) = false
body_of (function f p q i ps b t) = is_body b
body_of (function_head f p q i ps t) = false
body_of (structure f p i ms t) = false
body_of (import b p) = false
body_of (bad_decl z) = false

-- what has no body puts nothing into the list
silent : {cs ss : List ℕ} {m : ℕ} {a : Analyzer Spot} (names : List (List ℕ)) (d : Decl Spot) → Settled cs ss m a → body_of d ≡ false → (V'.analyze_decl names d a).1.prunings.skips ≡ a.prunings.skips
unfolding body_of is_body V'.analyze_decl S.ret
silent names (constant f p q i x t) s h = constant-skips names f p q i x t s
silent names (function f p q i ps (ok b) t) s h = true_false h
silent {a = a} names (function f p q i ps (err z) t) s h = ap (λ (y : Prunings Spot). y.skips) ((l_bodyless names f p q i ps z t).same a)
silent {a = a} names (function_head f p q i ps t) s h = ap (λ (y : Prunings Spot). y.skips) ((l_head names f p q i ps t).same a)
silent {a = a} names (structure f p i ms t) s h = ap (λ (y : Prunings Spot). y.skips) ((l_structure names f p i ms t).same a)
silent names (import b p) s h = refl
silent names (bad_decl z) s h = refl

-- a function that is not kept is dropped in predeclaration
body_as : (g : Ident Spot → Decl Spot) (r : Maybe Spot (Ident Spot)) → ((i : Ident Spot) → body_of (g i) ≡ false) → body_of (V'.declared_as g r) ≡ false
unfolding V'.declared_as body_of
body_as g (ok i) h = h i
body_as g (err z) h = refl

-- by whether its name was there before
body_function : (f : ℕ) (p q : Spot) (i : Ident Spot) (ps : List (Param Spot)) (b : Maybe Spot (Body Spot)) (t : Maybe Spot (Ty Spot)) (o : Option (Ident Spot)) (j : Ident Spot) → (not (is_some o) && is_body b) ≡ false → body_of (V'.declared_as (λ j. function f p q j ps b t) (Q.unless_duplicate 7 j o)) ≡ false
unfolding V'.declared_as Q.unless_duplicate body_of is_some
body_function f p q i ps b t none j h = h
body_function f p q i ps b t (some j') j h = refl

-- so what is no kept function with a body has none any more
bodyless : (d : Decl Spot) (a : Analyzer Spot) (fs : List ℕ) → ((x : ℕ) → is_some (first_named x a.function_list) ≡ is_in x fs) → is_kept fs d ≡ false → body_of (V'.predeclare d a).0 ≡ false
unfolding V'.predeclare S.◌>>=◌ S.ret Q.declare_function is_kept body_of
bodyless (constant f p q i x t) a fs e h = body_as _ _ (λ j. refl)
bodyless (function f p q i ps b t) a fs e h = body_function f p q i ps b t (first_named i.name a.function_list) _ (ap (λ (y : Bool). not y && is_body b) (e i.name) ∙ h)
bodyless (function_head f p q i ps t) a fs e h = body_as _ _ (λ j. refl)
bodyless (structure f p i ms t) a fs e h = body_as _ _ (λ j. refl)
bodyless (import b p) a fs e h = refl
bodyless (bad_decl z) a fs e h = refl

-- what is no kept function with a body has an empty part
nothing_else : (names : List (List ℕ)) (ds : List (Decl Spot)) (k : ℕ) (d : Decl Spot) → Numbered 1 ds → get_elem? ds k ≡ some d → is_kept (flat_map function_names (take k ds)) d ≡ false → get_or (parts_of names ds) k [] ≡ []
unfolding parts_of
nothing_else names ds k d o h e =
    let aₖ = (V'.in_turn V'.predeclare (take k ds) Q.begin).1 in
    let r = part_at names k _ (numbered_predeclared Q.begin o) (settled ds 1) (predeclared_at ds Q.begin k d h) in
    let z = silent names (V'.predeclare d aₖ).0 r.settles (bodyless d aₖ _ (earlier ds k) e) in
    r.is ∙ ap (drop (length r.state.prunings.skips)) z ∙ drop_all r.state.prunings.skips

-- THE THEOREM
pub demand3 : Demand3Holds
demand3 names ds = record {
  demand = λ k f p q i ps b t h g e. subst (λ (rs : List (ℕ × ℕ)). NamesSkipped (body_acts b (names_at (label_references ds) ps)) rs) (sym (second_pass names (label_references ds) k f p q i ps b t (numbered ds) h g e)) (demand3_pruned ds k f p q i ps b t h e);
  nothing_else = λ k d h e. nothing_else names (label_references ds) k d (numbered ds) h e;
  whole = whole names (label_references ds);
}

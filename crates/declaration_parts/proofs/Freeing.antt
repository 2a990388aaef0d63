-- A declaration is analysed in no constant's value, and leaves it so.
use mathlib.Core.Path.{◌≡◌, refl, ◌∙◌}
use mathlib.Core.Bool.{true}
use mathlib.Core.List.{List, [], ◌∷◌}
use mathlib.Core.Option.{Option, none, some}
use Prim.Native.Nat.{ℕ}
use Rattle.penne.specs.Tree.{Spot, Ident, Maybe, ok, err, Ty, plain, array, array_with_named_length, arraylike, struct, word, unresolved, nameless, pointer, view, Param, Body, Expr, Decl, constant, function, function_head, structure, import, bad_decl}
use Rattle.penne.specs.State as S
use Rattle.penne.specs.Containers.{Containment, found_container}
use Rattle.penne.specs.Scopes.{Analyzer, Pass}
use Rattle.penne.specs.Scopes as Q
use Rattle.penne.specs.Variables as V'
use Rattle.walk.proofs.Tables.{found_whose}
use Rattle.statement_parts.specs.Stating.{is_free}
use Rattle.statement_parts.proofs.Free.{free_same, within_declare, within_body}
use Rattle.types.proofs.Within.{Within, within_maybe, within_then}

-- found_container does not change in whose value the walk is
abbrev whose : Containment Spot → Option (Ident Spot)
whose s = s.in_constexpr_of_constant

whose_try : {A B : Type 0} (m : S.State (Containment Spot) (Maybe Spot A)) (f : A → S.State (Containment Spot) (Maybe Spot B)) (s : Containment Spot) → whose (m s).1 ≡ whose s → ((x : A) (u : Containment Spot) → whose (f x u).1 ≡ whose u) → whose ((S.◌>>?◌ m f) s).1 ≡ whose s
unfolding S.◌>>?◌ S.◌>>=◌ S.ret S.or_poison
whose_try {A} m f s e h = go (m s).0 (m s).1 e
  where
    go : (r : Maybe Spot A) (u : Containment Spot) → whose u ≡ whose s → whose (S.or_poison f r u).1 ≡ whose s
    go (ok x) u e = h x u ∙ e
    go (err z) u e = e

whose_found : (c : Ident Spot) (m : Option (Ident Spot)) (t : Ty Spot) (s : Containment Spot) → whose (found_container c m t s).1 ≡ whose s
unfolding found_container S.ret
whose_found c m (plain k) s = refl
whose_found c m (array t n) s = whose_try _ _ s (whose_found c m t s) (λ _ _. refl)
whose_found c m (array_with_named_length t i) s = whose_try _ _ s (whose_found c m t s) (λ _ u. whose_try _ _ u (found_whose c m i u) (λ _ _. refl))
whose_found c m (arraylike k t) s = whose_try _ _ s (whose_found c m t s) (λ _ _. refl)
whose_found c m (struct i) s = whose_try _ _ s (found_whose c m i s) (λ _ _. refl)
whose_found c m (word i n) s = whose_try _ _ s (found_whose c m i s) (λ _ _. refl)
whose_found c m (unresolved i) s = whose_try _ _ s (found_whose c m i s) (λ _ _. refl)
whose_found c m nameless s = refl
whose_found c m (pointer t) s = refl
whose_found c m (view t) s = refl

-- THE PARTS OF A DECLARATION

within_found : (c : Ident Spot) (m : Option (Ident Spot)) (t : Maybe Spot (Ty Spot)) (a : Analyzer Spot) → Within a (V'.found_maybe c m t a).1
unfolding V'.found_maybe Q.on_containment Q.with_containment S.ret
within_found c m (ok t) a = record { is = whose_found c m t a.containment }
within_found c m (err z) a = record { is = refl }

within_name : (k : ℕ) (i : Maybe Spot (Ident Spot)) (a : Analyzer Spot) → Within a (V'.declare_maybe k i a).1
unfolding V'.declare_maybe S.ret
within_name k (ok i) a = within_declare k i a
within_name k (err z) a = record { is = refl }

within_param : (k : ℕ) (x : Param Spot) (a : Analyzer Spot) → Within a (V'.analyze_param k x a).1
unfolding V'.analyze_param S.◌>>=◌ S.ret
within_param k x a = within_then (within_name k x.ident a) (within_maybe x.type (V'.declare_maybe k x.ident a).1)

within_founded : (c : Ident Spot) (i : Maybe Spot (Ident Spot)) (t : Maybe Spot (Ty Spot)) (a : Analyzer Spot) → Within a (V'.analyze_wellfoundedness c i t a).1
unfolding V'.analyze_wellfoundedness S.ret
within_founded c (ok i) t a = within_found c (some i) t a
within_founded c (err z) t a = record { is = refl }

within_member : (c : Ident Spot) (x : Param Spot) (a : Analyzer Spot) → Within a (V'.analyze_member c x a).1
unfolding V'.analyze_member S.◌>>=◌ S.ret
within_member c x a = let m = V'.analyze_param 6 x a in within_then (within_param 6 x a) (within_founded c m.0.ident m.0.type m.1)

within_each : {A : Type 0} (f : A → Pass Spot A) → ((x : A) (a : Analyzer Spot) → Within a (f x a).1) → (xs : List A) (a : Analyzer Spot) → Within a (V'.in_turn f xs a).1
unfolding V'.in_turn S.◌>>=◌ S.ret
within_each f h [] a = record { is = refl }
within_each f h (x ∷ xs) a = within_then (h x a) (within_each f h xs (f x a).1)

within_scope : {A : Type 0} (m : Pass Spot A) → ((a : Analyzer Spot) → Within a (m a).1) → (a : Analyzer Spot) → Within a (Q.in_new_scope m a).1
unfolding Q.in_new_scope Q.with_stack
within_scope m h a = record { is = (h (Q.with_stack a (record { constants = a.variable_stack.constants; locals = a.variable_stack.locals; layer = _ }))).is }

within_inside : (ps : List (Param Spot)) (b : Maybe Spot (Body Spot)) (a : Analyzer Spot) → Within a (V'.analyze_params_and_body ps b a).1
unfolding V'.analyze_params_and_body S.◌>>=◌ S.ret
within_inside ps b a = within_then (within_each (V'.analyze_param 5) (within_param 5) ps a) (within_body b _)

within_function_of : (names : List (List ℕ)) (f : ℕ) (p q : Spot) (ps : List (Param Spot)) (b : Maybe Spot (Body Spot)) (t : Maybe Spot (Ty Spot)) (r : Maybe Spot (Ident Spot)) (a : Analyzer Spot) → Within a (V'.function_of names f p q ps b t r a).1
unfolding V'.function_of S.◌>>=◌ S.ret
within_function_of names f p q ps b t (ok i) a = within_maybe t a
within_function_of names f p q ps b t (err z) a = record { is = refl }

within_head_of : (f : ℕ) (p q : Spot) (ps : List (Param Spot)) (t : Maybe Spot (Ty Spot)) (r : Maybe Spot (Ident Spot)) (a : Analyzer Spot) → Within a (V'.function_head_of f p q ps t r a).1
unfolding V'.function_head_of S.◌>>=◌ S.ret
within_head_of f p q ps t (ok i) a = within_maybe t a
within_head_of f p q ps t (err z) a = record { is = refl }

-- A DECLARATION

free_is : (a : Analyzer Spot) → whose a.containment ≡ none → is_free a ≡ true
unfolding is_free
free_is a e = rw e

free_after : (i : Ident Spot) (x : Expr Spot) (a : Analyzer Spot) → is_free (V'.analyze_constexpr i x a).1 ≡ true
unfolding V'.analyze_constexpr V'.in_constexpr_of Q.with_containment
free_after i x a = free_is _ refl

pub free_decl : (names : List (List ℕ)) (d : Decl Spot) (a : Analyzer Spot) → is_free a ≡ true → is_free (V'.analyze_decl names d a).1 ≡ true
unfolding V'.analyze_decl S.◌>>=◌ S.ret Q.use_function
free_decl names (constant f p q i x t) a e =
    let b = V'.analyze_constexpr i x a in
    let c = V'.analyze_maybe_type t b.1 in
    free_same (within_then (within_maybe t b.1) (within_found i none c.0 c.1)) ∙ free_after i x a
free_decl names (function f p q i ps b t) a e = free_same (within_then (within_scope (V'.analyze_params_and_body ps b) (within_inside ps b) a) (within_function_of names f p q _ _ t _ _)) ∙ e
free_decl names (function_head f p q i ps t) a e = free_same (within_then (within_scope (V'.in_turn (V'.analyze_param 5) ps) (within_each (V'.analyze_param 5) (within_param 5) ps) a) (within_head_of f p q _ t _ _)) ∙ e
free_decl names (structure f p i ms t) a e = free_same (within_then (within_scope (V'.in_turn (V'.analyze_member i) ms) (within_each (V'.analyze_member i) (within_member i) ms) a) (within_maybe t _)) ∙ e
free_decl names (import b p) a e = e
free_decl names (bad_decl z) a e = e

-- Whatever parameters and members are analysed, the containers keep their rows, and `in_constexpr_of_constant` stays.
use mathlib.Core.Path.{◌≡◌, refl, ◌∙◌}
use mathlib.Core.List.{List}
use mathlib.Core.Option.{Option}
use native.Mathlib.Omega.{arith}
use Prim.Native.Nat.{ℕ}
use Rattle.penne.specs.Tree.{Spot, Ident, Maybe, ok, err, Ty, plain, array, array_with_named_length, arraylike, struct, word, unresolved, nameless, pointer, view, Param}
use Rattle.penne.specs.State as S
use Rattle.penne.specs.Containers.{Containment, found_container_1, found_container}
use Rattle.penne.specs.Scopes.{Analyzer, on_containment, with_containment, next_id, with_stack, declare_variable}
use Rattle.penne.specs.Variables.{analyze_maybe_type, declare_maybe, analyze_param, found_maybe, analyze_wellfoundedness, analyze_member}
use Rattle.penne.proofs.IdsPass.{grown_param, grown_member}
use Rattle.containers.proofs.Starting.{Kept, found_kept}
use Rattle.walk.specs.Walking.{Ground, Good}
use Rattle.walk.proofs.Tables.{found_whose}
use Rattle.types.proofs.Rows.{rows_type}
use Rattle.types.proofs.Within.{within_type}
use Rattle.entries.specs.Entering.{Outside, InStructure, param_walk, member_walk}

pub record Stays (s u : Containment Spot) : Type 0 where
  pub rows : Kept s.containers u.containers
  pub whose : u.in_constexpr_of_constant ≡ s.in_constexpr_of_constant

stays_none : {s : Containment Spot} → Stays s s
stays_none = record { rows = record { long = refl; same = λ r h. refl }; whose = refl }

stays_then : {s u v : Containment Spot} → Stays s u → Stays u v → Stays s v
stays_then p q = let e = p.rows.long in record { rows = record { long = q.rows.long ∙ e; same = λ r h. q.rows.same r (omega arith) ∙ p.rows.same r h }; whose = q.whose ∙ p.whose }

-- found_container
stays_found1 : (c : Ident Spot) (m : Option (Ident Spot)) (x : Ident Spot) (s : Containment Spot) → Stays s (found_container_1 c m x s).1
stays_found1 c m x s = record { rows = found_kept c m x s; whose = found_whose c m x s }

stays_try : {A B : Type 0} (m : S.State (Containment Spot) (Maybe Spot A)) (f : A → S.State (Containment Spot) (Maybe Spot B)) (s : Containment Spot) → Stays s (m s).1 → ((x : A) (u : Containment Spot) → Stays u (f x u).1) → Stays s ((S.◌>>?◌ m f) s).1
unfolding S.◌>>?◌ S.◌>>=◌ S.or_poison S.ret
stays_try {A} m f s p q = go (m s).0 (m s).1 p
  where
    go : (y : Maybe Spot A) (u : Containment Spot) → Stays s u → Stays s (S.or_poison f y u).1
    go (ok x) u h = stays_then h (q x u)
    go (err z) u h = h

stays_found : (c : Ident Spot) (m : Option (Ident Spot)) (t : Ty Spot) (s : Containment Spot) → Stays s (found_container c m t s).1
unfolding found_container S.ret
stays_found c m (plain k) s = stays_none
stays_found c m (array t n) s = stays_try _ _ s (stays_found c m t s) (λ _ _. stays_none)
stays_found c m (array_with_named_length t i) s = stays_try _ _ s (stays_found c m t s) (λ _ u. stays_try _ _ u (stays_found1 c m i u) (λ _ _. stays_none))
stays_found c m (arraylike k t) s = stays_try _ _ s (stays_found c m t s) (λ _ _. stays_none)
stays_found c m (struct i) s = stays_try _ _ s (stays_found1 c m i s) (λ _ _. stays_none)
stays_found c m (word i n) s = stays_try _ _ s (stays_found1 c m i s) (λ _ _. stays_none)
stays_found c m (unresolved i) s = stays_try _ _ s (stays_found1 c m i s) (λ _ _. stays_none)
stays_found c m nameless s = stays_none
stays_found c m (pointer t) s = stays_none
stays_found c m (view t) s = stays_none

stays_wellfounded : (c : Ident Spot) (i : Maybe Spot (Ident Spot)) (t : Maybe Spot (Ty Spot)) (a : Analyzer Spot) → Stays a.containment (analyze_wellfoundedness c i t a).1.containment
unfolding analyze_wellfoundedness found_maybe on_containment with_containment S.ret
stays_wellfounded c (ok i) (ok t) a = stays_found c _ t a.containment
stays_wellfounded c (ok i) (err z) a = stays_none
stays_wellfounded c (err z) t a = stays_none

-- name and type
stays_name : (k : ℕ) (i : Maybe Spot (Ident Spot)) (a : Analyzer Spot) → Stays a.containment (declare_maybe k i a).1.containment
unfolding declare_maybe declare_variable next_id with_stack S.ret
stays_name k (ok i) a = stays_none
stays_name k (err z) a = stays_none

stays_type : (t : Maybe Spot (Ty Spot)) (a : Analyzer Spot) → Stays a.containment (analyze_maybe_type t a).1.containment
unfolding analyze_maybe_type S.ret
stays_type (ok t) a = record { rows = rows_type t a; whose = (within_type t a).is }
stays_type (err z) a = stays_none

pub stays_param : (k : ℕ) (x : Param Spot) (a : Analyzer Spot) → Stays a.containment (analyze_param k x a).1.containment
unfolding analyze_param S.◌>>=◌ S.ret
stays_param k x a = stays_then (stays_name k x.ident a) (stays_type x.type (declare_maybe k x.ident a).1)

stays_member : (c : Ident Spot) (x : Param Spot) (a : Analyzer Spot) → Stays a.containment (analyze_member c x a).1.containment
unfolding analyze_member S.◌>>=◌ S.ret
stays_member c x a = stays_then (stays_param 6 x a) (stays_wellfounded c _ _ (analyze_param 6 x a).1)

-- WHAT IS KNOWN OF THE GROUND BEHIND THEM

outside_on : {a b : Ground} → Stays a.st.containment b.st.containment → Outside a → Outside b
outside_on k h = record { is = k.whose ∙ h.is }

inside_on : {row : ℕ} {c : Ident Spot} {a b : Ground} → Stays a.st.containment b.st.containment → InStructure row c a → InStructure row c b
inside_on {row} k h = let e = k.rows.long in let l = h.low in record { outside = outside_on k h.outside; low = omega arith; is = k.rows.same row l ∙ h.is }

-- the name alone
pub inside_name : {row : ℕ} {c : Ident Spot} (k : ℕ) (i : Maybe Spot (Ident Spot)) (xs : List ℕ) (a : Ground) → InStructure row c a → InStructure row c (record { out = xs; st = (declare_maybe k i a.st).1; rest = a.rest })
inside_name k i xs a h = inside_on {a = a} {b = record { out = xs; st = (declare_maybe k i a.st).1; rest = a.rest }} (stays_name k i a.st) h

pub good_param : (x : Param Spot) (a : Ground) → Good (param_walk x a) → Good a
good_param x a z = record { few = omega (arith, z.few, (grown_param 5 x a.st).takes.lower); fit = z.fit }

pub good_member : (c : Ident Spot) (x : Param Spot) (a : Ground) → Good (member_walk c x a) → Good a
good_member c x a z = record { few = omega (arith, z.few, (grown_member c x a.st).takes.lower); fit = z.fit }

pub outside_param : (x : Param Spot) (a : Ground) → (Good a → Outside a) → Good (param_walk x a) → Outside (param_walk x a)
outside_param x a h z = outside_on {a = a} {b = param_walk x a} (stays_param 5 x a.st) (h (good_param x a z))

pub inside_member : {row : ℕ} (c : Ident Spot) (x : Param Spot) (a : Ground) → (Good a → InStructure row c a) → Good (member_walk c x a) → InStructure row c (member_walk c x a)
inside_member c x a h z = inside_on {a = a} {b = member_walk c x a} (stays_member c x a.st) (h (good_member c x a z))

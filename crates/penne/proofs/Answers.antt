-- What becomes of the bases of an expression: each that stands is answered by kind 13 or Poisoned where its local does not stand, and keeps its identifier where it does.
use Prim.Native.Nat.{ℕ, suc, ◌+◌, ◌<◌, ◌≤◌}
use mathlib.Core.Bool.{Bool, true, false}
use mathlib.Core.Path.{◌≡◌, refl, sym, ◌∙◌, ap, subst}
use mathlib.Core.List.{List, [], ◌∷◌, ◌++◌}
use mathlib.Core.Option.{Option, none, some}
use native.Mathlib.Omega.{arith}
use lib.ListN.{length, length-append}
use lib.Dec.{eqb}
use borrow.Author.Tests.{eqb-true}
use Rattle.penne.specs.Find.{first, first_named, resolved}
use Rattle.penne.specs.Pruning.{Fate, pruned, poisoned, standing, fate}
use Rattle.penne.specs.Scopes.{Analyzer}
use Rattle.penne.specs.Tree.{Spot, Ident, Maybe, ok, err, Ty, expr, Sort, list_of, Node, nil, cons, binary, unary, boolean, signed, bits, string, array_literal, structural, parenthesized, deref, bit_cast, type_cast, length_of_array, size_of, function_call, bad_expr, reference, element, member, member_expression, Expr, Carried}
use Rattle.penne.specs.Walks.{Act, use_of, Target, local, no_local, Names, resolve, stands, base_use, uses}
use Rattle.penne.specs.Standing.{Point, base, Outline, empty, point, both, outline, acts_at, size, Stands, here, in_first, in_second, any_type, Refused, may_be_skipped}
use Rattle.penne.specs.State as S
use Rattle.penne.specs.Scopes as Q
use Rattle.penne.specs.Variables as V'
use Rattle.penne.specs.Standing as D
use Rattle.penne.proofs.Booleans.{true_false, none_some}
use Rattle.penne.proofs.PruningIsFlow.{St, gone_at}
use Rattle.penne.proofs.Steady.{is_gone, gone_id, steady_node, steady_base, steady_type}
use Rattle.penne.proofs.Beside.{Beside, Found, found, unfound, beside_find, beside_map}
use Rattle.penne.proofs.Looks.{Looks, l_local, Sees, sees_after, sees_scope, is_ok, stays_type, typed, looked, looked_base}

-- act x stands at this place of the text
pub data Nth : List Act → ℕ → Act → Type 0 where
  n_here : {x : Act} {xs : List Act} → Nth (x ∷ xs) 0 x
  n_later : {x y : Act} {xs : List Act} {at : ℕ} → Nth xs at x → Nth (y ∷ xs) (suc at) x

-- with more acts behind or before
pub nth_left : {xs : List Act} {at : ℕ} {x : Act} (ys : List Act) → Nth xs at x → Nth (xs ++ ys) at x
nth_left ys n_here = n_here
nth_left ys (n_later p) = n_later (nth_left ys p)

pub nth_right : (xs : List Act) {ys : List Act} {at : ℕ} {x : Act} → Nth ys at x → Nth (xs ++ ys) (length xs + at) x
nth_right [] {ys} {at} {x} p = subst (λ (m : ℕ). Nth ys m x) (omega arith) p
nth_right (y ∷ xs) {ys} {at} {x} p = subst (λ (m : ℕ). Nth (y ∷ (xs ++ ys)) m x) (omega arith) (n_later (nth_right xs p))

-- K k x: declaration statement k is answered with the id x

-- what becomes of the use i, by what it resolves to and by whether that does not stand
pub data Becomes (K : ℕ → ℕ → Type 0) (i : Ident Spot) : Target → Bool → Maybe Spot (Ident Spot) → Type 0 where
  is_refused : {k d : ℕ} {r : Maybe Spot (Ident Spot)} → Refused r → Becomes K i (local k d) true r
  is_kept : {k d x : ℕ} → K k x → Becomes K i (local k d) false (ok (resolved i x 0))
  is_other : {r : Maybe Spot (Ident Spot)} → Becomes K i no_local false r

-- the use i is at this place among these, and is answered by r
pub record Answered (K : ℕ → ℕ → Type 0) (f : ℕ → St) (xs : List Act) (at : ℕ) (i : Ident Spot) (r : Maybe Spot (Ident Spot)) : Type 0 where
  pub target : Target
  pub nth : Nth xs at (use_of i.place.from target)
  pub becomes : Becomes K i target (gone_at f target) r

-- a variable that a search can find is one whose declaration stands in the answer: a later one of the same name is a duplicate
pub data Known (K : ℕ → ℕ → Type 0) (is : List (Ident Spot)) (next : ℕ) : Target → Ident Spot → Type 0 where
  k_local : {k d : ℕ} {i : Ident Spot} → i.id < next → (first_named i.name is ≡ some i → K k i.id) → Known K is next (local k d) i
  k_other : {i : Ident Spot} → Known K is next no_local i

-- so it is with all names in scope
pub record Knows (K : ℕ → ℕ → Type 0) (n : Names) (a : Analyzer Spot) : Type 0 where
  pub entries : Beside (Known K (Q.variables a) a.resolution_id) n.scope (Q.variables a)

-- it stays so while the stack stays
pub knows_after : {K : ℕ → ℕ → Type 0} {n : Names} {a b : Analyzer Spot} → b.variable_stack ≡ a.variable_stack → a.resolution_id ≤ b.resolution_id → Knows K n a → Knows K n b
unfolding Q.variables
knows_after {K} {n} {a} {b} e r v = record { entries = subst (λ (z : Q.Scope Spot). Beside (Known K (z.constants ++ z.locals) b.resolution_id) n.scope (z.constants ++ z.locals)) (sym e) (beside_map go v.entries) }
  where
    is : List (Ident Spot)
    is = a.variable_stack.constants ++ a.variable_stack.locals

    go : (t : Target) (i : Ident Spot) → Known K is a.resolution_id t i → Known K is b.resolution_id t i
    go (local k d) i (k_local p q) = k_local {i = i} (omega arith) q
    go no_local i k_other = k_other

-- the layer does not matter
pub knows_scope : {K : ℕ → ℕ → Type 0} {n : Names} {a : Analyzer Spot} (m : ℕ) → Knows K n a → Knows K n (Q.with_stack a (record { constants = a.variable_stack.constants; locals = a.variable_stack.locals; layer = m }))
unfolding Q.with_stack Q.variables
knows_scope m k = record { entries = k.entries }

-- with more uses behind or before
answered_left : {K : ℕ → ℕ → Type 0} {f : ℕ → St} {xs : List Act} {at : ℕ} {i : Ident Spot} {r : Maybe Spot (Ident Spot)} (ys : List Act) → Answered K f xs at i r → Answered K f (xs ++ ys) at i r
answered_left ys p = record { target = p.target; nth = nth_left ys p.nth; becomes = p.becomes }

answered_right : {K : ℕ → ℕ → Type 0} {f : ℕ → St} (m : ℕ) (xs : List Act) {ys : List Act} {at : ℕ} {i : Ident Spot} {r : Maybe Spot (Ident Spot)} → m ≡ length xs → Answered K f ys at i r → Answered K f (xs ++ ys) (m + at) i r
answered_right m xs {ys} {at} {i} e p = record { target = p.target; nth = subst (λ (z : ℕ). Nth (xs ++ ys) (z + at) (use_of i.place.from p.target)) (sym e) (nth_right xs p.nth); becomes = p.becomes }

-- THE USE

-- what a search finds has the name
found_name : (x : ℕ) (is : List (Ident Spot)) (j : Ident Spot) → first_named x is ≡ some j → j.name ≡ x
unfolding first_named first
found_name x [] j h = none_some j h
found_name x (i ∷ is) j h = (elim (eqb i.name x) as (λ b. eqb i.name x ≡ b → j.name ≡ x) [
  | true ↦ λ e. (let z : some i ≡ some j = rw (e, first) at h in let y : j ≡ i = cc in ap (λ (w : Ident Spot). w.name) y ∙ eqb-true i.name x e)
  | false ↦ λ e. found_name x is j (rw (e, first) at h)
]) refl

-- the same in other words
becomes_as : {K : ℕ → ℕ → Type 0} {i : Ident Spot} {t : Target} {b c : Bool} {r s : Maybe Spot (Ident Spot)} → b ≡ c → r ≡ s → Becomes K i t b r → Becomes K i t c s
becomes_as {K} {i} {t} {b} {c} {r} {s} e f p = subst (λ (x : Maybe Spot (Ident Spot)). Becomes K i t c x) f (subst (λ (x : Bool). Becomes K i t x r) e p)

-- what stands is used as it is
kept_as : (i j : Ident Spot) (a : Analyzer Spot) → a.containment.in_constexpr_of_constant ≡ none → ok (resolved i j.id 0) ≡ (Q.use_as i j a).0
unfolding Q.use_as Q.use_containee S.ret
kept_as i j a e = sym (ap (λ (o : Option (Ident Spot)). (Q.use_containee (resolved i j.id 0) o a).0) e)

-- the use i of the variable j, by what became of it
becomes_by : {K : ℕ → ℕ → Type 0} {f : ℕ → St} (i j : Ident Spot) (t : Target) (x : Fate Spot) (is : List (Ident Spot)) (next : ℕ) (a : Analyzer Spot) → a.containment.in_constexpr_of_constant ≡ none → fate j.id a.prunings ≡ x → first_named j.name is ≡ some j → Looks f a.prunings t j → Known K is next t j → Becomes K i t (gone_at f t) (Q.use_variable_by i j x a).0
unfolding Q.use_variable_by Q.may_be_skipped is_gone gone_id gone_at
becomes_by i j (local k d) (pruned c) is next a o e h (l_local p q) (k_local g y) = becomes_as (sym (ap is_gone e) ∙ q) refl (is_refused may_be_skipped)
becomes_by i j (local k d) poisoned is next a o e h (l_local p q) (k_local g y) = becomes_as (sym (ap is_gone e) ∙ q) refl (is_refused D.poisoned)
becomes_by i j (local k d) standing is next a o e h (l_local p q) (k_local g y) = becomes_as (sym (ap is_gone e) ∙ q) (kept_as i j a o) (is_kept (y h))
becomes_by i j no_local x is next a o e h l y = is_other

becomes_at : {K : ℕ → ℕ → Type 0} {f : ℕ → St} (i : Ident Spot) (t : Target) (o : Option (Ident Spot)) (is : List (Ident Spot)) (next : ℕ) (a : Analyzer Spot) → a.containment.in_constexpr_of_constant ≡ none → first_named i.name is ≡ o → Found (Looks f a.prunings) t o → Found (Known K is next) t o → Becomes K i t (gone_at f t) (Q.use_variable_at i o a).0
unfolding Q.use_variable_at gone_at
becomes_at i t (some j) is next a e h (found q) (found y) = becomes_by i j t _ is next a e refl (ap (λ (x : ℕ). first_named x is) (found_name i.name is j h) ∙ h) q y
becomes_at i (local n d) none is next a e h x y = elim x [ ]
becomes_at i no_local none is next a e h unfound y = is_other

-- the base of a reference
answered_base : {K : ℕ → ℕ → Type 0} (i : Ident Spot) (n : Names) (f : ℕ → St) (a : Analyzer Spot) → Sees n f a → Knows K n a → Answered K f (base_use n (ok i)) 0 i (V'.analyze_base (ok i) a).0
unfolding V'.analyze_base Q.use_variable base_use
answered_base i n f a s k = record {
  target = resolve i.name n.scope;
  nth = n_here;
  becomes = becomes_at i _ _ (Q.variables a) a.resolution_id a s.outside refl (beside_find i.name s.entries) (beside_find i.name k.entries);
}

-- EXPRESSIONS

-- an outline has as many acts as the text
pub record Sized (x : Outline) (xs : List Act) : Type 0 where
  pub same : size x ≡ length xs

-- so it is with an expression
pub sized_empty : Sized empty []
unfolding size
sized_empty = record { same = refl }

sized_base : (n : Names) (b : Maybe Spot (Ident Spot)) → Sized (point (base b)) (base_use n b)
unfolding size acts_at base_use
sized_base n (ok i) = record { same = refl }
sized_base n (err z) = record { same = refl }

pub sized_both : {x y : Outline} {xs ys : List Act} → Sized x xs → Sized y ys → Sized (both x y) (xs ++ ys)
unfolding size
sized_both {xs = xs} {ys} e f = record { same = omega (arith, e.same, f.same, length-append xs ys) }

sized_if : (b : Bool) {x : Outline} {xs : List Act} → Sized x xs → Sized (elim b [ true ↦ x | false ↦ empty ]) (elim b [ true ↦ xs | false ↦ [] ])
sized_if true e = e
sized_if false e = sized_empty

pub sized_uses : {s : Sort} (n : Names) (x : Node Spot s) → Sized (outline (stands n) x) (uses n x)
unfolding outline uses
sized_uses n nil = sized_empty
sized_uses n (cons x xs) = sized_both (sized_uses n x) (sized_uses n xs)
sized_uses n (binary op p q x y) = sized_both (sized_uses n x) (sized_uses n y)
sized_uses n (unary op p q x) = sized_uses n x
sized_uses n (boolean b p) = sized_empty
sized_uses n (signed b p c) = sized_empty
sized_uses n (bits b p c) = sized_empty
sized_uses n (string b p) = sized_empty
sized_uses n (array_literal p c es i) = sized_uses n es
sized_uses n (structural p ms c) = sized_uses n ms
sized_uses n (parenthesized p x) = sized_uses n x
sized_uses n (deref c r) = sized_uses n r
sized_uses n (bit_cast p q c x) = sized_uses n x
sized_uses n (type_cast p q t x) = sized_if (stands n t) (sized_uses n x)
sized_uses n (length_of_array p r) = sized_uses n r
sized_uses n (size_of p t) = sized_empty
sized_uses n (function_call i b c es) = sized_uses n es
sized_uses n (bad_expr z) = sized_empty
sized_uses n (reference d p q b ts) = sized_both (sized_base n b) (sized_uses n ts)
sized_uses n (element e x) = sized_uses n x
sized_uses n (member i o) = sized_empty
sized_uses n (member_expression i o x) = sized_uses n x

-- nothing stands in an empty outline
pub nothing_in : {B : Type 0} {p p' : Point} {x x' : Outline} {at : ℕ} → x ≡ empty → Stands p p' x x' at → B
nothing_in e here = true_false (let z : true ≡ false = cc in z)
nothing_in e (in_first s) = true_false (let z : true ≡ false = cc in z)
nothing_in e (in_second s) = true_false (let z : true ≡ false = cc in z)

-- nor as one
pub nothing_as : {B : Type 0} {p p' : Point} {x x' : Outline} {at : ℕ} → x' ≡ empty → Stands p p' x x' at → B
nothing_as e here = true_false (let z : true ≡ false = cc in z)
nothing_as e (in_first s) = true_false (let z : true ≡ false = cc in z)
nothing_as e (in_second s) = true_false (let z : true ≡ false = cc in z)

-- two expressions, one after the other
answered_both : {K : ℕ → ℕ → Type 0} {f : ℕ → St} {i : Ident Spot} {r : Maybe Spot (Ident Spot)} {x x' y y' : Outline} {at : ℕ} (xs ys : List Act) → Sized x xs → ((m : ℕ) → Stands (base (ok i)) (base r) x x' m → Answered K f xs m i r) → ((m : ℕ) → Stands (base (ok i)) (base r) y y' m → Answered K f ys m i r) → Stands (base (ok i)) (base r) (both x y) (both x' y') at → Answered K f (xs ++ ys) at i r
answered_both xs ys e h g (in_first s) = answered_left ys (h _ s)
answered_both xs ys e h g (in_second s) = answered_right _ xs e.same (g _ s)

-- "A cast whose type is refused never looks at its operand."
answered_cast : {K : ℕ → ℕ → Type 0} {f : ℕ → St} {i : Ident Spot} {r : Maybe Spot (Ident Spot)} {x : Outline} {at : ℕ} (xs : List Act) (p q : Spot) (m : Q.Pass Spot (Expr Spot)) (o : Maybe Spot (Ty Spot)) (b : Bool) (a : Analyzer Spot) → is_ok o ≡ b → (Stands (base (ok i)) (base r) x (outline any_type (m a).0) at → Answered K f xs at i r) → Stands (base (ok i)) (base r) (elim b [ true ↦ x | false ↦ empty ]) (outline any_type (V'.cast_to p q m o a).0) at → Answered K f (elim b [ true ↦ xs | false ↦ [] ]) at i r
unfolding V'.cast_to S.◌>>=◌ S.ret is_ok outline any_type
answered_cast xs p q m (ok t) true a e h s = h s
answered_cast xs p q m (ok t) false a e h s = true_false e
answered_cast xs p q m (err z) true a e h s = true_false (sym e)
answered_cast xs p q m (err z) false a e h s = nothing_in refl s

-- "Arguments of a call to an undefined function are analysed, then dropped with the call."
answered_call : {K : ℕ → ℕ → Type 0} {f : ℕ → St} {i : Ident Spot} {r : Maybe Spot (Ident Spot)} {x : Outline} {at : ℕ} (xs : List Act) (b : ℕ) (c : Carried Spot) (es : Node Spot (list_of expr)) (o : Maybe Spot (Ident Spot)) → (Stands (base (ok i)) (base r) x (outline any_type es) at → Answered K f xs at i r) → Stands (base (ok i)) (base r) x (outline any_type (V'.call_to b c es o)) at → Answered K f xs at i r
unfolding V'.call_to outline
answered_call xs b c es (ok j) h s = h s
answered_call xs b c es (err z) h s = nothing_as refl s

-- a base that came in as a poison is no use
answered_point : {K : ℕ → ℕ → Type 0} {i : Ident Spot} {at : ℕ} (b : Maybe Spot (Ident Spot)) (n : Names) (f : ℕ → St) (a : Analyzer Spot) {r : Maybe Spot (Ident Spot)} → Sees n f a → Knows K n a → Stands (base (ok i)) (base r) (point (base b)) (point (base (V'.analyze_base b a).0)) at → Answered K f (base_use n b) at i r
answered_point (err z) n f a s k x = elim x [ ]
answered_point (ok j) n f a s k here = answered_base j n f a s k

-- all that stands of an expression
pub answered : {K : ℕ → ℕ → Type 0} {s : Sort} {i : Ident Spot} {r : Maybe Spot (Ident Spot)} (x : Node Spot s) (n : Names) (f : ℕ → St) (a : Analyzer Spot) (at : ℕ) → Sees n f a → Knows K n a → Stands (base (ok i)) (base r) (outline (stands n) x) (outline any_type (V'.analyze_node x a).0) at → Answered K f (uses n x) at i r
unfolding V'.analyze_node S.◌>>=◌ S.ret Q.in_new_scope Q.create_anonymous_resolution_id uses outline
answered nil n f a at v k s = nothing_in refl s
answered (cons x xs) n f a at v k s =
    let t = steady_node x a in
    answered_both (uses n x) (uses n xs) (sized_uses n x) (λ m. answered x n f a m v k) (λ m. answered xs n f (V'.analyze_node x a).1 m (sees_after v t (looked x n f a v).contains) (knows_after t.stack t.rise k)) s
answered (binary op p q x y) n f a at v k s =
    let t = steady_node x a in
    answered_both (uses n x) (uses n y) (sized_uses n x) (λ m. answered x n f a m v k) (λ m. answered y n f (V'.analyze_node x a).1 m (sees_after v t (looked x n f a v).contains) (knows_after t.stack t.rise k)) s
answered (unary op p q x) n f a at v k s = answered x n f a at v k s
answered (boolean b p) n f a at v k s = nothing_in refl s
answered (signed b p c) n f a at v k s = nothing_in refl s
answered (bits b p c) n f a at v k s = nothing_in refl s
answered (string b p) n f a at v k s = nothing_in refl s
answered (array_literal p c es i) n f a at v k s = answered es n f _ at (sees_scope _ v) (knows_scope _ k) s
answered (structural p ms c) n f a at v k s = answered ms n f a at v k s
answered (parenthesized p x) n f a at v k s = answered x n f a at v k s
answered (deref c r) n f a at v k s = answered r n f a at v k s
answered (bit_cast p q c x) n f a at v k s = answered x n f a at v k s
answered (type_cast p q t x) n f a at v k s =
    let u = stays_type t n a (typed v) in
    let y = steady_type t a in
    answered_cast (uses n x) p q (V'.analyze_node x) (V'.analyze_type t a).0 (stands n t) (V'.analyze_type t a).1 u.okay (answered x n f _ at (sees_after v y (ap (λ (z : Analyzer Spot). z.containment) u.same)) (knows_after y.stack y.rise k)) s
answered (length_of_array p r) n f a at v k s = answered r n f a at v k s
answered (size_of p t) n f a at v k s = nothing_in refl s
answered (function_call i b c es) n f a at v k s = answered_call (uses n es) b c (V'.analyze_node es a).0 _ (answered es n f a at v k) s
answered (bad_expr z) n f a at v k s = nothing_in refl s
answered (reference d p q b ts) n f a at v k s =
    let t = steady_base b a in
    answered_both (base_use n b) (uses n ts) (sized_base n b) (λ m. answered_point b n f a v k) (λ m. answered ts n f (V'.analyze_base b a).1 m (sees_after v t (looked_base b n f a v).contains) (knows_after t.stack t.rise k)) s
answered (element e x) n f a at v k s = answered x n f a at v k s
answered (member i o) n f a at v k s = nothing_in refl s
answered (member_expression i o x) n f a at v k s = answered x n f a at v k s

-- Names of containers stay: what a type's names were found to be when it was analysed, they are still when its edges are handed over.
use mathlib.Core.Path.{◌≡◌, refl, sym, ap, subst, ◌∙◌}
use mathlib.Core.Bool.{Bool, true, false}
use mathlib.Core.List.{List}
use mathlib.Core.Option.{Option, none, some}
use Prim.Native.Nat.{ℕ, ◌<◌}
use native.Mathlib.Omega.{arith}
use lib.ListN.{length}
use Rattle.penne.specs.Tree.{Spot, Ident, Poison, Maybe, ok, err, Ty, plain, array, array_with_named_length, arraylike, struct, word, unresolved, nameless, pointer, view}
use Rattle.penne.specs.Find.{first_named, resolved}
use Rattle.penne.specs.State.{State, ◌>>=◌, ret, or_poison, ◌>>?◌}
use Rattle.penne.specs.Containers.{Container, Containment, structures, constants, added_ids, add_ids, found_container_1, found_container}
use Rattle.penne.specs.Scopes.{Analyzer, Pass, on_containment, with_containment, undefined, use_containee, use_as, use_constant_at, use_constant, use_struct_at, use_struct}
use Rattle.penne.specs.Variables.{analyze_type}
use Rattle.containers.specs.Table.{at}
use Rattle.containers.specs.Calls.{of_kind}
use Rattle.containers.proofs.Starting.{Kept, found_kept}
use Rattle.walk.specs.Calls.{Resolves, Settles, as_plain, in_array, in_named_length, in_arraylike, as_struct, as_word, as_unresolved, as_nameless, as_pointer, as_view}
use Rattle.walk.proofs.Tables.{found_kind}

-- identifiers and kinds of the containers are the same
pub record SameNames (s s' : Containment Spot) : Type 0 where
  pub rows : Kept s.containers s'.containers
  pub kinds : (structure : Bool) → of_kind structure s'.containers ≡ of_kind structure s.containers

same_names : (s : Containment Spot) → SameNames s s
same_names s = record { rows = record { long = refl; same = λ r h. refl }; kinds = λ k. refl }

names_then : {s s₁ s₂ : Containment Spot} → SameNames s s₁ → SameNames s₁ s₂ → SameNames s s₂
names_then p q = record {
  rows = record { long = q.rows.long ∙ p.rows.long; same = λ r h. let l = p.rows.long in q.rows.same r (omega arith) ∙ p.rows.same r h };
  kinds = λ k. q.kinds k ∙ p.kinds k;
}

pub names_row : {s s' : Containment Spot} → SameNames s s' → (r : ℕ) → r < length s.containers → (at s'.containers r).identifier ≡ (at s.containers r).identifier
names_row p r h = p.rows.same r h

found_names : (c : Ident Spot) (m : Option (Ident Spot)) (x : Ident Spot) (s : Containment Spot) → SameNames s (found_container_1 c m x s).1
found_names c m x s = record { rows = found_kept c m x s; kinds = λ k. found_kind k c m x s }

-- THE RUST'S `?`

try_names : {A B : Type 0} (m : State (Containment Spot) (Maybe Spot A)) (f : A → State (Containment Spot) (Maybe Spot B)) (s : Containment Spot) → SameNames s (m s).1 → ((x : A) (u : Containment Spot) → SameNames u (f x u).1) → SameNames s ((m >>? f) s).1
unfolding ◌>>?◌ ◌>>=◌ or_poison ret
try_names {A} m f s p q = go (m s).0 (m s).1 p
  where
    go : (r : Maybe Spot A) (u : Containment Spot) → SameNames s u → SameNames s (or_poison f r u).1
    go (ok x) u h = names_then h (q x u)
    go (err z) u h = h

-- found_container keeps all names
pub found_type_names : (c : Ident Spot) (o : Option (Ident Spot)) (x : Ty Spot) (s : Containment Spot) → SameNames s (found_container c o x s).1
unfolding found_container ret
found_type_names c o (plain k) s = same_names s
found_type_names c o (array t n) s = try_names (found_container c o t) _ s (found_type_names c o t s) (λ x u. same_names u)
found_type_names c o (array_with_named_length t i) s = try_names (found_container c o t) _ s (found_type_names c o t s) (λ x u. try_names (found_container_1 c o i) _ u (found_names c o i u) (λ j v. same_names v))
found_type_names c o (arraylike k t) s = try_names (found_container c o t) _ s (found_type_names c o t s) (λ x u. same_names u)
found_type_names c o (struct i) s = try_names (found_container_1 c o i) _ s (found_names c o i s) (λ j v. same_names v)
found_type_names c o (word i n) s = try_names (found_container_1 c o i) _ s (found_names c o i s) (λ j v. same_names v)
found_type_names c o (unresolved i) s = try_names (found_container_1 c o i) _ s (found_names c o i s) (λ j v. same_names v)
found_type_names c o nameless s = same_names s
found_type_names c o (pointer t) s = same_names s
found_type_names c o (view t) s = same_names s

pub resolves_kept : {s s' : Containment Spot} {k : Bool} {i i' : Ident Spot} → SameNames s s' → Resolves s k i i' → Resolves s' k i i'
resolves_kept {k = k} {i = i} p r = record { to = r.to; is = ap (first_named i.name) (p.kinds k) ∙ r.is; id = r.id }

settles_kept : {s s' : Containment Spot} {x x' : Ty Spot} → SameNames s s' → Settles s x x' → Settles s' x x'
settles_kept p as_plain = as_plain
settles_kept p (in_array h) = in_array (settles_kept p h)
settles_kept p (in_named_length h r) = in_named_length (settles_kept p h) (resolves_kept p r)
settles_kept p (in_arraylike h) = in_arraylike (settles_kept p h)
settles_kept p (as_struct r) = as_struct (resolves_kept p r)
settles_kept p (as_word r) = as_word (resolves_kept p r)
settles_kept p (as_unresolved r) = as_unresolved (resolves_kept p r)
settles_kept p as_nameless = as_nameless
settles_kept p as_pointer = as_pointer
settles_kept p as_view = as_view

-- ANALYSED

-- the stack stays, and the names of the containers
pub record Passed (a b : Analyzer Spot) : Type 0 where
  pub stack : b.variable_stack ≡ a.variable_stack
  pub names : SameNames a.containment b.containment

passed_none : (a : Analyzer Spot) → Passed a a
passed_none a = record { stack = refl; names = same_names a.containment }

passed_then : {a b c : Analyzer Spot} → Passed a b → Passed b c → Passed a c
passed_then p q = record { stack = q.stack ∙ p.stack; names = names_then p.names q.names }

-- `?` that was passed
record Tried {A B : Type 0} (m : Pass Spot (Maybe Spot A)) (f : A → Pass Spot (Maybe Spot B)) (a : Analyzer Spot) (y : B) (b : Analyzer Spot) : Type 0 where
  value : A
  middle : Analyzer Spot
  first : m a ≡ (ok value, middle)
  then : f value middle ≡ (ok y, b)

same_pair : {A B : Type 0} {x y : A} {u v : B} → ◌≡◌ {A = A × B} (x, u) (y, v) → (x ≡ y) × (u ≡ v)
same_pair e = (ap (λ (p : _). p.0) e, ap (λ (p : _). p.1) e)

same_ok : {A : Type 0} {x y : A} → ◌≡◌ {A = Maybe Spot A} (ok x) (ok y) → x ≡ y
same_ok e = cc

never_ok : {X A : Type 0} {x : A} {z : Poison Spot} → ◌≡◌ {A = Maybe Spot A} (err z) (ok x) → X
never_ok e = absurd (let z : ◌≡◌ {A = ℕ} 0 1 = cc in omega arith)

tried : {A B : Type 0} (m : Pass Spot (Maybe Spot A)) (f : A → Pass Spot (Maybe Spot B)) (a : Analyzer Spot) {y : B} {b : Analyzer Spot} → (m >>? f) a ≡ (ok y, b) → Tried m f a y b
unfolding ◌>>?◌ ◌>>=◌ or_poison ret
tried {A} {B} m f a {y} {b} e = go (m a).0 (m a).1 refl e
  where
    go : (r : Maybe Spot A) (u : Analyzer Spot) → m a ≡ (r, u) → or_poison f r u ≡ (ok y, b) → Tried m f a y b
    go (ok x) u p q = record { value = x; middle = u; first = p; then = q }
    go (err z) u p q = never_ok (same_pair q).0

-- found_container_1 answers the containee itself
added_ok : (c : Ident Spot) (m : Option (Ident Spot)) (x : Ident Spot) (ids : List ℕ) (b : Bool) (cs : List (Container Spot)) {y : Ident Spot} → (added_ids c m x ids b cs).0 ≡ ok y → x ≡ y
unfolding added_ids
added_ok c m x ids true cs e = never_ok e
added_ok c m x ids false cs e = same_ok e

add_ok : (c : Ident Spot) (m : Option (Ident Spot)) (x : Ident Spot) (ids : List ℕ) (b : Bool) (cs : List (Container Spot)) {y : Ident Spot} → (add_ids c m x ids b cs).0 ≡ ok y → x ≡ y
unfolding add_ids
add_ok c m x ids true cs e = never_ok e
add_ok c m x ids false cs e = added_ok c m x ids _ _ e

found_ok : (c : Ident Spot) (m : Option (Ident Spot)) (x : Ident Spot) (s : Containment Spot) {y : Ident Spot} → (found_container_1 c m x s).0 ≡ ok y → x ≡ y
unfolding found_container_1
found_ok c m x s e = add_ok c m x _ _ s.containers e

-- a use of what j declares
record Used (j i' : Ident Spot) (a b : Analyzer Spot) : Type 0 where
  id : i'.id ≡ j.id
  passed : Passed a b

containee_used : (i : Ident Spot) (o : Option (Ident Spot)) (a : Analyzer Spot) {i' : Ident Spot} {b : Analyzer Spot} → use_containee i o a ≡ (ok i', b) → (i ≡ i') × Passed a b
unfolding use_containee on_containment with_containment ret
containee_used i (some c) a {b = b} e = (found_ok c none i a.containment (same_pair e).0, subst (λ (x : Analyzer Spot). Passed a x) (same_pair e).1 (record { stack = refl; names = found_names c none i a.containment }))
containee_used i none a {b = b} e = (same_ok (same_pair e).0, subst (λ (x : Analyzer Spot). Passed a x) (same_pair e).1 (passed_none a))

as_used : (i j : Ident Spot) (a : Analyzer Spot) {i' : Ident Spot} {b : Analyzer Spot} → use_as i j a ≡ (ok i', b) → Used j i' a b
unfolding use_as resolved
as_used i j a e = let u = containee_used (resolved i j.id 0) a.containment.in_constexpr_of_constant a e in record { id = sym (ap (λ (x : Ident Spot). x.id) u.0); passed = u.1 }

-- a use that finds j among the names of a list
record Found (is : List (Ident Spot)) (i i' : Ident Spot) (a b : Analyzer Spot) : Type 0 where
  to : Ident Spot
  is_found : first_named i.name is ≡ some to
  used : Used to i' a b

struct_used : (i : Ident Spot) (a : Analyzer Spot) {i' : Ident Spot} {b : Analyzer Spot} → use_struct i a ≡ (ok i', b) → Found (structures a.containment.containers) i i' a b
unfolding use_struct use_struct_at undefined ret
struct_used i a {i'} {b} e = go (first_named i.name (structures a.containment.containers)) refl e
  where
    go : (o : Option (Ident Spot)) → first_named i.name (structures a.containment.containers) ≡ o → use_struct_at i o a ≡ (ok i', b) → Found (structures a.containment.containers) i i' a b
    go (some j) p q = record { to = j; is_found = p; used = as_used i j a q }
    go none p q = never_ok (same_pair q).0

constant_used : (i : Ident Spot) (a : Analyzer Spot) {i' : Ident Spot} {b : Analyzer Spot} → use_constant i a ≡ (ok i', b) → Found a.variable_stack.constants i i' a b
unfolding use_constant use_constant_at undefined ret
constant_used i a {i'} {b} e = go (first_named i.name a.variable_stack.constants) (first_named i.name a.variable_stack.locals) refl e
  where
    go : (o q : Option (Ident Spot)) → first_named i.name a.variable_stack.constants ≡ o → use_constant_at i o q a ≡ (ok i', b) → Found a.variable_stack.constants i i' a b
    go (some j) q p e = record { to = j; is_found = p; used = as_used i j a e }
    go none (some j) p e = never_ok (same_pair e).0
    go none none p e = never_ok (same_pair e).0

-- layer 0 are the constants
record Layered (a : Analyzer Spot) : Type 0 where
  is : a.variable_stack.constants ≡ constants a.containment.containers

layered_back : {a b : Analyzer Spot} → Passed a b → Layered b → Layered a
unfolding of_kind
layered_back p l = record { is = ap (λ (x : _). x.constants) (sym p.stack) ∙ l.is ∙ p.names.kinds false }

struct_resolves : (i : Ident Spot) (a : Analyzer Spot) {i' : Ident Spot} {b : Analyzer Spot} → use_struct i a ≡ (ok i', b) → Resolves b.containment true i i' × Passed a b
unfolding of_kind
struct_resolves i a e = let f = struct_used i a e in let p = f.used.passed in (resolves_kept p.names (record { to = f.to; is = f.is_found; id = f.used.id }), p)

constant_resolves : (i : Ident Spot) (a : Analyzer Spot) {i' : Ident Spot} {b : Analyzer Spot} → use_constant i a ≡ (ok i', b) → Layered b → Resolves b.containment false i i' × Passed a b
unfolding of_kind
constant_resolves i a e l =
    let f = constant_used i a e in
    let p = f.used.passed in
    (resolves_kept p.names (record { to = f.to; is = ap (first_named i.name) (sym (layered_back p l).is) ∙ f.is_found; id = f.used.id }), p)

-- a type was analysed: each of its names was found
record Analysed (x x' : Ty Spot) (a b : Analyzer Spot) : Type 0 where
  settles : Layered b → Settles b.containment x x'
  passed : Passed a b

-- the last step of `?`
analysed : {x x' y : Ty Spot} {a m b : Analyzer Spot} → Analysed x x' a m → ◌≡◌ {A = Maybe Spot (Ty Spot) × Analyzer Spot} (ok x', m) (ok y, b) → Analysed x y a b
analysed {x} {a = a} h e = subst (λ (p : Ty Spot × Analyzer Spot). Analysed x p.0 a p.1) (λ i. (same_ok (same_pair e).0 i, (same_pair e).1 i)) h

one_name : {x x' : Ty Spot} {a b : Analyzer Spot} {i i' : Ident Spot} → (Resolves b.containment true i i' → Settles b.containment x x') → Resolves b.containment true i i' × Passed a b → Analysed x x' a b
one_name f r = record { settles = λ l. f r.0; passed = r.1 }

type_analysed : (x : Ty Spot) (a : Analyzer Spot) {x' : Ty Spot} {b : Analyzer Spot} → analyze_type x a ≡ (ok x', b) → Analysed x x' a b
unfolding analyze_type ret
type_analysed (plain k) a e = analysed (record { settles = λ l. as_plain; passed = passed_none a }) e
type_analysed (array t n) a e = let u = tried (analyze_type t) _ a e in let h = type_analysed t a u.first in analysed (record { settles = λ l. in_array (h.settles l); passed = h.passed }) u.then
type_analysed (array_with_named_length t i) a e =
    let u = tried (analyze_type t) _ a e in
    let v = tried (use_constant i) _ u.middle u.then in
    let h = type_analysed t a u.first in
    analysed (record {
      settles = λ l. let r = constant_resolves i u.middle v.first l in in_named_length (settles_kept r.1.names (h.settles (layered_back r.1 l))) r.0;
      passed = passed_then h.passed (constant_used i u.middle v.first).used.passed;
    }) v.then
type_analysed (arraylike k t) a e = let u = tried (analyze_type t) _ a e in let h = type_analysed t a u.first in analysed (record { settles = λ l. in_arraylike (h.settles l); passed = h.passed }) u.then
type_analysed (struct i) a e = let u = tried (use_struct i) _ a e in analysed (one_name as_struct (struct_resolves i a u.first)) u.then
type_analysed (word i n) a e = let u = tried (use_struct i) _ a e in analysed (one_name as_word (struct_resolves i a u.first)) u.then
type_analysed (unresolved i) a e = let u = tried (use_struct i) _ a e in analysed (one_name as_unresolved (struct_resolves i a u.first)) u.then
type_analysed nameless a e = analysed (record { settles = λ l. as_nameless; passed = passed_none a }) e
type_analysed (pointer t) a e = let u = tried (analyze_type t) _ a e in let h = type_analysed t a u.first in analysed (record { settles = λ l. as_pointer; passed = h.passed }) u.then
type_analysed (view t) a e = let u = tried (analyze_type t) _ a e in let h = type_analysed t a u.first in analysed (record { settles = λ l. as_view; passed = h.passed }) u.then

pub settles_analysed : (x x' : Ty Spot) (a b : Analyzer Spot) → analyze_type x a ≡ (ok x', b) → b.variable_stack.constants ≡ constants b.containment.containers → Settles b.containment x x'
settles_analysed x x' a b e l = (type_analysed x a e).settles (record { is = l })

-- The search through rows.
use mathlib.Core.Path.{◌≡◌, refl, sym, ap, ◌∙◌}
use mathlib.Core.Bool.{Bool, true, false, ◌&&◌, not}
use mathlib.Core.List.{List}
use mathlib.Core.Option.{Option, none, some}
use Prim.Native.Nat.{ℕ, ◌+◌, ◌≤◌, ◌<◌}
use native.Mathlib.Omega.{arith}
use lib.Dec.{eqb, ltb}
use lib.ListN.{length, get_or, take}
use lib.Seq.{get_or-take, length-take-le}
use borrow.Author.Tests.{ltb-true, ltb-false, le-leb, lt-leb, lt-ltb, le-ltb, eq-eqb, ne_eqb}
use Rattle.memory.specs.Rows.{member}
use Rattle.penne.specs.Tree.{Spot, Ident}
use Rattle.penne.specs.Find.{first, is_in, first_named}
use Rattle.penne.specs.Containers.{Container, Containment, id_of, identifier_of, structures, constants, contained_ids_of, constant_in_cycle}
use Rattle.std.specs.Prelude.{Some, None, MatchOption}
use Rattle.std.specs.Prelude as Rust
use Rattle.containers.specs.Table.{no_ident, no_container, at, id_at, ids_at, kind_of, contained_in, Holds}
use Rattle.containers.specs.Calls.{First, here, nowhere, before, found_in, of_kind, row_is, Finds, constant_in, FindsConstant}
use Rattle.containers.specs.Functions.{function_at, function_in, function_is, FindsFunction}
use Rattle.containers.proofs.Lists.{first_at, first_none, first_kept, mapped}
use Rattle.containers.proofs.Changing.{contained_at}

-- what `find` over the rows says, where its closure is the test
pub first_is : {test : ℕ → Bool} {count : ℕ} (r : Rust.Option ℕ) → MatchOption r ((k : ℕ) → 0 ≤ k → k < count → test k ≡ false) (λ i. (0 ≤ i) × (i < count) × (test i ≡ true) × ((k : ℕ) → 0 ≤ k → k < i → test k ≡ false)) → First test count r
first_is (Some i) (l, h, e, n) = here i h e (λ k z. n k (omega arith) z)
first_is None n = nowhere (λ k z. n k (omega arith) z)

-- what was found is a row
pub first_below : {test : ℕ → Bool} {count : ℕ} {r : Rust.Option ℕ} → First test count r → (i : ℕ) → r ≡ Some i → i < count
first_below (here k h e n) i q = let z : k ≡ i = cc in omega arith
first_below (nowhere n) i q = let z : ◌≡◌ {A = ℕ} 0 1 = cc in absurd (omega arith)

-- the first row is the first of the list, where the test on a row is a test on what it stands for
pub row_first : {A : Type 0} (d : A) (f : A → Bool) (cs : List A) {test : ℕ → Bool} {count : ℕ} {r : Rust.Option ℕ} → length cs ≡ count → ((k : ℕ) → k < count → test k ≡ f (get_or cs k d)) → First test count r → first f cs ≡ elim r [ Some i ↦ some (get_or cs i d) | None ↦ none ]
row_first d f cs l t (here i h e n) = first_at d f cs i (omega arith) (sym (t i h) ∙ e) (λ k z. sym (t k (omega arith)) ∙ n k z)
row_first d f cs l t (nowhere n) = first_none d f cs (λ k z. let y : k < _ = omega arith in sym (t k y) ∙ n k y)

-- the first among the first n rows
first_before : {test : ℕ → Bool} {count : ℕ} {r : Rust.Option ℕ} (n : ℕ) → n ≤ count → First test count r → First test n (before n r)
unfolding before
first_before {test} n l (here i h e f) = (elim (ltb i n) as (λ b. ltb i n ≡ b → First test n (elim b [ true ↦ Some i | false ↦ None ])) [
  | true ↦ λ q. here i (ltb-true i n q) e f
  | false ↦ λ q. nowhere (λ k z. f k (let y = ltb-false i n q in omega arith))
]) refl
first_before n l (nowhere f) = nowhere (λ k z. f k (omega arith))

taken_same : {A : Type 0} (d : A) (cs : List A) {test : ℕ → Bool} {n : ℕ} {r : Rust.Option ℕ} → First test n r → ◌≡◌ {A = Option A} (elim r [ Some i ↦ some (get_or (take n cs) i d) | None ↦ none ]) (elim r [ Some i ↦ some (get_or cs i d) | None ↦ none ])
taken_same d cs {n = n} (here i h e f) = ap some (get_or-take n cs i d h)
taken_same d cs (nowhere f) = refl

-- as row_first, among the first n
row_before : {A : Type 0} (d : A) (f : A → Bool) (cs : List A) {test : ℕ → Bool} {count : ℕ} {r : Rust.Option ℕ} (n : ℕ) → n ≤ count → length cs ≡ count → ((k : ℕ) → k < count → test k ≡ f (get_or cs k d)) → First test count r
    → first f (take n cs) ≡ elim (before n r) [ Some i ↦ some (get_or cs i d) | None ↦ none ]
row_before d f cs {count = count} n h l t g =
    let q = first_before n h g in
    row_first d f (take n cs) (length-take-le n cs (omega arith)) (λ k z. let y : k < count = omega arith in t k y ∙ ap f (sym (get_or-take n cs k d z))) q ∙ taken_same d cs q

-- FUNCTIONS

pub function_high : (w : List ℕ) (name r : ℕ) → 256 ≤ r → false ≡ function_is w name r
unfolding function_is
function_high w name r h = rw (le-ltb r 256 h)

pub function_here : (w : List ℕ) (name r : ℕ) {x : ℕ} → r < 256 → x ≡ get_or w (0 + r) 0 → eqb x name ≡ function_is w name r
unfolding function_is
function_here w name r h e = rw (lt-ltb r 256 h, e)

pub finds_function : {count name : ℕ} {w : List ℕ} {r : Rust.Option ℕ} → First (function_is w name) count r → FindsFunction count name w r
unfolding function_in function_at first_named function_is
finds_function {count} {name} {w} {r} f = record {
  below = first_below f;
  finds = λ fs h. pick fs r ∙ sym (row_first no_ident (λ i. eqb i.name name) fs h.counted (λ k l. let few = h.few in rw (lt-ltb k 256 (omega arith), (h.rows k l).name)) f);
  earlier = λ fs h n le. pick fs (before n r) ∙ sym (row_before no_ident (λ i. eqb i.name name) fs n le h.counted (λ k l. let few = h.few in rw (lt-ltb k 256 (omega arith), (h.rows k l).name)) f);
}
  where
    pick : (fs : List (Ident Spot)) (r : Rust.Option ℕ) → function_in fs r ≡ elim r [ Some i ↦ some (get_or fs i no_ident) | None ↦ none ]
    pick fs (Some i) = refl
    pick fs None = refl

-- CONTAINERS

pub row_high : (w : List ℕ) (kind name r : ℕ) → 128 ≤ r → false ≡ row_is w kind name r
unfolding row_is
row_high w kind name r h = rw (le-ltb r 128 h)

pub row_other : (w : List ℕ) (kind name r : ℕ) {x : ℕ} → r < 128 → x ≡ get_or w (384 + r) 0 → (x ≡ kind → ⊥) → false ≡ row_is w kind name r
unfolding row_is
row_other w kind name r h e d = rw (lt-ltb r 128 h, ← e, ne_eqb _ kind d)

pub row_here : (w : List ℕ) (kind name r : ℕ) {x y : ℕ} → r < 128 → x ≡ get_or w (384 + r) 0 → x ≡ kind → y ≡ get_or w (0 + r) 0 → eqb y name ≡ row_is w kind name r
unfolding row_is
row_here w kind name r h e d f = rw (lt-ltb r 128 h, ← e, eq-eqb _ kind d, f)

kind_structure : (b : Bool) → eqb (kind_of b) (kind_of true) ≡ b
unfolding kind_of
kind_structure true = refl
kind_structure false = refl

kind_constant : (b : Bool) → eqb (kind_of b) (kind_of false) ≡ not b
unfolding kind_of
kind_constant true = refl
kind_constant false = refl

-- the test on a row is the test on its container
row_test : {count kind : ℕ} {w : List ℕ} {s : Containment Spot} (name : ℕ) (p : Container Spot → Bool) (structure : Bool) → Holds count w s → kind ≡ kind_of structure → ((b : Container Spot) → eqb (kind_of b.is_structure) (kind_of structure) ≡ p b)
    → (k : ℕ) → k < count → row_is w kind name k ≡ p (at s.containers k) && eqb (at s.containers k).identifier.name name
unfolding row_is
row_test {kind} {w} {s} name p structure h q f k l =
    let few = h.few in
    let c : Container Spot = at s.containers k in
    rw (lt-ltb k 128 (omega arith), (h.rows k l).kind, (h.rows k l).name, q) (ap (λ (b : Bool). b && eqb c.identifier.name name) (f c))

-- the identifier of the row that was found
found_picked : (cs : List (Container Spot)) (r : Rust.Option ℕ) → found_in cs r ≡ mapped identifier_of (elim r [ Some i ↦ some (get_or cs i no_container) | None ↦ none ])
unfolding found_in at identifier_of
found_picked cs (Some i) = refl
found_picked cs None = refl

pub finds_container : {count kind name : ℕ} {w : List ℕ} {r : Rust.Option ℕ} → First (row_is w kind name) count r → Finds count kind name w r
unfolding found_in at first_named of_kind structures constants identifier_of
finds_container {count} {kind} {name} {w} {r} f = record { below = first_below f; finds = λ s h structure q. go s h structure q; earlier = λ s h structure q n l. go_before s h structure q n l }
  where
    go : (s : Containment Spot) → Holds count w s → (structure : Bool) → kind ≡ kind_of structure → found_in s.containers r ≡ first_named name (of_kind structure s.containers)
    go s h true q = found_picked s.containers r
        ∙ sym (ap (mapped identifier_of) (row_first no_container (λ c. c.is_structure && eqb c.identifier.name name) s.containers h.counted (row_test name (λ c. c.is_structure) true h q (λ c. kind_structure c.is_structure)) f))
        ∙ sym (first_kept (λ i. eqb i.name name) identifier_of (λ c. c.is_structure) s.containers)
    go s h false q = found_picked s.containers r
        ∙ sym (ap (mapped identifier_of) (row_first no_container (λ c. not c.is_structure && eqb c.identifier.name name) s.containers h.counted (row_test name (λ c. not c.is_structure) false h q (λ c. kind_constant c.is_structure)) f))
        ∙ sym (first_kept (λ i. eqb i.name name) identifier_of (λ c. not c.is_structure) s.containers)

    go_before : (s : Containment Spot) → Holds count w s → (structure : Bool) → kind ≡ kind_of structure → (n : ℕ) → n ≤ count → found_in s.containers (before n r) ≡ first_named name (of_kind structure (take n s.containers))
    go_before s h true q n l = found_picked s.containers (before n r)
        ∙ sym (ap (mapped identifier_of) (row_before no_container (λ c. c.is_structure && eqb c.identifier.name name) s.containers n l h.counted (row_test name (λ c. c.is_structure) true h q (λ c. kind_structure c.is_structure)) f))
        ∙ sym (first_kept (λ i. eqb i.name name) identifier_of (λ c. c.is_structure) (take n s.containers))
    go_before s h false q n l = found_picked s.containers (before n r)
        ∙ sym (ap (mapped identifier_of) (row_before no_container (λ c. not c.is_structure && eqb c.identifier.name name) s.containers n l h.counted (row_test name (λ c. not c.is_structure) false h q (λ c. kind_constant c.is_structure)) f))
        ∙ sym (first_kept (λ i. eqb i.name name) identifier_of (λ c. not c.is_structure) (take n s.containers))

-- THE FIRST CONSTANT IN A CYCLE

pub constant_short : (w : List ℕ) (c r : ℕ) → length w < 1668 → false ≡ constant_in w c r
unfolding constant_in
constant_short w c r h = rw (lt-leb 1668 (length w) h)

pub constant_high : (w : List ℕ) (c r : ℕ) → 1668 ≤ length w → 128 ≤ r → false ≡ constant_in w c r
unfolding constant_in
constant_high w c r l h = rw (le-leb 1668 (length w) l, le-ltb r 128 h)

pub constant_other : (w : List ℕ) (c r : ℕ) {x : ℕ} → 1668 ≤ length w → r < 128 → x ≡ get_or w (384 + r) 0 → (x ≡ 0 → ⊥) → eqb x 0 ≡ constant_in w c r
unfolding constant_in
constant_other w c r l h e d = rw (le-leb 1668 (length w) l, lt-ltb r 128 h, ← e, ne_eqb _ 0 d)

pub constant_here : (w : List ℕ) (c r : ℕ) {x : ℕ} {b : Bool} → 1668 ≤ length w → r < 128 → x ≡ get_or w (384 + r) 0 → x ≡ 0 → b ≡ member (contained_in w) c r → b ≡ constant_in w c r
unfolding constant_in
constant_here w c r l h e d f = rw (le-leb 1668 (length w) l, lt-ltb r 128 h, ← e, eq-eqb _ 0 d) f

constant_test : {count c : ℕ} {w : List ℕ} {s : Containment Spot} → Holds count w s → c < count → (ci : Ident Spot) → ci.id ≡ id_at s.containers c
    → (k : ℕ) → k < count → constant_in w c k ≡ not (at s.containers k).is_structure && is_in (id_of (at s.containers k)) (contained_ids_of ci.id s.containers)
unfolding constant_in id_at kind_of
constant_test {c} {w} {s} h l ci e k m =
    let few = h.few in
    let long = h.long in
    let o : Container Spot = at s.containers k in
    rw (le-leb 1668 (length w) (omega arith), lt-ltb k 128 (omega arith), (h.rows k m).kind, h.sets.bits c k l m, contained_at s.containers h.counted h.distinct c ci.id l e)
    (ap (λ (b : Bool). b && is_in (id_of o) (ids_at s.containers c)) (kind_zero o.is_structure))
  where
    kind_zero : (b : Bool) → eqb (kind_of b) 0 ≡ not b
    kind_zero true = refl
    kind_zero false = refl

pub finds_constant : {count c : ℕ} {w : List ℕ} {r : Rust.Option ℕ} → First (constant_in w c) count r → FindsConstant count c w r
unfolding at constant_in_cycle constants identifier_of id_of
finds_constant {count} {c} {w} {r} f = record {
  below = first_below f;
  finds = λ s h l ci e. found_picked s.containers r
      ∙ sym (ap (mapped identifier_of) (row_first no_container (λ o. not o.is_structure && is_in (id_of o) (contained_ids_of ci.id s.containers)) s.containers h.counted (constant_test h l ci e) f))
      ∙ sym (first_kept (λ i. is_in i.id (contained_ids_of ci.id s.containers)) identifier_of (λ o. not o.is_structure) s.containers);
}

pub ruleset row = (row_high, row_other, row_here)

pub ruleset is_constant_in_laws = (constant_short, constant_high, constant_other, constant_here)

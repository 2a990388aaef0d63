-- Names are used: by what the search found.
use mathlib.Core.Path.{◌≡◌, refl, sym, ap, subst, ◌∙◌}
use mathlib.Core.Bool.{true, false}
use mathlib.Core.List.{List, [], ◌∷◌}
use mathlib.Core.Option.{Option, none, some}
use Prim.Native.Nat.{ℕ, zero, suc}
use native.Mathlib.Omega.{arith}
use Rattle.std.specs.Prelude.{Ok, Err, Some, None}
use Rattle.std.specs.Prelude as Rust
use Rattle.penne.specs.Tree.{Spot, Ident, Poison, poison, Maybe, ok, err}
use Rattle.penne.specs.Write.{poison_b}
use Rattle.penne.specs.Find.{first_named, resolved}
use Rattle.penne.specs.State.{ret}
use Rattle.penne.specs.Containers.{structures}
use Rattle.penne.specs.Scopes.{Analyzer, Pass, on_containment, with_containment, undefined, use_containee, use_as, use_constant_at, use_constant, use_function_at, use_function, use_struct_at, use_struct}
use Rattle.penne.specs.Variables.{use_called}
use Rattle.fields.specs.declared.field.Identifier.{Identifier}
use Rattle.fields.specs.Answers.{ident_of}
use Rattle.containers.specs.declared.containers.Declared.{Declared}
use Rattle.containers.specs.Table.{kind_of}
use Rattle.containers.specs.Calls.{found_in, of_kind}
use Rattle.containers.specs.Functions.{function_at, function_in}
use Rattle.walk.specs.declared.state.Walk.{Walk}
use Rattle.walk.specs.declared.fault.Fault.{Fault}
use Rattle.walk.specs.declared.fault.Fault.TheVariants as F
use Rattle.walk.specs.Walking.{Tables, Ground, Good, Stands, silently, Made, made_as, made_not, Uses, fault_b, Used}
use Rattle.walk.specs.Calls.{FindsIn, FindsFunctionIn, FunctionAt, Placed, placed, nowhere, PlaceOfLocal, NoConstant, use_row, UsesRow}
use Rattle.walk.proofs.Faults.{undefined_bytes, duplicate_bytes, one_name, their_places}

abbrev pub User : Type 0
User = Ident Spot → Pass Spot (Maybe Spot (Ident Spot))

-- a use takes no id
pub record Keeps (p : User) : Type 0 where
  pub ids : (x : Ident Spot) (a : Analyzer Spot) → (p x a).1.resolution_id ≡ a.resolution_id

containee_ids : (i : Ident Spot) (o : Option (Ident Spot)) (a : Analyzer Spot) → (use_containee i o a).1.resolution_id ≡ a.resolution_id
unfolding use_containee on_containment with_containment ret
containee_ids i (some c) a = refl
containee_ids i none a = refl

pub as_ids : (i j : Ident Spot) (a : Analyzer Spot) → (use_as i j a).1.resolution_id ≡ a.resolution_id
unfolding use_as
as_ids i j a = containee_ids (resolved i j.id 0) a.containment.in_constexpr_of_constant a

struct_at_ids : (i : Ident Spot) (o : Option (Ident Spot)) (a : Analyzer Spot) → (use_struct_at i o a).1.resolution_id ≡ a.resolution_id
unfolding use_struct_at ret
struct_at_ids i (some j) a = as_ids i j a
struct_at_ids i none a = refl

pub struct_keeps : Keeps use_struct
unfolding use_struct
struct_keeps = record { ids = λ x a. struct_at_ids x _ a }

constant_at_ids : (i : Ident Spot) (o q : Option (Ident Spot)) (a : Analyzer Spot) → (use_constant_at i o q a).1.resolution_id ≡ a.resolution_id
unfolding use_constant_at ret
constant_at_ids i (some j) q a = as_ids i j a
constant_at_ids i none (some j) a = refl
constant_at_ids i none none a = refl

pub constant_keeps : Keeps use_constant
unfolding use_constant
constant_keeps = record { ids = λ x a. constant_at_ids x _ _ a }

pub function_keeps : Keeps use_function
unfolding use_function
function_keeps = record { ids = λ x a. refl }

-- ONE USE BY ANOTHER

abbrev pub stepped : Ground → Analyzer Spot → Ground
stepped a b = record { out = a.out; st = b; rest = a.rest }

good_back : (p : User) → Keeps p → (x : Ident Spot) (a : Ground) → Good (silently p x a) → Good a
good_back p how x a z = let e = how.ids x a.st in record { few = omega (arith, z.few); fit = z.fit }

module _ {s : Walk} {i : Identifier} {w : List ℕ} {u : Used} (p : User) (how : Keeps p) where
  -- p does here what q does
  pub uses_by : {w' : List ℕ} (q : User) → ((from : ℕ) (a : Analyzer Spot) → Tables s.tables s.script s.counts w a → p (ident_of from i) a ≡ q (ident_of from i) a) → Uses q s i w u w' → Uses p s i w u w'
  uses_by {w'} q same k = record {
    does = λ from o l a j.
        let x = ident_of from i in
        let b = k.does from o l a j in
        let e : Good (silently p x a) → p x a.st ≡ q x a.st = λ z. same from a.st (j.when (good_back p how x a z)).tables in
        let f : (z : Good (silently p x a)) → Good (silently q x a) = λ z. subst (λ (y : Maybe Spot (Ident Spot) × Analyzer Spot). Good (stepped a y.1)) (e z) z in
        record {
          is = record { when = λ z. subst (λ (y : Maybe Spot (Ident Spot) × Analyzer Spot). Stands s o l w' (stepped a y.1)) (sym (e z)) (b.is.when (f z)) };
          made = λ z. subst (λ (y : Maybe Spot (Ident Spot) × Analyzer Spot). Made from u y.0) (sym (e z)) (b.made (f z));
        };
  }

  -- p changes nothing, and answers so
  pub uses_ret : ((from : ℕ) (a : Analyzer Spot) → Tables s.tables s.script s.counts w a → (y : Maybe Spot (Ident Spot)) × (p (ident_of from i) a ≡ (y, a)) × Made from u y) → Uses p s i w u w
  uses_ret say = record {
    does = λ from o l a j.
        let x = ident_of from i in
        let e : Good (silently p x a) → (y : Maybe Spot (Ident Spot)) × (p x a.st ≡ (y, a.st)) × Made from u y = λ z. say from a.st (j.when (good_back p how x a z)).tables in
        record {
          is = record { when = λ z. subst (λ (y : Maybe Spot (Ident Spot) × Analyzer Spot). Stands s o l w (stepped a y.1)) (sym (e z).1) (j.when (good_back p how x a z)) };
          made = λ z. subst (λ (y : Maybe Spot (Ident Spot) × Analyzer Spot). Made from u y.0) (sym (e z).1) (e z).2;
        };
  }

-- STRUCTURES

struct_by : (x : Ident Spot) (a : Analyzer Spot) {o : Option (Ident Spot)} → o ≡ first_named x.name (structures a.containment.containers) → use_struct x a ≡ use_struct_at x o a
unfolding use_struct
struct_by x a e = ap (λ (o : Option (Ident Spot)). use_struct_at x o a) (sym e)

module _ (s : Walk) (i : Identifier) {w : List ℕ} {r : Rust.Option ℕ} (f : FindsIn s.script 3 i.name w r) where
  found_structure : (a : Analyzer Spot) → Tables s.tables s.script s.counts w a → found_in a.containment.containers r ≡ first_named i.name (structures a.containment.containers)
  unfolding of_kind kind_of
  found_structure a t = (f.finds t.long).finds a.containment t.containers true refl

  pub use_no_struct : r ≡ None → Uses use_struct s i w (Err (F.UndefinedStructure i.name i.place)) w
  unfolding found_in use_struct_at undefined ret
  use_no_struct e = uses_ret use_struct struct_keeps λ from a t.
      (undefined 11 (ident_of from i), struct_by (ident_of from i) a (ap (found_in a.containment.containers) (sym e) ∙ found_structure a t), made_not (undefined_bytes 11 i from one_name.2 their_places.2))

  pub use_the_struct : {row : ℕ} {u : Used} {w' : List ℕ} → r ≡ Some row → UsesRow s i row w u w' → Uses use_struct s i w u w'
  unfolding found_in use_struct_at use_row
  use_the_struct {row} e k = uses_by use_struct struct_keeps (use_row row) (λ from a t. struct_by (ident_of from i) a (ap (found_in a.containment.containers) (sym e) ∙ found_structure a t)) (k.does (f.below row e))

-- CONSTANTS

constant_by : (x : Ident Spot) (a : Analyzer Spot) {o q : Option (Ident Spot)} → o ≡ first_named x.name a.variable_stack.constants → q ≡ first_named x.name a.variable_stack.locals → use_constant x a ≡ use_constant_at x o q a
unfolding use_constant
constant_by x a {o} {q} e d = ap (λ (y : Option (Ident Spot)). use_constant_at x (first_named x.name a.variable_stack.constants) y a) (sym d) ∙ ap (λ (y : Option (Ident Spot)). use_constant_at x y q a) (sym e)

pub found_constant : (s : Walk) (n : ℕ) {w : List ℕ} {r : Rust.Option ℕ} → FindsIn s.script 0 n w r → (a : Analyzer Spot) → Tables s.tables s.script s.counts w a → found_in a.containment.containers r ≡ first_named n a.variable_stack.constants
unfolding of_kind kind_of
found_constant s n f a t = (f.finds t.long).finds a.containment t.containers false refl ∙ ap (first_named n) (sym t.layer)

pub no_constant : (s : Walk) (n : ℕ) {w : List ℕ} {r : Rust.Option ℕ} → FindsIn s.script 0 n w r → r ≡ None → (a : Analyzer Spot) → Tables s.tables s.script s.counts w a → none ≡ first_named n a.variable_stack.constants
unfolding found_in
no_constant s n f e a t = ap (found_in a.containment.containers) (sym e) ∙ found_constant s n f a t

module _ (s : Walk) (i : Identifier) {w : List ℕ} {r : Rust.Option ℕ} (f : FindsIn s.script 0 i.name w r) where
  pub use_the_constant : {row : ℕ} {u : Used} {w' : List ℕ} → r ≡ Some row → UsesRow s i row w u w' → Uses use_constant s i w u w'
  unfolding found_in use_constant_at use_row
  use_the_constant {row} e k = uses_by use_constant constant_keeps (use_row row) (λ from a t. constant_by (ident_of from i) a (ap (found_in a.containment.containers) (sym e) ∙ found_constant s i.name f a t) refl) (k.does (f.below row e))

-- FUNCTIONS

function_by : (x : Ident Spot) (a : Analyzer Spot) {o : Option (Ident Spot)} → o ≡ first_named x.name a.function_list → use_function x a ≡ (use_function_at x o, a)
unfolding use_function
function_by x a e = ap (λ (o : Option (Ident Spot)). (use_function_at x o, a)) (sym e)

module _ (s : Walk) (i : Identifier) {w : List ℕ} {r : Rust.Option ℕ} (f : FindsFunctionIn s.script i.name w r) where
  found_function : (a : Analyzer Spot) → Tables s.tables s.script s.counts w a → function_in a.function_list r ≡ first_named i.name a.function_list
  found_function a t = (f.finds t.long).finds a.function_list t.functions

  pub use_no_function : r ≡ None → Uses use_function s i w (Err (F.UndefinedFunction i.name i.place)) w
  unfolding function_in use_function_at undefined
  use_no_function e = uses_ret use_function function_keeps λ from a t.
      (undefined 10 (ident_of from i), function_by (ident_of from i) a (ap (function_in a.function_list) (sym e) ∙ found_function a t), made_not (undefined_bytes 10 i from one_name.1 their_places.1))

  pub use_the_function : {row : ℕ} {d : Declared} → r ≡ Some row → FunctionAt row w d → Uses use_function s i w (Ok (record { name = i.name; place = i.place; id = d.id; authority = 0 })) w
  unfolding function_in use_function_at resolved
  use_the_function {row} {d} e g = uses_ret use_function function_keeps λ from a t.
      let x = ident_of from i in
      let j = function_at a.function_list row in
      let same : d.id ≡ j.id = ((g.tells t.long).tells a.function_list s.script.functions t.functions (f.below row e)).id in (
        ok (resolved x j.id 0),
        function_by x a (ap (function_in a.function_list) (sym e) ∙ found_function a t),
        subst (λ (n : ℕ). Made from (Ok (record { name = i.name; place = i.place; id = d.id; authority = 0 })) (ok (resolved x n 0))) same made_as,
      )

-- NO CONSTANT

pub placed_at : {r : Rust.Option ℕ} {o : Option (Ident Spot)} {p : ℕ} → Placed r o → r ≡ Some p → (j : Ident Spot) × (o ≡ some j) × (p ≡ j.place.number)
placed_at {p = p} (placed {p = q} {j = j} h) e = let z : q ≡ p = cc in (j, refl, sym z ∙ h)
placed_at nowhere e = absurd (let z : ◌≡◌ {A = ℕ} 0 1 = cc in omega arith)

pub placed_nowhere : {r : Rust.Option ℕ} {o : Option (Ident Spot)} → Placed r o → r ≡ None → o ≡ none
placed_nowhere (placed h) e = absurd (let z : ◌≡◌ {A = ℕ} 0 1 = cc in omega arith)
placed_nowhere nowhere e = refl

no_constant_by : {s : Walk} {i : Identifier} {w : List ℕ} {f : Fault} → (FindsIn s.script 0 i.name w None → Uses use_constant s i w (Err f) w) → NoConstant s i w f
no_constant_by k = record { does = k }

module _ (s : Walk) (i : Identifier) {w : List ℕ} {pl : Rust.Option ℕ} (g : PlaceOfLocal s i.name w pl) where
  pub use_local_constant : {p : ℕ} → pl ≡ Some p → NoConstant s i w (F.NotACompileTimeConstant i.name i.place p)
  unfolding use_constant_at ret
  use_local_constant {p} q = no_constant_by λ f. uses_ret use_constant constant_keeps λ from a t.
      let x = ident_of from i in
      let z = placed_at (g.tells t) q in (
        err (poison 12 (x.name ∷ []) (x.place ∷ z.0.place ∷ [])),
        constant_by x a (no_constant s i.name f refl a t) (sym z.1),
        made_not (duplicate_bytes 12 i from p z.0.place z.2 one_name.3 their_places.3),
      )

  pub use_no_constant : pl ≡ None → NoConstant s i w (F.UndefinedVariable i.name i.place)
  unfolding use_constant_at undefined ret
  use_no_constant q = no_constant_by λ f. uses_ret use_constant constant_keeps λ from a t.
      let x = ident_of from i in
      (undefined 9 x, constant_by x a (no_constant s i.name f refl a t) (sym (placed_nowhere (g.tells t) q)), made_not (undefined_bytes 9 i from one_name.0 their_places.0))

-- no constant was found
pub constant_not : {s : Walk} {i : Identifier} {w : List ℕ} {r : Rust.Option ℕ} {f : Fault} → FindsIn s.script 0 i.name w r → r ≡ None → NoConstant s i w f → Uses use_constant s i w (Err f) w
constant_not {s} {i} {w} f e k = k.does (subst (λ (x : Rust.Option ℕ). FindsIn s.script 0 i.name w x) e f)

-- CALLS

pub called_builtin : {s : Walk} {i : Identifier} {w : List ℕ} (b : ℕ) → (b ≡ 0 → ⊥) → Uses (λ x. use_called x b) s i w (Ok i) w
unfolding use_called ret
called_builtin zero h = absurd (h refl)
called_builtin {i = i} (suc b) h = uses_ret (λ x. use_called x (suc b)) (record { ids = λ x a. refl }) λ from a t. (ok (ident_of from i), refl, made_as)

pub called_function : {s : Walk} {i : Identifier} {w : List ℕ} {u : Used} (b : ℕ) → b ≡ 0 → Uses use_function s i w u w → Uses (λ x. use_called x b) s i w u w
unfolding use_called
called_function zero e k = k
called_function (suc b) e k = absurd (omega arith)

-- A RESULT UNDER ANOTHER NAME

module _ {s : Walk} {i : Identifier} {w w' : List ℕ} where
  pub told_as : {p : User} {j k : Identifier} → j ≡ k → Uses p s i w (Ok k) w' → Uses p s i w (Ok j) w'
  told_as {p} e k = subst (λ (x : Identifier). Uses p s i w (Ok x) w') (sym e) k

  pub row_as : {row : ℕ} {j k : Identifier} → j ≡ k → UsesRow s i row w (Ok k) w' → UsesRow s i row w (Ok j) w'
  row_as {row} e k = subst (λ (x : Identifier). UsesRow s i row w (Ok x) w') (sym e) k

-- WHAT A LOOKED UP NAME IS

pub made_used : {from : ℕ} {u : Used} {y : Maybe Spot (Ident Spot)} {j : Identifier} → Made from u y → u ≡ Ok j → y ≡ ok (ident_of from j)
made_used {from} {j = j} (made_as {j = k}) e = let z : k ≡ j = cc in ap (λ (v : Identifier). ok (ident_of from v)) z
made_used (made_not q) e = absurd (let z : ◌≡◌ {A = ℕ} 0 1 = cc in omega arith)

pub made_refused : {from : ℕ} {u : Used} {y : Maybe Spot (Ident Spot)} {f : Fault} → Made from u y → u ≡ Err f → (z : Poison Spot) × (y ≡ err z) × (fault_b f ≡ poison_b z)
made_refused made_as e = absurd (let z : ◌≡◌ {A = ℕ} 0 1 = cc in omega arith)
made_refused {f = f} (made_not {f = g} {z = z} q) e = let d : g ≡ f = cc in (z, refl, ap fault_b (sym d) ∙ q)

-- None is found where the work words are too few; there the calls promise nothing.
use mathlib.Core.Path.{◌≡◌, refl, sym, ap, ◌∙◌}
use mathlib.Core.List.{List, []}
use Prim.Native.Nat.{ℕ, ◌<◌}
use native.Mathlib.Omega.{arith}
use lib.ListN.{length}
use Rattle.std.specs.Prelude as Rust
use Rattle.std.specs.Prelude.{Result, Ok, Err, Some, None, ok_or}
use Rattle.penne.specs.Scopes.{with_stack, with_containment, next_id, declare_variable}
use Rattle.penne.specs.Variables.{in_constexpr_of}
use Rattle.fields.specs.declared.field.Identifier.{Identifier}
use Rattle.scopes.specs.declared.scope.Local.{Local}
use Rattle.scopes.specs.declared.scope.Scope.{Scope}
use Rattle.walk.specs.declared.state.Script.{Script}
use Rattle.walk.specs.declared.state.Walk.{Walk}
use Rattle.walk.specs.Walking.{with_tables, Good, Closes, Constexpr}
use Rattle.walk.specs.declared.edges.Holder.{Holder}
use Rattle.walk.specs.Calls.{FindsIn, FindsFunctionIn, EdgeTo, Pushes, ListsSkip, PoisonsLocal}

module _ {k : Script} {name : ℕ} {w : List ℕ} (h : length w < 16384) where
  pub finds_none : {kind : ℕ} → FindsIn k kind name w None
  finds_none = record { below = λ i e. absurd (let z : ◌≡◌ {A = ℕ} 0 1 = cc in omega arith); finds = λ l. absurd (omega arith) }

  pub finds_no_function : FindsFunctionIn k name w None
  finds_no_function = record { below = λ i e. absurd (let z : ◌≡◌ {A = ℕ} 0 1 = cc in omega arith); finds = λ l. absurd (omega arith) }

-- pop_scope
pub closed_not : {s : Walk} {outer : Scope} {w : List ℕ} → length w < 16384 → Closes s outer w s w
unfolding with_stack
closed_not h = record { cur = refl; is = λ e i₀ i g le. record { when = λ z. let j = i.when (record { few = z.few; fit = z.fit }) in let long = j.tables.long in absurd (omega arith) } }

-- another in_constexpr_of_constant
pub constexpr_is : {s : Walk} {n : Rust.Option ℕ} → Constexpr s n (with_tables s (record { scope = s.tables.scope; next_id = s.tables.next_id; constant = n }))
unfolding in_constexpr_of with_containment
constexpr_is = record {
  cur = refl;
  is = λ {o} {l} {w} {a} i c g b. record {
    when = λ z.
        let y : Good a = record { few = z.few; fit = z.fit } in
        let j = i.when y in
        let t = j.tables in
        record {
          script = j.script;
          put = j.put;
          skip = j.skip;
          tables = record { long = t.long; scopes = let d = t.scopes in record { holds = d.holds; lower = d.lower }; containers = let b = t.containers in record { counted = b.counted; few = b.few; long = b.long; distinct = b.distinct; rows = b.rows; sets = b.sets; edges = b.edges }; functions = t.functions; layer = t.layer; next = t.next; given = t.given; whose = g y; names = t.names; entries = t.entries; early = let u = t.early in record { first = u.first; past = u.past; containers = u.containers; locals = u.locals; untouched = u.untouched }; bare = b y };
          marks = j.marks;
        };
  };
}

-- found_container_1
pub edge_not : {k : Script} {h : Holder} {n : ℕ} {w : List ℕ} → length w < 16384 → EdgeTo k h n w (Ok tt) w
edge_not l = record { does = λ b low low' mem c x q z. let long = b.long in absurd (omega arith) }

-- a variable that stands too far, or has no room
pub pushed_not : {s : Walk} {i : Identifier} {from : ℕ} {w : List ℕ} → length w < 16384 → Pushes s i from w s w
unfolding declare_variable next_id with_stack
pushed_not l = record { cur = refl; is = λ f e low few kind o l₁ a room out j. record { when = λ z. let v = j.when (record { few = omega (arith, z.few); fit = z.fit }) in let long = v.tables.long in absurd (omega arith) } }

pub pushed_far : {s : Walk} {i : Identifier} {from : ℕ} {w : List ℕ} → 65535 < from → Pushes s i from w s w
pushed_far l = record { cur = refl; is = λ f e low few kind o l₁ a room out j. absurd (omega arith) }

pub listed_far : {s : Walk} {from : ℕ} {d : Local} {l : List ℕ} → 65535 < from → ListsSkip s from d l s l
listed_far {s} h = record { to = s.listed; is = λ f. absurd (omega arith); put = λ f. absurd (omega arith) }

pub poisoned_not : {k : ℕ} {w : List ℕ} → length w < 16384 → PoisonsLocal k w w
poisoned_not {k} {w} h = record { part = []; is = λ f. absurd (omega arith); poisons = λ f. absurd (omega arith) }

-- what `ok_or` made of a search
pub sought_none : {A E : Type 0} {o : Rust.Option A} {e y : E} {r : Result A E} → r ≡ ok_or o e → r ≡ Err y → (o ≡ None) × (e ≡ y)
sought_none {o = None} m q = let z = sym m ∙ q in (refl, cc)
sought_none {o = Some x} m q = absurd (let z = sym m ∙ q in let u : ◌≡◌ {A = ℕ} 0 1 = cc in omega arith)

pub sought_some : {A E : Type 0} {o : Rust.Option A} (e : E) {x : A} {r : Result A E} → r ≡ ok_or o e → r ≡ Ok x → o ≡ Some x
sought_some {o = None} e m q = absurd (let z = sym m ∙ q in let u : ◌≡◌ {A = ℕ} 0 1 = cc in omega arith)
sought_some {o = Some y} e {x = x} m q = let z = sym m ∙ q in let u : y ≡ x = cc in ap Some u

-- Was the name declared before: what the search through the rows says of the rows before this one.
use mathlib.Core.Path.{◌≡◌, refl, sym, ap, subst, ◌∙◌}
use mathlib.Core.List.{List}
use mathlib.Core.Option as M
use Prim.Native.Nat.{ℕ, ◌≤◌, ◌<◌}
use native.Mathlib.Omega.{arith}
use borrow.Author.Tests.{lt-ltb, le-ltb}
use Rattle.std.specs.Prelude.{Option, Some, None}
use Rattle.penne.specs.Tree.{Spot, Ident}
use Rattle.fields.specs.declared.field.Identifier.{Identifier}
use Rattle.containers.specs.declared.containers.Declared.{Declared}
use Rattle.containers.specs.Table.{at}
use Rattle.containers.specs.Calls.{before, found_in}
use Rattle.containers.specs.Functions.{function_at, function_in}
use Rattle.walk.specs.declared.state.Walk.{Walk}
use Rattle.walk.specs.declared.fault.Fault.{Fault}
use Rattle.walk.specs.Walking.{duplicate_fault}
use Rattle.walk.specs.Calls.{FindsIn, ContainerAt, FindsFunctionIn, FunctionAt}
use Rattle.stages.specs.Before.{Refers, declared, undeclared, ContainerBefore, FunctionBefore, DeclaredBefore}

-- what was found stands before row n, or behind it
before_low : (row n : ℕ) → row < n → before n (Some row) ≡ Some row
unfolding before
before_low row n h = rw (lt-ltb row n h, before)

before_high : (row n : ℕ) → n ≤ row → before n (Some row) ≡ None
unfolding before
before_high row n h = rw (le-ltb row n h, before)

before_none : (n : ℕ) → before n None ≡ None
unfolding before
before_none n = refl

refers_no : {kind : ℕ} {i : Identifier} {x : M.Option (Ident Spot)} → M.none ≡ x → Refers kind i None x
refers_no {kind} {i} e = subst (λ (y : M.Option (Ident Spot)). Refers kind i None y) e undeclared

refers_to : {kind : ℕ} {i : Identifier} {x : M.Option (Ident Spot)} {f : Fault} {place : ℕ} (j : Ident Spot) → f ≡ duplicate_fault kind i place → place ≡ j.place.number → M.some j ≡ x → Refers kind i (Some f) x
refers_to {kind} {i} {f = f} j d p e = subst (λ (y : M.Option (Ident Spot)). Refers kind i (Some f) y) e (declared (d ∙ ap (duplicate_fault kind i) p))

module _ {kind poison : ℕ} {s : Walk} {i : Identifier} {w : List ℕ} {r : Option ℕ} (g : FindsIn s.script kind i.name w r) where
  not_before : ((n : ℕ) → n ≡ s.counts.containers → before n r ≡ None) → ContainerBefore kind poison s i w None
  unfolding found_in
  not_before z = record {
    tells = λ {a} t structure q l.
        let h = t.containers in
        let c = h.counted in
        let n = s.counts.containers in
        refers_no (sym (ap (found_in a.containment.containers) (z n refl)) ∙ (g.finds t.long).earlier a.containment h structure q n (omega arith));
  }

  pub container_none : r ≡ None → ContainerBefore kind poison s i w None
  container_none e = not_before λ n _. ap (before n) e ∙ before_none n

  module _ {row : ℕ} (e : r ≡ Some row) where
    pub container_later : s.counts.containers ≤ row → ContainerBefore kind poison s i w None
    container_later l = not_before λ n q. ap (before n) e ∙ before_high row n (omega arith)

    pub container_earlier : {d : Declared} {f : Fault} → row < s.counts.containers → ContainerAt row w d → f ≡ duplicate_fault poison i d.place → ContainerBefore kind poison s i w (Some f)
    unfolding found_in
    container_earlier {d} {f} l at_row dup = record {
      tells = λ {a} t structure q m.
          let h = t.containers in
          let c = h.counted in
          let n = s.counts.containers in
          refers_to (at a.containment.containers row).identifier dup ((at_row.tells t.long).tells a.containment s.script.containers h (omega arith)).place
          (sym (ap (found_in a.containment.containers) (ap (before n) e ∙ before_low row n l)) ∙ (g.finds t.long).earlier a.containment h structure q n (omega arith));
    }

module _ {s : Walk} {i : Identifier} {w : List ℕ} {r : Option ℕ} (g : FindsFunctionIn s.script i.name w r) where
  no_function : ((n : ℕ) → n ≡ s.counts.functions → before n r ≡ None) → FunctionBefore s i w None
  unfolding function_in
  no_function z = record {
    tells = λ {a} t l.
        let h = t.functions in
        let c = h.counted in
        let n = s.counts.functions in
        refers_no (sym (ap (function_in a.function_list) (z n refl)) ∙ (g.finds t.long).earlier a.function_list h n (omega arith));
  }

  pub function_none : r ≡ None → FunctionBefore s i w None
  function_none e = no_function λ n _. ap (before n) e ∙ before_none n

  module _ {row : ℕ} (e : r ≡ Some row) where
    pub function_later : s.counts.functions ≤ row → FunctionBefore s i w None
    function_later l = no_function λ n q. ap (before n) e ∙ before_high row n (omega arith)

    pub function_earlier : {d : Declared} {f : Fault} → row < s.counts.functions → FunctionAt row w d → f ≡ duplicate_fault 7 i d.place → FunctionBefore s i w (Some f)
    unfolding function_in
    function_earlier {d} {f} l at_row dup = record {
      tells = λ {a} t m.
          let h = t.functions in
          let c = h.counted in
          let n = s.counts.functions in
          refers_to (function_at a.function_list row) dup ((at_row.tells t.long).tells a.function_list s.script.functions h (omega arith)).place
          (sym (ap (function_in a.function_list) (ap (before n) e ∙ before_low row n l)) ∙ (g.finds t.long).earlier a.function_list h n (omega arith));
    }

-- by the kind of the declaration
module _ {kind : ℕ} {s : Walk} {i : Identifier} {w : List ℕ} {r : Option Fault} where
  pub before_constant : kind ≡ 0 → ContainerBefore 0 3 s i w r → DeclaredBefore kind s i w r
  before_constant e k = record { constant = λ _. k; structure = λ q. absurd (omega arith); function = λ z _. absurd (z e) }

  pub before_structure : kind ≡ 3 → ContainerBefore 3 8 s i w r → DeclaredBefore kind s i w r
  before_structure e k = record { constant = λ q. absurd (omega arith); structure = λ _. k; function = λ _ z. absurd (z e) }

  pub before_function : (kind ≡ 0 → ⊥) → (kind ≡ 3 → ⊥) → FunctionBefore s i w r → DeclaredBefore kind s i w r
  before_function z₀ z₃ k = record { constant = λ e. absurd (z₀ e); structure = λ e. absurd (z₃ e); function = λ _ _. k }

-- Where the outermost variable of a name was declared.
use mathlib.Core.Path.{◌≡◌, sym, ap, subst, ◌∙◌}
use mathlib.Core.List.{List}
use mathlib.Core.Option.{Option}
use Prim.Native.Nat.{ℕ}
use Rattle.std.specs.Prelude.{Some, None}
use Rattle.std.specs.Prelude as Rust
use Rattle.penne.specs.Tree.{Spot, Ident}
use Rattle.scopes.specs.declared.scope.Local.{Local}
use Rattle.scopes.proofs.Analyzing.{named_constant, named_local, found_none, found_at}
use Rattle.containers.specs.declared.containers.Declared.{Declared}
use Rattle.containers.specs.Table.{at}
use Rattle.containers.specs.Calls.{found_in}
use Rattle.walk.specs.declared.state.Walk.{Walk}
use Rattle.walk.specs.Calls.{FindsIn, ContainerAt, FindsLocal, LocalOf, Placed, placed, nowhere, PlaceOfVariable, PlaceOfLocal}
use Rattle.walk.proofs.Using.{found_constant, no_constant}

module _ {s : Walk} {n : ℕ} {w : List ℕ} where
  -- among the locals
  pub no_local : {r : Rust.Option ℕ} → FindsLocal s n w r → r ≡ None → PlaceOfLocal s n w None
  no_local f e = record { tells = λ {a} t. subst (λ (o : Option (Ident Spot)). Placed None o) (sym (found_none ((f.searches t.long).finds t.scopes.holds) e)) nowhere }

  pub the_local : {r : Rust.Option ℕ} {k : ℕ} {d : Local} → FindsLocal s n w r → r ≡ Some k → LocalOf k w d → PlaceOfLocal s n w (Some d.place)
  the_local {d = d} f e g = record {
    tells = λ {a} t.
        let b = found_at ((f.searches t.long).finds t.scopes.holds) e in
        subst (λ (o : Option (Ident Spot)). Placed (Some d.place) o) (sym b.2) (placed ((g.tells t.long).stands t.scopes.holds b.1).place);
  }

  -- among all variables
  pub place_local : {r : Rust.Option ℕ} {pl : Rust.Option ℕ} → FindsIn s.script 0 n w r → r ≡ None → PlaceOfLocal s n w pl → PlaceOfVariable s n w pl
  place_local {pl = pl} f e g = record { tells = λ {a} t. subst (λ (o : Option (Ident Spot)). Placed pl o) (sym (named_local a n (sym (no_constant s n f e a t)))) (g.tells t) }

  pub place_constant : {r : Rust.Option ℕ} {row : ℕ} {d : Declared} → FindsIn s.script 0 n w r → r ≡ Some row → ContainerAt row w d → PlaceOfVariable s n w (Some d.place)
  unfolding found_in
  place_constant {r} {row} {d} f e g = record {
    tells = λ {a} t.
        let j = (at a.containment.containers row).identifier in
        let z = named_constant a n j (sym (found_constant s n f a t) ∙ ap (found_in a.containment.containers) e) in
        subst (λ (o : Option (Ident Spot)). Placed (Some d.place) o) (sym z) (placed ((g.tells t.long).tells a.containment s.script.containers t.containers (f.below row e)).place);
  }

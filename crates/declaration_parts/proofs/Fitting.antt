-- What `fit` says of a declaration that was counted.
use mathlib.Core.Path.{◌≡◌, ap, ◌∙◌}
use mathlib.Core.Bool.{true}
use mathlib.Core.Option.{none}
use mathlib.Core.List.{List}
use Prim.Native.Nat.{ℕ, ◌<◌}
use lib.Dec.{ltb, eqb}
use lib.ListN.{length}
use borrow.Author.Tests.{ltb-true, eqb-true}
use Rattle.penne.specs.Tree.{Spot, Ident}
use Rattle.penne.specs.Find.{resolved}
use Rattle.penne.specs.Containers.{Container}
use Rattle.penne.specs.Scopes.{Analyzer}
use Rattle.containers.specs.Table.{at, id_at}
use Rattle.containers.proofs.Lists.{and_true}
use Rattle.statement_parts.specs.Stating.{is_free}
use Rattle.statement_parts.proofs.OwnNames.{free_none}
use Rattle.declaration_parts.specs.Declaring.{same_ident, clear, fit_container}

-- the same in all five numbers
pub same_ident_lem : (i j : Ident Spot) → same_ident i j ≡ true → i ≡ j
unfolding same_ident
same_ident_lem i j e =
    let a = and_true (eqb i.name j.name) _ e in
    let b = and_true (eqb i.place.number j.place.number) _ a.1 in
    let c = and_true (eqb i.place.from j.place.from) _ b.1 in
    let d = and_true (eqb i.id j.id) _ c.1 in
    let n : i.name ≡ j.name = eqb-true _ _ a.0 in
    let p : i.place.number ≡ j.place.number = eqb-true _ _ b.0 in
    let f : i.place.from ≡ j.place.from = eqb-true _ _ c.0 in
    let x : i.id ≡ j.id = eqb-true _ _ d.0 in
    let y : i.auth ≡ j.auth = eqb-true _ _ d.1 in
    ap (λ (v : ℕ). record { name = v; place = i.place; id = i.id; auth = i.auth }) n
    ∙ ap (λ (v : ℕ). record { name = j.name; place = record { number = v; from = i.place.from }; id = i.id; auth = i.auth }) p
    ∙ ap (λ (v : ℕ). record { name = j.name; place = record { number = j.place.number; from = v }; id = i.id; auth = i.auth }) f
    ∙ ap (λ (v : ℕ). record { name = j.name; place = j.place; id = v; auth = i.auth }) x
    ∙ ap (λ (v : ℕ). record { name = j.name; place = j.place; id = j.id; auth = v }) y

-- in no constant's value, no locals
pub record Clear (a : Analyzer Spot) : Type 0 where
  pub free : a.containment.in_constexpr_of_constant ≡ none
  pub bare : length a.variable_stack.locals ≡ 0

pub clear_is : (a : Analyzer Spot) → clear a ≡ true → Clear a
unfolding clear
clear_is a e = let z = and_true (is_free a) _ e in record { free = free_none a z.0; bare = eqb-true _ _ z.1 }

-- the row was made of the identifier i
pub record Row (cs : List (Container Spot)) (r : ℕ) (i : Ident Spot) : Type 0 where
  pub low : r < length cs
  pub is : resolved i (id_at cs r) 1 ≡ (at cs r).identifier

pub row_is : (cs : List (Container Spot)) (r : ℕ) (i : Ident Spot) → fit_container cs r i ≡ true → Row cs r i
unfolding fit_container
row_is cs r i e = let z = and_true (ltb r (length cs)) _ e in record { low = ltb-true _ _ z.0; is = same_ident_lem _ _ z.1 }

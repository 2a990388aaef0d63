use borrow.Author.Rules.{rules}
use mathlib.Core.Path.{◌≡◌}
use mathlib.Core.Bool.{true, false}
use Rattle.std.proofs.lemmas.Iterator.{first_from_Range}
use Rattle.containers.specs.Calls.{constant_in}
use Rattle.containers.proofs.Finding.{first_is, finds_constant}
use Rattle.containers.proofs.containers.constant_in_cycle.Goals as goal

pub returns : goal.returns
returns c =
    let test = constant_in c.args.table.now c.args.container in
    finds_constant (first_is _ (first_from_Range _ _ _ _ (λ i. test i ≡ true) (λ i. test i ≡ false) c.find.ensures.ran (λ x q e. search rules) (λ x q e. search rules)))

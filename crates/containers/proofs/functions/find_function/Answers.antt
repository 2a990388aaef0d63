use borrow.Author.Rules.{rules}
use mathlib.Core.Path.{◌≡◌}
use mathlib.Core.Bool.{true, false}
use Rattle.std.proofs.lemmas.Iterator.{first_from_Range}
use Rattle.containers.specs.Functions.{function_is}
use Rattle.containers.proofs.Finding.{first_is, finds_function}
use Rattle.containers.proofs.functions.find_function.Goals as goal

pub returns : goal.returns
returns c =
    let test = function_is c.args.table.now c.args.name in
    finds_function (first_is _ (first_from_Range _ _ _ _ (λ i. test i ≡ true) (λ i. test i ≡ false) c.find.ensures.ran (λ x q e. search rules) (λ x q e. search rules)))

use mathlib.Core.Path.{refl}
use Rattle.penne.specs.Write.{ident_b, place_b}
use Rattle.std.proofs.lemmas.Result.{err_from_is_err_and}
use Rattle.types.proofs.Trying.{name_unread, name_used, name_refused}
use Rattle.answer.specs.Parts.{identifier_b}
use Rattle.types.proofs.named_length.Goals as goal

pub returns-in_default : goal.returns-in_default
returns-in_default c = λ l. name_unread _ c.read_identifier.ensures c.in_default.is

pub returns-in_err-made : goal.returns-in_err-made
returns-in_err-made c =
    let p = err_from_is_err_and c.from_residual.result c.from_residual.ensures.1 in
    rw (p.1, p.2) (λ l. name_refused _ c.read_identifier.ensures c.in-Ok.is c.in_err-made.ensures)

pub returns : goal.returns
unfolding identifier_b ident_b place_b
returns c = λ l. name_used _ c.read_identifier.ensures c.in-Ok.is c.in_ok-made.ensures refl c.then_identifier-st.ensures

use native.Mathlib.Omega.{arith}
use Rattle.walk.proofs.state.Walk.find_local.Goals as goal

pub returns-then-work-lt-WORDS : goal.returns-then-work-lt-WORDS
returns-then-work-lt-WORDS c = record { searches = λ h. absurd (omega (arith, h, c.if-work-lt-WORDS.true)) }

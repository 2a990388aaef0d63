use mathlib.Core.Path.{◌≡◌, ap, ◌∙◌}
use Prim.Native.Nat.{ℕ, ◌-◌}
use native.Mathlib.Omega.{arith}
use lib.ListN.{length, replicate}
use Rattle.scoper.proofs.Scoping.{left_written, left_refused, scopes}
use Rattle.scoper.proofs.analyze.Goals as goal

pub returns-in-Ok : goal.returns-in-Ok
returns-in-Ok c =
    let long : length c.scope-ended.new.work - 0 ≡ length c.args.work.now = omega (arith, c.scope-ended.auto.work) in
    scopes (left_written c.scope-ended.auto.answer c.scope-ended.auto.list c.scope-ended.ensures c.in-Ok.is c.fill_from-in-Ok.ensures c.fill_from-in-Ok-2.ensures (c.fill_from.ensures ∙ ap (λ (i : ℕ). replicate i 0) long))

pub returns-in-Err : goal.returns-in-Err
returns-in-Err c =
    let long : length c.scope-ended.new.work - 0 ≡ length c.args.work.now = omega (arith, c.scope-ended.auto.work) in
    scopes (left_refused c.scope-ended.auto.answer c.scope-ended.auto.list c.scope-ended.ensures c.in-Err.is (c.fill.ensures.after (λ y e. e)) (c.fill-in-Err.ensures.after (λ y e. e)) (c.fill_from.ensures ∙ ap (λ (i : ℕ). replicate i 0) long))

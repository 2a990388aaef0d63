use Rattle.std.proofs.Common.{rules, arith, ◌<◌, ◌≡◌, length, get_or}
use lib.Dec.{lit≤}
use native.Mathlib.Nat.{mul-le-mul_right, le-pred_of_lt, mod-lt}
use Rattle.fields.proofs.Numbers.{going_start, weight_le, going_on, going_out, going_none, going_last}
use Rattle.fields.proofs.number.groups.Goals as goal

pub loop-init : goal.loop-init
loop-init c = going_start _ _

pub returns-in_err-byte : goal.returns-in_err-byte
returns-in_err-byte c = search (rules, going_out c.loop.invariant)

pub last_group-requires : goal.last_group-requires
last_group-requires c = (search rules, weight_le c.loop.invariant, omega (arith, weight_le c.loop.invariant))

pub returns-then-group-lt128 : goal.returns-then-group-lt128
returns-then-group-lt128 c =
    let i : c.loop.here < length c.args.tree.now = search rules in
    let e : c.from-group.result ≡ get_or c.args.tree.now c.loop.here 0 = search rules in
    going_last c.loop.invariant (omega arith) i e c.if-group-lt128.true c.last_group.ensures

pub overflow_mul-value : goal.overflow_mul-value
overflow_mul-value c = omega (arith, weight_le c.loop.invariant, mul-le-mul_right c.loop.weight (le-pred_of_lt (mod-lt c.from-group.result {m = 128} (lit≤ tt))))

pub overflow_add-value : goal.overflow_add-value
overflow_add-value c = omega (arith, weight_le c.loop.invariant, mul-le-mul_right c.loop.weight (le-pred_of_lt (mod-lt c.from-group.result {m = 128} (lit≤ tt))))

pub overflow_mul-weight : goal.overflow_mul-weight
overflow_mul-weight c = omega (arith, weight_le c.loop.invariant)

pub loop-preserved : goal.loop-preserved
loop-preserved c =
    let i : c.loop.here < length c.args.tree.now = search rules in
    let e : c.from-group.result ≡ get_or c.args.tree.now c.loop.here 0 = search rules in
    going_on c.loop.invariant (omega arith) (omega arith) i e c.if-group-lt128.false (omega (arith, mul-le-mul_right c.loop.weight (le-pred_of_lt (mod-lt c.from-group.result {m = 128} (lit≤ tt)))))

pub returns : goal.returns
returns c = rw c.at-2.ensures (going_none c.loop.invariant (omega arith))

use Prim.Native.Nat.{◌+◌, ◌*◌}
use Rattle.nodes.proofs.value_type.+value_type.Given as goal

abbrev pub decreases-array : goal.decreases-array
decreases-array l = l.left * 3 + 1

abbrev pub decreases-array_with_named_length : goal.decreases-array_with_named_length
decreases-array_with_named_length l = l.left * 3 + 1

abbrev pub decreases-type_of : goal.decreases-type_of
decreases-type_of l = l.left * 3 + 2

abbrev pub decreases-value_type : goal.decreases-value_type
decreases-value_type l = l.left * 3

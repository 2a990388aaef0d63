use Prim.Native.Nat.{◌+◌, ◌*◌}
use Rattle.types.proofs.+types.Given as goal

abbrev pub decreases-array : goal.decreases-array
decreases-array l = l.left * 4 + 2

abbrev pub decreases-array_with_named_length : goal.decreases-array_with_named_length
decreases-array_with_named_length l = l.left * 4 + 2

abbrev pub decreases-element_of : goal.decreases-element_of
decreases-element_of l = l.left * 4 + 1

abbrev pub decreases-type_of : goal.decreases-type_of
decreases-type_of l = l.left * 4 + 3

abbrev pub decreases-value_type : goal.decreases-value_type
decreases-value_type l = l.left * 4

use Prim.Native.Nat.{◌+◌, ◌*◌}
use Rattle.walk.proofs.edges.+edges.Given as goal

abbrev pub decreases-found_container : goal.decreases-found_container
decreases-found_container l = l.left * 2

abbrev pub decreases-found_in_named_length : goal.decreases-found_in_named_length
decreases-found_in_named_length l = l.left * 2 + 1

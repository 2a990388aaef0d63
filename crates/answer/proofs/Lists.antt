-- What a part `&mut s[a..]` is, and what the whole is when the part has come back.
use mathlib.Core.Path.{◌≡◌, ap, ◌∙◌}
use mathlib.Core.List.{List, ◌++◌, append-nil}
use Prim.Native.Nat.{ℕ, ◌-◌}
use native.Mathlib.Nat.{le_of_eq}
use lib.ListN.{length, take, drop, length-drop, drop_of_length-le}
use lib.Seq.{take_all}

-- the part of s from k on, as the rule for `&mut s[k..]` has it
pub tail_part : (k : ℕ) (s : List ℕ) → take (length s - k) (drop k s) ≡ drop k s
tail_part k s = take_all (length s - k) (drop k s) (le_of_eq (length-drop k s))

-- s when the part from k on has come back as ys
pub tail_back : (k : ℕ) (s ys : List ℕ) → take k s ++ (ys ++ drop (length s - k) (drop k s)) ≡ take k s ++ ys
tail_back k s ys =
    ap (λ (l : List ℕ). take k s ++ (ys ++ l)) (drop_of_length-le (drop k s) (le_of_eq (length-drop k s)))
    ∙ ap (λ (l : List ℕ). take k s ++ l) (append-nil ys)

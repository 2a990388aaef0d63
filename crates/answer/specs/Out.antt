-- Writing bytes to the front of a buffer, as many as fit, and after what was written before.
use Rattle.std.specs.Prelude.{◌≡◌, ℕ, ◌+◌, List, [], ◌∷◌, ◌++◌, Bool, true, false, length, take, drop, leb}
use Rattle.answer.specs.declared.wrote.Wrote.{Wrote}
use Rattle.answer.specs.declared.wrote.Wrote.TheVariants.{Bytes, NoRoom}

-- what a buffer holds after xs was written to its front, up to its end
unfoldable pub laid : (xs o : List ℕ) → List ℕ
laid [] o = o
laid (x ∷ xs) [] = []
laid (x ∷ xs) (b ∷ o) = x ∷ laid xs o

-- one answer or the other
abbrev pub pick_wrote : Bool → Wrote → Wrote → Wrote
pick_wrote true a b = a
pick_wrote false a b = b

-- n bytes in a buffer of room bytes
unfoldable pub wrote_of : (n room : ℕ) → Wrote
wrote_of n room = pick_wrote (leb n room) (Bytes n) NoRoom

-- xs was written at the front of o, which gave o', and r is the answer
pub record Front (xs o : List ℕ) (r : Wrote) (o' : List ℕ) : Type 0 where
  pub told : r ≡ wrote_of (length xs) (length o)
  pub left : o' ≡ laid xs o

-- n bytes more than w counts
unfoldable pub wrote_after : Wrote → (n room : ℕ) → Wrote
wrote_after (Bytes k) n room = wrote_of (k + n) room
wrote_after NoRoom n room = NoRoom

-- what a buffer holds after xs was written behind the bytes that w counts
unfoldable pub laid_after : Wrote → (xs o : List ℕ) → List ℕ
laid_after (Bytes k) xs o = take k o ++ laid xs (drop k o)
laid_after NoRoom xs o = o

-- xs was written in o behind the bytes that w counts, which gave o', and r is the answer
pub record Put (w : Wrote) (xs o : List ℕ) (r : Wrote) (o' : List ℕ) : Type 0 where
  pub told : r ≡ wrote_after w (length xs) (length o)
  pub left : o' ≡ laid_after w xs o

-- the cursor is within the buffer
pub record Within (w : Wrote) (o : List ℕ) : Type 0 where
  pub is : w ≡ wrote_after w 0 (length o)

-- the buffer o of so much room, with the cursor w, begins with xs as far as it fits
pub record Said (w : Wrote) (o xs : List ℕ) (room : ℕ) : Type 0 where
  pub told : w ≡ wrote_of (length xs) room
  pub left : laid xs o ≡ o
  pub long : length o ≡ room

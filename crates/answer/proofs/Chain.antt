-- One write after another: what a cursor's write leaves, and that two are one.
use mathlib.Core.Path.{◌≡◌, refl, sym, ap, ◌∙◌}
use mathlib.Core.List.{List, [], ◌++◌, append_assoc, append-nil}
use mathlib.Core.Bool.{Bool, true, false}
use Prim.Native.Nat.{ℕ, ◌-◌, ◌+◌, ◌≤◌, ◌<◌}
use native.Mathlib.Nat.{add_assoc, le_of_lt, zero-add, add-zero}
use native.Mathlib.Omega.{arith}
use lib.Dec.{leb}
use lib.ListN.{length, take, drop, length-drop, length-append, drop_of_length-le, take-append-drop}
use lib.Seq.{take_all, take-append-add, drop-append-add, length-take-le}
use borrow.Author.Tests.{leb-true, leb-false}
use borrow.Rule.Slice.PartMut.{mid_of, put_mid}
use Rattle.answer.specs.declared.wrote.Wrote.{Wrote}
use Rattle.answer.specs.declared.wrote.Wrote.TheVariants.{Bytes, NoRoom}
use Rattle.answer.specs.Out.{laid, wrote_of, wrote_after, laid_after, pick_wrote, Front, Put, Within}
use Rattle.answer.proofs.Lists.{tail_part, tail_back}
use Rattle.answer.proofs.Laid.{length-laid, laid_nil, laid_full, laid_on, told_bytes, told_none, wrote_bytes, wrote_none}

-- THE WAYS THROUGH A FUNCTION THAT WRITES AT A CURSOR

pub after_none : {w : Wrote} {xs o : List ℕ} → w ≡ NoRoom → Put w xs o NoRoom o
unfolding wrote_after laid_after
after_none e = rw e (record { told = refl; left = refl })

pub after_past : {w : Wrote} {xs o : List ℕ} {k : ℕ} → w ≡ Bytes k → length o < k → Put w xs o NoRoom o
unfolding wrote_after laid_after
after_past {xs = xs} {o} {k} e h = rw e (record {
  told = told_none _ _ (omega arith);
  left = sym (ap (λ (l : List ℕ). take k o ++ laid xs l) (drop_of_length-le o (le_of_lt h)) ∙ ap (λ (l : List ℕ). take k o ++ l) (laid_nil xs) ∙ append-nil _ ∙ take_all k o (le_of_lt h));
})

pub settled_is : {w : Wrote} {o : List ℕ} {k : ℕ} → w ≡ Bytes k → k ≤ length o → Put w [] o (Bytes k) o
unfolding wrote_after laid_after laid
settled_is {w} {o} {k} e h = rw e (record { told = told_bytes _ _ _ (omega arith) (omega arith); left = sym (take-append-drop k o) })

part_room : (k : ℕ) (o : List ℕ) → length (mid_of k (length o - k) o) ≡ length o - k
part_room k o = ap length (tail_part k o) ∙ length-drop k o

part_left : (k : ℕ) (xs o ys : List ℕ) → ys ≡ laid xs (mid_of k (length o - k) o) → put_mid k (length o - k) o ys ≡ take k o ++ laid xs (drop k o)
part_left k xs o ys e = tail_back k o ys ∙ ap (λ (l : List ℕ). take k o ++ l) (e ∙ ap (laid xs) (tail_part k o))

pub after_bytes : {w r : Wrote} (xs : List ℕ) (o ys : List ℕ) (k n : ℕ) → w ≡ Bytes k → k ≤ length o → r ≡ Bytes n
    → Front xs (mid_of k (length o - k) o) r ys → Put w xs o (Bytes (k + n)) (put_mid k (length o - k) o ys)
unfolding wrote_after laid_after
after_bytes xs o ys k n e h q f =
    let a = wrote_bytes n _ _ q f.told in
    rw e (record { told = told_bytes _ _ _ (omega arith) (omega (arith, part_room k o)); left = part_left k xs o ys f.left })

pub after_full : {w r : Wrote} (xs : List ℕ) (o ys : List ℕ) (k : ℕ) → w ≡ Bytes k → k ≤ length o → r ≡ NoRoom
    → Front xs (mid_of k (length o - k) o) r ys → Put w xs o NoRoom (put_mid k (length o - k) o ys)
unfolding wrote_after laid_after
after_full xs o ys k e h q f =
    let a = wrote_none _ _ q f.told in
    rw e (record { told = told_none _ _ (omega (arith, part_room k o)); left = part_left k xs o ys f.left })

-- the part's bytes fit
pub after_count : (o : List ℕ) (k : ℕ) {r : Wrote} {n : ℕ} {xs ys : List ℕ} → r ≡ Bytes n → Front xs (mid_of k (length o - k) o) r ys → n ≤ length o - k
after_count o k {n = n} q f = let a = wrote_bytes n _ _ q f.told in omega (arith, part_room k o)

-- LENGTHS

length_after : (w : Wrote) (xs o : List ℕ) → length (laid_after w xs o) ≡ length o
unfolding laid_after
length_after (Bytes k) xs o = length-append (take k o) _ ∙ ap (λ (n : ℕ). length (take k o) + n) (length-laid xs (drop k o)) ∙ sym (length-append (take k o) (drop k o)) ∙ ap length (take-append-drop k o)
length_after NoRoom xs o = refl

pub put_length : {w : Wrote} {xs o : List ℕ} {r : Wrote} {o' : List ℕ} → Put w xs o r o' → length o' ≡ length o
put_length p = ap length p.left ∙ length_after _ _ _

-- TWO WRITES ARE ONE

wrote_on_go : (k n m room : ℕ) (b : Bool) → leb (k + n) room ≡ b → wrote_after (pick_wrote b (Bytes (k + n)) NoRoom) m room ≡ wrote_of (k + (n + m)) room
unfolding wrote_after
wrote_on_go k n m room true e = ap (λ (i : ℕ). wrote_of i room) (add_assoc k n m)
wrote_on_go k n m room false e = told_none _ _ (let h = leb-false (k + n) room e in omega arith)

wrote_on : (w : Wrote) (n m room : ℕ) → wrote_after (wrote_after w n room) m room ≡ wrote_after w (n + m) room
unfolding wrote_after wrote_of
wrote_on (Bytes k) n m room = wrote_on_go k n m room (leb (k + n) room) refl
wrote_on NoRoom n m room = refl

take_on : (p q : List ℕ) (k n : ℕ) → length p ≡ k → take (k + n) (p ++ q) ≡ p ++ take n q
take_on p q k n e = rw (← e) (take-append-add p q n)

drop_on : (p q : List ℕ) (k n : ℕ) → length p ≡ k → drop (k + n) (p ++ q) ≡ drop n q
drop_on p q k n e = rw (← e) (drop-append-add p q n)

laid_on_go : (k : ℕ) (a b o : List ℕ) (t : Bool) → leb (k + length a) (length o) ≡ t
    → laid_after (pick_wrote t (Bytes (k + length a)) NoRoom) b (take k o ++ laid a (drop k o)) ≡ take k o ++ laid (a ++ b) (drop k o)
unfolding laid_after
laid_on_go k a b o true e =
    let h = leb-true (k + length a) (length o) e in
    let l : length (take k o) ≡ k = length-take-le k o (omega arith) in
    let d : length a ≤ length (drop k o) = omega (arith, length-drop k o) in
    rw (take_on (take k o) (laid a (drop k o)) k (length a) l, drop_on (take k o) (laid a (drop k o)) k (length a) l)
    (append_assoc (take k o) _ _ ∙ ap (λ (s : List ℕ). take k o ++ s) (laid_on a b (drop k o) d))
laid_on_go k a b o false e =
    let h = leb-false (k + length a) (length o) e in
    ap (λ (s : List ℕ). take k o ++ s) (sym (laid_full a b (drop k o) (omega (arith, length-drop k o))))

laid_after_on : (w : Wrote) (a b o : List ℕ) → laid_after (wrote_after w (length a) (length o)) b (laid_after w a o) ≡ laid_after w (a ++ b) o
unfolding laid_after wrote_after wrote_of
laid_after_on (Bytes k) a b o = laid_on_go k a b o (leb (k + length a) (length o)) refl
laid_after_on NoRoom a b o = refl

infixr 20 ◌▸◌
-- a and then b is a ++ b
pub ◌▸◌ : {w : Wrote} {a b o : List ℕ} {r : Wrote} {o' : List ℕ} {r' : Wrote} {o'' : List ℕ} → Put w a o r o' → Put r b o' r' o'' → Put w (a ++ b) o r' o''
◌▸◌ {w} {a} {b} {o} {r} {o'} {r'} {o''} p q = record {
  told = q.told ∙ ap (λ (i : ℕ). wrote_after r (length b) i) (put_length p) ∙ ap (λ (s : Wrote). wrote_after s (length b) (length o)) p.told ∙ wrote_on w (length a) (length b) (length o)
      ∙ ap (λ (i : ℕ). wrote_after w i (length o)) (sym (length-append a b));
  left = q.left ∙ ap (laid_after r b) p.left ∙ ap (λ (s : Wrote). laid_after s b (laid_after w a o)) p.told ∙ laid_after_on w a b o;
}

-- a write at the front is one after no byte, and the other way round
pub start : {a o : List ℕ} {r : Wrote} {o' : List ℕ} → Front a o r o' → Put (Bytes 0) a o r o'
unfolding wrote_after laid_after
start {a} {o} f = record { told = f.told ∙ ap (λ (i : ℕ). wrote_of i (length o)) (sym (zero-add (length a))); left = f.left }

pub front : {a o : List ℕ} {r : Wrote} {o' : List ℕ} → Put (Bytes 0) a o r o' → Front a o r o'
unfolding wrote_after laid_after
front {a} {o} p = record { told = p.told ∙ ap (λ (i : ℕ). wrote_of i (length o)) (zero-add (length a)); left = p.left }

-- NOTHING WRITTEN

none_left : (w : Wrote) (o : List ℕ) → o ≡ laid_after w [] o
unfolding laid_after laid
none_left (Bytes k) o = sym (take-append-drop k o)
none_left NoRoom o = refl

-- a cursor within the buffer stays where it is
pub put_none : {w : Wrote} {o : List ℕ} → Within w o → Put w [] o w o
put_none h = record { told = h.is; left = none_left _ _ }

-- after a write the cursor is within the buffer
pub put_within : {w : Wrote} {xs o : List ℕ} {r : Wrote} {o' : List ℕ} → Put w xs o r o' → Within r o'
put_within {w} {xs} {o} {r} {o'} p = record {
  is = p.told ∙ ap (λ (n : ℕ). wrote_after w n (length o)) (sym (add-zero (length xs))) ∙ sym (wrote_on w (length xs) 0 (length o))
      ∙ ap (λ (v : Wrote). wrote_after v 0 (length o)) (sym p.told) ∙ ap (wrote_after r 0) (sym (put_length p));
}

pub then_more : {w : Wrote} {a b o : List ℕ} {r : Wrote} {o' : List ℕ} {r' : Wrote} {o'' : List ℕ} → Put w a o r o' → Put r b o' r' o'' → Put w (a ++ b) o r' o''
then_more p q = p ▸ q

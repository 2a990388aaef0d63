-- Numbers one after another: from a few values, and from a part of the tree.
use mathlib.Core.Path.{◌≡◌, refl, sym, ap, ◌∙◌}
use mathlib.Core.List.{List, [], ◌∷◌, ◌++◌, append-nil, append_assoc, flat_map}
use Prim.Native.Nat.{ℕ, zero, suc, ◌+◌, ◌-◌, ◌≤◌, ◌<◌, min}
use native.Mathlib.Numerals.{add-one}
use native.Mathlib.Decide.{dec_lt}
use native.Mathlib.Omega.{arith}
use lib.ListN.{length, take, drop, get_or, length-drop, drop_of_length-le}
use lib.Seq.{take-suc, take_all, take-nil, take-add, drop-drop}
use borrow.Author.Tests.{lt-ltb, le-ltb}
use Rattle.std.proofs.lemmas.List.{take_min}
use Rattle.penne.specs.Reader.{Cur, Got, got, refused, num, nothing}
use Rattle.penne.specs.Write.{num_b}
use Rattle.std.specs.Prelude.{Result, Ok, Err}
use Rattle.fields.specs.declared.refusal.Refusal.{Refusal}
use Rattle.fields.specs.Answers.{cursor, row_of, number_of, Gives}
use Rattle.answer.specs.declared.wrote.Wrote.{Wrote}
use Rattle.answer.specs.Out.{Put}
use Rattle.answer.specs.Parts.{span, renumbered, renumbered_by}
use Rattle.answer.proofs.Chain.{◌▸◌}
use Rattle.answer.proofs.Spelling.{Bytewise, num_reading}

-- the same bytes, said otherwise
pub put_same : {w : Wrote} {xs ys o : List ℕ} {r : Wrote} {o' : List ℕ} → xs ≡ ys → Put w xs o r o' → Put w ys o r o'
put_same e p = rw e at p

-- A FEW VALUES

each_one_more : {A : Type 0} (f : A → List ℕ) (xs : List A) (x : A) → flat_map f (xs ++ (x ∷ [])) ≡ flat_map f xs ++ f x
unfolding flat_map
each_one_more f [] x = append-nil (f x)
each_one_more f (y ∷ xs) x = ap (λ (l : List ℕ). f y ++ l) (each_one_more f xs x) ∙ sym (append_assoc (f y) (flat_map f xs) (f x))

-- the loop: the first i values are written
pub record Each (w : Wrote) (xs o₀ : List ℕ) (i : ℕ) (c : Wrote) (o : List ℕ) : Type 0 where
  pub put : Put w (flat_map num_b (take i xs)) o₀ c o

pub each_start : {w : Wrote} {xs o₀ : List ℕ} {c : Wrote} {o : List ℕ} → Put w [] o₀ c o → Each w xs o₀ 0 c o
unfolding flat_map
each_start p = record { put = p }

pub each_more : {w : Wrote} {xs o₀ : List ℕ} {i : ℕ} {c : Wrote} {o : List ℕ} {c' : Wrote} {o' : List ℕ}
    → Each w xs o₀ i c o → i < length xs → Put c (num_b (get_or xs i 0)) o c' o' → Each w xs o₀ (i + 1) c' o'
each_more {xs = xs} {i = i} e h p = record {
  put = put_same (sym (ap (λ (k : ℕ). flat_map num_b (take k xs)) (add-one i) ∙ ap (flat_map num_b) (take-suc xs i 0 h) ∙ each_one_more num_b (take i xs) (get_or xs i 0))) (e.put ▸ p);
}

pub each_done : {w : Wrote} {xs o₀ : List ℕ} (n : ℕ) {i : ℕ} {c : Wrote} {o : List ℕ} → Each w xs o₀ i c o → i ≡ min n (length xs) → Put w (flat_map num_b (take n xs)) o₀ c o
each_done {xs = xs} n e h = put_same (ap (λ (k : ℕ). flat_map num_b (take k xs)) h ∙ ap (flat_map num_b) (take_min n xs)) e.put

-- A PART OF THE TREE, AS IT IS

part_nothing : (s : List ℕ) (from to : ℕ) → to ≤ from → span s from to ≡ []
unfolding span
part_nothing s from to h = let e : to - from ≡ 0 = omega arith in ap (λ (k : ℕ). take k (drop from s)) e

part_past : (s : List ℕ) (from to : ℕ) → length s ≤ from → span s from to ≡ []
unfolding span
part_past s from to h = ap (take (to - from)) (drop_of_length-le s h) ∙ take-nil (to - from)

part_rest : (s : List ℕ) (from to : ℕ) → length s ≤ to → span s from (length s) ≡ span s from to
unfolding span
part_rest s from to h = take_all (length s - from) (drop from s) (omega (arith, length-drop from s)) ∙ sym (take_all (to - from) (drop from s) (omega (arith, length-drop from s)))

module _ (s : List ℕ) (from to : ℕ) {w : Wrote} {o : List ℕ} {r : Wrote} {o' : List ℕ} where
  pub copy_nothing : to ≤ from → Put w [] o r o' → Put w (span s from to) o r o'
  copy_nothing h p = put_same (sym (part_nothing s from to h)) p

  pub copy_past : length s ≤ from → Put w [] o r o' → Put w (span s from to) o r o'
  copy_past h p = put_same (sym (part_past s from to h)) p

  pub copy_rest : length s ≤ to → Put w (span s from (length s)) o r o' → Put w (span s from to) o r o'
  copy_rest h p = put_same (part_rest s from to h) p

-- THE TREE'S NUMBERS

-- a cursor of which only the byte matters
abbrev at_byte : ℕ → Cur
at_byte at = cursor at 0 nothing

-- the fuel does not matter where it is enough
fuel_same : (n m : ℕ) (s : List ℕ) (at to : ℕ) → to ≤ at + n → to ≤ at + m → renumbered_by n s at to ≡ renumbered_by m s at to
unfolding renumbered_by
fuel_same zero zero s at to h k = refl
fuel_same zero (suc m) s at to h k = rw (le-ltb at to (omega arith), renumbered_by)
fuel_same (suc n) zero s at to h k = rw (le-ltb at to (omega arith), renumbered_by)
fuel_same (suc n) (suc m) s at to h k = go (dec_lt at to) (num s (at_byte at)) refl (λ next l. fuel_same n m s next to (omega arith) (omega arith))
  where
    go : Dec (at < to) → (q : Got ℕ) → num s (at_byte at) ≡ q → ((next : ℕ) → at < next → renumbered_by n s next to ≡ renumbered_by m s next to) → renumbered_by (suc n) s at to ≡ renumbered_by (suc m) s at to
    go (no l) q e rest = rw (le-ltb at to (omega arith), renumbered_by)
    go (yes l) (got v next) e rest = simp (lt-ltb at to l, e, renumbered_by) (ap (λ (r : List ℕ). num_b v ++ r) (rest next.at (num_reading s (at_byte at) v next e).later))
    go (yes l) (refused i p) e rest = simp (lt-ltb at to l, e, renumbered_by)

module _ (s : List ℕ) (at to : ℕ) where
  pub renumbered_end : to ≤ at → renumbered s at to ≡ []
  unfolding renumbered renumbered_by
  renumbered_end h = let e : to - at ≡ 0 = omega arith in ap (λ (n : ℕ). renumbered_by n s at to) e

  -- the first number, or none
  renumbered_step : at < to → renumbered s at to ≡ renumbered_by (suc (to - at)) s at to
  unfolding renumbered
  renumbered_step h = fuel_same (to - at) (suc (to - at)) s at to (omega arith) (omega arith)

  pub renumbered_refused : {n p : ℕ} → at < to → num s (at_byte at) ≡ refused n p → renumbered s at to ≡ []
  unfolding renumbered_by
  renumbered_refused h e = renumbered_step h ∙ simp (lt-ltb at to h, e, renumbered_by)

  pub renumbered_more : (v : ℕ) (next : Cur) → at < to → num s (at_byte at) ≡ got v next → renumbered s at to ≡ num_b v ++ renumbered s next.at to
  unfolding renumbered_by renumbered
  renumbered_more v next h e =
      let l = (num_reading s (at_byte at) v next e).later in
      renumbered_step h ∙ simp (lt-ltb at to h, e, renumbered_by) (ap (λ (r : List ℕ). num_b v ++ r) (fuel_same (to - at) (to - next.at) s next.at to (omega arith) (omega arith)))

-- what a reading of a number tells
module _ {s : List ℕ} {at : ℕ} {m : Result (ℕ × ℕ) Refusal} (g : Gives num s at m) where
  gives_number : {v n : ℕ} → m ≡ Ok (v, n) → num s (at_byte at) ≡ got v (at_byte n)
  gives_number e = g.is 0 nothing ∙ ap (number_of 0 nothing) e

  gives_refused : {x : Refusal} → m ≡ Err x → num s (at_byte at) ≡ refused (row_of x.reason) x.place
  gives_refused e = g.is 0 nothing ∙ ap (number_of 0 nothing) e

  pub gives_later : {v n : ℕ} → m ≡ Ok (v, n) → at < n
  gives_later {v} {n} e = (num_reading s (at_byte at) v (at_byte n) (gives_number e)).later

-- the loop: `done` is written, and the rest begins at `at`
pub record Renumbering (w : Wrote) (s : List ℕ) (from to : ℕ) (o₀ : List ℕ) (at : ℕ) (c : Wrote) (o : List ℕ) : Type 0 where
  pub done : List ℕ
  pub put : Put w done o₀ c o
  pub rest : renumbered s from to ≡ done ++ renumbered s at to

pub renumbering_start : {w : Wrote} {s : List ℕ} {from to : ℕ} {o₀ : List ℕ} {c : Wrote} {o : List ℕ} → Put w [] o₀ c o → Renumbering w s from to o₀ from c o
renumbering_start p = record { done = []; put = p; rest = refl }

module _ {w : Wrote} {s : List ℕ} {from to : ℕ} {o₀ : List ℕ} {at : ℕ} {c : Wrote} {o : List ℕ} (e : Renumbering w s from to o₀ at c o) where
  pub renumbering_more : {m : Result (ℕ × ℕ) Refusal} {v n : ℕ} {c' : Wrote} {o' : List ℕ} → at < to → Gives num s at m → m ≡ Ok (v, n) → Put c (num_b v) o c' o' → Renumbering w s from to o₀ n c' o'
  renumbering_more {v = v} {n} h g q p = record {
    done = e.done ++ num_b v;
    put = e.put ▸ p;
    rest = e.rest ∙ ap (λ (l : List ℕ). e.done ++ l) (renumbered_more s at to v (at_byte n) h (gives_number g q)) ∙ sym (append_assoc e.done (num_b v) (renumbered s n to));
  }

  over : renumbered s at to ≡ [] → Put w (renumbered s from to) o₀ c o
  over z = put_same (sym (e.rest ∙ ap (λ (l : List ℕ). e.done ++ l) z ∙ append-nil e.done)) e.put

  pub renumbering_done : to ≤ at → Put w (renumbered s from to) o₀ c o
  renumbering_done h = over (renumbered_end s at to h)

  pub renumbering_out : {m : Result (ℕ × ℕ) Refusal} {x : Refusal} → at < to → Gives num s at m → m ≡ Err x → Put w (renumbered s from to) o₀ c o
  renumbering_out h g q = over (renumbered_refused s at to h (gives_refused g q))

-- WHERE NUMBERS STAND, THEIR BYTES STAND

-- from `from` to `to` one number stands after another
pub data Numbers (s : List ℕ) : (from to : ℕ) → Type 0 where
  none : {at : ℕ} → Numbers s at at
  more : {at to : ℕ} (v next : ℕ) → num s (cursor at 0 nothing) ≡ got v (cursor next 0 nothing) → Numbers s next to → Numbers s at to

pub numbers_le : {s : List ℕ} {from to : ℕ} → Numbers s from to → from ≤ to
numbers_le none = omega arith
numbers_le {s} {from} (more v next e rest) = omega (arith, (num_reading s (at_byte from) v (at_byte next) e).later, numbers_le rest)

pub numbers_join : {s : List ℕ} {a b c : ℕ} → Numbers s a b → Numbers s b c → Numbers s a c
numbers_join none q = q
numbers_join (more v next e rest) q = more v next e (numbers_join rest q)

pub part_join : (s : List ℕ) (a b c : ℕ) → a ≤ b → b ≤ c → span s a b ++ span s b c ≡ span s a c
unfolding span
part_join s a b c h k =
    let e : c - a ≡ (b - a) + (c - b) = omega arith in
    let d : a + (b - a) ≡ b = omega arith in
    sym (ap (λ (n : ℕ). take n (drop a s)) e ∙ take-add (b - a) (c - b) (drop a s) ∙ ap (λ (l : List ℕ). take (b - a) (drop a s) ++ take (c - b) l) (drop-drop (b - a) a s ∙ ap (λ (n : ℕ). drop n s) d))

-- their shortest forms are the bytes that stand there
pub renumbered_is : {s : List ℕ} {from to : ℕ} → Bytewise s → Numbers s from to → renumbered s from to ≡ span s from to
renumbered_is {s} {from} b none = renumbered_end s from from (omega arith) ∙ sym (part_nothing s from from (omega arith))
renumbered_is {s} {from} {to} b (more v next e rest) =
    let r = num_reading s (at_byte from) v (at_byte next) e in
    let h = numbers_le rest in
    renumbered_more s from to v (at_byte next) (omega arith) e ∙ ap (λ (l : List ℕ). l ++ renumbered s next to) (r.bytes b) ∙ ap (λ (l : List ℕ). span s from next ++ l) (renumbered_is b rest) ∙ part_join s from next to (omega arith) h

-- The table of names: parts compared, names found among the names before them, and the table read.
use mathlib.Core.Path.{◌≡◌, refl, sym, ap, subst, ◌∙◌}
use mathlib.Core.Bool.{Bool, true, false, ◌&&◌, ◌||◌, not}
use mathlib.Core.List.{List, [], ◌∷◌, ◌++◌}
use Prim.Native.Nat.{ℕ, zero, suc, ◌+◌, ◌-◌, ◌*◌, ◌%◌, ◌^◌, ◌≤◌, ◌<◌}
use native.Mathlib.Omega.{arith}
use native.Mathlib.Decide.{ℕ_discrete}
use native.Mathlib.Nat.{le-mul_of_pos_right, mul_comm}
use lib.Dec.{eqb, ltb, leb, lit≤}
use lib.ListN.{length, get_or, take, drop}
use borrow.Author.Tests.{eq-eqb, ne_eqb, lt-ltb, ltb-true, ltb-false, leb-true, eqb-true}
use Rattle.penne.specs.Reader.{Counts, Cur, Got, got, refused, Reader, ◌>>=◌, ret, num, groups, last_group, moved, such, raw, nothing}
use Rattle.penne.specs.Read.{same_bytes, among_names, read_names}
use Rattle.penne.proofs.Booleans.{and_right, true_false}
use Rattle.std.specs.Prelude.{if◌then◌else◌, Result, Ok, Err}
use Rattle.fields.specs.declared.refusal.Refusal.{Refusal}
use Rattle.fields.specs.Answers.{cursor, forget, Gives, Skips}
use Rattle.fields.proofs.Chain.{after, then_is}
use Rattle.fields.proofs.Numbers.{out, last, on}
use Rattle.name_table.specs.Names.{part, behind, names_from, names_end, Tables, after_one, OneMore, Marked, Knows, Noted}

-- PARTS

pub same_eq : (a b : List ℕ) → same_bytes a b ≡ true → a ≡ b
unfolding same_bytes
same_eq [] [] e = refl
same_eq [] (y ∷ ys) e = true_false (sym e)
same_eq (x ∷ xs) [] e = true_false (sym e)
same_eq (x ∷ xs) (y ∷ ys) e = (elim (eqb x y) as (λ t. eqb x y ≡ t → (t && same_bytes xs ys) ≡ true → x ∷ xs ≡ y ∷ ys) [
  | true ↦ λ z h. λ i. eqb-true x y z i ∷ same_eq xs ys h i
  | false ↦ λ z h. true_false (sym h)
]) refl e

not_same : (a b : List ℕ) → (a ≡ b → ⊥) → false ≡ same_bytes a b
not_same a b h = (elim (same_bytes a b) as (λ t. same_bytes a b ≡ t → false ≡ t) [
  | true ↦ λ z. absurd (h (same_eq a b z))
  | false ↦ λ z. refl
]) refl

pub same_not_long : (a b : List ℕ) → (length a ≡ length b → ⊥) → false ≡ same_bytes a b
same_not_long a b h = not_same a b λ e. h (ap length e)

-- so far the two are the same, from the end on
pub record SameBehind (a b : List ℕ) (i : ℕ) : Type 0 where
  pub same : (j : ℕ) → i ≤ j → j < length a → get_or a j 0 ≡ get_or b j 0
  pub long : length a ≡ length b
  pub within : i ≤ length a

pub same_start : {a b : List ℕ} → length a ≡ length b → SameBehind a b (length a)
same_start h = record { same = λ j lo hi. absurd (omega arith); long = h; within = omega arith }

same_all : (a b : List ℕ) → length a ≡ length b → ((j : ℕ) → j < length a → get_or a j 0 ≡ get_or b j 0) → true ≡ same_bytes a b
unfolding same_bytes
same_all [] [] l h = refl
same_all [] (y ∷ ys) l h = absurd (omega (arith, l))
same_all (x ∷ xs) [] l h = absurd (omega (arith, l))
same_all (x ∷ xs) (y ∷ ys) l h = same_all xs ys (omega (arith, l)) (λ j k. h (suc j) (omega (arith, k))) ∙ sym (rw (eq-eqb x y (h 0 (omega arith))))

module _ {a b : List ℕ} {i : ℕ} (g : SameBehind a b i) (h : 0 < i) where
  pub same_differ : (get_or a (i - 1) 0 ≡ get_or b (i - 1) 0 → ⊥) → false ≡ same_bytes a b
  same_differ z = not_same a b λ e. z (ap (λ (l : List ℕ). get_or l (i - 1) 0) e)

  pub same_on : get_or a (i - 1) 0 ≡ get_or b (i - 1) 0 → SameBehind a b (i - 1)
  same_on z = record { same = λ j lo hi. one_more j (ℕ_discrete j (i - 1)) lo hi; long = g.long; within = omega (arith, g.within) }
    where
      one_more : (j : ℕ) → Dec (j ≡ i - 1) → i - 1 ≤ j → j < length a → get_or a j 0 ≡ get_or b j 0
      one_more j (yes e) lo hi = subst (λ (k : ℕ). get_or a k 0 ≡ get_or b k 0) (sym e) z
      one_more j (no e) lo hi = g.same j (omega arith) hi

pub same_done : {a b : List ℕ} {i : ℕ} → SameBehind a b i → i ≤ 0 → true ≡ same_bytes a b
same_done {a} {b} g h = same_all a b g.long (λ j k. g.same j (omega arith) k)

-- AMONG THE NAMES BEFORE

pub names_grow : (n : ℕ) (s : List ℕ) (at : ℕ) → at ≤ names_end n s at
unfolding names_end
names_grow zero s at = omega arith
names_grow (suc n) s at = omega (arith, names_grow n s (behind s at))

-- what is left to look through, where `done` names have been
pub record Among (s name : List ℕ) (count from done at : ℕ) : Type 0 where
  pub is : among_names name (names_from count s from) ≡ among_names name (names_from (count - done) s at)
  pub within : names_end (count - done) s at ≤ length s

pub among_start : {s name : List ℕ} {count from : ℕ} → names_end count s from ≤ length s → Among s name count from 0 from
among_start {count = count} h = let e : count - 0 ≡ count = omega arith in record { is = rw e; within = rw e h }

module _ {s name : List ℕ} {count from done at : ℕ} (g : Among s name count from done at) where
  module _ (z : done < count) where
    one_less : count - done ≡ suc (count - (done + 1))
    one_less = omega arith

    ends : names_end (count - (done + 1)) s (behind s at) ≤ length s
    unfolding names_end
    ends = rw one_less at g.within

    pub among_within : behind s at ≤ length s
    among_within = omega (arith, ends, names_grow (count - (done + 1)) s (behind s at))

    -- n is the length that the code has read, and t says whether the name there is the same
    module _ {n : ℕ} (v : n ≡ get_or s at 0) {t : Bool} (e : t ≡ same_bytes name (part s (at + 1) n)) where
      looks : among_names name (names_from count s from) ≡ (t || among_names name (names_from (count - (done + 1)) s (behind s at)))
      unfolding names_from among_names
      looks = g.is ∙ rw (one_less, e, v)

      pub among_found : t ≡ true → true ≡ among_names name (names_from count s from)
      among_found h = sym (looks ∙ ap (λ (b : Bool). b || among_names name (names_from (count - (done + 1)) s (behind s at))) h)

      pub among_more : t ≡ false → Among s name count from (done + 1) (at + 1 + n)
      among_more h = subst (λ (j : ℕ). Among s name count from (done + 1) (at + 1 + j)) (sym v) (record {
        is = looks ∙ ap (λ (b : Bool). b || among_names name (names_from (count - (done + 1)) s (behind s at))) h;
        within = ends;
      })

  pub among_none : count ≤ done → false ≡ among_names name (names_from count s from)
  unfolding names_from among_names
  among_none z = let e : count - done ≡ 0 = omega arith in sym (g.is ∙ ap (λ (n : ℕ). among_names name (names_from n s at)) e)

-- A LENGTH IS ONE BYTE

got_is : {x y : ℕ} {c d : Cur} → got x c ≡ got y d → (x ≡ y) × (c ≡ d)
got_is e = (cc, cc)

got_not : {x n p : ℕ} {c : Cur} → ◌≡◌ {A = Got ℕ} (refused n p) (got x c) → ⊥
got_not e = let y : ◌≡◌ {A = ℕ} 0 1 = cc in omega arith

-- the last of several groups is not empty, so that the number is at least their weight
not_empty : (b w : ℕ) → 128 ≤ w → (not (eqb b 0) || eqb w 1) ≡ true → 0 < b
not_empty zero w h e = absurd (false_true (sym (ne_eqb w 1 (omega arith)) ∙ e))
  where
    false_true : false ≡ true → ⊥
    false_true e = let y : ◌≡◌ {A = ℕ} 0 1 = cc in omega arith
not_empty (suc b) w h e = omega arith

large_go : (t : Bool) (b w v start next : ℕ) (c : Cur) {x : ℕ} {d : Cur} → (ltb (v + b * w) (2 ^ 32) && (not (eqb b 0) || eqb w 1)) ≡ t → 128 ≤ w → elim t as (λ _. Got ℕ) [ true ↦ got (v + b * w) (moved c next) | false ↦ refused 4 start ] ≡ got x d → 128 ≤ x
large_go true b w v start next c {x} z h e =
    let q : v + b * w ≡ x = (got_is e).0 in
    let y : 0 < b = not_empty b w h (and_right (ltb (v + b * w) (2 ^ 32)) _ z) in
    omega (arith, le-mul_of_pos_right w y, mul_comm b w)
large_go false b w v start next c z h e = absurd (got_not e)

last_large : (b w v start next : ℕ) (c : Cur) {x : ℕ} {d : Cur} → 128 ≤ w → last_group b w v start next c ≡ got x d → 128 ≤ x
unfolding last_group
last_large b w v start next c h e = large_go (ltb (v + b * w) (2 ^ 32) && (not (eqb b 0) || eqb w 1)) b w v start next c refl h e

groups_large : (left start w v : ℕ) (s : List ℕ) (at : ℕ) (c : Cur) {x : ℕ} {d : Cur} → 128 ≤ w → groups left start w v s at c ≡ got x d → 128 ≤ x
unfolding groups
groups_large zero start w v s at c h e = absurd (got_not e)
groups_large (suc left) start w v s at c {x} {d} h e = (elim (ltb at (length s)) as (λ t. ltb at (length s) ≡ t → 128 ≤ x) [
  | false ↦ λ z. absurd (got_not (rw (z, groups) at e))
  | true ↦ λ z. (elim (ltb (get_or s at 0) 128) as (λ t. ltb (get_or s at 0) 128 ≡ t → 128 ≤ x) [
    | true ↦ λ y. last_large (get_or s at 0) w v start (at + 1) c h (simp (z, y, groups) at e)
    | false ↦ λ y. groups_large left start (w * 128) (v + (get_or s at 0 % 128) * w) s (at + 1) c (omega arith) (simp (z, y, groups) at e)
  ]) refl
]) refl

byte_go : (t : Bool) (b at : ℕ) (c : Cur) {x : ℕ} {d : Cur} → elim t as (λ _. Got ℕ) [ true ↦ got (0 + b * 1) (moved c (at + 1)) | false ↦ refused 4 at ] ≡ got x d → (x ≡ b) × (d.at ≡ at + 1)
unfolding moved
byte_go true b at c e = let q = got_is e in (let r : 0 + b * 1 ≡ _ = q.0 in omega arith, sym (ap (λ (z : Cur). z.at) q.1))
byte_go false b at c e = absurd (got_not e)

one_byte : (s : List ℕ) (at : ℕ) (c : Cur) {x : ℕ} {d : Cur} → groups 5 at 1 0 s at c ≡ got x d → x < 128 → (x ≡ get_or s at 0) × (d.at ≡ at + 1)
unfolding last_group
one_byte s at c {x} {d} e h = (elim (ltb at (length s)) as (λ t. ltb at (length s) ≡ t → (x ≡ get_or s at 0) × (d.at ≡ at + 1)) [
  | false ↦ λ z. absurd (got_not (sym (out at 1 0 s at c 5 (lit≤ tt) (ltb-false _ _ z)) ∙ e))
  | true ↦ λ z. (elim (ltb (get_or s at 0) 128) as (λ t. ltb (get_or s at 0) 128 ≡ t → (x ≡ get_or s at 0) × (d.at ≡ at + 1)) [
    | true ↦ λ y. byte_go (ltb (0 + get_or s at 0 * 1) (2 ^ 32) && (not (eqb (get_or s at 0) 0) || eqb 1 1)) (get_or s at 0) at c (sym (last at 1 0 s at c 5 (get_or s at 0) (lit≤ tt) (ltb-true _ _ z) refl (ltb-true _ _ y)) ∙ e)
    | false ↦ λ y. (let q = groups_large 4 at 128 (0 + get_or s at 0 % 128 * 1) s (at + 1) c (lit≤ tt) (sym (on at 1 0 s at c 5 (get_or s at 0) (lit≤ tt) (ltb-true _ _ z) refl (ltb-false _ _ y)) ∙ e) in absurd (omega arith))
  ]) refl
]) refl

pub length_byte : {s : List ℕ} {at v a : ℕ} → Gives num s at (Ok (v, a)) → v < 128 → (v ≡ get_or s at 0) × (a ≡ at + 1)
unfolding num
length_byte {s} {at} g h = one_byte s at (cursor at 0 nothing) (g.is 0 nothing) h

-- ONE NAME MORE

names_snoc : (n : ℕ) (s : List ℕ) (at : ℕ) → names_from (suc n) s at ≡ names_from n s at ++ (part s (names_end n s at + 1) (get_or s (names_end n s at) 0) ∷ [])
unfolding names_from names_end
names_snoc zero s at = refl
names_snoc (suc n) s at = ap (λ (l : List (List ℕ)). part s (at + 1) (get_or s at 0) ∷ l) (names_snoc n s (behind s at))

end_snoc : (n : ℕ) (s : List ℕ) (at : ℕ) → names_end (suc n) s at ≡ behind s (names_end n s at)
unfolding names_end
end_snoc zero s at = refl
end_snoc (suc n) s at = end_snoc n s (behind s at)

-- the table from a name's bytes on, by where they end
abbrev pub by_text : (rest : ℕ) → List (List ℕ) → List ℕ → (n at : ℕ) → Got (Unit {0}) → Got (List (List ℕ))
by_text rest before s n at (got t d) = if among_names (part s at n) before then refused 6 at else read_names rest (before ++ (part s at n ∷ [])) s d
by_text rest before s n at (refused i p) = refused i p

-- the table from a name's length on, by what was read there
abbrev pub by_length : (rest : ℕ) → List (List ℕ) → List ℕ → (at : ℕ) → Got ℕ → Got (List (List ℕ))
by_length rest before s at (got n d) = if ltb 0 n && ltb n 65 then by_text rest before s n d.at (forget (raw n s d)) else refused 6 at
by_length rest before s at (refused i p) = refused i p

module _ (rest : ℕ) (before : List (List ℕ)) (s : List ℕ) where
  found_go : (b : List ℕ) (at : ℕ) (d : Cur) (t : Bool) → after (λ b. read_names rest (before ++ (b ∷ []))) s (elim (not t) as (λ _. Got (List ℕ)) [ true ↦ got b d | false ↦ refused 6 at ]) ≡ (if t then refused 6 at else read_names rest (before ++ (b ∷ [])) s d)
  found_go b at d true = refl
  found_go b at d false = refl

  text_go : (n : ℕ) (c : Cur) → after (λ b. read_names rest (before ++ (b ∷ []))) s (such (raw n) (λ b _. not (among_names b before)) 6 s c) ≡ by_text rest before s n c.at (forget (raw n s c))
  unfolding such raw forget
  text_go n c = (elim (leb (c.at + n) (length s)) as (λ t. after (λ b. read_names rest (before ++ (b ∷ []))) s (elim (elim t as (λ _. Got (List ℕ)) [ true ↦ got (take n (drop c.at s)) (moved c (c.at + n)) | false ↦ refused 3 c.at ]) as (λ _. Got (List ℕ)) [ got b d ↦ elim (not (among_names b before)) as (λ _. Got (List ℕ)) [ true ↦ got b d | false ↦ refused 6 c.at ] | refused i p ↦ refused i p ]) ≡ by_text rest before s n c.at (forget {A = List ℕ} (elim t as (λ _. Got (List ℕ)) [ true ↦ got (take n (drop c.at s)) (moved c (c.at + n)) | false ↦ refused 3 c.at ]))) [
    | true ↦ found_go (part s c.at n) c.at (moved c (c.at + n)) (among_names (part s c.at n) before)
    | false ↦ refl
  ])

  abbrev text : ℕ → Reader (List (List ℕ))
  text n = such (raw n) (λ b _. not (among_names b before)) 6 >>= λ b. read_names rest (before ++ (b ∷ []))

  length_go : (at : ℕ) (q : Got ℕ) → after text s (elim q as (λ _. Got ℕ) [ got n d ↦ elim (ltb 0 n && ltb n 65) as (λ _. Got ℕ) [ true ↦ got n d | false ↦ refused 6 at ] | refused i p ↦ refused i p ]) ≡ by_length rest before s at q
  length_go at (got n d) = (elim (ltb 0 n && ltb n 65) as (λ t. after text s (elim t as (λ _. Got ℕ) [ true ↦ got n d | false ↦ refused 6 at ]) ≡ (if t then by_text rest before s n d.at (forget (raw n s d)) else refused 6 at)) [
    | true ↦ then_is _ _ s d ∙ text_go n d
    | false ↦ refl
  ])
  length_go at (refused i p) = refl

  pub name_read : (c : Cur) → read_names (suc rest) before s c ≡ by_length rest before s c.at (num s c)
  unfolding read_names such
  name_read c = then_is _ _ s c ∙ length_go c.at (num s c)

never' : {X : Type 0} {c : Cur} {n p : ℕ} → ◌≡◌ {A = Got (Unit {0})} (refused n p) (got tt c) → X
never' e = let z : ◌≡◌ {A = ℕ} 0 1 = cc in absurd (omega arith)

here : {c d : Cur} → ◌≡◌ {A = Got (Unit {0})} (got tt c) (got tt d) → c ≡ d
here e = cc

-- where `raw` ends, it passed so many bytes of the tree
module _ (n : ℕ) {s : List ℕ} {at b : ℕ} (g : Skips (raw n) s at (Ok b)) where
  raw_past : (b ≡ at + n) × (at + n ≤ length s)
  unfolding raw forget moved
  raw_past = go (leb (at + n) (length s)) refl (g.is 0 nothing)
    where
      go : (t : Bool) → leb (at + n) (length s) ≡ t → forget {A = List ℕ} (elim t as (λ _. Got (List ℕ)) [ true ↦ got (take n (drop at s)) (moved (cursor at 0 nothing) (at + n)) | false ↦ refused 3 at ]) ≡ got tt (cursor b 0 nothing) → (b ≡ at + n) × (at + n ≤ length s)
      go true h q = (sym (ap (λ (c : Cur). c.at) (here q)), leb-true (at + n) (length s) h)
      go false h q = never' q

module _ (count : ℕ) {s : List ℕ} (from : ℕ) {at : ℕ} (z : names_end count s from ≡ at) {n a : ℕ} (g : Gives num s at (Ok (n, a))) (hi : n ≤ 64) {b : ℕ} (g₂ : Skips (raw n) s a (Ok b)) where
  byte : (n ≡ get_or s at 0) × (a ≡ at + 1)
  byte = length_byte g (omega arith)

  -- the names before a name that was read are in the tree
  pub names_within : names_end count s from ≤ length s
  names_within = omega (arith, z, byte.1, raw_past n g₂)

  abbrev before : List (List ℕ)
  before = names_from count s from

  name_is : before ++ (part s a n ∷ []) ≡ names_from (suc count) s from
  name_is = sym (names_snoc count s from ∙ rw (z, ← byte.0, ← byte.1))

  end_is : b ≡ names_end (suc count) s from
  end_is = omega (arith, raw_past n g₂, byte.0, byte.1, end_snoc count s from, ap (behind s) z)

  -- x is the name, and t says whether it is among those before it
  module _ {x : List ℕ} (w : x ≡ part s a n) {t : Bool} {cells : List ℕ} (k : Knows before x t cells) where
    pub more_noted : Noted count s from (Ok b) cells
    more_noted = record { marked = subst (Marked cells) (ap (λ (l : List ℕ). before ++ (l ∷ [])) w ∙ name_is) k.marked }

    pub more_is : 0 < n → t ≡ false → OneMore count s from at (Ok b)
    more_is lo q = record {
      is = λ rest k₁. name_read rest before s _ ∙ rw (g.is 0 k₁, lt-ltb 0 n lo, lt-ltb n 65 (omega arith), g₂.is 0 k₁, ← w, ← k.is, q) (ap (λ (l : List (List ℕ)). read_names rest l s (cursor b 0 k₁)) (ap (λ (l : List ℕ). before ++ (l ∷ [])) w ∙ name_is));
      ends = end_is;
    }

-- THE TABLE

-- what is left of the table, `done` names of which are read
pub record Tabling (count : ℕ) (s : List ℕ) (at done next : ℕ) : Type 0 where
  pub is : (k : Counts) → read_names count [] s (cursor at 0 k) ≡ read_names (count - done) (names_from done s at) s (cursor next 0 k)
  pub ends : names_end done s at ≡ next
  pub within : done ≤ count

pub tabling_start : (count : ℕ) {s : List ℕ} {at : ℕ} → Tabling count s at 0 at
unfolding names_from names_end
tabling_start count {s} {at} = let e : count - 0 ≡ count = omega arith in record { is = λ k. rw e; ends = refl; within = omega arith }

module _ {count : ℕ} {s : List ℕ} {at done next : ℕ} (g : Tabling count s at done next) where
  module _ (h : done < count) {r : Result ℕ Refusal} (o : OneMore done s at next r) where
    tabling_one : (k : Counts) → read_names count [] s (cursor at 0 k) ≡ after_one done s at (count - (done + 1)) k r
    tabling_one k = let e : count - done ≡ suc (count - (done + 1)) = omega arith in g.is k ∙ ap (λ (n : ℕ). read_names n (names_from done s at) s (cursor next 0 k)) e ∙ o.is _ k

  pub tabling_halt : {e : Refusal} → done < count → OneMore done s at next (Err e) → Tables count s at (Err e)
  tabling_halt h o = record { is = tabling_one h o }

  pub tabling_more : {b : ℕ} → done < count → OneMore done s at next (Ok b) → Tabling count s at (done + 1) b
  tabling_more h o = let q : done + 1 ≡ suc done = omega arith in record { is = λ k. tabling_one h o k ∙ rw q; ends = rw q (sym o.ends); within = omega arith }

  pub tabling_done : count ≤ done → Tables count s at (Ok next)
  unfolding read_names ret
  tabling_done h =
      let q : done ≡ count = omega (arith, g.within) in
      let z : count - done ≡ 0 = omega arith in
      record { is = λ k. g.is k ∙ rw z (ap (λ (n : ℕ). got (names_from n s at) (cursor next 0 k)) q) }

-- The number of the name `main`, or the count of names where none is.
use Prim.Native.Nat.{ℕ, zero, suc, ◌+◌, ◌-◌, ◌≤◌, ◌<◌}
use mathlib.Core.Path.{◌≡◌, refl, sym, ap, subst, ◌∙◌}
use mathlib.Core.Bool.{Bool, true, false, not, ◌&&◌, ◌||◌}
use mathlib.Core.List.{List, [], ◌∷◌, ◌++◌}
use native.Mathlib.Omega.{arith}
use lib.Dec.{eqb, ltb}
use lib.ListN.{length, get_or, take, drop, length-append, get_or-append}
use lib.Seq.{get_or-append_seam}
use borrow.Author.Tests.{ltb-true, ltb-false, eq-eqb, ne_eqb}
use Rattle.std.specs.Prelude.{Result, Ok, Err}
use Rattle.fields.specs.declared.refusal.Refusal.{Refusal}
use Rattle.penne.specs.Reader.{Cur, got, ret, such, num, raw, nothing}
use Rattle.penne.specs.Read.{same_bytes, among_names, read_names}
use Rattle.penne.specs.Variables.{is_main}
use Rattle.penne.proofs.Booleans.{true_false}
use Rattle.tree.specs.declared.script.Layout.{Layout}
use Rattle.fields.specs.Answers.{cursor, number_of, Gives}
use Rattle.tree.specs.Script.{LaidOut}
use Rattle.name_table.proofs.Names.{same_eq}
use Rattle.walk.proofs.Leading.{never, same_value, bind_got, such_got}
use Rattle.stages.specs.Stages.{MainName}
use Rattle.stages.proofs.Naming.{refused_not, same_read, OneName, one_name, told_one, same_table}

-- "the four bytes of `main`"
abbrev main : List ℕ
main = 109 ∷ 97 ∷ 105 ∷ 110 ∷ []

-- no name of these is main, but for the j-th, where there is one
abbrev OnlyAt : List (List ℕ) → ℕ → Type 0
OnlyAt xs j = (i : ℕ) → i < length xs → is_main xs i ≡ eqb i j

only_snoc : (xs : List (List ℕ)) (y : List ℕ) (j : ℕ) → OnlyAt xs j → same_bytes y main ≡ eqb (length xs) j → OnlyAt (xs ++ (y ∷ [])) j
unfolding is_main
only_snoc xs y j o e i h = go (ltb i (length xs)) refl
  where
    go : (b : Bool) → ltb i (length xs) ≡ b → same_bytes (get_or (xs ++ (y ∷ [])) i []) main ≡ eqb i j
    go true z = ap (λ (n : List ℕ). same_bytes n main) (get_or-append xs (y ∷ []) [] i (ltb-true i (length xs) z)) ∙ o i (ltb-true i (length xs) z)
    go false z = let q : i ≡ length xs = omega (arith, ltb-false i (length xs) z, length-append xs (y ∷ []), h) in subst (λ (k : ℕ). same_bytes (get_or (xs ++ (y ∷ [])) k []) main ≡ eqb k j) (sym q) (ap (λ (n : List ℕ). same_bytes n main) (get_or-append_seam xs y [] []) ∙ e)

among_more : (xs : List (List ℕ)) (y : List ℕ) → among_names main xs ≡ true → among_names main (xs ++ (y ∷ [])) ≡ true
unfolding among_names
among_more [] y e = true_false (sym e)
among_more (x ∷ xs) y e = (elim (same_bytes main x) as (λ t. (t || among_names main xs) ≡ true → (t || among_names main (xs ++ (y ∷ []))) ≡ true) [
  | true ↦ λ h. refl
  | false ↦ λ h. among_more xs y h
]) e

among_last : (xs : List (List ℕ)) → among_names main (xs ++ (main ∷ [])) ≡ true
unfolding among_names same_bytes
among_last [] = refl
among_last (x ∷ xs) = (elim (same_bytes main x) as (λ t. (t || among_names main (xs ++ (main ∷ []))) ≡ true) [
  | true ↦ refl
  | false ↦ among_last xs
])

-- a name that is none of those before is not main, where main is one of them
not_again : (before : List (List ℕ)) (y : List ℕ) → among_names main before ≡ true → not (among_names y before) ≡ true → same_bytes y main ≡ false
not_again before y f e = go (same_bytes y main) refl
  where
    go : (b : Bool) → same_bytes y main ≡ b → b ≡ false
    go true z = true_false (sym e ∙ ap (λ (n : List ℕ). not (among_names n before)) (same_eq y main z) ∙ ap not f)
    go false z = refl

-- where main is one of the names before, it stays the only one
stays : (n : ℕ) (s : List ℕ) (c : Cur) (before : List (List ℕ)) {x : List (List ℕ)} {d : Cur} (j : ℕ) → read_names n before s c ≡ got x d → among_names main before ≡ true → j < length before → OnlyAt before j → (length x ≡ length before + n) × OnlyAt x j
unfolding read_names ret
stays zero s c before {x} j q f h o = subst (λ (y : List (List ℕ)). (length y ≡ length before + 0) × OnlyAt y j) (same_value q) (omega arith, o)
stays (suc n) s c before {x} {d} j q f h o =
    let b = bind_got (such num (λ n _. ltb 0 n && ltb n 65) 6) _ s c q in
    let b₂ = bind_got (such (raw b.0) (λ y _. not (among_names y before)) 6) (λ y. read_names n (before ++ (y ∷ []))) s b.1 b.3 in
    let c₂ = such_got (raw b.0) (λ y _. not (among_names y before)) 6 s b.1 b₂.2 in
    let y = b₂.0 in
    let long = length-append before (y ∷ []) in
    let other = not_again before y f c₂.1 ∙ sym (ne_eqb (length before) j (λ e. omega arith)) in
    let r = stays n s b₂.1 (before ++ (y ∷ [])) j b₂.3 (among_more before y f) (omega arith) (only_snoc before y j o other) in
    let l = r.0 in
    (omega arith, r.1)

-- THE LOOP

-- none of the k names before is main
pub record Sought (s : List ℕ) (n k at : ℕ) (x : List (List ℕ)) (d : Cur) : Type 0 where
  pub before : List (List ℕ)
  pub read : read_names (n - k) before s (cursor at 0 nothing) ≡ got x d
  pub count : length before ≡ k
  pub only : OnlyAt before n

pub record Seeking (s : List ℕ) (n at₀ k at : ℕ) : Type 0 where
  pub within : k ≤ n
  pub on : {x : List (List ℕ)} {d : Cur} → read_names n [] s (cursor at₀ 0 nothing) ≡ got x d → Sought s n k at x d

pub seeking_start : {s : List ℕ} {n at : ℕ} → Seeking s n at 0 at
seeking_start {s} {n} {at} = let e : n ≡ n - 0 = omega arith in record { within = omega arith; on = λ {x} {d} q. record { before = []; read = subst (λ (i : ℕ). read_names i [] s (cursor at 0 nothing) ≡ got x d) e q; count = refl; only = λ i h. absurd (omega arith) } }

module _ {s : List ℕ} {n at₀ k at : ℕ} (c : Seeking s n at₀ k at) {r : Result (ℕ × ℕ) Refusal} (g : Gives num s at r) (z : k < n) where
  -- the name that comes next
  next : {x : List (List ℕ)} {d : Cur} (l : Sought s n k at x d) → OneName s at (n - (k + 1)) l.before x d
  next {x} {d} l = let e : n - k ≡ suc (n - (k + 1)) = omega arith in one_name g (subst (λ (i : ℕ). read_names i l.before s (cursor at 0 nothing) ≡ got x d) e l.read)

  module _ (f : num s (cursor 0 0 nothing) ≡ got n (cursor at₀ 0 nothing)) where
    next_told : {l : Layout} (t : LaidOut s l) {X : Type 0} → ((b : List (List ℕ)) (m : OneName s at (n - (k + 1)) b t.table t.behind) → r ≡ Ok (m.n, m.from) → X) → X
    next_told t h = same_table f t λ q. let l = c.on q in let m = next l in h l.before m (told_one g m)

    pub seeking_unread : {v : ℕ} {x : Refusal} → r ≡ Err x → MainName s v
    seeking_unread e = record { is = λ i t j h. next_told t λ b m q. refused_not (sym e ∙ q) }

    module _ {m from : ℕ} (e : r ≡ Ok (m, from)) where
      -- no name is that long, or that far behind
      pub seeking_never : {v : ℕ} → (m ≤ 64 → 65535 < from) → MainName s v
      seeking_never h = record { is = λ i t j u. next_told t λ b y q. let told = same_read (sym e ∙ q) in let k = told.0 in let p = told.1 in absurd (omega (arith, h, y.few, y.inside, i.short)) }

  module _ {m from : ℕ} (e : r ≡ Ok (m, from)) {v : List ℕ} (w : v ≡ take m (drop from s)) {b : Bool} (same : b ≡ same_bytes v main) where
    -- the code compares the name that is read
    seen : {x : List (List ℕ)} {d : Cur} {a : List (List ℕ)} (y : OneName s at (n - (k + 1)) a x d) → take m (drop from s) ≡ take y.n (drop y.from s)
    seen y = let told = same_read (sym e ∙ told_one g y) in λ z. take (told.0 z) (drop (told.1 z) s)

    pub seeking_found : num s (cursor 0 0 nothing) ≡ got n (cursor at₀ 0 nothing) → b ≡ true → MainName s k
    seeking_found f h = record {
      is = λ i t j u. same_table f t λ q.
          let l = c.on q in
          let y = next l in
          let name = take y.n (drop y.from s) in
          let is_main_here : same_bytes name main ≡ true = ap (λ (x : List ℕ). same_bytes x main) (sym (w ∙ seen y)) ∙ sym same ∙ h in
          let count = l.count in
          let none : OnlyAt l.before k = λ a d. l.only a d ∙ ne_eqb a n (λ p. omega arith) ∙ sym (ne_eqb a k (λ p. omega arith)) in
          let one = only_snoc l.before name k none (is_main_here ∙ sym (eq-eqb (length l.before) k l.count)) in
          let among = subst (λ (x : List ℕ). among_names main (l.before ++ (x ∷ [])) ≡ true) (sym (same_eq name main is_main_here)) (among_last l.before) in
          let long = length-append l.before (name ∷ []) in
          let end = stays (n - (k + 1)) s (cursor (y.from + y.n) 0 nothing) (l.before ++ (name ∷ [])) k y.then among (omega arith) one in
          let all = end.0 in
          let names = same_value (sym f ∙ t.counted) in
          end.1 j (omega arith);
    }

    pub seeking_more : b ≡ false → Seeking s n at₀ (k + 1) (from + m)
    seeking_more h = record {
      within = omega arith;
      on = λ {x} {d} q.
          let l = c.on q in
          let y = next l in
          let name = take y.n (drop y.from s) in
          let count = l.count in
          let other : same_bytes name main ≡ eqb (length l.before) n = ap (λ (x : List ℕ). same_bytes x main) (sym (w ∙ seen y)) ∙ sym same ∙ h ∙ sym (ne_eqb (length l.before) n (λ p. omega arith)) in
          let told = same_read (sym e ∙ told_one g y) in
          let to : y.from + y.n ≡ from + m = sym (λ i. told.1 i + told.0 i) in
          record {
            before = l.before ++ (name ∷ []);
            read = subst (λ (p : ℕ). read_names (n - (k + 1)) (l.before ++ (name ∷ [])) s (cursor p 0 nothing) ≡ got x d) to y.then;
            count = omega (arith, length-append l.before (name ∷ []));
            only = only_snoc l.before name n l.only other;
          };
    }

pub seeking_none : {s : List ℕ} {n at₀ k at : ℕ} → Seeking s n at₀ k at → num s (cursor 0 0 nothing) ≡ got n (cursor at₀ 0 nothing) → n ≤ k → MainName s n
unfolding read_names ret
seeking_none {s} {n} {k = k} {at} c f z = record {
  is = λ i t j h. same_table f t λ q.
      let l = c.on q in
      let within = c.within in
      let done : n - k ≡ 0 = omega arith in
      let e : got l.before (cursor at 0 nothing) ≡ got t.table t.behind = subst (λ (m : ℕ). read_names m l.before s (cursor at 0 nothing) ≡ got t.table t.behind) done l.read in
      let names = same_value (sym f ∙ t.counted) in
      let count = l.count in
      subst (λ (x : List (List ℕ)). is_main x j ≡ eqb j n) (same_value e) (l.only j (omega arith));
}

pub main_uncounted : {s : List ℕ} {r : Result (ℕ × ℕ) Refusal} {v : ℕ} {x : Refusal} → Gives num s 0 r → r ≡ Err x → MainName s v
main_uncounted g e = record { is = λ i t j h. never (sym (g.is 0 nothing ∙ ap (number_of 0 nothing) e) ∙ t.counted) }

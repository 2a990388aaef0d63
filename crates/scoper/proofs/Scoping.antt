-- The scoping call: what the passes leave is the definition's answer, and what is cleared is all the rest.
use Prim.Native.Nat.{ℕ, ◌*◌, ◌-◌, ◌/◌, ◌≤◌, ◌<◌}
use native.Mathlib.Omega.{arith}
use mathlib.Core.Path.{◌≡◌, refl, sym, ap, subst, ◌∙◌}
use mathlib.Core.Bool.{Bool, true, false, not}
use mathlib.Core.List.{List, [], ◌∷◌, ◌++◌}
use mathlib.Core.Option.{Option, some}
use lib.Dec.{T, ltb, leb, leb→le, ltb→lt, nltb→le}
use lib.ListN.{get_or-eq_default, length, get_or, take, drop, replicate, length-replicate, get_or-replicate}
use lib.Seq.{take-append_seam}
use borrow.Author.Tests.{lt-ltb, le-ltb}
use Rattle.std.specs.Prelude.{Result, Ok, Err}
use Rattle.penne.specs.Reader.{Got, got, refused}
use Rattle.penne.specs.Read.{decode, incoming}
use Rattle.penne.specs.Tree.{Spot, Tree}
use Rattle.penne.specs.Write.{encode}
use Rattle.penne.specs.Scoper.{Answer, answer, refusal, answered_tree, skip_list, answer_to, words, if_room, scoped_answer, padded, outcome, scoped}
use Rattle.tree.specs.declared.script.Layout.{Layout}
use Rattle.tree.specs.Script.{LaidOut, IncomingLayout, refusal_of}
use Rattle.tree.specs.Script as R
use Rattle.answer.specs.declared.wrote.Wrote.{Wrote}
use Rattle.answer.specs.declared.wrote.Wrote.TheVariants.{Bytes, NoRoom}
use Rattle.answer.specs.Out.{laid, pick_wrote, wrote_of, Said}
use Rattle.answer.proofs.Laid.{laid_fits}
use Rattle.labels.specs.Table.{Off}
use Rattle.label_references.specs.Pass.{Pass}
use Rattle.walk.specs.Walking.{Input}
use Rattle.variable_references.specs.declared.script.Answered.{Answered}
use Rattle.variable_references.specs.Whole.{Prepared, tree_of, References}
use Rattle.scoper.specs.declared.Scoped.{Scoped}
use Rattle.fields.specs.declared.refusal.Reason.{Reason}
use Rattle.fields.specs.declared.refusal.Reason.TheVariants.{TreeTooLong, WorkTooSmall, CutOff, BadNumber, OutOfRange, BadName, TooDeep, TooMany, NamelessType, LeftOver, AnswerFull, ListFull, NoSuchDeclaration}
use Rattle.fields.specs.declared.refusal.Refusal.{Refusal}
use Rattle.fields.specs.Answers.{row_of}
use Rattle.scoper.specs.Scoping.{outcome_of, reason_of, scoped_by, Scopes, roomed, Ending, written, unwritten, Passes}

-- ROWS 11 AND 12

room_none : {v : Wrote} (k : Wrote) → v ≡ NoRoom → Err (record { reason = AnswerFull; place = 0 }) ≡ roomed v k
room_none k e = ap (λ (x : Wrote). roomed x k) (sym e)

room_list : {v k : Wrote} {n : ℕ} → v ≡ Bytes n → k ≡ NoRoom → Err (record { reason = ListFull; place = 0 }) ≡ roomed v k
room_list {v} {k} {n} e f = ap (λ (x : Wrote). roomed (Bytes n) x) (sym f) ∙ ap (λ (x : Wrote). roomed x k) (sym e)

room_both : {v k : Wrote} {n m : ℕ} → v ≡ Bytes n → k ≡ Bytes m → Ok (n, m) ≡ roomed v k
room_both {v} {k} {n} e f = ap (λ (x : Wrote). roomed (Bytes n) x) (sym f) ∙ ap (λ (x : Wrote). roomed x k) (sym e)

-- what was written, with the room told by the buffer
own_room : {v : Wrote} {o t : List ℕ} {m : ℕ} {k : Wrote} → v ≡ k → Said v o t m → Said k o t (length o)
own_room {v} {o} {t} {m} {k} e p = subst (λ (x : ℕ). Said k o t x) (sym p.long) (subst (λ (x : Wrote). Said x o t m) e p)

pub ending : {v u : Wrote} {o l : List ℕ} {m n : ℕ} (t : List ℕ) (rs : List (ℕ × ℕ)) → Said v o t m → Said u l (words rs) n → Ending o l (roomed v u) (if_room m n (answer t rs))
unfolding if_room wrote_of
ending {v} {u} {o} {l} {m} {n} t rs p q = go (leb (length t) m) (leb (length (words rs)) n) p.told q.told
  where
    go : (b c : Bool) → v ≡ pick_wrote b (Bytes (length t)) NoRoom → u ≡ pick_wrote c (Bytes (length (words rs))) NoRoom
        → Ending o l (roomed v u) (elim b [ false ↦ refusal 11 0 | true ↦ elim c [ false ↦ refusal 12 0 | true ↦ answer t rs ] ])
    go false c e f = subst (λ (x : Result (ℕ × ℕ) Refusal). Ending o l x (refusal 11 0)) (room_none u e) unwritten
    go true false e f = subst (λ (x : Result (ℕ × ℕ) Refusal). Ending o l x (refusal 12 0)) (room_list e f) unwritten
    go true true e f = subst (λ (x : Result (ℕ × ℕ) Refusal). Ending o l x (answer t rs)) (room_both e f) (written (own_room e p) (own_room f q))

-- BOTH PASSES

-- the work words were zero before the label pass
module _ {s : List ℕ} {y : Layout} (w : List ℕ) {w₁ w₂ : List ℕ} (z : w₁ ≡ replicate (length w) 0) (p : Pass s y w₁ w₂) where
  zeros : (i : ℕ) → get_or w₁ i 0 ≡ 0
  zeros i = ap (λ (x : List ℕ). get_or x i 0) z ∙ get_or_zeros (length w) i
    where
      get_or_zeros : (n i : ℕ) → ◌≡◌ {A = ℕ} (get_or (replicate n 0) i 0) 0
      get_or_zeros n i = go (ltb i n) refl
        where
          go : (b : Bool) → ltb i n ≡ b → ◌≡◌ {A = ℕ} (get_or (replicate n 0) i 0) 0
          go true e = get_or-replicate n i 0 0 (omega (arith, ltb→lt i n (subst (λ (x : Bool). T x) (sym e) tt)))
          go false e = get_or-eq_default (replicate n 0) 0 (omega (arith, length-replicate {A = ℕ} n 0, nltb→le i n (subst (λ (x : Bool). T (not x)) (sym e) tt)))

  pub prepared : 16384 ≤ length w → (t : LaidOut s y) → Prepared t w₂
  prepared h t =
      let long : length w₁ ≡ length w = ap length z ∙ length-replicate {A = ℕ} (length w) 0 in
      let more = p.long in
      record {
        long = omega arith;
        told = p.told (omega arith) t;
        named = p.named (omega arith) t;
        zero = λ i a b. go i a b (ltb i 6144) (ltb i 13312) refl refl;
      }
    where
      go : (i : ℕ) → Off 0 t.counts.statements i → Off 2048 4096 i → (b c : Bool) → ltb i 6144 ≡ b → ltb i 13312 ≡ c → get_or w₂ i 0 ≡ 0
      go i a b' true c e f = p.kept t i a b' (λ l g. absurd (omega (arith, ltb→lt i 6144 (subst (λ (x : Bool). T x) (sym e) tt)))) ∙ zeros i
      go i a b' false true e f = p.cleared (omega (arith, h, ap length z, length-replicate {A = ℕ} (length w) 0)) i (nltb→le i 6144 (subst (λ (x : Bool). T (not x)) (sym e) tt)) (ltb→lt i 13312 (subst (λ (x : Bool). T x) (sym f) tt))
      go i a b' false false e f = p.kept t i a b' (λ l g. absurd (omega (arith, nltb→le i 13312 (subst (λ (x : Bool). T (not x)) (sym f) tt)))) ∙ zeros i

  pub passes_is : {o l o' l' : List ℕ} {a : Answered} {r : Result (ℕ × ℕ) Refusal} → References s y o l w₂ a o' l' → r ≡ roomed a.wrote a.listed → Passes s y o l w r o' l'
  passes_is {o} {l} {o'} {l'} {a} k e = record {
    does = λ j h t.
        let b = k.does j t (prepared h t) in
        subst (λ (x : Result (ℕ × ℕ) Refusal). Ending o' l' x (if_room (length o) (length l) (answer (encode (answered_tree (tree_of t))) (skip_list (tree_of t))))) (sym e) (ending (encode (answered_tree (tree_of t))) (skip_list (tree_of t)) b.0 b.1);
  }

-- THE ROWS IN THEIR ORDER

-- the rows' tests
unfoldable answer_by : Bool → Bool → Answer → Answer
answer_by true c a = refusal 1 0
answer_by false true a = refusal 2 0
answer_by false false a = a

answer_by_lem : (s : List ℕ) (m n w : ℕ) → scoped_answer s m n w ≡ answer_by (ltb 65535 (length s)) (ltb w 16384) (if_room m n (answer_to (decode incoming s)))
unfolding scoped_answer answer_by
answer_by_lem s m n w = go (ltb 65535 (length s)) (ltb w 16384)
  where
    go : (b c : Bool) → ◌≡◌ {A = Answer} (elim b [ true ↦ refusal 1 0 | false ↦ elim c [ true ↦ refusal 2 0 | false ↦ if_room m n (answer_to (decode incoming s)) ] ]) (answer_by b c (if_room m n (answer_to (decode incoming s))))
    go true c = refl
    go false true = refl
    go false false = refl

-- a refusal read off
refused_is : {t : Got (Tree Spot)} {k p : ℕ} → refusal_of t ≡ some (k, p) → t ≡ refused k p
unfolding refusal_of
refused_is {t = got x c} e = absurd (let z : ◌≡◌ {A = ℕ} 0 1 = cc in omega arith)
refused_is {t = refused k' p'} {k} {p} e =
    let z : ◌≡◌ {A = ℕ × ℕ} (k', p') (k, p) = cc in
    ap (λ (x : ℕ × ℕ). refused x.0 x.1) z

module _ (s : List ℕ) {o l : List ℕ} (m n w : ℕ) where
  by : {b c : Bool} {r : Result (ℕ × ℕ) Refusal} → ltb 65535 (length s) ≡ b → ltb w 16384 ≡ c → Ending o l r (answer_by b c (if_room m n (answer_to (decode incoming s)))) → Ending o l r (scoped_answer s m n w)
  by {b} {c} {r} e f k = subst (λ (a : Answer). Ending o l r a) (sym (answer_by_lem s m n w ∙ ap (λ (x : Bool). answer_by x (ltb w 16384) (if_room m n (answer_to (decode incoming s)))) e ∙ ap (λ (x : Bool). answer_by b x (if_room m n (answer_to (decode incoming s)))) f)) k

  pub scope_long : 65535 < length s → Ending o l (Err (record { reason = TreeTooLong; place = 0 })) (scoped_answer s m n w)
  unfolding answer_by
  scope_long h = by (lt-ltb 65535 (length s) h) refl unwritten

  module _ (short : length s ≤ 65535) where
    pub scope_poor : w < 16384 → Ending o l (Err (record { reason = WorkTooSmall; place = 0 })) (scoped_answer s m n w)
    unfolding answer_by
    scope_poor h = by (le-ltb 65535 (length s) (omega arith)) (lt-ltb w 16384 h) unwritten

    module _ (rich : 16384 ≤ w) where
      later : {r : Result (ℕ × ℕ) Refusal} → Ending o l r (if_room m n (answer_to (decode incoming s))) → Ending o l r (scoped_answer s m n w)
      unfolding answer_by
      later k = by (le-ltb 65535 (length s) (omega arith)) (le-ltb w 16384 (omega arith)) k

      pub scope_refused : {x : Refusal} → IncomingLayout s (Err x) → Ending o l (Err x) (scoped_answer s m n w)
      unfolding R.refusal if_room answer_to
      scope_refused {x} g =
          let f : refusal_of (decode incoming s) ≡ some (row_of x.reason, x.place) = subst (λ (b : Bool). ◌≡◌ {A = Option (ℕ × ℕ)} (elim b [ true ↦ some (1, 0) | false ↦ refusal_of (decode incoming s) ]) (some (row_of x.reason, x.place))) (le-ltb 65535 (length s) (omega arith)) g.not in
          later (subst (λ (q : Got (Tree Spot)). Ending o l (Err x) (if_room m n (answer_to q))) (sym (refused_is f)) unwritten)

      pub scope_passed : {y : Layout} {o₀ l₀ w₀ : List ℕ} {r : Result (ℕ × ℕ) Refusal} → IncomingLayout s (Ok y) → m ≡ length o₀ → n ≡ length l₀ → w ≡ length w₀ → ((i : ℕ) → get_or s i 0 < 256) → Passes s y o₀ l₀ w₀ r o l → Ending o l r (scoped_answer s m n w)
      unfolding answer_to answered_tree skip_list
      scope_passed {r = r} g em en ew b k =
          let d = g.out in
          let i : Input s = record { short = omega arith; bytes = b } in
          later (subst (λ (q : Got (Tree Spot)). Ending o l r (if_room m n (answer_to q))) (sym d.decoded) (rw (em, en) (k.does i (omega arith) d.laid)))

-- WHAT IS LEFT

take_laid : (t o : List ℕ) → length t ≤ length o → laid t o ≡ o → take (length t) o ≡ t
take_laid t o h e = ap (take (length t)) (sym e ∙ laid_fits t o h) ∙ take-append_seam t (drop (length t) o)

fits_in : (b : Bool) {n : ℕ} → Bytes n ≡ pick_wrote b (Bytes n) NoRoom → b ≡ true
fits_in true e = refl
fits_in false e = absurd (let z : ◌≡◌ {A = ℕ} 0 1 = cc in omega arith)

-- no bytes, then zeros
blank : (m : ℕ) → replicate m 0 ≡ padded m []
unfolding padded
blank m = let e : m - 0 ≡ m = omega arith in ap (λ (i : ℕ). replicate i 0) (sym e)

-- what stands before stays, and the rest is zero
abbrev cleared : List ℕ → (from : ℕ) → List ℕ
cleared s from = take from s ++ replicate (length s - from) 0

padded_is : {o t : List ℕ} → Said (Bytes (length t)) o t (length o) → cleared o (length t) ≡ padded (length o) t
unfolding padded wrote_of
padded_is {o} {t} p =
    let h : length t ≤ length o = leb→le (length t) (length o) (subst (λ (x : Bool). T x) (sym (fits_in (leb (length t) (length o)) p.told)) tt) in
    ap (λ (x : List ℕ). x ++ replicate (length o - length t) 0) (take_laid t o h p.left)

halves : (rs : List (ℕ × ℕ)) → length (words rs) ≡ length rs * 2
unfolding words
halves [] = refl
halves (r ∷ rs) = let e = halves rs in omega arith

-- a reason has its row's number
reason_back : (a : Reason) → reason_of (row_of a) ≡ a
unfolding reason_of
reason_back TreeTooLong = refl
reason_back WorkTooSmall = refl
reason_back CutOff = refl
reason_back BadNumber = refl
reason_back OutOfRange = refl
reason_back BadName = refl
reason_back TooDeep = refl
reason_back TooMany = refl
reason_back NamelessType = refl
reason_back LeftOver = refl
reason_back AnswerFull = refl
reason_back ListFull = refl
reason_back NoSuchDeclaration = refl

-- what the end says, told and left
pub record Left (m n w : ℕ) (a : Answer) (r : Result Scoped Refusal) (o' l' w' : List ℕ) : Type 0 where
  pub told : r ≡ scoped_by a
  pub outcome : outcome_of r o' l' w' ≡ outcome m n w a

module _ {m n w : ℕ} {o l : List ℕ} (eo : length o ≡ m) (el : length l ≡ n) where
  pub left_written : {e : Result (ℕ × ℕ) Refusal} {a : Answer} {b k : ℕ} {o' l' w' : List ℕ} → Ending o l e a → e ≡ Ok (b, k) → o' ≡ cleared o b → l' ≡ cleared l k → w' ≡ replicate w 0 → Left m n w a (Ok (record { length = b; records = k / 2 })) o' l' w'
  unfolding outcome_of outcome scoped_by
  left_written {b = b} {k} {o'} {l'} {w'} (written {t = t} {rs = rs} p q) e f g h =
      let z : ◌≡◌ {A = ℕ × ℕ} (length t, length (words rs)) (b, k) = cc in
      let x : length t ≡ b = ap (λ (u : ℕ × ℕ). u.0) z in
      let y : length (words rs) ≡ k = ap (λ (u : ℕ × ℕ). u.1) z in
      let c = halves rs in
      let r : k / 2 ≡ length rs = omega arith in
      let u : o' ≡ padded m t = f ∙ ap (cleared o) (sym x) ∙ padded_is p ∙ ap (λ (i : ℕ). padded i t) eo in
      let v : l' ≡ padded n (words rs) = g ∙ ap (cleared l) (sym y) ∙ padded_is q ∙ ap (λ (i : ℕ). padded i (words rs)) el in
      record { told = rw (sym x, r) refl; outcome = rw (sym x, r, u, v, h ∙ blank w) refl }
  left_written unwritten e f g h = absurd (let z : ◌≡◌ {A = ℕ} 0 1 = cc in omega arith)

  pub left_refused : {e : Result (ℕ × ℕ) Refusal} {a : Answer} {x : Refusal} {o' l' w' : List ℕ} → Ending o l e a → e ≡ Err x → o' ≡ replicate (length o) 0 → l' ≡ replicate (length l) 0 → w' ≡ replicate w 0 → Left m n w a (Err x) o' l' w'
  unfolding outcome_of outcome scoped_by
  left_refused (written p q) e f g h = absurd (let z : ◌≡◌ {A = ℕ} 0 1 = cc in omega arith)
  left_refused {x = x} (unwritten {e = y}) e f g h =
      let z : y ≡ x = cc in
      record {
        told = sym (ap (λ (r : Reason). Err (record { reason = r; place = y.place })) (reason_back y.reason) ∙ ap Err z);
        outcome = rw (sym z, f ∙ ap (λ (i : ℕ). replicate i 0) eo ∙ blank m, g ∙ ap (λ (i : ℕ). replicate i 0) el ∙ blank n, h ∙ blank w) refl;
      }

-- the promise
pub scopes : {t o l w : List ℕ} {r : Result Scoped Refusal} {o' l' w' : List ℕ} → Left (length o) (length l) (length w) (scoped_answer t (length o) (length l) (length w)) r o' l' w' → Scopes t o l w r o' l' w'
unfolding scoped
scopes k = record { told = k.told; outcome = k.outcome }

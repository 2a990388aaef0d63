-- The names are written as they came.
use Prim.Native.Nat.{ℕ, suc, ◌+◌, ◌-◌, ◌≤◌, ◌<◌}
use mathlib.Core.Path.{◌≡◌, refl, sym, ap, subst, ◌∙◌}
use mathlib.Core.Bool.{Bool, true, false, not, ◌&&◌}
use mathlib.Core.List.{List, [], ◌∷◌, ◌++◌, append_assoc, append-nil, flat_map}
use native.Mathlib.Omega.{arith}
use lib.Dec.{ltb, leb}
use lib.ListN.{length, take, drop, length-append, length-drop}
use lib.Seq.{length-take-le}
use borrow.Author.Tests.{ltb-true, leb-true}
use Rattle.std.specs.Prelude.{Result, Ok, Err}
use Rattle.fields.specs.declared.refusal.Refusal.{Refusal}
use Rattle.penne.specs.Reader.{Cur, Got, got, refused, ◌>>=◌, ret, such, num, raw, moved, nothing}
use Rattle.penne.specs.Read.{read_names, among_names}
use Rattle.penne.specs.Write.{num_b, bytes_b, list_b}
use Rattle.tree.specs.declared.script.Layout.{Layout}
use Rattle.fields.specs.Answers.{cursor, number_of, Gives}
use Rattle.tree.specs.Script.{LaidOut}
use Rattle.answer.specs.declared.wrote.Wrote.{Wrote}
use Rattle.answer.specs.declared.wrote.Wrote.TheVariants.{Bytes}
use Rattle.answer.specs.Out.{Put}
use Rattle.answer.specs.Parts.{span}
use Rattle.answer.proofs.Chain.{◌▸◌, put_none, put_within}
use Rattle.containers.proofs.Lists.{and_true}
use Rattle.walk.specs.Walking.{Input}
use Rattle.walk.proofs.Leading.{never, same_value, same_cur, bind_got, such_got}
use Rattle.stages.specs.Stages.{SaysNames}

-- ONE NAME

-- a name of n bytes was read, up to e
pub record OneName (s : List ℕ) (at rest : ℕ) (before : List (List ℕ)) (x : List (List ℕ)) (d : Cur) : Type 0 where
  pub n : ℕ
  pub from : ℕ
  pub number_is : num s (cursor at 0 nothing) ≡ got n (cursor from 0 nothing)
  pub few : n < 65
  pub inside : from + n ≤ length s
  pub then : read_names rest (before ++ (take n (drop from s) ∷ [])) s (cursor (from + n) 0 nothing) ≡ got x d

raw_got : (n : ℕ) (s : List ℕ) (at : ℕ) {b : List ℕ} {e : Cur} → raw n s (cursor at 0 nothing) ≡ got b e → (at + n ≤ length s) × (take n (drop at s) ≡ b) × (cursor (at + n) 0 nothing ≡ e)
unfolding raw moved
raw_got n s at {b} {e} g = go (leb (at + n) (length s)) refl g
  where
    go : (c : Bool) → leb (at + n) (length s) ≡ c → ◌≡◌ {A = Got (List ℕ)} (elim c [ true ↦ got (take n (drop at s)) (cursor (at + n) 0 nothing) | false ↦ refused 3 at ]) (got b e) → (at + n ≤ length s) × (take n (drop at s) ≡ b) × (cursor (at + n) 0 nothing ≡ e)
    go true z g = (leb-true (at + n) (length s) z, same_value g, same_cur g)
    go false z g = never g

-- a number is read without a look at the table or the counts: the code's own answer tells where it ends
num_at : {s : List ℕ} {at : ℕ} {r : Result (ℕ × ℕ) Refusal} → Gives num s at r → {v : ℕ} {e : Cur} → num s (cursor at 0 nothing) ≡ got v e → (n : ℕ) × (r ≡ Ok (v, n)) × (e ≡ cursor n 0 nothing)
num_at {s} {at} {r} g {v} {e} q = go r (sym (g.is 0 nothing) ∙ q)
  where
    go : (r : Result (ℕ × ℕ) Refusal) → number_of 0 nothing r ≡ got v e → (n : ℕ) × (r ≡ Ok (v, n)) × (e ≡ cursor n 0 nothing)
    go (Ok (x, n)) z = (n, ap (λ (y : ℕ). Ok (y, n)) (same_value z), sym (same_cur z))
    go (Err x) z = never z

pub refused_not : {X : Type 0} {x : Refusal} {v n : ℕ} → ◌≡◌ {A = Result (ℕ × ℕ) Refusal} (Err x) (Ok (v, n)) → X
refused_not e = cc

-- the same number was read, up to the same place
pub same_read : {v n w m : ℕ} → ◌≡◌ {A = Result (ℕ × ℕ) Refusal} (Ok (v, n)) (Ok (w, m)) → (v ≡ w) × (n ≡ m)
same_read {v} {n} {w} {m} e = let z : ◌≡◌ {A = ℕ × ℕ} (v, n) (w, m) = cc in (ap (λ (x : ℕ × ℕ). x.0) z, ap (λ (x : ℕ × ℕ). x.1) z)

pub one_name : {s : List ℕ} {at rest : ℕ} {before x : List (List ℕ)} {d : Cur} {r : Result (ℕ × ℕ) Refusal} → Gives num s at r → read_names (suc rest) before s (cursor at 0 nothing) ≡ got x d → OneName s at rest before x d
unfolding read_names
one_name {s} {at} {rest} {before} {x} {d} g q =
    let b = bind_got (such num (λ n _. ltb 0 n && ltb n 65) 6) _ s (cursor at 0 nothing) q in
    let c = such_got num (λ n _. ltb 0 n && ltb n 65) 6 s (cursor at 0 nothing) b.2 in
    let m = num_at g c.0 in
    let rest_is = subst (λ (e : Cur). (such (raw b.0) (λ y _. not (among_names y before)) 6 >>= λ y. read_names rest (before ++ (y ∷ []))) s e ≡ got x d) m.2 b.3 in
    let b₂ = bind_got (such (raw b.0) (λ y _. not (among_names y before)) 6) (λ y. read_names rest (before ++ (y ∷ []))) s (cursor m.0 0 nothing) rest_is in
    let c₂ = such_got (raw b.0) (λ y _. not (among_names y before)) 6 s (cursor m.0 0 nothing) b₂.2 in
    let w = raw_got b.0 s m.0 c₂.0 in
    record {
      n = b.0;
      from = m.0;
      number_is = c.0 ∙ ap (got b.0) m.2;
      few = ltb-true b.0 65 (and_true (ltb 0 b.0) (ltb b.0 65) c.1).1;
      inside = w.0;
      then = subst (λ (e : Cur). read_names rest (before ++ (take b.0 (drop m.0 s) ∷ [])) s e ≡ got x d) (sym w.2) (subst (λ (y : List ℕ). read_names rest (before ++ (y ∷ [])) s b₂.1 ≡ got x d) (sym w.1) b₂.3);
    }

-- the code's own answer is that name's length
pub told_one : {s : List ℕ} {at rest : ℕ} {r : Result (ℕ × ℕ) Refusal} → Gives num s at r → {x : List (List ℕ)} {d : Cur} {b : List (List ℕ)} (m : OneName s at rest b x d) → r ≡ Ok (m.n, m.from)
told_one g m = let k = num_at g m.number_is in k.1 ∙ ap (λ (e : Cur). Ok (m.n, e.at)) (sym k.2)

-- ALL NAMES

-- the names `before` are written, and the rest is still to be read
pub record NamesLeft (s o : List ℕ) (v : Wrote) (n rest at : ℕ) (w : Wrote) (o' : List ℕ) (x : List (List ℕ)) (d : Cur) : Type 0 where
  pub before : List (List ℕ)
  pub read : read_names rest before s (cursor at 0 nothing) ≡ got x d
  pub put : Put v (flat_map bytes_b before) o w o'
  pub count : length before + rest ≡ n

-- the loop: whatever is read from the first name on
pub record Copying (s o : List ℕ) (v : Wrote) (n at₀ rest at : ℕ) (w : Wrote) (o' : List ℕ) : Type 0 where
  pub long : length o' ≡ length o
  pub on : Input s → {x : List (List ℕ)} {d : Cur} → read_names n [] s (cursor at₀ 0 nothing) ≡ got x d → NamesLeft s o v n rest at w o' x d

pub copying_start : {s o : List ℕ} {v : Wrote} {n at : ℕ} {u : Wrote} {xs o₀ : List ℕ} → Put u xs o₀ v o → Copying s o v n at (n - 0) at v o
unfolding flat_map
copying_start {s} {o} {v} {n} {at} p = subst (λ (rest : ℕ). Copying s o v n at rest at v o) (omega arith) (record { long = refl; on = λ i q. record { before = []; read = q; put = put_none (put_within p); count = omega arith } })

each_snoc : (xs : List (List ℕ)) (y : List ℕ) → flat_map bytes_b (xs ++ (y ∷ [])) ≡ flat_map bytes_b xs ++ bytes_b y
unfolding flat_map
each_snoc [] y = append-nil (bytes_b y)
each_snoc (x ∷ xs) y = ap (λ (l : List ℕ). bytes_b x ++ l) (each_snoc xs y) ∙ sym (append_assoc (bytes_b x) (flat_map bytes_b xs) (bytes_b y))

pub same_table : {s : List ℕ} {n at₀ : ℕ} → num s (cursor 0 0 nothing) ≡ got n (cursor at₀ 0 nothing) → {l : Layout} (t : LaidOut s l) {X : Type 0} → (read_names n [] s (cursor at₀ 0 nothing) ≡ got t.table t.behind → X) → X
same_table {s} {n} f t k =
    let q = sym f ∙ t.counted in
    k (subst (λ (e : Cur). read_names n [] s e ≡ got t.table t.behind) (sym (same_cur q)) (subst (λ (j : ℕ). read_names j [] s (cursor t.begin 0 nothing) ≡ got t.table t.behind) (sym (same_value q)) t.named))

module _ {s o : List ℕ} {v : Wrote} {n at₀ rest at : ℕ} {w : Wrote} {o' : List ℕ} (c : Copying s o v n at₀ rest at w o') {r : Result (ℕ × ℕ) Refusal} (g : Gives num s at r) (z : rest ≡ 0 → ⊥) where
  -- the name that comes next
  next_name : {x : List (List ℕ)} {d : Cur} (l : NamesLeft s o v n rest at w o' x d) → OneName s at (rest - 1) l.before x d
  next_name {x} {d} l = let e : rest ≡ suc (rest - 1) = omega arith in one_name g (subst (λ (i : ℕ). read_names i l.before s (cursor at 0 nothing) ≡ got x d) e l.read)

  next_told : (f : num s (cursor 0 0 nothing) ≡ got n (cursor at₀ 0 nothing)) → Input s → {l : Layout} (t : LaidOut s l) {X : Type 0} → ((b : List (List ℕ)) (m : OneName s at (rest - 1) b t.table t.behind) → r ≡ Ok (m.n, m.from) → X) → X
  next_told f i t k = same_table f t λ q. let l = c.on i q in let m = next_name l in k l.before m (told_one g m)

  pub copying_unread : {x : Refusal} {y : Wrote} {e₀ a : List ℕ} → num s (cursor 0 0 nothing) ≡ got n (cursor at₀ 0 nothing) → r ≡ Err x → SaysNames s e₀ y a
  copying_unread f e = record { does = λ i t. next_told f i t λ b m q. refused_not (sym e ∙ q) }

  module _ {m from : ℕ} (e : r ≡ Ok (m, from)) where
    -- no name is that long, or that far behind
    pub copying_never : {y : Wrote} {e₀ a : List ℕ} → num s (cursor 0 0 nothing) ≡ got n (cursor at₀ 0 nothing) → (m ≤ 64 → 65535 < from) → SaysNames s e₀ y a
    copying_never f h = record { does = λ i t. next_told f i t λ b y q. let told = same_read (sym e ∙ q) in let k = told.0 in let j = told.1 in absurd (omega (arith, h, y.few, y.inside, i.short)) }

    pub copying_more : {less : ℕ} {u : Wrote} {a : List ℕ} → rest - 1 ≡ less → Put w (num_b m ++ span s from (from + m)) o' u a → length a ≡ length o' → Copying s o v n at₀ less (from + m) u a
    unfolding span bytes_b
    copying_more {u = u} {a} z₁ p long = subst (λ (less : ℕ). Copying s o v n at₀ less (from + m) u a) z₁ (record {
      long = long ∙ c.long;
      on = λ i {x} {d} q.
          let l = c.on i q in
          let y = next_name l in
          let told = same_read (sym e ∙ told_one g y) in
          let k : m ≡ y.n = told.0 in
          let h : from ≡ y.from = told.1 in
          let name = take m (drop from s) in
          let here : length name ≡ m = length-take-le m (drop from s) (omega (arith, y.inside, length-drop from s)) in
          let width : from + m - from ≡ m = omega arith in
          let bytes : num_b m ++ take (from + m - from) (drop from s) ≡ bytes_b name = ap (λ (j : ℕ). num_b m ++ take j (drop from s)) width ∙ ap (λ (j : ℕ). num_b j ++ name) (sym here) in
          record {
            before = l.before ++ (name ∷ []);
            read = subst (λ (j : ℕ). read_names (rest - 1) (l.before ++ (take j (drop from s) ∷ [])) s (cursor (from + j) 0 nothing) ≡ got x d) (sym k) (subst (λ (j : ℕ). read_names (rest - 1) (l.before ++ (take y.n (drop j s) ∷ [])) s (cursor (j + y.n) 0 nothing) ≡ got x d) (sym h) y.then);
            put = subst (λ (z : List ℕ). Put v z o u a) (ap (λ (z : List ℕ). flat_map bytes_b l.before ++ z) bytes ∙ sym (each_snoc l.before name)) (l.put ▸ p);
            count = omega (arith, l.count, length-append l.before (name ∷ []));
          };
    })

pub copying_done : {s o o₀ : List ℕ} {v : Wrote} {n at₀ rest at : ℕ} {w : Wrote} {o' : List ℕ} → Copying s o₀ v n at₀ rest at w o' → Put (Bytes 0) (num_b n) o v o₀ → num s (cursor 0 0 nothing) ≡ got n (cursor at₀ 0 nothing) → rest ≡ 0 → SaysNames s o w o'
unfolding read_names ret list_b
copying_done {s} {o} {n = n} {at = at} {w = w} {o'} c p f z = record {
  does = λ i t. same_table f t λ q.
      let l = c.on i q in
      let e : got l.before (cursor at 0 nothing) ≡ got t.table t.behind = subst (λ (j : ℕ). read_names j l.before s (cursor at 0 nothing) ≡ got t.table t.behind) z l.read in
      let b : l.before ≡ t.table = same_value e in
      let m : n ≡ length l.before = omega (arith, l.count) in
      subst (λ (x : List (List ℕ)). Put (Bytes 0) (num_b (length x) ++ flat_map bytes_b x) o w o') b (subst (λ (j : ℕ). Put (Bytes 0) (num_b j ++ flat_map bytes_b l.before) o w o') m (p ▸ l.put));
}

-- the count of names, as it was read first
pub counted_at : {s : List ℕ} {r : Result (ℕ × ℕ) Refusal} {n a : ℕ} → Gives num s 0 r → r ≡ Ok (n, a) → num s (cursor 0 0 nothing) ≡ got n (cursor a 0 nothing)
counted_at g e = g.is 0 nothing ∙ ap (number_of 0 nothing) e

pub names_uncounted : {s o : List ℕ} {r : Result (ℕ × ℕ) Refusal} {x : Refusal} {v : Wrote} {a : List ℕ} → Gives num s 0 r → r ≡ Err x → SaysNames s o v a
names_uncounted g e = record { does = λ i t. never (sym (g.is 0 nothing ∙ ap (number_of 0 nothing) e) ∙ t.counted) }

-- What is copied from the tree number by number is what the encoder gives for what was read there.
use mathlib.Core.Path.{◌≡◌, refl, sym, ap, subst, ◌∙◌}
use mathlib.Core.Bool.{Bool, true, false, ◌&&◌, ◌||◌, not}
use mathlib.Core.List.{List, [], ◌∷◌, ◌++◌, append-nil, append_assoc, flat_map}
use Prim.Native.Nat.{ℕ, zero, suc, ◌+◌, ◌*◌, ◌%◌, ◌^◌, ◌≤◌}
use native.Mathlib.Omega.{arith}
use lib.Dec.{ltb, eqb}
use lib.ListN.{length, get_or}
use borrow.Author.Tests.{eqb-true}
use Rattle.std.specs.Prelude.{Result, Ok, Err}
use Rattle.fields.specs.declared.refusal.Refusal.{Refusal}
use Rattle.penne.specs.Reader.{Cur, Got, got, refused, Reader, ◌>>=◌, ret, such, num, below, many, groups, last_group, moved, nothing}
use Rattle.penne.specs.Tree.{Spot, poison, earlier}
use Rattle.penne.specs.Read.{place, name, ident, poison_fields, poison_of, read_poison}
use Rattle.penne.specs.Write.{num_b, place_b, ident_b, poison_b}
use Rattle.fields.specs.Answers.{cursor, Ends, two_places, operator}
use Rattle.answer.specs.Parts.{renumbered}
use Rattle.answer.proofs.Spelling.{num_reading}
use Rattle.answer.proofs.Runs.{renumbered_end, renumbered_more}
use Rattle.answer.specs.declared.wrote.Wrote.{Wrote}
use Rattle.answer.specs.Out.{Put}
use Rattle.walk.specs.declared.state.Walk.{Walk}
use Rattle.walk.specs.Walking.{moved_to, with_wrote, here, Ground, Leads, Walks, say}
use Rattle.walk.proofs.Leading.{never, same_value, same_cur, bind_got, such_got, walks, leads_bind, leads_got, leads_part, leads_ended}
use Rattle.walk.proofs.Writing.{wrote_on}

-- A NUMBER IS THE SAME WHATEVER WAS COUNTED

last_any : (b : Bool) (x start next : ℕ) (c c' : Cur) {u : ℕ} {d : Cur} → ◌≡◌ {A = Got ℕ} (elim b [ true ↦ got x (moved c next) | false ↦ refused 4 start ]) (got u d)
    → ◌≡◌ {A = Got ℕ} (elim b [ true ↦ got x (moved c' next) | false ↦ refused 4 start ]) (got u (moved c' d.at))
unfolding moved
last_any true x start next c c' {u} e = ap (λ (y : ℕ). got y (moved c' next)) (same_value e) ∙ ap (λ (n : ℕ). got u (moved c' n)) (ap (λ (q : Cur). q.at) (same_cur e))
last_any false x start next c c' e = never e

groups_any : (left start w v : ℕ) (s : List ℕ) (at : ℕ) (c c' : Cur) {u : ℕ} {d : Cur} → groups left start w v s at c ≡ got u d → groups left start w v s at c' ≡ got u (moved c' d.at)
unfolding groups last_group
groups_any zero start w v s at c c' e = never e
groups_any (suc left) start w v s at c c' {u} {d} e = go (ltb at (length s)) (ltb (get_or s at 0) 128) (λ h. groups_any left start (w * 128) (v + (get_or s at 0 % 128) * w) s (at + 1) c c' h) e
  where
    go : (b b₂ : Bool) → (groups left start (w * 128) (v + (get_or s at 0 % 128) * w) s (at + 1) c ≡ got u d → groups left start (w * 128) (v + (get_or s at 0 % 128) * w) s (at + 1) c' ≡ got u (moved c' d.at)) → ◌≡◌ {A = Got ℕ} (elim b [ false ↦ refused 3 start | true ↦ elim b₂ [ false ↦ groups left start (w * 128) (v + (get_or s at 0 % 128) * w) s (at + 1) c | true ↦ last_group (get_or s at 0) w v start (at + 1) c ] ]) (got u d)
        → ◌≡◌ {A = Got ℕ} (elim b [ false ↦ refused 3 start | true ↦ elim b₂ [ false ↦ groups left start (w * 128) (v + (get_or s at 0 % 128) * w) s (at + 1) c' | true ↦ last_group (get_or s at 0) w v start (at + 1) c' ] ]) (got u (moved c' d.at))
    go false b₂ f h = never h
    go true false f h = f h
    go true true f h = last_any (ltb (v + get_or s at 0 * w) (2 ^ 32) && (not (eqb (get_or s at 0) 0) || eqb w 1)) (v + get_or s at 0 * w) start (at + 1) c c' h

pub num_any : (s : List ℕ) (c : Cur) {v : ℕ} {d : Cur} → num s c ≡ got v d → num s (cursor c.at 0 nothing) ≡ got v (cursor d.at 0 nothing)
unfolding num moved
num_any s c e = groups_any 5 c.at 1 0 s c.at c (cursor c.at 0 nothing) e

-- RUNS OF NUMBERS

-- from `from` to `to` numbers stand whose shortest forms are xs
pub data Spells (s : List ℕ) : (from to : ℕ) → List ℕ → Type 0 where
  none : {at : ℕ} → Spells s at at []
  more : {at to : ℕ} {xs : List ℕ} (v next : ℕ) → num s (cursor at 0 nothing) ≡ got v (cursor next 0 nothing) → Spells s next to xs → Spells s at to (num_b v ++ xs)

pub spells_le : {s : List ℕ} {from to : ℕ} {xs : List ℕ} → Spells s from to xs → from ≤ to
spells_le none = omega arith
spells_le {s} {from} (more v next e rest) = omega (arith, (num_reading s (cursor from 0 nothing) v (cursor next 0 nothing) e).later, spells_le rest)

-- what is copied
pub spells_is : {s : List ℕ} {from to : ℕ} {xs : List ℕ} → Spells s from to xs → renumbered s from to ≡ xs
spells_is {s} {from} none = renumbered_end s from from (omega arith)
spells_is {s} {from} {to} (more v next e rest) =
    let l = (num_reading s (cursor from 0 nothing) v (cursor next 0 nothing) e).later in
    let h = spells_le rest in
    renumbered_more s from to v (cursor next 0 nothing) (omega arith) e ∙ ap (λ (l : List ℕ). num_b v ++ l) (spells_is rest)

pub spells_join : {s : List ℕ} {a b c : ℕ} {xs ys : List ℕ} → Spells s a b xs → Spells s b c ys → Spells s a c (xs ++ ys)
spells_join none q = q
spells_join {s} {a} {c = c} {ys = ys} (more {xs = xs} v next e rest) q = subst (λ (l : List ℕ). Spells s a c l) (sym (append_assoc (num_b v) xs ys)) (more v next e (spells_join rest q))

pub spells_num : (s : List ℕ) (c : Cur) {v : ℕ} {d : Cur} → num s c ≡ got v d → Spells s c.at d.at (num_b v)
spells_num s c {v} {d} e = subst (λ (l : List ℕ). Spells s c.at d.at l) (append-nil (num_b v)) (more v d.at (num_any s c e) none)

-- FIELDS

-- what m reads stands there as e writes it
pub record Spelled {A : Type 0} (m : Reader A) (e : A → List ℕ) : Type 0 where
  pub is : (s : List ℕ) (c : Cur) (x : A) (d : Cur) → m s c ≡ got x d → Spells s c.at d.at (e x)

pub spelled_num : Spelled num num_b
spelled_num = record { is = λ s c x d h. spells_num s c h }

-- one after the other
pub spelled_then : {A B C : Type 0} {m : Reader A} {e : A → List ℕ} {n : A → Reader B} {f : B → List ℕ} (g : A → B → C) (k : C → List ℕ) → Spelled m e → ((x : A) → Spelled (n x) f) → ((x : A) (y : B) → e x ++ f y ≡ k (g x y))
    → Spelled (m >>= λ x. n x >>= λ y. ret (g x y)) k
unfolding ret
spelled_then {m = m} {e} {n} {f} g k p q same = record {
  is = λ s c z d h.
      let a = bind_got m _ s c h in
      let b = bind_got (n a.0) _ s a.1 a.3 in
      let j = spells_join (p.is s c a.0 a.1 a.2) ((q a.0).is s a.1 b.0 b.1 b.2) in
      subst (λ (u : _). Spells s c.at d.at (k u)) (same_value b.3) (subst (λ (l : List ℕ). Spells s c.at d.at l) (same a.0 b.0) (subst (λ (u : Cur). Spells s c.at u.at (e a.0 ++ f b.0)) (same_cur b.3) j));
}

pub spelled_place : Spelled place place_b
unfolding place ◌>>=◌ ret place_b
spelled_place = record {
  is = λ s c x d h.
      let spot : ℕ → Spot = λ n. record { number = n; from = c.at } in
      let a = bind_got num (λ n. ret (spot n)) s c h in
      subst (λ (u : Spot). Spells s c.at d.at (num_b u.number)) (same_value a.3) (subst (λ (u : Cur). Spells s c.at u.at (num_b a.0)) (same_cur a.3) (spells_num s c a.2));
}

-- "2p", "op, 2p"
pub spelled_places : Spelled two_places (λ r. place_b r.0 ++ place_b r.1)
unfolding two_places
spelled_places = spelled_then (λ p q. (p, q)) (λ r. place_b r.0 ++ place_b r.1) spelled_place (λ p. spelled_place) (λ p q. refl)

pub spelled_operator : Spelled operator (λ r. num_b r.0 ++ (place_b r.1.0 ++ place_b r.1.1))
unfolding operator
spelled_operator = spelled_then (λ op r. (op, r)) (λ r. num_b r.0 ++ (place_b r.1.0 ++ place_b r.1.1)) spelled_num (λ op. spelled_places) (λ op r. refl)

-- A field of several parts is spelled where its last part ends: the parts in turn, as the decoder has them (`Leads`).
abbrev pub Spelling : {A : Type 0} → Reader A → (s : List ℕ) → (c : Cur) → (from : ℕ) → (A → List ℕ) → Type 0
Spelling m s c from e = Leads m s c (λ x d. Spells s from d.at (e x))

pub spelled_by : {A : Type 0} {m : Reader A} {e : A → List ℕ} → ((s : List ℕ) (c : Cur) → Spelling m s c c.at e) → Spelled m e
spelled_by k = record { is = λ s c x d h. (k s c).to x d h }

-- a test that was passed
pub spelled_such : {A : Type 0} {m : Reader A} {e : A → List ℕ} (test : A → Cur → Bool) (n : ℕ) → Spelled m e → Spelled (such m test n) e
spelled_such {m = m} test n p = record { is = λ s c x d h. p.is s c x d (such_got m test n s c h).0 }

pub spelled_below : (k : ℕ) → Spelled (below k) num_b
unfolding below
spelled_below k = spelled_such _ 5 spelled_num

pub spelled_name : Spelled name num_b
unfolding name
spelled_name = spelled_such _ 5 spelled_num

-- items one after another
pub spelled_many : {A : Type 0} {m : Reader A} {e : A → List ℕ} → Spelled m e → (n : ℕ) → Spelled (many m n) (flat_map e)
unfolding many flat_map
spelled_many p zero = spelled_by λ s c. leads_got [] none
spelled_many {m = m} p (suc n) = spelled_by λ s c. leads_bind m _ λ y b h. leads_bind (many m n) _ λ ys d g. leads_got (y ∷ ys) (spells_join (p.is s c y b h) ((spelled_many p n).is s b ys d g))

-- "Identifier: name number, place, id, authority (0/1)."
pub spelled_ident : Spelled ident ident_b
unfolding ident ident_b place_b
spelled_ident = record {
  is = λ s c x d h.
      let k : Spelling (name >>= λ n. num >>= λ p. num >>= λ i. below 2 >>= λ a. ret (record { name = n; place = record { number = p; from = c.at }; id = i; auth = a })) s c c.at ident_b =
      leads_bind name _ λ n c₁ hn. leads_bind num _ λ p c₂ hp. leads_bind num _ λ i c₃ hi. leads_bind (below 2) _ λ a c₄ ha.
      leads_got _ (spells_join (spelled_name.is s c n c₁ hn) (spells_join (spells_num s c₁ hp) (spells_join (spells_num s c₂ hi) ((spelled_below 2).is s c₃ a c₄ ha)))) in
      k.to x d h;
}

-- "Poison: 0 Poisoned; then kinds with fields", behind its kind k
poison_of_lem : (k : ℕ) (s : List ℕ) (c : Cur) (from : ℕ) → Spells s from c.at (num_b k) → Spelling (poison_of k) s c from poison_b
unfolding poison_of poison_b
poison_of_lem k s c from h = (elim (eqb k 17) as (λ b. eqb k 17 ≡ b → Spelling (elim b [
  | true ↦ num >>= λ n. ret (earlier n)
  | false ↦ (do
    ns ← many name (get_or poison_fields k (0, 0)).0
    ps ← many place (get_or poison_fields k (0, 0)).1
    ret (poison k ns ps))
]) s c from poison_b) [
  | true ↦ λ e. leads_bind num _ λ n d g. leads_got (earlier n) (spells_join (subst (λ (j : ℕ). Spells s from c.at (num_b j)) (eqb-true k 17 e) h) (spells_num s c g))
  | false ↦ λ e. leads_bind (many name _) _ λ ns d g. leads_bind (many place _) _ λ ps b f.
      leads_got (poison k ns ps) (spells_join h (spells_join ((spelled_many spelled_name _).is s c ns d g) ((spelled_many spelled_place _).is s d ps b f)))
]) refl

pub spelled_poison : Spelled read_poison poison_b
unfolding read_poison
spelled_poison = spelled_by λ s c. leads_bind (below 18) _ λ k d h. poison_of_lem k s d c.at ((spelled_below 18).is s c k d h)

-- THE WALK COPIES A FIELD

-- a kind, and the field behind it as it came in
pub copied : {A : Type 0} {m : Reader A} {e : A → List ℕ} → Spelled m e → (kind : ℕ) {t : List ℕ} {s : Walk} {o l w : List ℕ} {m₁ : Result ℕ Refusal} {n : ℕ} {x : Wrote} {o' : List ℕ} → Ends m t s.script.names s.at m₁ → m₁ ≡ Ok n
    → Put s.wrote (num_b kind ++ renumbered t s.at n) o x o' → Walks t m (λ y a. say (num_b kind ++ e y) a) s o l w (moved_to (with_wrote s x) n) o' l w
copied p kind {t} {s} {o} {x = x} {o'} g q put = walks λ h a i. leads_part g q λ y z. record {
  cur = refl;
  is = wrote_on i (subst (λ (ys : List ℕ). Put s.wrote (num_b kind ++ ys) o x o') (spells_is (p.is t (here s) y _ z)) put);
}

-- it can not be read
pub uncopied : {A : Type 0} {m : Reader A} {f : A → Ground → Ground} {t : List ℕ} {s : Walk} {o l w : List ℕ} {m₁ : Result ℕ Refusal} {x : Refusal} {r : Walk} {o' l' w' : List ℕ} → Ends m t s.script.names s.at m₁ → m₁ ≡ Err x → Walks t m f s o l w r o' l' w'
uncopied g q = walks λ h a i. leads_ended g q

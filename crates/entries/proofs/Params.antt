-- Parameters and members, each with its type, and lists of them.
use mathlib.Core.Path.{◌≡◌, refl, sym, ap, subst, ◌∙◌}
use mathlib.Core.Bool.{true, false}
use mathlib.Core.List.{List, [], ◌∷◌, ◌++◌, append_assoc, append-nil, flat_map}
use mathlib.Core.Option.{some}
use Rattle.std.specs.Prelude.{Result, Ok, Err}
use Rattle.fields.specs.declared.refusal.Refusal.{Refusal}
use Rattle.std.specs.Prelude.{Option, Some, None}
use Prim.Native.Nat.{ℕ, suc, ◌+◌, ◌-◌, ◌≤◌, ◌<◌}
use native.Mathlib.Omega.{arith}
use lib.ListN.{length}
use Rattle.penne.specs.Reader.{Cur, got, Reader, ◌>>=◌, ret, num, many, listed, an_entry, counting}
use Rattle.penne.specs.Tree.{Spot, Ident, Maybe, ok, err, Ty, Param}
use Rattle.penne.specs.Read.{place, ident, maybe, read_ty, read_param, poison_fields}
use Rattle.penne.specs.Write.{num_b, place_b, ident_b, ty_b, maybe_b, list_b, param_b}
use Rattle.penne.specs.State as S
use Rattle.penne.specs.Containers.{Container}
use Rattle.penne.specs.Scopes.{Analyzer, Pass}
use Rattle.penne.specs.Variables.{analyze_maybe_type, declare_maybe, in_turn, analyze_param, analyze_wellfoundedness, analyze_member}
use Rattle.penne.proofs.IdsPass.{still_maybe, still_found, grown_declare}
use Rattle.fields.specs.Answers.{Gives, poison_names, poison_places}
use Rattle.fields.proofs.Chain.{reads}
use Rattle.fields.proofs.Back.{many_length}
use Rattle.answer.specs.declared.wrote.Wrote.{Wrote}
use Rattle.answer.specs.Out.{Put}
use Rattle.containers.specs.Table.{at}
use Rattle.walk.specs.declared.state.Walk.{Walk}
use Rattle.walk.specs.declared.edges.Holder.{Holder}
use Rattle.walk.specs.Walking.{moved_to, with_wrote, here, Ground, Good, Is, onward, say, Did, Leads, Input, Walks}
use Rattle.walk.specs.Calls.{the_member}
use Rattle.entries.specs.Entering.{Stays, stays, goes, held_by, Decides}
use Rattle.walk.proofs.Loops.{Kept, kept_more}
use Rattle.walk.proofs.Leading.{leads_bind, leads_read, leads_unread, leads_call, leads_end, leads_got, is_same, bind_is, leads_at}
use Rattle.walk.proofs.Writing.{wrote_on}
use Rattle.types.specs.Typing.{analyze_contained, Contains}
use Rattle.entries.specs.Entering.{Outside, InStructure, Under, param_walk, member_walk, analyze_held, TypesMember, Names, named, nameless, Stops, Refuses, place_and_name, placed_b, NamesEntry}
use Rattle.entries.proofs.Staying.{inside_name, outside_param, inside_member}

-- PLACE AND NAME, AND THEN THE REST

place_and_name_lem : (t : List ℕ) (c : Cur) {p : Spot} {d : Cur} {i : Maybe Spot (Ident Spot)} {e : Cur} → counting (λ _. an_entry) place t c ≡ got p d → maybe ident t d ≡ got i e → place_and_name t c ≡ got (p, i) e
unfolding place_and_name ret
place_and_name_lem t c {p} {d} g h = bind_is _ (λ p. maybe ident >>= λ i. ret (p, i)) t c g ∙ bind_is (maybe ident) (λ i. ret (p, i)) t d h

leads_named : {A : Type 0} {P : A → Cur → Type 0} {R : Spot × Maybe Spot (Ident Spot) → Cur → Type 0} (f : Spot → Maybe Spot (Ident Spot) → Reader A) {t : List ℕ} {c : Cur} → Leads place_and_name t c R
    → ((p : Spot) (i : Maybe Spot (Ident Spot)) (d : Cur) → R (p, i) d → Leads (f p i) t d P) → Leads (counting (λ _. an_entry) place >>= λ p. maybe ident >>= λ i. f p i) t c P
leads_named f {t} {c} k next = leads_bind _ _ λ p d g. leads_bind _ _ λ i e h. next p i e (k.to (p, i) e (place_and_name_lem t c g h))

-- somebody who was declared there
abbrev anybody : ℕ → Ident Spot
anybody n = record { name = 0; place = record { number = n; from = 0 }; id = 0; auth = 0 }

-- the member as it is told: its name has that place, or was refused
told_is : {name : Option ℕ} {y : Maybe Spot (Ident Spot)} → Names name y → (i : Ident Spot) × Stays i name y × ((p : ℕ) → name ≡ Some p → p ≡ i.place.number)
told_is (named {p} {i} h) = (i, stays, λ q e. let z : p ≡ q = cc in sym z ∙ h)
told_is nameless = (anybody 0, goes, λ q e. absurd (let z : ◌≡◌ {A = ℕ} 0 1 = cc in omega arith))

-- one who was declared at the place of that name
someone : (name : Option ℕ) → (i : Ident Spot) × ((p : ℕ) → name ≡ Some p → p ≡ i.place.number)
someone (Some q) = (anybody q, λ p e. cc)
someone None = (anybody 0, λ p e. absurd (let z : ◌≡◌ {A = ℕ} 0 1 = cc in omega arith))

-- THE BYTES

bytes_of : (xs p i y : List ℕ) → (xs ++ (p ++ i)) ++ y ≡ xs ++ (p ++ (i ++ y))
bytes_of xs p i y = append_assoc xs (p ++ i) y ∙ ap (λ (ys : List ℕ). xs ++ ys) (append_assoc p i y)

param_is : (k : ℕ) (p : Spot) (x : Maybe Spot (Ident Spot)) (y : Maybe Spot (Ty Spot)) (a : Ground) → onward analyze_maybe_type (maybe_b ty_b) y (onward (declare_maybe k) (placed_b p) x a) ≡ onward (analyze_param k) param_b (record { place = p; ident = x; type = y }) a
unfolding analyze_param param_b S.◌>>=◌ S.ret
param_is k p x y a = ap (λ (xs : List ℕ). record { out = xs; st = (analyze_maybe_type y (declare_maybe k x a.st).1).1; rest = a.rest }) (bytes_of a.out (place_b p) _ _)

-- the ground behind a member whose type became v
abbrev typed : Spot → Maybe Spot (Ident Spot) → Ground → Maybe Spot (Ty Spot) × Analyzer Spot → Ground
typed p i a v = record { out = a.out ++ (place_b p ++ (maybe_b ident_b i ++ maybe_b ty_b v.0)); st = v.1; rest = a.rest }

member_by : (c : Ident Spot) (p : Spot) (x : Maybe Spot (Ident Spot)) (y : Maybe Spot (Ty Spot)) (a : Ground)
    → typed p (declare_maybe 6 x a.st).0 a (analyze_wellfoundedness c (declare_maybe 6 x a.st).0 (analyze_maybe_type y (declare_maybe 6 x a.st).1).0 (analyze_maybe_type y (declare_maybe 6 x a.st).1).1) ≡ member_walk c (record { place = p; ident = x; type = y }) a
unfolding analyze_member analyze_param param_b S.◌>>=◌ S.ret
member_by c p x y a = refl

member_held_is : (by : Option Holder) (c i : Ident Spot) (p : Spot) (x : Maybe Spot (Ident Spot)) (y : Maybe Spot (Ty Spot)) (a : Ground) → ((u : Maybe Spot (Ty Spot)) → held_by by c i u ≡ analyze_wellfoundedness c (declare_maybe 6 x a.st).0 u)
    → onward (analyze_held by c i) (maybe_b ty_b) y (onward (declare_maybe 6) (placed_b p) x a) ≡ member_walk c (record { place = p; ident = x; type = y }) a
unfolding analyze_held S.◌>>=◌
member_held_is by c i p x y a e =
    let q = analyze_maybe_type y (declare_maybe 6 x a.st).1 in
    ap (λ (xs : List ℕ). record { out = xs; st = (analyze_held by c i y (declare_maybe 6 x a.st).1).1; rest = a.rest }) (bytes_of a.out (place_b p) _ _)
    ∙ ap (λ (f : Pass Spot (Maybe Spot (Ty Spot))). typed p (declare_maybe 6 x a.st).0 a (f q.1)) (e q.0) ∙ member_by c p x y a

-- what holds behind a member held behind its name
wellfounded_ids : (c : Ident Spot) (i : Maybe Spot (Ident Spot)) (t : Maybe Spot (Ty Spot)) (a : Analyzer Spot) → a.resolution_id ≤ (analyze_wellfoundedness c i t a).1.resolution_id
unfolding analyze_wellfoundedness S.ret
wellfounded_ids c (ok i) t a = (still_found c (some i) t a).takes.lower
wellfounded_ids c (err z) t a = omega arith

good_name : (c : Ident Spot) (p : Spot) (x : Maybe Spot (Ident Spot)) (y : Maybe Spot (Ty Spot)) (a : Ground) → Good (member_walk c (record { place = p; ident = x; type = y }) a) → Good (onward (declare_maybe 6) (placed_b p) x a)
unfolding analyze_member analyze_param S.◌>>=◌ S.ret
good_name c p x y a z =
    let b = (declare_maybe 6 x a.st).1 in
    let q = analyze_maybe_type y b in
    record { few = omega (arith, z.few, (still_maybe y b).takes.lower, wellfounded_ids c (declare_maybe 6 x a.st).0 q.0 q.1); fit = z.fit }

-- ONE PARAMETER

-- what is true where the walk is good
is_when : {s : Walk} {o l w : List ℕ} {a : Ground} → (Good a → Is s o l w a) → Is s o l w a
is_when k = record { when = λ z. (k z).when z }

row_at : (b : Holder) (cs : List (Container Spot)) {row : ℕ} {c : Ident Spot} → b.row ≡ row → (at cs row).identifier ≡ c → (at cs b.row).identifier ≡ c
row_at b cs {c = c} e h = subst (λ (n : ℕ). (at cs n).identifier ≡ c) (sym e) h

name_ids : (k : ℕ) (x : Maybe Spot (Ident Spot)) (a : Analyzer Spot) → a.resolution_id ≤ (declare_maybe k x a).1.resolution_id
unfolding declare_maybe S.ret
name_ids k (ok i) a = (grown_declare k i a).takes.lower
name_ids k (err z) a = omega arith

good_before : (k : ℕ) (p : Spot) (x : Maybe Spot (Ident Spot)) (a : Ground) → Good (onward (declare_maybe k) (placed_b p) x a) → Good a
good_before k p x a z = record { few = omega (arith, z.few, name_ids k x a.st); fit = z.fit }

-- one who was read is not told as unread
read_not : {answered : Result (Option ℕ) Refusal} {name : Option ℕ} {x : Refusal} {A : Type 0} → answered ≡ Ok name → answered ≡ Err x → A
read_not e u = absurd (let z : ◌≡◌ {A = ℕ} 0 1 = cc in omega arith)

same_name : {answered : Result (Option ℕ) Refusal} {name told : Option ℕ} → answered ≡ Ok name → answered ≡ Ok told → name ≡ told
same_name e u = cc

-- where the name was read, the walk does not stop
pub read_on : {t : List ℕ} {s : Walk} {o w : List ℕ} {s₁ : Walk} {answered : Result (Option ℕ) Refusal} {o₁ w₁ : List ℕ} → Refuses t s o w s₁ answered o₁ w₁ → {name : Option ℕ} → answered ≡ Ok name → {r : Walk} {o₂ w₂ : List ℕ} → Stops t s o w r o₂ w₂
read_on k e = record { still = λ u. read_not e (k.refused u).1 }

module _ {t : List ℕ} {s : Walk} {o l w : List ℕ} {s₁ : Walk} {answered : Result (Option ℕ) Refusal} {o₁ w₁ : List ℕ} {r : Walk} {o₂ w₂ : List ℕ} where
  -- its name was not read
  pub parameter_unread : {x : Refusal} → NamesEntry 5 t s o w s₁ answered o₁ w₁ → answered ≡ Err x → Under Outside t (read_param 63 false) param_walk s o l w r o₂ l w₂
  unfolding read_param poison_names poison_places poison_fields
  parameter_unread k e = record { does = λ h a out i. leads_named _ (k.does refl refl h l a out i) λ p x d z. read_not z.read e }

  pub parameter_typed : NamesEntry 5 t s o w s₁ answered o₁ w₁ → Walks t (maybe (read_ty 63 false)) (onward analyze_maybe_type (maybe_b ty_b)) s₁ o₁ l w₁ r o₂ l w₂ → Under Outside t (read_param 63 false) param_walk s o l w r o₂ l w₂
  unfolding read_param poison_names poison_places poison_fields
  parameter_typed k kt = record {
    does = λ h a out i. leads_named _ (k.does refl refl h l a out i) λ p x d z.
        leads_at (sym z.did.cur) (leads_call _ kt h z.did.is λ y _ i₁.
        leads_end (record { place = p; ident = x; type = y }) refl i₁ λ _. param_is 5 p x y a);
  }

  -- ONE MEMBER

  -- its name was not read
  pub member_unread : {row : ℕ} {c : Ident Spot} {x : Refusal} → NamesEntry 6 t s o w s₁ answered o₁ w₁ → answered ≡ Err x → Under (InStructure row c) t (read_param 63 true) (member_walk c) s o l w r o₂ l w₂
  unfolding read_param poison_names poison_places poison_fields
  member_unread k e = record { does = λ h a out i. leads_named _ (k.does refl refl h l a (λ z. (out z).outside) i) λ p x d z. read_not z.read e }

  -- its type, held as is decided by its name
  pub member_typed : {name : Option ℕ} {row : ℕ} {c : Ident Spot} {by : Option Holder} → NamesEntry 6 t s o w s₁ answered o₁ w₁ → answered ≡ Ok name → Decides name row by → TypesMember t by s₁ o₁ l w₁ r o₂ l w₂ → Under (InStructure row c) t (read_param 63 true) (member_walk c) s o l w r o₂ l w₂
  unfolding read_param poison_names poison_places poison_fields
  member_typed {name} {row} {c} {by} k u d kt = record {
    does = λ h a out i. leads_named _ (k.does refl refl h l a (λ z. (out z).outside) i) λ p x b z.
        let a₁ : Ground = onward (declare_maybe 6) (placed_b p) x a in
        let i₁ : Is s₁ o₁ l w₁ a₁ = z.did.is in
        let in₁ : Good a₁ → InStructure row c a₁ = λ g. inside_name 6 x _ a (out (good_before 6 p x a g)) in
        let at_row : (e : Holder) → by ≡ Some e → e.row ≡ row = λ e n. ap (λ (y : Holder). y.row) (d.holder e n).2 in
        let goes_on : (m : Ident Spot) → ((q : ℕ) → name ≡ Some q → q ≡ m.place.number) → Leads (maybe (read_ty 63 true)) t (here s₁) (λ y d. Did d (onward (analyze_held by c m) (maybe_b ty_b) y a₁) r o₂ l w₂) = λ m n. kt.does h c m a₁ (record {
          member = λ e u. let v = d.holder e u in the_member (ap (λ (y : Holder). y.member) v.2 ∙ ap Some (n v.0 v.1));
          low = λ e u g. omega (arith, at_row e u, (in₁ g).low, (i₁.when g).tables.containers.counted);
          is = λ e u g. row_at e a₁.st.containment.containers (at_row e u) (in₁ g).is;
        }) i₁ in
        leads_at (sym z.did.cur) (leads_bind _ _ λ y f g. leads_got (record { place = p; ident = x; type = y }) (record {
          cur = let m = someone name in ((goes_on m.0 m.1).to y f g).cur;
          is = is_when λ good. let m = told_is (subst (λ (v : Option ℕ). Names v (declare_maybe 6 x a.st).0) (same_name z.read u) (z.told (good_name c p x y a good))) in is_same (λ _. member_held_is by c m.0 p x y a (d.edges c m.0 _ m.1)) ((goes_on m.0 m.2).to y f g).is;
        }));
  }

-- A MEMBER'S TYPE

held_is : {by : Option Holder} {h : Holder} → by ≡ Some h → (c i : Ident Spot) (x : Maybe Spot (Ty Spot)) (a : Ground) → onward (analyze_contained c (some i)) (maybe_b ty_b) x a ≡ onward (analyze_held by c i) (maybe_b ty_b) x a
unfolding analyze_held analyze_contained held_by S.◌>>=◌
held_is e c i x a = sym (ap (λ (b : Option Holder). onward (analyze_held b c i) (maybe_b ty_b) x a) e)

alone_is : {by : Option Holder} → by ≡ None → (c i : Ident Spot) (x : Maybe Spot (Ty Spot)) (a : Ground) → onward analyze_maybe_type (maybe_b ty_b) x a ≡ onward (analyze_held by c i) (maybe_b ty_b) x a
unfolding analyze_held held_by S.◌>>=◌ S.ret
alone_is e c i x a = sym (ap (λ (b : Option Holder). onward (analyze_held b c i) (maybe_b ty_b) x a) e)

module _ {t : List ℕ} {by : Option Holder} {s : Walk} {o l w : List ℕ} {r : Walk} {o₁ w₁ : List ℕ} where
  pub type_held : {h : Holder} → by ≡ Some h → Contains t (maybe (read_ty 63 true)) h s o l w r o₁ l w₁ → TypesMember t by s o l w r o₁ l w₁
  type_held {h} e k = record { does = λ u c i a z is. record { to = λ x d g. let y = (k.does u c (some i) (z.member h e) a (z.low h e) (z.is h e) is).to x d g in record { cur = y.cur; is = is_same (λ _. held_is e c i x a) y.is } } }

  pub type_alone : by ≡ None → Walks t (maybe (read_ty 63 true)) (onward analyze_maybe_type (maybe_b ty_b)) s o l w r o₁ l w₁ → TypesMember t by s o l w r o₁ l w₁
  type_alone e k = record { does = λ u c i a z is. record { to = λ x d g. let y = (k.does u a is).to x d g in record { cur = y.cur; is = is_same (λ _. alone_is e c i x a) y.is } } }

-- LISTS

-- another walk over a part, where what it has to know is known, and then the rest
pub leads_under : {A D : Type 0} {Q : Ground → Type 0} {P : A → Cur → Type 0} (f : D → Reader A) {t : List ℕ} {m : Reader D} {g : D → Ground → Ground} {s₁ : Walk} {o₁ l₁ w₁ : List ℕ} {s₂ : Walk} {o₂ l₂ w₂ : List ℕ} {b : Ground}
    → Under Q t m g s₁ o₁ l₁ w₁ s₂ o₂ l₂ w₂ → Input t → (Good b → Q b) → Is s₁ o₁ l₁ w₁ b → ((x : D) → m t (here s₁) ≡ got x (here s₂) → Is s₂ o₂ l₂ w₂ (g x b) → Leads (f x) t (here s₂) P) → Leads (m >>= f) t (here s₁) P
leads_under {P = P} f {t} {m} {b = b} k j p i next = leads_bind m f λ y d g.
    let z = (k.does j b p i).to y d g in
    subst (λ (c : Cur). Leads (f y) t c P) (sym z.cur) (next y (g ∙ ap (got y) z.cur) z.is)

-- What is done to a list is done to its items in turn; what is known before an item is known behind it. C is what the knowledge is about.
pub record ListedUnder {A C : Type 0} (P : C → Ground → Type 0) (f : C → A → Ground → Ground) (fs : C → List A → Ground → Ground) : Type 0 where
  pub nil_is : (c : C) (a : Ground) → a ≡ fs c [] a
  pub cons_is : (c : C) (x : A) (xs : List A) (a : Ground) → fs c xs (f c x a) ≡ fs c (x ∷ xs) a
  pub keeps : (c : C) (x : A) (a : Ground) → (Good a → P c a) → Good (f c x a) → P c (f c x a)

-- The loop: whatever walks the rest of the items from here has walked all n of them from the beginning.
pub record GoingUnder {A C : Type 0} (P : C → Ground → Type 0) (t : List ℕ) (m : Reader A) (fs : C → List A → Ground → Ground) (n : ℕ) (s₀ : Walk) (o₀ w₀ : List ℕ) (rest : ℕ) (s : Walk) (o w : List ℕ) : Type 0 where
  pub kept : Kept o₀ o₀ w₀ o o w
  pub on : (c : C) (l : List ℕ) (r : Walk) (o' w' : List ℕ) → Under (P c) t (many m rest) (fs c) s o l w r o' l w' → Under (P c) t (many m n) (fs c) s₀ o₀ l w₀ r o' l w'

module _ {A C : Type 0} {P : C → Ground → Type 0} {f : C → A → Ground → Ground} {fs : C → List A → Ground → Ground} (how : ListedUnder P f fs) {t : List ℕ} {m : Reader A} where
  one_more : (n : ℕ) (c : C) {s : Walk} {o l w : List ℕ} {s₁ : Walk} {o₁ l₁ w₁ : List ℕ} {r : Walk} {o' l' w' : List ℕ} → Under (P c) t m (f c) s o l w s₁ o₁ l₁ w₁ → Under (P c) t (many m n) (fs c) s₁ o₁ l₁ w₁ r o' l' w'
      → Under (P c) t (many m (suc n)) (fs c) s o l w r o' l' w'
  unfolding many
  one_more n c k j = record { does = λ h a p i. leads_under _ k h p i λ x g i₁. leads_under _ j h (how.keeps c x a p) i₁ λ xs g₁ i₂. leads_end (x ∷ xs) refl i₂ λ _. how.cons_is c x xs a }

  -- k of the n items are walked
  module _ {n : ℕ} {s₀ : Walk} {o₀ w₀ : List ℕ} {k : ℕ} {s : Walk} {o w : List ℕ} (g : GoingUnder P t m fs n s₀ o₀ w₀ (n - k) s o w) where
    pub under_more : {s₁ : Walk} {o₁ w₁ : List ℕ} → k < n → ((c : C) (l : List ℕ) → Under (P c) t m (f c) s o l w s₁ o₁ l w₁) → length o₁ ≡ length o → length w₁ ≡ length w → GoingUnder P t m fs n s₀ o₀ w₀ (n - (k + 1)) s₁ o₁ w₁
    under_more h i a b =
        let q : suc (n - (k + 1)) ≡ n - k = omega arith in
        record { kept = kept_more g.kept a a b; on = λ c l r o' w' j. g.on c l r o' w' (subst (λ (rest : ℕ). Under (P c) t (many m rest) (fs c) s o l w r o' l w') q (one_more (n - (k + 1)) c (i c l) j)) }

    pub under_done : n ≤ k → (c : C) (l : List ℕ) → Under (P c) t (many m n) (fs c) s₀ o₀ l w₀ s o l w
    unfolding many
    under_done h c l = let z : n - k ≡ 0 = omega arith in g.on c l s o w (rw z (record { does = λ h a p i. leads_end [] refl i λ _. how.nil_is c a }))

-- the items without their count
abbrev items_walk : (Param Spot → Pass Spot (Param Spot)) → List (Param Spot) → Ground → Ground
items_walk p xs a = onward (in_turn p) (flat_map param_b) xs a

items_nil : (p : Param Spot → Pass Spot (Param Spot)) (a : Ground) → a ≡ items_walk p [] a
unfolding in_turn flat_map S.ret
items_nil p a = ap (λ (xs : List ℕ). record { out = xs; st = a.st; rest = a.rest }) (sym (append-nil a.out))

items_cons : (p : Param Spot → Pass Spot (Param Spot)) (x : Param Spot) (xs : List (Param Spot)) (a : Ground) → items_walk p xs (onward p param_b x a) ≡ items_walk p (x ∷ xs) a
unfolding in_turn flat_map S.◌>>=◌ S.ret
items_cons p x xs a = ap (λ (ys : List ℕ). record { out = ys; st = (in_turn p xs (p x a.st).1).1; rest = a.rest }) (append_assoc a.out _ _)

items_long : (p : Param Spot → Pass Spot (Param Spot)) (xs : List (Param Spot)) (s : Analyzer Spot) → length (in_turn p xs s).0 ≡ length xs
unfolding in_turn S.◌>>=◌ S.ret
items_long p [] s = refl
items_long p (x ∷ xs) s = ap suc (items_long p xs (p x s).1)

list_is : (p : Param Spot → Pass Spot (Param Spot)) (n : ℕ) (xs : List (Param Spot)) (a : Ground) → length xs ≡ n → items_walk p xs (say (num_b n) a) ≡ onward (in_turn p) (list_b param_b) xs a
unfolding list_b
list_is p n xs a e = ap (λ (ys : List ℕ). record { out = ys; st = (in_turn p xs a.st).1; rest = a.rest }) (append_assoc a.out _ _ ∙ ap (λ (j : ℕ). a.out ++ (num_b j ++ flat_map param_b (in_turn p xs a.st).0)) (sym e ∙ sym (items_long p xs a.st)))

module _ {P : Ground → Type 0} (p : Param Spot → Pass Spot (Param Spot)) (m : Reader (Param Spot)) {t : List ℕ} {s : Walk} {m₁ : Result (ℕ × ℕ) Refusal} (g : Gives num t s.at m₁) {o l w : List ℕ} {r : Walk} {o' l' w' : List ℕ} where
  pub list_unread : {x : Refusal} → m₁ ≡ Err x → Under P t (listed m) (onward (in_turn p) (list_b param_b)) s o l w r o' l' w'
  unfolding listed
  list_unread e = record { does = λ h a q i. leads_unread _ (reads g) e }

  -- the count was written, then the items
  pub list_walked : {n at : ℕ} {x : Wrote} {o₁ : List ℕ} → ((a b : Ground) → a.st ≡ b.st → P a → P b) → m₁ ≡ Ok (n, at) → Put s.wrote (num_b n) o x o₁ → Under P t (many m n) (items_walk p) (moved_to (with_wrote s x) at) o₁ l w r o' l' w'
      → Under P t (listed m) (onward (in_turn p) (list_b param_b)) s o l w r o' l' w'
  unfolding listed
  list_walked {n} says e put k = record {
    does = λ h a q i. leads_read _ (reads g) e (record {
      to = λ xs d j.
          let z = (k.does h (say (num_b n) a) (λ y. says a (say (num_b n) a) refl (q (record { few = y.few; fit = y.fit }))) (wrote_on i put)).to xs d j in
          record { cur = z.cur; is = is_same (λ _. list_is p n xs a (many_length m n t _ j)) z.is };
    });
  }

-- PARAMETERS

pub outside_same : (a b : Ground) → a.st ≡ b.st → Outside a → Outside b
outside_same a b e h = record { is = ap (λ (s : Analyzer Spot). s.containment.in_constexpr_of_constant) (sym e) ∙ h.is }

abbrev pub GoingParams : (t : List ℕ) (n : ℕ) (s₀ : Walk) (o₀ w₀ : List ℕ) (rest : ℕ) (s : Walk) (o w : List ℕ) → Type 0
GoingParams t n s₀ o₀ w₀ rest s o w = GoingUnder {C = ℕ} (λ c a. Outside a) t (read_param 63 false) (λ c xs a. items_walk (analyze_param 5) xs a) n s₀ o₀ w₀ rest s o w

pub params_listed : ListedUnder {C = ℕ} (λ c a. Outside a) (λ c x a. param_walk x a) (λ c xs a. items_walk (analyze_param 5) xs a)
params_listed = record { nil_is = λ c a. items_nil (analyze_param 5) a; cons_is = λ c x xs a. items_cons (analyze_param 5) x xs a; keeps = λ c x a h z. outside_param x a h z }

-- MEMBERS

pub inside_same : {row : ℕ} {c : Ident Spot} (a b : Ground) → a.st ≡ b.st → InStructure row c a → InStructure row c b
inside_same {row} {c} a b e h = record {
  outside = outside_same a b e h.outside;
  low = subst (λ (s : Analyzer Spot). row < length s.containment.containers) e h.low;
  is = subst (λ (s : Analyzer Spot). (at s.containment.containers row).identifier ≡ c) e h.is;
}

abbrev pub GoingMembers : (row : ℕ) (t : List ℕ) (n : ℕ) (s₀ : Walk) (o₀ w₀ : List ℕ) (rest : ℕ) (s : Walk) (o w : List ℕ) → Type 0
GoingMembers row t n s₀ o₀ w₀ rest s o w = GoingUnder {C = Ident Spot} (InStructure row) t (read_param 63 true) (λ c xs a. items_walk (analyze_member c) xs a) n s₀ o₀ w₀ rest s o w

pub members_listed : {row : ℕ} → ListedUnder {C = Ident Spot} (InStructure row) (λ c x a. member_walk c x a) (λ c xs a. items_walk (analyze_member c) xs a)
members_listed = record { nil_is = λ c a. items_nil (analyze_member c) a; cons_is = λ c x xs a. items_cons (analyze_member c) x xs a; keeps = λ c x a h z. inside_member c x a h z }

-- Types: a law for each arm of analyze_type.
use mathlib.Core.Path.{◌≡◌, refl, sym, ap, subst, ◌∙◌}
use mathlib.Core.Bool.{Bool, true, false}
use mathlib.Core.Logic.{◌⊎◌, inl, inr}
use mathlib.Core.List.{List, ◌++◌, append_assoc, append-nil}
use mathlib.Core.Option.{Option, none, some}
use Prim.Native.Nat.{ℕ, zero, suc, ◌-◌, ◌≤◌, ◌<◌}
use native.Mathlib.Omega.{arith}
use lib.Dec.{eqb}
use lib.ListN.{get_or}
use borrow.Author.Tests.{eqb-true, eqb-false}
use Rattle.std.specs.Prelude.{Result, Ok, Err}
use Rattle.fields.specs.declared.refusal.Refusal.{Refusal}
use Rattle.penne.specs.Reader.{Counts, Cur, Reader, ret, num, below}
use Rattle.penne.specs.Tree.{Spot, Ident, Poison, Maybe, ok, err, Ty, plain, array, array_with_named_length, arraylike, struct, word, unresolved, nameless, pointer, view}
use Rattle.penne.specs.Read.{ident, read_ty, ty_of, TyKind, ty_kinds, k_plain, k_array, k_named_length, k_arraylike, k_struct, k_word, k_unresolved, k_nameless, k_pointer, k_view}
use Rattle.penne.specs.Write.{num_b, ident_b, poison_b, ty_b}
use Rattle.penne.specs.State as S
use Rattle.penne.specs.Scopes.{Analyzer, Pass, use_constant, use_struct}
use Rattle.penne.specs.Variables.{analyze_type}
use Rattle.penne.proofs.IdsPass.{still_type, still_constant}
use Rattle.fields.specs.Answers.{cursor, number_of, Gives}
use Rattle.std.proofs.lemmas.List.{get_or_past}
use Rattle.nodes.proofs.Types.{run}
use Rattle.answer.specs.declared.wrote.Wrote.{Wrote}
use Rattle.answer.specs.Out.{Put}
use Rattle.walk.specs.declared.state.Walk.{Walk}
use Rattle.walk.specs.declared.fault.Fault.{Fault}
use Rattle.walk.specs.Walking.{with_wrote, here, Ground, Is, say, Leads, Walks, fault_b, ok_b, Answers, fine, bad, Tried, Tries}
use Rattle.walk.proofs.Leading.{never, same_value, same_cur, tries, leads_such, leads_deep, leads_got, leads_call, leads_tried, told_fine, told_bad, is_same}
use Rattle.walk.proofs.Writing.{wrote, out_is, rewound}
use Rattle.types.specs.Typing.{say_number, passing, element_b, named_b}
use Rattle.types.proofs.Trying.{by, Extends, try_ret, answers_by, afterwards, tries_by, tries_fine, tries_bad}

-- ITS KIND

module _ (own : Bool) {t : List ℕ} {P : Ty Spot → Cur → Type 0} {names at : ℕ} {k : Counts} {m : Result (ℕ × ℕ) Refusal} (g : Gives (below 26) t at m) where
  pub type_unread : (left : ℕ) {x : Refusal} → m ≡ Err x → Leads (read_ty left own) t (cursor at names k) P
  unfolding read_ty
  type_unread zero e = leads_deep (below 26)
  type_unread (suc l) e = leads_such (below 26) _ 9 _ λ y d h _. never (sym (g.is names k ∙ ap (number_of names k) e) ∙ h)

  pub type_deep : (left : ℕ) → left ≡ 0 → Leads (read_ty left own) t (cursor at names k) P
  unfolding read_ty
  type_deep zero z = leads_deep (below 26)
  type_deep (suc l) z = absurd (omega arith)

  pub type_in : (left : ℕ) {v n : ℕ} → (left ≡ 0 → ⊥) → m ≡ Ok (v, n) → Leads (ty_of (read_ty (left - 1) own) (read_ty (left - 1) false) v (get_or ty_kinds v k_plain)) t (cursor n names k) P → Leads (read_ty left own) t (cursor at names k) P
  unfolding read_ty
  type_in zero z e h = absurd (z refl)
  type_in (suc l) {v} {n} z e h =
      let q : suc l - 1 ≡ l = omega arith in
      leads_such (below 26) _ 9 _ λ y d j _.
      let u = sym (g.is names k ∙ ap (number_of names k) e) ∙ j in
      subst (λ (x : ℕ). Leads (ty_of (read_ty l own) (read_ty l false) x (get_or ty_kinds x k_plain)) t d P) (same_value u) (subst (λ (c : Cur). Leads (ty_of (read_ty l own) (read_ty l false) v (get_or ty_kinds v k_plain)) t c P) (same_cur u)
      (subst (λ (x : ℕ). Leads (ty_of (read_ty x own) (read_ty x false) v (get_or ty_kinds v k_plain)) t (cursor n names k) P) q h))

-- WHAT THE PASS MAKES OF ITS PARTS

array_pass : (x : Ty Spot) (n : ℕ) (s : Analyzer Spot) → analyze_type (array x n) s ≡ (by (λ y. array y n) (analyze_type x s).0, (analyze_type x s).1)
unfolding analyze_type
array_pass x n s = try_ret (analyze_type x) (λ y. array y n) s

arraylike_pass : (k : ℕ) (x : Ty Spot) (s : Analyzer Spot) → analyze_type (arraylike k x) s ≡ (by (arraylike k) (analyze_type x s).0, (analyze_type x s).1)
unfolding analyze_type
arraylike_pass k x s = try_ret (analyze_type x) (arraylike k) s

pointer_pass : (x : Ty Spot) (s : Analyzer Spot) → analyze_type (pointer x) s ≡ (by pointer (analyze_type x s).0, (analyze_type x s).1)
unfolding analyze_type
pointer_pass x s = try_ret (analyze_type x) pointer s

view_pass : (x : Ty Spot) (s : Analyzer Spot) → analyze_type (view x) s ≡ (by view (analyze_type x s).0, (analyze_type x s).1)
unfolding analyze_type
view_pass x s = try_ret (analyze_type x) view s

struct_pass : (i : Ident Spot) (s : Analyzer Spot) → analyze_type (struct i) s ≡ (by struct (use_struct i s).0, (use_struct i s).1)
unfolding analyze_type
struct_pass i s = try_ret (use_struct i) struct s

unresolved_pass : (i : Ident Spot) (s : Analyzer Spot) → analyze_type (unresolved i) s ≡ (by unresolved (use_struct i s).0, (use_struct i s).1)
unfolding analyze_type
unresolved_pass i s = try_ret (use_struct i) unresolved s

word_pass : (i : Ident Spot) (n : ℕ) (s : Analyzer Spot) → analyze_type (word i n) s ≡ (by (λ j. word j n) (use_struct i s).0, (use_struct i s).1)
unfolding analyze_type
word_pass i n s = try_ret (use_struct i) (λ j. word j n) s

-- ONE PART

module _ (a b : Reader (Ty Spot)) {t : List ℕ} {s : Walk} {o l w : List ℕ} {r : Walk} {f : Option Fault} {o' l' w' : List ℕ} where
  as_kind : (k : ℕ) (x : TyKind) → get_or ty_kinds k k_plain ≡ x → Tries t (ty_of a b k x) analyze_type ty_b s o l w r f o' l' w' → Tries t (ty_of a b k (get_or ty_kinds k k_plain)) analyze_type ty_b s o l w r f o' l' w'
  as_kind k x e h = subst (λ (y : TyKind). Tries t (ty_of a b k y) analyze_type ty_b s o l w r f o' l' w') (sym e) h

  pub type_array : (k : ℕ) → k ≡ 14 → Tries t (ty_of a b 14 k_array) analyze_type ty_b s o l w r f o' l' w' → Tries t (ty_of a b k (get_or ty_kinds k k_plain)) analyze_type ty_b s o l w r f o' l' w'
  unfolding ty_kinds ty_of
  type_array k e h = rw e h

  pub type_named : (k : ℕ) → k ≡ 15 → Tries t (ty_of a b 15 k_named_length) analyze_type ty_b s o l w r f o' l' w' → Tries t (ty_of a b k (get_or ty_kinds k k_plain)) analyze_type ty_b s o l w r f o' l' w'
  unfolding ty_kinds ty_of
  type_named k e h = rw e h

  pub type_word : (k : ℕ) → k ≡ 21 → Tries t (ty_of a b 21 k_word) analyze_type ty_b s o l w r f o' l' w' → Tries t (ty_of a b k (get_or ty_kinds k k_plain)) analyze_type ty_b s o l w r f o' l' w'
  unfolding ty_kinds ty_of
  type_word k e h = rw e h

  arraylike_go : (k : ℕ) → 16 ≤ k → k < 20 → Tries t a analyze_type (element_b k) s o l w r f o' l' w' → Tries t (ty_of a b k (get_or ty_kinds k k_plain)) analyze_type ty_b s o l w r f o' l' w'
  unfolding ty_kinds ty_of ty_b
  arraylike_go k lo hi h = as_kind k k_arraylike (run ty_kinds 16 4 k_arraylike k_plain refl k lo hi) (tries_by (record { same = arraylike_pass k; bytes = λ y. refl }) h)

  pub type_structure : (k : ℕ) → (k ≡ 20) ⊎ (k ≡ 22) → Tries t ident use_struct (named_b k) s o l w r f o' l' w' → Tries t (ty_of a b k (get_or ty_kinds k k_plain)) analyze_type ty_b s o l w r f o' l' w'
  unfolding ty_kinds ty_of ty_b
  type_structure k (inl e) h = as_kind k k_struct (rw e) (tries_by (record { same = struct_pass; bytes = λ y. rw e }) h)
  type_structure k (inr e) h = as_kind k k_unresolved (rw e) (tries_by (record { same = unresolved_pass; bytes = λ y. rw e }) h)

  pointer_go : (k : ℕ) → k ≡ 24 → Tries t b analyze_type (element_b k) s o l w r f o' l' w' → Tries t (ty_of a b k (get_or ty_kinds k k_plain)) analyze_type ty_b s o l w r f o' l' w'
  unfolding ty_kinds ty_of ty_b
  pointer_go k e h = as_kind k k_pointer (rw e) (tries_by (record { same = pointer_pass; bytes = λ y. rw e }) h)

  view_go : (k : ℕ) → k ≡ 25 → Tries t b analyze_type (element_b k) s o l w r f o' l' w' → Tries t (ty_of a b k (get_or ty_kinds k k_plain)) analyze_type ty_b s o l w r f o' l' w'
  unfolding ty_kinds ty_of ty_b
  view_go k e h = as_kind k k_view (rw e) (tries_by (record { same = view_pass; bytes = λ y. rw e }) h)

  behind_go : (k : ℕ) → 24 ≤ k → k < 26 → Tries t b analyze_type (element_b k) s o l w r f o' l' w' → Tries t (ty_of a b k (get_or ty_kinds k k_plain)) analyze_type ty_b s o l w r f o' l' w'
  behind_go k lo hi h = (elim (eqb k 24) as (λ z. eqb k 24 ≡ z → Tries t (ty_of a b k (get_or ty_kinds k k_plain)) analyze_type ty_b s o l w r f o' l' w') [
    | true ↦ λ z. pointer_go k (eqb-true k 24 z) h
    | false ↦ λ z. let y : k ≡ 24 → ⊥ = eqb-false k 24 z in view_go k (omega arith) h
  ]) refl

  -- the element of an arraylike type (16 to 19), which a reads; of a pointer or view (24, 25), which b reads
  pub type_element : (k : ℕ) → 16 ≤ k → k < 26 → (k < 20) ⊎ (24 ≤ k) → Tries t a analyze_type (element_b k) s o l w r f o' l' w' → Tries t b analyze_type (element_b k) s o l w r f o' l' w'
      → Tries t (ty_of a b k (get_or ty_kinds k k_plain)) analyze_type ty_b s o l w r f o' l' w'
  type_element k lo hi (inl h) x y = arraylike_go k lo h x
  type_element k lo hi (inr h) x y = behind_go k h hi y

-- NOTHING BEHIND IT

plain_tried : (x : Ty Spot) (k : ℕ) (a : Ground) {r : Walk} {o l w : List ℕ} {d : Cur} → d ≡ here r → ((s : Analyzer Spot) → analyze_type x s ≡ (ok x, s)) → ty_b x ≡ num_b k → Is r o l w (say (num_b k) a) → Tried analyze_type ty_b x d a r none o l w
unfolding ok_b
plain_tried x k a c p e i =
    let q = sym (p a.st) in
    record {
      did = record { cur = c; is = is_same (λ _. ap (λ (xs : List ℕ). record { out = a.out ++ xs; st = a.st; rest = a.rest }) (sym e) ∙ ap (afterwards ty_b a) q) i };
      told = λ _. subst (λ (v : Maybe Spot (Ty Spot) × Analyzer Spot). Answers none v.0) q fine;
    }

module _ (a b : Reader (Ty Spot)) {t : List ℕ} {s : Walk} {o l w : List ℕ} {r : Walk} {o' l' w' : List ℕ} (k : ℕ) (v : Walks t (ret k) say_number s o l w r o' l' w') where
  plain_go : (x : Ty Spot) → ((u : Analyzer Spot) → analyze_type x u ≡ (ok x, u)) → ty_b x ≡ num_b k → Tries t (ret x) analyze_type ty_b s o l w r none o' l' w'
  unfolding ret
  plain_go x p e = tries λ j g i. let z = (v.does j g i).to k (here s) refl in leads_got x (plain_tried x k g z.cur p e z.is)

  nameless_go : k ≡ 23 → Tries t (ty_of a b k (get_or ty_kinds k k_plain)) analyze_type ty_b s o l w r none o' l' w'
  unfolding ty_kinds ty_of ty_b analyze_type S.ret
  nameless_go e = as_kind a b k k_nameless (rw e) (plain_go nameless (λ u. refl) (rw e))

  simple_go : get_or ty_kinds k k_plain ≡ k_plain → Tries t (ty_of a b k (get_or ty_kinds k k_plain)) analyze_type ty_b s o l w r none o' l' w'
  unfolding ty_of ty_b analyze_type S.ret
  simple_go e = as_kind a b k k_plain e (plain_go (plain k) (λ u. refl) refl)

  -- the kinds 0 to 13
  pub type_simple : k < 14 → Tries t (ty_of a b k (get_or ty_kinds k k_plain)) analyze_type ty_b s o l w r none o' l' w'
  unfolding ty_kinds
  type_simple h = simple_go (run ty_kinds 0 14 k_plain k_plain refl k (omega arith) (omega arith))

  -- kind 23; there is none from 26 on
  pub type_nameless : (k ≡ 23) ⊎ (26 ≤ k) → Tries t (ty_of a b k (get_or ty_kinds k k_plain)) analyze_type ty_b s o l w r none o' l' w'
  unfolding ty_kinds
  type_nameless (inl e) = nameless_go e
  type_nameless (inr h) = simple_go (get_or_past ty_kinds k k_plain h)

-- AN ELEMENT AND ITS LENGTH, A WORD AND ITS SIZE

array_how : Extends array (λ n y. array y n) num_b analyze_type analyze_type (element_b 14) ty_b
unfolding ty_b
array_how = record { same = array_pass; bytes = λ n y. append_assoc (num_b 14) (ty_b y) (num_b n) }

word_how : Extends word (λ n j. word j n) num_b use_struct analyze_type (named_b 21) ty_b
unfolding ty_b
word_how = record { same = word_pass; bytes = λ n j. append_assoc (num_b 21) (ident_b j) (num_b n) }

module _ (m b : Reader (Ty Spot)) {t : List ℕ} {s : Walk} {o l w : List ℕ} {s₁ : Walk} {o₁ l₁ w₁ : List ℕ} {r : Walk} {o₂ l₂ w₂ : List ℕ} where
  pub array_fine : Tries t m analyze_type (element_b 14) s o l w s₁ none o₁ l₁ w₁ → Walks t num say_number s₁ o₁ l₁ w₁ r o₂ l₂ w₂ → Tries t (ty_of m b 14 k_array) analyze_type ty_b s o l w r none o₂ l₂ w₂
  unfolding ty_of
  array_fine k v = tries_fine array_how k v

  pub array_bad : {f : Fault} → Tries t m analyze_type (element_b 14) s o l w s₁ (some f) o₁ l₁ w₁ → Walks t num passing s₁ o₁ l₁ w₁ r o₂ l₂ w₂ → Tries t (ty_of m b 14 k_array) analyze_type ty_b s o l w r (some f) o₂ l₂ w₂
  unfolding ty_of
  array_bad k v = tries_bad array_how k v

  pub word_fine : Tries t ident use_struct (named_b 21) s o l w s₁ none o₁ l₁ w₁ → Walks t num say_number s₁ o₁ l₁ w₁ r o₂ l₂ w₂ → Tries t (ty_of m b 21 k_word) analyze_type ty_b s o l w r none o₂ l₂ w₂
  unfolding ty_of
  word_fine k v = tries_fine word_how k v

  pub word_bad : {f : Fault} → Tries t ident use_struct (named_b 21) s o l w s₁ (some f) o₁ l₁ w₁ → Walks t num passing s₁ o₁ l₁ w₁ r o₂ l₂ w₂ → Tries t (ty_of m b 21 k_word) analyze_type ty_b s o l w r (some f) o₂ l₂ w₂
  unfolding ty_of
  word_bad k v = tries_bad word_how k v

-- NO ID IS TAKEN

pub type_ids : (x : Ty Spot) (s : Analyzer Spot) → (analyze_type x s).1.resolution_id ≡ s.resolution_id
type_ids x s = let k = (still_type x s).takes in omega (arith, k.lower, k.upper)

constant_ids : (i : Ident Spot) (s : Analyzer Spot) → (use_constant i s).1.resolution_id ≡ s.resolution_id
constant_ids i s = let k = (still_constant i s).takes in omega (arith, k.lower, k.upper)

-- BEHIND ITS KIND

-- a kind and what is written of its element
fine_element : (k : ℕ) (xs : List ℕ) {y : Maybe Spot (Ty Spot)} → Answers none y → (xs ++ num_b k) ++ ok_b ty_b y ≡ xs ++ ok_b (element_b k) y
unfolding ok_b
fine_element k xs (fine {x = y}) = append_assoc xs (num_b k) (ty_b y)

bad_element : (e : Ty Spot → List ℕ) (xs : List ℕ) {f : Fault} {y : Maybe Spot (Ty Spot)} → Answers (some f) y → xs ≡ xs ++ ok_b e y
unfolding ok_b
bad_element e xs (bad q) = sym (append-nil xs)

module _ (k : ℕ) {t : List ℕ} {m : Reader (Ty Spot)} {s : Walk} {o l w : List ℕ} {v : Wrote} {o₁ : List ℕ} (put : Put s.wrote (num_b k) o v o₁) {r : Walk} {o₂ l₂ w₂ : List ℕ} where
  pub element_fine : Tries t m analyze_type ty_b (with_wrote s v) o₁ l w r none o₂ l₂ w₂ → Tries t m analyze_type (element_b k) s o l w r none o₂ l₂ w₂
  element_fine y = tries λ j a i. record {
    to = λ x d h.
        let z = (y.does j (say (num_b k) a) (wrote i put)).to x d h in
        record {
          did = record {
            cur = z.did.cur;
            is = is_same (λ g. ap (λ (xs : List ℕ). record { out = xs; st = (analyze_type x a.st).1; rest = a.rest }) (fine_element k a.out (z.told (record { few = g.few; fit = g.fit })))) z.did.is;
          };
          told = λ g. z.told (record { few = g.few; fit = g.fit });
        };
  }

  pub element_bad : {f : Fault} → Tries t m analyze_type ty_b (with_wrote s v) o₁ l w r (some f) o₂ l₂ w₂ → Tries t m analyze_type (element_b k) s o l w (with_wrote r s.wrote) (some f) o₂ l₂ w₂
  element_bad y = tries λ j a i. record {
    to = λ x d h.
        let z = (y.does j (say (num_b k) a) (wrote i put)).to x d h in
        record {
          did = record {
            cur = z.did.cur;
            is = is_same (λ g. ap (λ (xs : List ℕ). record { out = xs; st = (analyze_type x a.st).1; rest = a.rest }) (bad_element (element_b k) a.out (z.told (record { few = g.few; fit = g.fit }))))
                (rewound i (num_b k ++ ok_b ty_b (analyze_type x a.st).0) (omega (arith, type_ids x a.st)) (out_is z.did.is (append_assoc a.out (num_b k) _)));
          };
          told = λ g. z.told (record { few = g.few; fit = g.fit });
        };
  }

-- AN ELEMENT AND ITS NAMED LENGTH

try_ok : {A B : Type 0} (m : Pass Spot (Maybe Spot A)) (f : A → Pass Spot (Maybe Spot B)) (s : Analyzer Spot) {x : A} → (m s).0 ≡ ok x → (S.◌>>?◌ m f) s ≡ f x (m s).1
unfolding S.◌>>?◌ S.◌>>=◌ S.or_poison
try_ok m f s e = ap (λ (y : Maybe Spot _). S.or_poison f y (m s).1) e

try_err : {A B : Type 0} (m : Pass Spot (Maybe Spot A)) (f : A → Pass Spot (Maybe Spot B)) (s : Analyzer Spot) {z : Poison Spot} → (m s).0 ≡ err z → (S.◌>>?◌ m f) s ≡ (err z, (m s).1)
unfolding S.◌>>?◌ S.◌>>=◌ S.or_poison S.ret
try_err m f s e = ap (λ (y : Maybe Spot _). S.or_poison f y (m s).1) e

module _ (x : Ty Spot) (i : Ident Spot) (s : Analyzer Spot) where
  named_ok : {y : Ty Spot} → (analyze_type x s).0 ≡ ok y → analyze_type (array_with_named_length x i) s ≡ (by (array_with_named_length y) (use_constant i (analyze_type x s).1).0, (use_constant i (analyze_type x s).1).1)
  unfolding analyze_type
  named_ok {y} e = try_ok (analyze_type x) _ s e ∙ try_ret (use_constant i) (array_with_named_length y) (analyze_type x s).1

  named_err : {z : Poison Spot} → (analyze_type x s).0 ≡ err z → analyze_type (array_with_named_length x i) s ≡ (err z, (analyze_type x s).1)
  unfolding analyze_type
  named_err e = try_err (analyze_type x) _ s e

  -- after the whole as many ids are taken as after the element, and after the length
  named_ids : ((analyze_type (array_with_named_length x i) s).1.resolution_id ≡ (analyze_type x s).1.resolution_id) × ((analyze_type (array_with_named_length x i) s).1.resolution_id ≡ (use_constant i (analyze_type x s).1).1.resolution_id)
  named_ids =
      let a = type_ids x s in
      let b = type_ids (array_with_named_length x i) s in
      let c = constant_ids i (analyze_type x s).1 in
      (omega arith, omega arith)

named_bytes : (xs : List ℕ) {u : Maybe Spot (Ty Spot)} {y : Ty Spot} {v : Maybe Spot (Ident Spot)} → u ≡ ok y → Answers none v → (xs ++ ok_b (element_b 15) u) ++ ok_b ident_b v ≡ xs ++ ok_b ty_b (by (array_with_named_length y) v)
unfolding ok_b by ty_b
named_bytes xs {y = y} e (fine {x = i}) =
    ap (λ (z : Maybe Spot (Ty Spot)). (xs ++ ok_b (element_b 15) z) ++ ident_b i) e ∙ append_assoc xs (num_b 15 ++ ty_b y) (ident_b i) ∙ ap (λ (ys : List ℕ). xs ++ ys) (append_assoc (num_b 15) (ty_b y) (ident_b i))

dropped_bytes : (xs : List ℕ) (y : Ty Spot) {f : Fault} {v : Maybe Spot (Ident Spot)} → Answers (some f) v → xs ≡ xs ++ ok_b ty_b (by (array_with_named_length y) v)
unfolding ok_b by
dropped_bytes xs y (bad q) = sym (append-nil xs)

module _ (m b : Reader (Ty Spot)) {t : List ℕ} {s : Walk} {o l w : List ℕ} {s₁ : Walk} {o₁ l₁ w₁ : List ℕ} {r : Walk} {o₂ l₂ w₂ : List ℕ} where
  pub named_fine : Tries t m analyze_type (element_b 15) s o l w s₁ none o₁ l₁ w₁ → Tries t ident use_constant ident_b s₁ o₁ l₁ w₁ r none o₂ l₂ w₂ → Tries t (ty_of m b 15 k_named_length) analyze_type ty_b s o l w r none o₂ l₂ w₂
  unfolding ty_of
  named_fine k v = tries λ j a i. leads_tried _ k j i λ x _ i₁ first. leads_tried _ v j i₁ λ n _ i₂ second.
      let ids = named_ids x n a.st in
      let c = use_constant n (analyze_type x a.st).1 in
      let known : (analyze_type (array_with_named_length x n) a.st).1.resolution_id ≤ 4294967295 → a.rest.fit ≡ true → (y : Ty Spot) × ((analyze_type x a.st).0 ≡ ok y) × Answers none c.0 = λ few fit.
      let y = told_fine (first (record { few = omega (arith, few, ids.0); fit = fit })) refl in
      (y.0, y.1, second (record { few = omega (arith, few, ids.1); fit = fit })) in
      leads_got (array_with_named_length x n) (record {
        did = record {
          cur = refl;
          is = is_same (λ z. let y = known z.few z.fit in ap (λ (xs : List ℕ). record { out = xs; st = c.1; rest = a.rest }) (named_bytes a.out y.1 y.2) ∙ ap (afterwards ty_b a) (sym (named_ok x n a.st y.1))) i₂;
        };
        told = λ z. let y = known z.few z.fit in subst (λ (u : Maybe Spot (Ty Spot) × Analyzer Spot). Answers none u.0) (sym (named_ok x n a.st y.1)) (answers_by (array_with_named_length y.0) y.2);
      })

  -- the length is refused: the element is dropped
  pub named_late : {f : Fault} → Tries t m analyze_type (element_b 15) s o l w s₁ none o₁ l₁ w₁ → Tries t ident use_constant ident_b s₁ o₁ l₁ w₁ r (some f) o₂ l₂ w₂ → Tries t (ty_of m b 15 k_named_length) analyze_type ty_b s o l w (with_wrote r s.wrote) (some f) o₂ l₂ w₂
  unfolding ty_of
  named_late {f} k v = tries λ j a i. leads_tried _ k j i λ x _ i₁ first. leads_tried _ v j i₁ λ n _ i₂ second.
      let ids = named_ids x n a.st in
      let whole = type_ids (array_with_named_length x n) a.st in
      let c = use_constant n (analyze_type x a.st).1 in
      let known : (analyze_type (array_with_named_length x n) a.st).1.resolution_id ≤ 4294967295 → a.rest.fit ≡ true → (y : Ty Spot) × ((analyze_type x a.st).0 ≡ ok y) × Answers (some f) c.0 = λ few fit.
      let y = told_fine (first (record { few = omega (arith, few, ids.0); fit = fit })) refl in
      (y.0, y.1, second (record { few = omega (arith, few, ids.1); fit = fit })) in
      leads_got (array_with_named_length x n) (record {
        did = record {
          cur = refl;
          is = is_same (λ z. let y = known z.few z.fit in ap (λ (xs : List ℕ). record { out = xs; st = c.1; rest = a.rest }) (dropped_bytes a.out y.0 y.2) ∙ ap (afterwards ty_b a) (sym (named_ok x n a.st y.1)))
              (rewound i (ok_b (element_b 15) (analyze_type x a.st).0 ++ ok_b ident_b c.0) (omega (arith, ids.1, whole)) (out_is i₂ (append_assoc a.out _ _)));
        };
        told = λ z. let y = known z.few z.fit in subst (λ (u : Maybe Spot (Ty Spot) × Analyzer Spot). Answers (some f) u.0) (sym (named_ok x n a.st y.1)) (answers_by (array_with_named_length y.0) y.2);
      })

  -- the element is refused: the length is passed over
  pub named_bad : {f : Fault} → Tries t m analyze_type (element_b 15) s o l w s₁ (some f) o₁ l₁ w₁ → Walks t ident passing s₁ o₁ l₁ w₁ r o₂ l₂ w₂ → Tries t (ty_of m b 15 k_named_length) analyze_type ty_b s o l w r (some f) o₂ l₂ w₂
  unfolding ty_of ok_b
  named_bad {f} k v = tries λ j a i. leads_tried _ k j i λ x _ i₁ first. leads_call _ v j i₁ λ n _ i₂.
      let ids = named_ids x n a.st in
      let known : (analyze_type (array_with_named_length x n) a.st).1.resolution_id ≤ 4294967295 → a.rest.fit ≡ true → (z : Poison Spot) × ((analyze_type x a.st).0 ≡ err z) × (fault_b f ≡ poison_b z) = λ few fit.
      told_bad (first (record { few = omega (arith, few, ids.0); fit = fit })) refl in
      leads_got (array_with_named_length x n) (record {
        did = record {
          cur = refl;
          is = is_same (λ z. let y = known z.few z.fit in ap (λ (u : Maybe Spot (Ty Spot)). record { out = a.out ++ ok_b (element_b 15) u; st = (analyze_type x a.st).1; rest = a.rest }) y.1 ∙ ap (afterwards ty_b a) (sym (named_err x n a.st y.1))) i₂;
        };
        told = λ z. let y = known z.few z.fit in subst (λ (u : Maybe Spot (Ty Spot) × Analyzer Spot). Answers (some f) u.0) (sym (named_err x n a.st y.1)) (bad y.2);
      })

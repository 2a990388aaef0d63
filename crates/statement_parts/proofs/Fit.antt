-- The words and the Boolean that they fit, through the parts of a statement.
use mathlib.Core.Path.{◌≡◌, refl, sym, ap, ◌∙◌}
use mathlib.Core.Bool.{Bool, true, false, ◌&&◌}
use mathlib.Core.List.{List, append_assoc, append-nil}
use Prim.Native.Nat.{ℕ}
use native.Mathlib.Omega.{arith}
use Rattle.std.specs.Prelude.{Result, Err}
use Rattle.fields.specs.declared.field.Identifier.{Identifier}
use Rattle.fields.specs.declared.refusal.Refusal.{Refusal}
use Rattle.penne.specs.Reader.{Reader, ◌>>=◌, num}
use Rattle.penne.specs.Tree.{Spot, Ident, stmt, Stm, StmSort}
use Rattle.penne.specs.Read.{place, ident, to_stms}
use Rattle.penne.specs.Write.{stm_b}
use Rattle.penne.specs.State as S
use Rattle.penne.specs.Scopes.{Analyzer}
use Rattle.penne.specs.Variables.{analyze_stm}
use Rattle.penne.proofs.IdsPass.{grown_stm}
use Rattle.penne.proofs.Booleans.{and-true as and_yes}
use Rattle.fields.specs.Answers.{Gives, Identifies}
use Rattle.label_references.specs.Marked.{marked}
use Rattle.containers.proofs.Lists.{and_true}
use Rattle.walk.specs.Walking.{Rest, Ground, Good, Is}
use Rattle.walk.proofs.Leading.{Listed, leads_unidentified, leads_unplace}
use Rattle.walk.specs.declared.state.Walk.{Walk}
use Rattle.walk.proofs.Writing.{counted}
use Rattle.statement_parts.specs.Stating.{is_free, fits, leaving, stm_walk, behind, Follows}
use Rattle.statement_parts.proofs.Free.{free_same, within_stm}

-- grounds that are put together otherwise
pub ground_same : {xs ys : List ℕ} {st : Analyzer Spot} {m n : Rest} → xs ≡ ys → m ≡ n → ◌≡◌ {A = Ground} (record { out = xs; st = st; rest = m }) (record { out = ys; st = st; rest = n })
ground_same {xs} {st = st} {n = n} e f = ap (λ (r : Rest). record { out = xs; st = st; rest = r }) f ∙ ap (λ (l : List ℕ). record { out = l; st = st; rest = n }) e

and_assoc : (a b c : Bool) → (a && b) && c ≡ a && (b && c)
and_assoc true b c = refl
and_assoc false b c = refl

-- nothing is walked
pub leaving_same : (m : Rest) → m ≡ leaving m.words true m
unfolding leaving
leaving_same m = ap (λ (f : Bool). record { words = m.words; labels = m.labels; fit = f; containers = m.containers; functions = m.functions; names = m.names; room = m.room; slots = m.slots; script = m.script }) (sym (and_yes m.fit))

-- one after the other
pub leaving_twice : (os os' : List ℕ) (b c : Bool) (m : Rest) → leaving os' c (leaving os b m) ≡ leaving os' (b && c) m
unfolding leaving
leaving_twice os os' b c m = ap (λ (f : Bool). record { words = os'; labels = m.labels; fit = f; containers = m.containers; functions = m.functions; names = m.names; room = m.room; slots = m.slots; script = m.script }) (and_assoc m.fit b c)

-- a statement behind another, where nothing is analysed between but expressions
pub fits_next : {s : StmSort} (all : List (Ident Spot)) (u v : Analyzer Spot) (t : Stm Spot s) (os : List ℕ) → is_free v ≡ is_free u → fits all (is_free v) t os ≡ fits all (is_free u) t os
fits_next all u v t os e = ap (λ (b : Bool). fits all b t os) e

-- A LIST OF STATEMENTS

pub cons_rest : {s₁ s₂ : StmSort} (x : Stm Spot s₁) (xs : Stm Spot s₂) (a : Ground) →
    let os₁ : List ℕ = (marked a.rest.labels x a.rest.words).1 in
    let st₁ : Analyzer Spot = (analyze_stm (marked a.rest.labels x a.rest.words).0 a.st).1 in
    let os₂ : List ℕ = (marked a.rest.labels xs os₁).1 in
    leaving os₂ (fits a.rest.labels (is_free st₁) xs os₁) (leaving os₁ (fits a.rest.labels (is_free a.st) x a.rest.words) a.rest)
    ≡ leaving os₂ (fits a.rest.labels (is_free a.st) x a.rest.words && fits a.rest.labels (is_free a.st) xs os₁) a.rest
cons_rest x xs a =
    let all = a.rest.labels in
    let t = marked all x a.rest.words in
    leaving_twice t.1 _ (fits all (is_free a.st) x a.rest.words) _ a.rest
    ∙ ap (λ (b : Bool). leaving (marked all xs t.1).1 (fits all (is_free a.st) x a.rest.words && b) a.rest) (fits_next all _ _ xs t.1 (free_same (within_stm t.0 a.st)))

pub stms_listed : Listed (λ x a. stm_walk stm_b x a) (λ xs a. stm_walk stm_b (to_stms xs) a)
unfolding stm_walk to_stms marked fits analyze_stm stm_b leaving S.◌>>=◌ S.ret
stms_listed = record { nil_is = λ a. ground_same (sym (append-nil a.out)) (leaving_same a.rest); cons_is = λ x xs a. ground_same (append_assoc a.out _ _) (cons_rest x (to_stms xs) a) }

-- WHAT HOLDS WHERE A STATEMENT IS DONE WITH HELD BEFORE IT

pub good_before : {s : StmSort} (e : Stm Spot s → List ℕ) (x : Stm Spot s) (a : Ground) → Good (stm_walk e x a) → Good a
unfolding stm_walk leaving
good_before e x a z = record { few = omega (arith, z.few, (grown_stm (marked a.rest.labels x a.rest.words).0 a.st).takes.lower); fit = (and_true _ _ z.fit).0 }

pub good_behind : (a : Ground) → Good a → Good (behind a)
unfolding behind leaving
good_behind a z = record { few = z.few; fit = and_yes a.rest.fit ∙ z.fit }

pub good_unbehind : (a : Ground) → Good (behind a) → Good a
unfolding behind leaving
good_unbehind a z = record { few = z.few; fit = sym (and_yes a.rest.fit) ∙ z.fit }

-- more has to fit
pub fitting : {s : Walk} {o l w : List ℕ} {a : Ground} (b : Bool) → Is s o l w a → Is s o l w (record { out = a.out; st = a.st; rest = leaving a.rest.words b a.rest })
unfolding leaving
fitting {s} {a = a} b i = counted i {k = s.counts} (leaving a.rest.words b a.rest) (omega arith) refl refl refl (λ f. (and_true _ _ f).0) (λ f m. record { told = m.told; named = m.named; labels = m.labels; containers = m.containers; functions = m.functions; main = m.main })

-- A STATEMENT THAT CAN NOT BE READ

module _ {P : Ground → Type 0} {t : List ℕ} {s : Walk} {o l w : List ℕ} {r : Walk} {o' l' w' : List ℕ} where
  -- its place
  pub unplaced : (f : Spot → Reader (Stm Spot stmt)) {m₁ : Result (ℕ × ℕ) Refusal} {x : Refusal} → Gives num t s.at m₁ → m₁ ≡ Err x → Follows P t (place >>= f) s o l w r o' l' w'
  unplaced f g e = record { does = λ h a p i. leads_unplace f g e }

  -- its name
  pub unnamed : (f : Ident Spot → Reader (Stm Spot stmt)) {r₁ : Result (Identifier × ℕ) Refusal} {x : Refusal} → Identifies t s.script.names s.at r₁ → r₁ ≡ Err x → Follows P t (ident >>= f) s o l w r o' l' w'
  unnamed f g e = record { does = λ h a p i. leads_unidentified f g e }

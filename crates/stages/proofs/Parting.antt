-- What stands before a declaration's parts, along the decoder.
use mathlib.Core.Path.{◌≡◌, refl, ap, subst}
use mathlib.Core.List.{List, ◌++◌}
use Prim.Native.Nat.{ℕ, zero, suc, ◌<◌}
use native.Mathlib.Omega.{arith}
use lib.ListN.{get_or}
use Rattle.std.specs.Prelude.{Result, Ok, Err}
use Rattle.fields.specs.declared.refusal.Refusal.{Refusal}
use Rattle.penne.specs.Reader.{Counts, Cur, got, Reader, ◌>>=◌, ret, num, below}
use Rattle.penne.specs.Tree.{Spot, Ident, Decl}
use Rattle.penne.specs.Read.{place, ident, decl_of, decl_kinds, k_bad_decl, read_constant, read_function, read_function_head, read_structure}
use Rattle.penne.specs.Write.{place_b}
use Rattle.fields.specs.declared.field.Identifier.{Identifier}
use Rattle.fields.specs.Answers.{cursor, Gives, Skips, Identifies, two_places}
use Rattle.fields.proofs.Chain.{after, reads, ended, ends_number}
use Rattle.fields.proofs.Back.{forget_got, forget_refused}
use Rattle.answer.specs.Parts.{renumbered}
use Rattle.walk.specs.Walking.{Leads}
use Rattle.walk.proofs.Leading.{leads_when, leads_never, leads_read, leads_unread, leads_places, leads_unplaces, leads_identified, leads_unidentified}
use Rattle.walk.proofs.Copying.{spells_is, spells_num, spelled_places}
use Rattle.stages.specs.declared.heads.Start.{Start}
use Rattle.stages.specs.declared.heads.Head.{Head}
use Rattle.stages.specs.declared.heads.Head.TheVariants as H
use Rattle.stages.specs.Heads.{HeadPlaces, Begins, Heads, an_import, a_poison, named, unread, own}

-- THE PLACES

-- a number is passed over, or it is not there
passed : {t : List ℕ} {at : ℕ} (r : Result (ℕ × ℕ) Refusal) → Gives num t at r → Skips num t at (ended r)
passed r g = record { is = λ names k. (ends_number r (reads {names = names} g)).is k }

pub one_place : {t : List ℕ} {at kind : ℕ} {r : Result (ℕ × ℕ) Refusal} {v n : ℕ} → kind ≡ 3 → Gives num t at r → r ≡ Ok (v, n) → HeadPlaces t at kind (Ok n)
one_place {t} {at} {r = r} e g q = record { one = λ _. subst (λ (x : Result ℕ Refusal). Skips num t at x) (ap ended q) (passed r g); two = λ z. absurd (z e) }

pub no_place : {t : List ℕ} {at kind : ℕ} {r : Result (ℕ × ℕ) Refusal} {x : Refusal} → kind ≡ 3 → Gives num t at r → r ≡ Err x → HeadPlaces t at kind (Err x)
no_place {t} {at} {r = r} e g q = record { one = λ _. subst (λ (x : Result ℕ Refusal). Skips num t at x) (ap ended q) (passed r g); two = λ z. absurd (z e) }

pub two_places_lem : {t : List ℕ} {at kind : ℕ} {r : Result ℕ Refusal} → (kind ≡ 3 → ⊥) → Skips two_places t at r → HeadPlaces t at kind r
two_places_lem z g = record { one = λ e. absurd (z e); two = λ _. g }

-- THE FOUR KINDS THAT HAVE A NAME

pub four_kinds : (P : ℕ → Type 0) (kind : ℕ) → kind < 6 → (kind ≡ 4 → ⊥) → (kind ≡ 5 → ⊥) → P 0 → P 1 → P 2 → P 3 → P kind
four_kinds P zero h a b p q r s = p
four_kinds P (suc zero) h a b p q r s = q
four_kinds P (suc (suc zero)) h a b p q r s = r
four_kinds P (suc (suc (suc zero))) h a b p q r s = s
four_kinds P (suc (suc (suc (suc zero)))) h a b p q r s = absurd (a refl)
four_kinds P (suc (suc (suc (suc (suc zero))))) h a b p q r s = absurd (b refl)
four_kinds P (suc (suc (suc (suc (suc (suc k)))))) h a b p q r s = absurd (omega arith)

-- ALONG THE DECODER

-- a place, where only its end was told
module _ {A : Type 0} {P : A → Cur → Type 0} (f : Spot → Reader A) {t : List ℕ} {names at : ℕ} {c : Counts} where
  leads_past : {n : ℕ} → Skips num t at (Ok n) → ((v : ℕ) → num t (cursor at names c) ≡ got v (cursor n names c) → Leads (f (record { number = v; from = at })) t (cursor n names c) P) → Leads (place >>= f) t (cursor at names c) P
  unfolding place ◌>>=◌ ret
  leads_past g next =
      let z = forget_got (num t (cursor at names c)) _ (g.is names c) in
      leads_when place f (ap (after (λ x. ret (record { number = x; from = at })) t) z.1) (next z.0 z.1)

  leads_unpast : {x : Refusal} → Skips num t at (Err x) → Leads (place >>= f) t (cursor at names c) P
  unfolding place ◌>>=◌ ret
  leads_unpast g = leads_never place f (ap (after (λ x. ret (record { number = x; from = at })) t) (forget_refused (num t (cursor at names c)) _ _ (g.is names c)))

module _ {t : List ℕ} {names at kind : ℕ} {h : Start} (b : Begins t names at kind h) {c : Counts} {P : Decl Spot → Cur → Type 0} where
  -- "flags, 2p, identifier"
  pub leads_two : (F : ℕ → Spot → Spot → Ident Spot → Reader (Decl Spot)) → (kind ≡ 3 → ⊥) → ((p q : Spot) → renumbered t h.places h.from ≡ place_b p ++ place_b q → Leads (F h.flags p q (own h)) t (cursor h.parts names c) P)
      → Leads (below 32 >>= λ f. place >>= λ p. place >>= λ q. ident >>= λ i. F f p q i) t (cursor at names c) P
  leads_two F z next = leads_read _ (reads b.flags) refl (leads_places _ (b.places.two z) refl λ p q g. leads_identified _ b.identifier refl (next p q (spells_is (spelled_places.is t _ _ _ g))))

  -- "flags, p, identifier"
  pub leads_one : (F : ℕ → Spot → Ident Spot → Reader (Decl Spot)) → kind ≡ 3 → ((p : Spot) → renumbered t h.places h.from ≡ place_b p → Leads (F h.flags p (own h)) t (cursor h.parts names c) P)
      → Leads (below 32 >>= λ f. place >>= λ p. ident >>= λ i. F f p i) t (cursor at names c) P
  unfolding place_b
  leads_one F z next = leads_read _ (reads b.flags) refl (leads_past _ (b.places.one z) λ v g. leads_identified _ b.identifier refl (next _ (spells_is (spells_num t (cursor h.places names c) g))))

-- it can not be read
module _ {t : List ℕ} {names at kind : ℕ} (n₄ : kind ≡ 4 → ⊥) (n₅ : kind ≡ 5 → ⊥) {m₁ : Result (ℕ × ℕ) Refusal} (g : Gives (below 32) t at m₁) where
  pub head_unflagged : {x : Refusal} → m₁ ≡ Err x → Heads t names at kind (Err x)
  unfolding decl_of decl_kinds read_constant read_function read_function_head read_structure
  head_unflagged e = unread λ low k. four_kinds (λ j. Leads (decl_of 63 (get_or decl_kinds j k_bad_decl)) t (cursor at names k) (λ x d. ⊥)) kind low n₄ n₅ (leads_unread _ (reads g) e) (leads_unread _ (reads g) e) (leads_unread _ (reads g) e) (leads_unread _ (reads g) e)

  module _ {f n : ℕ} (e : m₁ ≡ Ok (f, n)) {m₂ : Result ℕ Refusal} (ps : HeadPlaces t n kind m₂) where
    pub head_unplaced : {x : Refusal} → m₂ ≡ Err x → Heads t names at kind (Err x)
    unfolding decl_of decl_kinds read_constant read_function read_function_head read_structure
    head_unplaced e₂ = unread λ low k. four_kinds (λ j. HeadPlaces t n j m₂ → Leads (decl_of 63 (get_or decl_kinds j k_bad_decl)) t (cursor at names k) (λ x d. ⊥)) kind low n₄ n₅
        (λ q. leads_read _ (reads g) e (leads_unplaces _ (q.two λ z. absurd (omega arith)) e₂)) (λ q. leads_read _ (reads g) e (leads_unplaces _ (q.two λ z. absurd (omega arith)) e₂))
        (λ q. leads_read _ (reads g) e (leads_unplaces _ (q.two λ z. absurd (omega arith)) e₂)) (λ q. leads_read _ (reads g) e (leads_unpast _ (subst (λ (x : Result ℕ Refusal). Skips num t n x) e₂ (q.one refl)))) ps

    module _ {b : ℕ} (e₂ : m₂ ≡ Ok b) {r : Result (Identifier × ℕ) Refusal} (i : Identifies t names b r) where
      pub head_unnamed : {x : Refusal} → r ≡ Err x → Heads t names at kind (Err x)
      unfolding decl_of decl_kinds read_constant read_function read_function_head read_structure
      head_unnamed e₃ = unread λ low k. four_kinds (λ j. HeadPlaces t n j m₂ → Leads (decl_of 63 (get_or decl_kinds j k_bad_decl)) t (cursor at names k) (λ x d. ⊥)) kind low n₄ n₅
          (λ q. leads_read _ (reads g) e (leads_places _ (q.two λ z. absurd (omega arith)) e₂ λ x y z. leads_unidentified _ i e₃)) (λ q. leads_read _ (reads g) e (leads_places _ (q.two λ z. absurd (omega arith)) e₂ λ x y z. leads_unidentified _ i e₃))
          (λ q. leads_read _ (reads g) e (leads_places _ (q.two λ z. absurd (omega arith)) e₂ λ x y z. leads_unidentified _ i e₃)) (λ q. leads_read _ (reads g) e (leads_past _ (subst (λ (x : Result ℕ Refusal). Skips num t n x) e₂ (q.one refl)) λ v z. leads_unidentified _ i e₃)) ps

      pub head_named : {j : Identifier} {c : ℕ} → r ≡ Ok (j, c) → Heads t names at kind (Ok (H.Named (record { flags = f; places = n; identifier = j; from = b; parts = c })))
      head_named {j} {c} e₃ = named (record {
        not_import = n₄;
        not_poison = n₅;
        flags = subst (λ (x : Result (ℕ × ℕ) Refusal). Gives (below 32) t at x) e g;
        places = subst (λ (x : Result ℕ Refusal). HeadPlaces t n kind x) e₂ ps;
        identifier = subst (λ (x : Result (Identifier × ℕ) Refusal). Identifies t names b x) e₃ i;
      })

-- WHAT WAS TOLD

module _ {t : List ℕ} {names at kind : ℕ} where
  pub told_named : {r : Head} {h : Start} → Heads t names at kind (Ok r) → r ≡ H.Named h → Begins t names at kind h
  told_named (an_import e) q = cc
  told_named (a_poison e) q = cc
  told_named {h = h} (named {h = h₁} b) q = let e : h₁ ≡ h = cc in subst (λ (x : Start). Begins t names at kind x) e b

  pub told_import : {r : Head} → Heads t names at kind (Ok r) → r ≡ H.Import → kind ≡ 4
  told_import (an_import e) q = e
  told_import (a_poison e) q = cc
  told_import (named b) q = cc

  pub told_poison : {r : Head} → Heads t names at kind (Ok r) → r ≡ H.Poison → kind ≡ 5
  told_poison (an_import e) q = cc
  told_poison (a_poison e) q = e
  told_poison (named b) q = cc

  pub told_unread : {r : Result Head Refusal} {x : Refusal} → Heads t names at kind r → r ≡ Err x → kind < 6 → (k : Counts) → Leads (decl_of 63 (get_or decl_kinds kind k_bad_decl)) t (cursor at names k) (λ x d. ⊥)
  told_unread (an_import e) q = cc
  told_unread (a_poison e) q = cc
  told_unread (named b) q = cc
  told_unread (unread k) q = k

-- Declarations: their heads, and what follows their kinds.
use Rattle.std.proofs.Common.{ℕ, ◌≤◌, ◌≡◌, refl, sym, ap, ◌∙◌, true, false, List, get_or}
use lib.Dec.{lit≤}
use Rattle.penne.specs.Reader.{Cur, Got, got, refused, Reader, ◌>>=◌, ret, below, listed}
use Rattle.tree.specs.Parts.{headed}
use Rattle.penne.specs.Tree.{Spot, Ident, constant, function, function_head, import, bad_decl, expr}
use Rattle.penne.specs.Read.{place, ident, maybe, read, read_ty, read_poison, read_body, read_param, read_decl, decl_head, decl_of, DeclKind, decl_kinds, decl_counts, k_constant, k_function, k_function_head, k_structure, k_import, k_bad_decl, read_constant, read_function, read_function_head, read_structure, read_import}
use Rattle.std.specs.Prelude.{None, Ok, Err}
use Rattle.fields.specs.declared.counts.Counts as C
use Rattle.fields.specs.declared.refusal.Reason.TheVariants.{TooMany}
use Rattle.fields.specs.declared.refusal.Refusal.{Refusal}
use Rattle.fields.specs.Answers.{forget, counts_of, together, Gives, Passes, Counting, bytes_and_place, two_places}
use Rattle.fields.proofs.Chain.{assoc, places_same}
use Rattle.fields.proofs.Parts.{tail_is, bytes_and_place_is}
use Rattle.tree.proofs.Statements.{counted_end, first_end, first_is, looked_up, look_is, from_last}

abbrev pub kind_of : ℕ → DeclKind
kind_of k = get_or decl_kinds k k_bad_decl

-- a declaration's end, by what its kind's number was read as
abbrev pub decl_end : List ℕ → (at : ℕ) → Got ℕ → Got (Unit {0})
decl_end s at (got v d) = counted_end (decl_of 63 (kind_of v)) s at d (together d.counts (decl_counts (kind_of v)))
decl_end s at (refused i p) = refused i p

in_go : (s : List ℕ) (at : ℕ) (q : Got ℕ) → first_end decl_counts (decl_of 63) s at (looked_up kind_of q) ≡ decl_end s at q
in_go s at (got v d) = refl
in_go s at (refused i p) = refl

pub decl_is : (s : List ℕ) (c : Cur) → forget (read_decl s c) ≡ decl_end s c.at (below 6 s c)
unfolding read_decl decl_head
decl_is s c = first_is decl_counts decl_head _ s c ∙ ap (first_end decl_counts (decl_of 63) s c.at) (look_is kind_of 6 s c) ∙ in_go s c.at (below 6 s c)

-- a declaration that is refused at its first number
module _ {s : List ℕ} {names : ℕ} {k : C.Counts} {at : ℕ} where
  pub decl_unread : {e : Refusal} → Gives (below 6) s at (Err e) → Passes read_decl s names k at (Err e)
  decl_unread g = record { is = decl_is s _ ∙ ap (decl_end s at) (g.is names (counts_of k)) }

  pub decl_many : {v n : ℕ} → Gives (below 6) s at (Ok (v, n)) → {b : C.Counts} → Counting k b None → counts_of b ≡ decl_counts (kind_of v) → Passes read_decl s names k at (Err (record { reason = TooMany; place = at }))
  decl_many g h u = record { is = decl_is s _ ∙ ap (decl_end s at) (g.is names (counts_of k)) ∙ rw (← u, h.is) }

bad_kind : (k : ℕ) → 5 ≤ k → kind_of k ≡ k_bad_decl
unfolding decl_kinds
bad_kind k h = from_last decl_kinds 5 k_bad_decl refl (lit≤ tt) k h

module _ (d k : ℕ) (s : List ℕ) (c : Cur) where
  as_kind : (x : DeclKind) → kind_of k ≡ x → forget (decl_of d (kind_of k) s c) ≡ forget (decl_of d x s c)
  as_kind x e = ap (λ (y : DeclKind). forget (decl_of d y s c)) e

  pub constant_kind : k ≡ 0 → forget (decl_of d (kind_of k) s c) ≡ forget (read_constant d s c)
  unfolding decl_of decl_kinds
  constant_kind e = as_kind k_constant (rw e)

  pub function_kind : k ≡ 1 → forget (decl_of d (kind_of k) s c) ≡ forget (read_function d s c)
  unfolding decl_of decl_kinds
  function_kind e = as_kind k_function (rw e)

  pub function_head_kind : k ≡ 2 → forget (decl_of d (kind_of k) s c) ≡ forget (read_function_head d s c)
  unfolding decl_of decl_kinds
  function_head_kind e = as_kind k_function_head (rw e)

  pub structure_kind : k ≡ 3 → forget (decl_of d (kind_of k) s c) ≡ forget (read_structure d s c)
  unfolding decl_of decl_kinds
  structure_kind e = as_kind k_structure (rw e)

  pub import_kind : k ≡ 4 → forget (decl_of d (kind_of k) s c) ≡ forget (bytes_and_place s c)
  unfolding decl_of decl_kinds read_import
  import_kind e = as_kind k_import (rw e) ∙ bytes_and_place_is import s c

  pub poison_kind : 5 ≤ k → forget (decl_of d (kind_of k) s c) ≡ forget (read_poison s c)
  unfolding decl_of
  poison_kind h = as_kind k_bad_decl (bad_kind k h) ∙ tail_is bad_decl read_poison s c

pub ruleset kinds = (constant_kind, function_kind, function_head_kind, structure_kind, import_kind, poison_kind)

-- what begins a constant, a function and a head, read at once
head_same : {B : Type 0} (K : ℕ → Spot × Spot → Ident Spot → Reader B) → (below 32 >>= λ f. place >>= λ p. place >>= λ q. ident >>= λ i. K f (p, q) i) ≡ (headed >>= λ h. K h.0 h.1.0 h.1.1)
unfolding headed ◌>>=◌ ret
head_same K =
    ap (λ (g : ℕ → Reader _). below 32 >>= g) (λ j f. places_same (λ p. ident >>= λ i. K f p i) j) ∙
    sym (assoc {B = ℕ × ((Spot × Spot) × Ident Spot)} (below 32) (λ f. two_places >>= λ p. ident >>= λ i. ret (f, (p, i))) (λ h. K h.0 h.1.0 h.1.1) ∙
    ap (λ (g : ℕ → Reader _). below 32 >>= g) (λ j f. (assoc {B = ℕ × ((Spot × Spot) × Ident Spot)} two_places (λ p. ident >>= λ i. ret (f, (p, i))) (λ h. K h.0 h.1.0 h.1.1) ∙ ap (λ (g : Spot × Spot → Reader _). two_places >>= g) (λ l p. assoc {B = ℕ × ((Spot × Spot) × Ident Spot)} ident (λ i. ret (f, (p, i))) (λ h. K h.0 h.1.0 h.1.1) l)) j))

module _ (d : ℕ) (s : List ℕ) (c : Cur) where
  as_reader : {A : Type 0} {m m' : Reader A} → m ≡ m' → forget (m s c) ≡ forget (m' s c)
  as_reader e = ap (λ (m : Reader _). forget (m s c)) e

  pub constant_is : forget (read_constant d s c) ≡ forget ((headed >>= λ h. read d expr >>= λ x. maybe (read_ty d true) >>= λ t. ret (constant h.0 h.1.0.0 h.1.0.1 h.1.1 x t)) s c)
  unfolding read_constant
  constant_is = as_reader (head_same λ f p i. read d expr >>= λ x. maybe (read_ty d true) >>= λ t. ret (constant f p.0 p.1 i x t))

  pub function_is : forget (read_function d s c) ≡ forget ((headed >>= λ h. listed (read_param d false) >>= λ ps. maybe (read_body d) >>= λ b. maybe (read_ty d false) >>= λ t. ret (function h.0 h.1.0.0 h.1.0.1 h.1.1 ps b t)) s c)
  unfolding read_function
  function_is = as_reader (head_same λ f p i. listed (read_param d false) >>= λ ps. maybe (read_body d) >>= λ b. maybe (read_ty d false) >>= λ t. ret (function f p.0 p.1 i ps b t))

  pub function_head_is : forget (read_function_head d s c) ≡ forget ((headed >>= λ h. listed (read_param d false) >>= λ ps. maybe (read_ty d false) >>= λ t. ret (function_head h.0 h.1.0.0 h.1.0.1 h.1.1 ps t)) s c)
  unfolding read_function_head
  function_head_is = as_reader (head_same λ f p i. listed (read_param d false) >>= λ ps. maybe (read_ty d false) >>= λ t. ret (function_head f p.0 p.1 i ps t))

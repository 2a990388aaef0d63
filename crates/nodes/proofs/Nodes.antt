-- Expressions, references and steps: their heads, and what follows them by its kind.
use Rattle.std.proofs.Common.{ℕ, zero, suc, ◌≤◌, ◌≡◌, ◌≢◌, refl, sym, ap, ◌∙◌, false, true, List, get_or, arith}
use lib.Dec.{eqb}
use borrow.Author.Tests.{eqb-true, eqb-false}
use Rattle.std.proofs.lemmas.List.{get_or_past}
use Rattle.penne.specs.Reader.{Cur, Got, got, refused, Reader, ◌>>=◌, ret, below, listed}
use Rattle.penne.specs.Tree.{Spot, Ty, Expr, expr, ref, step, binary, unary, signed, bits, string, bit_cast, type_cast, reference, member, bad_expr}
use Rattle.penne.specs.Read.{Readers, ident, maybe, option, read, head, rest_of, expr_of, step_of, to_nodes, read_ty, ExprKind, expr_kinds, k_binary, k_unary, k_boolean, k_signed, k_bits, k_string, k_array_literal, k_structural, k_parenthesized, k_deref, k_bit_cast, k_type_cast, k_length_of_array, k_size_of, k_function_call, k_bad_expr, read_binary, read_unary, read_boolean, read_integer, read_string, read_array_literal, read_structural, read_parenthesized, read_deref, read_bit_cast, read_type_cast, read_length_of_array, read_size_of, read_function_call, read_poison}
use Rattle.fields.specs.Answers.{forget, identifier_and_number, bytes_and_place, two_places, operator}
use Rattle.nodes.specs.Parts.{operation}
use Rattle.fields.proofs.Chain.{Node as Nodes, after, then_is, node_end, node_is, places_same, operator_same}
use Rattle.fields.proofs.Parts.{tail_is, two_is, identifier_and_number_is, bytes_and_place_is}

-- HEADS

pub expr_node : Nodes (below 16) (λ l. read l expr) (λ l n. expr_of (read l) (read_ty l false) (get_or expr_kinds n k_bad_expr))
unfolding read head rest_of
expr_node = record { zero_is = refl; suc_is = λ l. refl }

pub ref_node : Nodes (below 256) (λ l. read l ref) (λ l n. rest_of (read l) (read_ty l false) ref n)
unfolding read head
ref_node = record { zero_is = refl; suc_is = λ l. refl }

pub step_node : Nodes (below 2) (λ l. read l step) (λ l n. step_of (read l) n)
unfolding read head rest_of
step_node = record { zero_is = refl; suc_is = λ l. refl }

module _ (left : ℕ) (s : List ℕ) (c : Cur) where
  pub expression_is : forget (read left expr s c) ≡ node_end (λ l n. expr_of (read l) (read_ty l false) (get_or expr_kinds n k_bad_expr)) left s c.at (below 16 s c)
  expression_is = node_is expr_node left s c

  pub reference_is : forget (read left ref s c) ≡ node_end (λ l n. rest_of (read l) (read_ty l false) ref n) left s c.at (below 256 s c)
  reference_is = node_is ref_node left s c

  pub step_is : forget (read left step s c) ≡ node_end (λ l n. step_of (read l) n) left s c.at (below 2 s c)
  step_is = node_is step_node left s c

-- "op, 2p, left, right"

binary_is : (R : Readers) (s : List ℕ) (c : Cur) → forget (read_binary R s c) ≡ forget (operation R s c)
unfolding read_binary operation forget
binary_is R s c =
    ap (λ (m : Reader (Expr Spot)). forget (m s c)) (operator_same λ op p. R expr >>= λ x. R expr >>= λ y. ret (binary op p.0 p.1 x y)) ∙
    ap forget (then_is _ _ s c) ∙ go (operator s c) ∙ ap forget (sym (then_is _ _ s c))
  where
    go : (q : Got (ℕ × (Spot × Spot))) → forget (after (λ o. R expr >>= λ x. R expr >>= λ y. ret (binary o.0 o.1.0 o.1.1 x y)) s q) ≡ forget {A = (ℕ × (Spot × Spot)) × (Expr Spot × Expr Spot)} (after (λ o. R expr >>= λ x. R expr >>= λ y. ret (o, (x, y))) s q)
    go (got o d) = two_is (binary o.0 o.1.0 o.1.1) (R expr) (R expr) s d ∙ sym (two_is {C = (ℕ × (Spot × Spot)) × (Expr Spot × Expr Spot)} (λ x y. (o, (x, y))) (R expr) (R expr) s d)
    go (refused i p) = refl

-- AN EXPRESSION BY ITS KIND

pub bad_kind : (k : ℕ) → 15 ≤ k → get_or expr_kinds k k_bad_expr ≡ k_bad_expr
unfolding expr_kinds
bad_kind k h = (elim (eqb k 15) as (λ b. eqb k 15 ≡ b → get_or expr_kinds k k_bad_expr ≡ k_bad_expr) [
  | true ↦ λ z. rw (eqb-true k 15 z)
  | false ↦ λ z. let w : k ≢ 15 = eqb-false k 15 z in get_or_past expr_kinds k k_bad_expr (omega arith)
]) refl

-- what is none of the kinds 0 to 14
pub none_below_15 : {k : ℕ} → k ≢ 0 → k ≢ 1 → k ≢ 2 → k ≢ 3 → k ≢ 4 → k ≢ 5 → k ≢ 6 → k ≢ 7 → k ≢ 8 → k ≢ 9 → k ≢ 10 → k ≢ 11 → k ≢ 12 → k ≢ 13 → k ≢ 14 → 15 ≤ k
none_below_15 h0 h1 h2 h3 h4 h5 h6 h7 h8 h9 h10 h11 h12 h13 h14 = omega arith

module _ (R : Readers) (T : Reader (Ty Spot)) (k : ℕ) (s : List ℕ) (c : Cur) where
  as_kind : (x : ExprKind) → get_or expr_kinds k k_bad_expr ≡ x → forget (expr_of R T (get_or expr_kinds k k_bad_expr) s c) ≡ forget (expr_of R T x s c)
  as_kind x e = ap (λ (y : ExprKind). forget (expr_of R T y s c)) e

  pub binary_kind : k ≡ 0 → forget (expr_of R T (get_or expr_kinds k k_bad_expr) s c) ≡ forget (operation R s c)
  unfolding expr_of expr_kinds
  binary_kind e = as_kind k_binary (rw e) ∙ binary_is R s c

  pub unary_kind : k ≡ 1 → forget (expr_of R T (get_or expr_kinds k k_bad_expr) s c) ≡ forget (read_unary R s c)
  unfolding expr_of expr_kinds
  unary_kind e = as_kind k_unary (rw e)

  pub boolean_kind : k ≡ 2 → forget (expr_of R T (get_or expr_kinds k k_bad_expr) s c) ≡ forget (read_boolean s c)
  unfolding expr_of expr_kinds
  boolean_kind e = as_kind k_boolean (rw e)

  pub signed_kind : k ≡ 3 → forget (expr_of R T (get_or expr_kinds k k_bad_expr) s c) ≡ forget (read_integer signed T s c)
  unfolding expr_of expr_kinds
  signed_kind e = as_kind k_signed (rw e)

  pub bits_kind : k ≡ 4 → forget (expr_of R T (get_or expr_kinds k k_bad_expr) s c) ≡ forget (read_integer bits T s c)
  unfolding expr_of expr_kinds
  bits_kind e = as_kind k_bits (rw e)

  pub string_kind : k ≡ 5 → forget (expr_of R T (get_or expr_kinds k k_bad_expr) s c) ≡ forget (bytes_and_place s c)
  unfolding expr_of expr_kinds read_string
  string_kind e = as_kind k_string (rw e) ∙ bytes_and_place_is string s c

  pub array_literal_kind : k ≡ 6 → forget (expr_of R T (get_or expr_kinds k k_bad_expr) s c) ≡ forget (read_array_literal R T s c)
  unfolding expr_of expr_kinds
  array_literal_kind e = as_kind k_array_literal (rw e)

  pub structural_kind : k ≡ 7 → forget (expr_of R T (get_or expr_kinds k k_bad_expr) s c) ≡ forget (read_structural R T s c)
  unfolding expr_of expr_kinds
  structural_kind e = as_kind k_structural (rw e)

  pub parenthesized_kind : k ≡ 8 → forget (expr_of R T (get_or expr_kinds k k_bad_expr) s c) ≡ forget (read_parenthesized R s c)
  unfolding expr_of expr_kinds
  parenthesized_kind e = as_kind k_parenthesized (rw e)

  pub deref_kind : k ≡ 9 → forget (expr_of R T (get_or expr_kinds k k_bad_expr) s c) ≡ forget (read_deref R T s c)
  unfolding expr_of expr_kinds
  deref_kind e = as_kind k_deref (rw e)

  pub bit_cast_kind : k ≡ 10 → forget (expr_of R T (get_or expr_kinds k k_bad_expr) s c) ≡ forget (read_bit_cast R T s c)
  unfolding expr_of expr_kinds
  bit_cast_kind e = as_kind k_bit_cast (rw e)

  pub type_cast_kind : k ≡ 11 → forget (expr_of R T (get_or expr_kinds k k_bad_expr) s c) ≡ forget (read_type_cast R T s c)
  unfolding expr_of expr_kinds
  type_cast_kind e = as_kind k_type_cast (rw e)

  pub length_of_array_kind : k ≡ 12 → forget (expr_of R T (get_or expr_kinds k k_bad_expr) s c) ≡ forget (read_length_of_array R s c)
  unfolding expr_of expr_kinds
  length_of_array_kind e = as_kind k_length_of_array (rw e)

  pub size_of_kind : k ≡ 13 → forget (expr_of R T (get_or expr_kinds k k_bad_expr) s c) ≡ forget (read_size_of T s c)
  unfolding expr_of expr_kinds
  size_of_kind e = as_kind k_size_of (rw e)

  pub function_call_kind : k ≡ 14 → forget (expr_of R T (get_or expr_kinds k k_bad_expr) s c) ≡ forget (read_function_call R T s c)
  unfolding expr_of expr_kinds
  function_call_kind e = as_kind k_function_call (rw e)

  pub poison_kind : 15 ≤ k → forget (expr_of R T (get_or expr_kinds k k_bad_expr) s c) ≡ forget (read_poison s c)
  unfolding expr_of
  poison_kind h = as_kind k_bad_expr (bad_kind k h) ∙ tail_is bad_expr read_poison s c

pub ruleset kinds = (binary_kind, unary_kind, boolean_kind, signed_kind, bits_kind, string_kind, array_literal_kind, structural_kind, parenthesized_kind, deref_kind, bit_cast_kind, type_cast_kind, length_of_array_kind, size_of_kind, function_call_kind, poison_kind)

-- PARTS WITH "op, 2p" OR "2p"

module _ (R : Readers) (s : List ℕ) (c : Cur) where
  as_reader : {A : Type 0} {m m' : Reader A} → m ≡ m' → forget (m s c) ≡ forget (m' s c)
  as_reader e = ap (λ (m : Reader _). forget (m s c)) e

  pub unary_is : forget (read_unary R s c) ≡ forget ((operator >>= λ o. R expr >>= λ x. ret (unary o.0 o.1.0 o.1.1 x)) s c)
  unfolding read_unary
  unary_is = as_reader (operator_same λ op p. R expr >>= λ x. ret (unary op p.0 p.1 x))

  module _ (T : Reader (Ty Spot)) where
    pub bit_cast_is : forget (read_bit_cast R T s c) ≡ forget ((two_places >>= λ p. option (maybe T) >>= λ t. R expr >>= λ x. ret (bit_cast p.0 p.1 t x)) s c)
    unfolding read_bit_cast
    bit_cast_is = as_reader (places_same λ p. option (maybe T) >>= λ t. R expr >>= λ x. ret (bit_cast p.0 p.1 t x))

    pub type_cast_is : forget (read_type_cast R T s c) ≡ forget ((two_places >>= λ p. T >>= λ t. R expr >>= λ x. ret (type_cast p.0 p.1 t x)) s c)
    unfolding read_type_cast
    type_cast_is = as_reader (places_same λ p. T >>= λ t. R expr >>= λ x. ret (type_cast p.0 p.1 t x))

    pub rest_is : (n : ℕ) → forget (rest_of R T ref n s c) ≡ forget ((two_places >>= λ p. maybe ident >>= λ b. listed (R step) >>= λ ts. ret (reference n p.0 p.1 b (to_nodes ts))) s c)
    unfolding rest_of
    rest_is n = as_reader (places_same λ p. maybe ident >>= λ b. listed (R step) >>= λ ts. ret (reference n p.0 p.1 b (to_nodes ts)))

-- STEPS

module _ (R : Readers) (k : ℕ) (s : List ℕ) (c : Cur) where
  pub element_is : k ≡ 0 → forget (step_of R k s c) ≡ forget (step_of R 0 s c)
  element_is e = ap (λ (j : ℕ). forget (step_of R j s c)) e

pub member_is : (R : Readers) (k : ℕ) (s : List ℕ) (c : Cur) → k ≢ 0 → forget (step_of R k s c) ≡ forget (identifier_and_number s c)
unfolding step_of
member_is R zero s c z = absurd (z refl)
member_is R (suc k) s c z = identifier_and_number_is member s c

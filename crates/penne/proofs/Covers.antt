-- No base of an answer is left out: each stands in the place of a base of what came in.
use Prim.Native.Nat.{ℕ}
use mathlib.Core.Bool.{Bool, true, false}
use mathlib.Core.Path.{◌≡◌, refl, ◌∙◌, ap}
use mathlib.Core.List.{List}
use mathlib.Core.Option.{Option, none, some}
use Rattle.penne.specs.Find.{first_named}
use Rattle.penne.specs.Scopes.{Analyzer}
use Rattle.penne.specs.Tree.{Spot, Ident, Maybe, ok, err, Ty, Carried, expr, list_of, Sort, Node, nil, cons, binary, unary, boolean, signed, bits, string, array_literal, structural, parenthesized, deref, bit_cast, type_cast, length_of_array, size_of, function_call, bad_expr, reference, element, member, member_expression, Expr, StmSort, Stm, nil', cons', declaration, assignment, method_call, loop, goto, label, if_else, block, bad_stmt, no_else, or_else, Body}
use Rattle.penne.specs.Walks.{Names, stands}
use Rattle.penne.specs.Standing.{Point, base, declares, other, Outline, empty, point, both, outline, outline_option, outline_stm, outline_body, here, in_first, in_second, Has, itself, of_first, of_second, any_type, StandsFor}
use Rattle.penne.specs.State as S
use Rattle.penne.specs.Scopes as Q
use Rattle.penne.specs.Variables as V'
use Rattle.penne.proofs.Booleans.{true_false}
use Rattle.penne.proofs.Steady.{is_some, steady_node, steady_base, steady_type}
use Rattle.penne.proofs.Keeps.{Grow, grow_steady, g_stm}
use Rattle.penne.specs.Scopes.{new_scope}
use Rattle.penne.proofs.Looks.{Typed, is_ok, stays_type}
use Rattle.penne.proofs.Replies.{is_base}

-- every base of the second outline stands in the place of one of the first
pub record Covers (x x' : Outline) : Type 0 where
  pub covers : (b : Maybe Spot (Ident Spot)) → Has (base b) x' → StandsFor b x x'

-- of two parts
covers_both : {x x' y y' : Outline} → Covers x x' → Covers y y' → Covers (both x y) (both x' y')
covers_both {x} {x'} {y} {y'} p q = record { covers = go }
  where
    go : (b : Maybe Spot (Ident Spot)) → Has (base b) (both x' y') → StandsFor b (both x y) (both x' y')
    go b (of_first h) = let w = p.covers b h in record { at = w.at; came = w.came; stands = in_first w.stands }
    go b (of_second h) = let w = q.covers b h in record { at = _; came = w.came; stands = in_second w.stands }

-- an empty outline has no base
has_nothing : {B : Type 0} {p : Point} {x : Outline} → x ≡ empty → Has p x → B
has_nothing e itself = let z : true ≡ false = cc in true_false z
has_nothing e (of_first h) = let z : true ≡ false = cc in true_false z
has_nothing e (of_second h) = let z : true ≡ false = cc in true_false z

-- where something was dropped
covers_empty : {x : Outline} → Covers x empty
covers_empty = record { covers = λ b h. has_nothing refl h }

-- nor has a point that is none
has_other : {B : Type 0} {b : Maybe Spot (Ident Spot)} {x : Outline} (p : Point) → is_base p ≡ false → x ≡ point p → Has (base b) x → B
unfolding is_base
has_other {b = b} p e f itself = let z : base b ≡ p = cc in true_false (ap is_base z ∙ e)
has_other p e f (of_first h) = let z : true ≡ false = cc in true_false z
has_other p e f (of_second h) = let z : true ≡ false = cc in true_false z

-- a point that is no base
covers_other : {x : Outline} (p : Point) → is_base p ≡ false → Covers x (point p)
covers_other p e = record { covers = λ b h. has_other p e refl h }

-- a base in a base's place
covers_base : (b c : Maybe Spot (Ident Spot)) → Covers (point (base b)) (point (base c))
covers_base b c = record { covers = λ d h. go d h refl }
  where
    go : {x : Outline} (d : Maybe Spot (Ident Spot)) → Has (base d) x → x ≡ point (base c) → StandsFor d (point (base b)) x
    go d itself e = record { at = 0; came = b; stands = here }
    go d (of_first h) e = let z : true ≡ false = cc in true_false z
    go d (of_second h) e = let z : true ≡ false = cc in true_false z

-- NAMES THAT TYPES CAN HOLD stay as they are

typed_after : {n : Names} {a b : Analyzer Spot} → Grow a b → Typed n a → Typed n b
typed_after g v = record {
  outside = g.constexpr v.outside;
  consts = λ x. ap (λ (is : List (Ident Spot)). is_some (first_named x is)) g.constants ∙ v.consts x;
  structs = λ x. ap (λ (is : List (Ident Spot)). is_some (first_named x is)) g.structs ∙ v.structs x;
}

-- in a new scope too
typed_scope : {n : Names} {a : Analyzer Spot} → Typed n a → Typed n (new_scope a)
unfolding Q.with_stack
typed_scope v = record { outside = v.outside; consts = v.consts; structs = v.structs }

-- EXPRESSIONS

-- a cast, by whether its type stands
covers_cast : {x : Outline} (p q : Spot) (m : Q.Pass Spot (Expr Spot)) (o : Maybe Spot (Ty Spot)) (b : Bool) (a : Analyzer Spot) → is_ok o ≡ b → Covers x (outline any_type (m a).0) → Covers (elim b [ true ↦ x | false ↦ empty ]) (outline any_type (V'.cast_to p q m o a).0)
unfolding V'.cast_to S.◌>>=◌ S.ret is_ok outline any_type
covers_cast p q m (ok t) true a e h = h
covers_cast p q m (ok t) false a e h = true_false e
covers_cast p q m (err z) b a e h = covers_empty

-- a call, by whether its name is there
covers_call : {x : Outline} (b : ℕ) (c : Carried Spot) (es : Node Spot (list_of expr)) (o : Maybe Spot (Ident Spot)) → Covers x (outline any_type es) → Covers x (outline any_type (V'.call_to b c es o))
unfolding V'.call_to outline
covers_call b c es (ok j) h = h
covers_call b c es (err z) h = covers_empty

-- a size has no base
covers_size : {x : Outline} (p : Spot) (o : Maybe Spot (Ty Spot)) → Covers x (outline any_type (V'.size_of_type p o))
unfolding V'.size_of_type outline
covers_size p (ok t) = covers_empty
covers_size p (err z) = covers_empty

-- so it is with an expression
covered : {s : Sort} (x : Node Spot s) (n : Names) (a : Analyzer Spot) → Typed n a → Covers (outline (stands n) x) (outline any_type (V'.analyze_node x a).0)
unfolding V'.analyze_node S.◌>>=◌ S.ret Q.in_new_scope Q.create_anonymous_resolution_id outline
covered nil n a v = covers_empty
covered (cons x xs) n a v = covers_both (covered x n a v) (covered xs n _ (typed_after (grow_steady (steady_node x a)) v))
covered (binary op p q x y) n a v = covers_both (covered x n a v) (covered y n _ (typed_after (grow_steady (steady_node x a)) v))
covered (unary op p q x) n a v = covered x n a v
covered (boolean b p) n a v = covers_empty
covered (signed b p c) n a v = covers_empty
covered (bits b p c) n a v = covers_empty
covered (string b p) n a v = covers_empty
covered (array_literal p c es i) n a v = covered es n (new_scope a) (typed_scope v)
covered (structural p ms c) n a v = covered ms n a v
covered (parenthesized p x) n a v = covered x n a v
covered (deref c r) n a v = covered r n a v
covered (bit_cast p q c x) n a v = covered x n a v
covered (type_cast p q t x) n a v = covers_cast p q (V'.analyze_node x) (V'.analyze_type t a).0 (stands n t) (V'.analyze_type t a).1 (stays_type t n a v).okay (covered x n _ (typed_after (grow_steady (steady_type t a)) v))
covered (length_of_array p r) n a v = covered r n a v
covered (size_of p t) n a v = covers_size p _
covered (function_call i b c es) n a v = covers_call b c _ _ (covered es n a v)
covered (bad_expr z) n a v = covers_empty
covered (reference d p q b ts) n a v = covers_both (covers_base b _) (covered ts n _ (typed_after (grow_steady (steady_base b a)) v))
covered (element e x) n a v = covered x n a v
covered (member i o) n a v = covers_empty
covered (member_expression i o x) n a v = covered x n a v

-- what may be absent
covered_option : (v : Option (Expr Spot)) (n : Names) (a : Analyzer Spot) → Typed n a → Covers (outline_option (stands n) v) (outline_option any_type (V'.analyze_option V'.analyze_node v a).0)
unfolding outline_option V'.analyze_option S.◌>>=◌ S.ret
covered_option none n a v = covers_empty
covered_option (some x) n a v = covered x n a v

-- STATEMENTS

-- a declaration statement, by whether it is a duplicate
covers_declaration : {x : Outline} (p : Spot) (v : Option (Expr Spot)) (t : Carried Spot) (i : Ident Spot) (o : Maybe Spot (Ident Spot)) → Covers x (outline_option any_type v) → Covers (both x (point (declares i))) (outline_stm any_type (V'.declaration_of p v t o))
unfolding V'.declaration_of outline_stm is_base
covers_declaration p v t i (ok j) h = covers_both h (covers_other (declares j) refl)
covers_declaration p v t i (err z) h = covers_empty

-- a method call, by whether its name is there
covers_method : {x : Outline} (b : ℕ) (es : Node Spot (list_of expr)) (o : Maybe Spot (Ident Spot)) → Covers x (outline any_type es) → Covers x (outline_stm any_type (V'.method_to b es o))
unfolding V'.method_to outline_stm
covers_method b es (ok i) h = h
covers_method b es (err z) h = covers_empty

-- so it is with statements
covered_stm : {s : StmSort} (t : Stm Spot s) (n : Names) (a : Analyzer Spot) → Typed n a → Covers (outline_stm (stands n) t) (outline_stm any_type (V'.analyze_stm t a).0)
unfolding V'.analyze_stm S.◌>>=◌ S.ret Q.in_new_scope Q.prepare_to_prune_at_goto Q.prune_at_label outline_stm is_base
covered_stm nil' n a v = covers_empty
covered_stm (cons' t ts) n a v = covers_both (covered_stm t n a v) (covered_stm ts n _ (typed_after ((g_stm t).go a) v))
covered_stm (declaration p x t i) n a v = covers_declaration p _ _ i _ (covered_option x n a v)
covered_stm (assignment p x r) n a v = covers_both (covered x n a v) (covered r n _ (typed_after (grow_steady (steady_node x a)) v))
covered_stm (method_call i b es) n a v = covers_method b _ _ (covered es n a v)
covered_stm (loop p) n a v = covers_empty
covered_stm (goto i p) n a v = covers_other other refl
covered_stm (label i p) n a v = covers_other other refl
covered_stm (if_else p op q r x y t e) n a v =
    let a₁ = (V'.analyze_node x a).1 in
    let a₂ = (V'.analyze_node y a₁).1 in
    let v₁ = typed_after (grow_steady (steady_node x a)) v in
    let v₂ = typed_after (grow_steady (steady_node y a₁)) v₁ in
    covers_both (covered x n a v) (covers_both (covered y n a₁ v₁) (covers_both (covers_other other refl) (covers_both (covered_stm t n a₂ v₂) (covers_both (covers_other other refl) (covered_stm e n (V'.analyze_stm t a₂).1 (typed_after ((g_stm t).go a₂) v₂))))))
covered_stm (block p ts) n a v = covered_stm ts n (new_scope a) (typed_scope v)
covered_stm (bad_stmt z) n a v = covers_empty
covered_stm no_else n a v = covers_empty
covered_stm (or_else p t) n a v = covered_stm t n a v

-- A BODY
pub covered_body : (b : Body Spot) (n : Names) (a : Analyzer Spot) → Typed n a → Covers (outline_body (stands n) b) (outline_body any_type (V'.analyze_in_body b a).0)
unfolding V'.analyze_in_body S.◌>>=◌ S.ret outline_body
covered_body b n a v = covers_both (covered_stm b.statements n a v) (covered_option b.value n _ (typed_after ((g_stm b.statements).go a) v))

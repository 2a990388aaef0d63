-- The skeleton of a body's statements, and that its text is the body's.
use Prim.Native.Nat.{ℕ, ◌+◌}
use mathlib.Core.Bool.{Bool, true, false}
use mathlib.Core.Path.{◌≡◌, refl, ap}
use mathlib.Core.List.{List, [], ◌∷◌, ◌++◌}
use mathlib.Core.Option.{Option, none, some}
use lib.ListN.{length}
use Rattle.penne.specs.Tree.{Spot, Ident, Maybe, ok, err, Expr, Sort, Node, nil, cons, binary, unary, boolean, signed, bits, string, array_literal, structural, parenthesized, deref, bit_cast, type_cast, length_of_array, size_of, function_call, bad_expr, reference, element, member, member_expression, StmSort, Stm, nil', cons', declaration, assignment, method_call, loop, goto, label, if_else, block, bad_stmt, no_else, or_else, Body}
use Rattle.penne.specs.Walks.{Act, use_of, run, jump, target, fork, past, Target, Names, stands, uses, base_use, option_uses, acts, body_acts}
use Rattle.penne.proofs.Skeleton.{Sk, skip, seq, reads, runs, jumps, marks, either, scoped, flat}

-- acts that are uses alone
pub data OnlyUses : List Act → Type 0 where
  o_nil : OnlyUses []
  o_use : {u : ℕ} {t : Target} {xs : List Act} → OnlyUses xs → OnlyUses (use_of u t ∷ xs)

-- an expression has uses alone
only_append : {xs ys : List Act} → OnlyUses xs → OnlyUses ys → OnlyUses (xs ++ ys)
only_append o_nil q = q
only_append (o_use p) q = o_use (only_append p q)

only_base : (n : Names) (b : Maybe Spot (Ident Spot)) → OnlyUses (base_use n b)
unfolding base_use
only_base n (ok i) = o_use o_nil
only_base n (err z) = o_nil

only_if : (b : Bool) (xs : List Act) → OnlyUses xs → OnlyUses (elim b [ true ↦ xs | false ↦ [] ])
only_if true xs p = p
only_if false xs p = o_nil

pub only_uses : {s : Sort} (n : Names) (x : Node Spot s) → OnlyUses (uses n x)
unfolding uses
only_uses n nil = o_nil
only_uses n (cons x xs) = only_append (only_uses n x) (only_uses n xs)
only_uses n (binary op p q x y) = only_append (only_uses n x) (only_uses n y)
only_uses n (unary op p q x) = only_uses n x
only_uses n (boolean b p) = o_nil
only_uses n (signed b p c) = o_nil
only_uses n (bits b p c) = o_nil
only_uses n (string b p) = o_nil
only_uses n (array_literal p c es i) = only_uses n es
only_uses n (structural p ms c) = only_uses n ms
only_uses n (parenthesized p x) = only_uses n x
only_uses n (deref c r) = only_uses n r
only_uses n (bit_cast p q c x) = only_uses n x
only_uses n (type_cast p q t x) = only_if (stands n t) _ (only_uses n x)
only_uses n (length_of_array p r) = only_uses n r
only_uses n (size_of p t) = o_nil
only_uses n (function_call i b c es) = only_uses n es
only_uses n (bad_expr z) = o_nil
only_uses n (reference d p q b ts) = only_append (only_base n b) (only_uses n ts)
only_uses n (element e x) = only_uses n x
only_uses n (member i o) = o_nil
only_uses n (member_expression i o x) = only_uses n x

pub only_option : (n : Names) (v : Option (Expr Spot)) → OnlyUses (option_uses n v)
unfolding option_uses
only_option n none = o_nil
only_option n (some x) = only_uses n x

-- uses as a skeleton
unfoldable pub of_use : Act → Sk
of_use (use_of u t) = reads u t
of_use (run m) = skip
of_use (jump l) = skip
of_use (target l) = skip
of_use (fork k) = skip
of_use (past k) = skip

-- of a list of them
unfoldable pub of_uses : List Act → Sk
of_uses [] = skip
of_uses (x ∷ xs) = seq (of_use x) (of_uses xs)

-- their text
pub flat_uses : {xs : List Act} → OnlyUses xs → flat (of_uses xs) ≡ xs
unfolding flat of_uses of_use
flat_uses o_nil = refl
flat_uses (o_use {u} {t} p) = ap (λ (l : List Act). use_of u t ∷ l) (flat_uses p)

-- the skeleton of statements
unfoldable pub sk : {s : StmSort} → Stm Spot s → Names → Sk
sk nil' n = skip
sk (cons' t ts) n = seq (sk t n) (sk ts (acts t n).1)
sk (declaration p v t i) n = seq (of_uses (option_uses n v)) (runs n.count)
sk (assignment p v r) n = seq (of_uses (uses n v)) (of_uses (uses n r))
sk (method_call i b es) n = of_uses (uses n es)
sk (loop p) n = skip
sk (goto i p) n = jumps i.id
sk (label i p) n = marks i.id
sk (if_else p op q r x y t e) n = seq (of_uses (uses n x)) (seq (of_uses (uses n y)) (either (sk t n) (sk e (acts t n).1)))
sk (block p ts) n = scoped (sk ts n)
sk (bad_stmt z) n = skip
sk no_else n = skip
sk (or_else p t) n = sk t n

-- its text is the statements' text
pub flat-sk : {s : StmSort} (t : Stm Spot s) (n : Names) → flat (sk t n) ≡ (acts t n).0
unfolding flat sk acts
flat-sk nil' n = refl
flat-sk (cons' t ts) n = let e = flat-sk t n in let f = flat-sk ts (acts t n).1 in λ i. e i ++ f i
flat-sk (declaration p v t i) n = let e = flat_uses (only_option n v) in λ j. e j ++ (run n.count ∷ [])
flat-sk (assignment p v r) n = let e = flat_uses (only_uses n v) in let f = flat_uses (only_uses n r) in λ i. e i ++ f i
flat-sk (method_call i b es) n = flat_uses (only_uses n es)
flat-sk (loop p) n = refl
flat-sk (goto i p) n = refl
flat-sk (label i p) n = refl
flat-sk (if_else p op q r x y t e) n =
    let e₁ = flat_uses (only_uses n x) in
    let e₂ = flat_uses (only_uses n y) in
    let e₃ = flat-sk t n in
    let e₄ = flat-sk e (acts t n).1 in
    λ i. e₁ i ++ (e₂ i ++ (fork (length (e₃ i) + 1) ∷ (e₃ i ++ (past (length (e₄ i)) ∷ e₄ i))))
flat-sk (block p ts) n = flat-sk ts n
flat-sk (bad_stmt z) n = refl
flat-sk no_else n = refl
flat-sk (or_else p t) n = flat-sk t n

-- a body's skeleton
unfoldable pub sk_body : Body Spot → Names → Sk
sk_body b n = seq (sk b.statements n) (of_uses (option_uses (acts b.statements n).1 b.value))

-- its text is the body's
pub flat_body : (b : Body Spot) (n : Names) → flat (sk_body b n) ≡ body_acts b n
unfolding flat sk_body body_acts
flat_body b n = let e = flat-sk b.statements n in let f = flat_uses (only_option (acts b.statements n).1 b.value) in λ i. e i ++ f i

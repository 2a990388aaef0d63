-- What becomes of the bases of statements, act by act beside what pruning on the skeleton refuses.
use Prim.Native.Nat.{ℕ, suc, ◌+◌}
use mathlib.Core.Bool.{Bool, true, false, ◌&&◌}
use mathlib.Core.Path.{◌≡◌, refl, sym, ◌∙◌, ap, subst}
use mathlib.Core.List.{List, [], ◌∷◌, ◌++◌, append_assoc}
use mathlib.Core.Option.{Option, none, some}
use mathlib.Core.Logic.{inl, inr, ⊎_elim}
use native.Mathlib.Omega.{arith}
use lib.ListN.{length, get_elem?, get_or}
use lib.Dec.{eqb}
use Rattle.penne.specs.Find.{first, first_named, is_in, resolved}
use Rattle.penne.specs.Scopes.{Analyzer}
use Rattle.penne.specs.Tree.{Spot, Ident, Maybe, ok, err, Ty, plain, array, array_with_named_length, arraylike, struct, word, unresolved, nameless, pointer, view, Carried, expr, list_of, Node, Expr, StmSort, Stm, nil', cons', declaration, assignment, method_call, loop, goto, label, if_else, block, bad_stmt, no_else, or_else}
use Rattle.penne.specs.Walks.{Act, use_of, run, target, fork, past, Target, local, no_local, Names, with_scope, stands, declared, uses, option_uses, acts, not_bare, premise}
use Rattle.penne.specs.Standing.{Point, base, declares, other, Outline, empty, point, both, outline, outline_option, outline_stm, acts_at, size, Stands, here, in_first, in_second, any_type}
use Rattle.penne.specs.State as S
use Rattle.penne.specs.Scopes as Q
use Rattle.penne.specs.Variables as V'
use Rattle.penne.proofs.Booleans.{and_left, and_right, true_false, none_some, one_zero}
use Rattle.penne.proofs.Missed.{Fits, f_nil, f_no, f_use}
use Rattle.penne.proofs.PruningIsFlow.{St, pruned, gone_at, refused, refused_fits}
use Rattle.penne.proofs.BodySkeleton.{OnlyUses, o_nil, o_use, only_uses, only_option, of_use, of_uses, sk, flat-sk, flat_uses}
use Rattle.penne.proofs.FirstPass.{is_one}
use Rattle.penne.proofs.BodyPruning.{same_scope}
use Rattle.penne.proofs.Steady.{steady_trans, steady_node, steady_maybe, steady_called, steady_option}
use Rattle.penne.proofs.Waiting.{ids_in}
use Rattle.penne.proofs.Keeps.{Orderly, g_stm}
use Rattle.penne.specs.Scopes.{new_scope}
use Rattle.penne.proofs.Settled.{found_held}
use Rattle.penne.proofs.Beside.{Beside, beside_map, beside_last}
use Rattle.penne.proofs.Looks.{gone_use, Sees, looked, looked_option, looked_carried, looked_more, sees_after}
use Rattle.penne.proofs.InStep.{InStep, sees, in_scope, in_branch}
use Rattle.penne.proofs.Steps.{Mode, Clear, clear_first, clear_second, clear_then, clear_else, clear_scope, step, step_uses, in_behind, same_stack}
use Rattle.penne.proofs.Answers.{Nth, n_here, n_later, nth_left, nth_right, Becomes, Answered, Known, k_local, k_other, Knows, knows_after, knows_scope, Sized, sized_empty, sized_both, sized_uses, nothing_in, nothing_as, answered}

-- ACTS AND BITS

-- act x at this place of the text, and the bit there
pub data Marked : List Act → List Bool → ℕ → Act → Bool → Type 0 where
  m_here : {x : Act} {c : Bool} {xs : List Act} {cs : List Bool} → Marked (x ∷ xs) (c ∷ cs) 0 x c
  m_later : {x y : Act} {c d : Bool} {xs : List Act} {cs : List Bool} {at : ℕ} → Marked xs cs at x c → Marked (y ∷ xs) (d ∷ cs) (suc at) x c

-- with more acts behind or before
marked_left : {xs : List Act} {bs : List Bool} {at : ℕ} {x : Act} {c : Bool} (ys : List Act) (cs : List Bool) → Marked xs bs at x c → Marked (xs ++ ys) (bs ++ cs) at x c
marked_left ys cs m_here = m_here
marked_left ys cs (m_later p) = m_later (marked_left ys cs p)

marked_right : {xs ys : List Act} {bs cs : List Bool} {at : ℕ} {x : Act} {c : Bool} → Fits bs xs → Marked ys cs at x c → Marked (xs ++ ys) (bs ++ cs) (length xs + at) x c
marked_right {ys = ys} {cs = cs} {at} {x} {c} f_nil p = subst (λ (m : ℕ). Marked ys cs m x c) (omega arith) p
marked_right {ys = ys} {cs = cs} {at} {x} {c} (f_no {x = y} {bs} {xs} f) p = subst (λ (m : ℕ). Marked (y ∷ (xs ++ ys)) (false ∷ (bs ++ cs)) m x c) (omega arith) (m_later (marked_right f p))
marked_right {ys = ys} {cs = cs} {at} {x} {c} (f_use {b} {u} {n} {d} {bs} {xs} f) p = subst (λ (m : ℕ). Marked (use_of u (local n d) ∷ (xs ++ ys)) (b ∷ (bs ++ cs)) m x c) (omega arith) (m_later (marked_right f p))

-- the act, and the bit
pub marked_act : {xs : List Act} {bs : List Bool} {at : ℕ} {x : Act} {c : Bool} → Marked xs bs at x c → get_elem? xs at ≡ some x
marked_act m_here = refl
marked_act (m_later p) = marked_act p

pub marked_bit : {xs : List Act} {bs : List Bool} {at : ℕ} {x : Act} {c : Bool} → Marked xs bs at x c → get_or bs at false ≡ c
marked_bit m_here = refl
marked_bit (m_later p) = marked_bit p

-- the use i is at this place of the text, and is answered by r
pub record Replied (K : ℕ → ℕ → Type 0) (xs : List Act) (bs : List Bool) (at : ℕ) (i : Ident Spot) (r : Maybe Spot (Ident Spot)) : Type 0 where
  pub target : Target
  pub gone : Bool
  pub marked : Marked xs bs at (use_of i.place.from target) gone
  pub becomes : Becomes K i target gone r

-- so it is with all that stands of these outlines
pub record Replies (K : ℕ → ℕ → Type 0) (x x' : Outline) (xs : List Act) (bs : List Bool) : Type 0 where
  pub reply : (at : ℕ) (i : Ident Spot) (r : Maybe Spot (Ident Spot)) → Stands (base (ok i)) (base r) x x' at → Replied K xs bs at i r

-- of two parts
pub replies_both : {K : ℕ → ℕ → Type 0} {x x' y y' : Outline} {xs ys : List Act} {bs cs : List Bool} → Sized x xs → Fits bs xs → Replies K x x' xs bs → Replies K y y' ys cs → Replies K (both x y) (both x' y') (xs ++ ys) (bs ++ cs)
replies_both {K} {x} {x'} {y} {y'} {xs} {ys} {bs} {cs} e f p q = record { reply = λ at i r s. go at i r s }
  where
    go : (at : ℕ) (i : Ident Spot) (r : Maybe Spot (Ident Spot)) → Stands (base (ok i)) (base r) (both x y) (both x' y') at → Replied K (xs ++ ys) (bs ++ cs) at i r
    go at i r (in_first s) = let w = p.reply _ i r s in record { target = w.target; gone = w.gone; marked = marked_left ys cs w.marked; becomes = w.becomes }
    go at i r (in_second {at = m} s) = let w = q.reply _ i r s in record { target = w.target; gone = w.gone; marked = subst (λ (z : ℕ). Marked (xs ++ ys) (bs ++ cs) (z + m) (use_of i.place.from w.target) w.gone) (sym e.same) (marked_right f w.marked); becomes = w.becomes }

-- where nothing stands
replies_empty : {K : ℕ → ℕ → Type 0} {x' : Outline} {xs : List Act} {bs : List Bool} → Replies K empty x' xs bs
replies_empty = record { reply = λ at i r s. nothing_in refl s }

replies_dropped : {K : ℕ → ℕ → Type 0} {x : Outline} {xs : List Act} {bs : List Bool} → Replies K x empty xs bs
replies_dropped = record { reply = λ at i r s. nothing_as refl s }

-- a reference's base
unfoldable pub is_base : Point → Bool
is_base (base b) = true
is_base (declares i) = false
is_base other = false

-- nothing else is one
no_base : {B : Type 0} {i : Ident Spot} {r : Maybe Spot (Ident Spot)} {x x' : Outline} {at : ℕ} (p : Point) → is_base p ≡ false → x ≡ point p → Stands (base (ok i)) (base r) x x' at → B
unfolding is_base
no_base {i = i} p e h here = let z : base (ok i) ≡ p = cc in true_false (ap is_base z ∙ e)
no_base p e h (in_first s) = true_false (let z : true ≡ false = cc in z)
no_base p e h (in_second s) = true_false (let z : true ≡ false = cc in z)

-- an act that is no use
replies_other : {K : ℕ → ℕ → Type 0} {x' : Outline} {xs : List Act} {bs : List Bool} (p : Point) → is_base p ≡ false → Replies K (point p) x' xs bs
replies_other p e = record { reply = λ at i r s. no_base p e refl s }

-- uses, one after the other
marked_uses : {xs : List Act} {at : ℕ} {x : Act} (f : ℕ → St) → OnlyUses xs → Nth xs at x → Marked xs (refused (of_uses xs) f) at x (gone_use f x)
unfolding of_uses of_use refused pruned gone_use
marked_uses f o_nil x = elim x [ ]
marked_uses f (o_use p) n_here = m_here
marked_uses f (o_use p) (n_later q) = m_later (marked_uses f p q)

-- an expression by its uses
replies_uses : {K : ℕ → ℕ → Type 0} {x x' : Outline} {xs : List Act} {f : ℕ → St} → OnlyUses xs → ((at : ℕ) (i : Ident Spot) (r : Maybe Spot (Ident Spot)) → Stands (base (ok i)) (base r) x x' at → Answered K f xs at i r) → Replies K x x' xs (refused (of_uses xs) f)
unfolding gone_use
replies_uses {f = f} o h = record { reply = λ at i r s. let w = h at i r s in record { target = w.target; gone = gone_at f w.target; marked = marked_uses f o w.nth; becomes = w.becomes } }

-- NAMES

-- a type stands or not by the constants and structures alone
stands_same : (n m : Names) → n.constants ≡ m.constants → n.structures ≡ m.structures → (t : Ty Spot) → stands n t ≡ stands m t
unfolding stands
stands_same n m e f (plain k) = refl
stands_same n m e f (array t l) = stands_same n m e f t
stands_same n m e f (array_with_named_length t i) = let h = stands_same n m e f t in λ z. h z && is_in i.name (e z)
stands_same n m e f (arraylike k t) = stands_same n m e f t
stands_same n m e f (struct i) = ap (is_in i.name) f
stands_same n m e f (word i z) = ap (is_in i.name) f
stands_same n m e f (unresolved i) = ap (is_in i.name) f
stands_same n m e f nameless = refl
stands_same n m e f (pointer t) = stands_same n m e f t
stands_same n m e f (view t) = stands_same n m e f t

-- statements leave these as they are
acts-constants : {s : StmSort} (t : Stm Spot s) (n : Names) → (acts t n).1.constants ≡ n.constants
unfolding acts declared with_scope
acts-constants nil' n = refl
acts-constants (cons' t ts) n = acts-constants ts (acts t n).1 ∙ acts-constants t n
acts-constants (declaration p v t i) n = refl
acts-constants (assignment p v r) n = refl
acts-constants (method_call i b es) n = refl
acts-constants (loop p) n = refl
acts-constants (goto i p) n = refl
acts-constants (label i p) n = refl
acts-constants (if_else p op q r x y t e) n = acts-constants e (acts t n).1 ∙ acts-constants t n
acts-constants (block p ts) n = acts-constants ts n
acts-constants (bad_stmt z) n = refl
acts-constants no_else n = refl
acts-constants (or_else p t) n = acts-constants t n

acts-structures : {s : StmSort} (t : Stm Spot s) (n : Names) → (acts t n).1.structures ≡ n.structures
unfolding acts declared with_scope
acts-structures nil' n = refl
acts-structures (cons' t ts) n = acts-structures ts (acts t n).1 ∙ acts-structures t n
acts-structures (declaration p v t i) n = refl
acts-structures (assignment p v r) n = refl
acts-structures (method_call i b es) n = refl
acts-structures (loop p) n = refl
acts-structures (goto i p) n = refl
acts-structures (label i p) n = refl
acts-structures (if_else p op q r x y t e) n = acts-structures e (acts t n).1 ∙ acts-structures t n
acts-structures (block p ts) n = acts-structures ts n
acts-structures (bad_stmt z) n = refl
acts-structures no_else n = refl
acts-structures (or_else p t) n = acts-structures t n

-- so the same types stand behind them
pub same_stands : {s : StmSort} (t : Stm Spot s) (n : Names) → stands {P = Spot} (acts t n).1 ≡ stands {P = Spot} n
same_stands t n = let h = stands_same (acts t n).1 n (acts-constants t n) (acts-structures t n) in λ z y. h y z

-- SIZES

-- an outline has as many acts as the text
sized_option : (n : Names) (v : Option (Expr Spot)) → Sized (outline_option (stands n) v) (option_uses n v)
unfolding outline_option option_uses
sized_option n none = sized_empty
sized_option n (some x) = sized_uses n x

sized_one : (p : Point) (x : Act) → acts_at p ≡ 1 → Sized (point p) (x ∷ [])
unfolding size
sized_one p x e = record { same = e }

pub sized_stm : {s : StmSort} (t : Stm Spot s) (n : Names) → Sized (outline_stm (stands n) t) (acts t n).0
unfolding outline_stm acts acts_at
sized_stm nil' n = sized_empty
sized_stm (cons' t ts) n = sized_both (sized_stm t n) (subst (λ (h : Ty Spot → Bool). Sized (outline_stm h ts) (acts ts (acts t n).1).0) (same_stands t n) (sized_stm ts (acts t n).1))
sized_stm (declaration p v t i) n = sized_both (sized_option n v) (sized_one (declares i) _ refl)
sized_stm (assignment p v r) n = sized_both (sized_uses n v) (sized_uses n r)
sized_stm (method_call i b es) n = sized_uses n es
sized_stm (loop p) n = sized_empty
sized_stm (goto i p) n = sized_one other _ refl
sized_stm (label i p) n = sized_one other _ refl
sized_stm (if_else p op q r x y t e) n =
    let z = subst (λ (h : Ty Spot → Bool). Sized (outline_stm h e) (acts e (acts t n).1).0) (same_stands t n) (sized_stm e (acts t n).1) in
    sized_both (sized_uses n x) (sized_both (sized_uses n y) (sized_both (sized_one other (fork _) refl) (sized_both (sized_stm t n) (sized_both (sized_one other (past _) refl) z))))
sized_stm (block p ts) n = sized_stm ts n
sized_stm (bad_stmt z) n = sized_empty
sized_stm no_else n = sized_empty
sized_stm (or_else p t) n = sized_stm t n

-- a bit for each act
pub fits_stm : {s : StmSort} (t : Stm Spot s) (n : Names) (f : ℕ → St) → Fits (refused (sk t n) f) (acts t n).0
fits_stm t n f = subst (λ (xs : List Act). Fits (refused (sk t n) f) xs) (flat-sk t n) (refused_fits (sk t n) f)

fits_uses : {xs : List Act} → OnlyUses xs → (f : ℕ → St) → Fits (refused (of_uses xs) f) xs
fits_uses {xs} o f = subst (λ (ys : List Act). Fits (refused (of_uses xs) f) ys) (flat_uses o) (refused_fits (of_uses xs) f)

-- DECLARING

-- what a search finds with one variable more, if that is not it
found_before : (x : ℕ) (is : List (Ident Spot)) (j i : Ident Spot) → first_named x (is ++ (j ∷ [])) ≡ some i → (i.id ≡ j.id → true ≡ false) → first_named x is ≡ some i
unfolding first_named first
found_before x [] j i h e = (elim (eqb j.name x) as (λ b. eqb j.name x ≡ b → first_named x [] ≡ some i) [
  | true ↦ λ q. (let z : some j ≡ some i = rw (q, first) at h in let y : i ≡ j = cc in true_false (e (ap (λ (w : Ident Spot). w.id) y)))
  | false ↦ λ q. none_some i (rw (q, first) at h)
]) refl
found_before x (k ∷ is) j i h e = (elim (eqb k.name x) as (λ b. eqb k.name x ≡ b → first_named x (k ∷ is) ≡ some i) [
  | true ↦ λ q. rw (q, first) (rw (q, first) at h)
  | false ↦ λ q. rw (q, first) (found_before x is j i (rw (q, first) at h) e)
]) refl

-- what was found is found with one more
found_still : (x : ℕ) (is : List (Ident Spot)) (j i : Ident Spot) → first_named x is ≡ some i → first_named x (is ++ (j ∷ [])) ≡ some i
unfolding first_named first
found_still x [] j i h = none_some i h
found_still x (k ∷ is) j i h = (elim (eqb k.name x) as (λ b. eqb k.name x ≡ b → first_named x ((k ∷ is) ++ (j ∷ [])) ≡ some i) [
  | true ↦ λ q. rw (q, first) (rw (q, first) at h)
  | false ↦ λ q. rw (q, first) (found_still x is j i (rw (q, first) at h))
]) refl

-- a declaration statement's variable is known where it is no duplicate; and a duplicate is never found
knows_declared : {K : ℕ → ℕ → Type 0} {n : Names} {a : Analyzer Spot} (i : Ident Spot) → Orderly a → (first_named i.name (Q.variables a) ≡ none → K n.count a.resolution_id) → Knows K n a → Knows K (declared i n) (Q.declare_variable 4 i a).1
unfolding Q.declare_variable Q.next_id Q.with_stack Q.push_variable Q.authoritative Q.variables resolved declared with_scope
knows_declared {K} {n} {a} i o h v = record { entries = subst (λ (l : List (Ident Spot)). Beside (Known K l (a.resolution_id + 1)) (n.scope ++ ((i.name, local n.count i.place.from) ∷ [])) l) (append_assoc a.variable_stack.constants a.variable_stack.locals (new ∷ [])) (beside_last i.name _ new refl itself (beside_map go v.entries)) }
  where
    new : Ident Spot
    new = Q.authoritative a i

    is : List (Ident Spot)
    is = Q.variables a

    unlike : (j : Ident Spot) → first_named i.name is ≡ some j → first_named i.name (is ++ (new ∷ [])) ≡ some new → true ≡ false
    unlike j e q =
        let z : some j ≡ some new = sym (found_still i.name is new j e) ∙ q in
        let y : j ≡ new = cc in
        sym (found_held i.name is j e) ∙ ap (λ (w : Ident Spot). is_in w.id (ids_in is)) y ∙ (o.fresh a.resolution_id (omega arith)).unheld

    known : (r : Option (Ident Spot)) → first_named i.name is ≡ r → first_named i.name (is ++ (new ∷ [])) ≡ some new → K n.count a.resolution_id
    known none e q = h e
    known (some j) e q = true_false (unlike j e q)

    itself : Known K (is ++ (new ∷ [])) (a.resolution_id + 1) (local n.count i.place.from) new
    itself = k_local {i = new} (omega arith) (known _ refl)

    go : (t : Target) (j : Ident Spot) → Known K is a.resolution_id t j → Known K (is ++ (new ∷ [])) (a.resolution_id + 1) t j
    go (local k d) j (k_local p q) = k_local {i = j} (omega arith) (λ e. q (found_before j.name is new j e (λ z. one_zero (omega arith))))
    go no_local j k_other = k_other

-- STATEMENTS

-- what stands of declaration statements is known
pub record Declared (K : ℕ → ℕ → Type 0) (x x' : Outline) (xs : List Act) : Type 0 where
  pub known : (at k : ℕ) (j j' : Ident Spot) → Stands (declares j) (declares j') x x' at → Nth xs at (run k) → K k j'.id

-- parts of them
declared_first : {K : ℕ → ℕ → Type 0} {x x' y y' : Outline} {xs : List Act} (ys : List Act) → Declared K (both x y) (both x' y') (xs ++ ys) → Declared K x x' xs
declared_first ys h = record { known = λ at k j j' s q. h.known at k j j' (in_first s) (nth_left ys q) }

declared_second : {K : ℕ → ℕ → Type 0} {x x' y y' : Outline} {ys : List Act} (xs : List Act) → Sized x xs → Declared K (both x y) (both x' y') (xs ++ ys) → Declared K y y' ys
declared_second {x = x} {ys = ys} xs e h = record { known = λ at k j j' s q. h.known (size x + at) k j j' (in_second s) (subst (λ (m : ℕ). Nth (xs ++ ys) (m + at) (run k)) (sym e.same) (nth_right xs q)) }

-- statements: all that stands is answered, and the variables behind them are known
pub record Heard (K : ℕ → ℕ → Type 0) {s : StmSort} (t : Stm Spot s) (n : Names) (f : ℕ → St) (a : Analyzer Spot) : Type 0 where
  pub replies : Replies K (outline_stm (stands n) t) (outline_stm any_type (V'.analyze_stm t a).0) (acts t n).0 (refused (sk t n) f)
  pub knows : Knows K (acts t n).1 (V'.analyze_stm t a).1

-- an act of an If's own
replies_after : {K : ℕ → ℕ → Type 0} {y y' : Outline} {ys : List Act} {cs : List Bool} (x : Act) → Replies K y y' ys cs → Replies K (both (point other) y) (both (point other) y') (x ∷ ys) (false ∷ cs)
unfolding is_base acts_at
replies_after x q = replies_both {xs = x ∷ []} {bs = false ∷ []} (sized_one other x refl) (f_no f_nil) (replies_other other refl) q

-- behind an act of an If's own
declared_after : {K : ℕ → ℕ → Type 0} {y y' : Outline} {ys : List Act} (x : Act) → Declared K (both (point other) y) (both (point other) y') (x ∷ ys) → Declared K y y' ys
unfolding acts_at
declared_after x h = declared_second (x ∷ []) (sized_one other x refl) h

-- the same test in other words
replies_test : {K : ℕ → ℕ → Type 0} {s : StmSort} {g h : Ty Spot → Bool} {x' : Outline} {xs : List Act} {bs : List Bool} (t : Stm Spot s) → g ≡ h → Replies K (outline_stm g t) x' xs bs → Replies K (outline_stm h t) x' xs bs
replies_test {K} {x' = x'} {xs} {bs} t e p = subst (λ (y : Ty Spot → Bool). Replies K (outline_stm y t) x' xs bs) e p

declared_test : {K : ℕ → ℕ → Type 0} {s : StmSort} {g h : Ty Spot → Bool} {x' : Outline} {xs : List Act} (t : Stm Spot s) → g ≡ h → Declared K (outline_stm g t) x' xs → Declared K (outline_stm h t) x' xs
declared_test {K} {x' = x'} {xs} t e p = subst (λ (y : Ty Spot → Bool). Declared K (outline_stm y t) x' xs) e p

-- a declaration statement, by whether it is a duplicate
replies_declaration : {K : ℕ → ℕ → Type 0} {x : Outline} {xs : List Act} {bs : List Bool} (p : Spot) (v : Option (Expr Spot)) (t : Carried Spot) (i j : Ident Spot) (o : Option (Ident Spot)) (k : ℕ) → Sized x xs → Fits bs xs → Replies K x (outline_option any_type v) xs bs → Replies K (both x (point (declares i))) (outline_stm any_type (V'.declaration_of p v t (Q.unless_duplicate 4 j o))) (xs ++ (run k ∷ [])) (bs ++ (false ∷ []))
unfolding V'.declaration_of Q.unless_duplicate outline_stm is_base
replies_declaration p v t i j none k e f h = replies_both e f h (replies_other (declares i) refl)
replies_declaration p v t i j (some j') k e f h = replies_dropped

-- where it is none, it is known
known_declaration : {K : ℕ → ℕ → Type 0} {x : Outline} {xs : List Act} (p : Spot) (v : Option (Expr Spot)) (t : Carried Spot) (i j : Ident Spot) (o : Option (Ident Spot)) (k : ℕ) → Sized x xs → Declared K (both x (point (declares i))) (outline_stm any_type (V'.declaration_of p v t (Q.unless_duplicate 4 j o))) (xs ++ (run k ∷ [])) → o ≡ none → K k j.id
unfolding V'.declaration_of Q.unless_duplicate outline_stm
known_declaration {xs = xs} p v t i j none k e h q = (declared_second xs e h).known 0 k i j here n_here
known_declaration p v t i j (some j') k e h q = let z : true ≡ false = cc in true_false z

-- a method call, by whether its name is there
replies_method : {K : ℕ → ℕ → Type 0} {x : Outline} {xs : List Act} {bs : List Bool} (b : ℕ) (es : Node Spot (list_of expr)) (o : Maybe Spot (Ident Spot)) → Replies K x (outline any_type es) xs bs → Replies K x (outline_stm any_type (V'.method_to b es o)) xs bs
unfolding V'.method_to outline_stm
replies_method b es (ok i) h = h
replies_method b es (err z) h = replies_dropped

-- what may be absent
pub replies_option : {K : ℕ → ℕ → Type 0} (v : Option (Expr Spot)) (n : Names) (f : ℕ → St) (a : Analyzer Spot) → Sees n f a → Knows K n a → Replies K (outline_option (stands n) v) (outline_option any_type (V'.analyze_option V'.analyze_node v a).0) (option_uses n v) (refused (of_uses (option_uses n v)) f)
unfolding outline_option V'.analyze_option S.◌>>=◌ S.ret option_uses
replies_option none n f a v k = replies_empty
replies_option (some x) n f a v k = replies_uses (only_uses n x) (λ at i r s. answered x n f a at v k s)

-- ALL THAT STANDS OF STATEMENTS IS ANSWERED
pub heard : {K : ℕ → ℕ → Type 0} {s : StmSort} (t : Stm Spot s) (w : Bool) (met : ℕ → Bool) (n : Names) (f : ℕ → St) (a : Analyzer Spot) → Mode w (is_one s && not_bare t) → premise t ≡ true → Clear met (sk t n) → InStep w met n f a → Knows K n a → Declared K (outline_stm (stands n) t) (outline_stm any_type (V'.analyze_stm t a).0) (acts t n).0 → Heard K t n f a
unfolding V'.analyze_stm S.◌>>=◌ S.ret Q.declare_variable Q.authoritative resolved sk acts refused outline_stm is_one not_bare premise Q.in_new_scope Q.prepare_to_prune_at_goto Q.prune_at_label Q.with_prunings Q.with_stack with_scope is_base
heard nil' w met n f a o h c v k d = record { replies = replies_empty; knows = k }
heard {K} (cons' t ts) w met n f a o h c v k d =
    let e : w ≡ true = ⊎_elim (λ x. x) (λ x. true_false (sym x)) o in
    let n₁ = (acts t n).1 in
    let a₁ = (V'.analyze_stm t a).1 in
    let p = step t w met n f a (inl e) (and_left _ _ h) (clear_first c) v in
    let q = heard t w met n f a (inl e) (and_left _ _ h) (clear_first c) v k (declared_first _ d) in
    let z = same_stands t n in
    let r = heard ts w _ n₁ _ a₁ (inl e) (and_right (premise t) _ h) (clear_second c) p.instep q.knows (declared_test ts (sym z) (declared_second (acts t n).0 (sized_stm t n) d)) in
    record {
      replies = replies_both (sized_stm t n) (fits_stm t n f) q.replies (replies_test ts z r.replies);
      knows = r.knows;
    }
heard {K} (declaration p v t i) w met n f a o h c z k d =
    let l = looked_option v n f a (sees z) in
    let s = steady_option V'.analyze_node v a (λ x. steady_node x a) in
    let a₁ = (V'.analyze_option V'.analyze_node v a).1 in
    let a₂ = (V'.analyze_option V'.analyze_maybe_type t a₁).1 in
    let l' = looked_more l (looked_carried t n f a₁ (sees_after (sees z) s l.contains)) in
    let s' = steady_trans s (steady_option V'.analyze_maybe_type t a₁ (λ x. steady_maybe x a₁)) in
    let q = step_uses (option_uses n v) z s' l' in
    let found = first_named i.name (Q.variables a₂) in
    record {
      replies = replies_declaration p (V'.analyze_option V'.analyze_node v a).0 (V'.analyze_option V'.analyze_maybe_type t a₁).0 i (Q.authoritative a₂ i) found n.count (sized_option n v) (fits_uses (only_option n v) f) (replies_option v n f a (sees z) k);
      knows = knows_declared i q.instep.orderly (known_declaration p (V'.analyze_option V'.analyze_node v a).0 (V'.analyze_option V'.analyze_maybe_type t a₁).0 i (Q.authoritative a₂ i) found n.count (sized_option n v) d) (knows_after s'.stack s'.rise k);
    }
heard (assignment p x r) w met n f a o h c v k d =
    let q = step_uses (uses n x) v (steady_node x a) (looked x n f a (sees v)) in
    let s = steady_node x a in
    let a₁ = (V'.analyze_node x a).1 in
    let k₁ = knows_after s.stack s.rise k in
    let s' = steady_node r a₁ in
    record {
      replies = replies_both (sized_uses n x) (fits_uses (only_uses n x) f) (replies_uses (only_uses n x) (λ at i y u. answered x n f a at (sees v) k u)) (replies_uses (only_uses n r) (λ at i y u. answered r n _ a₁ at (sees q.instep) k₁ u));
      knows = knows_after s'.stack s'.rise k₁;
    }
heard (method_call i b es) w met n f a o h c v k d =
    let s = steady_trans (steady_node es a) (steady_called i b (V'.analyze_node es a).1) in
    record {
      replies = replies_method b _ _ (replies_uses (only_uses n es) (λ at j y u. answered es n f a at (sees v) k u));
      knows = knows_after s.stack s.rise k;
    }
heard (loop p) w met n f a o h c v k d = record { replies = replies_empty; knows = k }
heard (goto i p) w met n f a o h c v k d = record { replies = replies_other other refl; knows = knows_after refl (omega arith) k }
heard (label i p) w met n f a o h c v k d = record { replies = replies_other other refl; knows = knows_after refl (omega arith) k }
heard {K} (if_else p op q r x y t e) w met n f a o h c v k d =
    let h₁ = and_left _ _ h in
    let h₂ = and_left _ _ h₁ in
    let ht = and_right (not_bare t && not_bare e) _ h₁ in
    let he = and_right (not_bare t && not_bare e && premise t) _ h in
    let bt = and_left _ _ h₂ in
    let be = and_right (not_bare t) _ h₂ in
    let n₁ = (acts t n).1 in
    let a₁ = (V'.analyze_node x a).1 in
    let a₂ = (V'.analyze_node y a₁).1 in
    let a₃ = (V'.analyze_stm t a₂).1 in
    let u₁ = steady_node x a in
    let u₂ = steady_node y a₁ in
    let k₁ = knows_after u₁.stack u₁.rise k in
    let k₂ = knows_after u₂.stack u₂.rise k₁ in
    let p₁ = step_uses (uses n x) v u₁ (looked x n f a (sees v)) in
    let p₂ = step_uses (uses n y) p₁.instep u₂ (looked y n _ a₁ (sees p₁.instep)) in
    let c₁ = clear_second (clear_second c) in
    let p₃ = step t false _ n _ a₂ (inr bt) ht (clear_then c₁) (in_branch p₂.instep) in
    let v₃ = in_behind p₂.instep ((g_stm t).go a₂) p₃.further (same_scope t n refl bt ht) (same_stack t a₂ refl bt ht) p₃.instep in
    let d₁ = declared_after (fork _) (declared_second (uses n y) (sized_uses n y) (declared_second (uses n x) (sized_uses n x) d)) in
    let d₂ = declared_after (past _) (declared_second (acts t n).0 (sized_stm t n) d₁) in
    let z = same_stands t n in
    let q₁ = heard t false _ n _ a₂ (inr bt) ht (clear_then c₁) (in_branch p₂.instep) k₂ (declared_first _ d₁) in
    let q₂ = heard e false _ n₁ _ a₃ (inr be) he (clear_else c₁) (in_branch v₃) q₁.knows (declared_test e (sym z) d₂) in
    record {
      replies = replies_both (sized_uses n x) (fits_uses (only_uses n x) f) (replies_uses (only_uses n x) (λ at i b s. answered x n f a at (sees v) k s))
          (replies_both (sized_uses n y) (fits_uses (only_uses n y) _) (replies_uses (only_uses n y) (λ at i b s. answered y n _ a₁ at (sees p₁.instep) k₁ s))
          (replies_after (fork _) (replies_both (sized_stm t n) (fits_stm t n _) q₁.replies (replies_after (past _) (replies_test e z q₂.replies)))));
      knows = q₂.knows;
    }
heard (block p ts) w met n f a o h c v k d =
    let q = heard ts true met n _ (new_scope a) (inl refl) h (clear_scope c) (in_scope v) (knows_scope _ k) d in
    record { replies = q.replies; knows = record { entries = (knows_after {b = Q.with_stack (V'.analyze_stm ts (new_scope a)).1 a.variable_stack} refl ((g_stm ts).go (new_scope a)).rise k).entries } }
heard (bad_stmt z) w met n f a o h c v k d = record { replies = replies_empty; knows = k }
heard no_else w met n f a o h c v k d = record { replies = replies_empty; knows = k }
heard (or_else p t) w met n f a o h c v k d = let q = heard t w met n f a o h c v k d in record { replies = q.replies; knows = q.knows }

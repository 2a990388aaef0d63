-- Expressions of a body: what the second pass does with their uses, beside what walks know of them.
use Prim.Native.Nat.{ℕ, zero, suc}
use mathlib.Core.Bool.{Bool, true, false, ◌&&◌}
use mathlib.Core.Path.{◌≡◌, refl, sym, ◌∙◌, ap, subst}
use mathlib.Core.List.{List, [], ◌∷◌, ◌++◌, append_assoc, append-nil}
use mathlib.Core.Option.{Option, none, some}
use Rattle.penne.specs.Find.{is_in, first_named}
use Rattle.penne.specs.Pruning.{Fate, pruned, poisoned, standing, fate, Prunings, poison_variable, list_skip, offsets}
use Rattle.penne.specs.Containers.{Containment, structures}
use Rattle.penne.specs.Scopes.{Analyzer}
use Rattle.penne.specs.Tree.{Spot, Ident, Maybe, ok, err, Ty, plain, array, array_with_named_length, arraylike, struct, word, unresolved, nameless, pointer, view, Sort, Node, nil, cons, binary, unary, boolean, signed, bits, string, array_literal, structural, parenthesized, deref, bit_cast, type_cast, length_of_array, size_of, function_call, bad_expr, reference, element, member, member_expression, Expr}
use Rattle.penne.specs.Walks.{Act, use_of, run, jump, target, fork, past, Target, local, no_local, Names, stands, base_use, uses, option_uses, record_of, record_if}
use Rattle.penne.specs.State as S
use Rattle.penne.specs.Scopes as Q
use Rattle.penne.specs.Variables as V'
use Rattle.penne.proofs.Booleans.{true_false, and-true}
use Rattle.penne.proofs.PruningIsFlow.{St, gone_at}
use Rattle.penne.proofs.Steady.{is_gone, is_some, gone_id, Steady, steady_node, steady_base, steady_type}
use Rattle.penne.proofs.Beside.{Beside, Found, found, unfound, beside_find, beside_map}

-- WHAT A USE LOOKS AT

-- the variable i beside what its name stands for: a local does not stand exactly where f says so, all else stands
pub data Looks (f : ℕ → St) (s : Prunings Spot) : Target → Ident Spot → Type 0 where
  l_local : {k d : ℕ} {i : Ident Spot} → i.place.from ≡ d → gone_id i.id s ≡ (f k).gone → Looks f s (local k d) i
  l_other : {i : Ident Spot} → gone_id i.id s ≡ false → Looks f s no_local i

-- in a body: the names that types can hold, and no constant's value
pub record Typed (n : Names) (a : Analyzer Spot) : Type 0 where
  pub outside : a.containment.in_constexpr_of_constant ≡ none
  pub consts : (x : ℕ) → is_some (first_named x a.variable_stack.constants) ≡ is_in x n.constants
  pub structs : (x : ℕ) → is_some (first_named x (structures a.containment.containers)) ≡ is_in x n.structures

-- and names and variables side by side
pub record Sees (n : Names) (f : ℕ → St) (a : Analyzer Spot) : Type 0 where
  pub entries : Beside (Looks f a.prunings) n.scope (Q.variables a)
  pub outside : a.containment.in_constexpr_of_constant ≡ none
  pub consts : (x : ℕ) → is_some (first_named x a.variable_stack.constants) ≡ is_in x n.constants
  pub structs : (x : ℕ) → is_some (first_named x (structures a.containment.containers)) ≡ is_in x n.structures

-- TYPES

-- it is no poison
unfoldable pub is_ok : {P A : Type 0} → Maybe P A → Bool
is_ok (ok x) = true
is_ok (err z) = false

-- what a step in the state a answered: the state is as it was, and b is false where it refuses
pub record Stays {A : Type 0} (r : Maybe Spot A × Analyzer Spot) (a : Analyzer Spot) (b : Bool) : Type 0 where
  pub same : r.1 ≡ a
  pub okay : is_ok r.0 ≡ b

-- steps that are made of such steps
stays_ok : {A : Type 0} (x : A) (a : Analyzer Spot) → Stays (S.ret {A = Maybe Spot A} (ok x) a) a true
unfolding S.ret is_ok
stays_ok x a = record { same = refl; okay = refl }

stays_try : {A B : Type 0} (m : Q.Pass Spot (Maybe Spot A)) (f : A → Q.Pass Spot (Maybe Spot B)) (a : Analyzer Spot) (b c : Bool) → Stays (m a) a b → ((x : A) → Stays (f x a) a c) → Stays ((S.◌>>?◌ m f) a) a (b && c)
unfolding S.◌>>?◌ S.◌>>=◌ S.or_poison S.ret is_ok
stays_try {A} {B} m f a b c p h = go (m a).0 (m a).1 p.same p.okay
  where
    go : (r : Maybe Spot A) (a' : Analyzer Spot) → a' ≡ a → is_ok r ≡ b → Stays {A = B} (S.or_poison f r a') a (b && c)
    go (ok x) a' e o = record { same = ap (λ (z : Analyzer Spot). (f x z).1) e ∙ (h x).same; okay = ap (λ (z : Analyzer Spot). is_ok (f x z).0) e ∙ (h x).okay ∙ ap (λ (y : Bool). y && c) o }
    go (err z) a' e o = record { same = e; okay = ap (λ (y : Bool). y && c) o }

-- names in types
stays_containee : (i : Ident Spot) (o : Option (Ident Spot)) (a : Analyzer Spot) → o ≡ none → Stays (Q.use_containee i o a) a true
unfolding Q.use_containee S.ret is_ok
stays_containee i none a e = record { same = refl; okay = refl }
stays_containee i (some c) a e = let z : true ≡ false = cc in true_false z

stays_const : (i : Ident Spot) (o o' : Option (Ident Spot)) (a : Analyzer Spot) → a.containment.in_constexpr_of_constant ≡ none → Stays (Q.use_constant_at i o o' a) a (is_some o)
unfolding Q.use_constant_at Q.use_as Q.undefined S.ret is_ok is_some
stays_const i (some j) o' a e = stays_containee _ _ a e
stays_const i none (some j) a e = record { same = refl; okay = refl }
stays_const i none none a e = record { same = refl; okay = refl }

stays_struct : (i : Ident Spot) (o : Option (Ident Spot)) (a : Analyzer Spot) → a.containment.in_constexpr_of_constant ≡ none → Stays (Q.use_struct_at i o a) a (is_some o)
unfolding Q.use_struct_at Q.use_as Q.undefined S.ret is_ok is_some
stays_struct i (some j) a e = stays_containee _ _ a e
stays_struct i none a e = record { same = refl; okay = refl }

stays_as : {A : Type 0} {r : Maybe Spot A × Analyzer Spot} {a : Analyzer Spot} {b c : Bool} → b ≡ c → Stays r a b → Stays r a c
stays_as {A} {r} {a} e p = subst (λ (z : Bool). Stays r a z) e p

-- a type in a body leaves everything as it is, and is refused exactly where `stands` says so
pub stays_type : (t : Ty Spot) (n : Names) (a : Analyzer Spot) → Typed n a → Stays (V'.analyze_type t a) a (stands n t)
unfolding V'.analyze_type Q.use_struct Q.use_constant stands
stays_type (plain k) n a s = stays_ok _ a
stays_type (array t l) n a s = stays_as (and-true _) (stays_try _ _ a _ true (stays_type t n a s) (λ x. stays_ok _ a))
stays_type (array_with_named_length t i) n a s = stays_try _ _ a _ _ (stays_type t n a s) (λ x. stays_as (and-true _) (stays_try _ _ a _ true (stays_as (s.consts i.name) (stays_const i _ _ a s.outside)) (λ y. stays_ok _ a)))
stays_type (arraylike k t) n a s = stays_as (and-true _) (stays_try _ _ a _ true (stays_type t n a s) (λ x. stays_ok _ a))
stays_type (struct i) n a s = stays_as (and-true _) (stays_try _ _ a _ true (stays_as (s.structs i.name) (stays_struct i _ a s.outside)) (λ x. stays_ok _ a))
stays_type (word i z) n a s = stays_as (and-true _) (stays_try _ _ a _ true (stays_as (s.structs i.name) (stays_struct i _ a s.outside)) (λ x. stays_ok _ a))
stays_type (unresolved i) n a s = stays_as (and-true _) (stays_try _ _ a _ true (stays_as (s.structs i.name) (stays_struct i _ a s.outside)) (λ x. stays_ok _ a))
stays_type nameless n a s = stays_ok _ a
stays_type (pointer t) n a s = stays_as (and-true _) (stays_try _ _ a _ true (stays_type t n a s) (λ x. stays_ok _ a))
stays_type (view t) n a s = stays_as (and-true _) (stays_try _ _ a _ true (stays_type t n a s) (λ x. stays_ok _ a))

-- so it is with what uses look at
pub typed : {n : Names} {f : ℕ → St} {a : Analyzer Spot} → Sees n f a → Typed n a
typed s = record { outside = s.outside; consts = s.consts; structs = s.structs }

-- EXPRESSIONS

-- whether an act is a use of what does not stand
unfoldable pub gone_use : (ℕ → St) → Act → Bool
gone_use f (use_of u t) = gone_at f t
gone_use f (run k) = false
gone_use f (jump l) = false
gone_use f (target l) = false
gone_use f (fork k) = false
gone_use f (past k) = false

-- the records of the uses among these acts whose local does not stand
unfoldable pub told : (ℕ → St) → List Act → List (ℕ × ℕ)
told f [] = []
told f (x ∷ xs) = record_if (gone_use f x) x ++ told f xs

-- of two lists
told-append : (f : ℕ → St) (xs ys : List Act) → told f (xs ++ ys) ≡ told f xs ++ told f ys
unfolding told
told-append f [] ys = refl
told-append f (x ∷ xs) ys = ap (λ (l : List (ℕ × ℕ)). record_if (gone_use f x) x ++ l) (told-append f xs ys) ∙ sym (append_assoc (record_if (gone_use f x) x) (told f xs) (told f ys))

-- from a to a' these acts were looked at: containers are the same, and the list has their records
pub record Looked (f : ℕ → St) (xs : List Act) (a a' : Analyzer Spot) : Type 0 where
  pub contains : a'.containment ≡ a.containment
  pub list : offsets a'.prunings.skips ≡ offsets a.prunings.skips ++ told f xs

-- nothing was looked at
looked_none : (f : ℕ → St) (a : Analyzer Spot) → Looked f [] a a
unfolding told
looked_none f a = record { contains = refl; list = sym (append-nil _) }

-- one after the other
looked_trans : {f : ℕ → St} {xs ys : List Act} {a b c : Analyzer Spot} → Looked f xs a b → Looked f ys b c → Looked f (xs ++ ys) a c
looked_trans {f} {xs} {ys} {a} {b} {c} p q =
    record {
      contains = q.contains ∙ p.contains;
      list = q.list ∙ ap (λ (l : List (ℕ × ℕ)). l ++ told f ys) p.list ∙ append_assoc (offsets a.prunings.skips) (told f xs) (told f ys) ∙ ap (λ (l : List (ℕ × ℕ)). offsets a.prunings.skips ++ l) (sym (told-append f xs ys));
    }

-- the same uses of the same locals may be looked at afterwards
pub sees_after : {n : Names} {f : ℕ → St} {a b : Analyzer Spot} → Sees n f a → Steady a b → b.containment ≡ a.containment → Sees n f b
unfolding Q.variables
sees_after {n} {f} {a} {b} s t e = record {
  entries = subst (λ (z : Q.Scope Spot). Beside (Looks f b.prunings) n.scope (z.constants ++ z.locals)) (sym t.stack) (beside_map go s.entries);
  outside = ap (λ (c : Containment Spot). c.in_constexpr_of_constant) e ∙ s.outside;
  consts = λ x. ap (λ (z : Q.Scope Spot). is_some (first_named x z.constants)) t.stack ∙ s.consts x;
  structs = λ x. ap (λ (c : Containment Spot). is_some (first_named x (structures c.containers))) e ∙ s.structs x;
}
  where
    go : (t' : Target) (i : Ident Spot) → Looks f a.prunings t' i → Looks f b.prunings t' i
    go (local k d) i (l_local p q) = l_local p (t.gone i.id ∙ q)
    go no_local i (l_other q) = l_other (t.gone i.id ∙ q)

looked_same : {f : ℕ → St} {a b : Analyzer Spot} → b ≡ a → Looked f [] a b
looked_same {f} {a} {b} e = subst (λ (z : Analyzer Spot). Looked f [] a z) (sym e) (looked_none f a)

-- no record
looked_silent : {f : ℕ → St} {a b : Analyzer Spot} (x : Act) → record_if (gone_use f x) x ≡ [] → Looked f [] a b → Looked f (x ∷ []) a b
unfolding told
looked_silent {f} {a} x e p = record { contains = p.contains; list = p.list ∙ ap (λ (l : List (ℕ × ℕ)). offsets a.prunings.skips ++ (l ++ [])) (sym e) }

-- a use of what stands
looked_standing : {f : ℕ → St} (i j : Ident Spot) (x : Act) (a : Analyzer Spot) → a.containment.in_constexpr_of_constant ≡ none → record_if (gone_use f x) x ≡ [] → Looked f (x ∷ []) a (Q.use_as i j a).1
unfolding Q.use_as
looked_standing i j x a o e = looked_silent x e (looked_same (stays_containee _ _ a o).same)

-- one more record
offsets_last : (rs : List (Spot × Spot)) (p q : Spot) → offsets (rs ++ ((p, q) ∷ [])) ≡ offsets rs ++ ((p.from, q.from) ∷ [])
unfolding offsets
offsets_last [] p q = refl
offsets_last (r ∷ rs) p q = ap (λ (l : List (ℕ × ℕ)). (r.0.from, r.1.from) ∷ l) (offsets_last rs p q)

-- the record of a use of a local that does not stand
told-local : (f : ℕ → St) (k d u e : ℕ) → (f k).gone ≡ true → e ≡ d → told f (use_of u (local k d) ∷ []) ≡ (u, e) ∷ []
unfolding told gone_use gone_at record_if record_of
told-local f k d u e h q = rw (h, q)

-- a use of a local that does not stand
looked_gone : {f : ℕ → St} (i j : Ident Spot) (k d : ℕ) (s : Prunings Spot) (a : Analyzer Spot) → s.skips ≡ a.prunings.skips → (f k).gone ≡ true → j.place.from ≡ d → Looked f (use_of i.place.from (local k d) ∷ []) a (Q.with_prunings a (list_skip i j s))
unfolding Q.with_prunings list_skip
looked_gone {f} i j k d s a e h q = record {
  contains = refl;
  list = ap (λ (l : List (Spot × Spot)). offsets (l ++ ((i.place, j.place) ∷ []))) e ∙ offsets_last a.prunings.skips i.place j.place ∙ ap (λ (l : List (ℕ × ℕ)). offsets a.prunings.skips ++ l) (sym (told-local f k d i.place.from j.place.from h q));
}

-- a local that stands has no record
not_gone : (f : ℕ → St) (k d u : ℕ) → (f k).gone ≡ false → record_if (gone_use f (use_of u (local k d))) (use_of u (local k d)) ≡ []
unfolding gone_use gone_at record_if
not_gone f k d u h = rw h

-- the use i of the variable j, by what became of it
looked_by : {f : ℕ → St} (i j : Ident Spot) (t : Target) (x : Fate Spot) (a : Analyzer Spot) → a.containment.in_constexpr_of_constant ≡ none → fate j.id a.prunings ≡ x → Looks f a.prunings t j → Looked f (use_of i.place.from t ∷ []) a (Q.use_variable_by i j x a).1
unfolding Q.use_variable_by is_gone gone_id gone_use gone_at record_if poison_variable
looked_by {f} i j (local k d) (pruned c) a o e (l_local p q) = looked_gone i j k d (poison_variable j.id a.prunings) a refl (sym q ∙ ap is_gone e) p
looked_by {f} i j (local k d) poisoned a o e (l_local p q) = looked_gone i j k d a.prunings a refl (sym q ∙ ap is_gone e) p
looked_by {f} i j (local k d) standing a o e (l_local p q) = looked_standing i j _ a o (not_gone f k d i.place.from (sym q ∙ ap is_gone e))
looked_by i j no_local (pruned c) a o e (l_other q) = true_false (sym (ap is_gone e) ∙ q)
looked_by i j no_local poisoned a o e (l_other q) = true_false (sym (ap is_gone e) ∙ q)
looked_by i j no_local standing a o e (l_other q) = looked_standing i j _ a o refl

looked_at : {f : ℕ → St} (i : Ident Spot) (t : Target) (o : Option (Ident Spot)) (a : Analyzer Spot) → a.containment.in_constexpr_of_constant ≡ none → Found (Looks f a.prunings) t o → Looked f (use_of i.place.from t ∷ []) a (Q.use_variable_at i o a).1
unfolding Q.use_variable_at S.ret gone_use gone_at record_if
looked_at i t (some j) a e (found q) = looked_by i j t _ a e refl q
looked_at i (local n d) none a e x = elim x [ ]
looked_at {f} i no_local none a e unfound = looked_silent _ refl (looked_none f a)

-- the base of a reference
pub looked_base : (b : Maybe Spot (Ident Spot)) (n : Names) (f : ℕ → St) (a : Analyzer Spot) → Sees n f a → Looked f (base_use n b) a (V'.analyze_base b a).1
unfolding V'.analyze_base Q.use_variable S.ret base_use
looked_base (ok i) n f a s = looked_at i _ _ a s.outside (beside_find i.name s.entries)
looked_base (err z) n f a s = looked_none f a

-- types have no uses
looked_type : (t : Ty Spot) (n : Names) (f : ℕ → St) (a : Analyzer Spot) → Sees n f a → Looked f [] a (V'.analyze_type t a).1
looked_type t n f a s = looked_same (stays_type t n a (typed s)).same

pub looked_maybe : (t : Maybe Spot (Ty Spot)) (n : Names) (f : ℕ → St) (a : Analyzer Spot) → Sees n f a → Looked f [] a (V'.analyze_maybe_type t a).1
unfolding V'.analyze_maybe_type S.ret
looked_maybe (ok t) n f a s = looked_type t n f a s
looked_maybe (err z) n f a s = looked_none f a

-- nor have the names of calls
pub looked_called : (i : Ident Spot) (b : ℕ) (f : ℕ → St) (a : Analyzer Spot) → Looked f [] a (V'.use_called i b a).1
unfolding V'.use_called Q.use_function S.ret
looked_called i ℕ.zero f a = looked_none f a
looked_called i (suc b) f a = looked_none f a

-- nothing more was looked at
pub looked_more : {f : ℕ → St} {xs : List Act} {a b c : Analyzer Spot} → Looked f xs a b → Looked f [] b c → Looked f xs a c
looked_more {f} {xs} {a} {b} {c} p q = subst (λ (l : List Act). Looked f l a c) (append-nil xs) (looked_trans p q)

-- "A cast whose type is refused never looks at its operand."
looked_cast : (p q : Spot) (m : Q.Pass Spot (Expr Spot)) (f : ℕ → St) (xs : List Act) (r : Maybe Spot (Ty Spot)) (b : Bool) (a : Analyzer Spot) → is_ok r ≡ b → Looked f xs a (m a).1 → Looked f (elim b [ true ↦ xs | false ↦ [] ]) a (V'.cast_to p q m r a).1
unfolding V'.cast_to S.◌>>=◌ S.ret is_ok
looked_cast p q m f xs (ok t) true a e h = h
looked_cast p q m f xs (ok t) false a e h = true_false e
looked_cast p q m f xs (err z) true a e h = true_false (sym e)
looked_cast p q m f xs (err z) false a e h = looked_none f a

-- in a new scope, and with the next id
looked_scope : {f : ℕ → St} {xs : List Act} {a b : Analyzer Spot} (s : Q.Scope Spot) → Looked f xs (Q.with_stack a s) b → Looked f xs a (Q.next_id (Q.with_stack b a.variable_stack))
unfolding Q.with_stack Q.next_id
looked_scope s p = record { contains = p.contains; list = p.list }

-- the layer does not matter to a use
pub sees_scope : {n : Names} {f : ℕ → St} {a : Analyzer Spot} (m : ℕ) → Sees n f a → Sees n f (Q.with_stack a (record { constants = a.variable_stack.constants; locals = a.variable_stack.locals; layer = m }))
unfolding Q.with_stack Q.variables
sees_scope m s = record { entries = s.entries; outside = s.outside; consts = s.consts; structs = s.structs }

-- an expression in a body puts those of its examined uses into the list whose local does not stand
pub looked : {s : Sort} (x : Node Spot s) (n : Names) (f : ℕ → St) (a : Analyzer Spot) → Sees n f a → Looked f (uses n x) a (V'.analyze_node x a).1
unfolding V'.analyze_node S.◌>>=◌ S.ret Q.in_new_scope Q.create_anonymous_resolution_id uses
looked nil n f a v = looked_none f a
looked (cons x xs) n f a v = let p = looked x n f a v in looked_trans p (looked xs n f _ (sees_after v (steady_node x a) p.contains))
looked (binary op p q x y) n f a v = let l = looked x n f a v in looked_trans l (looked y n f _ (sees_after v (steady_node x a) l.contains))
looked (unary op p q x) n f a v = looked x n f a v
looked (boolean b p) n f a v = looked_none f a
looked (signed b p c) n f a v = looked_none f a
looked (bits b p c) n f a v = looked_none f a
looked (string b p) n f a v = looked_none f a
looked (array_literal p c es i) n f a v = looked_scope _ (looked es n f _ (sees_scope _ v))
looked (structural p ms c) n f a v = let l = looked ms n f a v in looked_more l (looked_maybe c n f _ (sees_after v (steady_node ms a) l.contains))
looked (parenthesized p x) n f a v = looked x n f a v
looked (deref c r) n f a v = looked r n f a v
looked (bit_cast p q c x) n f a v = looked x n f a v
looked (type_cast p q t x) n f a v =
    let t' = stays_type t n a (typed v) in
    looked_trans (looked_type t n f a v) (looked_cast p q (V'.analyze_node x) f _ _ _ _ t'.okay (looked x n f _ (sees_after v (steady_type t a) (ap (λ (z : Analyzer Spot). z.containment) t'.same))))
looked (length_of_array p r) n f a v = looked r n f a v
looked (size_of p t) n f a v = looked_type t n f a v
looked (function_call i b c es) n f a v = looked_more (looked es n f a v) (looked_called i b f _)
looked (bad_expr z) n f a v = looked_none f a
looked (reference d p q b ts) n f a v = let l = looked_base b n f a v in looked_trans l (looked ts n f _ (sees_after v (steady_base b a) l.contains))
looked (element e x) n f a v = looked x n f a v
looked (member i o) n f a v = looked_none f a
looked (member_expression i o x) n f a v = looked x n f a v

-- what may be absent
pub looked_option : (v : Option (Expr Spot)) (n : Names) (f : ℕ → St) (a : Analyzer Spot) → Sees n f a → Looked f (option_uses n v) a (V'.analyze_option V'.analyze_node v a).1
unfolding V'.analyze_option option_uses S.◌>>=◌ S.ret
looked_option none n f a v = looked_none f a
looked_option (some x) n f a v = looked x n f a v

pub looked_carried : (t : Option (Maybe Spot (Ty Spot))) (n : Names) (f : ℕ → St) (a : Analyzer Spot) → Sees n f a → Looked f [] a (V'.analyze_option V'.analyze_maybe_type t a).1
unfolding V'.analyze_option S.◌>>=◌ S.ret
looked_carried none n f a v = looked_none f a
looked_carried (some t) n f a v = looked_maybe t n f a v

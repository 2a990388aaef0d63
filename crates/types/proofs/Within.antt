-- Whatever is analysed but a constant's value, `in_constexpr_of_constant` stays: for types.
use mathlib.Core.Path.{◌≡◌, refl, ◌∙◌}
use mathlib.Core.Option.{Option, none, some}
use Rattle.penne.specs.Tree.{Spot, Ident, Maybe, ok, err, Ty, plain, array, array_with_named_length, arraylike, struct, word, unresolved, nameless, pointer, view}
use Rattle.penne.specs.State as S
use Rattle.penne.specs.Scopes.{Analyzer, Pass}
use Rattle.penne.specs.Scopes as Q
use Rattle.penne.specs.Variables as V'
use Rattle.walk.proofs.Tables.{found_whose}

-- b is in the value of the same constant as a, or of none as a
pub record Within (a b : Analyzer Spot) : Type 0 where
  pub is : b.containment.in_constexpr_of_constant ≡ a.containment.in_constexpr_of_constant

pub within_none : {a : Analyzer Spot} → Within a a
within_none = record { is = refl }

pub within_then : {a b c : Analyzer Spot} → Within a b → Within b c → Within a c
within_then f g = record { is = g.is ∙ f.is }

-- NAMES

pub within_containee : (i : Ident Spot) (o : Option (Ident Spot)) (a : Analyzer Spot) → Within a (Q.use_containee i o a).1
unfolding Q.use_containee Q.on_containment Q.with_containment S.ret
within_containee i (some c) a = record { is = found_whose c none i a.containment }
within_containee i none a = within_none

within_constant_at : (i : Ident Spot) (o o' : Option (Ident Spot)) (a : Analyzer Spot) → Within a (Q.use_constant_at i o o' a).1
unfolding Q.use_constant_at S.ret Q.use_as
within_constant_at i (some j) o' a = within_containee _ _ a
within_constant_at i none (some j) a = within_none
within_constant_at i none none a = within_none

within_constant : (i : Ident Spot) (a : Analyzer Spot) → Within a (Q.use_constant i a).1
unfolding Q.use_constant
within_constant i a = within_constant_at i _ _ a

within_struct_at : (i : Ident Spot) (o : Option (Ident Spot)) (a : Analyzer Spot) → Within a (Q.use_struct_at i o a).1
unfolding Q.use_struct_at S.ret Q.use_as
within_struct_at i (some j) a = within_containee _ _ a
within_struct_at i none a = within_none

within_struct : (i : Ident Spot) (a : Analyzer Spot) → Within a (Q.use_struct i a).1
unfolding Q.use_struct
within_struct i a = within_struct_at i _ a

-- TYPES

within_try : {A B : Type 0} (m : Pass Spot (Maybe Spot A)) (f : A → Pass Spot (Maybe Spot B)) (a : Analyzer Spot) → Within a (m a).1 → ((x : A) (b : Analyzer Spot) → Within b (f x b).1) → Within a ((S.◌>>?◌ m f) a).1
unfolding S.◌>>?◌ S.◌>>=◌ S.ret S.or_poison
within_try {A} m f a e h = go (m a).0 (m a).1 e
  where
    go : (r : Maybe Spot A) (b : Analyzer Spot) → Within a b → Within a (S.or_poison f r b).1
    go (ok x) b e = within_then e (h x b)
    go (err z) b e = e

pub within_type : (t : Ty Spot) (a : Analyzer Spot) → Within a (V'.analyze_type t a).1
unfolding V'.analyze_type S.ret
within_type (plain k) a = within_none
within_type (array t n) a = within_try _ _ a (within_type t a) (λ _ _. within_none)
within_type (array_with_named_length t i) a = within_try _ _ a (within_type t a) (λ _ b. within_try _ _ b (within_constant i b) (λ _ _. within_none))
within_type (arraylike k t) a = within_try _ _ a (within_type t a) (λ _ _. within_none)
within_type (struct i) a = within_try _ _ a (within_struct i a) (λ _ _. within_none)
within_type (word i n) a = within_try _ _ a (within_struct i a) (λ _ _. within_none)
within_type (unresolved i) a = within_try _ _ a (within_struct i a) (λ _ _. within_none)
within_type nameless a = within_none
within_type (pointer t) a = within_try _ _ a (within_type t a) (λ _ _. within_none)
within_type (view t) a = within_try _ _ a (within_type t a) (λ _ _. within_none)

pub within_maybe : (t : Maybe Spot (Ty Spot)) (a : Analyzer Spot) → Within a (V'.analyze_maybe_type t a).1
unfolding V'.analyze_maybe_type S.ret
within_maybe (ok t) a = within_type t a
within_maybe (err z) a = within_none

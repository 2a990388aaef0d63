-- Whatever is used, the containers keep their rows.
use mathlib.Core.List.{List}
use mathlib.Core.Option.{Option, none, some}
use Rattle.penne.specs.Tree.{Spot, Ident, Maybe, ok, err, Ty, plain, array, array_with_named_length, arraylike, struct, word, unresolved, nameless, pointer, view}
use Rattle.penne.specs.State as S
use Rattle.penne.specs.Containers.{Container}
use Rattle.penne.specs.Scopes.{Analyzer, Pass, with_containment, on_containment, use_containee, use_as, use_constant_at, use_constant, use_struct_at, use_struct}
use Rattle.penne.specs.Variables.{analyze_type}
use Rattle.containers.proofs.Starting.{Kept, found_kept, kept_then, kept_all}

abbrev rows : Analyzer Spot → List (Container Spot)
rows a = a.containment.containers

rows_try : {A B : Type 0} (m : Pass Spot (Maybe Spot A)) (f : A → Pass Spot (Maybe Spot B)) (a : Analyzer Spot) → Kept (rows a) (rows (m a).1) → ((x : A) (b : Analyzer Spot) → Kept (rows b) (rows (f x b).1)) → Kept (rows a) (rows ((S.◌>>?◌ m f) a).1)
unfolding S.◌>>?◌ S.◌>>=◌ S.or_poison S.ret
rows_try {A} m f a k h = go (m a).0 (m a).1 k
  where
    go : (y : Maybe Spot A) (b : Analyzer Spot) → Kept (rows a) (rows b) → Kept (rows a) (rows (S.or_poison f y b).1)
    go (ok x) b k = kept_then k (h x b)
    go (err z) b k = k

rows_containee : (i : Ident Spot) (o : Option (Ident Spot)) (a : Analyzer Spot) → Kept (rows a) (rows (use_containee i o a).1)
unfolding use_containee on_containment with_containment S.ret
rows_containee i (some c) a = found_kept c none i a.containment
rows_containee i none a = kept_all _

rows_constant_at : (i : Ident Spot) (o q : Option (Ident Spot)) (a : Analyzer Spot) → Kept (rows a) (rows (use_constant_at i o q a).1)
unfolding use_constant_at use_as S.ret
rows_constant_at i (some j) q a = rows_containee _ _ a
rows_constant_at i none (some j) a = kept_all _
rows_constant_at i none none a = kept_all _

rows_constant : (i : Ident Spot) (a : Analyzer Spot) → Kept (rows a) (rows (use_constant i a).1)
unfolding use_constant
rows_constant i a = rows_constant_at i _ _ a

rows_struct_at : (i : Ident Spot) (o : Option (Ident Spot)) (a : Analyzer Spot) → Kept (rows a) (rows (use_struct_at i o a).1)
unfolding use_struct_at use_as S.ret
rows_struct_at i (some j) a = rows_containee _ _ a
rows_struct_at i none a = kept_all _

rows_struct : (i : Ident Spot) (a : Analyzer Spot) → Kept (rows a) (rows (use_struct i a).1)
unfolding use_struct
rows_struct i a = rows_struct_at i _ a

-- after analyze_type
pub rows_type : (t : Ty Spot) (a : Analyzer Spot) → Kept (rows a) (rows (analyze_type t a).1)
unfolding analyze_type S.ret
rows_type (plain k) a = kept_all _
rows_type (array t n) a = rows_try _ _ a (rows_type t a) (λ _ _. kept_all _)
rows_type (array_with_named_length t i) a = rows_try _ _ a (rows_type t a) (λ _ b. rows_try _ _ b (rows_constant i b) (λ _ _. kept_all _))
rows_type (arraylike k t) a = rows_try _ _ a (rows_type t a) (λ _ _. kept_all _)
rows_type (struct i) a = rows_try _ _ a (rows_struct i a) (λ _ _. kept_all _)
rows_type (word i n) a = rows_try _ _ a (rows_struct i a) (λ _ _. kept_all _)
rows_type (unresolved i) a = rows_try _ _ a (rows_struct i a) (λ _ _. kept_all _)
rows_type nameless a = kept_all _
rows_type (pointer t) a = rows_try _ _ a (rows_type t a) (λ _ _. kept_all _)
rows_type (view t) a = rows_try _ _ a (rows_type t a) (λ _ _. kept_all _)

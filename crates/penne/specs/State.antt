-- `&mut Analyzer` and `?`: a step takes the state and hands it back beside its answer.
use Rattle.penne.specs.Tree.{Maybe, ok, err}

-- a step on a state S that answers an A
abbrev pub State : Type 0 → Type 0 → Type 0
State S A = S → A × S

-- one step after another
infixl 10 ◌>>=◌
unfoldable pub ◌>>=◌ : {S A B : Type 0} → State S A → (A → State S B) → State S B
◌>>=◌ m f = λ s. let (a, s') = m s in f a s'

-- the answer alone
unfoldable pub ret : {S A : Type 0} → A → State S A
ret a = λ s. (a, s)

-- the Rust's `?` by what the first step answered: a poison is passed straight up
unfoldable pub or_poison : {S P A B : Type 0} → (A → State S (Maybe P B)) → Maybe P A → State S (Maybe P B)
or_poison f (ok a) = f a
or_poison f (err z) = ret (err z)

-- the Rust's `?`
infixl 10 ◌>>?◌
unfoldable pub ◌>>?◌ : {S P A B : Type 0} → State S (Maybe P A) → (A → State S (Maybe P B)) → State S (Maybe P B)
◌>>?◌ m f = m >>= or_poison f

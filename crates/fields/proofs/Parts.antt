-- Parts that are only passed: each law takes a part of a definition for the next, as far as the end is concerned.
use Rattle.std.proofs.Common.{ℕ, zero, suc, ◌≡◌, ◌≢◌, refl, sym, ap, ◌∙◌, List, [], ◌∷◌, ◌++◌, map, length, get_or, if◌then◌else◌, nat_eq, true, false, arith}
use Rattle.std.proofs.Math.Option.{some}
use Rattle.std.proofs.Math.ListN.{get_or-map}
use lib.Dec.{eqb}
use borrow.Author.Tests.{ne_eqb, eqb-true, eqb-false}
use Rattle.penne.specs.Reader.{Cur, Got, got, refused, Reader, ◌>>=◌, ret, many, num, below, bytes}
use Rattle.penne.specs.Tree.{Spot, Ident, Poison, earlier, poison, ok, err}
use Rattle.penne.specs.Read.{name, ident, place, either, maybe, option, read_poison, poison_of, poison_fields}
use Rattle.fields.specs.Answers.{forget, identifier_and_number, bytes_and_place, poison_names, poison_places}
use Rattle.fields.proofs.Chain.{after, then_is}
use Rattle.fields.proofs.Back.{forget_got, forget_refused}

tail_go : {A B : Type 0} (g : A → B) (s : List ℕ) (q : Got A) → forget (after (λ a. ret (g a)) s q) ≡ forget q
unfolding ret forget
tail_go g s (got a d) = refl
tail_go g s (refused i p) = refl

-- what is made of a part's value does not move its end
pub tail_is : {A B : Type 0} (g : A → B) (m : Reader A) (s : List ℕ) (c : Cur) → forget ((m >>= λ a. ret (g a)) s c) ≡ forget (m s c)
tail_is g m s c = rw then_is (tail_go g s (m s c))

-- nor what is made of the values of two
pub two_is : {A B C : Type 0} (g : A → B → C) (m : Reader A) (n : Reader B) (s : List ℕ) (c : Cur) → forget ((m >>= λ a. n >>= λ b. ret (g a b)) s c) ≡ forget ((m >>= λ a. n) s c)
unfolding forget
two_is {A} g m n s c = ap forget (then_is _ _ s c) ∙ go (m s c) ∙ ap forget (sym (then_is _ _ s c))
  where
    go : (q : Got A) → forget (after (λ a. n >>= λ b. ret (g a b)) s q) ≡ forget (after (λ a. n) s q)
    go (got a d) = tail_is (g a) n s d
    go (refused i p) = refl

-- a place ends where its number does
pub place_is : (s : List ℕ) (c : Cur) → forget (place s c) ≡ forget (num s c)
unfolding place
place_is s c = tail_is (λ n. record { number = n; from = c.at }) num s c

-- what is made of an identifier and a number or a place, and of bytes and a place
pub identifier_and_number_is : {A : Type 0} (g : Ident Spot → ℕ → A) (s : List ℕ) (c : Cur) → forget ((ident >>= λ i. num >>= λ n. ret (g i n)) s c) ≡ forget (identifier_and_number s c)
unfolding identifier_and_number
identifier_and_number_is g s c = two_is g ident num s c ∙ sym (two_is (λ i n. (i, n)) ident num s c)

pub identifier_and_place_is : {A : Type 0} (g : Ident Spot → Spot → A) (s : List ℕ) (c : Cur) → forget ((ident >>= λ i. place >>= λ p. ret (g i p)) s c) ≡ forget (identifier_and_number s c)
unfolding identifier_and_number forget
identifier_and_place_is g s c = two_is g ident place s c ∙ ap forget (then_is _ _ s c) ∙ go (ident s c) ∙ ap forget (sym (then_is _ _ s c)) ∙ sym (two_is (λ i n. (i, n)) ident num s c)
  where
    go : (q : Got (Ident Spot)) → forget (after (λ _. place) s q) ≡ forget (after (λ _. num) s q)
    go (got i d) = place_is s d
    go (refused i p) = refl

pub bytes_and_place_is : {A : Type 0} (g : List ℕ → Spot → A) (s : List ℕ) (c : Cur) → forget ((bytes >>= λ b. place >>= λ p. ret (g b p)) s c) ≡ forget (bytes_and_place s c)
unfolding bytes_and_place
bytes_and_place_is g s c = two_is g bytes place s c ∙ sym (two_is (λ b p. (b, p)) bytes place s c)

-- a place that stands by itself
pub place_got : (s : List ℕ) (c : Cur) {n : ℕ} {d : Cur} → num s c ≡ got n d → place s c ≡ got (record { number = n; from = c.at }) d
unfolding place ret
place_got s c e = rw then_is (rw e refl)

pub place_refused : (s : List ℕ) (c : Cur) {i p : ℕ} → num s c ≡ refused i p → place s c ≡ refused i p
unfolding place
place_refused s c e = rw then_is (rw e refl)

-- by a tag 0 or 1: one end or another
abbrev pub by_tag : (f g : Cur → Got (Unit {0})) → Got ℕ → Got (Unit {0})
by_tag f g (got v d) = if nat_eq v 0 then f d else g d
by_tag f g (refused i p) = refused i p

not_zero : (v : ℕ) → eqb (suc v) 0 ≡ false
not_zero v = ne_eqb (suc v) 0 λ e. absurd (omega (arith, e))

either_go : {A : Type 0} (a b : Reader A) (s : List ℕ) (q : Got ℕ) → forget (after (λ k. elim k as (λ _. Reader A) [ zero ↦ a | suc _ ↦ b ]) s q) ≡ by_tag (λ d. forget (a s d)) (λ d. forget (b s d)) q
unfolding forget
either_go a b s (got zero d) = refl
either_go a b s (got (suc v) d) = rw (not_zero v)
either_go a b s (refused i p) = refl

pub either_is : {A : Type 0} (a b : Reader A) (s : List ℕ) (c : Cur) → forget (either a b s c) ≡ by_tag (λ d. forget (a s d)) (λ d. forget (b s d)) (below 2 s c)
unfolding either
either_is a b s c = ap forget (then_is _ _ s c) ∙ either_go a b s (below 2 s c)

by_tag_same : {f f' g g' : Cur → Got (Unit {0})} → ((d : Cur) → f d ≡ f' d) → ((d : Cur) → g d ≡ g' d) → (q : Got ℕ) → by_tag f g q ≡ by_tag f' g' q
by_tag_same h i (got zero d) = h d
by_tag_same h i (got (suc v) d) = rw (not_zero v) (i d)
by_tag_same h i (refused n p) = refl

-- "'Maybe X' is 0 then X, or 1 then a poison", "'Option X' is 0, or 1 then X"
module _ {A : Type 0} (m : Reader A) (s : List ℕ) (c : Cur) where
  pub maybe_is : forget (maybe m s c) ≡ by_tag (λ d. forget (m s d)) (λ d. forget (read_poison s d)) (below 2 s c)
  unfolding maybe
  maybe_is = either_is _ _ s c ∙ by_tag_same (tail_is ok m s) (tail_is err read_poison s) (below 2 s c)

  pub option_is : forget (option m s c) ≡ by_tag (λ d. got tt d) (λ d. forget (m s d)) (below 2 s c)
  unfolding option ret forget
  option_is = either_is _ _ s c ∙ by_tag_same (λ d. refl) (tail_is some m s) (below 2 s c)

-- POISONS

-- a row of a table of one column, with one row more below
row : (f : ℕ × ℕ → ℕ) → f (0, 0) ≡ 0 → (z : ℕ) (xs : List (ℕ × ℕ)) (k : ℕ) → k ≢ length xs → get_or (map f xs ++ (z ∷ [])) k 0 ≡ f (get_or xs k (0, 0))
row f e z [] zero h = absurd (h refl)
row f e z [] (suc k) h = sym e
row f e z (x ∷ xs) zero h = refl
row f e z (x ∷ xs) (suc k) h = row f e z xs k (λ j. h (ap suc j))

rows : (k : ℕ) → k ≢ 17 → k ≢ length poison_fields
unfolding poison_fields
rows k z = z

-- the table of the kinds' fields, by its columns
pub names_column : (k : ℕ) → get_or poison_names k 0 ≡ (get_or (poison_fields ++ ((0, 1) ∷ [])) k (0, 0)).0
unfolding poison_names poison_fields
names_column k = get_or-map (λ (r : ℕ × ℕ). r.0) (poison_fields ++ ((0, 1) ∷ [])) k (0, 0)

pub places_column : (k : ℕ) → get_or poison_places k 0 ≡ (get_or (poison_fields ++ ((0, 1) ∷ [])) k (0, 0)).1
unfolding poison_places poison_fields
places_column k = get_or-map (λ (r : ℕ × ℕ). r.1) (poison_fields ++ ((0, 1) ∷ [])) k (0, 0)

-- names, then places
parts : (n p : ℕ) → Reader (List Spot)
parts n p = many name n >>= λ ns. many place p

-- kind 17's one number is read as a place is
folds : (at : ℕ) (q : Got ℕ) → forget {A = Poison Spot} (elim q [ got n c ↦ got (earlier n) c | refused i p ↦ refused i p ]) ≡ forget {A = List Spot} (elim (elim q as (λ _. Got Spot) [ got n c ↦ got (record { number = n; from = at }) c | refused i p ↦ refused i p ]) [ got x c ↦ got (x ∷ []) c | refused i p ↦ refused i p ])
unfolding forget
folds at (got n c) = refl
folds at (refused i p) = refl

earlier_is : (s : List ℕ) (c : Cur) → forget (poison_of 17 s c) ≡ forget (parts 0 1 s c)
unfolding poison_of parts many place ◌>>=◌ ret
earlier_is s c = folds c.at (num s c)

both : (k p : ℕ) (s : List ℕ) (q : Got (List ℕ)) → forget {A = Poison Spot} (after (λ ns. many place p >>= λ ps. ret (poison k ns ps)) s q) ≡ forget {A = List Spot} (after (λ ns. many place p) s q)
unfolding forget
both k p s (got ns d) = tail_is (poison k ns) (many place p) s d
both k p s (refused i j) = refl

by_row : ℕ → Reader (Poison Spot)
by_row k = many name (get_or poison_fields k (0, 0)).0 >>= λ ns. many place (get_or poison_fields k (0, 0)).1 >>= λ ps. ret (poison k ns ps)

not_17 : (k : ℕ) → k ≢ 17 → poison_of k ≡ by_row k
unfolding poison_of by_row
not_17 k h = rw (ne_eqb k 17 h, poison_of)

module _ (k : ℕ) (s : List ℕ) (c : Cur) where
  seventeen : k ≡ 17 → forget (poison_of k s c) ≡ forget (parts (get_or poison_names k 0) (get_or poison_places k 0) s c)
  unfolding poison_names poison_places poison_fields
  seventeen z = rw z (earlier_is s c)

  other : k ≢ 17 → forget (poison_of k s c) ≡ forget (parts (get_or poison_names k 0) (get_or poison_places k 0) s c)
  unfolding poison_names poison_places parts by_row
  other z = ap (λ (m : Reader (Poison Spot)). forget (m s c)) (not_17 k z) ∙ rw (row (λ r. r.0) refl 0 poison_fields k (rows k z), row (λ r. r.1) refl 1 poison_fields k (rows k z)) (ap forget (then_is _ _ s c) ∙ both k _ s _ ∙ sym (ap forget (then_is _ _ s c)))

  -- so many names and so many places as the table says
  pub poison_is : forget (poison_of k s c) ≡ forget ((many name (get_or poison_names k 0) >>= λ ns. many place (get_or poison_places k 0)) s c)
  unfolding parts
  poison_is = (elim (eqb k 17) as (λ t. eqb k 17 ≡ t → forget (poison_of k s c) ≡ forget (parts (get_or poison_names k 0) (get_or poison_places k 0) s c)) [
    | true ↦ λ z. seventeen (eqb-true k 17 z)
    | false ↦ λ z. other (eqb-false k 17 z)
  ]) refl

-- what most parts that are only passed go by
pub ruleset laws = (then_is, tail_is, forget_got, forget_refused)

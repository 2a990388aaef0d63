-- The place rule, for all inputs and all lent memory.
use Prim.Native.Nat.{ℕ}
use mathlib.Core.Bool.{Bool, true, false}
use mathlib.Core.Path.{◌≡◌, refl, sym, ◌∙◌, ap, subst}
use mathlib.Core.List.{List, [], ◌∷◌, map}
use lib.ListN.{length}
use lib.Dec.{ltb, leb}
use Rattle.penne.specs.Tree.{Spot, Tree}
use Rattle.penne.specs.Reader.{Got}
use Rattle.penne.specs.Read.{decode, incoming}
use Rattle.penne.specs.Write.{encode}
use Rattle.penne.specs.Pruning.{offsets}
use Rattle.penne.specs.Scoper.{answered_tree, skip_list, Answer, answer, refusal, answer_to, words, if_room, scoped_answer, outcome, scoped}
use Rattle.penne.specs.Places.{map_tree}
use Rattle.penne.specs.PlaceRule.{DifferInPlaces, blank, SameAnswers, PlaceRule}
use Rattle.penne.specs.PlaceRule as W
use Rattle.penne.proofs.Natural.{analyze-map, natural, map_analyzer, map_prunings}
use Rattle.penne.proofs.PlaceReading.{Decoded, both_refused, both_read, decoded_alike}
use Rattle.penne.proofs.PlaceLengths.{same_length}

-- BOTH PASSES

-- a blank place stands where it stood
offsets-blank : (rs : List (Spot × Spot)) → offsets (map (λ r. (blank r.0, blank r.1)) rs) ≡ offsets rs
unfolding offsets blank
offsets-blank [] = refl
offsets-blank (r ∷ rs) = ap (λ (l : List (ℕ × ℕ)). (r.0.from, r.1.from) ∷ l) (offsets-blank rs)

list_blank : (t : Tree Spot) → skip_list (map_tree blank t) ≡ skip_list t
unfolding skip_list map_tree map_analyzer map_prunings
list_blank t = ap (λ z. offsets z.1.prunings.skips) (analyze-map blank t.names t.decls) ∙ offsets-blank _

same_list : (t t' : Tree Spot) → map_tree blank t ≡ map_tree blank t' → skip_list t ≡ skip_list t'
same_list t t' e = sym (list_blank t) ∙ ap skip_list e ∙ list_blank t'

same_answers : (t t' : Tree Spot) → map_tree blank t ≡ map_tree blank t' → map_tree blank (answered_tree t) ≡ map_tree blank (answered_tree t')
same_answers t t' e = sym (natural blank t) ∙ ap answered_tree e ∙ natural blank t'

-- THE CALL

-- the same refusal; or trees of one length, and one list
data Same : Answer → Answer → Type 0 where
  refuses : {n p : ℕ} → Same (refusal n p) (refusal n p)
  answers : {t t' : List ℕ} {rs : List (ℕ × ℕ)} → length t ≡ length t' → Same (answer t rs) (answer t' rs)

same_answer : (q q' : Got (Tree Spot)) → Decoded q q' → Same (answer_to q) (answer_to q')
unfolding answer_to
same_answer _ _ both_refused = refuses
same_answer _ _ (both_read {t} {t'} e) = subst (λ (rs : List (ℕ × ℕ)). Same (answer (encode (answered_tree t)) (skip_list t)) (answer (encode (answered_tree t')) rs)) (same_list t t' e) (answers (same_length (answered_tree t) (answered_tree t') (same_answers t t' e)))

same_room : (m n : ℕ) (x y : Answer) → Same x y → Same (if_room m n x) (if_room m n y)
unfolding if_room
same_room m n _ _ refuses = refuses
same_room m n _ _ (answers {t} {t'} {rs} e) = subst (λ (k : ℕ). Same (room (leb (length t) m) (leb (length (words rs)) n) t) (room (leb k m) (leb (length (words rs)) n) t')) e (go (leb (length t) m) (leb (length (words rs)) n))
  where
    room : Bool → Bool → List ℕ → Answer
    room b c t = elim b [ false ↦ refusal 11 0 | true ↦ elim c [ false ↦ refusal 12 0 | true ↦ answer t rs ] ]

    go : (b c : Bool) → Same (room b c t) (room b c t')
    go false c = refuses
    go true false = refuses
    go true true = answers e

same_scoped : (s t : List ℕ) → DifferInPlaces s t → (m n w : ℕ) → Same (scoped_answer s m n w) (scoped_answer t m n w)
unfolding scoped_answer
same_scoped s t h m n w = subst (λ (k : ℕ). Same (rows (ltb 65535 (length s)) (ltb w 16384) (decode incoming s)) (rows (ltb 65535 k) (ltb w 16384) (decode incoming t))) h.long (go (ltb 65535 (length s)) (ltb w 16384))
  where
    rows : Bool → Bool → Got (Tree Spot) → Answer
    rows b c q = elim b [ true ↦ refusal 1 0 | false ↦ elim c [ true ↦ refusal 2 0 | false ↦ if_room m n (answer_to q) ] ]

    go : (b c : Bool) → Same (rows b c (decode incoming s)) (rows b c (decode incoming t))
    go true c = refuses
    go false true = refuses
    go false false = same_room m n _ _ (same_answer _ _ (decoded_alike s t h))

told : (q q' : Got (Tree Spot)) → Decoded q q' → SameAnswers q q'
told _ _ both_refused = W.both_refused
told _ _ (both_read {t} {t'} e) = W.both_read (same_answers t t' e)

-- what a call leaves behind of it
record SameOutcome (m n w : ℕ) (x y : Answer) : Type 0 where
  refusal : (outcome m n w x).refusal ≡ (outcome m n w y).refusal
  place : (outcome m n w x).place ≡ (outcome m n w y).place
  tree_length : (outcome m n w x).tree_length ≡ (outcome m n w y).tree_length
  records : (outcome m n w x).records ≡ (outcome m n w y).records
  list : (outcome m n w x).list ≡ (outcome m n w y).list

same_outcome : (m n w : ℕ) (x y : Answer) → Same x y → SameOutcome m n w x y
unfolding outcome
same_outcome m n w _ _ refuses = record { refusal = refl; place = refl; tree_length = refl; records = refl; list = refl }
same_outcome m n w _ _ (answers e) = record { refusal = refl; place = refl; tree_length = e; records = refl; list = refl }

-- The place rule: "Two trees that differ only in place numbers of equal byte count get the same refusals, lengths, ids, depths and list."
pub place_rule : PlaceRule
unfolding scoped
place_rule s t h m n w =
    let o = same_outcome m n w _ _ (same_scoped s t h m n w) in
    record { refusal = o.refusal; place = o.place; tree_length = o.tree_length; records = o.records; list = o.list; answers = told _ _ (decoded_alike s t h) }

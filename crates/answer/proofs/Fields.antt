-- Identifiers and poisons: the bytes over numbers are the encoder's.
use mathlib.Core.Path.{◌≡◌, refl, ap, ◌∙◌}
use mathlib.Core.List.{List, [], ◌∷◌, ◌++◌, map, append-nil, flat_map}
use Prim.Native.Nat.{ℕ}
use lib.ListN.{length, take, get_or, length-map}
use lib.Seq.{take_at}
use Rattle.penne.specs.Tree.{Spot, Ident, poison, earlier}
use Rattle.penne.specs.Read.{poison_fields}
use Rattle.penne.specs.Write.{num_b, place_b, ident_b, poison_b}
use Rattle.fields.specs.Answers.{poison_names, poison_places}
use Rattle.answer.specs.declared.wrote.Wrote.{Wrote}
use Rattle.answer.specs.Out.{Put}
use Rattle.answer.specs.Parts.{identifier_b, poisoned_b}
use Rattle.answer.proofs.Chain.{◌▸◌}

pub identifier_bytes : (i : Ident Spot) → identifier_b i.name i.place.number i.id i.auth ≡ ident_b i
unfolding identifier_b ident_b place_b
identifier_bytes i = refl

each_place : (ps : List Spot) → flat_map num_b (map (λ p. p.number) ps) ≡ flat_map place_b ps
unfolding flat_map place_b
each_place [] = refl
each_place (p ∷ ps) = ap (λ (l : List ℕ). num_b p.number ++ l) (each_place ps)

-- a poison with as many names and places as its kind has; what stands behind them is not written
pub poison_bytes : (k : ℕ) (ns : List ℕ) (ps : List Spot) (ns' ps' : List ℕ) → length ns ≡ get_or poison_names k 0 → length ps ≡ get_or poison_places k 0
    → poisoned_b k (ns ++ ns') (map (λ p. p.number) ps ++ ps') ≡ poison_b (poison k ns ps)
unfolding poisoned_b poison_b
poison_bytes k ns ps ns' ps' h l =
    ap (λ (x : List ℕ). num_b k ++ (flat_map num_b x ++ flat_map num_b (take (get_or poison_places k 0) (map (λ p. p.number) ps ++ ps')))) (take_at ns ns' (get_or poison_names k 0) h)
    ∙ ap (λ (x : List ℕ). num_b k ++ (flat_map num_b ns ++ flat_map num_b x)) (take_at (map (λ p. p.number) ps) ps' (get_or poison_places k 0) (length-map ps (λ p. p.number) ∙ l))
    ∙ ap (λ (x : List ℕ). num_b k ++ (flat_map num_b ns ++ x)) (each_place ps)

-- an earlier stage's error
pub earlier_bytes : (n : ℕ) (ns ps : List ℕ) → poisoned_b 17 ns (n ∷ ps) ≡ poison_b (earlier n)
unfolding poisoned_b poison_b poison_names poison_places poison_fields flat_map
earlier_bytes n ns ps = ap (λ (l : List ℕ). num_b 17 ++ l) (append-nil (num_b n))

-- the kind, the names, the places
pub poison_put : {w : Wrote} {o : List ℕ} {a : Wrote} {o₁ : List ℕ} {b : Wrote} {o₂ : List ℕ} {r : Wrote} {o₃ : List ℕ} (k : ℕ) (ns ps : List ℕ) {n p : ℕ} → n ≡ get_or poison_names k 0 → p ≡ get_or poison_places k 0
    → Put w (num_b k) o a o₁ → Put a (flat_map num_b (take n ns)) o₁ b o₂ → Put b (flat_map num_b (take p ps)) o₂ r o₃ → Put w (poisoned_b k ns ps) o r o₃
unfolding poisoned_b
poison_put k ns ps h l x y z = x ▸ (rw h at y) ▸ (rw l at z)

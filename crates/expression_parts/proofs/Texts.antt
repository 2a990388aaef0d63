-- Bytes and a place, and what is made of them.
use mathlib.Core.Path.{◌≡◌, refl, sym, ap, ◌∙◌}
use mathlib.Core.List.{List, ◌++◌, append_assoc}
use Prim.Native.Nat.{ℕ}
use Rattle.penne.specs.Reader.{Reader, ◌>>=◌, ret, bytes}
use Rattle.penne.specs.Tree.{Spot, string}
use Rattle.penne.specs.Read.{place}
use Rattle.penne.specs.Write.{num_b, place_b, bytes_b, node_b}
use Rattle.penne.specs.State as S
use Rattle.penne.specs.Variables.{analyze_node}
use Rattle.fields.proofs.Chain.{assoc}
use Rattle.answer.specs.Parts.{renumbered, span}
use Rattle.walk.specs.Walking.{Ground, onward, say}
use Rattle.expression_parts.specs.Expressing.{text, say_text}
use Rattle.expression_parts.proofs.Onward.{out_same}

pub text_same : {A : Type 0} (f : List ℕ → Spot → A) → (bytes >>= λ b. place >>= λ p. ret (f b p)) ≡ (text >>= λ x. ret (f x.0 x.1))
unfolding text ◌>>=◌ ret
text_same {A} f = sym (assoc {B = List ℕ × Spot} {C = A} bytes (λ b. place >>= λ p. ret (b, p)) (λ x. ret (f x.0 x.1)) ∙ ap (λ (g : List ℕ → Reader A). bytes >>= g) (λ i b. assoc {B = List ℕ × Spot} {C = A} place (λ p. ret (b, p)) (λ x. ret (f x.0 x.1)) i))

pub text_is : (a : Ground) (kind : ℕ) (t : List ℕ) (from to end : ℕ) (b : List ℕ) (p : Spot) → renumbered t from to ++ span t to end ≡ bytes_b b → say ((num_b kind ++ renumbered t from to) ++ (span t to end ++ num_b p.number)) a ≡ say_text kind (b, p) a
unfolding place_b
text_is a kind t from to end b p e = out_same (rw (← e) (simp append_assoc))

pub string_is : (a : Ground) (b : List ℕ) (p : Spot) → say_text 5 (b, p) a ≡ onward analyze_node node_b (string b p) a
unfolding analyze_node node_b S.ret
string_is a b p = refl

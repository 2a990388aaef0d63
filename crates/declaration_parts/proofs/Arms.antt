-- A declaration along the decoder: by its kind, dropped, or begun.
use mathlib.Core.Path.{◌≡◌, refl, sym, ap, ◌∙◌}
use mathlib.Core.Bool.{true}
use mathlib.Core.List.{List, ◌++◌}
use Prim.Native.Nat.{ℕ, ◌+◌, ◌-◌, ◌<◌}
use native.Mathlib.Omega.{arith}
use lib.Dec.{ltb}
use lib.ListN.{get_or}
use borrow.Author.Tests.{ltb-true}
use Rattle.std.specs.Prelude.{Result, Ok, Err}
use Rattle.fields.specs.declared.refusal.Refusal.{Refusal}
use Rattle.penne.specs.Reader.{Counts, Cur, got, num, below, plus, nothing, counted}
use Rattle.penne.specs.Tree.{Spot, Decl}
use Rattle.penne.specs.Read.{decl_of, decl_kinds, k_bad_decl, decl_counts, decl_head, read_decl, read_constant, read_function, read_function_head, read_structure}
use Rattle.penne.specs.Write.{num_b, place_b}
use Rattle.penne.proofs.IdsPass.{still_decl}
use Rattle.fields.specs.declared.counts.Counts as K
use Rattle.fields.specs.declared.field.Identifier.{Identifier}
use Rattle.fields.specs.Answers.{cursor, counts_of, passed_of, Gives, Passes}
use Rattle.tree.proofs.Statements as T
use Rattle.answer.specs.declared.wrote.Wrote.{Wrote}
use Rattle.answer.specs.Out.{Put}
use Rattle.answer.specs.Parts.{renumbered}
use Rattle.answer.proofs.Chain.{◌▸◌}
use Rattle.containers.proofs.Lists.{and_true}
use Rattle.label_references.specs.Marked.{marked_decl}
use Rattle.walk.specs.declared.state.Walk.{Walk}
use Rattle.walk.specs.declared.fault.Fault.{Fault}
use Rattle.walk.specs.Walking.{moved_to, with_wrote, with_counts, here, Ground, Good, Leads, Walks, fault_b, made_b}
use Rattle.fields.proofs.Back.{forget_refused}
use Rattle.walk.proofs.Leading.{walks, such_got, leads_refused, leads_counting}
use Rattle.walk.proofs.Writing.{moved_on, wrote, wrote_on}
use Rattle.walk.proofs.Writing as W
use Rattle.stages.specs.declared.heads.Start.{Start}
use Rattle.declaration_parts.specs.Declaring.{fit_decl, predeclared_by, behind, decl_walk}
use Rattle.stages.specs.Heads.{Begins, own}
use Rattle.declaration_parts.specs.Heading.{Heading, drop_walk, constant_parts, function_parts, head_parts, structure_parts, Starts}
use Rattle.stages.proofs.Parting.{four_kinds, leads_two, leads_one}
use Rattle.stages.proofs.Sizing.{Passing, passing}
use Rattle.stages.proofs.Predeclaring.{passed_to}

-- BY ITS KIND

pub below_low : {t : List ℕ} {at v n k : ℕ} → Gives (below k) t at (Ok (v, n)) → v < k
unfolding below
below_low {t} {at} {v} {n} {k} g = ltb-true v k (such_got num (λ x _. ltb x k) 5 t (cursor at 0 nothing) (g.is 0 nothing)).1

-- what is counted behind the kind
abbrev pub after : Walk → ℕ → Counts
after s kind = plus (counts_of s.counts) (decl_counts (get_or decl_kinds kind k_bad_decl))

module _ {t : List ℕ} {s : Walk} {kind : ℕ} {h : Start} (hd : Heading t s kind h) {P : Decl Spot → Cur → Type 0} where
  pub leads_decl : (kind ≡ 0 → (p q : Spot) → renumbered t h.places h.from ≡ place_b p ++ place_b q → Leads (constant_parts h.flags p q (own h)) t (cursor h.parts s.script.names (after s kind)) P)
      → (kind ≡ 1 → (p q : Spot) → renumbered t h.places h.from ≡ place_b p ++ place_b q → Leads (function_parts h.flags p q (own h)) t (cursor h.parts s.script.names (after s kind)) P)
      → (kind ≡ 2 → (p q : Spot) → renumbered t h.places h.from ≡ place_b p ++ place_b q → Leads (head_parts h.flags p q (own h)) t (cursor h.parts s.script.names (after s kind)) P)
      → (kind ≡ 3 → (p : Spot) → renumbered t h.places h.from ≡ place_b p → Leads (structure_parts h.flags p (own h)) t (cursor h.parts s.script.names (after s kind)) P)
      → Leads read_decl t (here s) P
  unfolding read_decl decl_head counted decl_of decl_kinds read_constant read_function read_function_head read_structure constant_parts function_parts head_parts structure_parts
  leads_decl f₀ f₁ f₂ f₃ = leads_counting decl_counts decl_head (decl_of 63) (T.kind_value _ 6 hd.kinds (counts_of s.counts)) λ fit.
      four_kinds (λ j. kind ≡ j → Begins t s.script.names hd.at j h → Leads (decl_of 63 (get_or decl_kinds j k_bad_decl)) t (cursor hd.at s.script.names (after s kind)) P) kind (below_low hd.kinds) hd.begins.not_import hd.begins.not_poison
      (λ e b. leads_two b (λ f p q i. constant_parts f p q i) (λ z. absurd (omega arith)) (f₀ e)) (λ e b. leads_two b (λ f p q i. function_parts f p q i) (λ z. absurd (omega arith)) (f₁ e))
      (λ e b. leads_two b (λ f p q i. head_parts f p q i) (λ z. absurd (omega arith)) (f₂ e)) (λ e b. leads_one b (λ f p i. structure_parts f p i) refl (f₃ e)) refl hd.begins

-- WHAT HOLDS BEHIND A DECLARATION HELD BEFORE IT

pub good_decl : (d : Decl Spot) (a : Ground) → Good (decl_walk d a) → Good a × (fit_decl a d ≡ true)
unfolding decl_walk behind
good_decl d a z = (record { few = omega (arith, z.few, (still_decl a.rest.names (predeclared_by a.st a.rest.containers a.rest.functions (marked_decl a.rest.labels d a.rest.words).0) a.st).takes.lower); fit = (and_true a.rest.fit (fit_decl a d) z.fit).0 }, (and_true a.rest.fit (fit_decl a d) z.fit).1)

-- STARTED

pub started_is : {t : List ℕ} {kind flags : ℕ} {h : Start} {i : Identifier} {s : Walk} {x y z v : Wrote} {o o₁ o₂ o₃ o₄ : List ℕ} → Put s.wrote (num_b kind) o x o₁ → Put x (num_b flags) o₁ y o₂ → Put y (renumbered t h.places h.from) o₂ z o₃ → Put z (made_b i) o₃ v o₄
    → Starts t kind flags h i s o (moved_to (with_wrote s v) h.parts) o₄
started_is p₁ p₂ p₃ p₄ = record {
  cur = refl;
  script = refl;
  is = λ i. wrote_on i (p₁ ▸ (p₂ ▸ (p₃ ▸ p₄)));
}

-- DROPPED

module _ (f : Fault) {t : List ℕ} {s : Walk} {p : Result (ℕ × K.Counts) Refusal} (g : Passes read_decl t s.script.names s.counts s.at p) {o l w : List ℕ} where
  pub drop_unread : {x : Refusal} {r : Walk} {o' : List ℕ} → p ≡ Err x → Walks t read_decl (drop_walk f) s o l w r o' l w
  drop_unread e = walks λ h a i. leads_refused (forget_refused _ _ _ (g.is ∙ ap (passed_of s.script.names) e))

  pub drop_passed : {n : ℕ} {k : K.Counts} {x : Wrote} {o' : List ℕ} → p ≡ Ok (n, k) → Put s.wrote (num_b 5 ++ fault_b f) o x o' → Walks t read_decl (drop_walk f) s o l w (moved_to (with_counts (with_wrote s x) k) n) o' l w
  unfolding drop_walk behind
  drop_passed {n} {k} e put = walks λ h a i. record {
    to = λ d c q.
        let c₁ : cursor n s.script.names (counts_of k) ≡ c = sym (passed_to _ (g.is ∙ ap (passed_of s.script.names) e) q) in
        let z : Passing (here s) (cursor n s.script.names (counts_of k)) d = passing t (here s) (q ∙ ap (got d) (sym c₁)) in
        let all = a.rest.labels in
        let os = a.rest.words in
        let up = z.statements in
        record {
          cur = sym c₁;
          is = moved_on (W.counted (wrote i put) (behind d (marked_decl all d os).1 (fit_decl a d) a.rest) (omega (arith, z.entries)) refl refl refl (λ y. (and_true a.rest.fit (fit_decl a d) y).0)
              (λ y m. record {
                told = λ j lt.
                    let back : s.counts.statements + ((k.statements + j) - s.counts.statements) ≡ k.statements + j = omega arith in
                    ap (λ (u : ℕ). get_or w u 0) (sym back) ∙ m.told ((k.statements + j) - s.counts.statements) (omega arith) ∙ sym (z.words all os j ((k.statements + j) - s.counts.statements) (sym back));
                named = m.named;
                labels = m.labels;
                containers = omega (arith, z.containers, m.containers);
                functions = omega (arith, z.functions, m.functions);
                main = m.main;
              }));
        };
  }

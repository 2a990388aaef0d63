-- A declaration that is the first of its name is counted, and its parts are walked.
use mathlib.Core.Path.{◌≡◌, refl, sym, ap, subst, ◌∙◌}
use mathlib.Core.Bool.{Bool, true, false, ◌&&◌}
use mathlib.Core.List.{List, ◌++◌}
use mathlib.Core.Option.{none}
use Rattle.std.specs.Prelude.{Option, Some, None, Err}
use Prim.Native.Nat.{ℕ, ◌+◌, ◌≤◌, ◌<◌}
use native.Mathlib.Omega.{arith}
use lib.Dec.{leb}
use lib.ListN.{get_or, take}
use borrow.Author.Tests.{leb-true}
use Rattle.penne.specs.Reader.{Counts, plus, fits, a_container, a_function}
use Rattle.penne.specs.Tree.{Spot, Ident}
use Rattle.penne.specs.Read.{decl_kinds, k_bad_decl, decl_counts, read_decl}
use Rattle.penne.specs.Write.{place_b}
use Rattle.penne.specs.Find.{first_named}
use Rattle.fields.specs.declared.counts.Counts as K
use Rattle.fields.specs.declared.refusal.Reason.TheVariants.{TooMany}
use Rattle.fields.specs.Answers.{cursor, counts_of, Counting, Passes}
use Rattle.fields.proofs.Back.{forget_refused}
use Rattle.fields.proofs.Counting.{fitted}
use Rattle.tree.proofs.Declarations.{decl_many}
use Rattle.answer.specs.Parts.{renumbered}
use Rattle.containers.specs.Table.{kind_of}
use Rattle.containers.specs.Calls.{of_kind}
use Rattle.containers.proofs.Lists.{and_true}
use Rattle.walk.specs.declared.state.Walk.{Walk}
use Rattle.walk.specs.Walking.{with_counts, Ground, Good, Is}
use Rattle.walk.proofs.Leading.{walks, leads_refused, leads_at}
use Rattle.walk.proofs.Writing as W
use Rattle.walk.proofs.Identifying.{identified_low}
use Rattle.stages.specs.declared.heads.Start.{Start}
use Rattle.declaration_parts.specs.Declaring.{clear, fit_container, fit_function}
use Rattle.stages.specs.Heads.{own}
use Rattle.stages.specs.Before.{ContainerBefore, FunctionBefore}
use Rattle.declaration_parts.specs.Heading.{Heading, counting, begun_container, begun_function, NewContainer, NewFunction, Arm, constant_parts, function_parts, head_parts, structure_parts, Keeps}
use Rattle.declaration_parts.proofs.Arms.{below_low, after, leads_decl}
use Rattle.declaration_parts.proofs.Dropping.{told_no, refers_container, refers_function}

-- IT IS COUNTED

-- from k to c so many containers and functions are counted, and there is room for the containers
record Grown (k : K.Counts) (n m : ℕ) (c : K.Counts) : Type 0 where
  pub containers : c.containers ≡ k.containers + n
  pub functions : c.functions ≡ k.functions + m
  pub entries : c.entries ≡ k.entries
  pub statements : c.statements ≡ k.statements
  pub few : c.containers ≤ 128

module _ {k b : K.Counts} {y : Option K.Counts} (g : Counting k b y) {c : K.Counts} (e : y ≡ Some c) where
  grown : (n m : ℕ) → counts_of b ≡ record { containers = n; functions = m; entries = 0; statements = 0 } → Grown k n m c
  unfolding plus fits
  grown n m z =
      let f = fitted (subst (λ (u : Option K.Counts). Counting k b u) e g) in
      let is = f.1 ∙ ap (plus (counts_of k)) z in
      let b₁ = leb (k.containers + b.containers) 128 in
      let b₂ = leb (k.functions + b.functions) 256 in
      let b₃ = leb (k.entries + b.entries) 1024 in
      let low : k.containers + b.containers ≤ 128 = leb-true _ _ (and_true b₁ b₂ (and_true (b₁ && b₂) b₃ (and_true (b₁ && b₂ && b₃) _ f.0).0).0).0 in
      let c₁ : c.containers ≡ k.containers + b.containers = ap (λ (u : Counts). u.containers) f.1 in
      let e₃ : c.entries ≡ k.entries + 0 = ap (λ (u : Counts). u.entries) is in
      let e₄ : c.statements ≡ k.statements + 0 = ap (λ (u : Counts). u.statements) is in
      record { containers = ap (λ (u : Counts). u.containers) is; functions = ap (λ (u : Counts). u.functions) is; entries = omega arith; statements = omega arith; few = omega arith }

module _ {s : Walk} {o l w : List ℕ} {a : Ground} (i : Is s o l w a) {c : K.Counts} where
  begun : (n m : ℕ) (b : Bool) → Grown s.counts n m c → Is (with_counts s c) o l w (record { out = a.out; st = a.st; rest = counting n m b a.rest })
  unfolding counting
  begun n m b g = W.counted i (counting n m b a.rest) (omega (arith, g.entries)) refl refl refl (λ y. (and_true a.rest.fit b y).0)
      (λ y k. record {
        told = λ j lt. ap (λ (u : ℕ). get_or w (u + j) 0) g.statements ∙ k.told j (omega (arith, g.statements, lt));
        named = k.named;
        labels = k.labels;
        containers = omega (arith, g.containers, k.containers);
        functions = omega (arith, g.functions, k.functions);
        main = k.main;
      })

  begun_container_lem : (x : Ident Spot) → Grown s.counts 1 0 c → Is (with_counts s c) o l w (begun_container x a)
  unfolding begun_container
  begun_container_lem x g = begun 1 0 (clear a.st && fit_container a.st.containment.containers a.rest.containers x) g

  begun_function_lem : (x : Ident Spot) → Grown s.counts 0 1 c → Is (with_counts s c) o l w (begun_function x a)
  unfolding begun_function
  begun_function_lem x g = begun 0 1 (clear a.st && fit_function a.st.function_list a.rest.functions x) g

-- IT IS THE FIRST OF ITS NAME

module _ {s : Walk} {o l w : List ℕ} {a : Ground} (i : Is s o l w a) (h : Start) where
  new_container : {p : ℕ} (k : Bool) → ContainerBefore (kind_of k) p s h.identifier w None → Good (begun_container (own h) a) → NewContainer k s.counts.containers (own h) a
  unfolding begun_container counting
  new_container k f z =
      let good : Good a = record { few = z.few; fit = (and_true a.rest.fit _ z.fit).0 } in
      let fit = (and_true (clear a.st) _ (and_true a.rest.fit _ z.fit).1).1 in
      let m = (i.when good).marks.containers in
      record { stands = m; new = subst (λ (r : ℕ). first_named h.identifier.name (of_kind k (take r a.st.containment.containers)) ≡ none) (sym m) (told_no (refers_container i good (own h) k f fit) refl) }

  new_function : FunctionBefore s h.identifier w None → Good (begun_function (own h) a) → NewFunction s.counts.functions (own h) a
  unfolding begun_function counting
  new_function f z =
      let good : Good a = record { few = z.few; fit = (and_true a.rest.fit _ z.fit).0 } in
      let fit = (and_true (clear a.st) _ (and_true a.rest.fit _ z.fit).1).1 in
      let m = (i.when good).marks.functions in
      record { stands = m; new = subst (λ (r : ℕ). first_named h.identifier.name (take r a.st.function_list) ≡ none) (sym m) (told_no (refers_function i good (own h) f fit) refl) }

-- AT ITS PARTS

-- the walk's place behind the head h, with the declaration counted
parts_at : (h : Start) (s : Walk) (kind : ℕ) {b : K.Counts} {y : Option K.Counts} {c : K.Counts} → Counting s.counts b y → counts_of b ≡ decl_counts (get_or decl_kinds kind k_bad_decl) → y ≡ Some c
    → cursor h.parts s.script.names (counts_of c) ≡ cursor h.parts s.script.names (after s kind)
parts_at h s kind {b} g is e = ap (cursor h.parts s.script.names) ((fitted (subst (λ (u : Option K.Counts). Counting s.counts b u) e g)).1 ∙ ap (plus (counts_of s.counts)) is)

low_name : {t : List ℕ} {s : Walk} {kind : ℕ} {h : Start} → Heading t s kind h → h.identifier.name < s.script.names
low_name hd = (identified_low hd.begins.identifier refl).1

module _ {k b : K.Counts} {y : Option K.Counts} (g : Counting k b y) {c : K.Counts} (e : y ≡ Some c) (kind : ℕ) (is : counts_of b ≡ decl_counts (get_or decl_kinds kind k_bad_decl)) where
  a_container_lem : decl_counts (get_or decl_kinds kind k_bad_decl) ≡ a_container → Grown k 1 0 c
  unfolding a_container
  a_container_lem z = grown g e 1 0 (is ∙ z)

  a_function_lem : decl_counts (get_or decl_kinds kind k_bad_decl) ≡ a_function → Grown k 0 1 c
  unfolding a_function
  a_function_lem z = grown g e 0 1 (is ∙ z)

-- THE CODE DOES SO

module _ {t : List ℕ} {s : Walk} {kind : ℕ} {h : Start} {b : K.Counts} {y : Option K.Counts} (g : Counting s.counts b y) (is : counts_of b ≡ decl_counts (get_or decl_kinds kind k_bad_decl)) {o l w : List ℕ} {r : Walk} {o' l' w' : List ℕ} where
  pub kept_full : y ≡ None → Keeps t kind h s o l w r o' l' w'
  kept_full e = record { does = λ hd bf. walks λ inp a i. let z : Passes read_decl t s.script.names s.counts s.at (Err (record { reason = TooMany; place = s.at })) = decl_many hd.kinds (subst (λ (u : Option K.Counts). Counting s.counts b u) e g) is in leads_refused (forget_refused _ _ _ z.is) }

  module _ {c : K.Counts} (e : y ≡ Some c) where
    pub kept_constant : kind ≡ 0 → ((p q : Spot) → s.counts.containers < 128 → renumbered t h.places h.from ≡ place_b p ++ place_b q → Arm (NewContainer false s.counts.containers (own h)) (begun_container (own h)) t (constant_parts h.flags p q (own h)) h.parts (with_counts s c) o l w r o' l' w')
        → Keeps t kind h s o l w r o' l' w'
    unfolding decl_counts decl_kinds kind_of
    kept_constant z k =
        let n = a_container_lem g e kind is (ap (λ (j : ℕ). decl_counts (get_or decl_kinds j k_bad_decl)) z) in
        record {
          does = λ hd bf. walks λ inp a i. leads_decl hd
              (λ _ p q d. leads_at (parts_at h s kind g is e) ((k p q (omega (arith, n.containers, n.few)) d).does inp a (new_container i h false (bf.constant z)) (begun_container_lem i (own h) n)))
              (λ x. absurd (omega arith)) (λ x. absurd (omega arith)) (λ x. absurd (omega arith));
        }

    pub kept_function : kind ≡ 1 → ((p q : Spot) → h.flags < 32 → h.identifier.name < s.script.names → renumbered t h.places h.from ≡ place_b p ++ place_b q → Arm (NewFunction s.counts.functions (own h)) (begun_function (own h)) t (function_parts h.flags p q (own h)) h.parts (with_counts s c) o l w r o' l' w')
        → Keeps t kind h s o l w r o' l' w'
    unfolding decl_counts decl_kinds
    kept_function z k =
        let n = a_function_lem g e kind is (ap (λ (j : ℕ). decl_counts (get_or decl_kinds j k_bad_decl)) z) in
        record {
          does = λ hd bf. walks λ inp a i. leads_decl hd (λ x. absurd (omega arith))
              (λ _ p q d. leads_at (parts_at h s kind g is e) ((k p q (below_low hd.begins.flags) (low_name hd) d).does inp a (new_function i h (bf.function (λ x. absurd (omega arith)) (λ x. absurd (omega arith)))) (begun_function_lem i (own h) n)))
              (λ x. absurd (omega arith)) (λ x. absurd (omega arith));
        }

    pub kept_head : kind ≡ 2 → ((p q : Spot) → renumbered t h.places h.from ≡ place_b p ++ place_b q → Arm (NewFunction s.counts.functions (own h)) (begun_function (own h)) t (head_parts h.flags p q (own h)) h.parts (with_counts s c) o l w r o' l' w')
        → Keeps t kind h s o l w r o' l' w'
    unfolding decl_counts decl_kinds
    kept_head z k =
        let n = a_function_lem g e kind is (ap (λ (j : ℕ). decl_counts (get_or decl_kinds j k_bad_decl)) z) in
        record {
          does = λ hd bf. walks λ inp a i. leads_decl hd (λ x. absurd (omega arith)) (λ x. absurd (omega arith))
              (λ _ p q d. leads_at (parts_at h s kind g is e) ((k p q d).does inp a (new_function i h (bf.function (λ x. absurd (omega arith)) (λ x. absurd (omega arith)))) (begun_function_lem i (own h) n)))
              (λ x. absurd (omega arith));
        }

    -- what has a name and is none of the others is a structure
    pub kept_structure : (kind ≡ 0 → ⊥) → (kind ≡ 1 → ⊥) → (kind ≡ 2 → ⊥) → ((p : Spot) → renumbered t h.places h.from ≡ place_b p → Arm (NewContainer true s.counts.containers (own h)) (begun_container (own h)) t (structure_parts h.flags p (own h)) h.parts (with_counts s c) o l w r o' l' w')
        → Keeps t kind h s o l w r o' l' w'
    unfolding decl_counts decl_kinds kind_of
    kept_structure n₀ n₁ n₂ k = record {
      does = λ hd bf. walks λ inp a i. leads_decl hd (λ z. absurd (n₀ z)) (λ z. absurd (n₁ z)) (λ z. absurd (n₂ z))
          (λ z p d.
          let n = a_container_lem g e kind is (ap (λ (j : ℕ). decl_counts (get_or decl_kinds j k_bad_decl)) z) in
          leads_at (parts_at h s kind g is e) ((k p d).does inp a (new_container i h true (bf.structure z)) (begun_container_lem i (own h) n)));
    }

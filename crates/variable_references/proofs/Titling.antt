-- A declaration by its kind: named, an import, a poison, or none that can be read.
use mathlib.Core.Path.{◌≡◌, refl, sym, ap, subst, ◌∙◌}
use mathlib.Core.Bool.{Bool, true, ◌&&◌}
use mathlib.Core.List.{List, ◌++◌}
use Prim.Native.Nat.{ℕ, ◌+◌}
use native.Mathlib.Omega.{arith}
use lib.ListN.{get_or}
use Rattle.fields.specs.declared.refusal.Refusal.{Refusal}
use Rattle.std.specs.Prelude.{Option, None, Result, Ok, Err}
use Rattle.penne.specs.Reader.{Counts, Cur, below, plus, nothing, counted}
use Rattle.penne.specs.Tree.{Spot, Poison, Decl, import, bad_decl}
use Rattle.penne.specs.Read.{decl_of, decl_kinds, k_bad_decl, decl_counts, decl_head, read_decl, read_import, read_poison}
use Rattle.penne.specs.Write.{decl_b}
use Rattle.penne.specs.State as S
use Rattle.penne.specs.Variables.{analyze_decl}
use Rattle.penne.proofs.Booleans.{and-true}
use Rattle.fields.specs.Answers.{cursor, counts_of, Gives, Passes}
use Rattle.tree.proofs.Statements as T
use Rattle.tree.proofs.Declarations.{decl_unread}
use Rattle.fields.proofs.Back.{forget_refused}
use Rattle.label_references.specs.Marked.{marked_decl}
use Rattle.walk.specs.declared.fault.Fault.{Fault}
use Rattle.walk.specs.declared.state.Walk.{Walk}
use Rattle.walk.specs.Walking.{moved_to, here, Rest, Ground, say, say_poison, Leads, Walks}
use Rattle.walk.proofs.Leading.{walks, leads_refused, leads_bind, leads_call, leads_got, leads_end, leads_counting, is_same, leads_at}
use Rattle.walk.proofs.Writing.{moved_on}
use Rattle.stages.specs.declared.heads.Start.{Start}
use Rattle.stages.specs.declared.heads.Head.{Head}
use Rattle.stages.specs.declared.heads.Head.TheVariants as H
use Rattle.stages.specs.Heads.{rows_of}
use Rattle.declaration_parts.specs.Declaring.{predeclared_by, fit_decl, behind, decl_walk}
use Rattle.stages.specs.Heads.{Heads}
use Rattle.stages.specs.Before.{DeclaredBefore}
use Rattle.declaration_parts.specs.Heading.{Heading, counting, Keeps}
use Rattle.stages.proofs.Parting.{told_named, told_import, told_poison, told_unread}
use Rattle.declaration_parts.proofs.Arms.{below_low, after}

-- THE FIRST OF ITS NAME

pub first_kept : {t : List ℕ} {s : Walk} {kind : ℕ} {h : Start} {b : Option Fault} {o l w : List ℕ} {r : Walk} {o' l' w' : List ℕ} → DeclaredBefore kind s h.identifier w b → b ≡ None → Keeps t kind h s o l w r o' l' w' → Heading t s kind h → Walks t read_decl decl_walk s o l w r o' l' w'
first_kept {s = s} {kind} {h} {w = w} d e k hd = k.does hd (subst (λ (x : Option Fault). DeclaredBefore kind s h.identifier w x) e d)

-- NEITHER COUNTS AS ANYTHING

uncounted : (m : Rest) → m ≡ counting 0 0 true m
unfolding counting
uncounted m =
    let make : Bool → ℕ → ℕ → Rest = λ b x y. record { words = m.words; labels = m.labels; fit = b; containers = x; functions = y; names = m.names; room = m.room; slots = m.slots; script = m.script } in
    let e₁ : m.containers ≡ m.containers + 0 = omega arith in
    let e₂ : m.functions ≡ m.functions + 0 = omega arith in
    ap (λ (b : Bool). make b m.containers m.functions) (sym (and-true m.fit)) ∙ ap (λ (x : ℕ). make (m.fit && true) x m.functions) e₁ ∙ ap (λ (y : ℕ). make (m.fit && true) (m.containers + 0) y) e₂

import_walk : (b : List ℕ) (p : Spot) (a : Ground) → say (decl_b (import b p)) a ≡ decl_walk (import b p) a
unfolding decl_walk behind rows_of fit_decl marked_decl predeclared_by analyze_decl S.ret counting
import_walk b p a = ap (λ (m : Rest). record { out = a.out ++ decl_b (import b p); st = a.st; rest = m }) (uncounted a.rest)

poison_walk : (z : Poison Spot) (a : Ground) → say_poison 5 z a ≡ decl_walk (bad_decl z) a
unfolding decl_walk behind rows_of fit_decl marked_decl predeclared_by analyze_decl decl_b S.ret counting
poison_walk z a = ap (λ (m : Rest). record { out = a.out ++ decl_b (bad_decl z); st = a.st; rest = m }) (uncounted a.rest)

-- what read_import reads is an import
imports : {t : List ℕ} {c : Cur} (a : Ground) → Leads read_import t c (λ x d. say (decl_b x) a ≡ decl_walk x a)
unfolding read_import
imports a = leads_bind _ _ λ b _ _. leads_bind _ _ λ p _ _. leads_got (import b p) (import_walk b p a)

plus-nothing : (k : Counts) → plus k nothing ≡ k
unfolding plus nothing
plus-nothing k =
    let make : ℕ → ℕ → ℕ → ℕ → Counts = λ a b c d. record { containers = a; functions = b; entries = c; statements = d } in
    let none : (n : ℕ) → n + 0 ≡ n = λ n. omega arith in
    ap (λ (u : ℕ). make u (k.functions + 0) (k.entries + 0) (k.statements + 0)) (none k.containers) ∙ ap (λ (u : ℕ). make k.containers u (k.entries + 0) (k.statements + 0)) (none k.functions)
    ∙ ap (λ (u : ℕ). make k.containers k.functions u (k.statements + 0)) (none k.entries) ∙ ap (λ (u : ℕ). make k.containers k.functions k.entries u) (none k.statements)

-- BY ITS KIND

module _ {t : List ℕ} (s : Walk) {m₁ : Result (ℕ × ℕ) Refusal} (g : Gives (below 6) t s.at m₁) where
  pub titled_unread : {x : Refusal} {o l w : List ℕ} {r : Walk} {o' l' w' : List ℕ} → m₁ ≡ Err x → Walks t read_decl decl_walk s o l w r o' l' w'
  titled_unread {x} e = walks λ inp a k. let z : Passes read_decl t s.script.names s.counts s.at (Err x) = decl_unread (subst (λ (u : Result (ℕ × ℕ) Refusal). Gives (below 6) t s.at u) e g) in leads_refused (forget_refused _ _ _ z.is)

  module _ {kind n : ℕ} (e : m₁ ≡ Ok (kind, n)) where
    here_gives : Gives (below 6) t s.at (Ok (kind, n))
    here_gives = subst (λ (u : Result (ℕ × ℕ) Refusal). Gives (below 6) t s.at u) e g

    leads_title : {P : Decl Spot → Cur → Type 0} → Leads (decl_of 63 (get_or decl_kinds kind k_bad_decl)) t (cursor n s.script.names (after s kind)) P → Leads read_decl t (here s) P
    unfolding read_decl decl_head counted
    leads_title k = leads_counting decl_counts decl_head (decl_of 63) (T.kind_value _ 6 here_gives (counts_of s.counts)) λ _. k

    -- behind the kind, with nothing counted
    leads_behind : {P : Decl Spot → Cur → Type 0} (j : ℕ) → kind ≡ j → decl_counts (get_or decl_kinds j k_bad_decl) ≡ nothing → Leads (decl_of 63 (get_or decl_kinds j k_bad_decl)) t (cursor n s.script.names (counts_of s.counts)) P → Leads read_decl t (here s) P
    leads_behind {P} j z q k =
        let none : counts_of s.counts ≡ after s kind = sym (ap (λ (u : ℕ). after s u) z ∙ ap (plus (counts_of s.counts)) q ∙ plus-nothing (counts_of s.counts)) in
        leads_title (subst (λ (u : ℕ). Leads (decl_of 63 (get_or decl_kinds u k_bad_decl)) t (cursor n s.script.names (after s kind)) P) (sym z) (leads_at (ap (cursor n s.script.names) none) k))

    pub titled_not : {x : Result Head Refusal} {f : Refusal} {o l w : List ℕ} {r : Walk} {o' l' w' : List ℕ} → Heads t s.script.names n kind x → x ≡ Err f → Walks t read_decl decl_walk s o l w r o' l' w'
    titled_not hs q = walks λ inp a i. leads_title (record { to = λ y d z. absurd ((told_unread hs q (below_low here_gives) (after s kind)).to y d z) })

    module _ {x : Head} (hs : Heads t s.script.names n kind (Ok x)) where
      pub titled_named : {h : Start} → x ≡ H.Named h → Heading t s kind h
      titled_named q = record { at = n; kinds = here_gives; begins = told_named hs q }

      module _ {o l w : List ℕ} {r : Walk} {o' l' w' : List ℕ} where
        pub titled_import : x ≡ H.Import → Walks t read_import (λ d a. say (decl_b d) a) (moved_to s n) o l w r o' l' w' → Walks t read_decl decl_walk s o l w r o' l' w'
        unfolding decl_of decl_kinds decl_counts
        titled_import q k = walks λ inp a i. leads_behind 4 (told_import hs q) refl (record { to = λ y d u. let v = (k.does inp a (moved_on i)).to y d u in record { cur = v.cur; is = is_same (λ _. (imports a).to y d u) v.is } })

        pub titled_poison : x ≡ H.Poison → Walks t read_poison (say_poison 5) (moved_to s n) o l w r o' l' w' → Walks t read_decl decl_walk s o l w r o' l' w'
        unfolding decl_of decl_kinds decl_counts
        titled_poison q k = walks λ inp a i. leads_behind 5 (told_poison hs q) refl (leads_call _ k inp (moved_on i) λ z _ i₁. leads_end (bad_decl z) refl i₁ λ _. poison_walk z a)

-- get_structure_name: a law for each way out.
use mathlib.Core.Path.{◌≡◌, refl, sym, ap, subst, ◌∙◌}
use mathlib.Core.Bool.{Bool, true, false, ◌&&◌, not}
use mathlib.Core.List.{List, [], ◌∷◌, ◌++◌, append_assoc, append-nil, flat_map}
use mathlib.Core.Option.{some}
use Prim.Native.Nat.{ℕ, zero, suc, ◌+◌, ◌≤◌, ◌<◌}
use native.Mathlib.Omega.{arith}
use native.Mathlib.Nat.{not-suc-le-zero, le_of_suc-le-suc}
use lib.Dec.{ltb, leb}
use lib.ListN.{length, get_or, take, drop, get_elem?, length-append, length-drop}
use lib.Seq.{length-take-le}
use borrow.Author.Tests.{ltb-true, leb-true}
use Rattle.penne.specs.Reader.{Counts, Cur, Got, got, refused, Reader, ret, num, below, such, raw, bytes, moved, many, listed, plus, fits, counted, counting, nothing}
use Rattle.penne.specs.Tree.{Spot, Ident, Decl, Tree, Param, Maybe, Ty, structure}
use Rattle.penne.specs.Read.{place, name, ident, maybe, read_ty, read_param, read_structure, DeclKind, decl_kinds, k_bad_decl, read_constant, read_function, read_function_head, read_import, decl_of, decl_head, decl_counts, read_decl, read_names, among_names}
use Rattle.penne.specs.Write.{num_b, bytes_b}
use Rattle.penne.specs.Scoper.{Asked, told, ask_decl, name_from, structure_name, get_structure_name}
use Rattle.penne.proofs.Leading.{never, same_value, same_cur}
use Rattle.penne.proofs.Booleans.{and_right, some_same, none_some}
use Rattle.std.specs.Result.{result_unwrap_or}
use Rattle.std.specs.Prelude.{Option, Some, None, Result, Ok, Err}
use Rattle.fields.specs.declared.counts.Counts as C
use Rattle.fields.specs.declared.refusal.Reason.TheVariants.{NoSuchDeclaration}
use Rattle.fields.specs.declared.refusal.Refusal.{Refusal}
use Rattle.tree.specs.declared.script.Layout.{Layout}
use Rattle.fields.specs.Answers.{cursor, forget, end_of, Gives, Reads, Skips, counts_of, Passes}
use Rattle.name_table.specs.Names.{part}
use Rattle.tree.specs.Script.{Decoded, AnsweredLayout}
use Rattle.fields.proofs.Chain.{after, here, never', then_is}
use Rattle.fields.proofs.Counting.{counting_no, counting_fits, counting_full}
use Rattle.tree.proofs.Statements.{looked_up, look_is, kind_value}
use Rattle.tree.proofs.Scripts.{Yields, yields_bind, yields_ret}
use Rattle.fields.proofs.Back.{bind_case, many_case}
use Rattle.answer.proofs.Groups.{number_small}
use Rattle.answer.proofs.Spelling.{num_reading}
use Rattle.readers.specs.declared.Part.{Part}
use Rattle.readers.specs.Naming.{name_asked, part_told, Stands, NthDeclaration, titled_by, Titles, NameAt}
use Rattle.readers.proofs.Asking.{such_go, asks_refused, asks_decoded, long, elem_past, elem_case}

-- THE DECLARATION BEHIND n OTHERS

-- so many others are left from `cur` on, where k is counted
pub record Passing (s : List ℕ) (names at n rest : ℕ) (k : C.Counts) (cur : ℕ) : Type 0 where
  pub on : (r : ℕ) → NthDeclaration s names (counts_of k) cur rest r → NthDeclaration s names nothing at n r

pub passing_start : {s : List ℕ} {names at n : ℕ} {k : C.Counts} → counts_of k ≡ nothing → Passing s names at n n k at
passing_start z = record { on = λ r h. rw z at h }

-- what is first of the declarations, and what is left
decls_case : {X : Type 0} (count : ℕ) (s : List ℕ) (c : Cur) (n : ℕ) {ds : List (Decl Spot)} {e : Cur} {d : Decl Spot} → many read_decl count s c ≡ got ds e → get_elem? ds n ≡ some d →
    ((rest : ℕ) (a : Decl Spot) (c₁ : Cur) (tail : List (Decl Spot)) → read_decl s c ≡ got a c₁ → many read_decl rest s c₁ ≡ got tail e → get_elem? (a ∷ tail) n ≡ some d → X) → X
unfolding many ret
decls_case zero s c n {ds} {e} {d} h w next = none_some _ (sym (ap (λ (l : List (Decl Spot)). get_elem? l n) (sym (same_value h))) ∙ w)
decls_case (suc count) s c n h w next = many_case read_decl count s c h λ a c₁ tail h₁ h₂ z. next count a c₁ tail h₁ h₂ (ap (λ (l : List (Decl Spot)). get_elem? l n) (sym z) ∙ w)

module _ {s : List ℕ} {names : ℕ} {k : C.Counts} {cur : ℕ} where
  here_is : NthDeclaration s names (counts_of k) cur 0 cur
  here_is = record { is = λ count ds c d h w. decls_case count s _ 0 h w λ rest a c₁ tail h₁ h₂ y. record { counts = counts_of k; next = c₁; read = h₁ ∙ ap (λ (x : Decl Spot). got x c₁) (some_same y) } }

  -- a declaration that was read once is not refused
  never_go : {n r : ℕ} {e : Refusal} → Passes read_decl s names k cur (Err e) → NthDeclaration s names (counts_of k) cur n r
  unfolding forget
  never_go {n} o = record { is = λ count ds c d h w. decls_case count s _ n h w λ rest a c₁ tail h₁ h₂ y. never' (sym o.is ∙ ap forget h₁) }

  module _ {b : ℕ} {more : C.Counts} (o : Passes read_decl s names k cur (Ok (b, more))) where
    behind : {d : Decl Spot} {c : Cur} → read_decl s (cursor cur names (counts_of k)) ≡ got d c → cursor b names (counts_of more) ≡ c
    unfolding forget
    behind h = here (sym o.is ∙ ap forget h)

    one_more : {n r : ℕ} → NthDeclaration s names (counts_of more) b n r → NthDeclaration s names (counts_of k) cur (suc n) r
    one_more {n} t = record { is = λ count ds c d h w. decls_case count s _ (suc n) h w λ rest a c₁ tail h₁ h₂ y. t.is rest tail c d (subst (λ (x : Cur). many read_decl rest s x ≡ got tail c) (sym (behind h₁)) h₂) y }

  module _ {at n rest : ℕ} (p : Passing s names at n rest k cur) where
    pub passing_done : rest ≡ 0 → NthDeclaration s names nothing at n cur
    passing_done z = p.on _ (subst (λ (j : ℕ). NthDeclaration s names (counts_of k) cur j cur) (sym z) here_is)

    pub passing_never : {r : ℕ} {e : Refusal} → Passes read_decl s names k cur (Err e) → NthDeclaration s names nothing at n r
    passing_never o = p.on _ (never_go o)

    pub passing_more : {rest' b : ℕ} {more : C.Counts} → rest ≡ suc rest' → Passes read_decl s names k cur (Ok (b, more)) → Passing s names at n rest' more b
    passing_more z o = record { on = λ r t. p.on r (subst (λ (j : ℕ). NthDeclaration s names (counts_of k) cur j r) (sym z) (one_more o t)) }

pub ruleset passings = (passing_start, passing_done, passing_never, passing_more)

-- A STRUCTURE'S NAME NUMBER

such_true : {A : Type 0} (test : A → Cur → Bool) (k at : ℕ) (q : Got A) {a : A} {c : Cur} → elim q as (λ _. Got A) [ got x next ↦ elim (test x next) [ true ↦ got x next | false ↦ refused k at ] | refused i p ↦ refused i p ] ≡ got a c → test a c ≡ true
such_true {A} test k at (got x next) {a} {c} e = (elim (test x next) as (λ t. test x next ≡ t → elim t as (λ _. Got A) [ true ↦ got x next | false ↦ refused k at ] ≡ got a c → test a c ≡ true) [
  | true ↦ λ z h. sym (λ j. test (same_value h j) (same_cur h j)) ∙ z
  | false ↦ λ z h. never h
]) refl e
such_true test k at (refused i p) e = never e

-- counting hands on what was read
counting_is : {A : Type 0} (f : A → Counts) (m : Reader A) (s : List ℕ) (c : Cur) {a b : A} {next d : Cur} → m s c ≡ got a next → counting f m s c ≡ got b d → (a ≡ b) × (counted next (f a) ≡ d)
counting_is f m s c {a} {b} {next} {d} e h = (elim (fits (plus next.counts (f a))) as (λ t. fits (plus next.counts (f a)) ≡ t → (a ≡ b) × (counted next (f a) ≡ d)) [
  | true ↦ λ z. let q = sym (counting_fits f m s c e z) ∙ h in (same_value q, same_cur q)
  | false ↦ λ z. never (sym (counting_full f m s c e z) ∙ h)
]) refl

place_num : {X : Type 0} (s : List ℕ) (c : Cur) {p : Spot} {d : Cur} → place s c ≡ got p d → ((v : ℕ) → num s c ≡ got v d → X) → X
unfolding place ret
place_num s c e next = bind_case num _ s c e λ v c₁ h₁ h₂. next v (h₁ ∙ ap (got v) (same_cur h₂))

ident_name : {X : Type 0} (s : List ℕ) (c : Cur) {i : Ident Spot} {d : Cur} → ident s c ≡ got i d → ((c₁ : Cur) → name s c ≡ got i.name c₁ → X) → X
unfolding ident ret
ident_name s c e next = bind_case name _ s c e λ n c₁ h₁ e₁. bind_case num _ s c₁ e₁ λ p c₂ h₂ e₂. bind_case num _ s c₂ e₂ λ v c₃ h₃ e₃. bind_case (below 2) _ s c₃ e₃ λ a c₄ h₄ e₄.
    next c₁ (h₁ ∙ ap (λ (x : ℕ). got x c₁) (ap (λ (x : Ident Spot). x.name) (same_value e₄)))

name_known : (s : List ℕ) (c : Cur) {n : ℕ} {d : Cur} → name s c ≡ got n d → n < d.names
unfolding name such
name_known s c {n} {d} e = ltb-true n d.names (such_true (λ n c. ltb n c.names) 5 c.at (num s c) e)

-- what is no structure has no name here
abbrev Untitled : Decl Spot → Type 0
Untitled d = (t : Tree Spot) → structure_name t d ≡ (0, 0)

untitled : (k : ℕ) → (k ≡ 3 → ⊥) → Yields Untitled (decl_of 63 (get_or decl_kinds k k_bad_decl))
unfolding decl_kinds decl_of read_constant read_function read_function_head read_import structure_name
untitled zero z = yields_bind _ _ λ f. yields_bind _ _ λ p. yields_bind _ _ λ q. yields_bind _ _ λ i. yields_bind _ _ λ x. yields_bind _ _ λ t. yields_ret _ _ (λ _. refl)
untitled (suc zero) z = yields_bind _ _ λ f. yields_bind _ _ λ p. yields_bind _ _ λ q. yields_bind _ _ λ i. yields_bind _ _ λ ps. yields_bind _ _ λ b. yields_bind _ _ λ t. yields_ret _ _ (λ _. refl)
untitled (suc (suc zero)) z = yields_bind _ _ λ f. yields_bind _ _ λ p. yields_bind _ _ λ q. yields_bind _ _ λ i. yields_bind _ _ λ ps. yields_bind _ _ λ t. yields_ret _ _ (λ _. refl)
untitled (suc (suc (suc zero))) z = absurd (z refl)
untitled (suc (suc (suc (suc zero)))) z = yields_bind _ _ λ b. yields_bind _ _ λ p. yields_ret _ _ (λ _. refl)
untitled (suc (suc (suc (suc (suc zero))))) z = yields_bind _ _ λ p. yields_ret _ _ (λ _. refl)
untitled (suc (suc (suc (suc (suc (suc k)))))) z = yields_bind _ _ λ p. yields_ret _ _ (λ _. refl)

title_never : {s : List ℕ} {names at : ℕ} {r : Option ℕ} → ((d : Decl Spot) → Stands s names at d → ⊥) → Titles s names at r
title_never h = record { is = λ d g t. absurd (h d g); known = λ d g. absurd (h d g) }

abbrev kinds : ℕ → DeclKind
kinds n = get_or decl_kinds n k_bad_decl

pub title_unread : {s : List ℕ} {names at : ℕ} {e : Refusal} {r : Option ℕ} → Gives (below 6) s at (Err e) → Titles s names at r
unfolding read_decl decl_head
title_unread {s} {names} g₁ = title_never λ d g. bind_case (counting decl_counts decl_head) (decl_of 63) s _ g.read λ kd c₁ h₁ h₂.
    never (sym (counting_no decl_counts decl_head s _ (look_is kinds 6 s _ ∙ ap (looked_up kinds) (g₁.is names g.counts))) ∙ h₁)

module _ {s : List ℕ} {names at v a : ℕ} (g₁ : Gives (below 6) s at (Ok (v, a))) where
  kind_case : {X : Type 0} {d : Decl Spot} → Stands s names at d → ((k : Counts) (c : Cur) → decl_of 63 (kinds v) s (cursor a names k) ≡ got d c → X) → X
  unfolding read_decl decl_head counted
  kind_case g next = bind_case (counting decl_counts decl_head) (decl_of 63) s _ g.read λ kd c₁ h₁ h₂.
      let z = counting_is decl_counts decl_head s _ (kind_value kinds 6 g₁ g.counts) h₁ in
      next _ _ ((λ j. decl_of 63 (z.0 j) s (z.1 j)) ∙ h₂)

  pub title_other : (v ≡ 3 → ⊥) → Titles s names at None
  title_other z = record { is = λ d g t. kind_case g λ k c h. (untitled v z).all s _ d c h t; known = λ d g. tt }

  module _ (z : v ≡ 3) where
    -- the structure that stands there
    structure_case : {X : Type 0} {d : Decl Spot} → Stands s names at d → ((k : Counts) (f : ℕ) (p : Spot) (i : Ident Spot) (ms : List (Param Spot)) (t : Maybe Spot (Ty Spot)) (c₁ c₂ c₃ : Cur) →
        below 32 s (cursor a names k) ≡ got f c₁ → place s c₁ ≡ got p c₂ → ident s c₂ ≡ got i c₃ → structure f p i ms t ≡ d → X) → X
    unfolding decl_of decl_kinds read_structure ret
    structure_case g next = kind_case g λ k c h.
        bind_case (below 32) _ s _ (ap (λ (j : ℕ). decl_of 63 (kinds j) s (cursor a names k)) (sym z) ∙ h) λ f c₁ e₁ h₁. bind_case place _ s c₁ h₁ λ p c₂ e₂ h₂. bind_case ident _ s c₂ h₂ λ i c₃ e₃ h₃.
        bind_case (listed (read_param 63 true)) _ s c₃ h₃ λ ms c₄ e₄ h₄. bind_case (maybe (read_ty 63 false)) _ s c₄ h₄ λ t c₅ e₅ h₅. next k f p i ms t c₁ c₂ c₃ e₁ e₂ e₃ (same_value h₅)

    pub title_flags : {e : Refusal} {r : Option ℕ} → Gives (below 32) s a (Err e) → Titles s names at r
    title_flags g₂ = title_never λ d g. structure_case g λ k f p i ms t c₁ c₂ c₃ h₁ h₂ h₃ w. never (sym (g₂.is names k) ∙ h₁)

    module _ {v₂ b : ℕ} (g₂ : Gives (below 32) s a (Ok (v₂, b))) where
      flags_case : {X : Type 0} {d : Decl Spot} → Stands s names at d → ((k : Counts) (f : ℕ) (p : Spot) (i : Ident Spot) (ms : List (Param Spot)) (t : Maybe Spot (Ty Spot)) (c₂ c₃ : Cur) (v : ℕ) →
          num s (cursor b names k) ≡ got v c₂ → ident s c₂ ≡ got i c₃ → structure f p i ms t ≡ d → X) → X
      flags_case g next = structure_case g λ k f p i ms t c₁ c₂ c₃ h₁ h₂ h₃ w.
          place_num s _ (ap (place s) (same_cur (sym (g₂.is names k) ∙ h₁)) ∙ h₂) λ v h. next k f p i ms t c₂ c₃ v h h₃ w

      pub title_place : {e : Refusal} {r : Option ℕ} → Gives num s b (Err e) → Titles s names at r
      title_place g₃ = title_never λ d g. flags_case g λ k f p i ms t c₂ c₃ v h₂ h₃ w. never (sym (g₃.is names k) ∙ h₂)

      module _ {v₃ c : ℕ} (g₃ : Gives num s b (Ok (v₃, c))) where
        place_case : {X : Type 0} {d : Decl Spot} → Stands s names at d → ((k : Counts) (f : ℕ) (p : Spot) (i : Ident Spot) (ms : List (Param Spot)) (t : Maybe Spot (Ty Spot)) (c₃ : Cur) →
            name s (cursor c names k) ≡ got i.name c₃ → structure f p i ms t ≡ d → X) → X
        place_case g next = flags_case g λ k f p i ms t c₂ c₃ v h₂ h₃ w.
            ident_name s _ (ap (ident s) (same_cur (sym (g₃.is names k) ∙ h₂)) ∙ h₃) λ c₄ h. next k f p i ms t c₄ h w

        pub title_name : {e : Refusal} {r : Option ℕ} → Reads name s names c (Err e) → Titles s names at r
        title_name g₄ = title_never λ d g. place_case g λ k f p i ms t c₃ h w. never (sym (g₄.is k) ∙ h)

        pub title_is : {n e : ℕ} → Reads name s names c (Ok (n, e)) → Titles s names at (Some n)
        unfolding structure_name
        title_is {n} {e} g₄ = record {
          is = λ d g t. place_case g λ k f p i ms y c₃ h q. ap (structure_name t) (sym q) ∙ ap (λ (j : ℕ). (name_from t.names j, length (get_or t.names j []))) (sym (same_value (sym (g₄.is k) ∙ h)));
          known = λ d g. place_case g λ k f p i ms y c₃ h _. name_known s (cursor c names k) (g₄.is k);
        }

pub ruleset titles = (title_unread, title_other, title_flags, title_place, title_name, title_is)

-- A NAME OF THE TABLE

-- the names stand one behind another, each behind its length, which is one byte
pub data Table (s : List ℕ) : Cur → List (List ℕ) → Type 0 where
  none' : {c : Cur} → Table s c []
  more' : {c : Cur} (c₁ c₂ : Cur) {b : List ℕ} {bs : List (List ℕ)} → length b < 128 → num s c ≡ got (length b) c₁ → c₁.at ≡ c.at + 1 → bytes s c ≡ got b c₂ → c₂.at ≡ c.at + 1 + length b → Table s c₂ bs → Table s c (b ∷ bs)

raw_is : (n : ℕ) (s : List ℕ) (c : Cur) {b : List ℕ} {d : Cur} → raw n s c ≡ got b d → (length b ≡ n) × (d.at ≡ c.at + n)
unfolding raw moved
raw_is n s c {b} {d} e = (elim (leb (c.at + n) (length s)) as (λ t. leb (c.at + n) (length s) ≡ t → elim t as (λ _. Got (List ℕ)) [ true ↦ got (take n (drop c.at s)) (moved c (c.at + n)) | false ↦ refused 3 c.at ] ≡ got b d → (length b ≡ n) × (d.at ≡ c.at + n)) [
  | true ↦ λ z h. (ap length (sym (same_value h)) ∙ length-take-le n (drop c.at s) (omega (arith, length-drop c.at s, leb-true (c.at + n) (length s) z)), sym (ap (λ (x : Cur). x.at) (same_cur h)))
  | false ↦ λ z h. never h
]) refl e

bytes_is : (s : List ℕ) (c : Cur) {c₁ c₂ : Cur} {n : ℕ} {b : List ℕ} → num s c ≡ got n c₁ → raw n s c₁ ≡ got b c₂ → bytes s c ≡ got b c₂
unfolding bytes
bytes_is s c e h = then_is num raw s c ∙ ap (after raw s) e ∙ h

-- what was read behind `before` is a table
pub record Rest (s : List ℕ) (count : ℕ) (before : List (List ℕ)) (c : Cur) (ns : List (List ℕ)) : Type 0 where
  pub names : List (List ℕ)
  pub is : ns ≡ before ++ names
  pub many : length names ≡ count
  pub table : Table s c names

abbrev width : ℕ → Cur → Bool
width n _ = ltb 0 n && ltb n 65

abbrev new : List (List ℕ) → List ℕ → Cur → Bool
new before b _ = not (among_names b before)

pub read_table : (count : ℕ) (before : List (List ℕ)) (s : List ℕ) (c : Cur) {ns : List (List ℕ)} {d : Cur} → read_names count before s c ≡ got ns d → Rest s count before c ns
unfolding read_names such ret
read_table zero before s c e = record { names = []; is = sym (same_value e) ∙ sym (append-nil before); many = refl; table = none' }
read_table (suc count) before s c {ns} e =
    bind_case (such num width 6) _ s c e λ n c₁ e₁ h₁.
    bind_case (such (raw n) (new before) 6) (λ b. read_names count (before ++ (b ∷ []))) s c₁ h₁ λ b c₂ e₂ h₂.
    let number : num s c ≡ got n c₁ = such_go width 6 c.at (num s c) e₁ in
    let text : raw n s c₁ ≡ got b c₂ = such_go (new before) 6 c₁.at (raw n s c₁) e₂ in
    let small : n < 65 = ltb-true n 65 (and_right (ltb 0 n) _ (such_true width 6 c.at (num s c) e₁)) in
    let l = raw_is n s c₁ text in
    let one : c₁.at ≡ c.at + 1 = omega (arith, (num_reading s c n c₁ number).long, ap length (number_small n (omega arith))) in
    let rest = read_table count (before ++ (b ∷ [])) s c₂ h₂ in
    record {
      names = b ∷ rest.names;
      is = rest.is ∙ append_assoc before (b ∷ []) rest.names;
      many = ap suc rest.many;
      table = more' c₁ c₂ (omega (arith, l.0)) (number ∙ ap (λ (j : ℕ). got j c₁) (sym l.0)) one (bytes_is s c number text) (omega (arith, l.0, l.1)) rest.table;
    }

-- where name n stands in the table that begins at `cur`
abbrev place_of : ℕ → ℕ → List (List ℕ) → Asked (ℕ × ℕ)
place_of cur n names = told (cur + length (flat_map bytes_b (take n names)) + 1, length (get_or names n []))

pub record Found (s : List ℕ) (cur n : ℕ) (r : Part) : Type 0 where
  pub is : (c : Cur) (names : List (List ℕ)) → Table s c names → c.at ≡ cur → n < length names → name_asked (Ok r) ≡ place_of cur n names

found_named : {s : List ℕ} {at n : ℕ} {r : Part} → Found s at n r → NameAt s at n r
found_named {s} {at} {n} {r} f = record {
  is = λ count names c e h.
      let t = read_table count [] s _ e in
      subst (λ (l : List (List ℕ)). name_asked (Ok r) ≡ place_of at n l) (sym t.is) (f.is _ t.names t.table refl (omega (arith, h, t.many)));
}

-- so many names are left from `cur` on
pub record Seeking (s : List ℕ) (at n rest cur : ℕ) : Type 0 where
  pub on : (r : Part) → Found s cur rest r → Found s at n r

pub seeking_start : {s : List ℕ} {at n : ℕ} → Seeking s at n n at
seeking_start = record { on = λ r f. f }

module _ {s : List ℕ} {cur : ℕ} where
  -- what was read at a cursor that stands there
  at_cur : {A : Type 0} {r : Result ℕ Refusal} (m : Reader A) → Skips m s cur r → (c : Cur) → c.at ≡ cur → forget (m s c) ≡ end_of c.names c.counts r
  at_cur {r = r} m g c z = ap (λ (j : ℕ). forget (m s (cursor j c.names c.counts))) z ∙ g.is c.names c.counts

  unnamed_go : {n : ℕ} {e : Refusal} (r : Part) → Skips bytes s cur (Err e) → (c : Cur) (names : List (List ℕ)) → Table s c names → c.at ≡ cur → n < length names → name_asked (Ok r) ≡ place_of cur n names
  unfolding forget
  unnamed_go r g c [] none' z h = absurd (not-suc-le-zero h)
  unnamed_go r g c (b ∷ bs) (more' c₁ c₂ small number one text two t) z h = never' (sym (at_cur bytes g c z) ∙ ap forget text)

  module _ {b : ℕ} (g : Skips bytes s cur (Ok b)) where
    next_at : (c : Cur) {c₂ : Cur} {x : List ℕ} → c.at ≡ cur → bytes s c ≡ got x c₂ → b ≡ c₂.at
    unfolding forget
    next_at c z text = ap (λ (x : Cur). x.at) (here (sym (at_cur bytes g c z) ∙ ap forget text))

    further : (x : List ℕ) (xs : List (List ℕ)) (n : ℕ) → length x < 128 → b ≡ cur + 1 + length x → place_of b n xs ≡ place_of cur (suc n) (x ∷ xs)
    unfolding flat_map bytes_b
    further x xs n small z =
        let q : b + length (flat_map bytes_b (take n xs)) + 1 ≡ cur + length (bytes_b x ++ flat_map bytes_b (take n xs)) + 1 = omega (arith, z, length-append (bytes_b x) (flat_map bytes_b (take n xs)), length-append (num_b (length x)) x, ap length (number_small (length x) small)) in
        ap (λ (j : ℕ). told (j, length (get_or xs n []))) q

    more_go : {n : ℕ} (r : Part) → Found s b n r → (c : Cur) (names : List (List ℕ)) → Table s c names → c.at ≡ cur → suc n < length names → name_asked (Ok r) ≡ place_of cur (suc n) names
    more_go r f c [] none' z h = absurd (not-suc-le-zero h)
    more_go {n} r f c (x ∷ xs) (more' c₁ c₂ small number one text two t) z h =
        f.is c₂ xs t (sym (next_at c z text)) (le_of_suc-le-suc h) ∙ further x xs n small (next_at c z text ∙ two ∙ ap (λ (j : ℕ). j + 1 + length x) z)

  lost_go : {n : ℕ} {e : Refusal} (r : Part) → Gives num s cur (Err e) → (c : Cur) (names : List (List ℕ)) → Table s c names → c.at ≡ cur → n < length names → name_asked (Ok r) ≡ place_of cur n names
  lost_go r g c [] none' z h = absurd (not-suc-le-zero h)
  lost_go r g c (b ∷ bs) (more' c₁ c₂ small number one text two t) z h = never (sym (g.is c.names c.counts) ∙ ap (λ (j : ℕ). num s (cursor j c.names c.counts)) (sym z) ∙ number)

  found_go : {v b : ℕ} → Gives num s cur (Ok (v, b)) → (c : Cur) (names : List (List ℕ)) → Table s c names → c.at ≡ cur → 0 < length names → name_asked (Ok (record { start = b; length = v })) ≡ place_of cur 0 names
  unfolding flat_map
  found_go g c [] none' z h = absurd (not-suc-le-zero h)
  found_go {v} {b} g c (x ∷ xs) (more' c₁ c₂ small number one text two t) z h =
      let q = sym (g.is c.names c.counts) ∙ ap (λ (j : ℕ). num s (cursor j c.names c.counts)) (sym z) ∙ number in
      let start : b ≡ cur + 0 + 1 = ap (λ (d : Cur). d.at) (same_cur q) ∙ omega (arith, one, z) in
      let width : v ≡ length x = same_value q in
      λ j. told (start j, width j)

  module _ {at n rest : ℕ} (k : Seeking s at n rest cur) where
    -- names that were read once are not refused
    pub seeking_never : {e : Refusal} {r : Part} → Skips bytes s cur (Err e) → NameAt s at n r
    seeking_never {r = r} g = found_named (k.on r (record { is = unnamed_go r g }))

    pub seeking_more : {rest' b : ℕ} → rest ≡ suc rest' → Skips bytes s cur (Ok b) → Seeking s at n rest' b
    seeking_more z g = record { on = λ r f. k.on r (subst (λ (j : ℕ). Found s cur j r) (sym z) (record { is = more_go g r f })) }

    pub seeking_lost : {e : Refusal} {r : Part} → Gives num s cur (Err e) → NameAt s at n r
    seeking_lost {r = r} g = found_named (k.on r (record { is = lost_go r g }))

    pub seeking_done : {v b : ℕ} → rest ≡ 0 → Gives num s cur (Ok (v, b)) → NameAt s at n (record { start = b; length = v })
    seeking_done {v} {b} z g = found_named (k.on _ (subst (λ (j : ℕ). Found s cur j (record { start = b; length = v })) (sym z) (record { is = found_go g })))

pub ruleset seekings = (seeking_start, seeking_never, seeking_more, seeking_lost, seeking_done)

-- ASKING FOR THE NAME

module _ {s : List ℕ} (k : ℕ) where
  pub name_refused : {e : Refusal} → AnsweredLayout s (Err e) → name_asked (Err e) ≡ get_structure_name s k
  unfolding get_structure_name
  name_refused g = sym (asks_refused _ s k g.not)

  module _ {l : Layout} (g : AnsweredLayout s (Ok l)) where
    abbrev d : Decoded s l
    d = g.out

    abbrev whole : Tree Spot
    whole = record { names = d.laid.table; decls = d.laid.decls; depths = d.depths }

    pub name_past : l.count ≤ k → name_asked (Err (record { reason = NoSuchDeclaration; place = 0 })) ≡ get_structure_name s k
    unfolding get_structure_name ask_decl
    name_past h = sym (asks_decoded _ k d ∙ ap (ask_decl _) (elem_past d.laid.decls k (omega (arith, h, long d))))

    module _ (h : k < l.count) where
      -- the declaration is one that was read
      decl_case : {X : Type 0} → ((a : Decl Spot) → get_elem? d.laid.decls k ≡ some a → X) → X
      decl_case next = elem_case d.laid.decls k (omega (arith, h, long d)) next

      module _ {at : ℕ} (o : NthDeclaration s l.names nothing l.first k at) where
        -- what is told of the declaration
        told_case : {X : Type 0} → ((a : Decl Spot) → Stands s l.names at a → get_structure_name s k ≡ told (structure_name whole a) → X) → X
        unfolding get_structure_name ask_decl
        told_case next = decl_case λ a w. next a (o.is l.count d.laid.decls _ a d.laid.read w) (asks_decoded structure_name k d ∙ ap (ask_decl (structure_name whole)) w)

        pub name_other : Titles s l.names at None → name_asked (Ok (record { start = 0; length = 0 })) ≡ get_structure_name s k
        name_other y = told_case λ a stands w. sym (w ∙ ap told (y.is a stands whole))

        module _ {n : ℕ} (y : Titles s l.names at (Some n)) where
          pub name_unread : {e : Refusal} → Gives num s 0 (Err e) → name_asked (Err e) ≡ get_structure_name s k
          name_unread g₂ = never (sym (g₂.is 0 nothing) ∙ d.laid.counted)

          module _ {v b : ℕ} (g₂ : Gives num s 0 (Ok (v, b))) where
            begin : b ≡ d.laid.begin
            begin = ap (λ (c : Cur). c.at) (same_cur (sym (g₂.is 0 nothing) ∙ d.laid.counted))

            -- behind the count, the names before it and its own length
            from_is : place_of b n d.laid.table ≡ told (titled_by whole (Some n))
            unfolding name_from
            from_is =
                let t = read_table l.names [] s _ d.laid.named in
                let many : length d.laid.table ≡ l.names = ap length t.is ∙ t.many in
                let spelt : b ≡ length (num_b (length d.laid.table)) = begin ∙ sym (num_reading s _ _ _ d.laid.counted).long ∙ omega (arith, ap (λ (j : ℕ). length (num_b j)) many) in
                ap (λ (j : ℕ). told (j + length (flat_map bytes_b (take n d.laid.table)) + 1, length (get_or d.laid.table n []))) spelt

            pub name_is : {z : Part} → NameAt s b n z → name_asked (Ok z) ≡ get_structure_name s k
            name_is f = told_case λ a stands w.
                f.is l.names d.laid.table d.laid.behind (ap (λ (j : ℕ). read_names l.names [] s (cursor j 0 nothing)) begin ∙ d.laid.named) (y.known a stands) ∙ from_is ∙ sym (w ∙ ap told (y.is a stands whole))

pub ruleset names = (name_refused, name_past, name_other, name_unread, name_is)

-- THE PART OF THE TREE

pub part_is : (s : List ℕ) (k : ℕ) (r : Result Part Refusal) → name_asked r ≡ get_structure_name s k → {p : Part} → p ≡ result_unwrap_or r (record { start = 0; length = 0 }) → part s p.start p.length ≡ part_told s (get_structure_name s k)
unfolding part_told
part_is s k (Ok p) g e = rw e (ap (part_told s) g)
part_is s k (Err f) g e = rw e (ap (part_told s) g)

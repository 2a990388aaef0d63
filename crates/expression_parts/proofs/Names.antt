-- Names in expressions: the base of a reference, the name of a call; and the tags before what may be absent.
use mathlib.Core.Path.{◌≡◌, refl, sym, ap, subst, ◌∙◌}
use mathlib.Core.List.{List, ◌++◌, append_assoc}
use mathlib.Core.Option.{none, some}
use Prim.Native.Nat.{ℕ, zero, suc, ◌≤◌}
use native.Mathlib.Omega.{arith}
use lib.ListN.{length}
use borrow.Author.Tests.{ltb-true}
use Rattle.fields.specs.declared.refusal.Refusal.{Refusal}
use Rattle.std.specs.Prelude.{Result, Ok, Err}
use Rattle.penne.specs.Reader.{Counts, Cur, got, Reader, ret, num, below, bytes, raw, nothing}
use Rattle.penne.specs.Tree.{Spot, Ident, Poison, Maybe, ok, err, Carried, Expr, function_call}
use Rattle.penne.specs.Find.{first_named}
use Rattle.penne.specs.Read.{to_nodes}
use Rattle.penne.specs.Write.{num_b, place_b, ident_b, maybe_b, option_b, carried_b, node_b}
use Rattle.penne.specs.State as S
use Rattle.penne.specs.Scopes.{Analyzer, use_variable, use_function, use_function_at}
use Rattle.penne.specs.Variables.{analyze_base, use_called, call_to, analyze_node, analyze_option}
use Rattle.penne.proofs.IdsPass.{still_called, still_node}
use Rattle.fields.specs.declared.field.Identifier.{Identifier}
use Rattle.fields.specs.Answers.{cursor, number_of, counts_of, ident_of, forget, Gives, Skips}
use Rattle.fields.proofs.Chain.{reads, goes, stops}
use Rattle.answer.specs.declared.wrote.Wrote.{Wrote}
use Rattle.answer.specs.Out.{Put}
use Rattle.answer.specs.Parts.{identifier_b, renumbered}
use Rattle.answer.proofs.Spelling.{num_reading}
use Rattle.walk.specs.declared.state.Walk.{Walk}
use Rattle.walk.specs.declared.fault.Fault.{Fault}
use Rattle.walk.specs.Walking.{moved_to, with_wrote, here, Ground, Good, Is, onward, silently, say, say_poison, Did, Leads, Input, fault_b, made_b, Made, made_as, made_not, UsesListed}
use Rattle.walk.proofs.Leading.{such_got, leads_end}
use Rattle.walk.proofs.Writing.{instead, wrote_on}
use Rattle.walk.proofs.Copying.{Spells, spells_num, spells_is, spelled_below}
use Rattle.walk.proofs.Using.{made_used, made_refused}
use Rattle.expression_parts.specs.Expressing.{nodes, nodes_b, list_walk, Headed, used_b}
use Rattle.expression_parts.proofs.Onward.{out_same}

-- NUMBERS AS THE CODE READ THEM

pub number_got : {m : Reader ℕ} {t : List ℕ} {at : ℕ} {r : Result (ℕ × ℕ) Refusal} {v n : ℕ} → Gives m t at r → r ≡ Ok (v, n) → {names : ℕ} {k : Counts} → m t (cursor at names k) ≡ got v (cursor n names k)
number_got g e {names} {k} = g.is names k ∙ ap (number_of names k) e

pub number_spelled : {t : List ℕ} {at : ℕ} {r : Result (ℕ × ℕ) Refusal} {v n : ℕ} → Gives num t at r → r ≡ Ok (v, n) → Spells t at n (num_b v)
number_spelled {t} {at} g e = spells_num t (cursor at 0 nothing) (number_got g e)

pub below_spelled : (limit : ℕ) {t : List ℕ} {at : ℕ} {r : Result (ℕ × ℕ) Refusal} {v n : ℕ} → Gives (below limit) t at r → r ≡ Ok (v, n) → Spells t at n (num_b v)
below_spelled limit {t} {at} {v = v} {n} g e = (spelled_below limit).is t (cursor at 0 nothing) v (cursor n 0 nothing) (number_got g e)

-- a length, then that many bytes
module _ {t : List ℕ} {at : ℕ} {r : Result (ℕ × ℕ) Refusal} (g : Gives num t at r) where
  pub bytes_refused : {x : Refusal} → r ≡ Err x → Skips bytes t at (Err x)
  unfolding bytes forget
  bytes_refused e = let h = subst (λ (q : Result (ℕ × ℕ) Refusal). Gives num t at q) e g in record { is = λ names k. ap forget (stops raw (reads {names = names} h) k) }

  pub bytes_are : {v n : ℕ} {q : Result ℕ Refusal} → r ≡ Ok (v, n) → Skips (raw v) t n q → Skips bytes t at q
  unfolding bytes
  bytes_are e j = let h = subst (λ (q : Result (ℕ × ℕ) Refusal). Gives num t at q) e g in record { is = λ names k. ap forget (goes raw (reads {names = names} h) k) ∙ j.is names k }

-- a tag is read within the tree, and is 0 or 1
module _ {t : List ℕ} {at : ℕ} {r : Result (ℕ × ℕ) Refusal} {v n : ℕ} (g : Gives (below 2) t at r) (e : r ≡ Ok (v, n)) where
  pub tag_within : n ≤ length t
  unfolding below
  tag_within = (num_reading t (cursor at 0 nothing) v (cursor n 0 nothing) (such_got num _ 5 t (cursor at 0 nothing) (number_got g e)).0).within

  tag_one : (v ≡ 0 → ⊥) → v ≡ 1
  unfolding below
  tag_one z = let h = ltb-true v 2 (such_got num _ 5 t (cursor at 0 nothing) (number_got g e)).1 in omega arith

  -- OPTIONS

  pub some_is : (x : Expr Spot) (a : Ground) → (v ≡ 0 → ⊥) → onward analyze_node node_b x (say (num_b v) a) ≡ onward (analyze_option analyze_node) (option_b node_b) (some x) a
  unfolding analyze_option option_b S.◌>>=◌ S.ret
  some_is x a z = out_same (rw (tag_one z) (append_assoc a.out _ _))

pub none_is : {v : ℕ} (a : Ground) → v ≡ 0 → say (num_b v) a ≡ onward (analyze_option (λ (x : Expr Spot). analyze_node x)) (option_b node_b) none a
unfolding analyze_option option_b S.ret
none_is a z = out_same (rw z)

-- NAMES AS LOOKED UP

-- written as the pass answers
used_is : {from : ℕ} {u : Result Identifier Fault} {y : Maybe Spot (Ident Spot)} → Made from u y → used_b u ≡ maybe_b ident_b y
unfolding maybe_b ident_b place_b identifier_b
used_is made_as = refl
used_is (made_not q) = ap (λ (l : List ℕ). num_b 1 ++ l) q

-- xs was written behind s, and the walk went to n
pub went_is : {s : Walk} {o l w : List ℕ} {a : Ground} {xs : List ℕ} {v : Wrote} {o' : List ℕ} {n : ℕ} {r : Walk} → Is s o l w a → Put s.wrote xs o v o' → r ≡ moved_to (with_wrote s v) n → Is r o' l w (say xs a)
went_is {l = l} {w} {a} {xs} {o' = o'} i p e = subst (λ (x : Walk). Is x o' l w (say xs a)) (sym e) (wrote_on i p)

-- BASES

pub short : {t : List ℕ} {n : ℕ} → Input t → n ≤ length t → n ≤ 65535
short h le = let l = h.short in omega arith

pub base_poison : (z : Poison Spot) (a : Ground) → say_poison 1 z a ≡ onward analyze_base (maybe_b ident_b) (err z) a
unfolding analyze_base maybe_b S.ret
base_poison z a = refl

pub base_used : {t : List ℕ} {s : Walk} {o l w : List ℕ} {a : Ground} {i : Identifier} {from n : ℕ} {r : Walk} {u : Result Identifier Fault} {l' w' : List ℕ} {v : Wrote} {o' : List ℕ} → from ≤ 65535 → UsesListed use_variable s i from l w r u l' w' → Is s o l w a → Put r.wrote (used_b u) o v o'
    → Leads (ret (ok (ident_of from i))) t (cursor n s.script.names (counts_of s.counts)) (λ y d. Did d (onward analyze_base (maybe_b ident_b) y a) (moved_to (with_wrote r v) n) o' l' w')
unfolding analyze_base
base_used {o = o} {a = a} {n = n} low k i p =
    let j = k.does low o a i in
    leads_end (ok _) (sym (ap (λ (c : Cur). cursor n c.names c.counts) j.cur)) (wrote_on j.is p)
    λ z. out_same (ap (λ (l : List ℕ). a.out ++ l) (used_is (j.made (record { few = z.few; fit = z.fit }))))

-- CALLS

-- a call's name does not depend on what the arguments changed, and changes nothing
pub called_same : (i : Ident Spot) (b : ℕ) (s s' : Analyzer Spot) → s'.function_list ≡ s.function_list → use_called i b s' ≡ ((use_called i b s).0, s')
unfolding use_called use_function S.ret
called_same i zero s s' e = ap (λ (l : List (Ident Spot)). (use_function_at i (first_named i.name l), s')) e
called_same i (suc b) s s' e = refl

flat : (o k m x y n : List ℕ) → (o ++ (k ++ (m ++ (x ++ y)))) ++ n ≡ o ++ (k ++ (m ++ (x ++ (y ++ n))))
flat o k m x y n = simp append_assoc

module _ (a : Ground) (i : Ident Spot) (b : ℕ) (c : Carried Spot) (es : List (Expr Spot)) where
  call_pass : (y : Maybe Spot (Ident Spot)) → (use_called i b a.st).0 ≡ y → analyze_node (function_call i b c (to_nodes es)) a.st ≡ (call_to b c (nodes es a.st).0 y, (nodes es a.st).1)
  unfolding analyze_node nodes S.◌>>=◌ S.ret
  call_pass y h =
      let s = a.st in
      let e = called_same i b s (analyze_node (to_nodes es) s).1 (still_node (to_nodes es) s).takes.functions in
      ap (λ (r : Maybe Spot (Ident Spot) × Analyzer Spot). (call_to b c (analyze_node (to_nodes es) s).0 r.0, r.1)) (e ∙ ap (λ (m : Maybe Spot (Ident Spot)). (m, (analyze_node (to_nodes es) s).1)) h)

  call_good : Good (onward analyze_node node_b (function_call i b c (to_nodes es)) a) → Good (silently (λ x. use_called x b) i a)
  call_good z =
      let few = z.few in
      let le = (still_node (function_call i b c (to_nodes es)) a.st).takes.lower in
      let up = (still_called i b a.st).takes.upper in
      record { few = omega arith; fit = z.fit }

  pub call_is : {t : List ℕ} {from to : ℕ} {u : Result Identifier Fault} {at : ℕ} {j : Identifier} → Spells t from to (num_b b ++ carried_b c) → (Good (silently (λ x. use_called x b) i a) → Made at u (use_called i b a.st).0) → u ≡ Ok j → Good (onward analyze_node node_b (function_call i b c (to_nodes es)) a)
      → list_walk es (say (num_b 14 ++ (made_b j ++ renumbered t from to)) a) ≡ onward analyze_node node_b (function_call i b c (to_nodes es)) a
  unfolding call_to node_b nodes_b ident_b place_b identifier_b
  call_is h made e z =
      let y = made_used (made (call_good z)) e in
      rw (call_pass _ y, spells_is h) (out_same (flat a.out (num_b 14) (made_b _) (num_b b) (carried_b c) _))

  pub call_bad : {u : Result Identifier Fault} {at : ℕ} {f : Fault} → (Good (silently (λ x. use_called x b) i a) → Made at u (use_called i b a.st).0) → u ≡ Err f → Good (onward analyze_node node_b (function_call i b c (to_nodes es)) a)
      → say (num_b 15 ++ fault_b f) (silently nodes es a) ≡ onward analyze_node node_b (function_call i b c (to_nodes es)) a
  unfolding call_to node_b
  call_bad made e z =
      let y = made_refused (made (call_good z)) e in
      rw (call_pass _ y.1, y.2)

-- the arguments are dropped, and xs is written in their place
pub call_instead : {s : Walk} {o l w : List ℕ} {a : Ground} {s₁ : Walk} {o₁ l₁ w₁ : List ℕ} {xs : List ℕ} {v : Wrote} {o₂ : List ℕ} (es : List (Expr Spot)) → Is s o l w a → Is s₁ o₁ l₁ w₁ (list_walk es a) → Put s.wrote xs o₁ v o₂ → Is (with_wrote s₁ v) o₂ l₁ w₁ (say xs (silently nodes es a))
unfolding nodes
call_instead {a = a} es i i₁ p = instead i _ (still_node (to_nodes es) a.st).takes.lower i₁ p

-- call_head
pub headed_is : {s : Walk} {o l w : List ℕ} {a : Ground} {kind : ℕ} {i : Identifier} {t : List ℕ} {from to : ℕ} {r : Walk} {o' : List ℕ} → Is s o l w a → Headed s kind i t from to o r o' → Is r o' l w (say (num_b kind ++ (made_b i ++ renumbered t from to)) a)
headed_is i k = went_is i k.put k.is

pub here_headed : {s : Walk} {kind : ℕ} {i : Identifier} {t : List ℕ} {from to : ℕ} {o : List ℕ} {r : Walk} {o' : List ℕ} → Headed s kind i t from to o r o' → here r ≡ cursor to s.script.names (counts_of s.counts)
here_headed k = ap here k.is

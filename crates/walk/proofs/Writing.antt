-- What the walk stands for after a write, a move, and where what was written is dropped.
use mathlib.Core.Path.{◌≡◌, sym, subst, ◌∙◌}
use mathlib.Core.Bool.{true}
use mathlib.Core.List.{List, ◌++◌}
use Prim.Native.Nat.{ℕ, ◌≤◌}
use native.Mathlib.Omega.{arith}
use Rattle.penne.specs.Tree.{Spot}
use Rattle.penne.specs.Pruning.{offsets}
use Rattle.penne.specs.Scopes.{Analyzer}
use Rattle.penne.specs.Scoper.{words}
use Rattle.fields.specs.declared.counts.Counts as K
use Rattle.answer.specs.declared.wrote.Wrote.{Wrote}
use Rattle.answer.specs.Out.{Put, Said}
use Rattle.answer.proofs.Said.{said_put, said_back, said_instead}
use Rattle.walk.specs.declared.state.Walk.{Walk}
use Rattle.walk.specs.Walking.{moved_to, with_wrote, with_counts, Rest, Ground, Marks, Is, say}

module _ {s : Walk} {o l w : List ℕ} {a : Ground} (i : Is s o l w a) where
  -- it reads on at n
  pub moved_on : {n : ℕ} → Is (moved_to s n) o l w a
  moved_on = record { when = λ z. let j = i.when z in record { script = j.script; put = j.put; skip = j.skip; tables = j.tables; marks = j.marks } }

  -- xs was written
  pub wrote : {xs : List ℕ} {v : Wrote} {o' : List ℕ} → Put s.wrote xs o v o' → Is (with_wrote s v) o' l w (say xs a)
  wrote p = record { when = λ z. let j = i.when (record { few = z.few; fit = z.fit }) in record { script = j.script; put = said_put j.put p; skip = j.skip; tables = j.tables; marks = j.marks } }

  -- xs was written, and it reads on at n
  pub wrote_on : {xs : List ℕ} {v : Wrote} {o' : List ℕ} {n : ℕ} → Put s.wrote xs o v o' → Is (moved_to (with_wrote s v) n) o' l w (say xs a)
  wrote_on p = let j = wrote p in record { when = λ z. let k = j.when z in record { script = k.script; put = k.put; skip = k.skip; tables = k.tables; marks = k.marks } }

  -- so much is counted: the tables have room for it, the marks are those of m
  pub counted : {k : K.Counts} (m : Rest) → s.counts.entries ≤ k.entries → m.script ≡ a.rest.script → m.room ≡ a.rest.room → m.slots ≡ a.rest.slots → (m.fit ≡ true → a.rest.fit ≡ true)
      → (m.fit ≡ true → Marks s.counts w a.rest → Marks k w m) → Is (with_counts s k) o l w (record { out = a.out; st = a.st; rest = m })
  counted {k} n le es er el ef em = record {
    when = λ z.
        let j = i.when (record { few = z.few; fit = ef z.fit }) in
        let t = j.tables in
        let few = t.entries in
        record {
          script = j.script ∙ sym es;
          put = subst (λ (x : ℕ). Said s.wrote o a.out x) (sym er) j.put;
          skip = subst (λ (x : ℕ). Said s.listed l (words (offsets a.st.prunings.skips)) x) (sym el) j.skip;
          tables = record { long = t.long; scopes = t.scopes; containers = t.containers; functions = t.functions; layer = t.layer; next = t.next; given = t.given; whose = t.whose; names = t.names; entries = omega arith; early = t.early; bare = t.bare };
          marks = em z.fit j.marks;
        };
  }

  -- the bytes so far, said otherwise
  pub out_is : {xs : List ℕ} → a.out ≡ xs → Is s o l w (record { out = xs; st = a.st; rest = a.rest })
  out_is e = subst (λ (xs : List ℕ). Is s o l w (record { out = xs; st = a.st; rest = a.rest })) e (record { when = λ z. let j = i.when (record { few = z.few; fit = z.fit }) in record { script = j.script; put = j.put; skip = j.skip; tables = j.tables; marks = j.marks } })

  module _ (xs : List ℕ) {s₁ : Walk} {o₁ l₁ w₁ : List ℕ} {b : Analyzer Spot} (grown : a.st.resolution_id ≤ b.resolution_id)
      (i₁ : Is s₁ o₁ l₁ w₁ (record { out = a.out ++ xs; st = b; rest = a.rest })) where
    -- xs was written since, and is dropped
    pub rewound : Is (with_wrote s₁ s.wrote) o₁ l₁ w₁ (record { out = a.out; st = b; rest = a.rest })
    rewound = record {
      when = λ z. let j = i.when (record { few = omega (arith, z.few); fit = z.fit }) in let j₁ = i₁.when (record { few = z.few; fit = z.fit }) in record { script = j₁.script; put = said_back xs j.put j₁.put; skip = j₁.skip; tables = j₁.tables; marks = j₁.marks };
    }

    -- xs was written since, and is dropped; ys is written in its place
    pub instead : {ys : List ℕ} {v : Wrote} {o₂ : List ℕ} → Put s.wrote ys o₁ v o₂ → Is (with_wrote s₁ v) o₂ l₁ w₁ (record { out = a.out ++ ys; st = b; rest = a.rest })
    instead p = record {
      when = λ z. let j = i.when (record { few = omega (arith, z.few); fit = z.fit }) in let j₁ = i₁.when (record { few = z.few; fit = z.fit }) in record { script = j₁.script; put = said_instead xs j.put j₁.put p; skip = j₁.skip; tables = j₁.tables; marks = j₁.marks };
    }

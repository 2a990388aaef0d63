-- Scopes are opened and closed, ids are taken: what the walk stands for afterwards.
use mathlib.Core.Path.{◌≡◌, refl, sym, ap, ◌∙◌}
use mathlib.Core.List.{List}
use Prim.Native.Nat.{ℕ, ◌+◌, ◌≤◌, min}
use native.Mathlib.Nat.{min-eq_left}
use native.Mathlib.Omega.{arith}
use lib.ListN.{length, drop, length-append, length-drop}
use lib.Seq.{length-take-le}
use borrow.Rule.Slice.PartMut.{put_mid}
use Rattle.penne.specs.Scopes.{with_stack, next_id}
use Rattle.scopes.specs.declared.scope.Scope.{Scope}
use Rattle.scopes.specs.Calls as S
use Rattle.scopes.proofs.Analyzing.{mirrors_open, mirrors_close, mirrors_next}
use Rattle.walk.specs.declared.state.Walk.{Walk}
use Rattle.walk.specs.Walking.{with_tables, scopes_in, opening, closing, numbering, Opens, Numbers, Closes}
use Rattle.walk.proofs.Early.{early_same, early_close}
use Rattle.walk.proofs.Tables.{scopes_changed, state_changed, marks_kept, lower_scopes}

-- the work words have a part for the scopes
pub scopes_room : (w : List ℕ) → 16384 ≤ length w → length (scopes_in w) ≡ 11264
scopes_room w h = length-take-le 11264 (drop 2048 w) (omega (arith, length-drop 2048 w))

module _ {s : Walk} where
  -- push_scope
  pub opened_is : {sc : Scope} → S.Opens s.tables.scope sc → Opens s (with_tables s (record { scope = sc; next_id = s.tables.next_id; constant = s.tables.constant }))
  unfolding with_stack
  opened_is p = record {
    cur = refl;
    is = λ {o} {l} {w} {a} i. record {
      when = λ z.
          let j = i.when (record { few = z.few; fit = z.fit }) in
          let t = j.tables in
          record { script = j.script; put = j.put; skip = j.skip; tables = state_changed t (opening a).st (mirrors_open t.scopes p) refl refl refl t.next (omega arith) refl t.entries (early_same t.early (opening a).st refl refl (λ x. refl) (omega arith)) (λ r d e. e); marks = j.marks };
    };
  }

  -- create_anonymous_resolution_id
  pub numbered_is : {n : ℕ} → n ≡ min (s.tables.next_id + 1) 4294967295 → Numbers s (with_tables s (record { scope = s.tables.scope; next_id = n; constant = s.tables.constant }))
  unfolding next_id
  numbered_is e = record {
    cur = refl;
    is = λ {o} {l} {w} {a} i. record {
      when = λ z.
          let j = i.when (record { few = omega (arith, z.few); fit = z.fit }) in
          let t = j.tables in
          record {
            script = j.script;
            put = j.put;
            skip = j.skip;
            tables = state_changed t (numbering a).st (mirrors_next t.scopes) refl refl refl (e ∙ ap (λ (x : ℕ). min (x + 1) 4294967295) t.next ∙ min-eq_left z.few) (omega arith) refl t.entries
                (early_same t.early (numbering a).st refl refl (λ x. refl) (omega arith)) (λ r d e. e);
            marks = j.marks;
          };
    };
  }

  -- pop_scope
  pub closed_is : {outer : Scope} {w : List ℕ} {sc : Scope} {ys : List ℕ} → S.Closes s.tables.scope outer (scopes_in w) sc ys
      → Closes s outer w (with_tables s (record { scope = sc; next_id = s.tables.next_id; constant = s.tables.constant })) (put_mid 2048 11264 w ys)
  unfolding with_stack
  closed_is {w = w} {ys = ys} p = record {
    cur = refl;
    is = λ {o} {l} {a} {q} {o₀} {l₀} {w₀} {b} e i₀ i g le. record {
      when = λ z.
          let j = i.when (record { few = z.few; fit = z.fit }) in
          let j₀ = i₀.when (le (record { few = z.few; fit = z.fit })) in
          let t = j.tables in
          let t₀ = j₀.tables in
          let room = t.entries in
          record {
            script = j.script;
            put = j.put;
            skip = j.skip;
            tables = scopes_changed t (closing b a).st (p.kept.long ∙ scopes_room w t.long) (mirrors_close t.scopes b.st.variable_stack g.more (rw (sym e) at p) g.constants g.locals t₀.scopes.holds.counted t₀.scopes.holds.begins) refl refl (sym g.constants) t.next (omega arith) refl
                (omega (arith, ap length g.locals, length-append b.st.variable_stack.locals g.more)) (early_close t.early b.st.variable_stack g.more g.locals)
                (λ r d e. omega (arith, ap length g.locals, length-append b.st.variable_stack.locals g.more));
            marks = marks_kept (lower_scopes w ys t.long p.kept) j.marks;
          };
    };
  }

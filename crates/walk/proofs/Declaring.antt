-- A variable, parameter or member is declared.
use mathlib.Core.Path.{◌≡◌, refl, sym, ap, subst, ◌∙◌}
use mathlib.Core.List.{List, [], ◌∷◌}
use mathlib.Core.Option.{Option, none}
use Prim.Native.Nat.{ℕ, ◌+◌, min}
use native.Mathlib.Nat.{min-eq_left}
use native.Mathlib.Omega.{arith}
use lib.ListN.{length-append}
use borrow.Rule.Slice.PartMut.{put_mid}
use Rattle.std.specs.Prelude.{Ok, Err, Some, None}
use Rattle.std.specs.Prelude as Rust
use Rattle.penne.specs.Tree.{Spot, Ident, ok}
use Rattle.penne.specs.Find.{resolved}
use Rattle.penne.specs.Containers.{Container}
use Rattle.penne.specs.Scopes.{with_stack, next_id, unless_duplicate, authoritative, push_variable, declare_variable}
use Rattle.fields.specs.declared.field.Identifier.{Identifier}
use Rattle.fields.specs.Answers.{ident_of}
use Rattle.scopes.specs.declared.scope.Scope.{Scope}
use Rattle.scopes.specs.Calls as S
use Rattle.scopes.proofs.Analyzing.{mirrors_declare}
use Rattle.walk.specs.declared.state.Walk.{Walk}
use Rattle.walk.specs.declared.fault.Fault.{Fault}
use Rattle.answer.specs.Parts.{resolved_to}
use Rattle.walk.specs.Walking.{with_tables, scopes_in, Whose, nobody, somebody, Good, Made, made_as, made_not, duplicate_fault}
use Rattle.walk.specs.Calls.{PlaceOfVariable, Pushes, DeclaresBy}
use Rattle.walk.proofs.Early.{early_declare}
use Rattle.walk.proofs.Tables.{scopes_changed, marks_kept, lower_scopes}
use Rattle.walk.proofs.Scoping.{scopes_room}
use Rattle.walk.proofs.Faults.{duplicate_bytes}
use Rattle.walk.proofs.Using.{placed_at, placed_nowhere}

-- whose value it is not
whose_nobody : {cs : List (Container Spot)} {count : ℕ} {constant : Rust.Option ℕ} {o : Option (Ident Spot)} → Whose cs count constant o → o ≡ none → constant ≡ None
whose_nobody (nobody e) q = e
whose_nobody (somebody r e l z) q = absurd (let y : ◌≡◌ {A = ℕ} 0 1 = cc in omega arith)

-- the last layer has one more, which took the next id
pub pushed_is : {s : Walk} {i : Identifier} {from : ℕ} {w : List ℕ} {n : ℕ} {more : Scope} {ys : List ℕ} → S.Declares s.tables.scope (record { name = i.name; place = i.place; from = from; id = i.id }) (scopes_in w) more ys
    → n ≡ min (s.tables.next_id + 1) 4294967295 → Pushes s i from w (with_tables s (record { scope = more; next_id = n; constant = s.tables.constant })) (put_mid 2048 11264 w ys)
unfolding declare_variable next_id with_stack push_variable authoritative resolved
pushed_is {s} {i} {from} {w} {ys = ys} d e = record {
  cur = refl;
  is = λ far id low few kind o l a room out j. record {
    when = λ z.
        let y : Good a = record { few = omega (arith, z.few); fit = z.fit } in
        let v = j.when y in
        let t = v.tables in
        let names = t.names in
        let less = room y in
        let nobody : s.tables.constant ≡ None = whose_nobody t.whose (out y) in
        record {
          script = v.script;
          put = v.put;
          skip = v.skip;
          tables = scopes_changed t (declare_variable kind (ident_of from i) a.st).1 (d.kept.long ∙ scopes_room w t.long)
              (mirrors_declare t.scopes kind (ident_of from i) d (omega arith) (record { name = refl; place = refl; from = refl; id = id ∙ t.next }) (omega arith)) refl refl refl
              (e ∙ ap (λ (x : ℕ). min (x + 1) 4294967295) t.next ∙ min-eq_left z.few) (omega arith) refl
              (omega (arith, length-append a.st.variable_stack.locals (authoritative a.st (ident_of from i) ∷ []))) (early_declare t.early kind (ident_of from i)) (λ c q. absurd (let z = sym nobody ∙ q in let y : ◌≡◌ {A = ℕ} 0 1 = cc in omega arith));
          marks = marks_kept (lower_scopes w ys t.long d.kept) v.marks;
        };
  };
}

module _ (s : Walk) (i : Identifier) {from : ℕ} {w : List ℕ} {pl : Rust.Option ℕ} {after : Walk} {w' : List ℕ} (g : PlaceOfVariable s i.name w pl) {made : Identifier} (m : made ≡ resolved_to i s.tables.next_id 1) (d₀ : Pushes s made from w after w') where
  d : Pushes s (resolved_to i s.tables.next_id 1) from w after w'
  d = subst (λ (x : Identifier). Pushes s x from w after w') m d₀

  -- a name that is new
  pub declared_new : {kind : ℕ} → pl ≡ None → DeclaresBy kind s i from w after (Ok made) w'
  unfolding declare_variable next_id with_stack push_variable unless_duplicate authoritative resolved
  declared_new {kind} q = subst (λ (x : Identifier). DeclaresBy kind s i from w after (Ok x) w') (sym m) (record {
    does = λ h₁ h₂. record {
      does = λ h low few o l a room out j. record {
        cur = d.cur;
        is = d.is h refl low few kind o l a room out j;
        made = λ z.
            let t = (j.when (record { few = omega (arith, z.few); fit = z.fit })).tables in
            let x = ident_of from i in
            subst (λ (y : Option (Ident Spot)). Made from (Ok (resolved_to i s.tables.next_id 1)) (unless_duplicate kind (authoritative a.st x) y)) (sym (placed_nowhere (g.tells t) q))
            (subst (λ (k : ℕ). Made from (Ok (resolved_to i s.tables.next_id 1)) (ok (resolved x k 1))) t.next made_as);
      };
    };
  })

  -- one that is there already
  pub declared_again : {kind p : ℕ} {f : Fault} → pl ≡ Some p → f ≡ duplicate_fault kind i p → DeclaresBy kind s i from w after (Err f) w'
  unfolding declare_variable next_id with_stack push_variable unless_duplicate authoritative resolved
  declared_again {kind} {p} q e = subst (λ (x : Fault). DeclaresBy kind s i from w after (Err x) w') (sym e) (record {
    does = λ h₁ h₂. record {
      does = λ h low few o l a room out j. record {
        cur = d.cur;
        is = d.is h refl low few kind o l a room out j;
        made = λ z.
            let t = (j.when (record { few = omega (arith, z.few); fit = z.fit })).tables in
            let b = placed_at (g.tells t) q in
            subst (λ (y : Option (Ident Spot)). Made from (Err (duplicate_fault kind i p)) (unless_duplicate kind (authoritative a.st (ident_of from i)) y)) (sym b.1) (made_not (duplicate_bytes kind i from p b.0.place b.2 h₁ h₂));
      };
    };
  })

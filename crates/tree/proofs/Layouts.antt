-- Where the parts of a tree stand, and whether it passes.
use Rattle.std.proofs.Common.{ℕ, ◌≤◌, ◌<◌, ◌≡◌, sym, ap, ◌∙◌, List, length, Result, Ok, Err}
use Rattle.std.proofs.Math.Option.{none, some}
use borrow.Author.Tests.{lt-ltb, le-ltb}
use Rattle.penne.specs.Reader.{Cur, Got, got, Reader, ret, each}
use Rattle.penne.specs.Tree.{Spot, Decl, Tree}
use Rattle.penne.specs.Read.{read_tree, ended, decode, incoming, answered, read_decl}
use Rattle.fields.specs.declared.refusal.Reason.TheVariants.{TreeTooLong, LeftOver}
use Rattle.fields.specs.declared.refusal.Refusal.{Refusal}
use Rattle.tree.specs.declared.script.Layout.{Layout}
use Rattle.fields.specs.Answers.{cursor, row_of, Ends}
use Rattle.tree.specs.Script.{refusal_of, refusal, start, LaidOut, Lays, IncomingDepths, AnsweredDepths, LayoutAs}
use Rattle.fields.proofs.Back.{many_length, forget_got, forget_refused}
use Rattle.fields.proofs.Chain.{after, then_is}

module _ (depth : Decl Spot → Reader ℕ) where
  pub layout_long : {s : List ℕ} → 65535 < length s → LayoutAs depth s (Err (record { reason = TreeTooLong; place = 0 }))
  unfolding refusal
  layout_long {s} h = record { out = tt; not = rw (lt-ltb 65535 (length s) h, refusal) }

  module _ (s : List ℕ) (h : length s ≤ 65535) where
    short_on : refusal depth s ≡ refusal_of (decode depth s)
    unfolding refusal
    short_on = rw (le-ltb 65535 (length s) h, refusal)

    pub layout_unlaid : {e : Refusal} → Lays s (Err e) → LayoutAs depth s (Err e)
    unfolding decode ended refusal_of
    layout_unlaid g = record { out = tt; not = short_on ∙ ap (λ (q : Got (Tree Spot)). refusal_of (ended s q)) (g.not depth) }

    module _ {l : Layout} (o : LaidOut s l) where
      abbrev here_o : Cur
      here_o = cursor l.depths l.names o.counts

      abbrev made : List ℕ → Tree Spot
      made hs = record { names = o.table; decls = o.decls; depths = hs }

      whole_o : read_tree depth s start ≡ after (λ hs. ret (made hs)) s (each depth o.decls s here_o)
      whole_o = o.whole depth ∙ then_is _ _ s _

      pub layout_refused : {e : Refusal} → Ends (each depth o.decls) s l.names l.depths (Err e) → LayoutAs depth s (Err e)
      unfolding decode ended refusal_of
      layout_refused d = record { out = tt; not = short_on ∙ ap (λ (q : Got (Tree Spot)). refusal_of (ended s q)) (whole_o ∙ ap (after (λ hs. ret (made hs)) s) (forget_refused _ _ _ (d.is o.counts))) }

      module _ {n : ℕ} (d : Ends (each depth o.decls) s l.names l.depths (Ok n)) where
        reads_o : (hs : List ℕ) × (each depth o.decls s here_o ≡ got hs (cursor n l.names o.counts))
        reads_o = forget_got _ _ (d.is o.counts)

        all_o : read_tree depth s start ≡ got (made reads_o.0) (cursor n l.names o.counts)
        unfolding ret
        all_o = whole_o ∙ ap (after (λ hs. ret (made hs)) s) reads_o.1

        pub layout_left : n < length s → LayoutAs depth s (Err (record { reason = LeftOver; place = n }))
        unfolding decode ended refusal_of
        layout_left t = record { out = tt; not = short_on ∙ ap (λ (q : Got (Tree Spot)). refusal_of (ended s q)) all_o ∙ left_over (made reads_o.0) }
          where
            left_over : (y : Tree Spot) → refusal_of (ended s (got y (cursor n l.names o.counts))) ≡ some (10, n)
            left_over y = rw (lt-ltb n (length s) t, ended)

        pub layout_all : length s ≤ n → LayoutAs depth s (Ok l)
        unfolding decode ended
        layout_all t = record {
          not = tt;
          out = record {
            laid = o;
            depths = reads_o.0;
            end = cursor n l.names o.counts;
            read = reads_o.1;
            short = le-ltb 65535 (length s) h;
            decoded = ap (ended s) all_o ∙ all_read (made reads_o.0);
          };
        }
          where
            all_read : (y : Tree Spot) → ended s (got y (cursor n l.names o.counts)) ≡ got y (cursor n l.names o.counts)
            all_read y = rw (le-ltb n (length s) t, ended)

  pub passes_out : {s : List ℕ} {l : Layout} → LayoutAs depth s (Ok l) → none ≡ refusal depth s
  unfolding refusal refusal_of
  passes_out g = let d = g.out in sym (rw (d.short, refusal) (ap refusal_of d.decoded))

  pub refuses_out : {s : List ℕ} {e : Refusal} → LayoutAs depth s (Err e) → some (row_of e.reason, e.place) ≡ refusal depth s
  refuses_out g = sym g.not

-- the depths as each of the two ways reads them
module _ {s : List ℕ} {l : Layout} (o : LaidOut s l) {r : Result ℕ Refusal} where
  pub answered_ends : AnsweredDepths s l r → Ends (each answered o.decls) s l.names l.depths r
  answered_ends d = d.ends o.decls _ o.read

  pub incoming_ends : IncomingDepths s l.count l.depths r → Ends (each incoming o.decls) s l.names l.depths r
  incoming_ends d = record { is = (d.ends o.decls (many_length read_decl l.count _ _ o.read)).is l.names }

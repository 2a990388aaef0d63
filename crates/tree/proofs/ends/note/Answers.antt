use Rattle.std.proofs.Common.{rules, ◌≡◌}
use Rattle.tree.proofs.Noting.{notes_written}
use Rattle.tree.proofs.ends.note.Goals as goal

pub returns : goal.returns
returns c =
    let e : c.in-Ok-Ok.begin ≡ c.args.at = search rules in
    let f : c.in-Ok-Ok.end ≡ c.args.next = search rules in
    notes_written c.args.ends.now c.args.row c.args.at c.args.next c.args.counts c.args.more (rw (← e) c.set_word.ensures) c.set_counts.ensures c.set_counts-2.ensures (rw (← f) c.set_word-2.ensures)

use Rattle.std.proofs.Common.{rules}
use Rattle.statement_parts.proofs.Jumps.{prune_short, prune_none, prune_is}
use Rattle.statement_parts.proofs.prune.Goals as goal

pub returns-then-work-lt-WORDS : goal.returns-then-work-lt-WORDS
returns-then-work-lt-WORDS c = search (rules, prune_short, prune_none)

pub returns : goal.returns
returns c = prune_is c.if-label-eq0.false c.prune_at_label.ensures

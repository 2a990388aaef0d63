use Rattle.std.proofs.Common.{rules}
use Rattle.statement_parts.proofs.Jumps.{prepare_short, prepare_none, prepare_is}
use Rattle.statement_parts.proofs.prepare.Goals as goal

pub returns-then-work-lt-WORDS : goal.returns-then-work-lt-WORDS
returns-then-work-lt-WORDS c = search (rules, prepare_short, prepare_none)

pub returns : goal.returns
returns c = prepare_is c.prepare_to_prune_at_goto.ensures

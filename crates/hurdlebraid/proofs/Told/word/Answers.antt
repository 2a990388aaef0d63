use native.Mathlib.Omega.{arith}
use Rattle.hurdlebraid.proofs.Telling.{word_past, word_is}
use Rattle.hurdlebraid.specs.Telling.{word_of, told_by}
use Rattle.hurdlebraid.proofs.Told.word.Goals as goal

pub returns-in-0 : goal.returns-in-0
unfolding word_of
returns-in-0 c = word_is (told_by c.args.self) 0 c.in-0.is

pub returns-in-1 : goal.returns-in-1
unfolding word_of
returns-in-1 c = word_is (told_by c.args.self) 1 c.in-1.is

pub returns-in-2 : goal.returns-in-2
unfolding word_of
returns-in-2 c = word_is (told_by c.args.self) 2 c.in-2.is

pub returns-in-3 : goal.returns-in-3
unfolding word_of
returns-in-3 c = word_is (told_by c.args.self) 3 c.in-3.is

pub returns-in_default : goal.returns-in_default
unfolding word_of
returns-in_default c = word_past (told_by c.args.self) (omega arith) (omega arith) (omega arith) (omega arith)

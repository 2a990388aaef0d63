use mathlib.Core.Path.{refl}
use Rattle.std.proofs.lemmas.Result.{err_from_is_err_and}
use Rattle.entries.proofs.Entries.{entry_unplaced, entry_full, entry_untagged, entry_nameless, entry_declared, refuses, goes_on}
use Rattle.entries.proofs.entry_name.Goals as goal

pub returns-in_err-p : goal.returns-in_err-p
returns-in_err-p c = record { named = entry_unplaced _ c.in_err-p.ensures refl; stopped = refuses (err_from_is_err_and c.from_residual.result c.from_residual.ensures.1).1 }

pub returns-in_err-c : goal.returns-in_err-c
returns-in_err-c c = record { named = entry_full _ c.in_ok-p.ensures refl c.count.ensures c.entry.ensures c.in_err-c.ensures.ok_part; stopped = refuses (err_from_is_err_and c.from_residual-in_err-c.result c.from_residual-in_err-c.ensures.1).1 }

pub returns-in_err-t : goal.returns-in_err-t
returns-in_err-t c = record { named = entry_untagged _ c.in_ok-p.ensures refl c.count.ensures c.entry.ensures c.in_ok-c.ensures.ok_part c.in_err-t.ensures refl; stopped = refuses (err_from_is_err_and c.from_residual-in_err-t.result c.from_residual-in_err-t.ensures.1).1 }

pub returns-then-t-ne0 : goal.returns-then-t-ne0
returns-then-t-ne0 c = record { named = entry_nameless _ c.in_ok-p.ensures refl c.count.ensures c.entry.ensures c.in_ok-c.ensures.ok_part c.then_number-st.ensures c.in_ok-t.ensures refl c.if-t-ne0.true c.copy_poison.ensures; stopped = goes_on c.in_ok-p.ensures c.count.ensures c.entry.ensures c.in_ok-c.ensures.ok_part c.in_ok-t.ensures }

pub returns : goal.returns
returns c = record { named = entry_declared _ c.in_ok-p.ensures refl c.count.ensures c.entry.ensures c.in_ok-c.ensures.ok_part c.then_number-st.ensures c.in_ok-t.ensures refl c.if-t-ne0.false c.declared.ensures; stopped = goes_on c.in_ok-p.ensures c.count.ensures c.entry.ensures c.in_ok-c.ensures.ok_part c.in_ok-t.ensures }

use mathlib.Core.Path.{refl}
use Rattle.entries.proofs.Entries.{declared_unread, declared_as, declared_not}
use Rattle.entries.proofs.declared.Goals as goal

pub returns-in_err-i : goal.returns-in_err-i
returns-in_err-i c = declared_unread c.in_err-i.ensures refl

pub returns-in-Ok : goal.returns-in-Ok
returns-in-Ok c = declared_as c.in_ok-i.ensures refl c.in-Ok.ensures c.write_ok-st.ensures

pub returns-in-Err : goal.returns-in-Err
returns-in-Err c = declared_not c.in_ok-i.ensures refl c.in-Err.ensures c.write_fault-st.ensures

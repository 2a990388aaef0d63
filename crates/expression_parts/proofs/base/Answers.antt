use mathlib.Core.Path.{refl}
use Rattle.penne.specs.Tree.{err}
use Rattle.walk.proofs.Leading.{walks, leads_identified, leads_unidentified, leads_call, leads_end}
use Rattle.walk.proofs.Writing.{moved_on}
use Rattle.walk.proofs.Choosing.{leads_unmaybe, leads_ok, leads_err}
use Rattle.expression_parts.proofs.Names.{tag_within, short, base_poison, base_used}
use Rattle.expression_parts.proofs.base.Goals as goal

pub returns-in_default : goal.returns-in_default
returns-in_default c = walks λ h a i. leads_unmaybe c.below.ensures _ c.in_default.is

pub returns-then-t-ne0 : goal.returns-then-t-ne0
returns-then-t-ne0 c = walks λ h a i. leads_err c.below.ensures _ c.in-Ok.is c.if-t-ne0.true (leads_call _ (c.copy_poison.ensures _ _) h (moved_on i) λ z _ i₁. leads_end (err z) refl i₁ λ _. base_poison z a)

pub returns-in_default-read_identifier : goal.returns-in_default-read_identifier
returns-in_default-read_identifier c = walks λ h a i. leads_ok c.below.ensures _ c.in-Ok.is c.if-t-ne0.false (leads_unidentified _ c.read_identifier.ensures c.in_default-read_identifier.is)

pub returns : goal.returns
returns c = walks λ h a i. leads_ok c.below.ensures _ c.in-Ok.is c.if-t-ne0.false (leads_identified _ c.read_identifier.ensures c.in-Ok-read_identifier.is (base_used (short h (tag_within c.below.ensures c.in-Ok.is)) c.use_variable-used.ensures i c.write_used-st.ensures))

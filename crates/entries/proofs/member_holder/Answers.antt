use Rattle.entries.proofs.MemberEdges.{decides_nobody, decides_by}
use Rattle.entries.proofs.member_holder.Goals as goal

pub returns-in_err-member : goal.returns-in_err-member
returns-in_err-member c = rw c.from_residual.ensures (decides_nobody c.in_err-member.was)

pub returns : goal.returns
returns c = decides_by c.in_ok-member.was

use Rattle.walk.proofs.Finding.{named_unread, named_nothing, named_at}
use Rattle.walk.proofs.edges.found_named.Goals as goal

pub returns-in_default : goal.returns-in_default
returns-in_default c = named_unread _ c.read_identifier.ensures c.in_default.is

pub returns-in_default-find_in : goal.returns-in_default-find_in
returns-in_default-find_in c = named_nothing _ c.read_identifier.ensures _ c.in-Ok.is c.find_in.ensures c.in_default-find_in.is

pub returns : goal.returns
returns c = named_at _ c.read_identifier.ensures _ c.in-Ok.is c.find_in.ensures c.in-Some.is c.edge_to.ensures

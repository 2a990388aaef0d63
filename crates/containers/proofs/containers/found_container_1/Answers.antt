use Rattle.containers.proofs.Following.{follows_short, follows_is}
use Rattle.containers.proofs.containers.found_container_1.Goals as goal

pub returns-then-table-lt-CONTAINERS_WORDS : goal.returns-then-table-lt-CONTAINERS_WORDS
returns-then-table-lt-CONTAINERS_WORDS c = follows_short c.if-table-lt-CONTAINERS_WORDS.true

pub returns : goal.returns
returns c = follows_is c.if-table-lt-CONTAINERS_WORDS.false c.add.ensures c.take_in.ensures

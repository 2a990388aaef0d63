use Rattle.containers.proofs.Marking.{releases_short, releases_is}
use Rattle.containers.proofs.depths.release.Goals as goal

pub returns-then-table-lt-CONTAINERS_WORDS : goal.returns-then-table-lt-CONTAINERS_WORDS
returns-then-table-lt-CONTAINERS_WORDS c = releases_short c.if-table-lt-CONTAINERS_WORDS.true

pub returns : goal.returns
returns c = releases_is c.if-table-lt-CONTAINERS_WORDS.false c.release_rows.ensures

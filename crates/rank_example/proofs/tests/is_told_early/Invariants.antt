use Rattle.rank_example.specs.Played.{started, with_data, with_want, with_work}
use Rattle.rank_example.proofs.tests.is_told_early.Given as goal

abbrev pub ghost-on_data : goal.ghost-on_data
ghost-on_data g a = started

abbrev pub ghost-asks : goal.ghost-asks
ghost-asks g a = with_data started 55

abbrev pub ghost-sends_on_want : goal.ghost-sends_on_want
ghost-sends_on_want g a = with_work (with_data started 55)

abbrev pub ghost-expect_moved : goal.ghost-expect_moved
ghost-expect_moved g a = with_work (with_want (with_work (with_data started 55)))

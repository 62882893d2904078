use Rattle.rank_example.specs.Played.{started, with_data, with_want, with_work}
use Rattle.rank_example.proofs.tests.asks_then_sends_and_receives.Given as goal

abbrev pub ghost-asks : goal.ghost-asks
ghost-asks g a = started

abbrev pub ghost-sends_on_want : goal.ghost-sends_on_want
ghost-sends_on_want g a = with_work started

abbrev pub ghost-on_data : goal.ghost-on_data
ghost-on_data g a = with_work (with_want (with_work started))

abbrev pub ghost-posts_nothing : goal.ghost-posts_nothing
ghost-posts_nothing g a = with_data (with_work (with_want (with_work started))) 55

abbrev pub ghost-expect_moved : goal.ghost-expect_moved
ghost-expect_moved g a = with_work (with_data (with_work (with_want (with_work started))) 55)

use Rattle.rank_example.specs.Played.{started, with_data, with_want, with_work}
use Rattle.rank_example.proofs.tests.is_told_again.Given as goal

abbrev pub ghost-on_want : goal.ghost-on_want
ghost-on_want g a = started

abbrev pub ghost-on_want_again : goal.ghost-on_want_again
ghost-on_want_again g a = with_want started

abbrev pub ghost-posts_both : goal.ghost-posts_both
ghost-posts_both g a = with_want (with_want started)

abbrev pub ghost-on_data : goal.ghost-on_data
ghost-on_data g a = with_work (with_want (with_want started))

abbrev pub ghost-on_data_again : goal.ghost-on_data_again
ghost-on_data_again g a = with_data (with_work (with_want (with_want started))) 55

abbrev pub ghost-posts_nothing : goal.ghost-posts_nothing
ghost-posts_nothing g a = with_data (with_data (with_work (with_want (with_want started))) 55) 77

abbrev pub ghost-expect_moved : goal.ghost-expect_moved
ghost-expect_moved g a = with_work (with_data (with_data (with_work (with_want (with_want started))) 55) 77)

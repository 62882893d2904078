use Rattle.rank_example.specs.LaidOut.{want_letter, want_name}
use Rattle.rank_example.specs.Played.{wanted}
use Rattle.rank_example.proofs.AfterSteps.{after-want, letter-to}
use Rattle.rank_example.proofs.Letters.{want-comes}
use Rattle.rank_example.proofs.steps.on_want.Goals as goal

pub on_letter-requires : goal.on_letter-requires
on_letter-requires g c = (g.so_far.state, (c.requires.1.stands_so, letter-to g.so_far.state want_name (want_letter 1) c.requires.1.protocol c.requires.1.me want-comes))

pub returns : goal.returns
unfolding wanted
returns g c = record {
  so_far = after-want _ _ _ g.so_far c.requires.1
      (c.in_ok-is_new.ensures.after g.so_far.state c.requires.1.stands_so (letter-to g.so_far.state want_name (want_letter 1) c.requires.1.protocol c.requires.1.me want-comes));
}

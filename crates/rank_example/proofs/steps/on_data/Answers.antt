use Rattle.std.proofs.Common.{subst}
use Rattle.rank_example.specs.LaidOut.{data_letter, data_name}
use Rattle.peers.specs.Peers.{IsLetterTo, after_letter}
use Rattle.rank_example.specs.Played.{told}
use Rattle.rank_example.proofs.AfterSteps.{after-data, letter-to}
use Rattle.rank_example.proofs.Letters.{data-comes}
use Rattle.rank_example.proofs.steps.on_data.Goals as goal

pub on_letter-requires : goal.on_letter-requires
on_letter-requires g c =
    rw c.data-bytes.ensures (g.so_far.state, (c.requires.1.stands_so, letter-to g.so_far.state data_name (data_letter 2 c.args.number) c.requires.1.protocol c.requires.1.me (data-comes c.args.number)))

pub returns : goal.returns
unfolding told
returns g c = record {
  so_far = after-data _ _ _ g.so_far c.args.number c.requires.1
      (subst (λ bytes. IsLetterTo g.so_far.state.protocol g.so_far.state.me data_name bytes → g.N.Peer.stands c.on_letter.new.self (after_letter g.so_far.state data_name bytes))
      c.data-bytes.ensures (c.in_ok-is_new.ensures.after g.so_far.state c.requires.1.stands_so) (letter-to g.so_far.state data_name (data_letter 2 c.args.number) c.requires.1.protocol c.requires.1.me (data-comes c.args.number)));
}

use Rattle.std.proofs.Common.{rules, ◌≡◌, sym, subst, length}
use Rattle.peers.specs.Protocols.{Protocol, IsProtocol}
use Rattle.rank_phases.specs.PhasedPeers.{IsPeer}
use Rattle.message_play.specs.Plays.{AreFresh}
use Rattle.gather_example.specs.Gathers.{gather}
use Rattle.gather_example.specs.Plays.{words_of}
use Rattle.gather_example.specs.Tellers.{IsTeller}
use Rattle.gather_example.proofs.Gathering.{gather-protocol}
use Rattle.gather_example.proofs.play.play_by.Goals as goal

pub play_ranks-requires : goal.play_ranks-requires
play_ranks-requires g c κs lives =
    let P : Protocol = gather (words_of c.args.words.now) (length c.args.words.now) c.args.rounds c.args.phases in
    let is : g.protocol ≡ P = search rules in (
      search rules,
      (
        subst IsProtocol (sym is) (gather-protocol (words_of c.args.words.now) (length c.args.words.now) c.args.rounds c.args.phases),
        (
          subst (λ Q. AreFresh (IsPeer IsTeller) Q c.deref_mut.result.now) (sym is)
              (subst (AreFresh (IsPeer IsTeller) P) (sym c.deref_mut.ensures.value) c.in_ok-ranks.ensures),
          search rules,
        ),
      ),
    )

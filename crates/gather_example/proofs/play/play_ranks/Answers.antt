use Rattle.std.proofs.Common.{◌∙◌, ℕ, ap, sym, refl, map, length}
use Rattle.std.specs.Prelude.{slice_get}
use Rattle.std.specs.List.{range_with_len}
use Rattle.peers.specs.Protocols.{firsts}
use Rattle.peers.specs.Peers.{PeerState, at_rest}
use Rattle.rank_phases.specs.PhasedPeers.{IsPeer}
use Rattle.message_play.specs.Plays.{given_to}
use Rattle.gather_example.specs.Plays.{heard_by}
use Rattle.gather_example.specs.Tellers.{IsTeller}
use Rattle.gather_example.proofs.Playing.{each_stands}
use Rattle.gather_example.proofs.play.play_ranks.Goals as goal

pub returns-clause-told : goal.returns-clause-told
returns-clause-told g c =
    let played = c.in_ok-played.ensures.played in
    let rest = played.at_rest refl in
    let states : ℕ → PeerState = λ r. at_rest g.protocol r (given_to r (firsts played.letters)) in
    let all = c.in_ok-heard.ensures states
    (λ rank made there. each_stands (IsPeer IsTeller) states c.play.new.peers g.protocol.ranks rest.ranks rest.rests rank made there)
    (λ rank. refl) in
    record {
      peers = c.play.new.peers;
      played = played;
      heard = all ∙ ap (λ n. map (heard_by played.letters) (range_with_len 0 n)) rest.ranks;
    }

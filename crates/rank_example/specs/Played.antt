-- How far the first rank of the example is.
use Rattle.std.specs.Prelude.{◌≡◌, ℕ, Bool, true, false, ◌&&◌}
use Rattle.peers.specs.Peers.{PeerState, after_letter, after_work, fresh, was_given, with_none_queued}
use Rattle.rank_example.specs.SmallJob.{small_protocol}
use Rattle.rank_example.specs.LaidOut.{data_letter, data_name, want_letter, want_name}

-- where it stands as it is made
unfoldable pub at_first : PeerState
at_first = fresh small_protocol 0

-- after it worked, and what it queued was taken
unfoldable pub emptied : PeerState → PeerState
emptied s = with_none_queued (after_work s)

-- after it was given the WANT letter, or the DATA letter with this number
unfoldable pub wanted : PeerState → PeerState
wanted s = after_letter s want_name (want_letter 1)

unfoldable pub told : PeerState → ℕ → PeerState
told s number = after_letter s data_name (data_letter 2 number)

-- Where it stands, which of the two letters to it were given, and whether it worked since.
pub record Played : Type 0 where
  pub state : PeerState
  pub want_given : Bool
  pub data_given : Bool
  pub has_worked : Bool

abbrev pub started : Played
started = record { state = at_first; want_given = false; data_given = false; has_worked = false }

abbrev pub with_work : Played → Played
with_work p = record p { state = emptied p.state; has_worked = true }

abbrev pub with_want : Played → Played
with_want p = record { state = wanted p.state; want_given = true; data_given = p.data_given; has_worked = p.want_given && p.has_worked }

abbrev pub with_data : Played → ℕ → Played
with_data p number = record { state = told p.state number; want_given = p.want_given; data_given = true; has_worked = p.data_given && p.has_worked }

-- whether both were given, and it worked since
abbrev pub is_finished : Played → Bool
is_finished p = p.want_given && p.data_given && p.has_worked

-- The rank is that far.
pub record IsPlayed {N : Type 0} (stands : N → PeerState → Type 0) (rank : N) (p : Played) : Type 0 where
  pub stands_so : stands rank p.state
  pub protocol : p.state.protocol ≡ small_protocol
  pub me : p.state.me ≡ 0
  pub want_is : was_given p.state.given want_name ≡ p.want_given
  pub data_is : was_given p.state.given data_name ≡ p.data_given
  pub worked_is : p.state.has_worked ≡ p.has_worked

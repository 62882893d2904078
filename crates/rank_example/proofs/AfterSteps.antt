-- How far the rank is after each step.
use Rattle.std.proofs.Common.{◌≡◌, ◌&&◌, ◌||◌, if◌then◌else◌, ℕ, Bool, true, false, List, [], ◌∷◌, ◌++◌, refl, sym, subst, ap, ◌∙◌}
use Rattle.std.proofs.lemmas.List.{map-append}
use Rattle.outside.specs.declared.name.Name.{Name}
use Rattle.outside.specs.Letters.{same_name}
use Rattle.outside.specs.MailRoom.{names_of}
use Rattle.outside.proofs.Names.{same_name-is}
use Rattle.peers.proofs.Members.{stands_in-push}
use Rattle.peers.specs.Peers.{IsLetterTo, PeerState, after_letter, become_ready, fresh, was_given}
use Rattle.peers.specs.Protocols.{Letter, stands_in}
use Rattle.rank_core.specs.Ranks.{IsFinished}
use Rattle.rank_example.specs.LaidOut.{data_letter, data_name, want_letter, want_name}
use Rattle.rank_example.specs.Played.{IsPlayed, Played, at_first, emptied, is_finished, started, told, wanted, with_data, with_want, with_work}
use Rattle.rank_example.specs.SmallJob.{small_protocol}
use Rattle.rank_example.proofs.Letters.{names-are, only-two}

-- the bytes that a step gives are a letter to the rank
pub letter-to : (s : PeerState) (n : Name) (bytes : List ℕ) → s.protocol ≡ small_protocol → s.me ≡ 0 → IsLetterTo small_protocol 0 n bytes → IsLetterTo s.protocol s.me n bytes
letter-to s n bytes protocol me letter =
    subst (λ p. IsLetterTo p s.me n bytes) (sym protocol) (subst (λ m. IsLetterTo small_protocol m n bytes) (sym me) letter)

or_false : (a : Bool) → (a || false) ≡ a
or_false true = refl
or_false false = refl

or_true : (a : Bool) → (a || true) ≡ true
or_true true = refl
or_true false = refl

-- one more letter was given
was_given-push : (given : List Letter) (l : Letter) (n : Name) → was_given (given ++ l ∷ []) n ≡ (was_given given n || same_name n l.0)
was_given-push given l n = ap (λ ns. stands_in ns n) (map-append (λ (x : Letter). x.0) given (l ∷ [])) ∙ stands_in-push (names_of given) l.0 n

-- where a rank stands that was given a letter of which it was not given one before
abbrev with_letter : PeerState → Name → List ℕ → PeerState
with_letter s n bytes = record s {
  given = s.given ++ (n, bytes) ∷ [];
  due = s.due ++ become_ready s.protocol s.me (names_of s.given) n;
  has_worked = false;
}

-- after a letter it stands there, or where it was
either : (P : PeerState → Type 0) (s : PeerState) (n : Name) (bytes : List ℕ) → (was_given s.given n ≡ true → P s)
    → (was_given s.given n ≡ false → P (with_letter s n bytes)) → P (after_letter s n bytes)
either P s n bytes old new = by (was_given s.given n) old new
  where
    by : (b : Bool) → (b ≡ true → P s) → (b ≡ false → P (with_letter s n bytes)) → P (if b then s else with_letter s n bytes)
    by true old new = old refl
    by false old new = new refl

module _ {N : Type 0} (stands : N → PeerState → Type 0) where
  pub at-start : (rank : N) → stands rank (fresh small_protocol 0) → IsPlayed stands rank started
  unfolding at_first
  at-start rank so = record { stands_so = so; protocol = refl; me = refl; want_is = refl; data_is = refl; worked_is = refl }

  pub after-work : (old new : N) (p : Played) → IsPlayed stands old p → stands new (emptied p.state) → IsPlayed stands new (with_work p)
  unfolding emptied
  after-work old new p h so =
      record { stands_so = so; protocol = h.protocol; me = h.me; want_is = h.want_is; data_is = h.data_is; worked_is = refl }

  pub after-want : (old new : N) (p : Played) → IsPlayed stands old p → stands new (wanted p.state) → IsPlayed stands new (with_want p)
  unfolding wanted
  after-want old new p h so = record {
    stands_so = so;
    protocol = step (λ t. t.protocol ≡ small_protocol) (λ e. h.protocol) (λ e. h.protocol);
    me = step (λ t. t.me ≡ 0) (λ e. h.me) (λ e. h.me);
    want_is = step (λ t. was_given t.given want_name ≡ true) (λ e. e)
        (λ e. was_given-push p.state.given (want_name, want_letter 1) want_name ∙ or_true _);
    data_is = step (λ t. was_given t.given data_name ≡ p.data_given) (λ e. h.data_is)
        (λ e. was_given-push p.state.given (want_name, want_letter 1) data_name ∙ or_false _ ∙ h.data_is);
    worked_is = step (λ t. t.has_worked ≡ (p.want_given && p.has_worked)) (λ e. h.worked_is ∙ ap (λ b. b && p.has_worked) (sym e ∙ h.want_is))
        (λ e. ap (λ b. b && p.has_worked) (sym e ∙ h.want_is));
  }
    where
      step : (P : PeerState → Type 0) → (was_given p.state.given want_name ≡ true → P p.state)
          → (was_given p.state.given want_name ≡ false → P (with_letter p.state want_name (want_letter 1))) → P (after_letter p.state want_name (want_letter 1))
      step P = either P p.state want_name (want_letter 1)

  pub after-data : (old new : N) (p : Played) (number : ℕ) → IsPlayed stands old p → stands new (told p.state number) → IsPlayed stands new (with_data p number)
  unfolding told
  after-data old new p number h so = record {
    stands_so = so;
    protocol = step (λ t. t.protocol ≡ small_protocol) (λ e. h.protocol) (λ e. h.protocol);
    me = step (λ t. t.me ≡ 0) (λ e. h.me) (λ e. h.me);
    want_is = step (λ t. was_given t.given want_name ≡ p.want_given) (λ e. h.want_is)
        (λ e. was_given-push p.state.given (data_name, data_letter 2 number) want_name ∙ or_false _ ∙ h.want_is);
    data_is = step (λ t. was_given t.given data_name ≡ true) (λ e. e)
        (λ e. was_given-push p.state.given (data_name, data_letter 2 number) data_name ∙ or_true _);
    worked_is = step (λ t. t.has_worked ≡ (p.data_given && p.has_worked)) (λ e. h.worked_is ∙ ap (λ b. b && p.has_worked) (sym e ∙ h.data_is))
        (λ e. ap (λ b. b && p.has_worked) (sym e ∙ h.data_is));
  }
    where
      step : (P : PeerState → Type 0) → (was_given p.state.given data_name ≡ true → P p.state)
          → (was_given p.state.given data_name ≡ false → P (with_letter p.state data_name (data_letter 2 number))) → P (after_letter p.state data_name (data_letter 2 number))
      step P = either P p.state data_name (data_letter 2 number)

  -- in the end it was given all letters to it
  pub at-end : (rank : N) (p : Played) → IsPlayed stands rank p → is_finished p ≡ true → IsFinished p.state
  at-end rank p h all = record { worked = h.worked_is ∙ all-true.1.1; given = given }
    where
      parts : (a b c : Bool) → (a && b && c) ≡ true → (a ≡ true) × ((b ≡ true) × (c ≡ true))
      parts true true true e = (refl, (refl, refl))
      parts true true false e = cc
      parts true false c e = cc
      parts false b c e = cc

      all-true : (p.want_given ≡ true) × ((p.data_given ≡ true) × (p.has_worked ≡ true))
      all-true = parts p.want_given p.data_given p.has_worked all

      either-name : (n : Name) (a b : Bool) → same_name n want_name ≡ a → same_name n data_name ≡ b → (a || (b || false)) ≡ true → was_given p.state.given n ≡ true
      either-name n true b e f t = ap (was_given p.state.given) (same_name-is n want_name e) ∙ h.want_is ∙ all-true.0
      either-name n false true e f t = ap (was_given p.state.given) (same_name-is n data_name f) ∙ h.data_is ∙ all-true.1.0
      either-name n false false e f t = cc

      given : (n : Name) → stands_in p.state.protocol.names n ≡ true → n.to ≡ p.state.me → was_given p.state.given n ≡ true
      given n named to =
          let among = only-two n (subst (λ ns. stands_in ns n ≡ true) (ap (λ P. P.names) h.protocol ∙ names-are) named) (to ∙ h.me) in
          either-name n (same_name n want_name) (same_name n data_name) refl refl among

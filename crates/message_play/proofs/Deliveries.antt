-- A letter that may come is delivered: what its receiver makes, what is in flight and what is pending then.
use Rattle.std.proofs.Common.{◌≡◌, ◌∙◌, ℕ, ◌<◌, ◌==◌, Bool, true, false, cond, not, ◌&&◌, ◌||◌, inl, inr, List, [], ◌∷◌, ◌++◌, Some, None, length, refl, sym, ap, subst, append-nil}
use Rattle.std.specs.List.{slice_get, IsDistinct}
use Rattle.std.proofs.lemmas.Bool.{and_parts, or_left, or_cases, eq-eqb, eqb-true, false≢true, false_from_ne_true, not-true}
use Rattle.std.proofs.lemmas.List.{map-append}
use Rattle.std.proofs.lemmas.List.Elements.{filter-append}
use Rattle.std.proofs.lemmas.List.Folds.{list_any-append}
use Rattle.outside.specs.declared.name.Name.{Name}
use Rattle.outside.specs.Letters.{Letters, same_name, without_letter}
use Rattle.outside.specs.MailRoom.{names_of}
use Rattle.outside.proofs.Names.{same_name-is}
use Rattle.schedule.specs.Flights.{Flight, flight_after, without}
use Rattle.peers.specs.Protocols.{stands_in, Letter, Protocol, IsProtocol, firsts, flies, is_ready}
use Rattle.schedule.specs.Orders.{come_into_flight}
use Rattle.schedule.proofs.Contents.{content-stays, content-to_rank, stands_in-to_rank}
use Rattle.schedule.proofs.Firsts.{firsts-push, stands_in-firsts}
use Rattle.schedule.proofs.Flying.{come-none, comes-ready, flies-same, flight-push, delivered-same, still_ready}
use Rattle.schedule.proofs.Members.{IsDistinct-append, IsDistinct-filter, all_agree, filter_agree_on, stands_in-filter, stands_in-push}
use Rattle.schedule.proofs.Ordered.{names_differ}
use Rattle.schedule.proofs.Tables.{and_false}
use Rattle.peers.specs.Peers.{PeerState, after_letter, after_work, at_rest, become_ready, with_none_queued}
use Rattle.peers.specs.Runs.{may_come}
use Rattle.message_play.specs.Posts.{ArePostable, after_posts, with_posted}
use Rattle.message_play.specs.Plays.{IsPendingMade, StandsAt, given_to}
use Rattle.message_play.specs.Stages.{IsStage}
use Rattle.message_play.proofs.Batches.{ArePending, ArePending-posts, EachLetter, EachLetter-by, EachLetter-front, after_posts-other, letters_by, letters_by-agree, pending-posts, postable}

-- the names of the letters with one more
pub names_of-push : (letters : List Letter) (l : Letter) → names_of (letters ++ l ∷ []) ≡ names_of letters ++ l.0 ∷ []
names_of-push letters l = map-append (λ (x : Letter). x.0) letters (l ∷ [])

module _ (P : Protocol) (law : IsProtocol P) (letters : List Letter) {N : Type 0} {stands : N → PeerState → Type 0} (peers : List N) (flight : Flight) (pending posted : Letters)
    (stage : IsStage stands P letters peers flight pending posted) (n : Name) (bytes : List ℕ) (comes : may_come P (names_of letters) n ≡ true) where
  abbrev delivered : List Name
  delivered = names_of letters

  abbrev after : List Letter
  after = letters ++ (n, bytes) ∷ []

  abbrev come : List Name
  come = come_into_flight P delivered n

  -- what a sender makes once the letter was delivered
  abbrev content : Name → List ℕ
  content m = P.content m (firsts after)

  -- the letters given to the receiver before
  abbrev given : List Letter
  given = given_to n.to (firsts letters)

  names_after : names_of after ≡ delivered ++ n ∷ []
  names_after = names_of-push letters (n, bytes)

  -- the letter is one of the protocol, and what is before it was delivered
  pub known_ready : (stands_in P.names n ≡ true) × (is_ready P delivered n ≡ true)
  known_ready = elim (or_cases (stands_in delivered n) (flies P delivered n) comes) [
    | inl again ↦ stage.known n again
    | inr flies ↦
        let parts = and_parts (stands_in P.names n) (not (stands_in delivered n) && is_ready P delivered n) flies in
        (parts.0, (and_parts (not (stands_in delivered n)) (is_ready P delivered n) parts.1).1)
  ]

  -- it is posted as its sender made it
  pub posted_as_made : ((m : Name) (letter : List ℕ) → pending m ≡ Some letter → posted m ≡ Some letter) →
      posted n ≡ Some (P.content n (firsts letters))
  posted_as_made pending_is_posted = elim (or_cases (stands_in delivered n) (flies P delivered n) comes) [
    | inl again ↦ stage.were_posted n again
    | inr flies ↦
        pending_is_posted n (P.content n (firsts letters))
        (stage.pends n ∙ ap (λ b. cond b (Some (P.content n (firsts letters))) None) (stage.flying n ∙ flies))
  ]

  -- the receiver
  pub receiver_rests : StandsAt stands peers n.to (at_rest P n.to given)
  receiver_rests = stage.rests n.to (law.to_rank n known_ready.0)

  -- what was ready still gives the same letter
  stays : (m : Name) → is_ready P delivered m ≡ true → content m ≡ P.content m (firsts letters)
  stays m ready = content-stays P law letters (n, bytes) m ready

  -- the receiver was given the letter before exactly where it was delivered before
  given_before : stands_in (names_of given) n ≡ stands_in delivered n
  given_before = stands_in-to_rank n.to n refl (firsts letters) ∙ stands_in-firsts letters n

  -- with the letter, where it is new
  firsts_after : (b : Bool) → stands_in delivered n ≡ b → firsts after ≡ firsts letters ++ cond b [] ((n, bytes) ∷ [])
  firsts_after b e = firsts-push letters (n, bytes) ∙ ap (λ c. firsts letters ++ cond c [] ((n, bytes) ∷ [])) e

  given_after : (rank : ℕ) (b : Bool) → stands_in delivered n ≡ b →
      given_to rank (firsts after) ≡ given_to rank (firsts letters) ++ given_to rank (cond b [] ((n, bytes) ∷ []))
  given_after rank b e =
      ap (given_to rank) (firsts_after b e) ∙ filter-append (λ (l : Letter). l.0.to == rank) (firsts letters) (cond b [] ((n, bytes) ∷ []))

  to_receiver : (n.to == n.to) ≡ true
  to_receiver = eq-eqb n.to n.to refl

  new_given : stands_in delivered n ≡ false → given ++ (n, bytes) ∷ [] ≡ given_to n.to (firsts after)
  new_given e = sym (given_after n.to false e ∙ ap (λ b. given ++ cond b ((n, bytes) ∷ []) []) to_receiver)

  -- where the letter is new, what becomes ready at the receiver is what comes into flight
  ready_alike : (m : Name) → m.from ≡ n.to → stands_in P.names m ≡ true → is_ready P (names_of given) m ≡ is_ready P delivered m
  ready_alike m from s =
      all_agree (stands_in (names_of given)) (stands_in delivered) (P.before m)
      (λ k b. stands_in-to_rank n.to k (law.before_given k m (s, b) ∙ from) (firsts letters) ∙ stands_in-firsts letters k)

  ready_alike_after : (m : Name) → m.from ≡ n.to → stands_in P.names m ≡ true →
      is_ready P (names_of given ++ n ∷ []) m ≡ is_ready P (delivered ++ n ∷ []) m
  ready_alike_after m from s =
      all_agree (stands_in (names_of given ++ n ∷ [])) (stands_in (delivered ++ n ∷ [])) (P.before m)
      (λ k b.
      stands_in-push (names_of given) n k
      ∙ ap (λ c. c || same_name k n) (stands_in-to_rank n.to k (law.before_given k m (s, b) ∙ from) (firsts letters) ∙ stands_in-firsts letters k)
      ∙ sym (stands_in-push delivered n k))

  become_come : become_ready P n.to (names_of given) n ≡ come
  become_come =
      filter_agree_on (λ m. (m.from == n.to) && (is_ready P (names_of given ++ n ∷ []) m && not (is_ready P (names_of given) m)))
      (λ m. flies P (delivered ++ n ∷ []) m && not (flies P delivered m)) P.names
      (λ m s. by m s (m.from == n.to) refl
      ∙ sym (comes-ready P delivered n law (λ k e. (stage.known k e).1) known_ready.1 m s))
    where
      by : (m : Name) → stands_in P.names m ≡ true → (b : Bool) → (m.from == n.to) ≡ b →
          (b && (is_ready P (names_of given ++ n ∷ []) m && not (is_ready P (names_of given) m)))
          ≡ ((m.from == n.to) && (is_ready P (delivered ++ n ∷ []) m && not (is_ready P delivered m)))
      by m s true e =
          let from = eqb-true m.from n.to e in
          ap (λ b. b && not (is_ready P (names_of given) m)) (ready_alike_after m from s)
          ∙ ap (λ b. is_ready P (delivered ++ n ∷ []) m && not b) (ready_alike m from s)
          ∙ ap (λ b. b && (is_ready P (delivered ++ n ∷ []) m && not (is_ready P delivered m))) (sym e)
      by m s false e = ap (λ b. b && (is_ready P (delivered ++ n ∷ []) m && not (is_ready P delivered m))) (sym e)

  -- what comes into flight comes from the receiver
  come_from : (m : Name) → stands_in come m ≡ true →
      (stands_in P.names m ≡ true) × (m.from ≡ n.to) × (flies P (delivered ++ n ∷ []) m ≡ true) × (flies P delivered m ≡ false)
  come_from m s =
      let here = sym (stands_in-filter (λ k. flies P (delivered ++ n ∷ []) k && not (flies P delivered k)) P.names m) ∙ s in
      let parts = and_parts (flies P (delivered ++ n ∷ []) m && not (flies P delivered m)) (stands_in P.names m) here in
      let both = and_parts (flies P (delivered ++ n ∷ []) m) (not (flies P delivered m)) parts.0 in
      let ready = sym (comes-ready P delivered n law (λ k e. (stage.known k e).1) known_ready.1 m parts.1) ∙ parts.0 in (
        parts.1,
        eqb-true m.from n.to (and_parts (m.from == n.to) (is_ready P (delivered ++ n ∷ []) m && not (is_ready P delivered m)) ready).0,
        both.0,
        not-true (flies P delivered m) both.1,
      )

  -- what the receiver then has queued
  pub queue_is : (after_work (after_letter (at_rest P n.to given) n bytes)).queued ≡ letters_by content come
  queue_is = go (stands_in delivered n) refl
    where
      go : (b : Bool) → stands_in delivered n ≡ b → (after_work (after_letter (at_rest P n.to given) n bytes)).queued ≡ letters_by content come
      go true e = rw (given_before ∙ e) (ap (letters_by content) (sym (come-none P delivered n e)))
      go false e =
          rw (given_before ∙ e)
          (ap (letters_by (λ m. P.content m (given ++ (n, bytes) ∷ []))) become_come
          ∙ letters_by-agree (λ m. P.content m (given ++ (n, bytes) ∷ [])) content come
          (λ m s.
          let from = come_from m s in
          ap (P.content m) (new_given e ∙ ap (λ r. given_to r (firsts after)) (sym from.1))
          ∙ content-to_rank P law m from.0 (firsts after)))

  -- how it stands once that is posted
  pub receiver_is : with_none_queued (after_work (after_letter (at_rest P n.to given) n bytes)) ≡ at_rest P n.to (given_to n.to (firsts after))
  receiver_is = go (stands_in delivered n) refl
    where
      go : (b : Bool) → stands_in delivered n ≡ b →
          with_none_queued (after_work (after_letter (at_rest P n.to given) n bytes)) ≡ at_rest P n.to (given_to n.to (firsts after))
      go true e = rw (given_before ∙ e) (ap (at_rest P n.to) (sym (given_after n.to true e ∙ append-nil given)))
      go false e = rw (given_before ∙ e) (ap (at_rest P n.to) (new_given e))

  -- the letters in flight, and those delivered, once the letter was taken
  abbrev taken : Flight
  taken = flight_after flight n

  in_flight_is : stands_in flight.in_flight n ≡ flies P delivered n
  in_flight_is = stage.flying n

  not_flying : stands_in delivered n ≡ true → flies P delivered n ≡ false
  not_flying e = ap (λ b. stands_in P.names n && (not b && is_ready P delivered n)) e ∙ and_false (stands_in P.names n)

  must_fly : stands_in delivered n ≡ false → flies P delivered n ≡ true
  must_fly e = elim (or_cases (stands_in delivered n) (flies P delivered n) comes) [
    | inl again ↦ absurd (false≢true (sym e ∙ again))
    | inr flies ↦ flies
  ]

  -- a property of what is in flight then, by cases
  taken_by : (R : Flight → Type 0) → (stands_in delivered n ≡ true → R flight) →
      (stands_in delivered n ≡ false → R (record { in_flight = without n flight.in_flight; delivered = flight.delivered ++ n ∷ [] })) → R taken
  taken_by R again new = go (stands_in delivered n) refl
    where
      go : (b : Bool) → stands_in delivered n ≡ b → R taken
      go true e = let out = in_flight_is ∙ not_flying e in rw out (again e)
      go false e = let here = in_flight_is ∙ must_fly e in rw here (new e)

  flying_after : (m : Name) → stands_in (taken.in_flight ++ come) m ≡ flies P (delivered ++ n ∷ []) m
  flying_after = taken_by (λ f. (m : Name) → stands_in (f.in_flight ++ come) m ≡ flies P (delivered ++ n ∷ []) m)
      (λ e m.
      ap (λ ns. stands_in (flight.in_flight ++ ns) m) (come-none P delivered n e)
      ∙ ap (λ ns. stands_in ns m) (append-nil flight.in_flight)
      ∙ stage.flying m ∙ sym (flies-same P delivered n e m))
      (λ e m. flight-push P delivered n flight.in_flight stage.flying m)

  delivered_after : (m : Name) → stands_in taken.delivered m ≡ stands_in (delivered ++ n ∷ []) m
  delivered_after = taken_by (λ f. (m : Name) → stands_in f.delivered m ≡ stands_in (delivered ++ n ∷ []) m)
      (λ e m. stage.delivered m ∙ sym (delivered-same P delivered n e m))
      (λ e m.
      stands_in-push flight.delivered n m ∙ ap (λ b. b || same_name m n) (stage.delivered m) ∙ sym (stands_in-push delivered n m))

  -- the name n itself does not fly then, and what flies flew before
  taken_flew : (m : Name) → stands_in taken.in_flight m ≡ (not (same_name n m) && stands_in flight.in_flight m)
  taken_flew = taken_by (λ f. (m : Name) → stands_in f.in_flight m ≡ (not (same_name n m) && stands_in flight.in_flight m))
      (λ e m. again e m (same_name n m) refl)
      (λ e m. stands_in-filter (λ k. not (same_name n k)) flight.in_flight m)
    where
      again : stands_in delivered n ≡ true → (m : Name) (b : Bool) → same_name n m ≡ b →
          stands_in flight.in_flight m ≡ (not b && stands_in flight.in_flight m)
      again e m true same = ap (stands_in flight.in_flight) (sym (same_name-is n m same)) ∙ in_flight_is ∙ not_flying e
      again e m false same = refl

  -- what is pending once the letter was taken
  pending_taken : ArePending content taken.in_flight (without_letter pending n)
  pending_taken m =
      go (same_name n m) (stands_in flight.in_flight m) refl
      ∙ ap (λ b. cond b (Some (content m)) None) (sym (taken_flew m))
    where
      go : (b f : Bool) → stands_in flight.in_flight m ≡ f →
          cond b None (pending m) ≡ cond (not b && stands_in flight.in_flight m) (Some (content m)) None
      go true f e = refl
      go false true e =
          let flew = sym (stage.flying m) ∙ e in
          let parts = and_parts (stands_in P.names m) (not (stands_in delivered m) && is_ready P delivered m) flew in
          let ready = (and_parts (not (stands_in delivered m)) (is_ready P delivered m) parts.1).1 in
          stage.pends m ∙ ap (λ b. cond (stands_in flight.in_flight m) (Some b) None) (sym (stays m ready))
      go false false e =
          stage.pends m ∙ ap (λ b. cond b (Some (P.content m (firsts letters))) None) e
          ∙ ap (λ b. cond b (Some (content m)) None) (sym e)

  -- what flies was not delivered
  flies_undelivered : (m : Name) → flies P (delivered ++ n ∷ []) m ≡ true → stands_in (delivered ++ n ∷ []) m ≡ false
  flies_undelivered m e =
      let parts = and_parts (stands_in P.names m) (not (stands_in (delivered ++ n ∷ []) m) && is_ready P (delivered ++ n ∷ []) m) e in
      not-true (stands_in (delivered ++ n ∷ []) m)
      (and_parts (not (stands_in (delivered ++ n ∷ []) m)) (is_ready P (delivered ++ n ∷ []) m) parts.1).0

  come_new : (m : Name) → stands_in come m ≡ true → (stands_in taken.in_flight m ≡ false) × (stands_in taken.delivered m ≡ false)
  come_new m s =
      let from = come_from m s in (
        taken_flew m ∙ ap (λ b. not (same_name n m) && b) (stage.flying m ∙ from.3) ∙ and_false (not (same_name n m)),
        delivered_after m ∙ flies_undelivered m from.2,
      )

  come_differ : IsDistinct same_name come
  come_differ = IsDistinct-filter (λ m. flies P (delivered ++ n ∷ []) m && not (flies P delivered m)) P.names (names_differ P law)

  -- no letter is in flight twice
  flying_differ : IsDistinct same_name (taken.in_flight ++ come)
  flying_differ =
      IsDistinct-append taken.in_flight come
      (taken_by (λ f. IsDistinct same_name f.in_flight) (λ e. stage.distinct)
      (λ e. IsDistinct-filter (λ m. not (same_name n m)) flight.in_flight stage.distinct))
      come_differ (λ m s. (come_new m s).0)

  -- what the receiver has queued may be posted
  pub queue_postable : ArePostable P (letters_by content come) taken (without_letter pending n)
  queue_postable =
      postable P content come taken (without_letter pending n) pending_taken come_differ (λ m s. ((come_from m s).0, come_new m s))

  -- what is pending is in flight then, as its sender makes it
  abbrev IsMade : Name → List ℕ → Type 0
  IsMade m letter = (flies P (names_of after) m ≡ true) × (letter ≡ content m)

  -- what is pending while it is posted
  pub pending_made : (done rest : List Letter) → done ++ rest ≡ letters_by content come →
      IsPendingMade P after (after_posts done (without_letter pending n))
  pending_made done rest split =
      pending-posts IsMade done (without_letter pending n) before
      (EachLetter-front IsMade done rest (subst (EachLetter IsMade) (sym split) (EachLetter-by IsMade content come made)))
    where
      made : (m : Name) → stands_in come m ≡ true → IsMade m (content m)
      made m s = (ap (λ ns. flies P ns m) names_after ∙ (come_from m s).2, refl)

      before : (m : Name) (letter : List ℕ) → without_letter pending n m ≡ Some letter → IsMade m letter
      before m letter is = go (stands_in taken.in_flight m) refl (sym (pending_taken m) ∙ is)
        where
          go : (b : Bool) → stands_in taken.in_flight m ≡ b → cond b (Some (content m)) None ≡ Some letter → IsMade m letter
          go true e is =
              let same : letter ≡ content m = cc in (
                ap (λ ns. flies P ns m) names_after ∙ sym (flying_after m)
                    ∙ list_any-append (same_name m) taken.in_flight come ∙ or_left (stands_in taken.in_flight m) (stands_in come m) e,
                same,
              )
          go false e is = absurd (cc)

  -- where the play stands then
  pub stage_after : ((m : Name) (letter : List ℕ) → pending m ≡ Some letter → posted m ≡ Some letter) →
      (now : List N) → length now ≡ length peers → (now_peer : N) → stands now_peer (at_rest P n.to (given_to n.to (firsts after))) →
      ((rank : ℕ) → slice_get now rank ≡ cond (rank == n.to) (Some now_peer) (slice_get peers rank)) →
      IsStage stands P after now (with_posted taken come) (after_posts (letters_by content come) (without_letter pending n))
      (after_posts (letters_by content come) posted)
  stage_after pending_is_posted now many now_peer stands_now now_is = record {
    flying = λ m. flying_after m ∙ ap (λ ns. flies P ns m) (sym names_after);
    distinct = flying_differ;
    delivered = λ m. delivered_after m ∙ ap (λ ns. stands_in ns m) (sym names_after);
    known = known;
    ranks = many ∙ stage.ranks;
    rests = λ rank below. rests rank below (rank == n.to) refl;
    pends = ArePending-posts content come taken.in_flight (without_letter pending n) pending_taken;
    were_posted = λ m s. were_posted m (stands_in delivered m) refl (sym (ap (λ ns. stands_in ns m) names_after) ∙ s);
  }
    where
      known : (m : Name) → stands_in (names_of after) m ≡ true → (stands_in P.names m ≡ true) × (is_ready P (names_of after) m ≡ true)
      known m s = go (stands_in delivered m) refl
        where
          now_ready : is_ready P delivered m ≡ true → is_ready P (names_of after) m ≡ true
          now_ready e = ap (λ ns. is_ready P ns m) names_after ∙ still_ready P delivered n m e

          is_n : stands_in delivered m ≡ false → m ≡ n
          is_n e = same_name-is m n
              (sym (ap (λ b. b || same_name m n) e) ∙ sym (stands_in-push delivered n m) ∙ sym (ap (λ ns. stands_in ns m) names_after) ∙ s)

          go : (b : Bool) → stands_in delivered m ≡ b → (stands_in P.names m ≡ true) × (is_ready P (names_of after) m ≡ true)
          go true e = let was = stage.known m e in (was.0, now_ready was.1)
          go false e =
              let same = is_n e in
              (ap (stands_in P.names) same ∙ known_ready.0, now_ready (ap (is_ready P delivered) same ∙ known_ready.1))

      rests : (rank : ℕ) → rank < P.ranks → (b : Bool) → (rank == n.to) ≡ b →
          StandsAt stands now rank (at_rest P rank (given_to rank (firsts after)))
      rests rank below true e = let same = eqb-true rank n.to e in (
        now_peer,
        now_is rank ∙ ap (λ b. cond b (Some now_peer) (slice_get peers rank)) e,
        subst (λ r. stands now_peer (at_rest P r (given_to r (firsts after)))) (sym same) stands_now,
      )
      rests rank below false e = let was = stage.rests rank below in (
        was.0,
        now_is rank ∙ ap (λ b. cond b (Some now_peer) (slice_get peers rank)) e ∙ was.1,
        subst (λ g. stands was.0 (at_rest P rank g)) (sym (nothing (stands_in delivered n) refl)) was.2,
      )
        where
          other : (n.to == rank) ≡ false
          other = false_from_ne_true (n.to == rank) (λ t. false≢true (sym e ∙ eq-eqb rank n.to (sym (eqb-true n.to rank t))))

          nothing : (b : Bool) → stands_in delivered n ≡ b → given_to rank (firsts after) ≡ given_to rank (firsts letters)
          nothing true t = given_after rank true t ∙ append-nil (given_to rank (firsts letters))
          nothing false t =
              given_after rank false t ∙ ap (λ b. given_to rank (firsts letters) ++ cond b ((n, bytes) ∷ []) []) other
              ∙ append-nil (given_to rank (firsts letters))

      were_posted : (m : Name) (b : Bool) → stands_in delivered m ≡ b → stands_in (delivered ++ n ∷ []) m ≡ true →
          after_posts (letters_by content come) posted m ≡ Some (content m)
      were_posted m b e s = after_posts-other content come posted m not_come ∙ before b e
        where
          not_come : stands_in come m ≡ false
          not_come = false_from_ne_true (stands_in come m) (λ c. false≢true (sym (flies_undelivered m (come_from m c).2) ∙ s))

          before : (b : Bool) → stands_in delivered m ≡ b → posted m ≡ Some (content m)
          before true e = stage.were_posted m e ∙ ap Some (sym (stays m (stage.known m e).1))
          before false e =
              let same = same_name-is m n (sym (ap (λ b. b || same_name m n) e) ∙ sym (stands_in-push delivered n m) ∙ s) in
              ap posted same ∙ posted_as_made pending_is_posted ∙ ap Some (sym (stays n known_ready.1)) ∙ ap (λ k. Some (content k)) (sym same)

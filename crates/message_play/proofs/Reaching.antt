-- What a delivery comes to.
use Rattle.std.proofs.Common.{◌≡◌, ◌∙◌, ℕ, ◌==◌, true, cond, List, [], ◌∷◌, ◌++◌, Some, length, sym, ap, subst, append-nil, IsTrue}
use Rattle.std.specs.Prelude.{Result, Ok, Err, OnOk, OnErr, is_ok}
use Rattle.std.specs.List.{slice_get}
use Rattle.outside.specs.declared.name.Name.{Name}
use Rattle.outside.specs.Letters.{IsAlike, Letters, with_given, without_letter}
use Rattle.outside.specs.MailRoom.{names_of}
use Rattle.schedule.specs.Flights.{Flight, flight_after}
use Rattle.peers.specs.Protocols.{Letter, Protocol, IsProtocol, firsts}
use Rattle.schedule.specs.Orders.{come_into_flight}
use Rattle.peers.specs.Peers.{PeerState, after_letter, after_work, at_rest, with_none_queued}
use Rattle.peers.specs.Runs.{may_come}
use Rattle.message_play.specs.Posts.{ArePostable, IsPartlyPosted, IsPosted, after_posts, with_posted}
use Rattle.message_play.specs.Plays.{IsCourse, IsPendingMade, StandsAt, WireState, given_to}
use Rattle.message_play.specs.Stages.{IsStage, Reaches}
use Rattle.message_play.proofs.Batches.{letters_by, names_of-letters_by}
use Rattle.message_play.proofs.Courses.{course-push}
use Rattle.message_play.proofs.Deliveries.{names_of-push, pending_made, posted_as_made, queue_is, queue_postable, receiver_is, receiver_rests, stage_after}

-- what a queue that was posted whole had
pub whole_queue : (queue : List Letter) (old_flight flight : Flight) (old_pending pending old_posted posted : Letters) →
    IsPosted queue [] old_flight flight old_pending pending old_posted posted →
    (flight ≡ with_posted old_flight (names_of queue)) × (pending ≡ after_posts queue old_pending) × (posted ≡ after_posts queue old_posted)
whole_queue queue old_flight flight old_pending pending old_posted posted is =
    let all = sym (append-nil is.done) ∙ is.split in (
      is.flies ∙ ap (λ q. with_posted old_flight (names_of q)) all,
      is.pends ∙ ap (λ q. after_posts q old_pending) all,
      is.posts ∙ ap (λ q. after_posts q old_posted) all,
    )

-- posted whole or in part, it was posted in part
pub in_part : {T E : Type 0} (r : Result T E) (queue : List Letter) (old_flight flight : Flight) (old_pending pending old_posted posted : Letters) →
    OnOk r (IsPosted queue [] old_flight flight old_pending pending old_posted posted) → OnErr r (IsPartlyPosted queue old_pending pending) →
    IsPartlyPosted queue old_pending pending
in_part (Ok x) queue old_flight flight old_pending pending old_posted posted all some =
    record { done = all.done; rest = []; split = all.split; pends = all.pends }
in_part (Err e) queue old_flight flight old_pending pending old_posted posted all some = some

pub at_ok : {T E A : Type 0} (r : Result T E) → OnOk r A → is_ok r ≡ true → A
at_ok (Ok x) a e = a
at_ok (Err y) a e = absurd (cc)

module _ (P : Protocol) (law : IsProtocol P) (letters : List Letter) {N : Type 0} {stands : N → PeerState → Type 0} (peers : List N) (flight : Flight) (was : WireState)
    (stage : IsStage stands P letters peers flight was.pending was.posted) (n : Name) (comes : may_come P (names_of letters) n ≡ true) where
  -- how the receiver stands
  pub receiver : StandsAt stands peers n.to (at_rest P n.to (given_to n.to (firsts letters)))
  receiver = receiver_rests P law letters peers flight was.pending was.posted stage n [] comes

  -- what was posted last under the name
  pub posted_before : ((m : Name) (letter : List ℕ) → was.pending m ≡ Some letter → was.posted m ≡ Some letter) →
      was.posted n ≡ Some (P.content n (firsts letters))
  posted_before = posted_as_made P law letters peers flight was.pending was.posted stage n [] comes

  module _ (bytes : List ℕ) where
    -- how the receiver stood
    abbrev s : PeerState
    s = at_rest P n.to (given_to n.to (firsts letters))

    abbrev queue : List Letter
    queue = (after_work (after_letter s n bytes)).queued

    come_queue : queue ≡ letters_by (λ m. P.content m (firsts (letters ++ (n, bytes) ∷ []))) (come_into_flight P (names_of letters) n)
    come_queue = queue_is P law letters peers flight was.pending was.posted stage n bytes comes

    pub may_be_posted : ArePostable P queue (flight_after flight n) (without_letter was.pending n)
    may_be_posted =
        subst (λ q. ArePostable P q (flight_after flight n) (without_letter was.pending n)) (sym come_queue)
        (queue_postable P law letters peers flight was.pending was.posted stage n bytes comes)

    -- what is in flight once it is posted
    pub flight_reached : {T E : Type 0} (r : Result T E) (now_flight : Flight) (pending now_pending posted now_posted : Letters) →
        OnOk r (IsPosted queue [] (flight_after flight n) now_flight pending now_pending posted now_posted) →
        OnOk r (now_flight ≡ with_posted (flight_after flight n) (come_into_flight P (names_of letters) n))
    flight_reached (Err e) now_flight pending now_pending posted now_posted posts = tt
    flight_reached (Ok x) now_flight pending now_pending posted now_posted posts =
        (whole_queue queue (flight_after flight n) now_flight pending now_pending posted now_posted posts).0
        ∙ ap (λ q. with_posted (flight_after flight n) (names_of q)) come_queue
        ∙ ap (with_posted (flight_after flight n))
        (names_of-letters_by (λ m. P.content m (firsts (letters ++ (n, bytes) ∷ []))) (come_into_flight P (names_of letters) n))

    module _ (pending_is_posted : (m : Name) (letter : List ℕ) → was.pending m ≡ Some letter → was.posted m ≡ Some letter)
        (begun mid now : WireState) (course : IsCourse P begun was letters)
        (mid_pending : mid.pending ≡ without_letter was.pending n) (mid_posted : mid.posted ≡ was.posted)
        (taken : now.taken ≡ was.taken ++ n ∷ []) (given : now.given ≡ with_given was.given n bytes)
        (honesty : now.is_honest ≡ was.is_honest)
        (alike : (letter : List ℕ) → was.posted n ≡ Some letter → IsAlike letter bytes)
        (as_posted : IsTrue was.is_honest → was.posted n ≡ Some bytes)
        {T E : Type 0} (r : Result T E) (now_peers : List N) (now_flight : Flight) (now_peer : N)
        (posts : OnOk r (IsPosted queue [] (flight_after flight n) now_flight mid.pending now.pending mid.posted now.posted))
        (partly : OnErr r (IsPartlyPosted queue mid.pending now.pending))
        (made : OnOk r (stands now_peer (with_none_queued (after_work (after_letter s n bytes)))))
        (many : length now_peers ≡ length peers)
        (replaced : (rank : ℕ) → slice_get now_peers rank ≡ cond (rank == n.to) (Some now_peer) (slice_get peers rank)) where
      abbrev after : List Letter
      after = letters ++ (n, bytes) ∷ []

      abbrev come : List Letter
      come = letters_by (λ m. P.content m (firsts after)) (come_into_flight P (names_of letters) n)

      posted_is : was.posted n ≡ Some (P.content n (firsts letters))
      posted_is = posted_as_made P law letters peers flight was.pending was.posted stage n bytes comes pending_is_posted

      still_made : IsPendingMade P after now.pending
      still_made =
          let part = in_part r queue (flight_after flight n) now_flight mid.pending now.pending mid.posted now.posted posts partly in
          subst (IsPendingMade P after) (sym (part.pends ∙ ap (after_posts part.done) mid_pending))
          (pending_made P law letters peers flight was.pending was.posted stage n bytes comes part.done part.rest (part.split ∙ come_queue))

      stage_then : is_ok r ≡ true → IsStage stands P after now_peers now_flight now.pending now.posted
      stage_then ok =
          let all = whole_queue queue (flight_after flight n) now_flight mid.pending now.pending mid.posted now.posted (at_ok r posts ok) in
          let stands_now = subst (stands now_peer)
          (receiver_is P law letters peers flight was.pending was.posted stage n bytes comes) (at_ok r made ok) in
          let now_is : now_flight ≡ with_posted (flight_after flight n) (come_into_flight P (names_of letters) n) =
          at_ok r (flight_reached r now_flight mid.pending now.pending mid.posted now.posted posts) ok in
          let pending_is : now.pending ≡ after_posts come (without_letter was.pending n) =
          all.1 ∙ ap (λ q. after_posts q mid.pending) come_queue ∙ ap (after_posts come) mid_pending in
          let posts_is : now.posted ≡ after_posts come was.posted =
          all.2 ∙ ap (λ q. after_posts q mid.posted) come_queue ∙ ap (after_posts come) mid_posted in
          subst (λ f. IsStage stands P after now_peers f now.pending now.posted) (sym now_is)
          (subst (λ p. IsStage stands P after now_peers (with_posted (flight_after flight n) (come_into_flight P (names_of letters) n)) p now.posted) (sym pending_is)
          (subst (λ p. IsStage stands P after now_peers (with_posted (flight_after flight n) (come_into_flight P (names_of letters) n)) (after_posts come (without_letter was.pending n)) p) (sym posts_is)
          (stage_after P law letters peers flight was.pending was.posted stage n bytes comes pending_is_posted now_peers many now_peer stands_now replaced)))

      pub reaches_one : Reaches stands P begun now now_peers now_flight (names_of letters ++ n ∷ []) (is_ok r)
      reaches_one = record {
        letters = after;
        course = course-push P begun was now letters n bytes course taken given honesty (alike (P.content n (firsts letters)) posted_is) comes
            (λ honest. let is = sym (as_posted honest) ∙ posted_is in same_bytes bytes (P.content n (firsts letters)) is)
            still_made;
        rest = [];
        first_of = append-nil (names_of after) ∙ names_of-push letters (n, bytes);
        whole = λ ok. names_of-push letters (n, bytes);
        stage = stage_then;
      }
        where
          same_bytes : (a b : List ℕ) → Some a ≡ Some b → a ≡ b
          same_bytes a b e = cc

-- The rest of a plan, from one delivery to the next.
use Rattle.std.proofs.Common.{◌≡◌, ◌∙◌, ℕ, zero, suc, Bool, true, false, not, ◌&&◌, ◌||◌, List, [], ◌∷◌, ◌++◌, Option, Some, None, length, drop, refl, sym, ap, subst, append_assoc, append-nil}
use Rattle.std.specs.Option.{option_map}
use Rattle.std.proofs.lemmas.Bool.{and_parts, or_right, false≢true, not-true}
use Rattle.outside.specs.declared.name.Name.{Name}
use Rattle.outside.specs.Letters.{Letters}
use Rattle.outside.specs.MailRoom.{names_of}
use Rattle.schedule.specs.declared.chooser.Chooser.{Chooser}
use Rattle.schedule.specs.declared.order.Entry.{Entry}
use Rattle.schedule.specs.Choosers.{chooser_after}
use Rattle.schedule.specs.Flights.{Flight, chooser_after_choice, chosen, flight_after, without}
use Rattle.peers.specs.Protocols.{stands_in, Letter, Protocol, IsProtocol, flies, is_ready}
use Rattle.schedule.specs.Orders.{by_chooser, chosen_deliveries, come_into_flight, listed_deliveries, listed_ending, posted_first, undelivered_count}
use Rattle.schedule.proofs.Counts.{chooser_after_chosen, chosen_flies, undelivered_count-none, undelivered_count-push, undelivered_count-same}
use Rattle.peers.specs.Peers.{PeerState}
use Rattle.peers.specs.Runs.{may_come}
use Rattle.message_play.specs.Posts.{with_posted}
use Rattle.message_play.specs.Plays.{IsCourse, IsPendingMade, WireState}
use Rattle.message_play.specs.Stages.{ChosenPlan, IsPlaying, IsStage, ListedPlan, Reaches}
use Rattle.message_play.proofs.Starts.{stage-made}

-- no letter was given yet
pub course-none : (P : Protocol) (now : WireState) → IsPendingMade P [] now.pending → IsCourse P now now []
course-none P now pending = record {
  taken = sym (append-nil now.taken);
  given = sym (told_none now.given);
  same_honesty = refl;
  comes = tt;
  run = tt;
  exact = λ honest. tt;
  pending = pending;
}
  where
    told_none : (told : Option (List Letter)) → option_map (λ t. t ++ []) told ≡ told
    told_none None = refl
    told_none (Some t) = ap Some (append-nil t)

-- the plan of a chooser at the start
pub chosen_plan-first : (P : Protocol) (chooser : Chooser) {N : Type 0} {stands : N → PeerState → Type 0} (peers : List N) (flight : Flight) (now : WireState) →
    IsStage stands P [] peers flight now.pending now.posted → flight.in_flight ≡ posted_first P P.ranks →
    IsPlaying stands P now now peers flight (ChosenPlan P chooser flight (by_chooser P chooser))
chosen_plan-first P chooser peers flight now stage first = record {
  letters = [];
  course = course-none P now (stage-made P [] peers flight now.pending now.posted stage);
  stage = stage;
  plan =
      ap (λ most. chosen_deliveries P most chooser [] flight.in_flight)
      (undelivered_count-same P flight.delivered [] stage.delivered ∙ undelivered_count-none P)
      ∙ ap (chosen_deliveries P (length P.names) chooser []) first;
}

module _ (P : Protocol) (law : IsProtocol P) (letters : List Letter) {N : Type 0} {stands : N → PeerState → Type 0} (peers : List N) (flight : Flight) (pending posted : Letters)
    (stage : IsStage stands P letters peers flight pending posted) (chooser : Chooser) (n : Name) (drawn : chosen chooser flight.in_flight ≡ Some n) where
  -- what is drawn is in flight
  drawn_flies : flies P (names_of letters) n ≡ true
  drawn_flies = sym (stage.flying n) ∙ chosen_flies chooser flight.in_flight n drawn

  pub drawn_comes : may_come P (names_of letters) n ≡ true
  drawn_comes = or_right (stands_in (names_of letters) n) (flies P (names_of letters) n) drawn_flies

  new_known : (stands_in flight.delivered n ≡ false) × (stands_in P.names n ≡ true)
  new_known =
      let parts = and_parts (stands_in P.names n) (not (stands_in (names_of letters) n) && is_ready P (names_of letters) n) drawn_flies in (
        stage.delivered n
            ∙ not-true (stands_in (names_of letters) n) (and_parts (not (stands_in (names_of letters) n)) (is_ready P (names_of letters) n) parts.1).0,
        parts.0,
      )

  flight_then : flight_after flight n ≡ record { in_flight = without n flight.in_flight; delivered = flight.delivered ++ n ∷ [] }
  flight_then = let here = chosen_flies chooser flight.in_flight n drawn in rw here

  -- what is delivered after it
  abbrev pub chosen_rest : List Name
  chosen_rest = chosen_deliveries P (undelivered_count P (flight.delivered ++ n ∷ [])) (chooser_after chooser) (names_of letters ++ n ∷ [])
      (without n flight.in_flight ++ come_into_flight P (names_of letters) n)

  count_next : undelivered_count P flight.delivered ≡ suc (undelivered_count P (flight.delivered ++ n ∷ []))
  count_next = undelivered_count-push P law flight.delivered n new_known.0 new_known.1

  pub chosen_more : (whole : List Name) → ChosenPlan P chooser flight whole (names_of letters) → (names_of letters ++ n ∷ []) ++ chosen_rest ≡ whole
  chosen_more whole plan =
      append_assoc (names_of letters) (n ∷ []) chosen_rest ∙ ap (λ ns. names_of letters ++ ns) (sym step) ∙ plan
    where
      step : chosen_deliveries P (undelivered_count P flight.delivered) chooser (names_of letters) flight.in_flight ≡ n ∷ chosen_rest
      step = rw (count_next, chosen_deliveries, drawn)

  module _ (now_flight : Flight) (reached : now_flight ≡ with_posted (flight_after flight n) (come_into_flight P (names_of letters) n)) where
    now_is : now_flight ≡ record {
      in_flight = without n flight.in_flight ++ come_into_flight P (names_of letters) n;
      delivered = flight.delivered ++ n ∷ [];
    }
    now_is = reached ∙ ap (λ f. with_posted f (come_into_flight P (names_of letters) n)) flight_then

    -- one letter less is left
    pub one_less : undelivered_count P flight.delivered ≡ suc (undelivered_count P now_flight.delivered)
    one_less = count_next ∙ ap (λ f. suc (undelivered_count P f.delivered)) (sym now_is)

    pub chosen_plan-next : (whole now : List Name) (now_chooser : Chooser) → ChosenPlan P chooser flight whole (names_of letters) →
        now_chooser ≡ chooser_after_choice chooser flight.in_flight → now ≡ names_of letters ++ n ∷ [] →
        ChosenPlan P now_chooser now_flight whole now
    chosen_plan-next whole now now_chooser plan after names =
        ap (λ d. d ++ chosen_deliveries P (undelivered_count P now_flight.delivered) now_chooser d now_flight.in_flight) names
        ∙ ap (λ ch. (names_of letters ++ n ∷ []) ++ chosen_deliveries P (undelivered_count P now_flight.delivered) ch (names_of letters ++ n ∷ []) now_flight.in_flight)
        (after ∙ chooser_after_chosen chooser flight.in_flight n drawn)
        ∙ ap (λ f. (names_of letters ++ n ∷ []) ++ chosen_deliveries P (undelivered_count P f.delivered) (chooser_after chooser) (names_of letters ++ n ∷ []) f.in_flight) now_is
        ∙ chosen_more whole plan

-- where nothing is drawn, all was delivered
pub chosen_plan-done : (P : Protocol) (chooser : Chooser) (flight : Flight) (whole delivered : List Name) →
    ChosenPlan P chooser flight whole delivered → chosen chooser flight.in_flight ≡ None → delivered ≡ whole
chosen_plan-done P chooser flight whole delivered plan none = sym (append-nil delivered) ∙ ap (λ ns. delivered ++ ns) (sym (nothing (undelivered_count P flight.delivered))) ∙ plan
  where
    nothing : (most : ℕ) → chosen_deliveries P most chooser delivered flight.in_flight ≡ []
    nothing zero = refl
    nothing (suc most) = rw (chosen_deliveries, none)

-- a play that ends early has delivered the first names of the plan
pub reaches_early : (P : Protocol) (begun now : WireState) {N : Type 0} {stands : N → PeerState → Type 0} (peers : List N) (flight : Flight) (names more whole : List Name) (settled is_settled : Bool) →
    Reaches stands P begun now peers flight names settled → names ++ more ≡ whole → is_settled ≡ false → Reaches stands P begun now peers flight whole is_settled
reaches_early P begun now peers flight names more whole settled is_settled reaches split early = record {
  letters = reaches.letters;
  course = reaches.course;
  rest = reaches.rest ++ more;
  first_of = sym (append_assoc (names_of reaches.letters) reaches.rest more) ∙ ap (λ ns. ns ++ more) reaches.first_of ∙ split;
  whole = λ e. absurd (false≢true (sym early ∙ e));
  stage = λ e. absurd (false≢true (sym early ∙ e));
}

-- a play that is at the end of its plan
pub reaches_whole : (P : Protocol) (begun now : WireState) {N : Type 0} {stands : N → PeerState → Type 0} (peers : List N) (flight : Flight) (whole : List Name) (is_settled : Bool) (letters : List Letter) →
    IsCourse P begun now letters → IsStage stands P letters peers flight now.pending now.posted → names_of letters ≡ whole →
    Reaches stands P begun now peers flight whole is_settled
reaches_whole P begun now peers flight whole is_settled letters course stage all = record {
  letters = letters;
  course = course;
  rest = [];
  first_of = append-nil (names_of letters) ∙ all;
  whole = λ e. all;
  stage = λ e. stage;
}

-- the first of the entries that are left
pub listed_plan-next : (P : Protocol) (all : List Entry) (e : Entry) (es : List Entry) (delivered : List Name) → ListedPlan P all (e ∷ es) delivered →
    may_come P delivered e.name ≡ true → ListedPlan P all es (delivered ++ e.name ∷ [])
listed_plan-next P all e es delivered plan comes = (
  append_assoc delivered (e.name ∷ []) (listed_deliveries P (delivered ++ e.name ∷ []) es)
      ∙ ap (λ ns. delivered ++ ns) (sym deliveries) ∙ plan.0,
  sym end ∙ plan.1,
)
  where
    deliveries : listed_deliveries P delivered (e ∷ es) ≡ e.name ∷ listed_deliveries P (delivered ++ e.name ∷ []) es
    deliveries = rw comes

    end : listed_ending P delivered (e ∷ es) ≡ listed_ending P (delivered ++ e.name ∷ []) es
    end = rw comes

-- an entry that may be delivered names a letter that may come
pub listed_comes : (P : Protocol) (letters : List Letter) {N : Type 0} {stands : N → PeerState → Type 0} (peers : List N) (flight : Flight) (pending posted : Letters) →
    IsStage stands P letters peers flight pending posted → (n : Name) (b : Bool) → b ≡ (stands_in flight.delivered n || stands_in flight.in_flight n) →
    may_come P (names_of letters) n ≡ b
listed_comes P letters peers flight pending posted stage n b is =
    ap (λ x. x || flies P (names_of letters) n) (sym (stage.delivered n))
    ∙ ap (λ x. stands_in flight.delivered n || x) (sym (stage.flying n)) ∙ sym is

module _ (P : Protocol) (all : List Entry) (i : ℕ) (e : Entry) (delivered : List Name) (here : drop i all ≡ e ∷ drop (suc i) all)
    (plan : ListedPlan P all (drop i all) delivered) (comes : may_come P delivered e.name ≡ true) where
  plan_here : ListedPlan P all (e ∷ drop (suc i) all) delivered
  plan_here = subst (λ es. ListedPlan P all es delivered) here plan

  -- the plan after the entry at this place
  pub listed_plan-step : (now : List Name) → now ≡ delivered ++ e.name ∷ [] → ListedPlan P all (drop (suc i) all) now
  listed_plan-step now is =
      subst (ListedPlan P all (drop (suc i) all)) (sym is) (listed_plan-next P all e (drop (suc i) all) delivered plan_here comes)

  -- what is delivered after it
  pub listed_more : (delivered ++ e.name ∷ []) ++ listed_deliveries P (delivered ++ e.name ∷ []) (drop (suc i) all) ≡ listed_deliveries P [] all
  listed_more = (listed_plan-next P all e (drop (suc i) all) delivered plan_here comes).0

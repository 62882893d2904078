use Rattle.std.proofs.Common.{rules, ◌≡◌, ◌∙◌, ap, false, true, refl, drop, drop-cons, get_or, add-one, suc, ◌++◌, ◌∷◌, []}
use Rattle.std.specs.Prelude.{Err}
use Rattle.std.proofs.lemmas.Result.{err_from_is_err_and}
use Rattle.outside.specs.MailRoom.{names_of}
use Rattle.schedule.specs.declared.order.Entry.{Entry}
use Rattle.schedule.specs.Orders.{listed_deliveries}
use Rattle.message_play.specs.Faults.{is_settled}
use Rattle.message_play.specs.Plays.{wire_state}
use Rattle.message_play.proofs.Plans.{listed_comes, listed_more, listed_plan-step, reaches_early}
use Rattle.message_play.proofs.Results.{plain-unsettled}
use Rattle.message_play.proofs.playing.play_listed.Goals as goal
use Rattle.peers.specs.Runs.{may_come}

none : Entry
none = record { line = 0; name = record { phase = 0; from = 0; to = 0 } }

pub loop-entry-preserved : goal.loop-entry-preserved
unfolding none
loop-entry-preserved g c =
    let playing = c.loop-entry.invariant.playing in
    let e : Entry = get_or c.args.entries.now c.loop-entry.entry-index none in
    let here : drop c.loop-entry.entry-index c.args.entries.now ≡ e ∷ drop (suc c.loop-entry.entry-index) c.args.entries.now =
    drop-cons c.args.entries.now c.loop-entry.entry-index none c.loop-entry-test.true in
    let deliverable : c.is_deliverable.result ≡ true = search rules in
    let comes : may_come g.protocol (names_of playing.letters) e.name ≡ true =
    listed_comes g.protocol playing.letters c.loop-entry.peers c.loop-entry.flow
    (g.W.Wire.pending c.loop-entry.wire) (g.W.Wire.posted c.loop-entry.wire) playing.stage e.name c.is_deliverable.result c.is_deliverable.ensures
    ∙ deliverable in
    let reaches = c.in_ok-deliver.ensures.reaches
    (wire_state g.W.Wire.pending g.W.Wire.posted g.W.Wire.taken g.W.Wire.given g.W.Wire.is_honest c.args.wire.now)
    playing.letters playing.course playing.stage comes in
    record {
      playing = record {
        letters = reaches.letters;
        course = reaches.course;
        stage = reaches.stage refl;
        plan = rw add-one
            (listed_plan-step g.protocol c.args.entries.now c.loop-entry.entry-index e (names_of playing.letters) here playing.plan comes
            (names_of reaches.letters) (reaches.whole refl));
      };
      same_faults = search rules;
    }

pub returns-in_err-deliver-clause-reaches : goal.returns-in_err-deliver-clause-reaches
unfolding none
returns-in_err-deliver-clause-reaches g c =
    let playing = c.loop-entry.invariant.playing in
    let e : Entry = get_or c.args.entries.now c.loop-entry.entry-index none in
    let here : drop c.loop-entry.entry-index c.args.entries.now ≡ e ∷ drop (suc c.loop-entry.entry-index) c.args.entries.now =
    drop-cons c.args.entries.now c.loop-entry.entry-index none c.loop-entry-test.true in
    let deliverable : c.is_deliverable.result ≡ true = search rules in
    let comes : may_come g.protocol (names_of playing.letters) e.name ≡ true =
    listed_comes g.protocol playing.letters c.loop-entry.peers c.loop-entry.flow
    (g.W.Wire.pending c.loop-entry.wire) (g.W.Wire.posted c.loop-entry.wire) playing.stage e.name c.is_deliverable.result c.is_deliverable.ensures
    ∙ deliverable in
    let reaches = c.in_err-deliver.ensures.reaches
    (wire_state g.W.Wire.pending g.W.Wire.posted g.W.Wire.taken g.W.Wire.given g.W.Wire.is_honest c.args.wire.now)
    playing.letters playing.course playing.stage comes in
    let error = err_from_is_err_and c.from_residual.result c.from_residual.ensures.1 in
    let failed : is_settled c.from_residual.result ≡ false =
    ap is_settled (error.1 ∙ ap Err error.2) ∙ plain-unsettled (Unit {0}) (Unit {0}) _ c.in_err-deliver.ensures.known_fault in
    reaches_early g.protocol _ _ _ _ (names_of playing.letters ++ e.name ∷ []) _ (listed_deliveries g.protocol [] c.args.entries.now) false _ reaches
    (listed_more g.protocol c.args.entries.now c.loop-entry.entry-index e (names_of playing.letters) here playing.plan comes) failed

use Rattle.std.proofs.Common.{◌≡◌, refl, ap, sym, ◌∙◌, subst, not, ◌++◌, map}
use Rattle.std.specs.List.{filter}
use Rattle.rank_phases.specs.Phases.{names_from}
use Rattle.rank_phases.specs.Stages.{CanAbsorbAll, absorbing, entering}
use Rattle.rank_phases.specs.Queues.{is_kept, letters_of}
use Rattle.rank_phases.specs.Ranks.{stage_of}
use Rattle.rank_phases.proofs.Courses.{can_absorb_early, can_enter, can_send, early_is, holds-entered}
use Rattle.rank_phases.proofs.phased.Phased.enter_next.Goals as goal

pub enter-requires : goal.enter-requires
enter-requires g c =
    let course = c.requires.holds.0 in
    let h = c.requires.holds.1 in
    (stage_of course c.args.self.now.entered, (h.worker, can_enter g.W.Worker.stands c.args.self.now c.args.self.now course h c.requires.none_awaited c.requires.left))

pub post_all-requires : goal.post_all-requires
post_all-requires g c =
    let course = c.requires.holds.0 in
    let h = c.requires.holds.1 in
    let at = stage_of course c.args.self.now.entered in
    let can = can_enter g.W.Worker.stands c.args.self.now c.args.self.now course h c.requires.none_awaited c.requires.left in (
      entering at,
      (
        c.in_ok-entered.ensures.enters at h.worker can,
        can_send g.W.Worker.stands c.args.self.now c.args.self.now course h c.requires.none_awaited c.requires.left c.deref.result.now (c.deref.ensures.value ∙ c.in_ok-entered.ensures.posts at h.worker can),
      ),
    )

pub absorb_all-requires : goal.absorb_all-requires
absorb_all-requires g c =
    let course = c.requires.holds.0 in
    let h = c.requires.holds.1 in
    let at = stage_of course c.args.self.now.entered in
    let can = can_enter g.W.Worker.stands c.args.self.now c.args.self.now course h c.requires.none_awaited c.requires.left in
    let all : letters_of c.deref-2.result.now ≡ _ =
    ap letters_of c.deref-2.ensures.value ∙ c.take-early.ensures.letters ∙ early_is g.W.Worker.stands c.args.self.now c.args.self.now course h in (
      entering at,
      (
        c.in_ok-entered.ensures.enters at h.worker can,
        subst (CanAbsorbAll (entering at)) (sym all)
            (can_absorb_early g.W.Worker.stands c.args.self.now c.args.self.now course h c.requires.none_awaited c.requires.left),
      ),
    )

pub returns-clause-holds : goal.returns-clause-holds
returns-clause-holds g c = λ course h.
    let at = stage_of course c.args.self.now.entered in
    let can = can_enter g.W.Worker.stands c.args.self.now c.args.self.now course h c.requires.none_awaited c.requires.left in
    let stands = c.in_ok-entered.ensures.enters at h.worker can in
    let posts : c.deref.result.now ≡ names_from course.protocol.names c.args.self.now.entered course.rank = c.deref.ensures.value ∙ c.in_ok-entered.ensures.posts at h.worker can in
    let can_all = can_send g.W.Worker.stands c.args.self.now c.args.self.now course h c.requires.none_awaited c.requires.left c.deref.result.now posts in
    let all : letters_of c.deref-2.result.now ≡ _ =
    ap letters_of c.deref-2.ensures.value ∙ c.take-early.ensures.letters ∙ early_is g.W.Worker.stands c.args.self.now c.args.self.now course h in
    holds-entered g.W.Worker.stands c.args.self.now _ course h c.requires.none_awaited c.requires.left refl refl refl
    c.take-early.result.items c.take-early.ensures.letters
    (c.take_out_all.ensures ∙ ap (λ ls. filter (λ m. not (is_kept ls m)) c.in_ok-entered.entered.awaits.items) c.deref-3.ensures.value
    ∙ ap (filter (λ m. not (is_kept c.take-early.result.items m))) (c.in_ok-entered.ensures.awaits at h.worker can))
    c.take-early.ensures.rest
    (c.in_ok-post_all.ensures (entering at) stands can_all
    ∙ ap (λ q. q ++ map (λ n. (n, course.protocol.content n at.absorbed)) c.deref.result.now) c.enter.ensures.same
    ∙ ap (λ ns. c.args.self.now.queue ++ map (λ n. (n, course.protocol.content n at.absorbed)) ns) posts)
    (subst (λ ls. g.W.Worker.stands c.absorb_all.new.worker (absorbing (entering at) (letters_of ls))) c.deref-2.ensures.value
    (c.in_ok-absorb_all.ensures (entering at) stands
    (subst (CanAbsorbAll (entering at)) (sym all)
    (can_absorb_early g.W.Worker.stands c.args.self.now c.args.self.now course h c.requires.none_awaited c.requires.left))))

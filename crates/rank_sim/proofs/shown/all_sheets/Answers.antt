use Rattle.std.proofs.Common.{◌≡◌, ◌<◌, ◌++◌, ◌∷◌, [], length, take, get_or, sym, ap, ◌∙◌, subst, arith}
use Rattle.std.specs.List.{flat_map}
use Rattle.std.proofs.lemmas.List.{append-nil, take_more, take_all}
use Rattle.std.proofs.lemmas.List.Concat.{flat_map-append}
use Rattle.model_defs.specs.declared.job.Step.{Step}
use Rattle.model_defs.specs.Makers.{value_count}
use Rattle.model_defs.specs.Sheets.{step_sheets}
use Rattle.rank_sim.specs.Ranks.{PrintsBelow}
use Rattle.rank_sim.specs.Runs.{gathered_values}
use Rattle.rank_sim.proofs.Alike.{prints-known}
use Rattle.rank_sim.proofs.shown.all_sheets.Goals as goal

pub sheets_of_step-requires-clause-known : goal.sheets_of_step-requires-clause-known
sheets_of_step-requires-clause-known g c =
    let job = c.args.job.now in
    let n = c.loop-step.step-index in
    let d = c.step-item.result in
    let same : c.as_slice-step-items.result.now ≡ job.steps = c.as_slice-step-items.ensures.items in
    let low : n < length job.steps = subst (λ xs. n < length xs) same c.loop-step-test.true in
    let is : d ≡ get_or job.steps n d = c.step-item.is ∙ ap (λ xs. get_or xs n d) same in
    subst (PrintsBelow (value_count job)) (sym is) (prints-known job c.requires.finished.1.1.input.valid n d low)

pub loop-step-preserved : goal.loop-step-preserved
loop-step-preserved g c = λ files letters all.
    let job = c.args.job.now in
    let n = c.loop-step.step-index in
    let d : Step = c.step-item.result in
    let f = step_sheets g.S.Scalar.conversions job (gathered_values g.S.Scalar.semiring g.S.Scalar.conversions job files letters) in
    let same : c.as_slice-step-items.result.now ≡ job.steps = c.as_slice-step-items.ensures.items in
    let low : n < length job.steps = subst (λ xs. n < length xs) same c.loop-step-test.true in
    let is : d ≡ get_or job.steps n d = c.step-item.is ∙ ap (λ xs. get_or xs n d) same in
    c.in_ok-add_sheets.ensures.sheets
    ∙ (λ t. c.loop-step.invariant files letters all t ++ c.in_ok-more.ensures.sheets files letters all t)
    ∙ ap (λ xs. flat_map f (take n job.steps) ++ xs) (sym (append-nil (f d)))
    ∙ ap (λ s. flat_map f (take n job.steps) ++ flat_map f (s ∷ [])) is
    ∙ sym (flat_map-append f (take n job.steps) (get_or job.steps n d ∷ []))
    ∙ ap (flat_map f) (sym (take_more job.steps n d low))

pub returns : goal.returns
returns g c =
    let same : c.as_slice-step-items.result.now ≡ c.args.job.now.steps = c.as_slice-step-items.ensures.items in
    let end : length c.as_slice-step-items.result.now ≡ length c.args.job.now.steps = ap length same in
    record {
      sheets = λ files letters all.
          c.loop-step.invariant files letters all
          ∙ ap (flat_map (step_sheets g.S.Scalar.conversions c.args.job.now (gathered_values g.S.Scalar.semiring g.S.Scalar.conversions c.args.job.now files letters)))
          (take_all c.loop-step.step-index c.args.job.now.steps (let past = c.loop-step-test.false in omega arith));
    }

use Rattle.std.proofs.Common.{◌≡◌, ◌<◌, ◌++◌, ◌∷◌, [], length, take, get_or, sym, ap, ◌∙◌, subst, arith}
use Rattle.std.specs.List.{flat_map}
use Rattle.std.proofs.lemmas.List.{append-nil, take_more, take_all}
use Rattle.std.proofs.lemmas.List.Concat.{flat_map-append}
use Rattle.model_defs.specs.declared.sheets.PhaseLine.{PhaseLine}
use Rattle.model_defs.specs.Phases.{phases}
use Rattle.model_defs.specs.Traffic.{phase_lines_of}
use Rattle.rank_sim.specs.LetterLines.{lines_of_phase}
use Rattle.rank_sim.proofs.LetterLines.{known-line, lines-listed}
use Rattle.rank_sim.proofs.letters.letter_lines.Goals as goal

pub add_lines_of_phase-requires-clause-phase : goal.add_lines_of_phase-requires-clause-phase
add_lines_of_phase-requires-clause-phase g c =
    let job = c.args.job.now in
    let n = c.loop-line.line-index in
    let d = c.line-item.result in
    let same : c.args.phases.now ≡ phase_lines_of job = c.requires.phases in
    let low : n < length (phase_lines_of job) = subst (λ xs. n < length xs) same c.loop-line-test.true in
    let is : d ≡ get_or (phase_lines_of job) n d = c.line-item.is ∙ ap (λ xs. get_or xs n d) same in
    subst (λ (x : PhaseLine). x.phase < length (phases job)) (sym is) (known-line job n d low)

pub loop-line-preserved : goal.loop-line-preserved
loop-line-preserved g c = λ files letters all.
    let n = c.loop-line.line-index in
    let d : PhaseLine = c.line-item.result in
    let xs = c.args.phases.now in
    let f = λ (x : PhaseLine). lines_of_phase c.args.job.now files x.phase c.args.job.now.ranks in
    c.in_ok-add_lines_of_phase.ensures.lines files letters all
    ∙ (λ t. c.loop-line.invariant files letters all t ++ f d)
    ∙ ap (λ ys. flat_map f (take n xs) ++ ys) (sym (append-nil (f d)))
    ∙ ap (λ x. flat_map f (take n xs) ++ flat_map f (x ∷ [])) c.line-item.is
    ∙ sym (flat_map-append f (take n xs) (get_or xs n d ∷ []))
    ∙ ap (flat_map f) (sym (take_more xs n d c.loop-line-test.true))

pub returns : goal.returns
returns g c = record {
  lines = λ files letters all.
      let f = λ (x : PhaseLine). lines_of_phase c.args.job.now files x.phase c.args.job.now.ranks in
      c.loop-line.invariant files letters all
      ∙ ap (flat_map f) (take_all c.loop-line.line-index c.args.phases.now (let past = c.loop-line-test.false in omega arith))
      ∙ ap (flat_map f) c.requires.phases
      ∙ lines-listed c.args.job.now files;
}

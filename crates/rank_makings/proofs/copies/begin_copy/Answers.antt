use Rattle.std.proofs.Common.{Some, ap, ◌∙◌}
use Rattle.rank_makings.proofs.CopyAnswers.{copying, piece-read, plan-made, shape-there, source-before, source-known}
use Rattle.rank_makings.proofs.copies.begin_copy.Goals as goal

pub bounds-shapes-k : goal.bounds-shapes-k
bounds-shapes-k g c = shape-there c.requires.can.1.1.at c.args.k c.requires.kind.below

pub bounds-shapes-source : goal.bounds-shapes-source
bounds-shapes-source g c =
    shape-there c.requires.can.1.1.at c.source_of-source.result (source-known c.requires.can.1.1 c.requires.kind c.copying_step-step.ensures.made c.source_of-source.ensures.source)

pub plan-requires : goal.plan-requires
plan-requires g c = record {
  made = plan-made c.requires.can.1.1 c.requires.kind c.copying_step-step.ensures.made c.source_of-source.ensures.source _ _ c.plan_of-plan.ensures.plan;
}

pub begin_cells-requires-clause-copying : goal.begin_cells-requires-clause-copying
begin_cells-requires-clause-copying g c = (
  c.requires.can.0,
  (
    c.requires.can.1.0,
    (
      c.args.k,
      (
        c.args.stage,
        copying c.requires.can.1.1 c.requires.kind c.copying_step-step.ensures.made c.source_of-source.ensures.source _ _ c.plan_of-plan.ensures.plan c.plan.ensures.made _ c.in_ok-kept.ensures.same,
      ),
    ),
  ),
)

pub begin_cells-requires-clause-piece : goal.begin_cells-requires-clause-piece
begin_cells-requires-clause-piece g c =
    piece-read c.requires.can.1.1.at c.source_of-source.result c.index-pieces-source.result
    (source-before c.requires.can.1.1 c.requires.kind c.copying_step-step.ensures.made c.source_of-source.ensures.source) c.index-pieces-source.is
    ∙ ap (λ p. Some p) c.in-Vector.is

pub returns-in-Vector : goal.returns-in-Vector
returns-in-Vector g c = record {
  begun = λ files given can.
      c.in_ok-begin_cells-in-Vector.ensures.begun files given c.args.k c.args.stage
      (copying can c.requires.kind c.copying_step-step.ensures.made c.source_of-source.ensures.source _ _ c.plan_of-plan.ensures.plan c.plan.ensures.made _ c.in_ok-kept.ensures.same);
}

pub begin_rows-requires-clause-copying : goal.begin_rows-requires-clause-copying
begin_rows-requires-clause-copying g c = (
  c.requires.can.0,
  (
    c.requires.can.1.0,
    (
      c.args.k,
      (
        c.args.stage,
        copying c.requires.can.1.1 c.requires.kind c.copying_step-step.ensures.made c.source_of-source.ensures.source _ _ c.plan_of-plan.ensures.plan c.plan.ensures.made _ c.in_ok-kept.ensures.same,
      ),
    ),
  ),
)

pub begin_rows-requires-clause-piece : goal.begin_rows-requires-clause-piece
begin_rows-requires-clause-piece g c =
    piece-read c.requires.can.1.1.at c.source_of-source.result c.index-pieces-source.result
    (source-before c.requires.can.1.1 c.requires.kind c.copying_step-step.ensures.made c.source_of-source.ensures.source) c.index-pieces-source.is
    ∙ ap (λ p. Some p) c.in-Matrix.is

pub returns : goal.returns
returns g c = record {
  begun = λ files given can.
      c.in_ok-begin_rows-in-Matrix.ensures.begun files given c.args.k c.args.stage
      (copying can c.requires.kind c.copying_step-step.ensures.made c.source_of-source.ensures.source _ _ c.plan_of-plan.ensures.plan c.plan.ensures.made _ c.in_ok-kept.ensures.same);
}

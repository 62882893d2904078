use Rattle.model_defs.specs.Makers.{Made}
use Rattle.value_phases.specs.ValuePhases.{onto_of}
use Rattle.rank_makings.proofs.CopyAnswers.{none-zeros}
use Rattle.rank_makings.proofs.copies.onto_vector.Goals as goal

pub returns-in_ok-map-in-None-clause-zeros : goal.returns-in_ok-map-in-None-clause-zeros
returns-in_ok-map-in-None-clause-zeros g c =
    none-zeros g.S.Scalar.semiring g.S.Scalar.conversions c.args.job.now c.args.me c.args.shape.rows c.args.shape.columns c.in_ok-map-in-None.map.value c.vector_of_lines.result
    (onto_of (Made c.args.step.now)) c.in_ok-map-in-None.ensures.list c.vector_of_lines.ensures.map c.vector_of_lines.ensures.columns c.vector_of_lines.ensures.cells

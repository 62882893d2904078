use Rattle.std.proofs.Common.{◌∙◌, refl}
use Rattle.outside.proofs.Taking.{Writes-failed}
use Rattle.tpx.specs.Messages.{letter_line}
use Rattle.tpx.proofs.Pieces.{flat_map-drop, left-fault, left-next}
use Rattle.tpx.proofs.messages.write_letters.Goals as goal

pub returns-in-Err : goal.returns-in-Err
returns-in-Err g c =
    Writes-failed g.E.Sink.told g.E.Sink.faults _ c.loop-name.err _ _ _ refl c.loop-name.invariant.no_fault
    (left-fault _ _ _ _ _ _ _ c.loop-name.invariant.held (flat_map-drop letter_line c.args.names.now c.loop-name.name-index _ c.loop-name-test.true) c.in-Err.ensures.prefix)
    c.in-Err.ensures.fault c.in-Err.ensures.never_falls

pub loop-name-preserved : goal.loop-name-preserved
loop-name-preserved g c = record {
  held = left-next _ _ _ _ _ _ _ c.loop-name.invariant.held (flat_map-drop letter_line c.args.names.now c.loop-name.name-index _ c.loop-name-test.true) c.in_default.ensures.taken;
  no_fault = c.in_default.ensures.no_fault ∙ c.loop-name.invariant.no_fault;
}

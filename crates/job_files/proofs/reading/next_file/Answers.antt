use Rattle.std.proofs.Common.{sym}
use Rattle.job_files.specs.Wanted.{seen, wanted_as}
use Rattle.job_files.proofs.Answering.{answers-placed}
use Rattle.job_files.proofs.Places.{not_placed}
use Rattle.job_files.proofs.Sources.{answers-new}
use Rattle.job_files.proofs.reading.next_file.Goals as goal

pub returns-in-Some-clause-answers : goal.returns-in-Some-clause-answers
returns-in-Some-clause-answers g c =
    answers-placed (g.F.Files.told c.args.files.now) c.args.held.now c.args.earlier.now c.args.read_before.now c.args.room
    (wanted_as c.args.want.now.kind c.args.want.now.name.now) c.again.result c.in-Some.place _ c.index-read_before-place.result
    (sym c.in-Some.ensures.place) c.requires c.index-read_before-place.is c.again.ensures.text

pub returns-in-None-held_text-clause-answers : goal.returns-in-None-held_text-clause-answers
returns-in-None-held_text-clause-answers g c =
    answers-new (g.F.Files.told c.args.files.now) c.args.held.now (seen c.args.earlier.now) _ c.args.room (wanted_as c.args.want.now.kind c.args.want.now.name.now)
    c.read.result (sym c.in-None-held_text.ensures) (not_placed 0 c.args.want.now.name.now c.args.earlier.now (sym c.in-None.ensures.place)) c.read.ensures.file c.read.ensures.fault

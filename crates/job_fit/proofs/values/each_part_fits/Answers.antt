use Rattle.std.proofs.Common.{◌<◌, ◌+◌, length, map, true, false, sym, ◌∙◌, arith}
use Rattle.mm_text.specs.Reading.{file_of}
use Rattle.model_defs.specs.Given.{origin_files}
use Rattle.model_defs.specs.Makers.{GivenParts}
use Rattle.job_fit.specs.Walk.{part_fits}
use Rattle.job_fit.proofs.Numbers.{all-next, all-fails}
use Rattle.job_fit.proofs.Compared.{part-read}
use Rattle.job_fit.proofs.values.each_part_fits.Goals as goal

pub loop-part-preserved : goal.loop-part-preserved
loop-part-preserved c =
    let n = length (origin_files c.args.spec.now.from) in
    let below : c.loop-part.part < n = (let many = c.count_of-part-end.ensures.count in let test = c.loop-part-test.true in omega arith) in
    let inside : c.args.at + c.loop-part.part < length c.args.files.now = (let there = c.requires.there in omega arith) in
    c.loop-part.invariant
    ∙ all-next (part_fits c.args.job.now (map file_of c.args.files.now) c.args.at (GivenParts c.args.spec.now)) n c.loop-part.part below
    (part-read c.args.job.now c.args.files.now c.args.at c.loop-part.part (GivenParts c.args.spec.now) c.index-files-at.result c.index_count-rows.result c.from.result c.has_sizes.result true inside
    c.index-files-at.is c.index_count-rows.ensures.count c.from.ensures c.has_sizes.ensures c.if-not-has_sizes.false)

pub returns-then-not-has_sizes : goal.returns-then-not-has_sizes
returns-then-not-has_sizes c =
    let n = length (origin_files c.args.spec.now.from) in
    let below : c.loop-part.part < n = (let many = c.count_of-part-end.ensures.count in let test = c.loop-part-test.true in omega arith) in
    let inside : c.args.at + c.loop-part.part < length c.args.files.now = (let there = c.requires.there in omega arith) in
    sym (c.loop-part.invariant
    ∙ all-fails (part_fits c.args.job.now (map file_of c.args.files.now) c.args.at (GivenParts c.args.spec.now)) n c.loop-part.part below
    (part-read c.args.job.now c.args.files.now c.args.at c.loop-part.part (GivenParts c.args.spec.now) c.index-files-at.result c.index_count-rows.result c.from.result c.has_sizes.result false inside
    c.index-files-at.is c.index_count-rows.ensures.count c.from.ensures c.has_sizes.ensures c.if-not-has_sizes.true))

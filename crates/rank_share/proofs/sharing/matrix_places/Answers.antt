use Rattle.std.proofs.Common.{◌≡◌, ◌+◌, ◌<◌, length, map, sym, ap, ◌∙◌, subst, arith}
use Rattle.std.proofs.lemmas.List.{length-map}
use Rattle.mm_text.specs.Reading.{file_of}
use Rattle.mm_text.specs.Sound.{IsSound}
use Rattle.model_defs.specs.Given.{value_file}
use Rattle.rank_share.specs.Conditions.{file_at}
use Rattle.rank_share.specs.Shares.{place_lines, cell_count}
use Rattle.rank_share.proofs.Positions.{matrix-there, matrix-file, matrix-sound, map-more, file-read}
use Rattle.rank_share.proofs.sharing.matrix_places.Goals as goal

pub bounds-files-first : goal.bounds-files-first
bounds-files-first c =
    let below : c.loop-m.m < length c.args.job.now.matrices = (let same = ap length c.as_slice-m-end.ensures.items in omega (arith, c.loop-m-test.true)) in
    let there = matrix-there c.args.job.now (map file_of c.args.files.now) c.requires.valid c.requires.fitting c.loop-m.m c.args.first below c.requires.first in
    let all = length-map c.args.files.now file_of in
    omega (arith, there, all)

pub dealt_places-requires-clause-sound : goal.dealt_places-requires-clause-sound
dealt_places-requires-clause-sound c =
    let below : c.loop-m.m < length c.args.job.now.matrices = (let same = ap length c.as_slice-m-end.ensures.items in omega (arith, c.loop-m-test.true)) in
    let there = matrix-there c.args.job.now (map file_of c.args.files.now) c.requires.valid c.requires.fitting c.loop-m.m c.args.first below c.requires.first in
    let all = length-map c.args.files.now file_of in
    subst IsSound (sym (file-read c.args.files.now (c.args.first + c.loop-m.m) c.index-files-first.result (omega (arith, there, all)) c.index-files-first.is))
    (matrix-sound c.args.job.now (map file_of c.args.files.now) c.requires.valid c.requires.fitting c.loop-m.m c.args.first below c.requires.first)

pub loop-m-preserved : goal.loop-m-preserved
loop-m-preserved c =
    let below : c.loop-m.m < length c.args.job.now.matrices = (let same = ap length c.as_slice-m-end.ensures.items in omega (arith, c.loop-m-test.true)) in
    let there = matrix-there c.args.job.now (map file_of c.args.files.now) c.requires.valid c.requires.fitting c.loop-m.m c.args.first below c.requires.first in
    let all = length-map c.args.files.now file_of in
    c.in_ok-push.ensures.items
    ∙ map-more (λ k. place_lines c.args.job.now.ranks c.args.me (value_file c.args.job.now (map file_of c.args.files.now) k 0)) (cell_count c.args.job.now) c.loop-m.m c.loop-m.places.items _ c.loop-m.invariant
    (c.new.ensures.items ∙ c.in_ok-lines.ensures.places
    ∙ ap (place_lines c.args.job.now.ranks c.args.me)
    (file-read c.args.files.now (c.args.first + c.loop-m.m) c.index-files-first.result (omega (arith, there, all)) c.index-files-first.is
    ∙ matrix-file c.args.job.now (map file_of c.args.files.now) c.requires.valid c.requires.fitting c.loop-m.m c.args.first below c.requires.first))

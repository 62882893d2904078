use Rattle.std.proofs.Common.{◌≡◌, ℕ, ◌+◌, ◌<◌, length, map, sym, ap, ◌∙◌, arith}
use Rattle.std.proofs.lemmas.List.{length-map}
use Rattle.mm_text.specs.Reading.{file_of}
use Rattle.model_defs.specs.Makers.{GivenVector, maker_of, value_count}
use Rattle.rank_share.specs.Shares.{value_lines}
use Rattle.rank_share.proofs.Positions.{is_vector, vector-known, vector-map, vector-lines, vector-file, next-file, next-below, map-more}
use Rattle.rank_share.proofs.sharing.add_vectors.Goals as goal

pub vector_lines-requires-clause-known : goal.vector_lines-requires-clause-known
vector_lines-requires-clause-known c =
    let k : ℕ = c.loop-spec.spec-index in
    let known : k < value_count c.args.job.now = vector-known c.args.job.now c.loop-spec.spec-index c.as_slice-spec-items.result.now c.loop-spec-test.true c.as_slice-spec-items.ensures.items in
    let maker : maker_of c.args.job.now k ≡ GivenVector c.spec-item.result = is_vector c.args.job.now (map file_of c.args.files.now) c.requires.valid c.requires.fitting c.loop-spec.spec-index c.as_slice-spec-items.result.now c.spec-item.result c.loop-spec-test.true c.as_slice-spec-items.ensures.items c.spec-item.is in
    vector-map c.args.job.now (map file_of c.args.files.now) c.requires.valid c.requires.fitting k c.spec-item.result known maker

pub vector_lines-requires-clause-file : goal.vector_lines-requires-clause-file
vector_lines-requires-clause-file c =
    let k : ℕ = c.loop-spec.spec-index in
    let known : k < value_count c.args.job.now = vector-known c.args.job.now c.loop-spec.spec-index c.as_slice-spec-items.result.now c.loop-spec-test.true c.as_slice-spec-items.ensures.items in
    let maker : maker_of c.args.job.now k ≡ GivenVector c.spec-item.result = is_vector c.args.job.now (map file_of c.args.files.now) c.requires.valid c.requires.fitting c.loop-spec.spec-index c.as_slice-spec-items.result.now c.spec-item.result c.loop-spec-test.true c.as_slice-spec-items.ensures.items c.spec-item.is in
    vector-file c.args.job.now (map file_of c.args.files.now) c.requires.valid c.requires.fitting k c.loop-spec.at c.spec-item.result known maker c.loop-spec.invariant.at

pub overflow_add-at : goal.overflow_add-at
overflow_add-at c =
    let k : ℕ = c.loop-spec.spec-index in
    let known : k < value_count c.args.job.now = vector-known c.args.job.now c.loop-spec.spec-index c.as_slice-spec-items.result.now c.loop-spec-test.true c.as_slice-spec-items.ensures.items in
    let maker : maker_of c.args.job.now k ≡ GivenVector c.spec-item.result = is_vector c.args.job.now (map file_of c.args.files.now) c.requires.valid c.requires.fitting c.loop-spec.spec-index c.as_slice-spec-items.result.now c.spec-item.result c.loop-spec-test.true c.as_slice-spec-items.ensures.items c.spec-item.is in
    let within = next-below c.args.job.now (map file_of c.args.files.now) c.requires.valid c.requires.fitting k c.loop-spec.at c.count_of.result (GivenVector c.spec-item.result) known maker c.loop-spec.invariant.at c.count_of.ensures.count in
    let all = length-map c.args.files.now file_of in
    omega (arith, within, all)

pub loop-spec-preserved : goal.loop-spec-preserved
loop-spec-preserved c =
    let k : ℕ = c.loop-spec.spec-index in
    let known : k < value_count c.args.job.now = vector-known c.args.job.now c.loop-spec.spec-index c.as_slice-spec-items.result.now c.loop-spec-test.true c.as_slice-spec-items.ensures.items in
    let maker : maker_of c.args.job.now k ≡ GivenVector c.spec-item.result = is_vector c.args.job.now (map file_of c.args.files.now) c.requires.valid c.requires.fitting c.loop-spec.spec-index c.as_slice-spec-items.result.now c.spec-item.result c.loop-spec-test.true c.as_slice-spec-items.ensures.items c.spec-item.is in
    record {
      at = next-file c.args.job.now (map file_of c.args.files.now) c.requires.valid c.requires.fitting k c.loop-spec.at c.count_of.result (GivenVector c.spec-item.result) known maker c.loop-spec.invariant.at c.count_of.ensures.count;
      cells = c.in_ok-push.ensures.items ∙ map-more (value_lines c.args.job.now (map file_of c.args.files.now) c.args.me) 0 k c.loop-spec.cells.items c.in_ok-vector_lines.field-0 c.loop-spec.invariant.cells
          (c.in_ok-vector_lines.ensures.lines ∙ vector-lines c.args.job.now (map file_of c.args.files.now) c.requires.valid c.requires.fitting c.args.me k c.loop-spec.at c.spec-item.result maker c.loop-spec.invariant.at ∙ ap (value_lines c.args.job.now (map file_of c.args.files.now) c.args.me) (omega arith));
    }

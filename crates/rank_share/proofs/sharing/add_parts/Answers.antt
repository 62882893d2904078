use Rattle.std.proofs.Common.{◌≡◌, ℕ, ◌+◌, ◌<◌, length, map, sym, ap, ◌∙◌, arith}
use Rattle.std.proofs.lemmas.List.{length-map}
use Rattle.mm_text.specs.Reading.{file_of}
use Rattle.model_defs.specs.Makers.{GivenParts, maker_of, value_count}
use Rattle.tables.specs.Indices.{count_from}
use Rattle.rank_share.specs.Conditions.{files_before}
use Rattle.rank_share.specs.Shares.{value_lines}
use Rattle.rank_share.proofs.Positions.{is_parts, parts-known, parts-map, parts-lines, parts-file, next-file, next-below, map-more}
use Rattle.rank_share.proofs.sharing.add_parts.Goals as goal

pub parts_lines-requires-clause-known : goal.parts_lines-requires-clause-known
parts_lines-requires-clause-known c =
    let k : ℕ = length c.args.job.now.vectors + c.loop-spec.spec-index in
    let known : k < value_count c.args.job.now = parts-known c.args.job.now c.loop-spec.spec-index c.as_slice-spec-items.result.now c.loop-spec-test.true c.as_slice-spec-items.ensures.items in
    let maker : maker_of c.args.job.now k ≡ GivenParts c.spec-item.result = is_parts c.args.job.now (map file_of c.args.files.now) c.requires.valid c.requires.fitting c.loop-spec.spec-index c.as_slice-spec-items.result.now c.spec-item.result c.loop-spec-test.true c.as_slice-spec-items.ensures.items c.spec-item.is in
    parts-map c.args.job.now (map file_of c.args.files.now) c.requires.valid c.requires.fitting k c.spec-item.result known maker

pub parts_lines-requires-clause-file : goal.parts_lines-requires-clause-file
parts_lines-requires-clause-file c =
    let k : ℕ = length c.args.job.now.vectors + c.loop-spec.spec-index in
    let known : k < value_count c.args.job.now = parts-known c.args.job.now c.loop-spec.spec-index c.as_slice-spec-items.result.now c.loop-spec-test.true c.as_slice-spec-items.ensures.items in
    let maker : maker_of c.args.job.now k ≡ GivenParts c.spec-item.result = is_parts c.args.job.now (map file_of c.args.files.now) c.requires.valid c.requires.fitting c.loop-spec.spec-index c.as_slice-spec-items.result.now c.spec-item.result c.loop-spec-test.true c.as_slice-spec-items.ensures.items c.spec-item.is in
    parts-file c.args.job.now (map file_of c.args.files.now) c.requires.valid c.requires.fitting k c.loop-spec.at c.args.me c.spec-item.result known maker c.loop-spec.invariant.at c.requires.rank

pub overflow_add-at : goal.overflow_add-at
overflow_add-at c =
    let k : ℕ = length c.args.job.now.vectors + c.loop-spec.spec-index in
    let known : k < value_count c.args.job.now = parts-known c.args.job.now c.loop-spec.spec-index c.as_slice-spec-items.result.now c.loop-spec-test.true c.as_slice-spec-items.ensures.items in
    let maker : maker_of c.args.job.now k ≡ GivenParts c.spec-item.result = is_parts c.args.job.now (map file_of c.args.files.now) c.requires.valid c.requires.fitting c.loop-spec.spec-index c.as_slice-spec-items.result.now c.spec-item.result c.loop-spec-test.true c.as_slice-spec-items.ensures.items c.spec-item.is in
    let within = next-below c.args.job.now (map file_of c.args.files.now) c.requires.valid c.requires.fitting k c.loop-spec.at c.count_of.result (GivenParts c.spec-item.result) known maker c.loop-spec.invariant.at c.count_of.ensures.count in
    let all = length-map c.args.files.now file_of in
    omega (arith, within, all)

pub loop-spec-preserved : goal.loop-spec-preserved
loop-spec-preserved c =
    let k : ℕ = length c.args.job.now.vectors + c.loop-spec.spec-index in
    let known : k < value_count c.args.job.now = parts-known c.args.job.now c.loop-spec.spec-index c.as_slice-spec-items.result.now c.loop-spec-test.true c.as_slice-spec-items.ensures.items in
    let maker : maker_of c.args.job.now k ≡ GivenParts c.spec-item.result = is_parts c.args.job.now (map file_of c.args.files.now) c.requires.valid c.requires.fitting c.loop-spec.spec-index c.as_slice-spec-items.result.now c.spec-item.result c.loop-spec-test.true c.as_slice-spec-items.ensures.items c.spec-item.is in
    record {
      at = next-file c.args.job.now (map file_of c.args.files.now) c.requires.valid c.requires.fitting k c.loop-spec.at c.count_of.result (GivenParts c.spec-item.result) known maker c.loop-spec.invariant.at c.count_of.ensures.count ∙ ap (files_before c.args.job.now) (omega arith);
      cells = c.in_ok-push.ensures.items ∙ map-more (value_lines c.args.job.now (map file_of c.args.files.now) c.args.me) 0 k c.loop-spec.cells.items c.in_ok-parts_lines.field-0 c.loop-spec.invariant.cells
          (c.in_ok-parts_lines.ensures.lines ∙ parts-lines c.args.job.now (map file_of c.args.files.now) c.requires.valid c.requires.fitting c.args.me k c.loop-spec.at c.spec-item.result maker c.loop-spec.invariant.at ∙ ap (value_lines c.args.job.now (map file_of c.args.files.now) c.args.me) (omega arith))
          ∙ ap (λ n. map (value_lines c.args.job.now (map file_of c.args.files.now) c.args.me) (count_from 0 n)) (omega arith);
    }

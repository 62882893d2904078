use Rattle.std.proofs.Common.{◌≡◌, ap, sym, ◌∙◌, inr, arith, ◌+◌, List, length}
use Rattle.std.proofs.lemmas.Result.{err_from_is_err_and}
use Rattle.mm_text.specs.declared.file_data.Line.{Line}
use Rattle.mm_text.specs.Lines.{kept_from, lines_of}
use Rattle.mm_text.specs.Reading.{no_more}
use Rattle.mm_text.proofs.TextLemmas.{entries_left, entries_left_bad, entries_left_end, entries_left_more}
use Rattle.mm_text.proofs.reading.text.read_entries.Goals as goal

pub returns-in_err-line-in-Some : goal.returns-in_err-line-in-Some
returns-in_err-line-in-Some c =
    let p = err_from_is_err_and c.from_residual-in_err-line-in-Some.result c.from_residual-in_err-line-in-Some.ensures.1 in
    rw (p.1, p.2) (inr (
    sym c.loop-at.invariant.left
    ∙ ap (entries_left c.args.whole c.args.banner c.args.sizes c.loop-at.at c.loop-at.lines.items) c.in-Some.ensures.kept
    ∙ entries_left_bad c.args.whole c.args.banner c.args.sizes c.loop-at.at c.loop-at.lines.items _ _ _ c.loop-at-test.true (sym c.in_err-line-in-Some.ensures)))

pub loop-at-preserved : goal.loop-at-preserved
loop-at-preserved c =
    let whole = c.args.whole in
    let left : List Line → _ = λ lines. entries_left whole c.args.banner c.args.sizes (c.loop-at.at + 1) lines (kept_from (c.in-Some.kept.number + 1) (lines_of whole c.in-Some.kept.rest.now)) in
    record {
      found = omega (arith, c.in_ok-push-in-Some.ensures.len);
      left = ap left c.in_ok-push-in-Some.ensures.items
          ∙ sym (entries_left_more whole c.args.banner c.args.sizes c.loop-at.at c.loop-at.lines.items _ _ _ c.loop-at-test.true (sym c.in_ok-line-in-Some.ensures))
          ∙ sym (ap (entries_left whole c.args.banner c.args.sizes c.loop-at.at c.loop-at.lines.items) c.in-Some.ensures.kept)
          ∙ c.loop-at.invariant.left;
      numbers = omega (arith, c.in-Some.ensures.bounded);
    }

pub returns-in-Some-next_kept : goal.returns-in-Some-next_kept
returns-in-Some-next_kept c =
    let whole = c.args.whole in
    let lines = c.loop-at.lines in
    let found : length lines.items ≡ c.loop-at.at = omega (arith, lines.ok.0) in
    inr (
    sym c.loop-at.invariant.left
    ∙ entries_left_end whole c.args.banner c.args.sizes c.loop-at.at lines.items _ (omega arith) found
    ∙ ap (no_more whole lines.items) c.in-Some-next_kept.ensures.kept)

use Rattle.std.proofs.Common.{ap, sym, ◌∙◌}
use Rattle.mm_text.specs.Entries.{entry_by, pattern_cell, entry_of_cell, valued_cell}
use Rattle.mm_text.specs.Lines.{words_in, words_of}
use Rattle.mm_text.proofs.EntryLemmas.{placed_cut}
use Rattle.mm_text.proofs.reading.entries.read_entry.Goals as goal

pub returns-in-Valued : goal.returns-in-Valued
returns-in-Valued c =
    let m = c.args.banner.mirror in
    let s = c.args.sizes in
    let number = c.args.number in
    c.entry_of_cell.ensures
    ∙ ap (entry_of_cell m s number) c.valued_cell.ensures
    ∙ placed_cut m s number (valued_cell (words_in c.without_return-bytes.result.now)) c.requires.rows c.requires.cols
    ∙ ap (λ bytes. entry_of_cell m s number (valued_cell (words_in bytes))) c.without_return-bytes.ensures
    ∙ sym (ap (λ k. entry_by k m s number c.args.at (words_of c.args.line.now)) c.in-Valued.is)

pub returns-in-Pattern : goal.returns-in-Pattern
returns-in-Pattern c =
    let m = c.args.banner.mirror in
    let s = c.args.sizes in
    let number = c.args.number in
    c.entry_of_cell-in-Pattern.ensures
    ∙ ap (entry_of_cell m s number) c.pattern_cell.ensures
    ∙ placed_cut m s number (pattern_cell (words_in c.without_return-bytes.result.now)) c.requires.rows c.requires.cols
    ∙ ap (λ bytes. entry_of_cell m s number (pattern_cell (words_in bytes))) c.without_return-bytes.ensures
    ∙ sym (ap (λ k. entry_by k m s number c.args.at (words_of c.args.line.now)) c.in-Pattern.is)

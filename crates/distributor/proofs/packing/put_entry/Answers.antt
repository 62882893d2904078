use Rattle.std.proofs.Common.{◌∙◌, ap, sym, arith, length-append, append_assoc, ◌++◌, ◌∷◌}
use Rattle.letter_codec.specs.Letters.{word_bytes, bytes_of_word}
use Rattle.distributor.specs.Entries.{entry_at, columns_of}
use Rattle.distributor.specs.Packed.{words_for}
use Rattle.distributor.proofs.Written.{starts-as}
use Rattle.letter_codec.proofs.ReadWords.{length-word}
use Rattle.letter_codec.specs.declared.kind.Kind.{Kind}
use Rattle.distributor.proofs.packing.put_entry.Goals as goal

pub returns-in-Rows-clause-next : goal.returns-in-Rows-clause-next
returns-in-Rows-clause-next g c = λ before long starts.
    let e = (entry_at (g.A.DistSource.entries c.args.source.now) c.args.lid) in
    let one = c.put_word.ensures.next before long starts in
    let two = c.put_word-in-Rows.ensures.next (before ++ bytes_of_word c.gid.result) (omega (arith, length-append before (bytes_of_word c.gid.result), length-word c.gid.result, long)) one in
    let three = c.put_columns.ensures.next ((before ++ bytes_of_word c.gid.result) ++ bytes_of_word c.count-count.result)
    (omega (arith, length-append (before ++ bytes_of_word c.gid.result) (bytes_of_word c.count-count.result), length-append before (bytes_of_word c.gid.result), length-word c.gid.result, length-word c.count-count.result, long)) two in
    starts-as _ _ _
    (append_assoc (before ++ bytes_of_word c.gid.result) (bytes_of_word c.count-count.result) (word_bytes (columns_of e))
    ∙ append_assoc before (bytes_of_word c.gid.result) (bytes_of_word c.count-count.result ++ word_bytes (columns_of e))
    ∙ (λ t. before ++ word_bytes (c.gid.ensures.gid t ∷ c.count-count.ensures.count t ∷ columns_of e))
    ∙ ap (λ (k : Kind). before ++ word_bytes (words_for k e)) (sym c.in-Rows.is))
    three

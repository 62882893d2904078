use Rattle.std.proofs.Common.{◌≡◌, ◌≤◌, ◌∙◌, ap, sym, subst, arith, length, List, ℕ}
use Rattle.std.specs.Prelude.{count_by}
use Rattle.std.specs.List.{flat_map}
use Rattle.std.proofs.lemmas.List.{length-map}
use Rattle.map_core.specs.Plans.{export_list}
use Rattle.byte_pool.specs.Blocks.{BlockState, has_room}
use Rattle.byte_pool.specs.Leases.{Leases, IsLeastRoom, sizes}
use Rattle.distributor.specs.Entries.{entry_at}
use Rattle.distributor.specs.Transfers.{TransferState, LettersFit}
use Rattle.distributor.specs.Packed.{sent_entries, words_for, entries_letter, with_room}
use Rattle.distributor.proofs.Written.{letter-fits, length-letter, word-count, rows-words, nums-of}
use Rattle.distributor.proofs.transfer.Transfer.pack.Goals as goal

pub count_cells-cells-requires-clause-fits : goal.count_cells-cells-requires-clause-fits
count_cells-cells-requires-clause-fits g c =
    let list = c.exports_to-list.result.now in
    let es = sent_entries (g.A.DistSource.entries c.args.source.now) list in
    let ls : list ≡ export_list c.args.self.now.plan c.args.to = c.exports_to-list.ensures.sources ∙ ap (λ (s : TransferState). export_list s.plan c.args.to) c.self.view_is in
    let P : TransferState → Type 0 = LettersFit in
    let total = letter-fits g.S.Scalar.conversions g.met.S.Scalar.conversion_laws c.args.self.now (subst P c.self.view_is c.self.invariant) c.args.kind c.requires.kind c.args.to c.requires.rank (g.A.DistSource.entries c.args.source.now) c.requires.widths c.requires.fits in
    let same = ap (λ (z : List ℕ). length (entries_letter g.S.Scalar.conversions c.args.kind (sent_entries (g.A.DistSource.entries c.args.source.now) z))) ls in
    let size = length-letter g.S.Scalar.conversions g.met.S.Scalar.conversion_laws c.args.kind es in
    let count = length-map list (entry_at (g.A.DistSource.entries c.args.source.now)) in
    omega (arith, total, same, size)

pub count_words-words-requires : goal.count_words-words-requires
count_words-words-requires g c =
    let list = c.exports_to-list.result.now in
    let es = sent_entries (g.A.DistSource.entries c.args.source.now) list in
    let ls : list ≡ export_list c.args.self.now.plan c.args.to = c.exports_to-list.ensures.sources ∙ ap (λ (s : TransferState). export_list s.plan c.args.to) c.self.view_is in
    let P : TransferState → Type 0 = LettersFit in
    let total = letter-fits g.S.Scalar.conversions g.met.S.Scalar.conversion_laws c.args.self.now (subst P c.self.view_is c.self.invariant) c.args.kind c.requires.kind c.args.to c.requires.rank (g.A.DistSource.entries c.args.source.now) c.requires.widths c.requires.fits in
    let same = ap (λ (z : List ℕ). length (entries_letter g.S.Scalar.conversions c.args.kind (sent_entries (g.A.DistSource.entries c.args.source.now) z))) ls in
    let size = length-letter g.S.Scalar.conversions g.met.S.Scalar.conversion_laws c.args.kind es in
    let count = length-map list (entry_at (g.A.DistSource.entries c.args.source.now)) in
    record { fits = λ r. omega (arith, total, same, size, rows-words c.args.kind es r, count, c.count_cells-cells.ensures.cells) }

pub letter_len-len-requires : goal.letter_len-len-requires
letter_len-len-requires g c =
    let list = c.exports_to-list.result.now in
    let es = sent_entries (g.A.DistSource.entries c.args.source.now) list in
    let ls : list ≡ export_list c.args.self.now.plan c.args.to = c.exports_to-list.ensures.sources ∙ ap (λ (s : TransferState). export_list s.plan c.args.to) c.self.view_is in
    let P : TransferState → Type 0 = LettersFit in
    let total = letter-fits g.S.Scalar.conversions g.met.S.Scalar.conversion_laws c.args.self.now (subst P c.self.view_is c.self.invariant) c.args.kind c.requires.kind c.args.to c.requires.rank (g.A.DistSource.entries c.args.source.now) c.requires.widths c.requires.fits in
    let same = ap (λ (z : List ℕ). length (entries_letter g.S.Scalar.conversions c.args.kind (sent_entries (g.A.DistSource.entries c.args.source.now) z))) ls in
    let size = length-letter g.S.Scalar.conversions g.met.S.Scalar.conversion_laws c.args.kind es in
    let count = length-map list (entry_at (g.A.DistSource.entries c.args.source.now)) in
    let words : c.count_words-words.result ≡ length (flat_map (words_for c.args.kind) es) = word-count c.args.kind es c.count_words-words.result
    (λ r. omega (arith, c.count_words-words.ensures.rows r, c.count_cells-cells.ensures.cells, count)) (λ n. omega (arith, c.count_words-words.ensures.others n, count)) in
    omega (arith, total, same, size, words, c.count_cells-cells.ensures.cells)

pub make_room-requires : goal.make_room-requires
make_room-requires g c =
    let list = c.exports_to-list.result.now in
    let es = sent_entries (g.A.DistSource.entries c.args.source.now) list in
    let ls : list ≡ export_list c.args.self.now.plan c.args.to = c.exports_to-list.ensures.sources ∙ ap (λ (s : TransferState). export_list s.plan c.args.to) c.self.view_is in
    let P : TransferState → Type 0 = LettersFit in
    let total = letter-fits g.S.Scalar.conversions g.met.S.Scalar.conversion_laws c.args.self.now (subst P c.self.view_is c.self.invariant) c.args.kind c.requires.kind c.args.to c.requires.rank (g.A.DistSource.entries c.args.source.now) c.requires.widths c.requires.fits in
    let same = ap (λ (z : List ℕ). length (entries_letter g.S.Scalar.conversions c.args.kind (sent_entries (g.A.DistSource.entries c.args.source.now) z))) ls in
    let size = length-letter g.S.Scalar.conversions g.met.S.Scalar.conversion_laws c.args.kind es in
    let count = length-map list (entry_at (g.A.DistSource.entries c.args.source.now)) in
    let words : c.count_words-words.result ≡ length (flat_map (words_for c.args.kind) es) = word-count c.args.kind es c.count_words-words.result
    (λ r. omega (arith, c.count_words-words.ensures.rows r, c.count_cells-cells.ensures.cells, count)) (λ n. omega (arith, c.count_words-words.ensures.others n, count)) in
    let len : c.letter_len-len.result ≡ length (entries_letter g.S.Scalar.conversions c.args.kind (sent_entries (g.A.DistSource.entries c.args.source.now) (export_list c.args.self.now.plan c.args.to))) = omega (arith, c.letter_len-len.ensures, words, c.count_cells-cells.ensures.cells, size, same) in
    let Q : ℕ → Type 0 = λ n. 1 ≤ count_by (has_room n) c.args.pool.now in
    record { room = λ n. subst Q (sym len) (c.requires.room (nums-of c.args.self.now.width c.args.kind c.requires.kind n)) }

pub lend_letter-requires-clause-words : goal.lend_letter-requires-clause-words
lend_letter-requires-clause-words g c =
    let list = c.exports_to-list.result.now in
    let es = sent_entries (g.A.DistSource.entries c.args.source.now) list in
    let ls : list ≡ export_list c.args.self.now.plan c.args.to = c.exports_to-list.ensures.sources ∙ ap (λ (s : TransferState). export_list s.plan c.args.to) c.self.view_is in
    let P : TransferState → Type 0 = LettersFit in
    let total = letter-fits g.S.Scalar.conversions g.met.S.Scalar.conversion_laws c.args.self.now (subst P c.self.view_is c.self.invariant) c.args.kind c.requires.kind c.args.to c.requires.rank (g.A.DistSource.entries c.args.source.now) c.requires.widths c.requires.fits in
    let same = ap (λ (z : List ℕ). length (entries_letter g.S.Scalar.conversions c.args.kind (sent_entries (g.A.DistSource.entries c.args.source.now) z))) ls in
    let size = length-letter g.S.Scalar.conversions g.met.S.Scalar.conversion_laws c.args.kind es in
    let count = length-map list (entry_at (g.A.DistSource.entries c.args.source.now)) in
    let words : c.count_words-words.result ≡ length (flat_map (words_for c.args.kind) es) = word-count c.args.kind es c.count_words-words.result
    (λ r. omega (arith, c.count_words-words.ensures.rows r, c.count_cells-cells.ensures.cells, count)) (λ n. omega (arith, c.count_words-words.ensures.others n, count)) in
    words

pub returns-clause-least : goal.returns-clause-least
returns-clause-least g c =
    let list = c.exports_to-list.result.now in
    let es = sent_entries (g.A.DistSource.entries c.args.source.now) list in
    let ls : list ≡ export_list c.args.self.now.plan c.args.to = c.exports_to-list.ensures.sources ∙ ap (λ (s : TransferState). export_list s.plan c.args.to) c.self.view_is in
    let P : TransferState → Type 0 = LettersFit in
    let total = letter-fits g.S.Scalar.conversions g.met.S.Scalar.conversion_laws c.args.self.now (subst P c.self.view_is c.self.invariant) c.args.kind c.requires.kind c.args.to c.requires.rank (g.A.DistSource.entries c.args.source.now) c.requires.widths c.requires.fits in
    let same = ap (λ (z : List ℕ). length (entries_letter g.S.Scalar.conversions c.args.kind (sent_entries (g.A.DistSource.entries c.args.source.now) z))) ls in
    let size = length-letter g.S.Scalar.conversions g.met.S.Scalar.conversion_laws c.args.kind es in
    let count = length-map list (entry_at (g.A.DistSource.entries c.args.source.now)) in
    let words : c.count_words-words.result ≡ length (flat_map (words_for c.args.kind) es) = word-count c.args.kind es c.count_words-words.result
    (λ r. omega (arith, c.count_words-words.ensures.rows r, c.count_cells-cells.ensures.cells, count)) (λ n. omega (arith, c.count_words-words.ensures.others n, count)) in
    let len : c.letter_len-len.result ≡ length (entries_letter g.S.Scalar.conversions c.args.kind (sent_entries (g.A.DistSource.entries c.args.source.now) (export_list c.args.self.now.plan c.args.to))) = omega (arith, c.letter_len-len.ensures, words, c.count_cells-cells.ensures.cells, size, same) in
    let Q : List BlockState → Type 0 = λ p. IsLeastRoom c.letter_len-len.result p c.lend_letter.result in
    let R : ℕ → Type 0 = λ n. IsLeastRoom n (with_room c.args.kind n c.args.pool.now) c.lend_letter.result in
    subst R len (subst Q c.in_ok-make_room.ensures.pool c.lend_letter.ensures.least)

pub returns-clause-fresh : goal.returns-clause-fresh
returns-clause-fresh g c = ap (λ (live : Leases). live c.lend_letter.result) (sym c.make_room.ensures.leases) ∙ c.lend_letter.ensures.fresh

pub returns-clause-sizes : goal.returns-clause-sizes
returns-clause-sizes g c =
    let list = c.exports_to-list.result.now in
    let es = sent_entries (g.A.DistSource.entries c.args.source.now) list in
    let ls : list ≡ export_list c.args.self.now.plan c.args.to = c.exports_to-list.ensures.sources ∙ ap (λ (s : TransferState). export_list s.plan c.args.to) c.self.view_is in
    let P : TransferState → Type 0 = LettersFit in
    let total = letter-fits g.S.Scalar.conversions g.met.S.Scalar.conversion_laws c.args.self.now (subst P c.self.view_is c.self.invariant) c.args.kind c.requires.kind c.args.to c.requires.rank (g.A.DistSource.entries c.args.source.now) c.requires.widths c.requires.fits in
    let same = ap (λ (z : List ℕ). length (entries_letter g.S.Scalar.conversions c.args.kind (sent_entries (g.A.DistSource.entries c.args.source.now) z))) ls in
    let size = length-letter g.S.Scalar.conversions g.met.S.Scalar.conversion_laws c.args.kind es in
    let count = length-map list (entry_at (g.A.DistSource.entries c.args.source.now)) in
    let words : c.count_words-words.result ≡ length (flat_map (words_for c.args.kind) es) = word-count c.args.kind es c.count_words-words.result
    (λ r. omega (arith, c.count_words-words.ensures.rows r, c.count_cells-cells.ensures.cells, count)) (λ n. omega (arith, c.count_words-words.ensures.others n, count)) in
    let len : c.letter_len-len.result ≡ length (entries_letter g.S.Scalar.conversions c.args.kind (sent_entries (g.A.DistSource.entries c.args.source.now) (export_list c.args.self.now.plan c.args.to))) = omega (arith, c.letter_len-len.ensures, words, c.count_cells-cells.ensures.cells, size, same) in
    c.lend_letter.ensures.sizes ∙ ap sizes c.in_ok-make_room.ensures.pool ∙ ap (λ n. sizes (with_room c.args.kind n c.args.pool.now)) len

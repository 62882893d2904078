use Rattle.std.proofs.Common.{◌≡◌, ◌∙◌, ap, sym, length, Some, None, Option, ℕ, true, subst, refl, rules}
use Rattle.std.specs.List.{list_all}
use Rattle.map_core.specs.Plans.{remote_list}
use Rattle.letter_codec.specs.Parts.{words_of}
use Rattle.distributor.specs.Entries.{numbered}
use Rattle.distributor.specs.Transfers.{TransferState, moved_cells}
use Rattle.distributor.specs.Arrivals.{numbers_in, with_numbers, arrived_moves, IsOfKind}
use Rattle.distributor.proofs.Arrived.{length-with_numbers}
use Rattle.distributor.proofs.Absorbed.{entries-exist, entry-count, of-numbers, of-rows, rows-exist, no-memory}
use Rattle.distributor.proofs.transfer.Transfer.absorb.Goals as goal

pub returns-then-have-want-clause-entries : goal.returns-then-have-want-clause-entries
returns-then-have-want-clause-entries g c = entries-exist g.S.Scalar.conversions c.args.letter.now c.args.self.now.width c.requires.kind c.requires.parts

pub returns-then-have-want-clause-fault : goal.returns-then-have-want-clause-fault
returns-then-have-want-clause-fault g c = λ entries h.
    let ps : c.remotes_from-positions.result.now ≡ remote_list c.args.self.now.plan c.args.from = c.remotes_from-positions.ensures.targets ∙ ap (λ (s : TransferState). remote_list s.plan c.args.from) c.self.view_is in
    let count = entry-count g.S.Scalar.conversions c.args.letter.now c.args.self.now.width c.requires.kind c.entry_count-have.result c.entry_count-have.ensures entries h in
    (count, ap length ps, λ e. c.if-have-want.true (count ∙ e ∙ sym (ap length ps)))

pub combine_nums-requires-clause-taken : goal.combine_nums-requires-clause-taken
combine_nums-requires-clause-taken g c =
    let ps : c.remotes_from-positions.result.now ≡ remote_list c.args.self.now.plan c.args.from = c.remotes_from-positions.ensures.targets ∙ ap (λ (s : TransferState). remote_list s.plan c.args.from) c.self.view_is in
    let w : c.args.self.now.width ≡ Some c.in-Some.width = ap (λ (s : TransferState). s.width) (sym c.self.view_is) ∙ c.in-Some.is in
    let es = numbered c.in-Some.width (words_of c.args.letter.now.words.now) (numbers_in g.S.Scalar.conversions c.args.letter.now.numbers.now) in
    (λ t. list_all (λ cell. g.B.DistTarget.takes c.args.target.now cell.row cell.col) (moved_cells es (arrived_moves (ps t))))
    ∙ of-numbers g.S.Scalar.conversions c.args.letter.now
    (λ entries. list_all (λ cell. g.B.DistTarget.takes c.args.target.now cell.row cell.col) (moved_cells entries (arrived_moves (remote_list c.args.self.now.plan c.args.from))) ≡ true)
    c.args.self.now.width c.in-Some.width w
    (λ entries h. c.requires.taken entries h (sym (entry-count g.S.Scalar.conversions c.args.letter.now c.args.self.now.width c.requires.kind c.entry_count-have.result c.entry_count-have.ensures entries h) ∙ c.if-have-want.false ∙ ap length ps))

pub returns-in_err-combine_nums-in-Some-clause-fault : goal.returns-in_err-combine_nums-in-Some-clause-fault
returns-in_err-combine_nums-in-Some-clause-fault g c = λ entries h.
    let ps : c.remotes_from-positions.result.now ≡ remote_list c.args.self.now.plan c.args.from = c.remotes_from-positions.ensures.targets ∙ ap (λ (s : TransferState). remote_list s.plan c.args.from) c.self.view_is in
    let count = entry-count g.S.Scalar.conversions c.args.letter.now c.args.self.now.width c.requires.kind c.entry_count-have.result c.entry_count-have.ensures entries h in
    no-memory _ _ _ (sym count ∙ c.if-have-want.false ∙ ap length ps) (search rules)

pub combine_rows-requires-clause-rows : goal.combine_rows-requires-clause-rows
combine_rows-requires-clause-rows g c =
    let w : c.args.self.now.width ≡ None = ap (λ (s : TransferState). s.width) (sym c.self.view_is) ∙ c.in-None.is in
    let P : Option ℕ → Type 0 = λ o. IsOfKind o c.args.letter.now in
    let k = subst P w c.requires.kind in
    let rows = rows-exist c.args.letter.now k c.requires.parts in
    let count = entry-count g.S.Scalar.conversions c.args.letter.now None k c.entry_count-have.result c.entry_count-have.ensures (with_numbers rows.0 (numbers_in g.S.Scalar.conversions c.args.letter.now.numbers.now)) (rows.0, rows.1, refl) in
    (rows.0, rows.1, sym (length-with_numbers rows.0 (numbers_in g.S.Scalar.conversions c.args.letter.now.numbers.now)) ∙ sym count ∙ c.if-have-want.false, rows.2)

pub combine_rows-requires-clause-taken : goal.combine_rows-requires-clause-taken
combine_rows-requires-clause-taken g c = λ rows r.
    let ps : c.remotes_from-positions.result.now ≡ remote_list c.args.self.now.plan c.args.from = c.remotes_from-positions.ensures.targets ∙ ap (λ (s : TransferState). remote_list s.plan c.args.from) c.self.view_is in
    let w : c.args.self.now.width ≡ None = ap (λ (s : TransferState). s.width) (sym c.self.view_is) ∙ c.in-None.is in
    (λ t. list_all (λ cell. g.B.DistTarget.takes c.args.target.now cell.row cell.col) (moved_cells (with_numbers rows (numbers_in g.S.Scalar.conversions c.args.letter.now.numbers.now)) (arrived_moves (ps t))))
    ∙ of-rows g.S.Scalar.conversions c.args.letter.now
    (λ entries. list_all (λ cell. g.B.DistTarget.takes c.args.target.now cell.row cell.col) (moved_cells entries (arrived_moves (remote_list c.args.self.now.plan c.args.from))) ≡ true)
    c.args.self.now.width w
    (λ entries h. c.requires.taken entries h (sym (entry-count g.S.Scalar.conversions c.args.letter.now c.args.self.now.width c.requires.kind c.entry_count-have.result c.entry_count-have.ensures entries h) ∙ c.if-have-want.false ∙ ap length ps)) rows r

pub returns-in_err-combine_rows-in-None-clause-fault : goal.returns-in_err-combine_rows-in-None-clause-fault
returns-in_err-combine_rows-in-None-clause-fault g c = λ entries h.
    let ps : c.remotes_from-positions.result.now ≡ remote_list c.args.self.now.plan c.args.from = c.remotes_from-positions.ensures.targets ∙ ap (λ (s : TransferState). remote_list s.plan c.args.from) c.self.view_is in
    let count = entry-count g.S.Scalar.conversions c.args.letter.now c.args.self.now.width c.requires.kind c.entry_count-have.result c.entry_count-have.ensures entries h in
    no-memory _ _ _ (sym count ∙ c.if-have-want.false ∙ ap length ps) (search rules)

pub returns-in_ok-combine_nums-in-Some-clause-same_count : goal.returns-in_ok-combine_nums-in-Some-clause-same_count
returns-in_ok-combine_nums-in-Some-clause-same_count g c = λ entries h.
    let ps : c.remotes_from-positions.result.now ≡ remote_list c.args.self.now.plan c.args.from = c.remotes_from-positions.ensures.targets ∙ ap (λ (s : TransferState). remote_list s.plan c.args.from) c.self.view_is in
    let count = entry-count g.S.Scalar.conversions c.args.letter.now c.args.self.now.width c.requires.kind c.entry_count-have.result c.entry_count-have.ensures entries h in
    sym count ∙ c.if-have-want.false ∙ ap length ps

pub returns-in_ok-combine_rows-in-None-clause-same_count : goal.returns-in_ok-combine_rows-in-None-clause-same_count
returns-in_ok-combine_rows-in-None-clause-same_count g c = λ entries h.
    let ps : c.remotes_from-positions.result.now ≡ remote_list c.args.self.now.plan c.args.from = c.remotes_from-positions.ensures.targets ∙ ap (λ (s : TransferState). remote_list s.plan c.args.from) c.self.view_is in
    let count = entry-count g.S.Scalar.conversions c.args.letter.now c.args.self.now.width c.requires.kind c.entry_count-have.result c.entry_count-have.ensures entries h in
    sym count ∙ c.if-have-want.false ∙ ap length ps

use Rattle.std.proofs.Common.{◌≡◌, false, List, ℕ, Option, length, sym, subst, ◌∙◌}
use Rattle.std.specs.List.{flat_map}
use Rattle.tables.specs.Indices.{AreDistinct}
use Rattle.map_core.specs.Classes.{indices_at}
use Rattle.map_core.specs.Plans.{remote_list}
use Rattle.letter_codec.specs.declared.kind.Kind.TheVariants.{Rows}
use Rattle.distributor.specs.declared.fault.AbsorbFault.{AbsorbFault}
use Rattle.distributor.specs.Arrivals.{IsFaultOf, IsOfKind, arrived_moves}
use Rattle.distributor.specs.Entries.{with_cells}
use Rattle.distributor.specs.Transfers.{IsPartOf, moved_cells}
use Rattle.distributor.proofs.Absorbed.{of-rows}
use Rattle.crs_matrix.specs.Rows.{local_table}
use Rattle.model_defs.specs.Letters.{row_words}
use Rattle.matrix_moves.proofs.Came.{absorbed, are, arrived-taken, count-entries, entries, part-absorbed, rows}
use Rattle.matrix_moves.proofs.moving.absorb.Goals as goal

pub unreachable-requires : goal.unreachable-requires
unreachable-requires g c =
    let come = c.requires.letter in
    c.in_default.ensures.read Rows (flat_map (row_words come.places come.width) (indices_at c.args.target.now.rows (remote_list c.args.transfer.now.plan c.args.from))) come.numbers come.letter come.whole

pub absorb-requires-clause-kind : goal.absorb-requires-clause-kind
absorb-requires-clause-kind g c =
    let come = c.requires.letter in
    let read = c.in-Some.ensures.read Rows (flat_map (row_words come.places come.width) (indices_at c.args.target.now.rows (remote_list c.args.transfer.now.plan c.args.from))) come.numbers come.letter come.whole in
    let P : Option ℕ → Type 0 = λ o. IsOfKind o c.in-Some.letter in
    subst P (sym c.requires.of_rows) read.0

pub absorb-requires-clause-taken : goal.absorb-requires-clause-taken
absorb-requires-clause-taken g c = λ es has many. arrived-taken es c.args.target.now (remote_list c.args.transfer.now.plan c.args.from) c.requires.targets

pub returns-in-Ok-clause-table : goal.returns-in-Ok-clause-table
returns-in-Ok-clause-table g c = λ come.
    let F = g.S.Scalar.conversions in
    let R = g.S.Scalar.semiring in
    let y = c.args.target.now in
    let new = c.absorb.new.target in
    let tos = remote_list c.args.transfer.now.plan c.args.from in
    let read = c.in-Some.ensures.read Rows (flat_map (row_words come.places come.width) (indices_at y.rows tos)) come.numbers come.letter come.whole in
    let D : List ℕ → Type 0 = AreDistinct in
    absorbed F c.args.bytes.now y tos come c.in-Some.letter read R c.args.mode new
    (subst D (c.deref.ensures ∙ c.row_map.ensures.rows) c.len.ensures.distinct) c.requires.targets c.requires.once c.in-Ok.ensures.shape
    (of-rows F c.in-Some.letter (λ es. local_table new ≡ with_cells R c.args.mode false (local_table y) (moved_cells es (arrived_moves tos)))
    c.args.transfer.now.width c.requires.of_rows c.in-Ok.ensures.cells
    (rows F c.args.bytes.now y tos come c.in-Some.letter read) (are F c.args.bytes.now y tos come c.in-Some.letter read))

pub returns-in-Err-NoMem-clause-part : goal.returns-in-Err-NoMem-clause-part
returns-in-Err-NoMem-clause-part g c = λ come.
    let F = g.S.Scalar.conversions in
    let R = g.S.Scalar.semiring in
    let y = c.args.target.now in
    let new = c.absorb.new.target in
    let tos = remote_list c.args.transfer.now.plan c.args.from in
    let read = c.in-Some.ensures.read Rows (flat_map (row_words come.places come.width) (indices_at y.rows tos)) come.numbers come.letter come.whole in
    let D : List ℕ → Type 0 = AreDistinct in
    part-absorbed F c.args.bytes.now y tos come c.in-Some.letter read R c.args.mode new
    (subst D (c.deref.ensures ∙ c.row_map.ensures.rows) c.len.ensures.distinct) c.requires.targets c.requires.once c.in-Err-NoMem.ensures.shape
    (of-rows F c.in-Some.letter (λ es. IsPartOf R c.args.mode false (local_table y) (moved_cells es (arrived_moves tos)) (local_table new))
    c.args.transfer.now.width c.requires.of_rows c.in-Err-NoMem.ensures.part
    (rows F c.args.bytes.now y tos come c.in-Some.letter read) (are F c.args.bytes.now y tos come c.in-Some.letter read))

pub unreachable-requires-in-Err-NotThePlan : goal.unreachable-requires-in-Err-NotThePlan
unreachable-requires-in-Err-NotThePlan g c =
    let F = g.S.Scalar.conversions in
    let come = c.requires.letter in
    let y = c.args.target.now in
    let tos = remote_list c.args.transfer.now.plan c.args.from in
    let read = c.in-Some.ensures.read Rows (flat_map (row_words come.places come.width) (indices_at y.rows tos)) come.numbers come.letter come.whole in
    let es = entries F c.args.bytes.now y tos come c.in-Some.letter read in
    let Q : AbsorbFault → Type 0 = IsFaultOf (length es) (length tos) in
    let fault = subst Q c.in-Err-NotThePlan.field-0-is
    (of-rows F c.in-Some.letter (λ zs. IsFaultOf (length zs) (length tos) c.in-Err-NotThePlan.field-0) c.args.transfer.now.width c.requires.of_rows c.in-Err-NotThePlan.ensures.fault
    (rows F c.args.bytes.now y tos come c.in-Some.letter read) (are F c.args.bytes.now y tos come c.in-Some.letter read)) in
    fault.2 (count-entries F c.args.bytes.now y tos come c.in-Some.letter read)

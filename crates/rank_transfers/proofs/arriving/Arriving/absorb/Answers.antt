use Rattle.std.proofs.Common.{◌≡◌, ℕ, true, List, [], ◌∷◌, length, sym, ap, subst}
use Rattle.tables.specs.Indices.{AreDistinct}
use Rattle.map_core.specs.Classes.{indices_at}
use Rattle.map_core.specs.Plans.{PlanLists, remote_list}
use Rattle.combine_modes.specs.Modes.{gathered}
use Rattle.letter_codec.specs.declared.kind.Kind.TheVariants.{Nums}
use Rattle.letter_codec.specs.Letters.{IsLetter, letter_bytes}
use Rattle.rank_values.specs.Vectors.{global_table}
use Rattle.vector_moves.specs.Moves.{IsMoveFault, IsRowsLetter}
use Rattle.vector_moves.specs.Rows.{by_index, rows_of, letter_vector}
use Rattle.rank_transfers.specs.Arrivals.{ArrivingState, after_table, numbers_table, rows_from}
use Rattle.rank_transfers.proofs.Came.{absorbed-table, no-fault}
use Rattle.rank_transfers.proofs.arriving.Arriving.absorb.Goals as goal

pub unreachable-requires : goal.unreachable-requires
unreachable-requires g c =
    let own = c.self.inside in
    let plan = ap (λ t. t.plan) c.self.invariant.transfer_is in
    let L : ArrivingState _ → Type 0 = λ a. IsRowsLetter a.vector.columns c.args.bytes.now (rows_from a.plan a.vector.map c.args.from) in
    let P : PlanLists → Type 0 = λ p. IsMoveFault own.vector.columns c.args.bytes.now (length (remote_list p c.args.from)) c.in-Err.field-0 in
    no-fault own.vector.columns c.args.bytes.now own.vector.map (remote_list own.plan c.args.from) c.in-Err.field-0
    (subst P plan c.in-Err.ensures.fault) (subst L (sym c.self.view_is) c.requires.letter)

pub returns-clause-rows : goal.returns-clause-rows
returns-clause-rows g c =
    let own = c.self.inside in
    let R = g.S.Scalar.semiring in
    let F = g.S.Scalar.conversions in
    let new = c.absorb.new.y in
    let bytes = c.args.bytes.now in
    let from = c.args.from in
    let plan = ap (λ t. t.plan) c.self.invariant.transfer_is in
    let Q : PlanLists → Type 0 = λ p. (words numbers : List ℕ) → IsLetter Nums words numbers → bytes ≡ letter_bytes Nums words numbers → AreDistinct (remote_list p from)
    → by_index new ≡ gathered R own.mode true (by_index own.vector) (rows_of (letter_vector F own.vector (remote_list p from) numbers) (indices_at own.vector.map (remote_list p from)) ∷ []) in
    let P : ArrivingState _ → Type 0 = λ a. (letter : IsRowsLetter a.vector.columns bytes (rows_from a.plan a.vector.map from))
    → global_table new ≡ after_table R a.mode (global_table a.vector) (numbers_table F a.vector.columns (rows_from a.plan a.vector.map from) letter.numbers) in
    subst P c.self.view_is
    (absorbed-table F R own.mode own.vector new (remote_list own.plan from) bytes (subst Q plan c.in-Ok.ensures.letter) (c.self.invariant.targets.once from))

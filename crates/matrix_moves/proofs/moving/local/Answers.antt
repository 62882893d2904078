use Rattle.std.proofs.Common.{List, ℕ, ◌∙◌, subst}
use Rattle.std.proofs.lemmas.Result.{on_ok_weaker}
use Rattle.tables.specs.Indices.{AreDistinct}
use Rattle.matrix_moves.proofs.Given.{own-known, own-table, own-taken}
use Rattle.matrix_moves.proofs.moving.local.Goals as goal

pub local-requires-clause-known : goal.local-requires-clause-known
local-requires-clause-known g c = own-known (g.A.DistSource.entries c.args.source.now) c.args.target.now c.args.transfer.now.plan c.requires.moves

pub local-requires-clause-taken : goal.local-requires-clause-taken
local-requires-clause-taken g c = own-taken (g.A.DistSource.entries c.args.source.now) c.args.target.now c.args.transfer.now.plan c.requires.moves

pub returns-clause-table : goal.returns-clause-table
returns-clause-table g c =
    let D : List ℕ → Type 0 = AreDistinct in
    on_ok_weaker c.local.result
    (own-table (g.A.DistSource.entries c.args.source.now) c.args.target.now c.args.transfer.now.plan c.requires.moves c.requires.source
    g.S.Scalar.semiring c.args.mode c.local.new.target (subst D (c.deref.ensures ∙ c.row_map.ensures.rows) c.len.ensures.distinct) c.local.ensures.shape)
    c.local.ensures.cells

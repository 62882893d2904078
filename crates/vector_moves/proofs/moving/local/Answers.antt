use Rattle.std.proofs.Common.{◌≡◌, List, ℕ, ◌∙◌, subst}
use Rattle.tables.specs.Indices.{AreDistinct}
use Rattle.vector_moves.proofs.Sent.{own-known, own-taken, own-rows}
use Rattle.vector_moves.proofs.moving.local.Goals as goal

pub local-requires-clause-known : goal.local-requires-clause-known
local-requires-clause-known g c = own-known c.args.x.now c.args.y.now c.args.transfer.now.plan c.map.ensures.is_vector c.requires.moves

pub local-requires-clause-taken : goal.local-requires-clause-taken
local-requires-clause-taken g c = own-taken c.args.x.now c.args.y.now c.args.transfer.now.plan c.map.ensures.is_vector c.requires.moves c.requires.columns

pub returns-clause-rows : goal.returns-clause-rows
returns-clause-rows g c =
    let P : List ℕ → Type 0 = AreDistinct in
    own-rows c.args.x.now c.args.y.now c.args.transfer.now.plan c.map.ensures.is_vector c.requires.moves g.S.Scalar.semiring c.args.mode c.local.new.target
    (subst P (c.deref.ensures ∙ c.map.ensures.map) c.len.ensures.distinct) (subst P (c.deref-2.ensures ∙ c.map-2.ensures.map) c.len-2.ensures.distinct) c.in-Ok.ensures.shape.0 c.in-Ok.ensures.cells

use Rattle.std.proofs.Common.{◌≡◌, ◌<◌, [], length, get_or, subst, sym, ap, ◌∙◌, arith}
use Rattle.std.proofs.lemmas.List.{get_or_default}
use Rattle.rank_share.specs.Shares.{cell_count}
use Rattle.rank_pieces.proofs.Makers.{rows-known}
use Rattle.rank_pieces.proofs.OwnPieces.{given-read, share-many}
use Rattle.rank_pieces.proofs.making.given_piece.Goals as goal

pub own_map-requires-clause-known : goal.own_map-requires-clause-known
own_map-requires-clause-known g c =
    subst (λ r. r < length c.args.job.now.maps) (sym c.requires.map) (rows-known c.args.job.now c.requires.input.1.valid c.args.k c.requires.known)

pub bounds-as_slice-k : goal.bounds-as_slice-k
bounds-as_slice-k g c =
    let input = c.requires.input in
    let many : length c.as_slice.result.now ≡ cell_count c.args.job.now =
    ap length c.as_slice.ensures.items ∙ ap (λ s. length s.cells) input.1.given ∙ share-many c.args.job.now input.0 c.args.me in
    let low = c.requires.known in
    omega arith

pub returns : goal.returns
returns g c =
    let first = c.requires.input in
    let many : length c.args.share.now.cells ≡ cell_count c.args.job.now = ap (λ s. length s.cells) first.1.given ∙ share-many c.args.job.now first.0 c.args.me in
    let low : c.args.k < length c.args.share.now.cells = (let known = c.requires.known in omega arith) in
    record {
      piece = λ files given input.
          given-read g.S.Scalar.semiring g.S.Scalar.conversions c.args.job.now files c.args.me given c.args.share.now input c.args.k c.args.m c.args.columns
          c.in_ok-map.map.value c.as_slice-2.result.now c.in_ok-vector.vector c.requires.known c.requires.map c.requires.columns c.in_ok-map.ensures.list
          (c.as_slice-2.ensures.items ∙ c.index-as_slice-k.is ∙ ap (λ xs. get_or xs c.args.k c.index-as_slice-k.result) c.as_slice.ensures.items ∙ get_or_default c.args.share.now.cells c.args.k c.index-as_slice-k.result [] low)
          c.in_ok-vector.ensures.map c.in_ok-vector.ensures.columns c.in_ok-vector.ensures.cells;
    }

use Rattle.std.proofs.Common.{◌≡◌, ◌<◌, length, get_or, ap, ◌∙◌, arith, rules}
use Rattle.rank_pieces.proofs.DealtLines.{places-are, places-many}
use Rattle.rank_pieces.proofs.Makers.{given-matrix}
use Rattle.rank_pieces.proofs.dealt.lines_of.Goals as goal

pub place_of-at-requires : goal.place_of-at-requires
place_of-at-requires g c =
    let stands = given-matrix c.args.job.now c.args.k c.requires.matrix.0 c.requires.matrix.1 in
    let at = stands.1 in
    record { behind = omega arith }

pub bounds-as_slice-at : goal.bounds-as_slice-at
bounds-as_slice-at g c =
    let input = c.requires.input in
    let stands = given-matrix c.args.job.now c.args.k c.requires.matrix.0 c.requires.matrix.1 in
    let at = stands.1 in
    let low = stands.2 in
    let here = c.place_of-at.ensures.place in
    let many : length c.as_slice.result.now ≡ length c.args.job.now.matrices = ap length c.as_slice.ensures.items ∙ places-many g.S.Scalar.conversions c.args.job.now input.0 c.args.me c.args.share.now input.1 in
    omega arith

pub offset_bounds-as_slice-at : goal.offset_bounds-as_slice-at
offset_bounds-as_slice-at g c =
    let input = c.requires.input in
    let stands = given-matrix c.args.job.now c.args.k c.requires.matrix.0 c.requires.matrix.1 in
    let at = stands.1 in
    let few = stands.2 in
    let here = c.place_of-at.ensures.place in
    let many : length c.as_slice.result.now ≡ length c.args.job.now.matrices = ap length c.as_slice.ensures.items ∙ places-many g.S.Scalar.conversions c.args.job.now input.0 c.args.me c.args.share.now input.1 in
    let low : c.place_of-at.result < length c.as_slice.result.now = omega arith in
    search rules

pub returns : goal.returns
returns g c = record {
  lines = λ files input.
      let stands = given-matrix c.args.job.now c.args.k c.requires.matrix.0 c.requires.matrix.1 in
      let at = stands.1 in
      let low = stands.2 in
      let here = c.place_of-at.ensures.place in
      let same : c.place_of-at.result ≡ stands.0 = omega arith in
      c.as_slice-2.ensures.items
      ∙ c.index-as_slice-at.is
      ∙ ap (λ xs. get_or xs c.place_of-at.result c.index-as_slice-at.result) c.as_slice.ensures.items
      ∙ places-are g.S.Scalar.conversions c.args.job.now files c.args.me c.args.share.now input c.args.k c.place_of-at.result c.index-as_slice-at.result here (omega arith);
}

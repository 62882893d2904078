use Rattle.std.proofs.Common.{rules}
use Rattle.std.proofs.lemmas.List.Sorted.{answers_always}
use Rattle.crs_matrix.proofs.RowPlaces.{searched}
use Rattle.crs_matrix.proofs.places.find_place.Goals as goal

-- the closure gives the column of a place
pub returns : goal.returns
returns c =
    let facts = c.binary_search_by_key.ensures in
    let there = searched c.args.places.now c.requires.ascending c.args.col _ facts.bound (facts.position (λ p. p.col) (answers_always _ _ _ (λ f a r g called. search rules))) in
    record { found = there.found; gap = there.gap }

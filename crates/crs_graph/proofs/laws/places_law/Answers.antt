use Rattle.crs_graph.proofs.Places.{has_place-with_place}
use Rattle.crs_graph.proofs.laws.places_law.Goals as goal

pub returns : goal.returns
returns c = record { places = has_place-with_place }

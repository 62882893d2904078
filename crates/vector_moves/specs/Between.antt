-- The plans of imports and exports move rows between the lists of their ranks.
use Rattle.std.specs.Prelude.{◌≡◌, ℕ, ◌<◌, List, Option, Some, None}
use Rattle.tables.specs.Indices.{AreDistinct}
use Rattle.map_core.specs.Classes.{first_lacked, lacked_of_each}
use Rattle.map_core.specs.Plans.{export_list, remote_list}
use Rattle.import_plan.specs.Imports.{Import, import_lists, want_of, wanted_from}
use Rattle.export_plan.specs.Exports.{Export, export_lists, offer_of, offered_to}
use Rattle.vector_moves.specs.Moves.{AreMoves, own_sources, own_targets}

-- What stays on the rank of an import moves from its source list to its target list.
abbrev pub ImportsMoveTheirOwn : Type 0
ImportsMoveTheirOwn = (i : Import) → AreMoves i.source i.target (own_sources (import_lists i)) (own_targets (import_lists i))

-- Where rank p has accepted what rank q wants of it, all of which p's source holds, what p sends to q moves from p's source
-- list to q's target list.
abbrev pub WantsAreMoved : Type 0
WantsAreMoved =
    (p q : Import) (owners : List (Option ℕ)) → AreDistinct q.target → q.wanted ≡ lacked_of_each q.ranks q.source q.target owners
    → p.me < q.ranks → want_of p q.me ≡ Some (wanted_from q p.me) → first_lacked p.source (wanted_from q p.me) ≡ None
    → AreMoves p.source q.target (export_list (import_lists p) q.me) (remote_list (import_lists q) p.me)

-- The same of exports: what stays on the rank moves from its source list to its target list.
abbrev pub ExportsMoveTheirOwn : Type 0
ExportsMoveTheirOwn = (e : Export) → AreDistinct e.source → AreMoves e.source e.target (own_sources (export_lists e)) (own_targets (export_lists e))

-- Where rank q has accepted what rank p offers to it, all of which q's target holds, what p sends to q moves from p's source
-- list to q's target list.
abbrev pub OffersAreMoved : Type 0
OffersAreMoved =
    (p q : Export) (owners : List (Option ℕ)) → AreDistinct p.source → p.offered ≡ lacked_of_each p.ranks p.target p.source owners
    → q.me < p.ranks → offer_of q p.me ≡ Some (offered_to p q.me) → first_lacked q.target (offered_to p q.me) ≡ None
    → AreMoves p.source q.target (export_list (export_lists p) q.me) (remote_list (export_lists q) p.me)

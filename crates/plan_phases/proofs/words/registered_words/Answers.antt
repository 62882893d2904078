use Rattle.std.proofs.Common.{◌≡◌, get_or, sym, ap, ◌∙◌}
use Rattle.model_defs.specs.Maps.{map_at}
use Rattle.rank_share.proofs.Maps.{map-read}
use Rattle.plan_phases.proofs.WordsStage.{list-below}
use Rattle.plan_phases.proofs.words.registered_words.Goals as goal

pub register_words-requires-clause-below : goal.register_words-requires-clause-below
register_words-requires-clause-below c =
    let job = c.args.job.now in
    let spec = c.index-as_slice-map.result in
    let maps = c.as_slice.result.now in
    let read : map_at job c.args.map ≡ spec = map-read job c.args.map maps spec c.requires.known c.as_slice.ensures.items c.index-as_slice-map.is in
    list-below job c.args.map c.me.result (get_or maps c.args.map spec).size c.deref.result.now c.requires.valid (c.deref.ensures ∙ c.in_ok-own.ensures.list)
    (ap (λ m. m.size) (sym c.index-as_slice-map.is ∙ sym read))

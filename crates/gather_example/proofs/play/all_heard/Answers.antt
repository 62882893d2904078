use Rattle.std.proofs.Common.{◌≡◌, ◌∙◌, ◌++◌, ◌∷◌, [], ℕ, ap, sym, map, arith}
use Rattle.std.proofs.lemmas.List.{map-append}
use Rattle.std.proofs.lemmas.List.FromFn.{map-range_with_len_more}
use Rattle.std.proofs.lemmas.Option.{slice_get-get_or}
use Rattle.std.specs.Prelude.{Some}
use Rattle.std.specs.Global.{Vec}
use Rattle.gather_example.specs.Gathers.{heard}
use Rattle.gather_example.proofs.play.all_heard.Goals as goal

pub loop-rank-preserved : goal.loop-rank-preserved
loop-rank-preserved c = λ states each worked.
    let i = c.loop-rank.rank-index in
    let there = slice_get-get_or c.args.ranks.now i c.rank-item.result c.loop-rank-test.true ∙ ap Some (sym c.rank-item.is) in
    let here : c.in_ok-heard_of.field-0.items ≡ heard (states i).me (states i).given = c.in_ok-heard_of.ensures (states i) (each i c.rank-item.result there) (worked i) in
    ap (map (λ (w : Vec ℕ). w.items)) c.in_ok-push.ensures.items
    ∙ map-append (λ (w : Vec ℕ). w.items) c.loop-rank.all.items (c.in_ok-heard_of.field-0 ∷ [])
    ∙ (λ j. c.loop-rank.invariant states each worked j ++ here j ∷ [])
    ∙ sym (map-range_with_len_more (λ r. heard (states r).me (states r).given) 0 i i (omega arith))

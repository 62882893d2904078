use Rattle.std.proofs.Common.{◌+◌, ◌%◌, ap, ◌∙◌}
use Rattle.std.specs.Prelude.{pos}
use Rattle.mm_text.specs.declared.file_data.Line.{Line}
use Rattle.std.proofs.Math.Nat.{mod-add-mod}
use Rattle.rank_share.specs.Shares.{entry_lines}
use Rattle.rank_share.proofs.Turns.{places-more, places-same}
use Rattle.rank_share.proofs.places.dealt_places.Goals as goal
use Rattle.rank_share.proofs.places.dealt_places.Goals.{then-turn-me+in_ok-add_places, else-turn-me}

no_line : Line
no_line = record { row = 0; col = 0; value = pos 0 }

pub loop-line-preserved : goal.loop-line-preserved
unfolding no_line
loop-line-preserved c = record {
  rank = c.next_turn-turn.ensures.rank;
  turn = c.next_turn-turn.ensures.next ∙ ap (λ n. (n + 1) % c.args.ranks) c.loop-line.invariant.turn ∙ mod-add-mod c.loop-line.line-index c.args.ranks 1;
  places = elim c.if-turn-me.branch [
    | then-turn-me+in_ok-add_places w ↦
        places-more (entry_lines c.args.file.now.mirror) c.args.ranks c.args.me c.loop-line.line-index c.loop-line.turn c.deref-line-items.result.now no_line c.loop-line.places.items c.if-turn-me.places.items
        c.loop-line-test.true c.loop-line.invariant.turn c.loop-line.invariant.places w.if-turn-me.true (ap (λ v. v.items) w.places-is ∙ w.in_ok-add_places.ensures.places)
    | else-turn-me w ↦
        ap (λ v. v.items) w.places-is
        ∙ places-same (entry_lines c.args.file.now.mirror) c.args.ranks c.args.me c.loop-line.line-index c.loop-line.turn c.deref-line-items.result.now no_line c.loop-line.places.items
        c.loop-line-test.true c.loop-line.invariant.turn c.loop-line.invariant.places w.if-turn-me.false
  ];
}

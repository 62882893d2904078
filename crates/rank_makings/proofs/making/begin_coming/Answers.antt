use Rattle.std.proofs.Common.{inl, inr, refl, sym, ap, ◌∙◌}
use Rattle.phase_list.specs.Seen.{maker_seen}
use Rattle.rank_makings.proofs.Makings.{none-sends, sends-apply, sends-copy, sends-made, sends-rows}
use Rattle.rank_makings.proofs.making.begin_coming.Goals as goal

pub begin_apply-requires-clause-kind : goal.begin_apply-requires-clause-kind
begin_apply-requires-clause-kind g c =
    let can = c.requires.can.1.1 in
    sends-apply (can.at.kinds.senders c.args.k c.args.stage can.phase can.sends) (sym c.is_applied.ensures.apply ∙ c.if-is_applied.true)

pub begin_made-requires-clause-kind : goal.begin_made-requires-clause-kind
begin_made-requires-clause-kind g c =
    let can = c.requires.can.1.1 in
    sends-made (can.at.kinds.senders c.args.k c.args.stage can.phase can.sends) (sym c.is_made_matrix.ensures.made ∙ c.if-is_made_matrix.true)

pub begin_assembled-requires-clause-kind : goal.begin_assembled-requires-clause-kind
begin_assembled-requires-clause-kind g c =
    let can = c.requires.can.1.1 in
    sends-rows (can.at.kinds.senders c.args.k c.args.stage can.phase can.sends) _ c.in-Matrix.ensures

pub begin_copy-requires-clause-kind : goal.begin_copy-requires-clause-kind
begin_copy-requires-clause-kind g c =
    let can = c.requires.can.1.1 in
    sends-copy (can.at.kinds.senders c.args.k c.args.stage can.phase can.sends) (sym c.is_applied.ensures.apply ∙ c.if-is_applied.false) (sym c.is_made_matrix.ensures.made ∙ c.if-is_made_matrix.false) _ c.in-Statement.ensures

pub unreachable-requires : goal.unreachable-requires
unreachable-requires g c =
    let can = c.requires.can.1.1 in
    let sender = can.at.kinds.senders c.args.k c.args.stage can.phase can.sends in
    let no = sym c.is_applied.ensures.apply ∙ c.if-is_applied.false in
    let old = sym c.is_made_matrix.ensures.made ∙ c.if-is_made_matrix.false in
    elim c.in-Vector.is [
      | inl (spec, is) ↦ none-sends sender no old _ (sym c.maker_at.ensures ∙ ap maker_seen is) refl refl
      | inr (inl (spec, is)) ↦ none-sends sender no old _ (sym c.maker_at.ensures ∙ ap maker_seen is) refl refl
      | inr (inr is) ↦ none-sends sender no old _ (sym c.maker_at.ensures ∙ ap maker_seen is) refl refl
    ]

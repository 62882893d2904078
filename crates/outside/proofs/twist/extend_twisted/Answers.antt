use Rattle.std.proofs.Common.{◌≡◌, ap, sym, ◌∙◌, ◌++◌, append_assoc, true, false}
use Rattle.std.proofs.lemmas.Result.{on_ok_weaker}
use Rattle.outside.specs.TwistWire.{all_moved, is_data}
use Rattle.outside.proofs.Twisting.{there_if, twisted-made, twisted-other}
use Rattle.outside.proofs.twist.extend_twisted.Goals as goal

pub returns-then-not-is_data : goal.returns-then-not-is_data
returns-then-not-is_data c =
    let kind : is_data c.args.letter.now ≡ false = cc in
    there_if c.extend_from_slice.result _ _ _ _ c.extend_from_slice.ensures.items
    (ap (λ t. c.args.into.now.items ++ t) (sym (twisted-other c.args.by c.args.letter.now kind)))

pub returns : goal.returns
returns c =
    let kind : is_data c.args.letter.now ≡ true = cc in
    on_ok_weaker c.extend_moved.result
    (λ e. e ∙ ap (λ t. t ++ all_moved c.args.by c.split_at.result.1.now) c.in_ok-extend_from_slice.ensures.items
    ∙ append_assoc c.args.into.now.items c.split_at.result.0.now (all_moved c.args.by c.split_at.result.1.now)
    ∙ ap (λ t. c.args.into.now.items ++ t)
    (twisted-made c.args.by c.args.letter.now c.split_at.result.0.now c.split_at.result.1.now c.index_len.result kind
    c.index_len.ensures c.split_at.ensures.front c.split_at.ensures.back))
    c.extend_moved.ensures

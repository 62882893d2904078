use Rattle.std.proofs.Common.{◌≡◌, ℕ, ap, ◌∙◌, subst, rules}
use Rattle.std.specs.List.Sorted.{IsPermutation, IsStableByKey}
use Rattle.std.proofs.lemmas.List.Sorted.{answers_always}
use Rattle.rank_share.proofs.Sorted.{kept_lines, place_of, pair_order, cell_lines-sorted}
use Rattle.rank_share.proofs.cells.coordinate_cells.Goals as goal

pub returns : goal.returns
returns c =
    let list = c.args.map.now in
    let lines = c.args.file.now.lines.items in
    let kept : c.in_ok-lines.lines.items ≡ kept_lines list lines = c.in_ok-lines.ensures.kept ∙ ap (kept_lines list) c.deref.ensures.value in
    record {
      lines = cell_lines-sorted list c.args.columns lines c.sort_by_key.new.self.items c.len.ensures.distinct c.requires.within
          (subst (λ xs. IsPermutation xs c.sort_by_key.new.self.items) kept c.in_ok-sort_by_key.ensures.permutation)
          (c.in_ok-sort_by_key.ensures.sorted place_of (answers_always _ _ _ (λ f a r q k. search rules)))
          (subst (λ xs. IsStableByKey {K = ℕ × ℕ} place_of pair_order xs c.sort_by_key.new.self.items) kept (c.in_ok-sort_by_key.ensures.stable place_of (answers_always _ _ _ (λ f a r q k. search rules))));
    }

use Rattle.std.proofs.Common.{◌<◌, None, Some, length, sym, ap, ◌∙◌, append-nil, arith}
use Rattle.std.proofs.lemmas.Option.{slice_get-get_or}
use Rattle.rank_sim.proofs.Finished.{entries-at, finished-at}
use Rattle.rank_sim.proofs.LetterCounts.{put-line}
use Rattle.rank_sim.proofs.letters.add_line.Goals as goal

pub entries_from-requires : goal.entries_from-requires
entries_from-requires g c =
    let all = c.requires.finished in
    let low : c.args.name.to < length c.args.ranks.now = let many = all.1.1.many in let within = c.requires.receiver in omega arith in
    let there = slice_get-get_or c.args.ranks.now c.args.name.to c.index-ranks-name.result low ∙ ap (λ x. Some x) (sym c.index-ranks-name.is) in
    record { done = finished-at c.args.job.now all.0 all.1.0 c.args.ranks.now all.1.1 c.args.name.to c.index-ranks-name.result there }

pub returns-in_ok-push-in-Some : goal.returns-in_ok-push-in-Some
returns-in_ok-push-in-Some g c = record {
  lines = λ files letters all.
      let low : c.args.name.to < length c.args.ranks.now = let many = all.many in let within = c.requires.receiver in omega arith in
      let there = slice_get-get_or c.args.ranks.now c.args.name.to c.index-ranks-name.result low ∙ ap (λ x. Some x) (sym c.index-ranks-name.is) in
      let given = entries-at c.args.job.now files letters c.args.ranks.now all c.args.name.to c.args.name.phase c.args.name.«from» c.index-ranks-name.result (Some c.in-Some.entries) there c.in-Some.ensures.entries in
      put-line g.met.S.Scalar.conversion_laws c.args.job.now files letters c.args.ranks.now all c.args.name c.requires.phase c.requires.receiver (Some c.in-Some.entries) given
      c.args.lines.now.items c.push.new.self.items c.in_ok-push-in-Some.ensures.items;
}

pub returns-in-None : goal.returns-in-None
returns-in-None g c = record {
  lines = λ files letters all.
      let low : c.args.name.to < length c.args.ranks.now = let many = all.many in let within = c.requires.receiver in omega arith in
      let there = slice_get-get_or c.args.ranks.now c.args.name.to c.index-ranks-name.result low ∙ ap (λ x. Some x) (sym c.index-ranks-name.is) in
      let given = entries-at c.args.job.now files letters c.args.ranks.now all c.args.name.to c.args.name.phase c.args.name.«from» c.index-ranks-name.result None there c.in-None.ensures.entries in
      put-line g.met.S.Scalar.conversion_laws c.args.job.now files letters c.args.ranks.now all c.args.name c.requires.phase c.requires.receiver None given
      c.args.lines.now.items c.args.lines.now.items (sym (append-nil c.args.lines.now.items));
}

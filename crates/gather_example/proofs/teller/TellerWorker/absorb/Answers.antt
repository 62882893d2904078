use Rattle.std.proofs.Common.{rules, ◌≡◌, ◌∙◌, ◌++◌}
use Rattle.gather_example.proofs.Telling.{all_letters, hears_more, hears_no_more}
use Rattle.gather_example.proofs.teller.TellerWorker.absorb.Goals as goal

pub returns-in_ok-extend_from_slice : goal.returns-in_ok-extend_from_slice
returns-in_ok-extend_from_slice c = λ s is can.
    let first : c.args.name.phase ≡ 0 = search rules in
    let more : c.extend_from_slice.new.self.items ≡ c.args.self.now.heard.items ++ c.args.bytes.now = search rules in
    record {
      words = is.words;
      protocol = is.protocol;
      word = is.word;
      phases = is.phases;
      limit = is.limit;
      rank = is.rank;
      within = is.within;
      letters = all_letters c.args.self.now s c.args.name c.args.bytes.now is can;
      hears = more ∙ hears_more c.args.self.now s c.args.name c.args.bytes.now is can first;
    }

pub returns-else-name-eq0 : goal.returns-else-name-eq0
returns-else-name-eq0 c = λ s is can. record {
  words = is.words;
  protocol = is.protocol;
  word = is.word;
  phases = is.phases;
  limit = is.limit;
  rank = is.rank;
  within = is.within;
  letters = all_letters c.args.self.now s c.args.name c.args.bytes.now is can;
  hears = hears_no_more c.args.self.now s c.args.name c.args.bytes.now is can (search rules);
}

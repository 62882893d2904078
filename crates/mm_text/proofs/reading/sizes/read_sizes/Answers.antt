use Rattle.std.proofs.Common.{ap, sym, subst, ◌∙◌, IfOk, ◌≡◌, ◌*◌}
use Rattle.std.proofs.lemmas.Result.{IfOk-weaker}
use Rattle.mm_text.specs.Lines.{words_in, words_of}
use Rattle.mm_text.specs.Outcomes.{Outcome}
use Rattle.mm_text.specs.Sizes.{sizes_announced, sizes_of}
use Rattle.mm_text.specs.declared.reading.banner.Kind.TheVariants.{Dense}
use Rattle.mm_text.specs.declared.reading.sizes.Sizes.{Sizes}
use Rattle.mm_text.proofs.SizeLemmas.{sizes_cut}
use Rattle.mm_text.proofs.SoundLemmas.{sizes_good}
use Rattle.mm_text.proofs.reading.sizes.read_sizes.Goals as goal

pub returns-in-Some-clause-sizes : goal.returns-in-Some-clause-sizes
returns-in-Some-clause-sizes c =
    c.sizes_limited.ensures
    ∙ sizes_cut c.args.banner c.args.profile (sizes_announced c.args.banner.kind (words_in c.without_return.result.now)) c.in-Some.sizes
    c.in-Some.ensures c.requires.rows c.requires.cols c.requires.entries
    ∙ ap (λ line. sizes_of c.args.banner c.args.profile (words_in line)) c.without_return.ensures

pub returns-in-Some-clause-dense : goal.returns-in-Some-clause-dense
returns-in-Some-clause-dense c =
    subst (λ (r : Outcome Sizes). IfOk r (λ sizes. c.args.banner.kind ≡ Dense → sizes.count ≡ sizes.rows * sizes.cols))
    (sym (returns-in-Some-clause-sizes c))
    (IfOk-weaker (sizes_of c.args.banner c.args.profile (words_of c.args.line.now)) _ _ (λ sizes are. are.places)
    (sizes_good c.args.banner c.args.profile (words_of c.args.line.now)).holds)

use Rattle.std.proofs.Common.{◌≡◌, ◌&&◌, length, map, sym, ap, ◌∙◌}
use Rattle.std.proofs.lemmas.List.{length-map}
use Rattle.rank_plans.proofs.Known.{answered-words, some-size}
use Rattle.map_core.specs.Layouts.{stands}
use Rattle.map_core.specs.Homes.{homed}
use Rattle.model_defs.specs.Transfers.{same_plan}
use Rattle.rank_plans.specs.Answers.{answered, word_of}
use Rattle.rank_plans.specs.Books.{asked_of, directory_of, lacking_of, size_of}
use Rattle.rank_plans.proofs.book.PlanBook.begin_tell.Goals as goal

pub absorb_tell-requires-clause-each : goal.absorb_tell-requires-clause-each
absorb_tell-requires-clause-each c =
    let b = c.args.self.now in
    let plan = c.args.plan in
    let m = c.args.owner_map in
    let me : c.me-me.result ≡ b.me = c.me-me.ensures.me in
    let asked = asked_of b plan b.me in
    let words : c.deref.result.now ≡ map (λ g. word_of (directory_of b m g)) asked =
    c.deref.ensures.value ∙ c.in_ok-words.ensures.words ∙ ap (λ p. map (λ g. word_of (directory_of b m g)) (asked_of b plan p)) me in
    λ size e. ap length words ∙ length-map asked (λ g. word_of (directory_of b m g)) ∙ ap length (c.requires.asked size e) ∙ (λ i. length (homed b.ranks size (sym me i) (lacking_of b plan)))

pub returns-clause-owners : goal.returns-clause-owners
returns-clause-owners c =
    let b = c.args.self.now in
    let plan = c.args.plan in
    let m = c.args.owner_map in
    let me : c.me-me.result ≡ b.me = c.me-me.ensures.me in
    let asked = asked_of b plan b.me in
    let words : c.deref.result.now ≡ map (λ g. word_of (directory_of b m g)) asked =
    c.deref.ensures.value ∙ c.in_ok-words.ensures.words ∙ ap (λ p. map (λ g. word_of (directory_of b m g)) (asked_of b plan p)) me in
    let sized = some-size (size_of b plan) c.requires.known_plan in
    let size = sized.0 in
    let here : homed b.ranks size c.me-me.result (lacking_of b plan) ≡ asked = (λ i. homed b.ranks size (me i) (lacking_of b plan)) ∙ sym (c.requires.asked size sized.1) in
    λ g on. c.in_ok-absorb_tell.ensures.owners size g sized.1 (ap (stands g) here ∙ on)
    ∙ (λ i. answered b.ranks (here i) (words i) g)
    ∙ answered-words b.ranks (directory_of b m) asked g c.me-me.ensures.ranks_limit (λ h q e. c.me-me.ensures.owners m h q e) on

pub returns-clause-others : goal.returns-clause-others
returns-clause-others c =
    let b = c.args.self.now in
    let plan = c.args.plan in
    let m = c.args.owner_map in
    let me : c.me-me.result ≡ b.me = c.me-me.ensures.me in
    let asked = asked_of b plan b.me in
    let words : c.deref.result.now ≡ map (λ g. word_of (directory_of b m g)) asked =
    c.deref.ensures.value ∙ c.in_ok-words.ensures.words ∙ ap (λ p. map (λ g. word_of (directory_of b m g)) (asked_of b plan p)) me in
    let sized = some-size (size_of b plan) c.requires.known_plan in
    let size = sized.0 in
    let here : homed b.ranks size c.me-me.result (lacking_of b plan) ≡ asked = (λ i. homed b.ranks size (me i) (lacking_of b plan)) ∙ sym (c.requires.asked size sized.1) in
    λ other g off. c.in_ok-absorb_tell.ensures.others size other g sized.1 (ap (λ xs. same_plan other plan && stands g xs) here ∙ off)

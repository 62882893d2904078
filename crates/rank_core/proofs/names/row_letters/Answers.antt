use Rattle.std.proofs.Common.{ap, ◌∙◌}
use Rattle.std.specs.List.{filter}
use Rattle.rank_core.proofs.SentNames.{from-known, to-known}
use Rattle.rank_core.proofs.names.row_letters.Goals as goal

pub sent_names-requires : goal.sent_names-requires
sent_names-requires g c =
    let scene = c.requires.coming in
    record {
      coming = (
        scene.0,
        (
          scene.1.0,
          from-known c.args.ranks c.args.phase c.args.me scene.0.job.ranks c.deref.result.now scene.1.1 (c.deref.ensures.value ∙ c.in_ok-to.ensures),
        ),
      );
    }

pub awaited_names-requires : goal.awaited_names-requires
awaited_names-requires g c =
    let scene = c.requires.coming in
    record {
      coming = (
        scene.0,
        (
          scene.1.0,
          to-known c.args.ranks c.args.phase c.args.me scene.0.job.ranks c.deref-2.result.now scene.1.1 (c.deref-2.ensures.value ∙ c.in_ok-from.ensures),
        ),
      );
    }

pub returns-clause-posts : goal.returns-clause-posts
returns-clause-posts g c = λ e is same.
    let names = c.deref.ensures.value ∙ c.in_ok-to.ensures in
    c.in_ok-posts.ensures.names e is (from-known c.args.ranks c.args.phase c.args.me e.job.ranks c.deref.result.now same names) ∙ ap (filter _) names

pub returns-clause-awaits : goal.returns-clause-awaits
returns-clause-awaits g c = λ e is same.
    let names = c.deref-2.ensures.value ∙ c.in_ok-from.ensures in
    c.in_ok-awaits.ensures.names e is (to-known c.args.ranks c.args.phase c.args.me e.job.ranks c.deref-2.result.now same names) ∙ ap (filter _) names

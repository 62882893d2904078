use Rattle.std.proofs.Common.{◌≡◌, ◌<◌, true, All, Some, cond, subst, sym, ap, ◌∙◌}
use Rattle.map_core.specs.Homes.{is_home}
use Rattle.map_core.specs.Layouts.{stands}
use Rattle.directory.specs.Directories.{found_in, owner_of, IsDirectory}
use Rattle.directory.proofs.Entries.{directory_after, found-after}
use Rattle.directory.proofs.directory_of.Directory.register.Goals as goal

pub invariant_of-self : goal.invariant_of-self
invariant_of-self c =
    let inside = c.self.inside in (
      c.in-Ok.ensures.unique,
      subst (λ es. IsDirectory (record { me = inside.me; ranks = inside.ranks; size = inside.size; entries = es })) (sym c.in-Ok.ensures.entered)
          (directory_after inside.me inside.ranks inside.size inside.owners.entries c.args.from c.args.gids.now c.self.invariant.1 c.in-Ok.ensures.new
          (subst (λ d. c.args.from < d.ranks) (sym c.self.view_is) c.requires.known_rank)
          (subst (λ d. All (λ g. is_home d.ranks d.size d.me g ≡ true) c.args.gids.now) (sym c.self.view_is) c.requires.home)),
    )

pub returns-in-Ok-clause-owners : goal.returns-in-Ok-clause-owners
returns-in-Ok-clause-owners c = λ g.
    ap (λ es. found_in es g) c.in-Ok.ensures.entered
    ∙ found-after g c.args.from c.self.inside.owners.entries c.args.gids.now c.in-Ok.ensures.new
    ∙ ap (λ d. cond (stands g c.args.gids.now) (Some c.args.from) (owner_of d g)) c.self.view_is

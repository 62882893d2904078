use Rattle.std.proofs.Common.{refl}
use Rattle.rank_phases.specs.Ranks.{stage_of}
use Rattle.rank_phases.proofs.Courses.{absorbed_before, holds-absorbed, is_here}
use Rattle.rank_phases.proofs.Absorbed.{given-absorbed_none}
use Rattle.rank_phases.proofs.phased.Phased.absorb.Goals as goal

pub absorb-requires : goal.absorb-requires
absorb-requires g c =
    let course = c.requires.first.0 in
    let h = c.requires.first.1.0 in
    let letter = c.requires.first.1.1.0 in
    let first = c.requires.first.1.1.1 in (
      stage_of course c.args.self.now.entered,
      (
        h.worker,
        record {
          is_letter = letter;
          here = is_here g.W.Worker.stands c.args.self.now c.args.self.now course h c.args.name letter.named letter.to first c.requires.here;
          first = given-absorbed_none c.args.self.now.entered course.given c.args.name first;
          all_absorbed = absorbed_before g.W.Worker.stands c.args.self.now c.args.self.now course h c.args.name.phase c.requires.here;
        },
      ),
    )

pub returns-clause-gives : goal.returns-clause-gives
returns-clause-gives g c = λ course h letter first.
    holds-absorbed g.W.Worker.stands c.args.self.now _ course h c.args.name c.args.bytes.now letter first c.requires.here
    refl refl refl c.take_out.ensures refl refl
    (c.in_ok-absorb.ensures (stage_of course c.args.self.now.entered) h.worker (record {
      is_letter = letter;
      here = is_here g.W.Worker.stands c.args.self.now c.args.self.now course h c.args.name letter.named letter.to first c.requires.here;
      first = given-absorbed_none c.args.self.now.entered course.given c.args.name first;
      all_absorbed = absorbed_before g.W.Worker.stands c.args.self.now c.args.self.now course h c.args.name.phase c.requires.here;
    }))

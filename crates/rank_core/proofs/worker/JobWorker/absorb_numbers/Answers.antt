use Rattle.std.proofs.Common.{Some, refl}
use Rattle.rank_core.specs.declared.makings.Making.TheVariants.{Arriving}
use Rattle.value_phases.proofs.NumberedPhases.{jobs-have-value-phases}
use Rattle.rank_makings.proofs.Forms.{letters-have-form, words-are-few}
use Rattle.rank_makings.proofs.Stay.{comings-stay}
use Rattle.rank_core.proofs.AbsorbedNumbers.{comes, has-form, letter-for, numbers-absorbed, scene}
use Rattle.rank_core.proofs.Clauses.{on-ok}
use Rattle.rank_core.proofs.worker.JobWorker.absorb_numbers.Goals as goal

pub absorb-requires : goal.absorb-requires
absorb-requires g c =
    let R = g.S.Scalar.semiring in
    let F = g.S.Scalar.conversions in
    let s = c.requires.absorbs.0 in
    let stands = c.requires.absorbs.1.0 in
    let can = c.requires.absorbs.1.1 in
    let worker = record c.args.self.now { making = Some (Arriving c.args.coming) } in
    let phased = jobs-have-value-phases worker.job.value stands.worker_of.input.valid in
    record {
      letter = (
        scene R F g.met.S.Scalar.conversion_laws words-are-few (letters-have-form R F) (comings-stay R F) worker s stands phased c.args.name c.args.bytes.now can c.args.coming refl,
        (
          c.args.name,
          (
            comes R F g.met.S.Scalar.conversion_laws words-are-few (letters-have-form R F) (comings-stay R F) worker s stands phased c.args.name c.args.bytes.now can c.args.coming refl,
            (refl, letter-for R F g.met.S.Scalar.conversion_laws words-are-few (letters-have-form R F) (comings-stay R F) worker s stands phased c.args.name c.args.bytes.now can c.args.coming refl),
          ),
        ),
      );
    }

pub entries_of_letter-requires : goal.entries_of_letter-requires
entries_of_letter-requires g c =
    let R = g.S.Scalar.semiring in
    let F = g.S.Scalar.conversions in
    let s = c.requires.absorbs.0 in
    let stands = c.requires.absorbs.1.0 in
    let can = c.requires.absorbs.1.1 in
    let worker = record c.args.self.now { making = Some (Arriving c.args.coming) } in
    let phased = jobs-have-value-phases worker.job.value stands.worker_of.input.valid in
    record { letter = has-form R F g.met.S.Scalar.conversion_laws words-are-few (letters-have-form R F) (comings-stay R F) worker s stands phased c.args.name c.args.bytes.now can c.args.coming refl }

pub returns : goal.returns
returns g c = on-ok c.put.result c.put.ensures.put (λ put s stands can.
    let R = g.S.Scalar.semiring in
    let F = g.S.Scalar.conversions in
    let worker = record c.args.self.now { making = Some (Arriving c.args.coming) } in
    let phased = jobs-have-value-phases worker.job.value stands.worker_of.input.valid in
    let comes_now = comes R F g.met.S.Scalar.conversion_laws words-are-few (letters-have-form R F) (comings-stay R F) worker s stands phased c.args.name c.args.bytes.now can c.args.coming refl in
    let for_it = letter-for R F g.met.S.Scalar.conversion_laws words-are-few (letters-have-form R F) (comings-stay R F) worker s stands phased c.args.name c.args.bytes.now can c.args.coming refl in
    let e = scene R F g.met.S.Scalar.conversion_laws words-are-few (letters-have-form R F) (comings-stay R F) worker s stands phased c.args.name c.args.bytes.now can c.args.coming refl in
    numbers-absorbed R F g.met.S.Scalar.conversion_laws words-are-few (letters-have-form R F) (comings-stay R F) worker s stands phased c.args.name c.args.bytes.now can c.args.coming refl
    c.absorb.new.self (c.in_ok-absorb.ensures.absorbed e c.args.name comes_now refl for_it)
    c.put.new.self c.entries_of_letter.result c.entries_of_letter.ensures.count put)

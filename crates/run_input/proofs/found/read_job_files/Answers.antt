use Rattle.std.proofs.Common.{refl}
use Rattle.job_files.specs.declared.held.HeldText.{HeldText}
use Rattle.run_input.proofs.Holding.{apart-read, gives-two, some-two}
use Rattle.run_input.proofs.found.read_job_files.Goals as goal

pub returns-in-Some-clause-gives : goal.returns-in-Some-clause-gives
returns-in-Some-clause-gives g c =
    let texts = c.args.texts.now in
    let job : HeldText = record { name = texts.job_text.name; text = c.deref.result } in
    let schedule : HeldText = record { name = c.in-Some.read.name; text = c.deref-in-Some.result } in
    some-two (g.F.Files.told c.args.files.now) _ texts c.in-Some.read _ c.in-Some.is
    (λ source gives. gives-two (g.F.Files.told c.args.files.now) job texts.job_text refl c.deref.ensures.value schedule c.in-Some.read refl c.deref-in-Some.ensures.value source
    (apart-read texts.job_text texts.schedule c.in-Some.read c.in-Some.is c.requires.1.1) gives)
    c.read_beside-in-Some.ensures.gives

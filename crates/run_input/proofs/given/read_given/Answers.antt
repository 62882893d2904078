use Rattle.std.proofs.Common.{◌≡◌, map, rules, sym, subst}
use Rattle.mm_text.specs.Reading.{file_of}
use Rattle.model_defs.specs.declared.job.Job.{Job}
use Rattle.model_defs.specs.Fitting.{IsFitting}
use Rattle.run_words.specs.Seen.{order_view}
use Rattle.run_input.proofs.Giving.{files-fault, read-fits}
use Rattle.run_input.proofs.given.read_given.Goals as goal

pub returns-in-Err-read_found-clause-gives : goal.returns-in-Err-read_found-clause-gives
returns-in-Err-read_found-clause-gives g c =
    files-fault (g.F.Files.told c.args.files.now) _ c.args.job.now (order_view c.args.order) c.in-Ok.texts c.in-Ok.ensures.reads.same_files c.in-Ok.ensures.read
    c.in-Err-read_found.fault c.in-Err-read_found.ensures.gives

pub returns-in-Ok-new-clause-fitting : goal.returns-in-Ok-new-clause-fitting
returns-in-Ok-new-clause-fitting g c =
    let same : c.in-Ok-new.job.value ≡ c.in-Ok.texts.job = search rules in
    subst (λ (job : Job). IsFitting job (map file_of c.in-Ok-read_found.found.items)) (sym same)
    (read-fits (g.F.Files.told c.args.files.now) _ c.args.job.now (order_view c.args.order) c.in-Ok.texts c.in-Ok.ensures.reads.same_files c.in-Ok.ensures.read
    c.in-Ok-read_found.found c.in-Ok-read_found.ensures.gives)

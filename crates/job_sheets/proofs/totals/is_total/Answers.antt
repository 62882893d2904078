use Rattle.std.proofs.Common.{length, nat_eq, ap, ◌∙◌}
use Rattle.std.specs.List.{concat}
use Rattle.model_defs.specs.declared.job.MapForm.TheVariants.{Lists}
use Rattle.job_sheets.proofs.Sorts.{total-other, total-read}
use Rattle.job_sheets.proofs.totals.is_total.Goals as goal

pub returns-in-Lists : goal.returns-in-Lists
returns-in-Lists c =
    let spec = c.in-Some.spec.now in
    let found = c.in-Some.ensures.lookup in
    record {
      total = c.has_count.ensures
          ∙ ap (λ ls. nat_eq (length (concat ls)) spec.size) c.as_slice-in-Lists.ensures.items
          ∙ total-read c.args.job.now c.requires.valid c.args.m c.requires.one_to_one c.as_slice.result.now spec found.3.0 c.as_slice.ensures.items found.1 (Lists c.in-Lists.lists) c.in-Lists.is;
    }

pub returns-in-Uniform : goal.returns-in-Uniform
returns-in-Uniform c =
    let found = c.in-Some.ensures.lookup in
    record { total = total-other c.args.job.now c.requires.valid c.args.m c.requires.one_to_one c.as_slice.result.now c.in-Some.spec.now found.3.0 c.as_slice.ensures.items found.1 c.in-Uniform.is }

pub returns-in-Uniform-2 : goal.returns-in-Uniform-2
returns-in-Uniform-2 c =
    let found = c.in-Some.ensures.lookup in
    record { total = total-other c.args.job.now c.requires.valid c.args.m c.requires.one_to_one c.as_slice.result.now c.in-Some.spec.now found.3.0 c.as_slice.ensures.items found.1 c.in-Uniform.is }

pub returns-in-Uniform-3 : goal.returns-in-Uniform-3
returns-in-Uniform-3 c =
    let found = c.in-Some.ensures.lookup in
    record { total = total-other c.args.job.now c.requires.valid c.args.m c.requires.one_to_one c.as_slice.result.now c.in-Some.spec.now found.3.0 c.as_slice.ensures.items found.1 c.in-Uniform.is }

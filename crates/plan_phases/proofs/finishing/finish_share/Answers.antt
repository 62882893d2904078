use Rattle.std.proofs.Common.{ap, refl}
use Rattle.model_defs.specs.declared.phase.About.TheVariants.{SharePlan}
use Rattle.model_defs.specs.declared.phase.Plan.TheVariants.{ExportPlan, ImportPlan}
use Rattle.model_defs.specs.Maps.{list_of}
use Rattle.rank_plans.specs.Books.{own_of, told_of}
use Rattle.rank_plans.specs.Tasks.{export_of, import_of}
use Rattle.plan_phases.proofs.AbsorbedResults.{all_three}
use Rattle.plan_phases.proofs.FinishedBook.{made-before, share-export, share-finished, share-held, share-import, share-lacking, share-made, share-none, share-of-job}
use Rattle.plan_phases.proofs.MapPlans.{either-structure, export-ends, import-ends, shared-structure}
use Rattle.plan_phases.proofs.finishing.finish_share.Goals as goal

pub make_import-requires-clause-known_source : goal.make_import-requires-clause-known_source
make_import-requires-clause-known_source g c =
    let source = c.in-ImportPlan.source in
    let target = c.in-ImportPlan.target in
    let is = ap SharePlan c.in-ImportPlan.is in
    let known = share-of-job g.S.Scalar.semiring g.S.Scalar.conversions c.args.job.now c.requires.leaves.0 c.args.book.now (SharePlan c.args.plan) c.requires.leaves.1 (ImportPlan source target) is in
    (import-ends c.args.job.now source target known.0 (ImportPlan source target) refl known.1).0

pub make_import-requires-clause-known_target : goal.make_import-requires-clause-known_target
make_import-requires-clause-known_target g c =
    let source = c.in-ImportPlan.source in
    let target = c.in-ImportPlan.target in
    let is = ap SharePlan c.in-ImportPlan.is in
    let known = share-of-job g.S.Scalar.semiring g.S.Scalar.conversions c.args.job.now c.requires.leaves.0 c.args.book.now (SharePlan c.args.plan) c.requires.leaves.1 (ImportPlan source target) is in
    (import-ends c.args.job.now source target known.0 (ImportPlan source target) refl known.1).1

pub make_import-requires-clause-lacking : goal.make_import-requires-clause-lacking
make_import-requires-clause-lacking g c =
    let source = c.in-ImportPlan.source in
    let target = c.in-ImportPlan.target in
    let is = ap SharePlan c.in-ImportPlan.is in
    share-lacking g.S.Scalar.semiring g.S.Scalar.conversions c.args.job.now c.requires.leaves.0 c.args.book.now (SharePlan c.args.plan) c.requires.leaves.1 (ImportPlan source target) is

pub make_import-requires-clause-none_of_own : goal.make_import-requires-clause-none_of_own
make_import-requires-clause-none_of_own g c =
    let source = c.in-ImportPlan.source in
    let target = c.in-ImportPlan.target in
    let is = ap SharePlan c.in-ImportPlan.is in
    share-none g.S.Scalar.semiring g.S.Scalar.conversions c.args.job.now c.requires.leaves.0 c.args.book.now (SharePlan c.args.plan) c.requires.leaves.1 (ImportPlan source target) is

pub make_import-requires-clause-held : goal.make_import-requires-clause-held
make_import-requires-clause-held g c =
    let source = c.in-ImportPlan.source in
    let target = c.in-ImportPlan.target in
    let is = ap SharePlan c.in-ImportPlan.is in
    share-held g.S.Scalar.semiring g.S.Scalar.conversions c.args.job.now c.requires.leaves.0 c.args.book.now (SharePlan c.args.plan) c.requires.leaves.1 (ImportPlan source target) is

pub returns-in-ImportPlan-clause-kept : goal.returns-in-ImportPlan-clause-kept
returns-in-ImportPlan-clause-kept g c =
    let source = c.in-ImportPlan.source in
    let target = c.in-ImportPlan.target in
    let is = ap SharePlan c.in-ImportPlan.is in
    let called = c.make_import in
    all_three called.result called.ensures.made called.ensures.others called.ensures.stays
    (λ makes others stays. λ files e.
    share-finished g.S.Scalar.semiring g.S.Scalar.conversions c.args.job.now files c.args.book.now (SharePlan c.args.plan) e (ImportPlan source target) is called.new.book
    (import_of c.args.book.now.me c.args.book.now.ranks (list_of c.args.job.now source c.args.book.now.me) (list_of c.args.job.now target c.args.book.now.me)
    (own_of c.args.book.now (ImportPlan source target)) (told_of c.args.book.now (ImportPlan source target)))
    (share-import g.S.Scalar.semiring g.S.Scalar.conversions c.args.job.now files c.args.book.now (SharePlan c.args.plan) e source target is) makes others stays)

pub returns-in-ImportPlan-clause-made : goal.returns-in-ImportPlan-clause-made
returns-in-ImportPlan-clause-made g c =
    let source = c.in-ImportPlan.source in
    let target = c.in-ImportPlan.target in
    let is = ap SharePlan c.in-ImportPlan.is in
    let called = c.make_import in
    all_three called.result called.ensures.made called.ensures.others called.ensures.stays
    (λ makes others stays. λ files e.
    share-made g.S.Scalar.semiring g.S.Scalar.conversions c.args.job.now files c.args.book.now (SharePlan c.args.plan) e (ImportPlan source target) is called.new.book
    (import_of c.args.book.now.me c.args.book.now.ranks (list_of c.args.job.now source c.args.book.now.me) (list_of c.args.job.now target c.args.book.now.me)
    (own_of c.args.book.now (ImportPlan source target)) (told_of c.args.book.now (ImportPlan source target)))
    (share-import g.S.Scalar.semiring g.S.Scalar.conversions c.args.job.now files c.args.book.now (SharePlan c.args.plan) e source target is) makes others stays)

pub make_export-requires-clause-known_source : goal.make_export-requires-clause-known_source
make_export-requires-clause-known_source g c =
    let source = c.in-ExportPlan.source in
    let target = c.in-ExportPlan.target in
    let is = ap SharePlan c.in-ExportPlan.is in
    let known = share-of-job g.S.Scalar.semiring g.S.Scalar.conversions c.args.job.now c.requires.leaves.0 c.args.book.now (SharePlan c.args.plan) c.requires.leaves.1 (ExportPlan source target) is in
    (export-ends c.args.job.now source target known.0 (ExportPlan source target) refl known.1).0

pub make_export-requires-clause-known_target : goal.make_export-requires-clause-known_target
make_export-requires-clause-known_target g c =
    let source = c.in-ExportPlan.source in
    let target = c.in-ExportPlan.target in
    let is = ap SharePlan c.in-ExportPlan.is in
    let known = share-of-job g.S.Scalar.semiring g.S.Scalar.conversions c.args.job.now c.requires.leaves.0 c.args.book.now (SharePlan c.args.plan) c.requires.leaves.1 (ExportPlan source target) is in
    (export-ends c.args.job.now source target known.0 (ExportPlan source target) refl known.1).1

pub make_export-requires-clause-lacking : goal.make_export-requires-clause-lacking
make_export-requires-clause-lacking g c =
    let source = c.in-ExportPlan.source in
    let target = c.in-ExportPlan.target in
    let is = ap SharePlan c.in-ExportPlan.is in
    share-lacking g.S.Scalar.semiring g.S.Scalar.conversions c.args.job.now c.requires.leaves.0 c.args.book.now (SharePlan c.args.plan) c.requires.leaves.1 (ExportPlan source target) is

pub make_export-requires-clause-none_of_own : goal.make_export-requires-clause-none_of_own
make_export-requires-clause-none_of_own g c =
    let source = c.in-ExportPlan.source in
    let target = c.in-ExportPlan.target in
    let is = ap SharePlan c.in-ExportPlan.is in
    share-none g.S.Scalar.semiring g.S.Scalar.conversions c.args.job.now c.requires.leaves.0 c.args.book.now (SharePlan c.args.plan) c.requires.leaves.1 (ExportPlan source target) is

pub make_export-requires-clause-held : goal.make_export-requires-clause-held
make_export-requires-clause-held g c =
    let source = c.in-ExportPlan.source in
    let target = c.in-ExportPlan.target in
    let is = ap SharePlan c.in-ExportPlan.is in
    share-held g.S.Scalar.semiring g.S.Scalar.conversions c.args.job.now c.requires.leaves.0 c.args.book.now (SharePlan c.args.plan) c.requires.leaves.1 (ExportPlan source target) is

pub returns-in-ExportPlan-clause-kept : goal.returns-in-ExportPlan-clause-kept
returns-in-ExportPlan-clause-kept g c =
    let source = c.in-ExportPlan.source in
    let target = c.in-ExportPlan.target in
    let is = ap SharePlan c.in-ExportPlan.is in
    let called = c.make_export in
    all_three called.result called.ensures.made called.ensures.others called.ensures.stays
    (λ makes others stays. λ files e.
    share-finished g.S.Scalar.semiring g.S.Scalar.conversions c.args.job.now files c.args.book.now (SharePlan c.args.plan) e (ExportPlan source target) is called.new.book
    (export_of c.args.book.now.me c.args.book.now.ranks (list_of c.args.job.now source c.args.book.now.me) (list_of c.args.job.now target c.args.book.now.me)
    (own_of c.args.book.now (ExportPlan source target)) (told_of c.args.book.now (ExportPlan source target)))
    (share-export g.S.Scalar.semiring g.S.Scalar.conversions c.args.job.now files c.args.book.now (SharePlan c.args.plan) e source target is) makes others stays)

pub returns-in-ExportPlan-clause-made : goal.returns-in-ExportPlan-clause-made
returns-in-ExportPlan-clause-made g c =
    let source = c.in-ExportPlan.source in
    let target = c.in-ExportPlan.target in
    let is = ap SharePlan c.in-ExportPlan.is in
    let called = c.make_export in
    all_three called.result called.ensures.made called.ensures.others called.ensures.stays
    (λ makes others stays. λ files e.
    share-made g.S.Scalar.semiring g.S.Scalar.conversions c.args.job.now files c.args.book.now (SharePlan c.args.plan) e (ExportPlan source target) is called.new.book
    (export_of c.args.book.now.me c.args.book.now.ranks (list_of c.args.job.now source c.args.book.now.me) (list_of c.args.job.now target c.args.book.now.me)
    (own_of c.args.book.now (ExportPlan source target)) (told_of c.args.book.now (ExportPlan source target)))
    (share-export g.S.Scalar.semiring g.S.Scalar.conversions c.args.job.now files c.args.book.now (SharePlan c.args.plan) e source target is) makes others stays)

pub returns-in-ColumnPlan : goal.returns-in-ColumnPlan
returns-in-ColumnPlan g c =
    record {
      kept = λ files e. e.kept;
      made = λ files e.
          made-before g.S.Scalar.semiring g.S.Scalar.conversions c.args.job.now files c.args.book.now (SharePlan c.args.plan) e
          (λ other same off. shared-structure c.args.plan other (either-structure c.args.plan c.in-ColumnPlan.is) same off);
    }

use Rattle.std.proofs.Common.{◌≡◌, All, Some, arith, subst, sym}
use Rattle.std.proofs.lemmas.List.Elements.{All-pop, All-push}
use Rattle.import_plan.specs.declared.import.ImportPlan.{ImportPlan}
use Rattle.map_core.specs.declared.plan.Plan.{Plan}
use Rattle.layers_bench.proofs.plans.all_finished.Goals as goal

pub loop-import-preserved : goal.loop-import-preserved
loop-import-preserved c =
    let known = c.loop-import.invariant in
    let few = known.few in
    let long = c.in-Some.ensures.len in
    let import_of_four : ImportPlan → Type 0 = λ (import : ImportPlan). import.ranks ≡ 4 in
    let plan_of_four : Plan → Type 0 = λ (plan : Plan). plan.ranks ≡ 4 in
    record {
      few = omega arith;
      imports = (All-pop import_of_four c.loop-import.imports.items c.pop.new.self.items (Some c.in-Some.import) c.in-Some.ensures.items known.imports).0;
      plans = subst (All plan_of_four) (sym c.in_ok-push.ensures.items) (All-push plan_of_four c.loop-import.plans.items c.in_ok-finished.field-0 known.plans c.in_ok-finished.ensures.ranks);
    }

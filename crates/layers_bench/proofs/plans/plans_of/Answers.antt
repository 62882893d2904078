use Rattle.std.proofs.Common.{◌≡◌, All, arith, subst, sym, ap}
use Rattle.std.proofs.lemmas.List.Elements.{All-push}
use Rattle.import_plan.specs.declared.import.ImportPlan.{ImportPlan}
use Rattle.layers_bench.proofs.plans.plans_of.Goals as goal

pub loop-me-preserved : goal.loop-me-preserved
loop-me-preserved c =
    let known = c.loop-me.invariant in
    let count = known.count in
    let letters = known.letters in
    let long = c.in_ok-push.ensures.len in
    let more = c.in_ok-add_letters.ensures.count in
    let import_of_four : ImportPlan → Type 0 = λ (import : ImportPlan). import.ranks ≡ 4 in
    record {
      count = omega arith;
      letters = omega arith;
      imports = subst (All import_of_four) (sym c.in_ok-push.ensures.items)
          (All-push import_of_four c.loop-me.imports.items c.in_ok-import.import known.imports (ap (λ (import : ImportPlan). import.ranks) c.in_ok-import.ensures.begun));
    }

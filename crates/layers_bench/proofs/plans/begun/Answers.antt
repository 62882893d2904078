use Rattle.std.proofs.Common.{◌≡◌, length, map, subst, sym, ap, ◌∙◌, arith}
use Rattle.map_core.specs.Classes.{AreOwners}
use Rattle.map_core.specs.Layouts.{owner, rank_list, IsOneToOne}
use Rattle.map_core.specs.Uniform.{uniform_layout}
use Rattle.map_core.proofs.Contiguous.{length-uniform, one_to_one}
use Rattle.import_plan.specs.Imports.{import_start}
use Rattle.layers_bench.proofs.Owned.{owned, same-owners, then-begun}
use Rattle.layers_bench.proofs.plans.begun.Goals as goal

pub start-requires-clause-owners : goal.start-requires-clause-owners
start-requires-clause-owners c =
    let source = c.args.source.now in
    let target = c.args.target.now in
    let me = c.args.me in
    let one : IsOneToOne source = subst IsOneToOne (sym c.requires.source) (one_to_one 4 target.size (omega arith)) in
    let many : length source.lists ≡ 4 = ap (λ m. length m.lists) c.requires.source ∙ length-uniform 4 target.size in
    let owners : c.deref-2.result.now ≡ map (owner source) (rank_list target me) =
    c.deref-2.ensures.value ∙ same-owners source target (uniform_layout 4) me c.size.result c.deref.result.now c.in_ok-owners.owners.items c.requires.source c.size.ensures.size
    (c.deref.ensures ∙ c.list.ensures.list) c.in_ok-owners.ensures.owners in
    subst (λ os. AreOwners me 4 c.list-2.result.now.value c.list-3.result.now.value os) (sym owners)
    (subst (λ xs. AreOwners me 4 xs c.list-3.result.now.value (map (owner source) (rank_list target me))) (sym c.list-2.ensures.list)
    (subst (λ ys. AreOwners me 4 (rank_list source me) ys (map (owner source) (rank_list target me))) (sym c.list-3.ensures.list) (owned source me 4 (rank_list target me) one many)))

pub returns : goal.returns
returns c =
    let source = c.args.source.now in
    let target = c.args.target.now in
    let me = c.args.me in
    let owners : c.deref-2.result.now ≡ map (owner source) (rank_list target me) =
    c.deref-2.ensures.value ∙ same-owners source target (uniform_layout 4) me c.size.result c.deref.result.now c.in_ok-owners.owners.items c.requires.source c.size.ensures.size
    (c.deref.ensures ∙ c.list.ensures.list) c.in_ok-owners.ensures.owners in
    record {
      begun = then-begun c.start.result (import_start me 4 c.list-2.result.now.value c.list-3.result.now.value c.deref-2.result.now)
          (import_start me 4 (rank_list source me) (rank_list target me) (map (owner source) (rank_list target me)))
          c.start.ensures.started
          (λ k. import_start me 4 (c.list-2.ensures.list k) (c.list-3.ensures.list k) (owners k));
    }

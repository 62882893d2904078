use Rattle.std.proofs.Common.{◌++◌, ◌≤◌, length, map, subst, sym, ap, ◌∙◌, arith}
use Rattle.std.specs.List.Sorted.{IsPermutation}
use Rattle.map_core.specs.Faults.{IsFaultOf}
use Rattle.map_core.specs.Layouts.{AreDistinct}
use Rattle.crs_graph.proofs.Ascending.{AreDistinct-ascending}
use Rattle.crs_graph.proofs.ColumnLists.{no_repeat, whole_distinct, whole_length, whole_same}
use Rattle.map_core.specs.Layouts.{stands}
use Rattle.crs_graph.proofs.column_order.column_map.Goals as goal

pub from_list-requires : goal.from_list-requires
from_list-requires c =
    let domain = c.args.domain.now in
    let columns = c.args.columns.now in
    let owners = c.args.owners.now in
    let others = c.sort.new.self.items in
    let moved = subst (λ ps. IsPermutation ps others) c.in_ok-others.ensures.foreign c.in_ok-sort.ensures.permutation in
    let list = c.deref-2.ensures.value ∙ c.in_ok-push_indices.ensures.pushed ∙ (λ t. c.in_ok-list.ensures.own t ++ map (λ x. x.1) (c.deref.ensures.value t)) in
    let long = ap length list in
    let most = whole_length domain columns owners others c.requires.each moved c.own_columns.ensures.distinct (AreDistinct-ascending columns c.requires.ascend) in
    let few = c.requires.few in
    record { few = omega arith }

pub unreachable-requires : goal.unreachable-requires
unreachable-requires c =
    let domain = c.args.domain.now in
    let columns = c.args.columns.now in
    let owners = c.args.owners.now in
    let others = c.sort.new.self.items in
    let moved = subst (λ ps. IsPermutation ps others) c.in_ok-others.ensures.foreign c.in_ok-sort.ensures.permutation in
    let list = c.deref-2.ensures.value ∙ c.in_ok-push_indices.ensures.pushed ∙ (λ t. c.in_ok-list.ensures.own t ++ map (λ x. x.1) (c.deref.ensures.value t)) in
    let distinct = subst AreDistinct (sym list) (whole_distinct domain columns owners others c.requires.each moved c.own_columns.ensures.distinct (AreDistinct-ascending columns c.requires.ascend)) in
    let repeat = subst (IsFaultOf c.deref-2.result.now) c.in-Err-Repeated.field-0-is c.in-Err-Repeated.ensures.refused in
    let off = no_repeat c.deref-2.result.now repeat.place c.in-Err-Repeated.field-0-0 distinct repeat.at in
    let on = repeat.earlier in
    absurd (cc)

pub returns-in-Ok-clause-same : goal.returns-in-Ok-clause-same
returns-in-Ok-clause-same c =
    let domain = c.args.domain.now in
    let columns = c.args.columns.now in
    let owners = c.args.owners.now in
    let others = c.sort.new.self.items in
    let moved = subst (λ ps. IsPermutation ps others) c.in_ok-others.ensures.foreign c.in_ok-sort.ensures.permutation in
    let list = c.in-Ok.ensures.kept ∙ c.deref-2.ensures.value ∙ c.in_ok-push_indices.ensures.pushed ∙ (λ t. c.in_ok-list.ensures.own t ++ map (λ x. x.1) (c.deref.ensures.value t)) in
    λ g. ap (stands g) list ∙ whole_same domain columns owners others c.requires.each moved g

pub returns-in-Ok-clause-as_many : goal.returns-in-Ok-clause-as_many
returns-in-Ok-clause-as_many c =
    let domain = c.args.domain.now in
    let columns = c.args.columns.now in
    let owners = c.args.owners.now in
    let others = c.sort.new.self.items in
    let moved = subst (λ ps. IsPermutation ps others) c.in_ok-others.ensures.foreign c.in_ok-sort.ensures.permutation in
    let list = c.in-Ok.ensures.kept ∙ c.deref-2.ensures.value ∙ c.in_ok-push_indices.ensures.pushed ∙ (λ t. c.in_ok-list.ensures.own t ++ map (λ x. x.1) (c.deref.ensures.value t)) in
    subst (λ xs. length xs ≤ length columns) (sym list) (whole_length domain columns owners others c.requires.each moved c.own_columns.ensures.distinct (AreDistinct-ascending columns c.requires.ascend))

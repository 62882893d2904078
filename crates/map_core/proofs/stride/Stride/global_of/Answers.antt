use Rattle.std.proofs.Common.{◌≤◌, length, refl, sym, arith}
use Rattle.std.proofs.lemmas.Option.{slice_get_past}
use Rattle.map_core.specs.Strides.{stride_list}
use Rattle.map_core.proofs.Strides.{global_index-stride, length-stride}
use Rattle.map_core.proofs.stride.Stride.global_of.Goals as goal

pub returns-then-lid-self-clause-index : goal.returns-then-lid-self-clause-index
returns-then-lid-self-clause-index c =
    rw (sym c.self.view_is) (sym (global_index-stride c.self.inside.first c.self.inside.step c.self.inside.count c.args.lid (omega arith)))

pub returns-then-lid-self-clause-found : goal.returns-then-lid-self-clause-found
returns-then-lid-self-clause-found c =
    let many = length-stride c.self.inside.first c.self.inside.step c.self.inside.count in
    rw (sym c.self.view_is) ((λ _. omega arith), (λ _. refl))

pub returns-else-lid-self-clause-index : goal.returns-else-lid-self-clause-index
returns-else-lid-self-clause-index c =
    let list = stride_list c.self.inside.first c.self.inside.step c.self.inside.count in
    let past : length list ≤ c.args.lid = let many = length-stride c.self.inside.first c.self.inside.step c.self.inside.count in omega arith in
    rw (sym c.self.view_is) (sym (slice_get_past list c.args.lid past))

pub returns-else-lid-self-clause-found : goal.returns-else-lid-self-clause-found
returns-else-lid-self-clause-found c =
    let many = length-stride c.self.inside.first c.self.inside.step c.self.inside.count in
    rw (sym c.self.view_is) ((λ h. absurd (cc)), (λ h. absurd (omega arith)))

use Rattle.std.proofs.Common.{◌≡◌, ◌-◌, ◌+◌, ◌*◌, ◌/◌, false, sym, arith}
use Rattle.map_core.specs.Layouts.{stands}
use Rattle.map_core.specs.Strides.{stride_list}
use Rattle.map_core.proofs.Places.{local_index-absent}
use Rattle.map_core.proofs.Strides.{absent_off, before_stride, length-stride, local_index-stride, stands_stride}
use Rattle.map_core.proofs.stride.Stride.local_of.Goals as goal

pub returns-then-gid-self-clause-place : goal.returns-then-gid-self-clause-place
returns-then-gid-self-clause-place c =
    let list = stride_list c.self.inside.first c.self.inside.step c.self.inside.count in
    rw (sym c.self.view_is) (sym (local_index-absent list c.args.gid (before_stride c.self.inside.first c.self.inside.step c.self.inside.count c.args.gid c.if-gid-self.true)))

pub returns-then-gid-self-clause-found : goal.returns-then-gid-self-clause-found
returns-then-gid-self-clause-found c =
    rw (sym c.self.view_is) (sym (before_stride c.self.inside.first c.self.inside.step c.self.inside.count c.args.gid c.if-gid-self.true))

pub returns-then-place-self-clause-place : goal.returns-then-place-self-clause-place
returns-then-place-self-clause-place c =
    let list = stride_list c.self.inside.first c.self.inside.step c.self.inside.count in
    let off : stands c.args.gid list ≡ false =
    absent_off c.self.inside.first c.self.inside.step c.self.inside.count c.args.gid c.self.invariant.0 c.if-gid-self.false (λ h. absurd (c.if-place-self.true h)) in
    rw (sym c.self.view_is) (sym (local_index-absent list c.args.gid off))

pub returns-then-place-self-clause-found : goal.returns-then-place-self-clause-found
returns-then-place-self-clause-found c =
    rw (sym c.self.view_is) (sym (absent_off c.self.inside.first c.self.inside.step c.self.inside.count c.args.gid c.self.invariant.0 c.if-gid-self.false (λ h. absurd (c.if-place-self.true h))))

pub returns-then-place-self-2-clause-place : goal.returns-then-place-self-2-clause-place
returns-then-place-self-2-clause-place c =
    let list = stride_list c.self.inside.first c.self.inside.step c.self.inside.count in
    let off : stands c.args.gid list ≡ false =
    absent_off c.self.inside.first c.self.inside.step c.self.inside.count c.args.gid c.self.invariant.0 c.if-gid-self.false (λ h. c.if-place-self-2.true) in
    rw (sym c.self.view_is) (sym (local_index-absent list c.args.gid off))

pub returns-then-place-self-2-clause-found : goal.returns-then-place-self-2-clause-found
returns-then-place-self-2-clause-found c =
    rw (sym c.self.view_is) (sym (absent_off c.self.inside.first c.self.inside.step c.self.inside.count c.args.gid c.self.invariant.0 c.if-gid-self.false (λ h. c.if-place-self-2.true)))

pub returns-clause-place : goal.returns-clause-place
returns-clause-place c =
    let at : c.args.gid ≡ c.self.inside.first + (c.args.gid - c.self.inside.first) / c.self.inside.step * c.self.inside.step =
    let low = c.if-gid-self.false in
    let whole = c.if-place-self.false in
    omega arith in
    rw (sym c.self.view_is) (sym (local_index-stride c.self.inside.first c.self.inside.step c.self.inside.count c.args.gid _ c.self.invariant.0 c.if-place-self-2.false at))

pub returns-clause-found : goal.returns-clause-found
returns-clause-found c =
    let at : c.args.gid ≡ c.self.inside.first + (c.args.gid - c.self.inside.first) / c.self.inside.step * c.self.inside.step =
    let low = c.if-gid-self.false in
    let whole = c.if-place-self.false in
    omega arith in
    rw (sym c.self.view_is) (sym (stands_stride c.self.inside.first c.self.inside.step c.self.inside.count c.args.gid _ c.if-place-self-2.false at))

pub returns-clause-within : goal.returns-clause-within
returns-clause-within c =
    let many = length-stride c.self.inside.first c.self.inside.step c.self.inside.count in
    let low = c.if-place-self-2.false in
    rw (sym c.self.view_is) (omega arith)

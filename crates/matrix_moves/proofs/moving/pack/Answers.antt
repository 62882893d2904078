use Rattle.std.proofs.Common.{◌≡◌, ℕ, true, nat_lt, List, None, Some, length, sym, ap, subst, ◌∙◌}
use Rattle.std.specs.List.{list_all}
use Rattle.std.specs.Prelude.{Result, Ok, Err, IfOk}
use Rattle.std.proofs.lemmas.Result.{on_err_weaker}
use Rattle.tables.specs.Indices.{AreBelow}
use Rattle.map_core.specs.Plans.{export_list}
use Rattle.byte_pool.specs.Leases.{leases, with_lease}
use Rattle.letter_codec.specs.declared.kind.Kind.TheVariants.{Rows}
use Rattle.distributor.specs.Packed.{kind_of, sent_entries}
use Rattle.matrix_moves.specs.Sources.{IsShort}
use Rattle.matrix_moves.proofs.Given.{all-known, count-rows}
use Rattle.matrix_moves.proofs.Sent.{sent-fits, sent-letter}
use Rattle.matrix_moves.proofs.moving.pack.Goals as goal

if-ok : {T E : Type 0} (r : Result T E) (P Q : T → Type 0) → ((x : T) → P x → Q x) → IfOk r P → IfOk r Q
if-ok (Ok x) P Q f h = f x h
if-ok (Err e) P Q f h = h

pub pack-requires-clause-kind : goal.pack-requires-clause-kind
pack-requires-clause-kind g c = sym (ap kind_of c.requires.of_rows)

pub pack-requires-clause-known : goal.pack-requires-clause-known
pack-requires-clause-known g c =
    let entries = g.A.DistSource.entries c.args.source.now in
    let froms = export_list c.args.transfer.now.plan c.args.to in
    let P : ℕ → Type 0 = λ n. AreBelow n froms in
    all-known (length entries) froms (subst P (count-rows entries) c.requires.sources)

pub pack-requires-clause-widths : goal.pack-requires-clause-widths
pack-requires-clause-widths g c = λ width e. let both : None ≡ Some width = sym c.requires.of_rows ∙ e in absurd (let bad : ⊥ = cc in bad)

pub is_short-requires : goal.is_short-requires
is_short-requires g c =
    let entries = g.A.DistSource.entries c.args.source.now in
    let froms = export_list c.args.transfer.now.plan c.args.to in
    let P : ℕ → Type 0 = λ n. AreBelow n froms in
    let Q : List ℕ → Type 0 = λ list. list_all (λ p. nat_lt p (length entries)) list ≡ true in
    record { known = subst Q (sym c.requires.list) (all-known (length entries) froms (subst P (count-rows entries) c.requires.sources)) }

pub pack-requires-clause-few : goal.pack-requires-clause-few
pack-requires-clause-few g c = λ k.
    let entries = g.A.DistSource.entries c.args.source.now in
    let P : List ℕ → Type 0 = λ list. IsShort (sent_entries entries list) in
    (subst P c.requires.list (c.is_short.ensures.short c.if-not-is_short.false)).few_places

pub pack-requires-clause-fits : goal.pack-requires-clause-fits
pack-requires-clause-fits g c = λ k.
    let entries = g.A.DistSource.entries c.args.source.now in
    let P : List ℕ → Type 0 = λ list. IsShort (sent_entries entries list) in
    sent-fits g.S.Scalar.conversions g.met.S.Scalar.conversion_laws Rows k (sent_entries entries (export_list c.args.transfer.now.plan c.args.to))
    (subst P c.requires.list (c.is_short.ensures.short c.if-not-is_short.false))

pub returns-clause-letter : goal.returns-clause-letter
returns-clause-letter g c =
    let entries = g.A.DistSource.entries c.args.source.now in
    if-ok c.pack.result _ _
    (λ lease h width within. h
    ∙ ap (with_lease (leases c.args.pool.now) lease)
    (sent-letter entries c.requires.source width within g.S.Scalar.conversions (export_list c.args.transfer.now.plan c.args.to) c.requires.sources))
    c.pack.ensures.letter

pub returns-clause-err : goal.returns-clause-err
returns-clause-err g c = on_err_weaker c.pack.result (λ e. ap leases e) c.pack.ensures.err

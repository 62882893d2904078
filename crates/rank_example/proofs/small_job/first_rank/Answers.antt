use Rattle.std.proofs.Common.{◌≡◌, ◌<◌, ◌∙◌, ap, map, sym, subst}
use Rattle.mm_text.specs.Reading.{file_of}
use Rattle.peers.specs.Peers.{fresh}
use Rattle.scalar_laws.specs.Weighed.{weighed_conversions, weighed_semiring}
use Rattle.model_defs.specs.declared.job.Job.{Job}
use Rattle.model_defs.specs.Fitting.{IsFitting}
use Rattle.model_defs.specs.Machine.{job_protocol}
use Rattle.model_defs.specs.Valid.{IsValid}
use Rattle.rank_core.specs.Ranks.{IsRank, IsRankInput}
use Rattle.rank_share.specs.Shares.{share as share_of}
use Rattle.rank_example.specs.SmallJob.{small_files, small_job, small_protocol}
use Rattle.rank_example.proofs.Jobs.{fitting, input, some-rank, valid}
use Rattle.rank_example.proofs.small_job.first_rank.Goals as goal

pub share_of-requires-clause-valid : goal.share_of-requires-clause-valid
share_of-requires-clause-valid c =
    let job : c.deref.result.now ≡ small_job = c.deref.ensures ∙ c.in_ok-job.ensures.ok ∙ c.in_ok-small_job.ensures.job in
    subst IsValid (sym job) valid

pub share_of-requires-clause-fitting : goal.share_of-requires-clause-fitting
share_of-requires-clause-fitting c =
    let job : c.deref.result.now ≡ small_job = c.deref.ensures ∙ c.in_ok-job.ensures.ok ∙ c.in_ok-small_job.ensures.job in
    let files : map file_of c.deref-2.result.now ≡ small_files = ap (map file_of) c.deref-2.ensures.value ∙ c.in_ok-files.ensures.files in
    subst (λ j. IsFitting j (map file_of c.deref-2.result.now)) (sym job) (subst (IsFitting small_job) (sym files) fitting)

pub share_of-requires-clause-rank : goal.share_of-requires-clause-rank
share_of-requires-clause-rank c =
    let job : c.deref.result.now ≡ small_job = c.deref.ensures ∙ c.in_ok-job.ensures.ok ∙ c.in_ok-small_job.ensures.job in
    subst (λ (j : Job). 0 < j.ranks) (sym job) some-rank

pub start-requires : goal.start-requires
start-requires c =
    let job : c.deref.result.now ≡ small_job = c.deref.ensures ∙ c.in_ok-job.ensures.ok ∙ c.in_ok-small_job.ensures.job in
    let value : c.in_ok-job.job.value ≡ small_job = c.in_ok-job.ensures.ok ∙ c.in_ok-small_job.ensures.job in
    let files : map file_of c.deref-2.result.now ≡ small_files = ap (map file_of) c.deref-2.ensures.value ∙ c.in_ok-files.ensures.files in
    let given = c.in_ok-share.ensures.share ∙ ap (λ j. share_of j (map file_of c.deref-2.result.now) 0) job ∙ ap (λ fs. share_of small_job fs 0) files in
    record { input = (small_files, subst (λ j. IsRankInput weighed_conversions j small_files 0 c.in_ok-share.share) (sym value) (input c.in_ok-share.share given)) }

pub returns : goal.returns
unfolding small_protocol
returns c =
    let job : c.deref.result.now ≡ small_job = c.deref.ensures ∙ c.in_ok-job.ensures.ok ∙ c.in_ok-small_job.ensures.job in
    let value : c.in_ok-job.job.value ≡ small_job = c.in_ok-job.ensures.ok ∙ c.in_ok-small_job.ensures.job in
    let files : map file_of c.deref-2.result.now ≡ small_files = ap (map file_of) c.deref-2.ensures.value ∙ c.in_ok-files.ensures.files in
    let given = c.in_ok-share.ensures.share ∙ ap (λ j. share_of j (map file_of c.deref-2.result.now) 0) job ∙ ap (λ fs. share_of small_job fs 0) files in
    let all = subst (λ j. IsRankInput weighed_conversions j small_files 0 c.in_ok-share.share) (sym value) (input c.in_ok-share.share given) in
    record { fresh = subst (λ j. IsRank weighed_semiring weighed_conversions c.in_ok-start.field-0 (fresh (job_protocol weighed_semiring weighed_conversions j small_files) 0)) value (c.in_ok-start.ensures.fresh small_files all) }

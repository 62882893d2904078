-- Texts of which the front was read, and what is read of them.
use Rattle.std.proofs.Common.{◌≡◌, ◌+◌, ◌<◌, ℕ, suc, cond, true, false, List, length, take, leb, Result, Ok, Err, codes, sym, ap, ◌∙◌, arith, inl, inr}
use Rattle.std.proofs.lemmas.Bool.{cases_lt}
use Rattle.std.proofs.lemmas.Bool.Decides.{nat_tests}
use Rattle.std.proofs.lemmas.List.{length-take-le, take_all}
use Rattle.job_text.specs.declared.fault.JobFault.TheVariants.{Limit}
use Rattle.job_text.specs.Outcomes.{◌>>=◌}
use Rattle.job_text.specs.Whole.{document_of, job_in, job_of}
use Rattle.schedule.specs.declared.fault.ScheduleFault.TheVariants.{TooLong}
use Rattle.schedule.specs.Texts.{entries_of, mark, schedule_of}
use Rattle.text_lines.specs.Lines.{kept_from, lines_of}

module _ {A Fault : Type 0} (most : ℕ) (reads : List ℕ → Result A Fault) (long : Fault)
    (refuses : (text : List ℕ) → most < length text → reads text ≡ Err long) where
  -- one byte past the most tells as much as all
  pub cut : (text : List ℕ) → reads (take (most + 1) text) ≡ reads text
  cut text = elim (cases_lt most (length text)) [
    | inl more ↦
        let size : length (take (most + 1) text) ≡ most + 1 = length-take-le (most + 1) text (omega arith) in
        refuses (take (most + 1) text) (omega arith) ∙ sym (refuses text more)
    | inr whole ↦ ap reads (take_all (most + 1) text (omega arith))
  ]

  -- a text that is accepted was read whole
  pub read_whole : (text : List ℕ) (x : A) → reads (take (most + 1) text) ≡ Ok x → take (most + 1) text ≡ text
  read_whole text x e = elim (cases_lt most (length text)) [
    | inl more ↦
        let accepted : reads text ≡ Ok x = sym (cut text) ∙ e in
        let refused : reads text ≡ Err long = refuses text more in absurd (cc)
    | inr whole ↦ take_all (most + 1) text (omega arith)
  ]

not_within : (k n : ℕ) → k < n → leb n k ≡ false
not_within k n h = grind (arith, nat_tests)

beyond : (k n : ℕ) → k < n → leb (suc k) n ≡ true
beyond k n h = grind (arith, nat_tests)

-- a job text that is too long, and a schedule that is
pub long_job : (text : List ℕ) → 1048576 < length text → job_of text ≡ Err (Limit (codes "job"))
long_job text h = ap (λ b. cond b (document_of text >>= job_in) (Err (Limit (codes "job")))) (not_within 1048576 (length text) h)

pub long_schedule : (text : List ℕ) → 67108864 < length text → schedule_of text ≡ Err TooLong
long_schedule text h = ap (λ b. cond b (Err TooLong) (entries_of (kept_from mark 1 (lines_of true text)))) (beyond 67108864 (length text) h)

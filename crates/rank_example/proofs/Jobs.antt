-- The job of the example is valid, and its file fits it.
use Rattle.std.proofs.Common.{◌≡◌, ◌<◌, ◌≤◌, ◌/◌, ◌%◌, ℕ, zero, suc, get_or, All, refl, arith}
use Rattle.std.specs.Prelude.{unsigned_abs}
use Rattle.std.proofs.lemmas.List.Elements.{All-nil}
use Rattle.scalar_laws.specs.Weighed.{weighed_conversions}
use Rattle.mm_text.specs.declared.file_data.Line.{Line}
use Rattle.mm_text.specs.Limits.{widest}
use Rattle.mm_text.specs.Reading.{File}
use Rattle.mm_text.specs.Sound.{IsDense, IsSound}
use Rattle.model_defs.specs.FileMatrix.{HasNumbers}
use Rattle.model_defs.specs.Fitting.{IsExpected, IsFitting, expected_file}
use Rattle.model_defs.specs.Given.{file_count, no_file, value_file}
use Rattle.model_defs.specs.Makers.{maker_of, value_count}
use Rattle.model_defs.specs.Numbers.{HaveNumbers}
use Rattle.model_defs.specs.Valid.{IsValid}
use Rattle.model_defs.proofs.ValidExamples.{valid as valid-example}
use Rattle.rank_core.specs.Ranks.{IsRankInput}
use Rattle.rank_share.specs.declared.share.Share.{Share}
use Rattle.rank_share.specs.Shares.{share as share_of}
use Rattle.rank_example.specs.SmallJob.{small_files, small_job}

pub valid : IsValid small_job
unfolding small_job
valid = valid-example

-- the one file
abbrev file : File
file = get_or small_files 0 no_file

sound : IsSound file
unfolding small_files
sound = record { places = places; values = values; square = λ e. absurd (e refl); diagonal = λ e. let bad : ⊥ = cc in absurd bad }
  where
    places : (k : ℕ) (d : Line) → k < 3 → let l = get_or file.lines k d in (l.row < 3) × (l.col < 1)
    places zero d l = (omega arith, omega arith)
    places (suc zero) d l = (omega arith, omega arith)
    places (suc (suc zero)) d l = (omega arith, omega arith)
    places (suc (suc (suc k))) d l = absurd (omega arith)

    values : (k : ℕ) (d : Line) → k < 3 → let l = get_or file.lines k d in unsigned_abs l.value ≤ widest
    values zero d l = omega arith
    values (suc zero) d l = omega arith
    values (suc (suc zero)) d l = omega arith
    values (suc (suc (suc k))) d l = absurd (omega arith)

dense : IsDense file
unfolding small_files
dense = record { plain = refl; count = refl; places = places }
  where
    places : (k : ℕ) (d : Line) → k < 3 → let l = get_or file.lines k d in (l.row ≡ k % 3) × (l.col ≡ k / 3)
    places zero d l = (refl, refl)
    places (suc zero) d l = (refl, refl)
    places (suc (suc zero)) d l = (refl, refl)
    places (suc (suc (suc k))) d l = absurd (omega arith)

pub fitting : IsFitting small_job small_files
unfolding small_job small_files
fitting = record { count = refl; each = each }
  where
    each : (k part : ℕ) → k < value_count small_job → part < file_count (maker_of small_job k)
        → IsExpected (expected_file small_job (maker_of small_job k) part) (value_file small_job small_files k part)
    each zero zero l m = record { rows_are = refl; cols_are = refl; sound = sound; dense = λ e. dense }
    each zero (suc part) l m = absurd (omega (arith, m))
    each (suc zero) part l m = absurd (omega (arith, m))
    each (suc (suc k)) part l m = absurd (omega (arith, l))

pub numbers : HaveNumbers weighed_conversions small_job small_files
unfolding small_job small_files
numbers = record { stated = All-nil _; read = read }
  where
    lines : (k : ℕ) (d : Line) → k < 3 → HasNumbers weighed_conversions file.mirror (get_or file.lines k d).value
    lines zero d l = refl
    lines (suc zero) d l = refl
    lines (suc (suc zero)) d l = refl
    lines (suc (suc (suc k))) d l = absurd (omega arith)

    read : (n : ℕ) (d : File) → n < 1 → let f = get_or small_files n d in All (λ (l : Line). HasNumbers weighed_conversions f.mirror l.value) f.lines
    read zero d l = lines
    read (suc n) d l = absurd (omega arith)

pub some-rank : 0 < small_job.ranks
unfolding small_job
some-rank = omega arith

pub input : (share : Share) → share ≡ share_of small_job small_files 0 → IsRankInput weighed_conversions small_job small_files 0 share
input share given = record {
  valid = valid;
  fitting = fitting;
  numbers = numbers;
  rank = some-rank;
  given = given;
}

-- The lines of a given matrix that are dealt to a rank.
use Rattle.std.proofs.Common.{◌≡◌, ℕ, zero, suc, ◌+◌, ◌<◌, List, map, length, get_or, refl, sym, ap, ◌∙◌, arith}
use Rattle.std.proofs.lemmas.List.{length-map}
use Rattle.scalar_laws.specs.Conversions.{Conversions}
use Rattle.tables.specs.Indices.{count_from}
use Rattle.mm_text.specs.Reading.{File}
use Rattle.mm_text.specs.declared.file_data.Line.{Line}
use Rattle.model_defs.specs.declared.job.Job.{Job}
use Rattle.model_defs.specs.Given.{value_file}
use Rattle.rank_share.specs.declared.share.Share.{Share}
use Rattle.rank_share.specs.Shares.{cell_count, place_lines}
use Rattle.rank_matrices.specs.Laws.{dealt_lines}
use Rattle.rank_pieces.specs.Inputs.{IsRankInput}

length-count : (n k : ℕ) → length (count_from n k) ≡ k
length-count n zero = refl
length-count n (suc k) = ap suc (length-count (n + 1) k)

mapped-count : {A : Type 0} (f : ℕ → A) (from many n : ℕ) (d : A) → n < many → get_or (map f (count_from from many)) n d ≡ f (from + n)
mapped-count f from zero n d l = absurd (omega arith)
mapped-count f from (suc many) zero d l = ap f (let same : from ≡ from + 0 = omega arith in same)
mapped-count f from (suc many) (suc n) d l = mapped-count f (from + 1) many n d (omega arith) ∙ ap f (let same : from + 1 + n ≡ from + suc n = omega arith in same)

module _ {S : Type 0} (F : Conversions S) (job : Job) (files : List File) (me : ℕ) (own : Share) (input : IsRankInput F job files me own) where
  -- a share has the places of each matrix
  pub places-many : length own.places ≡ length job.matrices
  places-many =
      ap (λ s. length s.places) input.given
      ∙ length-map (count_from (cell_count job) (length job.matrices)) (λ k. place_lines job.ranks me (value_file job files k 0))
      ∙ length-count (cell_count job) (length job.matrices)

  pub places-are : (k n : ℕ) (d : List Line) → k ≡ cell_count job + n → n < length job.matrices → get_or own.places n d ≡ dealt_lines job files k me
  places-are k n d same low =
      ap (λ s. get_or s.places n d) input.given
      ∙ mapped-count (λ k. place_lines job.ranks me (value_file job files k 0)) (cell_count job) (length job.matrices) n d low
      ∙ ap (λ v. dealt_lines job files v me) (sym same)

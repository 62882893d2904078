-- The files are sound, and fit the job.
use Rattle.std.proofs.Common.{◌≡◌, ◌<◌, ◌≤◌, ◌+◌, ◌/◌, ◌%◌, ℕ, zero, suc, Bool, true, false, [], ◌∷◌, All, length, get_or, refl, sym, subst, ap, ◌∙◌, arith}
use Rattle.std.specs.Prelude.{nat_lt, negsuc, pos, unsigned_abs, if◌then◌else◌}
use Rattle.std.proofs.Math.Nat.{div-eq_of_lt, mod-eq_of_lt}
use Rattle.std.proofs.lemmas.Bool.Decides.{nat_tests}
use Rattle.std.proofs.lemmas.List.Elements.{All-cons, All-nil}
use Rattle.mm_text.specs.declared.file_data.Line.{Line}
use Rattle.mm_text.specs.Limits.{widest}
use Rattle.mm_text.specs.Sound.{IsDense, IsSound}
use Rattle.model_defs.specs.Fitting.{IsExpected, IsFitting, expected_file}
use Rattle.model_defs.specs.Given.{file_count, value_file}
use Rattle.model_defs.specs.Makers.{maker_of, value_count}
use Rattle.generated_job.specs.Generated.{beside_lines, generated_files, generated_job, matrix_file, matrix_lines, most_generated, vector_file, vector_line}
use Rattle.generated_job.proofs.Lists.{all-flat, at-made, length-made}

-- an entry within these sizes, and not too wide
abbrev IsWithin : ℕ → ℕ → Line → Type 0
IsWithin rows cols line = (line.row < rows) × (line.col < cols)

abbrev IsNarrow : Line → Type 0
IsNarrow line = unsigned_abs line.value ≤ widest

module _ (n : ℕ) where
  -- what is true of each entry of the vector
  of-vector : (P : Line → Type 0) → ((i : ℕ) → i < n → P (vector_line i)) → All P (vector_file n).lines
  of-vector P h k d l =
      let many = length-made vector_line n in
      let low : k < n = omega arith in
      subst P (sym (at-made vector_line n k d low)) (h k low)

  vector-sound : n ≤ most_generated → IsSound (vector_file n)
  vector-sound few = record {
    places = of-vector (IsWithin n 1) (λ i l. (l, omega arith));
    values = of-vector IsNarrow (λ i l. omega arith);
    square = λ e. absurd (e refl);
    diagonal = λ e. let bad : ⊥ = cc in absurd bad;
  }

  vector-dense : IsDense (vector_file n)
  vector-dense = record { plain = refl; count = length-made vector_line n ∙ omega arith; places = places }
    where
      places : (k : ℕ) (d : Line) → k < length (vector_file n).lines
          → ((get_or (vector_file n).lines k d).row ≡ k % n) × ((get_or (vector_file n).lines k d).col ≡ k / n)
      places k d l =
          let many = length-made vector_line n in
          let low : k < n = omega arith in
          let at = at-made vector_line n k d low in
          (ap (λ (line : Line). line.row) at ∙ sym (mod-eq_of_lt low), ap (λ (line : Line). line.col) at ∙ sym (div-eq_of_lt low))

  -- what is true of each entry of the matrix
  of-matrix : (P : Line → Type 0) → ((i : ℕ) → i < n → All P (matrix_lines n i)) → All P (matrix_file n).lines
  of-matrix P h = all-flat P (matrix_lines n) 0 n (λ i l. h i (omega arith))

  of-index : (P : Line → Type 0) (i : ℕ) → P (record { row = i; col = i; value = pos 2 }) → (i + 1 < n → All P (beside_lines i)) → All P (matrix_lines n i)
  of-index P i here beside = All-cons P _ _ here (by (nat_lt (i + 1) n) refl)
    where
      by : (b : Bool) → nat_lt (i + 1) n ≡ b → All P (if b then beside_lines i else [])
      by true e = beside (grind (arith, nat_tests))
      by false e = All-nil P

  pair : (P : Line → Type 0) (i : ℕ) → P (record { row = i; col = i + 1; value = negsuc 0 }) → P (record { row = i + 1; col = i; value = negsuc 0 }) → All P (beside_lines i)
  pair P i above below = All-cons P _ (record { row = i + 1; col = i; value = negsuc 0 } ∷ []) above (All-cons P _ [] below (All-nil P))

  matrix-sound : IsSound (matrix_file n)
  matrix-sound = record {
    places = of-matrix (IsWithin n n) (λ i l. of-index (IsWithin n n) i (l, l) (λ m. pair (IsWithin n n) i (l, m) (m, l)));
    values = of-matrix IsNarrow (λ i l. of-index IsNarrow i (omega arith) (λ m. pair IsNarrow i (omega arith) (omega arith)));
    square = λ e. refl;
    diagonal = λ e. let bad : ⊥ = cc in absurd bad;
  }

  pub fitting : n ≤ most_generated → IsFitting (generated_job n) (generated_files n)
  fitting few = record { count = refl; each = each }
    where
      each : (k part : ℕ) → k < value_count (generated_job n) → part < file_count (maker_of (generated_job n) k)
          → IsExpected (expected_file (generated_job n) (maker_of (generated_job n) k) part) (value_file (generated_job n) (generated_files n) k part)
      each zero zero l m = record { rows_are = refl; cols_are = refl; sound = vector-sound few; dense = λ e. vector-dense }
      each zero (suc part) l m = absurd (omega (arith, m))
      each (suc zero) zero l m = record { rows_are = refl; cols_are = refl; sound = matrix-sound; dense = λ e. let bad : ⊥ = cc in absurd bad }
      each (suc zero) (suc part) l m = absurd (omega (arith, m))
      each (suc (suc zero)) part l m = absurd (omega (arith, m))
      each (suc (suc (suc zero))) part l m = absurd (omega (arith, m))
      each (suc (suc (suc (suc zero)))) part l m = absurd (omega (arith, m))
      each (suc (suc (suc (suc (suc zero))))) part l m = absurd (omega (arith, m))
      each (suc (suc (suc (suc (suc (suc k)))))) part l m = absurd (omega (arith, l))

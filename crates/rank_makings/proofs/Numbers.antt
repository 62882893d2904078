-- The numbers of two tables that agree on some rows are the same at the places of these rows.
use Rattle.std.proofs.Common.{◌≡◌, ℕ, true, ◌||◌, eqb, List, [], ◌∷◌, ◌++◌, map, refl, ap, ◌∙◌}
use Rattle.std.specs.Option.{unwrap_or}
use Rattle.std.proofs.lemmas.Bool.{eq-eqb}
use Rattle.scalar_laws.specs.Semiring.{Semiring}
use Rattle.tables.specs.declared.Cell.{Cell}
use Rattle.tables.specs.Indices.{count_from, stands}
use Rattle.tables.specs.Tables.{Table}
use Rattle.model_defs.specs.Plans.{One}
use Rattle.model_defs.proofs.Filters.{later}
use Rattle.rank_stages.specs.DataLaws.{full_places}

module _ {S : Type 0} (R : Semiring S) (a b : Table S) where
  abbrev number_of_a : Cell One → S
  number_of_a c = unwrap_or (a c.row c.col) R.nought

  abbrev number_of_b : Cell One → S
  number_of_b c = unwrap_or (b c.row c.col) R.nought

  one-row : (i : ℕ) (columns : List ℕ) (rest : List (Cell One)) → ((j : ℕ) → a i j ≡ b i j) → map number_of_a rest ≡ map number_of_b rest
      → map number_of_a (map (λ j. record { row = i; col = j; value = tt }) columns ++ rest) ≡ map number_of_b (map (λ j. record { row = i; col = j; value = tt }) columns ++ rest)
  one-row i [] rest same more = more
  one-row i (j ∷ js) rest same more = λ t. unwrap_or (same j t) R.nought ∷ one-row i js rest same more t

  pub numbers-agree : (columns : ℕ) (rows : List ℕ) → ((i j : ℕ) → stands i rows ≡ true → a i j ≡ b i j)
      → map (λ c. unwrap_or (a c.row c.col) R.nought) (full_places columns rows) ≡ map (λ c. unwrap_or (b c.row c.col) R.nought) (full_places columns rows)
  numbers-agree columns [] same = refl
  numbers-agree columns (i ∷ is) same =
      one-row i (count_from 0 columns) (full_places columns is) (λ j. same i j (ap (λ t. t || stands i is) (eq-eqb i i refl)))
      (numbers-agree columns is (λ x j e. same x j (later (eqb i x) _ e)))

-- The letters of numbers have room for their words, and what a wire gives for them has a letter's form.
use Rattle.std.proofs.Common.{◌≡◌, ℕ, ◌<◌, ◌^◌, Bool, true, false, cond, List, length, refl, ap, arith}
use Rattle.scalar_laws.specs.Semiring.{Semiring}
use Rattle.scalar_laws.specs.Conversions.{Conversions}
use Rattle.letter_codec.specs.declared.kind.Kind.TheVariants.{Nums, Rows}
use Rattle.matrix_arrivals.proofs.Few.{row-words-are-few, sent-few}
use Rattle.matrix_arrivals.proofs.Written.{letters-are-rows}
use Rattle.dense_arrivals.proofs.CellLetters.{cells-are-data, cells-come-in-rows}
use Rattle.matrix_moves.specs.Arrivals.{IsPlacesLetter}
use Rattle.vector_moves.specs.Moves.{IsRowsLetter}
use Rattle.std.specs.List.{flat_map}
use Rattle.model_defs.specs.Letters.{row_words as words_of_row}
use Rattle.model_defs.specs.Plans.{sent_rows}
use Rattle.model_defs.specs.Shapes.{is_dense, shape}
use Rattle.model_defs.specs.Stages.{transfer_at}
use Rattle.model_defs.proofs.KnownStages.{known-stage}
use Rattle.rank_stages.specs.LetterLaws.{row_words}
use Rattle.rank_makings.specs.declared.coming.Coming.TheVariants.{Cells, Rows as ComingRows}
use Rattle.rank_makings.specs.Laws.{LettersHaveForm, WordsAreFew}
use Rattle.rank_makings.proofs.CellLetters.{of-cells}
use Rattle.rank_makings.proofs.RowLetters.{of-rows}

pub words-are-few : WordsAreFew
words-are-few job files k stage p q m valid fits sends = by (is_dense (shape job k).sort) refl
  where
    by : (b : Bool) → is_dense (shape job k).sort ≡ b → length (row_words job files k stage p q) < 2 ^ 64
    by true e =
        let known = known-stage job k stage m sends in
        let words = (cells-are-data job files k stage p q (record { valid = valid; fitting = fits; below = known.0; dense = e; known = known.1 })).1 in
        let many = ap (λ ws. length ws) words in
        let few = sent-few job valid files (transfer_at job k stage) p q in
        omega (arith, many, few)
    by false e = row-words-are-few job files k stage p q valid (known-stage job k stage m sends).0 (ap (λ b. cond b Nums Rows) e)

pub letters-have-form : {S : Type 0} (R : Semiring S) (F : Conversions S) → LettersHaveForm R F
letters-have-form R F e (Cells c) name bytes h letter =
    let is = cells-come-in-rows R F e.job e.files e.k e.stage name bytes (of-cells R F e.job e.files e.me e.pieces e.given e.k e.stage e.now c h) letter.read in
    (Nums, (sent_rows e.job e.files (transfer_at e.job e.k e.stage) name.from name.to, (is.numbers, (is.letter, is.whole))))
letters-have-form R F e (ComingRows c) name bytes h letter =
    let is = letters-are-rows R F e.job e.files e.k e.stage name bytes (of-rows R F e.job e.files e.me e.pieces e.given e.k e.stage e.now c h) letter.read in
    (Rows, (flat_map (words_of_row is.places is.width) (sent_rows e.job e.files (transfer_at e.job e.k e.stage) name.from name.to), (is.numbers, (is.letter, is.whole))))

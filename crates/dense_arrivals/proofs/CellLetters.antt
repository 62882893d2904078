-- The letters of the numbers of vectors and parts.
use Rattle.std.proofs.Common.{◌≡◌, ℕ, zero, suc, ◌<◌, ◌*◌, Bool, true, false, cond, ltb, List, [], ◌∷◌, length, Some, refl, sym, ap, ◌∙◌, arith, length-append, lt-ltb, ltb-true}
use Rattle.std.proofs.Math.Nat.{mul_comm}
use Rattle.std.specs.Prelude.{is_some}
use Rattle.std.proofs.lemmas.List.{length-map}
use Rattle.scalar_laws.specs.Semiring.{Semiring}
use Rattle.scalar_laws.specs.Conversions.{Conversions}
use Rattle.tables.specs.Indices.{count_from, stands}
use Rattle.tables.specs.Tables.{all_cells, found}
use Rattle.distributor.proofs.Numbered.{length-count_from}
use Rattle.letter_codec.specs.declared.kind.Kind.TheVariants.{Nums, Rows}
use Rattle.letter_codec.specs.Letters.{IsLetter, letter_bytes}
use Rattle.vector_moves.proofs.Absorbing.{same-numbers}
use Rattle.mm_text.specs.Reading.{File}
use Rattle.model_defs.specs.declared.job.Job.{Job}
use Rattle.model_defs.specs.declared.job.Step.TheVariants as step
use Rattle.model_defs.specs.declared.phase.About.TheVariants.{SendNumbers}
use Rattle.model_defs.specs.declared.shape.Sort.TheVariants.{Matrix, Split}
use Rattle.model_defs.specs.Letters.{entry_places, sent_places, width, words_of_rows}
use Rattle.model_defs.specs.Limits.{most_size}
use Rattle.model_defs.specs.Machine.{cells_at, place_bytes}
use Rattle.model_defs.specs.Makers.{GivenMatrix, GivenParts, GivenVector, Made, Maker, maker_of}
use Rattle.model_defs.specs.Maps.{size_of}
use Rattle.model_defs.specs.Phases.{phase_for, send_kind}
use Rattle.model_defs.specs.Plans.{sent_rows}
use Rattle.model_defs.specs.Shapes.{is_dense, shape, shape_by}
use Rattle.model_defs.specs.Stages.{transfer_at}
use Rattle.model_defs.specs.Transfers.{transfers_by}
use Rattle.model_defs.specs.Valid.{IsValidMaker}
use Rattle.model_defs.proofs.Bounds.{entries-are-small}
use Rattle.model_defs.proofs.Firsts.{all-weaker}
use Rattle.model_defs.proofs.KnownShapes.{shape-of-made}
use Rattle.rank_stages.specs.DataLaws.{copied_by, full_places, row_places}
use Rattle.rank_stages.specs.LetterLaws.{row_words}
use Rattle.rank_stages.proofs.Copies.{copies_are_full}
use Rattle.rank_stages.proofs.ShortLists.{sent-few}
use Rattle.dense_arrivals.specs.DenseLetters.{CellsAreContent, CellsAreData, CellsAreFull, CellsAreTables, CellsComeInRows, IsOfCells}
use Rattle.dense_arrivals.proofs.ApplyPlaces.{sent-full}
use Rattle.dense_arrivals.proofs.Full.{cells-of-rows}

length-places : (w : ℕ) (rows : List ℕ) → length (full_places w rows) ≡ length rows * w
length-places w [] = omega arith
length-places w (i ∷ is) =
    let row : length (row_places w i) ≡ w = length-map (count_from 0 w) (λ j. record { row = i; col = j; value = tt }) ∙ length-count_from 0 w in
    let rest = length-places w is in
    let both = length-append (row_places w i) (full_places w is) in
    omega (arith, row, rest, both)

length-full : (w : ℕ) (rows : List ℕ) → length (full_places w rows) ≡ w * length rows
length-full w rows = length-places w rows ∙ mul_comm (length rows) w

module _ (job : Job) (files : List File) (k : ℕ) where
  width-is : is_dense (shape job k).sort ≡ true → width job files k ≡ (shape job k).columns
  width-is e = ap (λ b. cond b (shape job k).columns (size_of job (shape job k).domain)) e

  pub kind-is : is_dense (shape job k).sort ≡ true → send_kind job k ≡ Nums
  kind-is e = ap (λ b. cond b Nums Rows) e

  pub words-are : is_dense (shape job k).sort ≡ true → (stage p q : ℕ) → row_words job files k stage p q ≡ sent_rows job files (transfer_at job k stage) p q
  words-are e stage p q =
      ap (λ kind. words_of_rows job files kind (entry_places job files p k stage) (width job files k) (sent_rows job files (transfer_at job k stage) p q)) (kind-is e)

  -- where each row that is sent has all columns
  full-of : is_dense (shape job k).sort ≡ true → (stage p q : ℕ)
      → ((i j : ℕ) → stands i (sent_rows job files (transfer_at job k stage) p q) ≡ true → is_some (entry_places job files p k stage i j) ≡ ltb j (shape job k).columns)
      → sent_places job files k stage p q ≡ full_places (shape job k).columns (sent_rows job files (transfer_at job k stage) p q)
  full-of e stage p q there =
      ap (λ w. all_cells (entry_places job files p k stage) (sent_rows job files (transfer_at job k stage) p q) (count_from 0 w)) (width-is e)
      ∙ cells-of-rows (entry_places job files p k stage) (sent_rows job files (transfer_at job k stage) p q) (shape job k).columns
      (λ i j h l. there i j h ∙ lt-ltb j (shape job k).columns l)

  module _ (stage p q : ℕ) (c : IsOfCells job files k stage) where
    abbrev Full : Type 0
    Full = sent_places job files k stage p q ≡ full_places (shape job k).columns (sent_rows job files (transfer_at job k stage) p q)

    -- a statement that sends cells as they are has one transfer
    copied : (source : ℕ) → copied_by (maker_of job k) ≡ Some source → is_dense (shape job source).sort ≡ true → stage < 1 → Full
    copied source e d l = by stage l
      where
        by : (t : ℕ) → t < 1 → sent_places job files k t p q ≡ full_places (shape job k).columns (sent_rows job files (transfer_at job k t) p q)
        by zero m = copies_are_full job files k source p q (record { valid = c.valid; fitting = c.fitting; below = c.below; is = e; dense = d })
        by (suc t) m = absurd (omega arith)

    full : Full
    full = by (maker_of job k) refl (c.valid.values k c.below) (shape-of-made job c.valid k c.below) c.known
      where
        by : (m : Maker) → maker_of job k ≡ m → IsValidMaker job k m → shape job k ≡ shape_by k (shape job) m → stage < length (transfers_by job k m) → Full
        by (GivenVector spec) e v g l = absurd (omega arith)
        by (GivenParts spec) e v g l = absurd (omega arith)
        by (GivenMatrix spec) e v g l = absurd (let t = sym (thin spec.split) ∙ sym (ap (λ s. is_dense s.sort) g) ∙ c.dense in let bad : ⊥ = cc in bad)
          where
            thin : (b : Bool) → is_dense (cond b Split Matrix) ≡ false
            thin true = refl
            thin false = refl
        by (Made (step.Move name source m)) e v g l = copied source (ap copied_by e) (sym (ap (λ s. is_dense s.sort) g) ∙ c.dense) l
        by (Made (step.Import name source onto mode)) e v g l = copied source (ap copied_by e) (ap is_dense v.0.1) l
        by (Made (step.Export name source onto mode)) e v g l = copied source (ap copied_by e) (ap is_dense v.0.1) l
        by (Made (step.Spread name source m)) e v g l = copied source (ap copied_by e) (ap is_dense v.0.1) l
        by (Made (step.Update name x y alpha beta)) e v g l = absurd (omega arith)
        by (Made (step.Scale name value alpha)) e v g l = absurd (omega arith)
        by (Made (step.Apply name a x y alpha beta transposed)) e v g l =
            full-of c.dense stage p q (λ i j h. sent-full job files c.valid c.fitting k c.below name a x y alpha beta transposed e p q stage c.known i j h)
        by (Made (step.Transpose name a)) e v g l = absurd (let t = sym (ap is_dense v.1) ∙ sym (ap (λ s. is_dense s.sort) g) ∙ c.dense in let bad : ⊥ = cc in bad)
        by (Made (step.Multiply name a b)) e v g l = absurd (let t = sym (ap is_dense v.0.1) ∙ sym (ap (λ s. is_dense s.sort) g) ∙ c.dense in let bad : ⊥ = cc in bad)
        by (Made (step.Add name a b alpha beta)) e v g l = absurd (let t = sym (ap is_dense v.0.1) ∙ sym (ap (λ s. is_dense s.sort) g) ∙ c.dense in let bad : ⊥ = cc in bad)
        by (Made (step.Assemble name source onto mode)) e v g l = absurd (let t = sym (ap (λ s. is_dense s.sort) g) ∙ c.dense in let bad : ⊥ = cc in bad)
        by (Made (step.Print value)) e v g l = absurd v

    -- the numbers of these rows, all columns of each
    is-letter : (numbers : List ℕ) → length numbers ≡ 32 * length (sent_places job files k stage p q) → IsLetter Nums (sent_rows job files (transfer_at job k stage) p q) numbers
    is-letter numbers long = record {
      few = (let l = sent-few job files c.valid (transfer_at job k stage) p q in omega (arith, l));
      fit = all-weaker (λ w. ltb w most_size) (λ w. ltb w 18446744073709551616) (λ w e. lt-ltb w 18446744073709551616 (let l = ltb-true w most_size e in omega (arith, l)))
          (sent_rows job files (transfer_at job k stage) p q) (entries-are-small job files (phase_for k Nums (SendNumbers stage)) (record { phase = 0; from = p; to = q }) c.valid);
      count = length (sent_places job files k stage p q);
      pieces = long;
      form = ((shape job k).columns, ap length full ∙ length-full (shape job k).columns (sent_rows job files (transfer_at job k stage) p q));
    }

pub cells-are-full : CellsAreFull
cells-are-full job files k stage p q c = full job files k stage p q c

pub cells-are-data : CellsAreData
cells-are-data job files k stage p q c = (kind-is job files k c.dense, words-are job files k c.dense stage p q)

module _ {S : Type 0} (R : Semiring S) (F : Conversions S) where
  pub cells-are-content : CellsAreContent R F
  cells-are-content job files k stage p q t c =
      sym (λ s. letter_bytes (kind-is job files k c.dense s) (words-are job files k c.dense stage p q s) (place_bytes R F t (full job files k stage p q c s)))

  pub cells-come-in-rows : CellsComeInRows R F
  cells-come-in-rows job files k stage name bytes c read =
      record {
        numbers = read.numbers;
        letter = is-letter job files k stage name.from name.to c read.numbers read.many;
        each = read.many ∙ ap (λ n. 32 * n) (ap length (full job files k stage name.from name.to c)
            ∙ length-places (shape job k).columns (sent_rows job files (transfer_at job k stage) name.from name.to));
        whole = read.whole ∙ (λ s. letter_bytes (kind-is job files k c.dense s) (words-are job files k c.dense stage name.from name.to s) read.numbers);
      }

  pub cells-are-tables : CellsAreTables R F
  cells-are-tables job files k stage name bytes c letter read =
      let rows = sent_rows job files (transfer_at job k stage) name.from name.to in
      let form = is-letter job files k stage name.from name.to c read.numbers read.many in
      let same = (same-numbers Nums Nums rows rows letter.numbers read.numbers letter.letter.few form.few
      (sym letter.whole ∙ read.whole ∙ (λ s. letter_bytes (kind-is job files k c.dense s) (words-are job files k c.dense stage name.from name.to s) read.numbers))).1 in
      ap (λ ns. found (cells_at F (full_places (shape job k).columns rows) ns)) same
      ∙ ap (λ ps. found (cells_at F ps read.numbers)) (sym (full job files k stage name.from name.to c))
      ∙ ap found (sym read.cells)

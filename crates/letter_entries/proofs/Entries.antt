-- The entries of a job's letters.
use Rattle.std.proofs.Common.{◌≡◌, ℕ, ◌+◌, ◌*◌, ◌<◌, ◌≤◌, Bool, true, false, cond, List, [], ◌∷◌, ◌++◌, map, length, drop, get_or, Some, refl, sym, ap, subst, ◌∙◌, arith, zero, suc}
use Rattle.std.specs.Prelude.{slice_get}
use Rattle.std.specs.List.{flat_map}
use Rattle.std.specs.Option.{option_map}
use Rattle.std.proofs.lemmas.List.{length-map}
use Rattle.scalar_laws.specs.Semiring.{Semiring}
use Rattle.scalar_laws.specs.Conversions.{AreConversions, Conversions}
use Rattle.tables.specs.Tables.{Table}
use Rattle.letter_codec.specs.declared.kind.Kind.{Kind}
use Rattle.letter_codec.specs.declared.kind.Kind.TheVariants.{Reg, Ask, Tell, Want, Offer, Nums, Rows}
use Rattle.letter_codec.specs.Letters.{IsLetter, letter_bytes}
use Rattle.letter_codec.specs.Parts.{IsEntryCount}
use Rattle.letter_codec.proofs.SameRows.{same_rows}
use Rattle.letter_codec.proofs.WrittenNumbers.{length-number_bytes}
use Rattle.vector_moves.specs.Moves.{IsRowsLetter}
use Rattle.matrix_moves.proofs.Read.{are-rows, count-places, row_at}
use Rattle.mm_text.specs.Reading.{File}
use Rattle.outside.specs.declared.name.Name.{Name}
use Rattle.peers.specs.Protocols.{Letter, only}
use Rattle.model_defs.specs.declared.job.Job.{Job}
use Rattle.model_defs.specs.declared.phase.About.{About}
use Rattle.model_defs.specs.declared.phase.About.TheVariants.{RegisterMap, AskOwners, TellOwners, SharePlan, SendNumbers}
use Rattle.model_defs.specs.declared.phase.Phase.{Phase}
use Rattle.model_defs.specs.declared.phase.Plan.{Plan}
use Rattle.model_defs.specs.declared.phase.Plan.TheVariants.{ImportPlan, ExportPlan, ColumnPlan, RowPlan}
use Rattle.model_defs.specs.Fitting.{IsFitting}
use Rattle.model_defs.specs.Letters.{entries_about, entry_places, letter_entries, letter_names, letter_places, letter_words, row_words as words_of_row, sent_places, width, words_about, words_of_rows}
use Rattle.model_defs.specs.Limits.{most_indices}
use Rattle.model_defs.specs.Machine.{arrivals, cells_at, index_length, job_protocol, letter_of_phase, names_before, no_phase, place_bytes}
use Rattle.model_defs.specs.Makers.{value_count}
use Rattle.model_defs.specs.Phases.{phase_for, phases, send_kind, share_kind}
use Rattle.model_defs.specs.Plans.{One, sent_rows}
use Rattle.model_defs.specs.Shapes.{is_dense, shape}
use Rattle.model_defs.specs.Stages.{rank_entries, transfer_at}
use Rattle.model_defs.specs.Valid.{IsValid}
use Rattle.model_defs.proofs.Bounds.{entries-are-small}
use Rattle.model_defs.proofs.Decoding.{numbers-behind}
use Rattle.rank_stages.specs.LetterLaws.{IsRead, kind_about, row_words, sends_numbers}
use Rattle.rank_stages.proofs.LetterForms.{packed, phase-at, phases_have_kinds, plan-letter}
use Rattle.value_phases.proofs.NumberedPhases.{jobs-have-value-phases}
use Rattle.matrix_arrivals.proofs.Few.{narrow, sent-few, words-few}
use Rattle.matrix_arrivals.proofs.Written.{words-fit}
use Rattle.dense_arrivals.specs.DenseLetters.{IsOfCells}
use Rattle.dense_arrivals.proofs.CellLetters.{cells-are-data, cells-come-in-rows}
use Rattle.letter_entries.specs.Laws.{LettersHaveJobEntries}

-- ---- bytes that are a letter

-- These bytes are a letter of these words, which are so many entries.
record HasEntryCount (bytes : List ℕ) (kind : Kind) (words : List ℕ) (many : ℕ) : Type 0 where
  pub numbers : List ℕ
  pub whole : bytes ≡ letter_bytes kind words numbers
  pub letter : IsLetter kind words numbers
  pub counted : (count : ℕ) → IsEntryCount kind words count → count ≡ many

-- whether entries are rows with their columns
abbrev are_rows : Kind → Bool
are_rows Rows = true
are_rows _ = false

-- where they are not, each word is one
words-counted : (kind : Kind) (words : List ℕ) (count : ℕ) → are_rows kind ≡ false → IsEntryCount kind words count → count ≡ length words
words-counted Reg words count e is = is
words-counted Ask words count e is = is
words-counted Tell words count e is = is
words-counted Want words count e is = is
words-counted Offer words count e is = is
words-counted Nums words count e is = is
words-counted Rows words count e is = absurd (cc)

share-plain : (plan : Plan) → are_rows (share_kind plan) ≡ false
share-plain (ImportPlan source target) = refl
share-plain (ExportPlan source target) = refl
share-plain (ColumnPlan v) = refl
share-plain (RowPlan v) = refl

plan-plain : (job : Job) (k : ℕ) (about : About) → sends_numbers about ≡ false → are_rows (kind_about job k about) ≡ false
plan-plain job k (RegisterMap m) e = refl
plan-plain job k (AskOwners plan) e = refl
plan-plain job k (TellOwners plan) e = refl
plan-plain job k (SharePlan plan) e = share-plain plan
plan-plain job k (SendNumbers t) e = absurd (cc)

-- ---- the words of rows

-- the words of rows are as many entries as rows
rows-counted : (t : Table One) (w : ℕ) (rows : List ℕ) (count : ℕ) → IsEntryCount Rows (flat_map (words_of_row t w) rows) count → count ≡ length rows
rows-counted t w rows count is =
    is.2
    ∙ ap length (same_rows is.0 (map (row_at t w) rows) (sym is.1.0 ∙ (are-rows t w rows).0))
    ∙ length-map rows (row_at t w)

-- ---- the letters of a job

module _ {S : Type 0} (R : Semiring S) (F : Conversions S) (FL : AreConversions F) (job : Job) (files : List File) (valid : IsValid job) (fit : IsFitting job files) (n : Name) (given : List Letter) where
  abbrev bytes : List ℕ
  bytes = (job_protocol R F job files).content n given

  abbrev Counted : Phase → Type 0
  Counted phase = HasEntryCount bytes phase.kind (letter_words job files phase n) (length (letter_entries job files phase n))

  -- in a phase that makes plans
  plan-counted : (phase : Phase) → slice_get (phases job) n.phase ≡ Some phase → sends_numbers phase.about ≡ false → Counted phase
  plan-counted phase at plain =
      let kind : phase.kind ≡ kind_about job phase.value phase.about = phases_have_kinds job n.phase phase at in
      subst (λ ws. HasEntryCount bytes phase.kind ws (length (letter_entries job files phase n))) (sym (words phase.about plain))
      (record {
        numbers = [];
        whole = packed R F job files n phase given at plain;
        letter = subst (λ k. IsLetter k (letter_entries job files phase n) []) (sym kind)
            (plan-letter job files valid n.phase phase.value phase.about n.from n.to (ap (option_map (λ (x : Phase). x.about)) at) plain);
        counted = λ count is. words-counted phase.kind (letter_entries job files phase n) count (ap are_rows kind ∙ plan-plain job phase.value phase.about plain) is;
      })
    where
      words : (about : About) → sends_numbers about ≡ false → words_about job files phase.kind phase.value about n.from n.to ≡ entries_about job files phase.value about n.from n.to
      words (RegisterMap m) e = refl
      words (AskOwners plan) e = refl
      words (TellOwners plan) e = refl
      words (SharePlan plan) e = refl
      words (SendNumbers t) e = absurd (cc)

  -- in one that sends the numbers of transfer t
  module _ (phase : Phase) (t : ℕ) (at : slice_get (phases job) n.phase ≡ Some phase) (about : phase.about ≡ SendNumbers t) where
    abbrev k : ℕ
    k = phase.value

    abbrev rows : List ℕ
    rows = sent_rows job files (transfer_at job k t) n.from n.to

    abbrev before : List Letter
    before = only (names_before n (letter_names job files)) given

    abbrev sending : Phase
    sending = record { kind = send_kind job k; value = k; about = SendNumbers t }

    kind : phase.kind ≡ send_kind job k
    kind = phases_have_kinds job n.phase phase at ∙ ap (kind_about job k) about

    whole : phase ≡ sending
    whole = λ i. record { kind = kind i; value = k; about = about i }

    here : get_or (phases job) n.phase no_phase ≡ sending
    here = phase-at (phases job) n.phase no_phase phase at ∙ whole

    abbrev numbers : List ℕ
    numbers = place_bytes R F (rank_entries R F job files n.from (arrivals R F job files n.from before) k t) (sent_places job files k t n.from n.to)

    content : bytes ≡ letter_bytes (send_kind job k) (row_words job files k t n.from n.to) numbers
    content = ap (λ x. letter_of_phase R F job files x n before) here

    below : k < value_count job
    below = (jobs-have-value-phases job valid).below n.phase phase at

    many : length numbers ≡ 32 * length (sent_places job files k t n.from n.to)
    many = length-number_bytes F FL _ ∙ ap (λ m. 32 * m) (length-map (sent_places job files k t n.from n.to) _)

    -- its own bytes are such as a wire gives
    read : IsRead R F job files n bytes k t
    read = record {
      numbers = numbers;
      whole = content;
      many = many;
      cells = ap (λ x. cells_at F (letter_places job files x n) (drop (index_length (letter_words job files x n)) bytes)) here
          ∙ ap (λ bs. cells_at F (sent_places job files k t n.from n.to) (drop (index_length (row_words job files k t n.from n.to)) bs)) content
          ∙ ap (cells_at F (sent_places job files k t n.from n.to)) (numbers-behind (send_kind job k) (row_words job files k t n.from n.to) numbers);
    }

    -- of a vector or of parts the words are the rows
    cells-counted : is_dense (shape job k).sort ≡ true → Counted sending
    cells-counted dense =
        let cells : IsOfCells job files k t = record {
          valid = valid;
          fitting = fit;
          below = below;
          dense = dense;
          known = (jobs-have-value-phases job valid).stages n.phase t phase at about;
        } in
        let data-is = cells-are-data job files k t n.from n.to cells in
        let is : IsRowsLetter (shape job k).columns bytes rows = cells-come-in-rows R F job files k t n bytes cells read in
        subst (λ d. HasEntryCount bytes d (row_words job files k t n.from n.to) (length rows)) (sym data-is.0)
        (subst (λ ws. HasEntryCount bytes Nums ws (length rows)) (sym data-is.1)
        (record { numbers = is.numbers; whole = is.whole; letter = is.letter; counted = λ count c. c }))

    -- of a matrix each row is an entry
    rows-have-count : is_dense (shape job k).sort ≡ false → Counted sending
    rows-have-count sparse =
        subst (λ d. HasEntryCount bytes d (words_of_rows job files d places (width job files k) rows) (length rows)) (sym is-rows)
        (record {
          numbers = numbers;
          whole = content ∙ ap (λ d. letter_bytes d (words_of_rows job files d places (width job files k) rows) numbers) is-rows;
          letter = record {
            few = (let words = words-few places (width job files k) narrowed rows in
                let sent = sent-few job valid files (transfer_at job k t) n.from n.to in
                omega (arith, words, sent));
            fit = words-fit places (width job files k) narrowed rows (entries-are-small job files (phase_for k Reg (SendNumbers t)) n valid);
            count = length (sent_places job files k t n.from n.to);
            pieces = many;
            form = (map (row_at places (width job files k)) rows, are-rows places (width job files k) rows, count-places places (width job files k) rows);
          };
          counted = rows-counted places (width job files k) rows;
        })
      where
        places : Table One
        places = entry_places job files n.from k t

        is-rows : send_kind job k ≡ Rows
        is-rows = ap (λ b. cond b Nums Rows) sparse

        narrowed : width job files k ≤ most_indices
        narrowed = narrow job valid files k below is-rows

    sent-counted : Counted phase
    sent-counted = subst Counted (sym whole) (by (is_dense (shape job k).sort) refl)
      where
        by : (b : Bool) → is_dense (shape job k).sort ≡ b → Counted sending
        by true e = cells-counted e
        by false e = rows-have-count e

  all-counted : (phase : Phase) → slice_get (phases job) n.phase ≡ Some phase → Counted phase
  all-counted phase at = by phase.about refl
    where
      by : (about : About) → phase.about ≡ about → Counted phase
      by (RegisterMap m) e = plan-counted phase at (ap sends_numbers e)
      by (AskOwners plan) e = plan-counted phase at (ap sends_numbers e)
      by (TellOwners plan) e = plan-counted phase at (ap sends_numbers e)
      by (SharePlan plan) e = plan-counted phase at (ap sends_numbers e)
      by (SendNumbers t) e = sent-counted phase t at e

pub letters-have-job-entries : {S : Type 0} (R : Semiring S) (F : Conversions S) (FL : AreConversions F) → LettersHaveJobEntries R F
letters-have-job-entries R F FL = λ job files phase name given valid fit at.
    let h = all-counted R F FL job files valid fit name given phase at in
    record { numbers = h.numbers; whole = h.whole; letter = h.letter; counted = h.counted }

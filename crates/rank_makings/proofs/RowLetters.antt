-- The letters of the rows of a matrix.
use Rattle.std.proofs.Common.{◌≡◌, ℕ, ◌<◌, ◌≤◌, Bool, true, false, cond, List, length, refl, sym, ap, ◌∙◌, subst, arith}
use Rattle.std.specs.Prelude.{is_some}
use Rattle.scalar_laws.specs.Semiring.{Semiring}
use Rattle.scalar_laws.specs.Conversions.{Conversions}
use Rattle.tables.specs.Indices.{AreBelow}
use Rattle.tables.specs.Tables.{Table, found}
use Rattle.combine_modes.specs.Modes.{after_one}
use Rattle.crs_matrix.specs.Rows.{row_table}
use Rattle.letter_codec.specs.declared.kind.Kind.TheVariants.{Nums, Rows}
use Rattle.letter_codec.specs.Letters.{letter_bytes}
use Rattle.map_core.specs.Plans.{export_list}
use Rattle.matrix_arrivals.specs.RowLetters.{IsOfRows}
use Rattle.matrix_arrivals.specs.RowPlans.{IsServing}
use Rattle.matrix_arrivals.proofs.Written.{letters-are-rows, letters-are-tables, rows-are-content}
use Rattle.matrix_moves.specs.Arrivals.{ArrivingRowsState, IsPlacesLetter, after_table, cells_of_letter, rows_from}
use Rattle.matrix_moves.specs.Sources.{HasWidth, rows_letter, rows_to}
use Rattle.mm_text.specs.Reading.{File}
use Rattle.outside.specs.declared.name.Name.{Name}
use Rattle.peers.specs.Protocols.{Letter}
use Rattle.model_defs.specs.declared.job.Job.{Job}
use Rattle.model_defs.specs.Laws.{HasRowLaws}
use Rattle.model_defs.specs.Letters.{entry_places, sent_places, width}
use Rattle.model_defs.specs.Machine.{letter_table, place_bytes}
use Rattle.model_defs.specs.Phases.{send_kind}
use Rattle.model_defs.specs.Plans.{one_conversions, one_semiring, sent_rows, structure_before}
use Rattle.model_defs.specs.Stages.{is_fixed, transfer_at}
use Rattle.model_defs.proofs.AllRows.{fitting, one_laws, row-laws}
use Rattle.model_defs.proofs.Whole.{are_before}
use Rattle.rank_stages.specs.JobStages.{target_so_far}
use Rattle.rank_stages.specs.LetterLaws.{IsRead, row_words}
use Rattle.rank_pieces.specs.declared.pieces.Piece.{Piece}
use Rattle.rank_makings.specs.declared.coming.RowsComing.{RowsComing}
use Rattle.rank_makings.specs.Comings.{AreRowsComing, own_entries}
use Rattle.rank_makings.proofs.Between.{exports-many, known-rank}

module _ {S : Type 0} (R : Semiring S) (F : Conversions S) (job : Job) (files : List File) (me : ℕ) (pieces : List (Piece S)) (given : List Letter)
    (k stage : ℕ) (now : Table S) (c : RowsComing S) (h : AreRowsComing R F job files me pieces given k stage now c) where
  kind-is : send_kind job k ≡ Rows
  kind-is = ap (λ b. cond b Nums Rows) h.sparse

  pub of-rows : IsOfRows job k
  of-rows = record { valid = h.between.valid; below = h.between.below; rows = kind-is }

  -- ---- what is packed

  pub rows-rank : (q : ℕ) → q < job.ranks → q < c.arriving.plan.ranks
  rows-rank q l = known-rank R F job files me pieces given k stage h.sent.rows c.arriving.fill.rows c.arriving.plan h.between q l

  pub rows-some : (to : ℕ) → to < job.ranks → 1 ≤ length (sent_rows job files (transfer_at job k stage) me to) → 1 ≤ length (export_list c.arriving.plan to)
  rows-some to l some = subst (λ n. 1 ≤ n) (sym (exports-many R F job files me pieces given k stage h.sent.rows c.arriving.fill.rows c.arriving.plan h.between to l)) some

  pub rows-below : (to : ℕ) → AreBelow (length h.sent.rows) (export_list c.arriving.plan to)
  rows-below to = h.between.serves.sources to

  laws : HasRowLaws one_semiring one_conversions job files
  laws = row-laws one_laws one_conversions job files h.between.valid (fitting job files h.between.fitting)

  pub rows-width : HasWidth (width job files k) (row_table h.sent)
  rows-width i j e =
      laws.widths k h.between.below (λ v i j. 0) (structure_before job files k)
      (are_before one_laws one_conversions job files laws (λ v i j. 0) k (let l = h.between.below in omega (arith, l))) stage me i j h.between.known
      (sym (h.placed i j) ∙ e)

  pub rows-content : (to : ℕ) → to < job.ranks
      → rows_letter F (width job files k) (row_table h.sent) (rows_to c.arriving.plan h.sent.rows to)
      ≡ letter_bytes (send_kind job k) (row_words job files k stage me to)
      (place_bytes R F (own_entries R F job files me pieces given k stage) (sent_places job files k stage me to))
  rows-content to l =
      ap (rows_letter F (width job files k) (row_table h.sent)) (h.between.serves.sent to l)
      ∙ rows-are-content R F job files k stage me to (row_table h.sent) kind-is h.placed
      ∙ ap (λ t. letter_bytes (send_kind job k) (row_words job files k stage me to) (place_bytes R F t (sent_places job files k stage me to))) h.entries

  -- ---- what comes

  module _ (name : Name) (bytes : List ℕ) (from : name.from < job.ranks) (to : name.to ≡ me) (read : IsRead R F job files name bytes k stage) where
    rows-are : rows_from c.arriving.plan c.arriving.fill.rows name.from ≡ sent_rows job files (transfer_at job k stage) name.from name.to
    rows-are = h.between.serves.come name.from from ∙ ap (sent_rows job files (transfer_at job k stage) name.from) (sym to)

    letter-of : IsPlacesLetter bytes (sent_rows job files (transfer_at job k stage) name.from name.to)
    letter-of = letters-are-rows R F job files k stage name bytes of-rows read

    pub rows-letter : IsPlacesLetter bytes (rows_from c.arriving.plan c.arriving.fill.rows name.from)
    rows-letter = subst (IsPlacesLetter bytes) (sym rows-are) letter-of

    -- what came is combined as in the job
    table-after : (table : Table S)
        → ((letter : IsPlacesLetter bytes (rows_from c.arriving.plan c.arriving.fill.rows name.from))
        → table ≡ after_table R c.arriving.mode (row_table c.arriving.fill) (found (cells_of_letter F bytes (rows_from c.arriving.plan c.arriving.fill.rows name.from) letter)))
        → (λ i j. after_one R (target_so_far R F job files me given k stage).mode (is_fixed job k) (now i j) (letter_table R F job files (name, bytes) i j)) ≡ table
    table-after table combined =
        let here = subst (λ rows. (letter : IsPlacesLetter bytes rows) → table ≡ after_table R c.arriving.mode (row_table c.arriving.fill) (found (cells_of_letter F bytes rows letter))) rows-are combined in
        (λ t i j. after_one R (sym h.mode t) (h.sparse t) (h.table t i j) (sym (letters-are-tables R F job files k stage name bytes of-rows read letter-of) t i j))
        ∙ sym (here letter-of)

    pub rows-absorbed : (new : ArrivingRowsState S) → new.plan ≡ c.arriving.plan → new.mode ≡ c.arriving.mode → new.fill.rows ≡ c.arriving.fill.rows
        → ((letter : IsPlacesLetter bytes (rows_from c.arriving.plan c.arriving.fill.rows name.from))
        → row_table new.fill ≡ after_table R c.arriving.mode (row_table c.arriving.fill) (found (cells_of_letter F bytes (rows_from c.arriving.plan c.arriving.fill.rows name.from) letter)))
        → AreRowsComing R F job files me pieces given k stage
        (λ i j. after_one R (target_so_far R F job files me given k stage).mode (is_fixed job k) (now i j) (letter_table R F job files (name, bytes) i j)) (record c { arriving = new })
    rows-absorbed new plan mode same combined = record {
      sparse = h.sparse;
      sent = h.sent;
      sent_is = h.sent_is;
      between = record {
        valid = h.between.valid;
        fitting = h.between.fitting;
        within = h.between.within;
        below = h.between.below;
        known = h.between.known;
        source_is = h.between.source_is;
        target_is = same ∙ h.between.target_is;
        serves =
            subst (λ map. IsServing job files (transfer_at job k stage) me h.sent.rows map new.plan) (sym same)
            (subst (λ p. IsServing job files (transfer_at job k stage) me h.sent.rows c.arriving.fill.rows p) (sym plan) h.between.serves);
      };
      entries = h.entries;
      placed = h.placed;
      mode = mode ∙ h.mode;
      table = table-after (row_table new.fill) combined;
    }

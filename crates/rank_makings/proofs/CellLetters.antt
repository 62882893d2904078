-- The letters of the cells of a vector or of parts.
use Rattle.std.proofs.Common.{◌≡◌, ℕ, ◌<◌, ◌≤◌, true, List, length, map, sym, ap, ◌∙◌, subst, arith}
use Rattle.std.specs.Option.{unwrap_or}
use Rattle.scalar_laws.specs.Semiring.{Semiring}
use Rattle.scalar_laws.specs.Conversions.{Conversions}
use Rattle.tables.specs.Indices.{AreBelow}
use Rattle.tables.specs.Tables.{Table}
use Rattle.combine_modes.specs.declared.mode.Mode.{Mode}
use Rattle.combine_modes.specs.Modes.{after_one}
use Rattle.letter_codec.specs.Letters.{letter_bytes, number_bytes}
use Rattle.map_core.specs.Plans.{export_list}
use Rattle.mm_text.specs.Reading.{File}
use Rattle.multivector.specs.Vectors.{HasSameShape}
use Rattle.outside.specs.declared.name.Name.{Name}
use Rattle.peers.specs.Protocols.{Letter}
use Rattle.vector_moves.specs.Moves.{IsRowsLetter}
use Rattle.model_defs.specs.declared.job.Job.{Job}
use Rattle.model_defs.specs.Letters.{sent_places}
use Rattle.model_defs.specs.Machine.{letter_table, place_bytes}
use Rattle.model_defs.specs.Phases.{send_kind}
use Rattle.model_defs.specs.Plans.{sent_rows}
use Rattle.model_defs.specs.Shapes.{shape}
use Rattle.model_defs.specs.Stages.{is_fixed, transfer_at}
use Rattle.rank_stages.specs.DataLaws.{full_places}
use Rattle.rank_stages.specs.JobStages.{target_so_far}
use Rattle.rank_stages.specs.LetterLaws.{IsRead, row_words}
use Rattle.rank_transfers.specs.Arrivals.{ArrivingState, after_table, numbers_table, rows_from, rows_to, table_letter}
use Rattle.rank_values.specs.Vectors.{global_table}
use Rattle.dense_arrivals.specs.DenseLetters.{IsOfCells}
use Rattle.dense_arrivals.proofs.CellLetters.{cells-are-content, cells-are-full, cells-are-tables, cells-come-in-rows}
use Rattle.matrix_arrivals.specs.RowPlans.{IsServing}
use Rattle.rank_pieces.specs.declared.pieces.Piece.{Piece}
use Rattle.rank_makings.specs.declared.coming.CellsComing.{CellsComing}
use Rattle.rank_makings.specs.Comings.{AreCellsComing, own_entries}
use Rattle.rank_makings.proofs.Between.{exports-many, known-rank}
use Rattle.rank_makings.proofs.Numbers.{numbers-agree}

module _ {S : Type 0} (R : Semiring S) (F : Conversions S) (job : Job) (files : List File) (me : ℕ) (pieces : List (Piece S)) (given : List Letter)
    (k stage : ℕ) (now : Table S) (c : CellsComing S) (h : AreCellsComing R F job files me pieces given k stage now c) where
  pub of-cells : IsOfCells job files k stage
  of-cells = record { valid = h.between.valid; fitting = h.between.fitting; below = h.between.below; dense = h.dense; known = h.between.known }

  -- ---- what is packed

  pub cells-rank : (q : ℕ) → q < job.ranks → q < c.arriving.plan.ranks
  cells-rank q l = known-rank R F job files me pieces given k stage h.sent.map c.arriving.vector.map c.arriving.plan h.between q l

  pub cells-columns : h.sent.columns ≡ c.arriving.vector.columns
  cells-columns = h.sent_columns ∙ sym h.columns

  pub cells-some : (to : ℕ) → to < job.ranks → 1 ≤ length (sent_rows job files (transfer_at job k stage) me to) → 1 ≤ length (export_list c.arriving.plan to)
  cells-some to l some = subst (λ n. 1 ≤ n) (sym (exports-many R F job files me pieces given k stage h.sent.map c.arriving.vector.map c.arriving.plan h.between to l)) some

  pub cells-below : (to : ℕ) → AreBelow (length h.sent.map) (export_list c.arriving.plan to)
  cells-below to = h.between.serves.sources to

  -- its numbers are those of the rank's entries
  numbers-are : (to : ℕ) → to < job.ranks
      → place_bytes R F (global_table h.sent) (sent_places job files k stage me to)
      ≡ place_bytes R F (own_entries R F job files me pieces given k stage) (sent_places job files k stage me to)
  numbers-are to l =
      let entries = own_entries R F job files me pieces given k stage in
      let full = cells-are-full job files k stage me to of-cells in
      ap (place_bytes R F (global_table h.sent)) full
      ∙ ap (number_bytes F) (numbers-agree R (global_table h.sent) entries (shape job k).columns (sent_rows job files (transfer_at job k stage) me to) (λ i j e. h.entries.1 to i j l e))
      ∙ ap (place_bytes R F entries) (sym full)

  pub cells-content : (to : ℕ) → to < job.ranks
      → table_letter R F h.sent.columns (global_table h.sent) (rows_to c.arriving.plan h.sent.map to)
      ≡ letter_bytes (send_kind job k) (row_words job files k stage me to)
      (place_bytes R F (own_entries R F job files me pieces given k stage) (sent_places job files k stage me to))
  cells-content to l =
      (λ t. table_letter R F (h.sent_columns t) (global_table h.sent) (h.between.serves.sent to l t))
      ∙ cells-are-content R F job files k stage me to (global_table h.sent) of-cells
      ∙ ap (letter_bytes (send_kind job k) (row_words job files k stage me to)) (numbers-are to l)

  -- ---- what comes

  module _ (name : Name) (bytes : List ℕ) (from : name.from < job.ranks) (to : name.to ≡ me) (read : IsRead R F job files name bytes k stage) where
    rows-are : rows_from c.arriving.plan c.arriving.vector.map name.from ≡ sent_rows job files (transfer_at job k stage) name.from name.to
    rows-are = h.between.serves.come name.from from ∙ ap (sent_rows job files (transfer_at job k stage) name.from) (sym to)

    letter-of : IsRowsLetter (shape job k).columns bytes (sent_rows job files (transfer_at job k stage) name.from name.to)
    letter-of = cells-come-in-rows R F job files k stage name bytes of-cells read

    pub cells-letter : IsRowsLetter c.arriving.vector.columns bytes (rows_from c.arriving.plan c.arriving.vector.map name.from)
    cells-letter =
        subst (λ rows. IsRowsLetter c.arriving.vector.columns bytes rows) (sym rows-are)
        (subst (λ n. IsRowsLetter n bytes (sent_rows job files (transfer_at job k stage) name.from name.to)) (sym h.columns) letter-of)

    -- what came is combined as in the job
    table-after : (table : Table S)
        → ((letter : IsRowsLetter c.arriving.vector.columns bytes (rows_from c.arriving.plan c.arriving.vector.map name.from))
        → table ≡ after_table R c.arriving.mode (global_table c.arriving.vector) (numbers_table F c.arriving.vector.columns (rows_from c.arriving.plan c.arriving.vector.map name.from) letter.numbers))
        → (λ i j. after_one R (target_so_far R F job files me given k stage).mode (is_fixed job k) (now i j) (letter_table R F job files (name, bytes) i j)) ≡ table
    table-after table combined =
        let sent = sent_rows job files (transfer_at job k stage) name.from name.to in
        let here = subst (λ n. (letter : IsRowsLetter n bytes sent) → table ≡ after_table R c.arriving.mode (global_table c.arriving.vector) (numbers_table F n sent letter.numbers)) h.columns
        (subst (λ rows. (letter : IsRowsLetter c.arriving.vector.columns bytes rows) → table ≡ after_table R c.arriving.mode (global_table c.arriving.vector) (numbers_table F c.arriving.vector.columns rows letter.numbers))
        rows-are combined) in
        (λ t i j. after_one R (sym h.mode t) (h.dense t) (h.table t i j) (sym (cells-are-tables R F job files k stage name bytes of-cells letter-of read) t i j))
        ∙ sym (here letter-of)

    pub cells-absorbed : (new : ArrivingState S) → new.plan ≡ c.arriving.plan → new.mode ≡ c.arriving.mode → HasSameShape c.arriving.vector new.vector
        → ((letter : IsRowsLetter c.arriving.vector.columns bytes (rows_from c.arriving.plan c.arriving.vector.map name.from))
        → global_table new.vector
        ≡ after_table R c.arriving.mode (global_table c.arriving.vector) (numbers_table F c.arriving.vector.columns (rows_from c.arriving.plan c.arriving.vector.map name.from) letter.numbers))
        → AreCellsComing R F job files me pieces given k stage
        (λ i j. after_one R (target_so_far R F job files me given k stage).mode (is_fixed job k) (now i j) (letter_table R F job files (name, bytes) i j)) (record c { arriving = new })
    cells-absorbed new plan mode same combined = record {
      dense = h.dense;
      sent = h.sent;
      sent_is = h.sent_is;
      between = record {
        valid = h.between.valid;
        fitting = h.between.fitting;
        within = h.between.within;
        below = h.between.below;
        known = h.between.known;
        source_is = h.between.source_is;
        target_is = same.0 ∙ h.between.target_is;
        serves =
            subst (λ map. IsServing job files (transfer_at job k stage) me h.sent.map map new.plan) (sym same.0)
            (subst (λ p. IsServing job files (transfer_at job k stage) me h.sent.map c.arriving.vector.map p) (sym plan) h.between.serves);
      };
      sent_columns = h.sent_columns;
      columns = same.1 ∙ h.columns;
      entries = h.entries;
      mode = mode ∙ h.mode;
      table = table-after (global_table new.vector) combined;
    }

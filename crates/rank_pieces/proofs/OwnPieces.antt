-- A rank's pieces of the values of a job, one after the other.
use Rattle.std.proofs.Common.{◌≡◌, ℕ, zero, suc, ◌+◌, ◌<◌, ◌≤◌, ◌⊎◌, inl, inr, cond, List, [], ◌∷◌, ◌++◌, length, get_or, Some, refl, sym, ap, ◌∙◌, subst, arith}
use Rattle.std.specs.Prelude.{slice_get}
use Rattle.std.proofs.lemmas.Bool.{cases_lt, lt-ltb}
use Rattle.std.proofs.lemmas.List.{length-append, length-map, get_or_append_left, get_or_push}
use Rattle.std.proofs.lemmas.Option.{get_or_from_slice_get, slice_get-get_or, slice_get_within}
use Rattle.scalar_laws.specs.Semiring.{Semiring}
use Rattle.scalar_laws.specs.Conversions.{Conversions}
use Rattle.tables.specs.Indices.{count_from}
use Rattle.tables.specs.Tables.{Table, nowhere}
use Rattle.mm_text.specs.Reading.{File}
use Rattle.mm_text.specs.declared.file_data.Line.{Line}
use Rattle.multivector.specs.Vectors.{VectorState}
use Rattle.peers.specs.Protocols.{Letter}
use Rattle.model_defs.specs.declared.job.Job.{Job}
use Rattle.model_defs.specs.declared.phase.Way.{Way}
use Rattle.model_defs.specs.Given.{given}
use Rattle.model_defs.specs.Machine.{arrivals, piece}
use Rattle.model_defs.specs.Makers.{Maker, maker_of, value_count}
use Rattle.model_defs.specs.Maps.{list_of}
use Rattle.model_defs.specs.Pieces.{piece_of}
use Rattle.model_defs.specs.Shapes.{shape}
use Rattle.model_defs.specs.Stages.{first_pieces, gathered_after, made_by, last_way, stage_count}
use Rattle.model_defs.specs.Transfers.{transfers}
use Rattle.model_defs.specs.Turns.{Each}
use Rattle.rank_stages.proofs.MadeValues.{first_pieces_are_pieces, pieces_are_made}
use Rattle.rank_share.specs.declared.share.Share.{Share}
use Rattle.rank_share.specs.Shares.{cell_count, share, value_lines}
use Rattle.rank_share.proofs.Positions.{cells-before}
use Rattle.rank_share.proofs.SharedCells.{law-of-cells}
use Rattle.rank_values.specs.Vectors.{global_table, lines_on}
use Rattle.rank_pieces.specs.declared.pieces.Piece.{Piece}
use Rattle.rank_pieces.specs.declared.pieces.Piece.TheVariants as of
use Rattle.rank_pieces.specs.Inputs.{IsRankInput}
use Rattle.rank_pieces.specs.Pieces.{AreOwnPieces, IsOwnPiece}
use Rattle.rank_pieces.proofs.Makers.{by-cells, cells-dense}

length-count : (n k : ℕ) → length (count_from n k) ≡ k
length-count n zero = refl
length-count n (suc k) = ap suc (length-count (n + 1) k)

-- a share has the cells of each vector and of each parts
pub share-many : (job : Job) (files : List File) (me : ℕ) → length (share job files me).cells ≡ cell_count job
share-many job files me = length-map (count_from 0 (cell_count job)) (value_lines job files me) ∙ length-count 0 (cell_count job)

module _ {S : Type 0} (R : Semiring S) (F : Conversions S) (job : Job) (files : List File) (me : ℕ) (g : List Letter) where
  -- a piece is made of those before it and of what was gathered
  pub piece-is : (k : ℕ) (m : Maker) → k < value_count job → maker_of job k ≡ m → piece R F job files me k g
      ≡ made_by R F job files me k (last_way (transfers job k)) (first_pieces R F job files me (arrivals R F job files me g) k)
      (gathered_after R F job files me (arrivals R F job files me g) k (first_pieces R F job files me (arrivals R F job files me g) k) (stage_count job k)) m
  piece-is k m known e =
      pieces_are_made R F job files me k g known
      ∙ ap (made_by R F job files me k (last_way (transfers job k)) (first_pieces R F job files me (arrivals R F job files me g) k)
      (gathered_after R F job files me (arrivals R F job files me g) k (first_pieces R F job files me (arrivals R F job files me g) k) (stage_count job k))) e

  pub before : (k x : ℕ) → x < k → k < value_count job → first_pieces R F job files me (arrivals R F job files me g) k x ≡ piece R F job files me x g
  before k x l known = first_pieces_are_pieces R F job files me k x g known ∙ ap (λ b. cond b (piece R F job files me x g) nowhere) (lt-ltb x k l)

  -- what a rank makes of a given vector or of given parts
  abbrev IsGiven : ℕ → Maker → Type 0
  IsGiven k m = (way : Way) (before : Each (Table S)) (came : Table S) → made_by R F job files me k way before came m ≡ piece_of job (shape job k) me (given R F job files k m)

  is-given : (k : ℕ) → k < cell_count job → IsGiven k (maker_of job k)
  is-given k l = by-cells job (IsGiven k) (λ spec way before came. refl) (λ spec way before came. refl) k l

  pub given-own : (own : Share) → IsRankInput F job files me own → (k : ℕ) (v : VectorState S) → k < cell_count job → v.map ≡ list_of job (shape job k).rows me → v.columns ≡ (shape job k).columns
      → global_table v ≡ lines_on R F (list_of job (shape job k).rows me) (shape job k).columns (get_or own.cells k []) → IsOwnPiece R F job files me g k (of.Vector v)
  given-own own input k v l same many table =
      let known : k < value_count job = (let b = cells-before job in omega arith) in
      record {
        of = record { dense = cells-dense job input.valid k l; map = same; columns = many };
        table =
            table
            ∙ ap (λ s. lines_on R F (list_of job (shape job k).rows me) (shape job k).columns (get_or s.cells k [])) input.given
            ∙ sym (law-of-cells R F job files input.valid input.fitting me k input.rank l)
            ∙ sym (piece-is k (maker_of job k) known refl ∙ is-given k l (last_way (transfers job k)) (first_pieces R F job files me (arrivals R F job files me g) k)
            (gathered_after R F job files me (arrivals R F job files me g) k (first_pieces R F job files me (arrivals R F job files me g) k) (stage_count job k)));
      }

  -- the same, as it is read and made
  pub given-read : (own : Share) → IsRankInput F job files me own → (k m columns : ℕ) (list : List ℕ) (lines : List Line) (v : VectorState S) → k < cell_count job
      → m ≡ (shape job k).rows → columns ≡ (shape job k).columns → list ≡ list_of job m me → lines ≡ get_or own.cells k []
      → v.map ≡ list → v.columns ≡ columns → global_table v ≡ lines_on R F list columns lines → IsOwnPiece R F job files me g k (of.Vector v)
  given-read own input k m columns list lines v low row col is read same many cells =
      let whole : list ≡ list_of job (shape job k).rows me = is ∙ ap (λ n. list_of job n me) row in
      given-own own input k v low (same ∙ whole) (many ∙ col) (cells ∙ (λ t. lines_on R F (whole t) (col t) (read t)))

  -- one more
  pub one-more : (n : ℕ) (pieces : List (Piece S)) (p : Piece S) → AreOwnPieces R F job files me g n pieces → IsOwnPiece R F job files me g n p
      → AreOwnPieces R F job files me g (n + 1) (pieces ++ p ∷ [])
  one-more n pieces p own new =
      let many = own.many in
      record {
        many = length-append pieces (p ∷ []) ∙ (let two : length pieces + 1 ≡ n + 1 = omega arith in two);
        each = λ k w at. go k w at (cases_lt k (length pieces));
      }
    where
      go : (k : ℕ) (w : Piece S) → slice_get (pieces ++ p ∷ []) k ≡ Some w → (k < length pieces) ⊎ (length pieces ≤ k) → IsOwnPiece R F job files me g k w
      go k w at (inl low) =
          let one : get_or pieces k w ≡ w = sym (get_or_append_left pieces (p ∷ []) w k low) ∙ get_or_from_slice_get (pieces ++ p ∷ []) k w w at in
          own.each k w (slice_get-get_or pieces k w low ∙ ap (λ x. Some x) one)
      go k w at (inr high) =
          let short = slice_get_within (pieces ++ p ∷ []) k w at in
          let len : length (pieces ++ p ∷ []) ≡ length pieces + 1 = length-append pieces (p ∷ []) in
          let many = own.many in
          let end : k ≡ length pieces = omega arith in
          let here : k ≡ n = omega arith in
          let one : p ≡ w = sym (get_or_push pieces p w k (sym end)) ∙ get_or_from_slice_get (pieces ++ p ∷ []) k w w at in
          subst (λ m. IsOwnPiece R F job files me g m w) (sym here) (subst (IsOwnPiece R F job files me g n) one new)

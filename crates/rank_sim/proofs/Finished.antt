-- All ranks of a job that are finished.
use Rattle.std.proofs.Common.{◌≡◌, ℕ, zero, suc, ◌+◌, ◌<◌, inl, inr, Bool, true, false, List, [], ◌∷◌, ◌++◌, map, length, get_or, Option, Some, refl, sym, ap, ◌∙◌, subst, arith}
use Rattle.std.specs.Prelude.{slice_get}
use Rattle.std.specs.Global.{Vec}
use Rattle.std.proofs.lemmas.Bool.{cases_lt}
use Rattle.std.proofs.lemmas.Option.{slice_get_within}
use Rattle.scalar_laws.specs.Semiring.{Semiring}
use Rattle.scalar_laws.specs.Conversions.{Conversions, AreConversions}
use Rattle.tables.specs.declared.Cell.{Cell}
use Rattle.tables.specs.Tables.{found}
use Rattle.mm_text.specs.Reading.{File}
use Rattle.outside.specs.declared.name.Name.{Name}
use Rattle.outside.specs.MailRoom.{names_of}
use Rattle.peers.specs.Peers.{PeerState, at_rest}
use Rattle.peers.specs.Protocols.{Letter, firsts, stands_in}
use Rattle.schedule.proofs.Contents.{stands_in-to_rank}
use Rattle.message_play.specs.Plays.{given_to}
use Rattle.model_defs.specs.declared.job.Job.{Job}
use Rattle.model_defs.specs.Letters.{letter_names}
use Rattle.model_defs.specs.Machine.{job_protocol, piece}
use Rattle.model_defs.specs.Sheets.{is_any_over}
use Rattle.model_defs.proofs.Protocols.{jobs_are_protocols}
use Rattle.rank_core.specs.declared.rank.Rank.{Rank}
use Rattle.rank_core.specs.Ranks.{IsEntriesGiven, IsFinished, IsRank, is_over_there, result_table}
use Rattle.rank_sim.specs.Ranks.{AreFinished}
use Rattle.rank_sim.specs.Runs.{gathered_values}
use Rattle.rank_sim.proofs.Overs.{over-piece, piece-over}
use Rattle.rank_sim.proofs.RankResults.{each-stands, result-is}

module _ {S : Type 0} {R : Semiring S} {F : Conversions S} (job : Job) (files : List File) (letters : List Letter) (ranks : List (Rank S)) (all : AreFinished R F job files letters ranks) where
  abbrev pub state : ℕ → PeerState
  state p = at_rest (job_protocol R F job files) p (given_to p (firsts letters))

  below : (k : ℕ) (rank : Rank S) → slice_get ranks k ≡ Some rank → k < job.ranks
  below k rank there = subst (λ n. k < n) all.many (slice_get_within ranks k rank there)

  stands-at : (k : ℕ) (rank : Rank S) → slice_get ranks k ≡ Some rank → IsRank R F rank (state k)
  stands-at k rank there = each-stands (IsRank R F) state ranks job.ranks all.many all.stands k rank there

  -- each of them stands so, and is finished
  pub finished-at : (k : ℕ) (rank : Rank S) → slice_get ranks k ≡ Some rank → (s : PeerState) × (IsRank R F rank s × IsFinished s)
  finished-at k rank there = (state k, (stands-at k rank there, all.finished k (below k rank there)))

  -- what a rank says of the letters that were given to it
  pub entries-at : (k phase sender : ℕ) (rank : Rank S) (result : Option ℕ) → slice_get ranks k ≡ Some rank
      → ((s : PeerState) → IsRank R F rank s → IsFinished s → IsEntriesGiven s.given (record { phase = phase; from = sender; to = s.me }) result)
      → IsEntriesGiven (given_to k (firsts letters)) (record { phase = phase; from = sender; to = k }) result
  entries-at k phase sender rank result there h = h (state k) (stands-at k rank there) (all.finished k (below k rank there))

  -- all letters of the job came
  pub all-came : (y : Name) → stands_in (letter_names job files) y ≡ true → stands_in (names_of (firsts letters)) y ≡ true
  all-came y named =
      sym (stands_in-to_rank y.to y refl (firsts letters))
      ∙ (all.finished y.to ((jobs_are_protocols R F job files).to_rank y named)).given y named refl

  module _ (FL : AreConversions F) where
    -- the cells of a rank are those of its piece
    pub cells-of-piece : (k v : ℕ) (rank : Rank S) (cells : List (Cell S)) → slice_get ranks k ≡ Some rank
        → ((s : PeerState) → IsRank R F rank s → IsFinished s → found cells ≡ result_table F s v) → found cells ≡ piece R F job files k v (firsts letters)
    cells-of-piece k v rank cells there h =
        h (state k) (stands-at k rank there) (all.finished k (below k rank there)) ∙ result-is R F job files k (firsts letters) FL v

    -- one of the ranks has a number that is over
    pub some-over : (k : ℕ) (rank : Rank S) → slice_get ranks k ≡ Some rank
        → ((s : PeerState) → IsRank R F rank s → IsFinished s → (v : ℕ) × ((i : ℕ) × ((j : ℕ) × (is_over_there F (result_table F s v i j) ≡ true))))
        → is_any_over F job (gathered_values R F job files letters) ≡ true
    some-over k rank there h =
        let over = h (state k) (stands-at k rank there) (all.finished k (below k rank there)) in
        piece-over R F job files all.input.valid all.input.fitting (firsts letters) all-came k over.0 over.1.0 over.1.1.0 (below k rank there)
        (ap (λ t. is_over_there F (t over.1.0 over.1.1.0)) (sym (result-is R F job files k (firsts letters) FL over.0)) ∙ over.1.1.1)

    -- none of the ranks has one
    pub none-over : ((k : ℕ) (rank : Rank S) → slice_get ranks k ≡ Some rank → (s : PeerState) → IsRank R F rank s → IsFinished s → (v i j : ℕ) → is_over_there F (result_table F s v i j) ≡ false)
        → is_any_over F job (gathered_values R F job files letters) ≡ false
    none-over h = by (is_any_over F job (gathered_values R F job files letters)) refl
      where
        by : (b : Bool) → is_any_over F job (gathered_values R F job files letters) ≡ b → b ≡ false
        by false e = refl
        by true e =
            let at = over-piece R F job files all.input.valid all.input.fitting (firsts letters) all-came e in
            let rank = all.stands at.0 at.4 in
            let none = h at.0 rank.0 rank.1 (state at.0) rank.2 (all.finished at.0 at.4) at.1 at.2 at.3 in
            let bad : false ≡ true = sym none ∙ ap (λ t. is_over_there F (t at.2 at.3)) (result-is R F job files at.0 (firsts letters) FL at.1) ∙ at.5 in
            absurd (cc)

-- ---- lists of pieces

module _ {S : Type 0} where
  abbrev cells-at : List (Vec (Cell S)) → ℕ → List (Cell S)
  cells-at pieces p = get_or (map (λ piece. piece.items) pieces) p []

  pub front-piece : (xs : List (Vec (Cell S))) (y : Vec (Cell S)) (p : ℕ) → p < length xs → cells-at (xs ++ y ∷ []) p ≡ cells-at xs p
  front-piece [] y p l = absurd (omega arith)
  front-piece (x ∷ xs) y zero l = refl
  front-piece (x ∷ xs) y (suc p) l = front-piece xs y p (omega arith)

  pub last-piece : (xs : List (Vec (Cell S))) (y : Vec (Cell S)) → cells-at (xs ++ y ∷ []) (length xs) ≡ y.items
  last-piece [] y = refl
  last-piece (x ∷ xs) y = last-piece xs y

  -- one more piece
  pub pieces-push : (P : ℕ → List (Cell S) → Type 0) (xs : List (Vec (Cell S))) (y : Vec (Cell S)) (count : ℕ) → length xs ≡ count
      → ((p : ℕ) → p < count → P p (cells-at xs p)) → P count y.items → (p : ℕ) → p < count + 1 → P p (cells-at (xs ++ y ∷ []) p)
  pieces-push P xs y count long all last p l = elim (cases_lt p count) [
    | inl low ↦ subst (P p) (sym (front-piece xs y p (omega arith))) (all p low)
    | inr high ↦
        let same : p ≡ count = omega arith in
        subst (λ k. P k (cells-at (xs ++ y ∷ []) k)) (sym same) (subst (P count) (sym (ap (cells-at (xs ++ y ∷ [])) (sym long) ∙ last-piece xs y)) last)
  ]

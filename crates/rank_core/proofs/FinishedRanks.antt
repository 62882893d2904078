-- The results of a rank that is finished.
use Rattle.std.proofs.Common.{◌≡◌, ℕ, zero, suc, ◌<◌, ◌≤◌, inl, inr, true, false, cond, List, [], ◌∷◌, length, Option, None, Some, refl, sym, ap, ◌∙◌, subst, arith}
use Rattle.std.specs.Prelude.{slice_get}
use Rattle.std.specs.Option.{option_map}
use Rattle.std.proofs.lemmas.Bool.{cases_lt, ne_eqb}
use Rattle.std.proofs.lemmas.Option.{same_Some, slice_get_past, slice_get_within}
use Rattle.scalar_laws.specs.Semiring.{Semiring}
use Rattle.scalar_laws.specs.Conversions.{Conversions, AreConversions}
use Rattle.tables.specs.Tables.{nowhere}
use Rattle.mm_text.specs.Reading.{File}
use Rattle.outside.specs.declared.name.Name.{Name}
use Rattle.rank_pieces.specs.declared.pieces.Piece.{Piece}
use Rattle.rank_pieces.specs.Pieces.{piece_table}
use Rattle.peers.specs.Peers.{PeerState, was_given}
use Rattle.peers.specs.Protocols.{Letter, stands_in}
use Rattle.rank_phases.specs.Phases.{absorbed}
use Rattle.rank_phases.specs.PhasedPeers.{IsResult}
use Rattle.model_defs.specs.declared.job.Job.{Job}
use Rattle.model_defs.specs.Machine.{arrivals, piece}
use Rattle.model_defs.specs.Makers.{value_count}
use Rattle.model_defs.specs.Phases.{phases}
use Rattle.model_defs.specs.Stages.{make_piece}
use Rattle.model_defs.specs.Turns.{Each, in_turn}
use Rattle.job_phases.proofs.ByPhase.{goes-by-phase}
use Rattle.rank_stages.proofs.MadeValues.{pieces_are_by_phase}
use Rattle.rank_values.specs.Vectors.{HasOver, is_over_there}
use Rattle.rank_core.specs.declared.rank.Rank.{Rank}
use Rattle.rank_core.specs.declared.worker.JobWorker.{JobWorker}
use Rattle.rank_core.specs.Counts.{count_of}
use Rattle.rank_core.specs.Pieces.{count_before, made_count}
use Rattle.rank_core.specs.Ranks.{IsRank}
use Rattle.rank_core.specs.Results.{IsEntriesGiven, IsFinished, result_table}
use Rattle.rank_core.specs.Workers.{IsJobWorker}
use Rattle.rank_core.proofs.GivenLetters.{absorbed-entries, given-early}

-- nothing is made in turn from the first n on
beyond : {A : Type 0} (none : A) (rule : ℕ → Each A → A) (n v : ℕ) → n ≤ v → in_turn none rule n v ≡ none
beyond none rule zero v l = refl
beyond none rule (suc n) v l =
    ap (λ b. cond b (rule n (in_turn none rule n)) (in_turn none rule n v)) (ne_eqb v n (λ e. absurd (omega arith))) ∙ beyond none rule n v (omega arith)

-- there is no piece of a value that is not there
piece-beyond : {S : Type 0} (R : Semiring S) (F : Conversions S) (job : Job) (files : List File) (p v : ℕ) (g : List Letter) → value_count job ≤ v
    → piece R F job files p v g ≡ nowhere
piece-beyond R F job files p v g l = beyond nowhere (make_piece R F job files p (arrivals R F job files p g)) (value_count job) v l

there : {A : Type 0} (xs : List A) (k : ℕ) → k < length xs → (a : A) × (slice_get xs k ≡ Some a)
there [] k l = absurd (omega arith)
there (x ∷ xs) zero l = (x, refl)
there (x ∷ xs) (suc k) l = there xs k (omega arith)

module _ {S : Type 0} (R : Semiring S) (F : Conversions S) (laws : AreConversions F) (worker : JobWorker S) (s : PeerState) (result : IsResult (IsJobWorker R F) worker s)
    (done : IsFinished s) where
  -- it has entered the end
  ended : result.entered ≡ suc (length (phases worker.job.value))
  ended = result.at_end done.given ∙ ap suc result.stands_so.book.stage.phases

  -- and made all values
  many : length worker.values.items ≡ value_count worker.job.value
  many =
      result.stands_so.values.many ∙ ap (made_count worker.job.value) ended
      ∙ ap (count_before worker.job.value) (slice_get_past (phases worker.job.value) (length (phases worker.job.value)) (omega arith))

  -- each letter is of one of the phases
  below : (n : Name) → stands_in s.protocol.names n ≡ true → n.phase < length (phases worker.job.value)
  below n named =
      (goes-by-phase R F worker.job.value result.stands_so.files).below n (ap (λ P. stands_in P.names n) (sym result.stands_so.book.stage.protocol) ∙ named)

  -- its results are its pieces
  result-is : (v : ℕ) → result_table F s v ≡ piece R F worker.job.value result.stands_so.files s.me v s.given
  result-is v =
      (λ t i j. option_map F.of_wire ((result.stands_so.book.stage.protocol t).results s.me s.given v i j))
      ∙ (λ t i j. back (piece R F worker.job.value result.stands_so.files s.me v s.given i j) t)
    where
      back : (o : Option S) → option_map F.of_wire (option_map F.to_wire o) ≡ o
      back None = refl
      back (Some a) = ap (λ x. Some x) (laws.wire_back a)

  -- the piece of the letters as they were absorbed is that of the letters as they were given
  absorbed-piece : (v : ℕ) → piece R F worker.job.value result.stands_so.files s.me v (absorbed result.entered s.given)
      ≡ piece R F worker.job.value result.stands_so.files s.me v s.given
  absorbed-piece v =
      ap (λ e. piece R F worker.job.value result.stands_so.files s.me v (absorbed e s.given)) ended
      ∙ pieces_are_by_phase R F worker.job.value result.stands_so.files s.me v s.given

  pub result-some : (v : ℕ) (p : Piece S) → slice_get worker.values.items v ≡ Some p → piece_table p ≡ result_table F s v
  result-some v p at =
      (result.stands_so.values.each v p at).table
      ∙ ap (λ q. piece R F worker.job.value result.stands_so.files q v (absorbed result.entered s.given)) (sym result.stands_so.worker_of.rank)
      ∙ absorbed-piece v ∙ sym (result-is v)

  pub result-none : (v : ℕ) → length worker.values.items ≤ v → result_table F s v ≡ nowhere
  result-none v long = result-is v ∙ piece-beyond R F worker.job.value result.stands_so.files s.me v s.given (let count = many in omega arith)

  -- none of the vectors is over, so no result is
  pub none-over : (n : ℕ) → length worker.values.items ≤ n
      → ((k : ℕ) (p : Piece S) → k < n → slice_get worker.values.items k ≡ Some p → (i j : ℕ) → is_over_there F (piece_table p i j) ≡ false)
      → (v i j : ℕ) → is_over_there F (result_table F s v i j) ≡ false
  none-over n all none v i j = elim (cases_lt v (length worker.values.items)) [
    | inl low ↦
        let a = there worker.values.items v low in
        ap (λ t. is_over_there F (t i j)) (sym (result-some v a.0 a.1)) ∙ none v a.0 (omega arith) a.1 i j
    | inr high ↦ ap (λ t. is_over_there F (t i j)) (result-none v high)
  ]

  -- one of them is over, so a result is
  pub some-over : (v : ℕ) (p : Piece S) → slice_get worker.values.items v ≡ Some p → HasOver F (piece_table p)
      → (w : ℕ) × ((i : ℕ) × ((j : ℕ) × (is_over_there F (result_table F s w i j) ≡ true)))
  some-over v p at over = (v, (over.0, (over.1.0, ap (λ t. is_over_there F (t over.0 over.1.0)) (sym (result-some v p at)) ∙ over.1.1)))

  -- a letter that was given is of a phase that was entered
  entered-before : (rank : Rank S) → IsRank R F rank s → (n : Name) → was_given s.given n ≡ true → n.phase < result.entered
  entered-before rank is n given =
      let low = given-early s.protocol s.me (length (phases worker.job.value)) s.given is.holds.letters below n given in
      let end = ended in omega arith

  -- what it knows of the entries of a letter is so of the letters given
  pub entries-given : (rank : Rank S) → IsRank R F rank s → (phase from : ℕ)
      → IsEntriesGiven s.given (record { phase = phase; from = from; to = s.me }) (count_of worker.counts (record { phase = phase; from = from; to = worker.me }))
  entries-given rank is phase from =
      subst (λ to. IsEntriesGiven s.given (record { phase = phase; from = from; to = s.me }) (count_of worker.counts (record { phase = phase; from = from; to = to })))
      result.stands_so.worker_of.rank
      (absorbed-entries result.entered s.given (record { phase = phase; from = from; to = s.me })
      (entered-before rank is (record { phase = phase; from = from; to = s.me }))
      (count_of worker.counts (record { phase = phase; from = from; to = s.me }))
      (result.stands_so.counts (record { phase = phase; from = from; to = s.me }) refl))

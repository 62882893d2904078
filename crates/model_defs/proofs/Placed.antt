-- On any wire the letters have their places: whatever numbers came to a rank, what it has for others has the places of the
-- letters.
use Rattle.std.proofs.Common.{◌≡◌, ℕ, zero, suc, ◌<◌, ◌≤◌, ◌⊎◌, inl, ◌+◌, inr, Bool, true, false, cond, ◌&&◌, ◌||◌, eqb, List, [], ◌∷◌, map, take, drop, Option, Some, None, refl, sym, ap, ◌∙◌, arith}
use Rattle.std.specs.Prelude.{is_some}
use Rattle.std.specs.List.{list_any}
use Rattle.std.proofs.lemmas.Bool.{eq-eqb, eqb-true, cases_lt}
use Rattle.scalar_laws.specs.Semiring.{Semiring}
use Rattle.scalar_laws.specs.Conversions.{Conversions}
use Rattle.tables.specs.declared.Cell.{Cell}
use Rattle.tables.specs.Tables.{Table, found, names, only_rows}
use Rattle.tables.specs.Indices.{stands, count_from}
use Rattle.tables.proofs.Counting.{stands-within}
use Rattle.mm_text.specs.Reading.{File}
use Rattle.outside.specs.declared.name.Name.{Name}
use Rattle.outside.specs.Letters.{same_name}
use Rattle.model_defs.specs.declared.job.Job.{Job}
use Rattle.model_defs.specs.Turns.{Each}
use Rattle.model_defs.specs.Makers.{maker_of, value_count}
use Rattle.model_defs.specs.Shapes.{shape}
use Rattle.model_defs.specs.Pieces.{Value, piece_of, has_row}
use Rattle.model_defs.specs.Eval.{make_value}
use Rattle.model_defs.specs.Transfers.{transfers}
use Rattle.model_defs.specs.Phases.{send_phase, SendNumbers}
use Rattle.model_defs.specs.Plans.{One, one_semiring, one_conversions, structure_before, brought, passes, sent_rows, rank_list_by, owns}
use Rattle.model_defs.specs.Stages.{transfer_at, stage_count, is_fixed, target_at, last_way, entries, gathered_next, gathered_after, make_piece, first_pieces, rank_entries, all_pieces, met_after, source_of}
use Rattle.model_defs.specs.Letters.{letter_names, letter_places, letter_words, places_about, sent_places, entry_places, width}
use Rattle.peers.specs.Protocols.{Letter, stands_in}
use Rattle.outside.specs.MailRoom.{names_of}
use Rattle.model_defs.specs.Machine.{cells_at, letter_table, letters_of, tables_of_phase, arrivals, phase_of, no_phase, index_length}
use Rattle.model_defs.specs.Valid.{IsValid}
use Rattle.model_defs.specs.Laws.{HasPlaces, HasRowLaws, IsEarlierStage, EntriesArePlaced}
use Rattle.model_defs.proofs.Filters.{both, and, later, same_name-true}
use Rattle.model_defs.proofs.Names.{sends-is}
use Rattle.model_defs.proofs.Phases.{stages_are_in_order}
use Rattle.model_defs.proofs.Decoding.{cell_of, found-sent}
use Rattle.model_defs.proofs.Structures.{only-places, combined-some, gathered-some, some_after, entries-places, target-places, modes-same, made-places, cond-some}
use Rattle.model_defs.proofs.Senders.{unsent-local, local-sends-none, sent-among}
use Rattle.model_defs.proofs.MatrixRows.{any-at}
use Rattle.model_defs.proofs.Whole.{are_before}
use Rattle.model_defs.proofs.AllRows.{one_laws, row-laws, made-any, fitting}
use Rattle.model_defs.proofs.Formed.{MatricesFit}
use Rattle.model_defs.proofs.KnownStages.{known-stage}
use Rattle.model_defs.proofs.Beyond.{sends-nothing, gets-nothing, keeps-nothing, sends-self-nothing}

-- ---- the places of a letter

-- whatever its bytes
cells-some : {S : Type 0} (F : Conversions S) (places : List (Cell One)) (bytes : List ℕ) (i j : ℕ) → is_some (found (cells_at F places bytes) i j) ≡ list_any (names i j) places
cells-some F [] bytes i j = refl
cells-some F (c ∷ cs) bytes i j = go ((eqb c.row i) && (eqb c.col j)) (cells-some F cs (drop 32 bytes) i j)
  where
    go : (b : Bool) → is_some (found (cells_at F cs (drop 32 bytes)) i j) ≡ list_any (names i j) cs → is_some (cond b (Some (F.of_wire (take 32 bytes))) (found (cells_at F cs (drop 32 bytes)) i j)) ≡ (b || list_any (names i j) cs)
    go true h = refl
    go false h = h

places-some : (u : Table One) (places : List (Cell One)) (i j : ℕ) → is_some (found (map (cell_of one_semiring u) places) i j) ≡ list_any (names i j) places
places-some u [] i j = refl
places-some u (c ∷ cs) i j = go ((eqb c.row i) && (eqb c.col j)) (places-some u cs i j)
  where
    go : (b : Bool) → is_some (found (map (cell_of one_semiring u) cs) i j) ≡ list_any (names i j) cs → is_some (cond b (Some tt) (found (map (cell_of one_semiring u) cs) i j)) ≡ (b || list_any (names i j) cs)
    go true h = refl
    go false h = h

-- ---- which letters came

-- a letter of this name is one of those of its phase and receiver
found-letter : (y : Name) (a : Letter → Bool) → ((l : Letter) → l.0 ≡ y → a l ≡ true) → (xs : List Letter) → stands_in (names_of xs) y ≡ true → list_any a (letters_of y.phase y.to xs) ≡ true
found-letter y a h [] e = cc
found-letter y a h (x ∷ xs) e = go (same_name y x.0) refl e (found-letter y a h xs)
  where
    go : (b : Bool) → same_name y x.0 ≡ b → b || stands_in (names_of xs) y ≡ true → (stands_in (names_of xs) y ≡ true → list_any a (letters_of y.phase y.to xs) ≡ true)
        → list_any a (cond ((eqb x.0.phase y.phase) && (eqb x.0.to y.to)) (x ∷ letters_of y.phase y.to xs) (letters_of y.phase y.to xs)) ≡ true
    go true s e rest =
        let same = same_name-true y x.0 s in
        ap (λ b. list_any a (cond b (x ∷ letters_of y.phase y.to xs) (letters_of y.phase y.to xs))) (and (eqb x.0.phase y.phase) (eqb x.0.to y.to) (eq-eqb x.0.phase y.phase (sym (ap (λ n. n.phase) same))) (eq-eqb x.0.to y.to (sym (ap (λ n. n.to) same))))
        ∙ ap (λ b. b || list_any a (letters_of y.phase y.to xs)) (h x (sym same))
    go false s e rest = by ((eqb x.0.phase y.phase) && (eqb x.0.to y.to))
      where
        by : (b : Bool) → list_any a (cond b (x ∷ letters_of y.phase y.to xs) (letters_of y.phase y.to xs)) ≡ true
        by true = later (a x) _ (rest e)
        by false = rest e

-- what each letter of a phase to a rank shows
each-letter : (n p : ℕ) (a : Letter → Bool) (c : Bool) → ((l : Letter) → l.0.phase ≡ n → l.0.to ≡ p → a l ≡ true → c ≡ true) → (xs : List Letter) → list_any a (letters_of n p xs) ≡ true → c ≡ true
each-letter n p a c h [] e = cc
each-letter n p a c h (x ∷ xs) e = go ((eqb x.0.phase n) && (eqb x.0.to p)) refl e (each-letter n p a c h xs)
  where
    go : (b : Bool) → (eqb x.0.phase n) && (eqb x.0.to p) ≡ b → list_any a (cond b (x ∷ letters_of n p xs) (letters_of n p xs)) ≡ true → (list_any a (letters_of n p xs) ≡ true → c ≡ true) → c ≡ true
    go false s e rest = rest e
    go true s e rest = by (a x) refl e
      where
        by : (d : Bool) → a x ≡ d → d || list_any a (letters_of n p xs) ≡ true → c ≡ true
        by true f e = let u = both (eqb x.0.phase n) (eqb x.0.to p) s in h x (eqb-true x.0.phase n u.0) (eqb-true x.0.to p u.1) f
        by false f e = rest e

never : {A : Type 0} → false ≡ true → A
never e = absurd (let bad : ⊥ = cc in bad)

any-mapped : {A B : Type 0} (a : B → Bool) (f : A → B) (xs : List A) → list_any a (map f xs) ≡ list_any (λ x. a (f x)) xs
any-mapped a f [] = refl
any-mapped a f (x ∷ xs) = ap (λ z. a (f x) || z) (any-mapped a f xs)

any-count : (f : ℕ → Bool) (n k : ℕ) → list_any f (count_from n k) ≡ true → (q : ℕ) × (q < n + k) × (f q ≡ true)
any-count f n zero e = absurd (let bad : ⊥ = cc in bad)
any-count f n (suc k) e = go (f n) refl e (any-count f (n + 1) k)
  where
    go : (b : Bool) → f n ≡ b → b || list_any f (count_from (n + 1) k) ≡ true → (list_any f (count_from (n + 1) k) ≡ true → (q : ℕ) × (q < (n + 1) + k) × (f q ≡ true)) → (q : ℕ) × (q < n + suc k) × (f q ≡ true)
    go true h e rest = (n, omega arith, h)
    go false h e rest = let t = rest e in (t.0, omega (arith, t.1), t.2)

both-ways : (a b : Bool) → (a ≡ true → b ≡ true) → (b ≡ true → a ≡ true) → a ≡ b
both-ways true true f g = refl
both-ways true false f g = sym (f refl)
both-ways false true f g = g refl
both-ways false false f g = refl

-- ---- what a rank gathers

module _ {S : Type 0} (R : Semiring S) (F : Conversions S) (job : Job) (files : List File) (valid : IsValid job) (fit : MatricesFit job files) (g : List Letter) (p : ℕ) where
  laws : HasRowLaws one_semiring one_conversions job files
  laws = row-laws one_laws one_conversions job files valid fit

  -- the numbers of no value
  abbrev ones : ℕ → Each (Value One)
  ones k = structure_before job files k

  abbrev met : ℕ → ℕ → Value One
  met k t = met_after one_semiring one_conversions job files (λ v i j. 0) k (ones k) t

  abbrev place_for : (k t q : ℕ) → Table One
  place_for k t q = brought job files (transfer_at job k t) (entry_places job files q k t) q p

  -- all letters to the rank for a transfer came
  abbrev HasCome : ℕ → ℕ → Type 0
  HasCome k t = (m : ℕ) → send_phase job k t ≡ Some m → (y : Name) → stands_in (letter_names job files) y ≡ true → y.to ≡ p → y.phase ≡ m → stands_in (names_of g) y ≡ true

  within : (k t q : ℕ) → k < value_count job → t < stage_count job k → (i j : ℕ) → is_some (entry_places job files q k t i j) ≡ true → j < width job files k
  within k t q l m i j e = laws.widths k l (λ v i j. 0) (ones k) (are_before one_laws one_conversions job files laws (λ v i j. 0) k (omega arith)) t q i j m e

  letter-places : (l : Letter) (k t : ℕ) → k < value_count job → t < stage_count job k → send_phase job k t ≡ Some l.0.phase → (i j : ℕ)
      → is_some (letter_table R F job files l i j) ≡ is_some (only_rows (λ r. stands r (sent_rows job files (transfer_at job k t) l.0.from l.0.to)) (entry_places job files l.0.from k t) i j)
  letter-places l k t b m phase i j =
      cells-some F (letter_places job files (phase_of R F job files l.0) l.0) (drop (index_length (letter_words job files (phase_of R F job files l.0) l.0)) l.1) i j
      ∙ (λ s. list_any (names i j) (places_about job files (about.0 s) (about.1 s) l.0.from l.0.to))
      ∙ sym (places-some (entry_places job files l.0.from k t) (sent_places job files k t l.0.from l.0.to) i j)
      ∙ (λ s. is_some (found-sent one_semiring (entry_places job files l.0.from k t) (entry_places job files l.0.from k t) (λ i j. refl) (sent_rows job files (transfer_at job k t) l.0.from l.0.to) (width job files k) (within k t l.0.from b m) s i j))
    where
      about : ((phase_of R F job files l.0).value ≡ k) × ((phase_of R F job files l.0).about ≡ SendNumbers t)
      about = sends-is job k t l.0.phase no_phase phase

  -- a place that is sent
  sent-place : (k t q i j : ℕ) → eqb q p ≡ false → is_some (place_for k t q i j) ≡ is_some (only_rows (λ r. stands r (sent_rows job files (transfer_at job k t) q p)) (entry_places job files q k t) i j)
  sent-place k t q i j e =
      ap (λ b. is_some (cond (cond b (stands i (rank_list_by job files (transfer_at job k t).plan q) && owns job files (transfer_at job k t).plan q i) (stands i (sent_rows job files (transfer_at job k t) q p))) (entry_places job files q k t i j) None)) e

  -- nothing that is not sent
  unsent : (k t a b q i j : ℕ) → sent_rows job files (transfer_at job k t) a b ≡ [] → is_some (only_rows (λ r. stands r (sent_rows job files (transfer_at job k t) a b)) (entry_places job files q k t) i j) ≡ false
  unsent k t a b q i j e = λ s. is_some (only_rows (λ r. stands r (e s)) (entry_places job files q k t) i j)

  -- a rank beyond the last has nothing of its own
  own-none : (k t i j : ℕ) → job.ranks ≤ p → is_some (place_for k t p i j) ≡ false
  own-none k t i j l =
      ap (λ b. is_some (cond (cond b (stands i (rank_list_by job files (transfer_at job k t).plan p) && owns job files (transfer_at job k t).plan p i) (stands i (sent_rows job files (transfer_at job k t) p p))) (entry_places job files p k t i j) None)) (eq-eqb p p refl)
      ∙ ap (λ b. is_some (cond b (entry_places job files p k t i j) None)) (keeps-nothing job files valid laws p l (transfer_at job k t) i)

  -- what came has the places that the ranks have for this one
  came-places : (k t : ℕ) → k < value_count job → t < stage_count job k → HasCome k t → (own : Table S) → HasPlaces own (place_for k t p) → (i j : ℕ)
      → list_any (λ u. is_some (u i j)) (own ∷ arrivals R F job files p g k t) ≡ list_any (λ q. is_some (place_for k t q i j)) (count_from 0 job.ranks)
  came-places k t below low_stage come own h i j = both-ways _ _ forth back
    where
      all : Bool
      all = list_any (λ q. is_some (place_for k t q i j)) (count_from 0 job.ranks)

      one : (q : ℕ) → q < job.ranks → is_some (place_for k t q i j) ≡ true → list_any (λ q. is_some (place_for k t q i j)) (count_from 0 job.ranks) ≡ true
      one q b e = any-at (λ q. is_some (place_for k t q i j)) q (count_from 0 job.ranks) (stands-within 0 job.ranks q (omega arith) (omega arith)) e

      from-letters : (o : Option ℕ) → send_phase job k t ≡ o → list_any (λ u. is_some (u i j)) (tables_of_phase R F job files p g o) ≡ true → list_any (λ q. is_some (place_for k t q i j)) (count_from 0 job.ranks) ≡ true
      from-letters None f e = cc
      from-letters (Some n) f e =
          each-letter n p (λ l. is_some (letter_table R F job files l i j)) (list_any (λ q. is_some (place_for k t q i j)) (count_from 0 job.ranks)) show g
          (sym (any-mapped (λ u. is_some (u i j)) (letter_table R F job files) (letters_of n p g)) ∙ e)
        where
          show : (l : Letter) → l.0.phase ≡ n → l.0.to ≡ p → is_some (letter_table R F job files l i j) ≡ true → list_any (λ q. is_some (place_for k t q i j)) (count_from 0 job.ranks) ≡ true
          show l b c d = from (eqb l.0.from p) refl (cases_lt l.0.from job.ranks)
            where
              sent : is_some (only_rows (λ x. stands x (sent_rows job files (transfer_at job k t) l.0.from p)) (entry_places job files l.0.from k t) i j) ≡ true
              sent =
                  ap (λ r. is_some (only_rows (λ x. stands x (sent_rows job files (transfer_at job k t) l.0.from r)) (entry_places job files l.0.from k t) i j)) (sym c)
                  ∙ sym (letter-places l k t below low_stage (f ∙ ap Some (sym b)) i j) ∙ d

              from : (z : Bool) → eqb l.0.from p ≡ z → (l.0.from < job.ranks) ⊎ (job.ranks ≤ l.0.from) → list_any (λ q. is_some (place_for k t q i j)) (count_from 0 job.ranks) ≡ true
              from true z o = never (sym (unsent k t l.0.from p l.0.from i j (ap (λ q. sent_rows job files (transfer_at job k t) q p) (eqb-true l.0.from p z) ∙ sends-self-nothing job files (transfer_at job k t) p)) ∙ sent)
              from false z (inl low) = one l.0.from low (sent-place k t l.0.from i j z ∙ sent)
              from false z (inr high) = never (sym (unsent k t l.0.from p l.0.from i j (sends-nothing job files valid laws l.0.from high (transfer_at job k t) p)) ∙ sent)

      forth : list_any (λ u. is_some (u i j)) (own ∷ arrivals R F job files p g k t) ≡ true → list_any (λ q. is_some (place_for k t q i j)) (count_from 0 job.ranks) ≡ true
      forth e = by (is_some (own i j)) refl e
        where
          by : (b : Bool) → is_some (own i j) ≡ b → b || list_any (λ u. is_some (u i j)) (arrivals R F job files p g k t) ≡ true → list_any (λ q. is_some (place_for k t q i j)) (count_from 0 job.ranks) ≡ true
          by true f e = mine (cases_lt p job.ranks)
            where
              mine : (p < job.ranks) ⊎ (job.ranks ≤ p) → list_any (λ q. is_some (place_for k t q i j)) (count_from 0 job.ranks) ≡ true
              mine (inl low) = one p low (sym (h i j) ∙ f)
              mine (inr high) = never (sym (own-none k t i j high) ∙ sym (h i j) ∙ f)
          by false f e = from-letters (send_phase job k t) refl e

      back : list_any (λ q. is_some (place_for k t q i j)) (count_from 0 job.ranks) ≡ true → list_any (λ u. is_some (u i j)) (own ∷ arrivals R F job files p g k t) ≡ true
      back e = let t = any-count (λ q. is_some (place_for k t q i j)) 0 job.ranks e in side t.0 (omega (arith, t.1)) t.2 (eqb t.0 p) refl
        where
          side : (q : ℕ) → q < job.ranks → is_some (place_for k t q i j) ≡ true → (b : Bool) → eqb q p ≡ b → list_any (λ u. is_some (u i j)) (own ∷ arrivals R F job files p g k t) ≡ true
          side q b e true s = ap (λ z. z || list_any (λ u. is_some (u i j)) (arrivals R F job files p g k t)) (h i j ∙ ap (λ r. is_some (place_for k t r i j)) (sym (eqb-true q p s)) ∙ e)
          side q b e false s = later (is_some (own i j)) _ (letters (send_phase job k t) refl)
            where
              sent : is_some (only_rows (λ r. stands r (sent_rows job files (transfer_at job k t) q p)) (entry_places job files q k t) i j) ≡ true
              sent = sym (sent-place k t q i j s) ∙ e

              row : stands i (sent_rows job files (transfer_at job k t) q p) ≡ true
              row = (both (stands i (sent_rows job files (transfer_at job k t) q p)) _ (sym (cond-some (stands i (sent_rows job files (transfer_at job k t) q p)) (entry_places job files q k t i j)) ∙ sent)).0

              letters : (o : Option ℕ) → send_phase job k t ≡ o → list_any (λ u. is_some (u i j)) (tables_of_phase R F job files p g o) ≡ true
              letters None f = let none = ap (stands i) (local-sends-none job files (transfer_at job k t) (unsent-local job k t below low_stage f) q p) in absurd (let t = sym row ∙ none in let bad : ⊥ = cc in bad)
              letters (Some n) f =
                  any-mapped (λ u. is_some (u i j)) (letter_table R F job files) (letters_of n p g)
                  ∙ found-letter (record { phase = n; from = q; to = p }) (λ l. is_some (letter_table R F job files l i j)) shows g (come n f (record { phase = n; from = q; to = p }) (posted (stands_in (letter_names job files) (record { phase = n; from = q; to = p })) refl) refl refl)
                where
                  posted : (c : Bool) → stands_in (letter_names job files) (record { phase = n; from = q; to = p }) ≡ c → c ≡ true
                  posted true h = refl
                  posted false h = never (sym (ap (stands i) (nothing (cases_lt p job.ranks))) ∙ row)
                    where
                      nothing : (p < job.ranks) ⊎ (job.ranks ≤ p) → sent_rows job files (transfer_at job k t) q p ≡ []
                      nothing (inl low) = sent-among job files k t n q p f b low s h
                      nothing (inr high) = gets-nothing job files valid laws p high (transfer_at job k t) q

                  shows : (x : Letter) → x.0 ≡ record { phase = n; from = q; to = p } → is_some (letter_table R F job files x i j) ≡ true
                  shows x e =
                      letter-places x k t below low_stage (f ∙ ap Some (sym (ap (λ n. n.phase) e))) i j
                      ∙ (λ s. is_some (only_rows (λ r. stands r (sent_rows job files (transfer_at job k t) (e s).from (e s).to)) (entry_places job files (e s).from k t) i j)) ∙ sent

  stage-places : (k t : ℕ) → k < value_count job → t < stage_count job k → HasCome k t → (mine : Each (Table S)) → ((v : ℕ) → HasPlaces (mine v) (all_pieces one_semiring one_conversions job files (ones k) p v))
      → (got : Table S) → HasPlaces got (met k t p) → HasPlaces (gathered_next R F job files p (arrivals R F job files p g) k mine t got) (met k (suc t) p)
  stage-places k t l m come mine h got e i j =
      gathered-some R (target_at R F job files p k t mine).mode (is_fixed job k) (target_at R F job files p k t mine).old (own ∷ arrivals R F job files p g k t) i j
      ∙ (λ s. some_after (modes-same R F job files p k t mine pieces s) (is_fixed job k) (target-places R F job files p k t mine pieces h i j s) (came-places k t l m come own placed i j s))
      ∙ sym (combined-some one_semiring (target_at one_semiring one_conversions job files p k t pieces).mode (is_fixed job k) job.ranks (target_at one_semiring one_conversions job files p k t pieces).old (place_for k t)
      (source_of job (transfer_at job k t).way (transfer_at job k t).plan (λ i j. 0)) i j)
    where
      pieces : Each (Table One)
      pieces = all_pieces one_semiring one_conversions job files (ones k) p

      own : Table S
      own = brought job files (transfer_at job k t) (entries R F job files p k t mine got) p p

      placed : HasPlaces own (place_for k t p)
      placed = only-places (passes job files (transfer_at job k t) p p) (entries R F job files p k t mine got) (entry_places job files p k t)
          (entries-places R F job files p k (transfer_at job k t).way t mine pieces got (met k t p) h e (maker_of job k))

  stages-places : (k : ℕ) → k < value_count job → (mine : Each (Table S)) → ((v : ℕ) → HasPlaces (mine v) (all_pieces one_semiring one_conversions job files (ones k) p v))
      → (t : ℕ) → t ≤ stage_count job k → ((s : ℕ) → s < t → HasCome k s) → HasPlaces (gathered_after R F job files p (arrivals R F job files p g) k mine t) (met k t p)
  stages-places k l mine h zero m come = λ i j. refl
  stages-places k l mine h (suc t) m come =
      stage-places k t l m (come t (omega arith)) mine h (gathered_after R F job files p (arrivals R F job files p g) k mine t) (stages-places k l mine h t (omega arith) (λ s b. come s (omega arith)))

  -- the pieces of the values before
  pub pieces-placed : (n : ℕ) → n ≤ value_count job → ((v s : ℕ) → v < n → HasCome v s) → (v : ℕ)
      → HasPlaces (first_pieces R F job files p (arrivals R F job files p g) n v) (all_pieces one_semiring one_conversions job files (ones n) p v)
  pieces-placed zero l come v = λ i j. none (has_row job (shape job v) p i)
    where
      none : (b : Bool) → false ≡ is_some (cond b (let absent : Option One = None in absent) None)
      none true = refl
      none false = refl
  pieces-placed (suc n) l come v = by (eqb v n) refl (pieces-placed n (omega arith) (λ v s m. come v s (omega arith)))
    where
      by : (b : Bool) → eqb v n ≡ b → ((v : ℕ) → HasPlaces (first_pieces R F job files p (arrivals R F job files p g) n v) (all_pieces one_semiring one_conversions job files (ones n) p v))
          → HasPlaces (cond b (make_piece R F job files p (arrivals R F job files p g) n (first_pieces R F job files p (arrivals R F job files p g) n)) (first_pieces R F job files p (arrivals R F job files p g) n v))
          (piece_of job (shape job v) p (cond b (make_value one_semiring one_conversions job files (λ v i j. 0) n (ones n) (maker_of job n)) (ones n v)))
      by true e rest = λ i j.
          made-places R F job files p n (last_way (transfers job n)) (first_pieces R F job files p (arrivals R F job files p g) n) (all_pieces one_semiring one_conversions job files (ones n) p)
          (gathered_after R F job files p (arrivals R F job files p g) n (first_pieces R F job files p (arrivals R F job files p g) n) (stage_count job n)) (met n (stage_count job n) p) rest
          (stages-places n (omega arith) (first_pieces R F job files p (arrivals R F job files p g) n) rest (stage_count job n) (omega arith) (λ s b. come n s (omega arith))) (maker_of job n) i j
          ∙ (λ t. is_some (made-any one_laws one_conversions job files valid fit n (omega arith) (λ v i j. 0) (ones n) (are_before one_laws one_conversions job files laws (λ v i j. 0) n (omega arith)) p t i j))
          ∙ (λ t. is_some (piece_of job (shape job (sym (eqb-true v n e) t)) p (make_value one_semiring one_conversions job files (λ v i j. 0) n (ones n) (maker_of job n)) i j))
      by false e rest = rest v

  pub entries-placed : (k t : ℕ) → k < value_count job → t < stage_count job k → ((v s : ℕ) → IsEarlierStage v s k t → HasCome v s)
      → HasPlaces (rank_entries R F job files p (arrivals R F job files p g) k t) (entry_places job files p k t)
  entries-placed k t l m come =
      entries-places R F job files p k (transfer_at job k t).way t (first_pieces R F job files p (arrivals R F job files p g) k) (all_pieces one_semiring one_conversions job files (ones k) p)
      (gathered_after R F job files p (arrivals R F job files p g) k (first_pieces R F job files p (arrivals R F job files p g) k) t) (met k t p) placed
      (stages-places k l (first_pieces R F job files p (arrivals R F job files p g) k) placed t (omega arith) (λ s b. come k s (inr (refl, b)))) (maker_of job k)
    where
      placed : (v : ℕ) → HasPlaces (first_pieces R F job files p (arrivals R F job files p g) k v) (all_pieces one_semiring one_conversions job files (ones k) p v)
      placed = pieces-placed k (omega arith) (λ v s b. come v s (inl b))

pub entries_are_placed : {S : Type 0} (R : Semiring S) (F : Conversions S) → EntriesArePlaced R F
entries_are_placed R F = λ job files g p k t n valid fits phase came.
    entries-placed R F job files valid (fitting job files fits) g p k t (known-stage job k t n phase).0 (known-stage job k t n phase).1
    (λ v s early o f y a b c. let less = stages_are_in_order job v s k t o n early f phase in came y a b (omega (arith, less, c)))

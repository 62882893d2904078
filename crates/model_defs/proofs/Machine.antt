-- With the row laws, the machine of the ranks computes the values on the global data.
use Rattle.std.proofs.Common.{◌≡◌, ℕ, zero, suc, ◌<◌, ◌+◌, ◌⊎◌, inl, inr, Bool, true, false, ◌&&◌, ◌||◌, eqb, ltb, List, [], ◌∷◌, map, Option, Some, None, refl, sym, ap, ◌∙◌, subst, arith}
use Rattle.std.specs.Prelude.{filter, is_some}
use Rattle.std.specs.List.{list_all}
use Rattle.std.specs.Option.{unwrap_or}
use Rattle.std.proofs.lemmas.Bool.{eq-eqb, eqb-true}
use Rattle.scalar_laws.specs.Semiring.{Semiring, IsSemiring}
use Rattle.scalar_laws.specs.Conversions.{Conversions, AreConversions}
use Rattle.tables.specs.Tables.{nowhere, only_rows, sum_of}
use Rattle.tables.specs.Indices.{stands, count_from, each_rank}
use Rattle.tables.proofs.Ranks.{sum_of-only_rows}
use Rattle.map_core.specs.Layouts.{owner}
use Rattle.map_core.proofs.Owners.{owner-only, owner-has, owner-none, owner-total}
use Rattle.mm_text.specs.Reading.{File}
use Rattle.combine_modes.specs.declared.mode.Mode.TheVariants.{Add}
use Rattle.combine_modes.specs.Modes.{combine, picked_of}
use Rattle.model_defs.specs.declared.job.Job.{Job}
use Rattle.model_defs.specs.Maps.{layout_of, has_index, is_mapped}
use Rattle.model_defs.specs.Makers.{maker_of, value_count}
use Rattle.model_defs.specs.Shapes.{shape, Sort, Vector, Parts, Matrix, Split, is_by_rank, is_dense}
use Rattle.model_defs.specs.Eval.{Pick, first_values, eval}
use Rattle.model_defs.specs.Pieces.{piece_of}
use Rattle.model_defs.specs.Transfers.{Way, FromOwners, ToOwners}
use Rattle.model_defs.specs.Phases.{send_phase}
use Rattle.model_defs.specs.Plans.{owns, is_target_row}
use Rattle.model_defs.specs.Operations.{filled}
use Rattle.model_defs.specs.Stages.{Arrivals, transfer_at, stage_count, is_fixed, all_pieces, source_of}
use Rattle.model_defs.specs.Letters.{letter_names}
use Rattle.peers.specs.Protocols.{Letter, firsts, stands_in}
use Rattle.outside.specs.MailRoom.{names_of}
use Rattle.model_defs.specs.CompleteRuns.{IsCompleteRun}
use Rattle.model_defs.proofs.Firsts.{firsts_beyond-all, names-firsts}
use Rattle.model_defs.specs.Machine.{job_protocol, tables_of_phase, arrivals, piece, united, gathered_value}
use Rattle.model_defs.specs.Picks.{mode_by, senders_of, pick_of}
use Rattle.model_defs.specs.Laws.{IsFormed, has_cells, IsSendable, IsOwned, HasRowLaws, RowLawsSuffice}
use Rattle.model_defs.proofs.Filters.{both, and, among-all}
use Rattle.model_defs.proofs.Names.{is_pair, names-pairs}
use Rattle.model_defs.proofs.Runs.{all-known, arrived}
use Rattle.model_defs.proofs.Senders.{senders, senders-distinct, senders-below, senders-others, letter-came, senders-names, unsent-local, local-sends-none, brought-none, sent-among}
use Rattle.model_defs.proofs.Picked.{adds, target-mode, combine-any, picked-from, picked-none, picked-owner}
use Rattle.model_defs.proofs.Structures.{had-places}
use Rattle.model_defs.proofs.Combining.{came}
use Rattle.model_defs.proofs.Whole.{had, had_for, target_of, IsPicked, IsDelivered, are_before, pieces-are}

-- lists over ranks are equal where they agree on the ranks
map-count : {A : Type 0} (n k : ℕ) (f g : ℕ → A) → ((p : ℕ) → p < n + k → f p ≡ g p) → map f (count_from n k) ≡ map g (count_from n k)
map-count n zero f g h = refl
map-count n (suc k) f g h = λ t. h n (omega arith) t ∷ map-count (n + 1) k f g (λ p l. h p (omega (arith, l))) t

each_rank-ext : {A : Type 0} (P : ℕ) (f g : ℕ → A) → ((p : ℕ) → p < P → f p ≡ g p) → each_rank P f ≡ each_rank P g
each_rank-ext P f g h = map-count 0 P f g (λ p l. h p (omega (arith, l)))

all-implied : {A : Type 0} (a b : A → Bool) → ((x : A) → a x ≡ true → b x ≡ true) → (xs : List A) → list_all a xs ≡ true → list_all b xs ≡ true
all-implied a b h [] e = refl
all-implied a b h (x ∷ xs) e = let t = both (a x) (list_all a xs) e in and (b x) _ (h x t.0) (all-implied a b h xs t.1)

either-false : (a b : Bool) → a || b ≡ false → (a ≡ false) × (b ≡ false)
either-false true b e = cc
either-false false b e = (refl, e)

eqb-swap : (a b : ℕ) → eqb a b ≡ false → eqb b a ≡ false
eqb-swap a b e = by (eqb b a) refl
  where
    by : (c : Bool) → eqb b a ≡ c → c ≡ false
    by false f = refl
    by true f = let same = eq-eqb a b (sym (eqb-true b a f)) in absurd (let bad : ⊥ = cc in bad)

module _ {S : Type 0} {R : Semiring S} (L : IsSemiring R) {F : Conversions S} (FL : AreConversions F) (job : Job) (files : List File) (laws : HasRowLaws R F job files)
    (g : List Letter) (run : IsCompleteRun (job_protocol R F job files) g) where
  abbrev pick : Pick
  pick = pick_of job files (names_of g)

  abbrev arrive : ℕ → Arrivals R F job files
  arrive q = arrivals R F job files q (firsts g)

  pairs : list_all (λ l. is_pair job.ranks l.0) (firsts g) ≡ true
  pairs = firsts_beyond-all (λ l. is_pair job.ranks l.0) [] g
      (all-implied (λ l. stands_in (letter_names job files) l.0) (λ l. is_pair job.ranks l.0) (λ l e. among-all (is_pair job.ranks) l.0 (letter_names job files) (names-pairs job files) e) g (all-known (job_protocol R F job files) g run.comes))

  sendable : (k t q : ℕ) → k < value_count job → t < stage_count job k → IsSendable job files k t q (had R F job files pick k t q)
  sendable k t q l m = (had-places R F job files pick k t q, λ i j e. laws.widths k l pick (first_values R F job files pick k) (are_before L F job files laws pick k (omega arith)) t q i j m e)

  -- the pick, where the rank owns the row: by the mode
  picked-mode : (k t p : ℕ) → k < value_count job → t < stage_count job k → (qs : List ℕ) → qs ≡ senders_of (send_phase job k t) p (names_of g) → (i j : ℕ)
      → (transfer_at job k t).way ≡ ToOwners → owns job files (transfer_at job k t).plan p i ≡ true
      → ((target_of R F job files pick k t p).mode ≡ Add) ⊎ (((target_of R F job files pick k t p).mode ≡ mode_by (maker_of job k)) × (t ≡ 0))
      → IsPicked R F job files pick k t p qs i j
  picked-mode k t p l m qs s i j way own (inl e) =
      subst (λ z. combine R z (is_fixed job k) ((target_of R F job files pick k t p).old i j) (came R (λ q. had_for R F job files pick k t p q i j) (p ∷ qs))
      (picked_of (target_of R F job files pick k t p).mode (is_fixed job k) R.nought (came R (λ q. had_for R F job files pick k t p q i j) (p ∷ qs)))
      ≡ combine R z (is_fixed job k) ((target_of R F job files pick k t p).old i j) (came R (λ q. had_for R F job files pick k t p q i j) (p ∷ qs))
      (unwrap_or (had_for R F job files pick k t p (source_of job (transfer_at job k t).way (transfer_at job k t).plan (pick k) i j) i j) R.nought))
      (sym e) (combine-any R (is_fixed job k) ((target_of R F job files pick k t p).old i j) (came R (λ q. had_for R F job files pick k t p q i j) (p ∷ qs)) _ _)
  picked-mode k zero p l m qs s i j way own (inr h) =
      picked-owner R F job files (names_of g) k p i j (had R F job files pick k 0) (target_of R F job files pick k 0 p).mode ((target_of R F job files pick k 0 p).old i j) qs
      (laws.owners k l 0 m) way own (λ q. (sendable k 0 q l m).0) h.0 s
  picked-mode k (suc t) p l m qs s i j way own (inr h) = let z = h.1 in absurd (let bad : ⊥ = cc in bad)

  picked : (k t p : ℕ) → k < value_count job → t < stage_count job k → (qs : List ℕ) → qs ≡ senders_of (send_phase job k t) p (names_of g) → (i j : ℕ) → IsPicked R F job files pick k t p qs i j
  picked k t p l m qs s i j = by_way (transfer_at job k t).way refl (owns job files (transfer_at job k t).plan p i) refl
    where
      by_way : (w : Way) → (transfer_at job k t).way ≡ w → (b : Bool) → owns job files (transfer_at job k t).plan p i ≡ b → IsPicked R F job files pick k t p qs i j
      by_way FromOwners e b o =
          picked-from R F job files (names_of g) k p i j (had R F job files pick k t) t (target_of R F job files pick k t p).mode ((target_of R F job files pick k t p).old i j) qs (laws.owners k l t m) e
      by_way ToOwners e false o =
          picked-none R F job files (names_of g) k p i j (had R F job files pick k t) t (target_of R F job files pick k t p).mode ((target_of R F job files pick k t p).old i j) qs _ _ e o
      by_way ToOwners e true o =
          picked-mode k t p l m qs s i j e o
          (target-mode R F job files k t (all_pieces R F job files (first_values R F job files pick k) p) _ (maker_of job k) e
          (adds R F job files (is_fixed job k) (transfer_at job k t).way (filled (is_target_row job files (transfer_at job k t) p) (shape job k).columns R.nought) e))

  -- all that the ranks have for each other has come
  delivered : (k t p : ℕ) → k < value_count job → t < stage_count job k → p < job.ranks → IsDelivered R F job files pick arrive k t p
  delivered k t p l m n = by (send_phase job k t) refl
    where
      by : (o : Option ℕ) → send_phase job k t ≡ o → IsDelivered R F job files pick arrive k t p
      by None e = record {
        senders = [];
        distinct = (refl, tt);
        below = (n, tt);
        rest = λ q b s. brought-none job files (transfer_at job k t) (had R F job files pick k t q) q p (eqb-swap p q (either-false (eqb p q) false s).0) (local-sends-none job files (transfer_at job k t) (unsent-local job k t l m e) q p);
        arrived = λ is. ap (tables_of_phase R F job files p (firsts g)) e;
        picks = λ i j. picked k t p l m [] (ap (λ o. senders_of o p (names_of g)) (sym e)) i j;
      }
      by (Some s) e = record {
        senders = senders s p (firsts g);
        distinct = (senders-others s p job.ranks (firsts g) pairs, senders-distinct s p g);
        below = (n, senders-below s p job.ranks (firsts g) pairs);
        rest = rest;
        arrived = λ is. ap (tables_of_phase R F job files p (firsts g)) e ∙ arrived R FL job files g run.comes run.exact k t s p e (had R F job files pick k t) is (λ q b. sendable k t q l m);
        picks = λ i j. picked k t p l m (senders s p (firsts g)) (senders-names s p (firsts g) ∙ ap (λ d. map (λ m. m.from) (filter (λ m. (eqb m.phase s) && (eqb m.to p)) d)) (names-firsts g) ∙ ap (λ o. senders_of o p (names_of g)) (sym e)) i j;
      }
        where
          rest : (q : ℕ) → q < job.ranks → stands q (p ∷ senders s p (firsts g)) ≡ false → had_for R F job files pick k t p q ≡ nowhere
          rest q b h = brought-none job files (transfer_at job k t) (had R F job files pick k t q) q p apart (sent-among job files k t s q p e b n apart (gone (stands_in (letter_names job files) (record { phase = s; from = q; to = p })) refl))
            where
              parts : (eqb p q ≡ false) × (stands q (senders s p (firsts g)) ≡ false)
              parts = either-false (eqb p q) (stands q (senders s p (firsts g))) h

              apart : eqb q p ≡ false
              apart = eqb-swap p q parts.0

              gone : (c : Bool) → stands_in (letter_names job files) (record { phase = s; from = q; to = p }) ≡ c → c ≡ false
              gone false f = refl
              gone true f =
                  let came = letter-came (record { phase = s; from = q; to = p }) g (among-all (stands_in (names_of g)) (record { phase = s; from = q; to = p }) (letter_names job files) run.complete f) in
                  let absent = parts.1 in
                  absurd (let bad : ⊥ = cc in bad)

  pieces_are : (v p : ℕ) → v < value_count job → p < job.ranks → piece R F job files p v (firsts g) ≡ piece_of job (shape job v) p (eval R F job files pick v)
  pieces_are v p l n = pieces-are L F job files laws pick arrive delivered v p l n

  formed : (v : ℕ) → v < value_count job → IsFormed job (shape job v) (eval R F job files pick v)
  formed v l = (are_before L F job files laws pick (value_count job) (omega arith)).formed v l

  -- each row of a whole value that has a cell is one rank's alone
  has-owner : (v p : ℕ) → v < value_count job → is_by_rank (shape job v).sort ≡ false → (i : ℕ)
      → ((q : ℕ) × (q < job.ranks) × ((r : ℕ) → has_index job (shape job v).rows r i ≡ eqb q r)) ⊎ ((j : ℕ) → eval R F job files pick v p i j ≡ None)
  has-owner v p l whole i = by (owner (layout_of job (shape job v).rows) i) refl
    where
      o : IsOwned job (shape job v)
      o = laws.owned v l whole

      absent : (u : Option S) → is_some u ≡ false → u ≡ None
      absent None e = refl
      absent (Some x) e = cc

      by : (u : Option ℕ) → owner (layout_of job (shape job v).rows) i ≡ u
          → ((q : ℕ) × (q < job.ranks) × ((r : ℕ) → has_index job (shape job v).rows r i ≡ eqb q r)) ⊎ ((j : ℕ) → eval R F job files pick v p i j ≡ None)
      by (Some q) e = inl (q, o.below i q e, same)
        where
          same : (r : ℕ) → has_index job (shape job v).rows r i ≡ eqb q r
          same r = go (has_index job (shape job v).rows r i) refl (eqb q r) refl
            where
              go : (a : Bool) → has_index job (shape job v).rows r i ≡ a → (b : Bool) → eqb q r ≡ b → a ≡ b
              go true f true h = refl
              go false f false h = refl
              go true f false h = let is : Some q ≡ Some r = sym e ∙ owner-only (layout_of job (shape job v).rows) i r o.one f in let two : q ≡ r = cc in let yes = eq-eqb q r two in absurd (let bad : ⊥ = cc in bad)
              go false f true h = let has = owner-has (layout_of job (shape job v).rows) i q e in let has' : has_index job (shape job v).rows r i ≡ true = ap (λ x. has_index job (shape job v).rows x i) (sym (eqb-true q r h)) ∙ has in absurd (let bad : ⊥ = cc in bad)
      by None e = inr (λ j. absent (eval R F job files pick v p i j) (gone j (is_some (eval R F job files pick v p i j)) refl))
        where
          unmapped : is_mapped job (shape job v).rows i ≡ false
          unmapped = (owner-none (layout_of job (shape job v).rows) i).0 e

          cells : (sort : Sort) → is_by_rank sort ≡ false → is_dense sort ≡ true → has_cells job (shape job v) sort p i ≡ is_mapped job (shape job v).rows i
          cells Vector a b = refl
          cells Parts a b = cc
          cells Matrix a b = cc
          cells Split a b = cc

          gone : (j : ℕ) (b : Bool) → is_some (eval R F job files pick v p i j) ≡ b → b ≡ false
          gone j false f = refl
          gone j true f = sort (is_dense (shape job v).sort) refl
            where
              sort : (d : Bool) → is_dense (shape job v).sort ≡ d → true ≡ false
              sort true d =
                  sym f ∙ (formed v l).dense d p i j ∙ ap (λ z. z && ltb j (shape job v).columns) (cells (shape job v).sort whole d ∙ unmapped)
              sort false d =
                  let inside = (formed v l).within d p i j f in
                  let some = owner-total (layout_of job (shape job v).rows) i (o.total d) inside.0 in
                  sym some ∙ ap is_some e

  gathered-is : (v p : ℕ) → v < value_count job → p < job.ranks → gathered_value R F job files v (firsts g) p ≡ eval R F job files pick v p
  gathered-is v p l n = by (is_by_rank (shape job v).sort) refl
    where
      rows : (q : ℕ) → q < job.ranks → piece R F job files q v (firsts g) ≡ only_rows (λ i. is_by_rank (shape job v).sort || has_index job (shape job v).rows q i) (eval R F job files pick v q)
      rows q m = pieces_are v q l m

      by : (b : Bool) → is_by_rank (shape job v).sort ≡ b → united R F job files b (λ q. piece R F job files q v (firsts g)) p ≡ eval R F job files pick v p
      by true e = rows p n ∙ ap (λ b. only_rows (λ i. b || has_index job (shape job v).rows p i) (eval R F job files pick v p)) e
      by false e =
          ap (sum_of R) (each_rank-ext job.ranks (λ q. piece R F job files q v (firsts g)) (λ q. only_rows (has_index job (shape job v).rows q) (eval R F job files pick v p))
          (λ q m. rows q m ∙ ap (λ b. only_rows (λ i. b || has_index job (shape job v).rows q i) (eval R F job files pick v q)) e
          ∙ ap (only_rows (has_index job (shape job v).rows q)) ((formed v l).whole e q ∙ sym ((formed v l).whole e p))))
          ∙ sum_of-only_rows L job.ranks (λ q i. has_index job (shape job v).rows q i) (eval R F job files pick v p) (has-owner v p l e)

pub row_laws_suffice : {S : Type 0} {R : Semiring S} {F : Conversions S} → IsSemiring R → AreConversions F → RowLawsSuffice R F
row_laws_suffice L FL = λ job files some laws g run complete v p l n. gathered-is L FL job files laws g run complete v p l n

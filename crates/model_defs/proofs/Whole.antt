-- Where all letters have come, each rank's pieces are those of the values on the global data. One induction over the
-- values, which names no way of making one.
use Rattle.std.proofs.Common.{◌≡◌, ℕ, zero, suc, ◌<◌, ◌≤◌, ◌⊎◌, inl, inr, Bool, true, false, cond, eqb, List, [], ◌∷◌, map, Option, None, refl, sym, ◌∙◌, arith, subst}
use Rattle.std.specs.Prelude.{is_some}
use Rattle.std.specs.Option.{unwrap_or}
use Rattle.std.proofs.lemmas.Bool.{eq-eqb, eqb-true, cases_lt}
use Rattle.scalar_laws.specs.Semiring.{Semiring, IsSemiring}
use Rattle.scalar_laws.specs.Conversions.{Conversions}
use Rattle.tables.specs.Tables.{Table, nowhere}
use Rattle.tables.specs.Indices.{stands, AreDistinct, AreBelow}
use Rattle.mm_text.specs.Reading.{File}
use Rattle.combine_modes.specs.Modes.{combine, gathered, picked_of}
use Rattle.model_defs.specs.declared.job.Job.{Job}
use Rattle.model_defs.specs.Turns.{Each}
use Rattle.model_defs.specs.Makers.{maker_of, value_count}
use Rattle.model_defs.specs.Shapes.{shape}
use Rattle.model_defs.specs.Pieces.{Value, piece_of, has_row}
use Rattle.model_defs.specs.Eval.{Pick, make_value, first_values, eval}
use Rattle.model_defs.specs.Plans.{One, one_semiring, one_conversions, structure, brought}
use Rattle.model_defs.proofs.Structures.{first-places}
use Rattle.model_defs.specs.Stages.{Target, Arrivals, transfer_at, stage_count, is_fixed, target_at, made_piece, entries, gathered_after, make_piece, first_pieces, pieces, rank_entries, all_pieces, met_after, source_of}
use Rattle.model_defs.specs.Laws.{IsFormed, AreBefore, HasRowLaws}
use Rattle.model_defs.proofs.Turns.{in_turn-first}
use Rattle.model_defs.proofs.Combining.{came, gathered-combined}

nowhere-only : {S : Type 0} (b : Bool) → let none : Option S = None in none ≡ cond b None None
nowhere-only true = refl
nowhere-only false = refl

map-below : {A : Type 0} (P : ℕ) (f g : ℕ → A) (qs : List ℕ) → AreBelow P qs → ((q : ℕ) → q < P → f q ≡ g q) → map f qs ≡ map g qs
map-below P f g [] b e = refl
map-below P f g (q ∷ qs) b e = λ i. e q b.0 i ∷ map-below P f g qs b.1 e i

module _ {S : Type 0} (R : Semiring S) (F : Conversions S) (job : Job) (files : List File) (pick : Pick) where
  -- what rank q has for others at a stage, where it has its pieces of the values before
  abbrev pub had : (k t q : ℕ) → Table S
  had k t q = entries R F job files q k t (all_pieces R F job files (first_values R F job files pick k) q) (met_after R F job files pick k (first_values R F job files pick k) t q)

  abbrev pub had_for : (k t p q : ℕ) → Table S
  had_for k t p q = brought job files (transfer_at job k t) (had k t q) q p

  abbrev pub target_of : (k t p : ℕ) → Target S
  target_of k t p = target_at R F job files p k t (all_pieces R F job files (first_values R F job files pick k) p)

  -- for a cell the number of the order in which the senders' letters came is that of the rank that is picked
  abbrev pub IsPicked : (k t p : ℕ) → List ℕ → ℕ → ℕ → Type 0
  IsPicked k t p qs i j =
      combine R (target_of k t p).mode (is_fixed job k) ((target_of k t p).old i j) (came R (λ q. had_for k t p q i j) (p ∷ qs))
      (picked_of (target_of k t p).mode (is_fixed job k) R.nought (came R (λ q. had_for k t p q i j) (p ∷ qs)))
      ≡ combine R (target_of k t p).mode (is_fixed job k) ((target_of k t p).old i j) (came R (λ q. had_for k t p q i j) (p ∷ qs))
      (unwrap_or (had_for k t p (source_of job (transfer_at job k t).way (transfer_at job k t).plan (pick k) i j) i j) R.nought)

  -- All that the ranks have for rank p at a stage has come, from these senders, and the pick is that of their order.
  pub record IsDelivered (arrive : ℕ → Arrivals R F job files) (k t p : ℕ) : Type 0 where
    pub senders : List ℕ
    pub distinct : AreDistinct (p ∷ senders)
    pub below : AreBelow job.ranks (p ∷ senders)
    pub rest : (q : ℕ) → q < job.ranks → stands q (p ∷ senders) ≡ false → had_for k t p q ≡ nowhere
    pub arrived : ((q : ℕ) → q < job.ranks → rank_entries R F job files q (arrive q) k t ≡ had k t q) → arrive p k t ≡ map (had_for k t p) senders
    pub picks : (i j : ℕ) → IsPicked k t p senders i j

module _ {S : Type 0} {R : Semiring S} (L : IsSemiring R) (F : Conversions S) (job : Job) (files : List File) (laws : HasRowLaws R F job files) (pick : Pick) where
  pub are_before : (k : ℕ) → k ≤ value_count job → AreBefore job files k (first_values R F job files pick k)
  are_before zero l = record { formed = λ v m. absurd (omega arith); placed = λ v p m. absurd (omega arith) }
  are_before (suc k) l = next (are_before k (omega arith))
    where
      next : AreBefore job files k (first_values R F job files pick k) → AreBefore job files (suc k) (first_values R F job files pick (suc k))
      next before = record {
        formed = λ v m. formed v (eqb v k) refl m;
        placed = λ v p m i j. first-places R F job files pick (λ k i j. 0) (suc k) v p i j ∙ (λ t. is_some (same v m t p i j));
      }
        where
          new : Value S
          new = make_value R F job files pick k (first_values R F job files pick k) (maker_of job k)

          smaller : (v : ℕ) → eqb v k ≡ false → v < suc k → v < k
          smaller v e m = go (cases_lt v k)
            where
              go : (v < k) ⊎ (k ≤ v) → v < k
              go (inl n) = n
              go (inr n) = let same : v ≡ k = omega arith in let t = eq-eqb v k same in absurd (let bad : ⊥ = cc in bad)

          formed : (v : ℕ) (b : Bool) → eqb v k ≡ b → v < suc k → IsFormed job (shape job v) (cond b new (first_values R F job files pick k v))
          formed v true e m = subst (λ w. IsFormed job (shape job w) new) (sym (eqb-true v k e)) (laws.formed k l pick (first_values R F job files pick k) before)
          formed v false e m = before.formed v (smaller v e m)

          rule : ℕ → Each (Value One) → Value One
          rule = λ k before. make_value one_semiring one_conversions job files (λ k i j. 0) k before (maker_of job k)

          same : (v : ℕ) → v < suc k → first_values one_semiring one_conversions job files (λ k i j. 0) (suc k) v ≡ structure job files v
          same v m = in_turn-first (λ p. nowhere) rule (suc k) v m ∙ sym (in_turn-first (λ p. nowhere) rule (value_count job) v (omega arith))

module _ {S : Type 0} {R : Semiring S} (L : IsSemiring R) (F : Conversions S) (job : Job) (files : List File) (laws : HasRowLaws R F job files) (pick : Pick)
    (arrive : ℕ → Arrivals R F job files)
    (delivered : (k t p : ℕ) → k < value_count job → t < stage_count job k → p < job.ranks → IsDelivered R F job files pick arrive k t p) where
  abbrev IsSoFar : ℕ → Type 0
  IsSoFar k = (p : ℕ) → p < job.ranks → first_pieces R F job files p (arrive p) k ≡ all_pieces R F job files (first_values R F job files pick k) p

  abbrev IsMet : ℕ → ℕ → Type 0
  IsMet k t = (p : ℕ) → p < job.ranks
      → gathered_after R F job files p (arrive p) k (first_pieces R F job files p (arrive p) k) t ≡ met_after R F job files pick k (first_values R F job files pick k) t p

  -- one stage
  met-next : (k t : ℕ) → k < value_count job → t < stage_count job k → IsSoFar k → IsMet k t → IsMet k (suc t)
  met-next k t l m so_far met p n =
      (λ i. gathered R (target_at R F job files p k t (so_far p n i)).mode (is_fixed job k) (target_at R F job files p k t (so_far p n i)).old
      (brought job files (transfer_at job k t) (entries R F job files p k t (so_far p n i) (met p n i)) p p ∷ d.arrived has i))
      ∙ gathered-combined L (target_of R F job files pick k t p).mode (is_fixed job k) job.ranks p (target_of R F job files pick k t p).old (had_for R F job files pick k t p) d.senders _
      d.distinct d.below d.rest d.picks
    where
      d : IsDelivered R F job files pick arrive k t p
      d = delivered k t p l m n

      has : (q : ℕ) → q < job.ranks → rank_entries R F job files q (arrive q) k t ≡ had R F job files pick k t q
      has q b = λ i. entries R F job files q k t (so_far q b i) (met q b i)

  met-stages : (k : ℕ) → k < value_count job → IsSoFar k → (t : ℕ) → t ≤ stage_count job k → IsMet k t
  met-stages k l so_far zero m p n = refl
  met-stages k l so_far (suc t) m p n = met-next k t l (omega arith) so_far (met-stages k l so_far t (omega arith)) p n

  made-next : (k : ℕ) → k < value_count job → IsSoFar k → (p : ℕ) → p < job.ranks
      → make_piece R F job files p (arrive p) k (first_pieces R F job files p (arrive p) k) ≡ piece_of job (shape job k) p (make_value R F job files pick k (first_values R F job files pick k) (maker_of job k))
  made-next k l so_far p n =
      (λ i. made_piece R F job files p k (so_far p n i) (met-stages k l so_far (stage_count job k) (omega arith) p n i))
      ∙ laws.made k l pick (first_values R F job files pick k) (are_before L F job files laws pick k (omega arith)) p n

  so_far-is : (k : ℕ) → k ≤ value_count job → IsSoFar k
  so_far-is zero l p n = λ i v r c. nowhere-only (has_row job (shape job v) p r) i
  so_far-is (suc k) l p n = next (so_far-is k (omega arith))
    where
      next : IsSoFar k → first_pieces R F job files p (arrive p) (suc k) ≡ all_pieces R F job files (first_values R F job files pick (suc k)) p
      next rest = λ i v. at v (eqb v k) refl i
        where
          at : (v : ℕ) (b : Bool) → eqb v k ≡ b
              → cond b (make_piece R F job files p (arrive p) k (first_pieces R F job files p (arrive p) k)) (first_pieces R F job files p (arrive p) k v)
              ≡ piece_of job (shape job v) p (cond b (make_value R F job files pick k (first_values R F job files pick k) (maker_of job k)) (first_values R F job files pick k v))
          at v true e = made-next k (omega arith) rest p n ∙ (λ i. piece_of job (shape job (sym (eqb-true v k e) i)) p (make_value R F job files pick k (first_values R F job files pick k) (maker_of job k)))
          at v false e = λ i. rest p n i v

  -- each rank's piece of each value
  pub pieces-are : (v p : ℕ) → v < value_count job → p < job.ranks → pieces R F job files p (arrive p) v ≡ piece_of job (shape job v) p (eval R F job files pick v)
  pieces-are v p l n = λ i. so_far-is (value_count job) (omega arith) p n i v

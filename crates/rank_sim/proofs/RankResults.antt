-- What finished ranks have: their pieces of the letters given to all.
use Rattle.std.proofs.Common.{◌≡◌, ℕ, zero, suc, ◌+◌, ◌<◌, ◌⊎◌, inl, inr, Bool, true, false, ◌&&◌, eqb, List, [], ◌∷◌, ◌++◌, map, length, Option, None, Some, refl, sym, ap, ◌∙◌, subst, arith}
use Rattle.std.specs.Prelude.{slice_get}
use Rattle.std.specs.Option.{option_map}
use Rattle.std.proofs.lemmas.Bool.{cases_order}
use Rattle.std.proofs.lemmas.Option.{slice_get_within}
use Rattle.scalar_laws.specs.Semiring.{Semiring}
use Rattle.scalar_laws.specs.Conversions.{Conversions, AreConversions}
use Rattle.mm_text.specs.Reading.{File}
use Rattle.peers.specs.Peers.{PeerState, at_rest}
use Rattle.peers.specs.Protocols.{Letter}
use Rattle.message_play.specs.Plays.{StandsAt, given_to}
use Rattle.model_defs.specs.declared.job.Job.{Job}
use Rattle.model_defs.specs.Machine.{job_protocol, letters_of, letter_table, piece, tables_of_phase}
use Rattle.model_defs.specs.Phases.{send_phase}
use Rattle.model_defs.specs.Stages.{pieces}
use Rattle.model_defs.proofs.Filters.{filter-ext, filter-filter}
use Rattle.rank_core.specs.Results.{result_table}

-- ---- all ranks, in a list

module _ {N : Type 0} where
  get-front : (xs : List N) (y : N) (k : ℕ) → k < length xs → slice_get (xs ++ y ∷ []) k ≡ slice_get xs k
  get-front [] y k l = absurd (omega arith)
  get-front (x ∷ xs) y zero l = refl
  get-front (x ∷ xs) y (suc k) l = get-front xs y k (omega arith)

  get-last : (xs : List N) (y : N) → slice_get (xs ++ y ∷ []) (length xs) ≡ Some y
  get-last [] y = refl
  get-last (x ∷ xs) y = get-last xs y

  pub length-push : (xs : List N) (y : N) (n : ℕ) → length xs ≡ n → length (xs ++ y ∷ []) ≡ n + 1
  length-push [] y n e = omega arith
  length-push (x ∷ xs) y zero e = absurd (omega arith)
  length-push (x ∷ xs) y (suc n) e = let more = length-push xs y n (omega arith) in omega arith

  -- one more rank that stands so
  pub stands-push : (stands : N → PeerState → Type 0) (at : ℕ → PeerState) (xs : List N) (y : N) (count : ℕ) → length xs ≡ count
      → ((k : ℕ) → k < count → StandsAt stands xs k (at k)) → stands y (at count) → (k : ℕ) → k < count + 1 → StandsAt stands (xs ++ y ∷ []) k (at k)
  stands-push stands at xs y count long all last k below = go (cases_order k count)
    where
      go : (k ≡ count) ⊎ ((k < count) ⊎ (count < k)) → StandsAt stands (xs ++ y ∷ []) k (at k)
      go (inl e) = subst (λ i. StandsAt stands (xs ++ y ∷ []) i (at i)) (sym e) (y, ap (slice_get (xs ++ y ∷ [])) (sym long) ∙ get-last xs y, last)
      go (inr (inl l)) = let was = all k l in (was.0, get-front xs y k (omega arith) ∙ was.1, was.2)
      go (inr (inr l)) = absurd (omega arith)

  -- each rank of the list stands as it is said of its place
  pub each-stands : (stands : N → PeerState → Type 0) (at : ℕ → PeerState) (xs : List N) (count : ℕ) → length xs ≡ count
      → ((k : ℕ) → k < count → StandsAt stands xs k (at k)) → (k : ℕ) (x : N) → slice_get xs k ≡ Some x → stands x (at k)
  each-stands stands at xs count long all k x there =
      let below : k < count = subst (λ n. k < n) long (slice_get_within xs k x there) in
      let was = all k below in
      let same : was.0 ≡ x = one was.0 x (sym was.1 ∙ there) in
      subst (λ y. stands y (at k)) same was.2
    where
      one : (a b : N) → Some a ≡ Some b → a ≡ b
      one a b e = cc

-- ---- the letters to a rank

own-letters : (n p : ℕ) (g : List Letter) → letters_of n p (given_to p g) ≡ letters_of n p g
own-letters n p g =
    filter-filter (λ l. eqb l.0.phase n && eqb l.0.to p) (λ l. eqb l.0.to p) g
    ∙ filter-ext (λ l. eqb l.0.to p && (eqb l.0.phase n && eqb l.0.to p)) (λ l. eqb l.0.phase n && eqb l.0.to p) (λ l. twice (eqb l.0.to p) (eqb l.0.phase n)) g
  where
    twice : (a b : Bool) → a && (b && a) ≡ b && a
    twice true b = refl
    twice false true = refl
    twice false false = refl

module _ {S : Type 0} (R : Semiring S) (F : Conversions S) (job : Job) (files : List File) (p : ℕ) (g : List Letter) where
  own-tables : (o : Option ℕ) → tables_of_phase R F job files p (given_to p g) o ≡ tables_of_phase R F job files p g o
  own-tables None = refl
  own-tables (Some n) = ap (map (letter_table R F job files)) (own-letters n p g)

  -- a rank's piece is made of the letters to it
  own-piece : (v : ℕ) → piece R F job files p v (given_to p g) ≡ piece R F job files p v g
  own-piece v = ap (λ a. pieces R F job files p a v) (λ t k stage. own-tables (send_phase job k stage) t)

  back : AreConversions F → (o : Option S) → option_map F.of_wire (option_map F.to_wire o) ≡ o
  back laws None = refl
  back laws (Some a) = ap (λ x. Some x) (laws.wire_back a)

  -- what a rank has that was given the letters to it is its piece
  pub result-is : AreConversions F → (v : ℕ) → result_table F (at_rest (job_protocol R F job files) p (given_to p g)) v ≡ piece R F job files p v g
  result-is laws v = (λ t i j. back laws (piece R F job files p v (given_to p g) i j) t) ∙ own-piece v

-- All ranks, in a list.
use Rattle.std.proofs.Common.{◌≡◌, ℕ, zero, suc, ◌<◌, ◌≤◌, ◌+◌, ◌⊎◌, inl, inr, List, [], ◌∷◌, ◌++◌, length, get_or, refl, sym, ap, ◌∙◌, subst, arith}
use Rattle.std.specs.Prelude.{Some, slice_get}
use Rattle.std.proofs.lemmas.Bool.{cases_order}
use Rattle.std.proofs.lemmas.Option.{slice_get_within}
use Rattle.std.specs.Global.{Vec}
use Rattle.peers.specs.Peers.{PeerState}
use Rattle.message_play.specs.Plays.{StandsAt}
use Rattle.gather_example.specs.Plays.{words_of}

module _ {N : Type 0} where
  get-front : (xs : List N) (y : N) (k : ℕ) → k < length xs → slice_get (xs ++ y ∷ []) k ≡ slice_get xs k
  get-front [] y k l = absurd (omega arith)
  get-front (x ∷ xs) y zero l = refl
  get-front (x ∷ xs) y (suc k) l = get-front xs y k (omega arith)

  get-last : (xs : List N) (y : N) → slice_get (xs ++ y ∷ []) (length xs) ≡ Some y
  get-last [] y = refl
  get-last (x ∷ xs) y = get-last xs y

  pub length-push : (xs : List N) (y : N) (n : ℕ) → length xs ≡ n → length (xs ++ y ∷ []) ≡ n + 1
  length-push [] y n e = omega arith
  length-push (x ∷ xs) y zero e = absurd (omega arith)
  length-push (x ∷ xs) y (suc n) e = let more = length-push xs y n (omega arith) in omega arith

  -- one more rank that stands so
  pub stands-push : (stands : N → PeerState → Type 0) (at : ℕ → PeerState) (xs : List N) (y : N) (count : ℕ) → length xs ≡ count
      → ((k : ℕ) → k < count → StandsAt stands xs k (at k)) → stands y (at count) → (k : ℕ) → k < count + 1 → StandsAt stands (xs ++ y ∷ []) k (at k)
  stands-push stands at xs y count long all last k below = go (cases_order k count)
    where
      go : (k ≡ count) ⊎ ((k < count) ⊎ (count < k)) → StandsAt stands (xs ++ y ∷ []) k (at k)
      go (inl e) = subst (λ i. StandsAt stands (xs ++ y ∷ []) i (at i)) (sym e) (y, ap (slice_get (xs ++ y ∷ [])) (sym long) ∙ get-last xs y, last)
      go (inr (inl l)) = let was = all k l in (was.0, get-front xs y k (omega arith) ∙ was.1, was.2)
      go (inr (inr l)) = absurd (omega arith)

  -- each rank of the list stands as it is said of its place
  pub each_stands : (stands : N → PeerState → Type 0) (at : ℕ → PeerState) (xs : List N) (count : ℕ) → length xs ≡ count
      → ((k : ℕ) → k < count → StandsAt stands xs k (at k)) → (k : ℕ) (x : N) → slice_get xs k ≡ Some x → stands x (at k)
  each_stands stands at xs count long all k x there =
      let below : k < count = subst (λ n. k < n) long (slice_get_within xs k x there) in
      let was = all k below in
      let same : was.0 ≡ x = one was.0 x (sym was.1 ∙ there) in
      subst (λ y. stands y (at k)) same was.2
    where
      one : (a b : N) → Some a ≡ Some b → a ≡ b
      one a b e = cc

-- the word at a place
pub word_at : (words : List (Vec ℕ)) (k : ℕ) (w : Vec ℕ) → k < length words → w ≡ get_or words k w → words_of words k ≡ w.items
word_at [] k w l is = absurd (omega arith)
word_at (v ∷ vs) zero w l is = ap (λ (x : Vec ℕ). x.items) (sym is)
word_at (v ∷ vs) (suc k) w l is = word_at vs k w (omega arith) is

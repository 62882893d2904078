-- Sums: over lists, over numbers, and one within the other.
use Rattle.std.proofs.Common.{◌≡◌, ℕ, zero, suc, ◌<◌, ◌≤◌, Bool, true, false, cond, eqb, ◌||◌, List, [], ◌∷◌, ◌++◌, map, Option, None, Some, refl, sym, ap, ◌∙◌, arith}
use Rattle.std.specs.List.{flat_map}
use Rattle.std.proofs.lemmas.Bool.{eqb-true, eqb-false, ne_eqb}
use Rattle.scalar_laws.specs.Semiring.{Semiring, IsSemiring}
use Rattle.tables.specs.Sums.{Joining, IsJoining, total, total_below, sums, if_there, both_or_one}
use Rattle.tables.specs.Indices.{stands, AreDistinct, AreBelow}

-- What joins numbers joins numbers that may be absent.
pub if_there-IsJoining : {S : Type 0} {f : S → S → S} → ((a b : S) → f a b ≡ f b a) → ((a b c : S) → f (f a b) c ≡ f a (f b c)) → IsJoining (if_there f)
if_there-IsJoining {S} {f} fcomm fassoc = record { comm = comm; assoc = assoc; unit_left = λ a. refl }
  where
    assoc : (a b c : Option S) → both_or_one f (both_or_one f a b) c ≡ both_or_one f a (both_or_one f b c)
    assoc None b c = refl
    assoc (Some a) None c = refl
    assoc (Some a) (Some b) None = refl
    assoc (Some a) (Some b) (Some c) = ap Some (fassoc a b c)

    comm : (a b : Option S) → both_or_one f a b ≡ both_or_one f b a
    comm None None = refl
    comm None (Some b) = refl
    comm (Some a) None = refl
    comm (Some a) (Some b) = ap Some (fcomm a b)

module _ {S : Type 0} {R : Semiring S} (L : IsSemiring R) where
  pub sums-IsJoining : IsJoining (sums R)
  sums-IsJoining = record { comm = L.plus_comm; assoc = L.plus_assoc; unit_left = L.plus_nought }

  pub places-IsJoining : IsJoining (if_there R.plus)
  places-IsJoining = if_there-IsJoining L.plus_comm L.plus_assoc

  pub tops-IsJoining : IsJoining (if_there R.top)
  tops-IsJoining = if_there-IsJoining L.top_comm L.top_assoc

module _ {S : Type 0} {M : Joining S} (L : IsJoining M) where
  pub unit_right : (a : S) → M.join a M.unit ≡ a
  unit_right a = L.comm a M.unit ∙ L.unit_left a

  -- (a + b) + (c + d) = (a + c) + (b + d)
  pub join_swap : (a b c d : S) → M.join (M.join a b) (M.join c d) ≡ M.join (M.join a c) (M.join b d)
  join_swap a b c d =
      L.assoc a b (M.join c d)
      ∙ ap (M.join a) (sym (L.assoc b c d) ∙ ap (λ x. M.join x d) (L.comm b c) ∙ L.assoc c b d)
      ∙ sym (L.assoc a c (M.join b d))

  -- a + (b + c) = b + (a + c)
  pub join_front : (a b c : S) → M.join a (M.join b c) ≡ M.join b (M.join a c)
  join_front a b c = sym (L.assoc a b c) ∙ ap (λ z. M.join z c) (L.comm a b) ∙ L.assoc b a c

  module _ {A : Type 0} where
    pub total-append : (f : A → S) (xs ys : List A) → total M f (xs ++ ys) ≡ M.join (total M f xs) (total M f ys)
    total-append f [] ys = sym (L.unit_left _)
    total-append f (x ∷ xs) ys = ap (M.join (f x)) (total-append f xs ys) ∙ sym (L.assoc (f x) _ _)

    -- One more at the end.
    pub total-push : (f : A → S) (xs : List A) (y : A) → total M f (xs ++ y ∷ []) ≡ M.join (total M f xs) (f y)
    total-push f xs y = total-append f xs (y ∷ []) ∙ ap (M.join (total M f xs)) (unit_right (f y))

    pub total-unit : (f : A → S) (xs : List A) → ((x : A) → f x ≡ M.unit) → total M f xs ≡ M.unit
    total-unit f [] h = refl
    total-unit f (x ∷ xs) h = ap (λ a. M.join a (total M f xs)) (h x) ∙ L.unit_left _ ∙ total-unit f xs h

    pub total-join : (f g : A → S) (xs : List A) → total M (λ x. M.join (f x) (g x)) xs ≡ M.join (total M f xs) (total M g xs)
    total-join f g [] = sym (L.unit_left _)
    total-join f g (x ∷ xs) = ap (M.join (M.join (f x) (g x))) (total-join f g xs) ∙ join_swap (f x) (g x) _ _

    pub total-cond : (b : Bool) (f : A → S) (xs : List A) → total M (λ x. cond b (f x) M.unit) xs ≡ cond b (total M f xs) M.unit
    total-cond true f xs = refl
    total-cond false f xs = total-unit (λ x. M.unit) xs (λ x. refl)

    pub total-total_below : (n : ℕ) (f : ℕ → A → S) (xs : List A) → total_below M n (λ k. total M (f k) xs) ≡ total M (λ x. total_below M n (λ k. f k x)) xs
    total-total_below zero f xs = sym (total-unit (λ x. M.unit) xs (λ x. refl))
    total-total_below (suc n) f xs = ap (λ a. M.join a (total M (f n) xs)) (total-total_below n f xs) ∙ sym (total-join (λ x. total_below M n (λ k. f k x)) (f n) xs)

  -- A sum of sums may be taken in either order.
  pub total-swap : {A B : Type 0} (f : A → B → S) (xs : List A) (ys : List B) → total M (λ x. total M (f x) ys) xs ≡ total M (λ y. total M (λ x. f x y) xs) ys
  total-swap f [] ys = sym (total-unit (λ y. M.unit) ys (λ y. refl))
  total-swap f (x ∷ xs) ys = ap (M.join (total M (f x) ys)) (total-swap f xs ys) ∙ sym (total-join (f x) (λ y. total M (λ z. f z y) xs) ys)

  pub total-map : {A B : Type 0} (f : B → S) (g : A → B) (xs : List A) → total M f (map g xs) ≡ total M (λ x. f (g x)) xs
  total-map f g [] = refl
  total-map f g (x ∷ xs) = ap (M.join (f (g x))) (total-map f g xs)

  pub total-flat_map : {A B : Type 0} (f : B → S) (g : A → List B) (xs : List A) → total M f (flat_map g xs) ≡ total M (λ x. total M f (g x)) xs
  total-flat_map f g [] = refl
  total-flat_map f g (x ∷ xs) = total-append f (g x) (flat_map g xs) ∙ ap (M.join (total M f (g x))) (total-flat_map f g xs)

  pub total_below-ext : (n : ℕ) (f g : ℕ → S) → ((k : ℕ) → k < n → f k ≡ g k) → total_below M n f ≡ total_below M n g
  total_below-ext zero f g h = refl
  total_below-ext (suc n) f g h = λ i. M.join (total_below-ext n f g (λ k l. h k (omega arith)) i) (h n (omega arith) i)

  pub total_below-unit : (n : ℕ) → total_below M n (λ k. M.unit) ≡ M.unit
  total_below-unit zero = refl
  total_below-unit (suc n) = unit_right _ ∙ total_below-unit n

  pub total_below-join : (n : ℕ) (f g : ℕ → S) → total_below M n (λ k. M.join (f k) (g k)) ≡ M.join (total_below M n f) (total_below M n g)
  total_below-join zero f g = sym (L.unit_left _)
  total_below-join (suc n) f g = ap (λ a. M.join a (M.join (f n) (g n))) (total_below-join n f g) ∙ join_swap _ _ (f n) (g n)

  pub total_below-swap : (m n : ℕ) (f : ℕ → ℕ → S) → total_below M m (λ i. total_below M n (f i)) ≡ total_below M n (λ j. total_below M m (λ i. f i j))
  total_below-swap zero n f = sym (total_below-unit n)
  total_below-swap (suc m) n f = ap (λ a. M.join a (total_below M n (f m))) (total_below-swap m n f) ∙ sym (total_below-join n (λ j. total_below M m (λ i. f i j)) (f m))

  pub total_below-cond : (n : ℕ) (b : Bool) (f : ℕ → S) → total_below M n (λ k. cond b (f k) M.unit) ≡ cond b (total_below M n f) M.unit
  total_below-cond n true f = refl
  total_below-cond n false f = total_below-unit n

  -- The first one, then the others.
  pub total_below-front : (n : ℕ) (f : ℕ → S) → total_below M (suc n) f ≡ M.join (f 0) (total_below M n (λ k. f (suc k)))
  total_below-front zero f = L.comm M.unit (f 0)
  total_below-front (suc n) f = ap (λ z. M.join z (f (suc n))) (total_below-front n f) ∙ L.assoc (f 0) _ (f (suc n))

  -- Of the numbers below n one alone counts.
  pub total_below-none : (n r : ℕ) (a : S) → n ≤ r → total_below M n (λ k. cond (eqb r k) a M.unit) ≡ M.unit
  total_below-none zero r a h = refl
  total_below-none (suc n) r a h =
      let apart : eqb r n ≡ false = ne_eqb r n (λ e. absurd (omega arith)) in
      ap (λ b. M.join (total_below M n (λ k. cond (eqb r k) a M.unit)) (cond b a M.unit)) apart
      ∙ unit_right _ ∙ total_below-none n r a (omega arith)

  one_step : (n r : ℕ) (a : S) (b : Bool) → eqb r n ≡ b → r < suc n → (r < n → total_below M n (λ k. cond (eqb r k) a M.unit) ≡ a) → M.join (total_below M n (λ k. cond (eqb r k) a M.unit)) (cond b a M.unit) ≡ a
  one_step n r a true e h more = let same = eqb-true r n e in ap (λ x. M.join x a) (total_below-none n r a (omega arith)) ∙ L.unit_left a
  one_step n r a false e h more = let other = eqb-false r n e in unit_right _ ∙ more (omega arith)

  pub total_below-one : (n r : ℕ) (a : S) → r < n → total_below M n (λ k. cond (eqb r k) a M.unit) ≡ a
  total_below-one zero r a h = absurd (omega arith)
  total_below-one (suc n) r a h = one_step n r a (eqb r n) refl h (λ l. total_below-one n r a l)

  one_more : (f : ℕ → S) (x q : ℕ) (xs : List ℕ) → stands x xs ≡ false → (b : Bool) → eqb x q ≡ b → M.join (cond b (f x) M.unit) (cond (stands q xs) (f q) M.unit) ≡ cond (b || stands q xs) (f q) M.unit
  one_more f x q xs new true e =
      let same : x ≡ q = eqb-true x q e in
      let gone : stands q xs ≡ false = ap (λ z. stands z xs) (sym same) ∙ new in
      ap (λ c. M.join (f x) (cond c (f q) M.unit)) gone ∙ unit_right (f x) ∙ ap f same
  one_more f x q xs new false e = L.unit_left _

  -- A sum over distinct numbers below n depends on which they are, and not on their order.
  pub total-members : (n : ℕ) (f : ℕ → S) (qs : List ℕ) → AreDistinct qs → AreBelow n qs → total M f qs ≡ total_below M n (λ q. cond (stands q qs) (f q) M.unit)
  total-members n f [] d b = sym (total_below-unit n)
  total-members n f (x ∷ xs) d b =
      (λ i. M.join (sym (total_below-one n x (f x) b.0) i) (total-members n f xs d.1 b.1 i))
      ∙ sym (total_below-join n (λ q. cond (eqb x q) (f x) M.unit) (λ q. cond (stands q xs) (f q) M.unit))
      ∙ total_below-ext n _ _ (λ q l. one_more f x q xs d.0 (eqb x q) refl)

  -- Where the numbers that are left out join the unit, it is the sum over all numbers below n.
  pub total-all : (n : ℕ) (f : ℕ → S) (qs : List ℕ) → AreDistinct qs → AreBelow n qs → ((q : ℕ) → q < n → stands q qs ≡ false → f q ≡ M.unit) → total M f qs ≡ total_below M n f
  total-all n f qs d b h = total-members n f qs d b ∙ total_below-ext n _ _ (λ q l. settled q (stands q qs) (h q l))
    where
      settled : (q : ℕ) (b : Bool) → (b ≡ false → f q ≡ M.unit) → cond b (f q) M.unit ≡ f q
      settled q true h = refl
      settled q false h = sym (h refl)

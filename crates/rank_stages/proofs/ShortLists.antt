-- The lists of a job's letters are short.
use Rattle.std.proofs.Common.{◌≡◌, ℕ, zero, suc, ◌<◌, ◌≤◌, ◌+◌, Bool, true, false, cond, not, ◌||◌, eqb, List, [], ◌∷◌, map, filter, length, refl, sym, ap, ap₂, subst, ◌∙◌, arith}
use Rattle.std.proofs.lemmas.Bool.{eq-eqb}
use Rattle.tables.specs.Indices.{stands, AreDistinct, AreBelow, count_from}
use Rattle.tables.specs.Sums.{Joining, IsJoining, total, total_below}
use Rattle.tables.proofs.Sums.{total-all}
use Rattle.mm_text.specs.Reading.{File}
use Rattle.model_defs.specs.declared.job.Job.{Job}
use Rattle.model_defs.specs.declared.phase.About.{About}
use Rattle.model_defs.specs.declared.phase.About.TheVariants.{RegisterMap, AskOwners, TellOwners, SharePlan, SendNumbers}
use Rattle.model_defs.specs.declared.phase.Plan.{Plan}
use Rattle.model_defs.specs.declared.phase.Plan.TheVariants.{ImportPlan, ExportPlan, ColumnPlan, RowPlan}
use Rattle.model_defs.specs.declared.phase.Transfer.{Transfer}
use Rattle.model_defs.specs.declared.phase.Way.{Way}
use Rattle.model_defs.specs.declared.phase.Way.TheVariants.{FromOwners, ToOwners}
use Rattle.model_defs.specs.Limits.{most_size}
use Rattle.model_defs.specs.Maps.{is_home_rank, list_of, size_of}
use Rattle.model_defs.specs.Shapes.{shape}
use Rattle.model_defs.specs.Transfers.{owner_map}
use Rattle.model_defs.specs.Plans.{owns, rank_list_by, lacking, remote, sent_by, sent_rows}
use Rattle.model_defs.specs.Letters.{asked, entries_about, owner_word}
use Rattle.model_defs.specs.Valid.{IsValid}
use Rattle.model_defs.proofs.Bounds.{maps-are-layouts}
use Rattle.model_defs.proofs.Filters.{later}
use Rattle.rank_stages.specs.LetterLaws.{sends_numbers}

abbrev counting : Joining ℕ
counting = record { unit = 0; join = λ a b. a + b }

counting-laws : IsJoining counting
counting-laws = record { comm = λ a b. omega arith; assoc = λ a b c. omega arith; unit_left = λ a. omega arith }

abbrev one_if : List ℕ → ℕ → ℕ
one_if all q = cond (stands q all) 1 0

ones : (all xs : List ℕ) → ((g : ℕ) → stands g xs ≡ true → stands g all ≡ true) → total counting (one_if all) xs ≡ length xs
ones all [] h = refl
ones all (x ∷ xs) h =
    ap₂ (λ a b. a + b) (ap (λ b. cond b 1 0) (h x (ap (λ b. b || stands x xs) (eq-eqb x x refl)))) (ones all xs (λ g e. h g (later (eqb x g) _ e)))
    ∙ one_more (length xs)
  where
    one_more : (n : ℕ) → 1 + n ≡ suc n
    one_more n = omega arith

at-most : (all : List ℕ) (n : ℕ) → total_below counting n (one_if all) ≤ n
at-most all zero = omega arith
at-most all (suc n) = by (stands n all) (at-most all n)
  where
    by : (b : Bool) → total_below counting n (one_if all) ≤ n → total_below counting n (one_if all) + cond b 1 0 ≤ suc n
    by true l = omega (arith, l)
    by false l = omega (arith, l)

all-below : (n : ℕ) (xs : List ℕ) → ((g : ℕ) → stands g xs ≡ true → g < n) → AreBelow n xs
all-below n [] h = tt
all-below n (x ∷ xs) h = (h x (ap (λ b. b || stands x xs) (eq-eqb x x refl)), all-below n xs (λ g e. h g (later (eqb x g) _ e)))

-- distinct indices below n are at most n
pub distinct-few : (n : ℕ) (xs : List ℕ) → AreDistinct xs → ((g : ℕ) → stands g xs ≡ true → g < n) → length xs ≤ n
distinct-few n xs distinct below =
    subst (λ m. m ≤ n) (sym (total-all counting-laws n (one_if xs) xs distinct (all-below n xs below) (λ q l off. ap (λ b. cond b 1 0) off)) ∙ ones xs xs (λ g e. e)) (at-most xs n)

filter-shorter : {A : Type 0} (p : A → Bool) (xs : List A) → length (filter p xs) ≤ length xs
filter-shorter p [] = omega arith
filter-shorter p (x ∷ xs) = go (p x) (filter-shorter p xs)
  where
    go : (b : Bool) → length (filter p xs) ≤ length xs → length (cond b (x ∷ filter p xs) (filter p xs)) ≤ suc (length xs)
    go true l = omega (arith, l)
    go false l = omega (arith, l)

length-count : (a n : ℕ) → length (count_from a n) ≡ n
length-count a zero = refl
length-count a (suc n) = ap suc (length-count (a + 1) n)

pub length-mapped : {A B : Type 0} (f : A → B) (xs : List A) → length (map f xs) ≡ length xs
length-mapped f [] = refl
length-mapped f (x ∷ xs) = ap suc (length-mapped f xs)

module _ (job : Job) (files : List File) (valid : IsValid job) where
  size-small : (m : ℕ) → size_of job m ≤ most_size
  size-small m = (maps-are-layouts job m valid).1

  list-few : (m p : ℕ) → length (list_of job m p) ≤ most_size
  list-few m p =
      let few = distinct-few (size_of job m) (list_of job m p) ((maps-are-layouts job m valid).0.distinct p) ((maps-are-layouts job m valid).0.below p) in
      let small = size-small m in
      omega (arith, few, small)

  counted-few : (test : ℕ → Bool) (n : ℕ) → n ≤ most_size → length (filter test (count_from 0 n)) ≤ most_size
  counted-few test n l = let a = filter-shorter test (count_from 0 n) in let b = length-count 0 n in omega (arith, a, b, l)

  rank-list-few : (plan : Plan) (p : ℕ) → length (rank_list_by job files plan p) ≤ most_size
  rank-list-few (ImportPlan source target) p = list-few target p
  rank-list-few (ExportPlan source target) p = list-few source p
  rank-list-few (ColumnPlan v) p = counted-few _ (size_of job (shape job v).domain) (size-small (shape job v).domain)
  rank-list-few (RowPlan v) p = counted-few _ (size_of job (shape job v).rows) (size-small (shape job v).rows)

  lacking-few : (plan : Plan) (p : ℕ) → length (lacking job files plan p) ≤ most_size
  lacking-few plan p = let a = filter-shorter (λ g. not (owns job files plan p g)) (rank_list_by job files plan p) in let b = rank-list-few plan p in omega (arith, a, b)

  remote-few : (plan : Plan) (p q : ℕ) → length (remote job files plan p q) ≤ most_size
  remote-few plan p q = let a = filter-shorter (owns job files plan q) (lacking job files plan p) in let b = lacking-few plan p in omega (arith, a, b)

  asked-few : (plan : Plan) (p q : ℕ) → length (asked job files plan p q) ≤ most_size
  asked-few plan p q = let a = filter-shorter (is_home_rank job (owner_map job plan) q) (lacking job files plan p) in let b = lacking-few plan p in omega (arith, a, b)

  pub sent-few : (t : Transfer) (p q : ℕ) → length (sent_rows job files t p q) ≤ most_size
  sent-few t p q = by t.way
    where
      by : (way : Way) → length (sent_by job files way t.plan p q) ≤ most_size
      by FromOwners = remote-few t.plan q p
      by ToOwners = remote-few t.plan p q

  pub entries-few : (k : ℕ) (about : About) (p q : ℕ) → sends_numbers about ≡ false → length (entries_about job files k about p q) ≤ most_size
  entries-few k (RegisterMap m) p q e = let a = filter-shorter (is_home_rank job m q) (list_of job m p) in let b = list-few m p in omega (arith, a, b)
  entries-few k (AskOwners plan) p q e = asked-few plan p q
  entries-few k (TellOwners plan) p q e = let a = length-mapped (owner_word job files (owner_map job plan)) (asked job files plan q p) in let b = asked-few plan q p in omega (arith, a, b)
  entries-few k (SharePlan plan) p q e = remote-few plan p q
  entries-few k (SendNumbers stage) p q e = absurd (let bad : ⊥ = cc in bad)

-- Who owns the indices that a rank lacks, as the homes of these indices answer it.
use Rattle.std.specs.Prelude.{◌≡◌, ℕ, ◌<◌, ◌==◌, Bool, not, nat_lt, if◌then◌else◌, List, [], ◌∷◌, Option, None, Some, filter}
use Rattle.std.specs.Option.{unwrap_or}
use Rattle.map_core.specs.Layouts.{stands}
use Rattle.map_core.specs.Classes.{owns}

-- the word of an index that has no owner
abbrev pub no_owner : ℕ
no_owner = 4294967295

-- the word that answers a question, and the owner that a word names among P ranks, if it names one
abbrev pub word_of : Option ℕ → ℕ
word_of owner = unwrap_or owner no_owner

abbrev pub named_by : ℕ → ℕ → Option ℕ
named_by P word = if nat_lt word P then Some word else None

-- the owner of an index by the answers to a list of questions: that of the word beside it
abbrev pub answered : ℕ → List ℕ → List ℕ → ℕ → Option ℕ
answered P (q ∷ questions) (word ∷ words) g = if q == g then named_by P word else answered P questions words g
answered P _ _ g = None

-- the owner of an index by the owners that stand beside the indices
abbrev pub known_at : List ℕ → List (Option ℕ) → ℕ → Option ℕ
known_at (x ∷ xs) (owner ∷ owners) g = if x == g then owner else known_at xs owners g
known_at _ _ g = None

-- The owners beside the indices, once words came for those of them that pass a test: to these the words go in turn.
abbrev pub filled : (ℕ → Bool) → ℕ → List ℕ → List (Option ℕ) → List ℕ → List (Option ℕ)
filled test P (x ∷ xs) (owner ∷ owners) (word ∷ words) =
    if test x then named_by P word ∷ filled test P xs owners words else owner ∷ filled test P xs owners (word ∷ words)
filled test P _ owners _ = owners

-- those of the indices that rank q owns, by the owners beside them
abbrev pub owned_by : ℕ → List ℕ → List (Option ℕ) → List ℕ
owned_by q (x ∷ xs) (owner ∷ owners) = if owns owner q then x ∷ owned_by q xs owners else owned_by q xs owners
owned_by q _ _ = []

-- all owners that are known are below P
abbrev pub AreRanks : ℕ → List (Option ℕ) → Type 0
AreRanks P [] = Unit {0}
AreRanks P (owner ∷ owners) = ((q : ℕ) → owner ≡ Some q → q < P) × AreRanks P owners

-- the indices of a list that another list lacks, in their order
abbrev pub lacked_in : (source target : List ℕ) → List ℕ
lacked_in source target = filter (λ g. not (stands g source)) target

-- the first of the owners, if there is one, and the rest of them
abbrev pub first_owner : List (Option ℕ) → Option ℕ
first_owner [] = None
first_owner (owner ∷ owners) = owner

abbrev pub rest_owners : List (Option ℕ) → List (Option ℕ)
rest_owners [] = []
rest_owners (owner ∷ owners) = owners

-- The owners of a target's indices: rank me owns those that its source has, and of the others the owners are known in turn.
abbrev pub target_owners : (me : ℕ) → (source target : List ℕ) → List (Option ℕ) → List (Option ℕ)
target_owners me source [] owners = []
target_owners me source (x ∷ xs) owners =
    (if stands x source then Some me else first_owner owners) ∷ target_owners me source xs (if stands x source then owners else rest_owners owners)

-- the owner of an index by a rank that has these indices itself and knows those owners
abbrev pub owner_by : ℕ → List ℕ → (ℕ → Option ℕ) → ℕ → ℕ
owner_by me own known g = if stands g own then me else unwrap_or (known g) 0

-- the same owner, where it may be unknown
abbrev pub owner_if_known : ℕ → List ℕ → (ℕ → Option ℕ) → ℕ → Option ℕ
owner_if_known me own known g = if stands g own then Some me else known g

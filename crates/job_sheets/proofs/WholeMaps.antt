-- Which maps of a valid job have each index below their size.
use Rattle.std.proofs.Common.{◌≡◌, ℕ, zero, suc, ◌+◌, ◌<◌, ◌≤◌, ◌⊎◌, inl, inr, Bool, true, false, nat_eq, List, length, sum, refl, sym, ap, ◌∙◌, arith}
use Rattle.std.specs.List.{concat, list_all}
use Rattle.std.proofs.lemmas.Bool.{and_parts, and_from, cases_lt}
use Rattle.tables.specs.Indices.{count_from}
use Rattle.map_core.specs.Layouts.{stands, IsLayout, IsOneToOne, IsTotal}
use Rattle.map_core.proofs.Members.{AreDistinct-to_set}
use Rattle.map_core.proofs.Unions.{list_with, total_by_count}
use Rattle.map_core.proofs.Contiguous.{total}
use Rattle.map_core.proofs.Blocks.{total-blocks}
use Rattle.map_core.proofs.Cyclic.{total-cyclic}
use Rattle.model_defs.specs.declared.job.Job.{Job}
use Rattle.model_defs.specs.declared.job.MapForm.{MapForm}
use Rattle.model_defs.specs.declared.job.MapForm.TheVariants.{Uniform, Blocks, Cyclic, Lists}
use Rattle.model_defs.specs.Maps.{lists_of, map_at, layout_of}
use Rattle.model_defs.specs.Sheets.{is_total}
use Rattle.model_defs.specs.Valid.{IsValid, IsForm}

-- a test of all numbers from n on
all-from : (p : ℕ → Bool) (n k : ℕ) → ((v : ℕ) → n ≤ v → v < n + k → p v ≡ true) → list_all p (count_from n k) ≡ true
all-from p n zero h = refl
all-from p n (suc k) h = and_from (p n) (list_all p (count_from (n + 1) k)) (h n (omega arith) (omega arith)) (all-from p (n + 1) k (λ v a b. h v (omega arith) (omega arith)))

all-each : (p : ℕ → Bool) (n k : ℕ) → list_all p (count_from n k) ≡ true → (v : ℕ) → n ≤ v → v < n + k → p v ≡ true
all-each p n zero e v a b = absurd (omega arith)
all-each p n (suc k) e v a b = go (and_parts (p n) (list_all p (count_from (n + 1) k)) e) (cases_lt n v) (λ f l. all-each p (n + 1) k f v (omega arith) (omega arith))
  where
    go : (p n ≡ true) × (list_all p (count_from (n + 1) k) ≡ true) → (n < v) ⊎ (v ≤ n) → (list_all p (count_from (n + 1) k) ≡ true → n < v → p v ≡ true) → p v ≡ true
    go both (inl l) rest = rest both.1 l
    go both (inr l) rest = ap p (omega arith) ∙ both.0

same-test : (a b : Bool) → (a ≡ true → b ≡ true) → (b ≡ true → a ≡ true) → a ≡ b
same-test true b f g = sym (f refl)
same-test false true f g = absurd (let e = g refl in let bad : ⊥ = cc in bad)
same-test false false f g = refl

-- by the form of a map: the indices of lists are counted, any other map is total
abbrev pub is_total_form : ℕ → MapForm → Bool
is_total_form size (Lists lists) = nat_eq (length (concat lists)) size
is_total_form size _ = true

abbrev pub has_each : ℕ → List (List ℕ) → Bool
has_each size lists = list_all (λ g. stands g (concat lists)) (count_from 0 size)

each-total : (size : ℕ) (lists : List (List ℕ)) → IsTotal (record { size = size; lists = lists }) → has_each size lists ≡ true
each-total size lists t = all-from (λ g. stands g (concat lists)) 0 size (λ v a b. t v (omega arith))

below-size : (size : ℕ) (lists : List (List ℕ)) → IsLayout (record { size = size; lists = lists }) → (g : ℕ) → stands g (concat lists) ≡ true → g < size
below-size size lists o g h = let w = list_with g lists h in o.below w.rank g w.on

counted : (size : ℕ) (lists : List (List ℕ)) → IsLayout (record { size = size; lists = lists }) → IsOneToOne (record { size = size; lists = lists })
    → nat_eq (length (concat lists)) size ≡ has_each size lists
counted size lists o u =
    let low : (g : ℕ) → stands g (concat lists) ≡ true → g < size = λ g h. below-size size lists o g h in
    let law = total_by_count (concat lists) (concat lists) size (AreDistinct-to_set (concat lists) u) (λ g. refl) low in
    same-test (nat_eq (length (concat lists)) size) (has_each size lists)
    (λ e. each-total size lists (law.0 e))
    (λ e. law.1 (λ g l. all-each (λ g. stands g (concat lists)) 0 size e g (omega arith) (omega arith)))

pub total-form : (P size : ℕ) (form : MapForm) → 0 < P → IsForm P size form
    → IsLayout (record { size = size; lists = lists_of P size form }) → IsOneToOne (record { size = size; lists = lists_of P size form })
    → is_total_form size form ≡ has_each size (lists_of P size form)
total-form P size Uniform some f o u = sym (each-total size (lists_of P size Uniform) (total P size some))
total-form P size (Blocks counts) some f o u =
    sym (ap (λ n. has_each n (lists_of P size (Blocks counts))) (sym f.1) ∙ each-total (sum counts) (lists_of P size (Blocks counts)) (total-blocks counts))
total-form P size Cyclic some f o u = sym (each-total size (lists_of P size Cyclic) (total-cyclic P size some))
total-form P size (Lists lists) some f o u = counted size lists o u

module _ (job : Job) (valid : IsValid job) (m : ℕ) where
  pub total-known : m < length job.maps → IsOneToOne (layout_of job m) → is_total_form (map_at job m).size (map_at job m).form ≡ is_total job m
  total-known known one = total-form job.ranks (map_at job m).size (map_at job m).form valid.some (valid.forms m known) (valid.layouts m known) one

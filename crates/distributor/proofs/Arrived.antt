-- The entries of a letter, read one after the other.
use Rattle.std.proofs.Common.{◌≡◌, ℕ, suc, ◌+◌, ◌*◌, ◌/◌, ◌<◌, ◌≤◌, List, [], ◌∷◌, ◌++◌, map, Some, refl, sym, ap, ◌∙◌, arith, length, get_or, take, drop, length-drop, length-append, drop-cons}
use Rattle.std.specs.Prelude.{slice_get}
use Rattle.std.specs.List.{zip, flat_map}
use Rattle.std.specs.Option.{option_map, unwrap_or}
use Rattle.std.proofs.lemmas.Option.{slice_get-map, slice_get-get_or, get_or_from_slice_get}
use Rattle.std.proofs.lemmas.List.Sums.{sum_by-cons}
use Rattle.std.proofs.Math.Seq.{take-append_seam, drop-append_seam}
use Rattle.scalar_laws.specs.Conversions.{Conversions}
use Rattle.tables.specs.Indices.{count_from}
use Rattle.letter_codec.specs.Letters.{RowEntry, entry_words, place_count}
use Rattle.letter_codec.specs.Parts.{number_at}
use Rattle.std.proofs.lemmas.Slice.Zip.{length-zip}
use Rattle.std.proofs.lemmas.List.{length-map}
use Rattle.distributor.specs.Entries.{Entry, entry_at, placed}
use Rattle.distributor.specs.Arrivals.{numbers_in, with_numbers, arrived_moves}
use Rattle.distributor.proofs.Combined.{slice_get-zip}
use Rattle.distributor.proofs.Numbered.{length-count_from, slice_get-count_from, slice_get-drop, slice_get-take, length-take_few, drop-drop}

module _ {S : Type 0} (F : Conversions S) where
  pub number-in : (bytes : List ℕ) (k : ℕ) → 32 * k + 32 ≤ length bytes → slice_get (numbers_in F bytes) k ≡ Some (number_at F bytes k)
  number-in bytes k l =
      let within : k < length bytes / 32 = omega arith in
      let same : 0 + k ≡ k = omega arith in
      slice_get-map (number_at F bytes) (count_from 0 (length bytes / 32)) k
      ∙ ap (option_map (number_at F bytes)) (slice_get-count_from 0 (length bytes / 32) k within ∙ ap Some same)

-- position k with the entry k
pub slice_get-arrived : (positions : List ℕ) (k : ℕ) → k < length positions → slice_get (arrived_moves positions) k ≡ Some (k, get_or positions k 0)
slice_get-arrived positions k l =
    let same : 0 + k ≡ k = omega arith in
    slice_get-zip (count_from 0 (length positions)) positions k _ _ (slice_get-count_from 0 (length positions) k l ∙ ap Some same) (slice_get-get_or positions k 0 l)

pub length-arrived : (positions : List ℕ) → length (arrived_moves positions) ≤ length positions
length-arrived positions =
    let size = length-zip (count_from 0 (length positions)) positions in
    let first = length-count_from 0 (length positions) in
    grind (arith, size, first)

module _ {S : Type 0} where
  pub length-row-cells : (to count : ℕ) (words : List ℕ) (numbers : List S) → length (map (placed to) (zip (take count words) (take count numbers))) ≤ count
  length-row-cells to count words numbers =
      let size = length-map (zip (take count words) (take count numbers)) (placed to) in
      let both = length-zip (take count words) (take count numbers) in
      let first = length-take_few count words in
      grind (arith, size, both, first)

  -- a cell of a row
  pub row-cell : (words : List ℕ) (numbers : List S) (first n count k w : ℕ) (v : S) → k < count → slice_get words (first + k) ≡ Some w → slice_get numbers (n + k) ≡ Some v
      → slice_get (zip (take count (drop first words)) (take count (drop n numbers))) k ≡ Some (w, v)
  row-cell words numbers first n count k w v l e f =
      slice_get-zip (take count (drop first words)) (take count (drop n numbers)) k w v
      (slice_get-take count k (drop first words) l ∙ slice_get-drop first k words ∙ e)
      (slice_get-take count k (drop n numbers) l ∙ slice_get-drop n k numbers ∙ f)

  abbrev pub row_entry : RowEntry → List S → Entry S
  row_entry r numbers = record { gid = r.row; cells = zip r.columns (take (length r.columns) numbers) }

  -- One row of the words: where its parts stand, and what is behind it.
  pub record RowStep (words : List ℕ) (rows : List RowEntry) (numbers : List S) (at p n : ℕ) : Type 0 where
    pub row : RowEntry
    pub count : slice_get words (p + 1) ≡ Some (length row.columns)
    pub within : p + 2 + length row.columns ≤ length words
    pub columns : take (length row.columns) (drop (p + 2) words) ≡ row.columns
    pub numbers_within : n + length row.columns ≤ place_count rows
    pub entry : entry_at (with_numbers rows numbers) at ≡ row_entry row (drop n numbers)
    pub next_words : drop (p + (2 + length row.columns)) words ≡ flat_map entry_words (drop (suc at) rows)
    pub next_entries : drop (suc at) (with_numbers rows numbers) ≡ with_numbers (drop (suc at) rows) (drop (n + length row.columns) numbers)
    pub next_count : n + length row.columns + place_count (drop (suc at) rows) ≡ place_count rows

  pub row-step : (words : List ℕ) (rows : List RowEntry) (numbers : List S) (at p n : ℕ) → at < length rows
      → drop p words ≡ flat_map entry_words (drop at rows)
      → drop at (with_numbers rows numbers) ≡ with_numbers (drop at rows) (drop n numbers)
      → n + place_count (drop at rows) ≡ place_count rows
      → RowStep words rows numbers at p n
  row-step words rows numbers at p n l hw he hc =
      record {
        row = r;
        count = sym (slice_get-drop p 1 words) ∙ ap (λ xs. slice_get xs 1) here;
        within = omega (arith, size, length-drop p words, length-append r.columns more);
        columns = ap (take (length r.columns)) behind ∙ take-append_seam r.columns more;
        numbers_within = omega (arith, hc, places);
        entry = ap (λ o. unwrap_or o (record { gid = 0; cells = [] })) (first at ∙ ap (λ xs. slice_get xs 0) entries);
        next_words = sym (drop-drop p (2 + length r.columns) words) ∙ ap (drop (2 + length r.columns)) here ∙ skip;
        next_entries = one ∙ ap (drop 1) entries ∙ ap (with_numbers (drop (suc at) rows)) (drop-drop n (length r.columns) numbers);
        next_count = omega (arith, hc, places);
      }
    where
      none : RowEntry
      none = record { row = 0; columns = [] }

      r : RowEntry
      r = get_or rows at none

      cut : drop at rows ≡ r ∷ drop (suc at) rows
      cut = drop-cons rows at none l

      more : List ℕ
      more = flat_map entry_words (drop (suc at) rows)

      here : drop p words ≡ r.row ∷ length r.columns ∷ (r.columns ++ more)
      here = hw ∙ ap (flat_map entry_words) cut

      size : length (drop p words) ≡ suc (suc (length (r.columns ++ more)))
      size = ap length here

      behind : drop (p + 2) words ≡ r.columns ++ more
      behind = sym (drop-drop p 2 words) ∙ ap (drop 2) here

      skip : drop (2 + length r.columns) (r.row ∷ length r.columns ∷ (r.columns ++ more)) ≡ more
      skip = (let e : 2 + length r.columns ≡ suc (suc (length r.columns)) = omega arith in ap (λ k. drop k (r.row ∷ length r.columns ∷ (r.columns ++ more))) e) ∙ drop-append_seam r.columns more

      places : place_count (drop at rows) ≡ length r.columns + place_count (drop (suc at) rows)
      places = ap place_count cut ∙ sum_by-cons (λ (e : RowEntry). length e.columns) r (drop (suc at) rows)

      entries : drop at (with_numbers rows numbers) ≡ row_entry r (drop n numbers) ∷ with_numbers (drop (suc at) rows) (drop (length r.columns) (drop n numbers))
      entries = he ∙ ap (λ z. with_numbers z (drop n numbers)) cut

      first : (k : ℕ) → slice_get (with_numbers rows numbers) k ≡ slice_get (drop k (with_numbers rows numbers)) 0
      first k = (let e : k ≡ k + 0 = omega arith in ap (slice_get (with_numbers rows numbers)) e) ∙ sym (slice_get-drop k 0 (with_numbers rows numbers))

      one : drop (suc at) (with_numbers rows numbers) ≡ drop 1 (drop at (with_numbers rows numbers))
      one = (let e : suc at ≡ at + 1 = omega arith in ap (λ k. drop k (with_numbers rows numbers)) e) ∙ sym (drop-drop at 1 (with_numbers rows numbers))

  -- the same, where the count of columns was read
  pub record CountedStep (words : List ℕ) (rows : List RowEntry) (numbers : List S) (at p n count : ℕ) : Type 0 where
    pub within : p + 2 + count ≤ length words
    pub numbers_within : n + count ≤ place_count rows
    pub gid : ℕ
    pub entry : entry_at (with_numbers rows numbers) at ≡ record { gid = gid; cells = zip (take count (drop (p + 2) words)) (take count (drop n numbers)) }
    pub next_words : drop (p + (2 + count)) words ≡ flat_map entry_words (drop (at + 1) rows)
    pub next_entries : drop (at + 1) (with_numbers rows numbers) ≡ with_numbers (drop (at + 1) rows) (drop (n + count) numbers)
    pub next_count : n + count + place_count (drop (at + 1) rows) ≡ place_count rows

  pub counted-step : (words : List ℕ) (rows : List RowEntry) (numbers : List S) (at p n count : ℕ) → at < length rows
      → drop p words ≡ flat_map entry_words (drop at rows)
      → drop at (with_numbers rows numbers) ≡ with_numbers (drop at rows) (drop n numbers)
      → n + place_count (drop at rows) ≡ place_count rows
      → count ≡ get_or words (p + 1) 0
      → CountedStep words rows numbers at p n count
  counted-step words rows numbers at p n count l hw he hc e =
      record {
        within = omega (arith, s.within, same);
        numbers_within = omega (arith, s.numbers_within, same);
        gid = s.row.row;
        entry = s.entry ∙ (λ t. record { gid = s.row.row; cells = zip (columns t) (take (back t) (drop n numbers)) });
        next_words = (λ t. drop (p + (2 + same t)) words) ∙ s.next_words ∙ ap (λ k. flat_map entry_words (drop k rows)) one;
        next_entries = ap (λ k. drop k (with_numbers rows numbers)) (sym one) ∙ s.next_entries ∙ (λ t. with_numbers (drop (one t) rows) (drop (n + back t) numbers));
        next_count = omega (arith, s.next_count, same, ap (λ k. place_count (drop k rows)) one);
      }
    where
      s : RowStep words rows numbers at p n
      s = row-step words rows numbers at p n l hw he hc

      same : count ≡ length s.row.columns
      same = e ∙ get_or_from_slice_get words (p + 1) (length s.row.columns) 0 s.count

      back : length s.row.columns ≡ count
      back = sym same

      columns : s.row.columns ≡ take count (drop (p + 2) words)
      columns = sym s.columns ∙ ap (λ k. take k (drop (p + 2) words)) back

      one : suc at ≡ at + 1
      one = omega arith

  pub length-with_numbers : (rows : List RowEntry) (numbers : List S) → length (with_numbers rows numbers) ≡ length rows
  length-with_numbers [] numbers = refl
  length-with_numbers (r ∷ rs) numbers = ap suc (length-with_numbers rs (drop (length r.columns) numbers))

-- Words are those of one list of rows.
cut-columns : (xs ys us vs : List ℕ) → length xs ≡ length us → xs ++ ys ≡ us ++ vs → (xs ≡ us) × (ys ≡ vs)
cut-columns [] ys [] vs l e = (refl, e)
cut-columns [] ys (u ∷ us) vs l e = absurd (omega (arith, l))
cut-columns (x ∷ xs) ys [] vs l e = absurd (omega (arith, l))
cut-columns (x ∷ xs) ys (u ∷ us) vs l e =
    let rest = cut-columns xs ys us vs (omega (arith, l)) (ap (drop 1) e) in
    (λ t. get_or (e t) 0 x ∷ rest.0 t, rest.1)

pub rows-unique : (rows others : List RowEntry) → flat_map entry_words rows ≡ flat_map entry_words others → rows ≡ others
rows-unique [] [] e = refl
rows-unique [] (o ∷ os) e = absurd (let size = ap length e in omega (arith, size))
rows-unique (r ∷ rs) [] e = absurd (let size = ap length e in omega (arith, size))
rows-unique (r ∷ rs) (o ∷ os) e =
    let row : r.row ≡ o.row = ap (λ xs. get_or xs 0 0) e in
    let size : length r.columns ≡ length o.columns = ap (λ xs. get_or xs 1 0) e in
    let rest = cut-columns r.columns (flat_map entry_words rs) o.columns (flat_map entry_words os) size (ap (drop 2) e) in
    let more = rows-unique rs os rest.1 in
    λ t. record { row = row t; columns = rest.0 t } ∷ more t

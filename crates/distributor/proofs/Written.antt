-- The bytes of a letter, written one part after the other.
use Rattle.std.proofs.Common.{◌≡◌, ℕ, zero, suc, ◌+◌, ◌*◌, ◌≤◌, ◌<◌, ◌^◌, ◌≢◌, eqb, Option, None, List, [], ◌∷◌, ◌++◌, map, Some, refl, sym, ap, subst, ◌∙◌, arith, length, take, drop, append_assoc, append-nil, length-append}
use Rattle.std.specs.Prelude.{slice_get, true}
use Rattle.std.specs.List.{flat_map, list_all}
use Rattle.std.specs.Option.{option_map}
use Rattle.std.proofs.lemmas.Grind.{flat_map-append}
use Rattle.std.proofs.lemmas.Option.{slice_get-map}
use Rattle.std.proofs.lemmas.List.{length-map, take-append-drop}
use Rattle.std.proofs.lemmas.List.Sums.{sum_by-cons}
use Rattle.scalar_laws.specs.Conversions.{Conversions, AreConversions}
use Rattle.letter_codec.specs.declared.kind.Kind.{Kind}
use Rattle.letter_codec.specs.declared.kind.Kind.TheVariants.{Reg, Ask, Tell, Want, Offer, Nums, Rows}
use Rattle.letter_codec.specs.Letters.{bytes_of_word, word_bytes, number_bytes, head_bytes}
use Rattle.letter_codec.specs.Writing.{StartsWith}
use Rattle.letter_codec.proofs.ReadWords.{length-word_bytes}
use Rattle.letter_codec.proofs.ReadLetters.{length-head}
use Rattle.distributor.specs.Entries.{Entry, entry_at, columns_of}
use Rattle.distributor.specs.Packed.{sent_entries, words_for, numbers_of, cell_count, entries_letter}
use Rattle.std.specs.Prelude.{◌==◌}
use Rattle.std.proofs.lemmas.Bool.{eqb-true}
use Rattle.map_core.specs.Plans.{export_list}
use Rattle.distributor.specs.Transfers.{TransferState, LettersFit}
use Rattle.distributor.specs.Packed.{kind_of}
use Rattle.distributor.proofs.Combined.{take_more, take_whole, list_all-parts, list_all-slice_get}

pub starts-as : (xs ys out : List ℕ) → xs ≡ ys → StartsWith xs out → StartsWith ys out
starts-as xs ys out e h = let P : List ℕ → Type 0 = λ z. StartsWith z out in subst P e h

-- all that is written is all there is
pub starts-whole : (xs out : List ℕ) → StartsWith xs out → length out ≡ length xs → out ≡ xs
starts-whole xs out h l = sym (take_whole out (length xs) (omega (arith, l))) ∙ h

-- ---- words

pub words-both : (before done more : List ℕ) → (before ++ word_bytes done) ++ word_bytes more ≡ before ++ word_bytes (done ++ more)
words-both before done more = append_assoc before (word_bytes done) (word_bytes more) ∙ ap (λ z. before ++ z) (sym (flat_map-append bytes_of_word done more))

pub words-more : (before done : List ℕ) (w : ℕ) → (before ++ word_bytes done) ++ bytes_of_word w ≡ before ++ word_bytes (done ++ w ∷ [])
words-more before done w = ap (λ z. (before ++ word_bytes done) ++ z) (sym (append-nil (bytes_of_word w))) ∙ words-both before done (w ∷ [])

pub length-behind_words : (before done : List ℕ) (n : ℕ) → length before ≡ n → length (before ++ word_bytes done) ≡ n + 8 * length done
length-behind_words before done n e = omega (arith, length-append before (word_bytes done), length-word_bytes done, e)

module _ {S : Type 0} where
  pub column-at : (e : Entry S) (k : ℕ) (cell : ℕ × S) → slice_get e.cells k ≡ Some cell → slice_get (columns_of e) k ≡ Some cell.0
  column-at e k cell h = slice_get-map (λ (c : ℕ × S). c.0) e.cells k ∙ ap (option_map (λ (c : ℕ × S). c.0)) h

  pub number-at : (e : Entry S) (k : ℕ) (cell : ℕ × S) → slice_get e.cells k ≡ Some cell → slice_get (numbers_of e) k ≡ Some cell.1
  number-at e k cell h = slice_get-map (λ (c : ℕ × S). c.1) e.cells k ∙ ap (option_map (λ (c : ℕ × S). c.1)) h

  pub length-columns : (e : Entry S) → length (columns_of e) ≡ length e.cells
  length-columns e = length-map e.cells (λ (c : ℕ × S). c.0)

  pub length-numbers_of : (e : Entry S) → length (numbers_of e) ≡ length e.cells
  length-numbers_of e = length-map e.cells (λ (c : ℕ × S). c.1)

  -- one more column
  pub column-next : (before out new : List ℕ) (e : Entry S) (k : ℕ) (cell : ℕ × S) → slice_get e.cells k ≡ Some cell
      → StartsWith ((before ++ word_bytes (take k (columns_of e))) ++ bytes_of_word cell.0) new
      → StartsWith (before ++ word_bytes (take (k + 1) (columns_of e))) new
  column-next before out new e k cell h s =
      starts-as _ _ new (words-more before (take k (columns_of e)) cell.0 ∙ ap (λ z. before ++ word_bytes z) (sym (take_more (columns_of e) k cell.0 (column-at e k cell h)))) s

  pub length-taken_columns : (e : Entry S) (k : ℕ) → k ≤ length e.cells → length (take k (columns_of e)) ≡ k
  length-taken_columns e k l = length-take_exact k (columns_of e) (omega (arith, length-columns e))
    where
      length-take_exact : (n : ℕ) (xs : List ℕ) → n ≤ length xs → length (take n xs) ≡ n
      length-take_exact zero xs l = refl
      length-take_exact (suc n) [] l = absurd (omega arith)
      length-take_exact (suc n) (x ∷ xs) l = ap suc (length-take_exact n xs (omega arith))

  pub length-taken_numbers : (e : Entry S) (k : ℕ) → k ≤ length e.cells → length (take k (numbers_of e)) ≡ k
  length-taken_numbers e k l = length-take_exact k (numbers_of e) (omega (arith, length-numbers_of e))
    where
      length-take_exact : (n : ℕ) (xs : List S) → n ≤ length xs → length (take n xs) ≡ n
      length-take_exact zero xs l = refl
      length-take_exact (suc n) [] l = absurd (omega arith)
      length-take_exact (suc n) (x ∷ xs) l = ap suc (length-take_exact n xs (omega arith))

  -- ---- numbers

  module _ (F : Conversions S) (L : AreConversions F) where
    pub numbers-both : (before : List ℕ) (done more : List S) → (before ++ number_bytes F done) ++ number_bytes F more ≡ before ++ number_bytes F (done ++ more)
    numbers-both before done more = append_assoc before (number_bytes F done) (number_bytes F more) ∙ ap (λ z. before ++ z) (sym (flat_map-append F.to_wire done more))

    pub numbers-more : (before : List ℕ) (done : List S) (v : S) → (before ++ number_bytes F done) ++ F.to_wire v ≡ before ++ number_bytes F (done ++ v ∷ [])
    numbers-more before done v = ap (λ z. (before ++ number_bytes F done) ++ z) (sym (append-nil (F.to_wire v))) ∙ numbers-both before done (v ∷ [])

    pub length-number_bytes : (ns : List S) → length (number_bytes F ns) ≡ 32 * length ns
    length-number_bytes [] = refl
    length-number_bytes (v ∷ vs) = omega (arith, length-append (F.to_wire v) (number_bytes F vs), L.wire_length v, length-number_bytes vs)

    pub length-behind_numbers : (before : List ℕ) (done : List S) (n : ℕ) → length before ≡ n → length (before ++ number_bytes F done) ≡ n + 32 * length done
    length-behind_numbers before done n e = omega (arith, length-append before (number_bytes F done), length-number_bytes done, e)

    pub number-next : (before new : List ℕ) (e : Entry S) (k : ℕ) (cell : ℕ × S) → slice_get e.cells k ≡ Some cell
        → StartsWith ((before ++ number_bytes F (take k (numbers_of e))) ++ F.to_wire cell.1) new
        → StartsWith (before ++ number_bytes F (take (k + 1) (numbers_of e))) new
    number-next before new e k cell h s =
        starts-as _ _ new (numbers-more before (take k (numbers_of e)) cell.1 ∙ ap (λ z. before ++ number_bytes F z) (sym (take_more (numbers_of e) k cell.1 (number-at e k cell h)))) s

  -- ---- entries of a list

  pub sent-more : (entries : List (Entry S)) (list : List ℕ) (i lid : ℕ) → slice_get list i ≡ Some lid
      → sent_entries entries (take (i + 1) list) ≡ sent_entries entries (take i list) ++ entry_at entries lid ∷ []
  sent-more entries list i lid h = ap (sent_entries entries) (take_more list i lid h) ∙ map-both (take i list)
    where
      map-both : (xs : List ℕ) → map (entry_at entries) (xs ++ lid ∷ []) ≡ map (entry_at entries) xs ++ entry_at entries lid ∷ []
      map-both [] = refl
      map-both (x ∷ xs) = ap (λ z. entry_at entries x ∷ z) (map-both xs)

  pub words-sent : (kind : Kind) (entries : List (Entry S)) (list : List ℕ) (i lid : ℕ) → slice_get list i ≡ Some lid
      → flat_map (words_for kind) (sent_entries entries (take (i + 1) list)) ≡ flat_map (words_for kind) (sent_entries entries (take i list)) ++ words_for kind (entry_at entries lid)
  words-sent kind entries list i lid h =
      ap (flat_map (words_for kind)) (sent-more entries list i lid h)
      ∙ flat_map-append (words_for kind) (sent_entries entries (take i list)) (entry_at entries lid ∷ [])
      ∙ ap (λ z. flat_map (words_for kind) (sent_entries entries (take i list)) ++ z) (append-nil (words_for kind (entry_at entries lid)))

  pub numbers-sent : (entries : List (Entry S)) (list : List ℕ) (i lid : ℕ) → slice_get list i ≡ Some lid
      → flat_map numbers_of (sent_entries entries (take (i + 1) list)) ≡ flat_map numbers_of (sent_entries entries (take i list)) ++ numbers_of (entry_at entries lid)
  numbers-sent entries list i lid h =
      ap (flat_map numbers_of) (sent-more entries list i lid h)
      ∙ flat_map-append numbers_of (sent_entries entries (take i list)) (entry_at entries lid ∷ [])
      ∙ ap (λ z. flat_map numbers_of (sent_entries entries (take i list)) ++ z) (append-nil (numbers_of (entry_at entries lid)))

  cells-append : (xs ys : List (Entry S)) → cell_count (xs ++ ys) ≡ cell_count xs + cell_count ys
  cells-append [] ys = omega arith
  cells-append (x ∷ xs) ys =
      omega (arith, sum_by-cons (λ (e : Entry S). length e.cells) x (xs ++ ys), sum_by-cons (λ (e : Entry S). length e.cells) x xs, cells-append xs ys)

  pub cells-sent : (entries : List (Entry S)) (list : List ℕ) (i lid : ℕ) → slice_get list i ≡ Some lid
      → cell_count (sent_entries entries (take (i + 1) list)) ≡ cell_count (sent_entries entries (take i list)) + length (entry_at entries lid).cells
  cells-sent entries list i lid h =
      ap cell_count (sent-more entries list i lid h)
      ∙ cells-append (sent_entries entries (take i list)) (entry_at entries lid ∷ [])
      ∙ (let one : cell_count (entry_at entries lid ∷ []) ≡ length (entry_at entries lid).cells = sum_by-cons (λ (e : Entry S). length e.cells) (entry_at entries lid) [] ∙ omega arith in
      ap (λ n. cell_count (sent_entries entries (take i list)) + n) one)

  pub length-numbers_sent : (es : List (Entry S)) → length (flat_map numbers_of es) ≡ cell_count es
  length-numbers_sent [] = refl
  length-numbers_sent (e ∷ es) =
      omega (arith, length-append (numbers_of e) (flat_map numbers_of es), length-numbers_of e, length-numbers_sent es, sum_by-cons (λ (e : Entry S). length e.cells) e es)

  -- what is sent up to an entry is at most what is sent
  pub words-within : (kind : Kind) (entries : List (Entry S)) (list : List ℕ) (i lid : ℕ) → slice_get list i ≡ Some lid
      → length (flat_map (words_for kind) (sent_entries entries (take i list))) + length (words_for kind (entry_at entries lid)) ≤ length (flat_map (words_for kind) (sent_entries entries list))
  words-within kind entries list i lid h =
      let cut = ap (λ z. length (flat_map (words_for kind) (sent_entries entries z))) (sym (take-append-drop (i + 1) list)) in
      let parts = ap (λ z. length (flat_map (words_for kind) z)) (map-append (take (i + 1) list) (drop (i + 1) list)) ∙ ap length (flat_map-append (words_for kind) (sent_entries entries (take (i + 1) list)) (sent_entries entries (drop (i + 1) list))) in
      let here = ap length (words-sent kind entries list i lid h) in
      omega (
        arith,
        cut,
        parts,
        here,
        length-append (flat_map (words_for kind) (sent_entries entries (take (i + 1) list))) (flat_map (words_for kind) (sent_entries entries (drop (i + 1) list))),
        length-append (flat_map (words_for kind) (sent_entries entries (take i list))) (words_for kind (entry_at entries lid)),
      )
    where
      map-append : (xs ys : List ℕ) → map (entry_at entries) (xs ++ ys) ≡ map (entry_at entries) xs ++ map (entry_at entries) ys
      map-append [] ys = refl
      map-append (x ∷ xs) ys = ap (λ z. entry_at entries x ∷ z) (map-append xs ys)

  pub cells-within : (entries : List (Entry S)) (list : List ℕ) (i lid : ℕ) → slice_get list i ≡ Some lid
      → cell_count (sent_entries entries (take i list)) + length (entry_at entries lid).cells ≤ cell_count (sent_entries entries list)
  cells-within entries list i lid h =
      let cut = ap (λ z. cell_count (sent_entries entries z)) (sym (take-append-drop (i + 1) list)) in
      let parts = ap cell_count (map-append (take (i + 1) list) (drop (i + 1) list)) ∙ cells-append (sent_entries entries (take (i + 1) list)) (sent_entries entries (drop (i + 1) list)) in
      omega (arith, cut, parts, cells-sent entries list i lid h)
    where
      map-append : (xs ys : List ℕ) → map (entry_at entries) (xs ++ ys) ≡ map (entry_at entries) xs ++ map (entry_at entries) ys
      map-append [] ys = refl
      map-append (x ∷ xs) ys = ap (λ z. entry_at entries x ∷ z) (map-append xs ys)

  -- the whole letter
  pub letter-whole : (F : Conversions S) → AreConversions F → (kind : Kind) (es : List (Entry S)) (words : ℕ) (out : List ℕ) → words ≡ length (flat_map (words_for kind) es)
      → length out ≡ 9 + 8 * words + 32 * cell_count es
      → StartsWith ((head_bytes kind words ++ word_bytes (flat_map (words_for kind) es)) ++ number_bytes F (flat_map numbers_of es)) out
      → out ≡ entries_letter F kind es
  letter-whole F L kind es words out w l s =
      let ns = flat_map numbers_of es in
      let ws = flat_map (words_for kind) es in
      let size = length-append (head_bytes kind words ++ word_bytes ws) (number_bytes F ns) in
      let front = length-append (head_bytes kind words) (word_bytes ws) in
      starts-whole _ out s (omega (arith, l, w, size, front, length-head kind words, length-word_bytes ws, length-number_bytes F L ns, length-numbers_sent es))
      ∙ ap (λ n. (head_bytes kind n ++ word_bytes ws) ++ number_bytes F ns) w

  pub length-letter : (F : Conversions S) → AreConversions F → (kind : Kind) (es : List (Entry S))
      → length (entries_letter F kind es) ≡ 9 + 8 * length (flat_map (words_for kind) es) + 32 * cell_count es
  length-letter F L kind es =
      let ns = flat_map numbers_of es in
      let ws = flat_map (words_for kind) es in
      omega (
        arith,
        length-append (head_bytes kind (length ws) ++ word_bytes ws) (number_bytes F ns),
        length-append (head_bytes kind (length ws)) (word_bytes ws),
        length-head kind (length ws),
        length-word_bytes ws,
        length-number_bytes F L ns,
        length-numbers_sent es,
      )

  one-word : (kind : Kind) (e : Entry S) → kind ≢ Rows → length (words_for kind e) ≡ 1
  one-word Reg e n = refl
  one-word Ask e n = refl
  one-word Tell e n = refl
  one-word Want e n = refl
  one-word Offer e n = refl
  one-word Nums e n = refl
  one-word Rows e n = absurd (n refl)

  words-other : (kind : Kind) (es : List (Entry S)) → kind ≢ Rows → length (flat_map (words_for kind) es) ≡ length es
  words-other kind [] n = refl
  words-other kind (e ∷ es) n = omega (arith, length-append (words_for kind e) (flat_map (words_for kind) es), one-word kind e n, words-other kind es n)

  words-rows : (es : List (Entry S)) → length (flat_map (words_for Rows) es) ≡ 2 * length es + cell_count es
  words-rows [] = refl
  words-rows (e ∷ es) =
      omega (arith, length-append (words_for Rows e) (flat_map (words_for Rows) es), length-columns e, words-rows es, sum_by-cons (λ (e : Entry S). length e.cells) e es)

  pub word-count : (kind : Kind) (es : List (Entry S)) (words : ℕ) → (kind ≡ Rows → words ≡ 2 * length es + cell_count es) → (kind ≢ Rows → words ≡ length es)
      → words ≡ length (flat_map (words_for kind) es)
  word-count Rows es words r o = r refl ∙ sym (words-rows es)
  word-count Reg es words r o = let n : Reg ≢ Rows = λ e. cc in o n ∙ sym (words-other Reg es n)
  word-count Ask es words r o = let n : Ask ≢ Rows = λ e. cc in o n ∙ sym (words-other Ask es n)
  word-count Tell es words r o = let n : Tell ≢ Rows = λ e. cc in o n ∙ sym (words-other Tell es n)
  word-count Want es words r o = let n : Want ≢ Rows = λ e. cc in o n ∙ sym (words-other Want es n)
  word-count Offer es words r o = let n : Offer ≢ Rows = λ e. cc in o n ∙ sym (words-other Offer es n)
  word-count Nums es words r o = let n : Nums ≢ Rows = λ e. cc in o n ∙ sym (words-other Nums es n)

  equal-cells : (width : ℕ) (es : List (Entry S)) → list_all (λ e. eqb (length e.cells) width) es ≡ true → cell_count es ≡ length es * width
  equal-cells width [] h = omega arith
  equal-cells width (e ∷ es) h =
      let parts = list_all-parts (λ (e : Entry S). eqb (length e.cells) width) (e ∷ []) es h in
      let one = (list_all-parts (λ (e : Entry S). eqb (length e.cells) width) (e ∷ []) [] parts.0).0 in
      let here = eqb-true (length e.cells) width (list_all-slice_get (λ (e : Entry S). eqb (length e.cells) width) (e ∷ []) 0 e one refl) in
      omega (arith, sum_by-cons (λ (e : Entry S). length e.cells) e es, here, equal-cells width es parts.1)

  -- every letter of a transfer has fewer than 2^64 bytes
  pub letter-fits : (F : Conversions S) → AreConversions F → (t : TransferState) → LettersFit t → (kind : Kind) → kind ≡ kind_of t.width → (to : ℕ) → to < t.plan.ranks → (entries : List (Entry S))
      → ((width : ℕ) → t.width ≡ Some width → list_all (λ e. length e.cells == width) (sent_entries entries (export_list t.plan to)) ≡ true)
      → (kind ≡ Rows → length (entries_letter F kind (sent_entries entries (export_list t.plan to))) < 2 ^ 64)
      → length (entries_letter F kind (sent_entries entries (export_list t.plan to))) < 2 ^ 64
  letter-fits F L t fit kind k to l entries widths rows = by t.width refl
    where
      es : List (Entry S)
      es = sent_entries entries (export_list t.plan to)

      by : (o : Option ℕ) → t.width ≡ o → length (entries_letter F kind es) < 2 ^ 64
      by None e = rows (k ∙ ap kind_of e)
      by (Some w) e =
          let nums : kind ≡ Nums = k ∙ ap kind_of e in
          let not : kind ≢ Rows = λ r. let bad : Nums ≡ Rows = sym nums ∙ r in cc in
          let same = length-map (export_list t.plan to) (entry_at entries) in
          omega (arith, length-letter F L kind es, words-other kind es not, equal-cells w es (widths w e), same, ap (λ n. n * w) same, fit w e to l)

  pub rows-words : (kind : Kind) (es : List (Entry S)) → kind ≡ Rows → length (flat_map (words_for kind) es) ≡ 2 * length es + cell_count es
  rows-words kind es k = ap (λ (z : Kind). length (flat_map (words_for z) es)) k ∙ words-rows es

pub nums-of : (o : Option ℕ) (kind : Kind) → kind ≡ kind_of o → kind ≢ Rows → kind ≡ Nums
nums-of None kind e n = absurd (n e)
nums-of (Some w) kind e n = e

-- The words of ROWS: what is walked are entries, and entries are walked.
use Rattle.std.proofs.Common.{◌≡◌, ℕ, zero, suc, ◌+◌, ◌&&◌, Bool, true, false, if◌then◌else◌, List, [], ◌∷◌, ◌++◌, Option, None, Some, length, get_or, drop, ◌<◌, ◌≤◌, refl, sym, ap, subst, ◌∙◌, arith}
use Rattle.std.specs.List.{flat_map, list_all}
use Rattle.std.proofs.lemmas.Bool.{and_parts}
use Rattle.std.proofs.lemmas.Option.{same_Some}
use Rattle.std.proofs.lemmas.List.{drop-drop, drop_all, drop_at, get_or-drop, length-append, length-drop}
use Rattle.std.proofs.lemmas.List.Sums.{sum_by-cons}
use Rattle.letter_codec.specs.declared.rows.Awaited.{Awaited}
use Rattle.letter_codec.specs.declared.rows.Awaited.TheVariants.{Row, Count, Column}
use Rattle.letter_codec.specs.Letters.{RowEntry, AreRows, ascend_above, entry_words, is_above, place_count}
use Rattle.letter_codec.specs.RowWalk.{behind, columns_left, ended, numbers_of, walk}

abbrev pub are_ascending : List RowEntry → Bool
are_ascending entries = list_all (λ e. ascend_above None e.columns) entries

both : (a b : Bool) → a ≡ true → b ≡ true → (a && b) ≡ true
both a b p q = λ i. p i && q i

places-cons : (e : RowEntry) (es : List RowEntry) → place_count (e ∷ es) ≡ length e.columns + place_count es
places-cons e es = sum_by-cons (λ (x : RowEntry). length x.columns) e es

-- Entries are walked

columns-walk : (columns rest : List ℕ) (before : Option ℕ) (n : ℕ) → ascend_above before columns ≡ true
    → walk (Some (columns_left (length columns) before)) n (columns ++ rest) ≡ walk (Some Row) (n + length columns) rest
columns-walk [] rest before n h = ap (λ k. walk (Some Row) k rest) (none n)
  where
    none : (n : ℕ) → n ≡ n + 0
    none n = omega arith
columns-walk (c ∷ cs) rest before n h =
    let t = and_parts (is_above before c) (ascend_above (Some c) cs) h in
    ap (λ b. walk (if b then Some (columns_left (length cs) (Some c)) else None) (n + 1) (cs ++ rest)) t.0
    ∙ columns-walk cs rest (Some c) (n + 1) t.1
    ∙ ap (λ k. walk (Some Row) k rest) (one n (length cs))
  where
    one : (n k : ℕ) → n + 1 + k ≡ n + suc k
    one n k = omega arith

pub entries-walk : (entries : List RowEntry) (n : ℕ) → are_ascending entries ≡ true → walk (Some Row) n (flat_map entry_words entries) ≡ Some (n + place_count entries)
entries-walk [] n h = ap Some (none n)
  where
    none : (n : ℕ) → n ≡ n + 0
    none n = omega arith
entries-walk (e ∷ es) n h =
    let t = and_parts (ascend_above None e.columns) (are_ascending es) h in
    columns-walk e.columns (flat_map entry_words es) None (n + 0 + 0) t.0 ∙ entries-walk es (n + 0 + 0 + length e.columns) t.1
    ∙ ap Some (whole n (length e.columns) (place_count es) (place_count (e ∷ es)) (places-cons e es))
  where
    whole : (n k p q : ℕ) → q ≡ k + p → n + 0 + 0 + k + p ≡ n + q
    whole n k p q h = omega (arith, h)

-- What is walked are entries

-- the words from a row on, where so many numbers stood before
record Entries (n m : ℕ) (ws : List ℕ) : Type 0 where
  entries : List RowEntry
  words : ws ≡ flat_map entry_words entries
  ascend : are_ascending entries ≡ true
  total : m ≡ n + place_count entries

-- the words from a column on
record Left (left : ℕ) (before : Option ℕ) (n m : ℕ) (ws : List ℕ) : Type 0 where
  columns : List ℕ
  entries : List RowEntry
  long : length columns ≡ left
  words : ws ≡ columns ++ flat_map entry_words entries
  above : ascend_above before columns ≡ true
  ascend : are_ascending entries ≡ true
  total : m ≡ n + (length columns + place_count entries)

Means : Awaited → ℕ → ℕ → List ℕ → Type 0
Means Row n m ws = Entries n m ws
Means Count n m ws = (left : ℕ) × (rest : List ℕ) × (ws ≡ left ∷ rest) × Left left None n m rest
Means (Column left before) n m ws = Left left before n m ws

add_none : (n : ℕ) → n + 0 ≡ n
add_none n = omega arith

-- no column is left, or some are
left_of : (left : ℕ) (before : Option ℕ) (n m : ℕ) (ws : List ℕ) → ((s : Awaited) → walk (Some s) n ws ≡ Some m → Means s n m ws)
    → walk (Some (columns_left left before)) n ws ≡ Some m → Left left before n m ws
unfolding Means
left_of zero before n m ws ih e =
    let r : Entries n m ws = ih Row e in
    record { columns = []; entries = r.entries; long = refl; words = r.words; above = refl; ascend = r.ascend; total = r.total ∙ ap (λ k. n + k) (sym (zero_add (place_count r.entries))) }
  where
    zero_add : (k : ℕ) → 0 + k ≡ k
    zero_add k = omega arith
left_of (suc left) before n m ws ih e = ih (Column (suc left) before) e

one_more : (left : ℕ) (before : Option ℕ) (w n m : ℕ) (ws : List ℕ) → is_above before w ≡ true → Left left (Some w) (n + 1) m ws → Left (suc left) before n m (w ∷ ws)
one_more left before w n m ws above r = record {
  columns = w ∷ r.columns;
  entries = r.entries;
  long = ap suc r.long;
  words = ap (λ xs. w ∷ xs) r.words;
  above = both (is_above before w) (ascend_above (Some w) r.columns) above r.above;
  ascend = r.ascend;
  total = r.total ∙ one n (length r.columns) (place_count r.entries);
}
  where
    one : (n k p : ℕ) → n + 1 + (k + p) ≡ n + (suc k + p)
    one n k p = omega arith

-- the column is above the one before, or nothing comes behind it
by_above : (left : ℕ) (before : Option ℕ) (w n m : ℕ) (ws : List ℕ) (t : Bool) → is_above before w ≡ t
    → (walk (Some (columns_left left (Some w))) (n + 1) ws ≡ Some m → Left left (Some w) (n + 1) m ws)
    → walk (if t then Some (columns_left left (Some w)) else None) (n + 1) ws ≡ Some m → Left (suc left) before n m (w ∷ ws)
by_above left before w n m ws true above more e = one_more left before w n m ws above (more e)
by_above left before w n m ws false above more e = absurd (cc)

walk-means : (ws : List ℕ) (s : Awaited) (n m : ℕ) → walk (Some s) n ws ≡ Some m → Means s n m ws
unfolding Means
walk-means [] Row n m e = record { entries = []; words = refl; ascend = refl; total = sym (same_Some _ _ e) ∙ sym (add_none n) }
walk-means [] Count n m e = absurd (cc)
walk-means [] (Column left before) n m e = absurd (cc)
walk-means (w ∷ ws) Row n m e =
    let after = walk-means ws Count (n + 0) m e in
    let r = after.3 in
    record {
      entries = (record { row = w; columns = r.columns }) ∷ r.entries;
      words = ap (λ xs. w ∷ xs) (after.2 ∙ (λ i. sym r.long i ∷ r.words i));
      ascend = both (ascend_above None r.columns) (are_ascending r.entries) r.above r.ascend;
      total = r.total ∙ (λ i. add_none n i + (length r.columns + place_count r.entries)) ∙ ap (λ k. n + k) (sym (places-cons (record { row = w; columns = r.columns }) r.entries));
    }
walk-means (w ∷ ws) Count n m e =
    (w, ws, refl, subst (λ k. Left w None k m ws) (add_none n) (left_of w None (n + 0) m ws (λ s. walk-means ws s (n + 0) m) e))
walk-means (w ∷ ws) (Column zero before) n m e = absurd (cc)
walk-means (w ∷ ws) (Column (suc left) before) n m e =
    by_above left before w n m ws (is_above before w) refl (left_of left (Some w) (n + 1) m ws (λ s. walk-means ws s (n + 1) m)) e

pub walk-entries : (words : List ℕ) (m : ℕ) → walk (Some Row) 0 words ≡ Some m → (entries : List RowEntry) × AreRows words entries × (m ≡ place_count entries)
unfolding Means
walk-entries words m e =
    let r : Entries 0 m words = walk-means words Row 0 m e in
    (r.entries, (r.words, r.ascend), r.total ∙ zero_add (place_count r.entries))
  where
    zero_add : (k : ℕ) → 0 + k ≡ k
    zero_add k = omega arith

pub rows-walk : (words : List ℕ) (entries : List RowEntry) → AreRows words entries → walk (Some Row) 0 words ≡ Some (place_count entries)
rows-walk words entries rows = ap (walk (Some Row) 0) rows.0 ∙ entries-walk entries 0 rows.1 ∙ ap Some (zero_add (place_count entries))
  where
    zero_add : (k : ℕ) → 0 + k ≡ k
    zero_add k = omega arith

-- One entry of the words

pub record NextEntry (words : List ℕ) (at : ℕ) (left : List RowEntry) : Type 0 where
  pub columns : ℕ
  pub rest : List RowEntry
  pub counted : length left ≡ suc (length rest)
  pub here : get_or words (at + 1) 0 ≡ columns
  pub room : at + (2 + columns) ≤ length words
  pub behind : drop (at + (2 + columns)) words ≡ flat_map entry_words rest

pub next-entry : (words : List ℕ) (at : ℕ) (left : List RowEntry) → at < length words → drop at words ≡ flat_map entry_words left → NextEntry words at left
next-entry words at [] l e = let none = ap length e in let rest = length-drop at words in absurd (omega arith)
next-entry words at (r ∷ rs) l e =
    let long = ap length e in
    let rest = length-drop at words in
    let split = length-append (entry_words r) (flat_map entry_words rs) in
    record {
      columns = length r.columns;
      rest = rs;
      counted = refl;
      here = sym (get_or-drop at words 1 0) ∙ ap (λ xs. get_or xs 1 0) e;
      room = omega arith;
      behind =
          sym (drop-drop (2 + length r.columns) at words) ∙ ap (drop (2 + length r.columns)) e
          ∙ drop_at (entry_words r) (flat_map entry_words rs) (2 + length r.columns) (two (length r.columns));
    }
  where
    two : (k : ℕ) → suc (suc k) ≡ 2 + k
    two k = omega arith

pub no-entry : (words : List ℕ) (at : ℕ) (left : List RowEntry) → length words ≤ at → drop at words ≡ flat_map entry_words left → length left ≡ 0
no-entry words at [] l e = refl
no-entry words at (r ∷ rs) l e =
    let long = ap length e in
    let rest = length-drop at words in
    absurd (omega arith)

-- One word

pub walk-step : (s : Awaited) (n : ℕ) (words : List ℕ) (at w : ℕ) (o : Option Awaited) → drop at words ≡ w ∷ drop (at + 1) words → o ≡ behind s w
    → walk (Some s) n (drop at words) ≡ walk o (n + numbers_of s) (drop (at + 1) words)
walk-step s n words at w o e b = ap (walk (Some s) n) e ∙ ap (λ t. walk t (n + numbers_of s) (drop (at + 1) words)) (sym b)

pub walk-end : (s : Awaited) (n : ℕ) (words : List ℕ) (at : ℕ) → length words ≤ at → walk (Some s) n (drop at words) ≡ ended s n
walk-end s n words at l = ap (walk (Some s) n) (drop_all at words l)

pub not_row : (s : Awaited) (n : ℕ) → (s ≡ Row → ⊥) → ended s n ≡ None
not_row Row n h = absurd (h refl)
not_row Count n h = refl
not_row (Column left before) n h = refl

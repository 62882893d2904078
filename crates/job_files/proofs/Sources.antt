-- Sources that give the texts that are held, those of the names that were read, and one more.
use Rattle.std.proofs.Common.{◌≡◌, ◌⊎◌, ℕ, ◌<◌, cond, List, length, get_or, Option, Some, None, Result, Ok, Err, IfOk, IfErr, refl, sym, ap, ◌∙◌, subst, inl, inr}
use Rattle.std.specs.Str.{bytes_eq}
use Rattle.std.proofs.lemmas.Bool.{false_from_ne_true}
use Rattle.std.proofs.lemmas.Slice.Eq.{bytes_eq-Decides}
use Rattle.outside.specs.Reads.{AgreesWith, HasText, Source}
use Rattle.mm_text.specs.declared.fault.MmFault.{MmFault}
use Rattle.mm_text.specs.declared.fault.MmFault.TheVariants.{NoMem, ReadFault}
use Rattle.mm_text.specs.declared.file_data.FileData.{FileData}
use Rattle.mm_text.specs.Outcomes.{Gives, IsTextFault}
use Rattle.mm_text.specs.Reading.{File, HasFault, IsFile, file_of, reading}
use Rattle.job_files.specs.declared.held.HeldText.{HeldText}
use Rattle.job_files.specs.Held.{GivesHeld, held_text}
use Rattle.job_files.specs.Steps.{AnswersNext, Extends, GivesNext, IsRead}
use Rattle.job_files.specs.Walk.{or_refused, text_read}
use Rattle.job_files.specs.Wanted.{Wanted, profile_for}

-- what is answered for a text that the source gives the name
gives_text : (source : Source) (room : ℕ) (w : Wanted) (text : List ℕ) (r : Result FileData MmFault) → source w.name ≡ Some text
    → Gives file_of r (reading (profile_for room w.kind) text) → GivesNext source room w r
gives_text source room w text (Ok found) named is = ap (text_read room w) named ∙ ap (or_refused w.name) is
gives_text source room w text (Err fault) named is = λ h.
    elim is [
      | inl memory ↦ absurd (none fault memory h)
      | inr e ↦ ap (text_read room w) named ∙ ap (or_refused w.name) e
    ]
  where
    none : (fault : MmFault) → fault ≡ NoMem → IsTextFault fault → ⊥
    none fault e h = let at = subst IsTextFault e h in at

module _ (told : Option Source) (held : List HeldText) (ws : List Wanted) (files : List File) (room : ℕ) (w : Wanted) (r : Result FileData MmFault) where
  -- the same source gives the text
  from_same : (before : Source) (text : List ℕ) → AgreesWith told before → GivesHeld held before → before w.name ≡ Some text
      → Gives file_of r (reading (profile_for room w.kind) text) → Extends told held ws before (λ source. GivesNext source room w r)
  from_same before text agrees gives named is = record {
    source = before;
    agrees = agrees;
    gives = gives;
    same = λ k d h. refl;
    passes = gives_text before room w text r named is;
  }

  -- the text is held
  pub answers-held : (text : List ℕ) → held_text held w.name ≡ Some text → Gives file_of r (reading (profile_for room w.kind) text)
      → AnswersNext told held ws files room w r
  answers-held text named is before agrees gives read = from_same before text agrees gives (gives w.name text named) is

  -- it was read before, as a file that a source gives
  read_before : (before : Source) (v : Wanted) (file : File) → AgreesWith told before → GivesHeld held before → v.name ≡ w.name → IsRead before v file
      → ((old : ℕ) (text : List ℕ) → IsFile (profile_for old v.kind) text file → Gives file_of r (reading (profile_for room w.kind) text))
      → Extends told held ws before (λ source. GivesNext source room w r)
  read_before before v file agrees gives same read again =
      from_same before read.text agrees gives (ap before (sym same) ∙ read.named) (again read.room read.text read.is)

  pub answers-again : (k : ℕ) (d : Wanted) (e : File) → k < length files → (get_or ws k d).name ≡ w.name
      → ((old : ℕ) (text : List ℕ) → IsFile (profile_for old (get_or ws k d).kind) text (get_or files k e) → Gives file_of r (reading (profile_for room w.kind) text))
      → AnswersNext told held ws files room w r
  answers-again k d e within same again before agrees gives read =
      read_before before (get_or ws k d) (get_or files k e) agrees gives same (read k d e within) again

-- a source with one text more
abbrev with_text : Source → List ℕ → List ℕ → Source
with_text source name text n = cond (bytes_eq name n) (Some text) (source n)

with_text-same : (source : Source) (name text : List ℕ) → with_text source name text name ≡ Some text
with_text-same source name text =
    ap (λ b. cond b (Some text) (source name)) ((bytes_eq-Decides name name).1 refl)

with_text-other : (source : Source) (name text n : List ℕ) → (name ≡ n → ⊥) → with_text source name text n ≡ source n
with_text-other source name text n other =
    ap (λ b. cond b (Some text) (source n)) (false_from_ne_true _ (λ t. other ((bytes_eq-Decides name n).0 t)))

-- a source that gives a text to a name which is not held and was not read before
record NewText (told : Option Source) (held : List HeldText) (ws : List Wanted) (before : Source) (name : List ℕ) (P : List ℕ → Type 0) : Type 0 where
  source : Source
  agrees : AgreesWith told source
  gives : GivesHeld held source
  same : (k : ℕ) (d : Wanted) → k < length ws → source (get_or ws k d).name ≡ before (get_or ws k d).name
  text : List ℕ
  named : source name ≡ Some text
  holds : P text

new_text : (told : Option Source) (held : List HeldText) (ws : List Wanted) (before : Source) (name : List ℕ) (P : List ℕ → Type 0)
    → AgreesWith told before → GivesHeld held before → held_text held name ≡ None
    → ((k : ℕ) (d : Wanted) → k < length ws → (get_or ws k d).name ≡ name → ⊥) → HasText told name P → NewText told held ws before name P
new_text None held ws before name P agrees gives free apart has = record {
  source = with_text before name has.text;
  agrees = tt;
  gives = λ n text h. with_text-other before name has.text n (λ same. not_held n text same h) ∙ gives n text h;
  same = λ k d h. with_text-other before name has.text _ (λ same. apart k d h (sym same));
  text = has.text;
  named = with_text-same before name has.text;
  holds = has.holds;
}
  where
    not_held : (n text : List ℕ) → name ≡ n → held_text held n ≡ Some text → ⊥
    not_held n text same h = let there : held_text held name ≡ Some text = ap (held_text held) same ∙ h in cc
new_text (Some source) held ws before name P agrees gives free apart has = record {
  source = before;
  agrees = agrees;
  gives = gives;
  same = λ k d h. refl;
  text = has.text;
  named = ap (λ (s : Source). s name) (agrees ∙ sym has.agrees) ∙ has.named;
  holds = has.holds;
}

text_fault_or_not : (fault : MmFault) → IsTextFault fault ⊎ (IsTextFault fault → ⊥)
text_fault_or_not ReadFault = inr (λ h. h)
text_fault_or_not NoMem = inr (λ h. h)
text_fault_or_not fault = inl tt

module _ (told : Option Source) (held : List HeldText) (ws : List Wanted) (files : List File) (room : ℕ) (w : Wanted) where
  from_new : (r : Result FileData MmFault) (before : Source) (P : List ℕ → Type 0) → ((text : List ℕ) → P text → Gives file_of r (reading (profile_for room w.kind) text))
      → NewText told held ws before w.name P → Extends told held ws before (λ source. GivesNext source room w r)
  from_new r before P is new = record {
    source = new.source;
    agrees = new.agrees;
    gives = new.gives;
    same = new.same;
    passes = gives_text new.source room w new.text r new.named (is new.text new.holds);
  }

  by_fault : (fault : MmFault) → held_text held w.name ≡ None
      → ((k : ℕ) (d : Wanted) → k < length ws → (get_or ws k d).name ≡ w.name → ⊥)
      → (IsTextFault fault → HasText told w.name (λ text. HasFault (profile_for room w.kind) text fault))
      → (before : Source) → AgreesWith told before → GivesHeld held before → IsTextFault fault ⊎ (IsTextFault fault → ⊥)
      → Extends told held ws before (λ source. GivesNext source room w (Err fault))
  by_fault fault free apart has before agrees gives (inl is) =
      from_new (Err fault) before (λ text. HasFault (profile_for room w.kind) text fault) (λ text e. inr e)
      (new_text told held ws before w.name _ agrees gives free apart (has is))
  by_fault fault free apart has before agrees gives (inr other) = record {
    source = before;
    agrees = agrees;
    gives = gives;
    same = λ k d h. refl;
    passes = λ is. absurd (other is);
  }

  -- the name is new, and its text was read
  pub answers-new : (r : Result FileData MmFault) → held_text held w.name ≡ None
      → ((k : ℕ) (d : Wanted) → k < length ws → (get_or ws k d).name ≡ w.name → ⊥)
      → IfOk r (λ found. HasText told w.name (λ text. IsFile (profile_for room w.kind) text (file_of found)))
      → IfErr r (λ fault. IsTextFault fault → HasText told w.name (λ text. HasFault (profile_for room w.kind) text fault))
      → AnswersNext told held ws files room w r
  answers-new (Ok found) free apart has none before agrees gives read =
      from_new (Ok found) before (λ text. IsFile (profile_for room w.kind) text (file_of found)) (λ text is. is)
      (new_text told held ws before w.name _ agrees gives free apart has)
  answers-new (Err fault) free apart none has before agrees gives read = by_fault fault free apart has before agrees gives (text_fault_or_not fault)

-- Walks over wanted files: in two parts, over two sources, and at one place.
use Rattle.std.proofs.Common.{◌≡◌, ℕ, zero, suc, ◌<◌, List, [], ◌∷◌, ◌++◌, length, get_or, Option, None, Some, Result, Ok, Err, refl, sym, ap, ◌∙◌, subst, arith}
use Rattle.std.specs.List.{IsAmong}
use Rattle.outside.specs.Reads.{Source}
use Rattle.mm_text.specs.Reading.{File, reading}
use Rattle.mm_text.specs.Outcomes.{Outcome}
use Rattle.job_files.specs.Steps.{AreRead, IsRead}
use Rattle.job_files.specs.Wanted.{Wanted, profile_for}
use Rattle.job_files.specs.Walk.{Stop, ◌>>=◌, file_read, files_within, names_behind, names_within, or_refused, room_behind, text_read}

-- the room behind these files
abbrev pub room_after : ℕ → List File → ℕ
room_after room [] = room
room_after room (file ∷ files) = room_after (room_behind room file) files

pub room_after-push : (room : ℕ) (files : List File) (file : File) → room_after room (files ++ file ∷ []) ≡ room_behind (room_after room files) file
room_after-push room [] file = refl
room_after-push room (f ∷ files) file = room_after-push (room_behind room f) files file

-- a walk whose first part reads these files
record Begins (source : Source) (room : ℕ) (w : Wanted) (ws : List Wanted) (files : List File) : Type 0 where
  file : File
  rest : List File
  here : file_read source room w ≡ Ok file
  later : files_within source (room_behind room file) ws ≡ Ok rest
  all : files ≡ file ∷ rest

begins_rest : (file : File) (r : Result (List File) Stop) (files : List File) → (r >>= (λ rest. Ok (file ∷ rest))) ≡ Ok files
    → (rest : List File) × (r ≡ Ok rest) × (files ≡ file ∷ rest)
begins_rest file (Ok rest) files e = let same : files ≡ file ∷ rest = cc in (rest, refl, same)
begins_rest file (Err stop) files e = absurd (cc)

begins_file : (r : Result File Stop) (next : File → Result (List File) Stop) (files : List File) → (r >>= (λ file. next file >>= (λ rest. Ok (file ∷ rest)))) ≡ Ok files
    → (file : File) × (rest : List File) × (r ≡ Ok file) × (next file ≡ Ok rest) × (files ≡ file ∷ rest)
begins_file (Ok file) next files e = let b = begins_rest file (next file) files e in (file, b.0, refl, b.1, b.2)
begins_file (Err stop) next files e = absurd (cc)

begins : (source : Source) (room : ℕ) (w : Wanted) (ws : List Wanted) (files : List File) → files_within source room (w ∷ ws) ≡ Ok files
    → Begins source room w ws files
begins source room w ws files e =
    let b = begins_file (file_read source room w) (λ file. files_within source (room_behind room file) ws) files e in
    record { file = b.0; rest = b.1; here = b.2; later = b.3; all = b.4 }

-- the walk goes on behind a file
pub goes_on : (source : Source) (room : ℕ) (w : Wanted) (ws : List Wanted) (file : File) → file_read source room w ≡ Ok file
    → files_within source room (w ∷ ws) ≡ (files_within source (room_behind room file) ws >>= (λ rest. Ok (file ∷ rest)))
goes_on source room w ws file e =
    ap (λ (r : Result File Stop). r >>= (λ f. files_within source (room_behind room f) ws >>= (λ rest. Ok (f ∷ rest)))) e

-- it goes on behind the files of its first part
pub goes_on_after : (source : Source) (ws vs : List Wanted) (room : ℕ) (files : List File) → files_within source room ws ≡ Ok files
    → files_within source room (ws ++ vs) ≡ (files_within source (room_after room files) vs >>= (λ rest. Ok (files ++ rest)))
goes_on_after source [] vs room files e =
    let none : files ≡ [] = cc in
    rw none (whole (files_within source room vs))
  where
    whole : (r : Result (List File) Stop) → r ≡ (r >>= (λ rest. Ok rest))
    whole (Ok rest) = refl
    whole (Err stop) = refl
goes_on_after source (w ∷ ws) vs room files e =
    let b = begins source room w ws files e in
    goes_on source room w (ws ++ vs) b.file b.here
    ∙ ap (λ (r : Result (List File) Stop). r >>= (λ rest. Ok (b.file ∷ rest))) (goes_on_after source ws vs (room_behind room b.file) b.rest b.later)
    ∙ joined b.file b.rest (files_within source (room_after (room_behind room b.file) b.rest) vs)
    ∙ ap (λ fs. files_within source (room_after room fs) vs >>= (λ rest. Ok (fs ++ rest))) (sym b.all)
  where
    joined : (file : File) (files : List File) (r : Result (List File) Stop)
        → ((r >>= (λ rest. Ok (files ++ rest))) >>= (λ rest. Ok (file ∷ rest))) ≡ (r >>= (λ rest. Ok ((file ∷ files) ++ rest)))
    joined file files (Ok rest) = refl
    joined file files (Err stop) = refl

-- one file more
pub one_more : (source : Source) (ws : List Wanted) (w : Wanted) (room : ℕ) (files : List File) (file : File) → files_within source room ws ≡ Ok files
    → file_read source (room_after room files) w ≡ Ok file → files_within source room (ws ++ w ∷ []) ≡ Ok (files ++ file ∷ [])
one_more source ws w room files file before here =
    goes_on_after source ws (w ∷ []) room files before
    ∙ ap (λ (r : Result (List File) Stop). r >>= (λ rest. Ok (files ++ rest))) (goes_on source (room_after room files) w [] file here)

-- the walk ends where the next file is not read
pub ends_there : (source : Source) (ws : List Wanted) (w : Wanted) (vs : List Wanted) (room : ℕ) (files : List File) (stop : Stop) → files_within source room ws ≡ Ok files
    → file_read source (room_after room files) w ≡ Err stop → files_within source room (ws ++ w ∷ vs) ≡ Err stop
ends_there source ws w vs room files stop before here =
    goes_on_after source ws (w ∷ vs) room files before
    ∙ ap (λ (r : Result File Stop). (r >>= (λ f. files_within source (room_behind (room_after room files) f) vs >>= (λ rest. Ok (f ∷ rest)))) >>= (λ rest. Ok (files ++ rest))) here

-- the next name is read
pub next_is_read : (source : Source) (ws : List Wanted) (w : Wanted) (vs : List Wanted) (room : ℕ) (files : List File) → files_within source room ws ≡ Ok files
    → IsAmong (names_within source room (ws ++ w ∷ vs)) w.name
next_is_read source [] w vs room files before = (0, (omega arith, refl))
next_is_read source (x ∷ ws) w vs room files before =
    let b = begins source room x ws files before in
    subst (λ (r : Result File Stop). IsAmong (x.name ∷ names_behind r (λ file. names_within source (room_behind room file) (ws ++ w ∷ vs))) w.name) (sym b.here)
    (later x.name w.name _ (next_is_read source ws w vs (room_behind room b.file) b.rest b.later))
  where
    later : (x v : List ℕ) (xs : List (List ℕ)) → IsAmong xs v → IsAmong (x ∷ xs) v
    later x v xs h = (suc h.0, (omega (arith, h.1.0), h.1.1))

-- there is a file for each that is wanted
pub as_many : (source : Source) (ws : List Wanted) (room : ℕ) (files : List File) → files_within source room ws ≡ Ok files → length files ≡ length ws
as_many source [] room files e = let none : files ≡ [] = cc in ap length none
as_many source (w ∷ ws) room files e =
    let b = begins source room w ws files e in
    ap length b.all ∙ ap suc (as_many source ws (room_behind room b.file) b.rest b.later)

-- a file that is read has a text
read_text : (source : Source) (room : ℕ) (w : Wanted) (file : File) → file_read source room w ≡ Ok file → IsRead source w file
read_text source room w file e = by (source w.name) refl e
  where
    file_is : (name : List ℕ) (r : Outcome File) (file : File) → or_refused name r ≡ Ok file → r ≡ Ok file
    file_is name (Ok found) file e = let same : found ≡ file = cc in ap Ok same
    file_is name (Err fault) file e = absurd (cc)

    by : (o : Option (List ℕ)) → source w.name ≡ o → text_read room w o ≡ Ok file → IsRead source w file
    by None named e = absurd (cc)
    by (Some text) named e = record { room = room; text = text; named = named; is = file_is w.name (reading (profile_for room w.kind) text) file e }

-- so has each file of a walk
pub are_read : (source : Source) (ws : List Wanted) (room : ℕ) (files : List File) → files_within source room ws ≡ Ok files → AreRead source ws files
are_read source [] room files e = λ k d f h. let none : files ≡ [] = cc in absurd (let h' = subst (λ (fs : List File). k < length fs) none h in omega arith)
are_read source (w ∷ ws) room files e =
    let b = begins source room w ws files e in
    subst (λ (fs : List File). AreRead source (w ∷ ws) fs) (sym b.all) (both w ws b.file b.rest (read_text source room w b.file b.here) (are_read source ws (room_behind room b.file) b.rest b.later))
  where
    both : (w : Wanted) (ws : List Wanted) (file : File) (files : List File) → IsRead source w file → AreRead source ws files → AreRead source (w ∷ ws) (file ∷ files)
    both w ws file files here later zero d f h = here
    both w ws file files here later (suc k) d f h = later k d f (omega arith)

-- the walk is the same over sources that give the wanted names the same texts
next_same : (r : Result File Stop) (f g : File → Result (List File) Stop) → ((file : File) → f file ≡ g file)
    → (r >>= (λ file. f file >>= (λ rest. Ok (file ∷ rest)))) ≡ (r >>= (λ file. g file >>= (λ rest. Ok (file ∷ rest))))
next_same (Ok file) f g h = ap (λ (r : Result (List File) Stop). r >>= (λ rest. Ok (file ∷ rest))) (h file)
next_same (Err stop) f g h = refl

pub same_walk : (source other : Source) (ws : List Wanted) (room : ℕ)
    → ((k : ℕ) (d : Wanted) → k < length ws → source (get_or ws k d).name ≡ other (get_or ws k d).name)
    → files_within source room ws ≡ files_within other room ws
same_walk source other [] room same = refl
same_walk source other (w ∷ ws) room same =
    ap (λ (o : Option (List ℕ)). text_read room w o >>= (λ file. files_within source (room_behind room file) ws >>= (λ rest. Ok (file ∷ rest)))) (same 0 w (omega arith))
    ∙ next_same (file_read other room w) (λ file. files_within source (room_behind room file) ws) (λ file. files_within other (room_behind room file) ws)
    (λ file. same_walk source other ws (room_behind room file) (λ k d h. same (suc k) d (omega arith)))

-- The names of a job's files, and the faults that name one of them.
use Rattle.std.proofs.Common.{◌≡◌, ◌⊎◌, ℕ, zero, suc, List, [], ◌∷◌, ◌++◌, map, Option, None, Some, Result, Ok, Err, refl, sym, ap, ◌∙◌, subst, inl, inr, arith}
use Rattle.std.specs.List.{IsAmong, flat_map}
use Rattle.std.proofs.lemmas.List.{map-append}
use Rattle.outside.specs.Reads.{Source}
use Rattle.mm_text.specs.declared.fault.MmFault.{MmFault}
use Rattle.mm_text.specs.Outcomes.{Outcome}
use Rattle.mm_text.specs.Reading.{File, reading}
use Rattle.model_defs.specs.declared.job.Job.{Job}
use Rattle.model_defs.specs.declared.job.VectorSpec.{VectorSpec}
use Rattle.model_defs.specs.declared.job.PartsSpec.{PartsSpec}
use Rattle.model_defs.specs.declared.job.MatrixSpec.{MatrixSpec}
use Rattle.model_defs.specs.Given.{origin_files}
use Rattle.model_defs.specs.Makers.{GivenVector, GivenParts, GivenMatrix}
use Rattle.model_defs.specs.Maps.{size_of}
use Rattle.job_files.specs.declared.fault.FilesFault.{FilesFault}
use Rattle.job_files.specs.declared.fault.FilesFault.TheVariants.{Memory, Unread, Refused}
use Rattle.job_files.specs.declared.wanted.FileKind.{FileKind}
use Rattle.job_files.specs.declared.wanted.FileKind.TheVariants.{Array}
use Rattle.job_files.specs.Steps.{GivesFiles}
use Rattle.job_files.specs.Walk.{Stop, ◌>>=◌, file_read, files_within, most_entries, names_behind, names_within, no_file, or_refused, refused, room_behind, text_read}
use Rattle.job_files.specs.Wanted.{Wanted, profile_for, vector_kind, wanted, wanted_as, wanted_by}
use Rattle.job_files.proofs.Wanting.{wanted-in_order}
use Rattle.run_input.specs.Faults.{NamesOneOf}
use Rattle.run_input.specs.Names.{job_file_names}
use Rattle.run_input.proofs.Among.{among-later, among-none}

-- ---- the names, by the lists of the given values

abbrev name_of : Wanted → List ℕ
name_of w = w.name

names_of : (kind : FileKind) (names : List (List ℕ)) → map name_of (map (wanted_as kind) names) ≡ names
names_of kind [] = refl
names_of kind (n ∷ ns) = ap (λ (xs : List (List ℕ)). n ∷ xs) (names_of kind ns)

map-flat_map : {X : Type 0} (f : X → List Wanted) (g : X → List (List ℕ)) (xs : List X) → ((x : X) → map name_of (f x) ≡ g x) → map name_of (flat_map f xs) ≡ flat_map g xs
map-flat_map f g [] e = refl
map-flat_map f g (x ∷ xs) e = map-append name_of (f x) (flat_map f xs) ∙ ap (λ (ns : List (List ℕ)). ns ++ map name_of (flat_map f xs)) (e x) ∙ ap (λ (ns : List (List ℕ)). g x ++ ns) (map-flat_map f g xs e)

pub names-in_order : (job : Job) → job_file_names job
    ≡ flat_map (λ spec. origin_files spec.from) job.vectors ++ flat_map (λ spec. origin_files spec.from) job.parts ++ flat_map (λ spec. spec.file ∷ []) job.matrices
names-in_order job =
    let vs = flat_map (λ (spec : VectorSpec). wanted_by job (GivenVector spec)) job.vectors in
    let ps = flat_map (λ (spec : PartsSpec). wanted_by job (GivenParts spec)) job.parts in
    let ms = flat_map (λ (spec : MatrixSpec). wanted_by job (GivenMatrix spec)) job.matrices in
    let v : map name_of vs ≡ flat_map (λ (spec : VectorSpec). origin_files spec.from) job.vectors =
    map-flat_map (λ (spec : VectorSpec). wanted_by job (GivenVector spec)) (λ (spec : VectorSpec). origin_files spec.from) job.vectors (λ spec. names_of (vector_kind (size_of job spec.map)) (origin_files spec.from)) in
    let p : map name_of ps ≡ flat_map (λ (spec : PartsSpec). origin_files spec.from) job.parts =
    map-flat_map (λ (spec : PartsSpec). wanted_by job (GivenParts spec)) (λ (spec : PartsSpec). origin_files spec.from) job.parts (λ spec. names_of Array (origin_files spec.from)) in
    let m : map name_of ms ≡ flat_map (λ (spec : MatrixSpec). spec.file ∷ []) job.matrices =
    map-flat_map (λ (spec : MatrixSpec). wanted_by job (GivenMatrix spec)) (λ (spec : MatrixSpec). spec.file ∷ []) job.matrices (λ spec. refl) in
    ap (map name_of) (wanted-in_order job)
    ∙ map-append name_of (vs ++ ps) ms
    ∙ ap (λ (ns : List (List ℕ)). ns ++ map name_of ms) (map-append name_of vs ps)
    ∙ (λ t. (v t ++ p t) ++ m t)

-- ---- the name of a fault is one of them

among-cons : {X : Type 0} (x v : X) (xs : List X) → IsAmong (x ∷ xs) v → (v ≡ x) ⊎ IsAmong xs v
among-cons x v xs (zero, (within, same)) = inl same
among-cons x v xs (suc i, (within, same)) = inr (i, (omega (arith, within), same))

among-head : {X : Type 0} (x v : X) (xs : List X) → v ≡ x → IsAmong (x ∷ xs) v
among-head x v xs e = (0, (omega arith, e))

among_behind : (r : Result File Stop) (next : File → List (List ℕ)) (names : List (List ℕ)) (n : List ℕ) → ((file : File) → IsAmong (next file) n → IsAmong names n)
    → IsAmong (names_behind r next) n → IsAmong names n
among_behind (Ok file) next names n f h = f file h
among_behind (Err stop) next names n f h = absurd (among-none n h)

pub read-among : (source : Source) (room : ℕ) (ws : List Wanted) (n : List ℕ) → IsAmong (names_within source room ws) n → IsAmong (map (λ w. w.name) ws) n
read-among source room [] n h = absurd (among-none n h)
read-among source room (w ∷ ws) n h =
    elim (among-cons w.name n (names_behind (file_read source room w) (λ file. names_within source (room_behind room file) ws)) h) [
      | inl same ↦ among-head w.name n (map (λ w. w.name) ws) same
      | inr later ↦
          among-later w.name n (map (λ w. w.name) ws)
          (among_behind (file_read source room w) (λ file. names_within source (room_behind room file) ws) (map (λ w. w.name) ws) n
          (λ file i. read-among source (room_behind room file) ws n i) later)
    ]

refused_here : (name : List ℕ) (r : Outcome File) (n : List ℕ) (fault : MmFault) → or_refused name r ≡ Err (refused n fault) → n ≡ name
refused_here name (Ok file) n fault e = absurd (cc)
refused_here name (Err f) n fault e = let same : name ≡ n = cc in sym same

refused_text : (room : ℕ) (w : Wanted) (o : Option (List ℕ)) (n : List ℕ) (fault : MmFault) → text_read room w o ≡ Err (refused n fault) → n ≡ w.name
refused_text room w None n fault e = absurd (none (no_file w.name) (refused n fault) refl refl (let same : no_file w.name ≡ refused n fault = cc in same))
  where
    none : (a b : Stop) → a ≡ no_file w.name → b ≡ refused n fault → a ≡ b → ⊥
    none a b x y z = cc
refused_text room w (Some text) n fault e = refused_here w.name (reading (profile_for room w.kind) text) n fault e

stopped_rest : (r : Result (List File) Stop) (file : File) (stop : Stop) → (r >>= (λ files. Ok (file ∷ files))) ≡ Err stop → r ≡ Err stop
stopped_rest (Ok files) file stop e = absurd (cc)
stopped_rest (Err s) file stop e = e

stopped : (r : Result File Stop) (next : File → Result (List File) Stop) (stop : Stop) → (r >>= (λ file. next file >>= (λ files. Ok (file ∷ files)))) ≡ Err stop
    → (r ≡ Err stop) ⊎ ((file : File) × (next file ≡ Err stop))
stopped (Ok file) next stop e = inr (file, stopped_rest (next file) file stop e)
stopped (Err s) next stop e = inl (let same : s ≡ stop = cc in ap Err same)

pub refused-among : (source : Source) (room : ℕ) (ws : List Wanted) (n : List ℕ) (fault : MmFault) → files_within source room ws ≡ Err (refused n fault)
    → IsAmong (map (λ w. w.name) ws) n
refused-among source room [] n fault e = absurd (cc)
refused-among source room (w ∷ ws) n fault e =
    elim (stopped (file_read source room w) (λ file. files_within source (room_behind room file) ws) (refused n fault) e) [
      | inl here ↦ among-head w.name n (map (λ w. w.name) ws) (refused_text room w (source w.name) n fault here)
      | inr rest ↦ among-later w.name n (map (λ w. w.name) ws) (refused-among source (room_behind room rest.0) ws n fault rest.1)
    ]

pub fault-among : (source : Source) (job : Job) (names : List (List ℕ)) (fault : FilesFault) → names ≡ job_file_names job
    → GivesFiles source job (Err fault) → NamesOneOf names fault
fault-among source job names Memory same h = tt
fault-among source job names (Unread name) same h = subst (λ (ns : List (List ℕ)). IsAmong ns name.now) (sym same) (read-among source most_entries (wanted job) name.now h)
fault-among source job names (Refused name fault) same h = subst (λ (ns : List (List ℕ)). IsAmong ns name.now) (sym same) (refused-among source most_entries (wanted job) name.now fault h)

-- Where a name stands among the files that were read before.
use Rattle.std.specs.Prelude.{ℕ, ◌+◌, List, [], ◌∷◌, Option, None, Some, if◌then◌else◌}
use Rattle.std.specs.Str.{bytes_eq}
use Rattle.job_files.specs.declared.wanted.WantedFile.{WantedFile}

-- the place of the first file of this name, where the first of these has place n
abbrev pub place_from : ℕ → List ℕ → List WantedFile → Option ℕ
place_from n name [] = None
place_from n name (w ∷ ws) = if bytes_eq w.name.now name then Some n else place_from (n + 1) name ws

-- The entries of lines, one after the other.
use Rattle.std.proofs.Common.{◌≡◌, ◌∙◌, ℕ, List, [], ◌∷◌, ◌++◌, None, Some, Result, Ok, Err, refl, sym, ap, append_assoc}
use Rattle.std.proofs.lemmas.List.{append-nil}
use Rattle.outside.specs.declared.name.Name.{Name}
use Rattle.text_lines.specs.Lines.{Text}
use Rattle.schedule.specs.declared.fault.ScheduleFault.{ScheduleFault}
use Rattle.schedule.specs.declared.fault.ScheduleFault.TheVariants.{BadLine}
use Rattle.schedule.specs.declared.order.Entry.{Entry}
use Rattle.schedule.specs.Texts.{entries_of, name_of_line, onto_entries}

-- what is read where these entries were found before
abbrev pub behind : List Entry → Result (List Entry) ScheduleFault → Result (List Entry) ScheduleFault
behind found (Ok entries) = Ok (found ++ entries)
behind found (Err fault) = Err fault

pub behind-none : (read : Result (List Entry) ScheduleFault) → behind [] read ≡ read
behind-none (Ok entries) = refl
behind-none (Err fault) = refl

-- no line is left
pub behind-end : (found : List Entry) → behind found (Ok []) ≡ Ok found
behind-end found = ap Ok (append-nil found)

onto : (found : List Entry) (line : ℕ) (name : Name) (read : Result (List Entry) ScheduleFault) →
    behind found (onto_entries line (Some name) read) ≡ behind (found ++ (record { line = line; name = name }) ∷ []) read
onto found line name (Ok entries) = ap Ok (sym (append_assoc found ((record { line = line; name = name }) ∷ []) entries))
onto found line name (Err fault) = refl

-- a line that names a letter
pub behind-entry : (found : List Entry) (line : ℕ × Text) (lines : List (ℕ × Text)) (name : Name) → name_of_line line.1 ≡ Some name →
    behind found (entries_of (line ∷ lines)) ≡ behind (found ++ (record { line = line.0; name = name }) ∷ []) (entries_of lines)
behind-entry found line lines name is =
    ap (λ n. behind found (onto_entries line.0 n (entries_of lines))) is ∙ onto found line.0 name (entries_of lines)

-- a line that names none
pub behind-bad : (found : List Entry) (line : ℕ × Text) (lines : List (ℕ × Text)) → name_of_line line.1 ≡ None →
    behind found (entries_of (line ∷ lines)) ≡ Err (BadLine line.0)
behind-bad found line lines is = ap (λ n. behind found (onto_entries line.0 n (entries_of lines))) is

use Rattle.std.proofs.Common.{subst, sym, arith}
use Rattle.std.proofs.lemmas.List.{length-take-le}
use Rattle.mm_text.specs.Outcomes.{Gives}
use Rattle.mm_text.specs.Reading.{file_of}
use Rattle.mm_text.proofs.ReadingLemmas.{reading_long, reading_whole}
use Rattle.mm_text.proofs.reading.text.read_text.Goals as goal

pub slice_bounds-read_lines-end : goal.slice_bounds-read_lines-end
slice_bounds-read_lines-end c = sym (length-take-le c.args.profile.bytes c.args.bytes.now (omega arith))

pub read_lines-requires-else-bytes-profile-clause-length : goal.read_lines-requires-else-bytes-profile-clause-length
read_lines-requires-else-bytes-profile-clause-length c =
    omega (arith, length-take-le c.args.profile.bytes c.args.bytes.now (omega arith), c.requires.bytes)

pub returns-then-bytes-profile : goal.returns-then-bytes-profile
returns-then-bytes-profile c =
    subst (λ r. Gives file_of c.read_lines.result r)
    (sym (reading_whole c.args.profile c.args.bytes.now (omega arith))) c.read_lines.ensures

pub returns-else-bytes-profile : goal.returns-else-bytes-profile
returns-else-bytes-profile c =
    subst (λ r. Gives file_of c.read_lines-else-bytes-profile.result r)
    (sym (reading_long c.args.profile c.args.bytes.now (omega arith))) c.read_lines-else-bytes-profile.ensures

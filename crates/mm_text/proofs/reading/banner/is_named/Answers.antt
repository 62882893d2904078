use Rattle.std.proofs.Common.{List, ℕ, ap, ◌∙◌}
use Rattle.std.proofs.lemmas.Bool.Decides.{same_from_decides}
use Rattle.std.proofs.lemmas.Slice.Eq.{bytes_eq-Decides}
use Rattle.std.specs.Str.{str_eq_ignore_ascii_case, str_to_ascii_lowercase}
use Rattle.mm_text.proofs.reading.banner.is_named.Goals as goal

pub returns : goal.returns
returns c =
    let word = c.args.word.now in
    let name = c.as_bytes.result.now in
    same_from_decides c.eq_ignore_ascii_case.result (str_eq_ignore_ascii_case word name) c.eq_ignore_ascii_case.ensures.test
    (bytes_eq-Decides (str_to_ascii_lowercase word) (str_to_ascii_lowercase name))
    ∙ ap (λ (n : List ℕ). str_eq_ignore_ascii_case word n) c.as_bytes.ensures.value

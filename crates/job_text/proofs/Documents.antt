-- The document of a text, by what the reader of TOML says of it.
use Rattle.std.proofs.Common.{◌≡◌, ℕ, cond, List, Some, None, Ok, Err, ap, ◌∙◌, inl, inr}
use Rattle.std.proofs.lemmas.Bool.{cases_Bool}
use Rattle.std.specs.Str.{IsUtf8, is_utf8}
use Rattle.std.proofs.lemmas.Str.{IsUtf8-from_is_utf8, is_utf8-from_IsUtf8}
use Rattle.toml.specs.Data.{Members}
use Rattle.toml.specs.Parse.{parse_document}
use Rattle.job_text.specs.declared.fault.JobFault.TheVariants.{NotToml}
use Rattle.job_text.specs.Outcomes.{Outcome, or_fault}
use Rattle.job_text.specs.Whole.{document_of}

pub document_is : (text : List ℕ) (t : Members) → IsUtf8 text → parse_document text ≡ Some t → document_of text ≡ Ok t
document_is text t u e =
    let refused : Outcome Members = Err NotToml in
    ap (λ b. cond b (or_fault NotToml (parse_document text)) refused) (is_utf8-from_IsUtf8 text u) ∙ ap (or_fault NotToml) e

pub refused_is : (text : List ℕ) → (IsUtf8 text → parse_document text ≡ None) → document_of text ≡ Err NotToml
refused_is text none =
    elim (cases_Bool (is_utf8 text)) [
      | inl u ↦ rw u (ap (or_fault NotToml) (none (IsUtf8-from_is_utf8 text u)))
      | inr n ↦ rw n
    ]

use Rattle.std.proofs.Common.{◌≡◌, ◌∙◌, sym, ap, subst, map, true, List, [], None, string_bytes, option_and_then}
use Rattle.std.specs.List.{list_all}
use Rattle.clap.specs.Simple.{is_simple, matches_of}
use Rattle.clap.specs.Walk.{rows_of}
use Rattle.clap.specs.Matches.{found_of}
use Rattle.clap.specs.Kinds.{HasKind}
use Rattle.clap.specs.Faults.{fault_of, is_simple_and_free}
use Rattle.run_words.specs.App.{run_app}
use Rattle.run_words.specs.Given.{Text, command_of, is_fit}
use Rattle.run_words.proofs.Whole.{unfit_reads}
use Rattle.run_words.proofs.Ends.{refused, read_by, is_plain}
use Rattle.run_words.proofs.words.run_words.Goals as goal

pub returns-then-not-all_fit : goal.returns-then-not-all_fit
returns-then-not-all_fit c = record {
  command = sym (ap (option_and_then command_of) (unfit_reads (map string_bytes c.args.words.now) (sym c.all_fit.ensures ∙ c.if-not-all_fit.true) [] None));
}

pub returns-in-Ok : goal.returns-in-Ok
returns-in-Ok c =
    let words : List Text = map string_bytes c.args.words.now in
    let app = c.in_ok-command.ensures.app in
    let fit : list_all is_fit words ≡ true = sym c.all_fit.ensures ∙ c.if-not-all_fit.false in
    let none : fault_of run_app words ≡ [] = sym (ap (λ a. fault_of a words) app) ∙ c.in-Ok.ensures.kinds (ap is_simple_and_free app ∙ is_plain) in
    let rows : rows_of (found_of c.in-Ok.matches) ≡ matches_of run_app words = (c.in-Ok.ensures.matches (ap is_simple app)).0 ∙ ap (λ a. matches_of a words) app in
    record {
      command = c.assembled.ensures
          ∙ read_by words fit none (found_of c.in-Ok.matches) rows _ _ _ _ c.get_flag.result
          c.text.ensures c.text-in-Ok.ensures c.text-in-Ok-2.ensures c.text-in-Ok-3.ensures c.get_flag.ensures.value c.get_flag.ensures.other;
    }

pub returns : goal.returns
returns c =
    let words : List Text = map string_bytes c.args.words.now in
    let app = c.in_ok-command.ensures.app in
    let fit : list_all is_fit words ≡ true = sym c.all_fit.ensures ∙ c.if-not-all_fit.false in
    let failed : HasKind (fault_of run_app words) c.in-Err.error = subst (λ a. HasKind (fault_of a words) c.in-Err.error) app (c.in-Err.ensures.kinds (ap is_simple_and_free app ∙ is_plain)) in
    record { command = sym (refused words fit c.in-Err.error failed (λ e. c.in_default.not-OutOfMemory (c.kind.ensures ∙ e))) }

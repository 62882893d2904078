-- What a run writes.
use Rattle.std.proofs.Common.{◌≡◌, Bool, true, false, cond, List, [], ◌++◌, refl, ap, ◌∙◌}
use Rattle.std.specs.List.{flat_map}
use Rattle.scalar_laws.specs.declared.weighed.Weighed.{Weighed}
use Rattle.scalar_laws.specs.Weighed.{weighed_conversions}
use Rattle.model_defs.specs.Pieces.{Value}
use Rattle.model_defs.specs.Sheets.{sheet_text, sheets_of}
use Rattle.model_defs.specs.Traffic.{traffic_text}
use Rattle.model_defs.specs.Turns.{Each}
use Rattle.rank_sim.specs.declared.ends.Outcome.{Outcome}
use Rattle.rank_sim.specs.Runs.{IsOutcome}
use Rattle.run_input.specs.Walk.{Input}
use Rattle.run_output.specs.Listings.{listing}
use Rattle.run_output.proofs.JobListing.{listing-of}
use Rattle.tpx.specs.declared.output.Output.{Output}
use Rattle.tpx.specs.Endings.{listing_if, result_text}
use Rattle.tpx.specs.Running.{IsOutputOf, output_text}

module _ (input : Input) (values : Each (Value Weighed)) (outcome : Outcome) (output : Output)
    (is : IsOutcome weighed_conversions input.job input.files values outcome) (made : IsOutputOf outcome output) where
  listing-is : listing output.phases.items output.letters.items ≡ traffic_text input.job input.files
  listing-is = listing-of input.job input.files output.phases.items output.letters.items (made.phases ∙ is.phases) (made.letters ∙ is.letters)

  listed-is : (traffic : Bool) → cond traffic (listing output.phases.items output.letters.items) [] ≡ listing_if traffic input
  listed-is true = listing-is
  listed-is false = refl

  -- what is written is what the job writes
  pub output-is : (traffic : Bool) → output_text traffic output ≡ result_text traffic input values
  output-is traffic =
      ap (λ (t : List _). t ++ cond traffic (listing output.phases.items output.letters.items) []) (made.text ∙ ap (flat_map sheet_text) is.sheets)
      ∙ ap (λ (t : List _). flat_map sheet_text (sheets_of weighed_conversions input.job values) ++ t) (listed-is traffic)

-- The arrays of tables of the top table.
use Rattle.std.specs.Prelude.{◌+◌, ℕ, Ok, Err, nat_le, if◌then◌else◌}
use Rattle.toml.specs.Data.{Data, Items, no_items, Members, as_table, get_member}
use Rattle.job_text.specs.declared.place.Place.TheVariants as place
use Rattle.job_text.specs.Outcomes.{Outcome, ◌>>=◌, or_fault}
use Rattle.job_text.specs.Names.{Text}
use Rattle.job_text.specs.Keys.{wrong_kind, limit, array_of, given_or}
use Rattle.job_text.specs.Lists.{are_tables, item_count}

-- a table of an array
abbrev pub table_of : Text → Data → Outcome Members
table_of key d = or_fault (wrong_kind place.Top key) (as_table d)

-- all are tables, and with those before they are at most so many
abbrev pub all_tables : Text → (before most : ℕ) → Items → Outcome Items
all_tables key before most ds =
    if are_tables ds
    then (if nat_le (before + item_count ds) most then Ok ds else Err (limit place.Top key))
    else Err (wrong_kind place.Top key)

abbrev pub tables_of : Text → (before most : ℕ) → Data → Outcome Items
tables_of key before most d = array_of place.Top key d >>= all_tables key before most

-- the tables of an array, none where it is missing
abbrev pub tables_at : Members → Text → (before most : ℕ) → Outcome Items
tables_at top key before most = given_or no_items (tables_of key before most) (get_member key top)

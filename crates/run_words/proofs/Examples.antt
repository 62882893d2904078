-- Words that are a command, and words that are none, from the definition alone.
use Rattle.std.specs.Prelude.{◌≡◌, true, false, [], ◌∷◌, None, Some, codes, refl}
use Rattle.run_words.specs.Given.{command, fifo, lifo, seeded, listed}

alone : command (codes "j.toml" ∷ []) ≡ Some (record { job = codes "j.toml"; order = fifo; traffic = false })
alone = refl

by_list : command (codes "--schedule" ∷ codes "s" ∷ codes "j" ∷ codes "--traffic" ∷ []) ≡ Some (record { job = codes "j"; order = listed (codes "s"); traffic = true })
by_list = refl

by_seed : command (codes "j" ∷ codes "--order=seed" ∷ codes "--seed" ∷ codes "18" ∷ []) ≡ Some (record { job = codes "j"; order = seeded 18; traffic = false })
by_seed = refl

last_first : command (codes "--order" ∷ codes "lifo" ∷ codes "j" ∷ []) ≡ Some (record { job = codes "j"; order = lifo; traffic = false })
last_first = refl

-- no job, two jobs, a word that is empty, one that is a short form
no_job : command [] ≡ None
no_job = refl

two_jobs : command (codes "j" ∷ codes "k" ∷ []) ≡ None
two_jobs = refl

empty_word : command (codes "j" ∷ [] ∷ []) ≡ None
empty_word = refl

short_form : command (codes "j" ∷ codes "-t" ∷ []) ≡ None
short_form = refl

-- an order and a list, a seed without its order, an order by seed without one
order_and_list : command (codes "j.toml" ∷ codes "--order" ∷ codes "lifo" ∷ codes "--schedule" ∷ codes "s" ∷ []) ≡ None
order_and_list = refl

seed_alone : command (codes "j.toml" ∷ codes "--seed" ∷ codes "4" ∷ []) ≡ None
seed_alone = refl

seedless : command (codes "j" ∷ codes "--order" ∷ codes "seed" ∷ []) ≡ None
seedless = refl

-- a value that begins with a hyphen, an option twice, an abbreviation, a flag with a value
hyphen_value : command (codes "j" ∷ codes "--schedule" ∷ codes "-s" ∷ []) ≡ None
hyphen_value = refl

twice : command (codes "j" ∷ codes "--traffic" ∷ codes "--traffic" ∷ []) ≡ None
twice = refl

abbreviated : command (codes "j" ∷ codes "--traf" ∷ []) ≡ None
abbreviated = refl

flag_with_value : command (codes "j" ∷ codes "--traffic=yes" ∷ []) ≡ None
flag_with_value = refl

-- seeds of 20 digits: the greatest number below 2^64, and the next one
greatest_seed : command (codes "j" ∷ codes "--order=seed" ∷ codes "--seed=18446744073709551615" ∷ []) ≡ Some (record { job = codes "j"; order = seeded 18446744073709551615; traffic = false })
greatest_seed = refl

seed_too_great : command (codes "j" ∷ codes "--order=seed" ∷ codes "--seed=18446744073709551616" ∷ []) ≡ None
seed_too_great = refl

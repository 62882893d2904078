-- The counts of the letters that came, after one more.
use Rattle.std.proofs.Common.{◌≡◌, ℕ, Bool, true, false, cond, List, [], ◌∷◌, ◌++◌, Option, None, Some, refl, sym, ap, subst, ◌∙◌}
use Rattle.std.specs.List.{find}
use Rattle.std.specs.Option.{option_map, option_or}
use Rattle.std.proofs.lemmas.Bool.{or_from, or_parts}
use Rattle.std.proofs.lemmas.List.Folds.{find-append}
use Rattle.outside.specs.declared.name.Name.{Name}
use Rattle.outside.specs.Letters.{same_name}
use Rattle.outside.proofs.Names.{same_name-is, same_name-refl}
use Rattle.peers.specs.Peers.{was_given}
use Rattle.peers.specs.Protocols.{Letter}
use Rattle.rank_phases.specs.Stages.{Stage, absorbing}
use Rattle.rank_phases.proofs.Given.{given-more, same_name-symm}
use Rattle.rank_core.specs.declared.counts.EntryCounts.{EntryCounts}
use Rattle.rank_core.specs.Counts.{count_of}
use Rattle.rank_core.specs.Results.{HasEntries, IsEntriesGiven, letter_given}
use Rattle.rank_core.specs.Workers.{HasCounts}

none-first : (n : Name) (ls : List Letter) → was_given ls n ≡ false → find (λ l. same_name n l.0) ls ≡ None
none-first n [] none = refl
none-first n (l ∷ ls) none =
    let parts = or_parts (same_name n l.0) _ none in
    ap (λ b. cond b (Some l) (find (λ m. same_name n m.0) ls)) parts.0 ∙ none-first n ls parts.1

module _ (ls : List Letter) (name : Name) (bytes : List ℕ) where
  -- a letter that was given first stays the first
  still-first : (n : Name) (old : List ℕ) → letter_given ls n ≡ Some old → letter_given (ls ++ (name, bytes) ∷ []) n ≡ Some old
  still-first n old is = go (find (λ l. same_name n l.0) ls) refl is
    where
      go : (o : Option Letter) → find (λ l. same_name n l.0) ls ≡ o → option_map (λ (l : Letter). l.1) o ≡ Some old → letter_given (ls ++ (name, bytes) ∷ []) n ≡ Some old
      go None e f = absurd (let bad : ⊥ = cc in bad)
      go (Some l) e f =
          ap (option_map (λ (k : Letter). k.1))
          (find-append (λ (k : Letter). same_name n k.0) ls ((name, bytes) ∷ []) ∙ ap (λ o. option_or o (find (λ (k : Letter). same_name n k.0) ((name, bytes) ∷ []))) e)
          ∙ f

  new-first : was_given ls name ≡ false → letter_given (ls ++ (name, bytes) ∷ []) name ≡ Some bytes
  new-first none =
      ap (option_map (λ (k : Letter). k.1))
      (find-append (λ (k : Letter). same_name name k.0) ls ((name, bytes) ∷ [])
      ∙ ap (λ o. option_or o (find (λ (k : Letter). same_name name k.0) ((name, bytes) ∷ []))) (none-first name ls none)
      ∙ ap (λ b. cond b (Some (name, bytes)) None) (same_name-refl name))

-- the counts are those of the letters with the one that came
pub counted : (old new : EntryCounts) (name : Name) (bytes : List ℕ) (count : ℕ) (s : Stage) → HasCounts old s → was_given s.absorbed name ≡ false → HasEntries bytes count
    → ((n : Name) → count_of new n ≡ cond (same_name name n) (Some count) (count_of old n))
    → HasCounts new (absorbing s ((name, bytes) ∷ []))
counted old new name bytes count s has first entries put n to = subst (IsEntriesGiven (s.absorbed ++ (name, bytes) ∷ []) n) (sym (put n)) (by (same_name name n) refl)
  where
    kept : same_name name n ≡ false → (o : Option ℕ) → IsEntriesGiven s.absorbed n o → IsEntriesGiven (s.absorbed ++ (name, bytes) ∷ []) n o
    kept e None none = given-more s.absorbed (name, bytes) n ∙ or_from (was_given s.absorbed n) (same_name n name) none (same_name-symm name n e)
    kept e (Some c) is = (is.0, still-first s.absorbed name bytes n is.0 is.1, is.2)

    by : (b : Bool) → same_name name n ≡ b → IsEntriesGiven (s.absorbed ++ (name, bytes) ∷ []) n (cond b (Some count) (count_of old n))
    by false e = kept e (count_of old n) (has n to)
    by true e =
        subst (λ m. IsEntriesGiven (s.absorbed ++ (name, bytes) ∷ []) m (Some count)) (same_name-is name n e)
        (bytes, new-first s.absorbed name bytes first, entries)

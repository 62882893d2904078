-- The letters that a rank absorbed, and those that it was given.
use Rattle.std.proofs.Common.{◌≡◌, ℕ, ◌<◌, inl, inr, Bool, true, false, cond, ◌&&◌, ◌==◌, nat_lt, List, [], ◌∷◌, filter, Option, None, Some, refl, sym, ap, ◌∙◌}
use Rattle.std.specs.List.{find}
use Rattle.std.specs.Option.{option_map}
use Rattle.std.proofs.lemmas.Bool.{and_from, both_ways, eq-eqb, lt-ltb, or_cases, or_parts}
use Rattle.outside.specs.declared.name.Name.{Name}
use Rattle.outside.specs.Letters.{same_name}
use Rattle.outside.proofs.Names.{same_name-is}
use Rattle.peers.specs.Peers.{was_given}
use Rattle.peers.specs.Protocols.{Letter, Protocol, stands_in}
use Rattle.rank_phases.specs.FirstLetters.{AreLettersTo}
use Rattle.rank_phases.specs.Phases.{absorbed, arrivals}
use Rattle.rank_phases.proofs.Absorbed.{arrivals-absorbed, given-absorbed, given-absorbed_none}
use Rattle.rank_core.specs.Results.{IsEntriesGiven, letter_given}

-- the first that a test finds stays the first among those of another test that it passes
find-filter : {X : Type 0} (test p : X → Bool) → ((x : X) → test x ≡ true → p x ≡ true) → (xs : List X) → find test (filter p xs) ≡ find test xs
find-filter test p passes [] = refl
find-filter {X} test p passes (x ∷ xs) = go (test x) refl (p x) refl (find-filter test p passes xs)
  where
    go : (t : Bool) → test x ≡ t → (b : Bool) → p x ≡ b → find test (filter p xs) ≡ find test xs
        → find test (cond b (x ∷ filter p xs) (filter p xs)) ≡ cond t (Some x) (find test xs)
    go t e true f more = (λ i. cond (e i) (Some x) (more i))
    go true e false f more = absurd (both_ways (p x) f (passes x e))
    go false e false f more = more

-- where no letter was given under a name, none is found
find-none : (n : Name) (ls : List Letter) → was_given ls n ≡ false → find (λ l. same_name n l.0) ls ≡ None
find-none n [] none = refl
find-none n (l ∷ ls) none =
    let parts = or_parts (same_name n l.0) _ none in
    ap (λ b. cond b (Some l) (find (λ m. same_name n m.0) ls)) parts.0 ∙ find-none n ls parts.1

-- each letter that was given is one of the protocol
given-named : (P : Protocol) (rank : ℕ) (ls : List Letter) → AreLettersTo P rank ls → (n : Name) → was_given ls n ≡ true → stands_in P.names n ≡ true
given-named P rank [] letters n is = absurd (cc)
given-named P rank (l ∷ ls) letters n is = elim (or_cases (same_name n l.0) (was_given ls n) is) [
  | inl same ↦ ap (stands_in P.names) (same_name-is n l.0 same) ∙ letters.0.named
  | inr later ↦ given-named P rank ls letters.1 n later
]

module _ (e : ℕ) (h : List Letter) (n : Name) (early : was_given h n ≡ true → n.phase < e) where
  -- a letter of the phases that were entered was absorbed where it was given
  absorbed-given : was_given (absorbed e h) n ≡ was_given h n
  absorbed-given = go (was_given h n) refl
    where
      go : (b : Bool) → was_given h n ≡ b → was_given (absorbed e h) n ≡ b
      go true is = given-absorbed e h n ∙ and_from (nat_lt n.phase e) _ (lt-ltb n.phase e (early is)) is
      go false is = given-absorbed_none e h n is

  -- and with the bytes that were given first
  absorbed-letter : letter_given (absorbed e h) n ≡ letter_given h n
  absorbed-letter = ap (option_map (λ l. l.1)) (go (was_given h n) refl)
    where
      here : Letter → Bool
      here l = same_name n l.0

      of_phase : (l : Letter) → same_name n l.0 ≡ true → (l.0.phase == n.phase) && (l.0.to == n.to) ≡ true
      of_phase l same =
          let is = same_name-is n l.0 same in
          and_from (l.0.phase == n.phase) _ (eq-eqb l.0.phase n.phase (ap (λ m. m.phase) (sym is))) (eq-eqb l.0.to n.to (ap (λ m. m.to) (sym is)))

      within : (ls : List Letter) → find (λ l. same_name n l.0) (arrivals n.phase n.to ls) ≡ find (λ l. same_name n l.0) ls
      within ls = find-filter (λ l. same_name n l.0) (λ l. (l.0.phase == n.phase) && (l.0.to == n.to)) of_phase ls

      go : (b : Bool) → was_given h n ≡ b → find (λ l. same_name n l.0) (absorbed e h) ≡ find (λ l. same_name n l.0) h
      go true is =
          sym (within (absorbed e h)) ∙ ap (find (λ l. same_name n l.0)) (arrivals-absorbed e n.phase n.to h (early is)) ∙ within h
      go false is = find-none n (absorbed e h) (given-absorbed_none e h n is) ∙ sym (find-none n h is)

  -- so what is known of the letter of a name is the same
  pub absorbed-entries : (count : Option ℕ) → IsEntriesGiven (absorbed e h) n count → IsEntriesGiven h n count
  absorbed-entries None none = sym absorbed-given ∙ none
  absorbed-entries (Some count) has = (has.0, sym absorbed-letter ∙ has.1, has.2)

-- a letter of a protocol that was given is of one of its phases
pub given-early : (P : Protocol) (rank phases : ℕ) (h : List Letter) → AreLettersTo P rank h → ((n : Name) → stands_in P.names n ≡ true → n.phase < phases)
    → (n : Name) → was_given h n ≡ true → n.phase < phases
given-early P rank phases h letters below n is = below n (given-named P rank h letters n is)

-- Which letters a rank was given, with one more, and of phases that it did not enter.
use Rattle.std.proofs.Common.{◌≡◌, ℕ, Bool, true, false, cond, ◌&&◌, ◌||◌, eqb, List, [], ◌∷◌, ◌++◌, Option, None, Some, refl, sym, ap, ◌∙◌}
use Rattle.std.proofs.lemmas.Bool.{eq-eqb}
use Rattle.outside.specs.declared.name.Name.{Name}
use Rattle.outside.specs.Letters.{same_name}
use Rattle.peers.specs.Protocols.{Letter}
use Rattle.peers.specs.Peers.{was_given}
use Rattle.rank_phases.specs.Stages.{Stage, absorbing, entering}
use Rattle.model_defs.specs.Machine.{letters_of}
use Rattle.model_defs.proofs.Filters.{same_name-true, same_name-self, later, and}
use Rattle.rank_stages.specs.JobStages.{has_heard, heard_owner, letter_name}

-- which letters were given, with one more
pub given-more : (g : List Letter) (l : Letter) (n : Name) → was_given (g ++ l ∷ []) n ≡ was_given g n || same_name n l.0
given-more [] l n = last (same_name n l.0)
  where
    last : (b : Bool) → b || false ≡ b
    last true = refl
    last false = refl
given-more (m ∷ g) l n = ap (λ b. same_name n m.0 || b) (given-more g l n) ∙ assoc (same_name n m.0) (was_given g n) (same_name n l.0)
  where
    assoc : (a b c : Bool) → a || (b || c) ≡ (a || b) || c
    assoc true b c = refl
    assoc false b c = refl

pub given-before : (g : List Letter) (l : Letter) (n : Name) → was_given g n ≡ true → was_given (g ++ l ∷ []) n ≡ true
given-before g l n e = given-more g l n ∙ ap (λ b. b || same_name n l.0) e

-- another letter
pub given-other : (g : List Letter) (l : Letter) (n : Name) → (n ≡ l.0 → ⊥) → was_given (g ++ l ∷ []) n ≡ was_given g n
given-other g l n apart = given-more g l n ∙ by (same_name n l.0) refl
  where
    by : (b : Bool) → same_name n l.0 ≡ b → was_given g n || b ≡ was_given g n
    by true e = absurd (apart (same_name-true n l.0 e))
    by false e = none (was_given g n)
      where
        none : (b : Bool) → b || false ≡ b
        none true = refl
        none false = refl

module _ (s : Stage) (name : Name) (bytes : List ℕ) where
  abbrev pub after : Stage
  after = absorbing s ((name, bytes) ∷ [])

  pub heard-other : (n q : ℕ) → (n ≡ name.phase → q ≡ name.from → ⊥) → has_heard after n q ≡ has_heard s n q
  heard-other n q apart = ap (λ b. (eqb q s.rank) || b) (given-other s.absorbed (name, bytes) (letter_name n q s.rank) (λ e. apart (ap (λ m. m.phase) e) (ap (λ m. m.from) e)))

  pub heard-here : name.to ≡ s.rank → has_heard after name.phase name.from ≡ true
  heard-here to =
      later (eqb name.from s.rank) _
      (given-more s.absorbed (name, bytes) (letter_name name.phase name.from s.rank)
      ∙ later (was_given s.absorbed (letter_name name.phase name.from s.rank)) _
      (ap (λ t. same_name (letter_name name.phase name.from t) name) (sym to) ∙ same_name-self name))

  pub owner-other : (n : ℕ) (o : Option ℕ) → ((q : ℕ) → o ≡ Some q → n ≡ name.phase → q ≡ name.from → ⊥) → heard_owner after n o ≡ heard_owner s n o
  owner-other n None apart = refl
  owner-other n (Some q) apart = ap (λ b. cond b (Some q) None) (heard-other n q (apart q refl))

-- letters of phases that were not entered

pub unheard : (g : List Letter) (n q p : ℕ) → letters_of n p g ≡ [] → was_given g (letter_name n q p) ≡ false
unheard [] n q p e = refl
unheard (l ∷ g) n q p e = by (same_name (letter_name n q p) l.0) refl ((eqb l.0.phase n) && (eqb l.0.to p)) refl e (unheard g n q p)
  where
    by : (b : Bool) → same_name (letter_name n q p) l.0 ≡ b → (c : Bool) → ((eqb l.0.phase n) && (eqb l.0.to p)) ≡ c
        → cond c (l ∷ letters_of n p g) (letters_of n p g) ≡ [] → (letters_of n p g ≡ [] → was_given g (letter_name n q p) ≡ false)
        → b || was_given g (letter_name n q p) ≡ false
    by b i true j f rest = absurd (let bad : ⊥ = cc in bad)
    by false i false j f rest = rest f
    by true i false j f rest =
        let same = same_name-true (letter_name n q p) l.0 i in
        let yes = and (eqb l.0.phase n) (eqb l.0.to p) (eq-eqb l.0.phase n (sym (ap (λ m. m.phase) same))) (eq-eqb l.0.to p (sym (ap (λ m. m.to) same))) in
        absurd (let bad : ⊥ = cc in bad)

pub owner-same : (s : Stage) (n : ℕ) (o : Option ℕ) → heard_owner (entering s) n o ≡ heard_owner s n o
owner-same s n None = refl
owner-same s n (Some q) = refl

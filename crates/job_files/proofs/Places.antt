-- Where a name stands among the files that were read before.
use Rattle.std.proofs.Common.{◌≡◌, ℕ, zero, suc, ◌+◌, ◌<◌, Bool, true, false, cond, List, [], ◌∷◌, length, get_or, None, Some, refl, subst, arith}
use Rattle.std.specs.Str.{bytes_eq}
use Rattle.std.proofs.lemmas.Slice.Eq.{bytes_eq-Decides}
use Rattle.job_files.specs.declared.wanted.WantedFile.{WantedFile}
use Rattle.job_files.specs.Places.{place_from}
use Rattle.job_files.specs.Wanted.{Wanted, seen}

-- the file at a place has the name
pub record IsPlace (n : ℕ) (name : List ℕ) (ws : List WantedFile) (k : ℕ) : Type 0 where
  pub behind : ℕ
  pub at : k ≡ n + behind
  pub within : behind < length (seen ws)
  pub named : (d : Wanted) → (get_or (seen ws) behind d).name ≡ name

place_cons : (n : ℕ) (name : List ℕ) (w : WantedFile) (ws : List WantedFile) (k : ℕ) (b : Bool) → bytes_eq w.name.now name ≡ b
    → (place_from (n + 1) name ws ≡ Some k → IsPlace (n + 1) name ws k)
    → cond b (Some n) (place_from (n + 1) name ws) ≡ Some k → IsPlace n name (w ∷ ws) k
place_cons n name w ws k true same more e =
    let here : n ≡ k = cc in record { behind = 0; at = omega arith; within = omega arith; named = λ d. (bytes_eq-Decides w.name.now name).0 same }
place_cons n name w ws k false other more e =
    let later = more e in record { behind = suc later.behind; at = omega (arith, later.at); within = omega (arith, later.within); named = later.named }

pub placed : (n : ℕ) (name : List ℕ) (ws : List WantedFile) (k : ℕ) → place_from n name ws ≡ Some k → IsPlace n name ws k
placed n name [] k e = absurd (cc)
placed n name (w ∷ ws) k e = place_cons n name w ws k (bytes_eq w.name.now name) refl (placed (n + 1) name ws k) e

-- no file has it
abbrev IsNowhere : List ℕ → List WantedFile → Type 0
IsNowhere name ws = (k : ℕ) (d : Wanted) → k < length (seen ws) → (get_or (seen ws) k d).name ≡ name → ⊥

nowhere_cons : (n : ℕ) (name : List ℕ) (w : WantedFile) (ws : List WantedFile) (b : Bool) → bytes_eq w.name.now name ≡ b
    → (place_from (n + 1) name ws ≡ None → IsNowhere name ws) → cond b (Some n) (place_from (n + 1) name ws) ≡ None → IsNowhere name (w ∷ ws)
nowhere_cons n name w ws true same more e k d h is = cc
nowhere_cons n name w ws false other more e zero d h is = let same = (bytes_eq-Decides w.name.now name).1 is in cc
nowhere_cons n name w ws false other more e (suc k) d h is = more e k d (omega arith) is

pub not_placed : (n : ℕ) (name : List ℕ) (ws : List WantedFile) → place_from n name ws ≡ None
    → (k : ℕ) (d : Wanted) → k < length (seen ws) → (get_or (seen ws) k d).name ≡ name → ⊥
not_placed n name [] e k d h is = absurd (omega arith)
not_placed n name (w ∷ ws) e k d h is = nowhere_cons n name w ws (bytes_eq w.name.now name) refl (not_placed (n + 1) name ws) e k d h is

-- the file at the place that is found has the name
pub placed_at : (name : List ℕ) (ws : List WantedFile) (k : ℕ) → place_from 0 name ws ≡ Some k
    → (k < length (seen ws)) × ((d : Wanted) → (get_or (seen ws) k d).name ≡ name)
placed_at name ws k e =
    let p = placed 0 name ws k e in
    let same : p.behind ≡ k = omega (arith, p.at) in
    (omega (arith, p.at, p.within), λ d. subst (λ n. (get_or (seen ws) n d).name ≡ name) same (p.named d))

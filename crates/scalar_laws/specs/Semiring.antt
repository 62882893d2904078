-- What a kind of number computes with, and the laws that it meets.
use Rattle.std.specs.Prelude.{◌≡◌}

pub record Semiring (S : Type 0) : Type 0 where
  pub nought : S
  pub one : S
  pub plus : S → S → S
  pub times : S → S → S
  pub top : S → S → S

-- The laws of a commutative semiring, and those of `top`.
pub record IsSemiring {S : Type 0} (R : Semiring S) : Type 0 where
  pub plus_comm : (a b : S) → R.plus a b ≡ R.plus b a
  pub plus_assoc : (a b c : S) → R.plus (R.plus a b) c ≡ R.plus a (R.plus b c)
  pub plus_nought : (a : S) → R.plus R.nought a ≡ a
  pub times_comm : (a b : S) → R.times a b ≡ R.times b a
  pub times_assoc : (a b c : S) → R.times (R.times a b) c ≡ R.times a (R.times b c)
  pub times_one : (a : S) → R.times R.one a ≡ a
  pub times_nought : (a : S) → R.times R.nought a ≡ R.nought
  pub times_plus : (a b c : S) → R.times a (R.plus b c) ≡ R.plus (R.times a b) (R.times a c)
  pub top_comm : (a b : S) → R.top a b ≡ R.top b a
  pub top_assoc : (a b c : S) → R.top (R.top a b) c ≡ R.top a (R.top b c)
  pub top_nought : R.top R.nought R.nought ≡ R.nought

-- How a kind of number is read from a file, shown, and written into a message.
use Rattle.std.specs.Prelude.{◌≡◌, ◌<◌, ℕ, ℤ, Bool, Option, List, length, All, is_none}

pub record Conversions (S : Type 0) : Type 0 where
  -- the number of an integer of a file, if it has one
  pub of_file : ℤ → Option S
  -- more than the kind can hold
  pub is_over : S → Bool
  -- the integer that is printed
  pub shown : S → Option ℤ
  -- its 32 bytes in a message
  pub to_wire : S → List ℕ
  -- the number of any 32 bytes
  pub of_wire : List ℕ → S

-- Only what is over has nothing to show, and the bytes of a number give it back.
pub record AreConversions {S : Type 0} (F : Conversions S) : Type 0 where
  pub shown_over : (a : S) → is_none (F.shown a) ≡ F.is_over a
  pub wire_back : (a : S) → F.of_wire (F.to_wire a) ≡ a
  pub wire_length : (a : S) → length (F.to_wire a) ≡ 32
  pub wire_bytes : (a : S) → All (λ b. b < 256) (F.to_wire a)

-- The kinds of letters: the first byte of each, and its printed name.
use Rattle.std.specs.Prelude.{ℕ, List, codes}
use Rattle.letter_codec.specs.declared.kind.Kind.{Kind}
use Rattle.letter_codec.specs.declared.kind.Kind.TheVariants.{Reg, Ask, Tell, Want, Offer, Nums, Rows}

abbrev pub kind_byte : Kind → ℕ
kind_byte Reg = 17
kind_byte Ask = 18
kind_byte Tell = 19
kind_byte Want = 20
kind_byte Offer = 21
kind_byte Nums = 22
kind_byte Rows = 23

abbrev pub kind_name : Kind → List ℕ
kind_name Reg = codes "REG"
kind_name Ask = codes "ASK"
kind_name Tell = codes "TELL"
kind_name Want = codes "WANT"
kind_name Offer = codes "OFFER"
kind_name Nums = codes "DATA"
kind_name Rows = codes "ROWS"

-- Weighed numbers: each value of a sound file has one, and so has each mirrored one.
use Rattle.std.proofs.Common.{◌≡◌, ◌≤◌, ◌^◌, ℤ, neg_ℤ, true, nat_le, All, IsSome, unsigned_abs, arith, refl, sym, ap, subst}
use Rattle.std.proofs.lemmas.Bool.{le-leb}
use Rattle.std.proofs.lemmas.Int.{ints}
use Rattle.std.proofs.lemmas.List.Elements.{All-weaker}
use Rattle.scalar_laws.specs.Number.{max_weight}
use Rattle.scalar_laws.specs.Weighed.{weighed_conversions}
use Rattle.mm_text.specs.declared.file_data.Line.{Line}
use Rattle.mm_text.specs.declared.file_data.Mirror.{Mirror}
use Rattle.mm_text.specs.declared.file_data.Mirror.TheVariants.{Plain, Same, Negated}
use Rattle.mm_text.specs.Limits.{widest}
use Rattle.mm_text.specs.Reading.{File}
use Rattle.mm_text.specs.Sound.{IsSound}
use Rattle.model_defs.specs.FileMatrix.{HasNumbers}
use Rattle.gathered_rows.specs.Conditions.{CanBeGathered}

number-within : (v : ℤ) → unsigned_abs v ≤ widest → IsSome (weighed_conversions.of_file v)
number-within v h = let t : nat_le (unsigned_abs v) max_weight ≡ true = le-leb (unsigned_abs v) max_weight h in rw t refl

HasNumbers-within : (mirror : Mirror) (v : ℤ) → unsigned_abs v ≤ widest → HasNumbers weighed_conversions mirror v
HasNumbers-within Plain v h = number-within v h
HasNumbers-within Same v h = number-within v h
HasNumbers-within Negated v h = (number-within v h, number-within (neg_ℤ v) (let same : unsigned_abs (neg_ℤ v) ≡ unsigned_abs v = grind (arith, ints) in omega arith))

-- A sound file can be gathered as weighed numbers.
pub CanBeGathered-weighed : (file : File) → IsSound file → file.rows ≤ 2 ^ 40 → CanBeGathered weighed_conversions file
CanBeGathered-weighed file sound rows = record {
  sound = sound;
  rows = rows;
  numbers = All-weaker (λ (l : Line). unsigned_abs l.value ≤ widest) (λ (l : Line). HasNumbers weighed_conversions file.mirror l.value) (λ l h. HasNumbers-within file.mirror l.value h) file.lines sound.values;
}

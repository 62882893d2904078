-- The letters of the example, as bytes.
use Rattle.std.proofs.Common.{◌≡◌, ◌&&◌, ◌||◌, eqb, ℕ, Bool, true, false, List, [], ◌∷◌, refl, arith, sym, subst, ap}
use Rattle.std.proofs.lemmas.Bool.Decides.{nat_tests}
use Rattle.letter_codec.specs.Letters.{bytes_of_word, head_bytes}
use Rattle.outside.specs.declared.name.Name.{Name}
use Rattle.outside.specs.Letters.{IsAlike, index_end}
use Rattle.peers.specs.Peers.{IsLetterTo}
use Rattle.peers.specs.Protocols.{stands_in}
use Rattle.rank_example.specs.LaidOut.{data_letter, data_name, want_letter, want_name}
use Rattle.rank_example.specs.SmallJob.{small_files, small_job, small_protocol}

abbrev name : ℕ → ℕ → ℕ → Name
name n p q = record { phase = n; from = p; to = q }

abbrev four : List Name
four = name 0 0 1 ∷ name 0 1 0 ∷ name 1 0 1 ∷ name 1 1 0 ∷ []

pub names-are : small_protocol.names ≡ four
unfolding small_protocol small_job small_files
names-are = refl

want-is : small_protocol.content want_name [] ≡ want_letter 1
unfolding small_protocol small_job small_files head_bytes bytes_of_word
want-is = refl

data-is : small_protocol.content data_name ((name 0 0 1, want_letter 2) ∷ []) ≡ data_letter 2 100
unfolding small_protocol small_job small_files head_bytes bytes_of_word
data-is = refl

pub want-comes : IsLetterTo small_protocol 0 want_name (want_letter 1)
want-comes = record {
  named = ap (λ ns. stands_in ns want_name) names-are;
  to = refl;
  sender_given = [];
  alike = subst (λ bytes. IsAlike bytes (want_letter 1)) (sym want-is) (record { same_length = refl; same_index = refl });
}

-- of a DATA letter the number may be any
alike-data : (v : ℕ) → IsAlike (data_letter 2 100) (data_letter 2 v)
unfolding index_end
alike-data v = record { same_length = refl; same_index = refl }

pub data-comes : (v : ℕ) → IsLetterTo small_protocol 0 data_name (data_letter 2 v)
data-comes v = record {
  named = ap (λ ns. stands_in ns data_name) names-are;
  to = refl;
  sender_given = (name 0 0 1, want_letter 2) ∷ [];
  alike = subst (λ bytes. IsAlike bytes (data_letter 2 v)) (sym data-is) (alike-data v);
}

-- those to rank 0 are the two
pub only-two : (n : Name) → stands_in four n ≡ true → n.to ≡ 0 → stands_in (want_name ∷ data_name ∷ []) n ≡ true
only-two n e z = subst (λ t. eqb n.phase 0 && eqb n.from 0 && eqb t 1 || (eqb n.phase 0 && eqb n.from 1 && eqb t 0 || (eqb n.phase 1 && eqb n.from 0 && eqb t 1 || (eqb n.phase 1 && eqb n.from 1 && eqb t 0 || false))) ≡ true
    → eqb n.phase 0 && eqb n.from 1 && eqb t 0 || (eqb n.phase 1 && eqb n.from 1 && eqb t 0 || false) ≡ true) (sym z) (by (eqb n.phase 0) (eqb n.phase 1) (eqb n.from 0) (eqb n.from 1)) e
  where
    by : (a b c d : Bool) → a && c && false || (a && d && true || (b && c && false || (b && d && true || false))) ≡ true → a && d && true || (b && d && true || false) ≡ true
    by a b c d e = grind (arith, nat_tests)

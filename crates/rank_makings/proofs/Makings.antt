-- Which kind of making a value has, and cells that came as they are.
use Rattle.std.proofs.Common.{◌≡◌, ℕ, inl, inr, Bool, true, false, List, length, get_or, None, Some, refl, sym, ap, ◌∙◌, arith}
use Rattle.scalar_laws.specs.Semiring.{Semiring}
use Rattle.scalar_laws.specs.Conversions.{Conversions}
use Rattle.tables.specs.Tables.{Table}
use Rattle.mm_text.specs.Reading.{File}
use Rattle.multivector.specs.Vectors.{VectorState}
use Rattle.peers.specs.Protocols.{Letter}
use Rattle.model_defs.specs.declared.job.Job.{Job}
use Rattle.model_defs.specs.declared.job.MatrixSpec.{MatrixSpec}
use Rattle.model_defs.specs.declared.job.Step.{Step}
use Rattle.model_defs.specs.declared.job.Step.TheVariants as step
use Rattle.model_defs.specs.declared.phase.Plan.TheVariants.{ImportPlan}
use Rattle.model_defs.specs.declared.shape.Shape.{Shape}
use Rattle.model_defs.specs.Machine.{arrivals}
use Rattle.model_defs.specs.Makers.{Maker, GivenMatrix, Made, maker_of}
use Rattle.model_defs.specs.Maps.{list_of}
use Rattle.model_defs.specs.Shapes.{is_dense, shape}
use Rattle.model_defs.specs.Stages.{first_pieces, gathered_after, stage_count}
use Rattle.model_defs.specs.Transfers.{from_owners}
use Rattle.rank_share.specs.declared.share.Share.{Share}
use Rattle.rank_stages.specs.DataLaws.{copied_by}
use Rattle.rank_stages.proofs.MadeValues.{pieces_are_made}
use Rattle.rank_transfers.proofs.Local.{copies-are-gathered}
use Rattle.value_phases.specs.ValueKinds.{IsApply, IsAssembled, IsGathered, IsGivenSplit, IsMadeMatrix, IsOwnMatrix, IsProduct, IsSender, IsSum, IsSumHere, IsTransposed, is_matrix_step}
use Rattle.value_phases.specs.ValuePhases.{IsCopy, copy_transfer}
use Rattle.rank_pieces.specs.declared.pieces.Piece.{Piece}
use Rattle.rank_pieces.specs.declared.pieces.Piece.TheVariants as of
use Rattle.rank_pieces.specs.Pieces.{IsOwnPiece}
use Rattle.rank_makings.specs.Applying.{is_apply}
use Rattle.rank_makings.specs.Beginnings.{CanFinish}
use Rattle.rank_makings.specs.Gathering.{is_product, is_sum, is_transpose}
use Rattle.rank_makings.specs.Lists.{target_list}

-- ---- what sends numbers is one of these

-- whether a statement makes a value
abbrev is_made : Maker → Bool
is_made (Made s) = true
is_made _ = false

abbrev is_file_matrix : Maker → Bool
is_file_matrix (GivenMatrix spec) = true
is_file_matrix _ = false

copy-no-apply : (m : Maker) (source : ℕ) → copied_by m ≡ Some source → is_apply m ≡ true → ⊥
copy-no-apply (Made (step.Apply name a x y alpha beta transposed)) source c e = let bad : ⊥ = cc in bad
copy-no-apply m source c e = let bad : ⊥ = cc in bad

copy-no-matrix : (spec : MatrixSpec) (source : ℕ) → copied_by (GivenMatrix spec) ≡ Some source → ⊥
copy-no-matrix spec source c = let bad : ⊥ = cc in bad

copy-step : (m : Maker) (source : ℕ) → copied_by m ≡ Some source → is_matrix_step m ≡ true → ⊥
copy-step (Made (step.Transpose name a)) source c e = let bad : ⊥ = cc in bad
copy-step (Made (step.Multiply name a b)) source c e = let bad : ⊥ = cc in bad
copy-step (Made (step.Add name a b alpha beta)) source c e = let bad : ⊥ = cc in bad
copy-step (Made (step.Assemble name x onto mode)) source c e = let bad : ⊥ = cc in bad
copy-step m source c e = let bad : ⊥ = cc in bad

step-product : (m : Maker) → is_product m ≡ true → is_matrix_step m ≡ true
step-product (Made (step.Multiply name a b)) e = refl
step-product m e = absurd (let bad : ⊥ = cc in bad)

step-sum : (m : Maker) → is_sum m ≡ true → is_matrix_step m ≡ true
step-sum (Made (step.Add name a b alpha beta)) e = refl
step-sum m e = absurd (let bad : ⊥ = cc in bad)

module _ {job : Job} {k : ℕ} where
  made-step : IsMadeMatrix job k → is_matrix_step (maker_of job k) ≡ true
  made-step (inl is) = ap is_matrix_step is.is
  made-step (inr (inl is)) = ap is_matrix_step is.is
  made-step (inr (inr (inl is))) = ap is_matrix_step is.is
  made-step (inr (inr (inr is))) = ap is_matrix_step is.is

  made-no-apply : IsMadeMatrix job k → is_apply (maker_of job k) ≡ false
  made-no-apply (inl is) = ap is_apply is.is
  made-no-apply (inr (inl is)) = ap is_apply is.is
  made-no-apply (inr (inr (inl is))) = ap is_apply is.is
  made-no-apply (inr (inr (inr is))) = ap is_apply is.is

  pub sends-apply : IsSender job k → is_apply (maker_of job k) ≡ true → IsApply job k
  sends-apply (inl copy) e = absurd (copy-no-apply (maker_of job k) copy.source copy.copied e)
  sends-apply (inr (inl apply)) e = apply
  sends-apply (inr (inr (inl is))) e = absurd (let other = sym (ap is_apply is.is) ∙ e in let bad : ⊥ = cc in bad)
  sends-apply (inr (inr (inr is))) e = absurd (let other = sym (made-no-apply is) ∙ e in let bad : ⊥ = cc in bad)

  pub sends-made : IsSender job k → is_matrix_step (maker_of job k) ≡ true → IsMadeMatrix job k
  sends-made (inl copy) e = absurd (copy-step (maker_of job k) copy.source copy.copied e)
  sends-made (inr (inl apply)) e = absurd (let other = sym (ap is_matrix_step apply.is) ∙ e in let bad : ⊥ = cc in bad)
  sends-made (inr (inr (inl is))) e = absurd (let other = sym (ap is_matrix_step is.is) ∙ e in let bad : ⊥ = cc in bad)
  sends-made (inr (inr (inr is))) e = is

  pub sends-rows : IsSender job k → (spec : MatrixSpec) → GivenMatrix spec ≡ maker_of job k → IsAssembled job k
  sends-rows (inl copy) spec e = absurd (copy-no-matrix spec copy.source (ap copied_by e ∙ copy.copied))
  sends-rows (inr (inl apply)) spec e = absurd (let yes = ap is_apply e ∙ ap is_apply apply.is in let bad : ⊥ = cc in bad)
  sends-rows (inr (inr (inl is))) spec e = is
  sends-rows (inr (inr (inr is))) spec e = absurd (let yes = ap is_matrix_step e ∙ made-step is in let bad : ⊥ = cc in bad)

  pub sends-copy : IsSender job k → is_apply (maker_of job k) ≡ false → is_matrix_step (maker_of job k) ≡ false → (s : Step) → Made s ≡ maker_of job k → IsCopy job k
  sends-copy (inl copy) other old s e = copy
  sends-copy (inr (inl apply)) other old s e = absurd (let yes = sym (ap is_apply apply.is) ∙ other in let bad : ⊥ = cc in bad)
  sends-copy (inr (inr (inl is))) other old s e = absurd (let yes = ap is_made e ∙ ap is_made is.is in let bad : ⊥ = cc in bad)
  sends-copy (inr (inr (inr is))) other old s e = absurd (let yes = sym (made-step is) ∙ old in let bad : ⊥ = cc in bad)

  made-sparse : IsMadeMatrix job k → is_dense (shape job k).sort ≡ false
  made-sparse (inl is) = is.made.structured.sparse
  made-sparse (inr (inl is)) = is.made.structured.sparse
  made-sparse (inr (inr (inl is))) = is.made.structured.sparse
  made-sparse (inr (inr (inr is))) = is.made.structured.sparse

  -- no given vector does, nor given parts, nor nothing
  pub none-sends : IsSender job k → is_apply (maker_of job k) ≡ false → is_matrix_step (maker_of job k) ≡ false → (m : Maker) → maker_of job k ≡ m → copied_by m ≡ None → is_file_matrix m ≡ false → ⊥
  none-sends (inl copy) other old m e none thin = let some = sym none ∙ sym (ap copied_by e) ∙ copy.copied in let bad : ⊥ = cc in bad
  none-sends (inr (inl apply)) other old m e none thin = let yes = sym (ap is_apply apply.is) ∙ other in let bad : ⊥ = cc in bad
  none-sends (inr (inr (inl is))) other old m e none thin = let yes = sym thin ∙ ap is_file_matrix (sym e ∙ is.is) in let bad : ⊥ = cc in bad
  none-sends (inr (inr (inr is))) other old m e none thin = let yes = sym (made-step is) ∙ old in let bad : ⊥ = cc in bad

  -- ---- which statement makes a matrix

  pub made-transpose : IsMadeMatrix job k → is_transpose (maker_of job k) ≡ true → IsTransposed job k
  made-transpose (inl is) e = is
  made-transpose (inr (inl is)) e = absurd (let other = sym (ap is_transpose is.is) ∙ e in let bad : ⊥ = cc in bad)
  made-transpose (inr (inr (inl is))) e = absurd (let other = sym (ap is_transpose is.is) ∙ e in let bad : ⊥ = cc in bad)
  made-transpose (inr (inr (inr is))) e = absurd (let other = sym (ap is_transpose is.is) ∙ e in let bad : ⊥ = cc in bad)

  pub made-product : IsMadeMatrix job k → is_product (maker_of job k) ≡ true → IsProduct job k
  made-product (inl is) e = absurd (let other = sym (ap is_product is.is) ∙ e in let bad : ⊥ = cc in bad)
  made-product (inr (inl is)) e = is
  made-product (inr (inr (inl is))) e = absurd (let other = sym (ap is_product is.is) ∙ e in let bad : ⊥ = cc in bad)
  made-product (inr (inr (inr is))) e = absurd (let other = sym (ap is_product is.is) ∙ e in let bad : ⊥ = cc in bad)

  pub made-sum : IsMadeMatrix job k → is_sum (maker_of job k) ≡ true → IsSum job k
  made-sum (inl is) e = absurd (let other = sym (ap is_sum is.is) ∙ e in let bad : ⊥ = cc in bad)
  made-sum (inr (inl is)) e = absurd (let other = sym (ap is_sum is.is) ∙ e in let bad : ⊥ = cc in bad)
  made-sum (inr (inr (inl is))) e = is
  made-sum (inr (inr (inr is))) e = absurd (let other = sym (ap is_sum is.is) ∙ e in let bad : ⊥ = cc in bad)

  pub made-gathered : IsMadeMatrix job k → is_transpose (maker_of job k) ≡ false → is_product (maker_of job k) ≡ false → is_sum (maker_of job k) ≡ false → IsGathered job k
  made-gathered (inl is) t p s = absurd (let other = sym (ap is_transpose is.is) ∙ t in let bad : ⊥ = cc in bad)
  made-gathered (inr (inl is)) t p s = absurd (let other = sym (ap is_product is.is) ∙ p in let bad : ⊥ = cc in bad)
  made-gathered (inr (inr (inl is))) t p s = absurd (let other = sym (ap is_sum is.is) ∙ s in let bad : ⊥ = cc in bad)
  made-gathered (inr (inr (inr is))) t p s = is

  -- a sender that is a product, or a sum
  pub sends-product : IsSender job k → is_product (maker_of job k) ≡ true → IsProduct job k
  sends-product sender e = made-product (sends-made sender (step-product (maker_of job k) e)) e

  pub sends-sum : IsSender job k → is_sum (maker_of job k) ≡ true → IsSum job k
  sends-sum sender e = made-sum (sends-made sender (step-sum (maker_of job k) e)) e

-- ---- a copy is what came

copy-target : {S : Type 0} (job : Job) (files : List File) (me : ℕ) (pieces : List (Piece S)) (k source : ℕ) (m : Maker)
    → target_list job files me pieces (copy_transfer job k source m) ≡ list_of job (shape job k).rows me
copy-target job files me pieces k source (Made (step.Export name x onto mode)) = refl
copy-target job files me pieces k source m = refl

module _ {S : Type 0} {R : Semiring S} {F : Conversions S} {job : Job} {files : List File} {me : ℕ} {share : Share} {shapes : List Shape} {pieces : List (Piece S)} {given : List Letter}
    {k : ℕ} {came : VectorState S} (can : CanFinish R F job files me share shapes pieces given k came) where
  abbrev mine : ℕ → Table S
  mine = first_pieces R F job files me (arrivals R F job files me given) k

  pub sender : IsSender job k
  sender = can.at.kinds.senders k can.last can.phase can.sends

  -- a vector that is not made by an apply is copied, since none is assembled
  pub copied : is_apply (maker_of job k) ≡ false → IsCopy job k
  copied other = by sender
    where
      by : IsSender job k → IsCopy job k
      by (inl copy) = copy
      by (inr (inl apply)) = absurd (let yes = sym (ap is_apply apply.is) ∙ other in let bad : ⊥ = cc in bad)
      by (inr (inr (inl is))) = absurd (let thick = can.dense in let thin = is.structured.sparse in let bad : ⊥ = cc in bad)
      by (inr (inr (inr is))) = absurd (let thick = can.dense in let thin = made-sparse is in let bad : ⊥ = cc in bad)

  pub copy-made : is_apply (maker_of job k) ≡ false → IsOwnPiece R F job files me given k (of.Vector came)
  copy-made other =
      let copy = copied other in
      let one = ap (λ ts. length ts) copy.transfers in
      let is = can.last_is in
      let first : can.last ≡ 0 = omega (arith, one, is) in
      record {
        of = record {
          dense = can.dense;
          map =
              can.have.map
              ∙ (λ i. target_list job files me pieces (get_or (copy.transfers i) (first i) (from_owners (ImportPlan 0 0))))
              ∙ copy-target job files me pieces k copy.source (maker_of job k);
          columns = can.have.columns;
        };
        table =
            can.have.table
            ∙ ap (gathered_after R F job files me (arrivals R F job files me given) k mine) can.last_is
            ∙ sym (copies-are-gathered R F job files k copy.source me mine (gathered_after R F job files me (arrivals R F job files me given) k mine (stage_count job k)) copy.copied).1
            ∙ sym (pieces_are_made R F job files me k given copy.below);
      }

-- ---- a matrix of which each rank makes its rows by itself

module _ {job : Job} {k : ℕ} where
  pub own-sum : IsOwnMatrix job k → is_sum (maker_of job k) ≡ true → IsSumHere job k
  own-sum (inl is) e = absurd (let other = sym (ap is_sum is.is) ∙ e in let bad : ⊥ = cc in bad)
  own-sum (inr is) e = is

  pub own-part : IsOwnMatrix job k → is_sum (maker_of job k) ≡ false → IsGivenSplit job k
  own-part (inl is) e = is
  own-part (inr is) e = absurd (let other = sym (ap is_sum is.sum.is) ∙ e in let bad : ⊥ = cc in bad)

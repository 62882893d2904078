-- The files that a job wants, by the lists of its given values.
use Rattle.std.proofs.Common.{◌≡◌, List, [], ◌∷◌, ◌++◌, map, filter, refl, ap, ◌∙◌}
use Rattle.std.specs.List.{flat_map}
use Rattle.std.proofs.lemmas.List.Concat.{flat_map-append}
use Rattle.model_defs.specs.declared.job.Job.{Job}
use Rattle.model_defs.specs.declared.job.Step.{Step}
use Rattle.model_defs.specs.Makers.{Maker, GivenVector, GivenParts, GivenMatrix, Made, gives_value}
use Rattle.job_files.specs.Wanted.{wanted, wanted_by}

flat_map-map : {X Y A : Type 0} (f : Y → List A) (g : X → Y) (xs : List X) → flat_map f (map g xs) ≡ flat_map (λ x. f (g x)) xs
flat_map-map f g [] = refl
flat_map-map f g (x ∷ xs) = ap (λ ys. f (g x) ++ ys) (flat_map-map f g xs)

-- a statement wants no file
none_wanted : (job : Job) (steps : List Step) → flat_map (wanted_by job) (map Made steps) ≡ []
none_wanted job [] = refl
none_wanted job (step ∷ steps) = none_wanted job steps

append_none : {A : Type 0} (xs : List A) → xs ++ [] ≡ xs
append_none [] = refl
append_none (x ∷ xs) = ap (λ ys. x ∷ ys) (append_none xs)

pub wanted-in_order : (job : Job) →
    wanted job
    ≡ flat_map (λ spec. wanted_by job (GivenVector spec)) job.vectors ++ flat_map (λ spec. wanted_by job (GivenParts spec)) job.parts
    ++ flat_map (λ spec. wanted_by job (GivenMatrix spec)) job.matrices
wanted-in_order job =
    let f = λ (m : Maker). wanted_by job m in
    flat_map-append f (map GivenVector job.vectors ++ map GivenParts job.parts ++ map GivenMatrix job.matrices) (map Made (filter gives_value job.steps))
    ∙ ap (λ ys. flat_map f (map GivenVector job.vectors ++ map GivenParts job.parts ++ map GivenMatrix job.matrices) ++ ys) (none_wanted job (filter gives_value job.steps))
    ∙ append_none (flat_map f (map GivenVector job.vectors ++ map GivenParts job.parts ++ map GivenMatrix job.matrices))
    ∙ flat_map-append f (map GivenVector job.vectors ++ map GivenParts job.parts) (map GivenMatrix job.matrices)
    ∙ ap (λ ys. ys ++ flat_map f (map GivenMatrix job.matrices)) (flat_map-append f (map GivenVector job.vectors) (map GivenParts job.parts))
    ∙ ap (λ ys. ys ++ flat_map f (map GivenParts job.parts) ++ flat_map f (map GivenMatrix job.matrices)) (flat_map-map f GivenVector job.vectors)
    ∙ ap (λ ys. flat_map (λ spec. f (GivenVector spec)) job.vectors ++ ys ++ flat_map f (map GivenMatrix job.matrices)) (flat_map-map f GivenParts job.parts)
    ∙ ap (λ ys. flat_map (λ spec. f (GivenVector spec)) job.vectors ++ flat_map (λ spec. f (GivenParts spec)) job.parts ++ ys) (flat_map-map f GivenMatrix job.matrices)

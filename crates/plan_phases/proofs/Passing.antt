-- Where a book begins, and where it stays as it is.
use Rattle.std.proofs.Common.{◌≡◌, true, inl, Some, refl, sym, ap, ◌∙◌, arith}
use Rattle.scalar_laws.specs.Semiring.{Semiring}
use Rattle.scalar_laws.specs.Conversions.{Conversions}
use Rattle.model_defs.specs.declared.phase.About.{About}
use Rattle.model_defs.specs.declared.phase.About.TheVariants.{RegisterMap, AskOwners, TellOwners, SharePlan, SendNumbers}
use Rattle.model_defs.specs.declared.phase.Plan.{Plan}
use Rattle.model_defs.specs.Plans.{remote}
use Rattle.rank_stages.specs.JobStages.{about_at}
use Rattle.rank_stages.specs.LetterLaws.{sends_numbers}
use Rattle.rank_stages.specs.OwnerLaws.{plan_about}
use Rattle.rank_stages.proofs.FewPhases.{phases_are_few}
use Rattle.rank_stages.proofs.Stepping.{ranks_begin}
use Rattle.plan_phases.specs.BookStages.{with_book}
use Rattle.plan_phases.specs.Laws.{BooksBegin, BooksPassNumbers, BooksStay, empty_book}
use Rattle.plan_phases.proofs.Begun.{IsNextBook, book-next}

numbers-of-no-plan : (about : About) (plan : Plan) → plan_about about ≡ Some plan → sends_numbers about ≡ true → ⊥
numbers-of-no-plan (RegisterMap m) plan e f = let bad : ⊥ = cc in bad
numbers-of-no-plan (AskOwners p) plan e f = let bad : ⊥ = cc in bad
numbers-of-no-plan (TellOwners p) plan e f = let bad : ⊥ = cc in bad
numbers-of-no-plan (SharePlan p) plan e f = let bad : ⊥ = cc in bad
numbers-of-no-plan (SendNumbers stage) plan e f = let bad : ⊥ = cc in bad

module _ {S : Type 0} (R : Semiring S) (F : Conversions S) where
  pub books_begin : BooksBegin R F
  books_begin = λ job files p view valid fitting phased known. record {
    valid = valid;
    fitting = fitting;
    phased = phased;
    stage = ranks_begin R F job files (record (with_book view (empty_book job p)) { own = λ plan q. remote job files plan p q }) p known
        (let few = phases_are_few job valid in omega (arith, few));
    me = refl;
    ranks = refl;
    directory = refl;
    asked = refl;
    owners = refl;
    told = refl;
    own = refl;
    maps = λ n m at l. absurd (let bad : ⊥ = omega (arith, l) in bad);
    only_maps = λ m has. absurd (let bad : ⊥ = cc in bad);
    plans = λ n about plan at of l. absurd (let bad : ⊥ = omega (arith, l) in bad);
    only_plans = λ plan has. absurd (let bad : ⊥ = cc in bad);
    known = λ n plan g at l on. absurd (let bad : ⊥ = omega (arith, l) in bad);
    none_told = λ plan. refl;
    made = λ plan lists is. absurd (let bad : ⊥ = cc in bad);
    finished = λ n plan at off l. absurd (let bad : ⊥ = omega (arith, l) in bad);
  }

  pub books_pass_numbers : BooksPassNumbers R F
  books_pass_numbers = λ job files b view new s phase kept can plain were_made same stands_so.
      let numbers = λ (about : About) (e : about_at job s.entered ≡ Some about). plain about (ap (about_at job) (sym can.next) ∙ e) in
      let next : IsNextBook job files s b b = record {
        me = refl;
        ranks = refl;
        maps = λ m. inl refl;
        new_map = λ m e. absurd (let two = numbers (RegisterMap m) e in let bad : ⊥ = cc in bad);
        plans = λ plan. inl (record { size = refl; lacked = refl });
        new_plan = λ plan e. absurd (numbers-of-no-plan e.about plan e.of_plan (numbers e.about e.is));
        known = λ plan g e on. absurd (let two = numbers (SharePlan plan) e in let bad : ⊥ = cc in bad);
        known_before = λ n plan g at l on. kept.known n plan g at l on;
        told = λ plan q. refl;
        made = λ plan. refl;
      } in
      book-next R F job files b b view s new kept were_made next (record {
        directory = sym same.directory ∙ kept.directory;
        asked = sym same.asked ∙ kept.asked;
        owners = sym same.owners ∙ kept.owners;
        told = sym same.told ∙ kept.told;
        own = sym same.own;
      }) stands_so

  pub books_stay : BooksStay R F
  books_stay = λ job files b view new s letters kept same stands_so. record {
    valid = kept.valid;
    fitting = kept.fitting;
    phased = kept.phased;
    stage = stands_so;
    me = kept.me;
    ranks = kept.ranks;
    directory = sym same.directory ∙ kept.directory;
    asked = sym same.asked ∙ kept.asked;
    owners = sym same.owners ∙ kept.owners;
    told = sym same.told ∙ kept.told;
    own = sym same.own ∙ kept.own;
    maps = kept.maps;
    only_maps = kept.only_maps;
    plans = kept.plans;
    only_plans = kept.only_plans;
    known = kept.known;
    none_told = kept.none_told;
    made = kept.made;
    finished = kept.finished;
  }

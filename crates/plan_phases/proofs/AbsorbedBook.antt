-- A rank's book after a letter was absorbed.
use Rattle.std.proofs.Common.{◌≡◌, ℕ, ◌<◌, ◌≤◌, Bool, true, false, cond, ◌&&◌, ◌||◌, eqb, List, [], ◌∷◌, None, Some, All, filter, map, length, refl, sym, ap, subst, ◌∙◌, arith}
use Rattle.std.specs.Option.{is_some}
use Rattle.std.proofs.lemmas.Bool.{eqb-false, ne_eqb}
use Rattle.std.proofs.lemmas.List.{length-map}
use Rattle.std.proofs.lemmas.List.Elements.{filter_passes}
use Rattle.scalar_laws.specs.Semiring.{Semiring}
use Rattle.scalar_laws.specs.Conversions.{Conversions}
use Rattle.map_core.specs.Homes.{homed, is_home}
use Rattle.map_core.specs.Layouts.{owner, stands, AreDistinct}
use Rattle.map_core.proofs.Members.{AreDistinct-filter, and_true, stands-filter}
use Rattle.map_core.proofs.Owners.{owner-only}
use Rattle.mm_text.specs.Reading.{File}
use Rattle.peers.specs.Protocols.{Letter}
use Rattle.peers.specs.Peers.{was_given}
use Rattle.directory.specs.Directories.{AreNew}
use Rattle.rank_phases.specs.Stages.{Stage, absorbing}
use Rattle.model_defs.specs.declared.job.Job.{Job}
use Rattle.model_defs.specs.declared.phase.About.{About}
use Rattle.model_defs.specs.declared.phase.About.TheVariants.{RegisterMap, AskOwners, TellOwners, SharePlan}
use Rattle.model_defs.specs.declared.phase.Plan.{Plan}
use Rattle.model_defs.specs.Letters.{asked, entries_about, owner_word}
use Rattle.model_defs.specs.Maps.{is_home_rank, layout_of, list_of, map_at, size_of}
use Rattle.model_defs.specs.Plans.{lacking, remote}
use Rattle.model_defs.specs.Transfers.{owner_map, same_plan}
use Rattle.model_defs.proofs.Bounds.{maps-are-layouts}
use Rattle.model_defs.proofs.KnownShapes.{lists-length}
use Rattle.rank_plans.specs.Answers.{answered}
use Rattle.rank_plans.specs.Books.{Book, asked_of, directory_of, has_map, has_plan, lacking_of, made_of, map_size_of, owners_of, slices, task_in, told_of}
use Rattle.rank_plans.specs.Books as book
use Rattle.rank_plans.proofs.Joined.{answers_name_owners}
use Rattle.rank_stages.specs.AbsorbLaws.{IsAbsorbing}
use Rattle.rank_stages.specs.JobStages.{IsJobStage, about_at, has_heard, heard_owner}
use Rattle.rank_stages.specs.OwnerLaws.{map_about, plan_about}
use Rattle.rank_stages.specs.Views.{View}
use Rattle.rank_stages.proofs.Absorbing.{registrations_are_absorbed, questions_are_absorbed, answers_are_absorbed, lists_are_absorbed}
use Rattle.rank_stages.proofs.Prepared.{same-is}
use Rattle.plan_phases.specs.BookStages.{IsBegun, IsBookStage, with_book}
use Rattle.plan_phases.specs.BookCalls.{IsAbsorbingBook}
use Rattle.plan_phases.proofs.WordsStage.{one-owner, plan-begun}

-- what no letter changes
pub record AreKept (old new : Book) : Type 0 where
  pub me : new.me ≡ old.me
  pub ranks : new.ranks ≡ old.ranks
  pub map_size : map_size_of new ≡ map_size_of old
  pub size : book.size_of new ≡ book.size_of old
  pub lacking : lacking_of new ≡ lacking_of old
  pub made : made_of new ≡ made_of old

module _ {S : Type 0} (R : Semiring S) (F : Conversions S) (job : Job) (files : List File) (old new : Book) (view : View S) (s : Stage) (letters : List Letter)
    (h : IsBookStage R F job files old view s) (a : AreKept old new) where
  pub absorbed-book : IsJobStage R F job files (with_book view new) (absorbing s letters)
      → ((n : ℕ) (plan : Plan) (g : ℕ) → about_at job n ≡ Some (SharePlan plan) → n < s.entered → stands g (lacking job files plan s.rank) ≡ true
      → owners_of new plan g ≡ owner (layout_of job (owner_map job plan)) g)
      → ((plan : Plan) → told_of new plan s.rank ≡ [])
      → IsBookStage R F job files new (with_book view new) (absorbing s letters)
  absorbed-book stage known none = record {
    valid = h.valid;
    fitting = h.fitting;
    phased = h.phased;
    stage = stage;
    me = a.me ∙ h.me;
    ranks = a.ranks ∙ h.ranks;
    directory = refl;
    asked = refl;
    owners = refl;
    told = refl;
    own = h.own;
    maps = λ n m at l. (λ t. a.map_size t m) ∙ h.maps n m at l;
    only_maps = λ m has. h.only_maps m ((λ t. is_some (sym a.map_size t m)) ∙ has);
    plans = λ n about plan at of l. let begun = h.plans n about plan at of l in record { size = (λ t. a.size t plan) ∙ begun.size; lacked = (λ t. a.lacking t plan) ∙ begun.lacked };
    only_plans = λ plan has. h.only_plans plan ((λ t. is_some (sym a.size t plan)) ∙ has);
    known = known;
    none_told = none;
    made = λ plan lists is. h.made plan lists ((λ t. sym a.made t plan) ∙ is);
    finished = λ n plan at off l. (λ t. is_some (a.made t plan)) ∙ h.finished n plan at off l;
  }

-- the words of a registration are of this home
homes-pass : (P Q n o p q : ℕ) (xs words : List ℕ) → P ≡ Q → n ≡ o → p ≡ q → words ≡ filter (is_home Q o q) xs → All (λ g. is_home P n p g ≡ true) words
homes-pass P Q n o p q xs words a b c e =
    let is : filter (is_home P n p) xs ≡ words = (λ t. filter (is_home (a t) (b t) (c t)) xs) ∙ sym e in
    subst (All (λ g. is_home P n p g ≡ true)) is (filter_passes (is_home P n p) xs)

never : (b : Bool) → (b && false) ≡ false
never true = refl
never false = refl

other-way : (a b : ℕ) → eqb a b ≡ false → eqb b a ≡ false
other-way a b e = ne_eqb b a (λ same. eqb-false a b e (sym same))

module _ {S : Type 0} (R : Semiring S) (F : Conversions S) (job : Job) (files : List File) (old : Book) (about : About) (from : ℕ) (words : List ℕ)
    (e : IsAbsorbingBook R F job files old about from words) where
  abbrev n : ℕ
  n = e.name.phase

  abbrev k : IsBookStage R F job files old e.view e.stage
  k = e.kept

  pub low : n < e.stage.entered
  low = let here = e.can_absorb.here in omega (arith, here)

  pub rank-known : from < old.ranks
  rank-known = subst (λ P. from < P) (sym k.ranks) e.known

  can : IsAbsorbing R F job files e.view e.stage e.name e.bytes
  can = record { valid = k.valid; fitting = k.fitting; stands_so = k.stage; can_absorb = e.can_absorb }

  -- the words, by what the phase is about
  said : (a : About) → about ≡ a → words ≡ entries_about job files 0 a from e.stage.rank
  said a is = e.words_are 0 ∙ ap (λ a. entries_about job files 0 a from e.stage.rank) is

  unheard : has_heard e.stage n from ≡ false
  unheard =
      (λ t. e.other t || was_given e.stage.absorbed (record { phase = n; from = sym e.sender t; to = sym e.can_absorb.is_letter.to t }))
      ∙ e.can_absorb.first

  -- ---- REG

  module _ (m : ℕ) (is : about ≡ RegisterMap m) where
    sized : map_size_of old m ≡ Some (size_of job m)
    sized = k.maps n m (e.is ∙ ap Some is) low

    pub register-home : (size : ℕ) → map_size_of old m ≡ Some size → All (λ g. is_home old.ranks size old.me g ≡ true) words
    register-home size at =
        let same : size ≡ size_of job m = (let two : Some size ≡ Some (size_of job m) = sym at ∙ sized in cc) in
        homes-pass old.ranks job.ranks size (size_of job m) old.me e.stage.rank (list_of job m from) words k.ranks same k.me (said (RegisterMap m) is)

    pub register-map : has_map old m ≡ true
    register-map = ap is_some sized

    pub register-new : AreNew (directory_of old m) words
    register-new =
        record {
          distinct = subst AreDistinct (sym (said (RegisterMap m) is)) (AreDistinct-filter (is_home_rank job m e.stage.rank) (list_of job m from) ((maps-are-layouts job m k.valid).0.distinct from));
          unknown = unknown;
        }
      where
        unknown : (g : ℕ) → stands g words ≡ true → directory_of old m g ≡ None
        unknown g on =
            let both = and_true (stands g (list_of job m from)) (is_home_rank job m e.stage.rank g)
            (sym (stands-filter g (is_home_rank job m e.stage.rank) (list_of job m from)) ∙ ap (stands g) (sym (said (RegisterMap m) is)) ∙ on) in
            let one = (one-owner R F job files old e.view e.stage k n about e.is low m (ap (map_about job) is)).1 in
            (λ t. sym k.directory t m g)
            ∙ k.stage.directory n m g (e.is ∙ ap Some is) low both.1
            ∙ ap (heard_owner e.stage n) (owner-only (layout_of job m) g from one both.0)
            ∙ ap (λ b. cond b (Some from) None) unheard

    module _ (new : Book)
        (directory : (g : ℕ) → directory_of new m g ≡ cond (stands g words) (Some from) (directory_of old m g))
        (others : (o g : ℕ) → eqb o m ≡ false → directory_of new o g ≡ directory_of old o g)
        (sizes : (o : ℕ) → map_size_of new o ≡ map_size_of old o) (plans : new.plans ≡ old.plans) (me : new.me ≡ old.me) (ranks : new.ranks ≡ old.ranks) where
      registered-stage : IsJobStage R F job files (record e.view { directory = directory_of new }) (absorbing e.stage ((e.name, e.bytes) ∷ []))
      registered-stage =
          registrations_are_absorbed R F job files e.view e.stage e.name e.bytes 0 m (directory_of new) can (e.is ∙ ap Some is)
          (λ g. directory g
          ∙ (λ t. cond (stands g (said (RegisterMap m) is t)) (Some from) (sym k.directory t m g))
          ∙ (λ t. cond (stands g (entries_about job files 0 (RegisterMap m) (sym e.sender t) e.stage.rank)) (Some (sym e.sender t)) (e.view.directory m g)))
          (λ o g f. others o g f ∙ (λ t. sym k.directory t o g))

      view-is : record e.view { directory = directory_of new } ≡ with_book e.view new
      view-is = λ t. record e.view {
        directory = directory_of new;
        asked = λ plan. (λ q. asked-stays t plan q);
        owners = λ plan. (λ g. owners-stay t plan g);
        told = λ plan. (λ q. told-stays t plan q);
      }
        where
          asked-stays : e.view.asked ≡ asked_of new
          asked-stays = k.asked ∙ (λ t plan. book.asked_in (task_in (sym plans t) plan))

          owners-stay : e.view.owners ≡ owners_of new
          owners-stay = k.owners ∙ (λ t plan. book.owners_in (task_in (sym plans t) plan))

          told-stays : e.view.told ≡ told_of new
          told-stays = k.told ∙ (λ t plan. book.told_in (task_in (sym plans t) plan))

      pub register-absorbed : IsBookStage R F job files new (with_book e.view new) (absorbing e.stage ((e.name, e.bytes) ∷ []))
      register-absorbed =
          absorbed-book R F job files old new e.view e.stage ((e.name, e.bytes) ∷ []) k
          (record {
            me = me;
            ranks = ranks;
            map_size = λ t o. sizes o t;
            size = λ t plan. book.size_in (task_in (plans t) plan);
            lacking = λ t plan. book.lacking_in (task_in (plans t) plan);
            made = λ t plan. book.made_in (task_in (plans t) plan);
          })
          (subst (λ v. IsJobStage R F job files v (absorbing e.stage ((e.name, e.bytes) ∷ []))) view-is registered-stage)
          (λ i plan g at l on. (λ t. book.owners_in (task_in (plans t) plan) g) ∙ k.known i plan g at l on)
          (λ plan. (λ t. book.told_in (task_in (plans t) plan) e.stage.rank) ∙ k.none_told plan)

  -- ---- ASK

  module _ (plan : Plan) (is : about ≡ AskOwners plan) (new : Book)
      (asks : asked_of new plan from ≡ words)
      (others : (o : Plan) (q : ℕ) → (same_plan o plan && eqb q from) ≡ false → asked_of new o q ≡ asked_of old o q)
      (stays : slices new ≡ record (slices old) { asked = asked_of new }) where
    pub ask-absorbed : IsBookStage R F job files new (with_book e.view new) (absorbing e.stage ((e.name, e.bytes) ∷ []))
    ask-absorbed =
        absorbed-book R F job files old new e.view e.stage ((e.name, e.bytes) ∷ []) k
        (record { me = λ t. (stays t).me; ranks = λ t. (stays t).ranks; map_size = λ t. (stays t).map_size; size = λ t. (stays t).size; lacking = λ t. (stays t).lacking; made = λ t. (stays t).made })
        (subst (λ v. IsJobStage R F job files v (absorbing e.stage ((e.name, e.bytes) ∷ []))) view-is
        (questions_are_absorbed R F job files e.view e.stage e.name e.bytes plan (asked_of new) can (e.is ∙ ap Some is)
        (ap (asked_of new plan) e.sender ∙ asks ∙ said (AskOwners plan) is ∙ ap (λ q. asked job files plan q e.stage.rank) (sym e.sender))
        (λ o q f. others o q (ap (λ p. same_plan o plan && eqb q p) (sym e.sender) ∙ f) ∙ (λ t. sym k.asked t o q))))
        (λ i o g at l on. (λ t. (stays t).owners o g) ∙ k.known i o g at l on)
        (λ o. (λ t. (stays t).told o e.stage.rank) ∙ k.none_told o)
      where
        view-is : record e.view { asked = asked_of new } ≡ with_book e.view new
        view-is = λ t. record e.view {
          directory = (k.directory ∙ sym (λ u. (stays u).directory)) t;
          asked = asked_of new;
          owners = (k.owners ∙ sym (λ u. (stays u).owners)) t;
          told = (k.told ∙ sym (λ u. (stays u).told)) t;
        }

  -- ---- WANT

  module _ (plan : Plan) (is : about ≡ SharePlan plan) (new : Book)
      (tells : told_of new plan from ≡ words)
      (others : (o : Plan) (q : ℕ) → (same_plan o plan && eqb q from) ≡ false → told_of new o q ≡ told_of old o q)
      (stays : slices new ≡ record (slices old) { told = told_of new }) where
    pub share-absorbed : IsBookStage R F job files new (with_book e.view new) (absorbing e.stage ((e.name, e.bytes) ∷ []))
    share-absorbed =
        absorbed-book R F job files old new e.view e.stage ((e.name, e.bytes) ∷ []) k
        (record { me = λ t. (stays t).me; ranks = λ t. (stays t).ranks; map_size = λ t. (stays t).map_size; size = λ t. (stays t).size; lacking = λ t. (stays t).lacking; made = λ t. (stays t).made })
        (subst (λ v. IsJobStage R F job files v (absorbing e.stage ((e.name, e.bytes) ∷ []))) view-is
        (lists_are_absorbed R F job files e.view e.stage e.name e.bytes plan (told_of new) can (e.is ∙ ap Some is)
        (ap (told_of new plan) e.sender ∙ tells ∙ said (SharePlan plan) is ∙ ap (λ q. remote job files plan q e.stage.rank) (sym e.sender))
        (λ o q f. others o q (ap (λ p. same_plan o plan && eqb q p) (sym e.sender) ∙ f) ∙ (λ t. sym k.told t o q))))
        (λ i o g at l on. (λ t. (stays t).owners o g) ∙ k.known i o g at l on)
        (λ o. others o e.stage.rank (ap (λ b. same_plan o plan && b) (other-way from e.stage.rank e.other) ∙ never (same_plan o plan)) ∙ k.none_told o)
      where
        view-is : record e.view { told = told_of new } ≡ with_book e.view new
        view-is = λ t. record e.view {
          directory = (k.directory ∙ sym (λ u. (stays u).directory)) t;
          asked = (k.asked ∙ sym (λ u. (stays u).asked)) t;
          owners = (k.owners ∙ sym (λ u. (stays u).owners)) t;
          told = told_of new;
        }

  -- ---- TELL

  module _ (plan : Plan) (is : about ≡ TellOwners plan) where
    begun : IsBegun job files old e.stage.rank plan
    begun = plan-begun R F job files old e.view e.stage k n about e.is low plan (ap plan_about is)

    -- what this rank asked the sender
    questions : homed old.ranks (size_of job (owner_map job plan)) from (lacking_of old plan) ≡ asked job files plan e.stage.rank e.name.from
    questions = λ t. filter (is_home (k.ranks t) (size_of job (owner_map job plan)) (sym e.sender t)) (begun.lacked t)

    answers : words ≡ map (owner_word job files (owner_map job plan)) (asked job files plan e.stage.rank e.name.from)
    answers = said (TellOwners plan) is ∙ ap (λ q. map (owner_word job files (owner_map job plan)) (asked job files plan e.stage.rank q)) (sym e.sender)

    pub tell-each : (size : ℕ) → book.size_of old plan ≡ Some size → length words ≡ length (homed old.ranks size from (lacking_of old plan))
    tell-each size at =
        let same : size_of job (owner_map job plan) ≡ size = (let two : Some (size_of job (owner_map job plan)) ≡ Some size = sym begun.size ∙ at in cc) in
        ap length answers ∙ length-map (asked job files plan e.stage.rank e.name.from) (owner_word job files (owner_map job plan)) ∙ ap length (sym questions)
        ∙ ap (λ n. length (homed old.ranks n from (lacking_of old plan))) same

    module _ (new : Book)
        (told : (size g : ℕ) → book.size_of old plan ≡ Some size → stands g (homed old.ranks size from (lacking_of old plan)) ≡ true
        → owners_of new plan g ≡ answered old.ranks (homed old.ranks size from (lacking_of old plan)) words g)
        (others : (size : ℕ) (o : Plan) (g : ℕ) → book.size_of old plan ≡ Some size → (same_plan o plan && stands g (homed old.ranks size from (lacking_of old plan))) ≡ false
        → owners_of new o g ≡ owners_of old o g)
        (stays : slices new ≡ record (slices old) { owners = owners_of new }) where
      here : (g : ℕ) → stands g (asked job files plan e.stage.rank e.name.from) ≡ true → owners_of new plan g ≡ owner (layout_of job (owner_map job plan)) g
      here g on =
          let m = owner_map job plan in
          let known = (one-owner R F job files old e.view e.stage k n about e.is low m (ap (map_about job) is)).0 in
          let count : length (layout_of job m).lists ≡ job.ranks = lists-length job.ranks (size_of job m) (map_at job m).form (k.valid.forms m known) in
          let few : job.ranks ≤ 32 = k.valid.limits.ranks in
          told (size_of job m) g begun.size (ap (stands g) questions ∙ on)
          ∙ (λ t. answered (k.ranks t) (questions t) (answers t) g)
          ∙ answers_name_owners job files m g (asked job files plan e.stage.rank e.name.from) few (omega (arith, count)) on

      elsewhere : (o : Plan) (g : ℕ) → (same_plan o plan && stands g (asked job files plan e.stage.rank e.name.from)) ≡ false → owners_of new o g ≡ owners_of old o g
      elsewhere o g f = others (size_of job (owner_map job plan)) o g begun.size (ap (λ xs. same_plan o plan && stands g xs) questions ∙ f)

      knows : (i : ℕ) (o : Plan) (g : ℕ) → about_at job i ≡ Some (SharePlan o) → i < e.stage.entered → stands g (lacking job files o e.stage.rank) ≡ true
          → owners_of new o g ≡ owner (layout_of job (owner_map job o)) g
      knows i o g at l on = by (same_plan o plan) refl (stands g (asked job files plan e.stage.rank e.name.from)) refl
        where
          by : (a : Bool) → same_plan o plan ≡ a → (b : Bool) → stands g (asked job files plan e.stage.rank e.name.from) ≡ b
              → owners_of new o g ≡ owner (layout_of job (owner_map job o)) g
          by true f true j =
              let same = same-is o plan f in
              (λ t. owners_of new (same t) g) ∙ here g j ∙ (λ t. owner (layout_of job (owner_map job (sym same t))) g)
          by true f false j = elsewhere o g (λ t. f t && j t) ∙ k.known i o g at l on
          by false f b j = elsewhere o g (λ t. f t && stands g (asked job files plan e.stage.rank e.name.from)) ∙ k.known i o g at l on

      pub tell-absorbed : IsBookStage R F job files new (with_book e.view new) (absorbing e.stage ((e.name, e.bytes) ∷ []))
      tell-absorbed =
          absorbed-book R F job files old new e.view e.stage ((e.name, e.bytes) ∷ []) k
          (record { me = λ t. (stays t).me; ranks = λ t. (stays t).ranks; map_size = λ t. (stays t).map_size; size = λ t. (stays t).size; lacking = λ t. (stays t).lacking; made = λ t. (stays t).made })
          (subst (λ v. IsJobStage R F job files v (absorbing e.stage ((e.name, e.bytes) ∷ []))) view-is
          (answers_are_absorbed R F job files e.view e.stage e.name e.bytes plan (owners_of new) can (e.is ∙ ap Some is) here
          (λ o g f. elsewhere o g f ∙ (λ t. sym k.owners t o g))))
          knows
          (λ o. (λ t. (stays t).told o e.stage.rank) ∙ k.none_told o)
        where
          view-is : record e.view { owners = owners_of new } ≡ with_book e.view new
          view-is = λ t. record e.view {
            directory = (k.directory ∙ sym (λ u. (stays u).directory)) t;
            asked = (k.asked ∙ sym (λ u. (stays u).asked)) t;
            owners = owners_of new;
            told = (k.told ∙ sym (λ u. (stays u).told)) t;
          }

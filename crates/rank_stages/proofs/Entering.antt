-- A phase that is entered adds one thing to what a rank keeps.
use Rattle.std.proofs.Common.{◌≡◌, ℕ, suc, ◌<◌, ◌≤◌, ◌⊎◌, inl, inr, Bool, true, false, cond, ◌&&◌, ◌||◌, eqb, List, [], ◌∷◌, map, Option, None, Some, refl, sym, ap, ap₂, ◌∙◌, arith}
use Rattle.std.proofs.lemmas.Bool.{eq-eqb, eqb-true, cases_lt}
use Rattle.scalar_laws.specs.Semiring.{Semiring}
use Rattle.scalar_laws.specs.Conversions.{Conversions}
use Rattle.tables.specs.Indices.{stands}
use Rattle.tables.specs.Tables.{Table}
use Rattle.combine_modes.specs.Modes.{after_one, gathered}
use Rattle.map_core.specs.Layouts.{owner}
use Rattle.mm_text.specs.Reading.{File}
use Rattle.peers.specs.Peers.{was_given}
use Rattle.rank_phases.specs.Stages.{Stage, HasAbsorbed, entering}
use Rattle.model_defs.specs.declared.job.Job.{Job}
use Rattle.model_defs.specs.declared.phase.About.{About}
use Rattle.model_defs.specs.declared.phase.About.TheVariants.{RegisterMap, AskOwners, TellOwners, SharePlan, SendNumbers}
use Rattle.model_defs.specs.declared.phase.Plan.{Plan}
use Rattle.model_defs.specs.Maps.{layout_of, is_home_rank}
use Rattle.model_defs.specs.Transfers.{owner_map, same_plan}
use Rattle.model_defs.specs.Phases.{phases, send_phase}
use Rattle.model_defs.specs.Plans.{brought, lacking, remote}
use Rattle.model_defs.specs.Letters.{asked, entries_about}
use Rattle.model_defs.specs.Machine.{arrivals, letters_of, letter_table, no_phase, tables_of_phase}
use Rattle.model_defs.specs.Stages.{first_pieces, is_fixed, rank_entries, target_at, transfer_at}
use Rattle.model_defs.specs.Valid.{IsOwnerMap}
use Rattle.model_defs.proofs.Names.{sends-is}
use Rattle.model_defs.proofs.PhaseFacts.{registrations-say-owners}
use Rattle.map_core.proofs.Members.{stands-filter, and_true}
use Rattle.rank_stages.specs.Views.{View}
use Rattle.rank_stages.specs.JobStages.{IsJobStage, IsOpen, HasValues, HasDirectories, HasQuestions, HasOwners, HasOwnLists, HasToldLists, HasGathered, about_at, has_heard, heard_owner, letter_name, gathered_so_far}
use Rattle.rank_stages.specs.EnterLaws.{IsEntering, RegistrationsAreEntered, QuestionsAreEntered, AnswersAreEntered, ListsAreEntered, NumbersAreEntered, EndIsEntered}
use Rattle.rank_stages.proofs.Heard.{owner-same, unheard}
use Rattle.rank_stages.proofs.Once.{plans_are_made_once, same-self}
use Rattle.rank_stages.proofs.Owners.{directory-whole, indices_have_one_owner, phases_are_left}
use Rattle.rank_stages.proofs.PhaseLetters.{about-known}
use Rattle.rank_stages.proofs.Prepared.{phases_are_prepared, same-is}
use Rattle.rank_stages.proofs.SendPhases.{sent-about}

module _ {S : Type 0} (R : Semiring S) (F : Conversions S) (job : Job) (files : List File) (view : View S) (s : Stage) (phase : ℕ) (values : ℕ → Option (Table S)) (h : IsEntering R F job files view s phase values) where
  here : s.entered ≡ phase
  here = h.can_enter.next

  -- of a phase that is not this one
  earlier : (n : ℕ) → n < suc s.entered → (n ≡ phase → ⊥) → n < s.entered
  earlier n l apart = by (cases_lt n s.entered)
    where
      by : (n < s.entered) ⊎ (s.entered ≤ n) → n < s.entered
      by (inl a) = a
      by (inr a) = absurd (apart (let e = here in omega (arith, l, a, e)))

  known : (about : About) → about_at job phase ≡ Some about → phase < s.phases
  known about at = let l = (about-known (phases job) phase no_phase about at).0 in let e = h.stands_so.phases in omega (arith, l, e)

  none-here : (about : About) → about_at job phase ≡ Some about → letters_of phase s.rank s.absorbed ≡ []
  none-here about at = h.stands_so.later phase (known about at) (let e = here in omega (arith, e))

  -- only the rank itself is heard
  only-self : (about : About) (q : ℕ) → about_at job phase ≡ Some about → has_heard s phase q ≡ true → q ≡ s.rank
  only-self about q at is = eqb-true q s.rank (by (eqb q s.rank) (sym (ap (λ b. (eqb q s.rank) || b) (unheard s.absorbed phase q s.rank (none-here about at))) ∙ is))
    where
      by : (b : Bool) → b || false ≡ true → b ≡ true
      by true e = refl
      by false e = e

  -- ---- what stays

  directories-stay : ((m : ℕ) → about_at job phase ≡ Some (RegisterMap m) → ⊥) → HasDirectories job view.directory (entering s)
  directories-stay other = λ n m g e l is.
      h.stands_so.directory n m g e (earlier n l (λ f. other m (ap (about_at job) (sym f) ∙ e))) is ∙ sym (owner-same s n (owner (layout_of job m) g))

  questions-stay : ((plan : Plan) → about_at job phase ≡ Some (AskOwners plan) → ⊥) → HasQuestions job files view.asked (entering s)
  questions-stay other = λ n q plan e l is. h.stands_so.asked n q plan e (earlier n l (λ f. other plan (ap (about_at job) (sym f) ∙ e))) is

  owners-stay : ((plan : Plan) → about_at job phase ≡ Some (TellOwners plan) → ⊥) → HasOwners job files view.owners (entering s)
  owners-stay other = λ n q g plan e l is among. h.stands_so.owners n q g plan e (earlier n l (λ f. other plan (ap (about_at job) (sym f) ∙ e))) is among

  own-stay : ((plan : Plan) → about_at job phase ≡ Some (SharePlan plan) → ⊥) → HasOwnLists job files view.own (entering s)
  own-stay other = λ n q plan e l. h.stands_so.own n q plan e (earlier n l (λ f. other plan (ap (about_at job) (sym f) ∙ e)))

  told-stay : HasToldLists job files view.told (entering s)
  told-stay = λ n q plan e is. h.stands_so.told n q plan e is

  making-before : (k : ℕ) → IsOpen job (suc s.entered) k → IsOpen job s.entered k
  making-before k making = record { stage = making.stage; phase = making.phase; sends = making.sends; not_left = (let l = making.not_left in omega (arith, l)) }

  gathered-stay : ((k t : ℕ) → send_phase job k t ≡ Some phase → ⊥) → HasGathered R F job files view.gathered (entering s)
  gathered-stay other = λ k t n e l making. h.stands_so.gathered k t n e (earlier n l (λ f. other k t (e ∙ ap Some f))) (making-before k making)

  no-send : (o : Option About) → about_at job phase ≡ o → ((t : ℕ) → o ≡ Some (SendNumbers t) → ⊥) → (k t : ℕ) → send_phase job k t ≡ Some phase → ⊥
  no-send o e other k t f = other t (sym e ∙ sent-about job k t phase f)

  passed-more : (n : ℕ) → n < suc s.entered → HasAbsorbed (entering s) n
  passed-more n l = by (cases_lt n s.entered)
    where
      by : (n < s.entered) ⊎ (s.entered ≤ n) → HasAbsorbed (entering s) n
      by (inl a) = λ m named to before. h.stands_so.passed n a m named to before
      by (inr a) = λ m named to before. h.can_enter.all_absorbed m named to (let e = here in omega (arith, before, l, a, e))

  frame : (kept : View S) → HasValues R F job files kept.values (entering s) → HasDirectories job kept.directory (entering s) → HasQuestions job files kept.asked (entering s)
      → HasOwners job files kept.owners (entering s) → HasOwnLists job files kept.own (entering s) → HasToldLists job files kept.told (entering s)
      → HasGathered R F job files kept.gathered (entering s) → IsJobStage R F job files kept (entering s)
  frame kept a b c d e f g = record {
    protocol = h.stands_so.protocol;
    phases = h.stands_so.phases;
    limit = h.stands_so.limit;
    within = h.stands_so.within;
    passed = passed-more;
    later = λ n l more. h.stands_so.later n l (omega (arith, more));
    named = λ n l. h.stands_so.named n l;
    values = a;
    directory = b;
    asked = c;
    owners = d;
    own = e;
    told = f;
    gathered = g;
  }

  -- ---- what is new

  registered : (k m : ℕ) (directory : ℕ → ℕ → Option ℕ) → about_at job phase ≡ Some (RegisterMap m)
      → ((g : ℕ) → directory m g ≡ cond (stands g (entries_about job files k (RegisterMap m) s.rank s.rank)) (Some s.rank) None)
      → ((o g : ℕ) → eqb o m ≡ false → directory o g ≡ view.directory o g)
      → HasDirectories job directory (entering s)
  registered k m directory at new old n o g e l is = by (eqb o m) refl
    where
      owned : (b : Bool) → stands g (entries_about job files k (RegisterMap m) s.rank s.rank) ≡ b → IsOwnerMap job m → is_home_rank job m s.rank g ≡ true
          → (u : Option ℕ) → owner (layout_of job m) g ≡ u → cond b (Some s.rank) None ≡ heard_owner (entering s) phase u
      owned true f one home u i =
          let mine : u ≡ Some s.rank = sym i ∙ (registrations-say-owners job files k m s.rank s.rank g one.1 home).0 f in
          sym (ap (heard_owner (entering s) phase) mine ∙ ap (λ b. cond (b || was_given s.absorbed (letter_name phase s.rank s.rank)) (Some s.rank) None) (eq-eqb s.rank s.rank refl))
      owned false f one home None i = refl
      owned false f one home (Some q) i = go (has_heard s phase q) refl
        where
          go : (b : Bool) → has_heard s phase q ≡ b → None ≡ cond b (Some q) None
          go false j = refl
          go true j =
              let same = only-self (RegisterMap m) q at j in
              let yes = (registrations-say-owners job files k m s.rank s.rank g one.1 home).1 (i ∙ ap Some same) in
              absurd (let bad : ⊥ = cc in bad)

      by : (b : Bool) → eqb o m ≡ b → directory o g ≡ heard_owner (entering s) n (owner (layout_of job o) g)
      by true f =
          let same : o ≡ m = eqb-true o m f in
          let at_phase : n ≡ phase = plans_are_made_once job files n phase (RegisterMap m) h.valid h.fitting refl (e ∙ ap (λ i. Some (RegisterMap i)) same) at in
          ap (λ i. directory i g) same ∙ new g
          ∙ owned (stands g (entries_about job files k (RegisterMap m) s.rank s.rank)) refl (indices_have_one_owner job phase m (RegisterMap m) h.valid at refl) (ap (λ i. is_home_rank job i s.rank g) (sym same) ∙ is)
          (owner (layout_of job m) g) refl
          ∙ ap₂ (λ i j. heard_owner (entering s) i (owner (layout_of job j) g)) (sym at_phase) (sym same)
      by false f =
          old o g f
          ∙ h.stands_so.directory n o g e (earlier n l (λ i.
          (let two : Some (RegisterMap o) ≡ Some (RegisterMap m) = sym e ∙ ap (about_at job) i ∙ at in let same : o ≡ m = cc in let yes = eq-eqb o m same in let bad : ⊥ = cc in bad))) is
          ∙ sym (owner-same s n (owner (layout_of job o) g))

  -- another plan is that of another phase
  plan-apart : (of : Plan → About) → ((a b : Plan) → of a ≡ of b → a ≡ b) → (p plan : Plan) (n : ℕ) → about_at job n ≡ Some (of p) → about_at job phase ≡ Some (of plan) → same_plan p plan ≡ false → n ≡ phase → ⊥
  plan-apart of one p plan n e at f i =
      (let two : Some (of p) ≡ Some (of plan) = sym e ∙ ap (about_at job) i ∙ at in let is : of p ≡ of plan = cc in
      let yes = ap (λ r. same_plan r plan) (one p plan is) ∙ same-self plan in let bad : ⊥ = cc in bad)

  questioned : (plan : Plan) (questions : Plan → ℕ → List ℕ) → about_at job phase ≡ Some (AskOwners plan) → questions plan s.rank ≡ asked job files plan s.rank s.rank
      → ((p : Plan) (q : ℕ) → same_plan p plan ≡ false → questions p q ≡ view.asked p q) → HasQuestions job files questions (entering s)
  questioned plan questions at new old n q p e l is = by (same_plan p plan) refl
    where
      by : (b : Bool) → same_plan p plan ≡ b → questions p q ≡ asked job files p q s.rank
      by true f =
          let same = same-is p plan f in
          let at_phase : n ≡ phase = plans_are_made_once job files n phase (AskOwners plan) h.valid h.fitting refl (e ∙ ap (λ r. Some (AskOwners r)) same) at in
          let self = only-self (AskOwners plan) q at (ap (λ i. has_heard s i q) (sym at_phase) ∙ is) in
          ap₂ questions same self ∙ new ∙ ap₂ (λ r u. asked job files r u s.rank) (sym same) (sym self)
      by false f = old p q f ∙ h.stands_so.asked n q p e (earlier n l (plan-apart AskOwners (λ a b i. cc) p plan n e at f)) is

  answered : (plan : Plan) (owners : Plan → ℕ → Option ℕ) → about_at job phase ≡ Some (TellOwners plan)
      → ((g : ℕ) → stands g (asked job files plan s.rank s.rank) ≡ true → owners plan g ≡ view.directory (owner_map job plan) g)
      → ((p : Plan) (g : ℕ) → same_plan p plan ≡ false → owners p g ≡ view.owners p g) → HasOwners job files owners (entering s)
  answered plan owners at new old n q g p e l is among = by (same_plan p plan) refl
    where
      by : (b : Bool) → same_plan p plan ≡ b → owners p g ≡ owner (layout_of job (owner_map job p)) g
      by true f =
          let same = same-is p plan f in
          let at_phase : n ≡ phase = plans_are_made_once job files n phase (TellOwners plan) h.valid h.fitting refl (e ∙ ap (λ r. Some (TellOwners r)) same) at in
          let self = only-self (TellOwners plan) q at (ap (λ i. has_heard s i q) (sym at_phase) ∙ is) in
          let mine : stands g (asked job files plan s.rank s.rank) ≡ true = ap₂ (λ r u. stands g (asked job files r s.rank u)) (sym same) (sym self) ∙ among in
          let home = (and_true (stands g (lacking job files plan s.rank)) (is_home_rank job (owner_map job plan) s.rank g) (sym (stands-filter g (is_home_rank job (owner_map job plan) s.rank) (lacking job files plan s.rank)) ∙ mine)).1 in
          let reg = (phases_are_prepared job files phase (TellOwners plan) h.valid h.fitting at).0 in
          let left = phases_are_left s reg.phase phase h.can_enter.all_absorbed (let i = here in omega (arith, i)) reg.before in
          ap (λ r. owners r g) same ∙ new g mine
          ∙ directory-whole R F job files view s h.stands_so h.valid reg.phase (owner_map job plan) g reg.is_about left home
          ∙ ap (λ r. owner (layout_of job (owner_map job r)) g) (sym same)
      by false f = old p g f ∙ h.stands_so.owners n q g p e (earlier n l (plan-apart TellOwners (λ a b i. cc) p plan n e at f)) is among

  listed : (plan : Plan) (own : Plan → ℕ → List ℕ) → about_at job phase ≡ Some (SharePlan plan) → ((q : ℕ) → own plan q ≡ remote job files plan s.rank q)
      → ((p : Plan) (q : ℕ) → same_plan p plan ≡ false → own p q ≡ view.own p q) → HasOwnLists job files own (entering s)
  listed plan own at new old n q p e l = by (same_plan p plan) refl
    where
      by : (b : Bool) → same_plan p plan ≡ b → own p q ≡ remote job files p s.rank q
      by true f = let same = same-is p plan f in ap (λ r. own r q) same ∙ new q ∙ ap (λ r. remote job files r s.rank q) (sym same)
      by false f = old p q f ∙ h.stands_so.own n q p e (earlier n l (plan-apart SharePlan (λ a b i. cc) p plan n e at f))

  abbrev first_gathered : ℕ → ℕ → Table S
  first_gathered k t i j =
      after_one R (target_at R F job files s.rank k t (first_pieces R F job files s.rank (arrivals R F job files s.rank s.absorbed) k)).mode (is_fixed job k)
      ((target_at R F job files s.rank k t (first_pieces R F job files s.rank (arrivals R F job files s.rank s.absorbed) k)).old i j)
      (brought job files (transfer_at job k t) (rank_entries R F job files s.rank (arrivals R F job files s.rank s.absorbed) k t) s.rank s.rank i j)

  begins : (k t : ℕ) → send_phase job k t ≡ Some phase → gathered_so_far R F job files s.rank s.absorbed k t ≡ first_gathered k t
  begins k t e =
      ap (λ ts. gathered R (target_at R F job files s.rank k t (first_pieces R F job files s.rank (arrivals R F job files s.rank s.absorbed) k)).mode (is_fixed job k)
      (target_at R F job files s.rank k t (first_pieces R F job files s.rank (arrivals R F job files s.rank s.absorbed) k)).old
      (brought job files (transfer_at job k t) (rank_entries R F job files s.rank (arrivals R F job files s.rank s.absorbed) k t) s.rank s.rank ∷ ts))
      (ap (tables_of_phase R F job files s.rank s.absorbed) e ∙ ap (map (letter_table R F job files)) (none-here (SendNumbers t) (sent-about job k t phase e)))

  gathered-with : (k t : ℕ) (kept : ℕ → ℕ → Table S) → send_phase job k t ≡ Some phase → kept k t ≡ first_gathered k t
      → ((v u : ℕ) → ((eqb v k) && (eqb u t)) ≡ false → kept v u ≡ view.gathered v u) → HasGathered R F job files kept (entering s)
  gathered-with k t kept at new old v u n e l making = by (eqb v k) refl (eqb u t) refl
    where
      unlike : n ≡ phase → (v ≡ k) × (u ≡ t)
      unlike same =
          let a = sends-is job v u n no_phase e in
          let b = sends-is job k t n no_phase (at ∙ ap Some (sym same)) in
          (sym a.0 ∙ b.0, (let two : SendNumbers u ≡ SendNumbers t = sym a.1 ∙ b.1 in let is : u ≡ t = cc in is))

      other : ((eqb v k) && (eqb u t)) ≡ false → kept v u ≡ gathered_so_far R F job files s.rank s.absorbed v u
      other f =
          old v u f
          ∙ h.stands_so.gathered v u n e (earlier n l (λ same. (let p = unlike same in let yes = ap₂ (λ a b. a && b) (eq-eqb v k p.0) (eq-eqb u t p.1) in let bad : ⊥ = cc in bad))) (making-before v making)

      by : (b : Bool) → eqb v k ≡ b → (c : Bool) → eqb u t ≡ c → kept v u ≡ gathered_so_far R F job files s.rank s.absorbed v u
      by false f c i = other (ap (λ a. a && (eqb u t)) f)
      by true f false i = other (ap₂ (λ a b. a && b) f i)
      by true f true i =
          ap₂ kept (eqb-true v k f) (eqb-true u t i) ∙ new ∙ sym (begins k t at)
          ∙ ap₂ (λ a b. gathered_so_far R F job files s.rank s.absorbed a b) (sym (eqb-true v k f)) (sym (eqb-true u t i))

module _ {S : Type 0} (R : Semiring S) (F : Conversions S) where
  pub registrations_are_entered : RegistrationsAreEntered R F
  registrations_are_entered = λ job files view s phase k m values directory h at new old.
      frame R F job files view s phase values h (record view { values = values; directory = directory }) h.made
      (registered R F job files view s phase values h k m directory at new old)
      (questions-stay R F job files view s phase values h (λ p e. let two = sym at ∙ e in let bad : ⊥ = cc in bad))
      (owners-stay R F job files view s phase values h (λ p e. let two = sym at ∙ e in let bad : ⊥ = cc in bad))
      (own-stay R F job files view s phase values h (λ p e. let two = sym at ∙ e in let bad : ⊥ = cc in bad))
      (told-stay R F job files view s phase values h)
      (gathered-stay R F job files view s phase values h (no-send R F job files view s phase values h (Some (RegisterMap m)) at (λ t e. let bad : ⊥ = cc in bad)))

  pub questions_are_entered : QuestionsAreEntered R F
  questions_are_entered = λ job files view s phase plan values questions h at new old.
      frame R F job files view s phase values h (record view { values = values; asked = questions }) h.made
      (directories-stay R F job files view s phase values h (λ m e. let two = sym at ∙ e in let bad : ⊥ = cc in bad))
      (questioned R F job files view s phase values h plan questions at new old)
      (owners-stay R F job files view s phase values h (λ p e. let two = sym at ∙ e in let bad : ⊥ = cc in bad))
      (own-stay R F job files view s phase values h (λ p e. let two = sym at ∙ e in let bad : ⊥ = cc in bad))
      (told-stay R F job files view s phase values h)
      (gathered-stay R F job files view s phase values h (no-send R F job files view s phase values h (Some (AskOwners plan)) at (λ t e. let bad : ⊥ = cc in bad)))

  pub answers_are_entered : AnswersAreEntered R F
  answers_are_entered = λ job files view s phase plan values owners h at new old.
      frame R F job files view s phase values h (record view { values = values; owners = owners }) h.made
      (directories-stay R F job files view s phase values h (λ m e. let two = sym at ∙ e in let bad : ⊥ = cc in bad))
      (questions-stay R F job files view s phase values h (λ p e. let two = sym at ∙ e in let bad : ⊥ = cc in bad))
      (answered R F job files view s phase values h plan owners at new old)
      (own-stay R F job files view s phase values h (λ p e. let two = sym at ∙ e in let bad : ⊥ = cc in bad))
      (told-stay R F job files view s phase values h)
      (gathered-stay R F job files view s phase values h (no-send R F job files view s phase values h (Some (TellOwners plan)) at (λ t e. let bad : ⊥ = cc in bad)))

  pub lists_are_entered : ListsAreEntered R F
  lists_are_entered = λ job files view s phase plan values own h at new old.
      frame R F job files view s phase values h (record view { values = values; own = own }) h.made
      (directories-stay R F job files view s phase values h (λ m e. let two = sym at ∙ e in let bad : ⊥ = cc in bad))
      (questions-stay R F job files view s phase values h (λ p e. let two = sym at ∙ e in let bad : ⊥ = cc in bad))
      (owners-stay R F job files view s phase values h (λ p e. let two = sym at ∙ e in let bad : ⊥ = cc in bad))
      (listed R F job files view s phase values h plan own at new old)
      (told-stay R F job files view s phase values h)
      (gathered-stay R F job files view s phase values h (no-send R F job files view s phase values h (Some (SharePlan plan)) at (λ t e. let bad : ⊥ = cc in bad)))

  pub numbers_are_entered : NumbersAreEntered R F
  numbers_are_entered = λ job files view s phase k t values kept h at new old.
      let about = sent-about job k t phase at in
      frame R F job files view s phase values h (record view { values = values; gathered = kept }) h.made
      (directories-stay R F job files view s phase values h (λ m e. let two = sym about ∙ e in let bad : ⊥ = cc in bad))
      (questions-stay R F job files view s phase values h (λ p e. let two = sym about ∙ e in let bad : ⊥ = cc in bad))
      (owners-stay R F job files view s phase values h (λ p e. let two = sym about ∙ e in let bad : ⊥ = cc in bad))
      (own-stay R F job files view s phase values h (λ p e. let two = sym about ∙ e in let bad : ⊥ = cc in bad))
      (told-stay R F job files view s phase values h)
      (gathered-with R F job files view s phase values h k t kept at new old)

  pub end_is_entered : EndIsEntered R F
  end_is_entered = λ job files view s phase values h at.
      frame R F job files view s phase values h (record view { values = values }) h.made
      (directories-stay R F job files view s phase values h (λ m e. let two = sym at ∙ e in let bad : ⊥ = cc in bad))
      (questions-stay R F job files view s phase values h (λ p e. let two = sym at ∙ e in let bad : ⊥ = cc in bad))
      (owners-stay R F job files view s phase values h (λ p e. let two = sym at ∙ e in let bad : ⊥ = cc in bad))
      (own-stay R F job files view s phase values h (λ p e. let two = sym at ∙ e in let bad : ⊥ = cc in bad))
      (told-stay R F job files view s phase values h)
      (gathered-stay R F job files view s phase values h (no-send R F job files view s phase values h None at (λ t e. let bad : ⊥ = cc in bad)))

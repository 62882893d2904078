-- A worker enters a phase that sends numbers.
use Rattle.std.proofs.Common.{◌≡◌, ℕ, zero, suc, ◌<◌, inl, inr, true, false, cond, ◌&&◌, eqb, nat_lt, List, [], length, Option, None, Some, refl, sym, ap, ◌∙◌, subst, arith}
use Rattle.std.specs.Prelude.{is_some, slice_get}
use Rattle.std.specs.List.{filter, slice_index_or}
use Rattle.std.specs.Option.{option_map}
use Rattle.std.proofs.lemmas.Bool.{eq-eqb}
use Rattle.std.proofs.lemmas.Option.{same_Some}
use Rattle.scalar_laws.specs.Semiring.{Semiring}
use Rattle.scalar_laws.specs.Conversions.{Conversions}
use Rattle.tables.specs.Tables.{Table}
use Rattle.combine_modes.specs.Modes.{after_one}
use Rattle.map_core.specs.Plans.{PlanLists}
use Rattle.mm_text.specs.Reading.{File}
use Rattle.multivector.specs.Vectors.{VectorState}
use Rattle.outside.specs.declared.name.Name.{Name}
use Rattle.peers.specs.Protocols.{Letter, stands_in}
use Rattle.rank_phases.specs.Pairs.{from_others, to_others}
use Rattle.rank_phases.specs.Phases.{names_from, names_to}
use Rattle.rank_phases.specs.Stages.{Stage, CanEnter, entering}
use Rattle.model_defs.specs.declared.job.Job.{Job}
use Rattle.model_defs.specs.declared.phase.About.{About}
use Rattle.model_defs.specs.declared.phase.About.TheVariants.{SendNumbers, SharePlan}
use Rattle.model_defs.specs.declared.phase.Phase.{Phase}
use Rattle.model_defs.specs.declared.phase.Plan.{Plan}
use Rattle.model_defs.specs.declared.shape.Shape.{Shape}
use Rattle.model_defs.specs.declared.phase.Plan.TheVariants.{ImportPlan, ExportPlan, ColumnPlan, RowPlan}
use Rattle.model_defs.specs.Machine.{arrivals}
use Rattle.model_defs.specs.Makers.{value_count}
use Rattle.model_defs.specs.Letters.{letter_names}
use Rattle.model_defs.specs.Phases.{phases, send_phase}
use Rattle.model_defs.specs.Plans.{brought, sent_rows}
use Rattle.model_defs.specs.Shapes.{shape}
use Rattle.model_defs.specs.Stages.{is_fixed, rank_entries, stage_count, transfer_at}
use Rattle.model_defs.specs.declared.phase.Transfer.{Transfer}
use Rattle.model_defs.specs.Transfers.{from_owners, shared_plan}
use Rattle.plan_phases.specs.BookCalls.{IsSharedBook}
use Rattle.plan_phases.specs.BookStages.{IsMadePlan}
use Rattle.plan_phases.proofs.Passing.{books_pass_numbers}
use Rattle.rank_plans.specs.Books.{made_of}
use Rattle.rank_stages.specs.JobStages.{IsJobStage, about_at, target_so_far}
use Rattle.rank_stages.specs.LetterLaws.{sends_numbers}
use Rattle.rank_stages.specs.OwnerLaws.{plan_about}
use Rattle.rank_stages.specs.Views.{View}
use Rattle.rank_stages.proofs.Entering.{numbers_are_entered}
use Rattle.rank_stages.proofs.Prepared.{transfers_have_plans}
use Rattle.value_phases.specs.ValueKinds.{HasValueKinds, IsAssembled}
use Rattle.value_phases.specs.ValuePhases.{HasValuePhases, IsMapPlan, IsPlanOf, IsStructurePlan, is_of_structure}
use Rattle.rank_pieces.specs.Pieces.{AreOwnPieces}
use Rattle.rank_pieces.specs.declared.pieces.Piece.{Piece}
use Rattle.rank_makings.specs.declared.coming.Coming.{Coming}
use Rattle.rank_makings.specs.Beginnings.{CameBefore, CanBegin, IsAt}
use Rattle.rank_makings.specs.Comings.{AreHeard, IsComing, IsComingIn, Scene, first_gathered, rows_between}
use Rattle.rank_core.specs.declared.makings.Making.{Making}
use Rattle.rank_core.specs.declared.makings.Making.TheVariants.{Arriving, Arrived, Filled}
use Rattle.rank_core.specs.declared.worker.JobWorker.{JobWorker}
use Rattle.rank_core.specs.Makings.{IsMakingFor, IsSending}
use Rattle.rank_core.specs.Pieces.{made_count}
use Rattle.rank_core.specs.Workers.{IsJobWorker, IsReady}
use Rattle.rank_core.proofs.Counted.{count-at}
use Rattle.rank_core.proofs.Entered.{names-are, ready-values, values-now}
use Rattle.rank_core.proofs.SentNames.{row-awaits, row-posts}
use Rattle.rank_core.proofs.Turns.{sent-of}

some-made : {A : Type 0} (o : Option A) → is_some o ≡ true → (x : A) × (o ≡ Some x)
some-made None e = absurd (let bad : ⊥ = cc in bad)
some-made (Some x) e = (x, refl)

-- a plan between maps is shared with itself alone
same-import : (job : Job) (made : Plan) (source target : ℕ) → shared_plan job made ≡ shared_plan job (ImportPlan source target) → made ≡ ImportPlan source target
same-import job (ImportPlan a b) source target e = e
same-import job (ExportPlan a b) source target e = absurd (let bad : ⊥ = cc in bad)
same-import job (ColumnPlan v) source target e = absurd (let bad : ⊥ = cc in bad)
same-import job (RowPlan v) source target e = absurd (let bad : ⊥ = cc in bad)

same-export : (job : Job) (made : Plan) (source target : ℕ) → shared_plan job made ≡ shared_plan job (ExportPlan source target) → made ≡ ExportPlan source target
same-export job (ImportPlan a b) source target e = absurd (let bad : ⊥ = cc in bad)
same-export job (ExportPlan a b) source target e = e
same-export job (ColumnPlan v) source target e = absurd (let bad : ⊥ = cc in bad)
same-export job (RowPlan v) source target e = absurd (let bad : ⊥ = cc in bad)

pub same-map-plan : (job : Job) (made plan : Plan) → IsMapPlan job plan → shared_plan job made ≡ shared_plan job plan → made ≡ plan
same-map-plan job made plan maps e = elim maps.is [
  | inl is ↦ same-import job made maps.source maps.target (e ∙ ap (shared_plan job) is) ∙ sym is
  | inr is ↦ same-export job made maps.source maps.target (e ∙ ap (shared_plan job) is) ∙ sym is
]

map-plain : (plan : Plan) (job : Job) → IsMapPlan job plan → is_of_structure plan ≡ false
map-plain plan job maps = elim maps.is [ inl is ↦ ap is_of_structure is | inr is ↦ ap is_of_structure is ]

-- a row plan that shares the structure of value k, and that was made for a value, is that of k
row-of : (job : Job) (v made : ℕ) (k : ℕ) → (shape job k).structure ≡ k → IsPlanOf job v (RowPlan made) → shared_plan job (RowPlan made) ≡ shared_plan job (RowPlan k) → made ≡ k
row-of job v made k own of e = elim of [
  | inl maps ↦ elim maps.is [ inl is ↦ absurd (let bad : ⊥ = cc in bad) | inr is ↦ absurd (let bad : ⊥ = cc in bad) ]
  | inr x ↦ elim x.is [
    | inl is ↦ absurd (let bad : ⊥ = cc in bad)
    | inr is ↦
        let one : made ≡ v = cc in
        let mine : (shape job made).structure ≡ made = ap (λ u. (shape job u).structure) one ∙ x.structured.own ∙ sym one in
        let shared : (shape job made).structure ≡ (shape job k).structure = cc in
        sym mine ∙ shared ∙ own
  ]
]

row-plan-of : (job : Job) (v : ℕ) (made : Plan) (k : ℕ) → (shape job k).structure ≡ k → IsPlanOf job v made → shared_plan job made ≡ shared_plan job (RowPlan k) → made ≡ RowPlan k
row-plan-of job v (ImportPlan a b) k own of e = absurd (let bad : ⊥ = cc in bad)
row-plan-of job v (ExportPlan a b) k own of e = absurd (let bad : ⊥ = cc in bad)
row-plan-of job v (ColumnPlan w) k own of e = absurd (let bad : ⊥ = cc in bad)
row-plan-of job v (RowPlan w) k own of e = ap (λ u. RowPlan u) (row-of job v w k own of e)

module _ {S : Type 0} (R : Semiring S) (F : Conversions S) (worker : JobWorker S) (s : Stage) (ready : IsReady R F worker s) (phase : ℕ) (can : CanEnter s phase)
    (phased : HasValuePhases worker.job.value) (kinds : HasValueKinds worker.job.value) (k stage : ℕ) (sends : IsSending worker.job.value phase k stage) where
  abbrev job : Job
  job = worker.job.value

  pub sent : send_phase worker.job.value k stage ≡ Some phase
  sent = sent-of job phased phase k stage sends

  -- all values before it are there
  pub own-many : AreOwnPieces R F worker.job.value ready.files worker.me s.absorbed k worker.values.items
  own-many =
      subst (λ n. AreOwnPieces R F job ready.files worker.me s.absorbed n worker.values.items)
      (ap (λ n. made_count job (suc n)) can.next ∙ count-at job phased phase sends.phase sends.at ∙ sends.value) ready.values

  pub at-value : IsAt R F worker.job.value ready.files worker.me worker.share worker.shapes.items worker.values.items s.absorbed k
  at-value = record {
    input = ready.worker_of.input;
    phased = phased;
    kinds = kinds;
    shapes_are = ready.worker_of.shapes;
    below = subst (λ v. v < value_count job) sends.value (phased.below phase sends.phase sends.at);
    pieces_are = own-many;
  }

  pub known : stage < stage_count worker.job.value k
  known = subst (λ v. stage < stage_count job v) sends.value (phased.stages phase stage sends.phase sends.at sends.about)

  pub heard : AreHeard worker.job.value ready.files worker.me phase s.absorbed
  heard = λ m named to before.
      can.all_absorbed m (ap (λ p. stands_in p.names m) ready.book.stage.protocol ∙ named) (to ∙ sym ready.worker_of.rank) before

  made-plan : IsMapPlan worker.job.value (transfer_at worker.job.value k stage).plan
      → (lists : PlanLists) × (made_of worker.book (transfer_at worker.job.value k stage).plan ≡ Some lists) × IsMadePlan worker.job.value ready.files worker.me (transfer_at worker.job.value k stage).plan lists
  made-plan maps =
      let plan = (transfer_at job k stage).plan in
      let made = transfers_have_plans job ready.files k stage phase ready.book.valid ready.book.fitting sent in
      let same = same-map-plan job made.made plan maps made.shared in
      let before : made.earlier.phase < s.entered = (let b = made.earlier.before in let n = can.next in omega arith) in
      let there = some-made (made_of worker.book plan)
      (ready.plans made.earlier.phase plan (made.earlier.is_about ∙ ap (λ p. Some (SharePlan p)) same) (map-plain plan job maps) before) in
      (there.0, there.1, subst (λ p. IsMadePlan job ready.files p plan there.0) ready.worker_of.rank (ready.book.made plan there.0 there.1))

  shared-rows : IsAssembled worker.job.value k → IsSharedBook R F worker.job.value ready.files worker.book (RowPlan k)
  shared-rows assembled =
      let made = transfers_have_plans job ready.files k stage phase ready.book.valid ready.book.fitting sent in
      let one : stage ≡ 0 = (let many : stage_count job k ≡ 1 = ap length assembled.transfers_are in let low = known in omega arith) in
      let plan_is : (transfer_at job k stage).plan ≡ RowPlan k = (λ t. (transfer_at job k (one t)).plan) ∙ (λ t. (first-of (assembled.transfers_are t)).plan) in
      let x = of-about made.earlier.phase made.made made.earlier.is_about in
      let same = row-plan-of job x.0.value made.made k assembled.structured.own (phased.plans made.earlier.phase x.0 made.made x.1 (ap plan_about x.2)) (made.shared ∙ ap (shared_plan job) plan_is) in
      let before : made.earlier.phase < s.entered = (let b = made.earlier.before in let n = can.next in omega arith) in
      record {
        view = ready.view;
        stage = s;
        phase = made.earlier.phase;
        kept = ready.book;
        is = made.earlier.is_about ∙ ap (λ p. Some (SharePlan p)) same;
        left = record {
          entered = before;
          absorbed = λ m named to low. let b = made.earlier.before in let n = can.next in can.all_absorbed m named to (omega (arith, low, b, n));
        };
        of_structure = refl;
      }
    where
      first-of : List Transfer → Transfer
      first-of xs = slice_index_or xs 0 (from_owners (ImportPlan 0 0))

      of-about : (n : ℕ) (plan : Plan) → about_at job n ≡ Some (SharePlan plan) → (a : Phase) × (slice_get (phases job) n ≡ Some a) × (a.about ≡ SharePlan plan)
      of-about n plan e = by (slice_get (phases job) n) refl e
        where
          by : (o : Option Phase) → slice_get (phases job) n ≡ o → option_map (λ (p : Phase). p.about) o ≡ Some (SharePlan plan) → (a : Phase) × (slice_get (phases job) n ≡ Some a) × (a.about ≡ SharePlan plan)
          by None at is = absurd (let bad : ⊥ = cc in bad)
          by (Some a) at is = (a, at, same_Some a.about (SharePlan plan) is)

  -- what came at the stage before
  module _ (came : Option (VectorState S)) (none : worker.making ≡ None → came ≡ None) (some : (v : VectorState S) → worker.making ≡ Some (Arrived v) → came ≡ Some v) where
    abbrev Before : ℕ → Option (VectorState S) → Type 0
    Before t o = CameBefore R F worker.job.value ready.files worker.me worker.share worker.shapes.items worker.values.items s.absorbed k t o

    came-before : CameBefore R F worker.job.value ready.files worker.me worker.share worker.shapes.items worker.values.items s.absorbed k stage came
    came-before = by worker.making refl making_is
      where
        many : length worker.values.items ≡ k
        many = own-many.many

        making_is : IsMakingFor R F job ready.files worker.me worker.values.items s.absorbed phase k worker.making
        making_is =
            subst (λ n. IsMakingFor R F job ready.files worker.me worker.values.items s.absorbed n k worker.making) can.next
            (subst (λ v. IsMakingFor R F job ready.files worker.me worker.values.items s.absorbed s.entered v worker.making) many ready.making)

        by-none : (t : ℕ) → stage ≡ t → ((u : ℕ) → IsSending job phase k (suc u) → ⊥) → Before t None
        by-none zero e unsent = tt
        by-none (suc u) e unsent = absurd (unsent u (subst (IsSending job phase k) e sends))

        by : (making : Option (Making S)) → worker.making ≡ making → IsMakingFor R F job ready.files worker.me worker.values.items s.absorbed phase k making → Before stage came
        by None e is = subst (Before stage) (sym (none e)) (by-none stage refl is.0)
        by (Some (Arriving c)) e is = absurd is
        by (Some (Arrived v)) e (u, (x, have)) =
            let same_phase : x.phase ≡ sends.phase = same_Some x.phase sends.phase (sym x.at ∙ sends.at) in
            let about : SendNumbers (suc u) ≡ SendNumbers stage = sym x.about ∙ ap (λ p. p.about) same_phase ∙ sends.about in
            let one : suc u ≡ stage = cc in
            subst (Before stage) (sym (some v e)) (subst (λ t. Before t (Some v)) one have)
        by (Some (Filled fill)) e (x, filled) = absurd (let before = x.after.sent stage phase sent in omega arith)

    pub can-begin : CanBegin R F worker.job.value ready.files worker.me worker.share worker.shapes.items worker.values.items s.absorbed worker.book k stage came
    can-begin = record {
      at = at-value;
      known = known;
      phase = phase;
      sends = sent;
      heard = heard;
      me_is = ready.book.me ∙ ready.worker_of.rank;
      made = made-plan;
      shared = shared-rows;
      before = came-before;
    }

    -- as the code has it
    module _ (j : Job) (shapes : List Shape) (pieces : List (Piece S)) (job_is : j ≡ worker.job.value) (shapes_are : shapes ≡ worker.shapes.items) (pieces_are : pieces ≡ worker.values.items) where
      pub can-begin-as : CanBegin R F j ready.files worker.me worker.share shapes pieces s.absorbed worker.book k stage came
      can-begin-as =
          subst (λ a. CanBegin R F a ready.files worker.me worker.share shapes pieces s.absorbed worker.book k stage came) (sym job_is)
          (subst (λ a. CanBegin R F job ready.files worker.me worker.share a pieces s.absorbed worker.book k stage came) (sym shapes_are)
          (subst (λ a. CanBegin R F job ready.files worker.me worker.share worker.shapes.items a s.absorbed worker.book k stage came) (sym pieces_are) can-begin))

      pub begun-as : (c : Coming S)
          → ((files : List File) (given : List Letter) → CanBegin R F j files worker.me worker.share shapes pieces given worker.book k stage came
          → IsComing R F j files worker.me pieces given k stage (first_gathered R F j files worker.me pieces given k stage) c)
          → IsComing R F worker.job.value ready.files worker.me worker.values.items s.absorbed k stage (first_gathered R F worker.job.value ready.files worker.me worker.values.items s.absorbed k stage) c
      begun-as c begun =
          subst (λ a. IsComing R F a ready.files worker.me worker.values.items s.absorbed k stage (first_gathered R F a ready.files worker.me worker.values.items s.absorbed k stage) c) job_is
          (subst (λ a. IsComing R F j ready.files worker.me a s.absorbed k stage (first_gathered R F j ready.files worker.me a s.absorbed k stage) c) pieces_are
          (begun ready.files s.absorbed can-begin-as))

  -- ---- what is begun

  module _ (c : Coming S) (coming : IsComing R F worker.job.value ready.files worker.me worker.values.items s.absorbed k stage
      (first_gathered R F worker.job.value ready.files worker.me worker.values.items s.absorbed k stage) c) where
    abbrev table : Table S
    table = first_gathered R F worker.job.value ready.files worker.me worker.values.items s.absorbed k stage

    gathered : ℕ → ℕ → Table S
    gathered v u = cond (eqb v k && eqb u stage) table (ready.view.gathered v u)

    here : gathered k stage ≡ first_gathered R F worker.job.value ready.files worker.me worker.values.items s.absorbed k stage
    unfolding gathered
    here = (λ t. cond (eq-eqb k k refl t && eq-eqb stage stage refl t) table (ready.view.gathered k stage))

    elsewhere : (v u : ℕ) → (eqb v k && eqb u stage) ≡ false → gathered v u ≡ ready.view.gathered v u
    unfolding gathered
    elsewhere v u e = ap (λ b. cond b table (ready.view.gathered v u)) e

    abbrev combined : ℕ → Table S
    combined p i j =
        after_one R (target_so_far R F job ready.files p s.absorbed k stage).mode (is_fixed job k)
        ((target_so_far R F job ready.files p s.absorbed k stage).old i j)
        (brought job ready.files (transfer_at job k stage) (rank_entries R F job ready.files p (arrivals R F job ready.files p s.absorbed) k stage) p p i j)

    pub new-view : View S
    new-view = record ready.view { values = values-now R F worker s ready phase can; gathered = gathered }

    new-stage : IsJobStage R F worker.job.value ready.files new-view (entering s)
    unfolding new-view
    new-stage =
        numbers_are_entered R F job ready.files ready.view s phase k stage (values-now R F worker s ready phase can) gathered
        (record {
          valid = ready.book.valid;
          fitting = ready.book.fitting;
          stands_so = ready.book.stage;
          can_enter = can;
          made = ready-values R F worker s ready phase can;
        })
        sent (here ∙ ap combined (sym ready.worker_of.rank)) elsewhere

    about-is : (about : About) → about_at worker.job.value phase ≡ Some about → sends_numbers about ≡ true
    about-is about e =
        ap sends_numbers (same_Some about (SendNumbers stage) (sym e ∙ ap (option_map (λ x. x.about)) sends.at ∙ ap (λ a. Some a) sends.about))

    pub numbers-entered : IsJobWorker R F (record worker { making = Some (Arriving c) }) (entering s)
    unfolding new-view
    numbers-entered = record {
      files = ready.files;
      view = new-view;
      worker_of = record {
        input = ready.worker_of.input;
        rank = ready.worker_of.rank;
        shapes = ready.worker_of.shapes;
        shape_count = ready.worker_of.shape_count;
        phase_list = ready.worker_of.phase_list;
        phase_count = ready.worker_of.phase_count;
      };
      book =
          books_pass_numbers R F job ready.files worker.book ready.view new-view s phase ready.book can about-is ready.plans
          (record { directory = refl; asked = refl; owners = refl; own = refl; told = refl }) new-stage;
      values = ready.values;
      making =
          subst (λ v. (t : ℕ) × (IsSending job s.entered v t × IsComing R F job ready.files worker.me worker.values.items s.absorbed v t (gathered v t) c)) (sym own-many.many)
          (stage, (subst (λ n. IsSending job n k stage) (sym can.next) sends, subst (λ t. IsComing R F job ready.files worker.me worker.values.items s.absorbed k stage t c) (sym here) coming));
      counts = ready.counts;
    }

    -- ---- its letters

    pub scene : Scene S
    scene = record {
      job = worker.job.value;
      files = ready.files;
      me = worker.me;
      pieces = worker.values.items;
      given = s.absorbed;
      k = k;
      stage = stage;
      now = first_gathered R F worker.job.value ready.files worker.me worker.values.items s.absorbed k stage;
    }

    pub comes : IsComingIn R F scene c
    unfolding scene
    comes = coming

    pub ranks-are : scene.job.ranks ≡ worker.job.value.ranks
    unfolding scene
    ranks-are = refl

    names-so : s.protocol.names ≡ letter_names worker.job.value ready.files
    names-so = names-are R F worker s ready phase can

    pub numbers-posts : names_from s.protocol.names phase s.rank ≡ filter (λ m. nat_lt 0 (length (sent_rows worker.job.value ready.files (transfer_at worker.job.value k stage) worker.me m.to))) (to_others worker.job.value.ranks phase worker.me)
    numbers-posts =
        (λ t. names_from (names-so t) phase (ready.worker_of.rank t))
        ∙ row-posts job ready.files worker.me phase k stage sends ready.worker_of.input.rank

    pub numbers-awaits : names_to s.protocol.names phase s.rank ≡ filter (λ m. nat_lt 0 (length (sent_rows worker.job.value ready.files (transfer_at worker.job.value k stage) m.from worker.me))) (from_others worker.job.value.ranks phase worker.me)
    numbers-awaits =
        (λ t. names_to (names-so t) phase (ready.worker_of.rank t))
        ∙ row-awaits job ready.files worker.me phase k stage sends ready.worker_of.input.rank

    pub posts-as : (names : List Name) → names ≡ filter (λ m. nat_lt 0 (length (rows_between scene scene.me m.to))) (to_others worker.job.value.ranks phase worker.me)
        → names ≡ names_from s.protocol.names phase s.rank
    unfolding scene
    posts-as names is = is ∙ sym numbers-posts

    pub awaits-as : (names : List Name) → names ≡ filter (λ m. nat_lt 0 (length (rows_between scene m.from scene.me))) (from_others worker.job.value.ranks phase worker.me)
        → names ≡ names_to s.protocol.names phase s.rank
    unfolding scene
    awaits-as names is = is ∙ sym numbers-awaits

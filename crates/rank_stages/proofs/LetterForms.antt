-- The bytes of a job's letters.
use Rattle.std.proofs.Common.{◌≡◌, ℕ, zero, suc, ◌<◌, ◌+◌, ◌*◌, ◌^◌, Bool, true, false, cond, ◌&&◌, eqb, ltb, List, [], ◌∷◌, ◌++◌, map, filter, length, get_or, take, drop, Option, None, Some, refl, sym, ap, ap₂, subst, ◌∙◌, arith, lt-ltb, ltb-true, length-append, take-append-drop}
use Rattle.std.specs.Prelude.{slice_get}
use Rattle.std.specs.List.{list_all, list_any}
use Rattle.std.specs.Option.{unwrap_or}
use Rattle.std.proofs.lemmas.Bool.{eqb-true}
use Rattle.std.proofs.lemmas.List.{take_at}
use Rattle.scalar_laws.specs.Semiring.{Semiring}
use Rattle.scalar_laws.specs.Conversions.{Conversions, AreConversions}
use Rattle.map_core.specs.Layouts.{owner}
use Rattle.mm_text.specs.Reading.{File}
use Rattle.outside.specs.declared.name.Name.{Name}
use Rattle.outside.specs.Letters.{IsAlike, index_end}
use Rattle.peers.specs.Protocols.{Letter, only, stands_in}
use Rattle.letter_codec.specs.Letters.{IsLetter, HasForm, AreOwners, letter_bytes, index_part, word_of_bytes}
use Rattle.letter_codec.specs.declared.kind.Kind.{Kind}
use Rattle.letter_codec.specs.declared.kind.Kind.TheVariants.{Reg, Ask, Tell}
use Rattle.letter_codec.proofs.ReadLetters.{length-index_part, letter-count}
use Rattle.letter_codec.proofs.WrittenNumbers.{length-number_bytes}
use Rattle.rank_phases.specs.Stages.{Stage, CanAbsorb, CanSend}
use Rattle.model_defs.specs.declared.job.Job.{Job}
use Rattle.model_defs.specs.declared.phase.About.{About}
use Rattle.model_defs.specs.declared.phase.About.TheVariants.{RegisterMap, AskOwners, TellOwners, SharePlan, SendNumbers}
use Rattle.model_defs.specs.declared.phase.Phase.{Phase}
use Rattle.model_defs.specs.declared.phase.Plan.{Plan}
use Rattle.model_defs.specs.declared.phase.Plan.TheVariants.{ImportPlan, ExportPlan, ColumnPlan, RowPlan}
use Rattle.model_defs.specs.Limits.{most_size}
use Rattle.model_defs.specs.Maps.{is_uniform, layout_of}
use Rattle.model_defs.specs.Transfers.{owner_map, same_plan, shared_plan}
use Rattle.model_defs.specs.Phases.{Act, MakePlan, Send, acts, phase_for, find_phases, is_registered, plan_phases, phases, phases_from, send_kind, send_phase, share_kind}
use Rattle.model_defs.specs.Plans.{remote}
use Rattle.model_defs.specs.Stages.{rank_entries}
use Rattle.model_defs.specs.Letters.{asked, entries_about, letter_names, letter_places, letter_words, no_owner, owner_word, places_about, sent_places, words_about}
use Rattle.model_defs.specs.Machine.{arrivals, cells_at, index_length, job_protocol, letter_of_phase, letters_of, names_before, no_phase, numbers_about, place_bytes}
use Rattle.model_defs.specs.Valid.{IsValid, IsOwnerMap}
use Rattle.model_defs.proofs.Bounds.{entries-are-small}
use Rattle.model_defs.proofs.Decoding.{numbers-behind}
use Rattle.model_defs.proofs.Early.{earlier_letters}
use Rattle.model_defs.proofs.Filters.{both, and, all-both, among-filter, filter-ext, filter-filter, filter-passes}
use Rattle.model_defs.proofs.Firsts.{all-weaker}
use Rattle.model_defs.proofs.KnownShapes.{ranked}
use Rattle.rank_stages.specs.Views.{View}
use Rattle.rank_stages.specs.JobStages.{IsJobStage, about_at}
use Rattle.rank_stages.specs.LetterLaws.{sends_numbers, kind_about, row_words, IsRead, PhasesHaveKinds, PlanLettersHaveForm, RowsAreFew, PlansArePacked, PlansAreRead, NumbersArePacked, NumbersAreRead}
use Rattle.rank_stages.proofs.KnownPlans.{Each, each-append}
use Rattle.rank_stages.proofs.Owners.{indices_have_one_owner}
use Rattle.rank_stages.proofs.PhaseLetters.{about-known}
use Rattle.rank_stages.proofs.ShortLists.{entries-few, length-mapped, sent-few}
use Rattle.rank_stages.proofs.SendPhases.{IsSendPhase, send-phase-is, sent-about}

-- ---- letters without numbers

module _ (job : Job) (files : List File) (valid : IsValid job) where
  entries-fit : (k : ℕ) (about : About) (p q : ℕ) → list_all (λ w. ltb w 18446744073709551616) (entries_about job files k about p q) ≡ true
  entries-fit k about p q =
      all-weaker (λ w. ltb w most_size) (λ w. ltb w 18446744073709551616) (λ w e. lt-ltb w 18446744073709551616 (let l = ltb-true w most_size e in omega (arith, l)))
      (entries_about job files k about p q) (entries-are-small job files (phase_for k Reg about) (record { phase = 0; from = p; to = q }) valid)

  owners-fit : (m : ℕ) → IsOwnerMap job m → (gs : List ℕ) → AreOwners (map (owner_word job files m) gs)
  owners-fit m known [] = refl
  owners-fit m known (g ∷ gs) = and (ltb (owner_word job files m g) 4294967296) _ (by (owner (layout_of job m) g) refl) (owners-fit m known gs)
    where
      by : (o : Option ℕ) → owner (layout_of job m) g ≡ o → ltb (unwrap_or o no_owner) 4294967296 ≡ true
      by None e = refl
      by (Some q) e = let below = ranked job valid m known.0 g q e in let few = valid.limits.ranks in lt-ltb q 4294967296 (omega (arith, below, few))

  pub plan-letter : (n k : ℕ) (about : About) (p q : ℕ) → about_at job n ≡ Some about → sends_numbers about ≡ false → IsLetter (kind_about job k about) (entries_about job files k about p q) []
  plan-letter n k about p q at plain = record {
    few = (let l = entries-few job files valid k about p q plain in omega (arith, l));
    fit = entries-fit k about p q;
    count = 0;
    pieces = refl;
    form = by about at plain;
  }
    where
      share : (plan : Plan) (words : List ℕ) → HasForm (share_kind plan) words 0
      share (ImportPlan source target) words = refl
      share (ExportPlan source target) words = refl
      share (ColumnPlan v) words = refl
      share (RowPlan v) words = refl

      by : (about : About) → about_at job n ≡ Some about → sends_numbers about ≡ false → HasForm (kind_about job k about) (entries_about job files k about p q) 0
      by (RegisterMap m) at e = refl
      by (AskOwners plan) at e = refl
      by (TellOwners plan) at e = (refl, owners-fit (owner_map job plan) (indices_have_one_owner job n (owner_map job plan) (TellOwners plan) valid at refl) (asked job files plan q p))
      by (SharePlan plan) at e = share plan (remote job files plan p q)
      by (SendNumbers stage) at e = absurd (let bad : ⊥ = cc in bad)

pub plan_letters_have_form : PlanLettersHaveForm
plan_letters_have_form = λ job files n k about p q valid at plain. plan-letter job files valid n k about p q at plain

pub rows_are_few : RowsAreFew
rows_are_few = λ job files t p q valid. sent-few job files valid t p q

-- ---- the kinds

abbrev HasKind : Job → Phase → Type 0
HasKind job x = x.kind ≡ kind_about job x.value x.about

module _ (job : Job) where
  plan-kinds : (made : List Plan) (k : ℕ) (plan : Plan) → Each (HasKind job) (plan_phases job made k plan)
  plan-kinds made k plan = by (list_any (same_plan (shared_plan job plan)) made)
    where
      registered : (b : Bool) → Each (HasKind job) (cond b [] (phase_for k Reg (RegisterMap (owner_map job plan)) ∷ []) ++ phase_for k Ask (AskOwners plan) ∷ phase_for k Tell (TellOwners plan) ∷ [])
      registered true = (refl, (refl, tt))
      registered false = (refl, (refl, (refl, tt)))

      found : (b : Bool) → Each (HasKind job)
          (cond b [] (cond (is_registered job made (owner_map job plan)) [] (phase_for k Reg (RegisterMap (owner_map job plan)) ∷ []) ++ phase_for k Ask (AskOwners plan) ∷ phase_for k Tell (TellOwners plan) ∷ []))
      found true = tt
      found false = registered (is_registered job made (owner_map job plan))

      by : (b : Bool) → Each (HasKind job) (cond b [] (find_phases job made k plan ++ phase_for k (share_kind plan) (SharePlan plan) ∷ []))
      by true = tt
      by false = each-append (HasKind job) (find_phases job made k plan) _ (found (is_uniform job (owner_map job plan))) (refl, tt)

  kinds-from : (made : List Plan) (xs : List Act) → Each (HasKind job) (phases_from job made xs)
  kinds-from made [] = tt
  kinds-from made (MakePlan k plan ∷ xs) = each-append (HasKind job) (plan_phases job made k plan) _ (plan-kinds made k plan) (kinds-from (made ++ shared_plan job plan ∷ []) xs)
  kinds-from made (Send k t ∷ xs) = (refl, kinds-from made xs)

each-at : (P : Phase → Type 0) (xs : List Phase) (n : ℕ) (x : Phase) → Each P xs → slice_get xs n ≡ Some x → P x
each-at P [] n x h e = absurd (let bad : ⊥ = cc in bad)
each-at P (y ∷ ys) zero x h e = let same : y ≡ x = cc in subst P same h.0
each-at P (y ∷ ys) (suc n) x h e = each-at P ys n x h.1 e

pub phases_have_kinds : PhasesHaveKinds
phases_have_kinds = λ job n phase e. each-at (HasKind job) (phases job) n phase (kinds-from job [] (acts job)) e

pub phase-at : (xs : List Phase) (n : ℕ) (d x : Phase) → slice_get xs n ≡ Some x → get_or xs n d ≡ x
phase-at [] n d x e = absurd (let bad : ⊥ = cc in bad)
phase-at (y ∷ ys) zero d x e = cc
phase-at (y ∷ ys) (suc n) d x e = phase-at ys n d x e

-- ---- packing and reading

index-is : (bytes : List ℕ) → index_end bytes ≡ 9 + 8 * word_of_bytes (take 8 (drop 1 bytes))
unfolding index_end word_of_bytes
index-is bytes = refl

-- what is alike to a letter with these words
alike-words : (kind : Kind) (words numbers given : List ℕ) → length words < 2 ^ 64 → IsAlike (letter_bytes kind words numbers) given
    → (others : List ℕ) × (given ≡ letter_bytes kind words others) × (length others ≡ length numbers)
alike-words kind words numbers given few alike = (others, whole, long)
  where
    end : index_end (letter_bytes kind words numbers) ≡ length (index_part kind words)
    end = index-is (letter_bytes kind words numbers) ∙ ap (λ n. 9 + 8 * n) (letter-count kind words numbers few) ∙ sym (length-index_part kind words)

    first : take (length (index_part kind words)) given ≡ index_part kind words
    first = ap (λ n. take n given) (sym end) ∙ alike.same_index ∙ ap (λ n. take n (letter_bytes kind words numbers)) end ∙ take_at (index_part kind words) numbers (length (index_part kind words)) refl

    others : List ℕ
    others = drop (length (index_part kind words)) given

    whole : given ≡ index_part kind words ++ others
    whole = sym (take-append-drop (length (index_part kind words)) given) ∙ ap (λ h. h ++ others) first

    long : length others ≡ length numbers
    long =
        let split = ap length whole ∙ length-append (index_part kind words) others in
        let all : length given ≡ length (index_part kind words) + length numbers = alike.same_length ∙ length-append (index_part kind words) numbers in
        omega (arith, split, all)

none-left : (xs : List ℕ) → length xs ≡ 0 → xs ≡ []
none-left [] e = refl
none-left (x ∷ xs) e = absurd (omega (arith, e))

module _ {S : Type 0} (R : Semiring S) (F : Conversions S) (job : Job) (files : List File) where
  plain-letter : (phase : Phase) (name : Name) (given : List Letter) → sends_numbers phase.about ≡ false
      → letter_of_phase R F job files phase name given ≡ letter_bytes phase.kind (entries_about job files phase.value phase.about name.from name.to) []
  plain-letter phase name given plain = by phase.about plain
    where
      by : (about : About) → sends_numbers about ≡ false
          → letter_bytes phase.kind (words_about job files phase.kind phase.value about name.from name.to)
          (numbers_about R F job files phase.value about name.from (places_about job files phase.value about name.from name.to) given)
          ≡ letter_bytes phase.kind (entries_about job files phase.value about name.from name.to) []
      by (RegisterMap m) e = refl
      by (AskOwners plan) e = refl
      by (TellOwners plan) e = refl
      by (SharePlan plan) e = refl
      by (SendNumbers stage) e = absurd (let bad : ⊥ = cc in bad)

  pub packed : (name : Name) (phase : Phase) (given : List Letter) → slice_get (phases job) name.phase ≡ Some phase → sends_numbers phase.about ≡ false
      → (job_protocol R F job files).content name given ≡ letter_bytes phase.kind (entries_about job files phase.value phase.about name.from name.to) []
  packed name phase given at plain =
      ap (λ x. letter_of_phase R F job files x name (only (names_before name (letter_names job files)) given)) (phase-at (phases job) name.phase no_phase phase at)
      ∙ plain-letter phase name (only (names_before name (letter_names job files)) given) plain

  -- of a transfer
  sent-letter : (name : Name) (k t : ℕ) (given : List Letter) → send_phase job k t ≡ Some name.phase
      → (job_protocol R F job files).content name given
      ≡ letter_bytes (send_kind job k) (row_words job files k t name.from name.to)
      (place_bytes R F (rank_entries R F job files name.from (arrivals R F job files name.from (only (names_before name (letter_names job files)) given)) k t) (sent_places job files k t name.from name.to))
  sent-letter name k t given e =
      ap (λ x. letter_of_phase R F job files x name (only (names_before name (letter_names job files)) given)) (phase-at (phases job) name.phase no_phase s.phase s.is ∙ whole)
    where
      s : IsSendPhase job k t name.phase
      s = send-phase-is job k t name.phase e

      kind : s.phase.kind ≡ send_kind job k
      kind = phases_have_kinds job name.phase s.phase s.is ∙ ap₂ (kind_about job) s.value s.about

      whole : s.phase ≡ record { kind = send_kind job k; value = k; about = SendNumbers t }
      whole = λ i. record { kind = kind i; value = s.value i; about = s.about i }

  module _ (view : View S) (s : Stage) (so : IsJobStage R F job files view s) where
    -- the letters before one of the rank's are all those of earlier phases
    all-before : (name : Name) → name.from ≡ s.rank → name.phase < s.phases → (m : ℕ) → m < name.phase
        → letters_of m s.rank (only (names_before name (letter_names job files)) s.absorbed) ≡ letters_of m s.rank s.absorbed
    all-before name from known m less =
        filter-filter at kept s.absorbed ∙ filter-ext _ _ (λ l. and-swap (kept l) (at l)) s.absorbed ∙ sym (filter-filter kept at s.absorbed)
        ∙ keeps (letters_of m s.rank s.absorbed) every
      where
        kept : Letter → Bool
        kept l = stands_in (names_before name (letter_names job files)) l.0

        at : Letter → Bool
        at l = (eqb l.0.phase m) && (eqb l.0.to s.rank)

        and-swap : (a b : Bool) → (a && b) ≡ (b && a)
        and-swap true true = refl
        and-swap true false = refl
        and-swap false true = refl
        and-swap false false = refl

        keeps : (ls : List Letter) → list_all kept ls ≡ true → filter kept ls ≡ ls
        keeps [] e = refl
        keeps (l ∷ ls) e = let t = both (kept l) (list_all kept ls) e in ap (λ b. cond b (l ∷ filter kept ls) (filter kept ls)) t.0 ∙ ap (λ xs. l ∷ xs) (keeps ls t.1)

        named : Letter → Bool
        named l = stands_in (letter_names job files) l.0

        all-named : list_all named (letters_of m s.rank s.absorbed) ≡ true
        all-named = ap (λ p. list_all (λ (l : Letter). stands_in p.names l.0) (letters_of m s.rank s.absorbed)) (sym so.protocol) ∙ so.named m (omega (arith, less, known))

        here : (l : Letter) → (named l && at l) ≡ true → kept l ≡ true
        here l e =
            let t = both (named l) (at l) e in
            let u = both (eqb l.0.phase m) (eqb l.0.to s.rank) t.1 in
            among-filter (λ n. (eqb n.to name.from) && ltb n.phase name.phase) l.0 (letter_names job files) t.0
            (and (eqb l.0.to name.from) (ltb l.0.phase name.phase) (ap (eqb l.0.to) from ∙ u.1) (lt-ltb l.0.phase name.phase (let same = eqb-true l.0.phase m u.0 in omega (arith, same, less))))

        every : list_all kept (letters_of m s.rank s.absorbed) ≡ true
        every = all-weaker (λ l. named l && at l) kept here (letters_of m s.rank s.absorbed) (all-both named at (letters_of m s.rank s.absorbed) all-named (filter-passes at s.absorbed))

    pub numbers-packed : (name : Name) (k t : ℕ) → CanSend s name → send_phase job k t ≡ Some name.phase
        → s.protocol.content name s.absorbed
        ≡ letter_bytes (send_kind job k) (row_words job files k t s.rank name.to)
        (place_bytes R F (rank_entries R F job files s.rank (arrivals R F job files s.rank s.absorbed) k t) (sent_places job files k t s.rank name.to))
    numbers-packed name k t can e =
        ap (λ p. p.content name s.absorbed) so.protocol ∙ sent-letter name k t s.absorbed e
        ∙ ap (λ p. letter_bytes (send_kind job k) (row_words job files k t p name.to)
        (place_bytes R F (rank_entries R F job files p (arrivals R F job files p (only (names_before name (letter_names job files)) s.absorbed)) k t) (sent_places job files k t p name.to))) can.from
        ∙ ap (λ entries. letter_bytes (send_kind job k) (row_words job files k t s.rank name.to) (place_bytes R F entries (sent_places job files k t s.rank name.to)))
        (earlier_letters R F job files s.rank k t name.phase (only (names_before name (letter_names job files)) s.absorbed) s.absorbed e
        (all-before name can.from (let l = (about-known (phases job) name.phase no_phase (SendNumbers t) (sent-about job k t name.phase e)).0 in let many = so.phases in omega (arith, l, many))))

    pub plans-read : IsValid job → (name : Name) (bytes : List ℕ) (phase : Phase) → CanAbsorb s name bytes → slice_get (phases job) name.phase ≡ Some phase → sends_numbers phase.about ≡ false
        → bytes ≡ letter_bytes phase.kind (entries_about job files phase.value phase.about name.from s.rank) []
    plans-read valid name bytes phase can at plain =
        let alike : IsAlike (letter_bytes phase.kind (entries_about job files phase.value phase.about name.from name.to) []) bytes =
        subst (λ posted. IsAlike posted bytes) (ap (λ p. p.content name can.is_letter.sender_given) so.protocol ∙ packed name phase can.is_letter.sender_given at plain) can.is_letter.alike in
        let few = entries-few job files valid phase.value phase.about name.from name.to plain in
        let read = alike-words phase.kind (entries_about job files phase.value phase.about name.from name.to) [] bytes (omega (arith, few)) alike in
        read.1 ∙ ap (letter_bytes phase.kind (entries_about job files phase.value phase.about name.from name.to)) (none-left read.0 read.2)
        ∙ ap (λ p. letter_bytes phase.kind (entries_about job files phase.value phase.about name.from p) []) can.is_letter.to

    pub numbers-read : AreConversions F → (name : Name) (bytes : List ℕ) (k t : ℕ) → CanAbsorb s name bytes → send_phase job k t ≡ Some name.phase
        → length (row_words job files k t name.from name.to) < 2 ^ 64 → IsRead R F job files name bytes k t
    numbers-read laws name bytes k t can e few = record {
      numbers = read.0;
      whole = read.1;
      many = read.2 ∙ length-number_bytes F laws _ ∙ ap (λ n. 32 * n) (length-mapped _ (sent_places job files k t name.from name.to));
      cells = ap (λ x. cells_at F (letter_places job files x name) (drop (index_length (letter_words job files x name)) bytes)) phase
          ∙ ap (λ bs. cells_at F (sent_places job files k t name.from name.to) (drop (index_length (row_words job files k t name.from name.to)) bs)) read.1
          ∙ ap (cells_at F (sent_places job files k t name.from name.to)) (numbers-behind (send_kind job k) (row_words job files k t name.from name.to) read.0);
    }
      where
        sent : IsSendPhase job k t name.phase
        sent = send-phase-is job k t name.phase e

        phase : get_or (phases job) name.phase no_phase ≡ record { kind = send_kind job k; value = k; about = SendNumbers t }
        phase =
            phase-at (phases job) name.phase no_phase sent.phase sent.is
            ∙ (λ i. record { kind = (phases_have_kinds job name.phase sent.phase sent.is ∙ ap₂ (kind_about job) sent.value sent.about) i; value = sent.value i; about = sent.about i })

        read : (others : List ℕ) × (bytes ≡ letter_bytes (send_kind job k) (row_words job files k t name.from name.to) others)
            × (length others ≡ length (place_bytes R F (rank_entries R F job files name.from (arrivals R F job files name.from (only (names_before name (letter_names job files)) can.is_letter.sender_given)) k t) (sent_places job files k t name.from name.to)))
        read =
            alike-words (send_kind job k) (row_words job files k t name.from name.to) _ bytes few
            (subst (λ posted. IsAlike posted bytes) (ap (λ p. p.content name can.is_letter.sender_given) so.protocol ∙ sent-letter name k t can.is_letter.sender_given e) can.is_letter.alike)

pub plans_are_packed : {S : Type 0} (R : Semiring S) (F : Conversions S) → PlansArePacked R F
plans_are_packed R F = λ job files name phase given at plain. packed R F job files name phase given at plain

pub plans_are_read : {S : Type 0} (R : Semiring S) (F : Conversions S) → PlansAreRead R F
plans_are_read R F = λ job files view s name bytes phase valid so can at plain. plans-read R F job files view s so valid name bytes phase can at plain

pub numbers_are_packed : {S : Type 0} (R : Semiring S) (F : Conversions S) → NumbersArePacked R F
numbers_are_packed R F = λ job files view s name k t so can e. numbers-packed R F job files view s so name k t can e

pub numbers_are_read : {S : Type 0} (R : Semiring S) {F : Conversions S} → AreConversions F → NumbersAreRead R F
numbers_are_read R {F} laws = λ job files view s name bytes k t so can e few. numbers-read R F job files view s so laws name bytes k t can e few

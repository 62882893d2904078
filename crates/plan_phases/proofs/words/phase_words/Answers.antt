use Rattle.std.proofs.lemmas.Result.{IfOk-weaker}
use Rattle.plan_phases.proofs.WordsSent.{sent-asked, sent-directory, sent-registered, sent-shared, sent-told}
use Rattle.plan_phases.proofs.words.phase_words.Goals as goal

pub tell_words-requires-clause-known_map : goal.tell_words-requires-clause-known_map
tell_words-requires-clause-known_map g c =
    sent-directory g.S.Scalar.semiring g.S.Scalar.conversions c.args.job.now c.requires.sends.0 c.args.book.now c.args.about c.args.to c.requires.sends.1 c.owner_map.result
    c.in-TellOwners.plan c.in-TellOwners.is (c.owner_map.ensures.map c.args.job.now c.requires.shapes)

pub returns-in-RegisterMap : goal.returns-in-RegisterMap
returns-in-RegisterMap g c =
    record {
      words = IfOk-weaker c.registered_words.result _ _
          (λ words same. λ files k e.
          sent-registered g.S.Scalar.semiring g.S.Scalar.conversions c.args.job.now files c.args.book.now c.args.about c.args.to e c.in-RegisterMap.map k c.in-RegisterMap.is words.items (same files k))
          c.registered_words.ensures.words;
    }

pub returns-in-AskOwners : goal.returns-in-AskOwners
returns-in-AskOwners g c =
    record {
      words = IfOk-weaker c.ask_words.result _ _
          (λ words same. λ files k e.
          sent-asked g.S.Scalar.semiring g.S.Scalar.conversions c.args.job.now files c.args.book.now c.args.about c.args.to e c.in-AskOwners.plan k c.in-AskOwners.is words.items same)
          c.ask_words.ensures.words;
    }

pub returns-in-TellOwners : goal.returns-in-TellOwners
returns-in-TellOwners g c =
    record {
      words = IfOk-weaker c.tell_words.result _ _
          (λ words same. λ files k e.
          sent-told g.S.Scalar.semiring g.S.Scalar.conversions c.args.job.now files c.args.book.now c.args.about c.args.to e c.owner_map.result k c.in-TellOwners.plan c.in-TellOwners.is
          (c.owner_map.ensures.map c.args.job.now c.requires.shapes) words.items same)
          c.tell_words.ensures.words;
    }

pub returns-in-SharePlan : goal.returns-in-SharePlan
returns-in-SharePlan g c =
    record {
      words = IfOk-weaker c.share_words.result _ _
          (λ words same. λ files k e.
          sent-shared g.S.Scalar.semiring g.S.Scalar.conversions c.args.job.now files c.args.book.now c.args.about c.args.to e c.in-SharePlan.plan k c.in-SharePlan.is words.items same)
          c.share_words.ensures.words;
    }

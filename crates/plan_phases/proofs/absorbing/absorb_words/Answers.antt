use Rattle.plan_phases.proofs.AbsorbedBook.{ask-absorbed, register-absorbed, register-home, register-new, share-absorbed, tell-absorbed, tell-each}
use Rattle.plan_phases.proofs.AbsorbedResults.{all_four, all_three}
use Rattle.plan_phases.proofs.absorbing.absorb_words.Goals as goal

pub absorb_register-requires-clause-home : goal.absorb_register-requires-clause-home
absorb_register-requires-clause-home g c =
    register-home g.S.Scalar.semiring g.S.Scalar.conversions c.args.job.now c.requires.absorbs.0 c.args.book.now c.args.about c.args.from c.args.words.now c.requires.absorbs.1
    c.in-RegisterMap.map c.in-RegisterMap.is

pub absorb_register-requires-clause-new : goal.absorb_register-requires-clause-new
absorb_register-requires-clause-new g c =
    register-new g.S.Scalar.semiring g.S.Scalar.conversions c.args.job.now c.requires.absorbs.0 c.args.book.now c.args.about c.args.from c.args.words.now c.requires.absorbs.1
    c.in-RegisterMap.map c.in-RegisterMap.is

pub absorb_tell-requires-clause-each : goal.absorb_tell-requires-clause-each
absorb_tell-requires-clause-each g c =
    tell-each g.S.Scalar.semiring g.S.Scalar.conversions c.args.job.now c.requires.absorbs.0 c.args.book.now c.args.about c.args.from c.args.words.now c.requires.absorbs.1
    c.in-TellOwners.plan c.in-TellOwners.is

pub returns-in-RegisterMap : goal.returns-in-RegisterMap
returns-in-RegisterMap g c =
    let called = c.absorb_register in
    record {
      absorbed = all_four called.result called.ensures.directory called.ensures.other_directories called.ensures.sizes called.ensures.plans
          (λ directory others sizes plans. λ files e.
          register-absorbed g.S.Scalar.semiring g.S.Scalar.conversions c.args.job.now files c.args.book.now c.args.about c.args.from c.args.words.now e
          c.in-RegisterMap.map c.in-RegisterMap.is called.new.self directory others sizes plans called.ensures.me called.ensures.ranks);
    }

pub returns-in-AskOwners : goal.returns-in-AskOwners
returns-in-AskOwners g c =
    let called = c.absorb_ask in
    record {
      absorbed = all_three called.result called.ensures.asked called.ensures.others called.ensures.stays
          (λ asks others stays. λ files e.
          ask-absorbed g.S.Scalar.semiring g.S.Scalar.conversions c.args.job.now files c.args.book.now c.args.about c.args.from c.args.words.now e
          c.in-AskOwners.plan c.in-AskOwners.is called.new.self asks others stays);
    }

pub returns-in-TellOwners : goal.returns-in-TellOwners
returns-in-TellOwners g c =
    let called = c.absorb_tell in
    record {
      absorbed = all_three called.result called.ensures.owners called.ensures.others called.ensures.stays
          (λ told others stays. λ files e.
          tell-absorbed g.S.Scalar.semiring g.S.Scalar.conversions c.args.job.now files c.args.book.now c.args.about c.args.from c.args.words.now e
          c.in-TellOwners.plan c.in-TellOwners.is called.new.self told others stays);
    }

pub returns-in-SharePlan : goal.returns-in-SharePlan
returns-in-SharePlan g c =
    let called = c.absorb_share in
    record {
      absorbed = all_three called.result called.ensures.told called.ensures.others called.ensures.stays
          (λ tells others stays. λ files e.
          share-absorbed g.S.Scalar.semiring g.S.Scalar.conversions c.args.job.now files c.args.book.now c.args.about c.args.from c.args.words.now e
          c.in-SharePlan.plan c.in-SharePlan.is called.new.self tells others stays);
    }

-- A letter is absorbed by what comes.
use Rattle.rank_makings.proofs.Absorbed.{after-cells, after-rows, letter-of-cells, letter-of-rows, on-any, on-each}
use Rattle.rank_makings.proofs.coming.Coming.absorb.Goals as goal

pub absorb-requires-clause-letter : goal.absorb-requires-clause-letter
absorb-requires-clause-letter g c =
    let l = c.requires.letter in
    letter-of-cells g.S.Scalar.semiring g.S.Scalar.conversions l.0 c.args.self.now l.1.1.0 c.in-Cells.c c.in-Cells.is l.1.0 c.args.bytes.now c.args.from l.1.1.1.0 l.1.1.1.1

pub absorb-requires-in-Rows-clause-letter : goal.absorb-requires-in-Rows-clause-letter
absorb-requires-in-Rows-clause-letter g c =
    let l = c.requires.letter in
    letter-of-rows g.S.Scalar.semiring g.S.Scalar.conversions l.0 c.args.self.now l.1.1.0 c.in-Rows.c c.in-Rows.is l.1.0 c.args.bytes.now c.args.from l.1.1.1.0 l.1.1.1.1

pub returns-in-Cells : goal.returns-in-Cells
returns-in-Cells g c = record {
  absorbed = on-any c.absorb.result (λ e name coming same letter.
      after-cells g.S.Scalar.semiring g.S.Scalar.conversions e c.args.self.now coming c.in-Cells.c c.in-Cells.is name c.args.bytes.now c.args.from same letter
      c.absorb.new.self c.absorb.ensures.plan c.absorb.ensures.mode c.absorb.ensures.shape c.absorb.ensures.rows);
}

pub returns-in-Rows : goal.returns-in-Rows
returns-in-Rows g c = record {
  absorbed = on-each c.absorb-in-Rows.result c.absorb-in-Rows.ensures.table (λ combined e name coming same letter.
      after-rows g.S.Scalar.semiring g.S.Scalar.conversions e c.args.self.now coming c.in-Rows.c c.in-Rows.is name c.args.bytes.now c.args.from same letter
      c.absorb-in-Rows.new.self c.absorb-in-Rows.ensures.plan c.absorb-in-Rows.ensures.mode c.absorb-in-Rows.ensures.rows combined);
}

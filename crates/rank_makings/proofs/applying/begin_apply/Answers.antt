use Rattle.std.proofs.Common.{sym, ◌∙◌}
use Rattle.rank_makings.proofs.ApplyAnswers.{copies-first, matrix-named, shape-listed, sums-first, sums-second, vector-named}
use Rattle.rank_makings.proofs.applying.begin_apply.Goals as goal

pub matrix_at-m-requires : goal.matrix_at-m-requires
matrix_at-m-requires g c = record { matrix = matrix-named c.requires.can.1.1.at c.requires.kind (c.operands_of-said.ensures.said c.requires.kind) }

pub bounds-shapes-k : goal.bounds-shapes-k
bounds-shapes-k g c = shape-listed c.requires.can.1.1.at c.args.k c.requires.kind.below

pub vector_at-x-requires : goal.vector_at-x-requires
vector_at-x-requires g c = record { vector = vector-named c.requires.can.1.1.at c.requires.kind (c.operands_of-said.ensures.said c.requires.kind) }

pub begin_sums-requires : goal.begin_sums-requires
begin_sums-requires g c = record {
  sums = (
    c.requires.can.0,
    (
      c.args.pieces.now,
      (
        c.requires.can.1.0,
        (
          c.args.k,
          (
            c.args.stage,
            sums-second c.requires.can.1.1 c.requires.kind (c.operands_of-said.ensures.said c.requires.kind) c.matrix_at-m.ensures.at c.in-Some.near c.in-Some.is _,
          ),
        ),
      ),
    ),
  );
}

pub begin_copies-requires : goal.begin_copies-requires
begin_copies-requires g c = record {
  copies = (
    c.args.job.now,
    (
      c.requires.can.0,
      (
        c.args.me,
        (
          c.args.pieces.now,
          (
            c.requires.can.1.0,
            (
              c.args.k,
              (
                c.args.stage,
                copies-first c.requires.can.1.1 c.requires.kind (c.operands_of-said.ensures.said c.requires.kind) c.matrix_at-m.ensures.at c.in-None.is c.vector_at-x.result.now c.vector_at-x.ensures.at
                    (sym c.starts_with_copies.ensures.copies ∙ c.if-starts_with_copies.true),
              ),
            ),
          ),
        ),
      ),
    ),
  );
}

pub begin_sums-requires-in-None : goal.begin_sums-requires-in-None
begin_sums-requires-in-None g c = record {
  sums = (
    c.requires.can.0,
    (
      c.args.pieces.now,
      (
        c.requires.can.1.0,
        (
          c.args.k,
          (
            c.args.stage,
            sums-first c.requires.can.1.1 c.requires.kind (c.operands_of-said.ensures.said c.requires.kind) c.matrix_at-m.ensures.at c.in-None.is c.vector_at-x.result.now c.vector_at-x.ensures.at
                (sym c.starts_with_copies.ensures.copies ∙ c.if-starts_with_copies.false) _,
          ),
        ),
      ),
    ),
  );
}

pub returns-in_ok-begin_sums-in-Some : goal.returns-in_ok-begin_sums-in-Some
returns-in_ok-begin_sums-in-Some g c = record {
  begun = λ files given can. c.in_ok-begin_sums-in-Some.ensures.begun files c.args.pieces.now given c.args.k c.args.stage
      (sums-second can c.requires.kind (c.operands_of-said.ensures.said c.requires.kind) c.matrix_at-m.ensures.at c.in-Some.near c.in-Some.is _);
}

pub returns-then-starts_with_copies : goal.returns-then-starts_with_copies
returns-then-starts_with_copies g c = record {
  begun = λ files given can. c.in_ok-copies-in-None.ensures.begun c.args.job.now files c.args.me c.args.pieces.now given c.args.k c.args.stage
      (copies-first can c.requires.kind (c.operands_of-said.ensures.said c.requires.kind) c.matrix_at-m.ensures.at c.in-None.is c.vector_at-x.result.now c.vector_at-x.ensures.at
      (sym c.starts_with_copies.ensures.copies ∙ c.if-starts_with_copies.true));
}

pub returns-in_ok-sums-in-None : goal.returns-in_ok-sums-in-None
returns-in_ok-sums-in-None g c = record {
  begun = λ files given can. c.in_ok-sums-in-None.ensures.begun files c.args.pieces.now given c.args.k c.args.stage
      (sums-first can c.requires.kind (c.operands_of-said.ensures.said c.requires.kind) c.matrix_at-m.ensures.at c.in-None.is c.vector_at-x.result.now c.vector_at-x.ensures.at
      (sym c.starts_with_copies.ensures.copies ∙ c.if-starts_with_copies.false) _);
}

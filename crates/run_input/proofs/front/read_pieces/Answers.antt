use Rattle.std.proofs.Common.{◌≡◌, ◌<◌, ◌+◌, ◌∙◌, arith, length, take}
use Rattle.std.proofs.lemmas.List.{length-take}
use Rattle.mm_text.proofs.PieceLemmas.{front_ends, front_full, front_more}
use Rattle.run_input.proofs.front.read_pieces.Goals as goal

pub returns-then-count-eq0-clause-bytes : goal.returns-then-count-eq0-clause-bytes
returns-then-count-eq0-clause-bytes g c = λ source told.
    let read = c.in_ok-count.ensures.read source (c.loop-bytes.invariant.told ∙ told) in
    let some : 0 < length (take c.min-room.result c.loop-bytes.piece) =
    omega (arith, length-take c.min-room.result c.loop-bytes.piece, c.loop-bytes.auto.piece, c.requires.some, c.min-room.ensures, c.loop-bytes-test.true) in
    front_ends (source c.args.name.now) c.loop-bytes.bytes.items read.0 _ (c.args.most + 1) c.in_ok-count.count _
    (c.loop-bytes.invariant.front source told) read.1 c.if-count-eq0.true some c.loop-bytes.invariant.most read.2

pub loop-bytes-preserved : goal.loop-bytes-preserved
loop-bytes-preserved g c =
    let len : c.len-in-loop-bytes.result ≡ length c.loop-bytes.bytes.items = omega (arith, c.loop-bytes.bytes.ok.0, c.len-in-loop-bytes.ensures) in
    record {
      told = c.in_ok-count.ensures.reads.same_files ∙ c.loop-bytes.invariant.told;
      no_fault = λ n. c.in_ok-count.ensures.reads.no_fault (λ e. cc) n ∙ c.loop-bytes.invariant.no_fault n;
      most = omega (arith, c.in_ok-count.ensures.length, c.in_ok-count.ensures.within, length-take c.min-room.result c.loop-bytes.piece, c.min-room.ensures, len, c.loop-bytes-test.true);
      front = λ source told.
          let read = c.in_ok-count.ensures.read source (c.loop-bytes.invariant.told ∙ told) in
          front_more (source c.args.name.now) c.loop-bytes.bytes.items read.0 _ c.in_ok-count.count _
          (c.loop-bytes.invariant.front source told) read.1 read.2;
    }

pub returns-clause-bytes : goal.returns-clause-bytes
returns-clause-bytes g c = λ source told.
    let full : length c.loop-bytes.bytes.items ≡ c.args.most + 1 = omega (arith, c.loop-bytes.bytes.ok.0, c.len.ensures, c.loop-bytes-test.false, c.loop-bytes.invariant.most) in
    front_full (source c.args.name.now) c.loop-bytes.bytes.items (c.args.most + 1) (c.loop-bytes.invariant.front source told) (omega arith) full

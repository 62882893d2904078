use Rattle.std.proofs.Common.{◌∙◌}
use Rattle.outside.proofs.Names.{IsSome-posted}
use Rattle.outside.proofs.tests.pass.Goals as goal

pub take-requires : goal.take-requires
take-requires g c = record {
  posted = IsSome-posted (g.W.Wire.posted c.args.wire.now) (g.W.Wire.posted c.post.new.self) c.args.name c.args.bytes.now
      c.in_ok-post.ensures.posts;
}

pub take-requires-2 : goal.take-requires-2
take-requires-2 g c = record {
  posted = IsSome-posted (g.W.Wire.posted c.args.wire.now) (g.W.Wire.posted c.take.new.self) c.args.name c.args.bytes.now
      (c.in_ok-take.ensures.same_posted ∙ c.in_ok-post.ensures.posts);
}

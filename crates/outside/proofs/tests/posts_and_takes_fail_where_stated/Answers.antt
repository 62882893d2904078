use Rattle.std.proofs.Common.{◌∙◌}
use Rattle.outside.specs.MailRoom.{posted_in}
use Rattle.outside.proofs.Names.{IsSome-posted}
use Rattle.outside.proofs.tests.posts_and_takes_fail_where_stated.Goals as goal

pub take-requires : goal.take-requires
take-requires g c = record {
  posted = IsSome-posted (posted_in c.post.new.self.letters) (posted_in c.post-2.new.self.letters) c.name_of-name.result _
      c.in_ok-post.ensures.posts;
}

pub take-requires-2 : goal.take-requires-2
take-requires-2 g c = record {
  posted = IsSome-posted (posted_in c.post.new.self.letters) (posted_in c.take.new.self.letters) c.name_of-name.result _
      (c.take.ensures.same_posted ∙ c.in_ok-post.ensures.posts);
}

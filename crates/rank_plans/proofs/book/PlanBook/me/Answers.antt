use Rattle.std.proofs.Common.{◌≡◌, ◌<◌, ℕ, Some, subst}
use Rattle.rank_plans.specs.Books.{Book, directory_of}
use Rattle.rank_plans.proofs.Mapped.{owners-below}
use Rattle.rank_plans.proofs.book.PlanBook.me.Goals as goal

pub returns-clause-owners : goal.returns-clause-owners
returns-clause-owners c =
    let kept = c.self.inside in
    let b : Book = record { me = kept.me; ranks = kept.ranks; maps = kept.maps.items; plans = kept.plans.items } in
    subst {A = Book} (λ b. (m g q : ℕ) → directory_of b m g ≡ Some q → q < b.ranks) c.self.view_is (owners-below b c.self.invariant)

use Rattle.std.proofs.Common.{◌≡◌, ◌<◌, ◌++◌, ◌∷◌, ◌&&◌, [], true, false, None, Some, All, cond, refl, subst, sym, ap, ◌∙◌}
use Rattle.std.specs.Option.{is_some}
use Rattle.std.proofs.lemmas.List.Elements.{filter_passes}
use Rattle.map_core.specs.Layouts.{AreDistinct}
use Rattle.map_core.proofs.Members.{stands-filter, AreDistinct-filter}
use Rattle.map_core.specs.Layouts.{stands}
use Rattle.map_core.specs.Homes.{homed, is_home}
use Rattle.directory.specs.Directories.{Directory, owner_of, AreNew}
use Rattle.rank_plans.specs.declared.registered.Registered.{Registered}
use Rattle.rank_plans.specs.Books.{Book, IsBook, directory_of, has_map, map_in, map_size_in, map_size_of, owner_in}
use Rattle.rank_plans.proofs.Mapped.{IsBook-registered, map-new, map-old}
use Rattle.rank_plans.proofs.book.PlanBook.begin_register.Goals as goal

pub enter-requires-clause-known_rank : goal.enter-requires-clause-known_rank
enter-requires-clause-known_rank c =
    let kept = c.self.inside in
    let m = c.args.map in
    let maps = kept.maps.items in
    let own = c.args.own.now in
    let test = is_home kept.ranks c.args.size kept.me in
    let words : c.deref.result.now ≡ homed kept.ranks c.args.size kept.me own = c.deref.ensures.value ∙ c.in_ok-words.ensures.homed in
    let begun : c.in_ok-directory.directory ≡ record { me = kept.me; ranks = kept.ranks; size = c.args.size; entries = [] } = c.in_ok-directory.ensures.made in
    subst {A = Directory} (λ d. kept.me < d.ranks) (sym begun) c.self.invariant.own_rank

pub enter-requires-clause-home : goal.enter-requires-clause-home
enter-requires-clause-home c =
    let kept = c.self.inside in
    let m = c.args.map in
    let maps = kept.maps.items in
    let own = c.args.own.now in
    let test = is_home kept.ranks c.args.size kept.me in
    let words : c.deref.result.now ≡ homed kept.ranks c.args.size kept.me own = c.deref.ensures.value ∙ c.in_ok-words.ensures.homed in
    let begun : c.in_ok-directory.directory ≡ record { me = kept.me; ranks = kept.ranks; size = c.args.size; entries = [] } = c.in_ok-directory.ensures.made in
    subst {A = Directory} (λ d. All (λ g. is_home d.ranks d.size d.me g ≡ true) c.deref.result.now) (sym begun)
    (subst (λ xs. All (λ g. test g ≡ true) xs) (sym words) (filter_passes test own))

pub enter-requires-clause-new : goal.enter-requires-clause-new
enter-requires-clause-new c =
    let kept = c.self.inside in
    let m = c.args.map in
    let maps = kept.maps.items in
    let own = c.args.own.now in
    let test = is_home kept.ranks c.args.size kept.me in
    let words : c.deref.result.now ≡ homed kept.ranks c.args.size kept.me own = c.deref.ensures.value ∙ c.in_ok-words.ensures.homed in
    let begun : c.in_ok-directory.directory ≡ record { me = kept.me; ranks = kept.ranks; size = c.args.size; entries = [] } = c.in_ok-directory.ensures.made in
    subst {A = Directory} (λ d. AreNew (owner_of d) c.deref.result.now) (sym begun)
    (record { distinct = subst AreDistinct (sym words) (AreDistinct-filter test own c.homed_indices.ensures.distinct); unknown = λ g on. refl })

pub invariant_of-self-2 : goal.invariant_of-self-2
invariant_of-self-2 c =
    let kept = c.self.inside in
    let m = c.args.map in
    let maps = kept.maps.items in
    let own = c.args.own.now in
    let test = is_home kept.ranks c.args.size kept.me in
    let words : c.deref.result.now ≡ homed kept.ranks c.args.size kept.me own = c.deref.ensures.value ∙ c.in_ok-words.ensures.homed in
    let begun : c.in_ok-directory.directory ≡ record { me = kept.me; ranks = kept.ranks; size = c.args.size; entries = [] } = c.in_ok-directory.ensures.made in
    let d : Directory = c.enter.new.directory in
    let r : Registered = record { map = m; directory = d } in
    let items : c.push.new.self.items ≡ maps ++ r ∷ [] = c.in_ok-push.ensures.items in
    let fresh : is_some (map_size_in (map_in maps m)) ≡ false = ap {A = Book} (λ b. has_map b m) c.self.view_is ∙ c.requires.first in
    let put : map_in c.push.new.self.items m ≡ Some r = (λ i. map_in (items i) m) ∙ map-new maps r fresh in
    let b : Book = record { me = kept.me; ranks = kept.ranks; maps = maps; plans = kept.plans.items } in
    let ranks : c.in_ok-directory.directory.ranks ≡ kept.ranks = ap {A = Directory} (λ d. d.ranks) begun in
    subst (λ rs. IsBook (record b { maps = rs })) (sym items) (IsBook-registered b r c.self.invariant (record {
      me = c.enter.ensures.me ∙ ap {A = Directory} (λ d. d.me) begun;
      ranks = c.enter.ensures.ranks ∙ ranks;
      below = λ g q e. subst (λ n. q < n) ranks (c.enter.ensures.below (λ h p f. absurd (let none : None ≡ Some p = sym (ap {A = Directory} (λ d. owner_of d h) begun) ∙ f in let bad : ⊥ = cc in bad)) g q e);
    }))

pub returns-clause-directory : goal.returns-clause-directory
returns-clause-directory c =
    let kept = c.self.inside in
    let m = c.args.map in
    let maps = kept.maps.items in
    let own = c.args.own.now in
    let test = is_home kept.ranks c.args.size kept.me in
    let words : c.deref.result.now ≡ homed kept.ranks c.args.size kept.me own = c.deref.ensures.value ∙ c.in_ok-words.ensures.homed in
    let begun : c.in_ok-directory.directory ≡ record { me = kept.me; ranks = kept.ranks; size = c.args.size; entries = [] } = c.in_ok-directory.ensures.made in
    let d : Directory = c.enter.new.directory in
    let r : Registered = record { map = m; directory = d } in
    let items : c.push.new.self.items ≡ maps ++ r ∷ [] = c.in_ok-push.ensures.items in
    let fresh : is_some (map_size_in (map_in maps m)) ≡ false = ap {A = Book} (λ b. has_map b m) c.self.view_is ∙ c.requires.first in
    let put : map_in c.push.new.self.items m ≡ Some r = (λ i. map_in (items i) m) ∙ map-new maps r fresh in
    λ g. ap (λ o. owner_in o g) put
    ∙ c.in_ok-enter.ensures.owners g
    ∙ (λ i. cond (stands g (words i)) (Some kept.me) (owner_of (begun i) g))
    ∙ ap (λ b. cond b (Some kept.me) None) (stands-filter g test own)
    ∙ ap {A = Book} (λ b. cond (stands g own && is_home b.ranks c.args.size b.me g) (Some b.me) None) c.self.view_is

pub returns-clause-size : goal.returns-clause-size
returns-clause-size c =
    let kept = c.self.inside in
    let m = c.args.map in
    let maps = kept.maps.items in
    let own = c.args.own.now in
    let test = is_home kept.ranks c.args.size kept.me in
    let words : c.deref.result.now ≡ homed kept.ranks c.args.size kept.me own = c.deref.ensures.value ∙ c.in_ok-words.ensures.homed in
    let begun : c.in_ok-directory.directory ≡ record { me = kept.me; ranks = kept.ranks; size = c.args.size; entries = [] } = c.in_ok-directory.ensures.made in
    let d : Directory = c.enter.new.directory in
    let r : Registered = record { map = m; directory = d } in
    let items : c.push.new.self.items ≡ maps ++ r ∷ [] = c.in_ok-push.ensures.items in
    let fresh : is_some (map_size_in (map_in maps m)) ≡ false = ap {A = Book} (λ b. has_map b m) c.self.view_is ∙ c.requires.first in
    let put : map_in c.push.new.self.items m ≡ Some r = (λ i. map_in (items i) m) ∙ map-new maps r fresh in
    ap map_size_in put ∙ ap Some (c.enter.ensures.size ∙ ap {A = Directory} (λ d. d.size) begun)

pub returns-clause-other_directories : goal.returns-clause-other_directories
returns-clause-other_directories c =
    let kept = c.self.inside in
    let m = c.args.map in
    let maps = kept.maps.items in
    let own = c.args.own.now in
    let test = is_home kept.ranks c.args.size kept.me in
    let words : c.deref.result.now ≡ homed kept.ranks c.args.size kept.me own = c.deref.ensures.value ∙ c.in_ok-words.ensures.homed in
    let begun : c.in_ok-directory.directory ≡ record { me = kept.me; ranks = kept.ranks; size = c.args.size; entries = [] } = c.in_ok-directory.ensures.made in
    let d : Directory = c.enter.new.directory in
    let r : Registered = record { map = m; directory = d } in
    let items : c.push.new.self.items ≡ maps ++ r ∷ [] = c.in_ok-push.ensures.items in
    let fresh : is_some (map_size_in (map_in maps m)) ≡ false = ap {A = Book} (λ b. has_map b m) c.self.view_is ∙ c.requires.first in
    let put : map_in c.push.new.self.items m ≡ Some r = (λ i. map_in (items i) m) ∙ map-new maps r fresh in
    λ o g off. (λ i. owner_in (map_in (items i) o) g) ∙ ap (λ x. owner_in x g) (map-old maps r o off) ∙ ap {A = Book} (λ b. directory_of b o g) c.self.view_is

pub returns-clause-other_sizes : goal.returns-clause-other_sizes
returns-clause-other_sizes c =
    let kept = c.self.inside in
    let m = c.args.map in
    let maps = kept.maps.items in
    let own = c.args.own.now in
    let test = is_home kept.ranks c.args.size kept.me in
    let words : c.deref.result.now ≡ homed kept.ranks c.args.size kept.me own = c.deref.ensures.value ∙ c.in_ok-words.ensures.homed in
    let begun : c.in_ok-directory.directory ≡ record { me = kept.me; ranks = kept.ranks; size = c.args.size; entries = [] } = c.in_ok-directory.ensures.made in
    let d : Directory = c.enter.new.directory in
    let r : Registered = record { map = m; directory = d } in
    let items : c.push.new.self.items ≡ maps ++ r ∷ [] = c.in_ok-push.ensures.items in
    let fresh : is_some (map_size_in (map_in maps m)) ≡ false = ap {A = Book} (λ b. has_map b m) c.self.view_is ∙ c.requires.first in
    let put : map_in c.push.new.self.items m ≡ Some r = (λ i. map_in (items i) m) ∙ map-new maps r fresh in
    λ o off. (λ i. map_size_in (map_in (items i) o)) ∙ ap map_size_in (map-old maps r o off) ∙ ap {A = Book} (λ b. map_size_of b o) c.self.view_is

use Rattle.std.proofs.Common.{◌≡◌, ◌<◌, ◌==◌, true, Some, All, cond, get_or, subst, sym, ap, ◌∙◌}
use Rattle.std.specs.List.{position_or_len}
use Rattle.std.specs.Option.{is_some}
use Rattle.map_core.specs.Layouts.{stands}
use Rattle.map_core.specs.Homes.{is_home}
use Rattle.directory.specs.Directories.{Directory, AreNew}
use Rattle.rank_plans.specs.declared.registered.Registered.{Registered}
use Rattle.rank_plans.specs.Books.{Book, IsOwnDirectory, directory_of, has_map, map_in, map_size_in, map_size_of, owner_in}
use Rattle.rank_plans.proofs.Mapped.{IsBook-map, IsMapAt, map-apart, map-at, map-put, map-within, sizes-stay, with_directory}
use Rattle.rank_plans.proofs.book.PlanBook.absorb_register.Goals as goal

pub index_mut-requires : goal.index_mut-requires
index_mut-requires c =
    let kept = c.self.inside in
    let m = c.args.map in
    let maps = kept.maps.items in
    let words = c.args.words.now in
    let j = c.map_place-at.result in
    let at : j ≡ position_or_len (λ r. m == r.map) maps = c.map_place-at.ensures.place ∙ ap (position_or_len (λ r. m == r.map)) c.deref.ensures.value in
    let known : is_some (map_size_in (map_in maps m)) ≡ true = ap {A = Book} (λ b. has_map b m) c.self.view_is ∙ c.requires.known_map in
    subst (λ n. j < n) (sym kept.maps.ok.0) (map-within maps m j at known)

pub enter-requires-clause-known_rank : goal.enter-requires-clause-known_rank
enter-requires-clause-known_rank c =
    let kept = c.self.inside in
    let m = c.args.map in
    let maps = kept.maps.items in
    let words = c.args.words.now in
    let j = c.map_place-at.result in
    let at : j ≡ position_or_len (λ r. m == r.map) maps = c.map_place-at.ensures.place ∙ ap (position_or_len (λ r. m == r.map)) c.deref.ensures.value in
    let known : is_some (map_size_in (map_in maps m)) ≡ true = ap {A = Book} (λ b. has_map b m) c.self.view_is ∙ c.requires.known_map in
    let r : Registered = c.index_mut.result.now in
    let entry : get_or maps j r ≡ r = sym c.index_mut.ensures.value in
    let found : IsMapAt maps m j r = map-at maps m j r r at known entry in
    let own : IsOwnDirectory kept.me kept.ranks r = subst (IsOwnDirectory kept.me kept.ranks) entry (c.self.invariant.directories j r (map-within maps m j at known)) in
    let is : map_in c.args.self.now.maps m ≡ Some r = sym (ap {A = Book} (λ b. map_in b.maps m) c.self.view_is) ∙ found.found in
    let me : r.directory.me ≡ c.args.self.now.me = own.me ∙ ap {A = Book} (λ b. b.me) c.self.view_is in
    let ranks : r.directory.ranks ≡ c.args.self.now.ranks = own.ranks ∙ ap {A = Book} (λ b. b.ranks) c.self.view_is in
    let b : Book = record { me = kept.me; ranks = kept.ranks; maps = maps; plans = kept.plans.items } in
    subst (λ n. c.args.from < n) (sym ranks) c.requires.known_rank

pub enter-requires-clause-home : goal.enter-requires-clause-home
enter-requires-clause-home c =
    let kept = c.self.inside in
    let m = c.args.map in
    let maps = kept.maps.items in
    let words = c.args.words.now in
    let j = c.map_place-at.result in
    let at : j ≡ position_or_len (λ r. m == r.map) maps = c.map_place-at.ensures.place ∙ ap (position_or_len (λ r. m == r.map)) c.deref.ensures.value in
    let known : is_some (map_size_in (map_in maps m)) ≡ true = ap {A = Book} (λ b. has_map b m) c.self.view_is ∙ c.requires.known_map in
    let r : Registered = c.index_mut.result.now in
    let entry : get_or maps j r ≡ r = sym c.index_mut.ensures.value in
    let found : IsMapAt maps m j r = map-at maps m j r r at known entry in
    let own : IsOwnDirectory kept.me kept.ranks r = subst (IsOwnDirectory kept.me kept.ranks) entry (c.self.invariant.directories j r (map-within maps m j at known)) in
    let is : map_in c.args.self.now.maps m ≡ Some r = sym (ap {A = Book} (λ b. map_in b.maps m) c.self.view_is) ∙ found.found in
    let me : r.directory.me ≡ c.args.self.now.me = own.me ∙ ap {A = Book} (λ b. b.me) c.self.view_is in
    let ranks : r.directory.ranks ≡ c.args.self.now.ranks = own.ranks ∙ ap {A = Book} (λ b. b.ranks) c.self.view_is in
    let b : Book = record { me = kept.me; ranks = kept.ranks; maps = maps; plans = kept.plans.items } in
    subst (λ n. All (λ g. is_home n r.directory.size r.directory.me g ≡ true) words) (sym ranks)
    (subst (λ n. All (λ g. is_home c.args.self.now.ranks r.directory.size n g ≡ true) words) (sym me) (c.requires.home r.directory.size (ap map_size_in is)))

pub enter-requires-clause-new : goal.enter-requires-clause-new
enter-requires-clause-new c =
    let kept = c.self.inside in
    let m = c.args.map in
    let maps = kept.maps.items in
    let words = c.args.words.now in
    let j = c.map_place-at.result in
    let at : j ≡ position_or_len (λ r. m == r.map) maps = c.map_place-at.ensures.place ∙ ap (position_or_len (λ r. m == r.map)) c.deref.ensures.value in
    let known : is_some (map_size_in (map_in maps m)) ≡ true = ap {A = Book} (λ b. has_map b m) c.self.view_is ∙ c.requires.known_map in
    let r : Registered = c.index_mut.result.now in
    let entry : get_or maps j r ≡ r = sym c.index_mut.ensures.value in
    let found : IsMapAt maps m j r = map-at maps m j r r at known entry in
    let own : IsOwnDirectory kept.me kept.ranks r = subst (IsOwnDirectory kept.me kept.ranks) entry (c.self.invariant.directories j r (map-within maps m j at known)) in
    let is : map_in c.args.self.now.maps m ≡ Some r = sym (ap {A = Book} (λ b. map_in b.maps m) c.self.view_is) ∙ found.found in
    let me : r.directory.me ≡ c.args.self.now.me = own.me ∙ ap {A = Book} (λ b. b.me) c.self.view_is in
    let ranks : r.directory.ranks ≡ c.args.self.now.ranks = own.ranks ∙ ap {A = Book} (λ b. b.ranks) c.self.view_is in
    let b : Book = record { me = kept.me; ranks = kept.ranks; maps = maps; plans = kept.plans.items } in
    subst (λ o. AreNew (owner_in o) words) is c.requires.new

pub invariant_of-self : goal.invariant_of-self
invariant_of-self c =
    let kept = c.self.inside in
    let m = c.args.map in
    let maps = kept.maps.items in
    let words = c.args.words.now in
    let j = c.map_place-at.result in
    let at : j ≡ position_or_len (λ r. m == r.map) maps = c.map_place-at.ensures.place ∙ ap (position_or_len (λ r. m == r.map)) c.deref.ensures.value in
    let known : is_some (map_size_in (map_in maps m)) ≡ true = ap {A = Book} (λ b. has_map b m) c.self.view_is ∙ c.requires.known_map in
    let r : Registered = c.index_mut.result.now in
    let entry : get_or maps j r ≡ r = sym c.index_mut.ensures.value in
    let found : IsMapAt maps m j r = map-at maps m j r r at known entry in
    let own : IsOwnDirectory kept.me kept.ranks r = subst (IsOwnDirectory kept.me kept.ranks) entry (c.self.invariant.directories j r (map-within maps m j at known)) in
    let is : map_in c.args.self.now.maps m ≡ Some r = sym (ap {A = Book} (λ b. map_in b.maps m) c.self.view_is) ∙ found.found in
    let me : r.directory.me ≡ c.args.self.now.me = own.me ∙ ap {A = Book} (λ b. b.me) c.self.view_is in
    let ranks : r.directory.ranks ≡ c.args.self.now.ranks = own.ranks ∙ ap {A = Book} (λ b. b.ranks) c.self.view_is in
    let b : Book = record { me = kept.me; ranks = kept.ranks; maps = maps; plans = kept.plans.items } in
    let d : Directory = c.enter.new.directory in
    IsBook-map b j (with_directory r d) c.self.invariant (record {
      me = c.enter.ensures.me ∙ own.me;
      ranks = c.enter.ensures.ranks ∙ own.ranks;
      below = λ g q e. subst (λ n. q < n) own.ranks (c.enter.ensures.below (λ h p f. subst (λ n. p < n) (sym own.ranks) (own.below h p f)) g q e);
    })

pub returns-clause-directory : goal.returns-clause-directory
returns-clause-directory c =
    let kept = c.self.inside in
    let m = c.args.map in
    let maps = kept.maps.items in
    let words = c.args.words.now in
    let j = c.map_place-at.result in
    let at : j ≡ position_or_len (λ r. m == r.map) maps = c.map_place-at.ensures.place ∙ ap (position_or_len (λ r. m == r.map)) c.deref.ensures.value in
    let known : is_some (map_size_in (map_in maps m)) ≡ true = ap {A = Book} (λ b. has_map b m) c.self.view_is ∙ c.requires.known_map in
    let r : Registered = c.index_mut.result.now in
    let entry : get_or maps j r ≡ r = sym c.index_mut.ensures.value in
    let found : IsMapAt maps m j r = map-at maps m j r r at known entry in
    let own : IsOwnDirectory kept.me kept.ranks r = subst (IsOwnDirectory kept.me kept.ranks) entry (c.self.invariant.directories j r (map-within maps m j at known)) in
    let is : map_in c.args.self.now.maps m ≡ Some r = sym (ap {A = Book} (λ b. map_in b.maps m) c.self.view_is) ∙ found.found in
    let me : r.directory.me ≡ c.args.self.now.me = own.me ∙ ap {A = Book} (λ b. b.me) c.self.view_is in
    let ranks : r.directory.ranks ≡ c.args.self.now.ranks = own.ranks ∙ ap {A = Book} (λ b. b.ranks) c.self.view_is in
    let b : Book = record { me = kept.me; ranks = kept.ranks; maps = maps; plans = kept.plans.items } in
    let d : Directory = c.enter.new.directory in
    λ g. ap (λ o. owner_in o g) (map-put b m j r found d) ∙ c.in_ok-enter.ensures.owners g ∙ (λ i. cond (stands g words) (Some c.args.from) (owner_in (sym is i) g))

pub returns-clause-other_directories : goal.returns-clause-other_directories
returns-clause-other_directories c =
    let kept = c.self.inside in
    let m = c.args.map in
    let maps = kept.maps.items in
    let words = c.args.words.now in
    let j = c.map_place-at.result in
    let at : j ≡ position_or_len (λ r. m == r.map) maps = c.map_place-at.ensures.place ∙ ap (position_or_len (λ r. m == r.map)) c.deref.ensures.value in
    let known : is_some (map_size_in (map_in maps m)) ≡ true = ap {A = Book} (λ b. has_map b m) c.self.view_is ∙ c.requires.known_map in
    let r : Registered = c.index_mut.result.now in
    let entry : get_or maps j r ≡ r = sym c.index_mut.ensures.value in
    let found : IsMapAt maps m j r = map-at maps m j r r at known entry in
    let own : IsOwnDirectory kept.me kept.ranks r = subst (IsOwnDirectory kept.me kept.ranks) entry (c.self.invariant.directories j r (map-within maps m j at known)) in
    let is : map_in c.args.self.now.maps m ≡ Some r = sym (ap {A = Book} (λ b. map_in b.maps m) c.self.view_is) ∙ found.found in
    let me : r.directory.me ≡ c.args.self.now.me = own.me ∙ ap {A = Book} (λ b. b.me) c.self.view_is in
    let ranks : r.directory.ranks ≡ c.args.self.now.ranks = own.ranks ∙ ap {A = Book} (λ b. b.ranks) c.self.view_is in
    let b : Book = record { me = kept.me; ranks = kept.ranks; maps = maps; plans = kept.plans.items } in
    let d : Directory = c.enter.new.directory in
    λ o g off. ap (λ x. owner_in x g) (map-apart b m j r found d o off) ∙ ap {A = Book} (λ b. directory_of b o g) c.self.view_is

pub returns-clause-sizes : goal.returns-clause-sizes
returns-clause-sizes c =
    let kept = c.self.inside in
    let m = c.args.map in
    let maps = kept.maps.items in
    let words = c.args.words.now in
    let j = c.map_place-at.result in
    let at : j ≡ position_or_len (λ r. m == r.map) maps = c.map_place-at.ensures.place ∙ ap (position_or_len (λ r. m == r.map)) c.deref.ensures.value in
    let known : is_some (map_size_in (map_in maps m)) ≡ true = ap {A = Book} (λ b. has_map b m) c.self.view_is ∙ c.requires.known_map in
    let r : Registered = c.index_mut.result.now in
    let entry : get_or maps j r ≡ r = sym c.index_mut.ensures.value in
    let found : IsMapAt maps m j r = map-at maps m j r r at known entry in
    let own : IsOwnDirectory kept.me kept.ranks r = subst (IsOwnDirectory kept.me kept.ranks) entry (c.self.invariant.directories j r (map-within maps m j at known)) in
    let is : map_in c.args.self.now.maps m ≡ Some r = sym (ap {A = Book} (λ b. map_in b.maps m) c.self.view_is) ∙ found.found in
    let me : r.directory.me ≡ c.args.self.now.me = own.me ∙ ap {A = Book} (λ b. b.me) c.self.view_is in
    let ranks : r.directory.ranks ≡ c.args.self.now.ranks = own.ranks ∙ ap {A = Book} (λ b. b.ranks) c.self.view_is in
    let b : Book = record { me = kept.me; ranks = kept.ranks; maps = maps; plans = kept.plans.items } in
    let d : Directory = c.enter.new.directory in
    λ o. sizes-stay b m j r found d c.enter.ensures.size o ∙ ap {A = Book} (λ b. map_size_of b o) c.self.view_is

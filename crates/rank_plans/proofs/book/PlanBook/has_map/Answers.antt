use Rattle.std.proofs.Common.{◌≡◌, ◌<◌, ◌≤◌, ◌==◌, length, subst, sym, ap, ◌∙◌}
use Rattle.std.specs.List.{position_or_len}
use Rattle.rank_plans.specs.Books.{Book, has_map}
use Rattle.rank_plans.proofs.Mapped.{map-found, map-missing}
use Rattle.rank_plans.proofs.book.PlanBook.has_map.Goals as goal

pub returns-then-map_place-len : goal.returns-then-map_place-len
returns-then-map_place-len c =
    let items = c.self.inside.maps.items in
    let at : c.map_place.result ≡ position_or_len (λ r. c.args.map == r.map) items = c.map_place.ensures.place ∙ ap (position_or_len (λ r. c.args.map == r.map)) c.deref.ensures.value in
    let count : c.len.result ≡ length items = c.len.ensures ∙ c.self.inside.maps.ok.0 in
    let low : position_or_len (λ r. c.args.map == r.map) items < length items = subst (λ n. n < length items) at (subst (λ n. c.map_place.result < n) count c.if-map_place-len.true) in
    record { begun = sym (map-found items c.args.map low) ∙ ap {A = Book} (λ b. has_map b c.args.map) c.self.view_is }

pub returns : goal.returns
returns c =
    let items = c.self.inside.maps.items in
    let at : c.map_place.result ≡ position_or_len (λ r. c.args.map == r.map) items = c.map_place.ensures.place ∙ ap (position_or_len (λ r. c.args.map == r.map)) c.deref.ensures.value in
    let count : c.len.result ≡ length items = c.len.ensures ∙ c.self.inside.maps.ok.0 in
    let high : length items ≤ position_or_len (λ r. c.args.map == r.map) items = subst (λ n. length items ≤ n) at (subst (λ n. n ≤ c.map_place.result) count c.if-map_place-len.false) in
    record { begun = sym (map-missing items c.args.map high) ∙ ap {A = Book} (λ b. has_map b c.args.map) c.self.view_is }

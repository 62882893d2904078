use Rattle.std.proofs.Common.{◌≡◌, ◌==◌, true, false, [], ◌∷◌, ◌++◌, cond, nat_eq, take, slice_index_or, inl, inr, refl, subst, sym, ap, ◌∙◌, arith}
use Rattle.std.specs.List.{list_any}
use Rattle.std.proofs.lemmas.Bool.{eqb-true, or_cases}
use Rattle.std.proofs.lemmas.List.{take_all, take_more}
use Rattle.std.proofs.lemmas.Option.{slice_get-get_or}
use Rattle.map_core.specs.Layouts.{stands, AreDistinct}
use Rattle.map_core.specs.Faults.{IsSound}
use Rattle.map_core.proofs.Members.{stands-list_any, stands-take_more, AreDistinct-from_set}
use Rattle.map_core.proofs.lists.checked_list.Goals as goal

pub returns-then-gid-size-clause-refused : goal.returns-then-gid-size-clause-refused
returns-then-gid-size-clause-refused c =
    let distinct = subst AreDistinct c.loop-gid.invariant.kept (AreDistinct-from_set c.loop-gid.set.keys c.loop-gid.invariant.unique) in (
      refl,
      record {
        place = c.loop-gid.gid-index;
        reached = record {
          earlier = record { distinct = distinct; below = c.loop-gid.invariant.below };
          at = slice_get-get_or c.args.gids.now c.loop-gid.gid-index 0 c.loop-gid-test.true;
        };
        outside = c.if-gid-size.true;
      },
    )

pub returns-then-not-branch-clause-refused : goal.returns-then-not-branch-clause-refused
returns-then-not-branch-clause-refused c =
    let gid = slice_index_or c.args.gids.now c.loop-gid.gid-index 0 in
    let known : list_any (nat_eq gid) c.loop-gid.set.keys ≡ true = grind (arith, c.in_ok-insert.ensures.added, c.if-not-branch.true) in
    let there : stands gid c.loop-gid.set.keys ≡ true = sym (stands-list_any gid c.loop-gid.set.keys) ∙ known in
    let distinct = subst AreDistinct c.loop-gid.invariant.kept (AreDistinct-from_set c.loop-gid.set.keys c.loop-gid.invariant.unique) in (
      refl,
      record {
        place = c.loop-gid.gid-index;
        reached = record {
          earlier = record { distinct = distinct; below = c.loop-gid.invariant.below };
          at = slice_get-get_or c.args.gids.now c.loop-gid.gid-index 0 c.loop-gid-test.true;
        };
        below = c.if-gid-size.false;
        twice = sym (ap (stands gid) c.loop-gid.invariant.kept) ∙ there;
      },
    )

pub loop-gid-preserved : goal.loop-gid-preserved
loop-gid-preserved c =
    let gids = c.args.gids.now in
    let i = c.loop-gid.gid-index in
    let gid = slice_index_or gids i 0 in
    let keys = c.loop-gid.set.keys in
    let fresh : list_any (nat_eq gid) keys ≡ false = grind (arith, c.in_ok-insert.ensures.added, c.if-not-branch.false) in
    record {
      kept =
          c.in_ok-insert.ensures.keys
          ∙ ap (λ b. cond b keys (keys ++ gid ∷ [])) fresh
          ∙ ap (λ ks. ks ++ gid ∷ []) c.loop-gid.invariant.kept
          ∙ sym (take_more gids i 0 c.loop-gid-test.true);
      unique = c.in_ok-insert.ensures.unique;
      below = λ g at. elim (or_cases (stands g (take i gids)) (gid == g) (sym (stands-take_more g gids i c.loop-gid-test.true) ∙ at)) [
        | inl earlier ↦ c.loop-gid.invariant.below g earlier
        | inr here ↦ let same : gid ≡ g = eqb-true gid g here in let low = c.if-gid-size.false in omega arith
      ];
    }

pub returns-clause-sound : goal.returns-clause-sound
returns-clause-sound c =
    let distinct = subst AreDistinct c.loop-gid.invariant.kept (AreDistinct-from_set c.loop-gid.set.keys c.loop-gid.invariant.unique) in
    subst (IsSound c.args.size) (take_all c.loop-gid.gid-index c.args.gids.now c.loop-gid-test.false)
    (record { distinct = distinct; below = c.loop-gid.invariant.below })

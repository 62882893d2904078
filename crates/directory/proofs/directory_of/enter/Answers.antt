use Rattle.std.proofs.Common.{◌≡◌, true, false, ◌||◌, [], ◌∷◌, ◌++◌, None, nat_eq, take, slice_index_or, subst, sym, ap, ◌∙◌, append_assoc}
use Rattle.std.specs.Option.{is_some}
use Rattle.std.proofs.lemmas.List.{map-append, take_more}
use Rattle.std.proofs.lemmas.Option.{slice_get-get_or}
use Rattle.indexmap.proofs.CallerLemmas.{insert_entry-new}
use Rattle.map_core.specs.Layouts.{stands}
use Rattle.directory.specs.Directories.{entered, found_in, AreNew}
use Rattle.directory.proofs.Entries.{is_some-found, none_of, AreNew-push}
use Rattle.directory.proofs.directory_of.enter.Goals as goal

pub returns-then-contains_key-clause-refused : goal.returns-then-contains_key-clause-refused
returns-then-contains_key-clause-refused c =
    let old = c.args.owners.now.entries in
    let i = c.loop-gid.gid-index in
    let gid = slice_index_or c.args.gids.now i 0 in
    let known : is_some (found_in c.loop-gid.owners.entries gid) ≡ true = sym c.if-contains_key.ensures in
    record {
      place = i;
      at = slice_get-get_or c.args.gids.now i 0 c.loop-gid-test.true;
      twice = sym (is_some-found gid c.args.from old (take i c.args.gids.now)) ∙ ap (λ es. is_some (found_in es gid)) (sym c.loop-gid.invariant.entries) ∙ known;
      earlier = c.loop-gid.invariant.new;
    }

pub loop-gid-preserved : goal.loop-gid-preserved
loop-gid-preserved c =
    let old = c.args.owners.now.entries in
    let from = c.args.from in
    let gids = c.args.gids.now in
    let i = c.loop-gid.gid-index in
    let gid = slice_index_or gids i 0 in
    let fresh : is_some (found_in c.loop-gid.owners.entries gid) ≡ false = sym c.if-contains_key.ensures in
    let none : found_in c.loop-gid.owners.entries gid ≡ None = none_of (found_in c.loop-gid.owners.entries gid) fresh in
    let apart : (is_some (found_in old gid) || stands gid (take i gids)) ≡ false =
    sym (is_some-found gid from old (take i gids)) ∙ ap (λ es. is_some (found_in es gid)) (sym c.loop-gid.invariant.entries) ∙ fresh in
    record {
      entries =
          c.in_ok-insert.ensures.entries
          ∙ insert_entry-new nat_eq c.loop-gid.owners gid from none
          ∙ ap (λ es. es ++ (gid, from) ∷ []) c.loop-gid.invariant.entries
          ∙ append_assoc old (entered from (take i gids)) ((gid, from) ∷ [])
          ∙ ap (λ es. old ++ es) (sym (map-append (λ g. (g, from)) (take i gids) (gid ∷ [])))
          ∙ ap (λ xs. old ++ entered from xs) (sym (take_more gids i 0 c.loop-gid-test.true));
      unique = c.in_ok-insert.ensures.unique;
      new = subst (AreNew (found_in old)) (sym (take_more gids i 0 c.loop-gid-test.true)) (AreNew-push (found_in old) (take i gids) gid c.loop-gid.invariant.new apart);
    }

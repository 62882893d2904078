-- Lists that name letters again, and lists that name each letter.
use Rattle.std.proofs.Common.{◌≡◌, ◌∙◌, Bool, true, false, not, ◌&&◌, ◌||◌, List, [], ◌∷◌, ◌++◌, map, refl, sym, ap, append_assoc, append-nil}
use Rattle.std.proofs.lemmas.Bool.{or_left, or_right}
use Rattle.std.proofs.lemmas.List.Elements.{filter_agree}
use Rattle.outside.specs.declared.name.Name.{Name}
use Rattle.outside.specs.Letters.{same_name}
use Rattle.schedule.specs.declared.order.Entry.{Entry}
use Rattle.peers.specs.Protocols.{stands_in, Protocol, flies, is_ready, first_names, names_beyond}
use Rattle.peers.specs.Runs.{may_come}
use Rattle.schedule.specs.Orders.{Complete, Wrong, ending_after, ending_of, entries_beyond, listed_deliveries, listed_ending}
use Rattle.schedule.proofs.Flying.{delivered-same}
use Rattle.schedule.proofs.Members.{all_agree, filter_none, stands_in-push}
use Rattle.schedule.proofs.Tables.{and_false}

-- what is in flight depends on which names were delivered, and not on their order
flies-agree : (P : Protocol) (d e : List Name) → ((n : Name) → stands_in d n ≡ stands_in e n) → (n : Name) → flies P d n ≡ flies P e n
flies-agree P d e same n =
    ap (λ b. stands_in P.names n && (not b && is_ready P d n)) (same n)
    ∙ ap (λ b. stands_in P.names n && (not (stands_in e n) && b)) (all_agree (stands_in d) (stands_in e) (P.before n) (λ m s. same m))

module _ (P : Protocol) where
  deliveries-comes : (d : List Name) (e : Entry) (es : List Entry) → may_come P d e.name ≡ true →
      (listed_deliveries P d (e ∷ es) ≡ e.name ∷ listed_deliveries P (d ++ e.name ∷ []) es)
      × (listed_ending P d (e ∷ es) ≡ listed_ending P (d ++ e.name ∷ []) es)
  deliveries-comes d e es comes = (rw comes, rw comes)

  deliveries-stops : (d : List Name) (e : Entry) (es : List Entry) → may_come P d e.name ≡ false →
      (listed_deliveries P d (e ∷ es) ≡ []) × (listed_ending P d (e ∷ es) ≡ Wrong e.line e.name)
  deliveries-stops d e es stops = (rw stops, rw stops)

  entries-skip : (seen : List Name) (e : Entry) (es : List Entry) → stands_in seen e.name ≡ true →
      entries_beyond seen (e ∷ es) ≡ entries_beyond (seen ++ e.name ∷ []) es
  entries-skip seen e es s = rw s

  entries-keep : (seen : List Name) (e : Entry) (es : List Entry) → stands_in seen e.name ≡ false →
      entries_beyond seen (e ∷ es) ≡ e ∷ entries_beyond (seen ++ e.name ∷ []) es
  entries-keep seen e es s = rw s

  names-skip : (seen : List Name) (n : Name) (ns : List Name) → stands_in seen n ≡ true →
      names_beyond seen (n ∷ ns) ≡ names_beyond (seen ++ n ∷ []) ns
  names-skip seen n ns s = rw s

  names-keep : (seen : List Name) (n : Name) (ns : List Name) → stands_in seen n ≡ false →
      names_beyond seen (n ∷ ns) ≡ n ∷ names_beyond (seen ++ n ∷ []) ns
  names-keep seen n ns s = rw s

  -- after the same names, the list without its repeats delivers the same without repeats, and ends alike
  without_repeats : (es : List Entry) (d once seen : List Name) → ((n : Name) → stands_in d n ≡ stands_in once n) →
      ((n : Name) → stands_in d n ≡ stands_in seen n) →
      (listed_deliveries P once (entries_beyond seen es) ≡ names_beyond seen (listed_deliveries P d es))
      × (listed_ending P once (entries_beyond seen es) ≡ listed_ending P d es)
  without_repeats [] d once seen same known =
      (refl, ap ending_of (filter_agree (flies P once) (flies P d) (flies-agree P once d (λ n. sym (same n))) P.names))
  without_repeats (e ∷ es) d once seen same known = go (stands_in seen e.name) refl (flies P d e.name) refl (without_repeats es)
    where
      pushed : (ns : List Name) → ((n : Name) → stands_in d n ≡ stands_in ns n) → (n : Name) → stands_in (d ++ e.name ∷ []) n ≡ stands_in (ns ++ e.name ∷ []) n
      pushed ns agree n = stands_in-push d e.name n ∙ ap (λ b. b || same_name n e.name) (agree n) ∙ sym (stands_in-push ns e.name n)

      go : (b : Bool) → stands_in seen e.name ≡ b → (f : Bool) → flies P d e.name ≡ f →
          ((c gs hs : List Name) → ((n : Name) → stands_in c n ≡ stands_in gs n) → ((n : Name) → stands_in c n ≡ stands_in hs n) →
          (listed_deliveries P gs (entries_beyond hs es) ≡ names_beyond hs (listed_deliveries P c es))
          × (listed_ending P gs (entries_beyond hs es) ≡ listed_ending P c es)) →
          (listed_deliveries P once (entries_beyond seen (e ∷ es)) ≡ names_beyond seen (listed_deliveries P d (e ∷ es)))
          × (listed_ending P once (entries_beyond seen (e ∷ es)) ≡ listed_ending P d (e ∷ es))
      go true s f g more =
          let was = known e.name ∙ s in
          let here = deliveries-comes d e es (or_left (stands_in d e.name) (flies P d e.name) was) in
          let rest = more (d ++ e.name ∷ []) once (seen ++ e.name ∷ []) (λ n. delivered-same P d e.name was n ∙ same n) (pushed seen known) in
          let skip = entries-skip seen e es s in (
            ap (listed_deliveries P once) skip ∙ rest.0 ∙ sym (names-skip seen e.name (listed_deliveries P (d ++ e.name ∷ []) es) s)
                ∙ ap (names_beyond seen) (sym here.0),
            ap (listed_ending P once) skip ∙ rest.1 ∙ sym here.1,
          )
      go false s true g more =
          let here = deliveries-comes d e es (or_right (stands_in d e.name) (flies P d e.name) g) in
          let there = deliveries-comes once e (entries_beyond (seen ++ e.name ∷ []) es)
          (or_right (stands_in once e.name) (flies P once e.name) (flies-agree P once d (λ n. sym (same n)) e.name ∙ g)) in
          let rest = more (d ++ e.name ∷ []) (once ++ e.name ∷ []) (seen ++ e.name ∷ []) (pushed once same) (pushed seen known) in
          let keep = entries-keep seen e es s in (
            ap (listed_deliveries P once) keep ∙ there.0 ∙ ap (λ ns. e.name ∷ ns) rest.0
                ∙ sym (names-keep seen e.name (listed_deliveries P (d ++ e.name ∷ []) es) s) ∙ ap (names_beyond seen) (sym here.0),
            ap (listed_ending P once) keep ∙ there.1 ∙ rest.1 ∙ sym here.1,
          )
      go false s false g more =
          let here = deliveries-stops d e es (ap (λ b. b || flies P d e.name) (known e.name ∙ s) ∙ g) in
          let there = deliveries-stops once e (entries_beyond (seen ++ e.name ∷ []) es)
          (ap (λ b. b || flies P once e.name) (sym (same e.name) ∙ known e.name ∙ s) ∙ flies-agree P once d (λ n. sym (same n)) e.name ∙ g) in
          let keep = entries-keep seen e es s in (
            ap (listed_deliveries P once) keep ∙ there.0 ∙ ap (names_beyond seen) (sym here.0),
            ap (listed_ending P once) keep ∙ there.1 ∙ sym here.1,
          )

  pub repeats_change_nothing : (es : List Entry) →
      (listed_deliveries P [] (entries_beyond [] es) ≡ first_names (listed_deliveries P [] es))
      × (listed_ending P [] (entries_beyond [] es) ≡ listed_ending P [] es)
  repeats_change_nothing es = without_repeats es [] [] [] (λ n. refl) (λ n. refl)

  -- a list that is delivered whole ends as it leaves the letters
  listed-ends : (es : List Entry) (d : List Name) → listed_deliveries P d es ≡ map (λ e. e.name) es →
      listed_ending P d es ≡ ending_after P (d ++ map (λ e. e.name) es)
  listed-ends [] d whole = ap (ending_after P) (sym (append-nil d))
  listed-ends (e ∷ es) d whole = go (may_come P d e.name) refl (listed-ends es (d ++ e.name ∷ []))
    where
      go : (b : Bool) → may_come P d e.name ≡ b →
          (listed_deliveries P (d ++ e.name ∷ []) es ≡ map (λ x. x.name) es →
          listed_ending P (d ++ e.name ∷ []) es ≡ ending_after P ((d ++ e.name ∷ []) ++ map (λ x. x.name) es)) →
          listed_ending P d (e ∷ es) ≡ ending_after P (d ++ (e.name ∷ map (λ x. x.name) es))
      go true comes more =
          let here = deliveries-comes d e es comes in
          let later : listed_deliveries P (d ++ e.name ∷ []) es ≡ map (λ (x : Entry). x.name) es = cc (sym here.0 ∙ whole) in
          here.1 ∙ more later ∙ ap (ending_after P) (append_assoc d (e.name ∷ []) (map (λ x. x.name) es))
      go false stops more = absurd (cc (sym (deliveries-stops d e es stops).0 ∙ whole))

  -- a list that is delivered whole and names each letter is complete
  pub whole_lists_complete : (es : List Entry) → listed_deliveries P [] es ≡ map (λ e. e.name) es →
      ((n : Name) → stands_in P.names n ≡ true → stands_in (map (λ e. e.name) es) n ≡ true) → listed_ending P [] es ≡ Complete
  whole_lists_complete es whole all =
      listed-ends es [] whole
      ∙ ap ending_of (filter_none (flies P (map (λ e. e.name) es)) P.names
      (λ m s. ap (λ b. stands_in P.names m && (not b && is_ready P (map (λ e. e.name) es) m)) (all m s) ∙ and_false (stands_in P.names m)))

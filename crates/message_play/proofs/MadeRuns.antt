-- The letters that an honest wire gives follow from their names; and those given again change nothing.
use Rattle.std.proofs.Common.{◌≡◌, ◌∙◌, Bool, true, false, cond, List, [], ◌∷◌, ◌++◌, refl, sym, ap, subst, append-nil}
use Rattle.outside.specs.declared.name.Name.{Name}
use Rattle.outside.specs.MailRoom.{names_of}
use Rattle.peers.specs.Protocols.{Letter, Protocol, firsts, firsts_beyond, first_names, names_beyond, stands_in}
use Rattle.peers.specs.Runs.{EachAfter, IsExactRun}
use Rattle.schedule.specs.declared.order.Entry.{Entry}
use Rattle.schedule.specs.Orders.{entries_beyond, listed_deliveries}
use Rattle.schedule.proofs.Firsts.{firsts-push, stands_in-firsts}
use Rattle.schedule.proofs.Repeats.{repeats_change_nothing}
use Rattle.message_play.specs.MadeRuns.{made_after, made_run}
use Rattle.message_play.proofs.Deliveries.{names_of-push}

module _ (P : Protocol) where
  made-exact : (earlier letters : List Letter) → EachAfter (λ posted given. given ≡ posted) P earlier letters → letters ≡ made_after P earlier (names_of letters)
  made-exact earlier [] exact = refl
  made-exact earlier (l ∷ ls) exact =
      let here : l ≡ (l.0, P.content l.0 (firsts earlier)) = λ i. (l.0, exact.0 i) in
      (λ i. here i ∷ made-exact (earlier ++ l ∷ []) ls exact.1 i)
      ∙ ap (λ k. (l.0, P.content l.0 (firsts earlier)) ∷ made_after P (earlier ++ k ∷ []) (names_of ls)) here

  pub exact_made : (letters : List Letter) → IsExactRun P letters → letters ≡ made_run P (names_of letters)
  exact_made letters exact = made-exact [] letters exact

  -- without what was given again
  once : (names : List Name) (earlier first : List Letter) → firsts earlier ≡ first → firsts first ≡ first
      → firsts_beyond (names_of earlier) (made_after P earlier names) ≡ made_after P first (names_beyond (names_of earlier) names)
  once [] earlier first same again = refl
  once (n ∷ ns) earlier first same again = go (stands_in (names_of earlier) n) refl (once ns)
    where
      l : Letter
      l = (n, P.content n (firsts earlier))

      next : List Letter
      next = earlier ++ l ∷ []

      rest : (first : List Letter)
          → firsts_beyond (names_of next) (made_after P next ns) ≡ made_after P first (names_beyond (names_of next) ns)
          → firsts_beyond (names_of earlier ++ n ∷ []) (made_after P next ns) ≡ made_after P first (names_beyond (names_of earlier ++ n ∷ []) ns)
      rest first e = subst (λ seen. firsts_beyond seen (made_after P next ns) ≡ made_after P first (names_beyond seen ns)) (names_of-push earlier l) e

      pushed : (b : Bool) → stands_in (names_of earlier) n ≡ b → firsts next ≡ first ++ cond b [] (l ∷ [])
      pushed b e = firsts-push earlier l ∙ (λ i. same i ++ cond (e i) [] (l ∷ []))

      go : (b : Bool) → stands_in (names_of earlier) n ≡ b
          → ((e f : List Letter) → firsts e ≡ f → firsts f ≡ f → firsts_beyond (names_of e) (made_after P e ns) ≡ made_after P f (names_beyond (names_of e) ns))
          → cond b [] (l ∷ []) ++ firsts_beyond (names_of earlier ++ n ∷ []) (made_after P next ns)
          ≡ made_after P first (cond b [] (n ∷ []) ++ names_beyond (names_of earlier ++ n ∷ []) ns)
      go true e more = rest first (more next first (pushed true e ∙ append-nil first) again)
      go false e more =
          let unseen : stands_in (names_of first) n ≡ false = ap (λ f. stands_in (names_of f) n) (sym same) ∙ stands_in-firsts earlier n ∙ e in
          let made : l ≡ (n, P.content n (firsts first)) = λ i. (n, P.content n ((same ∙ sym again) i)) in
          let tail = rest (first ++ l ∷ []) (more next (first ++ l ∷ []) (pushed false e) (firsts-push first l ∙ (λ i. again i ++ cond (unseen i) [] (l ∷ [])))) in
          ap (λ ls. l ∷ ls) tail
          ∙ ap (λ k. k ∷ made_after P (first ++ k ∷ []) (names_beyond (names_of earlier ++ n ∷ []) ns)) made

  pub made_once : (names : List Name) → firsts (made_run P names) ≡ made_run P (first_names names)
  made_once names = once names [] [] refl refl

  pub repeats_give_the_same : (entries : List Entry) (g h : List Letter) → IsExactRun P g → IsExactRun P h
      → names_of g ≡ listed_deliveries P [] entries → names_of h ≡ listed_deliveries P [] (entries_beyond [] entries) → firsts g ≡ h
  repeats_give_the_same entries g h exact_g exact_h is_g is_h =
      ap firsts (exact_made g exact_g) ∙ made_once (names_of g)
      ∙ ap (made_run P) (ap first_names is_g ∙ sym (repeats_change_nothing P entries).0 ∙ sym is_h)
      ∙ sym (exact_made h exact_h)

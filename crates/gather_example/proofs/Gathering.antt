-- The letters of the ranks go phase by phase.
use Rattle.std.proofs.Common.{◌≡◌, ℕ, zero, suc, ◌<◌, ◌≤◌, ◌&&◌, Bool, true, false, List, [], ◌∷◌, ◌++◌, replicate, length, refl, sym, ap, ◌∙◌, subst, arith, cond}
use Rattle.std.specs.Prelude.{Some, slice_get}
use Rattle.std.specs.List.{filter, flat_map}
use Rattle.std.proofs.lemmas.List.{length-replicate}
use Rattle.outside.specs.declared.name.Name.{Name}
use Rattle.peers.specs.Protocols.{IsProtocol, Letter, only, stands_in}
use Rattle.rank_phases.specs.Pairs.{from_others, sent_names, to_others}
use Rattle.rank_phases.specs.Phases.{GoesByPhase, IsPhased, arrivals, names_from, names_to}
use Rattle.rank_phases.proofs.Filters.{filter-filter, filter-same}
use Rattle.rank_phases.proofs.PairNames.{awaits-of, between, names-ascend, no-awaits, no-posts, posts-of}
use Rattle.rank_phases.proofs.PhaseProtocols.{arrivals-only, goes-phased, goes-protocol}
use Rattle.gather_example.specs.Gathers.{gather, gather_before, gather_names, heard, is_sent, told, told_part}

-- What a rank posts and awaits

test_at : (t : Name → Bool) (phases phase : ℕ) → phase < phases → slice_get (replicate phases t) phase ≡ Some t
test_at t zero phase l = absurd (omega arith)
test_at t (suc n) zero l = refl
test_at t (suc n) (suc k) l = test_at t n k (omega arith)

module _ (ranks rounds phases phase rank : ℕ) where
  pub posts-here : phase < phases → rank < ranks → names_from (gather_names ranks rounds phases) phase rank ≡ filter (is_sent rounds) (to_others ranks phase rank)
  posts-here here within = posts-of ranks (replicate phases (is_sent rounds)) phase rank (is_sent rounds) (test_at (is_sent rounds) phases phase here) within

  pub awaits-here : phase < phases → rank < ranks → names_to (gather_names ranks rounds phases) phase rank ≡ filter (is_sent rounds) (from_others ranks phase rank)
  awaits-here here within = awaits-of ranks (replicate phases (is_sent rounds)) phase rank (is_sent rounds) (test_at (is_sent rounds) phases phase here) within

  past : phases ≤ phase → length (replicate phases (is_sent rounds)) ≤ phase
  past after = subst (λ n. n ≤ phase) (sym (length-replicate phases (is_sent rounds))) after

  pub posts-past : phases ≤ phase → names_from (gather_names ranks rounds phases) phase rank ≡ []
  posts-past after = no-posts ranks (replicate phases (is_sent rounds)) phase rank (past after)

  pub awaits-past : phases ≤ phase → names_to (gather_names ranks rounds phases) phase rank ≡ []
  awaits-past after = no-awaits ranks (replicate phases (is_sent rounds)) phase rank (past after)

-- The protocol

only_only : (names : List Name) (letters : List Letter) → only names (only names letters) ≡ only names letters
only_only names letters = filter-filter (λ l. stands_in names l.0) (λ l. stands_in names l.0) letters ∙ filter-same _ _ (λ l. twice (stands_in names l.0)) letters
  where
    twice : (b : Bool) → b && b ≡ b
    twice true = refl
    twice false = refl

module _ (words : ℕ → List ℕ) (ranks rounds phases : ℕ) where
  goes : GoesByPhase (gather words ranks rounds phases) phases
  goes = record {
    ordered = names-ascend ranks 0 (replicate phases (is_sent rounds));
    from_rank = λ n s. (between ranks (replicate phases (is_sent rounds)) n s).1;
    to_rank = λ n s. (between ranks (replicate phases (is_sent rounds)) n s).2;
    below = λ n s. subst (λ k. n.phase < k) (length-replicate phases (is_sent rounds)) (between ranks (replicate phases (is_sent rounds)) n s).0;
    waits = λ n. refl;
    made_of_before = λ n given. ap (told (words n.from) n) (sym (only_only (gather_before ranks rounds phases n) given));
    by_phase = λ n g h same.
        ap (λ ls. words n.from ++ told_part n (flat_map (λ (l : Letter). l.1) ls))
        (arrivals-only (gather words ranks rounds phases) n refl 0 g ∙ ap (only (gather_before ranks rounds phases n)) (same 0)
        ∙ sym (arrivals-only (gather words ranks rounds phases) n refl 0 h));
  }

  pub gather-protocol : IsProtocol (gather words ranks rounds phases)
  gather-protocol = goes-protocol (gather words ranks rounds phases) phases goes

  pub gather-phased : IsPhased (gather words ranks rounds phases) phases
  gather-phased = goes-phased (gather words ranks rounds phases) phases goes

-- What a rank tells and hears.
use Rattle.std.proofs.Common.{◌≡◌, ℕ, ◌<◌, ◌≤◌, ◌+◌, ◌^◌, ◌&&◌, ◌==◌, Bool, true, false, cond, if◌then◌else◌, List, [], ◌∷◌, ◌++◌, refl, sym, ap, ◌∙◌, subst, arith, append-nil, append_assoc}
use Rattle.std.specs.Prelude.{Some}
use Rattle.std.specs.List.{flat_map}
use Rattle.std.proofs.lemmas.Bool.{eq-eqb}
use Rattle.std.proofs.lemmas.Bool.Decides.{nat_tests}
use Rattle.outside.specs.declared.name.Name.{Name}
use Rattle.peers.specs.Protocols.{Letter, Protocol, only}
use Rattle.peers.specs.Peers.{PeerState}
use Rattle.rank_phases.specs.FirstLetters.{AreLettersTo}
use Rattle.rank_phases.specs.Phases.{arrivals}
use Rattle.rank_phases.specs.PhasedPeers.{IsResult}
use Rattle.rank_phases.specs.Stages.{Stage, CanAbsorb, CanSend, absorbing}
use Rattle.rank_phases.proofs.Absorbed.{arrivals-absorbed}
use Rattle.rank_phases.proofs.Given.{letters-more}
use Rattle.rank_phases.proofs.PhaseProtocols.{arrivals-known}
use Rattle.byte_pool.specs.Leases.{Leases, with_lease}
use Rattle.byte_pool.proofs.Pools.{with_lease-same}
use Rattle.gather_example.specs.Gathers.{gather, gather_before, heard, told_part}
use Rattle.gather_example.specs.Tellers.{IsTeller}
use Rattle.gather_example.specs.declared.teller.Teller.{Teller}

-- What it tells

part_same : (n : Name) (a b : List ℕ) → (0 < n.phase → a ≡ b) → told_part n a ≡ told_part n b
part_same n a b same = go (n.phase == 0) refl
  where
    go : (t : Bool) → (n.phase == 0) ≡ t → (if t then [] else a) ≡ (if t then [] else b)
    go true e = refl
    go false e = same (grind (arith, nat_tests, e))

pub tells : (worker : Teller) (s : Stage) (n : Name) → IsTeller worker s → CanSend s n →
    worker.word.items ++ told_part n worker.heard.items ≡ s.protocol.content n s.absorbed
tells worker s n is send =
    (λ i. sym word i ++ part_same n worker.heard.items (heard n.from (only (gather_before worker.ranks worker.rounds worker.phases n) s.absorbed)) said i)
    ∙ sym (ap (λ (Q : Protocol). Q.content n s.absorbed) is.protocol)
  where
    P : Protocol
    P = gather is.words worker.ranks worker.rounds worker.phases

    word : is.words n.from ≡ worker.word.items
    word = ap is.words (send.from ∙ sym is.rank) ∙ is.word

    letters : AreLettersTo (gather is.words worker.ranks worker.rounds worker.phases) n.from s.absorbed
    letters = subst (λ r. AreLettersTo (gather is.words worker.ranks worker.rounds worker.phases) r s.absorbed) (sym send.from) (subst (λ Q. AreLettersTo Q s.rank s.absorbed) is.protocol is.letters)

    said : 0 < n.phase → worker.heard.items ≡ heard n.from (only (gather_before worker.ranks worker.rounds worker.phases n) s.absorbed)
    said later =
        is.hears ∙ ap (λ r. heard r s.absorbed) (sym send.from)
        ∙ ap (flat_map (λ (l : Letter). l.1)) (sym (arrivals-known (gather is.words worker.ranks worker.rounds worker.phases) n refl s.absorbed letters 0 later))

-- What it hears

-- with one more letter
heard-more : (rank : ℕ) (ls : List Letter) (l : Letter) →
    heard rank (ls ++ l ∷ []) ≡ heard rank ls ++ (if (l.0.phase == 0) && (l.0.to == rank) then l.1 else [])
heard-more rank [] l = go ((l.0.phase == 0) && (l.0.to == rank))
  where
    go : (t : Bool) → flat_map (λ (k : Letter). k.1) (cond t (l ∷ []) []) ≡ (if t then l.1 else [])
    go true = append-nil l.1
    go false = refl
heard-more rank (k ∷ ks) l = go ((k.0.phase == 0) && (k.0.to == rank)) (heard-more rank ks l)
  where
    go : (t : Bool) → heard rank (ks ++ l ∷ []) ≡ heard rank ks ++ (if (l.0.phase == 0) && (l.0.to == rank) then l.1 else []) →
        flat_map (λ (j : Letter). j.1) (cond t (k ∷ arrivals 0 rank (ks ++ l ∷ [])) (arrivals 0 rank (ks ++ l ∷ [])))
        ≡ flat_map (λ (j : Letter). j.1) (cond t (k ∷ arrivals 0 rank ks) (arrivals 0 rank ks)) ++ (if (l.0.phase == 0) && (l.0.to == rank) then l.1 else [])
    go true more = ap (λ h. k.1 ++ h) more ∙ sym (append_assoc k.1 (heard rank ks) (if (l.0.phase == 0) && (l.0.to == rank) then l.1 else []))
    go false more = more

module _ (worker : Teller) (s : Stage) (name : Name) (bytes : List ℕ) (is : IsTeller worker s) (can : CanAbsorb s name bytes) where
  pub all_letters : AreLettersTo s.protocol s.rank (s.absorbed ++ (name, bytes) ∷ [])
  all_letters = letters-more s.protocol s.rank s.absorbed (name, bytes) is.letters can.is_letter

  pub hears_more : name.phase ≡ 0 → worker.heard.items ++ bytes ≡ heard s.rank (s.absorbed ++ (name, bytes) ∷ [])
  hears_more first =
      let zero : (name.phase == 0) ≡ true = eq-eqb name.phase 0 first in
      let to : (name.to == s.rank) ≡ true = eq-eqb name.to s.rank can.is_letter.to in
      ap (λ h. h ++ bytes) is.hears
      ∙ sym (heard-more s.rank s.absorbed (name, bytes) ∙ (λ i. heard s.rank s.absorbed ++ (if zero i && to i then bytes else [])))

  pub hears_no_more : (name.phase == 0) ≡ false → worker.heard.items ≡ heard s.rank (s.absorbed ++ (name, bytes) ∷ [])
  hears_no_more later =
      is.hears ∙ sym (heard-more s.rank s.absorbed (name, bytes)
      ∙ (λ i. heard s.rank s.absorbed ++ (if later i && (name.to == s.rank) then bytes else [])) ∙ append-nil (heard s.rank s.absorbed))

-- what a rank that worked has heard
pub heard_all : (worker : Teller) (s : PeerState) → IsResult IsTeller worker s → worker.heard.items ≡ heard s.me s.given
heard_all worker s r = r.stands_so.hears ∙ ap (flat_map (λ (l : Letter). l.1)) (arrivals-absorbed r.entered 0 s.me s.given r.some_entered)

-- the bytes of a new lease are those that are shown of it
pub block_is : (live now : Leases) (lease : ℕ) (bytes block : List ℕ) → now ≡ with_lease live lease bytes → now lease ≡ Some block → block ≡ bytes
block_is live now lease bytes block lent shown =
    let same : Some block ≡ Some bytes = sym shown ∙ ap (λ (f : Leases). f lease) lent ∙ with_lease-same live lease bytes in cc

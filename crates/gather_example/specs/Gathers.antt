-- Which letters the ranks send, and what is in them.
use Rattle.std.specs.Prelude.{ℕ, ◌==◌, ◌&&◌, ◌||◌, nat_lt, Bool, if◌then◌else◌, List, [], ◌++◌, Some, replicate}
use Rattle.std.specs.List.{filter, flat_map}
use Rattle.outside.specs.declared.name.Name.{Name}
use Rattle.peers.specs.Protocols.{Letter, Protocol, only}
use Rattle.rank_phases.specs.Pairs.{sent_names}
use Rattle.rank_phases.specs.Phases.{arrivals}

-- whether a letter between two different ranks is sent: in the first `rounds` phases each is, in later ones those to rank 0
abbrev pub is_sent : ℕ → Name → Bool
is_sent rounds n = nat_lt n.phase rounds || (n.to == 0)

abbrev pub gather_names : ℕ → ℕ → ℕ → List Name
gather_names ranks rounds phases = sent_names ranks 0 (replicate phases (is_sent rounds))

-- the letters to its sender of the phases before its own
abbrev pub gather_before : ℕ → ℕ → ℕ → Name → List Name
gather_before ranks rounds phases n = filter (λ m. (m.to == n.from) && nat_lt m.phase n.phase) (gather_names ranks rounds phases)

-- the bytes of the letters to a rank of phase 0, in the order given
abbrev pub heard : ℕ → List Letter → List ℕ
heard rank letters = flat_map (λ l. l.1) (arrivals 0 rank letters)

-- what is said behind the word: nothing in phase 0
abbrev pub told_part : Name → List ℕ → List ℕ
told_part n said = if n.phase == 0 then [] else said

-- a rank tells its word, and in each phase but the first what it heard in phase 0
abbrev pub told : List ℕ → Name → List Letter → List ℕ
told word n letters = word ++ told_part n (heard n.from letters)

-- The protocol of so many ranks, rounds among all of them, and phases, where each rank has its word. Its one result is what
-- it heard.
abbrev pub gather : (ℕ → List ℕ) → ℕ → ℕ → ℕ → Protocol
gather words ranks rounds phases = record {
  ranks = ranks;
  names = gather_names ranks rounds phases;
  before = gather_before ranks rounds phases;
  content = λ n letters. told (words n.from) n (only (gather_before ranks rounds phases n) letters);
  results = λ rank letters v i j. Some (heard rank letters);
}

use Rattle.std.proofs.Common.{◌≡◌, ◌⊎◌, ◌∙◌, inl, inr, ℕ, List, []}
use Rattle.tpx.proofs.system.run_on_system.Goals as goal

-- all names have one count
one_count : (code status old new : ℕ) → code ≡ status → (status ≡ 3) ⊎ ((name : List ℕ) → new ≡ old) → (code ≡ 3) ⊎ (new ≡ old)
one_count code status old new e (inl is) = inl (e ∙ is)
one_count code status old new e (inr same) = inr (same [])

pub returns-clause-no_read_fault : goal.returns-clause-no_read_fault
returns-clause-no_read_fault g c = one_count _ c.top.result c.args.files.now c.top.new.files c.from.ensures c.top.ensures.no_read_fault

use Rattle.std.proofs.Common.{◌≡◌, ◌∙◌, ap, sym, cond, Some}
use Rattle.std.specs.BTreeMap.{BTreeMap, get}
use Rattle.std.specs.Map.{lookup}
use Rattle.std.specs.Prelude.{ℕ}
use Rattle.outside.specs.declared.name.Name.{Name}
use Rattle.outside.specs.Letters.{same_name}
use Rattle.outside.proofs.Names.{is_eq-name_cmp, name_cmp}
use Rattle.rank_core.proofs.counts.EntryCounts.put.Goals as goal

-- a count is found where the map has its name
looked-up : (m : BTreeMap Name ℕ) (n : Name) → lookup (same_name n) m.entries ≡ get name_cmp m n
looked-up m n = ap (λ t. lookup t m.entries) (λ i k. sym (is_eq-name_cmp n k) i)

pub returns : goal.returns
returns c = record {
  put = λ n.
      looked-up c.insert.new.self n
      ∙ c.in_ok-insert.ensures.updates.0 n
      ∙ (λ t. cond (is_eq-name_cmp c.args.name n t) (Some c.args.count) (sym (looked-up c.args.self.now.by_name n) t));
}

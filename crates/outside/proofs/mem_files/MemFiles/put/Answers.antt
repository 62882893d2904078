use Rattle.std.proofs.Common.{rules, ◌∙◌, ap}
use Rattle.outside.specs.MemFiles.{file_of}
use Rattle.outside.proofs.FileLookups.{file_of-insert_same, file_of-insert_other}
use Rattle.outside.proofs.mem_files.MemFiles.put.Goals as goal

pub returns-clause-stored : goal.returns-clause-stored
returns-clause-stored c =
    file_of-insert_same c.in_ok-key.key c.in_ok-value.value c.self.inside.files c.insert.new.self
    c.in_ok-insert.ensures.updates c.args.name.now c.args.bytes.now (search rules) (search rules)

pub returns-clause-others : goal.returns-clause-others
returns-clause-others c = λ n differs.
    file_of-insert_other c.in_ok-key.key c.in_ok-value.value c.self.inside.files c.insert.new.self
    c.in_ok-insert.ensures.updates c.args.name.now n (search rules) differs
    ∙ ap (λ m. file_of m.files n) c.self.view_is

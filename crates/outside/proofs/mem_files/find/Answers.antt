use Rattle.std.proofs.Common.{ap}
use Rattle.std.specs.Option.{option_map}
use Rattle.outside.proofs.FileLookups.{file_of-map}
use Rattle.outside.proofs.mem_files.find.Goals as goal

pub returns : goal.returns
returns c = rw file_of-map (ap (option_map (λ v. v.items)) c.get.ensures.value)

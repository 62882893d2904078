use Rattle.run_words.specs.Seen.{order_view}
use Rattle.run_input.proofs.Giving.{order-fault}
use Rattle.run_input.proofs.Walking.{read-valid}
use Rattle.run_input.proofs.texts.read_texts.Goals as goal

pub returns-in-Err-read_order-clause-fault : goal.returns-in-Err-read_order-clause-fault
returns-in-Err-read_order-clause-fault g c =
    order-fault (g.F.Files.told c.args.files.now) _ c.args.name.now (order_view c.args.asked) c.in-Ok.read.0 c.in-Ok.read.1 c.in-Err-read_order.fault
    c.in-Ok.ensures.reads.same_files c.in-Ok.ensures.named c.in-Ok.ensures.job c.in-Err-read_order.ensures.fault

pub returns-clause-valid : goal.returns-clause-valid
returns-clause-valid g c = read-valid _ c.in-Ok.read.0 c.in-Ok.ensures.job

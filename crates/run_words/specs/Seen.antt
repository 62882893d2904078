-- The values behind the references of what the words give.
use Rattle.run_words.specs.declared.words.RunWords.{RunWords}
use Rattle.run_words.specs.declared.checks.OrderWord.{OrderWord}
use Rattle.run_words.specs.declared.checks.OrderWord.TheVariants as code
use Rattle.run_words.specs.Given.{RunCommand, DeliveryOrder, fifo, lifo, seeded, listed}

abbrev pub order_view : OrderWord → DeliveryOrder
order_view code.Fifo = fifo
order_view code.Lifo = lifo
order_view (code.Seed n) = seeded n
order_view (code.Listed file) = listed file.now

abbrev pub words_view : RunWords → RunCommand
words_view r = record { job = r.job.now; order = order_view r.order; traffic = r.traffic }

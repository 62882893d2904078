use Rattle.byte_pool.proofs.FullBlocks.{free-of, freed-full, lent-full, more-full, room-of}
use Rattle.byte_pool.proofs.laws.room_is_enough.Goals as goal

pub returns-clause-room : goal.returns-clause-room
returns-clause-room c = λ len blocks full few.
    let free = free-of len blocks full few in
    (room-of len blocks free, λ after lease bytes least long live sizes. lent-full len blocks after lease bytes full free least long live sizes)

pub returns-clause-kept : goal.returns-clause-kept
returns-clause-kept c = λ blocks after full. (λ lease live sizes. freed-full blocks after lease full live sizes, λ size count. more-full blocks size count full)

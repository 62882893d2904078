-- What follows where a call succeeded.
use Rattle.std.specs.Prelude.{Result, Ok, Err, OnOk}

pub all_three : {T E A B C D : Type 0} (r : Result T E) → OnOk r A → OnOk r B → OnOk r C → (A → B → C → D) → OnOk r D
all_three (Ok x) a b c f = f a b c
all_three (Err e) a b c f = tt

pub all_four : {T E A B C D G : Type 0} (r : Result T E) → OnOk r A → OnOk r B → OnOk r C → OnOk r D → (A → B → C → D → G) → OnOk r G
all_four (Ok x) a b c d f = f a b c d
all_four (Err e) a b c d f = tt

pub ok-weaker : {T E A B : Type 0} (r : Result T E) → (A → B) → OnOk r A → OnOk r B
ok-weaker (Ok x) f a = f a
ok-weaker (Err e) f a = tt

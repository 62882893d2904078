-- What calls answer, as their contracts say it.
use Rattle.std.proofs.Common.{Result, Ok, Err, IfOk}
use Rattle.std.specs.Prelude.{OnOk}

pub if-ok : {T E : Type 0} {P Q : T → Type 0} (r : Result T E) → IfOk r P → ((x : T) → P x → Q x) → IfOk r Q
if-ok (Ok x) p f = f x p
if-ok (Err e) p f = tt

pub if-both : {T E : Type 0} {P Q Z : T → Type 0} (r : Result T E) → IfOk r P → IfOk r Q → ((x : T) → P x → Q x → Z x) → IfOk r Z
if-both (Ok x) p q f = f x p q
if-both (Err e) p q f = tt

pub on-ok : {T E : Type 0} {P Q : Type 0} (r : Result T E) → OnOk r P → (P → Q) → OnOk r Q
on-ok (Ok x) p f = f p
on-ok (Err e) p f = tt

pub on-both : {T E : Type 0} {P Q Z : Type 0} (r : Result T E) → OnOk r P → OnOk r Q → (P → Q → Z) → OnOk r Z
on-both (Ok x) p q f = f p q
on-both (Err e) p q f = tt

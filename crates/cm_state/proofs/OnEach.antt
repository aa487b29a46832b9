-- A fact of an answer leads to another.
use Rattle.std.specs.Prelude.{Result, Ok, Err, OnOk}

-- a result that is an Ok has what each Ok has
pub on_each : {T E : Type 0} {P Q : Type 0} → (P → Q) → (r : Result T E) → OnOk r P → OnOk r Q
on_each f (Ok x) p = f p
on_each f (Err e) p = tt

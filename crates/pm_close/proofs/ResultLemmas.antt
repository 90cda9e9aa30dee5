-- What holds of an answer.
use Rattle.std.specs.Prelude.{Option, Some, None, Result, Ok, Err, IfOk, IfSome}

pub if_ok-map : {A E : Type 0} (P Q : A → Type 0) (r : Result A E) → ((a : A) → P a → Q a) → IfOk r P → IfOk r Q
if_ok-map P Q (Ok a) more is = more a is
if_ok-map P Q (Err e) more is = is

pub if_some-map : {A : Type 0} (P Q : A → Type 0) (o : Option A) → ((a : A) → P a → Q a) → IfSome o P → IfSome o Q
if_some-map P Q (Some a) more is = more a is
if_some-map P Q None more is = is

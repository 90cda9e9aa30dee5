-- What a request is given.
use Rattle.std.specs.Prelude.{ℕ, false, List, [], Option, Some, None}
use Rattle.pm_base.specs.declared.code.Code.{Code}
use Rattle.pm_base.specs.declared.code.Code.TheVariants.{MEM}
use Rattle.pm_history.specs.declared.entry.Entry.{Entry}
use Rattle.pm_http.specs.declared.reply.Reply.{Reply}
use Rattle.pm_state.specs.Status.{status_of}

-- The reply, and the entries that come after its Now or Boot.
pub record Given : Type 0 where
  pub reply : Reply
  pub entries : List Entry

abbrev pub ok : ℕ → List ℕ → Reply
ok status body = record { status = status; code = None; line = 0; allow = []; body = body; head = false }

-- A refusal, at a line of a batch of events; else at line 0.
abbrev pub refused_at : Code → ℕ → Reply
refused_at code line = record { status = status_of code; code = Some code; line = line; allow = []; body = []; head = false }

abbrev pub refused : Code → Reply
refused code = refused_at code 0

-- A refusal adds nothing.
abbrev pub gives_refusal : Code → Given
gives_refusal code = record { reply = refused code; entries = [] }

-- The reply that there is no memory.
abbrev pub no_memory : Reply
no_memory = refused MEM

abbrev pub or_empty : Option (List ℕ) → List ℕ
or_empty None = []
or_empty (Some text) = text

-- What a reply says to a collector (this project's own).
use Rattle.std.specs.Prelude.{◌≡◌, ◌≢◌, ◌<◌, ℕ, List, length}
use Rattle.pm_http.specs.Answer.{IsAnswer}
use Rattle.pm_fetch.specs.declared.reply.Said.{Said}
use Rattle.pm_fetch.specs.declared.reply.Said.TheVariants.{Body, Absent, Nothing}
use Rattle.pm_fetch.specs.declared.reply.TheConstants.{MOST_REPLY}

-- The bytes are a whole reply with this status and body, and fewer than are read at the most.
pub record IsReply (bytes : List ℕ) (status : ℕ) (body : List ℕ) : Type 0 where
  pub answer : IsAnswer bytes status body
  pub few : length bytes < MOST_REPLY

-- The bytes are no such reply with this status.
abbrev pub IsNoReply : List ℕ → ℕ → Type 0
IsNoReply bytes status = (body : List ℕ) → IsReply bytes status body → ⊥

-- What the bytes say.
abbrev pub Says : List ℕ → Said → Type 0
Says bytes (Body body) = IsReply bytes 200 body
Says bytes Absent = (body : List ℕ) × IsReply bytes 404 body
Says bytes Nothing = IsNoReply bytes 200 × IsNoReply bytes 404

-- What a reply of this status and with this body says.
abbrev pub IsSaid : ℕ → List ℕ → Said → Type 0
IsSaid status body (Body text) = (status ≡ 200) × (text ≡ body)
IsSaid status body Absent = status ≡ 404
IsSaid status body Nothing = (status ≢ 200) × (status ≢ 404)

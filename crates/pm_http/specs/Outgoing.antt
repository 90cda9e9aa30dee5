-- A text on its way to a sink (this project's own).
use Rattle.std.specs.Prelude.{◌≡◌, ◌≤◌, ℕ, Bool, true, false, List, ◌++◌, length, take}
use Rattle.pm_http.specs.declared.outgoing.Outgoing.{Outgoing}

-- What was put and what is held are the whole text, or after a fault some of its first bytes are put.
abbrev pub OnWay : Bool → List ℕ → List ℕ → List ℕ → List ℕ → Type 0
OnWay false start text written held = (front : List ℕ) × (written ≡ start ++ front) × (text ≡ front ++ held)
OnWay true start text written held = (n : ℕ) × (n ≤ length text) × (written ≡ start ++ take n text)

abbrev pub IsOnWay : List ℕ → List ℕ → List ℕ → Outgoing → Type 0
IsOnWay start text written out = OnWay out.failed start text written out.held.items

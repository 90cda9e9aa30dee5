-- The words of the command line: `tally`, `run --boot M [--workers W]`, or `collect --port P` (this project's own).
use Rattle.std.specs.Prelude.{ℕ, ◌≡◌, ◌≤◌, ◌&&◌, Bool, List, [], ◌∷◌, ◌++◌, length, take, drop, nat_le, codes, if◌then◌else◌, Option, Some, None}
use Rattle.std.specs.Str.{bytes_eq}
use Rattle.pm_base.specs.Moment.{IsMoment}
use Rattle.pm_base.specs.Number.{is_number, is_moment, number_of}
use Rattle.pm_top.specs.declared.words.Command.{Command}
use Rattle.pm_top.specs.declared.words.Command.TheVariants.{Tally, Run, Collect}

-- A value, and the words after it.
pub record Valued : Type 0 where
  pub value : List ℕ
  pub rest : List (List ℕ)

-- The first word is the value.
abbrev pub next_value : List (List ℕ) → Option Valued
next_value [] = None
next_value (word ∷ words) = Some record { value = word; rest = words }

-- The value is what follows these bytes in the word.
abbrev pub joined_value : List ℕ → List ℕ → List (List ℕ) → Option Valued
joined_value front word words =
    if bytes_eq (take (length front) word) front then Some record { value = drop (length front) word; rest = words } else None

-- The value of the option of this name at the front of the words: `NAME VALUE`, or `NAME=VALUE` as one word.
abbrev pub value_at : List ℕ → List (List ℕ) → Option Valued
value_at name [] = None
value_at name (word ∷ words) = if bytes_eq word name then next_value words else joined_value (name ++ 61 ∷ []) word words

-- The value, where no word is left after it.
abbrev pub value_alone : List ℕ → List (List ℕ) → Option (List ℕ)
value_alone value [] = Some value
value_alone value (word ∷ words) = None

abbrev pub if_last : Option Valued → Option (List ℕ)
if_last None = None
if_last (Some valued) = value_alone valued.value valued.rest

-- 1 to 16 workers.
abbrev pub are_workers : List ℕ → Bool
are_workers bytes = is_number 12 bytes && (nat_le 1 (number_of bytes) && nat_le (number_of bytes) 16)

abbrev pub run_with : List ℕ → List ℕ → Option Command
run_with boot workers = if is_moment boot && are_workers workers then Some (Run (number_of boot) (number_of workers)) else None

abbrev pub run_if : Option (List ℕ) → Option (List ℕ) → Option Command
run_if (Some boot) (Some workers) = run_with boot workers
run_if _ _ = None

-- After `--boot` come `--workers`, or none: then there are 4.
abbrev pub run_from : List ℕ → List (List ℕ) → Option Command
run_from boot [] = run_with boot (codes "4")
run_from boot (word ∷ words) = run_if (Some boot) (if_last (value_at (codes "--workers") (word ∷ words)))

-- After `--workers` comes `--boot`.
abbrev pub run_after : Option Valued → Option Command
run_after None = None
run_after (Some workers) = run_if (if_last (value_at (codes "--boot") workers.rest)) (Some workers.value)

abbrev pub run_by : List (List ℕ) → Option Valued → Option Command
run_by words (Some boot) = run_from boot.value boot.rest
run_by words None = run_after (value_at (codes "--workers") words)

-- The options of `run`, each at most once and in any order.
abbrev pub run_of : List (List ℕ) → Option Command
run_of words = run_by words (value_at (codes "--boot") words)

abbrev pub tally_of : List (List ℕ) → Option Command
tally_of [] = Some Tally
tally_of (word ∷ words) = None

-- A port is 1 to 65535.
abbrev pub is_port : List ℕ → Bool
is_port bytes = is_number 12 bytes && (nat_le 1 (number_of bytes) && nat_le (number_of bytes) 65535)

abbrev pub collect_at : List ℕ → Option Command
collect_at port = if is_port port then Some (Collect (number_of port)) else None

abbrev pub collect_if : Option (List ℕ) → Option Command
collect_if None = None
collect_if (Some port) = collect_at port

abbrev pub collect_of : List (List ℕ) → Option Command
collect_of words = collect_if (if_last (value_at (codes "--port") words))

-- What the words ask for. None where they are those of no command.
abbrev pub command_of : List (List ℕ) → Option Command
command_of [] = None
command_of (word ∷ words) =
    if bytes_eq word (codes "run") then run_of words
    else if bytes_eq word (codes "collect") then collect_of words
    else if bytes_eq word (codes "tally") then tally_of words
    else None

-- The numbers of a command are in their ranges.
abbrev pub IsAsked : Command → Type 0
IsAsked Tally = Unit {0}
IsAsked (Run boot workers) = IsMoment boot × (1 ≤ workers) × (workers ≤ 16)
IsAsked (Collect port) = (1 ≤ port) × (port ≤ 65535)

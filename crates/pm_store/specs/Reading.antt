-- Which item bytes are, read from the front.
use Rattle.std.specs.Prelude.{ℕ, ◌≡◌, ◌==◌, List, Option, Some, None, IsSome, Result, Ok, Err, if◌then◌else◌}
use Rattle.std.specs.Option.{option_map}
use Rattle.pm_store.specs.declared.error.StoreError.{StoreError}
use Rattle.pm_store.specs.declared.error.StoreError.TheVariants.{Bad, Memory}
use Rattle.pm_store.specs.declared.item.Item1.{Item1}
use Rattle.pm_store.specs.declared.item.Item1.TheVariants.{Boot, Booked, JobMade, JobState, JobDeleted, MonitorMade, MonitorState, MonitorDeleted, Subscribed, Unsubscribed}
use Rattle.pm_store.specs.Format.{◌>>=◌, whole, short}
use Rattle.pm_store.specs.Item.{head, opened, booked, made, moved, subscribed}

-- The item of a kind and a moment whose fields are all of these bytes.
abbrev pub item_of_kind : ℕ → ℕ → List ℕ → Option Item1
item_of_kind kind moment bs =
    if kind == 1 then option_map (λ f. Boot moment f.0 f.1) (whole opened bs)
    else if kind == 2 then option_map (λ f. Booked moment f.0 f.1.0 f.1.1) (whole booked bs)
    else if kind == 3 then option_map (λ f. JobMade moment f.0 f.1) (whole made bs)
    else if kind == 4 then option_map (λ f. JobState moment f.0 f.1) (whole moved bs)
    else if kind == 5 then option_map (λ id. JobDeleted moment id) (whole short bs)
    else if kind == 6 then option_map (λ f. MonitorMade moment f.0 f.1) (whole made bs)
    else if kind == 7 then option_map (λ f. MonitorState moment f.0 f.1) (whole moved bs)
    else if kind == 8 then option_map (λ id. MonitorDeleted moment id) (whole short bs)
    else if kind == 9 then option_map (λ f. Subscribed moment f.0 f.1.0 f.1.1) (whole subscribed bs)
    else if kind == 10 then option_map (λ id. Unsubscribed moment id) (whole short bs)
    else None

-- The item that the bytes are.
abbrev pub item_at : List ℕ → Option Item1
item_at bs = head.read bs >>= λ h. item_of_kind h.0.0 h.0.1 h.1

-- A call answers what was read, Bad where nothing was, and that memory is out only where something was.
abbrev pub Answers : {A : Type 0} → Result A StoreError → Option A → Type 0
Answers (Ok x) read = read ≡ Some x
Answers (Err Bad) read = read ≡ None
Answers (Err Memory) read = IsSome read

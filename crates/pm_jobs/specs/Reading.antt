-- What bytes say, and the rule that they break where they say nothing.
use Rattle.std.specs.Prelude.{◌≡◌, ℕ, ◌&&◌, Bool, false, List, [], ◌∷◌, codes, if◌then◌else◌, Option, Some, None, is_some, unwrap_or, option_map, option_and_then, Result, Ok, Err}
use Rattle.serde_json.specs.Data.{Data, Members}
use Rattle.serde_json.specs.Find.{get_member, as_object}
use Rattle.pm_asked.specs.Body.{MOST_PERIOD}
use Rattle.pm_asked.specs.BodyReading.{has_only, state_of, state_in, names_in, number_in, monitor_keys, tree_of}
use Rattle.pm_jobs.specs.declared.error.BodyError.{BodyError}
use Rattle.pm_jobs.specs.declared.error.BodyError.TheVariants.{J1, J11, Memory}

-- Whether a monitor's body is right but for the value of its list of thresholds, which is there.
abbrev pub is_right_but_for_thresholds : Members → Bool
is_right_but_for_thresholds ms =
    has_only monitor_keys ms
    && is_some (state_in ms)
    && is_some (number_in MOST_PERIOD (codes "monitorGranularityPeriod") ms)
    && is_some (names_in (codes "objectInstances") ms)
    && is_some (names_in (codes "rootObjectInstances") ms)
    && is_some (get_member (codes "thresholdInfoList") ms)

-- The first rule that a tree breaks, where it is no monitor's body.
abbrev pub tree_rule : Data → BodyError
tree_rule d = if unwrap_or (option_map is_right_but_for_thresholds (as_object d)) false then J11 else J1

-- The first rule that the text of a monitor breaks, where it says no body.
abbrev pub monitor_rule : List ℕ → BodyError
monitor_rule text = unwrap_or (option_map tree_rule (tree_of text)) J1

-- The state alone, which is `LOCKED` or `UNLOCKED`.
abbrev pub state_members : Members → Option Bool
state_members ms =
    if has_only (codes "administrativeState" ∷ []) ms then
    option_and_then state_of (get_member (codes "administrativeState") ms)
    else None

abbrev pub state_tree : Data → Option Bool
state_tree d = option_and_then state_members (as_object d)

abbrev pub state_body : List ℕ → Option Bool
state_body text = option_and_then state_tree (tree_of text)

-- The result is what is said; or nothing is said, and this is the rule that is broken. Too little memory says nothing.
abbrev pub Reads : {T A : Type 0} → Result T BodyError → (T → A) → Option A → BodyError → Type 0
Reads (Ok t) f said rule = said ≡ Some (f t)
Reads (Err J1) f said rule = (said ≡ None) × (rule ≡ J1)
Reads (Err J11) f said rule = (said ≡ None) × (rule ≡ J11)
Reads (Err Memory) f said rule = Unit {0}

-- A map of keys and their sums.
use Rattle.std.specs.Prelude.{◌≡◌, ◌≤◌, ℕ, ◌*◌, ◌-◌, ◌^◌, Bool, List, [], length, is_some}
use Rattle.std.specs.BTreeMap.{BTreeMap, get_by}
use Rattle.std.specs.Option.{unwrap_or}
use Rattle.pm_kpi.specs.Key.{KeyContent, key_content, key_cmp}
use Rattle.pm_kpi.specs.Rows.{ShareContent}
use Rattle.pm_kpi.specs.Totals.{totals_of, totals_at}
use Rattle.pm_kpi.specs.declared.key.Key.{Key}
use Rattle.pm_kpi.specs.declared.totals.Totals.{Totals}

-- The map has this key.
abbrev pub has_key : BTreeMap Key Totals → KeyContent → Bool
has_key sums q = is_some (get_by (λ k. key_cmp q (key_content k)) sums)

-- The sums of this key: those of no row where the map lacks it.
abbrev pub sums_at : BTreeMap Key Totals → KeyContent → Totals
sums_at sums q = unwrap_or (get_by (λ k. key_cmp q (key_content k)) sums) (totals_of [])

-- The two have the same sums.
abbrev pub HasSame : BTreeMap Key Totals → BTreeMap Key Totals → Type 0
HasSame old new = (q : KeyContent) → sums_at new q ≡ sums_at old q

-- A sum of so many shares is within its bound.
pub record IsWithin (count : ℕ) (t : Totals) : Type 0 where
  pub above : t.above ≤ count * (8 * (2 ^ 64 - 1))
  pub below : t.below ≤ count * (8 * (2 ^ 64 - 1))

-- The map has the sums of these shares.
pub record Holds (sums : BTreeMap Key Totals) (shares : List ShareContent) : Type 0 where
  pub each : (q : KeyContent) → sums_at sums q ≡ totals_at shares q
  pub within : (q : KeyContent) → IsWithin (length shares) (sums_at sums q)

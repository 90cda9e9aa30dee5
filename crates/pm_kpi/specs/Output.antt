-- The lines of keys (this project's own).
use Rattle.std.specs.Prelude.{◌≡◌, ◌*◌, ◌/◌, ◌==◌, ℕ, List, [], ◌∷◌, ◌++◌, codes, slice_get, if◌then◌else◌}
use Rattle.std.specs.List.{list_any, flat_map, join_with_byte}
use Rattle.std.specs.List.Sorted.{IsStrictlySortedBy}
use Rattle.std.specs.Fmt.{decimal}
use Rattle.std.specs.Option.{option_map_or}
use Rattle.pm_file.specs.Content.{ReportContent}
use Rattle.pm_kpi.specs.Ratio.{RatioContent}
use Rattle.pm_kpi.specs.Key.{KeyContent, key_eq, key_cmp}
use Rattle.pm_kpi.specs.Rows.{AskedContent, ShareContent, shares_of}
use Rattle.pm_kpi.specs.Totals.{totals_at}
use Rattle.pm_kpi.specs.declared.by.By.{By}
use Rattle.pm_kpi.specs.declared.by.By.TheVariants.{Period, Object, All}
use Rattle.pm_kpi.specs.declared.totals.Totals.{Totals}

-- A moment, which `-` stands for where the parts are joined.
abbrev pub moment_word : By → ℕ → List ℕ
moment_word Period moment = decimal moment
moment_word Object moment = codes "-"
moment_word All moment = codes "-"

-- An object, which `-` stands for where the objects are joined.
abbrev pub object_word : By → List ℕ → List ℕ
object_word Period object = object
object_word Object object = object
object_word All object = codes "-"

-- The name of the ratio of this number.
abbrev pub name_word : List RatioContent → ℕ → List ℕ
name_word ratios number = option_map_or (λ (r : RatioContent). r.name) (slice_get ratios number) []

-- The ratio of the sums in parts per million, rounded down; null where the denominators' sum is 0.
abbrev pub value_word : Totals → List ℕ
value_word t = if t.below == 0 then codes "null" else decimal (t.above * 1000000 / t.below)

abbrev pub flag_word : Totals → List ℕ
flag_word t = if t.suspect then codes "suspect" else codes "ok"

-- The line of a key with these sums: `JOB BEGIN END LDN NAME VALUE FLAG` and a line feed.
abbrev pub key_line : By → List RatioContent → KeyContent → Totals → List ℕ
key_line by ratios key t =
    join_with_byte 32 (key.job ∷ moment_word by key.begin ∷ moment_word by key.end ∷ object_word by key.object
    ∷ name_word ratios key.ratio ∷ value_word t ∷ flag_word t ∷ []) ++ 10 ∷ []

-- These are the keys that stand, in their order.
pub record AreKeys (shares : List ShareContent) (keys : List KeyContent) : Type 0 where
  pub rising : IsStrictlySortedBy key_cmp keys
  pub same : (q : KeyContent) → list_any (key_eq q) keys ≡ (totals_at shares q).stands

-- The text is that of the keys over the rows of these reports.
pub record IsOutput (asked : AskedContent) (reports : List ReportContent) (text : List ℕ) : Type 0 where
  pub keys : List KeyContent
  pub are : AreKeys (shares_of asked reports) keys
  pub lines : text ≡ flat_map (λ key. key_line asked.by asked.ratios key (totals_at (shares_of asked reports) key)) keys

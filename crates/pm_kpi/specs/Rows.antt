-- The rows of reports, and what each adds to the sums of its key (this project's own).
use Rattle.std.specs.Prelude.{ℕ, ◌&&◌, ◌||◌, Bool, List, [], map, bytes_eq, nat_le, position, slice_get, Option, Some, None, is_some, if◌then◌else◌}
use Rattle.std.specs.List.{list_any, list_all, flat_map, filter_map, enumerate_from, sum_by}
use Rattle.std.specs.Option.{option_and_then, unwrap_or}
use Rattle.pm_file.specs.Content.{RowContent, GroupContent, PartContent, ReportContent}
use Rattle.pm_kpi.specs.Ratio.{RatioContent}
use Rattle.pm_kpi.specs.Key.{KeyContent}
use Rattle.pm_kpi.specs.declared.by.By.{By}
use Rattle.pm_kpi.specs.declared.by.By.TheVariants.{Period, Object, All}
use Rattle.pm_kpi.specs.declared.adds.Adds.{Adds}

-- What is asked for: these ratios, over the parts between two moments, by what is joined.
pub record AskedContent : Type 0 where
  pub ratios : List RatioContent
  pub begin : ℕ
  pub end : ℕ
  pub by : By

-- A row, and what it stands under: the job of its report, the moments of its part, and the types of its group.
pub record PlacedRow : Type 0 where
  pub job : List ℕ
  pub begin : ℕ
  pub end : ℕ
  pub types : List (List ℕ)
  pub row : RowContent

abbrev pub rows_in_group : List ℕ → ℕ → ℕ → GroupContent → List PlacedRow
rows_in_group job begin end g = map (λ row. record { job = job; begin = begin; end = end; types = g.types; row = row }) g.rows

abbrev pub rows_in_part : List ℕ → PartContent → List PlacedRow
rows_in_part job p = flat_map (rows_in_group job p.begin p.end) p.groups

abbrev pub rows_in_report : ReportContent → List PlacedRow
rows_in_report r = flat_map (rows_in_part r.job) r.parts

-- The rows of these reports, in their order.
abbrev pub rows_of : List ReportContent → List PlacedRow
rows_of reports = flat_map rows_in_report reports

-- The result of a measurement, which is the one at its first place in the types.
abbrev pub result_at : List (Option ℕ) → Option ℕ → Option ℕ
result_at results place = option_and_then (λ i. option_and_then (λ (r : Option ℕ). r) (slice_get results i)) place

abbrev pub result_of : List (List ℕ) → List (Option ℕ) → List ℕ → Option ℕ
result_of types results measure = result_at results (position (bytes_eq measure) types)

-- The types have each of these measurements.
abbrev pub have_all : List (List ℕ) → List (List ℕ) → Bool
have_all types measures = list_all (λ m. list_any (bytes_eq m) types) measures

-- The row is one of the ratio: its part lies between the moments, and its types have each measurement of the ratio.
abbrev pub is_row_of : AskedContent → RatioContent → PlacedRow → Bool
is_row_of asked ratio r =
    nat_le asked.begin r.begin && nat_le r.end asked.end && have_all r.types ratio.above && have_all r.types ratio.below

-- No result of these measurements is null.
abbrev pub have_results : List (List ℕ) → List (Option ℕ) → List (List ℕ) → Bool
have_results types results measures = list_all (λ m. is_some (result_of types results m)) measures

-- The sum of their results.
abbrev pub sum_of : List (List ℕ) → List (Option ℕ) → List (List ℕ) → ℕ
sum_of types results measures = sum_by (λ m. unwrap_or (result_of types results m) 0) measures

-- What a row of a ratio adds. It is whole where no result that the ratio names is null.
abbrev pub adds_of : RatioContent → PlacedRow → Adds
adds_of ratio r = record {
  whole = have_results r.types r.row.results ratio.above && have_results r.types r.row.results ratio.below;
  above = sum_of r.types r.row.results ratio.above;
  below = sum_of r.types r.row.results ratio.below;
  suspect = r.row.suspect;
}

-- The key of a row, for the ratio of this number. What is joined is 0, or empty.
abbrev pub key_of : By → PlacedRow → ℕ → KeyContent
key_of Period r n = record { job = r.job; begin = r.begin; end = r.end; object = r.row.object; ratio = n }
key_of Object r n = record { job = r.job; begin = 0; end = 0; object = r.row.object; ratio = n }
key_of All r n = record { job = r.job; begin = 0; end = 0; object = []; ratio = n }

-- What a row adds, and to which key.
pub record ShareContent : Type 0 where
  pub key : KeyContent
  pub adds : Adds

-- The share of a row in the key of a ratio, which stands here with its number; none where the row isn't one of it.
abbrev pub share_of : AskedContent → PlacedRow → ℕ × RatioContent → Option ShareContent
share_of asked r ratio =
    if is_row_of asked ratio.1 r then Some (record { key = key_of asked.by r ratio.0; adds = adds_of ratio.1 r }) else None

-- Its shares in the keys of the ratios.
abbrev pub shares_of_row : AskedContent → PlacedRow → List ShareContent
shares_of_row asked r = filter_map (share_of asked r) (enumerate_from 0 asked.ratios)

-- The shares of the rows of these reports.
abbrev pub shares_of : AskedContent → List ReportContent → List ShareContent
shares_of asked reports = flat_map (shares_of_row asked) (rows_of reports)

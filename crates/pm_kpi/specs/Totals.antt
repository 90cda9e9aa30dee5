-- The sums of a key (this project's own).
use Rattle.std.specs.Prelude.{ℕ, ◌+◌, ◌-◌, ◌^◌, ◌||◌, true, cond, not, List, map, length, min, nat_lt, filter}
use Rattle.std.specs.List.{list_any, sum_by}
use Rattle.pm_kpi.specs.Key.{KeyContent, key_eq}
use Rattle.pm_kpi.specs.Rows.{ShareContent}
use Rattle.pm_kpi.specs.declared.adds.Adds.{Adds}
use Rattle.pm_kpi.specs.declared.totals.Totals.{Totals}

-- What these rows of a key sum to. The key stands where it has a row; only whole rows are added; it is suspect where some row is
-- suspect or isn't whole.
abbrev pub totals_of : List Adds → Totals
totals_of rows = record {
  stands = nat_lt 0 (length rows);
  above = sum_by (λ (a : Adds). a.above) (filter (λ (a : Adds). a.whole) rows);
  below = sum_by (λ (a : Adds). a.below) (filter (λ (a : Adds). a.whole) rows);
  suspect = list_any (λ (a : Adds). a.suspect || not a.whole) rows;
}

-- What the shares add to this key.
abbrev pub adds_in : KeyContent → List ShareContent → List Adds
adds_in key shares = map (λ (s : ShareContent). s.adds) (filter (λ (s : ShareContent). key_eq key s.key) shares)

-- The sums of this key.
abbrev pub totals_at : List ShareContent → KeyContent → Totals
totals_at shares key = totals_of (adds_in key shares)

-- What a sum is that stops at the greatest number of 128 bits.
abbrev pub plus_capped : ℕ → ℕ → ℕ
plus_capped a b = min (a + b) (2 ^ 128 - 1)

-- The sums with one row more.
abbrev pub plus : Totals → Adds → Totals
plus t a = record {
  stands = true;
  above = plus_capped t.above (cond a.whole a.above 0);
  below = plus_capped t.below (cond a.whole a.below 0);
  suspect = t.suspect || (a.suspect || not a.whole);
}

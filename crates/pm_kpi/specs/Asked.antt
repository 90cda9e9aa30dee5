-- What the program's values of a run say.
use Rattle.std.specs.Prelude.{ℕ, List, map, Vec}
use Rattle.std.specs.declared.alloc.Global.{Global}
use Rattle.pm_file.specs.Report.{row_content}
use Rattle.pm_file.specs.declared.report.Row.{Row}
use Rattle.pm_kpi.specs.Key.{key_content}
use Rattle.pm_kpi.specs.Ratios.{ratios_of}
use Rattle.pm_kpi.specs.Rows.{AskedContent, PlacedRow, ShareContent}
use Rattle.pm_kpi.specs.declared.by.By.{By}
use Rattle.pm_kpi.specs.declared.ratios.Ratios.{Ratios}
use Rattle.pm_kpi.specs.declared.rows.Asked.{Asked}
use Rattle.pm_kpi.specs.declared.rows.Place.{Place}
use Rattle.pm_kpi.specs.declared.share.Share.{Share}

abbrev pub asked_for : Ratios → ℕ → ℕ → By → AskedContent
asked_for ratios begin end by = record { ratios = ratios_of ratios; begin = begin; end = end; by = by }

abbrev pub asked_content : Asked → AskedContent
asked_content a = asked_for a.ratios.now a.begin a.end a.by

abbrev pub row_at : Place → Row → PlacedRow
row_at p r = record { job = p.job.now; begin = p.begin; end = p.end; types = p.types.now; row = row_content r }

abbrev pub share_content : Share → ShareContent
share_content s = record { key = key_content s.key; adds = s.adds }

abbrev pub shares_in : Vec Share Global → List ShareContent
shares_in shares = map share_content shares.items

-- A file's name says its end and its job, so that no two files of a history have one.
use Rattle.std.proofs.Common.{ℕ, zero, suc, ◌<◌, List, [], ◌∷◌, length, get_or, ap, arith}
use Rattle.pm_name.specs.FileName.{FileNameParts, IsFileName}
use Rattle.pm_name.proofs.FileNameLemmas.{IsFileName-one_name}
use Rattle.pm_inventory.specs.Inventory.{InventoryState}
use Rattle.pm_history.specs.History.{History}
use Rattle.pm_history.specs.Files.{Report, files_of}
use Rattle.pm_history.specs.Laws.{AreApart, AreDistinct}
use Rattle.pm_history.proofs.DistinctLemmas.{files_of-distinct}
use Rattle.pm_asked.specs.Asked.{terms_of}
use Rattle.pm_file.specs.Name.{report_name}
use Rattle.pm_ready.specs.Files.{said_by}
use Rattle.pm_ready.proofs.StepLemmas.{each_at}

apart : (rs : List Report) (i j : ℕ) (d : Report) → AreDistinct rs → i < j → j < length rs → AreApart (get_or rs i d) (get_or rs j d)
apart [] i j d distinct lt within = absurd (omega arith)
apart (r ∷ rs) zero zero d distinct lt within = absurd (omega arith)
apart (r ∷ rs) zero (suc j) d distinct lt within = each_at (AreApart r) rs j d distinct.0 (omega (arith, within))
apart (r ∷ rs) (suc i) zero d distinct lt within = absurd (omega (arith, lt))
apart (r ∷ rs) (suc i) (suc j) d distinct lt within = apart rs i j d distinct.1 (omega (arith, lt)) (omega (arith, within))

pub names-distinct : (inventory : InventoryState) (h : History) (name : List ℕ) (i j : ℕ) (d : Report) → i < j → j < length (files_of (terms_of inventory) h)
    → IsFileName name (report_name (said_by inventory (get_or (files_of (terms_of inventory) h) i d)))
    → IsFileName name (report_name (said_by inventory (get_or (files_of (terms_of inventory) h) j d))) → ⊥
names-distinct inventory h name i j d lt within one other =
    let files = files_of (terms_of inventory) h in
    let same = IsFileName-one_name name _ _ one other in
    let ends = ap (λ (p : FileNameParts). p.end) same in
    apart files i j d (files_of-distinct (terms_of inventory) h) lt within (omega (arith, ends)) (ap (λ (p : FileNameParts). p.job) same)

-- Whether the names of a listing's files are distinct, file by file.
use Rattle.std.proofs.Common.{◌≡◌, ℕ, zero, suc, ◌+◌, ◌<◌, ◌&&◌, ◌||◌, Bool, not, true, false, List, [], ◌∷◌, length, drop, get_or, refl, sym, ap, ◌∙◌, drop-cons, add-one, bytes_eq, arith}
use Rattle.std.specs.List.{list_any, All}
use Rattle.pm_notice.specs.declared.notice.FileInfo.{FileInfo}
use Rattle.pm_notice.specs.NoticeForm.{are_distinct}
use Rattle.pm_notice.specs.NoticeContent.{location_of, locations_of, IsFileInfo}

-- Paths are equal where names are.
among-locations : (name : List ℕ) (files : List FileInfo) → list_any (λ (f : FileInfo). bytes_eq name f.name) files ≡ list_any (bytes_eq (location_of name)) (locations_of files)
among-locations name [] = refl
among-locations name (f ∷ fs) = ap (λ (b : Bool). bytes_eq name f.name || b) (among-locations name fs)

distinct-step : (files : List FileInfo) (i : ℕ) (d : FileInfo) → i < length files
    → are_distinct (locations_of (drop i files))
    ≡ (not (list_any (λ (f : FileInfo). bytes_eq (get_or files i d).name f.name) (drop (i + 1) files)) && are_distinct (locations_of (drop (i + 1) files)))
distinct-step files i d lt =
    rw (drop-cons files i d lt, add-one i)
    (ap (λ (b : Bool). not b && are_distinct (locations_of (drop (suc i) files))) (sym (among-locations (get_or files i d).name (drop (suc i) files))))

-- The name at a place is among those behind it.
pub distinct-stop : (files : List FileInfo) (i : ℕ) (d : FileInfo) (name : List ℕ) (b : Bool) → i < length files → name ≡ (get_or files i d).name
    → b ≡ list_any (λ (f : FileInfo). bytes_eq name f.name) (drop (i + 1) files) → b ≡ true → are_distinct (locations_of (drop i files)) ≡ false
distinct-stop files i d name b lt is found e =
    let there : list_any (λ (f : FileInfo). bytes_eq (get_or files i d).name f.name) (drop (i + 1) files) ≡ true =
    ap (λ (n : List ℕ). list_any (λ (f : FileInfo). bytes_eq n f.name) (drop (i + 1) files)) (sym is) ∙ sym found ∙ e in
    distinct-step files i d lt ∙ ap (λ (b : Bool). not b && are_distinct (locations_of (drop (i + 1) files))) there

-- It isn't.
pub distinct-go : (files : List FileInfo) (i : ℕ) (d : FileInfo) (name : List ℕ) (b : Bool) → i < length files → name ≡ (get_or files i d).name
    → b ≡ list_any (λ (f : FileInfo). bytes_eq name f.name) (drop (i + 1) files) → b ≡ false
    → are_distinct (locations_of (drop i files)) ≡ are_distinct (locations_of (drop (i + 1) files))
distinct-go files i d name b lt is found e =
    let away : list_any (λ (f : FileInfo). bytes_eq (get_or files i d).name f.name) (drop (i + 1) files) ≡ false =
    ap (λ (n : List ℕ). list_any (λ (f : FileInfo). bytes_eq n f.name) (drop (i + 1) files)) (sym is) ∙ sym found ∙ e in
    distinct-step files i d lt ∙ ap (λ (b : Bool). not b && are_distinct (locations_of (drop (i + 1) files))) away

-- One file alone.
pub one-file : (f : FileInfo) → IsFileInfo f → All IsFileInfo (f ∷ [])
one-file f is zero d lt = is
one-file f is (suc k) d lt = absurd (omega (arith, lt))

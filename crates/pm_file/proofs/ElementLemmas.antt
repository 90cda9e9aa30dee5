-- A text that is too short is no name of a ManagedElement.
use Rattle.std.proofs.Common.{◌≡◌, ℕ, ◌<◌, ◌&&◌, Bool, true, false, List, length, take, codes, refl, sym, ap, ◌∙◌, arith, bytes_eq}
use Rattle.std.specs.Cmp.Lexicographic.{same_text}
use Rattle.std.proofs.lemmas.List.{take_all}
use Rattle.pm_form.specs.Names.{dn_id}
use Rattle.pm_file.specs.ReportForm.{element_name, element_id}

pub short_name : (s : List ℕ) → length s < 15 → element_name s ≡ false
short_name s lt = by (bytes_eq (take 15 s) (codes "ManagedElement=")) refl
  where
    by : (b : Bool) → bytes_eq (take 15 s) (codes "ManagedElement=") ≡ b → (b && dn_id (element_id s)) ≡ false
    by true e =
        let same = same_text (take 15 s) (codes "ManagedElement=") (sym e) in
        let long : length s ≡ 15 = ap length (sym (take_all 15 s (omega arith)) ∙ same) in
        absurd (omega (arith, long, lt))
    by false e = refl

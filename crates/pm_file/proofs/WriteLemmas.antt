-- Loops and objects that are written.
use Rattle.std.proofs.Common.{◌≡◌, ℕ, zero, suc, ◌<◌, ◌&&◌, Bool, true, false, List, [], ◌∷◌, map, length, get_or, refl, arith}
use Rattle.pm_form.specs.Lists.{list_of, each_fits}
use Rattle.pm_form.specs.Values.{whole}
use Rattle.pm_form.specs.Names.{class_word}
use Rattle.pm_file.specs.Content.{RowContent, GroupContent, PartContent, ReportContent}
use Rattle.pm_file.specs.ReportForm.{object_name, moment, type_form, row_form, group_form, part_form, header_form, footer_form, body_form}

both : (a b : Bool) → (a && b) ≡ true → (a ≡ true) × (b ≡ true)
both true b h = (refl, h)
both false b h = cc

-- each of the values fits
pub fits_at : {A B : Type 0} (fits : A → Bool) (f : B → A) (xs : List B) (i : ℕ) (d : B) → each_fits fits (map f xs) ≡ true → i < length xs
    → fits (f (get_or xs i d)) ≡ true
fits_at fits f [] i d all lt = absurd (omega arith)
fits_at fits f (x ∷ xs) zero d all lt = (both (fits (f x)) _ all).0
fits_at fits f (x ∷ xs) (suc i) d all lt = fits_at fits f xs i d (both (fits (f x)) _ all).1 (omega arith)

-- ---- what stands in a value that fits

pub row_object : (r : RowContent) → row_form.fits r ≡ true → object_name r.object ≡ true
unfolding row_form
row_object r e = (both (object_name r.object) _ e).0

pub group_types : (g : GroupContent) → group_form.fits g ≡ true → (list_of type_form).fits g.types ≡ true
unfolding group_form
group_types g e = (both ((list_of type_form).fits g.types) _ e).0

pub group_rows : (g : GroupContent) → group_form.fits g ≡ true → (list_of row_form).fits g.rows ≡ true
unfolding group_form
group_rows g e = (both ((list_of row_form).fits g.rows) _ (both ((list_of type_form).fits g.types) _ e).1).0

pub group_class : (g : GroupContent) → group_form.fits g ≡ true → class_word g.class ≡ true
unfolding group_form
group_class g e = (both ((list_of row_form).fits g.rows) (class_word g.class) (both ((list_of type_form).fits g.types) _ e).1).1

pub part_groups : (p : PartContent) → part_form.fits p ≡ true → (list_of group_form).fits p.groups ≡ true
unfolding part_form
part_groups p e =
    (both ((whole 18446744073709551615).fits p.granularity) ((list_of group_form).fits p.groups)
    (both (moment.fits p.end) _ (both (moment.fits p.begin) _ e).1).1).1

pub body_parts : (r : ReportContent) → body_form.fits r ≡ true → (list_of part_form).fits r.parts ≡ true
unfolding body_form
body_parts r e =
    (both (header_form.fits (record { begin = r.begin; job = r.job; sender = r.sender })) ((list_of part_form).fits r.parts)
    (both (footer_form.fits r.end) _ e).1).1

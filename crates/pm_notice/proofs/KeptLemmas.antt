-- The compact text of a notice's tree reads back as the notice.
use Rattle.std.proofs.Common.{rules, ◌≡◌, ℕ, ◌+◌, ◌++◌, codes, nat_eq, ◌≤◌, ◌&&◌, Bool, true, false, List, [], ◌∷◌, map, refl, ap, ◌∙◌, arith, le-leb, Ok}
use Rattle.std.specs.Str.{IsUtf8}
use Rattle.json.specs.Lex.{tokens}
use Rattle.json.specs.Print.{print}
use Rattle.json.specs.Tree.{json_tokens}
use Rattle.serde_json.specs.Data.{Data}
use Rattle.serde_json.specs.Read.{read}
use Rattle.serde_json.specs.Written.{outline, compact_text}
use Rattle.pm_form.specs.Form.{Form, Read, then_read, text_says, IsExact}
use Rattle.pm_form.specs.Names.{job_id, measure_name}
use Rattle.pm_form.proofs.ReadLemmas.{json_of_read}
use Rattle.pm_form.proofs.KeptLemmas.{IsKept, whole_kept, list_kept, compact_back}
use Rattle.pm_form.specs.Lists.{list_of, each_fits}
use Rattle.std.specs.List.{All}
use Rattle.std.proofs.lemmas.List.Elements.{All-head, All-tail}
use Rattle.pm_file.specs.ReportForm.{object_name, moment}
use Rattle.pm_notice.specs.NameTest.{is_file_name}
use Rattle.pm_notice.proofs.NamePassLemmas.{is_file_name-says}
use Rattle.pm_notice.specs.NoticeForm.{number, file_location, expires_in_a_day, listed_form, file_ready_form, direction_text, is_direction, crossing_form, are_distinct, listing_form}
use Rattle.pm_notice.specs.NoticeContent.{listed_of, locations_of, file_ready_of, crossing_of, IsFileInfo, IsCrossed}
use Rattle.pm_notice.specs.declared.notice.FileInfo.{FileInfo}
use Rattle.pm_notice.specs.declared.notice.Crossed.{Crossed}

both : (a b : Bool) → (a && b) ≡ true → (a ≡ true) × (b ≡ true)
both true b h = (refl, h)
both false b h = cc

moment_kept : IsKept moment 0
moment_kept = whole_kept 253402300799 (omega arith)

number_kept : IsKept number 0
number_kept = whole_kept 18446744073709551615 (omega arith)

pub crossing_kept : IsKept crossing_form 1
unfolding crossing_form
crossing_kept =
    record {
      same = λ c fits.
          let a = both (moment.fits c.event) _ fits in
          let b = both (number.fits c.hysteresis) _ a.1 in
          let d = both (job_id c.monitor) _ b.1 in
          let e = both (number.fits c.number) _ d.1 in
          let f = both (object_name c.object) _ e.1 in
          let g = both (number.fits c.value) _ f.1 in
          let h = both (measure_name c.metric) _ g.1 in
          let i = both (is_direction c.direction) (number.fits c.threshold) h.1 in
          rw (moment_kept.same c.event a.0, number_kept.same c.hysteresis b.0, number_kept.same c.number e.0, number_kept.same c.value g.0, number_kept.same c.threshold i.1) refl;
      shallow = λ c. omega arith;
    }

direction-is : (up : Bool) → is_direction (direction_text up) ≡ true
direction-is true = refl
direction-is false = refl

-- A crossing that a notice may tell fits.
pub crossing_fits : (n : ℕ) (c : Crossed) → IsCrossed c → n ≤ 18446744073709551615 → c.hysteresis ≤ 18446744073709551615
    → c.value ≤ 18446744073709551615 → c.threshold ≤ 18446744073709551615 → crossing_form.fits (crossing_of n c) ≡ true
unfolding crossing_form
crossing_fits n c is number hysteresis value threshold =
    rw (
      le-leb c.end 253402300799 is.end,
      le-leb c.hysteresis 18446744073709551615 hysteresis,
      is.monitor,
      le-leb n 18446744073709551615 number,
      is.object,
      le-leb c.value 18446744073709551615 value,
      is.metric,
      direction-is c.up,
    ) (le-leb c.threshold 18446744073709551615 threshold)

pub listed_kept : IsKept listed_form 1
unfolding listed_form
listed_kept =
    record {
      same = λ l fits.
          let z = both _ (expires_in_a_day l) fits in
          let a = both (number.fits l.expires) _ z.0 in
          let b = both (file_location l.location) _ a.1 in
          let d = both (moment.fits l.ready) (number.fits l.size) b.1 in
          rw (number_kept.same l.expires a.0, moment_kept.same l.ready d.0, number_kept.same l.size d.1) refl;
      shallow = λ l. omega arith;
    }

pub file_ready_kept : IsKept file_ready_form 3
unfolding file_ready_form
file_ready_kept =
    record {
      same = λ f fits.
          let a = both (moment.fits f.event) _ fits in
          let b = both (listed_form.fits f.file) _ a.1 in
          let d = both (number.fits f.number) (object_name f.object) b.1 in
          rw (moment_kept.same f.event a.0, listed_kept.same f.file b.0, number_kept.same f.number d.0) refl;
      shallow = λ f. let h = listed_kept.shallow f.file in omega (arith, h);
    }

location-is : (name : List ℕ) → is_file_name name ≡ true → file_location (codes "/files/" ++ name) ≡ true
location-is name is = is

itself : (n : ℕ) → nat_eq n n ≡ true
itself n = search rules

pub listed_fits : (f : FileInfo) → IsFileInfo f → listed_form.fits (listed_of f) ≡ true
unfolding listed_form
listed_fits f is =
    let r = is.ready in
    rw (
      le-leb (f.ready + 86400) 18446744073709551615 (omega (arith, r)),
      location-is f.name (is_file_name-says f.name is.named),
      le-leb f.ready 253402300799 is.ready,
      le-leb f.size 18446744073709551615 is.size,
    ) (itself (f.ready + 86400))

-- A file that a listing may have fits.
pub file_ready_fits : (n : ℕ) (f : FileInfo) (element : List ℕ) → IsFileInfo f → object_name element ≡ true
    → n ≤ 18446744073709551615 → file_ready_form.fits (file_ready_of n f element) ≡ true
unfolding file_ready_form
file_ready_fits n f element is object number =
    rw (le-leb f.ready 253402300799 is.ready, listed_fits f is, le-leb n 18446744073709551615 number) object

-- The compact text of a value that fits says the value.
pub says_back : {A : Type 0} (form : Form A) (levels : ℕ) → levels ≤ 127 → IsKept form levels → IsExact form → (a : A) (text : List ℕ)
    → form.fits a ≡ true → text ≡ compact_text (form.tree a) → IsUtf8 text
    → tokens (print (json_tokens (outline (form.tree a)))) ≡ json_tokens (outline (form.tree a))
    → text_says form text ≡ Ok a
says_back {A} form levels room kept exact a text fits is utf8 same =
    let back = compact_back form levels room kept a fits same in
    let tree = json_of_read text (form.tree a) utf8 (ap read is ∙ back) in
    let then : Read Data → Read A = λ d. then_read d form.reads in
    ap then tree ∙ exact.back a fits

pub listing_kept : IsKept listing_form 3
unfolding listing_form
listing_kept =
    let files = list_kept listed_form 1 listed_kept in
    record {
      same = λ ls fits. rw (files.same ls (both ((list_of listed_form).fits ls) _ fits).0) refl;
      shallow = λ ls. let h = files.shallow ls in omega (arith, h);
    }

each-listed : (files : List FileInfo) → All IsFileInfo files → each_fits listed_form.fits (map listed_of files) ≡ true
each-listed [] all = refl
each-listed (f ∷ fs) all = rw (listed_fits f (All-head IsFileInfo f fs all)) (each-listed fs (All-tail IsFileInfo f fs all))

-- Files that a listing may have fit, where no name comes twice.
pub listing_fits : (files : List FileInfo) → All IsFileInfo files → are_distinct (locations_of files) ≡ true → listing_form.fits (map listed_of files) ≡ true
unfolding listing_form
listing_fits files all distinct = rw (each-listed files all) distinct

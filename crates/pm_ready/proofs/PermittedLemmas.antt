-- A whole report of a job is one that a text can say.
use Rattle.std.proofs.Common.{◌≡◌, ℕ, zero, suc, ◌+◌, ◌-◌, ◌*◌, ◌/◌, ◌%◌, ◌<◌, ◌≤◌, ◌||◌, Bool, true, false, List, [], ◌∷◌, length, map, refl, sym, ap, subst, ◌∙◌, arith, eqb, ltb, suc-mul, leb, one-mul, mul-le-mul, mod-eq_of_lt}
use Rattle.std.specs.List.{list_all}
use Rattle.std.proofs.lemmas.Bool.{le-leb, lt-ltb, eq-eqb, ltb-true, eqb-true, leb-true, leb-false}
use Rattle.std.proofs.lemmas.Bool.Decides.{nat_tests}
use Rattle.std.proofs.Math.Nat.{mod-mod_of_dvd}
use Rattle.std.proofs.lemmas.Nat.Gcd.{dvd_of_mod-eq-zero}
use Rattle.pm_inventory.specs.Inventory.{InventoryState}
use Rattle.pm_history.specs.Terms.{Terms, reporting}
use Rattle.pm_name.specs.FileName.{minute_of_day}
use Rattle.pm_form.specs.Lists.{each_fits}
use Rattle.pm_file.specs.Content.{ReportContent}
use Rattle.pm_file.specs.ReportForm.{result_form, part_form, Header, header_form, footer_form, body_form, report_form}
use Rattle.pm_file.specs.Agreement.{part_agrees, parts_follow, first_granularity, is_granularity, is_file_length, is_file_span, report_agrees}
use Rattle.pm_file.specs.Numbers.{part_in_texts}
use Rattle.pm_file.specs.Permitted.{is_permitted}
use Rattle.pm_jobs.specs.Rules.{is_reporting}
use Rattle.pm_close.specs.declared.part.PartValues.{PartValues}
use Rattle.pm_close.specs.Files.{part_with, parts_with, report_with}
use Rattle.pm_ready.specs.Files.{element_of, said_by}
use Rattle.pm_ready.specs.Shape.{CanReport}
use Rattle.pm_ready.specs.Whole.{tick_after, HasValues, HaveValues, AreInRange, IsWhole}
use Rattle.pm_ready.proofs.BoolLemmas.{both, and}
use Rattle.pm_ready.proofs.GroupLemmas.{groups-fit, groups-agree, groups-some, groups-rise}

-- ---- periods

scaled : (g k : ℕ) → eqb (60 * g) (60 * k) ≡ eqb g k
scaled g k = grind (arith, nat_tests)

-- what a granularity period is, an A file covers
same-lengths : (g : ℕ) → is_granularity (60 * g) ≡ is_file_length true g
same-lengths g =
    λ i. scaled g 1 i || (scaled g 5 i || (scaled g 15 i || (scaled g 30 i || (scaled g 60 i || false))))

pub some_ticks : (g : ℕ) → is_granularity (60 * g) ≡ true → 1 ≤ g
some_ticks zero e = let bad : false ≡ true = e in cc
some_ticks (suc g) e = omega arith

-- what divides 1440 is no greater
divisor : (r : ℕ) → 0 < r → 1440 % r ≡ 0 → r ≤ 1440
divisor r some day = by (leb r 1440) refl
  where
    by : (b : Bool) → leb r 1440 ≡ b → r ≤ 1440
    by true is = leb-true r 1440 is
    by false is = let rest = mod-eq_of_lt (leb-false r 1440 is) in absurd (omega (arith, rest, day))

pub record Reports (r : ℕ) : Type 0 where
  pub some : 0 < r
  pub day : 1440 % r ≡ 0
  pub most : r ≤ 1440

pub reports : (g r : ℕ) → is_reporting g r ≡ true → Reports r
reports g r e =
    let a = both _ (eqb ((60 * r) % g) 0) e in
    let b = both (ltb 0 r) (eqb (1440 % r) 0) a.0 in
    let some = ltb-true 0 r b.0 in
    let day = eqb-true (1440 % r) 0 b.1 in
    record { some = some; day = day; most = divisor r some day }

pub tick-grows : (t : Terms) (first : ℕ) (parts : List PartValues) → first ≤ tick_after t first parts
tick-grows t first [] = omega arith
tick-grows t first (p ∷ ps) = let more = tick-grows t (first + t.granularity) ps in omega (arith, more)

pub tick-after-is : (t : Terms) (first : ℕ) (parts : List PartValues) → tick_after t first parts ≡ first + length parts * t.granularity
tick-after-is t first [] = omega arith
tick-after-is t first (p ∷ ps) =
    let more = tick-after-is t (first + t.granularity) ps in
    let product = suc-mul (length ps) t.granularity in
    omega (arith, more, product)

-- ---- parts

module _ (inventory : InventoryState) (id : List ℕ) (t : Terms) (can : CanReport inventory id t) where
  part-fits : (first : ℕ) (part : PartValues) → first + t.granularity ≤ 4223371679 → each_fits result_form.fits part.values.items ≡ true
      → part_form.fits (part_in_texts inventory (part_with t first part)) ≡ true
  unfolding part_form
  part-fits first part le fit =
      let end = first + t.granularity in
      and (leb (60 * first) 253402300799) _ (le-leb (60 * first) 253402300799 (omega (arith, le)))
      (and (leb (60 * end) 253402300799) _ (le-leb (60 * end) 253402300799 (omega (arith, le)))
      (and (leb (60 * end - 60 * first) 18446744073709551615) _ (le-leb (60 * end - 60 * first) 18446744073709551615 (omega (arith, le)))
      (groups-fit inventory t.measured part.suspect part.values.items can.each fit)))

  part-agrees : (first : ℕ) (part : PartValues) → HasValues t part → part_agrees (60 * t.granularity) (part_in_texts inventory (part_with t first part)) ≡ true
  part-agrees first part has =
      let end = first + t.granularity in
      and _ _ (and _ _ (and _ _ (and _ _ (eq-eqb (60 * end - 60 * first) (60 * t.granularity) (omega arith)) (eq-eqb (60 * first + 60 * t.granularity) (60 * end) (omega arith)))
      (groups-some inventory t.measured part.suspect part.values.items can.some))
      (groups-rise inventory t.measured part.suspect part.values.items ∙ can.rise))
      (groups-agree inventory t.measured part.suspect part.values.items can.each (omega (arith, has)))

  parts-fit : (first : ℕ) (parts : List PartValues) → tick_after t first parts ≤ 4223371679 → AreInRange parts
      → each_fits part_form.fits (map (part_in_texts inventory) (parts_with t first parts)) ≡ true
  parts-fit first [] le fit = refl
  parts-fit first (p ∷ ps) le fit =
      let more = tick-grows t (first + t.granularity) ps in
      and _ _ (part-fits first p (omega (arith, le, more)) fit.0) (parts-fit (first + t.granularity) ps le fit.1)

  parts-agree : (first : ℕ) (parts : List PartValues) → HaveValues t parts
      → list_all (part_agrees (60 * t.granularity)) (map (part_in_texts inventory) (parts_with t first parts)) ≡ true
  parts-agree first [] has = refl
  parts-agree first (p ∷ ps) has = and _ _ (part-agrees first p has.0) (parts-agree (first + t.granularity) ps has.1)

  parts-follow : (first to : ℕ) (parts : List PartValues) → to ≡ 60 * tick_after t first parts
      → parts_follow (60 * first) to (map (part_in_texts inventory) (parts_with t first parts)) ≡ true
  parts-follow first to [] is = eq-eqb _ _ (sym is)
  parts-follow first to (p ∷ ps) is = and _ _ (eq-eqb (60 * first) (60 * first) refl) (parts-follow (first + t.granularity) to ps is)

  granularity-first : (first : ℕ) (parts : List PartValues) → 0 < length parts
      → first_granularity (map (part_in_texts inventory) (parts_with t first parts)) ≡ 60 * t.granularity
  granularity-first first [] lt = absurd (omega arith)
  granularity-first first (p ∷ ps) lt = omega arith

length-parts : (inventory : InventoryState) (t : Terms) (first : ℕ) (parts : List PartValues) → length (map (part_in_texts inventory) (parts_with t first parts)) ≡ length parts
length-parts inventory t first [] = refl
length-parts inventory t first (p ∷ ps) = ap suc (length-parts inventory t (first + t.granularity) ps)

pub whole-after : (t : Terms) (begin : ℕ) (parts : List PartValues) → IsWhole t begin parts → tick_after t begin parts ≡ begin + reporting t
whole-after t begin parts whole = tick-after-is t begin parts ∙ ap (λ n. begin + n * t.granularity) whole.many

-- ---- the report

pub some-parts : (n g : ℕ) → 0 < n * g → 0 < n
some-parts zero g lt = omega arith
some-parts (suc n) g lt = omega arith

-- an A file has one part, as long as a granularity period; a C file has more
long : (n g : ℕ) → is_granularity (60 * g) ≡ true → Reports (n * g) → is_file_length (eqb n 1) (n * g) ≡ true
long n g period reports = by (eqb n 1) refl
  where
    by : (b : Bool) → eqb n 1 ≡ b → is_file_length b (n * g) ≡ true
    by true is =
        let one : g ≡ n * g = sym (ap (λ k. k * g) (eqb-true n 1 is) ∙ one-mul g) in
        subst (λ m. is_file_length true m ≡ true) one (sym (same-lengths g) ∙ period)
    by false is =
        let some = some-parts n g reports.some in
        let least = some_ticks g period in
        let other : n ≡ 1 → ⊥ = λ same. let h = eq-eqb n 1 same in cc in
        let two : 2 ≤ n = grind (arith, some, other) in
        let product = mul-le-mul two least in
        and _ _ (and _ _ (le-leb 2 (n * g) (omega (arith, product))) (le-leb (n * g) 1440 reports.most)) (eq-eqb (1440 % (n * g)) 0 reports.day)

module _ (inventory : InventoryState) (id : List ℕ) (t : Terms) (begin : ℕ) (parts : List PartValues) (can : CanReport inventory id t)
    (whole : IsWhole t begin parts) (fit : AreInRange parts) where
  abbrev pub of : ReportContent
  of = said_by inventory (report_with id t begin parts)

  minutes : Reports (reporting t)
  minutes = reports (60 * t.granularity) (reporting t) can.length

  has_parts : 0 < length parts
  has_parts =
      let some = some-parts t.parts t.granularity minutes.some in
      let many = whole.many in omega (arith, some, many)

  after : tick_after t begin parts ≡ begin + reporting t
  after = whole-after t begin parts whole

  is_span : is_file_span (eqb (length parts) 1) (60 * begin) (60 * (begin + reporting t)) ≡ true
  is_span =
      let r = reporting t in
      let some = minutes.some in
      let end = whole.end in
      let minute : (60 * (begin + r) - 60 * begin) / 60 ≡ r = omega arith in
      let day : minute_of_day (60 * begin) ≡ begin % 1440 = omega arith in
      let within : begin % 1440 % r ≡ 0 = mod-mod_of_dvd r begin (dvd_of_mod-eq-zero r minutes.day) ∙ whole.aligned in
      let covered : is_file_length (eqb (length parts) 1) r ≡ true =
      ap (λ n. is_file_length (eqb n 1) r) whole.many ∙ long t.parts t.granularity can.period minutes in
      and _ _ (and _ _ (and _ _ (and _ _ (and _ _ (lt-ltb (60 * begin) (60 * (begin + r)) (omega (arith, some))) (le-leb (60 * (begin + r)) 253402300740 (omega (arith, end))))
      (eq-eqb ((60 * begin) % 60) 0 (omega arith))) (eq-eqb ((60 * (begin + r)) % 60) 0 (omega arith)))
      (subst (λ n. is_file_length (eqb (length parts) 1) n ≡ true) (sym minute) covered))
      (eq-eqb _ 0 (ap (λ n. minute_of_day (60 * begin) % n) minute ∙ ap (λ n. n % r) day ∙ within))

  agrees : report_agrees of ≡ true
  agrees =
      let texts = map (part_in_texts inventory) (parts_with t begin parts) in
      let first = granularity-first inventory id t can begin parts has_parts in
      let count = length-parts inventory t begin parts in
      let follow = parts-follow inventory id t can begin (60 * (begin + reporting t)) parts (ap (λ n. 60 * n) (sym after)) in
      let parted = parts-agree inventory id t can begin parts whole.values in
      and _ _ (and _ _ (and _ _ (subst (λ n. is_granularity n ≡ true) (sym first) can.period)
      (subst (λ n. list_all (part_agrees n) texts ≡ true) (sym first) parted)) follow)
      (subst (λ n. is_file_span (eqb n 1) (60 * begin) (60 * (begin + reporting t)) ≡ true) (sym count) is_span)

  header : header_form.fits (let h : Header = record { begin = 60 * begin; job = id; sender = element_of inventory } in h) ≡ true
  unfolding header_form
  header = let end = whole.end in and (leb (60 * begin) 253402300799) _ (le-leb (60 * begin) 253402300799 (omega (arith, end))) (and true _ refl (and _ _ can.named can.sender))

  fits : body_form.fits of ≡ true
  unfolding body_form footer_form
  fits =
      let end = whole.end in
      let last : tick_after t begin parts ≤ 4223371679 = omega (arith, after, end) in
      and (leb (60 * (begin + reporting t)) 253402300799) _ (le-leb (60 * (begin + reporting t)) 253402300799 (omega (arith, end))) (and _ _ header (parts-fit inventory id t can begin parts last fit))

  pub permitted : is_permitted of ≡ true
  unfolding is_permitted report_form
  permitted = and _ _ fits agrees

-- The lines of an inventory have one outcome.
use Rattle.std.proofs.Common.{◌≡◌, ◌+◌, ◌<◌, ◌++◌, ℕ, suc, List, [], ◌∷◌, length, drop, map, get_or, codes, inl, inr, refl, sym, ◌∙◌, ap, subst, arith, append_assoc, length-append}
use Rattle.std.proofs.lemmas.Simd.{map-map}
use Rattle.pm_base.specs.declared.code.Code.{Code}
use Rattle.pm_meas.specs.Def.{def_text}
use Rattle.pm_base.specs.WholeLines.{text_of_lines}
use Rattle.pm_inventory.specs.Inventory.{InventoryState, HasRoot, HasSlots, end_line, object_line, inventory_text}
use Rattle.pm_inventory.specs.Default.{IsDefault}
use Rattle.pm_inventory.specs.InventoryLine.{AddsLine}
use Rattle.pm_inventory.specs.InventoryReading.{empty_inventory, AddsShort, AddsLines, RefusesEnd, RefusesNext, IsRefusedAt, LacksEnd, IsInventoryRefusal}
use Rattle.pm_inventory.specs.InventoryLaw.{OneRefusal, NeverRefused, OneInventory}
use Rattle.pm_inventory.proofs.InventoryLineLemmas.{AddsLine-one, AddsLine-no_end, AddsShort-unrefused, RefusesNext-one, end-short}

abbrev head : List (List ℕ) → List ℕ
head lines = get_or lines 0 []

-- the states behind one line
next-one : (old : InventoryState) (g h : List ℕ) (a b : InventoryState) → g ≡ h → AddsShort old g a → AddsShort old h b → a ≡ b
next-one old g h a b same one other = AddsLine-one old h a b (subst (λ (l : List ℕ). AddsLine old l a) same one.adds) other.adds

-- two refusals of the same lines
refusals-meet : (old s t : InventoryState) (good other : List (List ℕ)) (line next : List ℕ) (behind rest : List (List ℕ)) (many more : ℕ) (c d : Code) → AddsLines old good s → AddsLines old other t → good ++ line ∷ behind ≡ other ++ next ∷ rest → RefusesNext many s line c → RefusesNext more t next d → (length good ≡ length other) × (c ≡ d)
refusals-meet old s t [] [] line next behind rest many more c d adds also same one two =
    let heads : line ≡ next = ap head same in (
      refl,
      RefusesNext-one many more old next c d (subst (λ (l : List ℕ). RefusesNext many old l c) heads (subst (λ (u : InventoryState). RefusesNext many u line c) adds one)) (subst (λ (u : InventoryState). RefusesNext more u next d) also two),
    )
refusals-meet old s t [] (h ∷ other) line next behind rest many more c d adds also same one two =
    let heads : line ≡ h = ap head same in
    absurd (AddsShort-unrefused many old also.0 h c also.1 (subst (λ (l : List ℕ). RefusesNext many old l c) heads (subst (λ (u : InventoryState). RefusesNext many u line c) adds one)))
refusals-meet old s t (g ∷ good) [] line next behind rest many more c d adds also same one two =
    let heads : next ≡ g = sym (ap head same) in
    absurd (AddsShort-unrefused more old adds.0 g d adds.1 (subst (λ (l : List ℕ). RefusesNext more old l d) heads (subst (λ (u : InventoryState). RefusesNext more u next d) also two)))
refusals-meet old s t (g ∷ good) (h ∷ other) line next behind rest many more c d adds also same one two =
    let states : adds.0 ≡ also.0 = next-one old g h adds.0 also.0 (ap head same) adds.1 also.1 in
    let rest' = refusals-meet also.0 s t good other line next behind rest many more c d (subst (λ (u : InventoryState). AddsLines u good s) states adds.2) also.2 (ap (drop 1) same) one two in
    (ap suc rest'.0, rest'.1)

-- lines that all add are not refused
good-unrefused : (old s t : InventoryState) (lines good : List (List ℕ)) (line : List ℕ) (behind : List (List ℕ)) (many : ℕ) (c : Code) → AddsLines old lines s → AddsLines old good t → lines ≡ good ++ line ∷ behind → RefusesNext many t line c → ⊥
good-unrefused old s t [] good line behind many c adds also same refused = omega (arith, ap length same, length-append good (line ∷ behind))
good-unrefused old s t (g ∷ lines) [] line behind many c adds also same refused =
    let heads : line ≡ g = sym (ap head same) in
    AddsShort-unrefused many old adds.0 g c adds.1 (subst (λ (l : List ℕ). RefusesNext many old l c) heads (subst (λ (u : InventoryState). RefusesNext many u line c) also refused))
good-unrefused old s t (g ∷ lines) (h ∷ good) line behind many c adds also same refused =
    let states : adds.0 ≡ also.0 = next-one old g h adds.0 also.0 (ap head same) adds.1 also.1 in
    good-unrefused also.0 s t lines good line behind many c (subst (λ (u : InventoryState). AddsLines u lines s) states adds.2) also.2 (ap (drop 1) same) refused

lacks-refused : (lines : List (List ℕ)) (n m : ℕ) (c d : Code) → LacksEnd lines n c → IsRefusedAt lines m d → ⊥
lacks-refused lines n m c d lacks at = good-unrefused empty_inventory lacks.state at.state lines at.good at.line at.behind (length at.good) d lacks.adds at.adds at.split at.refused

one_more : (a b : ℕ) → a ≡ b → a + 1 ≡ b + 1
one_more a b same = ap (λ (n : ℕ). n + 1) same

pub one-refusal : OneRefusal
one-refusal lines n m c d (inl a) (inl b) =
    let meet = refusals-meet empty_inventory a.state b.state a.good b.good a.line b.line a.behind b.behind (length a.good) (length b.good) c d a.adds b.adds (sym a.split ∙ b.split) a.refused b.refused in
    (a.numbered ∙ one_more (length a.good) (length b.good) meet.0 ∙ sym b.numbered, meet.1)
one-refusal lines n m c d (inl a) (inr b) = absurd (lacks-refused lines m n d c b a)
one-refusal lines n m c d (inr a) (inl b) = absurd (lacks-refused lines n m c d a b)
one-refusal lines n m c d (inr a) (inr b) = (a.numbered ∙ sym b.numbered, a.code_is ∙ sym b.code_is)

-- a good `end` is not refused, nor a line before it
end-unrefused : (old s t : InventoryState) (body good : List (List ℕ)) (left behind : List (List ℕ)) (line : List ℕ) (many : ℕ) (c : Code) → AddsLines old body s → AddsLines old good t → body ++ end_line ∷ left ≡ good ++ line ∷ behind → RefusesNext many t line c → (length good ≡ length body → 0 < many → RefusesEnd s c → ⊥) → ⊥
end-unrefused old s t [] [] left behind line many c adds also same (inl long) never = end-short line (sym (ap head same)) long.0
end-unrefused old s t [] [] left behind line many c adds also same (inr (inl end)) never =
    never refl end.0 (subst (λ (u : InventoryState). RefusesEnd u c) (also ∙ sym adds) end.2)
end-unrefused old s t [] [] left behind line many c adds also same (inr (inr other)) never = other.1 (sym (ap head same))
end-unrefused old s t [] (h ∷ good) left behind line many c adds also same refused never = AddsLine-no_end old also.0 h also.1.adds (sym (ap head same))
end-unrefused old s t (g ∷ body) [] left behind line many c adds also same refused never =
    let heads : line ≡ g = sym (ap head same) in
    AddsShort-unrefused many old adds.0 g c adds.1 (subst (λ (l : List ℕ). RefusesNext many old l c) heads (subst (λ (u : InventoryState). RefusesNext many u line c) also refused))
end-unrefused old s t (g ∷ body) (h ∷ good) left behind line many c adds also same refused never =
    let states : adds.0 ≡ also.0 = next-one old g h adds.0 also.0 (ap head same) adds.1 also.1 in
    end-unrefused also.0 s t body good left behind line many c (subst (λ (u : InventoryState). AddsLines u body s) states adds.2) also.2 (ap (drop 1) same) refused (λ lengths. never (ap suc lengths))

-- lines with an `end` don't all add
end-adds_nothing : (old s : InventoryState) (body left : List (List ℕ)) → AddsLines old (body ++ end_line ∷ left) s → ⊥
end-adds_nothing old s [] left adds = AddsLine-no_end old adds.0 end_line adds.1.adds refl
end-adds_nothing old s (g ∷ body) left adds = end-adds_nothing adds.0 s body left adds.2

-- the same of both outcomes of lines with an `end` behind a body
body-unrefused : (read left body : List (List ℕ)) (s : InventoryState) (n : ℕ) (c : Code) → read ≡ body ++ end_line ∷ [] → AddsLines empty_inventory body s → (0 < length body → RefusesEnd s c → ⊥) → IsInventoryRefusal (read ++ left) n c → ⊥
body-unrefused read left body s n c is adds never (inl at) =
    let split : body ++ end_line ∷ left ≡ at.good ++ at.line ∷ at.behind = sym (append_assoc body (end_line ∷ []) left) ∙ ap (λ (l : List (List ℕ)). l ++ left) (sym is) ∙ at.split in
    end-unrefused empty_inventory s at.state body at.good left at.behind at.line (length at.good) c adds at.adds split at.refused
    (λ lengths some. never (omega (arith, lengths, some)))
body-unrefused read left body s n c is adds never (inr lacks) =
    end-adds_nothing empty_inventory lacks.state body left (subst (λ (l : List (List ℕ)). AddsLines empty_inventory l lacks.state) (ap (λ (l : List (List ℕ)). l ++ left) is ∙ append_assoc body (end_line ∷ []) left) lacks.adds)

whole-end : (s : InventoryState) (c : Code) → HasRoot s.objects → HasSlots s.objects s.measures → RefusesEnd s c → ⊥
whole-end s c root slots (inl no_root) = no_root.1 root
whole-end s c root slots (inr no_slots) = no_slots.2 slots

pub never-refused : NeverRefused
never-refused read left inventory n c (inl alone) refused =
    body-unrefused read left [] empty_inventory n c alone.0 refl (λ some. absurd (omega (arith, some))) refused
never-refused read left inventory n c (inr written) refused =
    body-unrefused read left written.body inventory n c written.split written.adds (λ _ end. whole-end inventory c written.root written.slots end) refused

-- two bodies before an `end` of the same lines
bodies-meet : (old s t : InventoryState) (body other left rest : List (List ℕ)) → AddsLines old body s → AddsLines old other t → body ++ end_line ∷ left ≡ other ++ end_line ∷ rest → (body ≡ other) × (s ≡ t)
bodies-meet old s t [] [] left rest adds also same = (refl, adds ∙ sym also)
bodies-meet old s t [] (h ∷ other) left rest adds also same = absurd (AddsLine-no_end old also.0 h also.1.adds (sym (ap head same)))
bodies-meet old s t (g ∷ body) [] left rest adds also same = absurd (AddsLine-no_end old adds.0 g adds.1.adds (ap head same))
bodies-meet old s t (g ∷ body) (h ∷ other) left rest adds also same =
    let states : adds.0 ≡ also.0 = next-one old g h adds.0 also.0 (ap head same) adds.1 also.1 in
    let more = bodies-meet also.0 s t body other left rest (subst (λ (u : InventoryState). AddsLines u body s) states adds.2) also.2 (ap (drop 1) same) in
    (ap (λ (l : List ℕ). l ∷ body) (ap head same) ∙ ap (λ (l : List (List ℕ)). h ∷ l) more.0, more.1)

meet : (read left other rest body next : List (List ℕ)) (s t : InventoryState) → read ≡ body ++ end_line ∷ [] → other ≡ next ++ end_line ∷ [] → AddsLines empty_inventory body s → AddsLines empty_inventory next t → read ++ left ≡ other ++ rest → (body ≡ next) × (s ≡ t)
meet read left other rest body next s t is also adds adds' same =
    bodies-meet empty_inventory s t body next left rest adds adds'
    (sym (append_assoc body (end_line ∷ []) left) ∙ ap (λ (l : List (List ℕ)). l ++ left) (sym is) ∙ same ∙ ap (λ (l : List (List ℕ)). l ++ rest) also ∙ append_assoc next (end_line ∷ []) rest)

abbrev text_by : List (List ℕ) → List (List ℕ) → List ℕ
text_by objects measures = text_of_lines ((map object_line objects ++ map (λ (t : List ℕ). codes "measure " ++ t) measures) ++ end_line ∷ [])

-- the text of an inventory is that of the texts of its definitions
text-by : (i : InventoryState) → inventory_text i ≡ text_by i.objects (map def_text i.measures)
text-by i = ap (λ (l : List (List ℕ)). text_of_lines ((map object_line i.objects ++ l) ++ end_line ∷ [])) (sym (map-map (λ (t : List ℕ). codes "measure " ++ t) def_text i.measures))

default-text : (a b : InventoryState) → IsDefault a → IsDefault b → inventory_text a ≡ inventory_text b
default-text a b one other =
    text-by a ∙ ap (λ (o : List (List ℕ)). text_by o (map def_text a.measures)) (one.objects ∙ sym other.objects) ∙ ap (text_by b.objects) (one.measures ∙ sym other.measures) ∙ sym (text-by b)

pub one-inventory : OneInventory
one-inventory read left other rest a b (inl one) (inl two) same = (one.0 ∙ sym two.0, default-text a b one.1 two.1)
one-inventory read left other rest a b (inl one) (inr two) same =
    let bodies = meet read left other rest [] two.body empty_inventory b one.0 two.split refl two.adds same in absurd (omega (arith, two.some, ap length bodies.0))
one-inventory read left other rest a b (inr one) (inl two) same =
    let bodies = meet read left other rest one.body [] a empty_inventory one.split two.0 one.adds refl same in absurd (omega (arith, one.some, ap length bodies.0))
one-inventory read left other rest a b (inr one) (inr two) same =
    let bodies = meet read left other rest one.body two.body a b one.split two.split one.adds two.adds same in
    (one.split ∙ ap (λ (l : List (List ℕ)). l ++ end_line ∷ []) bodies.0 ∙ sym two.split, ap inventory_text bodies.1)

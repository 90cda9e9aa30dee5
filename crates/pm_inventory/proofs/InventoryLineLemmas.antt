-- A line of an inventory adds one thing, or is refused by one code.
use Rattle.std.proofs.Common.{◌≡◌, ◌≢◌, ◌<◌, ◌≤◌, ◌++◌, ℕ, true, List, [], ◌∷◌, length, drop, get_or, codes, Some, None, inl, inr, refl, sym, ◌∙◌, ap, subst, arith}
use Rattle.std.specs.Str.{bytes_eq}
use Rattle.std.proofs.lemmas.Fmt.{decimal_injective}
use Rattle.std.proofs.lemmas.List.{append_cancel_left}
use Rattle.std.proofs.lemmas.Slice.Eq.{bytes_eq-Decides}
use Rattle.pm_base.specs.Class.{class_name}
use Rattle.pm_base.specs.declared.class.Class.{Class}
use Rattle.pm_base.specs.declared.class.Class.TheVariants.{ManagedElement, GnbCuCp, NrCellCu, GnbDu, NrCellDu}
use Rattle.pm_base.specs.Lines.{MOST_LINE}
use Rattle.pm_base.specs.Pieces.{words_of}
use Rattle.pm_base.specs.declared.code.Code.{Code}
use Rattle.pm_dn.specs.Tree.{add_refusal, tree_code}
use Rattle.pm_meas.specs.declared.kind.Kind.{Kind}
use Rattle.pm_meas.specs.declared.kind.Kind.TheVariants.{Cc, Gauge, Der, Si}
use Rattle.pm_meas.specs.declared.kind.Reduce.{Reduce}
use Rattle.pm_meas.specs.declared.kind.Reduce.TheVariants.{Sum, Mean, Max, Min}
use Rattle.pm_meas.specs.declared.def.Def.{Def}
use Rattle.pm_meas.specs.declared.error.MeasError.{MeasError}
use Rattle.pm_meas.specs.declared.error.MeasError.TheVariants as meas
use Rattle.pm_meas.specs.Def.{ReadAs, IsKind, kind_word, reduce_word, number_words, def_words}
use Rattle.pm_meas.specs.Catalogue.{Adds, Breaks, meas_code}
use Rattle.pm_meas.proofs.BreaksLemmas.{Breaks-one, Breaks-Memory}
use Rattle.pm_inventory.specs.Inventory.{InventoryState, object_line, end_line}
use Rattle.pm_inventory.specs.InventoryLine.{AddsLine, RefusesLine, words_line}
use Rattle.pm_inventory.specs.InventoryReading.{AddsShort, RefusesEnd, RefusesNext}
use Rattle.pm_inventory.specs.declared.inventory_line.LineError.TheVariants as stop

abbrev first_byte : List ℕ → ℕ
first_byte line = get_or line 0 0

object-no_measure : (name words : List ℕ) → object_line name ≡ words_line words → ⊥
object-no_measure name words same = let first : 111 ≡ 109 = ap first_byte same in omega (arith, first)

object-no_end : (name : List ℕ) → object_line name ≡ end_line → ⊥
object-no_end name same = let first : 111 ≡ 101 = ap first_byte same in omega (arith, first)

measure-no_end : (words : List ℕ) → words_line words ≡ end_line → ⊥
measure-no_end words same = let first : 109 ≡ 101 = ap first_byte same in omega (arith, first)

same-name : (a b : List ℕ) → object_line a ≡ object_line b → a ≡ b
same-name a b same = append_cancel_left (codes "object ") a b same

same-words : (a b : List ℕ) → words_line a ≡ words_line b → a ≡ b
same-words a b same = append_cancel_left (codes "measure ") a b same

-- words of classes, reductions and kinds tell them apart
class-told : (c d : Class) → bytes_eq (class_name c) (class_name d) ≡ true → c ≡ d
class-told ManagedElement ManagedElement is = refl
class-told ManagedElement _ is = cc
class-told GnbCuCp GnbCuCp is = refl
class-told GnbCuCp _ is = cc
class-told NrCellCu NrCellCu is = refl
class-told NrCellCu _ is = cc
class-told GnbDu GnbDu is = refl
class-told GnbDu _ is = cc
class-told NrCellDu NrCellDu is = refl
class-told NrCellDu _ is = cc

reduce-told : (r s : Reduce) → bytes_eq (reduce_word r) (reduce_word s) ≡ true → r ≡ s
reduce-told Sum Sum is = refl
reduce-told Sum _ is = cc
reduce-told Mean Mean is = refl
reduce-told Mean _ is = cc
reduce-told Max Max is = refl
reduce-told Max _ is = cc
reduce-told Min Min is = refl
reduce-told Min _ is = cc

kind-told : (k j : Kind) → IsKind k → IsKind j → bytes_eq (kind_word k) (kind_word j) ≡ true → number_words k ≡ number_words j → k ≡ j
kind-told Cc Cc a b is numbers = refl
kind-told Cc _ a b is numbers = cc
kind-told Gauge Gauge a b is numbers = refl
kind-told Gauge _ a b is numbers = cc
kind-told (Der n) (Der m) a b is numbers = ap Der (decimal_injective n m (omega (arith, a.1)) (omega (arith, b.1)) (ap (λ (l : List (List ℕ)). get_or l 0 []) numbers))
kind-told (Der n) _ a b is numbers = cc
kind-told Si Si a b is numbers = refl
kind-told Si _ a b is numbers = cc

abbrev made : List ℕ → Class → Kind → Reduce → Def
made name class kind reduce = record { name = name; class = class; kind = kind; reduce = reduce }

same-word : (a b : List ℕ) → a ≡ b → bytes_eq a b ≡ true
same-word a b same = (bytes_eq-Decides a b).1 same

-- words read as one definition
def-one : (words : List (List ℕ)) (d e : Def) → ReadAs words d → ReadAs words e → d ≡ e
def-one words d e one other =
    let same : def_words d ≡ def_words e = one.words_are ∙ sym other.words_are in
    let word = λ (i : ℕ). λ (l : List (List ℕ)). get_or l i [] in
    let name : d.name ≡ e.name = ap (word 0) same in
    let class : d.class ≡ e.class = class-told d.class e.class (same-word (class_name d.class) (class_name e.class) (ap (word 1) same)) in
    let kind : d.kind ≡ e.kind = kind-told d.kind e.kind one.def_is.method_is.kind_is other.def_is.method_is.kind_is (same-word (kind_word d.kind) (kind_word e.kind) (ap (word 2) same)) (ap (drop 4) same) in
    let reduce : d.reduce ≡ e.reduce = reduce-told d.reduce e.reduce (same-word (reduce_word d.reduce) (reduce_word e.reduce) (ap (word 3) same)) in
    ap (λ (n : List ℕ). made n d.class d.kind d.reduce) name
    ∙ ap (λ (c : Class). made e.name c d.kind d.reduce) class
    ∙ ap (λ (k : Kind). made e.name e.class k d.reduce) kind
    ∙ ap (λ (r : Reduce). made e.name e.class e.kind r) reduce

abbrev state : List (List ℕ) → List Def → InventoryState
state objects measures = record { objects = objects; measures = measures }

-- A line adds one thing.
pub AddsLine-one : (old : InventoryState) (line : List ℕ) (a b : InventoryState) → AddsLine old line a → AddsLine old line b → a ≡ b
AddsLine-one old line a b (inl x) (inl y) =
    let name : x.name ≡ y.name = same-name x.name y.name (sym x.line_is ∙ y.line_is) in
    ap (λ (o : List (List ℕ)). state o a.measures) (x.objects ∙ ap (λ (n : List ℕ). old.objects ++ n ∷ []) name ∙ sym y.objects)
    ∙ ap (λ (m : List Def). state b.objects m) (x.measures ∙ sym y.measures)
AddsLine-one old line a b (inl x) (inr y) = absurd (object-no_measure x.name y.words (sym x.line_is ∙ y.line_is))
AddsLine-one old line a b (inr x) (inl y) = absurd (object-no_measure y.name x.words (sym y.line_is ∙ x.line_is))
AddsLine-one old line a b (inr x) (inr y) =
    let words : x.words ≡ y.words = same-words x.words y.words (sym x.line_is ∙ y.line_is) in
    let read = subst (λ (w : List ℕ). ReadAs (words_of w) x.adds.def) words x.adds.read in
    let def : x.adds.def ≡ y.adds.def = def-one (words_of y.words) x.adds.def y.adds.def read y.adds.read in
    ap (λ (o : List (List ℕ)). state o a.measures) (x.objects ∙ sym y.objects)
    ∙ ap (λ (m : List Def). state b.objects m) (x.adds.grown ∙ ap (λ (d : Def). old.measures ++ d ∷ []) def ∙ sym y.adds.grown)

-- `end` adds nothing.
pub AddsLine-no_end : (old new : InventoryState) (line : List ℕ) → AddsLine old line new → line ≡ end_line → ⊥
AddsLine-no_end old new line (inl x) end = object-no_end x.name (sym x.line_is ∙ end)
AddsLine-no_end old new line (inr x) end = measure-no_end x.words (sym x.line_is ∙ end)

-- what is added breaks no rule
added-unbroken : (old new : List Def) (words : List ℕ) (e : MeasError) → Adds old words new → e ≢ meas.Memory → Breaks old (words_of words) e → ⊥
added-unbroken old new words e adds other breaks =
    other (Breaks-one old (words_of words) e meas.Memory breaks (Breaks-Memory old (words_of words) adds.def adds.read adds.fresh adds.room))

AddsLine-unrefused : (old new : InventoryState) (line : List ℕ) (c : Code) → AddsLine old line new → RefusesLine old line (stop.Refused c) → ⊥
AddsLine-unrefused old new line c (inl x) (inl r) =
    let name : x.name ≡ r.0 = same-name x.name r.0 (sym x.line_is ∙ r.1) in
    let none : add_refusal old.objects r.0 ≡ None = ap (add_refusal old.objects) (sym name) ∙ x.let_in in
    let some : add_refusal old.objects r.0 ≡ Some r.2.0 = r.2.1 in cc
AddsLine-unrefused old new line c (inl x) (inr (inl r)) = object-no_measure x.name r.0 (sym x.line_is ∙ r.1)
AddsLine-unrefused old new line c (inl x) (inr (inr r)) = r.0.object x.name x.line_is
AddsLine-unrefused old new line c (inr x) (inl r) = object-no_measure r.0 x.words (sym r.1 ∙ x.line_is)
AddsLine-unrefused old new line c (inr x) (inr (inl r)) =
    let words : r.0 ≡ x.words = same-words r.0 x.words (sym r.1 ∙ x.line_is) in
    added-unbroken old.measures new.measures x.words r.2.0 x.adds r.2.1 (subst (λ (w : List ℕ). Breaks old.measures (words_of w) r.2.0) words r.2.2)
AddsLine-unrefused old new line c (inr x) (inr (inr r)) = r.0.measure x.words x.line_is

-- A line that adds isn't refused.
pub AddsShort-unrefused : (many : ℕ) (old new : InventoryState) (line : List ℕ) (c : Code) → AddsShort old line new → RefusesNext many old line c → ⊥
AddsShort-unrefused many old new line c adds (inl long) = omega (arith, adds.short, long.0)
AddsShort-unrefused many old new line c adds (inr (inl end)) = AddsLine-no_end old new line adds.adds end.1
AddsShort-unrefused many old new line c adds (inr (inr other)) = AddsLine-unrefused old new line c adds.adds other.2

RefusesLine-one : (old : InventoryState) (line : List ℕ) (c d : Code) → RefusesLine old line (stop.Refused c) → RefusesLine old line (stop.Refused d) → c ≡ d
RefusesLine-one old line c d (inl r) (inl s) =
    let name : r.0 ≡ s.0 = same-name r.0 s.0 (sym r.1 ∙ s.1) in
    let one : add_refusal old.objects s.0 ≡ Some r.2.0 = ap (add_refusal old.objects) (sym name) ∙ r.2.1 in
    let two : add_refusal old.objects s.0 ≡ Some s.2.0 = s.2.1 in
    let same : r.2.0 ≡ s.2.0 = cc in r.2.2 ∙ ap tree_code same ∙ sym s.2.2
RefusesLine-one old line c d (inl r) (inr (inl s)) = absurd (object-no_measure r.0 s.0 (sym r.1 ∙ s.1))
RefusesLine-one old line c d (inl r) (inr (inr s)) = absurd (s.0.object r.0 r.1)
RefusesLine-one old line c d (inr (inl r)) (inl s) = absurd (object-no_measure s.0 r.0 (sym s.1 ∙ r.1))
RefusesLine-one old line c d (inr (inl r)) (inr (inl s)) =
    let words : r.0 ≡ s.0 = same-words r.0 s.0 (sym r.1 ∙ s.1) in
    let same : r.2.0 ≡ s.2.0 = Breaks-one old.measures (words_of s.0) r.2.0 s.2.0 (subst (λ (w : List ℕ). Breaks old.measures (words_of w) r.2.0) words r.2.2) s.2.2 in
    r.2.3 ∙ ap meas_code same ∙ sym s.2.3
RefusesLine-one old line c d (inr (inl r)) (inr (inr s)) = absurd (s.0.measure r.0 r.1)
RefusesLine-one old line c d (inr (inr r)) (inl s) = absurd (r.0.object s.0 s.1)
RefusesLine-one old line c d (inr (inr r)) (inr (inl s)) = absurd (r.0.measure s.0 s.1)
RefusesLine-one old line c d (inr (inr r)) (inr (inr s)) = let one = r.1 in let two = s.1 in let both : stop.Refused c ≡ stop.Refused d = one ∙ sym two in cc

-- a line that breaks no rule isn't refused
RefusesLine-memory : (old : InventoryState) (line : List ℕ) (c : Code) → RefusesLine old line stop.Memory → RefusesLine old line (stop.Refused c) → ⊥
RefusesLine-memory old line c (inl r) (inl s) =
    let name : r.0 ≡ s.0 = same-name r.0 s.0 (sym r.1 ∙ s.1) in
    let none : add_refusal old.objects s.0 ≡ None = ap (add_refusal old.objects) (sym name) ∙ r.2 in
    let some : add_refusal old.objects s.0 ≡ Some s.2.0 = s.2.1 in cc
RefusesLine-memory old line c (inl r) (inr (inl s)) = object-no_measure r.0 s.0 (sym r.1 ∙ s.1)
RefusesLine-memory old line c (inl r) (inr (inr s)) = s.0.object r.0 r.1
RefusesLine-memory old line c (inr (inl r)) (inl s) = object-no_measure s.0 r.0 (sym s.1 ∙ r.1)
RefusesLine-memory old line c (inr (inl r)) (inr (inl s)) =
    let words : r.0 ≡ s.0 = same-words r.0 s.0 (sym r.1 ∙ s.1) in
    let none = subst (λ (w : List ℕ). Breaks old.measures (words_of w) meas.Memory) words r.2 in
    s.2.1 (Breaks-one old.measures (words_of s.0) s.2.0 meas.Memory s.2.2 none)
RefusesLine-memory old line c (inr (inl r)) (inr (inr s)) = s.0.measure r.0 r.1
RefusesLine-memory old line c (inr (inr r)) s = let why = r.1 in cc

-- A line of an inventory that breaks no rule isn't refused.
pub RefusesNext-memory : (many : ℕ) (old : InventoryState) (line : List ℕ) (c : Code) → length line ≤ MOST_LINE → line ≢ end_line → RefusesLine old line stop.Memory → RefusesNext many old line c → ⊥
RefusesNext-memory many old line c short other none (inl long) = omega (arith, short, long.0)
RefusesNext-memory many old line c short other none (inr (inl end)) = other end.1
RefusesNext-memory many old line c short other none (inr (inr refused)) = RefusesLine-memory old line c none refused.2

pub end-short : (line : List ℕ) → line ≡ end_line → MOST_LINE < length line → ⊥
end-short line end long = let three : length line ≡ 3 = ap length end in omega (arith, three, long)

-- `end` is refused by no code where it isn't as the end.
pub RefusesNext-end : (many : ℕ) (old : InventoryState) (line : List ℕ) (c : Code) → line ≡ end_line → (0 < many → RefusesEnd old c → ⊥) → RefusesNext many old line c → ⊥
RefusesNext-end many old line c end none (inl long) = end-short line end long.0
RefusesNext-end many old line c end none (inr (inl refused)) = none refused.0 refused.2
RefusesNext-end many old line c end none (inr (inr other)) = other.1 end

RefusesEnd-one : (old : InventoryState) (c d : Code) → RefusesEnd old c → RefusesEnd old d → c ≡ d
RefusesEnd-one old c d (inl r) (inl s) = r.0 ∙ sym s.0
RefusesEnd-one old c d (inl r) (inr s) = absurd (r.1 s.1)
RefusesEnd-one old c d (inr r) (inl s) = absurd (s.1 r.1)
RefusesEnd-one old c d (inr r) (inr s) = r.0 ∙ sym s.0

-- A line is refused by one code.
pub RefusesNext-one : (many more : ℕ) (old : InventoryState) (line : List ℕ) (c d : Code) → RefusesNext many old line c → RefusesNext more old line d → c ≡ d
RefusesNext-one many more old line c d (inl r) (inl s) = r.1 ∙ sym s.1
RefusesNext-one many more old line c d (inl r) (inr (inl s)) = absurd (end-short line s.1 r.0)
RefusesNext-one many more old line c d (inl r) (inr (inr s)) = absurd (omega (arith, r.0, s.0))
RefusesNext-one many more old line c d (inr (inl r)) (inl s) = absurd (end-short line r.1 s.0)
RefusesNext-one many more old line c d (inr (inl r)) (inr (inl s)) = RefusesEnd-one old c d r.2 s.2
RefusesNext-one many more old line c d (inr (inl r)) (inr (inr s)) = absurd (s.1 r.1)
RefusesNext-one many more old line c d (inr (inr r)) (inl s) = absurd (omega (arith, r.0, s.0))
RefusesNext-one many more old line c d (inr (inr r)) (inr (inl s)) = absurd (r.1 s.1)
RefusesNext-one many more old line c d (inr (inr r)) (inr (inr s)) = RefusesLine-one old line c d r.2 s.2

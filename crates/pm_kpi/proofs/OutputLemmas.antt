-- The lines of a map are those of the keys that stand.
use Rattle.std.proofs.Common.{◌≡◌, ◌<◌, ◌++◌, ℕ, Bool, true, false, inl, inr, List, [], ◌∷◌, length, map, get_or, refl, sym, ap, subst, ◌∙◌, append_assoc}
use Rattle.std.specs.Prelude.{◌||◌, Option, Some, None, cond, filter, All}
use Rattle.std.specs.List.{list_any, flat_map, join_with_byte, AllByRecursion}
use Rattle.std.specs.List.Sorted.{IsStrictlySortedBy}
use Rattle.std.specs.Map.{lookup, keys_of}
use Rattle.std.specs.Option.{unwrap_or}
use Rattle.std.specs.Ordering.{is_eq}
use Rattle.std.specs.declared.cmp.Ordering.TheVariants.{Less}
use Rattle.std.specs.BTreeMap.{BTreeMap, is_at, get_by, IsOrdered, get}
use Rattle.std.proofs.lemmas.Bool.{cases_Bool, cond-true, cond-false}
use Rattle.std.proofs.lemmas.List.Elements.{All-head, All-tail}
use Rattle.pm_kpi.specs.Ratio.{RatioContent}
use Rattle.pm_kpi.specs.Key.{KeyContent, key_content, key_eq, key_cmp}
use Rattle.pm_kpi.specs.Rows.{ShareContent}
use Rattle.pm_kpi.specs.Totals.{totals_of, totals_at}
use Rattle.pm_kpi.specs.Maps.{sums_at, Holds}
use Rattle.pm_kpi.specs.Output.{key_line, AreKeys}
use Rattle.pm_kpi.specs.Lines.{entry_line, entry_lines}
use Rattle.pm_kpi.specs.declared.by.By.{By}
use Rattle.pm_kpi.specs.declared.key.Key.{Key}
use Rattle.pm_kpi.specs.declared.totals.Totals.{Totals}
use Rattle.pm_kpi.proofs.KeyLemmas.{key_eq-key_cmp, key_equiv, query, order}

-- Seven words with a space between two, and a line feed.
pub seven_words : (t a b c d e f g : List ℕ)
    → ((((((((((((((t ++ a) ++ 32 ∷ []) ++ b) ++ 32 ∷ []) ++ c) ++ 32 ∷ []) ++ d) ++ 32 ∷ []) ++ e) ++ 32 ∷ []) ++ f) ++ 32 ∷ []) ++ g) ++ 10 ∷ [])
    ≡ t ++ (join_with_byte 32 (a ∷ b ∷ c ∷ d ∷ e ∷ f ∷ g ∷ []) ++ 10 ∷ [])
seven_words t a b c d e f g = simp append_assoc

abbrev Entry : Type 0
Entry = Key × Totals

abbrev said : Entry → KeyContent
said e = key_content e.0

abbrev standing : List Entry → List Entry
standing es = filter (λ (e : Entry). e.1.stands) es

-- What the keys that stand say.
abbrev pub contents : List Entry → List KeyContent
contents es = map said (standing es)

-- ---- the lines

line_step : (b : Bool) (F : KeyContent → List ℕ) (e : Entry) (fs : List Entry) (line rest : List ℕ) → line ≡ F (said e) → rest ≡ flat_map F (map said fs)
    → cond b line [] ++ rest ≡ flat_map F (map said (cond b (e ∷ fs) fs))
line_step true F e fs line rest here after = ap (λ l. l ++ rest) here ∙ ap (λ l. F (said e) ++ l) after
line_step false F e fs line rest here after = after

pub lines_are : (by : By) (ratios : List RatioContent) (es : List Entry) (shares : List ShareContent) → All (λ (e : Entry). e.1 ≡ totals_at shares (said e)) es
    → entry_lines by ratios es ≡ flat_map (λ key. key_line by ratios key (totals_at shares key)) (contents es)
lines_are by ratios [] shares all = refl
lines_are by ratios (e ∷ es) shares all =
    line_step e.1.stands (λ key. key_line by ratios key (totals_at shares key)) e (standing es) (key_line by ratios (said e) e.1) (entry_lines by ratios es)
    (ap (key_line by ratios (said e)) (All-head (λ (e : Entry). e.1 ≡ totals_at shares (said e)) e es all))
    (lines_are by ratios es shares (All-tail (λ (e : Entry). e.1 ≡ totals_at shares (said e)) e es all))

-- Each entry has the sums of its key.
pub told : (m : BTreeMap Key Totals) (shares : List ShareContent) → Holds m shares → All (λ (e : Entry). get order m e.0 ≡ Some e.1) m.entries
    → All (λ (e : Entry). e.1 ≡ totals_at shares (said e)) m.entries
told m shares holds found = λ k d within.
    sym (ap (λ (o : Option Totals). unwrap_or o (totals_of [])) (found k d within)) ∙ holds.each (said (get_or m.entries k d))

-- ---- the order

all_step : (b : Bool) (P : KeyContent → Type 0) (e : Entry) (fs : List Entry) → P (said e) → AllByRecursion P (map said fs)
    → AllByRecursion P (map said (cond b (e ∷ fs) fs))
all_step true P e fs here after = (here, after)
all_step false P e fs here after = after

less : (k : Key) (es : List Entry) → AllByRecursion (λ y. order k y ≡ Less) (keys_of es) → AllByRecursion (λ y. key_cmp (key_content k) y ≡ Less) (contents es)
less k [] all = tt
less k (e ∷ es) all = all_step e.1.stands (λ y. key_cmp (key_content k) y ≡ Less) e (standing es) all.0 (less k es all.1)

rising_step : (b : Bool) (e : Entry) (fs : List Entry) → AllByRecursion (λ y. key_cmp (said e) y ≡ Less) (map said fs) → IsStrictlySortedBy key_cmp (map said fs)
    → IsStrictlySortedBy key_cmp (map said (cond b (e ∷ fs) fs))
unfolding IsStrictlySortedBy
rising_step true e fs here after = (here, after)
rising_step false e fs here after = after

rising : (es : List Entry) → IsStrictlySortedBy order (keys_of es) → IsStrictlySortedBy key_cmp (contents es)
unfolding IsStrictlySortedBy
rising [] sorted = tt
rising (e ∷ es) sorted = rising_step e.1.stands e (standing es) (less e.0 es sorted.0) (rising es sorted.1)

-- ---- what stands

none_above : (q k : KeyContent) (ks : List KeyContent) → key_eq q k ≡ true → AllByRecursion (λ y. key_cmp k y ≡ Less) ks → list_any (key_eq q) ks ≡ false
none_above q k [] same all = refl
none_above q k (y ∷ ks) same all =
    ap (λ b. b || list_any (key_eq q) ks) (key_equiv.congr q k y same ∙ key_eq-key_cmp k y ∙ ap is_eq all.0) ∙ none_above q k ks same all.1

here_step : (b : Bool) (q : KeyContent) (e : Entry) (fs : List Entry) → key_eq q (said e) ≡ true → list_any (key_eq q) (map said fs) ≡ false
    → list_any (key_eq q) (map said (cond b (e ∷ fs) fs)) ≡ b
here_step true q e fs here none = ap (λ b. b || list_any (key_eq q) (map said fs)) here
here_step false q e fs here none = none

there_step : (b : Bool) (q : KeyContent) (e : Entry) (fs : List Entry) → key_eq q (said e) ≡ false
    → list_any (key_eq q) (map said (cond b (e ∷ fs) fs)) ≡ list_any (key_eq q) (map said fs)
there_step true q e fs there = ap (λ b. b || list_any (key_eq q) (map said fs)) there
there_step false q e fs there = refl

stands : (q : KeyContent) (es : List Entry) → IsStrictlySortedBy order (keys_of es)
    → list_any (key_eq q) (contents es) ≡ (unwrap_or (lookup (is_at (query q)) es) (totals_of [])).stands
unfolding IsStrictlySortedBy
stands q [] sorted = refl
stands q (e ∷ es) sorted = elim (cases_Bool (key_eq q (said e))) [
  | inl here ↦
      here_step e.1.stands q e (standing es) here (none_above q (said e) (contents es) here (less e.0 es sorted.0))
      ∙ ap (λ (o : Option Totals). (unwrap_or o (totals_of [])).stands)
      (sym (cond-true (is_eq (query q e.0)) (Some e.1) (lookup (is_at (query q)) es) (sym (key_eq-key_cmp q (said e)) ∙ here)))
  | inr there ↦
      there_step e.1.stands q e (standing es) there ∙ stands q es sorted.1
      ∙ ap (λ (o : Option Totals). (unwrap_or o (totals_of [])).stands)
      (sym (cond-false (is_eq (query q e.0)) (Some e.1) (lookup (is_at (query q)) es) (sym (key_eq-key_cmp q (said e)) ∙ there)))
]

pub are_keys : (m : BTreeMap Key Totals) (shares : List ShareContent) → Holds m shares → IsOrdered order m → AreKeys shares (contents m.entries)
are_keys m shares holds ordered = record {
  rising = rising m.entries ordered;
  same = λ q. stands q m.entries ordered ∙ ap (λ (t : Totals). t.stands) (holds.each q);
}

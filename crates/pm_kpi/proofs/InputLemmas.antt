-- How far the reading of the ratios has come, and how it ends.
use Rattle.std.proofs.Common.{◌≡◌, ◌+◌, ◌<◌, ℕ, List, [], ◌∷◌, ◌++◌, length, take, inl, Result, Ok, Err, refl, sym, ◌∙◌, ap, subst, arith, length-append, append_assoc, nat_le, Bool, true, false}
use Rattle.std.specs.Prelude.{◌⊎◌, None, Option, cond}
use Rattle.std.proofs.lemmas.List.{append-nil}
use Rattle.pm_base.specs.Lines.{MOST_LINE, lines_of, HasNoLineFeed}
use Rattle.pm_base.specs.declared.code.Code.{Code}
use Rattle.pm_base.specs.declared.code.Code.TheVariants.{K1}
use Rattle.pm_outside.specs.Feed.{IsFirstLine}
use Rattle.pm_outside.proofs.LinesLemmas.{lines_of-next, lines_of-long}
use Rattle.pm_kpi.specs.Ratio.{RatioContent, ratio_of}
use Rattle.pm_kpi.specs.Input.{AddsLine, AddsLines, Breaks, IsRefused, IsReadSoFar, ReadsRatios}
use Rattle.pm_kpi.specs.LineEnds.{TakesLine}
use Rattle.pm_kpi.specs.declared.kpi_end.KpiEnd.{KpiEnd}
use Rattle.pm_kpi.specs.declared.kpi_end.KpiEnd.TheVariants.{Done, BadInput, ReadFault, WriteFault, StoreFault, Foreign, Garbled, Memory}

-- At first all bytes are left.
pub read_first : (before left : List ℕ) (ratios : List RatioContent) → left ≡ before → ratios ≡ [] → IsReadSoFar before left ratios 1
read_first before left ratios all none = record { good = []; lines = ap lines_of (sym all); adds = none; numbered = omega arith }

adds_more : (old middle new : List RatioContent) (lines : List (List ℕ)) (line : List ℕ) → AddsLines old lines middle → AddsLine middle line new
    → AddsLines old (lines ++ line ∷ []) new
adds_more old middle new [] line same adds = (new, subst (λ (r : List RatioContent). AddsLine r line new) same adds, refl)
adds_more old middle new (first ∷ lines) line all adds = (all.0, all.1, adds_more all.0 middle new lines line all.2 adds)

-- A further line adds a ratio.
pub read_next : (before middle after line : List ℕ) (old new : List RatioContent) (place : ℕ) → IsReadSoFar before middle old place
    → IsFirstLine middle line after → AddsLine old line new → IsReadSoFar before after new (place + 1)
read_next before middle after line old new place so_far first adds = record {
  good = so_far.good ++ line ∷ [];
  lines =
      so_far.lines ∙ ap (λ (l : List (List ℕ)). so_far.good ++ l) (lines_of-next middle line after first)
      ∙ sym (append_assoc so_far.good (line ∷ []) (lines_of after));
  adds = adds_more [] old new so_far.good line so_far.adds adds;
  numbered = omega (arith, so_far.numbered, length-append so_far.good (line ∷ []));
}

refused_at : (before middle : List ℕ) (rest : List (List ℕ)) (line : List ℕ) (ratios : List RatioContent) (place : ℕ) (code : Code)
    → IsReadSoFar before middle ratios place → lines_of middle ≡ line ∷ rest → Breaks ratios line code → IsRefused (lines_of before) place code
refused_at before middle rest line ratios place code so_far is breaks = record {
  good = so_far.good;
  line = line;
  rest = rest;
  split = so_far.lines ∙ ap (λ (l : List (List ℕ)). so_far.good ++ l) is;
  ratios = ratios;
  adds = so_far.adds;
  breaks = breaks;
  numbered = so_far.numbered;
}

not_within : (b : Bool) (o : Option RatioContent) → b ≡ false → cond b o None ≡ None
not_within b o is = ap (λ (t : Bool). cond t o None) is

too_long : (line : List ℕ) → MOST_LINE < length line → nat_le (length line) MOST_LINE ≡ false
too_long line long = grind arith

-- The next line is too long.
pub read_long : (before middle : List ℕ) (ratios : List RatioContent) (place : ℕ) → IsReadSoFar before middle ratios place → MOST_LINE < length middle
    → HasNoLineFeed (take (MOST_LINE + 1) middle) → IsRefused (lines_of before) place K1
read_long before middle ratios place so_far long none =
    let parts = lines_of-long (MOST_LINE + 1) middle (omega arith) (omega (arith, long)) none in
    refused_at before middle parts.1 parts.0 ratios place K1 so_far parts.2
    (not_within (nat_le (length parts.0) MOST_LINE) _ (too_long parts.0 (omega (arith, parts.3))))

-- No line is left.
pub read_all : (before left : List ℕ) (ratios : List RatioContent) (place : ℕ) → IsReadSoFar before left ratios place → left ≡ []
    → AddsLines [] (lines_of before) ratios
read_all before left ratios place so_far none =
    subst (λ (l : List (List ℕ)). AddsLines [] l ratios)
    (sym (so_far.lines ∙ ap (λ (m : List ℕ). so_far.good ++ lines_of m) none ∙ append-nil so_far.good)) so_far.adds

-- The next line isn't taken.
pub read_stopped : (before middle after line : List ℕ) (old new : List RatioContent) (place : ℕ) (end : KpiEnd) → IsReadSoFar before middle old place
    → IsFirstLine middle line after → TakesLine old line place (Err end) new → ReadsRatios before (Err end) new
read_stopped before middle after line old new place Done so_far first takes = absurd takes
read_stopped before middle after line old new place (BadInput at code) so_far first takes =
    inl (subst (λ (n : ℕ). IsRefused (lines_of before) n code) (sym takes.0)
    (refused_at before middle (lines_of after) line old place code so_far (lines_of-next middle line after first) takes.1))
read_stopped before middle after line old new place ReadFault so_far first takes = tt
read_stopped before middle after line old new place WriteFault so_far first takes = takes
read_stopped before middle after line old new place StoreFault so_far first takes = takes
read_stopped before middle after line old new place Foreign so_far first takes = takes
read_stopped before middle after line old new place (Garbled offset) so_far first takes = takes
read_stopped before middle after line old new place Memory so_far first takes = tt

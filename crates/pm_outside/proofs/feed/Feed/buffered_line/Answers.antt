use Rattle.std.proofs.Common.{◌≡◌, ◌<◌, ℕ, List, true, [], refl, length-append, length, take, sym, ◌∙◌, ap, subst, arith}
use Rattle.std.specs.List.{slice_range}
use Rattle.pm_base.specs.Lines.{HasNoLineFeed}
use Rattle.pm_outside.specs.Line.{IsLineOf}
use Rattle.pm_outside.specs.Feed.{FeedState}
use Rattle.pm_outside.proofs.LineLemmas.{line_taken, still_long}
use Rattle.pm_outside.proofs.feed.Feed.buffered_line.Goals as goal

pub returns-in-Line-clause-line : goal.returns-in-Line-clause-line
returns-in-Line-clause-line c = λ rest known.
    let f = c.self.inside in
    let line = subst (λ (b : List ℕ). IsLineOf (slice_range b f.start f.end) f.ended c.in-Line.length c.in-Line.taken) c.deref.ensures.value c.in-Line.ensures in
    let ended : f.ended ≡ true → rest ≡ [] = λ is. known (ap (λ (s : FeedState). s.ended) (sym c.self.view_is) ∙ is) in
    rw (← c.self.view_is) (line_taken f.buffer.items f.start f.end c.in-Line.length c.in-Line.taken f.ended rest c.self.invariant.start line ended)

pub returns-in-Long-clause-line : goal.returns-in-Long-clause-line
returns-in-Long-clause-line c = λ rest known.
    let f = c.self.inside in
    let long = subst (λ (b : List ℕ). (2048 < length (slice_range b f.start f.end)) × HasNoLineFeed (take 2049 (slice_range b f.start f.end))) c.deref.ensures.value c.in-Long.ensures in
    rw (← c.self.view_is) (omega (arith, long.0, length-append (slice_range f.buffer.items f.start f.end) rest), still_long (slice_range f.buffer.items f.start f.end) rest long.0 long.1, refl, refl)

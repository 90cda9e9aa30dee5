use Rattle.std.proofs.Common.{◌≡◌, ◌+◌, ◌≤◌, ◌++◌, ℕ, List, length, map, sym, ◌∙◌, ap, arith, length-append, Bor}
use Rattle.std.proofs.lemmas.List.{length-map}
use Rattle.pm_base.specs.Lines.{lines_of, lines_of_parts}
use Rattle.pm_outside.specs.Feed.{FeedState, left_to}
use Rattle.pm_outside.specs.Memory.{source_left}
use Rattle.pm_tally.proofs.PlainLemmas.{outcome-plain, lines-behind}
use Rattle.pm_tally.proofs.plain.plain_tally.Goals as goal

pub returns-in-Ok-clause-outcome : goal.returns-in-Ok-clause-outcome
returns-in-Ok-clause-outcome c =
    let input = c.args.input.now in
    let before = left_to c.in_ok-feed.feed (source_left c.in_ok-source.source) in
    let rest = left_to c.read_inventory.new.feed (source_left c.read_inventory.new.source) in
    let start : before ≡ input = ap (λ (f : FeedState). left_to f (source_left c.in_ok-source.source)) c.in_ok-feed.ensures ∙ c.in_ok-source.ensures.content.0 in
    let none : c.in_ok-feed.feed.given ≡ 0 = ap (λ (f : FeedState). f.given) c.in_ok-feed.ensures in
    let counted : c.read_inventory.new.feed.given + length rest ≡ length input = omega (arith, c.read_inventory.ensures.reads.given tt, none, ap length start) in
    let read = c.in-Ok.ensures.read tt in
    let all = c.lines_among.result.now in
    let lines : map (λ line. line.now) all ≡ lines_of input =
    c.lines_among.ensures ∙ ap lines_of_parts (ap (map (λ (part : Bor (List ℕ)). part.now)) c.deref.ensures.value ∙ c.in_ok-parts.ensures) in
    let split : lines_of input ≡ read.read ++ lines_of rest = ap lines_of (sym start) ∙ read.taken.lines in
    let many : c.in-Ok.read.lines ≤ length all = omega (arith, length-map all (λ (line : Bor (List ℕ)). line.now), ap length lines, ap length split, length-append read.read (lines_of rest), read.counted) in
    let others : map (λ line. line.now) c.lines_after.result.now ≡ lines_of rest =
    ap (map (λ (line : Bor (List ℕ)). line.now)) (c.lines_after.ensures many) ∙ lines-behind (λ (line : Bor (List ℕ)). line.now) all (lines_of input) read.read (lines_of rest) c.in-Ok.read.lines lines split read.counted in
    outcome-plain input before rest c.in-Ok.read.inventory c.in-Ok.read.lines c.read_inventory.new.feed.given (map (λ line. line.now) c.lines_after.result.now) c.tally_of.result start read counted c.requires others c.tally_of.ensures

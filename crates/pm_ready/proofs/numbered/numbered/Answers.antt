use Rattle.std.proofs.Common.{◌≡◌, ◌∙◌, ◌+◌, ◌++◌, map, subst, sym, ap, arith, ◌<◌}
use Rattle.pm_file.specs.Numbered.{part_of}
use Rattle.pm_close.specs.Files.{parts_with}
use Rattle.pm_ready.specs.Shape.{terms_of}
use Rattle.pm_ready.specs.Whole.{tick_after, HasValues}
use Rattle.pm_ready.proofs.StepLemmas.{each-back, tick-append, parts-append}
use Rattle.pm_ready.proofs.PermittedLemmas.{tick-grows}
use Rattle.pm_ready.proofs.numbered.numbered.Goals as goal

pub push_parts-requires-clause-in_range : goal.push_parts-requires-clause-in_range
push_parts-requires-clause-in_range c =
    let t = terms_of c.args.shape.now in
    let parted = tick-append t c.args.begin c.args.earlier.now c.args.parts.now in
    let grows = tick-grows t (tick_after t c.args.begin c.args.earlier.now) c.args.parts.now in
    let last = c.requires.in_range in
    omega (arith, parted, grows, last)

pub push_parts-requires-2-clause-values : goal.push_parts-requires-2-clause-values
push_parts-requires-2-clause-values c = each-back (HasValues (terms_of c.args.shape.now)) c.args.earlier.now c.args.parts.now c.requires.values

pub push_parts-requires-2-clause-in_range : goal.push_parts-requires-2-clause-in_range
push_parts-requires-2-clause-in_range c =
    let t = terms_of c.args.shape.now in
    subst (λ n. n < 18446744073709551616)
    (tick-append t c.args.begin c.args.earlier.now c.args.parts.now ∙ ap (λ n. tick_after t n c.args.parts.now) (sym c.in_ok-tick.ensures.next)) c.requires.in_range

pub returns : goal.returns
returns c =
    let t = terms_of c.args.shape.now in
    let earlier = c.args.earlier.now in
    let parts = c.args.parts.now in
    let job = c.in_ok-from_slice.ensures ∙ c.as_bytes.ensures.value in
    let tick = c.in_ok-tick.ensures.next in
    let end : c.in_ok-end.end ≡ c.args.begin + c.args.shape.now.reporting =
    c.in_ok-end.ensures.next ∙ ap (λ n. tick_after t n parts) tick ∙ sym (tick-append t c.args.begin earlier parts) ∙ c.requires.whole in
    let over = end ∙ ap (λ n. c.args.begin + n) (sym c.args.shape.now.product) in
    let first = c.in_ok-tick.ensures.parts ∙ ap (λ l. map part_of l ++ parts_with t c.args.begin earlier) c.new-out.ensures.items in
    let all = c.in_ok-end.ensures.parts ∙ ap (λ l. l ++ parts_with t c.in_ok-tick.tick parts) first
    ∙ ap (λ n. parts_with t c.args.begin earlier ++ parts_with t n parts) tick ∙ sym (parts-append t c.args.begin earlier parts) in
    λ i. record { job = job i; begin = c.args.begin; end = over i; parts = all i }

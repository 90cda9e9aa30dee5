use Rattle.std.proofs.Common.{◌≡◌, ◌<◌, ◌++◌, ◌∷◌, [], ◌∙◌, ap, sym, arith}
use Rattle.pm_history.specs.History.{history_of}
use Rattle.pm_history.specs.Files.{part_of, parts_of}
use Rattle.pm_slow.specs.Book.{terms_in}
use Rattle.pm_slow.proofs.LoopLemmas.{part-within, parts_of-more, next-product}
use Rattle.pm_slow.proofs.file.parts_of.Goals as goal

pub part_of-requires-clause-moments : goal.part_of-requires-clause-moments
part_of-requires-clause-moments c =
    let g = c.args.terms.now.granularity in
    let n = c.args.terms.now.parts in
    let lt : c.loop-k._k < n = omega (arith, c.loop-k-test.true, c.parts-count.ensures.value) in
    let within = part-within c.loop-k._k n c.args.first g lt in
    let at = c.loop-k.invariant.at in
    let room = c.requires.moments in
    omega (arith, within, at, room)

pub loop-k-preserved : goal.loop-k-preserved
loop-k-preserved c =
    let T = terms_in c.args.book.now in
    let h = history_of c.args.history.now in
    let g = c.args.terms.now.granularity in
    let k = c.loop-k._k in
    let at = c.loop-k.invariant.at in
    let old = c.loop-k.invariant.parts in
    let this = c.in_ok-part_of.ensures ∙ ap (part_of T h c.args.w.now c.args.terms.now) at in
    let pushed = c.in_ok-push.ensures.items in
    record {
      parts = pushed ∙ ((λ i. old i ++ this i ∷ []) ∙ sym (parts_of-more T h c.args.w.now c.args.terms.now c.args.first k));
      at = omega (arith, at, c.granularity-ticks.ensures.value, next-product k g);
    }

pub returns : goal.returns
returns c =
    let T = terms_in c.args.book.now in
    let h = history_of c.args.history.now in
    let all : c.loop-k._k ≡ c.args.terms.now.parts = omega (arith, c.loop-k-test.false, c.loop-k.auto._k-end, c.parts-count.ensures.value) in
    c.loop-k.invariant.parts ∙ ap (parts_of T h c.args.w.now c.args.terms.now c.args.first) all

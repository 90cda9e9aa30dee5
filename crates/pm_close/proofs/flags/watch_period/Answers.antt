use Rattle.std.proofs.Common.{◌+◌, sym, ap, ◌∙◌}
use Rattle.pm_close.specs.Flags.{crossing_told}
use Rattle.pm_close.proofs.FlagLemmas.{watch-none, watch-some, crossing-watched, taken-some, taken-suspect, taken-null}
use Rattle.pm_close.proofs.flags.watch_period.Goals as goal

pub returns-in-Some-clause-stands : goal.returns-in-Some-clause-stands
returns-in-Some-clause-stands c =
    λ terms h w granularity watched object armed tick later took stand.
    watch-some terms h w granularity object watched armed tick c.in-Some.value c.args.watch.now c.step.new.self later
    (took ∙ taken-some c.args.value c.args.suspect c.in-Some.value c.in-Some.is c.if-not-suspect.true)
    c.step.ensures.fields c.step.ensures.sequence stand

pub returns-in-Some-clause-crossing : goal.returns-in-Some-clause-crossing
returns-in-Some-clause-crossing c =
    λ terms h w granularity watched object armed tick later took stand.
    crossing-watched terms h w granularity object watched armed tick c.in-Some.value c.args.watch.now c.step.result later
    (took ∙ taken-some c.args.value c.args.suspect c.in-Some.value c.in-Some.is c.if-not-suspect.true)
    c.step.ensures.crossing stand
    ∙ ap (λ v. crossing_told w.id watched object (tick + 1) v c.step.result) (sym c.in-Some.is)

pub returns-in_default-clause-stands : goal.returns-in_default-clause-stands
returns-in_default-clause-stands c =
    λ terms h w granularity watched object armed tick later took stand.
    watch-none terms h w granularity object watched armed tick c.args.watch.now later
    (took ∙ taken-suspect c.args.value c.args.suspect c.if-not-suspect.false) stand

pub returns-in_default-2-clause-stands : goal.returns-in_default-2-clause-stands
returns-in_default-2-clause-stands c =
    λ terms h w granularity watched object armed tick later took stand.
    watch-none terms h w granularity object watched armed tick c.args.watch.now later
    (took ∙ taken-null c.args.value c.args.suspect c.in_default.is) stand

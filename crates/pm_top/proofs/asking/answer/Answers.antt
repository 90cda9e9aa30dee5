use Rattle.std.proofs.Common.{refl, sym, ◌∙◌, subst}
use Rattle.pm_base.specs.Moment.{IsMoment}
use Rattle.pm_top.proofs.AskingLemmas.{asked-at, answered, cut-off, refused-moment}
use Rattle.pm_top.proofs.asking.answer.Goals as goal

pub moment_of-requires : goal.moment_of-requires
moment_of-requires g c = subst IsMoment (sym c.now.ensures) c.args.engine.now.state.in_range

pub returns-in-Some-clause-answered : goal.returns-in-Some-clause-answered
returns-in-Some-clause-answered g c = λ run carries.
    let asked = asked-at g.D.Disk.IsTold _ _ run c.args.request.now.moment c.now.result _ carries c.now.ensures (sym c.in-Some.is ∙ c.moment_of.ensures.moment) in
    answered _ c.in-Some.moment c.args.request.now run _ c.answer.result asked (c.answer.ensures.turn run carries)

pub returns-in-Some-clause-cut_off : goal.returns-in-Some-clause-cut_off
returns-in-Some-clause-cut_off g c = λ told run carries.
    let asked = asked-at g.D.Disk.IsTold _ _ run c.args.request.now.moment c.now.result _ carries c.now.ensures (sym c.in-Some.is ∙ c.moment_of.ensures.moment) in
    cut-off _ c.in-Some.moment c.args.request.now run _ _ c.answer.result asked (c.answer.ensures.any_moment told run carries)

pub returns-in-None-clause-answered : goal.returns-in-None-clause-answered
returns-in-None-clause-answered g c = λ run carries.
    let asked = asked-at g.D.Disk.IsTold _ _ run c.args.request.now.moment c.now.result _ carries c.now.ensures (sym c.in-None.is ∙ c.moment_of.ensures.moment) in
    refused-moment _ c.args.request.now run c.refuse_moment.result _ asked (c.refuse_moment.ensures, refl) carries

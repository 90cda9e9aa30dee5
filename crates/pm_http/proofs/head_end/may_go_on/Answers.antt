use Rattle.std.proofs.Common.{refl}
use Rattle.pm_http.proofs.SeenLemmas.{seen_all, begins_all}
use Rattle.pm_http.proofs.head_end.may_go_on.Goals as goal

pub returns-clause-seen : goal.returns-clause-seen
returns-clause-seen c = λ is none seen. seen_all _ c.args.head.now refl (rw is at c.may_grow.ensures none c.requires.few)

pub returns-clause-may : goal.returns-clause-may
returns-clause-may c = λ is none seen empty.
    begins_all _ c.args.head.now refl (seen_all _ c.args.head.now refl (rw is at c.may_grow.ensures none c.requires.few))

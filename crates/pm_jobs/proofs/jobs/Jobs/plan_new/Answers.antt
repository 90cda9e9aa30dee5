use Rattle.std.proofs.Common.{◌∙◌, sym}
use Rattle.pm_jobs.specs.Asked.{Asked}
use Rattle.pm_jobs.specs.Plan.{IsMade}
use Rattle.pm_jobs.specs.Wanted.{wanted_content}
use Rattle.pm_jobs.proofs.jobs.Jobs.plan_new.Goals as goal

pub returns-clause-over : goal.returns-clause-over
returns-clause-over c =
    let asked : Asked = wanted_content c.args.wanted in
    let made : IsMade c.args.inventory.now c.args.moment c.args.id.now asked c.in_ok-standing.standing = c.in_ok-standing.ensures.1 in
    record {
      keeps = record {
        named = rw made.named c.requires.named;
        asked = asked;
        says = rw made.body c.requires.back;
        permitted = c.in_ok-standing.ensures.0;
        fits = made.fits;
      };
      unlocked = made.unlocked;
      armed = made.armed ∙ sym made.changed;
    }

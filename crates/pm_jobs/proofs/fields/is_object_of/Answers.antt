use Rattle.std.proofs.Common.{sym, ap, ◌∙◌, map, false}
use Rattle.std.specs.Option.{option_map, unwrap_or}
use Rattle.pm_asked.specs.BodyReading.{has_only}
use Rattle.pm_jobs.proofs.MemberLemmas.{has_only-keys}
use Rattle.pm_jobs.proofs.fields.is_object_of.Goals as goal

pub returns-in-Some : goal.returns-in-Some
returns-in-Some c =
    let known = map (λ k. k.now) c.args.known.now in
    c.are_among.ensures ∙ sym (has_only-keys known c.in-Some.members.now.entries)
    ∙ ap (λ o. unwrap_or (option_map (has_only known) o) false) c.in-Some.ensures

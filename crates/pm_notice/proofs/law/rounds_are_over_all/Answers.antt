use Rattle.pm_notice.proofs.AllRoundsLemmas.{all_rounds, all_posts}
use Rattle.pm_notice.proofs.law.rounds_are_over_all.Goals as goal

pub returns : goal.returns
returns c = record { rounds = all_rounds; posts = all_posts }

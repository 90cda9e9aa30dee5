use Rattle.pm_notice.proofs.NoticeLemmas.{file_ready_exact, crossing_exact, notice_exact, listing_exact}
use Rattle.pm_notice.proofs.law.notices_are_exact.Goals as goal

pub returns : goal.returns
returns c = record { files = file_ready_exact; crossings = crossing_exact; notices = notice_exact; listings = listing_exact }

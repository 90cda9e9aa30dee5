use Rattle.std.proofs.Common.{arith}
use Rattle.pm_history.specs.Notices as history
use Rattle.pm_notice.proofs.NameTestLemmas.{says-is_file_name}
use Rattle.pm_notify.proofs.ToldLemmas.{file-told, told-push}
use Rattle.pm_notify.proofs.added.AddedNotices.add_file.Goals as goal

pub file_notice-requires-clause-file : goal.file_notice-requires-clause-file
file_notice-requires-clause-file c = record {
  named = says-is_file_name c.args.file.now.info.name c.args.file.now.named;
  ready = c.args.file.now.ready;
  size = omega arith;
}

pub returns-clause-told : goal.returns-clause-told
returns-clause-told c =
    λ inventory before report element are of.
    let old = c.args.self.now in
    let n = c.in-Some.number in
    let posted = c.in_ok-notice.notice in
    told-push inventory old.first n before (history.FileReady report) old.notices.items c.add.new.self.notices.items posted c.in-Some.ensures.0
    c.in_ok-add.ensures.added are
    (file-told inventory n report c.args.file.now c.args.element.now posted element of c.in_ok-notice.ensures.numbered.0
    c.in_ok-notice.ensures.numbered.1 c.in_ok-notice.ensures.text)

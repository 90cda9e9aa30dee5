use Rattle.std.proofs.Common.{◌≡◌, ◌∙◌, ap, get_or}
use Rattle.std.proofs.lemmas.List.Elements.{All-push}
use Rattle.pm_notice.specs.NoticeContent.{listed_of, IsFileInfo}
use Rattle.pm_ready.specs.declared.ready.ReadyFile.{ReadyFile}
use Rattle.pm_ready.specs.Files.{file_of}
use Rattle.pm_ready.specs.Listing.{listed}
use Rattle.pm_ready.proofs.StepLemmas.{said_more}
use Rattle.pm_ready.proofs.listing.infos_of.Goals as goal

pub loop-file-preserved : goal.loop-file-preserved
loop-file-preserved c =
    let infos = c.loop-file.infos.items in
    let info = c.in_ok-info_of.field-0 in
    let said : listed_of info ≡ listed (file_of (get_or c.args.files.now c.loop-file.file-index c.file-item.result)) =
    c.in_ok-info_of.ensures.listed ∙ ap (λ (f : ReadyFile). listed (file_of f)) c.file-item.is in
    record {
      listed = said_more listed_of file_of listed c.args.files.now c.loop-file.file-index c.file-item.result infos c.push.new.self.items info c.loop-file-test.true
          c.in_ok-push.ensures.items said c.loop-file.invariant.listed;
      infos = rw c.in_ok-push.ensures.items (All-push IsFileInfo infos info c.loop-file.invariant.infos c.in_ok-info_of.ensures.info);
    }

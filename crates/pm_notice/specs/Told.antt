-- What was read, as the definitions say it.
use Rattle.pm_notice.specs.declared.consumer.ReadConsumer.{ReadConsumer}
use Rattle.pm_notice.specs.declared.told.ToldFile.{ToldFile}
use Rattle.pm_notice.specs.declared.told.ToldCrossing.{ToldCrossing}
use Rattle.pm_notice.specs.declared.told.Told.{Told}
use Rattle.pm_notice.specs.declared.told.Told.TheVariants.{FileReady as told_file, Crossing as told_crossing}
use Rattle.pm_notice.specs.Consumer.{Consumer}
use Rattle.pm_notice.specs.NoticeForm.{FileReady, Crossing, Notified, of_file, of_crossing}
use Rattle.pm_notice.specs.NoticeContent.{listed_of, crossing_of}

abbrev pub consumer_content : ReadConsumer → Consumer
consumer_content c = record { path = c.path; port = c.port }

abbrev pub file_content : ToldFile → FileReady
file_content t = record { event = t.event; file = listed_of t.file; number = t.number; object = t.element }

abbrev pub crossing_content : ToldCrossing → Crossing
crossing_content t = crossing_of t.number t.crossing

abbrev pub told_content : Told → Notified
told_content (told_file t) = of_file (file_content t)
told_content (told_crossing t) = of_crossing (crossing_content t)

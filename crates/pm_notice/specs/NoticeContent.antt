-- What the notices of the program say.
use Rattle.std.specs.Prelude.{ℕ, ◌+◌, ◌++◌, ◌≤◌, ◌≡◌, true, List, codes, map}
use Rattle.pm_name.specs.FileName.{SaysFileName}
use Rattle.pm_form.specs.Names.{job_id, measure_name}
use Rattle.pm_file.specs.ReportForm.{object_name}
use Rattle.pm_notice.specs.NoticeForm.{Listed, FileReady, Crossing, direction_text}
use Rattle.pm_notice.specs.declared.notice.FileInfo.{FileInfo}
use Rattle.pm_notice.specs.declared.notice.Crossed.{Crossed}

-- The path of the file of a name.
abbrev pub location_of : List ℕ → List ℕ
location_of name = codes "/files/" ++ name

abbrev pub listed_of : FileInfo → Listed
listed_of f =
    record { expires = f.ready + 86400; location = location_of f.name; ready = f.ready; size = f.size }

-- Where the files are that are listed.
abbrev pub locations_of : List FileInfo → List (List ℕ)
locations_of files = map (λ (l : Listed). l.location) (map listed_of files)

-- A file is ready at the end of its period, which is the moment of the event.
abbrev pub file_ready_of : ℕ → FileInfo → List ℕ → FileReady
file_ready_of n f element = record { event = f.ready; file = listed_of f; number = n; object = element }

-- The hysteresis is the one that was given.
abbrev pub crossing_of : ℕ → Crossed → Crossing
crossing_of n c =
    record {
      event = c.end;
      hysteresis = c.hysteresis;
      monitor = c.monitor;
      number = n;
      object = c.object;
      value = c.value;
      metric = c.metric;
      direction = direction_text c.up;
      threshold = c.threshold;
    }

-- A file that a listing may have.
pub record IsFileInfo (f : FileInfo) : Type 0 where
  pub named : SaysFileName f.name
  pub ready : f.ready ≤ 253402300799
  pub size : f.size ≤ 18446744073709551615

-- A crossing that a notice may tell.
pub record IsCrossed (c : Crossed) : Type 0 where
  pub end : c.end ≤ 253402300799
  pub monitor : job_id c.monitor ≡ true
  pub object : object_name c.object ≡ true
  pub metric : measure_name c.metric ≡ true

-- The forms of notices and of listings (TS 28.532; keys and words are this project's own).
use Rattle.std.specs.Prelude.{ℕ, ◌+◌, ◌&&◌, ◌||◌, ◌==◌, Bool, true, false, not, List, [], ◌∷◌, codes, map, take, drop, bytes_eq, Ok, Err}
use Rattle.std.specs.List.{list_any}
use Rattle.serde_json.specs.Data.{Data}
use Rattle.pm_form.specs.Form.{Read, then_read, Form, tested, mapped}
use Rattle.pm_form.specs.Values.{text, fixed, whole}
use Rattle.pm_form.specs.Lists.{list_of}
use Rattle.pm_form.specs.Objects.{field, last, object_of}
use Rattle.pm_form.specs.Names.{job_id, measure_name}
use Rattle.pm_form.specs.declared.refusal.Refusal.TheVariants.{Disagrees}
use Rattle.pm_file.specs.ReportForm.{object_name, moment}
use Rattle.pm_notice.specs.Single.{single}
use Rattle.pm_notice.specs.NameTest.{is_file_name}

-- The path of a file: `/files/` and its name.
abbrev pub file_location : List ℕ → Bool
file_location s = bytes_eq (take 7 s) (codes "/files/") && is_file_name (drop 7 s)

-- Any number of the program.
abbrev pub number : Form ℕ
number = whole 18446744073709551615

-- A file that is ready: where it is, and until when.
pub record Listed : Type 0 where
  pub expires : ℕ
  pub location : List ℕ
  pub ready : ℕ
  pub size : ℕ

-- It expires a day after it is ready, also where that lies past the last moment.
abbrev pub expires_in_a_day : Listed → Bool
expires_in_a_day l = l.expires == l.ready + 86400

unfoldable pub listed_form : Form Listed
listed_form =
    tested Disagrees expires_in_a_day
    (mapped
    (λ p. record { expires = p.1.0; location = p.1.1.1.0; ready = p.1.1.1.1.0; size = p.1.1.1.1.1 })
    (λ l. (tt, (l.expires, (tt, (l.location, (l.ready, l.size))))))
    (object_of (field (codes "fileDataType") (fixed (codes "Performance"))
    (field (codes "fileExpirationTime") number
    (field (codes "fileFormat") (fixed (codes "JSON"))
    (field (codes "fileLocation") (text file_location)
    (field (codes "fileReadyTime") moment
    (last (codes "fileSize") number))))))))

-- The notice that a file is ready.
pub record FileReady : Type 0 where
  pub event : ℕ
  pub file : Listed
  pub number : ℕ
  pub object : List ℕ

unfoldable pub file_ready_form : Form FileReady
file_ready_form =
    mapped
    (λ p. record { event = p.0; file = p.1.0; number = p.1.1.0; object = p.1.1.1.1 })
    (λ f. (f.event, (f.file, (f.number, (tt, f.object)))))
    (object_of (field (codes "eventTime") moment
    (field (codes "fileInfoList") (single listed_form)
    (field (codes "notificationId") number
    (field (codes "notificationType") (fixed (codes "notifyFileReady"))
    (last (codes "objectInstance") (text object_name)))))))

-- A crossing is upward or downward.
abbrev pub direction_text : Bool → List ℕ
direction_text true = codes "UP"
direction_text false = codes "DOWN"

abbrev pub is_direction : List ℕ → Bool
is_direction s = bytes_eq s (direction_text true) || bytes_eq s (direction_text false)

-- The notice that a threshold was crossed.
pub record Crossing : Type 0 where
  pub event : ℕ
  pub hysteresis : ℕ
  pub monitor : List ℕ
  pub number : ℕ
  pub object : List ℕ
  pub value : ℕ
  pub metric : List ℕ
  pub direction : List ℕ
  pub threshold : ℕ

unfoldable pub crossing_form : Form Crossing
crossing_form =
    mapped
    (λ p. record {
      event = p.0;
      hysteresis = p.1.0;
      monitor = p.1.1.0;
      number = p.1.1.1.0;
      object = p.1.1.1.1.1.0;
      value = p.1.1.1.1.1.1.0;
      metric = p.1.1.1.1.1.1.1.0;
      direction = p.1.1.1.1.1.1.1.1.0;
      threshold = p.1.1.1.1.1.1.1.1.1;
    })
    (λ c. (c.event, (c.hysteresis, (c.monitor, (c.number, (tt, (c.object, (c.value, (c.metric, (c.direction, c.threshold))))))))))
    (object_of (field (codes "eventTime") moment
    (field (codes "hysteresis") number
    (field (codes "monitorId") (text job_id)
    (field (codes "notificationId") number
    (field (codes "notificationType") (fixed (codes "notifyThresholdCrossing"))
    (field (codes "objectInstance") (text object_name)
    (field (codes "observedValue") number
    (field (codes "performanceMetric") (text measure_name)
    (field (codes "thresholdDirection") (text is_direction)
    (last (codes "thresholdValue") number)))))))))))

-- What a notice says: that a file is ready, or that a threshold was crossed.
pub data Notified : Type 0 where
  of_file : FileReady → Notified
  of_crossing : Crossing → Notified

-- The first reading that gives a value, or the refusal of the second.
abbrev pub first_of : Read FileReady → Read Crossing → Read Notified
first_of (Ok f) crossing = Ok (of_file f)
first_of (Err e) crossing = then_read crossing (λ c. Ok (of_crossing c))

abbrev pub notice_tree : Notified → Data
notice_tree (of_file f) = file_ready_form.tree f
notice_tree (of_crossing c) = crossing_form.tree c

abbrev pub notice_fits : Notified → Bool
notice_fits (of_file f) = file_ready_form.fits f
notice_fits (of_crossing c) = crossing_form.fits c

-- A notice. What says neither is refused as a crossing is.
unfoldable pub notice_form : Form Notified
notice_form =
    record {
      reads = λ d. first_of (file_ready_form.reads d) (crossing_form.reads d);
      tree = notice_tree;
      fits = notice_fits;
    }

-- No text comes twice.
abbrev pub are_distinct : List (List ℕ) → Bool
are_distinct [] = true
are_distinct (s ∷ ss) = not (list_any (bytes_eq s) ss) && are_distinct ss

-- The files that are listed, each once.
unfoldable pub listing_form : Form (List Listed)
listing_form =
    tested Disagrees (λ ls. are_distinct (map (λ (l : Listed). l.location) ls))
    (object_of (last (codes "fileInfoList") (list_of listed_form)))

use Rattle.std.proofs.Common.{map, codes}
use Rattle.std.specs.Bool.{one_answer}
use Rattle.std.specs.Char.{to_ascii_lowercase}
use Rattle.std.proofs.lemmas.Slice.Eq.{bytes_eq-Decides}
use Rattle.pm_http.proofs.connection.is_word_close.Goals as goal

pub returns : goal.returns
returns c =
    rw (← c.trim.ensures)
    (one_answer _ _ c.eq_ignore_ascii_case.ensures.test
    (bytes_eq-Decides (map to_ascii_lowercase c.trim.result.now) (map to_ascii_lowercase (codes "close"))))

use Rattle.std.proofs.Common.{◌≡◌, ◌-◌, ◌^◌, ◌<◌, ◌≤◌, length, drop, true}
use Rattle.std.specs.List.{list_all}
use Rattle.std.specs.Char.{is_ascii_digit}
use Rattle.pm_base.specs.Number.{number_of}
use Rattle.pm_events.proofs.last_word.last_number.Given as goal

abbrev pub invariant-loop-digits : goal.invariant-loop-digits
invariant-loop-digits l = record {
  within : l.digits ≤ length l.words;
  digits : list_all is_ascii_digit (drop (length l.words - l.digits) l.words) ≡ true;
  value : l.value ≡ number_of (drop (length l.words - l.digits) l.words);
  scale : l.scale ≡ 10 ^ l.digits;
  short : l.value < 10 ^ l.digits;
}

use Rattle.std.proofs.Common.{◌≡◌, map, drop, string_bytes, bytes_eq}
use Rattle.std.specs.Cmp.Lexicographic.{pointwise}
use Rattle.pm_form.proofs.read.has_keys.Given as goal

abbrev pub invariant-loop-key : goal.invariant-loop-key
invariant-loop-key l =
    pointwise bytes_eq (map string_bytes l.initial.names) (map (λ k. k.now) l.keys)
    ≡ pointwise bytes_eq (map string_bytes l.names) (map (λ k. k.now) (drop l.key-index l.keys))

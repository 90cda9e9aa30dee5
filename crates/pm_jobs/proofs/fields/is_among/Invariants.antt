use Rattle.std.proofs.Common.{◌≡◌, map, drop, bytes_eq}
use Rattle.std.specs.List.{list_any}
use Rattle.pm_jobs.proofs.fields.is_among.Given as goal

abbrev pub invariant-loop-key : goal.invariant-loop-key
invariant-loop-key l =
    list_any (bytes_eq l.name) (map (λ k. k.now) l.known) ≡ list_any (bytes_eq l.name) (map (λ k. k.now) (drop l.key-index l.known))

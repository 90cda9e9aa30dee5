use Rattle.std.proofs.Common.{◌≡◌, ◌≤◌, length, true, false, IsSome, None}
use Rattle.pm_bank.proofs.thread_tests.drain.Given as goal

abbrev pub invariant-turns : goal.invariant-turns
invariant-turns l =
    record {
      tie : l.keeper.bank ≡ l.bank.id;
      size : length l.tally ≡ 1;
      epoch : l.keeper.epoch ≤ l.counter;
      ended : l.ended ≡ true → IsSome l.keeper.pending;
      taken : l.ended ≡ false → l.keeper.pending ≡ None;
    }

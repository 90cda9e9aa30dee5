-- What the fields of a feed mean.
use Rattle.std.specs.Prelude.{◌≡◌, ◌-◌, ◌<◌, ◌≤◌, true, length, slice_range}
use Rattle.pm_outside.specs.Feed.{FeedState}
use Rattle.pm_outside.specs.declared.feed.TheConstants.{MOST_READ}
use Rattle.pm_outside.specs.declared.feed.Feed.TheInside.{Inside}

-- The state that the fields hold.
abbrev pub feed_state : Inside → FeedState
feed_state f = record {
  given = f.read - (f.end - f.start);
  buffered = slice_range f.buffer.items f.start f.end;
  line = slice_range f.buffer.items f.line f.stop;
  ended = f.ended;
}

-- The places of a buffer are in order, and the bytes that it holds were read.
pub record IsOrdered (f : Inside) : Type 0 where
  pub room : length f.buffer.items ≡ 65536
  pub start : f.start ≤ f.end
  pub end : f.end ≤ 65536
  pub line : f.line ≤ f.stop
  pub stop : f.stop ≤ 65536
  pub held : f.end - f.start ≤ f.read
  pub most : f.read ≤ MOST_READ
  pub before_end : f.ended ≡ true → f.read < MOST_READ

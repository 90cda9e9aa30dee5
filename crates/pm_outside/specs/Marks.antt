-- Where the posts of a courier in memory lie among its bytes.
use Rattle.std.specs.Prelude.{ℕ, ◌+◌, Bool, List, take, drop, nat_le}
use Rattle.pm_outside.specs.declared.mem_courier.Mark.{Mark}
use Rattle.pm_outside.specs.Posts.{Post}

-- The post of a mark: its path lies where the mark begins, its body behind the path.
abbrev pub post_at : List ℕ → Mark → Post
post_at bytes m =
    record {
      port = m.port;
      path = take m.path (drop m.start bytes);
      body = take m.body (drop (m.start + m.path) bytes);
    }

-- Whether a mark ends within so many bytes.
abbrev pub ends_within : ℕ → Mark → Bool
ends_within count m = nat_le (m.start + m.path + m.body) count

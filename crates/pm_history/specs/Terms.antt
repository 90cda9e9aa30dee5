-- What a job or a monitor asks for, in the numbers of an inventory. Periods are in ticks (TS 28.622; the permitted periods are this project's own).
use Rattle.std.specs.Prelude.{ℕ, ◌*◌, Bool, List}
use Rattle.pm_base.specs.declared.class.Class.{Class}
use Rattle.pm_history.specs.declared.metric.Metric.{Metric}

-- What a job measures on the objects of one class: metrics in catalogue order, objects in tree order.
pub record Measured : Type 0 where
  pub class : Class
  pub metrics : List Metric
  pub objects : List ℕ

-- What a monitor watches: one metric of one threshold, on its measured objects in tree order. `value` and `hysteresis` are those of
-- the threshold as given. A crossing upward is at `high` and one downward at `low`; `up` and `down` say which are kept.
pub record Watched : Type 0 where
  pub threshold : ℕ
  pub metric : Metric
  pub objects : List ℕ
  pub value : ℕ
  pub hysteresis : ℕ
  pub high : ℕ
  pub low : ℕ
  pub up : Bool
  pub down : Bool

-- The granularity period, how many of them a reporting period has, the state as made, and what is measured and watched. A job
-- watches nothing; a monitor measures nothing and has no reporting period.
pub record Terms : Type 0 where
  pub granularity : ℕ
  pub parts : ℕ
  pub unlocked : Bool
  pub measured : List Measured
  pub watched : List Watched

-- The reporting period.
abbrev pub reporting : Terms → ℕ
reporting terms = terms.parts * terms.granularity

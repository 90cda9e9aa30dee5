-- Crossings that a notice can tell.
use Rattle.std.specs.Prelude.{◌<◌, ◌*◌, ◌≡◌, true, [], length, slice_index_or}
use Rattle.pm_inventory.specs.Inventory.{InventoryState}
use Rattle.pm_history.specs.Notices as history
use Rattle.pm_form.specs.Names.{job_id}
use Rattle.pm_file.specs.Numbers.{metric_text}
use Rattle.pm_notice.specs.declared.notice.Crossed.{Crossed}

-- The id is that of a monitor, and the inventory has the object and the metric.
pub record IsTellable (inventory : InventoryState) (c : history.Crossed) : Type 0 where
  pub monitor : job_id c.monitor ≡ true
  pub object : c.object < length inventory.objects
  pub metric : c.metric < length inventory.measures

-- A crossing, as notices have it.
abbrev pub crossed_in_texts : InventoryState → history.Crossed → Crossed
crossed_in_texts inventory c =
    record {
      end = 60 * c.end;
      hysteresis = c.hysteresis;
      monitor = c.monitor;
      object = slice_index_or inventory.objects c.object [];
      value = c.value;
      metric = metric_text inventory c.metric;
      up = c.up;
      threshold = c.limit;
    }

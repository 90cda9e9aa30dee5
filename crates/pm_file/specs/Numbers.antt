-- The report in texts that a report in the numbers of an inventory is, and in ticks.
use Rattle.std.specs.Prelude.{ℕ, ◌*◌, ◌-◌, List, [], map, slice_index_or}
use Rattle.pm_base.specs.Class.{class_name}
use Rattle.pm_inventory.specs.Inventory.{InventoryState}
use Rattle.pm_meas.specs.declared.def.Def.{Def}
use Rattle.pm_history.specs.Files.{Row, Group, Part, Report}
use Rattle.pm_file.specs.Content.{RowContent, GroupContent, PartContent, ReportContent}

-- The names of the measurements of an inventory.
abbrev pub metric_names : InventoryState → List (List ℕ)
metric_names inventory = map (λ (d : Def). d.name) inventory.measures

abbrev pub metric_text : InventoryState → ℕ → List ℕ
metric_text inventory metric = slice_index_or (metric_names inventory) metric []

abbrev pub row_in_texts : InventoryState → Row → RowContent
row_in_texts inventory r =
    record { object = slice_index_or inventory.objects r.object []; results = r.results; suspect = r.suspect }

abbrev pub group_in_texts : InventoryState → Group → GroupContent
group_in_texts inventory g =
    record {
      class = class_name g.class;
      types = map (metric_text inventory) g.metrics;
      rows = map (row_in_texts inventory) g.rows;
    }

-- A tick has 60 seconds.
abbrev pub part_in_texts : InventoryState → Part → PartContent
part_in_texts inventory p =
    record {
      begin = 60 * p.begin;
      end = 60 * p.end;
      granularity = 60 * p.end - 60 * p.begin;
      groups = map (group_in_texts inventory) p.groups;
    }

-- The report of this sender.
abbrev pub report_in_texts : InventoryState → List ℕ → Report → ReportContent
report_in_texts inventory sender r =
    record {
      job = r.job;
      sender = sender;
      begin = 60 * r.begin;
      end = 60 * r.end;
      parts = map (part_in_texts inventory) r.parts;
    }

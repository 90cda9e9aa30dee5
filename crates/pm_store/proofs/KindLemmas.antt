-- The fields of each kind are exact, and an item is read back from its bytes.
use Rattle.std.proofs.Common.{◌≡◌, ℕ, ◌^◌, ◌<◌, ◌≤◌, Bool, true, false, cond, eqb, List, [], ◌∷◌, ◌++◌, length, Option, Some, None, refl, sym, ap, subst, ◌∙◌, arith}
use Rattle.std.proofs.lemmas.Bool.{le-leb}
use Rattle.pm_base.specs.declared.moment.TheConstants.{LAST_MOMENT}
use Rattle.pm_store.specs.declared.item.Item1.{Item1}
use Rattle.pm_store.specs.declared.item.Item1.TheVariants.{Boot, Booked, JobMade, JobState, JobDeleted, MonitorMade, MonitorState, MonitorDeleted, Subscribed, Unsubscribed}
use Rattle.pm_store.specs.declared.item.TheConstants.{VERSION}
use Rattle.pm_store.specs.Format.{byte, number16, number64, flag, short, long, both, tested}
use Rattle.pm_store.specs.Rows.{listed, cell_row, cursor_row, are_rising}
use Rattle.pm_store.specs.Item.{moment_of, kind_of, head, opened, cells_listed, cursors_listed, booked, made, moved, subscribed, field_bytes, item_bytes, FieldsFit, IsItem}
use Rattle.pm_store.specs.Reading.{item_of_kind, item_at}
use Rattle.pm_store.proofs.FrontLemmas.{IsExact, byte_exact, flag_exact}
use Rattle.pm_store.proofs.NumberLemmas.{number16_exact, number64_exact}
use Rattle.pm_store.proofs.FormatLemmas.{short_exact, long_exact, both_exact, tested_exact, whole_back}
use Rattle.pm_store.proofs.CellLemmas.{cell_exact, cursor_exact}
use Rattle.pm_store.proofs.RowExactLemmas.{listed_exact}

pub head_exact : IsExact head
head_exact = both_exact byte (tested (λ m. Rattle.std.proofs.Common.leb m LAST_MOMENT) number64) byte_exact
    (tested_exact (λ m. Rattle.std.proofs.Common.leb m LAST_MOMENT) number64 number64_exact)

pub opened_exact : IsExact opened
opened_exact = both_exact (tested (λ v. eqb v VERSION) byte) long (tested_exact (λ v. eqb v VERSION) byte byte_exact) long_exact

pub cells_exact : IsExact cells_listed
cells_exact = tested_exact are_rising (listed number16 cell_row) (listed_exact number16 cell_row number16_exact cell_exact)

pub cursors_exact : IsExact cursors_listed
cursors_exact = listed_exact byte cursor_row byte_exact cursor_exact

pub booked_exact : IsExact booked
booked_exact = both_exact number64 (both cells_listed cursors_listed) number64_exact (both_exact cells_listed cursors_listed cells_exact cursors_exact)

pub made_exact : IsExact made
made_exact = both_exact short long short_exact long_exact

pub moved_exact : IsExact moved
moved_exact = both_exact short flag short_exact flag_exact

pub subscribed_exact : IsExact subscribed
subscribed_exact = both_exact short (both number16 short) short_exact (both_exact number16 short number16_exact short_exact)

-- The fields of an item are read back.
fields_back : (item : Item1) → FieldsFit item → item_of_kind (kind_of item) (moment_of item) (field_bytes item) ≡ Some item
fields_back (Boot moment version inventory) fits = rw (whole_back opened opened_exact (version, inventory) fits) refl
fields_back (Booked moment tick cells cursors) fits = rw (whole_back booked booked_exact (tick, (cells, cursors)) fits) refl
fields_back (JobMade moment id body) fits = rw (whole_back made made_exact (id, body) fits) refl
fields_back (JobState moment id unlocked) fits = rw (whole_back moved moved_exact (id, unlocked) fits) refl
fields_back (JobDeleted moment id) fits = rw (whole_back short short_exact id fits) refl
fields_back (MonitorMade moment id body) fits = rw (whole_back made made_exact (id, body) fits) refl
fields_back (MonitorState moment id unlocked) fits = rw (whole_back moved moved_exact (id, unlocked) fits) refl
fields_back (MonitorDeleted moment id) fits = rw (whole_back short short_exact id fits) refl
fields_back (Subscribed moment id port path) fits = rw (whole_back subscribed subscribed_exact (id, (port, path)) fits) refl
fields_back (Unsubscribed moment id) fits = rw (whole_back short short_exact id fits) refl

kind_small : (item : Item1) → kind_of item < 256
kind_small (Boot moment version inventory) = omega arith
kind_small (Booked moment tick cells cursors) = omega arith
kind_small (JobMade moment id body) = omega arith
kind_small (JobState moment id unlocked) = omega arith
kind_small (JobDeleted moment id) = omega arith
kind_small (MonitorMade moment id body) = omega arith
kind_small (MonitorState moment id unlocked) = omega arith
kind_small (MonitorDeleted moment id) = omega arith
kind_small (Subscribed moment id port path) = omega arith
kind_small (Unsubscribed moment id) = omega arith

pub item_back : (item : Item1) → IsItem item → item_at (item_bytes item) ≡ Some item
item_back item fits =
    let moment : moment_of item ≤ LAST_MOMENT = fits.moment in
    let h = head_exact.back (kind_of item, moment_of item) (field_bytes item) (
      kind_small item,
      (
        omega arith,
        le-leb _ _ moment,
      ),
    ) in
    rw h (fields_back item fits.fields)

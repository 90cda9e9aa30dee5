-- What is read as an item has exactly the bytes of that item.
use Rattle.std.proofs.Common.{◌≡◌, ℕ, ◌≤◌, Bool, true, false, cond, eqb, List, Option, Some, None, refl, sym, subst, ◌∙◌, arith}
use Rattle.std.specs.Option.{option_map}
use Rattle.std.proofs.lemmas.Bool.{eqb-true, leb-true}
use Rattle.std.proofs.lemmas.Option.{same_Some}
use Rattle.pm_base.specs.declared.moment.TheConstants.{LAST_MOMENT}
use Rattle.pm_store.specs.declared.item.Item1.{Item1}
use Rattle.pm_store.specs.declared.item.Item1.TheVariants.{Boot, Booked, JobMade, JobState, JobDeleted, MonitorMade, MonitorState, MonitorDeleted, Subscribed, Unsubscribed}
use Rattle.pm_store.specs.Format.{Format, short, whole}
use Rattle.pm_store.specs.Item.{moment_of, kind_of, head, opened, booked, made, moved, subscribed, field_bytes, item_bytes, FieldsFit, IsItem}
use Rattle.pm_store.specs.Reading.{item_of_kind, item_at}
use Rattle.pm_store.proofs.FrontLemmas.{IsBytes, bind_some, IsExact}
use Rattle.pm_store.proofs.FormatLemmas.{short_exact, whole_only}
use Rattle.pm_store.proofs.KindLemmas.{head_exact, opened_exact, booked_exact, made_exact, moved_exact, subscribed_exact}

-- What is told of an item that was read.
record Told (item : Item1) (kind moment : ℕ) (bs : List ℕ) : Type 0 where
  kind_is : kind_of item ≡ kind
  moment_is : moment_of item ≡ moment
  bytes_are : bs ≡ field_bytes item
  fits : FieldsFit item

-- A format is that of the fields of a kind.
record IsOfKind {A : Type 0} (f : Format A) (kind moment : ℕ) (item : A → Item1) : Type 0 where
  kind_is : (a : A) → kind_of (item a) ≡ kind
  moment_is : (a : A) → moment_of (item a) ≡ moment
  bytes_are : (a : A) → f.bytes a ≡ field_bytes (item a)
  fit : (a : A) → f.Fits a → FieldsFit (item a)

map_some : {A B : Type 0} (f : A → B) (o : Option A) (y : B) → option_map f o ≡ Some y → (x : A) × (o ≡ Some x) × (f x ≡ y)
map_some f None y e = absurd cc
map_some f (Some x) y e = (x, refl, same_Some (f x) y e)

of_kind : {A : Type 0} (f : Format A) (kind n moment : ℕ) (make : A → Item1) (item : Item1) (bs : List ℕ) → IsExact f
    → IsOfKind f n moment make → IsBytes bs
    → kind ≡ n → option_map make (whole f bs) ≡ Some item → Told item kind moment bs
of_kind f kind n moment make item bs exact of fits k e =
    let a = map_some make (whole f bs) item e in
    let w = whole_only f exact bs a.0 fits a.1 in
    subst (λ (i : Item1). Told i kind moment bs) a.2 (record {
      kind_is = of.kind_is a.0 ∙ sym k;
      moment_is = of.moment_is a.0;
      bytes_are = w.0 ∙ of.bytes_are a.0;
      fits = of.fit a.0 w.1;
    })

-- The kind is this number, or what was read is that of the other numbers.
by_kind : {P : Type 0} (kind n : ℕ) (x y : Option Item1) (item : Item1) → cond (eqb kind n) x y ≡ Some item
    → (kind ≡ n → x ≡ Some item → P) → (y ≡ Some item → P) → P
by_kind {P} kind n x y item e this other = go (eqb kind n) refl e
  where
    go : (b : Bool) → eqb kind n ≡ b → cond b x y ≡ Some item → P
    go true is e = this (eqb-true kind n is) e
    go false is e = other e

fields_only : (k m : ℕ) (bs : List ℕ) (item : Item1) → IsBytes bs → item_of_kind k m bs ≡ Some item → Told item k m bs
fields_only k m bs item fits e =
    by_kind k 1 _ _ item e (λ is x. of_kind opened k 1 m (λ f. Boot m f.0 f.1) item bs opened_exact
    (record { kind_is = λ a. refl; moment_is = λ a. refl; bytes_are = λ a. refl; fit = λ a f. f }) fits is x) (λ e2.
    by_kind k 2 _ _ item e2 (λ is x. of_kind booked k 2 m (λ f. Booked m f.0 f.1.0 f.1.1) item bs booked_exact
    (record { kind_is = λ a. refl; moment_is = λ a. refl; bytes_are = λ a. refl; fit = λ a f. f }) fits is x) (λ e3.
    by_kind k 3 _ _ item e3 (λ is x. of_kind made k 3 m (λ f. JobMade m f.0 f.1) item bs made_exact
    (record { kind_is = λ a. refl; moment_is = λ a. refl; bytes_are = λ a. refl; fit = λ a f. f }) fits is x) (λ e4.
    by_kind k 4 _ _ item e4 (λ is x. of_kind moved k 4 m (λ f. JobState m f.0 f.1) item bs moved_exact
    (record { kind_is = λ a. refl; moment_is = λ a. refl; bytes_are = λ a. refl; fit = λ a f. f }) fits is x) (λ e5.
    by_kind k 5 _ _ item e5 (λ is x. of_kind short k 5 m (λ id. JobDeleted m id) item bs short_exact
    (record { kind_is = λ a. refl; moment_is = λ a. refl; bytes_are = λ a. refl; fit = λ a f. f }) fits is x) (λ e6.
    by_kind k 6 _ _ item e6 (λ is x. of_kind made k 6 m (λ f. MonitorMade m f.0 f.1) item bs made_exact
    (record { kind_is = λ a. refl; moment_is = λ a. refl; bytes_are = λ a. refl; fit = λ a f. f }) fits is x) (λ e7.
    by_kind k 7 _ _ item e7 (λ is x. of_kind moved k 7 m (λ f. MonitorState m f.0 f.1) item bs moved_exact
    (record { kind_is = λ a. refl; moment_is = λ a. refl; bytes_are = λ a. refl; fit = λ a f. f }) fits is x) (λ e8.
    by_kind k 8 _ _ item e8 (λ is x. of_kind short k 8 m (λ id. MonitorDeleted m id) item bs short_exact
    (record { kind_is = λ a. refl; moment_is = λ a. refl; bytes_are = λ a. refl; fit = λ a f. f }) fits is x) (λ e9.
    by_kind k 9 _ _ item e9 (λ is x. of_kind subscribed k 9 m (λ f. Subscribed m f.0 f.1.0 f.1.1) item bs subscribed_exact
    (record { kind_is = λ a. refl; moment_is = λ a. refl; bytes_are = λ a. refl; fit = λ a f. f }) fits is x) (λ e10.
    by_kind k 10 _ _ item e10 (λ is x. of_kind short k 10 m (λ id. Unsubscribed m id) item bs short_exact
    (record { kind_is = λ a. refl; moment_is = λ a. refl; bytes_are = λ a. refl; fit = λ a f. f }) fits is x) (λ e11.
    absurd cc))))))))))

pub item_only : (bs : List ℕ) (item : Item1) → IsBytes bs → item_at bs ≡ Some item → IsItem item × (bs ≡ item_bytes item)
item_only bs item fits e =
    let h = bind_some (head.read bs) (λ h. item_of_kind h.0.0 h.0.1 h.1) item e in
    let front = head_exact.only bs h.0.0 h.0.1 fits h.1 in
    let told = fields_only h.0.0.0 h.0.0.1 h.0.1 item front.0.rest_fits h.2 in
    let moment : h.0.0.1 ≤ LAST_MOMENT = leb-true _ _ front.1.1.1 in (
      record { moment = omega (arith, told.moment_is, moment); fields = told.fits },
      front.0.parts ∙ rw (told.kind_is, told.moment_is, ← told.bytes_are) refl,
    )

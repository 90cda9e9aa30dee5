use Rattle.std.proofs.Common.{◌≡◌, ◌+◌, ◌++◌, ℕ, List, length, take, drop, ap, sym, ◌∙◌, subst, arith, length-drop}
use Rattle.std.proofs.lemmas.List.{take_at}
use Rattle.std.proofs.lemmas.Result.{err_from_is_err_and}
use Rattle.pm_journal.proofs.ListLemmas.{found_item}
use Rattle.pm_disk.specs.Moments.{Told, of}
use Rattle.pm_journal.specs.Items.{IsItem}
use Rattle.pm_journal.proofs.ReadingLemmas.{cut_short_of_few, cut_short_of_size, item_read}
use Rattle.pm_journal.proofs.reading.read_item.Goals as goal

pub returns-then-end-at-lt5-clause-item : goal.returns-then-end-at-lt5-clause-item
returns-then-end-at-lt5-clause-item g c = λ told.
    let seen = (of (g.D.Disk.told c.args.disk.now).now c.args.area).seen in
    cut_short_of_few (drop c.args.at seen) (omega (arith, length-drop c.args.at seen, c.if-end-at-lt5.true, c.requires.told told))

pub returns-then-end-at-clause-item : goal.returns-then-end-at-clause-item
returns-then-end-at-clause-item g c = λ told.
    let seen = (of (g.D.Disk.told c.args.disk.now).now c.args.area).seen in
    cut_short_of_size (drop c.args.at seen) c.size_of_bytes-count.result (c.size_of_bytes-count.ensures ∙ c.in_ok-read.ensures.bytes told) c.size_of_bytes-count.type_inv
    (omega (arith, length-drop c.args.at seen, c.if-end-at.true, c.if-end-at-lt5.false, c.requires.told told))

pub returns-clause-item : goal.returns-clause-item
returns-clause-item g c = λ told.
    let seen = (of (g.D.Disk.told c.args.disk.now).now c.args.area).seen in
    let count = c.size_of_bytes-count.result in
    let buf = c.read-2.new.buf in
    let long : length c.deref_mut.result.now ≡ count = omega (arith, c.deref_mut.ensures.len, c.in_ok-bytes.ensures.len) in
    let is : buf ≡ take count (drop (c.args.at + 4) seen) =
    c.in_ok-read-2.ensures.bytes told
    ∙ ap (λ (n : ℕ). take n (drop (c.args.at + 4) (of (g.D.Disk.told c.read.new.self).now c.args.area).seen)) long
    ∙ ap (λ (t : Told). take count (drop (c.args.at + 4) (of t.now c.args.area).seen)) (c.read.ensures.told told) in
    let item = item_read seen buf c.args.at count (c.size_of_bytes-count.ensures ∙ c.in_ok-read.ensures.bytes told) c.size_of_bytes-count.type_inv
    (omega (arith, length-drop c.args.at seen, c.if-end-at.false, c.if-end-at-lt5.false, c.requires.told told)) is in
    let whole : take c.in_ok-bytes.bytes.len (buf ++ drop (length buf) c.in_ok-bytes.bytes.items) ≡ buf = take_at buf (drop (length buf) c.in_ok-bytes.bytes.items) c.in_ok-bytes.bytes.len (omega (arith, c.read-2.auto.buf, long, c.in_ok-bytes.ensures.len)) in
    (item.0, subst (λ (l : List ℕ). IsItem (drop c.args.at seen) l item.0) (sym whole) item.1)

pub returns-in_err-bytes-clause-refused : goal.returns-in_err-bytes-clause-refused
returns-in_err-bytes-clause-refused g c =
    let seen = (of (g.D.Disk.told c.args.disk.now).now c.args.area).seen in
    let e = err_from_is_err_and c.from_residual-in_err-bytes.result c.from_residual-in_err-bytes.ensures.1 in
    rw (e.1, e.2) (λ told. (
      _,
      _,
      found_item (drop c.args.at seen) c.size_of_bytes-count.result (c.size_of_bytes-count.ensures ∙ c.in_ok-read.ensures.bytes told) c.size_of_bytes-count.type_inv
          (omega (arith, length-drop c.args.at seen, c.if-end-at.false, c.if-end-at-lt5.false, c.requires.told told)),
    ))

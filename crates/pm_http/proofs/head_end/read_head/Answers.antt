use Rattle.std.proofs.Common.{length, sym, ap, ◌∙◌, arith, refl}
use Rattle.std.proofs.lemmas.Result.{err_from_is_err_and}
use Rattle.pm_http.proofs.ReadsLemmas.{reads_nothing, reads_then}
use Rattle.pm_http.proofs.SeenLemmas.{seen_nothing}
use Rattle.pm_http.proofs.StepLemmas.{first_piece}
use Rattle.pm_http.proofs.head_end.read_head.Goals as goal

pub pieces-init : goal.pieces-init
pieces-init g c = record {
  few = omega (arith, c.args.head.now.ok.0, ap length c.requires.empty);
  begun = λ told is. rw c.requires.empty (search arith);
  gathers = λ told. rw c.requires.empty (first_piece _);
  seen = λ told. rw c.requires.empty seen_nothing;
  reads = reads_nothing g.S.Source.IsTold c.args.feed.now (g.S.Source.left c.args.source.now) c.requires.within c.requires.ahead c.requires.knows_end;
  counted = refl;
}

pub returns-in-Some-clause-ends : goal.returns-in-Some-clause-ends
returns-in-Some-clause-ends g c =
    λ told.
    let steps = c.in_ok-end.ensures.steps told _ (c.pieces.invariant.begun told) (c.pieces.invariant.gathers told) in
    (rw c.in-Some.is at steps).1

pub returns-in-Some-clause-split : goal.returns-in-Some-clause-split
returns-in-Some-clause-split g c =
    λ told.
    let steps = c.in_ok-end.ensures.steps told _ (c.pieces.invariant.begun told) (c.pieces.invariant.gathers told) in
    (rw c.in-Some.is at steps).0

pub returns-in_err-end-clause-stops : goal.returns-in_err-end-clause-stops
returns-in_err-end-clause-stops g c =
    λ told.
    let p = err_from_is_err_and c.from_residual.result c.from_residual.ensures.1 in
    let stops = c.in_err-end.ensures.stops told _ (c.pieces.invariant.seen told) (c.pieces.invariant.gathers told) in
    rw p.1 (rw (sym p.2) at stops)

pub pieces-preserved : goal.pieces-preserved
pieces-preserved g c =
    let was = c.pieces.invariant in
    let goes_on = c.in_ok-end.ensures in record {
      few = (goes_on.grows c.in_default.is).1;
      begun = λ told. goes_on.begun told (was.begun told);
      gathers = λ told. rw c.in_default.is at (goes_on.steps told _ (was.begun told) (was.gathers told));
      seen = λ told. goes_on.seen told _ (was.seen told) (was.gathers told) c.in_default.is;
      reads = reads_then _ _ _ _ _ _ _ was.reads goes_on.reads;
      counted = goes_on.counted ∙ was.counted;
    }

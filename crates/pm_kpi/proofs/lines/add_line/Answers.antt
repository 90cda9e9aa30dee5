use Rattle.pm_kpi.specs.Ratios.{ratios_of}
use Rattle.pm_kpi.specs.Output.{moment_word, object_word, name_word, value_word, flag_word}
use Rattle.pm_kpi.proofs.OutputLemmas.{seven_words}
use Rattle.pm_kpi.proofs.lines.add_line.Goals as goal

pub returns : goal.returns
returns c =
    let key = c.args.key.now in
    cc (
      seven_words c.args.text.now.items key.job.items (moment_word c.args.by key.begin) (moment_word c.args.by key.end) (object_word c.args.by key.object.items)
          (name_word (ratios_of c.args.ratios.now) key.ratio) (value_word c.args.totals.now) (flag_word c.args.totals.now),
      c.in_ok-extend_from_slice.ensures.items,
      c.in_ok-push.ensures.items,
      c.in_ok-add_moment.ensures,
      c.in_ok-push-2.ensures.items,
      c.in_ok-add_moment-2.ensures,
      c.in_ok-push-3.ensures.items,
      c.in_ok-add_object.ensures,
      c.in_ok-push-4.ensures.items,
      c.in_ok-add_name.ensures,
      c.in_ok-push-5.ensures.items,
      c.in_ok-add_value.ensures,
      c.in_ok-push-6.ensures.items,
      c.in_ok-add_flag.ensures,
      c.in_ok-push-7.ensures.items,
    )

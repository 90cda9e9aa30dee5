use Rattle.std.proofs.Common.{◌≡◌}
use Rattle.std.specs.Str.{IsUtf8}
use Rattle.std.proofs.lemmas.Str.{is_utf8-from_IsUtf8}
use Rattle.json.specs.Tree.{json_tokens}
use Rattle.serde_json.specs.Written.{outline, compact_text}
use Rattle.serde_json.proofs.Texts.{print-outline}
use Rattle.pm_asked.specs.Body.{job_tree}
use Rattle.pm_jobs.specs.Content.{job_content}
use Rattle.pm_jobs.proofs.WritingLemmas.{printed, is_all}
use Rattle.pm_jobs.proofs.BackLemmas.{job_back}
use Rattle.pm_jobs.proofs.body.JobBody.to_bytes.Goals as goal

pub returns-clause-text : goal.returns-clause-text
returns-clause-text c =
    printed (job_tree (job_content c.args.self.now)) c.new.result.items c.new-out.result c.write_job.new.out c.into_inner.result.items c.from_vec.result
    c.new.ensures.items c.new-out.ensures.before c.new-out.ensures.tokens c.in_ok-write_job.ensures.ok c.in_ok-write_job.ensures.before
    c.into_inner.ensures.items c.from_vec.ensures

pub returns-clause-back : goal.returns-clause-back
returns-clause-back c =
    let d = job_tree (job_content c.args.self.now) in
    let text : c.from_vec.result ≡ compact_text d = printed d c.new.result.items c.new-out.result c.write_job.new.out c.into_inner.result.items c.from_vec.result
    c.new.ensures.items c.new-out.ensures.before c.new-out.ensures.tokens c.in_ok-write_job.ensures.ok c.in_ok-write_job.ensures.before
    c.into_inner.ensures.items c.from_vec.ensures in
    let all : c.write_job.new.out.tokens ≡ json_tokens (outline d) = is_all d c.new-out.result c.write_job.new.out c.new-out.ensures.tokens c.in_ok-write_job.ensures.ok in
    let utf8 : IsUtf8 (compact_text d) = rw (all, print-outline d) at c.into_inner.ensures.utf8 in
    λ is. job_back (job_content c.args.self.now) c.from_vec.result is text (is_utf8-from_IsUtf8 c.from_vec.result (rw text utf8)) (rw all at c.into_inner.ensures.reads_back)

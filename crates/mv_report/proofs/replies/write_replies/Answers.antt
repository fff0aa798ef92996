use Rattle.std.proofs.Common.{arith, take}
use Rattle.mv_report.proofs.Steps.{grew, numbered_more}
use Rattle.mv_report.specs.Text.{reply_text, replies_text}
use Rattle.mv_report.proofs.replies.write_replies.Goals as goal

pub loop-call-preserved : goal.loop-call-preserved
loop-call-preserved c =
    let call = c.loop-call.call in
    let reply = c.index-replies-call.result in
    let more = numbered_more (λ numbered. reply_text numbered.0 numbered.1) 0 c.args.replies.now call call reply c.loop-call-test.true c.index-replies-call.is (omega arith) in
    grew c.args.text.now c.loop-call.text c.write_reply.new.text (replies_text (take call c.args.replies.now)) (reply_text call reply) _ c.loop-call.invariant c.in_ok-write_reply.ensures more

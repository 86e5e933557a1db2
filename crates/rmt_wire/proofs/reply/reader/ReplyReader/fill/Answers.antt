use Rattle.rmt_wire.proofs.Words.{ap, drop, subst, sym, ◌∙◌, ReplyUnread, kept_while, plain_wanted_if_some}
use Rattle.rmt_wire.proofs.Given.{at_front}
use Rattle.rmt_wire.proofs.ReplyNexts.{room_behind, unread_more}
use Rattle.rmt_wire.proofs.reply.reader.ReplyReader.fill.Goals as goal

pub returns-clause-came : goal.returns-clause-came
returns-clause-came g c =
    let inside = c.self.inside in
    let was = plain_wanted_if_some inside.wanted in
    let came = c.append_received-count.ensures.came in
    let is = at_front inside.buffer.items _ _ _ inside.start c.remove.ensures.items came.1 in record {
      size = _;
      received = came.0;
      room = λ wanted bytes u.
          room_behind was inside.buffer.items _ bytes inside.start _ wanted c.remove.ensures.items c.len-most.ensures.value c.self.invariant.1
          (subst (λ h. ReplyUnread h wanted bytes) (sym c.self.view_is) u);
      unread = λ wanted bytes u.
          unread_more was (drop inside.start inside.buffer.items) _ _ bytes wanted (c.cut.ensures.kept ∙ ap (kept_while was) is)
          (subst (λ h. ReplyUnread h wanted bytes) (sym c.self.view_is) u);
    }

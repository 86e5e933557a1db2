use Rattle.std.proofs.Common.{◌∷◌, ◌++◌, [], length, map, refl, ap, sym}
use Rattle.std.proofs.Math.Seq.{take-length}
use Rattle.remote_tape.specs.declared.peer.Passed.TheVariants.{Sent, Ended}
use Rattle.rmt_tools.specs.Telling.{MemoryPeerHeld}
use Rattle.rmt_tools.proofs.Logging.{after_none, after_some, from_seen, none_where, all_where}
use Rattle.rmt_tools.proofs.memory_peer.MemoryPeerPeer.send.Goals as goal

pub returns-then-not-self : goal.returns-then-not-self
returns-then-not-self c = (Ended ∷ [], (0, refl), c.cut.ensures.told)

pub returns-then-not-send : goal.returns-then-not-send
returns-then-not-send c =
    let seen = ap (λ (p : MemoryPeerHeld). p.log) c.self.view_is in
    let old = c.args.self.now.log in
    let none = from_seen old c.self.inside.log c.send.new.self [] seen (none_where c.self.inside.log c.send.new.self c.send.result (map Sent c.args.bytes.now) c.if-not-send.true c.send.ensures) in
    (Ended ∷ [], (0, refl), after_none old c.send.new.self c.cut-then-not-send.new.self.log (Ended ∷ []) none c.cut-then-not-send.ensures.told)

pub returns-in_default : goal.returns-in_default
returns-in_default c =
    let seen = ap (λ (p : MemoryPeerHeld). p.log) c.self.view_is in
    let old = c.args.self.now.log in
    let sent = map Sent c.args.bytes.now in
    let first = from_seen old c.self.inside.log c.send.new.self sent seen (all_where c.self.inside.log c.send.new.self c.send.result sent c.if-not-send.false c.send.ensures) in (
      sent ++ Ended ∷ [],
      (length c.args.bytes.now, ap (λ b. map Sent b ++ Ended ∷ []) (sym (take-length c.args.bytes.now))),
      after_some old c.send.new.self c.cut-in_default.new.self.log sent (Ended ∷ []) first c.cut-in_default.ensures.told,
    )

pub returns : goal.returns
returns c =
    let seen = ap (λ (p : MemoryPeerHeld). p.log) c.self.view_is in
    let old = c.args.self.now.log in
    let sent = map Sent c.args.bytes.now in
    let first = from_seen old c.self.inside.log c.send.new.self sent seen (all_where c.self.inside.log c.send.new.self c.send.result sent c.if-not-send.false c.send.ensures) in
    (sent, refl, first)

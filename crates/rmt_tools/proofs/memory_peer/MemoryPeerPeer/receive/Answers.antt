use Rattle.std.proofs.Common.{◌<◌, [], ◌∷◌, length, map, take, ap, rules}
use Rattle.remote_tape.specs.declared.peer.Passed.TheVariants.{Given, Ended}
use Rattle.rmt_tools.specs.Telling.{MemoryPeerHeld}
use Rattle.rmt_tools.proofs.Logging.{after_none, from_seen, none_where, all_where, end_given, bytes_given}
use Rattle.rmt_tools.proofs.memory_peer.MemoryPeerPeer.receive.Goals as goal

pub returns-then-count-eq0-clause-told : goal.returns-then-count-eq0-clause-told
returns-then-count-eq0-clause-told c =
    let some : 0 < length c.take_front-count.new.into = search rules in
    let seen = ap (λ (p : MemoryPeerHeld). p.log) c.self.view_is in
    let old = c.args.self.now.log in
    let new = c.cut.new.self.log in
    end_given old new c.take_front-count.new.into some (from_seen old c.self.inside.log new (Ended ∷ []) seen c.cut.ensures.told)

pub returns-then-not-give-clause-told : goal.returns-then-not-give-clause-told
returns-then-not-give-clause-told c =
    let some : 0 < length c.take_front-count.new.into = search rules in
    let seen = ap (λ (p : MemoryPeerHeld). p.log) c.self.view_is in
    let old = c.args.self.now.log in
    let new = c.cut-then-not-give.new.self.log in
    let piece = map Given (take c.take_front-count.result c.take_front-count.new.into) in
    let none = from_seen old c.self.inside.log c.give.new.self [] seen (none_where c.self.inside.log c.give.new.self c.give.result piece c.if-not-give.true c.give.ensures) in
    end_given old new c.take_front-count.new.into some (after_none old c.give.new.self new (Ended ∷ []) none c.cut-then-not-give.ensures.told)

pub returns-clause-told : goal.returns-clause-told
returns-clause-told c =
    let seen = ap (λ (p : MemoryPeerHeld). p.log) c.self.view_is in
    let old = c.args.self.now.log in
    let new = c.give.new.self in
    let count = c.take_front-count.result in
    let piece = map Given (take count c.take_front-count.new.into) in
    let all = from_seen old c.self.inside.log new piece seen (all_where c.self.inside.log new c.give.result piece c.if-not-give.false c.give.ensures) in
    bytes_given old new c.take_front-count.new.into count c.take_front-count.ensures.within c.if-count-eq0.false all

-- One call of a session, which lends its reply. Public contracts cite it.
use Rattle.std.specs.Borrow.{Fml, RattleType, MutBor}
use Rattle.std.specs.Io.BufRead.{Rests}
use Rattle.rmt_wire.specs.declared.request.Request.{Request}
use Rattle.rmt_wire.specs.declared.reply.Reply.{Reply}
use Rattle.rmt_wire.specs.Lent.{plain_request, plain_reply}
use Rattle.drives.specs.declared.holds.Holds.{Ghosts as HoldsPromise}
use Rattle.drives.specs.declared.stacks.Stacks.{Ghosts as StacksPromise}
use Rattle.tape.specs.declared.reel.Reel.{Ghosts as ReelPromise}
use Rattle.drives.specs.declared.table.DriveTable.{DriveTable}
use Rattle.drives.specs.Opening.{kinds}
use Rattle.rmt_server.specs.declared.session.session_state.SessionState.{SessionState}
use Rattle.rmt_server.specs.State.{state}
use Rattle.rmt_server.specs.Carrying.{IsCarriedOut}
use Rattle.rmt_server.specs.contracts.session.Session.{the_row}

-- the request was carried out with this reply, once the borrow of the reply ends
abbrev pub LendsReply : (H S Seat R : RattleType) → HoldsPromise H.Denot Seat.Denot → StacksPromise S.Denot R.Denot → ReelPromise R.Denot
    → MutBor (SessionState Seat.Denot R.Denot) → DriveTable H.Denot S.Denot Seat.Denot R.Denot → DriveTable H.Denot S.Denot Seat.Denot R.Denot
    → Request → Reply → Fml
LendsReply H S Seat R holds stacks reels session drives drives' request reply =
    Rests (the_row H S Seat R holds stacks reels) session (λ session_state.
    IsCarriedOut (kinds holds stacks reels) (state drives session.now) (plain_request request) (plain_reply reply) (state drives' session_state))

-- A turn of the server's side, whose reply goes after what is in transit.
use Rattle.std.proofs.Common.{◌≡◌, ℕ, zero, suc, ◌-◌, ◌≤◌, Bool, true, false, not, List, [], ◌∷◌, ◌++◌, length, drop, map, Option, Some, None, refl, sym, ap, subst, ◌∙◌, arith, Vec, Global}
use Rattle.std.specs.Prelude.{Contains, Result, Ok, Err, IfOk, slice_index_or, slice_set, option_map, cond, if◌then◌else◌, ◌==◌, ◌+◌}
use Rattle.std.specs.List.{position_or_len}
use Rattle.std.specs.Option.{option_to_list}
use Rattle.std.proofs.lemmas.List.{map-append}
use Rattle.std.specs.Str.{bytes_eq}
use Rattle.std.proofs.lemmas.Slice.Eq.{bytes_eq-Decides}
use Rattle.std.proofs.lemmas.List.{drop-append-le}
use Rattle.std.proofs.lemmas.Option.{same_Some}
use Rattle.rmt_wire.specs.Counted.{raised}
use Rattle.rmt_wire.specs.Request.{PlainRequest}
use Rattle.rmt_wire.specs.Request.PlainRequest.{Open, Close, Write, WriteDropped, Read, Op}
use Rattle.rmt_wire.specs.Reply.{PlainReply, reply_text}
use Rattle.rmt_wire.specs.Reply.PlainReply.{Done, Data, Error}
use Rattle.rmt_wire.specs.declared.mtio.TheConstants.{MTWEOF}
use Rattle.tape.specs.declared.trouble.Trouble.{Trouble}
use Rattle.rmt_server.specs.ServerState.{ServerConnection}
use Rattle.world_host.specs.declared.turn.RequestKind.TheVariants as asked
use Rattle.world_host.specs.declared.turn.Turn.{Turn}
use Rattle.world_host.specs.declared.turn.Turn.TheVariants as turns
use Rattle.world_host.specs.Servers.{Hosted, hosted, side_at, ended}
use Rattle.world_host.specs.Turns.{sent_back, GivesNothing, carried_of, asked_of, answered_of, TurnsAt, TurnsSide, ServesAt, with_back}

-- a reply goes after what is left of the bytes
behind : (start : ℕ) (lost : Bool) (back text : List ℕ) → start ≤ length back → drop start (sent_back lost back text) ≡ sent_back lost (drop start back) text
behind start true back text fits = refl
behind start false back text fits = drop-append-le start back text fits

turned_side : (left : Hosted) (trouble : Trouble) (lost : Bool) (old : Hosted) (k : ℕ) (s : ServerConnection) (back : List ℕ) (turn : Turn) (new : Hosted) (back' : List ℕ) (start : ℕ)
    → start ≤ length back → TurnsSide left trouble lost (with_back old back) k s turn (with_back new back') → TurnsSide left trouble lost (with_back old (drop start back)) k s turn (with_back new (drop start back'))
turned_side left trouble lost old k s back turns.Nothing new back' start fits (none, same, is) = (none, same, ap (drop start) is)
turned_side left trouble lost old k s back (turns.Carried c) new back' start fits (request, reply, carries, ready, told, is) =
    (request, reply, carries, ready, told, ap (drop start) is ∙ behind start lost back (reply_text reply) fits)
turned_side left trouble lost old k s back (turns.Broken fault) new back' start fits (gives, after, is) = (gives, after, ap (drop start) is)

turned_at : (left : Hosted) (trouble : Trouble) (lost : Bool) (old : Hosted) (k : ℕ) (o : Option ServerConnection) (back : List ℕ) (turn : Turn) (new : Hosted) (back' : List ℕ) (start : ℕ)
    → start ≤ length back → TurnsAt left trouble lost (with_back old back) k o turn (with_back new back') → TurnsAt left trouble lost (with_back old (drop start back)) k o turn (with_back new (drop start back'))
turned_at left trouble lost old k None back turn new back' start fits (none, same, is) = (none, same, ap (drop start) is)
turned_at left trouble lost old k (Some s) back turn new back' start fits t = turned_side left trouble lost old k s back turn new back' start fits t

pub serves_behind : (trouble : Trouble) (lost : Bool) (old : Hosted) (k : ℕ) (back : List ℕ) (turn : Turn) (new : Hosted) (back' : List ℕ) (start : ℕ)
    → start ≤ length back → ServesAt trouble lost old k back turn new back' → ServesAt trouble lost old k (drop start back) turn new (drop start back')
serves_behind trouble lost old k back turn new back' start fits t =
    turned_at (hosted (ended old.server k) old.ready) trouble lost old k (side_at old.server.sides k) back turn new back' start fits t

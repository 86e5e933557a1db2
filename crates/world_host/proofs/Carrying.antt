-- One request under a trouble that is set before it and taken back after it.
use Rattle.std.proofs.Common.{◌≡◌, Bool, false, Option, refl, arith}
use Rattle.world_host.proofs.Names.{PlainRequest, PlainReply, TroubledTape, Trouble, NoTrouble, troubled_in, Opened, SessionView, drive_of, IsAt}
use Rattle.world_host.proofs.Names.{HasView, KeepsDrives, IsCarriedOut, with_trouble, MemoryState, in_memory, session_view_seen, IsTroubled, IsSetFor}
use Rattle.world_host.proofs.Names.{set_for, with_troubles, IsServedUnder, IsUntroubledAt, IsCarried}
use Rattle.rmt_server.specs.Laws.{TroublesAreServed}
use Rattle.world_host.proofs.Ended.{TellsSessionView}

-- what the laws of set troubles and of one view say
abbrev TroublesSet : Type 0
TroublesSet = record {
  at : (reel : Trouble) (stacks : Bool) (x : MemoryState) → IsAt in_memory x → IsAt in_memory (with_troubles reel stacks x);
  told : (reel : Trouble) (stacks : Bool) (x : MemoryState) (v : SessionView) → HasView in_memory x v
      → HasView in_memory (with_troubles reel stacks x) v;
  set : (reel : Trouble) (stacks : Bool) (x : MemoryState) → troubled_in x.drives.stacks.library ≡ 0
      → IsTroubled reel stacks (with_troubles reel stacks x);
  request : (trouble : Trouble) (request : PlainRequest) (x : MemoryState) → troubled_in x.drives.stacks.library ≡ 0
      → IsSetFor trouble request (set_for trouble request x);
}

abbrev OneView : Type 0
OneView = record { told : TellsSessionView; one : (x : MemoryState) (v : SessionView) → HasView in_memory x v → v ≡ session_view_seen x }

same_drive : (trouble : Trouble) (opened : Option (Opened TroubledTape)) → drive_of (with_trouble trouble opened) ≡ drive_of opened
same_drive trouble opened = grind arith

module _ (set : TroublesSet) (view : OneView) (serves : TroublesAreServed) (trouble : Trouble) (request : PlainRequest) (reply : PlainReply)
    (reel : Trouble) (stacks : Bool) (old middle : MemoryState)
    (placed : set_for trouble request old ≡ with_troubles reel stacks old) (untroubled : IsUntroubledAt old)
    (carried : IsCarriedOut in_memory (with_troubles reel stacks old) request reply middle) where
  under : IsServedUnder trouble (with_troubles reel stacks old) (session_view_seen old) request reply middle
  under = serves trouble (with_troubles reel stacks old) middle (session_view_seen old) request reply (set.at reel stacks old untroubled.at)
      (set.told reel stacks old (session_view_seen old) (view.told old untroubled.told))
      (rw placed at (set.request trouble request old untroubled.untroubled.lying)) carried

  tells : HasView in_memory (with_troubles NoTrouble false middle) under.after
  tells = set.told NoTrouble false middle under.after under.tells

  kept : KeepsDrives in_memory old (with_troubles NoTrouble false middle)
  kept = grind (arith, same_drive reel old.opened, same_drive NoTrouble middle.opened, carried.kept)

  pub carried_so : IsCarried trouble old request reply (with_troubles NoTrouble false middle)
  carried_so = record {
    served = rw (view.one (with_troubles NoTrouble false middle) under.after tells) at under.served;
    untroubled = record {
      at = set.at NoTrouble false middle carried.at;
      told = (refl, rw tells.library.0 at tells.library.1);
      untroubled = set.set NoTrouble false middle under.lying;
    };
    kept = kept;
    same_seats = carried.same_seats;
  }

-- A reel is taken offline only once the sink has completed.
use Rattle.rdump_net.proofs.Words.{◌≡◌, ◌≢◌, ℕ, ◌+◌, List, [], ◌∷◌, ◌++◌, Bool, Option, PlainRequest, true, false, Some, Result, arith, MTOFFL, PlainReply, Data, Op, SinkEnds, SinkKind, SinkCall, Takes, calls_of, Mark, Complete, next_mark, next_read, next_of, after_for_count, records_of, is_whole, IsEnding, IsTakenAwayOnlyIfKept, ReadFault, AfterVolume}

-- while the sink has not completed, no request takes the reel offline: none after the records, none after the label, and none at all
never_marked : (goes : AfterVolume) (n : ℕ) (replies : List PlainReply) → next_mark goes false n replies ≢ Some (Op MTOFFL 1)
never_marked goes n replies e = grind arith

never_read : (after : AfterVolume) (n : ℕ) (replies : List PlainReply) → next_read after false n replies ≢ Some (Op MTOFFL 1)
never_read after n (Data [] ∷ replies) e = never_marked (after_for_count after n) n replies e
never_read after n (Data (b ∷ bytes) ∷ reads) e = never_read after (n + 1) reads e
never_read after n reads e = absurd cc

completed_so : (device : List ℕ) (after : AfterVolume) (completed : Bool) (before : List PlainReply) → next_of device after completed before ≡ Some (Op MTOFFL 1) → completed ≡ true
completed_so device after completed before e = grind (arith, never_read)

module _ {S : Type 0} (takes : S → S → SinkCall → Bool → Type 0) where
  kept_so : (s t : S) (next : List PlainReply → Option PlainRequest) (goes : AfterVolume) (replies : List PlainReply) (result : Result Unit ReadFault) (calls end : List SinkCall) (completed : Bool) → completed ≡ true
      → IsEnding next goes replies result end completed → Takes takes s t (calls ++ end) (is_whole result) → Takes takes s t (calls ++ Mark ∷ Complete ∷ []) true
  kept_so s t next goes replies result calls end completed e ending took = grind arith

pub taken_away_only_if_kept : {P S : Type 0} (kind : SinkKind P S) (device : List ℕ) (after : AfterVolume) (old new : SinkEnds P S) (result : Result Unit ReadFault) → IsTakenAwayOnlyIfKept kind device after old new result
taken_away_only_if_kept kind device after old new result = λ read before off.
    kept_so kind.takes old.sink new.sink _ _ read.replies result (calls_of (records_of read.replies)) read.end read.completed (completed_so device after read.completed before off) read.ending read.took

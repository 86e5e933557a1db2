-- The statement `AreNotReopened` stays true, whatever happens.
-- The facts that hold in the first world and after each event.
use Rattle.world_model.proofs.Basics.{◌≡◌, List, None, refl, arith, ℕ, zero, suc, [], ◌∷◌, map, replicate, Some, sym, subst, ◌∙◌, inl, inr, slice_get, slice_index_or, eqb_tells, ap, length-map, length-replicate, same_Some, length-append}
use Rattle.world_model.proofs.Terms.{Connection, changed, World, PlainDriveSpec, first_world, without_server, without_peer, new_connection, AreSingle, EachCountHasAttempt, IsClientLawful, IsOwned, AreTold, AreNotReopened, kept_reel, slot, drive_with, PlainEvent, AreGoodDrives, blank_drive, Happens, Runs, none, one_more, AreThere, IsWorldKept, NoTwoHolders, DumpdatesGained, Headline, CountedReels, SentRequests, LatchedReels, ClientsCounts, SameNames}
use Rattle.world_model.proofs.Ground.{side_there, OneReading, DroppedWrites, OneReply, talked, talked_dump, Move, begins, connects, asks, fails, reaches, cuts, talks, hears, hears_last, sees, forgets, gives_up, answers, moved, happened, no_number, Standings, owned_moved, tidy_moved, held_moved, Goings, booked_moved, readable_moved, map_at}
use Rattle.world_model.proofs.Moves.{serves, ends, restarts, joins}
use Rattle.world_model.proofs.NotReopenedQuiet.{SameOpens, changed_dumps, joined_dumps, idle_not_reopened, same_not_reopened, connected_not_reopened, changed_backs, joined_backs, strangers_backs, asked_not_reopened}
use Rattle.world_model.proofs.NotReopenedHears.{heard_not_reopened, heard_last_not_reopened}
use Rattle.world_model.proofs.NotReopenedLooks.{Grounds}
use Rattle.world_model.proofs.NotReopenedAnswers.{served_late, served_stopped, served_listed, served_looked}
use Rattle.world_model.proofs.Lawfully.{Lawfully, lawful_moved}
use Rattle.world_model.proofs.ToldAfter.{first_told, told_moved, first_single, first_labelled, first_earned, single_moved, labelled_moved, earned_moved}
use Rattle.world_model.proofs.Counted.{counted_reels}
use Rattle.world_model.proofs.Laid.{laid_moved, online_drive, drive_within}
use Rattle.world_model.proofs.Named.{names_after, named_moved, first_named}
use Rattle.world_model.proofs.Opened.{opened_moved, names_differ, writers_moved}

-- The facts about the world after the event that the proof needs.
pub record After (u : World) : Type 0 where
  pub owned : IsOwned u
  pub told : AreTold u
  pub single : AreSingle u
  pub earned : EachCountHasAttempt u

-- an event that leaves openings and writings
quiet : (w u : World) → u.opens ≡ w.opens → u.lists ≡ w.lists → u.writings ≡ w.writings → SameOpens w u
quiet w u opens lists writings = record { opens = opens; lists = lists; writings = writings }

-- one by which the client leaves its own connection
left_not_reopened : (w u : World) (k : ℕ) → SameOpens w u → Grounds w → u.connections ≡ changed without_peer w.connections k → u.counts ≡ w.counts → u.own ≡ None
    → AreNotReopened u
left_not_reopened w u k s a is counts over =
    idle_not_reopened w u s (changed_dumps without_peer (λ x. refl) w u k is) a.opened a.writers counts
    (λ j mine. (let clash = sym over ∙ mine in absurd cc)) a.not_reopened

-- one that changes a connection, and neither its attempt nor what is on the way back
still_not_reopened : (w u : World) (k : ℕ) (f : Connection → Connection) → SameOpens w u → Grounds w → u.connections ≡ changed f w.connections k
    → ((x : Connection) → (f x).dump ≡ x.dump)
    → ((x : Connection) → (f x).back ≡ x.back) → u.counts ≡ w.counts → u.own ≡ w.own → u.caller ≡ w.caller → AreNotReopened u
still_not_reopened w u k f s a is dumps backs counts own same =
    same_not_reopened w u s (changed_dumps f dumps w u k is) (changed_backs f backs w u k is) a.opened a.writers counts own same a.not_reopened

pub not_reopened_moved : OneReading → DroppedWrites → OneReply → (w : World) (m : Move w) → Grounds w → IsOwned w → IsClientLawful w → After (moved w m)
    → AreNotReopened (moved w m)
not_reopened_moved r h g w (serves v) a owned lawful after = record {
  paired = (grind (arith, length-append));
  late = served_late r h w v a.told a.not_reopened.late;
  stopped = served_stopped r h w v a after.earned after.single;
  listed = served_listed w v a.not_reopened.paired a.not_reopened.listed;
  looked = served_looked r h g w v a owned lawful after.told after.earned after.single;
}
not_reopened_moved r h g w (asks t) a owned lawful after = asked_not_reopened w t owned a.told a.opened a.writers a.not_reopened
not_reopened_moved r h g w (hears t on) a owned lawful after = heard_not_reopened g w t on owned lawful a.told a.single a.opened a.writers a.not_reopened
not_reopened_moved r h g w (hears_last t failure over) a owned lawful after =
    heard_last_not_reopened g w t failure over owned lawful a.told a.single a.opened a.writers a.not_reopened
not_reopened_moved r h g w (begins run payload reader idle good long) a owned lawful after = grind arith
not_reopened_moved r h g w (answers c answer reader there stage) a owned lawful after = grind arith
not_reopened_moved r h g w (connects c there ready) a owned lawful after = connected_not_reopened w c a.opened a.writers a.not_reopened
not_reopened_moved r h g w (fails k n c reader there stage own) a owned lawful after = left_not_reopened w _ k (quiet w _ refl refl refl) a refl refl refl
not_reopened_moved r h g w (sees t failure) a owned lawful after = left_not_reopened w _ t.k (quiet w _ refl refl refl) a refl refl refl
not_reopened_moved r h g w (gives_up x k own) a owned lawful after = left_not_reopened w _ k (quiet w _ refl refl refl) a refl refl refl
not_reopened_moved r h g w (forgets x idle) a owned lawful after = grind arith
not_reopened_moved r h g w (reaches k n s l reached live at grows) a owned lawful after =
    still_not_reopened w _ k _ (quiet w _ refl refl refl) a refl (λ x. refl) (λ x. refl) refl refl refl
not_reopened_moved r h g w (ends k) a owned lawful after =
    still_not_reopened w _ k without_server (quiet w _ refl refl refl) a refl (λ x. refl) (λ x. refl) refl refl refl
not_reopened_moved r h g w restarts a owned lawful after =
    same_not_reopened w _ (quiet w _ refl refl refl) (grind (arith, map_at)) (grind (arith, map_at)) a.opened a.writers refl refl refl a.not_reopened
not_reopened_moved r h g w (cuts k) a owned lawful after = still_not_reopened w _ k _ (quiet w _ refl refl refl) a refl (λ x. refl) (λ x. refl) refl refl refl
not_reopened_moved r h g w (talks k l t at stranger) a owned lawful after =
    let u = moved w (talks k l t at stranger) in
    same_not_reopened w u (quiet w u refl refl refl) (changed_dumps (talked t) (talked_dump t) w u k refl) (strangers_backs (talked t) w u k l owned refl at stranger)
    a.opened a.writers refl refl refl a.not_reopened
not_reopened_moved r h g w joins a owned lawful after =
    let u = moved w joins in
    same_not_reopened w u (quiet w u refl refl refl) (joined_dumps w u (new_connection None) refl) (joined_backs w u (new_connection None) owned refl) a.opened a.writers refl
    refl refl a.not_reopened
not_reopened_moved r h g w m a owned lawful after = grind arith

-- no drive has a holder
no_holder : (n d k : ℕ) → slice_get (replicate n 0) d ≡ Some (suc k) → ⊥
no_holder (suc n) (suc d) k is = no_holder n d k is
no_holder n d k is = grind arith

-- each reel lies there
blank_there : (capacity : ℕ) (names : List (List ℕ)) → AreThere (map (λ name. slot name (Some (kept_reel [] capacity))) names)
blank_there capacity [] = tt
blank_there capacity (name ∷ names) = ((kept_reel [] capacity, refl), blank_there capacity names)

first_there : (drives : List PlainDriveSpec) (d : ℕ) → AreThere (slice_index_or (map blank_drive drives) d (drive_with [] [])).stack
first_there [] d = tt
first_there (drive ∷ drives) zero = blank_there drive.capacity drive.reels
first_there (drive ∷ drives) (suc d) = first_there drives d

pub first_kept : (drives : List PlainDriveSpec) → AreGoodDrives drives → IsWorldKept (first_world drives)
first_kept drives good =
    grind (arith, first_told, first_single, first_labelled, first_earned, no_number, length-replicate, length-map, side_there, no_holder, first_there, first_named)

-- The facts from other crates about a client, requests and replies.
pub record Laws : Type 0 where
  pub goings : Goings
  pub lawfully : Lawfully
  pub standings : Standings
  pub reading : OneReading
  pub dropped : DroppedWrites
  pub reply : OneReply

kept_moved : Laws → (w : World) (m : Move w) → IsWorldKept w → IsWorldKept (moved w m)
kept_moved g w m k =
    let held = held_moved w m k.held in
    let laid = laid_moved w m k.held k.laid in
    let named = named_moved w m k.held held laid k.once in
    let owned = owned_moved g.standings w m k.owned in
    let told = told_moved g.reading g.dropped g.reply w m k.lawful k.owned k.tidy k.booked k.told in
    let single = single_moved g.reading g.dropped w m k.held k.told k.opened k.single in
    let earned = earned_moved g.reading g.dropped g.reply w m k.held k.owned k.told k.single k.counted in
    let lawful = lawful_moved g.lawfully w m k.booked k.lawful in
    let labelled = labelled_moved g.reading g.dropped w m k.held held laid named.once k.told k.opened k.single k.labelled in
    let tidy = tidy_moved w m k.tidy in
    let booked = booked_moved g.goings w m k.lawful k.booked in
    let opened = opened_moved w m k.tidy k.held held laid named.once k.opened in
    let writers = writers_moved w m k.opened k.writers in
    let spares = not_reopened_moved g.reading g.dropped g.reply w m (grind arith) k.owned k.lawful (grind arith) in
    let readable = readable_moved w m k.readable in
    grind arith

pub kept_after : Laws → (w u : World) (event : PlainEvent) → IsWorldKept w → Happens w event u → IsWorldKept u
kept_after g w u event k happens = let m = happened w event u happens in subst IsWorldKept (sym m.1) (kept_moved g w m.0 k)

-- after every list of events
pub runs_kept : Laws → (first w : World) (events : List PlainEvent) → IsWorldKept first → Runs first events w → IsWorldKept w
runs_kept g first w events k none = k
runs_kept g first w events k (one_more {before = before} event run happens) = kept_after g before w event (runs_kept g first before _ k run) happens

pub kept_names : (w u : World) (event : PlainEvent) → IsWorldKept w → Happens w event u → SameNames w.server.library u.server.library
kept_names w u event k happens = names_after w event u happens k.held

pub no_two_holders : (w : World) → IsWorldKept w → NoTwoHolders w
no_two_holders w kept j k d one other = same_Some j k (sym (kept.held.opened j d one.0 one.1 one.2) ∙ kept.held.opened k d other.0 other.1 other.2)

pub dumpdates_gained : (w : World) → IsWorldKept w → DumpdatesGained w
dumpdates_gained w kept = record { dates = kept.booked.dates; once = kept.booked.once; earned = kept.booked.earned }

pub reels_counted : (w : World) → IsWorldKept w → CountedReels w
reels_counted w kept = counted_reels w kept.held kept.laid kept.once kept.writers kept.told kept.labelled kept.counted kept.not_reopened

pub sent_requests : (w : World) → IsWorldKept w → SentRequests w
sent_requests w kept k d has = elim ((kept.told.each k has.0 has.1).sent d has.2) [
  | inl settled ↦ inl settled.sent
  | inr (b, step, begun, pending) ↦ inr pending.sent
]

pub latched_reels : (w : World) → IsWorldKept w → LatchedReels w
latched_reels w kept = record {
  first = λ k d s at on. (kept.laid.latched d (k, s, at, on), kept.held.opened k d s at (online_drive s.session d on));
  once = λ j k d e s t one on two off same. elim (eqb_tells d e) [
    | inl (equal, its) ↦ no_two_holders w kept j k e (s, one, online_drive s.session e (on ∙ ap Some its)) (t, two, online_drive t.session e off)
    | inr (unequal, other) ↦
        absurd (names_differ w.server.library d e kept.once.once other (drive_within w.server j s d kept.held one (online_drive s.session d on)) (kept.laid.latched d (j, s, one, on))
        (drive_within w.server k t e kept.held two (online_drive t.session e off)) (kept.laid.latched e (k, t, two, off)) same)
  ];
}

pub headline : (w : World) → IsWorldKept w → Headline w
headline w kept = record {
  counted_reels = reels_counted w kept;
  no_two_holders = no_two_holders w kept;
  dumpdates_gained = dumpdates_gained w kept;
}

pub clients_counts : (w : World) → IsWorldKept w → ClientsCounts w
clients_counts w kept = record { listed = kept.booked.listed; none = kept.booked.none }

-- On a link without faults, a run that begins, an attempt that starts, and what is sent and reaches the server.
-- What holds on a link without faults stays so, and the volumes are in order.
use Rattle.world_model.proofs.Basics.{◌≡◌, ℕ, suc, ◌+◌, ◌≤◌, List, [], ◌∷◌, ◌++◌, length, length-append, drop, Option, Some, refl, sym, ap, subst, ◌∙◌, inl, inr, arith, option_map, same_Some, false, IsTrue, flat_map, map, slice_get, sum_by, sum_by-append, sum_by-cons, bytes_eq-Decides}
use Rattle.world_model.proofs.Terms.{RequestHeld, held, ReplyHeld, caller, standing, ServerConnection, side, Idle, Step, Ready, ToSend, Waiting, World, Connection, Begun, WorldClient, PlainDriveSpec, side_of, connection_of, new_connection, noted_sent, begun, client_connected, fresh, asked, sent_connection, next_text, reached_by, IsWorldKept, AreUnserved, stock_of, volume_slot, volume_slots, IsFree, IsOwnConnection, ReelsStandAt, StandsWith, IsFaultlessWorld, PlainEntry, KeptReel, ReelSlot, drive_with, drive_at, with_drive_at, slots_in, EachReelOnce, bit, named, times_named, sum_by_with_drive, ServerState, Count, numbered, PlainEvent, StartRun, Connect, Send, ToServer, Serve, ToClient, AreGoodDrives, first_world, Happens, Runs, none, one_more, is_failing, Sends, Finds, AreLaid, AreHeld, ReelLiesIn, ReelHolds, whole_volume, IsFaultless, AreFaultless, VolumesInOrder}
use Rattle.world_model.proofs.Ground.{pushed_is, numbered_more, numbered_last, numbered_there, numbered_within, numbered_first, no_number, turned_here, turned_beside, map_same, count_reel, slot_names, Behind, same_bin, among_at}
use Rattle.world_model.proofs.FaultlessCarried.{own_settles, own_told, none_left, one_left, unserved_on, serve_faultless}
use Rattle.world_model.proofs.FaultlessHears.{hears_faultless}
use Rattle.world_model.proofs.LabelledNames.{stands_one, lies_times, lies_within}
use Rattle.world_model.proofs.Staying.{Laws, first_kept, kept_after}

-- the volumes that were counted are the same once another run is begun
same_volumes : (drive : PlainDriveSpec) (w : World) (b : Begun) → IsWorldKept w
    → volume_slots drive (stock_of w) ≡ volume_slots drive (record (stock_of w) { begun = w.begun ++ b ∷ [] })
same_volumes drive w b kept =
    map_same (volume_slot drive.capacity w.begun) (volume_slot drive.capacity (w.begun ++ b ∷ [])) w.counts (λ x among. (
    let e = kept.counted x among in
    grind (arith, numbered_more)))

pub connected_faultless : (drive : PlainDriveSpec) (w : World) (c : WorldClient) → IsWorldKept w → IsFaultlessWorld drive w → w.caller ≡ Some c → c.at.stage ≡ Ready → IsFaultlessWorld drive (client_connected w c)
connected_faultless drive w c kept sm there ready =
    let u : World = client_connected w c in
    let k = length w.connections + 1 in
    let l : Connection = new_connection (Some (fresh c)) in
    let s : ServerConnection = side (held [] 0) Idle in
    let last : suc (length w.connections) ≡ k = omega arith in
    let paired = kept.tidy.paired in
    let b = kept.booked.begun c there in
    let free : IsFree drive (stock_of w) = subst (λ x. ReelsStandAt x drive w c) ready (subst (λ o. StandsWith o drive w) there sm.stands) in
    let live : side_of u.server k ≡ Some s = grind (arith, numbered_last) in
    let mine : IsOwnConnection u k l (fresh c) b.0 s
    = grind (arith, numbered_last) in
    record {
      clients = λ j y at. elim (pushed_is w.connections l j y at) [
        | inl on ↦ sm.clients j y on
        | inr (here, new) ↦ (fresh c, ap (λ (x : Connection). x.dump) new)
      ];
      still = λ j y at not_own. elim (pushed_is w.connections l j y at) [
        | inl on ↦ (
            let o = numbered_there w.server.sides j (numbered_first w.connections j y on) (omega (arith, numbered_within w.connections j y on, paired)) in
            grind (arith, numbered_more))
        | inr (here, new) ↦ absurd (not_own (ap Some (sym last ∙ sym here)))
      ];
      reels = sm.reels;
      stands = (k, l, fresh c, b.0, s, mine, (free, refl));
      failure = λ volume fault is. absurd cc;
    }

-- the client sends its next request
pub asked_faultless : (drive : PlainDriveSpec) (w : World) (k : ℕ) (c : WorldClient) (payload : List (List ℕ)) (step : Step) (reader : ReplyHeld) → IsWorldKept w → IsFaultlessWorld drive w
    → w.own ≡ Some k → w.caller ≡ Some c → c.at.stage ≡ ToSend step → IsFaultlessWorld drive (asked w k c payload step reader)
asked_faultless drive w k c payload step reader kept sm mine there stage =
    sent_by (subst (λ x. ReelsStandAt x drive w c) stage (subst (λ o. StandsWith o drive w) there sm.stands))
  where
    sent_by : ReelsStandAt (ToSend step) drive w c → IsFaultlessWorld drive (asked w k c payload step reader)
    sent_by (j, l, d, b, s, own, stands) =
        let u : World = asked w j c payload step reader in
        let text = next_text c payload step in
        let same : j ≡ k = same_Some j k (sym own.own ∙ mine) in
        let told = own_told w j l d b s c (ToSend step) kept own there stage in
        subst (λ n. IsFaultlessWorld drive (asked w n c payload step reader)) same (own_settles drive w u j (sent_connection text) l d (noted_sent d) b s s
        (caller c.number (standing c.at.run c.at.counts (Waiting step)) reader) (Waiting step) sm own refl (λ x e is. (noted_sent e, ap (option_map noted_sent) is))
        (refl, ap (option_map noted_sent) own.dump, refl) (λ i other. refl) own.live (refl, refl, refl, refl) refl refl
        (λ now. (j, sent_connection text l, noted_sent d, b, s, now, inl record { back = told.2.back; stands = (grind arith) })))

-- nothing is on the way where nothing is unserved
no_way : (s : ServerConnection) (way : List ℕ) (n : ℕ) → AreUnserved (Some s) way [] → 1 ≤ n → n ≤ length way → ⊥
no_way s way n (reached, unread, is) first within = grind (arith, length-append reached way)

-- bytes reach the server
pub reached_faultless : (drive : PlainDriveSpec) (w : World) (k n : ℕ) (s : ServerConnection) (l : Connection) (reached : RequestHeld) → IsWorldKept w → IsFaultlessWorld drive w → side_of w.server k ≡ Some s
    → connection_of w k ≡ Some l → 1 ≤ n → n ≤ length l.toward → IsFaultlessWorld drive (reached_by w k n s reached)
reached_faultless drive w k n s l reached kept sm live conn first within = elim (unserved_on drive w k s l kept sm live conn) [
  | none_left empty ↦ absurd (no_way s l.toward n empty first within)
  | one_left c step d b there stage own un ↦ (
      let u : World = reached_by w k n s reached in
      let z : ServerConnection = side reached s.session in
      own_settles drive w u k (λ a. record a { toward = drop n a.toward }) l d d b s z c (Waiting step) sm own refl (λ a e is. (e, is)) (refl, own.dump, refl)
      (turned_beside w u k (Some z) refl) (turned_here w u k s (Some z) own.live refl) (refl, refl, refl, refl) there stage
      (λ now. (k, record l { toward = drop n l.toward }, d, b, z, now, inl record { back = un.back; stands = un.stands })))
]

pub first_faultless : (drive : PlainDriveSpec) → IsFaultlessWorld drive (first_world (drive ∷ []))
first_faultless drive = grind (arith, no_number)

pub faultless_after : Laws → (drive : PlainDriveSpec) (w u : World) (event : PlainEvent) → IsWorldKept w → IsFaultlessWorld drive w → IsFaultless event → Happens w event u → IsFaultlessWorld drive u
faultless_after g drive w u (StartRun run payload) kept sm whole ((idle, good, size), (reader, is)) =
    subst (IsFaultlessWorld drive) (sym is) ((grind (arith, same_volumes)))
faultless_after g drive w u Connect kept sm whole (may, (c, there, ready, is)) = subst (IsFaultlessWorld drive) (sym is) (connected_faultless drive w c kept sm there ready)
faultless_after g drive w u (Send fails) kept sm whole (may, (c, step, k, b, there, stage, own, mine, sends)) =
    let s : Sends false w k c b.payload step u = subst (λ f. Sends (is_failing f step) w k c b.payload step u) whole sends in
    subst (IsFaultlessWorld drive) (sym s.2) (asked_faultless drive w k c b.payload step s.0 kept sm own there stage)
faultless_after g drive w u (ToServer k n) kept sm whole ((s, l, live, at, part, room), (x, y, reached, here, there, grows, is)) =
    let connections : l ≡ y = same_Some l y (sym at ∙ there) in
    subst (IsFaultlessWorld drive) (sym is)
    (reached_faultless drive w k n x y reached kept sm here there part.0 (subst (λ (z : Connection). n ≤ length z.toward) connections part.1))
faultless_after g drive w u (Serve k trouble) kept sm whole (may, (s, found, bytes, rest, live, unread, gives, finds)) =
    serve_faultless g.reading g.dropped drive w u k s found bytes rest kept sm live unread gives (subst (λ t. Finds w k t s found rest u) whole finds)
faultless_after g drive w u (ToClient k n) kept sm whole ((l, (there, other), part), (y, at, hears)) =
    let connections : l ≡ y = same_Some l y (sym there ∙ at) in
    hears_faultless g.reply g.goings y.dump drive w u k n y kept sm at (subst (λ (z : Connection). IsTrue z.other) connections other) refl part.0
    (subst (λ (z : Connection). n ≤ length z.back) connections part.1) hears
faultless_after g drive w u event kept sm whole happens = absurd whole

-- a list without faults and an event without one
last_faultless : (events : List PlainEvent) (event : PlainEvent) → AreFaultless (events ++ event ∷ []) → AreFaultless events × IsFaultless event
last_faultless [] event whole = grind arith
last_faultless (e ∷ events) event whole = grind (arith, last_faultless events event)

-- after every list of events without a fault
pub runs_faultless : Laws → (drive : PlainDriveSpec) (first w : World) (events : List PlainEvent) → IsWorldKept first → IsFaultlessWorld drive first → AreFaultless events → Runs first events w
    → IsWorldKept w × IsFaultlessWorld drive w
runs_faultless g drive first w events kept sm whole none = (kept, sm)
runs_faultless g drive first w all kept sm whole (one_more {events = events} {before = before} event run happens) =
    let parts = last_faultless events event whole in
    let was = runs_faultless g drive first before events kept sm parts.0 run in
    (kept_after g before w event was.0 happens, faultless_after g drive before w event was.0 was.1 parts.1 happens)

bin_with : (drive : PlainDriveSpec) (w : World) (o : Option WorldClient) → StandsWith o drive w → Behind (volume_slots drive (stock_of w)) w.server.library.bin
bin_with drive w o given = grind (arith, same_bin)

-- the reel of a count lies there with its volume
count_lies : (capacity : ℕ) (begun : List Begun) (counts : List Count) (more : List (ReelSlot KeptReel)) (i : ℕ) (x : Count) (b : Begun) → slice_get counts i ≡ Some x
    → numbered begun x.run ≡ Some b → ReelLiesIn (map (volume_slot capacity begun) counts ++ more) x.reel (whole_volume b.run b.payload x.volume x.first x.count)
count_lies capacity begun (y ∷ counts) more (suc i) x b at is = inr (count_lies capacity begun counts more i x b at is)
count_lies capacity begun counts more i x b at is = grind arith

-- no two reels of one name lie there
one_lies : (xs : List (ReelSlot KeptReel)) (name : List ℕ) (entries other : List PlainEntry) → sum_by (named name) xs ≤ 1 → ReelLiesIn xs name entries
    → ReelLiesIn xs name other → other ≡ entries
one_lies [] name entries other few one two = absurd one
one_lies (x ∷ xs) name entries other few (inl one) (inl two) = grind arith
one_lies (x ∷ xs) name entries other few (inl one) (inr two) =
    let first : named name x ≡ 1 = ap bit ((bytes_eq-Decides name x.name).1 (sym one.named)) in
    absurd (omega (arith, first, lies_times xs name other two, sum_by-cons (named name) x xs, few))
one_lies (x ∷ xs) name entries other few (inr one) (inl two) =
    let first : named name x ≡ 1 = ap bit ((bytes_eq-Decides name x.name).1 (sym two.named)) in
    absurd (omega (arith, first, lies_times xs name entries one, sum_by-cons (named name) x xs, few))
one_lies (x ∷ xs) name entries other few (inr one) (inr two) = one_lies xs name entries other (omega (arith, sum_by-cons (named name) x xs, few)) one two

-- what lies in the bin stands nowhere else
bin_alone : (h : ServerState) (name : List ℕ) (entries other : List PlainEntry) → AreHeld h → AreLaid h → EachReelOnce h.library → ReelLiesIn h.library.bin name entries → ReelHolds h name other
    → other ≡ entries
bin_alone h name entries other held laid once lies (inl (inl (d, two))) =
    let one = sum_by_with_drive (named name) h.library d (drive_with [] []) (lies_within h.library.drives d name other two) in
    let parts = sum_by-append (named name) (flat_map (λ r. r.stack) (with_drive_at h.library d (drive_with [] [])).drives) h.library.bin in
    let all = times_named name (slots_in h.library) in
    absurd (omega (arith, one, lies_times (drive_at h.library d).stack name other two, lies_times h.library.bin name entries lies, parts, all, once name))
bin_alone h name entries other held laid once lies (inl (inr two)) =
    let parts = sum_by-append (named name) (flat_map (λ r. r.stack) h.library.drives) h.library.bin in
    one_lies h.library.bin name entries other (omega (arith, parts, times_named name (slots_in h.library), once name)) lies two
bin_alone h name entries other held laid once lies (inr (k, s, at, (drive, access, reel, online, first, holds))) =
    sym holds ∙ sym (stands_one h k s drive access reel name entries at online first held laid once (inl (inr lies)))

-- the volumes are in order
pub in_order : (drive : PlainDriveSpec) (w : World) → IsWorldKept w → IsFaultlessWorld drive w → VolumesInOrder drive w
in_order drive w kept sm = record {
  failure = sm.failure;
  reels = λ i x at. (
      let e = kept.counted x (among_at w.counts (suc i) x at) in
      let b = e.2 in
      let bin = bin_with drive w w.caller sm.stands in
      let lies = subst (λ l. ReelLiesIn l x.reel (whole_volume b.run b.payload x.volume x.first x.count)) (sym bin.1)
      (count_lies drive.capacity w.begun w.counts bin.0 i x b at e.3.begun) in (
        count_reel w.counts drive.reels i x sm.reels at,
        record {
          begun = b;
          begun_as = e.3.begun;
          stands = inl (inr lies);
          alone = λ entries on. bin_alone w.server x.reel _ entries kept.held kept.laid kept.once.once lies on;
        },
      ));
  bin = λ (c, there, between). (let stands = subst (λ o. StandsWith o drive w) there sm.stands in grind (arith, slot_names));
}

pub runs_in_order : Laws → (drive : PlainDriveSpec) (events : List PlainEvent) (w : World) → AreGoodDrives (drive ∷ []) → AreFaultless events
    → Runs (first_world (drive ∷ [])) events w → VolumesInOrder drive w
runs_in_order g drive events w good whole run =
    let both = runs_faultless g drive (first_world (drive ∷ [])) w events (first_kept (drive ∷ []) good) (first_faultless drive) whole run in
    in_order drive w both.0 both.1

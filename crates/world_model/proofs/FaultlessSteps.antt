-- The next step of an attempt after the reply to each request, on a connection without faults.
-- Each request of an attempt, carried out at the only drive without a fault.
use Rattle.world_model.proofs.Basics.{◌≡◌, ℕ, suc, List, [], ◌∷◌, ◌++◌, length, append_assoc, Option, Some, None, Contains, refl, sym, ap, subst, ◌∙◌, arith, get_or, append-nil, sum_by-append, length-append, option_map, option_to_list, inl, inr, length-replicate, Contains-append_left, Contains-push}
use Rattle.world_model.proofs.Terms.{tape, size_of, Record, raised, OpenDevice, Write, Op, PlainReply, Done, O_RDWR, MTOFFL, kept_reel, slot, TapeLibrary, Both, ServerConnection, plain_reel, PlainSession, SessionView, session_view, Offline, Online, PlainRun, IsRun, label, label_bytes, counted_label, Standing, checkpoint_of, Open, Operation, Look, Block, Close, Mark, Unload, VolumeCount, AttemptState, Begun, WorldClient, IsAttempt, IsGood, Opening, PlainDriveSpec, opening, noted, HasDone, attempt_written, whole_volume, Stock, blanks, one_drive, volume_slots, names_left, IsLatched, Leads, attempt_on, NoTrouble, PlainRequest, drive_at, drive_in, TroubledServe, TroubledServeStep, IsLawful, Step, Label, Rewind, RewindAgain, opened_reel, written_reel, first_name, request_in, StandsBefore}
use Rattle.world_model.proofs.Ground.{raised_one, blocks_more, Opened, Writes, wrote, full, scarce, serve_open, serve_write, serve_unload}
use Rattle.world_model.proofs.SentTexts.{few_volumes, label_short}

-- The drives, their holders and the openings once a request was carried out.
abbrev pub then_stock : Stock → TapeLibrary → List ℕ → List Opening → Stock
then_stock t library holders opens = record { library = library; holders = holders; counts = t.counts; begun = t.begun; opens = opens }

opened_leads : (drive : PlainDriveSpec) (t : Stock) (k : ℕ) (old : Standing) (b : Begun) (d : AttemptState) (device : List ℕ) (o : Option ServerConnection) (reply : PlainReply) (after : SessionView)
    (holders : List ℕ) (opens : List Opening) → HasDone b.run o d Open → holders ≡ k ∷ []
    → (q : Opened drive (names_left drive t) (volume_slots drive t) reply after) → Contains opens (opening k q.name)
    → Leads drive (then_stock t after.library holders opens) (attempt_on k b (noted (OpenDevice device O_RDWR) reply d) after.session) old Open reply
opened_leads drive t k old b d device o reply after holders opens h held q among = grind arith

-- a blank reel shows the label of no volume
no_label : (run : PlainRun) (counts : List VolumeCount) → counted_label run counts [] ≡ None
no_label run [] = refl
no_label run (c ∷ counts) = no_label run counts

module _ (drive : PlainDriveSpec) (t : Stock) (k : ℕ) (old : Standing) (b : Begun) (d : AttemptState) (o : Option ServerConnection) (session : PlainSession)
  where
    pub block_leads : (number : ℕ) (reply : PlainReply) (after : SessionView) (holders : List ℕ) (opens : List Opening) → HasDone b.run o d (Block number)
        → holders ≡ k ∷ [] → (q : IsLatched drive t k b d session) → Contains opens (opening k q.name) → IsRun b.run → b.run ≡ old.run
        → d.first ≡ (checkpoint_of old.counts).1 → length (get_or b.payload number []) ≡ b.run.block_bytes → length (label b.run d.volume d.first) ≡ label_bytes
        → Writes t.library drive.capacity (attempt_written b.run b.payload d) (get_or b.payload number []) reply after
        → Leads drive (then_stock t after.library holders opens) (attempt_on k b (noted (Write (get_or b.payload number [])) reply d) after.session) old
        (Block number) reply
    block_leads number reply after holders opens h held q among good run first size label_size (wrote fits replies online) =
        let bytes = get_or b.payload number [] in
        let one : raised d.blocks ≡ suc d.blocks = (let up = raised_one d.blocks (omega (arith, good.blocks, h.within)) in omega (arith, up)) in
        let more = sum_by-append size_of (attempt_written b.run b.payload d) (Record bytes ∷ []) in
        subst (λ r. Leads drive (then_stock t after.library holders opens) (attempt_on k b (noted (Write bytes) r d) after.session) old (Block number) r) (sym replies)
        (grind (arith, blocks_more, append_assoc))
    block_leads number reply after holders opens h held q among good run first size label_size (full tight replies online) = grind arith
    block_leads number reply after holders opens h held q among good run first size label_size (scarce (words, replies) online) = grind arith

    pub unload_leads : (next : ℕ) (reply : PlainReply) (after : SessionView) (holders : List ℕ) (opens : List Opening)
        → HasDone b.run o d (Operation (Unload next)) → (after.session ≡ Offline 0 Both → holders ≡ k ∷ []) → (q : IsLatched drive t k b d session)
        → Contains opens (opening k q.name)
        → (reply ≡ Done 1) ×
        (after ≡ session_view (one_drive drive (blanks drive q.others) (volume_slots drive t ++ slot q.name (Some (kept_reel (attempt_written b.run b.payload d) drive.capacity)) ∷ [])) (Offline 0 Both))
        → Leads drive (then_stock t after.library holders opens) (attempt_on k b (noted (Op MTOFFL 1) reply d) after.session) old (Operation (Unload next)) reply
    unload_leads next reply after holders opens h held q among (replies, is_after) =
        let off : after.session ≡ Offline 0 Both = ap (λ (v : SessionView). v.session) is_after in
        let mine = held off in
        let written : attempt_written b.run b.payload d ≡ whole_volume b.run b.payload d.volume d.first d.blocks = grind arith in
        let shelved = ap (λ l. one_drive drive (blanks drive q.others) (volume_slots drive t ++ slot q.name (Some (kept_reel l drive.capacity)) ∷ [])) written in
        grind arith

its_label : (old : Standing) (b : Begun) (d : AttemptState) → b.run ≡ old.run → d.volume ≡ (checkpoint_of old.counts).0 → d.first ≡ (checkpoint_of old.counts).1 → IsLawful old
    → length (label b.run d.volume d.first) ≡ label_bytes
its_label old b d run volume first lawful = grind (arith, few_volumes, label_short, length-append, length-replicate)

-- the openings once the request was carried out
abbrev pub opens_then : Stock → ℕ → PlainRequest → TapeLibrary → PlainSession → List Opening
opens_then t k request library session = t.opens ++ option_to_list (option_map (opening k) (opened_reel request library session))

-- and where reels are then
abbrev pub stock_then : Stock → ℕ → PlainRequest → TapeLibrary → PlainSession → List ℕ → Stock
stock_then t k request library session holders = then_stock t library holders (opens_then t k request library session)

-- A request that the only drive serves, and where its reply leads.
module _ (drive : PlainDriveSpec) (t : Stock) (k : ℕ) (c : WorldClient) (b : Begun) (d : AttemptState) (s : ServerConnection) (reply : PlainReply) (library : TapeLibrary) (session : PlainSession)
    (holders : List ℕ) where
  abbrev Served : PlainRequest → Type 0
  Served request = TroubledServe NoTrouble t.holders k (session_view t.library s.session) request reply (session_view library session) holders

  -- the request of one whose reel is in the drive
  latched_step : (request : PlainRequest) → IsLatched drive t k b d s.session → Served request
      → TroubledServeStep NoTrouble t.holders (session_view t.library (Online 0 Both (plain_reel (tape (attempt_written b.run b.payload d) []) drive.capacity))) request reply
      (session_view library session)
  latched_step request q served = grind arith

  pub step_leads : (begun : List Begun) (step : Step) → IsLawful c.at → IsGood b → IsAttempt begun c d step b → HasDone b.run (Some s) d step → StandsBefore step drive t k b d s.session
      → Served (request_in b d step)
      → Leads drive (stock_then t k (request_in b d step) library session holders) (attempt_on k b (noted (request_in b d step) reply d) session) c.at step reply
  step_leads begun Open lawful good a done (free, idle) served =
      let r = serve_open drive (names_left drive t) (volume_slots drive t) b.run.device reply (session_view library session) (grind arith) in
      elim r [
        | inl q ↦ (
            let named : opened_reel (OpenDevice b.run.device 2) library session ≡ Some q.name
            = ap (written_reel library) q.session ∙ ap (λ (x : TapeLibrary). Some (first_name (drive_at x 0).stack)) q.library in
            let more = ap (λ o. t.opens ++ option_to_list (option_map (opening k) o)) named in
            let mine : holders ≡ k ∷ [] = grind arith in
            opened_leads drive t k c.at b d b.run.device (Some s) reply (session_view library session) holders (opens_then t k (OpenDevice b.run.device 2) library session) done mine q
            (subst (λ l. Contains l (opening k q.name)) (sym more) (Contains-push t.opens (opening k q.name))))
        | inr q ↦ grind arith
      ]
  step_leads begun (Operation Rewind) lawful good a done q served = grind (arith, Contains-append_left)
  step_leads begun Look lawful good a done q served = grind (arith, Contains-append_left, no_label)
  step_leads begun (Operation RewindAgain) lawful good a done q served = grind (arith, Contains-append_left)
  step_leads begun Label lawful good a done q served =
      let bytes = label b.run d.volume d.first in
      let size = its_label c.at b d a.run a.volume a.first lawful in
      let r = serve_write t.library drive.capacity (attempt_written b.run b.payload d) bytes reply t.holders (session_view library session) (omega (arith, size)) (omega (arith, size))
      (latched_step (Write bytes) q served) in
      grind (arith, Contains-append_left)
  step_leads begun (Block number) lawful good a done q served =
      let bytes = get_or b.payload number [] in
      let size = good.whole number done.blocks.1 in
      let limits = good.run.block_bytes in
      let r = serve_write t.library drive.capacity (attempt_written b.run b.payload d) bytes reply t.holders (session_view library session) (omega (arith, size, limits.0)) (omega (arith, size, limits.1))
      (latched_step (Write bytes) q served) in
      block_leads drive t k c.at b d (Some s) s.session number reply (session_view library session) holders (opens_then t k (Write bytes) library session) done
      (grind arith) q (Contains-append_left t.opens [] (opening k q.name) q.opened) good.run a.run a.first size (its_label c.at b d a.run a.volume a.first lawful) r
  step_leads begun (Operation (Mark next)) lawful good a done q served =
      let room = q.room done.label done.mark in
      grind (arith, append-nil, Contains-append_left)
  step_leads begun (Operation (Unload next)) lawful good a done q served =
      unload_leads drive t k c.at b d (Some s) s.session next reply (session_view library session) holders (opens_then t k (Op MTOFFL 1) library session) done
      (λ off. (let now = ap drive_in off in grind arith)) q (Contains-append_left t.opens [] (opening k q.name) q.opened)
      (serve_unload drive (blanks drive q.others) (volume_slots drive t) q.name (attempt_written b.run b.payload d) reply t.holders (session_view library session) (grind arith))
  step_leads begun Close lawful good a done q served = grind arith

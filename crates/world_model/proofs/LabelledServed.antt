-- A write of an attempt's own session: it is accepted, or it changes nothing, or a device fault is answered.
-- The entries that an attempt wrote are on its reel after a request of its own was carried out.
use Rattle.world_model.proofs.Basics.{◌≡◌, ℕ, suc, true, false, List, [], ◌∷◌, ◌++◌, length, Some, None, refl, ap, subst, inl, inr, arith, ◌+◌, ◌^◌, ◌<◌, get_or, option_map, sym, ◌∙◌, option_to_list, append-nil}
use Rattle.world_model.proofs.Terms.{PlainRequest, Write, Op, PlainReply, PlainEntry, Tape, tape, MTWEOF, Record, Trouble, Both, PlainReel, SessionView, Online, TroubledServeStep, AttemptState, accepted, is_marked, raised, entries_of, TapeLibrary, drive_at, EachReelOnce, side, plain_reel, session_view, PlainRun, label, steps_before, Step, Operation, Label, Block, Close, MarkTape, Unload, World, Connection, Begun, numbered, side_of, first_name, opening, opened_reel, noted, AreHeld, AreLaid, block_records, AreOpened, HasDone, request_in, IsGood, AreTold, attempt_written, IsAlone, IsReelWritten, IsLabelled, AreLabelled, IsSingle, AreSingle}
use Rattle.tape.specs.Tape.PlainEntry.{Mark}
use Rattle.world_model.proofs.Ground.{IsLeftWith, among_at, sits_here, before_length, raised_one, OneReading, DroppedWrites, noted_same, on_by_one, block_accepted, Turn, turned, blocks_more}
use Rattle.world_model.proofs.LabelledSingle.{asked_step, drive_reel, IsServed, served_dump, served_step, marked_stands}
use Rattle.world_model.proofs.LabelledOthers.{others_labelled}
use Rattle.world_model.proofs.Opened.{writings_after}
use Rattle.world_model.proofs.LabelledNames.{stands_one}

-- The outcome of a write of this entry, for the attempt `d` that is `e` where it is accepted: the entry is at the place, with nothing
-- after it; or nothing was changed, nor noted; or a device fault was noted.
pub data Puts (before after : SessionView) (drive : ℕ) (reel : PlainReel) (x : PlainEntry) (d e noted : AttemptState) : Type 0 where
  puts : noted ≡ on_by_one e → IsLeftWith before after drive reel (tape (reel.tape.before ++ x ∷ []) []) → Puts before after drive reel x d e noted
  keeps : noted ≡ on_by_one d → IsLeftWith before after drive reel reel.tape → Puts before after drive reel x d e noted
  fails : noted.fault ≡ true → Puts before after drive reel x d e noted

module _ (trouble : Trouble) (holders : List ℕ) (before : SessionView) (reply : PlainReply) (after : SessionView) (drive : ℕ) (reel : PlainReel) (d : AttemptState)
    (was : before.session ≡ Online drive Both reel) where
  pub write_puts : (bytes : List ℕ) → TroubledServeStep trouble holders before (Write bytes) reply after
      → Puts before after drive reel (Record bytes) d (accepted d) (noted (Write bytes) reply d)
  write_puts bytes step = grind arith

  pub mark_puts : TroubledServeStep trouble holders before (Op MTWEOF 1) reply after
      → Puts before after drive reel Mark d (record d { mark = true }) (noted (Op MTWEOF 1) reply d)
  mark_puts step = grind arith

-- a block more, and the mark
block_written : (run : PlainRun) (payload : List (List ℕ)) (d : AttemptState) (number : ℕ) → d.label ≡ true → d.mark ≡ false → number ≡ d.first + d.blocks → d.blocks + 1 < 2 ^ 64
    → attempt_written run payload d ++ Record (get_or payload number []) ∷ [] ≡ attempt_written run payload (record d { blocks = raised d.blocks })
block_written run payload d number labelled unmarked at few =
    let name = Record (label run d.volume d.first) in
    let blocks = block_records payload d.first d.blocks in
    let one : raised d.blocks ≡ suc d.blocks = (let more = raised_one d.blocks few in omega (arith, more)) in
    grind (arith, append-nil, blocks_more)

-- the request of a write that was accepted, or was not
abbrev pub IsNow : (w : World) (v : Turn w) → Begun → AttemptState → PlainRequest → Type 0
IsNow w v b d request =
    (noted request v.reply d).label ≡ true → (reel : List ℕ) → (noted request v.reply d).fault ≡ false → IsAlone w v.k reel → IsReelWritten (turned w v) v.k b (noted request v.reply d) reel

-- An attempt whose own request is carried out.
module _ (w : World) (v : Turn w) (held : AreHeld w.server) (held_after : AreHeld (turned w v).server) (laid_after : AreLaid (turned w v).server)
    (once_after : EachReelOnce (turned w v).server.library) (opened : AreOpened w) (l : Connection) (d : AttemptState) (p : IsServed w v l d) (good : IsGood p.b)
    (single : IsSingle w.opens v.k d) (labelled : IsLabelled w v.k d) where
  -- an open comes before the label, and no other request changes the openings
  alone_was : (name : List ℕ) → (noted v.request v.reply d).label ≡ true → IsAlone (turned w v) v.k name → IsAlone w v.k name
  alone_was name taken (i, at, alone) =
      let none : opened_reel v.request v.library v.session ≡ None = grind arith in
      let same : (turned w v).opens ≡ w.opens = ap (λ o. w.opens ++ option_to_list (option_map (opening v.k) o)) none ∙ append-nil w.opens in
      (i, ap (λ os. numbered os i) (sym same) ∙ at, λ x among. alone x (writings_after w v x among))

  -- the reel in the drive is that of the attempt's last opening
  its_name : (drive : ℕ) (reel : PlainReel) (name : List ℕ) → v.s.session ≡ Online drive Both reel → IsAlone w v.k name
      → first_name (drive_at w.server.library drive).stack ≡ name
  its_name drive reel name online last = drive_reel w v d drive reel name opened single online (among_at w.opens last.0 (opening v.k name) last.1)

  -- what was written stands on the tape of the session
  now_written : (e : AttemptState) (drive : ℕ) (reel : PlainReel) (name : List ℕ) (t : Tape) → v.s.session ≡ Online drive Both reel
      → IsAlone w v.k name → IsLeftWith (session_view w.server.library v.s.session) (session_view v.library v.session) drive reel t
      → entries_of t ≡ attempt_written p.b.run p.b.payload e → t.after ≡ [] → IsReelWritten (turned w v) v.k p.b e name
  now_written e drive reel name t online last left same none =
      let here : side_of (turned w v).server v.k ≡ Some (side v.reached v.session)
      = sits_here w.server v.k v.s (Some (side v.reached v.session)) (turned w v).server record { was = v.live; sides = refl } in
      let named : first_name (drive_at (turned w v).server.library drive).stack ≡ name
      = ap (λ (s : TapeLibrary). first_name (drive_at s drive).stack) left.library ∙ its_name drive reel name online last in
      record {
        stands = λ entries on.
            stands_one (turned w v).server v.k (side v.reached v.session) drive Both
            (plain_reel t reel.capacity) name entries here left.session named held_after laid_after once_after on
            ∙ same;
        behind = grind arith;
      }

  -- what was written before, while the attempt is quiet
  was_written : d.label ≡ true → d.fault ≡ false → (reel : List ℕ) → IsAlone w v.k reel → IsReelWritten w v.k p.b d reel
  was_written taken fault reel last = grind arith

  -- it is on the tape of the session, with nothing after it
  was_there : (drive : ℕ) (reel : PlainReel) (name : List ℕ) → v.s.session ≡ Online drive Both reel → IsAlone w v.k name → d.label ≡ true → d.fault ≡ false
      → d.mark ≡ false
      → (entries_of reel.tape ≡ attempt_written p.b.run p.b.payload d) × (reel.tape.after ≡ [])
  was_there drive reel name online last taken fault unmarked =
      let was = was_written taken fault name last in (
        was.stands (entries_of reel.tape) (inr (v.k, v.s, v.live, (drive, Both, reel, online, its_name drive reel name online last, refl))),
        was.behind v.s reel v.live (drive, online) (λ marked. (let clash = sym unmarked ∙ marked in absurd cc)),
      )

  -- a write
  own_put : (drive : ℕ) (reel : PlainReel) (x : PlainEntry) (step : Step) (e : AttemptState) → v.s.session ≡ Online drive Both reel → HasDone p.b.run (Some v.s) d step
      → is_marked step ≡ false
      → ((name : List ℕ) → IsAlone w v.k name → reel.tape.before ++ x ∷ [] ≡ attempt_written p.b.run p.b.payload e)
      → Puts (session_view w.server.library v.s.session) (session_view v.library v.session) drive reel x d e (noted (request_in p.b d step) v.reply d)
      → IsNow w v p.b d (request_in p.b d step)
  own_put drive reel x step e online done before written (puts is left) taken name quiet last =
      subst (λ z. IsReelWritten (turned w v) v.k p.b z name) (sym is)
      (now_written (on_by_one e) drive reel name (tape (reel.tape.before ++ x ∷ []) []) online last left
      (append-nil (reel.tape.before ++ x ∷ []) ∙ written name last) refl)
  own_put drive reel x step e online done before written (keeps is left) taken name quiet last =
      let was = was_there drive reel name online last (sym (ap (λ (z : AttemptState). z.label) is) ∙ taken) done.fault (done.mark ∙ before) in
      subst (λ z. IsReelWritten (turned w v) v.k p.b z name) (sym is) (now_written (on_by_one d) drive reel name reel.tape online last left was.0 was.1)
  own_put drive reel x step e online done before written (fails fault) taken name quiet last = (let clash = sym fault ∙ quiet in absurd cc)

  -- after the mark nothing is written, and more was carried out than up to it
  own_marked : d.label ≡ true → d.fault ≡ false → d.mark ≡ true
      → length (steps_before p.b.run d.first (d.first + d.blocks) (Operation (Unload (d.first + d.blocks)))) < raised d.carried
      → (name : List ℕ) → IsAlone w v.k name → IsReelWritten (turned w v) v.k p.b (on_by_one d) name
  own_marked taken fault marked more name last = record {
    stands = marked_stands w v l d p marked held held_after p.b name (was_written taken fault name last);
    behind = λ s r at online before. absurd (omega (arith, before marked, more));
  }

  now_by : (step : Step) → HasDone p.b.run (Some v.s) d step → v.request ≡ request_in p.b d step → IsNow w v p.b d (request_in p.b d step)
  now_by Label done asks =
      let (reel, (drive, online), first) = done.stands v.s refl in
      own_put drive reel (Record (label p.b.run d.volume d.first)) Label (accepted d) online done refl (λ name last. (grind (arith, append-nil)))
      (write_puts v.trouble w.server.holders (session_view w.server.library v.s.session) v.reply (session_view v.library v.session) drive reel d online
      (label p.b.run d.volume d.first) (asked_step w v _ asks))
  now_by (Block number) done asks =
      let (reel, (drive, online)) = done.stands v.s refl in
      let few : d.blocks + 1 < 2 ^ 64 = (let at = done.blocks.0 in let within = done.blocks.1 in let limit = good.run.blocks in omega (arith, at, within, limit)) in
      own_put drive reel (Record (get_or p.b.payload number [])) (Block number) (accepted d) online done refl
      (λ name last. (
      let was = was_there drive reel name online last done.label done.fault done.mark in
      let all = block_written p.b.run p.b.payload d number done.label done.mark done.blocks.0 few in grind (arith, append-nil, block_accepted)))
      (write_puts v.trouble w.server.holders (session_view w.server.library v.s.session) v.reply (session_view v.library v.session) drive reel d online
      (get_or p.b.payload number []) (asked_step w v _ asks))
  now_by (Operation (MarkTape next)) done asks =
      let (reel, (drive, online)) = done.stands v.s refl in
      own_put drive reel Mark (Operation (MarkTape next)) (record d { mark = true }) online done refl
      (λ name last. (let was = was_there drive reel name online last done.label done.fault done.mark in grind (arith, append-nil)))
      (mark_puts v.trouble w.server.holders (session_view w.server.library v.s.session) v.reply (session_view v.library v.session) drive reel d online
      (asked_step w v _ asks))
  now_by (Operation (Unload next)) done asks = grind (arith, own_marked, raised_one)
  now_by Close done asks = λ taken name quiet last. (
      own_marked done.label done.fault done.mark (omega (
        arith,
        raised_one d.carried p.few,
        done.carried,
        before_length p.b.run d.first (d.first + d.blocks) Close,
        before_length p.b.run d.first (d.first + d.blocks) (Operation (Unload (d.first + d.blocks))),
      )) name last)
  now_by step done asks = λ taken name quiet last. (grind arith)

  -- a request of its own
  own_labelled : IsLabelled (turned w v) v.k (noted v.request v.reply d)
  own_labelled taken = grind (arith, noted_same, now_by, alone_was)

pub served_labelled : OneReading → DroppedWrites → (w : World) (v : Turn w) → AreHeld w.server → AreHeld (turned w v).server → AreLaid (turned w v).server → EachReelOnce (turned w v).server.library → AreTold w → AreOpened w
    → AreSingle w → AreLabelled w → AreLabelled (turned w v)
served_labelled g h w v held held_after laid_after once_after told opened single labelled j l d at dump = elim (served_dump w v j l d at dump) [
  | inl (same, (x, e, was, its, new)) ↦
      let p = served_step g h w v told x e was its in
      subst (λ i. IsLabelled (turned w v) i d) (sym same)
      (subst (IsLabelled (turned w v) v.k) (sym new)
      (own_labelled w v held held_after laid_after once_after opened x e p (told.good e.run p.b p.begun) (single v.k x e was its) (labelled v.k x e was its)))
  | inr (other, was) ↦ others_labelled w v j d other held held_after (labelled j l d was dump)
]

-- The outcome of bytes does not depend on how they are cut. A fault of bytes is a fault of all bytes that begin with them.
use Rattle.dump_client.specs.declared.stage.Progress.TheVariants as moved
use Rattle.dump_client.proofs.Attempt.{◌≡◌, ◌⊎◌, inl, inr, ℕ, List, [], ◌∷◌, ◌++◌, Some, Err, refl, sym, ap, subst, ◌∙◌, append_assoc, ◌≢◌, true, false, Option, None, Result, Ok, arith, Wanted, ReplyParsesAs, unanswered, is_more, wanted_of, outcome}
use Rattle.dump_client.proofs.Attempt.{counted_to, Becomes, ReceivesAt, Makes, FedAt, PlainReply, WireFault, VolumeCount, Reply, Noise, Standing, standing, checkpoint_of, Step, Close, Outcome, GoesOn, Counted, Stage, ToSend, Waiting, Asking, Progress}
use Rattle.dump_client.proofs.Attempt.{Botched}
use Rattle.dump_client.proofs.Outcomes.{IsBefore, reply_before, NotClose}

-- of two beginnings of one text, one begins the other
abbrev Begins : List ℕ → List ℕ → Type 0
Begins p q = (t : List ℕ) × (q ≡ p ++ t)

two_fronts : (p q r s : List ℕ) → p ++ r ≡ q ++ s → Begins q p ⊎ Begins p q
two_fronts [] q r s e = inr (q, refl)
two_fronts (a ∷ p) [] r s e = inl (a ∷ p, refl)
two_fronts (a ∷ p) (b ∷ q) r s e = elim (two_fronts p q r s (cc)) [ inl w ↦ inl (w.0, grind (arith, e, w.1)) | inr w ↦ inr (w.0, grind (arith, e, w.1)) ]

-- Bytes that begin no reply begin none with more bytes after them: a reply would end within the bytes, or begin with a hopeless text.
pub stays_faulty : (wanted : Wanted) (bytes more rest : List ℕ) (fault : WireFault) → ReplyParsesAs (Some wanted) bytes (Err fault) rest → ReplyParsesAs (Some wanted) (bytes ++ more) (Err fault) (bytes ++ more)
stays_faulty wanted bytes more rest fault (f, none, left) = (
  record {
    seen = f.seen;
    byte = f.byte;
    later = f.later ++ more;
    split = ap (λ t. t ++ more) f.split ∙ append_assoc f.seen (f.byte ∷ f.later) more;
    open_before = f.open_before;
    hopeless = f.hopeless;
    cause = f.cause;
  },
  λ text rest reply e s. elim (two_fronts text front rest (f.later ++ more) (sym e ∙ ap (λ t. t ++ more) whole ∙ append_assoc front f.later more)) [
    | inl w ↦ f.hopeless (w.0, reply, rw w.1 at s)
    | inr w ↦ none text (w.0 ++ f.later) reply (whole ∙ ap (λ t. t ++ f.later) w.1 ∙ append_assoc text w.0 f.later) s
  ],
  refl,
)
  where
    -- what was seen, and the byte after which no reply is possible
    front : List ℕ
    front = f.seen ++ f.byte ∷ []

    whole : bytes ≡ front ++ f.later
    whole = f.split ∙ sym (append_assoc f.seen (f.byte ∷ []) f.later)

-- a further piece is fed, where these bytes were fed since the request
abbrev IsFed : List ℕ → List ℕ → Progress → Standing → Standing → Type 0
IsFed bytes q later new middle = FedAt middle.stage middle (unanswered middle.stage bytes) q later new

-- a reply with bytes after it ends the attempt, and a further piece changes nothing then
behind_more : (old : Standing) (o : Outcome) (bytes q : List ℕ) (first later : Progress) (middle new : Standing) → Becomes old o true first middle
    → IsFed bytes q later new middle → Becomes old o true first new
behind_more old o bytes q first later middle new h f = grind (arith, h, f)

-- and so does noise
behind_noise : (old : Standing) (step : Step) (bytes q : List ℕ) (first later : Progress) (middle new : Standing)
    → ReceivesAt old step Noise false first middle → IsFed bytes q later new middle
    → ReceivesAt old step Noise false first new
behind_noise old step bytes q first later middle new h f = grind (arith, h, f)

-- what comes of a reply, once this was fed after it
abbrev Comes : Standing → Outcome → List ℕ → Standing → Type 0
Comes old o rest new = (whole : Progress) × Becomes old o (is_more rest) whole new

-- the next request is to be sent, and then this came
behind_send : (old : Standing) (o : Outcome) (counts : List VolumeCount) (step : Step) (q : List ℕ) (later : Progress) (new : Standing)
    → Becomes old o false moved.Send (standing old.run counts (ToSend step))
    → (ReceivesAt (standing old.run counts (ToSend step)) step Noise false later new → Becomes old o true later new)
    → FedAt (ToSend step) (standing old.run counts (ToSend step)) [] q later new → Comes old o q new
behind_send old o counts step [] later new sends fails (inl h) = (moved.Send, rw h.2 sends)
behind_send old o counts step [] later new sends fails (inr h) = absurd (h.0 refl)
behind_send old o counts step (b ∷ q) later new sends fails (inl h) = absurd (cc h.0)
behind_send old o counts step (b ∷ q) later new sends fails (inr h) = (later, fails h.1)

behind_last : (old : Standing) (o : Outcome) (bytes q : List ℕ) (first later : Progress) (middle new : Standing) → IsBefore o
    → Becomes old o false first middle → IsFed bytes q later new middle
    → Comes old o q new
behind_last old (GoesOn step) bytes q first later middle new before h f =
    behind_send old (GoesOn step) old.counts step q later new (refl, refl) (λ fails. grind (arith, before, fails))
    (rw h.1 at f)
behind_last old (Counted next) bytes q first later middle new before h f =
    behind_send old (Counted next) (counted_to old.counts next) Close q later new (refl, refl) (λ closes. closes) (rw h.1 at f)
behind_last old o bytes q first later middle new before h f = (first, behind_more old o bytes q first later middle new h f)

behind_reply : (old : Standing) (o : Outcome) (rest bytes q : List ℕ) (first later : Progress) (middle new : Standing) → IsBefore o
    → Becomes old o (is_more rest) first middle → IsFed bytes q later new middle
    → Comes old o (rest ++ q) new
behind_reply old o [] bytes q first later middle new before h f = behind_last old o bytes q first later middle new before h f
behind_reply old o (b ∷ rest) bytes q first later middle new before h f = (first, behind_more old o bytes q first later middle new h f)

-- what comes of a piece
abbrev Fed : Stage → Standing → List ℕ → List ℕ → Standing → Type 0
Fed stage old bytes piece new = (whole : Progress) × FedAt stage old bytes piece whole new

-- if the first piece changed nothing, the further piece is fed in the same stage
idle : (stage : Stage) (old middle new : Standing) (bytes q : List ℕ) (later : Progress) → old.stage ≡ stage → middle ≡ old → IsFed bytes q later new middle
    → FedAt stage old (unanswered stage bytes) q later new
idle stage old middle new bytes q later at same f = subst (λ s. FedAt s old (unanswered s bytes) q later new) at (subst (IsFed bytes q later new) same f)

waited : (old middle new : Standing) (step : Step) (bytes p q rest : List ℕ) (seen : Result (Option PlainReply) WireFault) (first later : Progress)
    → old.stage ≡ Waiting step
    → ReplyParsesAs (Some (wanted_of step)) (bytes ++ p) seen rest → Makes old step (bytes ++ p) seen rest first middle
    → IsFed (bytes ++ p) q later new middle → Fed (Waiting step) old bytes (p ++ q) new
waited old middle new step bytes p q rest (Ok None) first later at g m f =
    (later, rw append_assoc at (idle (Waiting step) old middle new (bytes ++ p) q later at m.1 f))
waited old middle new step bytes p q rest (Ok (Some reply)) first later at g m f =
    let w = behind_reply old (outcome old.run old.counts (checkpoint_of old.counts).1 step (Reply reply)) rest (bytes ++ p) q first later middle new
    (reply_before old.run old.counts (checkpoint_of old.counts).1 step reply) m f in
    let whole : bytes ++ (p ++ q) ≡ g.0 ++ (rest ++ q) = sym (append_assoc bytes p q) ∙ ap (λ l. l ++ q) g.2 ∙ append_assoc g.0 rest q in
    (w.0, (Ok (Some reply), rest ++ q, (g.0, g.1, whole), w.1))
waited old middle new step bytes p q rest (Err fault) first later at g m f = (
  first,
  (
    Err fault,
    bytes ++ (p ++ q),
    subst (λ l. ReplyParsesAs (Some (wanted_of step)) l (Err fault) l) (append_assoc bytes p q) (stays_faulty (wanted_of step) (bytes ++ p) q rest fault g),
    behind_noise old step (bytes ++ p) q first later middle new m f,
  ),
)

some_front : (p q : List ℕ) → p ≢ [] → p ++ q ≢ []
some_front [] q some = absurd (some refl)
some_front (b ∷ p) q some = λ e. absurd (cc)

-- before a request is sent, any bytes fail the attempt
sent : (old middle new : Standing) (step : Step) (bytes p q : List ℕ) (first later : Progress) → old.stage ≡ ToSend step
    → FedAt (ToSend step) old bytes p first middle
    → IsFed (bytes ++ p) q later new middle → Fed (ToSend step) old bytes (p ++ q) new
sent old middle new step bytes p q first later at (inl h) f =
    (later, rw h.0 (idle (ToSend step) old middle new (bytes ++ p) q later at h.2 f))
sent old middle new step bytes p q first later at (inr h) f = (first, inr (some_front p q h.0, behind_noise old step (bytes ++ p) q first later middle new h.1 f))

fed_at : (stage : Stage) (old middle new : Standing) (bytes p q : List ℕ) (first later : Progress) → old.stage ≡ stage
    → FedAt stage old bytes p first middle → IsFed (bytes ++ p) q later new middle
    → Fed stage old bytes (p ++ q) new
fed_at (ToSend step) old middle new bytes p q first later at h f = sent old middle new step bytes p q first later at h f
fed_at (Waiting step) old middle new bytes p q first later at h f = waited old middle new step bytes p q h.1 h.0 first later at h.2 h.3 f
fed_at stage old middle new bytes p q first later at h f = (later, idle stage old middle new (bytes ++ p) q later at h.1 f)

-- two pieces do what both do as one
pub fed_in_pieces : (old middle new : Standing) (bytes p q : List ℕ) (first later : Progress) → FedAt old.stage old bytes p first middle
    → FedAt middle.stage middle (unanswered middle.stage (bytes ++ p)) q later new → (whole : Progress) × FedAt old.stage old bytes (p ++ q) whole new
fed_in_pieces old middle new bytes p q first later h f = fed_at old.stage old middle new bytes p q first later refl h f

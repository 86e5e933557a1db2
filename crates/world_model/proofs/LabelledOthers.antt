-- What an attempt wrote stands on its reel, whatever happens but a request of its own.
use Rattle.world_model.proofs.Basics.{◌≡◌, ◌≢◌, ℕ, List, length, Contains, Some, refl, sym, ap, subst, ◌∙◌, inl, inr, arith}
use Rattle.world_model.proofs.Terms.{PlainEntry, ServerConnection, side, PlainReel, World, AttemptState, Begun, numbered, side_of, opening, writing, online_drive_in, AreHeld, IsOnlineWith, ReelHolds, IsAlone, IsLabelled, AreLabelled}
use Rattle.world_model.proofs.Ground.{numbered_within, sits_other, Turn, turned}
use Rattle.world_model.proofs.LabelledEvents.{served_stands, SameNotes, same_notes, IsFresh, Quietly}
use Rattle.world_model.proofs.LabelledSingle.{like_back, placed_before}
use Rattle.world_model.proofs.Opened.{writing_there, writings_after}

-- the openings, what stood on the reel and the sides stay for this attempt
still_labelled : (w u : World) (k : ℕ) (d e : AttemptState) → SameNotes d e → ((n : ℕ) (b : Begun) → numbered w.begun n ≡ Some b → numbered u.begun n ≡ Some b)
    → ((reel : List ℕ) → IsAlone u k reel → IsAlone w k reel × ((entries : List PlainEntry) → ReelHolds u.server reel entries → ReelHolds w.server reel entries))
    → ((s : ServerConnection) (r : PlainReel) → side_of u.server k ≡ Some s → IsOnlineWith s.session r
    → (x : ServerConnection) × (side_of w.server k ≡ Some x) × (s.session ≡ x.session))
    → IsLabelled w k d → IsLabelled u k e
still_labelled w u k d e s begun stands sides labelled label =
    let a = labelled (sym s.label ∙ label) in (
      a.0,
      ap (numbered u.begun) s.run ∙ begun d.run a.0 a.1,
      λ reel (fault, last).
          (let (before, stood) = stands reel last in
          let was = a.2 reel (sym s.fault ∙ fault, before) in
          record {
            stands = λ entries on. was.stands entries (stood entries on) ∙ (grind arith);
            behind = λ y r at on before. (let x = sides y r at on in was.behind x.0 r x.1 (subst (λ z. IsOnlineWith z r) x.2 on) ((grind arith)));
          }),
    )

-- the same openings and writings
alone_back : (w u : World) → Quietly w u → (k : ℕ) (reel : List ℕ) → IsAlone u k reel → IsAlone w k reel
alone_back w u q k reel (i, at, alone) =
    (i, ap (λ os. numbered os i) (sym q.opens) ∙ at, λ x among. alone x (subst (λ xs. Contains xs x) (sym q.writings) among))

pub quiet_labelled : (w u : World) → Quietly w u → AreLabelled w → AreLabelled u
quiet_labelled w u q labelled k l d at dump = elim (q.connections.at k l at) [
  | inl (x, was, like) ↦
      let e = like_back x.dump l.dump d like dump in
      still_labelled w u k e.0 d e.2 q.begun (λ reel last. (alone_back w u q k reel last, q.stands reel)) (λ s r here on. q.sides k on.0 s here (ap online_drive_in on.1))
      (labelled k x e.0 was e.1)
  | inr (new, fresh) ↦ λ label. (let f = subst IsFresh dump fresh in let clash = sym f.0 ∙ label in absurd cc)
]

-- a request of another connection
pub others_labelled : (w : World) (v : Turn w) (j : ℕ) (d : AttemptState) → j ≢ v.k → AreHeld w.server → AreHeld (turned w v).server → IsLabelled w j d
    → IsLabelled (turned w v) j d
others_labelled w v j d other a b labelled =
    still_labelled w (turned w v) j d d (same_notes d) (λ n begun at. at)
    (λ reel (i, now, alone).
    (let at = placed_before w v j other i (opening j reel) now refl in (
      (i, at, λ x among. alone x (writings_after w v x among)),
      λ entries on. elim (served_stands w v a b reel entries on) [
        | inl before ↦ before
        | inr wrote ↦ absurd (other (sym (alone (writing v.k (length w.opens) reel) (writing_there w v reel wrote) refl (numbered_within w.opens i (opening j reel) at))))
      ],
    )))
    (λ s r here on. (
      s,
      sym
          (sits_other w.server v.k j v.s (Some (side v.reached v.session)) (turned w v).server record { was = v.live; sides = refl } other) ∙ here,
      refl,
    )) labelled

-- Connections of which a side is over are cut, and lose what is on the way, whatever happens.
use Rattle.world_model.proofs.Basics.{◌≡◌, ◌≢◌, ℕ, zero, suc, true, false, [], ◌∷◌, ◌++◌, length, map, drop, Option, Some, None, refl, sym, ap, subst, ◌∙◌, inl, inr, arith, option_and_then, length-map, length-append}
use Rattle.world_model.proofs.Terms.{ServerState, ServerConnection, side, World, Connection, AttemptState, numbered, changed, side_of, new_connection, with_side, without_peer, without_server, ended_from, all_ended, answered, sent_connection, next_text, IsTidy, AreTidy}
use Rattle.world_model.proofs.Moves.{talked, Move, connects, asks, fails, reaches, serves, ends, restarts, cuts, talks, hears, hears_last, sees, gives_up, joins, moved}
use Rattle.world_model.proofs.Numbers.{map_at, with_other, length_with, changed_is, length_changed, pushed_is, numbered_more, numbered_last, numbered_within, numbered_there, numbered_first}
use Rattle.world_model.proofs.Sides.{Sits, sits_here, sits_other}

-- one connection is changed, and the side beside it
each_tidy : (f : Connection → Connection) (w u : World) (k : ℕ) → length u.server.sides ≡ length w.server.sides
    → ((j : ℕ) → j ≢ k → side_of u.server j ≡ side_of w.server j)
    → u.connections ≡ changed f w.connections k → ((l : Connection) → IsTidy (side_of w.server k) l → IsTidy (side_of u.server k) (f l)) → AreTidy w → AreTidy u
each_tidy f w u k sides beside connections keeps t = record {
  paired = sides ∙ t.paired ∙ sym (ap length connections ∙ length_changed f w.connections k);
  each = λ j l at. elim (changed_is f w.connections k j l (ap (λ ls. numbered ls j) (sym connections) ∙ at)) [
    | inl (same, (x, was, new)) ↦ subst (λ i. IsTidy (side_of u.server i) l) (sym same) (subst (IsTidy (side_of u.server k)) (sym new) (keeps x (t.each k x was)))
    | inr (other, on) ↦ subst (λ s. IsTidy s l) (sym (beside j other)) (t.each j l on)
  ];
}

-- a connection beside a side that is live
live_tidy : (s : ServerConnection) (l : Connection) → (l.other ≡ false → l.cut ≡ true) → IsTidy (Some s) l
live_tidy s l there = record { here = λ e. absurd cc; there = there; nothing = λ e. absurd cc }

-- a live side is another
side_tidy : (f : Connection → Connection) → ((l : Connection) → (l.other ≡ false → l.cut ≡ true) → (f l).other ≡ false → (f l).cut ≡ true)
    → (w u : World) (k : ℕ) (s x : ServerConnection)
    → Sits w.server k s (Some x) u.server → u.connections ≡ changed f w.connections k → AreTidy w → AreTidy u
side_tidy f keeps w u k s x sits connections t =
    each_tidy f w u k (ap length sits.sides ∙ length_with w.server.sides k (Some x)) (λ j other. sits_other w.server k j s (Some x) u.server sits other) connections
    (λ l its. subst (λ o. IsTidy o (f l)) (sym (sits_here w.server k s (Some x) u.server sits)) (live_tidy x (f l) (keeps l its.there))) t

-- one of which the server's side is over
over_here_tidy : (s : Option ServerConnection) (l : Connection) → IsTidy s (without_server l)
over_here_tidy s l = record { here = λ e. refl; there = λ e. refl; nothing = λ e. refl }

-- a side that was ended, and all others
ended_length : (h : ServerState) (k : ℕ) (o : Option ServerConnection) → length (ended_from h k o).sides ≡ length h.sides
ended_length h k o = grind (arith, length_with)

ended_other : (h : ServerState) (k j : ℕ) (o : Option ServerConnection) → ((j ≡ k) → ⊥) → numbered (ended_from h k o).sides j ≡ numbered h.sides j
ended_other h k j o other = grind (arith, with_other)

all_ended_length : (h : ServerState) (n : ℕ) → length (all_ended h n).sides ≡ length h.sides
all_ended_length h zero = refl
all_ended_length h (suc n) = ended_length (all_ended h n) (suc n) (side_of (all_ended h n) (suc n)) ∙ all_ended_length h n

restarted_tidy : (w u : World) → u.server.sides ≡ (all_ended w.server (length w.server.sides)).sides → u.connections ≡ map without_server w.connections → AreTidy w → AreTidy u
restarted_tidy w u sides connections t = grind (arith, all_ended_length, length-map, map_at, over_here_tidy)

-- a connection more
joined_tidy : (w u : World) (dump : Option AttemptState) → u.server.sides ≡ (with_side w.server).sides → u.connections ≡ w.connections ++ new_connection dump ∷ [] → AreTidy w → AreTidy u
joined_tidy w u dump sides connections t = record {
  paired = grind (arith, length-append);
  each = λ j l at. grind (arith, pushed_is, numbered_first, numbered_within, numbered_there, numbered_more, numbered_last, t.each j l, t.paired);
}

pub tidy_moved : (w : World) (m : Move w) → AreTidy w → AreTidy (moved w m)
tidy_moved w (connects c there ready) t = joined_tidy w _ _ refl refl t
tidy_moved w joins t = joined_tidy w _ None refl refl t
tidy_moved w (asks a) t = each_tidy (sent_connection (next_text a.c a.b.payload a.step)) w _ a.k refl (λ j other. refl) refl (grind arith) t
tidy_moved w (fails k n c reader there stage own) t = each_tidy without_peer w _ k refl (λ j other. refl) refl (grind arith) t
tidy_moved w (reaches k n s l reached live at grows) t =
    side_tidy (λ x. record x { toward = drop n x.toward }) (λ x there. there) w _ k s (side reached s.session) record { was = live; sides = refl } refl t
tidy_moved w (serves v) t = side_tidy (answered v.request v.reply) (λ l there. there) w _ v.k v.s (side v.reached v.session) record { was = v.live; sides = refl } refl t
tidy_moved w (ends k) t =
    each_tidy without_server w _ k (ended_length w.server k (side_of w.server k)) (λ j other. ap (option_and_then (λ s. s)) (ended_other w.server k j _ other)) refl
    (λ l its. over_here_tidy _ l) t
tidy_moved w restarts t = restarted_tidy w _ refl refl t
tidy_moved w (cuts k) t = each_tidy (λ l. record l { cut = true }) w _ k refl (λ j other. refl) refl (grind arith) t
tidy_moved w (talks k l a at none) t = each_tidy (talked a) w _ k refl (λ j other. refl) refl (grind arith) t
tidy_moved w (hears a on) t = each_tidy (λ l. record l { back = drop a.n l.back }) w _ a.k refl (λ j other. refl) refl (grind arith) t
tidy_moved w (hears_last a failure over) t = each_tidy without_peer w _ a.k refl (λ j other. refl) refl (grind arith) t
tidy_moved w (sees a failure) t = each_tidy without_peer w _ a.k refl (λ j other. refl) refl (grind arith) t
tidy_moved w (gives_up x k own) t = each_tidy without_peer w _ k refl (λ j other. refl) refl (grind arith) t
tidy_moved w m t = record { paired = t.paired; each = t.each }

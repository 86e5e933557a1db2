-- Whose connection is the client's own, whatever happens.
use Rattle.world_model.proofs.Basics.{◌≡◌, ℕ, suc, ◌+◌, true, false, IsTrue, List, [], ◌∷◌, ◌++◌, length, option_map, Option, Some, None, refl, sym, ap, subst, ◌∙◌, inl, inr, arith, same_Some}
use Rattle.world_model.proofs.Terms.{reply_held, AgreesWithProgress, Standing, standing, FedAt, CutAt, Progress, Stage, Ready, ToSend, Asking, Step, Open, World, Connection, AttemptState, WorldClient, numbered, changed, connection_of, new_connection, without_server, without_peer, answered, noted_sent, sent_connection, caller, next_text, client_connected, fresh, is_in_attempt, IsClients, IsOwned}
use Rattle.world_model.proofs.Moves.{Talking, says, drops, leaves, talked, talked_dump, is_over, Move, begins, connects, asks, fails, reaches, serves, ends, restarts, cuts, talks, hears, hears_last, sees, back_idle, forgets, gives_up, answers, joins}
use Rattle.world_model.proofs.Moves as move
use Rattle.world_model.proofs.Numbers.{changed_is, changed_there, map_at, at_map, pushed_is, numbered_more, numbered_last}

-- what calls of a client tell of where it stands
abbrev pub Standings : Type 0
Standings =
    ((old new : Standing) (bytes piece : List ℕ) (progress : Progress) → FedAt old.stage old bytes piece progress new → AgreesWithProgress old progress new)
    × ((old new : Standing) (progress : Progress) → CutAt old.stage old progress new → AgreesWithProgress old progress new)

-- the client is in an attempt
abbrev IsInAttempt : Option WorldClient → Type 0
IsInAttempt o = (c : WorldClient) × (o ≡ Some c) × IsTrue (is_in_attempt c.at.stage)

abbrev Attempts : World → Type 0
Attempts w = IsInAttempt w.caller

-- its own connection, its attempt and its connections are as before
owned_as : (w u : World) → u.own ≡ w.own → (Attempts w → Attempts u) → (Attempts u → Attempts w) → ((k : ℕ) → IsClients w k → IsClients u k)
    → ((k : ℕ) → IsClients u k → IsClients w k) → IsOwned w → IsOwned u
owned_as w u own on back to from o = record {
  own = λ k is. (let was = o.own k (sym own ∙ is) in (to k was.0, on was.1));
  attempt = λ c is inside. (let was = back (c, is, inside) in let it = o.attempt was.0 was.1 was.2 in (it.0, own ∙ it.1));
  only = λ k clients. own ∙ o.only k (from k clients);
}

-- there is none
owned_none : (u : World) → u.own ≡ None → (Attempts u → ⊥) → ((k : ℕ) → IsClients u k → ⊥) → IsOwned u
owned_none u none idle clear = record {
  own = λ k is. (let clash = sym none ∙ is in absurd cc);
  attempt = λ c is inside. absurd (idle (c, is, inside));
  only = λ k clients. absurd (clear k clients);
}

-- a change of connections that leaves each the client's, or no one of its
abbrev KeepsOurs : (Connection → Connection) → Type 0
KeepsOurs f = (l : Connection) → (IsTrue l.other × ((d : AttemptState) × (l.dump ≡ Some d)) → IsTrue (f l).other × ((d : AttemptState) × ((f l).dump ≡ Some d)))
    × (IsTrue (f l).other × ((d : AttemptState) × ((f l).dump ≡ Some d)) → IsTrue l.other × ((d : AttemptState) × (l.dump ≡ Some d)))

clients_on : (f : Connection → Connection) → KeepsOurs f → (w u : World) (j : ℕ) → u.connections ≡ changed f w.connections j → (k : ℕ) → IsClients w k → IsClients u k
clients_on f keeps w u j is k (l, d, at, other, dump) = elim (changed_there f w.connections j k l at) [
  | inl (same, there) ↦ (let ours = (keeps l).0 (other, (d, dump)) in (f l, ours.1.0, ap (λ xs. numbered xs k) is ∙ there, ours.0, ours.1.1))
  | inr there ↦ (l, d, ap (λ xs. numbered xs k) is ∙ there, other, dump)
]

-- one connection is changed so, and the client's attempt goes on
changed_owned : (f : Connection → Connection) → KeepsOurs f → (w u : World) (j : ℕ) → u.connections ≡ changed f w.connections j → u.own ≡ w.own → (Attempts w → Attempts u)
    → (Attempts u → Attempts w) → IsOwned w → IsOwned u
changed_owned f keeps w u j is own on back o =
    owned_as w u own on back (clients_on f keeps w u j is) (grind (arith, changed_is)) o

-- once the client's side of its own connection is over, no connection is its
over_clients : (w u : World) (k : ℕ) → u.connections ≡ changed without_peer w.connections k → IsOwned w → w.own ≡ Some k → (j : ℕ) → IsClients u j → ⊥
over_clients w u k is o own j (l, d, at, other, dump) = grind (arith, changed_is without_peer w.connections k j l, o.only j)

over_owned : (w u : World) (k : ℕ) → u.connections ≡ changed without_peer w.connections k → u.own ≡ None → w.own ≡ Some k → (Attempts u → ⊥) → IsOwned w → IsOwned u
over_owned w u k is none own idle o = owned_none u none idle (over_clients w u k is o own)

-- what is noted of an attempt
noted_there : (f : AttemptState → AttemptState) (o : Option AttemptState) → ((d : AttemptState) × (o ≡ Some d)) → (d : AttemptState) × (option_map f o ≡ Some d)
noted_there f o (d, is) = (f d, ap (option_map f) is)

sent_ours : (text : List ℕ) → KeepsOurs (sent_connection text)
sent_ours text l = (λ (other, dump). (other, noted_there noted_sent l.dump dump), λ (other, dump). (other, (grind arith)))

-- a client stands at a stage that is in an attempt, or in none
sends_attempt : (s : Stage) (step : Step) → s ≡ ToSend step → IsTrue (is_in_attempt s)
sends_attempt s step is = subst (λ x. IsTrue (is_in_attempt x)) (sym is) refl

-- a client of one stage, which is in no attempt
rests : (o : Option WorldClient) (c : WorldClient) (stage : Stage) → o ≡ Some c → c.at.stage ≡ stage → is_in_attempt stage ≡ false → IsInAttempt o → ⊥
rests o c stage there at off given = grind arith

-- an attempt starts on a connection more
connected_owned : (w : World) (c : WorldClient) → w.caller ≡ Some c → c.at.stage ≡ Ready → IsOwned w → IsOwned (client_connected w c)
connected_owned w c there ready o =
    let place : suc (length w.connections) ≡ length w.connections + 1 = omega arith in
    let here : connection_of (client_connected w c) (length w.connections + 1) ≡ Some (new_connection (Some (fresh c)))
    = ap (numbered (w.connections ++ new_connection (Some (fresh c)) ∷ [])) (sym place) ∙ numbered_last w.connections (new_connection (Some (fresh c))) in
    record {
      own = λ k is. (
        (new_connection (Some (fresh c)), fresh c, ap (numbered (client_connected w c).connections) (sym (same_Some _ k is)) ∙ here, refl, refl),
        (caller c.number (standing c.at.run c.at.counts (ToSend Open)) (reply_held None []), refl, refl),
      );
      attempt = λ d is inside. (length w.connections + 1, refl);
      only = λ k x. grind (arith, pushed_is w.connections (new_connection (Some (fresh c))) k x.0 x.2, o.only k, o.own k);
    }

-- what came of a call of the client: it goes on in its attempt, or is in none
goes_attempt : (old new : Standing) (progress : Progress) → is_over progress ≡ false → IsTrue (is_in_attempt old.stage) → AgreesWithProgress old progress new → IsTrue (is_in_attempt new.stage)
goes_attempt old new progress on inside stands = grind arith

pub owned_moved : Standings → (w : World) (m : Move w) → IsOwned w → IsOwned (move.moved w m)
owned_moved g w (begins run payload reader none good long) o = grind (arith, owned_as, rests)
owned_moved g w (connects c there ready) o = connected_owned w c there ready o
owned_moved g w (asks t) o =
    changed_owned (sent_connection (next_text t.c t.b.payload t.step)) (sent_ours (next_text t.c t.b.payload t.step)) w _ t.k refl refl (λ a. (_, refl, refl))
    (λ a. (t.c, t.there, sends_attempt t.c.at.stage t.step t.stage)) o
owned_moved g w (fails k n c reader there stage own) o = over_owned w _ k refl refl own (rests _ _ Asking refl refl refl) o
owned_moved g w (reaches k n s l reached live at grows) o = grind (arith, changed_owned)
owned_moved g w (serves t) o = changed_owned (answered t.request t.reply) (grind (arith, noted_there)) w _ t.k refl refl (λ a. a) (λ a. a) o
owned_moved g w (ends k) o = changed_owned without_server (λ l. (λ ours. ours, λ ours. ours)) w _ k refl refl (λ a. a) (λ a. a) o
owned_moved g w restarts o = owned_as w _ refl (λ a. a) (λ a. a)
    (λ k (l, d, at, other, dump). (without_server l, d, at_map without_server w.connections k l at, other, dump)) (grind (arith, map_at)) o
owned_moved g w (cuts k) o = changed_owned (λ l. record l { cut = true }) (λ l. (λ ours. ours, λ ours. ours)) w _ k refl refl (λ a. a) (λ a. a) o
owned_moved g w (talks k l t at none) o = owned_as w _ refl (λ a. a) (λ a. a) (grind (arith, talked_dump, changed_there)) (grind (arith, talked_dump, changed_is)) o
owned_moved g w (hears t on) o = grind (arith, same_Some, changed_owned, goes_attempt)
owned_moved g w (hears_last t failure over) o =
    over_owned w _ t.k refl refl (o.only t.k (t.l, t.d, t.there, t.other, t.dump))
    (rests _ _ t.at.stage refl refl (grind arith)) o
owned_moved g w (sees t failure) o =
    over_owned w _ t.k refl refl (o.only t.k (t.l, t.d, t.there, t.other, t.dump))
    (rests _ _ t.at.stage refl refl (grind arith)) o
owned_moved g w (forgets x none) o = grind (arith, owned_none, back_idle)
owned_moved g w (gives_up x k own) o = over_owned w _ k refl refl own (λ (c, is, inside). back_idle w x c is inside) o
owned_moved g w (answers c answer reader there stage) o = grind (arith, owned_as, rests)
owned_moved g w joins o = owned_as w _ refl (λ a. a) (λ a. a) (grind (arith, numbered_more)) (grind (arith, pushed_is)) o
owned_moved g w m o = record { own = o.own; attempt = o.attempt; only = o.only }

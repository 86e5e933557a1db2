use Rattle.rdump_net.proofs.Words.{[], ◌∷◌, refl, Ended}
use Rattle.rdump_net.proofs.socket.SocketPeerPeer.send.Goals as goal

pub returns-in-Err : goal.returns-in-Err
returns-in-Err g c = (Ended ∷ [], (0, refl), λ log h. h)

pub returns-in_default : goal.returns-in_default
returns-in_default g c = (Ended ∷ [], (0, refl), λ log h. h)

use Rattle.example_client.proofs.Finishing.{whole}
use Rattle.example_client.proofs.volumes.dump.Goals as goal

pub returns-in-Finished : goal.returns-in-Finished
returns-in-Finished g c = whole _ c.state.result c.state.ensures.lawful c.state.ensures.state c.in-Finished.is

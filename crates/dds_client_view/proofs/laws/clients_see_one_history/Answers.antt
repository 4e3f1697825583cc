use Rattle.dds_client_view.proofs.Shown.{is-shown}
use Rattle.dds_client_view.proofs.laws.clients_see_one_history.Goals as goal

pub returns : goal.returns
returns c = is-shown

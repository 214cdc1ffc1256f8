use Rattle.pool.proofs.Promise.{pools_agree}
use Rattle.ready.proofs.state.ReadyBox.join.Goals as goal

pub returns-clause-pool : goal.returns-clause-pool
returns-clause-pool g c = pools_agree g.B.Book.valid g.B.Book.next _ (g.met.B.Book.independence c.args.cold.book)

use Rattle.settlement.proofs.Seals.{read_rising}
use Rattle.settlement.proofs.cold.ColdBox.accept.Goals as goal

pub judge-requires : goal.judge-requires
judge-requires g c = read_rising c.args.self.now.boxes c.args.bytes.now _ c.args.self.now.few c.in_ok-certificate.ensures.answer

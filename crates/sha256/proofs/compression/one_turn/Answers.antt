use Rattle.sha256.specs.Compression.{turn}
use Rattle.sha256.proofs.compression.one_turn.Goals as goal

pub returns : goal.returns
unfolding turn
returns c = rw (c.large_sigma_1.ensures, c.large_sigma_0.ensures, c.choice.ensures, c.majority.ensures)

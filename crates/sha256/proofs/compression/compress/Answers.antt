use Rattle.sha256.specs.Compression.{compressed}
use Rattle.sha256.proofs.compression.compress.Goals as goal

pub returns : goal.returns
unfolding compressed
returns c = cc

use Rattle.std.proofs.Common.{zero-add}
use Rattle.sha256.specs.Compression.{initial}
use Rattle.sha256.specs.Digest.{sha256}
use Rattle.sha256.specs.Hasher.{after}
use Rattle.sha256.proofs.hasher.Hasher.new.Goals as goal

pub returns : goal.returns
unfolding after sha256 initial
returns c text = rw zero-add

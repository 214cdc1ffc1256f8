use Rattle.std.proofs.Common.{refl}
use Rattle.docket.specs.Layout.{encoded}
use Rattle.sha256.specs.Compression.{constants, initial, words_of, extended, schedule, turn, turns, added, compressed}
use Rattle.sha256.specs.Digest.{padding, folded, bytes_of, finished, sha256}
use Rattle.lms.specs.Chains.{steps}
use Rattle.lms.specs.Tree.{climbed}
use Rattle.cases.proofs.worked_seals.Goals as goal

pub returns : goal.returns
unfolding encoded constants initial words_of extended schedule turn turns added compressed padding folded bytes_of finished sha256 steps climbed
returns c = record {
  hash = refl;
  digits = refl;
  chain_starts = refl;
  chain_ends = refl;
  leaf_is = refl;
  right_child = refl;
  then_left = refl;
  checksum_most = refl;
  checksum_least = refl;
}

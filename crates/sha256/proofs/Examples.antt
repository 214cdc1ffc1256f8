-- FIPS 180-4's "abc", by computing.
use Rattle.std.proofs.Common.{refl}
use Rattle.sha256.specs.Compression.{constants, initial, words_of, extended, schedule, turn, turns, added, compressed}
use Rattle.sha256.specs.Digest.{padding, folded, bytes_of, finished, sha256}
use Rattle.sha256.specs.Examples.{Abc}

pub abc : Abc
unfolding constants initial words_of extended schedule turn turns added compressed padding folded bytes_of finished sha256
abc = refl

-- What a hasher that was given a part of a text stands for.
use Rattle.std.specs.Prelude.{ℕ, ◌+◌, ◌%◌, List, ◌++◌, length, take}
use Rattle.sha256.specs.declared.hasher.Hasher.{Hasher}
use Rattle.sha256.specs.Digest.{finished}

-- the bytes that wait for their block to be full
abbrev pub held : Hasher → List ℕ
held h = take (h.length % 64) h.block

-- the digest if `rest` comes after what was given
unfoldable pub after : Hasher → List ℕ → List ℕ
after h rest = finished h.state (h.length + length rest) (held h ++ rest)

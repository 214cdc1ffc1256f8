-- Verifying by RFC 8554 with LMS type 6 (SHA-256, height 10) and LM-OTS type 4 (SHA-256, W8).
use Rattle.std.specs.Prelude.{◌≡◌, ℕ, ◌+◌, Bool, ◌&&◌, List, length, ◌==◌, nat_lt}
use Rattle.lms.specs.Chains.{digits_of, chain_ends}
use Rattle.lms.specs.Hashes.{message_hash, one_time_key, leaf}
use Rattle.lms.specs.Tree.{climbed}
use Rattle.lms.specs.declared.verify.Key.{Key}
use Rattle.lms.specs.declared.verify.Seal.{Seal}
use Rattle.sha256.specs.Compression.{word_at}
use Rattle.std.specs.List.{between}
use Rattle.std.specs.Str.{bytes_eq}

-- a key: LMS type, LM-OTS type, I, the root
abbrev pub identifier : List ℕ → List ℕ
identifier key = between 8 24 key

abbrev pub root : List ℕ → List ℕ
root key = between 24 56 key

-- a seal: leaf number, LM-OTS type, randomizer, 34 chain values, LMS type, ten siblings
abbrev pub leaf_number : List ℕ → ℕ
leaf_number seal = word_at seal 0

abbrev pub randomizer : List ℕ → List ℕ
randomizer seal = between 8 40 seal

abbrev pub values : List ℕ → List ℕ
values seal = between 40 1128 seal

abbrev pub path : List ℕ → List ℕ
path seal = between 1132 1452 seal

-- the length and the types of a key
abbrev pub is_key : List ℕ → Bool
is_key key = (length key == 56) && (word_at key 0 == 6 && word_at key 4 == 4)

-- the length and the types of a seal, which is by one of the 1,024 leaves
abbrev pub is_seal : List ℕ → Bool
is_seal seal = (length seal == 1452) && (word_at seal 4 == 4 && (word_at seal 1128 == 6 && nat_lt (leaf_number seal) 1024))

-- the parts that were read from a key's and a seal's bytes
abbrev pub IsKeyOf : List ℕ → Key → Type 0
IsKeyOf bytes key = (key.id.now ≡ identifier bytes) × (key.root.now ≡ root bytes)

abbrev pub IsSealOf : List ℕ → Seal → Type 0
IsSealOf bytes seal =
    (seal.leaf ≡ leaf_number bytes) × (seal.randomizer.now ≡ randomizer bytes) × (seal.values.now ≡ values bytes) × (seal.path.now ≡ path bytes)

-- the one-time public key that a text and a seal lead to
abbrev pub candidate_key : List ℕ → List ℕ → List ℕ → List ℕ
candidate_key I text seal =
    let q = leaf_number seal in
    one_time_key I q (chain_ends I q (digits_of (message_hash I q (randomizer seal) text)) (values seal) 34)

-- the root that a text and a seal lead to
unfoldable pub candidate : List ℕ → List ℕ → List ℕ → List ℕ
candidate I text seal =
    let r = 1024 + leaf_number seal in
    climbed I 10 r (leaf I r (candidate_key I text seal)) (path seal)

unfoldable pub verifies : List ℕ → List ℕ → List ℕ → Bool
verifies key text seal = is_key key && (is_seal seal && bytes_eq (candidate (identifier key) text seal) (root key))

-- What RFC 8554 hashes. Every input begins with the key's identifier I, a number in four bytes and a mark in two.
use Rattle.std.specs.Prelude.{ℕ, ◌/◌, ◌%◌, List, [], ◌∷◌, ◌++◌}
use Rattle.sha256.specs.Digest.{u32, sha256}

abbrev pub u16 : ℕ → List ℕ
u16 n = (n / 256 % 256) ∷ (n % 256) ∷ []

abbrev pub head : List ℕ → ℕ → ℕ → List ℕ
head I n mark = I ++ (u32 n ++ u16 mark)

-- the hash of a text, under leaf q and the randomizer C; the mark is D_MESG
abbrev pub message_hash : List ℕ → ℕ → List ℕ → List ℕ → List ℕ
message_hash I q C text = sha256 (head I q 0x8181 ++ (C ++ text))

-- a one-time public key from the ends of its chains; the mark is D_PBLC
abbrev pub one_time_key : List ℕ → ℕ → List ℕ → List ℕ
one_time_key I q ends = sha256 (head I q 0x8080 ++ ends)

-- the tree's node `r` over the one-time public key of its leaf; the mark is D_LEAF
abbrev pub leaf : List ℕ → ℕ → List ℕ → List ℕ
leaf I r key = sha256 (head I r 0x8282 ++ key)

-- the tree's node `r` over its two children; the mark is D_INTR
abbrev pub node : List ℕ → ℕ → List ℕ → List ℕ → List ℕ
node I r left right = sha256 (head I r 0x8383 ++ (left ++ right))

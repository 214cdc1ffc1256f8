-- LM-OTS with W8: 34 chains of 255 steps, one for each digit of a hash and of its checksum.
use Rattle.std.specs.Prelude.{ℕ, zero, suc, ◌+◌, ◌-◌, ◌*◌, List, [], ◌∷◌, ◌++◌, slice_index}
use Rattle.lms.specs.Hashes.{head, u16}
use Rattle.sha256.specs.Digest.{sha256}
use Rattle.std.specs.List.{between, sum_by}

-- step `j` of the chain whose inputs begin with `front`
abbrev pub step : List ℕ → ℕ → List ℕ → List ℕ
step front j value = sha256 (front ++ j ∷ value)

-- `n` steps, the first of them step `j`
unfoldable pub steps : List ℕ → ℕ → ℕ → List ℕ → List ℕ
steps front zero j value = value
steps front (suc n) j value = steps front n (j + 1) (step front j value)

-- a chain's value at `to` from its value at `from`
abbrev pub chained : List ℕ → ℕ → ℕ → List ℕ → List ℕ
chained front from to value = steps front (to - from) from value

-- how far the digits are from the last step, in all
abbrev pub checksum : List ℕ → ℕ
checksum digits = sum_by (λ digit. 255 - digit) digits

-- at W8 a digit is a byte: 32 of the hash and 2 of its checksum
abbrev pub digits_of : List ℕ → List ℕ
digits_of hash = hash ++ u16 (checksum hash)

-- value `i` of those that stand end to end
abbrev pub value_at : ℕ → List ℕ → List ℕ
value_at i values = between (32 * i) (32 * i + 32) values

-- the ends of the first `n` chains, each from the value that its digit says
unfoldable pub chain_ends : List ℕ → ℕ → List ℕ → List ℕ → ℕ → List ℕ
chain_ends I q digits values zero = []
chain_ends I q digits values (suc n) =
    chain_ends I q digits values n ++ chained (head I q n) (slice_index digits n) 255 (value_at n values)

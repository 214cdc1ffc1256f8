-- Keys by party: 77 of 56 bytes each.
use Rattle.std.specs.Prelude.{◌≡◌, ℕ, ◌+◌, ◌*◌, Bool, true, false, ◌&&◌, List, length, Result, MatchResult, ◌==◌, nat_lt}
use Rattle.lms.specs.Verify.{verifies}
use Rattle.lms.specs.declared.keys.Keys.{Keys}
use Rattle.seals.specs.declared.fault.CheckerFault.{CheckerFault}
use Rattle.seals.specs.declared.fault.CheckerFault.TheVariants.{Layout}
use Rattle.std.specs.List.{between}

-- the bytes that the keys were opened over
abbrev pub lent : Keys → List ℕ
lent keys = keys.bytes.now

-- keys are opened over 4,312 bytes, and any other length is refused
abbrev pub Opens : List ℕ → Result Keys CheckerFault → Type 0
Opens bytes answer =
    MatchResult answer
    (λ keys. ((length bytes == 4312) ≡ true) × (lent keys ≡ bytes))
    (λ fault. ((length bytes == 4312) ≡ false) × (fault ≡ Layout))

abbrev pub key_of : ℕ → List ℕ → List ℕ
key_of party bytes = between (56 * party) (56 * party + 56) bytes

-- a seal is good when it verifies under the key of a party up to 76
abbrev pub good_under : List ℕ → ℕ → List ℕ → List ℕ → Bool
good_under bytes party text seal = nat_lt party 77 && verifies (key_of party bytes) text seal

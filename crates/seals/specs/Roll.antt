-- A roll of seals: entries of 84 bytes, each the party, the text's length, and the text with zeros up to 82 bytes.
use Rattle.std.specs.Prelude.{◌≡◌, ℕ, zero, suc, ◌+◌, ◌*◌, ◌/◌, ◌%◌, Bool, true, false, ◌&&◌, ◌||◌, List, length, take, drop, Result, MatchResult, ◌==◌, nat_lt, slice_index}
use Rattle.seals.specs.declared.fault.CheckerFault.{CheckerFault}
use Rattle.seals.specs.declared.fault.CheckerFault.TheVariants.{Layout}
use Rattle.seals.specs.declared.roll.Roll.{Roll}
use Rattle.std.specs.List.{between}
use Rattle.std.specs.Str.{bytes_eq}

abbrev pub party_of : List ℕ → ℕ
party_of entry = slice_index entry 0

abbrev pub text_length : List ℕ → ℕ
text_length entry = slice_index entry 1

-- a text is of 82 bytes, or of 80 and two zeros
abbrev pub laid : List ℕ → Bool
laid entry =
    (text_length entry == 82) ||
    (text_length entry == 80 && (slice_index entry 82 == 0 && slice_index entry 83 == 0))

-- the first `count` entries are laid out so
unfoldable pub entries_laid : ℕ → List ℕ → Bool
entries_laid zero roll = true
entries_laid (suc count) roll = laid (take 84 roll) && entries_laid count (drop 84 roll)

-- whole entries only, and each laid out so
abbrev pub well_laid : List ℕ → Bool
well_laid roll = length roll % 84 == 0 && entries_laid (length roll / 84) roll

-- the bytes that a roll was opened over
abbrev pub lent : Roll → List ℕ
lent roll = roll.bytes.now

-- a well-laid roll is opened over its bytes, and any other refused
abbrev pub Opens : List ℕ → Result Roll CheckerFault → Type 0
Opens bytes answer =
    MatchResult answer
    (λ roll. (well_laid bytes ≡ true) × (lent roll ≡ bytes))
    (λ fault. (well_laid bytes ≡ false) × (fault ≡ Layout))

-- an entry is of this party and this text
abbrev pub is_of : List ℕ → ℕ → List ℕ → Bool
is_of entry party text =
    (party_of entry == party) &&
    (text_length entry == length text && bytes_eq text (take (length text) (between 2 84 entry)))

-- the number that two bytes stand for, the higher one first
abbrev pub index_of : List ℕ → ℕ
index_of seal = slice_index seal 0 * 256 + slice_index seal 1

-- entry `i`, counted from 0
abbrev pub entry_at : ℕ → List ℕ → List ℕ
entry_at i roll = between (i * 84) (i * 84 + 84) roll

-- a seal is good when it is two bytes, the index of an entry of that party and text
abbrev pub good_under : List ℕ → ℕ → List ℕ → List ℕ → Bool
good_under roll party text seal =
    (length seal == 2) &&
    (nat_lt (index_of seal) (length roll / 84) && is_of (entry_at (index_of seal) roll) party text)

-- The answers of a check.
use Rattle.std.proofs.Common.{Option, Some, None, [], get_or, ◌≡◌, ℕ, ◌+◌, ◌-◌, ◌*◌, ◌/◌, ◌<◌, ◌≤◌, Bool, true, false, List, length, take, drop, sym, refl, ap, ◌∙◌, arith}
use Rattle.lms.specs.Hashes.{leaf}
use Rattle.lms.specs.Keys.{key_of, good_under}
use Rattle.lms.specs.Tree.{climbed}
use Rattle.lms.specs.Verify.{is_key, is_seal, identifier, root, leaf_number, path, candidate_key, candidate, verifies}
use Rattle.std.proofs.lemmas.Bool.{lt-ltb, le-ltb, and_right}
use Rattle.std.specs.Str.{bytes_eq}
use Rattle.std.specs.Option.{MatchOption}
use Rattle.std.specs.Slice.{IsItemAt}
use Rattle.std.specs.Simd.{first_chunks}
use Rattle.sha256.proofs.Arrays.{chunk_at}
use denote.Ref.{Bor}
use borrow.Author.Tests.{ltb-true, ltb-false}

pub no_party : (bytes text seal : List ℕ) (party : ℕ) → 76 < party → false ≡ good_under bytes party text seal
no_party bytes text seal party h = rw (le-ltb party 77 h)

pub by_party : (bytes text seal key : List ℕ) (party : ℕ) (answer : Bool) → party ≤ 76 → key ≡ key_of party bytes → answer ≡ verifies key text seal → answer ≡ good_under bytes party text seal
by_party bytes text seal key party answer low e a =
    let lt : party < 77 = omega arith in
    rw (lt-ltb party 77 lt, ← e) a

pub key_at : (bytes key : List ℕ) (party : ℕ) → key ≡ take 56 (drop (56 * party) bytes) → key ≡ key_of party bytes
key_at bytes key party e =
    let size : 56 ≡ 56 * party + 56 - 56 * party = omega arith in
    e ∙ ap (λ k. take k (drop (56 * party) bytes)) size

pub key_found : (bytes : List ℕ) (party i : ℕ) (rows : List (List ℕ)) (r : Option (Bor (List ℕ))) → i ≡ party → length bytes ≡ 4312 → rows ≡ first_chunks 56 (length bytes / 56) bytes →
    length rows ≡ length bytes / 56 → IsItemAt rows i r → MatchOption r (76 < party) (λ key. (party ≤ 76) × (key.now ≡ key_of party bytes))
key_found bytes party i rows None same long cut many found = let past = ltb-false i (length rows) (sym found.0) in omega arith
key_found bytes party i rows (Some key) same long cut many found =
    let low = ltb-true i (length rows) (sym found.0) in
    let within : party < length bytes / 56 = omega arith in
    let read : key.now ≡ get_or rows party [] = found.4 (omega arith) [] ∙ ap (λ n. get_or rows n []) same in
    (omega arith, key_at bytes key.now party (read ∙ ap (λ l. get_or l party []) cut ∙ chunk_at 56 (length bytes / 56) bytes party [] within))

module _ (key text seal : List ℕ) where
  pub no_key : is_key key ≡ false → false ≡ verifies key text seal
  unfolding verifies
  no_key e = rw e

  pub no_seal : is_seal seal ≡ false → false ≡ verifies key text seal
  unfolding verifies
  no_seal e = rw e (sym (and_right (is_key key) false refl))

  pub judged : (above low : List ℕ) (answer : Bool) → is_key key ≡ true → is_seal seal ≡ true → above ≡ candidate (identifier key) text seal → low ≡ root key →
      answer ≡ bytes_eq above low → answer ≡ verifies key text seal
  unfolding verifies
  judged above low answer k s e r a = rw (k, s, ← e, ← r) a

pub leads : (I text seal key above root path' : List ℕ) (q : ℕ) → q ≡ leaf_number seal → path' ≡ path seal → key ≡ candidate_key I text seal → above ≡ leaf I (1024 + q) key →
    root ≡ climbed I 10 (1024 + q) above path' → root ≡ candidate I text seal
unfolding candidate
leads I text seal key above root path' q number p k a r = r ∙ rw (a, k, number, p) refl

-- Steps of a chain, sums of a checksum, ends of chains.
use Rattle.std.proofs.Common.{◌≡◌, ℕ, suc, ◌+◌, ◌-◌, ◌*◌, ◌<◌, ◌≤◌, List, [], ◌++◌, length, get_or, take, drop, sym, refl, ap, ◌∙◌, add-one, arith}
use Rattle.lms.specs.Chains.{step, steps, chained, value_at, chain_ends}
use Rattle.lms.specs.Hashes.{head}
use Rattle.std.specs.List.{enumerate_from, zip}
use Rattle.std.proofs.lemmas.List.FromFn.{length-enumerate_from, get_or-enumerate_from}
use Rattle.std.proofs.lemmas.Slice.Zip.{length-zip, get_or-zip}
use Rattle.std.proofs.lemmas.List.{append_assoc, get_or_read}
use Rattle.sha256.specs.Digest.{sha256}

pub steps_more : (front value : List ℕ) (j : ℕ) → j < 255 → steps front (255 - (j + 1)) (j + 1) (step front j value) ≡ steps front (255 - j) j value
unfolding steps
steps_more front value j h =
    let n : 255 - j ≡ suc (255 - (j + 1)) = omega arith in
    rw n

pub steps_none : (front value : List ℕ) (j : ℕ) → 255 ≤ j → steps front (255 - j) j value ≡ value
unfolding steps
steps_none front value j h =
    let n : 255 - j ≡ 0 = omega arith in
    rw n

pub ends_none : (I digits values : List ℕ) (q : ℕ) → chain_ends I q digits values 0 ≡ []
unfolding chain_ends
ends_none I digits values q = refl

pub ends_more : (I digits values : List ℕ) (q i : ℕ) →
    chain_ends I q digits values (i + 1) ≡ chain_ends I q digits values i ++ chained (head I q i) (get_or digits i 0) 255 (value_at i values)
unfolding chain_ends
ends_more I digits values q i = rw (add-one i)

-- the items that a loop over digits and starts meets
pub item_count : (digits : List ℕ) (starts : List (List ℕ)) → length digits ≡ 34 → length starts ≡ 34 → length (enumerate_from 0 (zip digits starts)) ≡ 34
item_count digits starts d s = simp (length-enumerate_from, length-zip, d, s) refl

module _ (digits : List ℕ) (starts : List (List ℕ)) (d : length digits ≡ 34) (s : length starts ≡ 34) (k i digit : ℕ) (start : List ℕ) (lt : k < length (enumerate_from 0 (zip digits starts))) (e : (i, (digit, start)) ≡ get_or (enumerate_from 0 (zip digits starts)) k (i, (digit, start))) where
  pub item_low : k < 34
  item_low = omega (arith, item_count digits starts d s)

  item : ◌≡◌ {A = ℕ × (ℕ × List ℕ)} (i, (digit, start)) (0 + k, (get_or digits k digit, get_or starts k start))
  item =
      let zipped : k < length (zip digits starts) = simp (length-zip, d, s) item_low in
      let in_digits : k < length digits = omega (arith, item_low) in
      let in_starts : k < length starts = omega (arith, item_low) in
      e ∙ get_or-enumerate_from 0 (zip digits starts) k (i, (digit, start)) zipped ∙ ap (λ p. (0 + k, p)) (get_or-zip digits starts k (digit, start) in_digits in_starts)

  pub item_number : i ≡ k
  item_number = let counted : i ≡ 0 + k = ap (λ p. p.0) item in omega arith

  pub item_digit : digit ≡ get_or digits k 0
  item_digit = let in_digits : k < length digits = omega (arith, item_low) in get_or_read digits k digit in_digits (ap (λ p. p.1.0) item) 0

  pub item_start : start ≡ get_or starts k []
  item_start = let in_starts : k < length starts = omega (arith, item_low) in get_or_read starts k start in_starts (ap (λ p. p.1.1) item) []

pub whole_chain : (I digits values front start end : List ℕ) (q k i digit : ℕ) → i ≡ k → digit ≡ get_or digits k 0 → start ≡ take 32 (drop (32 * k) values) → front ≡ head I q i →
    end ≡ chained front digit 255 start → end ≡ chained (head I q k) (get_or digits k 0) 255 (value_at k values)
whole_chain I digits values front start end q k i digit n d s f e =
    let size : 32 ≡ 32 * k + 32 - 32 * k = omega arith in
    let value : start ≡ value_at k values = s ∙ ap (λ m. take m (drop (32 * k) values)) size in
    e ∙ rw (f, n, d, value) refl

-- a hasher's text before the first chain's end, and after one more
module _ (I digits values : List ℕ) (q : ℕ) where
  pub fed : (front rest : List ℕ) → front ≡ head I q 0x8080 → sha256 (front ++ rest) ≡ sha256 (head I q 0x8080 ++ (chain_ends I q digits values 0 ++ rest))
  fed front rest e = rw (e, ends_none)

  pub fed_more : (i : ℕ) (end rest : List ℕ) → end ≡ chained (head I q i) (get_or digits i 0) 255 (value_at i values) →
      sha256 (head I q 0x8080 ++ (chain_ends I q digits values i ++ (end ++ rest))) ≡ sha256 (head I q 0x8080 ++ (chain_ends I q digits values (i + 1) ++ rest))
  fed_more i end rest e =
      let more = ends_more I digits values q i in
      let joined : chain_ends I q digits values i ++ (end ++ rest) ≡ chain_ends I q digits values (i + 1) ++ rest =
      sym (append_assoc (chain_ends I q digits values i) end rest) ∙ ap (λ l. l ++ rest) (ap (λ l. chain_ends I q digits values i ++ l) e ∙ sym more) in
      ap (λ l. sha256 (head I q 0x8080 ++ l)) joined

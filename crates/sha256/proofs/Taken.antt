-- What a hasher stands for after a part more, and at the end.
use Rattle.std.proofs.Common.{◌≡◌, ℕ, zero, suc, ◌+◌, ◌-◌, ◌*◌, ◌/◌, ◌%◌, ◌^◌, ◌<◌, ◌≤◌, List, [], ◌∷◌, ◌++◌, length, take, drop, replicate, sym, refl, ap, ◌∙◌, arith, length-append}
use Rattle.sha256.specs.Compression.{compressed}
use Rattle.sha256.specs.Digest.{u64, padding, folded, bytes_of, finished}
use Rattle.sha256.proofs.Blocks.{folded_more, folded_none}
use Rattle.std.proofs.lemmas.List.{append_assoc, append-nil, drop-drop, length-drop, length-take-le, take-append-drop, take_at, replicate-append-replicate, length-replicate}

-- only the count modulo 2^64 matters
pub padding_same : (m n : ℕ) → m % 2 ^ 64 ≡ n % 2 ^ 64 → padding m ≡ padding n
unfolding padding
padding_same m n e =
    let low : m % 64 ≡ n % 64 = omega arith in
    let bits : m * 8 % 2 ^ 64 ≡ n * 8 % 2 ^ 64 = omega arith in
    rw (low, bits)

pub finished_same : (s rest : List ℕ) (m n : ℕ) → m % 2 ^ 64 ≡ n % 2 ^ 64 → finished s m rest ≡ finished s n rest
unfolding finished
finished_same s rest m n e = rw (padding_same m n e)

pub finished_block : (s block rest : List ℕ) (n : ℕ) → length block ≡ 64 → finished s n (block ++ rest) ≡ finished (compressed s block) n rest
unfolding finished
finished_block s block rest n h = ap bytes_of (folded_more s _ block (rest ++ padding n) (append_assoc block rest (padding n)) h)

pub finished_blocks : (k : ℕ) (s bytes rest : List ℕ) (n : ℕ) → k * 64 ≤ length bytes → finished s n (bytes ++ rest) ≡ finished (folded k s bytes) n (drop (k * 64) bytes ++ rest)
unfolding folded
finished_blocks zero s bytes rest n h = refl
finished_blocks (suc k) s bytes rest n h =
    let whole : length (take 64 bytes) ≡ 64 = length-take-le 64 bytes (omega arith) in
    let split = ap (λ b. finished s n (b ++ rest)) (sym (take-append-drop 64 bytes)) ∙ ap (finished s n) (append_assoc (take 64 bytes) (drop 64 bytes) rest) in
    let enough : k * 64 ≤ length (drop 64 bytes) = simp length-drop (omega arith) in
    let more : 64 + k * 64 ≡ suc k * 64 = omega arith in
    let left = ap (λ b. finished (folded (suc k) s bytes) n (b ++ rest)) (drop-drop (k * 64) 64 bytes ∙ ap (λ m. drop m bytes) more) in
    split ∙ finished_block s (take 64 bytes) (drop 64 bytes ++ rest) n whole ∙ finished_blocks k (compressed s (take 64 bytes)) (drop 64 bytes) rest n enough ∙ left

-- a part that does not fill its block
pub keeps : (s block block' part rest : List ℕ) (n n' : ℕ) → length block ≡ 64 → n' ≡ (n + length part) % 2 ^ 64 → n % 64 + length part < 64 →
    take (n % 64 + length part) block' ≡ take (n % 64) block ++ part →
    finished s (n' + length rest) (take (n' % 64) block' ++ rest) ≡ finished s (n + length (part ++ rest)) (take (n % 64) block ++ (part ++ rest))
keeps s block block' part rest n n' h count room put =
    let low : n' % 64 ≡ n % 64 + length part = omega arith in
    let same : (n' + length rest) % 2 ^ 64 ≡ (n + length (part ++ rest)) % 2 ^ 64 = simp length-append (omega arith) in
    let held : take (n' % 64) block' ++ rest ≡ take (n % 64) block ++ (part ++ rest) = rw (low, put) (append_assoc (take (n % 64) block) part rest) in
    finished_same s _ _ _ same ∙ ap (finished s _) held

-- a part that fills its block with its front, and more
pub fills : (s block block' full part front more rest : List ℕ) (n n' : ℕ) → length block ≡ 64 → part ≡ front ++ more → length front ≡ 64 - n % 64 →
    n' ≡ (n + length part) % 2 ^ 64 → full ≡ take (n % 64) block ++ front →
    take (length more % 64) block' ≡ drop (length more / 64 * 64) more →
    finished (folded (length more / 64) (compressed s full) more) (n' + length rest) (take (n' % 64) block' ++ rest)
    ≡ finished s (n + length (part ++ rest)) (take (n % 64) block ++ (part ++ rest))
fills s block block' full part front more rest n n' h parts room count filled left =
    let sum : length part ≡ length front + length more = ap length parts ∙ length-append front more in
    let low : n' % 64 ≡ length more % 64 = omega arith in
    let same : (n' + length rest) % 2 ^ 64 ≡ (n + length (part ++ rest)) % 2 ^ 64 = simp length-append (omega arith) in
    let whole : length full ≡ 64 = ap length filled ∙ length-append (take (n % 64) block) front ∙ rw (length-take-le (n % 64) block (omega arith)) (omega arith) in
    let regroup : take (n % 64) block ++ (part ++ rest) ≡ full ++ (more ++ rest) =
    rw (parts, filled) (ap (λ b. take (n % 64) block ++ b) (append_assoc front more rest) ∙ sym (append_assoc (take (n % 64) block) front (more ++ rest))) in
    let m = n + length (part ++ rest) in
    let tail : take (n' % 64) block' ++ rest ≡ drop (length more / 64 * 64) more ++ rest = rw (low, left) in
    finished_same _ _ _ _ same ∙ ap (finished (folded (length more / 64) (compressed s full) more) m) tail ∙
    sym (finished_blocks (length more / 64) (compressed s full) more rest m (omega arith)) ∙
    sym (finished_block s full (more ++ rest) m whole) ∙ sym (ap (finished s m) regroup)

-- a text whose padded rest is one block
last : (s held front tail : List ℕ) (n : ℕ) → held ++ padding n ≡ front ++ tail → length front ≡ 56 → length tail ≡ 8 →
    finished s n held ≡ bytes_of (compressed s (front ++ tail))
unfolding finished
last s held front tail n e f t =
    let whole : length (front ++ tail) ≡ 64 = simp length-append (omega arith) in
    let one = folded_more s (front ++ tail) (front ++ tail) [] (sym (append-nil (front ++ tail))) whole in
    rw e (ap bytes_of (one ∙ folded_none (compressed s (front ++ tail)) [] refl))

zeros : (held : List ℕ) (a b : ℕ) → (held ++ 128 ∷ replicate a 0) ++ replicate b 0 ≡ held ++ 128 ∷ replicate (a + b) 0
zeros held a b = append_assoc held (128 ∷ replicate a 0) (replicate b 0) ∙ ap (λ z. held ++ 128 ∷ z) (replicate-append-replicate a b 0)

-- the end in one block
pub ends_here : (s held : List ℕ) (n : ℕ) → length held ≡ n % 64 → n % 64 < 56 →
    finished s n held ≡ bytes_of (compressed s (take 56 (held ++ 128 ∷ replicate (63 - n % 64) 0) ++ u64 (n * 8 % 2 ^ 64)))
unfolding padding
ends_here s held n h lt =
    let z : (119 - n % 64) % 64 ≡ 55 - n % 64 = omega arith in
    let eight : 55 - n % 64 + 8 ≡ 63 - n % 64 = omega arith in
    let front = held ++ 128 ∷ replicate (55 - n % 64) 0 in
    let len : length front ≡ 56 = length-append held (128 ∷ replicate (55 - n % 64) 0) ∙ simp length-replicate (omega arith) in
    let marked : front ++ replicate 8 0 ≡ held ++ 128 ∷ replicate (63 - n % 64) 0 = zeros held (55 - n % 64) 8 ∙ rw eight in
    let cut : take 56 (held ++ 128 ∷ replicate (63 - n % 64) 0) ≡ front = ap (take 56) (sym marked) ∙ take_at front (replicate 8 0) 56 len in
    let padded : held ++ padding n ≡ front ++ u64 (n * 8 % 2 ^ 64) = rw z (sym (append_assoc held (128 ∷ replicate (55 - n % 64) 0) (u64 (n * 8 % 2 ^ 64)))) in
    rw cut (last s held front (u64 (n * 8 % 2 ^ 64)) n padded len refl)

-- the end in two blocks
pub ends_next : (s held block : List ℕ) (n : ℕ) → length held ≡ n % 64 → 56 ≤ n % 64 → block ≡ replicate 64 0 →
    finished s n held ≡ bytes_of (compressed (compressed s (held ++ 128 ∷ replicate (63 - n % 64) 0)) (take 56 block ++ u64 (n * 8 % 2 ^ 64)))
unfolding padding finished
ends_next s held block n h ge none =
    let z : (119 - n % 64) % 64 ≡ 63 - n % 64 + 56 = omega arith in
    let bits = u64 (n * 8 % 2 ^ 64) in
    let front = held ++ 128 ∷ replicate (63 - n % 64) 0 in
    let whole : length front ≡ 64 = length-append held (128 ∷ replicate (63 - n % 64) 0) ∙ simp length-replicate (omega arith) in
    let two : take 56 block ≡ replicate 56 0 = ap (take 56) none in
    let padded : held ++ padding n ≡ front ++ (replicate 56 0 ++ bits) =
    rw z (sym (append_assoc held (128 ∷ replicate (63 - n % 64 + 56) 0) bits) ∙ ap (λ l. l ++ bits) (sym (zeros held (63 - n % 64) 56)) ∙ append_assoc front (replicate 56 0) bits) in
    let one = folded_more s (held ++ padding n) front (replicate 56 0 ++ bits) padded whole in
    let last_one = folded_more (compressed s front) (replicate 56 0 ++ bits) (replicate 56 0 ++ bits) [] (sym (append-nil (replicate 56 0 ++ bits))) refl in
    rw two (ap bytes_of (one ∙ last_one ∙ folded_none _ [] refl))

-- Blocks off the front of a text, and words as bytes.
use Rattle.std.proofs.Common.{◌≡◌, ℕ, zero, suc, map, ◌/◌, List, [], ◌∷◌, ◌++◌, length, take, drop, refl, ap, ◌∙◌, arith, length-append}
use Rattle.sha256.specs.Compression.{compressed}
use Rattle.sha256.specs.Digest.{u32, folded, bytes_of}
use Rattle.std.proofs.lemmas.List.{take_at, drop_at}
use Rattle.std.proofs.lemmas.List.Concat.{flat_map-cons}
use Rattle.std.specs.List.{fold, flat_map}
use Rattle.std.specs.Simd.{first_chunks}

pub folded_suc : (n : ℕ) (s bytes : List ℕ) → folded (suc n) s bytes ≡ folded n (compressed s (take 64 bytes)) (drop 64 bytes)
unfolding folded
folded_suc n s bytes = refl

pub folded_more : (s bytes block rest : List ℕ) → bytes ≡ block ++ rest → length block ≡ 64 → folded (length bytes / 64) s bytes ≡ folded (length rest / 64) (compressed s block) rest
folded_more s bytes block rest parts h =
    let n : length (block ++ rest) / 64 ≡ suc (length rest / 64) = simp length-append (omega arith) in
    rw (parts, n, folded_suc, take_at, drop_at)

pub folded_fold : (n : ℕ) (s bytes : List ℕ) → fold compressed s (first_chunks 64 n bytes) ≡ folded n s bytes
unfolding folded
folded_fold zero s bytes = refl
folded_fold (suc n) s bytes = folded_fold n (compressed s (take 64 bytes)) (drop 64 bytes)

pub folded_none : (s bytes : List ℕ) → length bytes / 64 ≡ 0 → folded (length bytes / 64) s bytes ≡ s
unfolding folded
folded_none s bytes h = rw h

pub bytes_flat : (ws : List ℕ) → flat_map (λ b. b) (map u32 ws) ≡ bytes_of ws
unfolding bytes_of
bytes_flat [] = refl
bytes_flat (w ∷ ws) = flat_map-cons (λ b. b) (u32 w) (map u32 ws) ∙ ap (λ bytes. u32 w ++ bytes) (bytes_flat ws)

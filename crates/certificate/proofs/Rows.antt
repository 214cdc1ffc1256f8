-- The loop that reads the table. Assumes nothing.
use Rattle.std.proofs.Common.{◌≡◌, ℕ, zero, suc, ◌+◌, ◌-◌, ◌*◌, ◌/◌, ◌<◌, ◌≤◌, List, [], ◌∷◌, ◌++◌, length, get_or, take, drop, set, Ok, Err, Result, sym, refl, ap, ◌∙◌, arith}
use Rattle.std.specs.List.{between}
use Rattle.std.proofs.lemmas.List.{append_assoc, append-nil, take_more_set, take-take, drop-drop, length-take, length-drop}
use Rattle.std.proofs.lemmas.Slice.{between_is}
use Rattle.std.specs.Simd.{first_chunks}
use Rattle.refusals.specs.Reading.{Reading, and_then}
use Rattle.certificate.specs.Table.{read_row, behind, read_rows, seals_end}
use Rattle.certificate.specs.declared.table.Entry.{Entry}

-- what stands behind no entry, behind two lists of entries, and behind all
behind_none : (r : Result (List Entry) Reading) → behind [] r ≡ r
behind_none (Ok es) = refl
behind_none (Err f) = refl

behind_more : (xs ys : List Entry) (r : Result (List Entry) Reading) → behind (xs ++ ys) r ≡ behind xs (behind ys r)
behind_more xs ys (Ok es) = ap Ok (append_assoc xs ys es)
behind_more xs ys (Err f) = refl

-- entries i to m, of which the first stands at 4 + 8 i
abbrev pub left : ℕ → ℕ → ℕ → ℕ → ℕ → List ℕ → Result (List Entry) Reading
left boxes m i least place head = read_rows boxes (m - i) (4 + 8 * i) least place head

pub rows_none : (boxes m least place : ℕ) (head : List ℕ) (t : List Entry) → behind (take 0 t) (left boxes m 0 least place head) ≡ read_rows boxes m 4 least place head
rows_none boxes m least place head t =
    let e : m - 0 ≡ m = omega arith in
    behind_none (left boxes m 0 least place head) ∙ ap (λ n. read_rows boxes n 4 least place head) e

-- what follows the entry e, which stands at 4 + 8 i
abbrev rest : ℕ → ℕ → ℕ → ℕ → List ℕ → Entry → Result (List Entry) Reading
rest boxes m i place head e = behind (e ∷ []) (left boxes m (i + 1) (e.signer.number + 1) (place + e.signer.size) head)

left_more :
    (boxes m i least place : ℕ) (head : List ℕ) → i < m
    → left boxes m i least place head ≡ and_then (read_row boxes (4 + 8 * i) least place (between (4 + 8 * i) (4 + 8 * i + 8) head)) (rest boxes m i place head)
left_more boxes m i least place head h =
    let s : m - i ≡ suc (m - (i + 1)) = omega arith in
    let a : 4 + 8 * i + 8 ≡ 4 + 8 * (i + 1) = omega arith in
    ap (λ n. read_rows boxes n (4 + 8 * i) least place head) s
    ∙ ap (λ at. and_then (read_row boxes (4 + 8 * i) least place (between (4 + 8 * i) (4 + 8 * i + 8) head))
    (λ e. behind (e ∷ []) (read_rows boxes (m - (i + 1)) at (e.signer.number + 1) (place + e.signer.size) head))) a

-- t is the table with i entries read, x is the next, and r is what the whole gives
step :
    (boxes m i least place : ℕ) (head : List ℕ) (t : List Entry) (x : Result Entry Reading) (r : Result (List Entry) Reading) → i < m
    → behind (take i t) (left boxes m i least place head) ≡ r
    → x ≡ read_row boxes (4 + 8 * i) least place (between (4 + 8 * i) (4 + 8 * i + 8) head)
    → behind (take i t) (and_then x (rest boxes m i place head)) ≡ r
step boxes m i least place head t x r h inv e =
    ap (λ y. behind (take i t) (and_then y (rest boxes m i place head))) e ∙ (ap (behind (take i t)) (sym (left_more boxes m i least place head h)) ∙ inv)

-- n and p are what the next entry is held to
pub rows_more :
    (boxes m i least place n p : ℕ) (head : List ℕ) (t : List Entry) (e : Entry) (r : Result (List Entry) Reading) → i < m → i < length t
    → n ≡ e.signer.number + 1 → p ≡ place + e.signer.size → behind (take i t) (left boxes m i least place head) ≡ r
    → Ok e ≡ read_row boxes (4 + 8 * i) least place (between (4 + 8 * i) (4 + 8 * i + 8) head)
    → behind (take (i + 1) (set t i e)) (left boxes m (i + 1) n p head) ≡ r
rows_more boxes m i least place n p head t e r h l f g inv good =
    let next : ℕ → ℕ → Result (List Entry) Reading = λ x y. left boxes m (i + 1) x y head in
    ap (λ x. behind (take (i + 1) (set t i e)) (next x p)) f
    ∙ (ap (λ y. behind (take (i + 1) (set t i e)) (next (e.signer.number + 1) y)) g
    ∙ (ap (λ es. behind es (next (e.signer.number + 1) (place + e.signer.size))) (take_more_set t i e l)
    ∙ (behind_more (take i t) (e ∷ []) (next (e.signer.number + 1) (place + e.signer.size)) ∙ step boxes m i least place head t (Ok e) r h inv good)))

pub rows_stop :
    (boxes m i least place : ℕ) (head : List ℕ) (t : List Entry) (f : Reading) (r : Result (List Entry) Reading) → i < m
    → behind (take i t) (left boxes m i least place head) ≡ r
    → Err f ≡ read_row boxes (4 + 8 * i) least place (between (4 + 8 * i) (4 + 8 * i + 8) head)
    → Err f ≡ r
rows_stop boxes m i least place head t f r h inv bad = step boxes m i least place head t (Err f) r h inv bad

pub rows_all :
    (boxes m i least place : ℕ) (head : List ℕ) (t : List Entry) (r : Result (List Entry) Reading) → i ≡ m
    → behind (take i t) (left boxes m i least place head) ≡ r → Ok (take m t) ≡ r
rows_all boxes m i least place head t r h inv =
    let z : m - i ≡ 0 = omega arith in
    let n = append-nil (take i t) in
    cc

-- where the seals end, with one more
end_push : (place : ℕ) (es : List Entry) (e : Entry) → seals_end place (es ++ e ∷ []) ≡ seals_end place es + e.signer.size
end_push place [] e = refl
end_push place (x ∷ xs) e = end_push (place + x.signer.size) xs e

pub end_more :
    (start place p i : ℕ) (t : List Entry) (e : Entry) → i < length t → p ≡ place + e.signer.size → seals_end start (take i t) ≡ place
    → seals_end start (take (i + 1) (set t i e)) ≡ p
end_more start place p i t e l g inv =
    ap (seals_end start) (take_more_set t i e l) ∙ (end_push start (take i t) e ∙ (ap (λ n. n + e.signer.size) inv ∙ sym g))

-- row i, as the eight bytes that it is
chunk : (k i : ℕ) (xs : List ℕ) → i < k → get_or (first_chunks 8 k xs) i [] ≡ take 8 (drop (8 * i) xs)
chunk zero i xs h = absurd (omega arith)
chunk (suc k) zero xs h = refl
chunk (suc k) (suc i) xs h =
    let e : 8 + 8 * i ≡ 8 * suc i = omega arith in
    chunk k i (drop 8 xs) (omega arith) ∙ ap (take 8) (drop-drop (8 * i) 8 xs ∙ ap (λ n. drop n xs) e)

-- rows are the first m of those that stand from 4 on
pub row_at :
    (m i : ℕ) (head : List ℕ) (rows : List (List ℕ)) → i < m → 4 + 8 * m ≤ length head
    → rows ≡ first_chunks 8 (length (take (4 + 8 * m - 4) (drop 4 head)) / 8) (take (4 + 8 * m - 4) (drop 4 head))
    → get_or rows i [] ≡ between (4 + 8 * i) (4 + 8 * i + 8) head
row_at m i head rows h l e =
    let part : List ℕ = take (4 + 8 * m - 4) (drop 4 head) in
    let n : length part / 8 ≡ m = omega (arith, length-take (4 + 8 * m - 4) (drop 4 head), length-drop 4 head) in
    let a : drop (8 * i) part ≡ take (4 + 8 * m - 4 - 8 * i) (drop (8 * i) (drop 4 head)) = sym (between_is (drop 4 head) (8 * i) (4 + 8 * m - 4)) in
    let b : take 8 (take (4 + 8 * m - 4 - 8 * i) (drop (8 * i) (drop 4 head))) ≡ take 8 (drop (8 * i) (drop 4 head)) = take-take 8 (4 + 8 * m - 4 - 8 * i) _ (omega arith) in
    let w : 4 + 8 * i + 8 - (4 + 8 * i) ≡ 8 = omega arith in
    ap (λ v. get_or v i []) (e ∙ ap (λ k. first_chunks 8 k part) n)
    ∙ (chunk m i part h ∙ (ap (take 8) a ∙ (b ∙ (ap (take 8) (drop-drop (8 * i) 4 head) ∙ ap (λ k. take k (drop (4 + 8 * i) head)) (sym w)))))

-- What a head gives, by what its parts give. Assumes nothing.
use Rattle.std.proofs.Common.{◌≡◌, ℕ, ◌+◌, ◌-◌, ◌*◌, ◌≤◌, min, List, length, get_or, take, Ok, Result, sym, ap, ◌∙◌, inl, inr, arith}
use Rattle.std.proofs.lemmas.Bool.{cases_lt}
use Rattle.std.proofs.lemmas.List.{get_or-take, take_all, length-take}
use Rattle.refusals.specs.Reading.{Reading, and_then}
use Rattle.docket.specs.declared.Docket.{Docket}
use Rattle.certificate.specs.Contents.{Contents}
use Rattle.certificate.specs.Table.{read_rows, seals_end}
use Rattle.certificate.specs.Layout.{read_count, read_inner, ending, read_head, read_certificate}
use Rattle.certificate.specs.declared.table.Entry.{Entry}

abbrev steps : ℕ → ℕ → Result ℕ Reading → Result (List Entry) Reading → Result Docket Reading → Result Contents Reading
steps total m x y z = and_then x (λ _. and_then y (λ es. and_then z (λ d. ending total (seals_end (84 + 8 * m) es) (record { docket = d; entries = es }))))

-- m is byte 0, and n is m as the count was read
pub by_parts :
    (boxes total m n : ℕ) (head : List ℕ) (x : Result ℕ Reading) (y : Result (List Entry) Reading) (z : Result Docket Reading) → n ≡ m
    → x ≡ read_count total m head → y ≡ read_rows boxes n 4 0 (84 + 8 * n) head → z ≡ read_inner (4 + 8 * n) head
    → steps total n x y z ≡ read_head boxes total m head
unfolding read_head
by_parts boxes total m n head x y z k p q r =
    ap (λ v. steps total n v y z) p
    ∙ (ap (λ v. steps total n (read_count total m head) v z) q
    ∙ (ap (λ v. steps total n (read_count total m head) (read_rows boxes n 4 0 (84 + 8 * n) head) v) r
    ∙ ap (λ v. steps total v (read_count total m head) (read_rows boxes v 4 0 (84 + 8 * v) head) (read_inner (4 + 8 * v) head)) k))

-- r is the answer at the end of the seals
pub by_end :
    (boxes total m n end : ℕ) (head : List ℕ) (es : List Entry) (d : Docket) (r : Result Contents Reading) → n ≡ m
    → Ok n ≡ read_count total m head → Ok es ≡ read_rows boxes n 4 0 (84 + 8 * n) head → end ≡ seals_end (84 + 8 * n) es
    → Ok d ≡ read_inner (4 + 8 * n) head → r ≡ ending total end (record { docket = d; entries = es }) → r ≡ read_head boxes total m head
by_end boxes total m n end head es d r k p q e f h =
    h ∙ (ap (λ v. ending total v (record { docket = d; entries = es })) e ∙ by_parts boxes total m n head (Ok n) (Ok es) (Ok d) k p q f)

-- the head is as much of its length as the bytes have; n is its length
front : (n end : ℕ) (bs : List ℕ) → end ≡ min (length bs) n → take (end - 0) bs ≡ take n bs
front n end bs e =
    elim (cases_lt (length bs) n) [
      | inl short ↦ take_all (end - 0) bs (omega arith) ∙ sym (take_all n bs (omega arith))
      | inr long ↦ let w : end - 0 ≡ n = omega arith in ap (λ k. take k bs) w
    ]

first : (n : ℕ) (bs : List ℕ) → get_or (take (84 + 8 * n) bs) 0 0 ≡ get_or bs 0 0
first n bs = get_or-take (84 + 8 * n) bs 0 0 (omega arith)

pub head_fits :
    (end : ℕ) (bs : List ℕ) → end ≡ min (length bs) (84 + 8 * get_or bs 0 0)
    → min (length bs) (84 + 8 * get_or (take (end - 0) bs) 0 0) ≤ length (take (end - 0) bs)
head_fits end bs e =
    rw (front (84 + 8 * get_or bs 0 0) end bs e, first (get_or bs 0 0) bs) (omega (arith, length-take (84 + 8 * get_or bs 0 0) bs))

pub head_read :
    (boxes end : ℕ) (bs : List ℕ) → end ≡ min (length bs) (84 + 8 * get_or bs 0 0)
    → read_head boxes (length bs) (get_or (take (end - 0) bs) 0 0) (take (end - 0) bs) ≡ read_certificate boxes bs
unfolding read_certificate
head_read boxes end bs e = rw (front (84 + 8 * get_or bs 0 0) end bs e, first (get_or bs 0 0) bs)

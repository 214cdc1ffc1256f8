-- The writer: its loop, the buffer, and its answers. Assumes nothing.
use Rattle.std.proofs.Common.{◌≡◌, ℕ, ◌+◌, ◌-◌, ◌*◌, ◌<◌, ◌≤◌, min, true, false, ◌||◌, eqb, ltb, ◌⊎◌, List, [], ◌∷◌, ◌++◌, length, get_or, take, drop, Ok, Err, Result, sym, refl, ap, ◌∙◌, inl, inr, arith}
use Rattle.std.proofs.lemmas.Bool.{eq-eqb, lt-ltb, le-ltb, or_left, or_right, cond-true, cond-false}
use Rattle.std.proofs.lemmas.List.{append_assoc, append-nil, take-append-drop, at_drop_more, at_drop_all}
use Rattle.refusals.specs.Reading.{Reading, and_then, if_ok}
use Rattle.docket.specs.declared.Docket.{Docket}
use Rattle.docket.specs.Layout.{encoded, Sized}
use Rattle.certificate.specs.Contents.{Contents}
use Rattle.certificate.specs.Table.{malformed, row, rows}
use Rattle.certificate.specs.Layout.{read_count, read_head, read_certificate, head_of, contents_of, if_room, write_answer, write_buffer}
use Rattle.certificate.specs.declared.table.Signer.{Signer}
use Rattle.certificate.proofs.Head.{by_parts}
use Rattle.certificate.proofs.RoundTrip.{length_head, head_back, written_read}

-- the loop that writes the rows: `whole` is what the front holds in the end
pub rows_put :
    (i place p : ℕ) (head out part whole : List ℕ) (ss : List Signer) (d : Signer) → i < length ss → p ≡ place + (get_or ss i d).size
    → take (4 + 8 * i) head ++ rows place (drop i ss) ≡ whole → part ≡ row (get_or ss i d) place
    → take (4 + 8 * i + length part) out ≡ take (4 + 8 * i) head ++ part
    → take (4 + 8 * (i + 1)) out ++ rows p (drop (i + 1) ss) ≡ whole
rows_put i place p head out part whole ss d h g inv w f =
    let l : length part ≡ 8 = ap length w in
    let n : 4 + 8 * (i + 1) ≡ 4 + 8 * i + length part = omega arith in
    let q : List ℕ = rows (place + (get_or ss i d).size) (drop (i + 1) ss) in
    ap (λ v. take (4 + 8 * (i + 1)) out ++ rows v (drop (i + 1) ss)) g
    ∙ (ap (λ k. take k out ++ q) n
    ∙ (ap (λ x. x ++ q) (f ∙ ap (λ x. take (4 + 8 * i) head ++ x) w)
    ∙ (append_assoc (take (4 + 8 * i) head) (row (get_or ss i d) place) q
    ∙ (ap (λ x. take (4 + 8 * i) head ++ x) (sym (at_drop_more (rows place) ss i d h)) ∙ inv))))

pub rows_done :
    (i place : ℕ) (head whole : List ℕ) (ss : List Signer) → i ≡ length ss
    → take (4 + 8 * i) head ++ rows place (drop i ss) ≡ whole → take (4 + 8 * length ss) head ≡ whole
rows_done i place head whole ss e inv =
    ap (λ n. take (4 + 8 * n) head) (sym e)
    ∙ (sym (append-nil (take (4 + 8 * i) head)) ∙ (ap (λ x. take (4 + 8 * i) head ++ x) (sym (at_drop_all (rows place) ss i (omega arith))) ∙ inv))

-- the head, from its three parts
pub head_made :
    (d : Docket) (ss : List Signer) (h1 h2 h3 b : List ℕ) → take 4 h1 ≡ length ss ∷ 0 ∷ 0 ∷ 0 ∷ []
    → take (4 + 8 * length ss) h2 ≡ take 4 h1 ++ rows (84 + 8 * length ss) ss
    → take (4 + 8 * length ss + length b) h3 ≡ take (4 + 8 * length ss) h2 ++ b → b ≡ encoded d → length b ≡ 80
    → take (84 + 8 * length ss) h3 ≡ head_of d ss
unfolding head_of
head_made d ss h1 h2 h3 b e f g v l =
    let n : 84 + 8 * length ss ≡ 4 + 8 * length ss + length b = omega arith in
    let q : List ℕ = rows (84 + 8 * length ss) ss in
    ap (λ k. take k h3) n ∙ (g ∙ (ap (λ x. x ++ b) (f ∙ ap (λ x. x ++ q) e) ∙ ap (λ x. (length ss ∷ 0 ∷ 0 ∷ 0 ∷ []) ++ q ++ x) v))

abbrev full : List Signer → List ℕ → ℕ
full ss seals = 84 + 8 * length ss + length seals

no_count : (total m : ℕ) (head : List ℕ) → 4 ≤ total → (m ≡ 0) ⊎ ((m ≡ 0 → ⊥) × 13 < m) → malformed 0 ≡ read_count total m head
no_count total m head h w =
    let t : ltb total 4 ≡ false = le-ltb total 4 h in
    let b : (eqb m 0 || ltb 13 m) ≡ true = elim w [ inl none ↦ or_left _ _ (eq-eqb m 0 none) | inr many ↦ or_right _ _ (lt-ltb 13 m many.1) ] in
    sym (cond-false (ltb total 4) _ _ t ∙ cond-true (eqb m 0 || ltb 13 m) _ _ b)

pub write_count :
    (boxes : ℕ) (d : Docket) (ss : List Signer) (seals out : List ℕ) → (length ss ≡ 0) ⊎ ((length ss ≡ 0 → ⊥) × 13 < length ss)
    → malformed 0 ≡ write_answer boxes d ss seals out
unfolding write_answer
write_count boxes d ss seals out w =
    ap (λ x. and_then x (λ _. if_room (length out) (full ss seals)))
    (by_parts boxes (full ss seals) (length ss) (length ss) (head_of d ss) (malformed 0) _ _ refl (no_count _ (length ss) (head_of d ss) (omega arith) w) refl refl)

-- h is the head, as it is handed to the reader
pub is_head : (d : Docket) (ss : List Signer) (made : List ℕ) → take (84 + 8 * length ss) made ≡ head_of d ss → take (84 + 8 * length ss - 0) made ≡ head_of d ss
is_head d ss made e = let z : 84 + 8 * length ss - 0 ≡ 84 + 8 * length ss = omega arith in ap (λ n. take n made) z ∙ e

pub head_long : (total : ℕ) (d : Docket) (ss : List Signer) (h : List ℕ) → Sized d → h ≡ head_of d ss → min total (84 + 8 * get_or h 0 0) ≤ length h
unfolding head_of
head_long total d ss h z e =
    let f : get_or h 0 0 ≡ length ss = ap (λ x. get_or x 0 0) e in
    let l : length h ≡ 84 + 8 * length ss = ap length e ∙ length_head d ss z in
    omega arith

of_head :
    (boxes total : ℕ) (d : Docket) (ss : List Signer) (h : List ℕ) (x : Result Contents Reading) → h ≡ head_of d ss
    → x ≡ read_head boxes total (get_or h 0 0) h → x ≡ read_head boxes total (length ss) (head_of d ss)
unfolding head_of
of_head boxes total d ss h x e f = f ∙ ap (λ v. read_head boxes total (get_or v 0 0) v) e

-- what the writer answers, by what the reader and the room for it say
pub write_by :
    (boxes : ℕ) (d : Docket) (ss : List Signer) (seals out h : List ℕ) (x : Result Contents Reading) (y : Result ℕ Reading) → h ≡ head_of d ss
    → x ≡ read_head boxes (84 + 8 * length ss + length seals) (get_or h 0 0) h → y ≡ if_room (length out) (84 + 8 * length ss + length seals)
    → and_then x (λ _. y) ≡ write_answer boxes d ss seals out
unfolding write_answer
write_by boxes d ss seals out h x y e f g =
    ap (λ v. and_then v (λ _. y)) (of_head boxes (full ss seals) d ss h x e f)
    ∙ ap (λ v. and_then (read_head boxes (full ss seals) (length ss) (head_of d ss)) (λ _. v)) g

pub buffer_same :
    (boxes : ℕ) (d : Docket) (ss : List Signer) (seals out : List ℕ) (f : Reading) → Err f ≡ write_answer boxes d ss seals out
    → out ≡ write_buffer boxes d ss seals out
unfolding write_buffer
buffer_same boxes d ss seals out f e = ap (λ x. if_ok x (λ n. head_of d ss ++ seals ++ drop n out) out) e

-- o is the buffer after the n bytes are put at its start
pub buffer_written :
    (boxes n : ℕ) (d : Docket) (ss : List Signer) (seals out o h : List ℕ) → Sized d → h ≡ head_of d ss → n ≡ 84 + 8 * length ss + length seals
    → Ok n ≡ write_answer boxes d ss seals out → take (length h + length seals) o ≡ h ++ seals
    → drop (length h + length seals) o ≡ drop (length h + length seals) out → o ≡ write_buffer boxes d ss seals out
unfolding write_buffer
buffer_written boxes n d ss seals out o h z e k a f r =
    let l : length h + length seals ≡ n = omega (arith, ap length e ∙ length_head d ss z) in
    sym (take-append-drop (length h + length seals) o)
    ∙ (ap (λ x. x ++ drop (length h + length seals) o) f
    ∙ (ap (λ x. h ++ seals ++ x) r
    ∙ (ap (λ v. h ++ seals ++ drop v out) l
    ∙ (ap (λ v. v ++ seals ++ drop n out) e ∙ ap (λ x. if_ok x (λ m. head_of d ss ++ seals ++ drop m out) out) a))))

pub written_back :
    (boxes n : ℕ) (d : Docket) (ss : List Signer) (seals o h : List ℕ) (k : Contents) → Sized d → h ≡ head_of d ss
    → n ≡ 84 + 8 * length ss + length seals → Ok k ≡ read_head boxes (84 + 8 * length ss + length seals) (get_or h 0 0) h
    → take (length h + length seals) o ≡ h ++ seals → read_certificate boxes (take n o) ≡ Ok (contents_of d ss)
written_back boxes n d ss seals o h k z e m f p =
    let l : length h + length seals ≡ n = omega (arith, ap length e ∙ length_head d ss z) in
    let t : take n o ≡ head_of d ss ++ seals = ap (λ v. take v o) (sym l) ∙ (p ∙ ap (λ v. v ++ seals) e) in
    let r : Ok k ≡ read_head boxes (full ss seals) (length ss) (head_of d ss) = of_head boxes (full ss seals) d ss h (Ok k) e f in
    ap (read_certificate boxes) t ∙ (written_read boxes d ss seals z ∙ (sym r ∙ ap Ok (head_back boxes (full ss seals) d ss k z (sym r))))

-- What is written reads back equal, and what is read is written as the same bytes. Assumes nothing.
use Rattle.std.proofs.Common.{◌≡◌, ℕ, suc, ◌+◌, ◌-◌, ◌*◌, ◌/◌, ◌%◌, ◌<◌, ◌≤◌, List, [], ◌∷◌, ◌++◌, map, length, get_or, take, drop, IfOk, Ok, Err, Result, sym, refl, ap, ◌∙◌, subst, arith, take-add}
use Rattle.std.specs.Int.{w32, to_be_bytes}
use Rattle.std.specs.List.{between}
use Rattle.std.proofs.lemmas.List.{append_assoc, take_at, drop_at, take_all, take-append-drop, length-append, length-map, length-take-le, length-drop, drop-drop, get_or-take}
use Rattle.std.proofs.lemmas.List.Edits.{length-between}
use Rattle.docket.specs.declared.Docket.{Docket}
use Rattle.docket.specs.Layout.{encoded, Sized, read_docket}
use Rattle.docket.proofs.RoundTrip.{digits4, take_bytes, drop_bytes, read_encoded, length_encoded, read_written}
use Rattle.certificate.specs.Contents.{Contents, contents}
use Rattle.certificate.specs.Table.{entry_of, placed, row, rows}
use Rattle.certificate.specs.Layout.{seen, read_head, read_certificate, Accepted, head_of, laid_out, contents_of}
use Rattle.certificate.specs.declared.faults.CertificateFault.{CertificateFault}
use Rattle.certificate.specs.declared.value.Certificate.{Certificate}
use Rattle.certificate.specs.declared.table.Entry.{Entry}
use Rattle.certificate.specs.declared.table.Signer.{Signer}
use Rattle.certificate.proofs.Parts.{part, bytes_between, spelled, spell}
use Rattle.certificate.proofs.Accepted.{Good, AllGood, AcceptedHead, accepted_head, whole_head, accepted}

-- the bytes of an entry that was read are those that it was read from
cells : (a z z' x x' y y' : ℕ) (q q' : List ℕ) → z ≡ z' → x ≡ x' → y ≡ y' → q ≡ q' → a ∷ z ∷ x ∷ y ∷ q ≡ a ∷ z' ∷ x' ∷ y' ∷ q'
cells a z z' x x' y y' q q' e f g h = cc

row_same :
    (boxes least place : ℕ) (r : List ℕ) (e : Entry) → length r ≡ 8 → ((i : ℕ) → get_or r i 0 < 256) → Good boxes least place r e
    → row e.signer place ≡ r
row_same boxes least place r e l b g =
    let w : r ≡ spelled 8 0 r = sym (take_all 8 r (omega arith)) ∙ spell 8 0 r (omega arith) in
    let x : (get_or r 2 0 * 256 + get_or r 3 0) / 256 ≡ get_or r 2 0 = omega (arith, b 3) in
    let y : (get_or r 2 0 * 256 + get_or r 3 0) % 256 ≡ get_or r 3 0 = omega (arith, b 3) in
    let l4 : 4 ≤ length (drop 4 r) = omega (arith, length-drop 4 r) in
    let q : to_be_bytes w32 place ≡ spelled 4 4 r =
    ap (to_be_bytes w32) (sym g.starts ∙ ap (λ v. v.place) g.is) ∙ (digits4 (drop 4 r) (drop_bytes 4 r b) l4 ∙ spell 4 4 r (omega arith)) in
    ap (λ v. row v.signer place) g.is ∙ (cells (get_or r 0 0) 0 (get_or r 1 0) _ _ _ _ _ _ (sym g.blank) x y q ∙ sym w)

rows_same :
    (boxes at least place : ℕ) (head : List ℕ) (es : List Entry) → ((i : ℕ) → get_or head i 0 < 256) → at + 8 * length es ≤ length head
    → AllGood boxes at least place head es → rows place (map (λ e. e.signer) es) ≡ take (8 * length es) (drop at head)
rows_same boxes at least place head [] b l g = refl
rows_same boxes at least place head (e ∷ es) b l g =
    let n : 8 * suc (length es) ≡ 8 + 8 * length es = omega arith in
    let j : (at + 8) - at ≡ 8 = omega arith in
    let r : row e.signer place ≡ between at (at + 8) head =
    row_same boxes least place _ e (length-between head at (at + 8) (omega arith) ∙ j) (bytes_between head at (at + 8) b) g.0 in
    let i : rows (place + e.signer.size) (map (λ x. x.signer) es) ≡ take (8 * length es) (drop (at + 8) head) =
    rows_same boxes (at + 8) _ (place + e.signer.size) head es b (omega arith) g.1 in
    ap (λ x. x ++ rows (place + e.signer.size) (map (λ x. x.signer) es)) (r ∙ part head at 8)
    ∙ (ap (λ x. take 8 (drop at head) ++ x) (i ∙ ap (take (8 * length es)) (sym (drop-drop 8 at head)))
    ∙ (sym (take-add 8 (8 * length es) (drop at head)) ∙ ap (λ k. take k (drop at head)) (sym n)))

first4 : (m a b c d : ℕ) → a ≡ m → b ≡ 0 → c ≡ 0 → d ≡ 0 → m ∷ 0 ∷ 0 ∷ 0 ∷ [] ≡ a ∷ b ∷ c ∷ d ∷ []
first4 m a b c d e f g h = cc

-- head has 84 + 8 m bytes, the first of them m
head_same :
    (boxes total m : ℕ) (head : List ℕ) (k : Contents) → ((i : ℕ) → get_or head i 0 < 256) → length head ≡ 84 + 8 * m → get_or head 0 0 ≡ m
    → AcceptedHead boxes total m head k → head_of k.docket (map (λ e. e.signer) k.entries) ≡ head
unfolding head_of
head_same boxes total m head k b l f a =
    let n : length (map (λ e. e.signer) k.entries) ≡ m = length-map k.entries (λ e. e.signer) ∙ a.number in
    let r : rows (84 + 8 * m) (map (λ e. e.signer) k.entries) ≡ take (8 * m) (drop 4 head) =
    rows_same boxes 4 0 (84 + 8 * m) head k.entries b (omega (arith, a.number)) a.entries ∙ ap (λ j. take (8 * j) (drop 4 head)) a.number in
    let d : encoded k.docket ≡ drop (4 + 8 * m) head =
    read_encoded _ k.docket (bytes_between head (4 + 8 * m) (4 + 8 * m + 80) b) a.docket
    ∙ (part head (4 + 8 * m) 80 ∙ take_all 80 (drop (4 + 8 * m) head) (omega (arith, length-drop (4 + 8 * m) head))) in
    let c = a.count in
    let s : m ∷ 0 ∷ 0 ∷ 0 ∷ [] ≡ take 4 head = first4 m _ _ _ _ f c.blank1 c.blank2 c.blank3 ∙ sym (spell 4 0 head (omega arith)) in
    let ss : List Signer = map (λ e. e.signer) k.entries in
    ap (λ j. (j ∷ 0 ∷ 0 ∷ 0 ∷ []) ++ rows (84 + 8 * j) ss ++ encoded k.docket) n
    ∙ (ap (λ x. x ++ rows (84 + 8 * m) ss ++ encoded k.docket) s
    ∙ (ap (λ x. take 4 head ++ x ++ encoded k.docket) r
    ∙ (ap (λ x. take 4 head ++ take (8 * m) (drop 4 head) ++ x) d
    ∙ (ap (λ x. x ++ drop (4 + 8 * m) head) (sym (take-add 4 (8 * m) head)) ∙ take-append-drop (4 + 8 * m) head))))

-- what is read is written as the same bytes
pub same_bytes :
    (boxes : ℕ) (bs : List ℕ) (k : Contents) → ((i : ℕ) → get_or bs i 0 < 256) → read_certificate boxes bs ≡ Ok k
    → laid_out k (drop (84 + 8 * length k.entries) bs) ≡ bs
same_bytes boxes bs k b h =
    let a = whole_head boxes bs k h in
    let m : ℕ = get_or bs 0 0 in
    let n : length k.entries ≡ get_or bs 0 0 = a.number in
    let l : length (take (84 + 8 * get_or bs 0 0) bs) ≡ 84 + 8 * get_or bs 0 0 = length-take-le (84 + 8 * get_or bs 0 0) bs a.count.whole in
    let f : get_or (take (84 + 8 * get_or bs 0 0) bs) 0 0 ≡ get_or bs 0 0 = get_or-take (84 + 8 * get_or bs 0 0) bs 0 0 (omega arith) in
    let t = head_same boxes (length bs) m (take (84 + 8 * m) bs) k (take_bytes (84 + 8 * m) bs b) l f a in
    ap (λ x. x ++ drop (84 + 8 * length k.entries) bs) t
    ∙ (ap (λ j. take (84 + 8 * m) bs ++ drop (84 + 8 * j) bs) n ∙ take-append-drop (84 + 8 * m) bs)

-- the same of the reader's answer
pub answer_same :
    (boxes : ℕ) (bs : List ℕ) (r : Result Certificate CertificateFault) → ((i : ℕ) → get_or bs i 0 < 256) → seen r ≡ read_certificate boxes bs
    → IfOk r (λ c. laid_out (contents c) (drop (84 + 8 * length (contents c).entries) bs) ≡ bs)
answer_same boxes bs (Ok c) b h = same_bytes boxes bs (contents c) b (sym h)
answer_same boxes bs (Err f) b h = tt

pub answer_accepted : (boxes : ℕ) (bs : List ℕ) (r : Result Certificate CertificateFault) → seen r ≡ read_certificate boxes bs → IfOk r (λ c. Accepted boxes bs (contents c))
answer_accepted boxes bs (Ok c) h = accepted boxes bs (contents c) (sym h)
answer_accepted boxes bs (Err f) h = tt

length_rows : (place : ℕ) (ss : List Signer) → length (rows place ss) ≡ 8 * length ss
length_rows place [] = refl
length_rows place (s ∷ ss) = omega (arith, length_rows (place + s.size) ss)

same_signer : (s : Signer) (size : ℕ) → size ≡ s.size → record { number = s.number; size = size } ≡ s
same_signer s size h = let f : ℕ → Signer = λ n. record { number = s.number; size = n } in ap f h

same_entry : (e : Entry) (s : Signer) (place : ℕ) → e.signer ≡ s → e.place ≡ place → e ≡ record { signer = s; place = place }
same_entry e s place h g =
    let f : Signer → ℕ → Entry = λ v p. record { signer = v; place = p } in
    ap (λ v. f v e.place) h ∙ ap (f s) g

-- the entries read from the bytes of `ss`, which stand between pre and post, are those of `ss`
placed_back :
    (boxes at least place : ℕ) (pre post head : List ℕ) (ss : List Signer) (es : List Entry) → length pre ≡ at
    → head ≡ pre ++ rows place ss ++ post → length es ≡ length ss → AllGood boxes at least place head es → es ≡ placed place ss
placed_back boxes at least place pre post head [] [] l h n g = refl
placed_back boxes at least place pre post head [] (e ∷ es) l h n g = absurd (omega arith)
placed_back boxes at least place pre post head (s ∷ ss) [] l h n g = absurd (omega arith)
placed_back boxes at least place pre post head (s ∷ ss) (e ∷ es) l h n g =
    let q : List ℕ = rows (place + s.size) ss in
    let h1 : head ≡ pre ++ (row s place ++ (q ++ post)) = h ∙ (append_assoc pre (row s place ++ q) post ∙ ap (λ x. pre ++ x) (append_assoc (row s place) q post)) in
    let r : between at (at + 8) head ≡ row s place = part head at 8 ∙ ap (take 8) (ap (drop at) h1 ∙ drop_at pre (row s place ++ (q ++ post)) at l) in
    let z : s.size / 256 * 256 + s.size % 256 ≡ s.size = omega arith in
    let i : e.signer ≡ s = ap (λ v. v.signer) (g.0.is ∙ ap entry_of r) ∙ same_signer s _ z in
    let h2 : head ≡ pre ++ row s place ++ q ++ post = h ∙ ap (λ x. x ++ post) (sym (append_assoc pre (row s place) q)) in
    let t = placed_back boxes (at + 8) _ (place + s.size) (pre ++ row s place) post head ss es (length-append pre (row s place) ∙ ap (λ x. x + 8) l) h2 (omega arith)
    (subst (λ v. AllGood boxes (at + 8) (e.signer.number + 1) (place + v.size) head es) i g.1) in
    ap (λ v. v ∷ es) (same_entry e s place i g.0.starts) ∙ ap (λ v. record { signer = s; place = place } ∷ v) t

pub length_head : (d : Docket) (ss : List Signer) → Sized d → length (head_of d ss) ≡ 84 + 8 * length ss
unfolding head_of
length_head d ss z =
    simp length-append (omega (arith, length_rows (84 + 8 * length ss) ss, length_encoded d z))

same_contents : (k : Contents) (d : Docket) (es : List Entry) → k.docket ≡ d → k.entries ≡ es → k ≡ record { docket = d; entries = es }
same_contents k d es h g =
    let f : Docket → List Entry → Contents = λ x ys. record { docket = x; entries = ys } in
    ap (λ x. f x k.entries) h ∙ ap (f d) g

-- what is written is read as it was, if at all
pub head_back : (boxes total : ℕ) (d : Docket) (ss : List Signer) (k : Contents) → Sized d → read_head boxes total (length ss) (head_of d ss) ≡ Ok k → k ≡ contents_of d ss
unfolding head_of
head_back boxes total d ss k z h =
    let a = accepted_head boxes total (length ss) (head_of d ss) k h in
    let pre : List ℕ = length ss ∷ 0 ∷ 0 ∷ 0 ∷ [] in
    let q : List ℕ = rows (84 + 8 * length ss) ss in
    let l : length (pre ++ q) ≡ 4 + 8 * length ss = omega (arith, length_rows (84 + 8 * length ss) ss) in
    let e : between (4 + 8 * length ss) (4 + 8 * length ss + 80) (head_of d ss) ≡ encoded d =
    part (head_of d ss) (4 + 8 * length ss) 80
    ∙ (ap (take 80) (drop_at (pre ++ q) (encoded d) (4 + 8 * length ss) l) ∙ take_all 80 (encoded d) (omega (arith, length_encoded d z))) in
    same_contents k d _ (read_written d k.docket z (ap read_docket (sym e) ∙ a.docket))
    (placed_back boxes 4 0 (84 + 8 * length ss) pre (encoded d) (head_of d ss) ss k.entries refl refl a.number a.entries)

-- reading what is written reads its head
pub written_read :
    (boxes : ℕ) (d : Docket) (ss : List Signer) (seals : List ℕ) → Sized d
    → read_certificate boxes (head_of d ss ++ seals) ≡ read_head boxes (84 + 8 * length ss + length seals) (length ss) (head_of d ss)
unfolding read_certificate head_of
written_read boxes d ss seals z =
    let l = length_head d ss z in
    ap (λ n. read_head boxes n (length ss) (take (84 + 8 * length ss) (head_of d ss ++ seals))) (length-append (head_of d ss) seals ∙ ap (λ n. n + length seals) l)
    ∙ ap (read_head boxes (84 + 8 * length ss + length seals) (length ss)) (take_at (head_of d ss) seals (84 + 8 * length ss) l)

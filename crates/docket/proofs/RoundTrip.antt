-- What is written reads back equal, and what is read is written as the same bytes. Assumes nothing.
use Rattle.std.proofs.Common.{◌≡◌, ℕ, ◌+◌, ◌/◌, ◌<◌, ◌≤◌, Bool, true, false, ◌&&◌, eqb, List, [], ◌∷◌, ◌++◌, length, get_or, take, drop, Some, None, Ok, Decides, Option, sym, refl, ap, subst, nat_eq, ◌∙◌, arith, inl, inr, lit<, lit≤}
use Rattle.std.specs.Int.{w32, w64, to_be_bytes, from_be_bytes}
use Rattle.std.specs.Simd.{first_chunks}
use Rattle.std.specs.Str.{bytes_eq}
use Rattle.std.proofs.lemmas.Nat.{from_be_bytes-to_be_bytes_4, from_be_bytes-to_be_bytes_8, be_bytes_4, be_bytes_8}
use Rattle.std.proofs.lemmas.Slice.{between_is}
use Rattle.std.proofs.lemmas.Slice.Eq.{bytes_eq-Decides}
use Rattle.std.proofs.lemmas.List.{drop_more, drop-drop, drop_all, take-append-drop, take-take, length-take, get_or-take, get_or-drop, get_or_past, append_assoc, take_at, drop_at, take_all, length-append}
use Rattle.std.specs.List.{between}
use Rattle.std.proofs.lemmas.List.Edits.{length-between, get_or-between}
use Rattle.std.proofs.lemmas.Bool.{cases_lt, and_parts, eqb-true, eq-eqb}
use Rattle.std.proofs.lemmas.Bool.Decides.{nat_tests, Decides-eqb, same_from_decides}
use Rattle.std.specs.Cmp.Derive.{both_true}
use Rattle.std.specs.Cmp.Lexicographic.{pointwise_decides}
use Rattle.refusals.proofs.Steps.{never, ok_if}
use Rattle.docket.proofs.Answered.{read_by_place}
use Rattle.docket.specs.declared.Docket.{Docket}
use Rattle.docket.specs.contracts.DocketPartialEq.TheImpl as derived
use Rattle.docket.specs.Layout.{blank, wrong_place, unless_wrong, same_fields, decoded, encoded, Sized, read_docket}

-- every element of a list of bytes is a byte
abbrev pub AreBytes : List ℕ → Type 0
AreBytes bs = (k : ℕ) → get_or bs k 0 < 256

pub take_bytes : (n : ℕ) (bs : List ℕ) → AreBytes bs → AreBytes (take n bs)
take_bytes n bs b k =
    elim (cases_lt k n) [
      | inl less ↦ rw (get_or-take n bs k 0 less) (b k)
      | inr more ↦ let l = length-take n bs in rw (get_or_past (take n bs) k 0 (omega arith)) (lit< tt)
    ]

pub drop_bytes : (n : ℕ) (bs : List ℕ) → AreBytes bs → AreBytes (drop n bs)
drop_bytes n bs b k = rw (get_or-drop n bs k 0) (b (n + k))

-- four bytes that are read as a number are written as they were
pub digits4 : (bs : List ℕ) → AreBytes bs → 4 ≤ length bs → to_be_bytes w32 (from_be_bytes w32 bs) ≡ take 4 bs
digits4 bs b h =
    let g : (i : ℕ) → i < 4 → get_or (take 4 bs) i 0 ≡ get_or bs i 0 = λ i l. get_or-take 4 bs i 0 l in
    be_bytes_4 (take 4 bs) _ (simp length-take (omega arith)) (take_bytes 4 bs b) (simp (g 0 (lit< tt), g 1 (lit< tt), g 2 (lit< tt), g 3 (lit< tt)))

-- what lies up to i, and between i and j
joined : (xs : List ℕ) (i j : ℕ) → i ≤ j → take i xs ++ between i j xs ≡ take j xs
joined xs i j h = rw (between_is xs i j) (subst (λ front. front ++ drop i (take j xs) ≡ take j xs) (take-take i j xs h) (take-append-drop i (take j xs)))

-- the reserved bytes, where they are blank
reserved : (bs : List ℕ) → length bs ≡ 80 → blank (between 6 8 bs) ≡ true → between 4 8 bs ≡ get_or bs 4 0 ∷ get_or bs 5 0 ∷ 0 ∷ 0 ∷ []
reserved bs h e =
    let more : (i : ℕ) → i < 8 → drop i bs ≡ get_or bs i 0 ∷ drop (i + 1) bs = λ i l. drop_more bs i 0 (omega arith) in
    let f : between 6 8 bs ≡ get_or bs 6 0 ∷ get_or bs 7 0 ∷ [] = cc (more 6 (lit< tt), more 7 (lit< tt)) in
    let g : (eqb (get_or bs 6 0) 0 && (eqb (get_or bs 7 0) 0 && true)) ≡ true = sym (ap blank f) ∙ e in
    let p = and_parts (eqb (get_or bs 6 0) 0) (eqb (get_or bs 7 0) 0 && true) g in
    let q = and_parts (eqb (get_or bs 7 0) 0) true p.1 in
    cc (eqb-true _ _ p.0, eqb-true _ _ q.0, more 4 (lit< tt), more 5 (lit< tt), more 6 (lit< tt), more 7 (lit< tt))

-- what is read is written as the same bytes
pub same_bytes : (bs : List ℕ) → AreBytes bs → length bs ≡ 80 → blank (between 6 8 bs) ≡ true → encoded (decoded bs) ≡ bs
unfolding encoded decoded
same_bytes bs b h e =
    let p = digits4 bs b (omega arith) in
    let q : to_be_bytes w64 (from_be_bytes w64 (between 8 16 bs)) ≡ between 8 16 bs
    = be_bytes_8 (between 8 16 bs) _ (length-between bs 8 16 (omega arith)) (take_bytes 8 (drop 8 bs) (drop_bytes 8 bs b)) refl in
    let all : take 80 bs ≡ bs = take_all 80 bs (omega arith) in
    cc (p, q, reserved bs h e, joined bs 4 8 (lit≤ tt), joined bs 8 16 (lit≤ tt), joined bs 16 32 (lit≤ tt), joined bs 32 48 (lit≤ tt), joined bs 48 64 (lit≤ tt), joined bs 64 80 (lit≤ tt), all)

quarters :
    (a b c d : List ℕ) → length a ≡ 16 → length b ≡ 16 → length c ≡ 16 → length d ≡ 16
    → (take 16 (a ++ b ++ c ++ d) ≡ a) × (take 16 (drop 16 (a ++ b ++ c ++ d)) ≡ b)
    × (take 16 (drop 32 (a ++ b ++ c ++ d)) ≡ c) × (take 16 (drop 48 (a ++ b ++ c ++ d)) ≡ d)
quarters a b c d la lb lc ld =
    let e : a ++ b ++ c ++ d ≡ a ++ (b ++ (c ++ d)) = append_assoc (a ++ b) c d ∙ append_assoc a b (c ++ d) in
    let d1 : drop 16 (a ++ b ++ c ++ d) ≡ b ++ (c ++ d) = ap (drop 16) e ∙ drop_at a (b ++ (c ++ d)) 16 la in
    let d2 : drop 32 (a ++ b ++ c ++ d) ≡ c ++ d = sym (drop-drop 16 16 (a ++ b ++ c ++ d)) ∙ (ap (drop 16) d1 ∙ drop_at b (c ++ d) 16 lb) in
    let d3 : drop 48 (a ++ b ++ c ++ d) ≡ d = sym (drop-drop 16 32 (a ++ b ++ c ++ d)) ∙ (ap (drop 16) d2 ∙ drop_at c d 16 lc) in
    let whole : take 16 d ≡ d = take_all 16 d (omega arith) in
    (ap (take 16) e ∙ take_at a (b ++ (c ++ d)) 16 la, ap (take 16) d1 ∙ take_at b (c ++ d) 16 lb, ap (take 16) d2 ∙ take_at c d 16 lc, ap (take 16) d3 ∙ whole)

lines_of : (ls : List (List ℕ)) → length ls ≡ 4 → ls ≡ get_or ls 0 [] ∷ get_or ls 1 [] ∷ get_or ls 2 [] ∷ get_or ls 3 [] ∷ []
lines_of ls h =
    let z : drop 4 ls ≡ [] = drop_all 4 ls (omega arith) in
    let more : (i : ℕ) → i < 4 → drop i ls ≡ get_or ls i [] ∷ drop (i + 1) ls = λ i l. drop_more ls i [] (omega arith) in
    cc (more 0 (lit< tt), more 1 (lit< tt), more 2 (lit< tt), more 3 (lit< tt))

same_docket :
    {p a k n p' a' k' n' : ℕ} {ls ls' : List (List ℕ)} → p ≡ p' → a ≡ a' → k ≡ k' → n ≡ n' → ls ≡ ls'
    → ◌≡◌ {A = Docket} (record { pool = p; account = a; count = k; number = n; lines = ls }) (record { pool = p'; account = a'; count = k'; number = n'; lines = ls' })
same_docket e f g h i = simp (e, f, g, h, i)

-- what is written reads back equal
pub reads_back : (d : Docket) → Sized d → decoded (encoded d) ≡ d
unfolding encoded decoded
reads_back d s =
    let q = quarters (get_or d.lines 0 []) (get_or d.lines 1 []) (get_or d.lines 2 []) (get_or d.lines 3 []) s.3 s.4 s.5 s.6 in
    let l = lines_of d.lines s.2 in
    let p = from_be_bytes-to_be_bytes_4 d.pool s.0 in
    let n = from_be_bytes-to_be_bytes_8 d.number s.1 in
    same_docket p refl refl n (cc)

clear_since : (d : Docket) (clear : Bool) → None ≡ wrong_place d clear → clear ≡ true
clear_since d true e = refl
clear_since d false e = grind (arith, nat_tests)

-- a well-formed reading, as its parts
pub read_same :
    (bs : List ℕ) (d : Docket) (clear : Bool) → AreBytes bs → length bs ≡ 80 → d ≡ decoded bs
    → clear ≡ blank (between 6 8 bs) → None ≡ wrong_place d clear → encoded d ≡ bs
read_same bs d clear b h e f g =
    ap encoded e ∙ same_bytes bs b h (sym f ∙ clear_since d clear g)

clear_encoded : (d : Docket) → true ≡ blank (between 6 8 (encoded d))
unfolding encoded
clear_encoded d = refl

eight : (bs : List ℕ) → from_be_bytes w64 (get_or bs 8 0 ∷ get_or bs 9 0 ∷ get_or bs 10 0 ∷ get_or bs 11 0 ∷ get_or bs 12 0 ∷ get_or bs 13 0 ∷ get_or bs 14 0 ∷ get_or bs 15 0 ∷ []) ≡ from_be_bytes w64 (between 8 16 bs)
eight bs =
    let g : (k : ℕ) → 8 + k < 16 → get_or (between 8 16 bs) k 0 ≡ get_or bs (8 + k) 0 = λ k h. get_or-between bs 8 16 k 0 h in
    simp (g 0 (lit< tt), g 1 (lit< tt), g 2 (lit< tt), g 3 (lit< tt), g 4 (lit< tt), g 5 (lit< tt), g 6 (lit< tt), g 7 (lit< tt))

-- what is read from the first row, and the four rows behind it
pub decoded_by :
    (bs : List ℕ) (rows : List (List ℕ)) (p n : ℕ) → length bs ≡ 80 → rows ≡ first_chunks 16 (length bs / 16) bs
    → p ≡ from_be_bytes w32 bs
    → n ≡ from_be_bytes w64 (get_or bs 8 0 ∷ get_or bs 9 0 ∷ get_or bs 10 0 ∷ get_or bs 11 0 ∷ get_or bs 12 0 ∷ get_or bs 13 0 ∷ get_or bs 14 0 ∷ get_or bs 15 0 ∷ [])
    → ◌≡◌ {A = Docket} (record {
      pool = p;
      account = get_or bs 4 0;
      count = get_or bs 5 0;
      number = n;
      lines = get_or rows 1 [] ∷ get_or rows 2 [] ∷ get_or rows 3 [] ∷ get_or rows 4 [] ∷ [];
    }) (decoded bs)
unfolding decoded
decoded_by bs rows p n h r e f =
    let five : rows ≡ first_chunks 16 5 bs = r ∙ ap (λ k. first_chunks 16 (k / 16) bs) h in
    same_docket e refl refl (f ∙ eight bs) (rw five (simp (drop-drop)))

-- what is laid out is read back
pub reads :
    (d : Docket) (part front : List ℕ) → Sized d → None ≡ wrong_place d true → part ≡ encoded d → length part ≡ 80
    → front ≡ encoded d → read_docket front ≡ Ok d
reads d part front s w e l f =
    ap read_docket f ∙ sym (read_by_place (encoded d) d true None (ap length (sym e) ∙ l) (sym (reads_back d s)) (clear_encoded d) w)

-- what a reading says
pub record Read (bs : List ℕ) (d : Docket) : Type 0 where
  pub long : length bs ≡ 80
  pub is : d ≡ decoded bs
  pub fine : None ≡ wrong_place d (blank (between 6 8 bs))

unless_none : (x d : Docket) (o : Option ℕ) → unless_wrong x o ≡ Ok d → (d ≡ x) × (None ≡ o)
unless_none x d None h = (cc, refl)
unless_none x d (Some place) h = absurd (never _ d h)

pub read_says : (bs : List ℕ) (d : Docket) → read_docket bs ≡ Ok d → Read bs d
unfolding read_docket
read_says bs d h =
    let p = ok_if _ _ _ d h in
    let q = unless_none (decoded bs) d _ p.1 in
    record { long = eqb-true _ _ p.0; is = q.0; fine = q.1 ∙ ap (λ x. wrong_place x (blank (between 6 8 bs))) (sym q.0) }

-- what is read is written as the same bytes
pub read_encoded : (bs : List ℕ) (d : Docket) → AreBytes bs → read_docket bs ≡ Ok d → encoded d ≡ bs
read_encoded bs d b h = let r = read_says bs d h in read_same bs d _ b r.long r.is refl r.fine

pub length_encoded : (d : Docket) → Sized d → length (encoded d) ≡ 80
unfolding encoded
length_encoded d s = simp length-append (omega arith)

-- what is written is read as it was, if at all
pub read_written : (d e : Docket) → Sized d → read_docket (encoded d) ≡ Ok e → e ≡ d
read_written d e s h = (read_says (encoded d) e h).is ∙ reads_back d s

-- all fields are equal exactly where the dockets are
fields_tell : (x y : Docket) → same_fields x y ≡ true → x ≡ y
fields_tell x y h =
    let p = and_parts (nat_eq x.pool y.pool) _ h in
    let a = and_parts (nat_eq x.account y.account) _ p.1 in
    let k = and_parts (nat_eq x.count y.count) _ a.1 in
    let n = and_parts (nat_eq x.number y.number) _ k.1 in
    let ep : x.pool ≡ y.pool = eqb-true _ _ p.0 in
    let ea : x.account ≡ y.account = eqb-true _ _ a.0 in
    let ek : x.count ≡ y.count = eqb-true _ _ k.0 in
    let en : x.number ≡ y.number = eqb-true _ _ n.0 in
    let el : x.lines ≡ y.lines = (pointwise_decides (pointwise_decides Decides-eqb) x.lines y.lines).0 n.1 in
    same_docket ep ea ek en el

fields_own : (x : Docket) → same_fields x x ≡ true
fields_own x =
    both_true (eq-eqb x.pool x.pool refl) (both_true (eq-eqb x.account x.account refl) (both_true (eq-eqb x.count x.count refl) (both_true (eq-eqb x.number x.number refl)
    ((pointwise_decides (pointwise_decides Decides-eqb) x.lines x.lines).1 refl))))

pub fields_decide : (x y : Docket) → Decides (same_fields x y) (x ≡ y)
fields_decide x y = (fields_tell x y, λ e. subst (λ z. same_fields x z ≡ true) e (fields_own x))

-- `==` compares all fields
pub equal_fields : (x y : Docket) → (derived.ghosts).eq x y ≡ same_fields x y
equal_fields x y = refl

-- dockets are equal exactly where their bytes are
pub same_from_bytes : (x y : Docket) → Sized x → Sized y → bytes_eq (encoded x) (encoded y) ≡ same_fields x y
same_from_bytes x y s t =
    let told = bytes_eq-Decides (encoded x) (encoded y) in
    same_from_decides _ _ (λ q. sym (reads_back x s) ∙ (ap decoded (told.0 q) ∙ reads_back y t), λ q. told.1 (ap encoded q)) (fields_decide x y)

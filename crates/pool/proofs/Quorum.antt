-- Two quorums share a box that is not faulty, whatever the count of boxes. Assumes nothing.
use Rattle.std.proofs.Common.{◌≡◌, ℕ, zero, suc, ◌+◌, ◌<◌, ◌≤◌, Bool, true, false, cond, eqb, ◌⊎◌, List, [], ◌∷◌, length, sym, refl, subst, inl, inr, ⊎_elim, arith}
use Rattle.std.proofs.lemmas.Bool.{cases_eq, eqb-true, eqb-false}
use Rattle.pool.specs.Promise.{Among}

-- box numbers that rise from `least` on and stay below n
abbrev pub Rise : ℕ → ℕ → List ℕ → Type 0
Rise n least [] = Unit {0}
Rise n least (b ∷ bs) = (least ≤ b) × (b < n) × Rise n (b + 1) bs

-- the numbers above the least, with what is known of the least
record Stripped (n least : ℕ) (bs : List ℕ) : Type 0 where
  rest : List ℕ
  rise : Rise n (least + 1) rest
  more : (b : ℕ) → Among b rest → Among b bs
  size : (length bs ≡ length rest) ⊎ (Among least bs × (length bs ≡ length rest + 1))

strip : (n least : ℕ) (bs : List ℕ) → Rise n least bs → Stripped n least bs
strip n least [] r = record { rest = []; rise = tt; more = λ b i. i; size = inl refl }
strip n least (b ∷ bs) r =
    ⊎_elim
    (λ e. record { rest = bs; rise = subst (λ x. Rise n (x + 1) bs) (sym e) r.2; more = λ c i. inr i; size = inr (inl e, omega arith) })
    (λ ne. record { rest = b ∷ bs; rise = (let low = r.0 in omega arith, r.1, r.2); more = λ c i. i; size = inl refl })
    (cases_eq least b)

abbrev without : ℕ → List ℕ → List ℕ
without l [] = []
without l (x ∷ xs) = cond (eqb x l) (without l xs) (x ∷ without l xs)

stays : (b l : ℕ) (xs : List ℕ) → (b ≡ l → ⊥) → Among b xs → Among b (without l xs)
stays b l [] ne i = i
stays b l (x ∷ xs) ne i = case (eqb x l) refl (stays b l xs ne) where
  case : (t : Bool) → eqb x l ≡ t → (Among b xs → Among b (without l xs)) → Among b (cond t (without l xs) (x ∷ without l xs))
  case true e more = ⊎_elim (λ s. absurd (ne (let q = eqb-true x l e in omega arith))) more i
  case false e more = ⊎_elim (λ s. inl s) (λ j. inr (more j)) i

shorter : (l : ℕ) (xs : List ℕ) → length (without l xs) ≤ length xs
shorter l [] = omega arith
shorter l (x ∷ xs) = case (eqb x l) (shorter l xs) where
  case : (t : Bool) → length (without l xs) ≤ length xs → length (cond t (without l xs) (x ∷ without l xs)) ≤ suc (length xs)
  case true s = omega arith
  case false s = omega arith

-- a number is not there, or there is less without it
fewer : (l : ℕ) (xs : List ℕ) → (Among l xs → ⊥) ⊎ (length (without l xs) < length xs)
fewer l [] = inl (λ i. i)
fewer l (x ∷ xs) = case (eqb x l) refl (fewer l xs) where
  case :
      (t : Bool) → eqb x l ≡ t → (Among l xs → ⊥) ⊎ (length (without l xs) < length xs)
      → (Among l (x ∷ xs) → ⊥) ⊎ (length (cond t (without l xs) (x ∷ without l xs)) < suc (length xs))
  case true e rest = inr (let s = shorter l xs in omega arith)
  case false e (inl none) = inl (⊎_elim (λ s. eqb-false x l e (sym s)) none)
  case false e (inr less) = inr (omega arith)

-- a number of both, from `least` on, that is not faulty
pub record Shared (least : ℕ) (faulty xs ys : List ℕ) : Type 0 where
  pub box : ℕ
  pub low : least ≤ box
  pub first : Among box xs
  pub second : Among box ys
  pub sound : Among box faulty → ⊥

module _ (n least : ℕ) (xs ys faulty : List ℕ) (x : Stripped n least xs) (y : Stripped n least ys) where
  shared_later : Shared (least + 1) faulty x.rest y.rest → Shared least faulty xs ys
  shared_later s = record {
    box = s.box;
    low = let l = s.low in omega arith;
    first = x.more s.box s.first;
    second = y.more s.box s.second;
    sound = s.sound;
  }

  shared_without : Shared (least + 1) (without least faulty) x.rest y.rest → Shared least faulty xs ys
  shared_without s = record {
    box = s.box;
    low = let l = s.low in omega arith;
    first = x.more s.box s.first;
    second = y.more s.box s.second;
    sound = λ i. s.sound (stays s.box least faulty (λ e. let l = s.low in omega arith) i);
  }

  -- the least number is in both, or the rest is as large as it has to be
  module _
      (k : ℕ) (large : suc k + length faulty < length xs + length ys)
      (rest : (fs : List ℕ) → k + length fs < length x.rest + length y.rest → Shared (least + 1) fs x.rest y.rest)
    where
      by_fault : Among least xs → Among least ys → length xs ≡ length x.rest + 1 → length ys ≡ length y.rest + 1 → (Among least faulty → ⊥) ⊎ (length (without least faulty) < length faulty) → Shared least faulty xs ys
      by_fault i j e f (inl sound) = record { box = least; low = omega arith; first = i; second = j; sound = sound }
      by_fault i j e f (inr less) = shared_without (rest (without least faulty) (omega arith))

      by_size : (length xs ≡ length x.rest) ⊎ (Among least xs × (length xs ≡ length x.rest + 1)) → (length ys ≡ length y.rest) ⊎ (Among least ys × (length ys ≡ length y.rest + 1)) → Shared least faulty xs ys
      by_size (inl e) (inl f) = shared_later (rest faulty (omega arith))
      by_size (inl e) (inr f) = shared_later (rest faulty (let g = f.1 in omega arith))
      by_size (inr e) (inl f) = shared_later (rest faulty (let g = e.1 in omega arith))
      by_size (inr e) (inr f) = by_fault e.0 f.0 e.1 f.1 (fewer least faulty)

none_left : (n least : ℕ) (xs : List ℕ) → n ≡ 0 + least → Rise n least xs → length xs ≡ 0
none_left n least [] e r = refl
none_left n least (b ∷ bs) e r = absurd (let low = r.0 in let high = r.1 in omega arith)

share : (n k least : ℕ) (xs ys faulty : List ℕ) → n ≡ k + least → Rise n least xs → Rise n least ys → k + length faulty < length xs + length ys → Shared least faulty xs ys
share n zero least xs ys faulty e rx ry large = absurd (let a = none_left n least xs e rx in let b = none_left n least ys e ry in omega arith)
share n (suc k) least xs ys faulty e rx ry large =
    let x = strip n least xs rx in
    let y = strip n least ys ry in
    by_size n least xs ys faulty x y k large (λ fs more. share n k (least + 1) x.rest y.rest fs (omega arith) x.rise y.rise more) x.size y.size

-- quorums of q among n boxes, of which f may be faulty, where n + f < 2q
pub quorums_share :
    (n f q : ℕ) (xs ys faulty : List ℕ) → n + f < q + q → length faulty ≤ f → Rise n 0 xs → Rise n 0 ys → q ≤ length xs → q ≤ length ys
    → Shared 0 faulty xs ys
quorums_share n f q xs ys faulty enough few rx ry mx my = share n n 0 xs ys faulty (omega arith) rx ry (omega arith)

-- What `find_map` answers over a chain. Assumes nothing.
use Rattle.std.proofs.Common.{◌≡◌, ℕ, zero, suc, ◌+◌, ◌<◌, true, List, [], ◌∷◌, ◌++◌, map, length, take, Some, None, Option, refl, sym, ap, ◌∙◌, subst, arith, MatchOption}
use denote.Param.Members.{Mut}
use Rattle.std.specs.Fn.{Called}
use Rattle.std.specs.Option.{option_or, IfSome, IsSomeAnd}
use Rattle.std.specs.List.{slice_get}
use Rattle.std.specs.Iterator.Runs.{SomeRun, YieldsRun, AllItemsGive, IsFirstToGive}
use Rattle.std.proofs.lemmas.Iterator.{YieldsList}
use Rattle.std.proofs.lemmas.Iterator.Consumers.{YieldsList-so_far, YieldsList-end}

-- the first that a function gives
abbrev pub first_of : {X Y : Type 0} → (X → Option Y) → List X → Option Y
first_of h [] = None
first_of h (x ∷ xs) = option_or (h x) (first_of h xs)

pub or_assoc : {Y : Type 0} (a b c : Option Y) → option_or (option_or a b) c ≡ option_or a (option_or b c)
or_assoc None b c = refl
or_assoc (Some x) b c = refl

module _ {X Y : Type 0} (h : X → Option Y) where
  or_later : (x : X) (xs : List X) → None ≡ h x → first_of h (x ∷ xs) ≡ first_of h xs
  or_later x xs e = ap (λ o. option_or o (first_of h xs)) (sym e)

  or_now : (x : X) (xs : List X) (y : Y) → Some y ≡ h x → first_of h (x ∷ xs) ≡ Some y
  or_now x xs y e = ap (λ o. option_or o (first_of h xs)) (sym e)

  in_front : (o : Option Y) (n : ℕ) (xs : List X) (y : Y) → option_or o (first_of h (take n xs)) ≡ Some y → (first_of h (take n xs) ≡ Some y → first_of h xs ≡ Some y) → option_or o (first_of h xs) ≡ Some y
  in_front None n xs y e k = k e
  in_front (Some z) n xs y e k = e

  pub first_front : (n : ℕ) (xs : List X) (y : Y) → first_of h (take n xs) ≡ Some y → first_of h xs ≡ Some y
  first_front zero xs y e = let z : ◌≡◌ {A = Option Y} None (Some y) = e in absurd (cc)
  first_front (suc n) [] y e = e
  first_front (suc n) (x ∷ xs) y e = in_front (h x) n xs y e (first_front n xs y)

  pub first_append : (xs ys : List X) → first_of h (xs ++ ys) ≡ option_or (first_of h xs) (first_of h ys)
  first_append [] ys = refl
  first_append (x ∷ xs) ys = ap (option_or (h x)) (first_append xs ys) ∙ sym (or_assoc (h x) (first_of h xs) (first_of h ys))

module _ {A X Y : Type 0} (v : A → X) (h : X → Option Y) where
  none_given : (xs : List A) → ((k : ℕ) → IfSome (slice_get xs k) (λ x. None ≡ h (v x))) → first_of h (map v xs) ≡ None
  none_given [] all = refl
  none_given (x ∷ xs) all = or_later h (v x) (map v xs) (all 0) ∙ none_given xs (λ k. all (suc k))

  some_given : (xs : List A) (i : ℕ) (y : Y) → IsSomeAnd (slice_get xs i) (λ x. Some y ≡ h (v x)) → ((k : ℕ) → k < i → IsSomeAnd (slice_get xs k) (λ x. None ≡ h (v x))) → first_of h (map v xs) ≡ Some y
  some_given [] i y here before = absurd here
  some_given (x ∷ xs) zero y here before = or_now h (v x) (map v xs) y here
  some_given (x ∷ xs) (suc i) y here before =
      or_later h (v x) (map v xs) (before 0 (omega arith)) ∙ some_given xs i y here (λ k b. before (suc k) (omega arith))

then_if : {A : Type 0} {P Q : A → Type 0} (o : Option A) → ((x : A) → P x → Q x) → IfSome o P → IfSome o Q
then_if None k p = tt
then_if (Some x) k p = k x p

then_some : {A : Type 0} {P Q : A → Type 0} (o : Option A) → ((x : A) → P x → Q x) → IsSomeAnd o P → IsSomeAnd o Q
then_some None k p = p
then_some (Some x) k p = k x p

-- the answer of `find_map` over a chain, by a closure that changes nothing
module _ {S A X Y F : Type 0} {steps : S → Option A → S → Type 0} {v : A → X} {s : S} {all : List X} (g : Mut F (A × Unit {0}) (Option Y)) (h : X → Option Y) (f : F) (road : YieldsList steps v s all)
    (each : (x : A) (r : Option Y) (q : F) → Called g f (x, tt) r q → (q ≡ f) × (r ≡ h (v x))) where
  pub found_from_find_map : (r : Option Y)
      → SomeRun steps s (λ p. MatchOption r ((p.whole ≡ true) × AllItemsGive p g f None) (λ y. (i : ℕ) × (i < p.len) × (p.len ≡ i + 1) × IsFirstToGive p g f (Some y) None i))
      → r ≡ first_of h all
  unfolding YieldsRun
  found_from_find_map None w =
      let p = w.0 in
      let at = p.gave in
      let end = at.0.2 w.2.0 in
      let way = subst (λ z. YieldsList steps v z all) (sym w.1) road in
      let none = w.2.1 (λ a r q k. (each a.0 r q k).0) in
      let whole = (YieldsList-end way p.items at.0.0 at.0.1 None end.0 refl end.1).0 in
      sym (sym (ap (first_of h) whole) ∙ none_given v h p.items (λ k. then_if _ (λ x c. (each x None f c).1) (subst (λ o. IfSome o (λ x. Called g f (x, tt) None f)) (at.1 k) (none k))))
  found_from_find_map (Some y) w =
      let p = w.0 in
      let at = p.gave in
      let i = w.2.0 in
      let way = subst (λ z. YieldsList steps v z all) (sym w.1) road in
      let first = w.2.3 (λ a r q k. (each a.0 r q k).0) in
      let front = YieldsList-so_far way p.items at.0.0 at.0.1 in
      let here = some_given v h p.items i y
      (then_some _ (λ x c. (each x (Some y) f c).1) (subst (λ o. IsSomeAnd o (λ x. Called g f (x, tt) (Some y) f)) (at.1 i) first.0))
      (λ k b. then_some _ (λ x c. (each x None f c).1) (subst (λ o. IsSomeAnd o (λ x. Called g f (x, tt) None f)) (at.1 k) (first.1 k b))) in
      sym (first_front h (length p.items) all y (sym (ap (first_of h) front) ∙ here))

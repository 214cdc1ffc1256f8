-- Parts put one after another into an array that they fill.
use Rattle.std.proofs.Common.{◌≡◌, ℕ, ◌+◌, List, ◌++◌, length, take, sym, ap, ◌∙◌, zero-add, arith}
use Rattle.std.proofs.lemmas.List.{append_assoc, take_all}

module _ (x₁ x₂ p₁ p₂ : List ℕ) (m : ℕ) (h₁ : length p₁ ≡ m) (e₁ : take (0 + length p₁) x₁ ≡ p₁) (e₂ : take (m + length p₂) x₂ ≡ take m x₁ ++ p₂) where
  first : take m x₁ ≡ p₁
  first = rw (zero-add (length p₁), h₁) at e₁

  both : take (m + length p₂) x₂ ≡ p₁ ++ p₂
  both = e₂ ∙ ap (λ l. l ++ p₂) first

  pub laid_two : length x₂ ≡ m + length p₂ → x₂ ≡ p₁ ++ p₂
  laid_two whole = sym (take_all (m + length p₂) x₂ (omega arith)) ∙ both

  pub laid_three : (x₃ p₃ : List ℕ) (n : ℕ) → n ≡ m + length p₂ → take (n + length p₃) x₃ ≡ take n x₂ ++ p₃ → length x₃ ≡ n + length p₃ → x₃ ≡ p₁ ++ (p₂ ++ p₃)
  laid_three x₃ p₃ n h e₃ whole =
      sym (take_all (n + length p₃) x₃ (omega arith)) ∙ e₃ ∙ ap (λ k. take k x₂ ++ p₃) h ∙ ap (λ l. l ++ p₃) both ∙ append_assoc p₁ p₂ p₃

pub same_three : (a b b' d d' : List ℕ) → b ≡ b' → d ≡ d' → a ++ (b ++ d) ≡ a ++ (b' ++ d')
same_three a b b' d d' p q = cc

-- The pair: any two books, side by side.
use Rattle.std.specs.Prelude.{ℕ, Bool, cond, ◌||◌, List}
use Rattle.book.specs.Line.{kind}
use Rattle.books.specs.declared.pair.PairAnswer.{PairAnswer}
use Rattle.books.specs.declared.pair.PairAnswer.TheVariants as answers
use Rattle.books.specs.declared.pair.PairQuestion.{PairQuestion}
use Rattle.books.specs.declared.pair.PairQuestion.TheVariants.{First, Second}

-- the states of both
pub record Both (S T : Type 0) : Type 0 where
  pub first : S
  pub second : T

abbrev pub both : {S T : Type 0} → S → T → Both S T
both s t = record { first = s; second = t }

-- the kinds of both
abbrev pub pair_listed : (ℕ → Bool) → (ℕ → Bool) → ℕ → Bool
pair_listed listed listed' k = listed k || listed' k

-- a line goes to the first if that lists its kind, else to the second
abbrev pub pair_valid : {S T : Type 0} → (ℕ → Bool) → (S → ℕ → List ℕ → Bool) → (T → ℕ → List ℕ → Bool) → Both S T → ℕ → List ℕ → Bool
pair_valid listed valid valid' s account line = cond (listed (kind line)) (valid s.first account line) (valid' s.second account line)

abbrev pub pair_next : {S T : Type 0} → (ℕ → Bool) → (S → ℕ → List ℕ → S) → (T → ℕ → List ℕ → T) → Both S T → ℕ → List ℕ → Both S T
pair_next listed next next' s account line = cond (listed (kind line)) (both (next s.first account line) s.second) (both s.first (next' s.second account line))

-- the book that a question is for answers it
abbrev pub pair_answer : {S T Q R X Y : Type 0} → (S → Q → X) → (T → R → Y) → Both S T → PairQuestion Q R → PairAnswer X Y
pair_answer answer answer' s (First q) = answers.First (answer s.first q)
pair_answer answer answer' s (Second q) = answers.Second (answer' s.second q)
